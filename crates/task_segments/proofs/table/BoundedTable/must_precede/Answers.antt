use Rattle.std.proofs.Common.{arith, inl, inr}
use Rattle.std.proofs.lemmas.Bool.Decides.{nat_tests}
use Rattle.task_segments.proofs.Order.{goes_up, grouped, must_precede_of_grouped}
use Rattle.task_segments.proofs.table.BoundedTable.must_precede.Goals as goal

pub returns-else-follows : goal.returns-else-follows
returns-else-follows g c =
    let table = c.args.self.now in (
      λ f. must_precede_of_grouped table c.args.s c.args.t (inr (c.waits_for.ensures.0 f)),
      λ r.
          elim (grouped table c.args.s c.args.t r) [
            | inl x ↦ (let follows = c.follows.ensures.1 x in grind arith)
            | inr x ↦ c.waits_for.ensures.1 x
          ],
    )

pub returns-else-s-t : goal.returns-else-s-t
returns-else-s-t g c =
    let table = c.args.self.now in (
      λ f. absurd
          (grind (arith, nat_tests)),
      λ r. let smaller =
          goes_up table c.keeps_nesting.ensures.nested c.args.s c.args.t r in
          grind (arith, nat_tests),
    )
