use Rattle.std.proofs.Common.{ℕ, List, arith, rules, subst, sym}
use Rattle.relaxations.proofs.Pairs.{one_row_more}
use Rattle.relaxations.specs.PairLists.{EachIsPair, IsRow}
use Rattle.relaxations.proofs.judging.added_pair.Goals as goal

pub no_pair-requires : goal.no_pair-requires
no_pair-requires g c = (
  search rules,
  (
    omega (arith, c.loop-t-test.true, c.len-t-end.ensures),
    subst (λ (l : List ℕ). IsRow l c.loop-t.t) (sym c.list.ensures)
        (c.requires.rows c.loop-t.t),
  ),
)

pub loop-t-preserved : goal.loop-t-preserved
loop-t-preserved g c =
    one_row_more c.args.table.now c.args.lists.now c.loop-t.t c.loop-t.invariant
    (subst (λ (l : List ℕ). EachIsPair c.args.table.now l c.loop-t.t) c.list.ensures
    c.in_default.ensures)
