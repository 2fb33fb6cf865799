use Rattle.std.proofs.Common.{arith, rules, ◌≡◌, ℕ, sym, ap, subst, refl}
use Rattle.std.proofs.lemmas.Option.{same_Some}
use Rattle.std.proofs.lemmas.Bool.Decides.{nat_tests}
use Rattle.task_segments.specs.Precedence.{IsBranch}
use Rattle.task_segments.specs.Table.{task, segment}
use Rattle.task_segments.proofs.Order.{group_parts, group_whole}
use Rattle.task_segments.proofs.table.BoundedTable.group_waits.Goals as goal
use Rattle.task_segments.proofs.table.BoundedTable.group_waits.Goals.{
  then-not-opens_after_group-via-then-not-opens_after_group,
}
use Rattle.task_segments.proofs.table.BoundedTable.group_waits.Goals.{
  then-not-opens_after_group-via-else-not-opens_after_group+then-not-ends_task,
}

pub returns-then-not-opens_after_group : goal.returns-then-not-opens_after_group
returns-then-not-opens_after_group g c =
    let table = c.args.self.now in (
      λ f. absurd (grind arith),
      λ r.
          let parts = group_parts table c.keeps_nesting.ensures.nested c.args.s c.args.t r in
          elim c.then-not-opens_after_group.branch [
            | then-not-opens_after_group-via-then-not-opens_after_group w ↦
                (let opens_after = c.opens_after_group.ensures.1 parts.opens in grind arith)
            | then-not-opens_after_group-via-else-not-opens_after_group+then-not-ends_task w ↦
                (let ends = w.ends_task.ensures.1 parts.ends in grind arith)
          ],
    )

pub is_earlier_child-requires : goal.is_earlier_child-requires
is_earlier_child-requires g c =
    (search rules, (((c.in-Some.ensures c.in-Some.child).0 refl).is_child, search rules))

pub returns-then-is_earlier_child : goal.returns-then-is_earlier_child
returns-then-is_earlier_child g c =
    let table = c.args.self.now in
    let from = c.args.s in
    let to = c.args.t in
    let task_of_from : c.task_of.result ≡ (segment table from).task = c.task_of.ensures in
    let task_of_to : c.task_of-2.result ≡ (segment table to).task = c.task_of-2.ensures in (
      λ f. group_whole table c.keeps_nesting.ensures.nested from to c.requires.from (
          let P : ℕ → Type 0 = λ u. IsBranch table u c.task_of-2.result c.in-Some.child in
          let Q : ℕ → Type 0 = λ u. IsBranch table (segment table from).task u c.in-Some.child in
          record {
            opens = grind arith;
            ends = grind arith;
            child = c.in-Some.child;
            branch =
                subst Q task_of_to
                (subst P task_of_from ((c.in-Some.ensures c.in-Some.child).0 refl));
            created = grind arith;
            inside = grind (arith, nat_tests);
          }),
      λ r.
          let parts = group_parts table c.keeps_nesting.ensures.nested from to r in
          let P : ℕ → Type 0 = λ u. IsBranch table u c.task_of-2.result parts.child in
          let Q : ℕ → Type 0 = λ u. IsBranch table (segment table from).task u parts.child in
          let same : c.in-Some.child ≡ parts.child = same_Some _ _ ((c.in-Some.ensures
          parts.child).1
          (subst P (sym task_of_from) (subst Q (sym task_of_to) parts.branch))) in
          let same_siblings : (task table c.in-Some.child).siblings_before
          ≡ (task table parts.child).siblings_before =
          ap (λ (u : ℕ). (task table u).siblings_before) same in
          let is_inside = parts.inside in
          grind (arith, nat_tests),
    )
