use Rattle.std.proofs.Common.{arith, ◌≡◌, ◌≢◌, ℕ, ap, subst, Some, None}
use Rattle.std.proofs.lemmas.Option.{same_Some}
use Rattle.task_segments.specs.Precedence.{IsBranch}
use Rattle.task_segments.specs.Precedence.Descends.{Itself}
use Rattle.task_segments.specs.Table.{task}
use Rattle.task_segments.proofs.Order.{one_branch, branch_through, no_branch, descends_further}
use Rattle.task_segments.proofs.Order.{parent_lower}
use Rattle.task_segments.proofs.table.BoundedTable.child_towards.Goals as goal

pub loop-parent-init : goal.loop-parent-init
loop-parent-init
    g c = record { is_task = c.requires; descends = Itself c.args.d; branch = λ v b. b.descends }

pub returns-then-parent-ancestor : goal.returns-then-parent-ancestor
returns-then-parent-ancestor g c = λ v.
    let table = c.args.self.now in
    let invariant = c.loop-parent.invariant in
    let parent_is : (task table c.loop-parent.child).parent ≡ Some c.args.ancestor =
    grind arith in (
      λ s. let child_is : c.loop-parent.child ≡ v = same_Some _ _ s in
          let P : ℕ → Type 0 = λ v. IsBranch table c.args.d c.args.ancestor v in
          subst P child_is
          (record {
            is_child = invariant.is_task;
            parent = parent_is;
            descends =
                invariant.descends;
          }),
      λ b. ap Some (one_branch table c.keeps_nesting.ensures.nested c.loop-parent.child
          c.args.ancestor v parent_is b.is_child b.parent (invariant.branch v b)),
    )

pub loop-parent-smaller : goal.loop-parent-smaller
loop-parent-smaller g c =
    let parent_is : (task c.args.self.now c.loop-parent.child).parent ≡ Some c.in-Some.parent =
    grind arith in
    parent_lower c.args.self.now c.keeps_nesting.ensures.nested c.loop-parent.child c.in-Some.parent
    c.loop-parent.invariant.is_task parent_is

pub loop-parent-preserved : goal.loop-parent-preserved
loop-parent-preserved g c =
    let table = c.args.self.now in
    let invariant = c.loop-parent.invariant in
    let parent_is : (task table c.loop-parent.child).parent ≡ Some c.in-Some.parent = grind arith in
    let lower =
    parent_lower table c.keeps_nesting.ensures.nested c.loop-parent.child c.in-Some.parent
    invariant.is_task parent_is in
    let not_reached : c.in-Some.parent ≢ c.args.ancestor = grind arith in
    record {
      is_task = omega (arith, invariant.is_task);
      descends =
          descends_further table c.args.d c.loop-parent.child c.in-Some.parent invariant.descends
          invariant.is_task parent_is;
      branch = λ v b. branch_through table c.loop-parent.child c.args.ancestor v c.in-Some.parent
          parent_is
          not_reached b.parent (invariant.branch v b);
    }

pub returns : goal.returns
returns g c = λ v.
    let table = c.args.self.now in
    let no_parent : (task table c.loop-parent.child).parent ≡ None = grind arith in (
      λ s. absurd cc,
      λ b. absurd (no_branch table c.loop-parent.child c.args.ancestor v no_parent b.parent
          (c.loop-parent.invariant.branch v b)),
    )
