use Rattle.std.proofs.Common.{ℕ, ◌+◌, ◌≡◌, List, length, sym, subst, arith}
use Rattle.task_segments.specs.InPlace.{EndsBefore}
use Rattle.depend_table.specs.Lists.{Lists}
use Rattle.open_segments.proofs.ListLemmas.{Below, Lists-step}
use Rattle.open_segments.proofs.Members.{all_after_groups, ends_one, none_at_first}
use Rattle.open_segments.proofs.waiting_groups.segments_after_groups.Goals as goal

pub loop-before-init : goal.loop-before-init
loop-before-init g c =
    subst (λ (l : List ℕ). Lists (Below (EndsBefore c.args.table.now) 1) l)
    (sym c.new-groups.ensures.items) (none_at_first c.args.table.now c.reads_in_place.ensures)

pub loop-before-preserved : goal.loop-before-preserved
loop-before-preserved g c =
    let table = c.args.table.now in
    let before : ℕ = c.loop-before.before in
    subst (λ (l : List ℕ). Lists (Below (EndsBefore table) (before + 1 + 1)) l)
    (sym c.in_ok-push_if.ensures.kept)
    (Lists-step (EndsBefore table) (before + 1) c.loop-before.groups.items c.ends_group.result
    (ends_one table before c.ends_group.result c.reads_in_place.ensures
    (omega (arith, c.loop-before-test.true, c.len-before-end.ensures)) c.ends_group.ensures)
    c.loop-before.invariant)

pub returns : goal.returns
returns g c =
    let all : c.loop-before.before ≡ length c.args.table.now.segments =
    omega (
      arith,
      c.loop-before-test.false,
      c.loop-before.auto.before-end,
      c.len-before-end.ensures,
    ) in
    all_after_groups c.args.table.now c.loop-before.before c.loop-before.groups.items
    c.reads_in_place.ensures all c.loop-before.invariant
