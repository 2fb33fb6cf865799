use Rattle.std.proofs.Common.{ℕ, ◌≡◌, length, arith, subst}
use Rattle.open_segments.specs.Members.{AreMembersBelow}
use Rattle.open_segments.specs.NumberLists.{lists_of}
use Rattle.open_segments.proofs.Members.{no_members}
use Rattle.open_segments.proofs.waiting_groups.group_members.Goals as goal

pub loop-segment-init : goal.loop-segment-init
loop-segment-init g c =
    no_members c.args.table.now c.in_ok-groups.groups.items (lists_of c.in_ok-lists.lists.items)
    c.len.result (omega (arith, c.len.ensures, c.in_ok-groups.groups.ok.0)) c.in_ok-groups.ensures
    c.in_ok-lists.ensures

pub returns : goal.returns
returns g c =
    let all : c.loop-segment.segment ≡ length c.args.table.now.segments =
    omega (
      arith,
      c.loop-segment-test.false,
      c.loop-segment.auto.segment-end,
      c.len-segment-end.ensures,
    ) in
    subst
    (λ (n : ℕ). AreMembersBelow c.args.table.now n c.in_ok-groups.groups.items
    (lists_of c.loop-segment.lists.items)) all
    c.loop-segment.invariant
