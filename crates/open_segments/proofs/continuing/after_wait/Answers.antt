use Rattle.std.proofs.Common.{rules}
use Rattle.std.proofs.Common.{ℕ, ◌<◌, ◌≡◌, ◌++◌, ◌∷◌, [], List, Vec, Global, sym, ap, ◌∙◌, subst}
use Rattle.std.proofs.Common.{arith}
use Rattle.std.specs.Option.{is_some}
use Rattle.task_segments.specs.Table.{Table, segment, task}
use Rattle.task_segments.specs.Precedence.{Continues}
use Rattle.open_segments.proofs.Edges.{waits_not_creates}
use Rattle.open_segments.proofs.Since.{wait_no_group}
use Rattle.open_segments.proofs.Joining.{IsWalked, goes_on, joins_then_before, none_joins}
use Rattle.open_segments.proofs.Joining.{walk_child, walk_past}
use Rattle.open_segments.proofs.continuing.after_wait.Goals as goal
use Rattle.open_segments.proofs.continuing.after_wait.Goals.{in-Creates+in_ok-push, in_default}

pub loop-segment-init : goal.loop-segment-init
loop-segment-init g c =
    let table : Table = c.args.table.now in
    let from : ℕ = c.wait_begin-segment.result in
    subst (λ (l : List ℕ). IsWalked table c.args.before c.args.next from l)
    (sym c.new-preds.ensures.items)
    (record {
      of_task = c.wait_begin-segment.ensures.of_task;
      up_to = c.wait_begin-segment.ensures.up_to;
      waited = c.wait_begin-segment.ensures.waited;
      lists = none_joins table from c.args.next c.wait_begin-segment.ensures.reached
          (λ p group. absurd (wait_no_group table c.args.before c.args.next p
          c.reads_in_place.ensures c.requires.follows c.requires.waits group));
    })

pub last-requires : goal.last-requires
last-requires g c = (
  search rules,
  (
      (c.reads_in_place.ensures.creates c.loop-segment.segment c.in-Creates.child
      c.loop-segment.invariant.of_task.is_segment (sym c.closing.ensures ∙ c.in-Creates.is)).0
      ),
)

pub unwrap-segment-requires : goal.unwrap-segment-requires
unwrap-segment-requires g c =
    let on = goes_on c.args.table.now c.args.before c.loop-segment.segment c.reads_in_place.ensures
    c.requires.follows.is_from c.loop-segment.invariant.of_task
    (omega (arith, c.loop-segment-test.true)) in
    ap (λ o. is_some o) ((c.next.ensures on.0).1 on.1)

pub loop-segment-smaller : goal.loop-segment-smaller
loop-segment-smaller g c =
    let on = (c.next.ensures c.unwrap-segment.result).0 c.unwrap-segment.ensures in
    let further = c.reads_in_place.ensures.follows_later c.loop-segment.segment
    c.unwrap-segment.result on in
    omega (arith, further, c.loop-segment-test.true)

pub loop-segment-preserved : goal.loop-segment-preserved
loop-segment-preserved g c =
    let table : Table = c.args.table.now in
    let on : Continues table c.loop-segment.segment c.unwrap-segment.result =
    (c.next.ensures c.unwrap-segment.result).0 c.unwrap-segment.ensures in
    let less : c.loop-segment.segment < c.args.before = omega (arith, c.loop-segment-test.true) in
    elim c.match-closing.branch [
      | in-Creates+in_ok-push w ↦
          let items : c.match-closing.preds.items
          ≡ c.loop-segment.preds.items ++ (task table w.in-Creates.child).last ∷ [] =
          ap (λ v. v.items) w.preds-is
          ∙ w.in_ok-push.ensures.items
          ∙ ap (λ (n : ℕ). c.loop-segment.preds.items ++ n ∷ []) w.last.ensures in
          walk_child table c.args.before c.args.next c.loop-segment.segment c.unwrap-segment.result
          w.in-Creates.child c.loop-segment.preds.items c.match-closing.preds.items
          c.reads_in_place.ensures c.requires.follows c.requires.waits on less
          (sym c.closing.ensures ∙ w.in-Creates.is) c.loop-segment.invariant items
      | in_default w ↦
          subst (λ (v : Vec ℕ Global). IsWalked table c.args.before c.args.next
          c.unwrap-segment.result v.items) (sym w.preds-is)
          (walk_past table c.args.before c.args.next c.loop-segment.segment c.unwrap-segment.result
          c.loop-segment.preds.items c.reads_in_place.ensures c.requires.follows c.requires.waits on
          less
          (λ child creates. w.in_default.not-Creates child (c.closing.ensures ∙ creates))
          c.loop-segment.invariant)
    ]

pub returns : goal.returns
returns g c =
    let table : Table = c.args.table.now in
    joins_then_before table c.args.before c.args.next c.loop-segment.segment
    c.loop-segment.preds.items
    c.push-2.new.self.items c.reads_in_place.ensures c.requires.follows
    (λ child creates.
    waits_not_creates (segment table c.args.before).closing child c.requires.waits creates)
    (omega (arith, c.loop-segment-test.false)) c.loop-segment.invariant.lists
    c.in_ok-push-2.ensures.items
