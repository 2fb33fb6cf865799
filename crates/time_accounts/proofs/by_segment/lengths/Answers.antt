use Rattle.std.proofs.Common.{arith, ap, sym, ◌∙◌, ◌++◌, ◌∷◌, ◌-◌, [], List, ℕ, take}
use Rattle.std.proofs.lemmas.List.{take_all, take_more}
use Rattle.task_segments.specs.Schedule.{at}
use Rattle.time_accounts.specs.TimedRun.{differences}
use Rattle.time_accounts.proofs.Within.{length-differences, one_length}
use Rattle.time_accounts.proofs.by_segment.lengths.Goals as goal

pub loop-segment-preserved : goal.loop-segment-preserved
loop-segment-preserved c =
    let s = c.loop-segment.segment in
    let all = differences c.args.ends.now c.args.begins.now in
    let one = one_length c.args.begins.now c.args.ends.now s c.requires.each c.loop-segment-test.true in
    let v = at c.args.ends.now s - at c.args.begins.now s in
    c.in_ok-push.ensures.items
    ∙ ap (λ (l : List ℕ). l ++ v ∷ []) c.loop-segment.invariant
    ∙ ap (λ (x : ℕ). take s all ++ x ∷ []) (sym one.1)
    ∙ sym (take_more all s 0 one.0)

pub returns : goal.returns
returns c =
    let all = differences c.args.ends.now c.args.begins.now in
    let long = length-differences c.args.ends.now c.args.begins.now
    (omega (arith, c.requires.each)) in
    c.loop-segment.invariant
    ∙ take_all c.loop-segment.segment all
    (omega (arith, long, c.requires.each, c.loop-segment-test.false))
