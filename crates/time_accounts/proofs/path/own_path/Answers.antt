use Rattle.std.proofs.Common.{ℕ, List, length, ap, arith}
use Rattle.std.proofs.lemmas.List.{reverse-append}
use Rattle.task_segments.specs.Schedule.{at}
use Rattle.dispatch_core.specs.RecordedGraph.{Precedes}
use Rattle.time_accounts.proofs.PathSteps.{one_before, whole_path}
use Rattle.time_accounts.proofs.path.own_path.Goals as goal

pub loop-before-smaller : goal.loop-before-smaller
loop-before-smaller c =
    c.is_graph.ensures.smaller c.in-Some.before c.loop-before.member c.in-Some.ensures.before

pub loop-before-preserved : goal.loop-before-preserved
loop-before-preserved c =
    let n = length c.args.graph.now.costs in
    let less = c.is_graph.ensures.smaller c.in-Some.before c.loop-before.member
    c.in-Some.ensures.before in
    let more = one_before n (Precedes c.args.graph.now) c.args.times.now c.last_to_end-last.result
    c.loop-before.member c.in-Some.before _ c.loop-before.invariant c.in-Some.ensures
    (omega (arith, less, c.loop-before.invariant.inside)) in
    rw (c.in_ok-push-2.ensures.items, reverse-append) more

pub returns : goal.returns
returns c =
    let last = c.last_to_end-last.result in
    rw c.reverse.ensures.items (whole_path (length c.args.graph.now.costs)
    (Precedes c.args.graph.now) c.args.times.now last c.loop-before.member _
    c.loop-before.invariant c.in_default.ensures
    (λ s h. omega (
      arith,
      ap (λ (xs : List ℕ). at xs s) c.ends.ensures,
      ap (λ (xs : List ℕ). at xs last) c.ends.ensures,
      c.last_to_end-last.ensures.latest s
          (omega (arith, h, c.requires, ap length c.ends.ensures)),
    ))
    (λ s h same. c.last_to_end-last.ensures.smallest s
    (omega (arith, h, c.requires, ap length c.ends.ensures))
    (omega (
      arith,
      same,
      ap (λ (xs : List ℕ). at xs s) c.ends.ensures,
      ap (λ (xs : List ℕ). at xs last) c.ends.ensures,
    ))))
