use Rattle.std.proofs.Common.{◌≡◌, ℕ, ap, arith, max, rules, sum_by, ◌∙◌}
use Rattle.task_segments.specs.Schedule.{at}
use Rattle.time_accounts.specs.Checks.{segment_at}
use Rattle.time_accounts.specs.Shares.{moments}
use Rattle.time_accounts.specs.Sweep.{idle_at}
use Rattle.time_accounts.proofs.Longest.{counted_all, counted_more, counted_none, counted_still}
use Rattle.time_accounts.proofs.by_segment.count_idle.Goals.{then-from-to, else-from-to}
use Rattle.time_accounts.proofs.by_segment.count_idle.Goals as goal

pub loop-entry-init : goal.loop-entry-init
loop-entry-init c =
    counted_none c.args.froms.now c.args.tos.now _ c.args.order.now c.args.first
    c.in_ok-counts.counts.items c.requires.order (search rules)

pub loop-entry-preserved : goal.loop-entry-preserved
loop-entry-preserved c =
    let froms = c.args.froms.now in
    let tos = c.args.tos.now in
    let order = c.args.order.now in
    let n = c.loop-entry.entry-index in
    let until = c.loop-entry.until in
    let counts = c.loop-entry.counts.items in
    let told : ℕ → ℕ = idle_at c.args.beside c.args.changes.now.readies.items c.args.changes.now.begins.items
    c.args.changes.now.ends.items c.args.threads in
    let entry = c.requires.order.of_one n (0, 0) c.loop-entry-test.true in
    let from : c.max-from.result ≡ max (at froms (segment_at order n)) until =
    c.max-from.ensures ∙ ap (λ (x : ℕ). max x until) entry.1 in
    elim c.if-from-to.branch [
      | then-from-to w ↦
          rw w.counts-is (rw w.until-is (counted_more froms tos told order n c.args.first until counts
          c.requires.order c.requires.each c.loop-entry-test.true c.loop-entry.invariant
          w.idle_within.result (omega (arith, from, w.if-from-to.true))
          (w.idle_within.ensures
          ∙ ap (λ (x : ℕ). sum_by told (moments x (at tos (segment_at order n)))) from)))
      | else-from-to w ↦
          rw w.counts-is (rw w.until-is (counted_still froms tos told order n c.args.first until counts
          c.requires.order c.requires.each c.loop-entry-test.true c.loop-entry.invariant
          (omega (arith, from, w.if-from-to.false))))
    ]

pub returns : goal.returns
returns c =
    counted_all c.args.froms.now c.args.tos.now _ c.args.order.now c.loop-entry.entry-index
    c.args.first c.loop-entry.until c.loop-entry.counts.items c.requires.order c.loop-entry-test.false
    c.loop-entry.invariant
