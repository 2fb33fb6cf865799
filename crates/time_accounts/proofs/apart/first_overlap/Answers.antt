use Rattle.std.proofs.Common.{◌≡◌, ℕ, List, ap, sym, arith}
use Rattle.task_segments.specs.Schedule.{at}
use Rattle.time_accounts.specs.Checks.{IsOn, segment_at}
use Rattle.time_accounts.proofs.Taking.{taken_by, taken_still, all_apart, first_overlap_at}
use Rattle.time_accounts.proofs.apart.first_overlap.Goals.{then-begin-end+else-taken-thread}
use Rattle.time_accounts.proofs.apart.first_overlap.Goals.{else-begin-end}
use Rattle.time_accounts.proofs.apart.first_overlap.Goals as goal

pub returns-then-taken-thread-clause-some : goal.returns-then-taken-thread-clause-some
returns-then-taken-thread-clause-some c =
    let run = c.args.times.now in
    let order = c.args.order.now in
    let n = c.loop-entry.entry-index in
    let s = segment_at order n in
    let k = at c.threads-on.result.now s in
    let entry = c.requires.order.of_one n (0, 0) c.loop-entry-test.true in
    let thread : at run.threads s ≡ k = sym (ap (λ (xs : List ℕ). at xs s) c.threads-on.ensures) in
    let end : at c.ends-ends.result.now s ≡ at run.ends s =
    ap (λ (xs : List ℕ). at xs s) c.ends-ends.ensures in
    let on : IsOn run order n k = record {
      on = thread;
      some = omega (arith, entry.1, end, c.if-begin-end.true);
    } in
    first_overlap_at run order n k c.loop-entry.taken c.requires.order c.loop-entry.invariant
    c.loop-entry-test.true on (omega (arith, entry.1, c.if-taken-thread.true))

pub loop-entry-preserved : goal.loop-entry-preserved
loop-entry-preserved c =
    let run = c.args.times.now in
    let order = c.args.order.now in
    let n = c.loop-entry.entry-index in
    let s = segment_at order n in
    let k = at c.threads-on.result.now s in
    let entry = c.requires.order.of_one n (0, 0) c.loop-entry-test.true in
    let thread : at run.threads s ≡ k = sym (ap (λ (xs : List ℕ). at xs s) c.threads-on.ensures) in
    let end : at c.ends-ends.result.now s ≡ at run.ends s =
    ap (λ (xs : List ℕ). at xs s) c.ends-ends.ensures in
    elim c.if-begin-end.branch [
      | then-begin-end+else-taken-thread w ↦
          let on : IsOn run order n k = record {
            on = thread;
            some = omega (arith, entry.1, end, w.if-begin-end.true);
          } in
          rw w.taken-is (taken_by run order n k (at c.ends-ends.result.now s) c.loop-entry.taken
          c.loop-entry.invariant on
          (omega (arith, thread, c.requires.on_thread s entry.0, c.loop-entry.auto.taken))
          (omega (arith, entry.1, w.if-taken-thread.false)) end)
      | else-begin-end w ↦
          rw w.taken-is (taken_still run order n c.loop-entry.taken c.loop-entry.invariant
          (omega (arith, entry.1, end, w.if-begin-end.false)))
    ]

pub returns-clause-none : goal.returns-clause-none
returns-clause-none c =
    all_apart c.args.times.now c.args.order.now c.loop-entry.entry-index c.loop-entry.taken
    c.requires.order c.loop-entry.invariant c.loop-entry-test.false
