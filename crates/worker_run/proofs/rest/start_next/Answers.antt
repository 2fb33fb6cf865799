use Rattle.std.proofs.Common.{ℕ, List, subst, arith}
use Rattle.task_segments.specs.Table.{Table}
use Rattle.dispatch_core.specs.declared.event.Event.{Event}
use Rattle.dispatch_core.specs.declared.event.Event.TheVariants.{Start}
use Rattle.dispatch_core.specs.Run.{Runs, IsFinished, IsReady}
use Rattle.worker_run.proofs.Counting.{start_leaves}
use Rattle.worker_run.proofs.Runs.{start_not_refused, below_push, nothing_runs, first_there}
use Rattle.worker_run.proofs.Runs.{none_first}
use Rattle.worker_run.proofs.rest.start_next.Goals as goal

-- where nothing runs and the run is not finished, some segment is ready
pub unreachable-requires : goal.unreachable-requires
unreachable-requires g c =
    let history = c.args.core.now.history in
    let Stuck : Table → Type 0 = λ table. (h : List Event) → ¬ IsFinished table h
    → ((worker s : ℕ) → ¬ Runs h worker s) → (s : ℕ) × IsReady table h s in
    let some = subst Stuck c.table.ensures c.never_stuck.ensures history c.requires.open
    (nothing_runs history c.requires.rest.below c.requires.rest.idle) in
    let ready = c.in_ok-ready.ensures in
    none_first c.deref.result.now c.in_ok-ready.ready.items some.0 c.in_default.ensures.value
    c.deref.ensures.value ((ready.each some.0).1 some.1)

pub unreachable-requires-in_default-start : goal.unreachable-requires-in_default-start
unreachable-requires-in_default-start g c =
    let table = c.args.core.now.table in
    let history = c.args.core.now.history in
    let first = c.in-Some.first.now in
    let ready = c.in_ok-ready.ensures in
    let is_ready = (ready.each first).0
    (first_there c.deref.result.now c.in_ok-ready.ready.items first c.in-Some.ensures.value
    c.deref.ensures.value) in
    let refused = c.in_default-start.ensures.started in
    start_not_refused table history 0 first refused.1.0
    (record {
      known = omega arith;
      idle = c.requires.rest.idle;
      ready = is_ready;
    }) refused.1.1

pub returns-clause-left : goal.returns-clause-left
returns-clause-left g c =
    rw c.in-Some-start.ensures.started.2 (start_leaves c.args.core.now.table c.args.core.now.history
    0 c.in-Some.first.now)

pub returns-clause-below : goal.returns-clause-below
returns-clause-below g c =
    rw c.in-Some-start.ensures.started.2
    (below_push 1 c.args.core.now.history (Start 0 c.in-Some.first.now)
    c.requires.rest.below (omega arith))
