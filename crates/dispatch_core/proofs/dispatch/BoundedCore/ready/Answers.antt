use Rattle.std.proofs.Common.{ℕ, ◌+◌, List, sym, subst, ap, arith, length}
use Rattle.depend_table.specs.Lists.{Lists}
use Rattle.dispatch_core.specs.Run.{Run, IsReady}
use Rattle.open_segments.proofs.ListLemmas.{Lists-step, Below, Lists-all}
use Rattle.dispatch_core.proofs.dispatch.BoundedCore.ready.Goals as goal

pub loop-segment-preserved : goal.loop-segment-preserved
loop-segment-preserved g c =
    let P : List ℕ → Type 0 = λ list. Lists
    (Below (IsReady c.args.self.now.table c.args.self.now.history) (c.loop-segment.segment + 1))
    list in
    subst P (sym c.in_ok-push_if.ensures.kept) (Lists-step
    (IsReady c.args.self.now.table c.args.self.now.history) c.loop-segment.segment
    c.loop-segment.ready.items c.is_ready.result c.is_ready.ensures c.loop-segment.invariant)

pub returns : goal.returns
returns g c =
    let same = ap (λ (run : Run). length run.table.segments) c.self.view_is in
    Lists-all (IsReady c.args.self.now.table c.args.self.now.history) c.loop-segment.segment
    c.loop-segment.ready.items (λ n h. omega (arith, h.known, same, c.len-segment-end.ensures))
    c.loop-segment.invariant
