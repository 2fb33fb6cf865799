use Rattle.std.proofs.Common.{ℕ, List, sym, subst, arith}
use Rattle.std.proofs.lemmas.Bool.{both_ways}
use Rattle.depend_table.specs.KeptEdges.{IsKeptEdge}
use Rattle.depend_table.specs.Lists.{Lists}
use Rattle.dispatch_core.specs.Run.{Run, IsOpen}
use Rattle.dispatch_core.proofs.StartAndEnd.{open_known}
use Rattle.dispatch_core.proofs.Unfinished.{costs_each}
use Rattle.dispatch_core.proofs.dispatch.BoundedCore.preds_of.Goals as goal

pub returns-then-segment-len : goal.returns-then-segment-len
returns-then-segment-len g c h =
    let P : Run → Type 0 = λ run. IsOpen run.table run.history c.args.segment in
    let known = open_known c.self.inside.table c.self.inside.history.items c.args.segment
    c.self.invariant.sound_table (subst P (sym c.self.view_is) h) in
    absurd (omega (arith, known, c.len.ensures))

pub returns-then-not-is_open : goal.returns-then-not-is_open
returns-then-not-is_open g c h =
    absurd (both_ways c.is_open.result c.if-not-is_open.true (c.is_open.ensures.1 h))

pub preds-requires : goal.preds-requires
preds-requires g c =
    let each = costs_each c.self.inside.table c.self.inside.graph c.self.invariant.waits.of_table in
    omega (arith, c.len.ensures, each)

pub returns : goal.returns
returns g c =
    let Q : Run → Type 0 = λ run.
    Lists (λ p. IsKeptEdge run.table p c.args.segment) c.preds.result.now in
    let OpenHere : Run → Type 0 = λ run. IsOpen run.table run.history c.args.segment in
    let table = c.self.inside.table in
    let sound = c.self.invariant in
    let is_open = c.is_open.ensures.0 c.if-not-is_open.false in
    let known = open_known table c.self.inside.history.items c.args.segment sound.sound_table
    (subst OpenHere (sym c.self.view_is) is_open) in
    let lists = subst (λ (l : List ℕ). Lists (λ p. IsKeptEdge table p c.args.segment) l)
    (sym c.preds.ensures) (sound.waits.of_table.predecessors c.args.segment known) in
    (is_open, subst Q c.self.view_is lists)
