use Rattle.std.proofs.Common.{rules}
use Rattle.std.proofs.Common.{ℕ, ◌≡◌, sym, subst, ap, ◌∙◌}
use Rattle.task_segments.specs.Table.{Table, segment}
use Rattle.dispatch_core.specs.Run.{Run, Runs}
use Rattle.dispatch_core.specs.Values.{IsInput}
use Rattle.dispatch_core.specs.Refusals.{IsCost}
use Rattle.dispatch_core.proofs.Uniqueness.{one_input}
use Rattle.dispatch_core.proofs.FinishStep.{runs_after, runs_cost, runs_known, runs_stored}
use Rattle.dispatch_core.proofs.dispatch.BoundedCore.may_finish.Goals as goal

pub cost-requires : goal.cost-requires
cost-requires g c = (
  search rules,
  (
      runs_stored _ c.args.self.now c.args.worker c.segment-segment.result c.self.view_is
      c.self.invariant.legal
      (c.runs.ensures.0 c.if-not-runs.false)
      ),
)

pub returns-then-cost : goal.returns-then-cost
returns-then-cost g c =
    let finished : ℕ = c.args.outcome.now.segment in
    let RunsHere : ℕ → Type 0 = Runs c.args.self.now.history c.args.worker in
    let CostHere : Run → Type 0 = λ run. IsCost run.table finished c.args.outcome.now.cost in (
      subst RunsHere c.segment-segment.ensures (c.runs.ensures.0 c.if-not-runs.false),
      λ is.
          let cost : IsCost c.self.inside.table finished c.args.outcome.now.cost =
          subst CostHere (sym c.self.view_is) is in
          c.if-cost.true (c.cost.ensures
          ∙ ap (λ (t : ℕ). (segment c.self.inside.table t).cost) c.segment-segment.ensures
          ∙ sym cost.costs ∙ sym c.cost-2.ensures),
    )

pub input_of-requires-after_bounds : goal.input_of-requires-after_bounds
input_of-requires-after_bounds g c = λ κs lives.
    let runs = c.runs.ensures.0 c.if-not-runs.false in (
      search rules,
      (
        runs_known _ c.args.self.now c.args.worker c.segment-segment.result c.self.view_is c.self.invariant.legal runs,
        runs_after _ c.args.self.now c.args.worker c.segment-segment.result c.self.view_is c.self.invariant.legal runs,
      ),
    )

pub returns-then-input_of-input : goal.returns-then-input_of-input
returns-then-input_of-input g c =
    let finished : ℕ = c.args.outcome.now.segment in
    let table : Table = c.args.self.now.table in
    let RunsHere : ℕ → Type 0 = Runs c.args.self.now.history c.args.worker in
    let CostHere : ℕ → Type 0 = λ t. IsCost table t c.args.outcome.now.cost in
    let InputHere : ℕ → Type 0 = λ t. IsInput table g.K.Kernel.value_of t c.input_of.result in
    let runs = c.runs.ensures.0 c.if-not-runs.false in
    let cost =
    runs_cost _ c.args.self.now c.args.worker c.segment-segment.result c.args.outcome.now.cost
    c.self.view_is c.self.invariant.legal runs
    (sym c.cost-2.ensures ∙ sym c.if-cost.false ∙ c.cost.ensures) in
    let input = subst InputHere c.segment-segment.ensures c.input_of.ensures in (
      subst RunsHere c.segment-segment.ensures runs,
      subst CostHere c.segment-segment.ensures cost,
      λ is. c.if-input_of-input.true
          (one_input table g.K.Kernel.value_of finished c.input_of.result c.args.outcome.now.input
          input is ∙ sym c.input.ensures),
    )

pub returns : goal.returns
returns g c =
    let table : Table = c.args.self.now.table in
    let RunsHere : ℕ → Type 0 = Runs c.args.self.now.history c.args.worker in
    let CostHere : ℕ → Type 0 = λ t. IsCost table t c.args.outcome.now.cost in
    let InputHere : ℕ → Type 0 = λ t. IsInput table g.K.Kernel.value_of t c.input_of.result in
    let runs = c.runs.ensures.0 c.if-not-runs.false in
    let same : c.input_of.result ≡ c.args.outcome.now.input =
    c.if-input_of-input.false ∙ c.input.ensures in
    record {
      runs = subst RunsHere c.segment-segment.ensures runs;
      cost = subst CostHere c.segment-segment.ensures
          (runs_cost _ c.args.self.now c.args.worker c.segment-segment.result
          c.args.outcome.now.cost c.self.view_is
          c.self.invariant.legal runs
          (sym c.cost-2.ensures ∙ sym c.if-cost.false ∙ c.cost.ensures));
      input = subst (IsInput table g.K.Kernel.value_of c.args.outcome.now.segment) same
          (subst InputHere c.segment-segment.ensures c.input_of.ensures);
    }
