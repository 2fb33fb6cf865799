-- What a core's lists say of its history.
use Rattle.std.proofs.Common.{ℕ, ◌<◌, ◌≡◌, ◌%◌, ◌^◌, ◌↔◌, List, Option, Some, None, refl, sym, ◌∙◌}
use Rattle.std.proofs.Common.{subst, length, sum_by}
use Rattle.std.specs.Prelude.{MatchOption, unwrap_or, is_some, IsTrue}
use Rattle.std.proofs.lemmas.Option.{none-some}
use Rattle.task_segments.specs.Table.{Table}
use Rattle.task_segments.specs.Precedence.{MustPrecede}
use Rattle.dispatch_core.specs.declared.event.Event.{Event}
use Rattle.dispatch_core.specs.Run.{HasFinished, Runs}
use Rattle.dispatch_core.specs.Values.{IsValue, IsInput}
use Rattle.open_segments.specs.Facts.{IsSoundTable}
use Rattle.open_segments.specs.Entry.{entry}
use Rattle.dispatch_core.specs.Sound.{AreRunning, AreValues}
use Rattle.dispatch_core.specs.Graph.{IsGraphOf}
use Rattle.dispatch_core.specs.RecordedGraph.{RecordedGraph, predecessors_of}

pub value_known : (table : Table) (history : List Event) (value_of : ℕ → ℕ → ℕ → ℕ)
    (values : List (Option ℕ)) (s : ℕ) (found : Option ℕ)
    → AreValues table history value_of values → found ≡ entry values s
    → MatchOption found (¬ HasFinished history s)
    (λ value. HasFinished history s × IsValue table value_of s value)
value_known table history value_of values s None are is =
    λ h. none-some (are.tell.has_value s h).0 (is ∙ (are.tell.has_value s h).1)
value_known table history value_of values s (Some value) are is =
    (are.tell.is_finished s value (sym is), are.is_value s value (sym is))

pub finished_known : (table : Table) (history : List Event) (value_of : ℕ → ℕ → ℕ → ℕ)
    (values : List (Option ℕ)) (s : ℕ) (found : Option ℕ)
    → AreValues table history value_of values
    → found ≡ entry values s
    → IsTrue (is_some found) ↔ HasFinished history s
finished_known table history value_of values s None are is = (
  λ h. absurd (cc),
  λ h. absurd (none-some (are.tell.has_value s h).0 (is ∙ (are.tell.has_value s h).1)),
)
finished_known table history value_of values s (Some value) are is =
    (λ h. are.tell.is_finished s value (sym is), λ h. refl)

pub busy_known : (history : List Event) (running : List (Option ℕ)) (worker : ℕ) (found : Option ℕ)
    → AreRunning history running
    → found ≡ entry running worker
    → IsTrue (is_some found) ↔ ((segment : ℕ) × Runs history worker segment)
busy_known history running worker None are is =
    (λ h. absurd (cc), λ h. absurd (none-some h.0 (is ∙ are.runs worker h.0 h.1)))
busy_known history running worker (Some s) are is =
    (λ h. (s, are.is_run worker s (sym is)), λ h. refl)

value_at : (table : Table) (history : List Event) (value_of : ℕ → ℕ → ℕ → ℕ)
    (values : List (Option ℕ)) (s : ℕ)
    → AreValues table history value_of values
    → HasFinished history s
    → IsValue table value_of s (unwrap_or (entry values s) 0)
value_at table history value_of values s are finished =
    let found : (value : ℕ) × (entry values s ≡ Some value) = are.tell.has_value s finished in
    subst (λ (o : Option ℕ). IsValue table value_of s (unwrap_or o 0)) (sym found.1)
    (are.is_value s found.0 found.1)

pub input_known : (table : Table) (history : List Event) (value_of : ℕ → ℕ → ℕ → ℕ)
    (values : List (Option ℕ)) (graph : RecordedGraph) (s : ℕ)
    → IsSoundTable table
    → AreValues table history value_of values
    → IsGraphOf table graph
    → s < length table.segments
    → ((pred : ℕ) → MustPrecede table pred s → HasFinished history pred)
    → (input : ℕ)
    → input ≡ sum_by (λ at. unwrap_or (entry values at) 0) (predecessors_of graph s) % 2 ^ 64
    → IsInput table value_of s input
input_known table history value_of values graph s sound are_values of known after input
    sums = record {
      preds = predecessors_of graph s;
      are_preds = of.predecessors s known;
      values = λ at. unwrap_or (entry values at) 0;
      are_values = λ pred kept. value_at table history value_of values pred are_values
          (after pred (sound.chains.within pred s kept));
      is_sum = sums;
    }
