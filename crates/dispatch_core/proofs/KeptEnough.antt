-- When a segment becomes ready: what its kept predecessors show.
use Rattle.std.proofs.Common.{ℕ, ◌-◌, ◌<◌, ◌≡◌, ◌⊎◌, suc, false, List, [], ◌∷◌, ◌++◌, Option}
use Rattle.std.proofs.Common.{Some, None, length, refl, sym, ap, ◌∙◌, subst, arith, inl}
use Rattle.std.proofs.Common.{inr}
use Rattle.std.specs.Prelude.{slice_get, is_none}
use Rattle.std.proofs.lemmas.Bool.{both_ways}
use Rattle.std.proofs.lemmas.Option.{same_Some}
use Rattle.task_segments.specs.Table.{Table}
use Rattle.task_segments.specs.Precedence.{Continues, Creation, MustPrecede}
use Rattle.task_segments.specs.Schedule.{IsChain}
use Rattle.depend_table.specs.KeptEdges.{IsKeptEdge}
use Rattle.dispatch_core.specs.declared.event.Event.{Event}
use Rattle.dispatch_core.specs.declared.event.Event.TheVariants.{Finish}
use Rattle.dispatch_core.specs.Run.{HasFinished, Runs, IsLegalRun, BecomesReady}
use Rattle.open_segments.specs.Counters.{GoesUp, KeepsChains}
use Rattle.dispatch_core.specs.Sound.{TellFinished}
use Rattle.dispatch_core.proofs.Histories.{started_kept, finished_cases, started_was}
use Rattle.dispatch_core.proofs.Histories.{started_before_finish}
use Rattle.open_segments.specs.Entry.{entry}
use Rattle.dispatch_core.proofs.FinishStep.{started_after_preds}

-- what must precede a finished segment is finished
pub finished_before : (table : Table) (history : List Event) (s u : ℕ) → IsLegalRun table history
    → MustPrecede table s u → HasFinished history u → HasFinished history s
finished_before table history s u legal edge done =
    let started = started_before_finish table history u legal done in
    started_after_preds table history started.worker u legal started.started s edge

-- along a chain of pairs that must precede each other
chain_finished : (table : Table) (history : List Event) (R : ℕ → ℕ → Type 0) (t : ℕ)
    → IsLegalRun table history
    → ((a b : ℕ) → R a b → MustPrecede table a b)
    → ((p : ℕ) → R p t → HasFinished history p)
    → (s u : ℕ) (rest : List ℕ)
    → IsChain R (s ∷ u ∷ rest)
    → slice_get (s ∷ u ∷ rest) (suc (length rest)) ≡ Some t
    → HasFinished history s
chain_finished table history R t legal within all s u [] (edge, linked) ends =
    all s (subst (λ (n : ℕ). R s n) (same_Some u t ends) edge)
chain_finished table history R t legal within all s u (v ∷ rest) (edge, linked) ends =
    finished_before table history s u legal (within s u edge)
    (chain_finished table history R t legal within all u v rest linked ends)

joined_finished : (table : Table) (history : List Event) (R : ℕ → ℕ → Type 0) (s t : ℕ)
    (chain : List ℕ)
    → IsLegalRun table history
    → ((a b : ℕ) → R a b → MustPrecede table a b)
    → ((p : ℕ) → R p t → HasFinished history p)
    → s < t
    → IsChain R chain
    → slice_get chain 0 ≡ Some s
    → slice_get chain (length chain - 1) ≡ Some t
    → HasFinished history s
joined_finished table history R s t [] legal within all less linked begins ends = absurd linked
joined_finished table history R s t (x ∷ []) legal within all less linked begins ends =
    let same : s ≡ t = same_Some s t (sym begins ∙ ends) in absurd (omega (arith, same, less))
joined_finished table history R s t (x ∷ u ∷ rest) legal within all less linked begins ends =
    let last : length (x ∷ u ∷ rest) - 1 ≡ suc (length rest) = omega arith in
    subst (HasFinished history) (same_Some x s begins)
    (chain_finished table history R t legal within all x u rest linked
    (ap (λ (n : ℕ). slice_get (x ∷ u ∷ rest) n) (sym last) ∙ ends))

-- where all its kept predecessors are finished, all that must precede it is
pub kept_enough : (table : Table) (history : List Event) (t : ℕ)
    → GoesUp table
    → KeepsChains table
    → IsLegalRun table history
    → ((p : ℕ) → IsKeptEdge table p t → HasFinished history p)
    → (s : ℕ)
    → MustPrecede table s t
    → HasFinished history s
kept_enough table history t proper chains legal all s edge =
    let joined = chains.joined s t edge in
    joined_finished table history (IsKeptEdge table) s t joined.chain legal chains.within all
    (proper.ascending s t edge) joined.linked joined.begins joined.ends

-- A segment becomes ready by a finish exactly where what finishes is one of its kept predecessors,
-- and all of them are finished then.
pub becomes_by_kept : (table : Table) (history : List Event) (worker s t : ℕ)
    → GoesUp table
    → KeepsChains table
    → IsLegalRun table history
    → IsLegalRun table (history ++ Finish worker s ∷ [])
    → Runs history worker s
    → IsKeptEdge table s t
    → t < length table.segments
    → ((p : ℕ) → IsKeptEdge table p t → HasFinished (history ++ Finish worker s ∷ []) p)
    → BecomesReady table history (history ++ Finish worker s ∷ []) t
becomes_by_kept table history worker s t proper chains legal legal_after runs edge known
    all = record {
      was_not = λ h. runs.unfinished (h.after s (chains.within s t edge));
      is_now = record {
        known = known;
        not_started = λ started.
            let was = started_was history worker s t started in
            runs.unfinished (started_after_preds table history was.worker t legal was.started s
            (chains.within s t edge));
        after = kept_enough table (history ++ Finish worker s ∷ []) t proper chains legal_after all;
      };
    }

pub kept_by_becomes : (table : Table) (history : List Event) (worker s t : ℕ)
    → GoesUp table
    → KeepsChains table
    → IsLegalRun table history
    → (IsKeptEdge table s t ⊎ ¬ IsKeptEdge table s t)
    → BecomesReady table history (history ++ Finish worker s ∷ []) t
    → IsKeptEdge table s t
    × ((p : ℕ) → IsKeptEdge table p t → HasFinished (history ++ Finish worker s ∷ []) p)
kept_by_becomes table history worker s t proper chains legal (inl edge) becomes =
    (edge, λ p e. becomes.is_now.after p (chains.within p t e))
kept_by_becomes table history worker s t proper chains legal (inr apart) becomes =
    absurd (becomes.was_not (record {
      known = becomes.is_now.known;
      not_started = λ started.
          becomes.is_now.not_started (started_kept history (Finish worker s) t started);
      after = kept_enough table history t proper chains legal (λ p e.
          elim (finished_cases history worker s p (becomes.is_now.after p (chains.within p t e))) [
            | inl before ↦ before
            | inr same ↦ absurd (apart (subst (λ (q : ℕ). IsKeptEdge table q t) (sym same) e))
          ]);
    }))

pub entry_finished : (table : Table) (history : List Event) (values : List (Option ℕ)) (p : ℕ)
    (found : Option ℕ)
    → TellFinished (length table.segments) history values
    → entry values p ≡ found
    → is_none found ≡ false
    → HasFinished history p
entry_finished table history values p None are_values is some =
    absurd (both_ways false refl (sym some))
entry_finished table history values p (Some value) are_values is some =
    are_values.is_finished p value is

pub finished_entry : (table : Table) (history : List Event) (values : List (Option ℕ)) (p : ℕ)
    → TellFinished (length table.segments) history values
    → HasFinished history p
    → is_none (entry values p) ≡ false
finished_entry table history values p are_values done =
    let value = are_values.has_value p done in ap (λ (o : Option ℕ). is_none o) value.1

pub precedes_of : (table : Table) (p t : ℕ)
    → Continues table p t ⊎ Creation table p t
    → MustPrecede table p t
precedes_of table p t (inl follows) = inl follows
precedes_of table p t (inr creation) = inr (inl creation)
