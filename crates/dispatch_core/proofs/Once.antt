-- In a legal history no segment is started twice, and none is finished twice.
use Rattle.std.proofs.Common.{ℕ, ◌<◌, ◌≡◌, List, Some, arith, inl, inr}
use Rattle.std.specs.Prelude.{slice_get, Contains}
use Rattle.std.proofs.lemmas.Bool.{cases_lt}
use Rattle.std.proofs.lemmas.Option.{get_or_from_slice_get, slice_get_within}
use Rattle.task_segments.specs.Table.{Table}
use Rattle.dispatch_core.specs.declared.event.Event.{Event}
use Rattle.dispatch_core.specs.declared.event.Event.TheVariants.{Start, Finish}
use Rattle.dispatch_core.specs.Run.{IsLegalRun}
use Rattle.dispatch_core.proofs.Histories.{Contains-into_take}

abbrev at_place : (history : List Event) (i : ℕ) (event : Event)
    → slice_get history i ≡ Some event
    → Contains history event
at_place history i event is =
    (i, slice_get_within history i event is, get_or_from_slice_get history i event event is)

no_later_start : (table : Table) (history : List Event) (i j one other s : ℕ)
    → IsLegalRun table history
    → slice_get history i ≡ Some (Start one s)
    → slice_get history j ≡ Some (Start other s)
    → ¬ (i < j)
no_later_start table history i j one other s legal a b below =
    (legal j (Start other s)
    b).ready.not_started (record {
      worker = one;
      started =
          Contains-into_take j history (Start one s) (at_place history i (Start one s) a) below;
    })

no_later_finish : (table : Table) (history : List Event) (i j one other s : ℕ)
    → IsLegalRun table history
    → slice_get history i ≡ Some (Finish one s)
    → slice_get history j ≡ Some (Finish other s)
    → ¬ (i < j)
no_later_finish table history i j one other s legal a b below =
    (legal j (Finish other s)
    b).unfinished (record {
      worker = one;
      finished =
          Contains-into_take j history (Finish one s) (at_place history i (Finish one s) a) below;
    })

same_place : (i j : ℕ) → ¬ (i < j) → ¬ (j < i) → i ≡ j
same_place i j not_below not_above = elim (cases_lt i j) [
  | inl below ↦ absurd (not_below below)
  | inr above ↦ elim (cases_lt j i) [
    | inl less ↦ absurd (not_above less)
    | inr same ↦ omega arith
  ]
]

pub started_once : (table : Table) (history : List Event) (i j one other s : ℕ)
    → IsLegalRun table history
    → slice_get history i ≡ Some (Start one s)
    → slice_get history j ≡ Some (Start other s)
    → i ≡ j
started_once table history i j one other s legal a b =
    same_place i j (no_later_start table history i j one other s legal a b)
    (no_later_start table history j i other one s legal b a)

pub finished_once : (table : Table) (history : List Event) (i j one other s : ℕ)
    → IsLegalRun table history
    → slice_get history i ≡ Some (Finish one s)
    → slice_get history j ≡ Some (Finish other s)
    → i ≡ j
finished_once table history i j one other s legal a b =
    same_place i j (no_later_finish table history i j one other s legal a b)
    (no_later_finish table history j i other one s legal b a)
