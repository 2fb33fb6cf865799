-- What has happened, when one more event has.
use Rattle.std.proofs.Common.{ℕ, ◌<◌, ◌≡◌, ◌⊎◌, List, [], ◌∷◌, ◌++◌, Some, length, take, sym, ap}
use Rattle.std.proofs.Common.{◌∙◌, subst, arith, inl, inr}
use Rattle.std.specs.Prelude.{slice_get, Contains}
use Rattle.std.proofs.lemmas.Bool.{cases_lt}
use Rattle.std.proofs.Math.Seq.{take-append_seam}
use Rattle.std.proofs.lemmas.Option.{same_Some, slice_get-get_or, slice_get_within}
use Rattle.std.proofs.lemmas.List.{get_or-take, length-take, length-append, take-append-le}
use Rattle.std.proofs.lemmas.List.Elements.{Contains-append_left, Contains-push_cases}
use Rattle.task_segments.specs.Table.{Table}
use Rattle.dispatch_core.specs.declared.event.Event.{Event}
use Rattle.dispatch_core.specs.declared.event.Event.TheVariants.{Start, Finish}
use Rattle.dispatch_core.specs.Run.{HasStarted, HasFinished, MayFollow, IsLegalRun}
use Rattle.open_segments.proofs.PlaceLemmas.{get-append_left, get-push_last}

pub Contains-from_take : {A : Type 0} (k : ℕ) (xs : List A) (x : A) → Contains (take k xs) x
    → Contains xs x
Contains-from_take k xs x h =
    let within : (h.0 < k) × (h.0 < length xs) =
    (omega (arith, h.1, length-take k xs), omega (arith, h.1, length-take k xs)) in
    (h.0, within.1, sym (get_or-take k xs h.0 x within.0) ∙ h.2)

pub Contains-into_take : {A : Type 0} (k : ℕ) (xs : List A) (x : A) (h : Contains xs x) → h.0 < k
    → Contains (take k xs) x
Contains-into_take k xs x h below =
    (h.0, omega (arith, h.1, length-take k xs), get_or-take k xs h.0 x below ∙ h.2)

pub get_at_place : {A : Type 0} (xs : List A) (x : A) (h : Contains xs x)
    → slice_get xs h.0 ≡ Some x
get_at_place xs x h = slice_get-get_or xs h.0 x h.1 ∙ ap (λ y. Some y) h.2

-- an event of another kind changes nothing
pub finished_kept : (history : List Event) (event : Event) (s : ℕ)
    → HasFinished history s
    → HasFinished (history ++ event ∷ []) s
finished_kept history event s
    h = record {
      worker = h.worker;
      finished = Contains-append_left history (event ∷ []) (Finish h.worker s) h.finished;
    }

pub started_kept : (history : List Event) (event : Event) (s : ℕ)
    → HasStarted history s
    → HasStarted (history ++ event ∷ []) s
started_kept history event s
    h = record {
      worker = h.worker;
      started = Contains-append_left history (event ∷ []) (Start h.worker s) h.started;
    }

pub finished_was : (history : List Event) (worker s t : ℕ)
    → HasFinished (history ++ Start worker s ∷ []) t
    → HasFinished history t
finished_was history worker s t h =
    elim (Contains-push_cases history (Start worker s) (Finish h.worker t) h.finished) [
      | inl was ↦ record { worker = h.worker; finished = was }
      | inr e ↦ absurd (cc)
    ]

pub finished_cases : (history : List Event) (worker s t : ℕ)
    → HasFinished (history ++ Finish worker s ∷ []) t
    → HasFinished history t ⊎ (s ≡ t)
finished_cases history worker s t h =
    elim (Contains-push_cases history (Finish worker s) (Finish h.worker t) h.finished) [
      | inl was ↦ inl (record { worker = h.worker; finished = was })
      | inr e ↦ inr (cc)
    ]

pub started_was : (history : List Event) (worker s t : ℕ)
    → HasStarted (history ++ Finish worker s ∷ []) t
    → HasStarted history t
started_was history worker s t h =
    elim (Contains-push_cases history (Finish worker s) (Start h.worker t) h.started) [
      | inl was ↦ record { worker = h.worker; started = was }
      | inr e ↦ absurd (cc)
    ]

pub started_cases : (history : List Event) (worker s t : ℕ)
    → HasStarted (history ++ Start worker s ∷ []) t
    → HasStarted history t ⊎ (s ≡ t)
started_cases history worker s t h =
    elim (Contains-push_cases history (Start worker s) (Start h.worker t) h.started) [
      | inl was ↦ inl (record { worker = h.worker; started = was })
      | inr e ↦ inr (cc)
    ]

legal_last : (table : Table) (history : List Event) (event : Event)
    → MayFollow table history event
    → (k : ℕ) (other : Event)
    → k ≡ length history
    → slice_get (history ++ event ∷ []) k ≡ Some other
    → MayFollow table (take k (history ++ event ∷ [])) other
legal_last table history event may k other last is =
    let all : take k (history ++ event ∷ []) ≡ history =
    ap (λ n. take n (history ++ event ∷ [])) last ∙ take-append_seam history (event ∷ []) in
    let here : slice_get (history ++ event ∷ []) k ≡ Some event =
    ap (λ n. slice_get (history ++ event ∷ []) n) last ∙ get-push_last history event in
    let same_event : event ≡ other = same_Some event other (sym here ∙ is) in
    let P : List Event → Type 0 = λ before. MayFollow table before other in
    let Q : Event → Type 0 = λ next. MayFollow table history next in
    subst P (sym all) (subst Q same_event may)

pub legal_push : (table : Table) (history : List Event) (event : Event)
    → IsLegalRun table history
    → MayFollow table history event
    → IsLegalRun table (history ++ event ∷ [])
legal_push table history event legal may k other is =
    elim (cases_lt k (length history)) [
      | inl below ↦
          let P : List Event → Type 0 = λ before. MayFollow table before other in
          subst P (sym (take-append-le k history (event ∷ []) (omega arith)))
          (legal k other (sym (get-append_left history (event ∷ []) k below) ∙ is))
      | inr above ↦
          let within : k < length (history ++ event ∷ []) =
          slice_get_within (history ++ event ∷ []) k other is in
          legal_last table history event may k other
          (omega (arith, within, length-append history (event ∷ []))) is
    ]

pub started_before_finish : (table : Table) (history : List Event) (s : ℕ)
    → IsLegalRun table history → HasFinished history s → HasStarted history s
started_before_finish table history s legal h =
    let at : ℕ = h.finished.0 in
    record {
      worker = h.worker;
      started = Contains-from_take at history (Start h.worker s)
          (legal at (Finish h.worker s)
          (get_at_place history (Finish h.worker s) h.finished)).started;
    }

pub one_starter : (table : Table) (history : List Event) (worker other s : ℕ)
    → IsLegalRun table history
    → Contains history (Start worker s)
    → Contains history (Start other s)
    → worker ≡ other
one_starter table history worker other s legal one two =
    elim (cases_lt one.0 two.0) [
      | inl before ↦
          absurd ((legal two.0 (Start other s)
          (get_at_place history (Start other s) two)).ready.not_started
          (record {
            worker = worker;
            started = Contains-into_take two.0 history (Start worker s) one before;
          }))
      | inr after ↦ elim (cases_lt two.0 one.0) [
        | inl before ↦
            absurd ((legal one.0 (Start worker s)
            (get_at_place history (Start worker s) one)).ready.not_started
            (record {
              worker = other;
              started = Contains-into_take one.0 history (Start other s) two before;
            }))
        | inr same ↦
            let same_place : one.0 ≡ two.0 = omega arith in
            let one_there = get_at_place history (Start worker s) one in
            let two_there = get_at_place history (Start other s) two in
            cc
      ]
    ]
