-- A run is complete exactly where its history has two events for each segment.
use Rattle.std.proofs.Common.{ℕ, suc, ◌+◌, ◌*◌, ◌<◌, ◌≤◌, ◌≡◌, Bool, true, List, [], ◌∷◌, Option}
use Rattle.std.proofs.Common.{Some, None, length, cond, get_or, refl, sym, ap, ◌∙◌, arith}
use Rattle.std.specs.Prelude.{slice_get, count_by, is_some}
use Rattle.std.specs.Option.{option_flatten}
use Rattle.std.proofs.lemmas.Option.{same_Some, slice_get_within, slice_get-get_or}
use Rattle.std.proofs.lemmas.List.Sums.{count_by-le-length, sum_by-cons}
use Rattle.task_segments.specs.Table.{Table}
use Rattle.dispatch_core.specs.declared.event.Event.{Event}
use Rattle.open_segments.specs.Entry.{entry}
use Rattle.dispatch_core.specs.Run.{IsLegalRun, IsFinished}
use Rattle.dispatch_core.specs.Sound.{TellFinished}
use Rattle.dispatch_core.specs.Sound.{AreStarted}
use Rattle.dispatch_core.proofs.Histories.{started_before_finish}
use Rattle.open_segments.proofs.PlaceLemmas.{count_by_some_no}

-- a test that each element passes counts them all
count_all : {A : Type 0} (p : A → Bool) (xs : List A)
    → ((i : ℕ) (w : A) → slice_get xs i ≡ Some w → p w ≡ true)
    → count_by p xs ≡ length xs
count_all p [] all = refl
count_all {A = A} p (x ∷ xs) all =
    let here : cond {A = ℕ} (p x) 1 0 ≡ 1 = ap (λ (b : Bool). cond {A = ℕ} b 1 0) (all 0 x refl) in
    let rest = count_all p xs (λ i w is. all (suc i) w is) in
    let more : count_by p (x ∷ xs) ≡ cond {A = ℕ} (p x) 1 0 + count_by p xs =
    sum_by-cons (λ (y : A). cond {A = ℕ} (p y) 1 0) x xs in
    omega (arith, here, rest, more)

-- where something stands at a place, or not
entry_where_all_stand : (values : List (Option ℕ)) (s : ℕ) (found : Option ℕ)
    → slice_get values s ≡ Some found
    → count_by is_some values ≡ length values
    → (value : ℕ) × (entry values s ≡ Some value)
entry_where_all_stand values s (Some value) is all =
    (value, ap (λ (o : Option (Option ℕ)). option_flatten o) is)
entry_where_all_stand values s None is all =
    let fewer = count_by_some_no is_some values s None is refl in absurd (omega (arith, fewer, all))

pub finished_at_full_length : (table : Table) (history : List Event) (started : List Bool)
    (values : List (Option ℕ))
    → AreStarted table history started
    → TellFinished (length table.segments) history values
    → length history ≡ count_by (λ b. b) started + count_by is_some values
    → length history ≡ 2 * length table.segments
    → IsFinished table history
finished_at_full_length table history started values are_started tell counted twice s known =
    let starts : count_by (λ b. b) started ≤ length started =
    count_by-le-length (λ (b : Bool). b) started in
    let ends : count_by is_some values ≤ length values = count_by-le-length is_some values in
    let started_each = are_started.each in
    let values_each = tell.each in
    let all : count_by is_some values ≡ length values =
    omega (arith, starts, ends, started_each, values_each, counted, twice) in
    let within : s < length values = omega (arith, known, values_each) in
    let value = entry_where_all_stand values s (get_or values s None)
    (slice_get-get_or values s None within) all in
    tell.is_finished s value.0 value.1

has_entry : (values : List (Option ℕ)) (s value : ℕ) (found : Option ℕ)
    → slice_get values s ≡ Some found
    → entry values s ≡ Some value
    → is_some found ≡ true
has_entry values s value found is stands =
    ap (λ (o : Option ℕ). is_some o)
    (ap (λ (o : Option (Option ℕ)). option_flatten o) (sym is) ∙ stands)

pub full_length_of_finished : (table : Table) (history : List Event) (started : List Bool)
    (values : List (Option ℕ))
    → IsLegalRun table history
    → AreStarted table history started
    → TellFinished (length table.segments) history values
    → length history ≡ count_by (λ b. b) started + count_by is_some values
    → IsFinished table history
    → length history ≡ 2 * length table.segments
full_length_of_finished table history started values legal are_started tell counted finished =
    let started_each = are_started.each in
    let values_each = tell.each in
    let starts : count_by (λ b. b) started ≡ length started =
    count_all (λ (b : Bool). b) started (λ s flag is.
    let known : s
    < length table.segments =
    let less = slice_get_within started s flag is in omega (arith, less, started_each) in
    let has =
    are_started.has_started s (started_before_finish table history s legal (finished s known)) in
    same_Some flag true (sym is ∙ has)) in
    let ends : count_by is_some values ≡ length values = count_all is_some values (λ s found is.
    let known : s
    < length table.segments =
    let less = slice_get_within values s found is in omega (arith, less, values_each) in
    let value = tell.has_value s (finished s known) in
    has_entry values s value.0 found is value.1) in
    omega (arith, starts, ends, started_each, values_each, counted)
