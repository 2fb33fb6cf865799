use Rattle.std.proofs.Common.{ℕ, ◌+◌, ◌≡◌, ◌↔◌, ◌++◌, ◌∷◌, [], Bool, List, Bor, length, get_or}
use Rattle.std.proofs.Common.{take, All, Contains, sym, ◌∙◌, ap, subst, take_all}
use Rattle.std.specs.List.{flat_map}
use Rattle.std.proofs.lemmas.Result.{IfOk-weaker}
use Rattle.std.proofs.lemmas.List.{take_more, append-nil}
use Rattle.std.proofs.lemmas.Grind.{flat_map-append}
use Rattle.depend_table.specs.Lists.{Lists}
use Rattle.depend_table.specs.Entries.{tasks_of}
use Rattle.depend_table.specs.MarkedPlaces.{AreWithin, IsMarked, AreMarkedToo, IsMarkedNumber}
use Rattle.depend_table.specs.MarkedPlaces.{IsNumberAmong}
use Rattle.depend_table.proofs.Gathered.{no_places}
use Rattle.depend_table.proofs.MarkedPlaces.{among_marked, marked_in_turn, marked_within}
use Rattle.depend_table.proofs.MarkedPlaces.{written_back}
use Rattle.depend_table.proofs.table.kept_by_marks.Goals as goal

pub mark-requires : goal.mark-requires
mark-requires c =
    let first = c.window_of-window.result.first in
    let end = c.window_of-window.result.end in
    let lists = c.args.lists.now in
    let inside : All (λ places. AreWithin first end places.now) lists =
    c.window_of-window.ensures.all in
    let same : length c.deref_mut.result.now ≡ length c.loop-places.marks.items =
    ap (λ (xs : List Bool). length xs) c.deref_mut.ensures.value in
    subst (λ n. AreWithin first n (get_or lists c.loop-places.places-index no_places).now)
    (sym (ap (λ n. first + n) same ∙ c.loop-places.invariant.one_each))
    (inside c.loop-places.places-index no_places c.loop-places-test.true)

pub loop-places-preserved : goal.loop-places-preserved
loop-places-preserved c =
    let lists = c.args.lists.now in
    let index = c.loop-places.places-index in
    let first = c.window_of-window.result.first in
    let one_each = c.loop-places.invariant.one_each in
    let old = c.loop-places.marks.items in
    let new = c.mark.new.marks in
    let now_of : Bor (List ℕ) → List ℕ = λ places. places.now in
    let places = now_of (get_or lists index no_places) in
    let same : length c.deref_mut.result.now ≡ length old =
    ap (λ (xs : List Bool). length xs) c.deref_mut.ensures.value in
    let len : length new ≡ length old = c.mark.ensures.same_length ∙ same in
    let is = written_back c.loop-places.marks.len old new len (sym c.deref_mut.ensures.len ∙ same) in
    let more : AreMarkedToo first old new places =
    subst (λ (xs : List Bool). AreMarkedToo first xs new places) c.deref_mut.ensures.value
    c.mark.ensures in
    let joined : flat_map now_of (take (index + 1) lists)
    ≡ flat_map now_of (take index lists) ++ places =
    ap (flat_map now_of) (take_more lists index no_places c.loop-places-test.true)
    ∙ flat_map-append now_of (take index lists) (get_or lists index no_places ∷ [])
    ∙ ap (λ (xs : List ℕ). flat_map now_of (take index lists) ++ xs) (append-nil places) in
    record {
      one_each = ap (λ (xs : List Bool). first + length xs) is ∙ ap (λ n. first + n) len ∙ one_each;
      marked = λ place.
          subst
          (λ (xs : List Bool). IsMarked first xs place
          ↔ Contains (flat_map now_of (take (index + 1) lists)) place)
          (sym is)
          (subst (λ (xs : List ℕ). IsMarked first new place ↔ Contains xs place) (sym joined)
          (marked_in_turn first old new (flat_map now_of (take index lists)) places
          c.loop-places.invariant.marked more place));
    }

pub returns : goal.returns
returns c =
    let lists = c.args.lists.now in
    let numbers = tasks_of c.args.calls.now in
    let first = c.window_of-window.result.first in
    let marks = c.loop-places.marks.items in
    let now_of : Bor (List ℕ) → List ℕ = λ places. places.now in
    let all : take c.loop-places.places-index lists ≡ lists =
    take_all c.loop-places.places-index lists c.loop-places-test.false in
    IfOk-weaker c.marked_tasks.result
    (λ kept. Lists
    (IsMarkedNumber first c.deref.result.now numbers (first + length c.deref.result.now))
    kept.items)
    (λ kept. Lists (IsNumberAmong (flat_map now_of lists) numbers) kept.items)
    (λ kept marked.
    among_marked first marks (first + length marks) (flat_map now_of lists) numbers kept.items
    (λ place. subst
    (λ (xs : List (Bor (List ℕ))). IsMarked first marks place ↔ Contains (flat_map now_of xs) place)
    all (c.loop-places.invariant.marked place))
    (λ place is. marked_within first marks place is)
    (subst
    (λ (xs : List Bool).
    Lists (IsMarkedNumber first xs numbers (first + length xs)) kept.items)
    c.deref.ensures.value marked))
    c.marked_tasks.ensures
