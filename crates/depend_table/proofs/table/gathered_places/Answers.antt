use Rattle.std.proofs.Common.{ℕ, ◌+◌, ◌≡◌, ◌++◌, ◌∷◌, [], List, Bor, get_or, take, sym, ◌∙◌, ap}
use Rattle.std.proofs.Common.{take_all}
use Rattle.std.specs.List.{flat_map}
use Rattle.std.proofs.lemmas.List.{take_more, append-nil}
use Rattle.std.proofs.lemmas.Grind.{flat_map-append}
use Rattle.depend_table.proofs.Gathered.{no_places}
use Rattle.depend_table.proofs.table.gathered_places.Goals as goal

pub loop-places-preserved : goal.loop-places-preserved
loop-places-preserved c =
    let lists = c.args.lists.now in
    let index = c.loop-places.places-index in
    let now_of : Bor (List ℕ) → List ℕ = λ places. places.now in
    let places = now_of (get_or lists index no_places) in
    let joined : flat_map now_of (take (index + 1) lists)
    ≡ flat_map now_of (take index lists) ++ places =
    ap (flat_map now_of) (take_more lists index no_places c.loop-places-test.true)
    ∙ flat_map-append now_of (take index lists) (get_or lists index no_places ∷ [])
    ∙ ap (λ (xs : List ℕ). flat_map now_of (take index lists) ++ xs) (append-nil places) in
    c.in_ok-extend_from_slice.ensures.items
    ∙ ap (λ (xs : List ℕ). xs ++ places) c.loop-places.invariant ∙ sym joined

pub returns : goal.returns
returns c =
    let now_of : Bor (List ℕ) → List ℕ = λ places. places.now in
    c.loop-places.invariant
    ∙ ap (flat_map now_of) (take_all c.loop-places.places-index c.args.lists.now c.loop-places-test.false)
