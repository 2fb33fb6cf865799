-- Lists that are gathered item by item, each behind a reference.
use Rattle.std.proofs.Common.{ℕ, ◌≡◌, ◌<◌, List, Bor, [], map, length, get_or, All, sym, ◌∙◌, ap, subst}
use Rattle.std.proofs.Common.{arith}
use Rattle.std.specs.List.{flat_map}
use Rattle.std.proofs.lemmas.List.{length-map, get_or-map}
use Rattle.std.proofs.lemmas.List.Folds.{flat_map-map}
use Rattle.program_text.specs.declared.statement.DependKind.TheVariants.{DependIn}
use Rattle.program_text.specs.declared.statement.Item.{Item}

abbrev no_item : Item
no_item = record { kind = DependIn; name = 0 }

abbrev pub no_places : Bor (List ℕ)
no_places = record { ref_ptr = (0, 0); now = [] }

-- what holds for the list of any item holds for each of them
pub gathered_each : (P : List ℕ → Type 0) (lists : List (Bor (List ℕ))) (of : Item → List ℕ)
    (items : List Item) → map (λ places. places.now) lists ≡ map of items
    → ((item : Item) → P (of item))
    → All (λ places. P places.now) lists
gathered_each P lists of items same each k d h =
    let now_of : Bor (List ℕ) → List ℕ = λ places. places.now in
    let as_many : length lists ≡ length items =
    sym (length-map lists now_of) ∙ ap (λ (xs : List (List ℕ)). length xs) same
    ∙ length-map items of in
    let below : k < length items = omega arith in
    subst P
    (sym (get_or-map of items k no_item [] below)
    ∙ ap (λ (xs : List (List ℕ)). get_or xs k []) (sym same)
    ∙ get_or-map now_of lists k d [] h)
    (each (get_or items k no_item))

-- one after the other they are the same places
pub gathered_together : (lists : List (Bor (List ℕ))) (of : Item → List ℕ) (items : List Item)
    → map (λ places. places.now) lists ≡ map of items
    → flat_map (λ places. places.now) lists ≡ flat_map of items
gathered_together lists of items same =
    let now_of : Bor (List ℕ) → List ℕ = λ places. places.now in
    let itself : List ℕ → List ℕ = λ places. places in
    sym (flat_map-map itself now_of lists) ∙ ap (flat_map itself) same
    ∙ flat_map-map itself of items
