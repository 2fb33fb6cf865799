-- Lists in one buffer: where each stands, and one more.
use Rattle.std.proofs.Common.{ℕ, zero, suc, ◌+◌, ◌-◌, ◌<◌, ◌≤◌, ◌≡◌, List, [], ◌∷◌, ◌++◌, length}
use Rattle.std.proofs.Common.{take, drop, get_or, refl, sym, ap, ◌∙◌, arith}
use Rattle.std.specs.Prelude.{slice_range}
use Rattle.std.proofs.lemmas.List.{drop-append-le, drop_at, length-drop, take-append-le, take_all}
use Rattle.open_segments.specs.FlatLists.{lists_from, AreEnds}

pub ends_within : (begin : ℕ) (ends : List ℕ) (last : ℕ) → AreEnds begin ends last → begin ≤ last
ends_within begin [] last are = omega (arith, are)
ends_within begin (end ∷ ends) last are =
    let rest = ends_within end ends last are.1 in
    let here = are.0 in
    omega (arith, rest, here)

pub length-lists_from : (items : List ℕ) (begin : ℕ) (ends : List ℕ)
    → length (lists_from items begin ends) ≡ length ends
length-lists_from items begin [] = refl
length-lists_from items begin (end ∷ ends) = ap suc (length-lists_from items end ends)

-- the list at a place
pub list_from : (items : List ℕ) (begin : ℕ) (ends : List ℕ) (place : ℕ)
    → place < length ends
    → get_or (lists_from items begin ends) place []
    ≡ slice_range items (get_or (begin ∷ ends) place 0) (get_or ends place 0)
list_from items begin [] place within = absurd (omega (arith, within))
list_from items begin (end ∷ ends) zero within = refl
list_from items begin (end ∷ ends) (suc place) within =
    list_from items end ends place (omega (arith, within))

-- it lies within the buffer
pub place_within : (begin : ℕ) (ends : List ℕ) (last place : ℕ)
    → AreEnds begin ends last
    → place < length ends
    → (get_or (begin ∷ ends) place 0 ≤ get_or ends place 0) × (get_or ends place 0 ≤ last)
place_within begin [] last place are within = absurd (omega (arith, within))
place_within begin (end ∷ ends) last zero are within = (are.0, ends_within end ends last are.1)
place_within begin (end ∷ ends) last (suc place) are within =
    place_within end ends last place are.1 (omega (arith, within))

-- a list whose end is behind the others
pub ends_pushed : (begin : ℕ) (ends : List ℕ) (last more : ℕ)
    → AreEnds begin ends last
    → last ≤ more
    → AreEnds begin (ends ++ more ∷ []) more
ends_pushed begin [] last more are less = (omega (arith, are, less), refl)
ends_pushed begin (end ∷ ends) last more are less =
    (are.0, ends_pushed end ends last more are.1 less)

still_there : (items list : List ℕ) (begin end : ℕ)
    → begin ≤ end
    → end ≤ length items
    → slice_range (items ++ list) begin end ≡ slice_range items begin end
still_there items list begin end up within =
    ap (λ (l : List ℕ). take (end - begin) l)
    (drop-append-le begin items list (omega (arith, up, within)))
    ∙ take-append-le (end - begin) (drop begin items) list
    (omega (arith, within, length-drop begin items))

comes_last : (items list : List ℕ) (begin end : ℕ)
    → begin ≡ length items
    → end ≡ length items + length list
    → slice_range (items ++ list) begin end ≡ list
comes_last items list begin end is_begin is_end =
    ap (λ (l : List ℕ). take (end - begin) l) (drop_at items list begin (sym is_begin))
    ∙ take_all (end - begin) list (omega (arith, is_begin, is_end))

pub list_pushed : (items list : List ℕ) (begin : ℕ) (ends : List ℕ) (end : ℕ)
    → AreEnds begin ends (length items)
    → end ≡ length items + length list
    → lists_from (items ++ list) begin (ends ++ end ∷ []) ≡ lists_from items begin ends ++ list ∷ []
list_pushed items list begin [] end are is_end =
    ap (λ (l : List ℕ). l ∷ []) (comes_last items list begin end are is_end)
list_pushed items list begin (next ∷ ends) end are is_end =
    let rest = list_pushed items list next ends end are.1 is_end in
    let here = still_there items list begin next are.0 (ends_within next ends (length items) are.1) in
    ap (λ (l : List ℕ). l ∷ lists_from (items ++ list) next (ends ++ end ∷ [])) here
    ∙ ap (λ (l : List (List ℕ)). slice_range items begin next ∷ l) rest
