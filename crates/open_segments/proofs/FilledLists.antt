-- Lists in one buffer, as they are filled.
use Rattle.std.proofs.Common.{ℕ, zero, suc, ◌+◌, ◌-◌, ◌<◌, ◌≤◌, ◌≡◌, List, [], ◌∷◌, ◌++◌, length}
use Rattle.std.proofs.Common.{take, drop, get_or, set, refl, sym, ap, ◌∙◌, arith}
use Rattle.std.specs.Prelude.{slice_range, replicate}
use Rattle.std.proofs.lemmas.List.{length-drop, length-take-le, take_more_set, drop-set-add}
use Rattle.std.proofs.lemmas.List.{drop-set-lt, take-set-le}
use Rattle.std.proofs.lemmas.Slice.{between_is}
use Rattle.open_segments.specs.FlatLists.{lists_from, AreEnds}
use Rattle.open_segments.specs.FilledLists.{Filled, lists_with, rooms_from, AreFilled}
use Rattle.open_segments.specs.declared.filling.Filling.TheInside.{Inside}
use Rattle.open_segments.proofs.FlatLists.{ends_within, place_within}

pub length-lists_with : (items : List ℕ) (begin : ℕ) (ends counts : List ℕ)
    → AreFilled begin ends counts
    → length (lists_with items begin ends counts) ≡ length ends
length-lists_with items begin [] counts are = refl
length-lists_with items begin (end ∷ ends) [] are = absurd are
length-lists_with items begin (end ∷ ends) (count ∷ counts) are =
    ap suc (length-lists_with items end ends counts are.1)

pub length-counts : (begin : ℕ) (ends counts : List ℕ)
    → AreFilled begin ends counts
    → length counts ≡ length ends
length-counts begin [] [] are = refl
length-counts begin [] (count ∷ counts) are = absurd are
length-counts begin (end ∷ ends) [] are = absurd are
length-counts begin (end ∷ ends) (count ∷ counts) are =
    ap suc (length-counts end ends counts are.1)

length_of_first : (items : List ℕ) (begin count : ℕ)
    → begin + count ≤ length items
    → length (slice_range items begin (begin + count)) ≡ count
length_of_first items begin count within =
    let is : begin + count - begin ≡ count = omega arith in
    ap (λ (n : ℕ). length (take n (drop begin items))) is
    ∙ length-take-le count (drop begin items) (omega (arith, within, length-drop begin items))

-- how many numbers a list has
pub length_at : (items : List ℕ) (begin : ℕ) (ends counts : List ℕ) (place : ℕ)
    → AreEnds begin ends (length items)
    → AreFilled begin ends counts
    → length (get_or (lists_with items begin ends counts) place []) ≡ get_or counts place 0
length_at items begin [] [] place are filled = refl
length_at items begin [] (count ∷ counts) place are filled = absurd filled
length_at items begin (end ∷ ends) [] place are filled = absurd filled
length_at items begin (end ∷ ends) (count ∷ counts) zero are filled =
    let last = ends_within end ends (length items) are.1 in
    let here = filled.0 in
    length_of_first items begin count (omega (arith, last, here))
length_at items begin (end ∷ ends) (count ∷ counts) (suc place) are filled =
    length_at items end ends counts place are.1 filled.1

pub room_at : (begin : ℕ) (ends : List ℕ) (place : ℕ)
    → get_or (rooms_from begin ends) place 0
    ≡ get_or ends place 0 - get_or (begin ∷ ends) place 0
room_at begin [] zero = omega arith
room_at begin [] (suc place) = refl
room_at begin (end ∷ ends) zero = refl
room_at begin (end ∷ ends) (suc place) = room_at end ends place

pub begin_above : (begin : ℕ) (ends : List ℕ) (last place : ℕ)
    → AreEnds begin ends last
    → place < length ends
    → begin ≤ get_or (begin ∷ ends) place 0
begin_above begin [] last place are within = absurd (omega (arith, within))
begin_above begin (end ∷ ends) last zero are within = omega arith
begin_above begin (end ∷ ends) last (suc place) are within =
    let above = begin_above end ends last place are.1 (omega (arith, within)) in
    let here = are.0 in
    omega (arith, above, here)

-- what stands before the lists is no number of theirs
written_before : (items : List ℕ) (begin : ℕ) (ends counts : List ℕ) (last next number : ℕ)
    → AreEnds begin ends last
    → next < begin
    → lists_with (set items next number) begin ends counts ≡ lists_with items begin ends counts
written_before items begin [] counts last next number are before = refl
written_before items begin (end ∷ ends) [] last next number are before = refl
written_before items begin (end ∷ ends) (count ∷ counts) last next number are before =
    let here : slice_range (set items next number) begin (begin + count)
    ≡ slice_range items begin (begin + count) =
    ap (λ (l : List ℕ). take (begin + count - begin) l) (drop-set-lt begin items next number before) in
    let up = are.0 in
    let rest = written_before items end ends counts last next number are.1 (omega (arith, before, up)) in
    ap (λ (l : List ℕ). l ∷ lists_with (set items next number) end ends counts) here
    ∙ ap (λ (l : List (List ℕ)). slice_range items begin (begin + count) ∷ l) rest

-- nor is what stands behind one
written_behind : (items : List ℕ) (begin end next number : ℕ)
    → end ≤ next
    → slice_range (set items next number) begin end ≡ slice_range items begin end
written_behind items begin end next number behind =
    between_is (set items next number) begin end
    ∙ ap (λ (l : List ℕ). drop begin l) (take-set-le end items next number behind)
    ∙ sym (between_is items begin end)

-- one more number at the end of a list
written_next : (items : List ℕ) (begin count number : ℕ)
    → begin + count < length items
    → slice_range (set items (begin + count) number) begin (begin + (count + 1))
    ≡ slice_range items begin (begin + count) ++ number ∷ []
written_next items begin count number within =
    let more : begin + (count + 1) - begin ≡ count + 1 = omega arith in
    let same : begin + count - begin ≡ count = omega arith in
    ap (λ (l : List ℕ). take (begin + (count + 1) - begin) l) (drop-set-add begin items count number)
    ∙ ap (λ (n : ℕ). take n (set (drop begin items) count number)) more
    ∙ take_more_set (drop begin items) count number (omega (arith, within, length-drop begin items))
    ∙ ap (λ (n : ℕ). take n (drop begin items) ++ number ∷ []) (sym same)

pub one_more : (items : List ℕ) (begin : ℕ) (ends counts : List ℕ) (place number next : ℕ)
    → AreEnds begin ends (length items)
    → AreFilled begin ends counts
    → place < length ends
    → next ≡ get_or (begin ∷ ends) place 0 + get_or counts place 0
    → next < get_or ends place 0
    → lists_with (set items next number) begin ends (set counts place (get_or counts place 0 + 1))
    ≡ set (lists_with items begin ends counts) place
    (get_or (lists_with items begin ends counts) place [] ++ number ∷ [])
one_more items begin [] counts place number next are filled within is room =
    absurd (omega (arith, within))
one_more items begin (end ∷ ends) [] place number next are filled within is room = absurd filled
one_more items begin (end ∷ ends) (count ∷ counts) zero number next are filled within is room =
    let last = ends_within end ends (length items) are.1 in
    let here : slice_range (set items next number) begin (begin + (count + 1))
    ≡ slice_range items begin (begin + count) ++ number ∷ [] =
    ap (λ (n : ℕ). slice_range (set items n number) begin (begin + (count + 1))) is
    ∙ written_next items begin count number (omega (arith, last, is, room)) in
    let rest = written_before items end ends counts (length items) next number are.1 room in
    ap (λ (l : List ℕ). l ∷ lists_with (set items next number) end ends counts) here
    ∙ ap (λ (l : List (List ℕ)). (slice_range items begin (begin + count) ++ number ∷ []) ∷ l) rest
one_more items begin (end ∷ ends) (count ∷ counts) (suc place) number next are filled within is room =
    let above = begin_above end ends (length items) place are.1 (omega (arith, within)) in
    let fits = filled.0 in
    let here = written_behind items begin (begin + count) next number
    (omega (arith, above, fits, is)) in
    let rest = one_more items end ends counts place number next are.1 filled.1
    (omega (arith, within)) is room in
    ap (λ (l : List ℕ). l ∷ lists_with (set items next number) end ends
    (set counts place (get_or counts place 0 + 1))) here
    ∙ ap (λ (l : List (List ℕ)). slice_range items begin (begin + count) ∷ l) rest

pub filled_more : (begin : ℕ) (ends counts : List ℕ) (place : ℕ)
    → AreFilled begin ends counts
    → place < length ends
    → get_or (begin ∷ ends) place 0 + get_or counts place 0 < get_or ends place 0
    → AreFilled begin ends (set counts place (get_or counts place 0 + 1))
filled_more begin [] counts place filled within room = absurd (omega (arith, within))
filled_more begin (end ∷ ends) [] place filled within room = absurd filled
filled_more begin (end ∷ ends) (count ∷ counts) zero filled within room =
    (omega (arith, room), filled.1)
filled_more begin (end ∷ ends) (count ∷ counts) (suc place) filled within room =
    (filled.0, filled_more end ends counts place filled.1 (omega (arith, within)) room)

-- full lists
pub full_lists : (items : List ℕ) (begin : ℕ) (ends counts : List ℕ)
    → AreEnds begin ends (length items)
    → AreFilled begin ends counts
    → ((place : ℕ) → get_or counts place 0 ≡ get_or (rooms_from begin ends) place 0)
    → lists_from items begin ends ≡ lists_with items begin ends counts
full_lists items begin [] counts are filled full = refl
full_lists items begin (end ∷ ends) [] are filled full = absurd filled
full_lists items begin (end ∷ ends) (count ∷ counts) are filled full =
    let all : count ≡ end - begin = full 0 in
    let up = are.0 in
    let is : end ≡ begin + count = omega (arith, all, up) in
    let rest = full_lists items end ends counts are.1 filled.1 (λ place. full (suc place)) in
    ap (λ (n : ℕ). slice_range items begin n ∷ lists_from items end ends) is
    ∙ ap (λ (l : List (List ℕ)). slice_range items begin (begin + count) ∷ l) rest

-- no numbers yet
pub nothing_filled : (items : List ℕ) (begin : ℕ) (ends : List ℕ) (last : ℕ)
    → AreEnds begin ends last
    → (lists_with items begin ends (replicate (length ends) 0) ≡ replicate (length ends) [])
    × AreFilled begin ends (replicate (length ends) 0)
nothing_filled items begin [] last are = (refl, tt)
nothing_filled items begin (end ∷ ends) last are =
    let none : begin + 0 - begin ≡ 0 = omega arith in
    let rest = nothing_filled items end ends last are.1 in
    let up = are.0 in (
      ap (λ (n : ℕ). take n (drop begin items) ∷ lists_with items end ends (replicate (length ends) 0)) none
          ∙ ap (λ (l : List (List ℕ)). [] ∷ l) rest.0,
      (omega (arith, up), rest.1),
    )

-- a list with this room behind the others
pub rooms_pushed : (begin : ℕ) (ends : List ℕ) (last room : ℕ)
    → AreEnds begin ends last
    → rooms_from begin (ends ++ (last + room) ∷ []) ≡ rooms_from begin ends ++ room ∷ []
rooms_pushed begin [] last room are =
    let is : last + room - begin ≡ room = omega (arith, are) in
    ap (λ (n : ℕ). n ∷ []) is
rooms_pushed begin (end ∷ ends) last room are =
    ap (λ (l : List ℕ). (end - begin) ∷ l) (rooms_pushed end ends last room are.1)

-- the end that was put last
pub last_pushed : (begin : ℕ) (ends : List ℕ) (end : ℕ)
    → get_or (begin ∷ ends ++ end ∷ []) (length (ends ++ end ∷ [])) 0 ≡ end
last_pushed begin [] end = refl
last_pushed begin (next ∷ ends) end = last_pushed next ends end

pub length-rooms : (begin : ℕ) (ends : List ℕ) → length (rooms_from begin ends) ≡ length ends
length-rooms begin [] = refl
length-rooms begin (end ∷ ends) = ap suc (length-rooms end ends)

-- where one more number goes
pub record HasPlace (items ends counts : List ℕ) (place : ℕ) : Type 0 where
  pub of_ends : place < length ends
  pub of_counts : place < length counts
  pub room : get_or (0 ∷ ends) place 0 + get_or counts place 0 < get_or ends place 0
  pub within : get_or ends place 0 ≤ length items

pub has_place : (items ends counts : List ℕ) (place : ℕ) (now : Filled)
    → AreEnds 0 ends (length items)
    → AreFilled 0 ends counts
    → record { lists = lists_with items 0 ends counts; rooms = rooms_from 0 ends } ≡ now
    → place < length now.lists
    → length (get_or now.lists place []) < get_or now.rooms place 0
    → HasPlace items ends counts place
has_place items ends counts place now are filled is inside room =
    let of_ends : place < length ends =
    omega (
      arith,
      inside,
      ap (λ (f : Filled). length f.lists) is,
      length-lists_with items 0 ends counts filled,
    ) in
    record {
      of_ends = of_ends;
      of_counts = omega (arith, of_ends, length-counts 0 ends counts filled);
      room = omega (
        arith,
        room,
        ap (λ (f : Filled). length (get_or f.lists place [])) is,
        ap (λ (f : Filled). get_or f.rooms place 0) is,
        length_at items 0 ends counts place are filled,
        room_at 0 ends place,
      );
      within = (place_within 0 ends (length items) place are of_ends).1;
    }

pub place_of : (a : Inside) (place : ℕ) (now : Filled)
    → AreEnds 0 a.ends.items (length a.items.items) × AreFilled 0 a.ends.items a.counts.items
    → record {
      lists = lists_with a.items.items 0 a.ends.items a.counts.items;
      rooms = rooms_from 0 a.ends.items;
    } ≡ now
    → place < length now.lists
    → length (get_or now.lists place []) < get_or now.rooms place 0
    → HasPlace a.items.items a.ends.items a.counts.items place
place_of a place now sound is inside room =
    has_place a.items.items a.ends.items a.counts.items place now sound.0 sound.1 is inside room
