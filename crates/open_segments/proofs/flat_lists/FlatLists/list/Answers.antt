use Rattle.std.proofs.Common.{ℕ, ◌<◌, ◌≡◌, List, [], ◌∷◌, length, get_or, sym, ap, ◌∙◌, arith}
use Rattle.std.specs.Prelude.{slice_range}
use Rattle.std.proofs.lemmas.List.{get_or_read}
use Rattle.open_segments.proofs.FlatLists.{length-lists_from, list_from, place_within}
use Rattle.open_segments.proofs.flat_lists.FlatLists.list.Goals as goal

pub begin_of-begin-requires : goal.begin_of-begin-requires
begin_of-begin-requires c =
    let inside = c.requires in
    omega (
      arith,
      inside,
      ap (λ (l : List (List ℕ)). length l) c.self.view_is,
      length-lists_from c.self.inside.items.items 0 c.self.inside.ends.items,
      ap (λ (l : List ℕ). length l) c.deref.ensures.value,
    )

pub index-requires : goal.index-requires
index-requires c =
    let inside = c.requires in
    omega (
      arith,
      inside,
      ap (λ (l : List (List ℕ)). length l) c.self.view_is,
      length-lists_from c.self.inside.items.items 0 c.self.inside.ends.items,
      ap (λ (l : List ℕ). length l) c.deref.ensures.value,
      c.deref.ensures.len,
    )

pub part-requires : goal.part-requires
part-requires c =
    let items : List ℕ = c.self.inside.items.items in
    let ends : List ℕ = c.self.inside.ends.items in
    let place : ℕ = c.args.place in
    let inside = c.requires in
    let within : place < length ends =
    omega (
      arith,
      inside,
      ap (λ (l : List (List ℕ)). length l) c.self.view_is,
      length-lists_from items 0 ends,
    ) in
    let lies = place_within 0 ends (length items) place c.self.invariant within in
    let begin : c.begin_of-begin.result ≡ get_or (0 ∷ ends) place 0 =
    c.begin_of-begin.ensures ∙ ap (λ (l : List ℕ). get_or (0 ∷ l) place 0) c.deref.ensures.value in
    let end : c.index.result.now ≡ get_or ends place 0 =
    get_or_read ends place c.index.result.now within c.index.ensures 0 in
    let all = ap (λ (l : List ℕ). length l) c.deref-2.ensures.value in
    record {
      up = omega (arith, lies, begin, end);
      within = omega (arith, lies, end, all);
    }

pub returns : goal.returns
returns c =
    let items : List ℕ = c.self.inside.items.items in
    let ends : List ℕ = c.self.inside.ends.items in
    let place : ℕ = c.args.place in
    let inside = c.requires in
    let within : place < length ends =
    omega (
      arith,
      inside,
      ap (λ (l : List (List ℕ)). length l) c.self.view_is,
      length-lists_from items 0 ends,
    ) in
    let begin : c.begin_of-begin.result ≡ get_or (0 ∷ ends) place 0 =
    c.begin_of-begin.ensures ∙ ap (λ (l : List ℕ). get_or (0 ∷ l) place 0) c.deref.ensures.value in
    let end : c.index.result.now ≡ get_or ends place 0 =
    get_or_read ends place c.index.result.now within c.index.ensures 0 in
    c.part.ensures
    ∙ ap (λ (l : List ℕ). slice_range l c.begin_of-begin.result c.index.result.now)
    c.deref-2.ensures.value
    ∙ ap (λ (n : ℕ). slice_range items n c.index.result.now) begin
    ∙ ap (λ (n : ℕ). slice_range items (get_or (0 ∷ ends) place 0) n) end
    ∙ sym (list_from items 0 ends place within)
    ∙ ap (λ (l : List (List ℕ)). get_or l place []) c.self.view_is
