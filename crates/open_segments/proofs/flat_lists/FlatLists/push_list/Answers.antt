use Rattle.std.proofs.Common.{ℕ, ◌+◌, ◌≡◌, ◌++◌, ◌∷◌, List, [], length, sym, ap, ◌∙◌, subst, arith}
use Rattle.std.proofs.lemmas.List.{length-append}
use Rattle.open_segments.specs.FlatLists.{lists_from, AreEnds}
use Rattle.open_segments.proofs.FlatLists.{list_pushed, ends_pushed}
use Rattle.open_segments.proofs.flat_lists.FlatLists.push_list.Goals as goal

pub invariant_of-self-2 : goal.invariant_of-self-2
invariant_of-self-2 c =
    let items : List ℕ = c.self.inside.items.items in
    let ends : List ℕ = c.self.inside.ends.items in
    let now : List ℕ = c.extend_from_slice.new.self.items in
    let more = ap (λ (l : List ℕ). length l) c.in_ok-extend_from_slice.ensures.items in
    let last : c.len.result ≡ length now =
    omega (arith, c.len.ensures, c.extend_from_slice.new.self.ok.0) in
    let is : c.push_reserved.new.self.items ≡ ends ++ c.len.result ∷ [] =
    c.push_reserved.ensures.items
    ∙ ap (λ (l : List ℕ). l ++ c.len.result ∷ []) c.reserve.ensures.items in
    subst (λ (l : List ℕ). AreEnds 0 l (length now)) (sym is)
    (subst (λ (n : ℕ). AreEnds 0 (ends ++ c.len.result ∷ []) n) last
    (ends_pushed 0 ends (length items) c.len.result c.self.invariant
    (omega (arith, last, more, length-append items c.args.list.now))))

pub returns-clause-pushed : goal.returns-clause-pushed
returns-clause-pushed c =
    let items : List ℕ = c.self.inside.items.items in
    let ends : List ℕ = c.self.inside.ends.items in
    let list : List ℕ = c.args.list.now in
    let now : List ℕ = c.extend_from_slice.new.self.items in
    let more : now ≡ items ++ list = c.in_ok-extend_from_slice.ensures.items in
    let last : c.len.result ≡ length items + length list =
    omega (
      arith,
      c.len.ensures,
      c.extend_from_slice.new.self.ok.0,
      ap (λ (l : List ℕ). length l) more,
      length-append items list,
    ) in
    let is : c.push_reserved.new.self.items ≡ ends ++ c.len.result ∷ [] =
    c.push_reserved.ensures.items
    ∙ ap (λ (l : List ℕ). l ++ c.len.result ∷ []) c.reserve.ensures.items in
    ap (λ (l : List ℕ). lists_from l 0 c.push_reserved.new.self.items) more
    ∙ ap (λ (l : List ℕ). lists_from (items ++ list) 0 l) is
    ∙ list_pushed items list 0 ends c.len.result c.self.invariant last
    ∙ ap (λ (l : List (List ℕ)). l ++ list ∷ []) c.self.view_is
