use Rattle.std.proofs.Common.{ℕ, ◌≡◌, ◌∷◌, [], List, length, get_or, sym, ap, ◌∙◌, subst, arith}
use Rattle.std.specs.Prelude.{replicate}
use Rattle.std.proofs.lemmas.List.{length-replicate}
use Rattle.open_segments.specs.FilledLists.{lists_with, AreFilled}
use Rattle.open_segments.specs.FlatLists.{AreEnds}
use Rattle.open_segments.proofs.FilledLists.{length-rooms, nothing_filled}
use Rattle.open_segments.proofs.filling.Filling.with_room.Goals as goal

pub invariant_of-result : goal.invariant_of-result
invariant_of-result c =
    let ends : List ℕ = c.in_ok-ends.ends.items in
    let last : ℕ = get_or (0 ∷ ends) (length ends) 0 in
    let count : c.len.result ≡ length ends = omega (arith, c.len.ensures, c.in_ok-ends.ends.ok.0) in
    let total : c.begin_of.result ≡ last =
    c.begin_of.ensures
    ∙ ap (λ (l : List ℕ). get_or (0 ∷ l) c.len.result 0) c.deref.ensures.value
    ∙ ap (λ (n : ℕ). get_or (0 ∷ ends) n 0) count in
    let each : length c.in_ok-items.items.items ≡ last =
    ap (λ (l : List ℕ). length l) c.in_ok-items.ensures
    ∙ length-replicate c.begin_of.result 0
    ∙ total in
    let same : c.in_ok-counts.counts.items ≡ replicate (length ends) 0 =
    c.in_ok-counts.ensures ∙ ap (λ (n : ℕ). replicate n 0) (omega (arith, c.len-2.ensures, count, c.len.ensures)) in (
      subst (λ (n : ℕ). AreEnds 0 ends n) (sym each) c.in_ok-ends.ensures.ascend,
      subst (λ (l : List ℕ). AreFilled 0 ends l) (sym same)
          (nothing_filled c.in_ok-items.items.items 0 ends last c.in_ok-ends.ensures.ascend).1,
    )

pub returns-clause-lists : goal.returns-clause-lists
returns-clause-lists c =
    let ends : List ℕ = c.in_ok-ends.ends.items in
    let items : List ℕ = c.in_ok-items.items.items in
    let last : ℕ = get_or (0 ∷ ends) (length ends) 0 in
    let count : c.len-2.result ≡ length ends =
    omega (arith, c.len-2.ensures, c.in_ok-ends.ends.ok.0) in
    let same : c.in_ok-counts.counts.items ≡ replicate (length ends) 0 =
    c.in_ok-counts.ensures ∙ ap (λ (n : ℕ). replicate n 0) count in
    let rooms : length ends ≡ length c.args.rooms.now =
    sym (length-rooms 0 ends) ∙ ap (λ (l : List ℕ). length l) c.in_ok-ends.ensures.ends in
    ap (λ (l : List ℕ). lists_with items 0 ends l) same
    ∙ (nothing_filled items 0 ends last c.in_ok-ends.ensures.ascend).0
    ∙ ap (λ (n : ℕ). replicate {A = List ℕ} n []) rooms
