use Rattle.std.proofs.Common.{ℕ, ◌+◌, ◌≡◌, ◌∷◌, ◌++◌, [], List, length, get_or, set, sym, ap, ◌∙◌, subst, arith}
use Rattle.std.proofs.lemmas.List.{get_or_read, length-set}
use Rattle.open_segments.specs.FilledLists.{Filled, lists_with, rooms_from, AreFilled}
use Rattle.open_segments.specs.FlatLists.{AreEnds}
use Rattle.open_segments.proofs.FilledLists.{place_of, one_more, filled_more, room_at}
use Rattle.open_segments.proofs.filling.Filling.add.Goals as goal

pub index-count-requires : goal.index-count-requires
index-count-requires c =
    let has = place_of c.self.inside c.args.place c.args.self.now c.self.invariant c.self.view_is
    c.requires.inside c.requires.room in
    omega (arith, has, c.self.inside.counts.ok.0)

pub begin_of-requires : goal.begin_of-requires
begin_of-requires c =
    let has = place_of c.self.inside c.args.place c.args.self.now c.self.invariant c.self.view_is
    c.requires.inside c.requires.room in
    omega (arith, has, ap (λ (l : List ℕ). length l) c.deref.ensures.value)

pub overflow_add-next : goal.overflow_add-next
overflow_add-next c =
    let items : List ℕ = c.self.inside.items.items in
    let ends : List ℕ = c.self.inside.ends.items in
    let counts : List ℕ = c.self.inside.counts.items in
    let place : ℕ = c.args.place in
    let has = place_of c.self.inside place c.args.self.now c.self.invariant c.self.view_is
    c.requires.inside c.requires.room in
    let count : c.index-count.result.now ≡ get_or counts place 0 =
    get_or_read counts place c.index-count.result.now has.of_counts c.index-count.ensures 0 in
    let begin : c.begin_of.result ≡ get_or (0 ∷ ends) place 0 =
    c.begin_of.ensures ∙ ap (λ (l : List ℕ). get_or (0 ∷ l) place 0) c.deref.ensures.value in
    record { fits = omega (arith, has, count, begin, c.self.inside.items.ok.0, c.self.inside.items.small) }

pub index_mut-requires : goal.index_mut-requires
index_mut-requires c =
    let items : List ℕ = c.self.inside.items.items in
    let ends : List ℕ = c.self.inside.ends.items in
    let counts : List ℕ = c.self.inside.counts.items in
    let place : ℕ = c.args.place in
    let has = place_of c.self.inside place c.args.self.now c.self.invariant c.self.view_is
    c.requires.inside c.requires.room in
    let count : c.index-count.result.now ≡ get_or counts place 0 =
    get_or_read counts place c.index-count.result.now has.of_counts c.index-count.ensures 0 in
    let begin : c.begin_of.result ≡ get_or (0 ∷ ends) place 0 =
    c.begin_of.ensures ∙ ap (λ (l : List ℕ). get_or (0 ∷ l) place 0) c.deref.ensures.value in
    omega (arith, has, count, begin, c.self.inside.items.ok.0)

pub overflow_add-count : goal.overflow_add-count
overflow_add-count c =
    let items : List ℕ = c.self.inside.items.items in
    let ends : List ℕ = c.self.inside.ends.items in
    let counts : List ℕ = c.self.inside.counts.items in
    let place : ℕ = c.args.place in
    let has = place_of c.self.inside place c.args.self.now c.self.invariant c.self.view_is
    c.requires.inside c.requires.room in
    let count : c.index-count.result.now ≡ get_or counts place 0 =
    get_or_read counts place c.index-count.result.now has.of_counts c.index-count.ensures 0 in
    let few = c.requires.few in
    record {
      fits = omega (
        arith,
        has,
        count,
        few,
        ap (λ (f : Filled). get_or f.rooms place 0) c.self.view_is,
        room_at 0 ends place,
      );
    }

pub index_mut-requires-2 : goal.index_mut-requires-2
index_mut-requires-2 c =
    let has = place_of c.self.inside c.args.place c.args.self.now c.self.invariant c.self.view_is
    c.requires.inside c.requires.room in
    omega (arith, has, c.self.inside.counts.ok.0)

pub invariant_of-self : goal.invariant_of-self
invariant_of-self c =
    let items : List ℕ = c.self.inside.items.items in
    let ends : List ℕ = c.self.inside.ends.items in
    let counts : List ℕ = c.self.inside.counts.items in
    let place : ℕ = c.args.place in
    let has = place_of c.self.inside place c.args.self.now c.self.invariant c.self.view_is
    c.requires.inside c.requires.room in
    let count : c.index-count.result.now ≡ get_or counts place 0 =
    get_or_read counts place c.index-count.result.now has.of_counts c.index-count.ensures 0 in
    let begin : c.begin_of.result ≡ get_or (0 ∷ ends) place 0 =
    c.begin_of.ensures ∙ ap (λ (l : List ℕ). get_or (0 ∷ l) place 0) c.deref.ensures.value in
    let next : c.begin_of.result + c.index-count.result.now
    ≡ get_or (0 ∷ ends) place 0 + get_or counts place 0 = omega (arith, begin, count) in (
      subst (λ (n : ℕ). AreEnds 0 ends n)
          (sym (length-set items (c.begin_of.result + c.index-count.result.now) c.args.number))
          c.self.invariant.0,
      subst (λ (n : ℕ). AreFilled 0 ends (set counts place (n + 1))) (sym count)
          (filled_more 0 ends counts place c.self.invariant.1 has.of_ends has.room),
    )

pub returns : goal.returns
returns c =
    let items : List ℕ = c.self.inside.items.items in
    let ends : List ℕ = c.self.inside.ends.items in
    let counts : List ℕ = c.self.inside.counts.items in
    let place : ℕ = c.args.place in
    let has = place_of c.self.inside place c.args.self.now c.self.invariant c.self.view_is
    c.requires.inside c.requires.room in
    let count : c.index-count.result.now ≡ get_or counts place 0 =
    get_or_read counts place c.index-count.result.now has.of_counts c.index-count.ensures 0 in
    let begin : c.begin_of.result ≡ get_or (0 ∷ ends) place 0 =
    c.begin_of.ensures ∙ ap (λ (l : List ℕ). get_or (0 ∷ l) place 0) c.deref.ensures.value in
    let next : c.begin_of.result + c.index-count.result.now
    ≡ get_or (0 ∷ ends) place 0 + get_or counts place 0 = omega (arith, begin, count) in
    let number : ℕ = c.args.number in
    let at : ℕ = c.begin_of.result + c.index-count.result.now in
    let old : List (List ℕ) = lists_with items 0 ends counts in
    let lists : lists_with (set items at number) 0 ends (set counts place (c.index-count.result.now + 1))
    ≡ set old place (get_or old place [] ++ number ∷ []) =
    ap (λ (n : ℕ). lists_with (set items at number) 0 ends (set counts place (n + 1))) count
    ∙ one_more items 0 ends counts place number at c.self.invariant.0 c.self.invariant.1 has.of_ends
    next (omega (arith, next, has)) in
    ap (λ (l : List (List ℕ)). record { lists = l; rooms = rooms_from 0 ends }) lists
    ∙ ap (λ (f : Filled). record f {
      lists = set f.lists place (get_or f.lists place []
          ++ number ∷ []);
    }) c.self.view_is
