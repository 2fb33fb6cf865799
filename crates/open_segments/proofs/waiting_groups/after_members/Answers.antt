use Rattle.std.proofs.Common.{ℕ, ◌<◌, ◌≡◌, [], List, Vec, Global, length, get_or, ap, sym, ◌∙◌}
use Rattle.std.proofs.Common.{arith, subst}
use Rattle.std.specs.Prelude.{Contains}
use Rattle.std.proofs.lemmas.List.{get_or-map, length-map}
use Rattle.depend_table.specs.KeptEdges.{KeptGroupEnd}
use Rattle.depend_table.specs.Lists.{Lists}
use Rattle.open_segments.specs.NumberLists.{lists_of}
use Rattle.open_segments.proofs.ListLemmas.{Below}
use Rattle.open_segments.proofs.Members.{members_then_before}
use Rattle.open_segments.proofs.waiting_groups.after_members.Goals as goal

pub place_in-place-requires-clause-among : goal.place_in-place-requires-clause-among
place_in-place-requires-clause-among g c =
    subst (λ (l : List ℕ). Contains l c.args.next) (sym c.deref.ensures.value)
    ((c.requires.members.after_groups.each c.args.next).1 (record {
      before = c.args.before;
      is_before = c.requires.follows.is_from;
      ends_group = c.requires.ends;
      after = c.requires.follows;
    }))

pub returns : goal.returns
returns g c =
    let table = c.args.table.now in
    let members = c.requires.members in
    let groups : List ℕ = c.args.members.now.groups.items in
    let lists : List (Vec ℕ Global) = c.args.members.now.lists.items in
    let place : ℕ = c.place_in-place.result in
    let row : Vec ℕ Global → List ℕ = λ v. v.items in
    let item = c.index.result.now in
    let known : place < length groups =
    omega (arith, c.place_in-place.ensures.within, ap (λ (l : List ℕ). length l) c.deref.ensures.value) in
    let there : get_or groups place 0 ≡ c.args.next =
    sym (ap (λ (l : List ℕ). get_or l place 0) c.deref.ensures.value)
    ∙ c.place_in-place.ensures.there in
    let within : place < length lists =
    let each = members.each in omega (arith, known, each, length-map lists row) in
    let list : get_or (lists_of lists) place [] ≡ c.in_ok-preds.preds.items =
    get_or-map row lists place item [] within
    ∙ ap row (sym c.index.ensures)
    ∙ sym c.as_slice.ensures.value
    ∙ sym c.in_ok-preds.ensures.items in
    let of_group =
    subst (λ (t : ℕ). Lists (Below (λ s. KeptGroupEnd table s t) (length table.segments))
    (get_or (lists_of lists) place [])) there (members.kept place known) in
    members_then_before table c.args.before c.args.next c.in_ok-preds.preds.items
    c.push.new.self.items c.reads_in_place.ensures c.requires.follows c.requires.ends
    (subst (λ (l : List ℕ). Lists (Below (λ s. KeptGroupEnd table s c.args.next)
    (length table.segments)) l) list of_group)
    c.in_ok-push.ensures.items
