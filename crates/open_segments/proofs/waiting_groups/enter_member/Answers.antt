use Rattle.std.proofs.Common.{ℕ, ◌≡◌, ◌↔◌, Option, Some, sym, ◌∙◌, subst, arith, Vec, Global}
use Rattle.std.proofs.lemmas.List.{length-map}
use Rattle.std.proofs.lemmas.Option.{none-some}
use Rattle.std.proofs.lemmas.Result.{on_ok_weaker}
use Rattle.depend_table.specs.KeptEdges.{KeptGroupEnd}
use Rattle.open_segments.specs.NumberLists.{lists_of}
use Rattle.open_segments.proofs.Members.{group_ends, none_entered, one_entered}
use Rattle.open_segments.proofs.waiting_groups.enter_member.Goals as goal

pub place_in-requires : goal.place_in-requires
place_in-requires g c =
    let end = (c.joined_group.ensures c.in-Some.group).0 c.in-Some.is in
    let groups = c.requires.so_far.after_groups in
    record {
      ascending = groups.ascending;
      among = (groups.each c.in-Some.group).1 (group_ends c.args.table.now c.args.segment
          c.in-Some.group c.reads_in_place.ensures end);
    }

pub push_one-requires : goal.push_one-requires
push_one-requires g c =
    let within = c.place_in.ensures.within in
    let each = c.requires.so_far.each in
    omega (arith, within, each, length-map c.args.lists.now.items (λ (v : Vec ℕ Global). v.items))

pub returns-in-Some : goal.returns-in-Some
returns-in-Some g c =
    let table = c.args.table.now in
    let P : Option ℕ → Type 0 = λ found.
    (t : ℕ) → (found ≡ Some t) ↔ KeptGroupEnd table c.args.segment t in
    on_ok_weaker c.push_one.result
    (λ are. one_entered table c.args.segment c.in-Some.group c.place_in.result c.args.groups.now
    (lists_of c.args.lists.now.items) (lists_of c.push_one.new.lists.items)
    (subst P c.in-Some.is c.joined_group.ensures) c.place_in.ensures.within c.place_in.ensures.there
    are c.requires.so_far) c.push_one.ensures

pub returns-in-None : goal.returns-in-None
returns-in-None g c =
    none_entered c.args.table.now c.args.segment c.args.groups.now
    (lists_of c.args.lists.now.items)
    (λ t end. absurd (none-some t (sym c.in-None.is ∙ (c.joined_group.ensures t).1 end)))
    c.requires.so_far
