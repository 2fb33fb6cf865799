use Rattle.std.proofs.Common.{ℕ, ◌+◌, ◌≡◌, ◌++◌, ◌∷◌, [], List, length, take, get_or, refl, sym, ap, ◌∙◌}
use Rattle.std.proofs.Common.{subst, arith}
use Rattle.std.proofs.lemmas.List.{take_all, take_more}
use Rattle.open_segments.specs.FilledLists.{rooms_from}
use Rattle.open_segments.specs.FlatLists.{AreEnds}
use Rattle.open_segments.proofs.FlatLists.{ends_pushed}
use Rattle.open_segments.proofs.FilledLists.{rooms_pushed, last_pushed}
use Rattle.open_segments.proofs.filling.ends_of.Goals as goal

pub loop-room-init : goal.loop-room-init
loop-room-init c =
    let none = c.in_ok-ends.ensures.items in
    record {
      rooms = ap (λ (l : List ℕ). rooms_from 0 l) none;
      ends = subst (λ (l : List ℕ). AreEnds 0 l 0) (sym none) refl;
      last = sym (ap (λ (l : List ℕ). get_or (0 ∷ l) (length l) 0) none);
    }

pub loop-room-preserved : goal.loop-room-preserved
loop-room-preserved c =
    let ends : List ℕ = c.loop-room.ends.items in
    let index : ℕ = c.loop-room.room-index in
    let room : ℕ = get_or c.args.rooms.now index 0 in
    let end : c.in-Some.end ≡ c.loop-room.end + room =
    let is = c.in-Some.ensures in omega (arith, is) in
    let so_far = c.loop-room.invariant in
    let pushed = c.in_ok-push.ensures.items in
    let more : rooms_from 0 (ends ++ c.in-Some.end ∷ []) ≡ take (index + 1) c.args.rooms.now =
    ap (λ (n : ℕ). rooms_from 0 (ends ++ n ∷ [])) end
    ∙ rooms_pushed 0 ends c.loop-room.end room so_far.ends
    ∙ ap (λ (l : List ℕ). l ++ room ∷ []) so_far.rooms
    ∙ sym (take_more c.args.rooms.now index 0 c.loop-room-test.true) in
    record {
      rooms = ap (λ (l : List ℕ). rooms_from 0 l) pushed ∙ more;
      ends = subst (λ (l : List ℕ). AreEnds 0 l c.in-Some.end) (sym pushed)
          (ends_pushed 0 ends c.loop-room.end c.in-Some.end so_far.ends (omega (arith, end)));
      last = sym (ap (λ (l : List ℕ). get_or (0 ∷ l) (length l) 0) pushed
          ∙ last_pushed 0 ends c.in-Some.end);
    }

pub returns-clause-ends : goal.returns-clause-ends
returns-clause-ends c =
    c.loop-room.invariant.rooms
    ∙ take_all c.loop-room.room-index c.args.rooms.now (omega (arith, c.loop-room-test.false))

pub returns-clause-ascend : goal.returns-clause-ascend
returns-clause-ascend c =
    subst (λ (n : ℕ). AreEnds 0 c.loop-room.ends.items n) c.loop-room.invariant.last
    c.loop-room.invariant.ends
