-- How thieves come back to their lanes.
use Rattle.std.proofs.Common.{ℕ, ◌≡◌, ◌<◌, ◌++◌, ◌∷◌, [], ◌==◌, ◌&&◌, List, Bool, false, cond, length, map, set, get_or, take, drop}
use Rattle.std.proofs.Common.{sym, ap, ◌∙◌, subst, inl, inr, arith, append_assoc, length-append}
use Rattle.std.proofs.Common.{get_or-set_same, get_or-set_other}
use Rattle.std.proofs.lemmas.List.{append-nil, length-set, map-append, map-set, get_or-map, length-map, take_all, drop_all}
use Rattle.std.proofs.lemmas.List.Elements.{filter-append}
use Rattle.std.proofs.lemmas.Bool.Decides.{eqb_tells}
use Rattle.std.proofs.lemmas.Bool.{cases_lt}
use Rattle.std.proofs.lemmas.List.{get_or_append_left}
use Rattle.std.proofs.Math.Seq.{get_or-append_seam}
use Rattle.std.specs.Prelude.{Option, None}
use Rattle.worker_run.specs.LaneViews.{ThiefView}
use Rattle.worker_run.specs.Closed.{Lane, Numbered, no_lane, back_at, given, lane_with, AreGiven, IsToldOf, AreToldOf}

back_at-append : (place number : ℕ) (ts us : List Numbered)
    → back_at place number (ts ++ us) ≡ back_at place number ts ++ back_at place number us
back_at-append place number ts us =
    ap (λ (l : List Numbered). map (λ t. t.1) l) (filter-append (λ t. (t.0 == place) && (t.0 == number)) ts us)
    ∙ map-append (λ (t : Numbered). t.1) _ _

given_twice : (place : ℕ) (ts us : List Numbered) (lane : Lane)
    → given place us (given place ts lane) ≡ given place (ts ++ us) lane
given_twice place ts us lane =
    ap (λ (l : List ThiefView). record lane { back = l })
    (append_assoc lane.back (back_at place lane.number ts) (back_at place lane.number us)
    ∙ ap (λ (l : List ThiefView). lane.back ++ l) (sym (back_at-append place lane.number ts us)))

given_none : (place : ℕ) (thieves : List Numbered) (lane : Lane)
    → back_at place lane.number thieves ≡ [] → lane ≡ given place thieves lane
given_none place thieves lane none =
    ap (λ (l : List ThiefView). record lane { back = l })
    (sym (append-nil lane.back) ∙ ap (λ (l : List ThiefView). lane.back ++ l) (sym none))

pub given_more : (was mid now : List Lane) (ts us : List Numbered) → AreGiven was ts mid → AreGiven mid us now
    → AreGiven was (ts ++ us) now
given_more was mid now ts us first second = record {
  count = second.count ∙ first.count;
  each = λ place less.
      second.each place (let same = first.count in omega arith)
      ∙ ap (given place us) (first.each place less)
      ∙ given_twice place ts us (get_or was place no_lane);
}

not_back : (place number : ℕ) (t : Numbered) → (t.0 == place) ≡ false → back_at place number (t ∷ []) ≡ []
not_back place number t other =
    ap (λ (b : Bool). map (λ (u : Numbered). u.1) (cond (b && (t.0 == number)) (t ∷ []) [])) other

-- a thief comes back to the lane at its place
pub given_at : (lanes : List Lane) (t : Numbered) (lane : Lane) → t.0 < length lanes
    → lane ≡ given t.0 (t ∷ []) (get_or lanes t.0 no_lane)
    → AreGiven lanes (t ∷ []) (set lanes t.0 lane)
given_at lanes t lane less is = record {
  count = length-set lanes t.0 lane;
  each = λ place below. elim (eqb_tells t.0 place) [
    | inl same ↦
        subst (λ (p : ℕ). get_or (set lanes t.0 lane) p no_lane ≡ given p (t ∷ []) (get_or lanes p no_lane)) same.1
        (get_or-set_same lanes t.0 lane no_lane less ∙ is)
    | inr other ↦
        get_or-set_other lanes t.0 place lane no_lane (λ e. other.1 (sym e))
        ∙ given_none place (t ∷ []) (get_or lanes place no_lane)
        (not_back place (get_or lanes place no_lane).number t other.0)
  ];
}

-- the same for a list of what is seen as lanes
pub given_in : {C : Type 0} (f : C → Lane) (xs : List C) (t : Numbered) (d y : C)
    → t.0 < length xs
    → (f y).number ≡ (f (get_or xs t.0 d)).number
    → (f y).owner ≡ (f (get_or xs t.0 d)).owner
    → (f y).back ≡ (f (get_or xs t.0 d)).back ++ back_at t.0 (f (get_or xs t.0 d)).number (t ∷ [])
    → AreGiven (map f xs) (t ∷ []) (map f (set xs t.0 y))
given_in f xs t d y less number owner back =
    let at : f (get_or xs t.0 d) ≡ get_or (map f xs) t.0 no_lane = sym (get_or-map f xs t.0 d no_lane less) in
    let made : f y ≡ given t.0 (t ∷ []) (f (get_or xs t.0 d)) = λ i. lane_with (number i) (owner i) (back i) in
    subst (AreGiven (map f xs) (t ∷ [])) (sym (map-set f xs t.0 y))
    (given_at (map f xs) t (f y) (omega (arith, length-map xs f)) (made ∙ ap (given t.0 (t ∷ [])) at))

-- a list that was written whole through its slice
pub written_back : {C : Type 0} (n : ℕ) (new old : List C) → length new ≡ n → length old ≡ n
    → take n (new ++ drop (length new) old) ≡ new
written_back n new old long same =
    ap (λ l. take n (new ++ l)) (drop_all (length new) old (omega arith))
    ∙ ap (take n) (append-nil new) ∙ take_all n new (omega arith)

-- one lane more, and what is answered about it
pub told_more : (lanes : List Lane) (told : List (Option ℕ)) (lane : Lane) (its : Option ℕ)
    → AreToldOf lanes told → IsToldOf lane its → AreToldOf (lanes ++ lane ∷ []) (told ++ its ∷ [])
told_more lanes told lane its are is = record {
  count = let same = are.count in omega (arith, length-append lanes (lane ∷ []), length-append told (its ∷ []));
  each = λ place less.
      let P : Lane × Option ℕ → Type 0 = λ p. IsToldOf p.0 p.1 in elim (cases_lt place (length lanes)) [
        | inl before ↦
            let within : place < length told = let same = are.count in omega arith in
            let lane_is = get_or_append_left lanes (lane ∷ []) no_lane place before in
            let its_is = get_or_append_left told (its ∷ []) None place within in
            subst P (λ i. (sym lane_is i, sym its_is i)) (are.each place before)
        | inr past ↦
            let last : length lanes ≡ place = omega (arith, length-append lanes (lane ∷ [])) in
            let told_last : length told ≡ place = are.count ∙ last in
            let lane_is = ap (λ (n : ℕ). get_or (lanes ++ lane ∷ []) n no_lane) (sym last)
            ∙ get_or-append_seam lanes lane [] no_lane in
            let its_is = ap (λ (n : ℕ). get_or (told ++ its ∷ []) n None) (sym told_last)
            ∙ get_or-append_seam told its [] None in
            subst P (λ i. (sym lane_is i, sym its_is i)) is
      ];
}
