-- What is known of times that are read line by line.
use Rattle.std.proofs.Common.{◌≡◌, ◌≢◌, ◌+◌, ◌<◌, ◌≤◌, ◌∙◌, ℕ, List, length, Option, Some, None, Ok, Err}
use Rattle.std.proofs.Common.{Result, true, false, ap, sym, refl, subst, arith, inl, inr, nat_lt, set}
use Rattle.std.proofs.lemmas.Bool.{cases_eq, cases_lt, lt-ltb, le-ltb}
use Rattle.std.proofs.lemmas.List.{get_or-set_same, get_or-set_other, length-set}
use Rattle.time_text.specs.Reading.{IsRegionSoFar, IsSoFar, Progress, put, put_into, row_at, step, with_rows}
use Rattle.time_text.specs.TimeLines.{says}
use Rattle.time_text.specs.TimesTexts.{AreRightBefore, HasRegionBefore, IsInPlace}
use Rattle.time_text.specs.TimesTexts.{IsNextSegment, IsRight, IsSegmentLine}
use Rattle.time_text.specs.TimesTexts.{IsTextFault, MayStand}
use Rattle.time_text.specs.declared.fault.TimeTextFault.{TimeTextFault}
use Rattle.time_text.specs.declared.fault.TimeTextFault.TheVariants.{BadForm, UnknownSegment, TimedTwice}
use Rattle.time_text.specs.declared.line.RegionTimes.{RegionTimes}
use Rattle.time_text.specs.declared.line.SegmentTimes.{SegmentTimes}
use Rattle.time_text.specs.declared.line.TimeLine.{TimeLine}
use Rattle.time_text.specs.declared.line.TimeLine.TheVariants.{Blank, Region, Segment}

-- a fact of the numbers below one and of that one
pub one_more_below : (P : ℕ → Type 0) (k : ℕ) → ((j : ℕ) → j < k → P j) → P k → (j : ℕ)
    → j < k + 1 → P j
one_more_below P k below here j h = elim (cases_lt j k) [
  | inl less ↦ below j less
  | inr not_less ↦ let same : k ≡ j = omega arith in subst P same here
]

-- what may stand on a line, by what it says
placed : (lines : List (List ℕ)) (k : ℕ) (said : Option TimeLine) → says lines k ≡ said
    → MayStand lines k said → IsInPlace lines k
placed lines k said e h = subst (MayStand lines k) (sym e) h

misplaced : (lines : List (List ℕ)) (k : ℕ) (said : Option TimeLine) → says lines k ≡ said
    → (MayStand lines k said → ⊥) → IsInPlace lines k → ⊥
misplaced lines k said e never h = never (subst (MayStand lines k) e h)

-- a line that has no times of a segment, where it may stand
silent : (n : ℕ) (lines : List (List ℕ)) (k : ℕ) → IsInPlace lines k
    → ((times : SegmentTimes) → IsSegmentLine lines k times → ⊥) → IsRight n lines k
silent n lines k place none = record {
  in_place = place;
  known = λ times h. absurd (none times h);
  once = λ times h _. none times h;
}

blank_more : (n : ℕ) (lines : List (List ℕ)) (k : ℕ) (region : Option RegionTimes)
    → says lines k ≡ Some Blank → IsRegionSoFar lines k region → IsRegionSoFar lines (k + 1) region
blank_more n lines k None e h = one_more_below (λ i. says lines i ≡ Some Blank) k h e
blank_more n lines k (Some region) e h = (h.0, omega (arith, h.1), h.2)

not_segment : (lines : List (List ℕ)) (k : ℕ) (said : TimeLine) → says lines k ≡ Some said
    → ((times : SegmentTimes) → said ≡ Segment times → ⊥)
    → (times : SegmentTimes) → IsSegmentLine lines k times → ⊥
not_segment lines k said e never times h =
    let same : Some said ≡ Some (Segment times) = sym e ∙ h in
    never times (cc)

-- a line that has no times of a segment
more_of_region : (n : ℕ) (lines : List (List ℕ)) (k : ℕ) (region after : Option RegionTimes)
    (rows : List (Option SegmentTimes))
    → IsSoFar n lines k region rows
    → IsRight n lines k
    → ((times : SegmentTimes) → IsSegmentLine lines k times → ⊥)
    → IsRegionSoFar lines (k + 1) after
    → IsSoFar n lines (k + 1) after rows
more_of_region n lines k region after rows so_far right none told = record {
  right = one_more_below (IsRight n lines) k so_far.right right;
  region_told = told;
  each = so_far.each;
  kept = λ i times h is. elim (cases_lt i k) [
    | inl less ↦ so_far.kept i times less is
    | inr not_less ↦
        let same : i ≡ k = omega arith in
        absurd (none times (subst (λ j. IsSegmentLine lines j times) same is))
  ];
  told = λ s times h.
      let was = so_far.told s times h in (was.0, was.1, omega (arith, was.2), was.3);
}

blank_line : (n : ℕ) (lines : List (List ℕ)) (k : ℕ) (region : Option RegionTimes)
    (rows : List (Option SegmentTimes))
    → IsSoFar n lines k region rows
    → says lines k ≡ Some Blank
    → IsSoFar n lines (k + 1) region rows
blank_line n lines k region rows so_far e =
    let none = not_segment lines k Blank e (λ times same. let never : Blank ≡ Segment times = same in cc) in
    more_of_region n lines k region region rows so_far
    (silent n lines k (placed lines k (Some Blank) e tt) none) none
    (blank_more n lines k region e so_far.region_told)

region_line : (n : ℕ) (lines : List (List ℕ)) (k : ℕ) (told : RegionTimes)
    (rows : List (Option SegmentTimes))
    → IsSoFar n lines k None rows
    → says lines k ≡ Some (Region told)
    → IsSoFar n lines (k + 1) (Some told) rows
region_line n lines k told rows so_far e =
    let none = not_segment lines k (Region told) e
    (λ times same. let never : Region told ≡ Segment times = same in cc) in
    more_of_region n lines k None (Some told) rows so_far
    (silent n lines k (placed lines k (Some (Region told)) e so_far.region_told) none) none
    (k, omega arith, record { told = e; first = so_far.region_told })

-- the times of a segment that has none yet
segment_line : (n : ℕ) (lines : List (List ℕ)) (k : ℕ) (region : RegionTimes)
    (rows : List (Option SegmentTimes)) (times : SegmentTimes)
    → IsSoFar n lines k (Some region) rows
    → IsSegmentLine lines k times
    → times.segment < length rows
    → row_at rows times.segment ≡ None
    → IsSoFar n lines (k + 1) (Some region) (set rows times.segment (Some times))
segment_line n lines k region rows times so_far e inside empty =
    let place : HasRegionBefore lines k = record {
      line = so_far.region_told.0;
      region = region;
      before = so_far.region_told.1;
      is_region = so_far.region_told.2;
    } in
    let one : (other : SegmentTimes) → IsSegmentLine lines k other → other ≡ times =
    λ other h. let same : Some (Segment other) ≡ Some (Segment times) = sym h ∙ e in cc in
    let right : IsRight n lines k = record {
      in_place = placed lines k (Some (Segment times)) e place;
      known = λ other h. let same = one other h in
          omega (arith, ap (λ (t : SegmentTimes). t.segment) same, so_far.each, inside);
      once = λ other h before.
          let same : before.times.segment ≡ times.segment =
          before.same ∙ ap (λ (t : SegmentTimes). t.segment) (one other h) in
          let full = so_far.kept before.line before.times before.before before.told in
          let here : row_at rows times.segment ≡ Some before.times =
          ap (row_at rows) (sym same) ∙ full in
          let never : None ≡ Some before.times = sym empty ∙ here in cc;
    } in
    let after = set rows times.segment (Some times) in
    record {
      right = one_more_below (IsRight n lines) k so_far.right right;
      region_told = (so_far.region_told.0, omega (arith, so_far.region_told.1), so_far.region_told.2);
      each = length-set rows times.segment (Some times) ∙ so_far.each;
      kept = λ i other h is. elim (cases_lt i k) [
        | inl less ↦
            let was = so_far.kept i other less is in
            let apart : other.segment ≢ times.segment = λ same.
            let never : Some other ≡ None = sym was ∙ ap (row_at rows) same ∙ empty in cc in
            get_or-set_other rows times.segment other.segment (Some times) None apart ∙ was
        | inr not_less ↦
            let at_k : i ≡ k = omega arith in
            let same : other ≡ times =
            one other (subst (λ j. IsSegmentLine lines j other) at_k is) in
            ap (λ (t : SegmentTimes). row_at after t.segment) same
            ∙ get_or-set_same rows times.segment (Some times) None inside
            ∙ ap (λ (t : SegmentTimes). Some t) (sym same)
      ];
      told = λ s other h. elim (cases_eq s times.segment) [
        | inl same ↦
            let put_there : Some times ≡ Some other =
            sym (ap (row_at after) same ∙ get_or-set_same rows times.segment (Some times) None inside)
            ∙ h in
            let is : times ≡ other = cc in (
              ap (λ (t : SegmentTimes). t.segment) (sym is) ∙ sym same,
              k,
              omega arith,
              subst (IsSegmentLine lines k) is e,
            )
        | inr apart ↦
            let was = so_far.told s other
            (sym (get_or-set_other rows times.segment s (Some times) None apart) ∙ h) in
            (was.0, was.1, omega (arith, was.2), was.3)
      ];
    }

put_inside : (rows : List (Option SegmentTimes)) (k : ℕ) (times : SegmentTimes)
    (o : Option SegmentTimes)
    → times.segment < length rows
    → row_at rows times.segment ≡ o
    → put rows k times ≡ put_into o rows k times
put_inside rows k times o inside e =
    let fits : nat_lt times.segment (length rows) ≡ true =
    lt-ltb times.segment (length rows) inside in
    rw fits (ap (λ (row : Option SegmentTimes). put_into row rows k times) e)

put_outside : (rows : List (Option SegmentTimes)) (k : ℕ) (times : SegmentTimes)
    → length rows ≤ times.segment
    → put rows k times ≡ Err (UnknownSegment k)
put_outside rows k times outside =
    let over : nat_lt times.segment (length rows) ≡ false =
    le-ltb times.segment (length rows) outside in
    rw over refl

-- a step that is made leads to what it answers
abbrev made : Progress → Result Progress TimeTextFault → Progress
made before (Ok after) = after
made before (Err fault) = before

-- a step that is refused has a fault
abbrev why : TimeTextFault → Result Progress TimeTextFault → TimeTextFault
why before (Ok after) = before
why before (Err fault) = fault

abbrev IsSoFarAt : ℕ → List (List ℕ) → ℕ → Progress → Type 0
IsSoFarAt n lines k p = IsSoFar n lines k p.region p.rows

reached : (n : ℕ) (lines : List (List ℕ)) (k : ℕ) (p after : Progress)
    (made_step : Result Progress TimeTextFault)
    → made_step ≡ Ok p
    → made_step ≡ Ok after
    → IsSoFarAt n lines k p
    → IsSoFarAt n lines k after
reached n lines k p after made_step one other h =
    subst (IsSoFarAt n lines k) (ap (made p) (sym one ∙ other)) h

not_refused : {P : Type 0} (r : Result Progress TimeTextFault) (after : Progress)
    (fault : TimeTextFault) → r ≡ Err fault → r ≡ Ok after → P
not_refused r after fault one other =
    let never : Err fault ≡ Ok after = sym one ∙ other in absurd (cc)

segment_more_by : (n : ℕ) (lines : List (List ℕ)) (k : ℕ) (region : RegionTimes)
    (rows : List (Option SegmentTimes)) (times : SegmentTimes) (after : Progress)
    (row : Option SegmentTimes)
    → IsSoFar n lines k (Some region) rows
    → IsSegmentLine lines k times
    → times.segment < length rows
    → row_at rows times.segment ≡ row
    → with_rows (Some region) (put rows k times) ≡ Ok after
    → IsSoFarAt n lines (k + 1) after
segment_more_by n lines k region rows times after None so_far e inside empty moves =
    reached n lines (k + 1)
    (record { region = Some region; rows = set rows times.segment (Some times) }) after
    (with_rows (Some region) (put rows k times))
    (ap (with_rows (Some region)) (put_inside rows k times None inside empty)) moves
    (segment_line n lines k region rows times so_far e inside empty)
segment_more_by n lines k region rows times after (Some other) so_far e inside full moves =
    not_refused (with_rows (Some region) (put rows k times)) after (TimedTwice k)
    (ap (with_rows (Some region)) (put_inside rows k times (Some other) inside full)) moves

segment_more : (n : ℕ) (lines : List (List ℕ)) (k : ℕ) (region : RegionTimes)
    (rows : List (Option SegmentTimes)) (times : SegmentTimes) (after : Progress)
    → IsSoFar n lines k (Some region) rows
    → IsSegmentLine lines k times
    → with_rows (Some region) (put rows k times) ≡ Ok after
    → IsSoFarAt n lines (k + 1) after
segment_more n lines k region rows times after so_far e moves =
    elim (cases_lt times.segment (length rows)) [
      | inl inside ↦
          segment_more_by n lines k region rows times after (row_at rows times.segment) so_far e
          inside refl moves
      | inr outside ↦
          not_refused (with_rows (Some region) (put rows k times)) after (UnknownSegment k)
          (ap (with_rows (Some region)) (put_outside rows k times outside)) moves
    ]

-- what one line more says is right
pub one_more : (n : ℕ) (lines : List (List ℕ)) (k : ℕ) (region : Option RegionTimes)
    (rows : List (Option SegmentTimes)) (said : Option TimeLine) (after : Progress)
    → IsSoFar n lines k region rows
    → says lines k ≡ said
    → step region rows k said ≡ Ok after
    → IsSoFar n lines (k + 1) after.region after.rows
one_more n lines k region rows None after so_far e moves =
    not_refused (Err (BadForm k)) after (BadForm k) refl moves
one_more n lines k region rows (Some Blank) after so_far e moves =
    reached n lines (k + 1) (record { region = region; rows = rows }) after
    (Ok (record { region = region; rows = rows })) refl moves
    (blank_line n lines k region rows so_far e)
one_more n lines k None rows (Some (Region told)) after so_far e moves =
    reached n lines (k + 1) (record { region = Some told; rows = rows }) after
    (Ok (record { region = Some told; rows = rows })) refl moves
    (region_line n lines k told rows so_far e)
one_more n lines k (Some region) rows (Some (Region told)) after so_far e moves =
    not_refused (Err (BadForm k)) after (BadForm k) refl moves
one_more n lines k None rows (Some (Segment times)) after so_far e moves =
    not_refused (Err (BadForm k)) after (BadForm k) refl moves
one_more n lines k (Some region) rows (Some (Segment times)) after so_far e moves =
    segment_more n lines k region rows times after so_far e moves

told_fault : (n : ℕ) (lines : List (List ℕ)) (found fault : TimeTextFault)
    (r : Result Progress TimeTextFault)
    → r ≡ Err found → r ≡ Err fault → IsTextFault n lines found → IsTextFault n lines fault
told_fault n lines found fault r one other h =
    subst (IsTextFault n lines) (ap (why found) (sym one ∙ other)) h

not_made : {P : Type 0} (r : Result Progress TimeTextFault) (after : Progress)
    (fault : TimeTextFault) → r ≡ Ok after → r ≡ Err fault → P
not_made r after fault one other =
    let never : Ok after ≡ Err fault = sym one ∙ other in absurd (cc)

out_of_place : (n : ℕ) (lines : List (List ℕ)) (k : ℕ) (said : Option TimeLine)
    → AreRightBefore n lines k → says lines k ≡ said → (MayStand lines k said → ⊥)
    → IsTextFault n lines (BadForm k)
out_of_place n lines k said right e never =
    inl (record { right = right; misplaced = misplaced lines k said e never })

-- the line of the region is not blank
region_stands : (lines : List (List ℕ)) (k : ℕ) (region : RegionTimes)
    → IsRegionSoFar lines k (Some region)
    → ((j : ℕ) → j < k → says lines j ≡ Some Blank)
    → ⊥
region_stands lines k region h blank =
    let never : Some (Region region) ≡ Some Blank = sym h.2.told ∙ blank h.0 h.1 in cc

-- there is no region so far
none_before : (lines : List (List ℕ)) (k : ℕ) → IsRegionSoFar lines k None
    → HasRegionBefore lines k → ⊥
none_before lines k blank h =
    let never : Some (Region h.region) ≡ Some Blank =
    sym h.is_region.told ∙ blank h.line h.before in
    cc

next_segment : (n : ℕ) (lines : List (List ℕ)) (k : ℕ) (region : RegionTimes)
    (rows : List (Option SegmentTimes)) (times : SegmentTimes)
    → IsSoFar n lines k (Some region) rows
    → IsSegmentLine lines k times
    → IsNextSegment n lines k times
next_segment n lines k region rows times so_far e = record {
  right = so_far.right;
  in_place = placed lines k (Some (Segment times)) e (record {
    line = so_far.region_told.0;
    region = region;
    before = so_far.region_told.1;
    is_region = so_far.region_told.2;
  });
  told = e;
}

segment_wrong_by : (n : ℕ) (lines : List (List ℕ)) (k : ℕ) (region : RegionTimes)
    (rows : List (Option SegmentTimes)) (times : SegmentTimes) (fault : TimeTextFault)
    (row : Option SegmentTimes)
    → IsSoFar n lines k (Some region) rows
    → IsSegmentLine lines k times
    → times.segment < length rows
    → row_at rows times.segment ≡ row
    → with_rows (Some region) (put rows k times) ≡ Err fault
    → IsTextFault n lines fault
segment_wrong_by n lines k region rows times fault None so_far e inside empty stops =
    not_made (with_rows (Some region) (put rows k times))
    (record { region = Some region; rows = set rows times.segment (Some times) }) fault
    (ap (with_rows (Some region)) (put_inside rows k times None inside empty)) stops
segment_wrong_by n lines k region rows times fault (Some other) so_far e inside full stops =
    let was = so_far.told times.segment other full in
    told_fault n lines (TimedTwice k) fault (with_rows (Some region) (put rows k times))
    (ap (with_rows (Some region)) (put_inside rows k times (Some other) inside full)) stops
    (record {
      times = times;
      next = next_segment n lines k region rows times so_far e;
      known = omega (arith, inside, so_far.each);
      before = record {
        line = was.1;
        times = other;
        before = was.2;
        told = was.3;
        same = was.0;
      };
    })

segment_wrong : (n : ℕ) (lines : List (List ℕ)) (k : ℕ) (region : RegionTimes)
    (rows : List (Option SegmentTimes)) (times : SegmentTimes) (fault : TimeTextFault)
    → IsSoFar n lines k (Some region) rows
    → IsSegmentLine lines k times
    → with_rows (Some region) (put rows k times) ≡ Err fault
    → IsTextFault n lines fault
segment_wrong n lines k region rows times fault so_far e stops =
    elim (cases_lt times.segment (length rows)) [
      | inl inside ↦
          segment_wrong_by n lines k region rows times fault (row_at rows times.segment) so_far e
          inside refl stops
      | inr outside ↦
          told_fault n lines (UnknownSegment k) fault (with_rows (Some region) (put rows k times))
          (ap (with_rows (Some region)) (put_outside rows k times outside)) stops
          (record {
            times = times;
            next = next_segment n lines k region rows times so_far e;
            unknown = omega (arith, outside, so_far.each);
          })
    ]

-- what one line more says is wrong
pub one_wrong : (n : ℕ) (lines : List (List ℕ)) (k : ℕ) (region : Option RegionTimes)
    (rows : List (Option SegmentTimes)) (said : Option TimeLine) (fault : TimeTextFault)
    → IsSoFar n lines k region rows
    → says lines k ≡ said
    → step region rows k said ≡ Err fault
    → IsTextFault n lines fault
one_wrong n lines k region rows None fault so_far e stops =
    told_fault n lines (BadForm k) fault (Err (BadForm k)) refl stops
    (out_of_place n lines k None so_far.right e (λ h. h))
one_wrong n lines k region rows (Some Blank) fault so_far e stops =
    not_made (Ok (record { region = region; rows = rows })) (record { region = region; rows = rows })
    fault refl stops
one_wrong n lines k None rows (Some (Region told)) fault so_far e stops =
    not_made (Ok (record { region = Some told; rows = rows }))
    (record { region = Some told; rows = rows }) fault refl stops
one_wrong n lines k (Some region) rows (Some (Region told)) fault so_far e stops =
    told_fault n lines (BadForm k) fault (Err (BadForm k)) refl stops
    (out_of_place n lines k (Some (Region told)) so_far.right e
    (region_stands lines k region so_far.region_told))
one_wrong n lines k None rows (Some (Segment times)) fault so_far e stops =
    told_fault n lines (BadForm k) fault (Err (BadForm k)) refl stops
    (out_of_place n lines k (Some (Segment times)) so_far.right e
    (none_before lines k so_far.region_told))
one_wrong n lines k (Some region) rows (Some (Segment times)) fault so_far e stops =
    segment_wrong n lines k region rows times fault so_far e stops
