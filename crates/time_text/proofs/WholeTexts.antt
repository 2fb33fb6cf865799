-- What is known when all lines are read, and that each text is read in one way.
use Rattle.std.proofs.Common.{◌≡◌, ◌+◌, ◌<◌, ◌≤◌, ◌∙◌, ℕ, zero, suc, List, [], ◌∷◌, length}
use Rattle.std.proofs.Common.{Option, Some, None, ap, sym, refl, subst, arith, inl}
use Rattle.std.proofs.Common.{inr, map, take, replicate}
use Rattle.std.proofs.lemmas.Bool.{cases_lt}
use Rattle.std.proofs.lemmas.List.{length-map}
use Rattle.std.specs.List.{slice_get}
use Rattle.time_text.specs.Reading.{IsEmptyRow, IsFirstEmpty, IsSoFar, row_at}
use Rattle.time_text.specs.TimeLines.{says}
use Rattle.time_text.specs.TimesTexts.{AreRightBefore, HasRegionBefore}
use Rattle.time_text.specs.TimesTexts.{IsNotTimed, IsRegionLine, IsRight, IsSegmentLine}
use Rattle.time_text.specs.TimesTexts.{IsTextFault, MayStand}
use Rattle.time_text.specs.TimesTexts.{NamesLineBelow, TellsTimes}
use Rattle.time_text.specs.declared.fault.TimeTextFault.{TimeTextFault}
use Rattle.time_text.specs.declared.fault.TimeTextFault.TheVariants.{BadForm, UnknownSegment, TimedTwice}
use Rattle.time_text.specs.declared.fault.TimeTextFault.TheVariants.{NotTimed, OutOfMemory}
use Rattle.time_text.specs.declared.line.RegionTimes.{RegionTimes}
use Rattle.time_text.specs.declared.line.SegmentTimes.{SegmentTimes}
use Rattle.time_text.specs.declared.line.TimeLine.{TimeLine}
use Rattle.time_text.specs.declared.line.TimeLine.TheVariants.{Blank, Segment}

-- ---- lines behind the last one

past_end : (lines : List (List ℕ)) (i : ℕ) → length lines ≤ i → says lines i ≡ Some Blank
past_end [] i h = refl
past_end (line ∷ lines) zero h = absurd (omega arith)
past_end (line ∷ lines) (suc i) h = past_end lines i (omega (arith, h))

-- a line that says something is one of the text
told_inside : (lines : List (List ℕ)) (i : ℕ) (said : TimeLine) → says lines i ≡ Some said
    → (said ≡ Blank → ⊥) → i < length lines
told_inside lines i said e some = elim (cases_lt i (length lines)) [
  | inl inside ↦ inside
  | inr past ↦
      let same : Some said ≡ Some Blank = sym e ∙ past_end lines i past in
      let is : said ≡ Blank = cc in
      absurd (some is)
]

pub segment_inside : (lines : List (List ℕ)) (i : ℕ) (times : SegmentTimes)
    → IsSegmentLine lines i times → i < length lines
segment_inside lines i times e =
    told_inside lines i (Segment times) e (λ same. let never : Segment times ≡ Blank = same in cc)

pub blank_right : (n : ℕ) (lines : List (List ℕ)) (i : ℕ) → says lines i ≡ Some Blank
    → IsRight n lines i
blank_right n lines i e =
    let none : (times : SegmentTimes) → IsSegmentLine lines i times → ⊥ = λ times h.
    let never : Some Blank ≡ Some (Segment times) = sym e ∙ h in cc in
    record {
      in_place = subst (MayStand lines i) (sym e) tt;
      known = λ times h. absurd (none times h);
      once = λ times h _. none times h;
    }

pub right_everywhere : (n : ℕ) (lines : List (List ℕ)) → AreRightBefore n lines (length lines)
    → (i : ℕ) → IsRight n lines i
right_everywhere n lines right i = elim (cases_lt i (length lines)) [
  | inl inside ↦ right i inside
  | inr past ↦ blank_right n lines i (past_end lines i past)
]

-- ---- before any line is read

pub none_read : (n : ℕ) (lines : List (List ℕ)) (rows : List (Option SegmentTimes))
    → rows ≡ replicate n None → length rows ≡ n → IsSoFar n lines 0 None rows
none_read n lines rows empty each = record {
  right = λ j h. absurd (omega (arith, h));
  region_told = λ i h. absurd (omega (arith, h));
  each = each;
  kept = λ i times h is. absurd (omega (arith, h));
  told = λ s times h.
      let never : None ≡ Some times = sym (empty_row n s) ∙ ap (λ (r : List (Option SegmentTimes)). row_at r s) (sym empty) ∙ h in
      absurd (cc);
}
  where
    empty_row : (m s : ℕ) → row_at (replicate m None) s ≡ None
    empty_row zero s = refl
    empty_row (suc m) zero = refl
    empty_row (suc m) (suc s) = empty_row m s

-- ---- all lines are read

at_map_some : (segments : List SegmentTimes) (s : ℕ)
    → row_at (map Some segments) s ≡ slice_get segments s
at_map_some [] s = refl
at_map_some (times ∷ segments) zero = refl
at_map_some (times ∷ segments) (suc s) = at_map_some segments s

pub all_told : (n : ℕ) (lines : List (List ℕ)) (region : RegionTimes)
    (rows : List (Option SegmentTimes)) (segments : List SegmentTimes)
    → IsSoFar n lines (length lines) (Some region) rows
    → map Some segments ≡ rows
    → TellsTimes n lines region segments
all_told n lines region rows segments so_far all = record {
  right = so_far.right;
  line = so_far.region_told.0;
  is_region = so_far.region_told.2;
  each = omega (
    arith,
    ap (λ (r : List (Option SegmentTimes)). length r) all,
    length-map segments (λ (t : SegmentTimes). Some t),
    so_far.each,
  );
  told = λ s times h.
      let row : row_at rows s ≡ Some times =
      ap (λ (r : List (Option SegmentTimes)). row_at r s) (sym all) ∙ at_map_some segments s ∙ h in
      let was = so_far.told s times row in
      (was.0, was.1, was.3);
}

-- a row that is not empty
full_row : (row : Option SegmentTimes) → (row ≡ None → ⊥) → (times : SegmentTimes) × (row ≡ Some times)
full_row None full = absurd (full refl)
full_row (Some times) full = (times, refl)

region_before : (lines : List (List ℕ)) (k : ℕ) (region : RegionTimes) (h : ℕ)
    → h < k → IsRegionLine lines h region → HasRegionBefore lines k
region_before lines k region h before is = record {
  line = h;
  region = region;
  before = before;
  is_region = is;
}

pub not_timed : (n : ℕ) (lines : List (List ℕ)) (region : RegionTimes)
    (rows : List (Option SegmentTimes)) (s : ℕ)
    → IsSoFar n lines (length lines) (Some region) rows
    → IsFirstEmpty rows s
    → IsNotTimed n lines s
not_timed n lines region rows s so_far first = record {
  right = so_far.right;
  some = region_before lines (length lines) region so_far.region_told.0 so_far.region_told.1
      so_far.region_told.2;
  inside = omega (arith, first.inside, so_far.each);
  none = λ timed.
      let full = so_far.kept timed.line timed.times timed.before timed.told in
      let never : None ≡ Some timed.times =
      sym first.empty ∙ ap (row_at rows) (sym timed.same) ∙ full in
      cc;
  least = λ r less.
      let row = full_row (row_at rows r) (first.full r less) in
      let was = so_far.told r row.0 row.1 in
      record { line = was.1; times = row.0; before = was.2; told = was.3; same = was.0 };
}

pub empty_told : (n : ℕ) (lines : List (List ℕ)) (region : RegionTimes)
    (rows : List (Option SegmentTimes)) (fault : TimeTextFault)
    → IsSoFar n lines (length lines) (Some region) rows
    → IsEmptyRow rows fault
    → IsTextFault n lines fault
empty_told n lines region rows (NotTimed s) so_far first =
    not_timed n lines region rows s so_far first
empty_told n lines region rows OutOfMemory so_far first = tt
empty_told n lines region rows _ so_far first = absurd first

pub nothing_told : (n : ℕ) (lines : List (List ℕ)) (rows : List (Option SegmentTimes)) (i : ℕ)
    → IsSoFar n lines (length lines) None rows
    → i + 1 ≡ length lines
    → IsTextFault n lines (BadForm i)
nothing_told n lines rows i so_far last = inr (record {
  blank = λ j. elim (cases_lt j (length lines)) [
    | inl inside ↦ so_far.region_told j inside
    | inr past ↦ past_end lines j past
  ];
  last = last;
})

-- rows of which the first k have times
pub full_before : (rows : List (Option SegmentTimes)) (segments : List SegmentTimes) (k r : ℕ)
    → map Some segments ≡ take k rows → r < k → k ≤ length rows → row_at rows r ≡ None → ⊥
full_before [] segments k r all less inside e = absurd (omega (arith, less, inside))
full_before (row ∷ rows) segments zero r all less inside e = absurd (omega (arith, less))
full_before (row ∷ rows) [] (suc k) r all less inside e =
    absurd (omega (arith, ap (λ (rs : List (Option SegmentTimes)). length rs) all))
full_before (row ∷ rows) (times ∷ segments) (suc k) zero all less inside e =
    let here : Some times ≡ row = cc in
    let never : Some times ≡ None = here ∙ e in
    cc
full_before (row ∷ rows) (times ∷ segments) (suc k) (suc r) all less inside e =
    let rest : map Some segments ≡ take k rows = cc in
    full_before rows segments k r rest (omega (arith, less)) (omega (arith, inside)) e

-- ---- where faults are

-- a line that is not right is one of the text
wrong_inside : (n : ℕ) (lines : List (List ℕ)) (i : ℕ) → (IsRight n lines i → ⊥)
    → i < length lines
wrong_inside n lines i wrong = elim (cases_lt i (length lines)) [
  | inl inside ↦ inside
  | inr past ↦ absurd (wrong (blank_right n lines i (past_end lines i past)))
]

-- the line that a fault names is one of the text
pub fault_inside : (n : ℕ) (lines : List (List ℕ)) (fault : TimeTextFault)
    → IsTextFault n lines fault → NamesLineBelow (length lines) fault
fault_inside n lines (BadForm i) (inl h) = wrong_inside n lines i (λ r. h.misplaced r.in_place)
fault_inside n lines (BadForm i) (inr h) = omega (arith, h.last)
fault_inside n lines (UnknownSegment i) h =
    wrong_inside n lines i (λ r. absurd (omega (arith, h.unknown, r.known h.times h.next.told)))
fault_inside n lines (TimedTwice i) h =
    wrong_inside n lines i (λ r. r.once h.times h.next.told h.before)
fault_inside n lines (NotTimed s) h = tt
fault_inside n lines OutOfMemory h = tt
