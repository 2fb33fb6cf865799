-- Each text is read in one way.
use Rattle.std.proofs.Common.{◌≡◌, ◌≢◌, ◌+◌, ◌<◌, ◌⊎◌, ◌∙◌, ℕ, zero, suc, List, [], ◌∷◌, length}
use Rattle.std.proofs.Common.{Option, Some, None, Result, Ok, Err, ap, sym, refl, subst, arith, inl}
use Rattle.std.proofs.Common.{inr, map, replicate, ◌-◌, Bool, true, false, if◌then◌else◌, nat_lt, add-one}
use Rattle.std.proofs.lemmas.Bool.{cases_eq, cases_lt}
use Rattle.std.proofs.lemmas.List.{length-replicate}
use Rattle.std.specs.List.{slice_get}
use Rattle.time_text.proofs.LineSteps.{one_more, one_wrong}
use Rattle.time_text.proofs.WholeTexts.{all_told, blank_right, none_read, not_timed, nothing_told}
use Rattle.time_text.proofs.WholeTexts.{right_everywhere, segment_inside}
use Rattle.time_text.specs.OneReading.{FoundFault, HasReading}
use Rattle.time_text.specs.Reading.{IsFirstEmpty, IsSoFar, Progress, put_into, row_at, step}
use Rattle.time_text.specs.Reading.{with_rows}
use Rattle.time_text.specs.TimeLines.{says}
use Rattle.time_text.specs.TimesTexts.{AreRightBefore, IsMisplaced, IsNotTimed, IsRegionLine}
use Rattle.time_text.specs.TimesTexts.{IsRight, IsSegmentLine, IsSilent, IsTextFault, IsTimedBefore}
use Rattle.time_text.specs.TimesTexts.{IsTwice, IsUnknown, TellsTimes}
use Rattle.time_text.specs.declared.fault.TimeTextFault.{TimeTextFault}
use Rattle.time_text.specs.declared.fault.TimeTextFault.TheVariants.{BadForm, UnknownSegment}
use Rattle.time_text.specs.declared.fault.TimeTextFault.TheVariants.{TimedTwice, NotTimed, OutOfMemory}
use Rattle.time_text.specs.declared.line.RegionTimes.{RegionTimes}
use Rattle.time_text.specs.declared.line.SegmentTimes.{SegmentTimes}
use Rattle.time_text.specs.declared.line.TimeLine.{TimeLine}
use Rattle.time_text.specs.declared.line.TimeLine.TheVariants.{Blank, Region, Segment}

-- ---- some reading

-- lines are read up to here, or a fault is found
record Read (n : ℕ) (lines : List (List ℕ)) (k : ℕ) : Type 0 where
  region : Option RegionTimes
  rows : List (Option SegmentTimes)
  so_far : IsSoFar n lines k region rows

found : (n : ℕ) (lines : List (List ℕ)) (fault : TimeTextFault) → fault ≢ OutOfMemory
    → IsTextFault n lines fault → FoundFault n lines
found n lines fault of_text is = record { fault = fault; of_text = of_text; is_fault = is }

abbrev is_memory_fault : TimeTextFault → Bool
is_memory_fault OutOfMemory = true
is_memory_fault _ = false

abbrev is_memory : Result Progress TimeTextFault → Bool
is_memory (Ok after) = false
is_memory (Err fault) = is_memory_fault fault

put_of_text : (region : Option RegionTimes) (rows : List (Option SegmentTimes)) (line : ℕ)
    (times : SegmentTimes) (b : Bool) (row : Option SegmentTimes)
    → is_memory (with_rows region
    (if b then put_into row rows line times else Err (UnknownSegment line))) ≡ false
put_of_text region rows line times true None = refl
put_of_text region rows line times true (Some other) = refl
put_of_text region rows line times false row = refl

-- a step never runs out of memory
step_of_text : (region : Option RegionTimes) (rows : List (Option SegmentTimes)) (line : ℕ)
    (said : Option TimeLine) → is_memory (step region rows line said) ≡ false
step_of_text region rows line None = refl
step_of_text region rows line (Some Blank) = refl
step_of_text None rows line (Some (Region told)) = refl
step_of_text (Some region) rows line (Some (Region told)) = refl
step_of_text None rows line (Some (Segment times)) = refl
step_of_text (Some region) rows line (Some (Segment times)) =
    put_of_text (Some region) rows line times (nat_lt times.segment (length rows))
    (row_at rows times.segment)

of_text : (r : Result Progress TimeTextFault) (fault : TimeTextFault) → is_memory r ≡ false
    → r ≡ Err fault → fault ≢ OutOfMemory
of_text r fault none e same =
    let made : is_memory r ≡ true = ap is_memory e ∙ ap is_memory_fault same in
    let never : false ≡ true = sym none ∙ made in
    cc

-- reading on from a step
step_on : (n : ℕ) (lines : List (List ℕ)) (k : ℕ) (read : Read n lines k)
    (r : Result Progress TimeTextFault)
    → step read.region read.rows k (says lines k) ≡ r
    → Read n lines (k + 1) ⊎ FoundFault n lines
step_on n lines k read (Ok after) e = inl (record {
  region = after.region;
  rows = after.rows;
  so_far = one_more n lines k read.region read.rows (says lines k) after read.so_far refl e;
})
step_on n lines k read (Err fault) e = inr (found n lines fault
    (of_text (step read.region read.rows k (says lines k)) fault
    (step_of_text read.region read.rows k (says lines k)) e)
    (one_wrong n lines k read.region read.rows (says lines k) fault read.so_far refl e))

read_to : (n : ℕ) (lines : List (List ℕ)) (k : ℕ) → Read n lines k ⊎ FoundFault n lines
read_to n lines zero = inl (record {
  region = None;
  rows = replicate n None;
  so_far = none_read n lines (replicate n None) refl (length-replicate n None);
})
read_to n lines (suc k) = elim (read_to n lines k) [
  | inl read ↦
      subst (λ (m : ℕ). Read n lines m ⊎ FoundFault n lines) (add-one k)
      (step_on n lines k read (step read.region read.rows k (says lines k)) refl)
  | inr fault ↦ inr fault
]

full_more : (times : SegmentTimes) (rows : List (Option SegmentTimes)) (s : ℕ)
    → IsFirstEmpty rows s
    → (r : ℕ) → r < suc s → row_at (Some times ∷ rows) r ≡ None → ⊥
full_more times rows s first zero less e = let never : Some times ≡ None = e in cc
full_more times rows s first (suc r) less e = first.full r (omega (arith, less)) e

-- all rows have times, or there is a first one without
filled : (rows : List (Option SegmentTimes))
    → ((segments : List SegmentTimes) × (map Some segments ≡ rows))
    ⊎ ((s : ℕ) × IsFirstEmpty rows s)
filled [] = inl ([], refl)
filled (None ∷ rows) = inr (
  0,
  record {
    inside = omega arith;
    empty = refl;
    full = λ r less _. absurd (omega (arith, less));
  },
)
filled (Some times ∷ rows) = elim (filled rows) [
  | inl all ↦ inl (times ∷ all.0, ap (λ (rs : List (Option SegmentTimes)). Some times ∷ rs) all.1)
  | inr first ↦ inr (
    suc first.0,
    record {
      inside = omega (arith, first.1.inside);
      empty = first.1.empty;
      full = full_more times rows first.0 first.1;
    },
  )
]

finish_rows : (n : ℕ) (lines : List (List ℕ)) (region : RegionTimes)
    (rows : List (Option SegmentTimes)) → IsSoFar n lines (length lines) (Some region) rows
    → HasReading n lines
finish_rows n lines region rows so_far = elim (filled rows) [
  | inl all ↦ inl (record {
    region = region;
    segments = all.0;
    tells = all_told n lines region rows all.0 so_far all.1;
  })
  | inr first ↦ inr (found n lines (NotTimed first.0)
      (λ same. let never : NotTimed first.0 ≡ OutOfMemory = same in cc)
      (not_timed n lines region rows first.0 so_far first.1))
]

finish : (n : ℕ) (lines : List (List ℕ)) (region : Option RegionTimes)
    (rows : List (Option SegmentTimes)) → 0 < length lines
    → IsSoFar n lines (length lines) region rows
    → HasReading n lines
finish n lines None rows some so_far = inr (found n lines (BadForm (length lines - 1))
    (λ same. let never : BadForm (length lines - 1) ≡ OutOfMemory = same in cc)
    (nothing_told n lines rows (length lines - 1) so_far (omega (arith, some))))
finish n lines (Some region) rows some so_far = finish_rows n lines region rows so_far

pub some_reading : (n : ℕ) (lines : List (List ℕ)) → 0 < length lines → HasReading n lines
some_reading n lines some = elim (read_to n lines (length lines)) [
  | inl read ↦ finish n lines read.region read.rows some read.so_far
  | inr fault ↦ inr fault
]

-- ---- one run

-- a line that stands before the line of the region is blank
same_region_line : (lines : List (List ℕ)) (h k : ℕ) (region other : RegionTimes)
    → IsRegionLine lines h region → IsRegionLine lines k other → h < k → ⊥
same_region_line lines h k region other one two less =
    let never : Some (Region region) ≡ Some Blank = sym one.told ∙ two.first h less in cc

same_region : (lines : List (List ℕ)) (h k : ℕ) (region other : RegionTimes)
    → IsRegionLine lines h region → IsRegionLine lines k other → region ≡ other
same_region lines h k region other one two = elim (cases_eq h k) [
  | inl same ↦
      let both : Some (Region region) ≡ Some (Region other) =
      sym one.told ∙ ap (says lines) same ∙ two.told in
      cc
  | inr apart ↦ elim (cases_lt h k) [
    | inl less ↦ absurd (same_region_line lines h k region other one two less)
    | inr not_less ↦
        absurd (same_region_line lines k h other region two one (omega (arith, not_less, apart)))
  ]
]

timed_before : (lines : List (List ℕ)) (i j segment : ℕ) (times : SegmentTimes)
    → i < j → IsSegmentLine lines i times → times.segment ≡ segment
    → IsTimedBefore lines j segment
timed_before lines i j segment times less told same = record {
  line = i;
  times = times;
  before = less;
  told = told;
  same = same;
}

-- a segment has times on one line
same_times : (n : ℕ) (lines : List (List ℕ)) (i j : ℕ) (one other : SegmentTimes)
    → AreRightBefore n lines (length lines)
    → IsSegmentLine lines i one → IsSegmentLine lines j other → one.segment ≡ other.segment
    → one ≡ other
same_times n lines i j one other right a b same = elim (cases_eq i j) [
  | inl here ↦
      let both : Some (Segment one) ≡ Some (Segment other) = sym a ∙ ap (says lines) here ∙ b in
      cc
  | inr apart ↦ elim (cases_lt i j) [
    | inl less ↦ absurd ((right j (segment_inside lines j other b)).once other b
        (timed_before lines i j other.segment one less a same))
    | inr not_less ↦ absurd ((right i (segment_inside lines i one a)).once one a
        (timed_before lines j i one.segment other (omega (arith, not_less, apart)) b (sym same)))
  ]
]

-- lists of one length with the same members are one
same_lists : (xs ys : List SegmentTimes) → length xs ≡ length ys
    → ((s : ℕ) (x y : SegmentTimes) → slice_get xs s ≡ Some x → slice_get ys s ≡ Some y → x ≡ y)
    → xs ≡ ys
same_lists [] [] long same = refl
same_lists [] (y ∷ ys) long same = absurd (omega (arith, long))
same_lists (x ∷ xs) [] long same = absurd (omega (arith, long))
same_lists (x ∷ xs) (y ∷ ys) long same =
    ap (λ (z : SegmentTimes). z ∷ xs) (same 0 x y refl refl)
    ∙ ap (λ (zs : List SegmentTimes). y ∷ zs)
    (same_lists xs ys (omega (arith, long)) (λ s. same (suc s)))

pub one_run : (n : ℕ) (lines : List (List ℕ)) (region other : RegionTimes)
    (segments others : List SegmentTimes)
    → TellsTimes n lines region segments → TellsTimes n lines other others
    → (region ≡ other) × (segments ≡ others)
one_run n lines region other segments others one two = (
  same_region lines one.line two.line region other one.is_region two.is_region,
  same_lists segments others (one.each ∙ sym two.each) (λ s x y at_x at_y.
      let a = one.told s x at_x in
      let b = two.told s y at_y in
      same_times n lines a.1 b.1 x y one.right a.2 b.2 (a.0 ∙ sym b.0)),
)

-- ---- one fault

-- a first wrong line
record IsFirstWrong (n : ℕ) (lines : List (List ℕ)) (i : ℕ) : Type 0 where
  right : AreRightBefore n lines i
  wrong : IsRight n lines i → ⊥

wrong_misplaced : (n : ℕ) (lines : List (List ℕ)) (i : ℕ) → IsMisplaced n lines i
    → IsFirstWrong n lines i
wrong_misplaced n lines i h = record { right = h.right; wrong = λ r. h.misplaced r.in_place }

wrong_unknown : (n : ℕ) (lines : List (List ℕ)) (i : ℕ) → IsUnknown n lines i
    → IsFirstWrong n lines i
wrong_unknown n lines i h = record {
  right = h.next.right;
  wrong = λ r. absurd (omega (arith, h.unknown, r.known h.times h.next.told));
}

wrong_twice : (n : ℕ) (lines : List (List ℕ)) (i : ℕ) → IsTwice n lines i
    → IsFirstWrong n lines i
wrong_twice n lines i h = record {
  right = h.next.right;
  wrong = λ r. r.once h.times h.next.told h.before;
}

same_wrong : (n : ℕ) (lines : List (List ℕ)) (i j : ℕ) → IsFirstWrong n lines i
    → IsFirstWrong n lines j → i ≡ j
same_wrong n lines i j one two = elim (cases_eq i j) [
  | inl same ↦ same
  | inr apart ↦ elim (cases_lt i j) [
    | inl less ↦ absurd (one.wrong (two.right i less))
    | inr not_less ↦ absurd (two.wrong (one.right j (omega (arith, not_less, apart))))
  ]
]

-- where all lines are right, none is wrong
none_wrong : (n : ℕ) (lines : List (List ℕ)) (i : ℕ) → AreRightBefore n lines (length lines)
    → IsFirstWrong n lines i → ⊥
none_wrong n lines i right h = h.wrong (right_everywhere n lines right i)

silent_right : (n : ℕ) (lines : List (List ℕ)) (i : ℕ) → IsSilent lines i
    → AreRightBefore n lines (length lines)
silent_right n lines i h = λ j _. blank_right n lines j (h.blank j)

silent_region : (lines : List (List ℕ)) (i h : ℕ) (region : RegionTimes) → IsSilent lines i
    → IsRegionLine lines h region → ⊥
silent_region lines i h region silent is =
    let never : Some (Region region) ≡ Some Blank = sym is.told ∙ silent.blank h in cc

same_next : (lines : List (List ℕ)) (i : ℕ) (one other : SegmentTimes)
    → IsSegmentLine lines i one → IsSegmentLine lines i other → one.segment ≡ other.segment
same_next lines i one other a b =
    let both : Some (Segment one) ≡ Some (Segment other) = sym a ∙ b in
    let same : one ≡ other = cc in
    ap (λ (t : SegmentTimes). t.segment) same

not_both_places : (n : ℕ) (lines : List (List ℕ)) (i j : ℕ) → IsMisplaced n lines i
    → IsUnknown n lines j → ⊥
not_both_places n lines i j h g =
    let same = same_wrong n lines i j (wrong_misplaced n lines i h) (wrong_unknown n lines j g) in
    (subst (IsMisplaced n lines) same h).misplaced g.next.in_place

not_both_twice : (n : ℕ) (lines : List (List ℕ)) (i j : ℕ) → IsMisplaced n lines i
    → IsTwice n lines j → ⊥
not_both_twice n lines i j h g =
    let same = same_wrong n lines i j (wrong_misplaced n lines i h) (wrong_twice n lines j g) in
    (subst (IsMisplaced n lines) same h).misplaced g.next.in_place

not_both_segments : (n : ℕ) (lines : List (List ℕ)) (i j : ℕ) → IsUnknown n lines i
    → IsTwice n lines j → ⊥
not_both_segments n lines i j h g =
    let same = same_wrong n lines i j (wrong_unknown n lines i h) (wrong_twice n lines j g) in
    let here = subst (IsUnknown n lines) same h in
    let segment = same_next lines j here.times g.times here.next.told g.next.told in
    absurd (omega (arith, here.unknown, g.known, segment))

same_not_timed : (n : ℕ) (lines : List (List ℕ)) (r s : ℕ) → IsNotTimed n lines r
    → IsNotTimed n lines s → r ≡ s
same_not_timed n lines r s one two = elim (cases_eq r s) [
  | inl same ↦ same
  | inr apart ↦ elim (cases_lt r s) [
    | inl less ↦ absurd (one.none (two.least r less))
    | inr not_less ↦ absurd (two.none (one.least s (omega (arith, not_less, apart))))
  ]
]

not_timed_wrong : (n : ℕ) (lines : List (List ℕ)) (i s : ℕ) → IsFirstWrong n lines i
    → IsNotTimed n lines s → ⊥
not_timed_wrong n lines i s wrong h = none_wrong n lines i h.right wrong

silent_wrong : (n : ℕ) (lines : List (List ℕ)) (i j : ℕ) → IsSilent lines i
    → IsFirstWrong n lines j → ⊥
silent_wrong n lines i j silent wrong = none_wrong n lines j (silent_right n lines i silent) wrong

silent_not_timed : (n : ℕ) (lines : List (List ℕ)) (i s : ℕ) → IsSilent lines i
    → IsNotTimed n lines s → ⊥
silent_not_timed n lines i s silent h =
    silent_region lines i h.some.line h.some.region silent h.some.is_region

at_line : (make : ℕ → TimeTextFault) (i j : ℕ) → i ≡ j → make i ≡ make j
at_line make i j same = ap make same

pub one_fault : (n : ℕ) (lines : List (List ℕ)) (fault other : TimeTextFault)
    → fault ≢ OutOfMemory → other ≢ OutOfMemory
    → IsTextFault n lines fault → IsTextFault n lines other → fault ≡ other
one_fault n lines OutOfMemory other a b h g = absurd (a refl)
one_fault n lines (BadForm i) OutOfMemory a b h g = absurd (b refl)
one_fault n lines (UnknownSegment i) OutOfMemory a b h g = absurd (b refl)
one_fault n lines (TimedTwice i) OutOfMemory a b h g = absurd (b refl)
one_fault n lines (NotTimed s) OutOfMemory a b h g = absurd (b refl)
one_fault n lines (BadForm i) (BadForm j) a b (inl h) (inl g) =
    at_line BadForm i j
    (same_wrong n lines i j (wrong_misplaced n lines i h) (wrong_misplaced n lines j g))
one_fault n lines (BadForm i) (BadForm j) a b (inl h) (inr g) =
    absurd (silent_wrong n lines j i g (wrong_misplaced n lines i h))
one_fault n lines (BadForm i) (BadForm j) a b (inr h) (inl g) =
    absurd (silent_wrong n lines i j h (wrong_misplaced n lines j g))
one_fault n lines (BadForm i) (BadForm j) a b (inr h) (inr g) =
    at_line BadForm i j (omega (arith, h.last, g.last))
one_fault n lines (BadForm i) (UnknownSegment j) a b (inl h) g =
    absurd (not_both_places n lines i j h g)
one_fault n lines (BadForm i) (UnknownSegment j) a b (inr h) g =
    absurd (silent_wrong n lines i j h (wrong_unknown n lines j g))
one_fault n lines (BadForm i) (TimedTwice j) a b (inl h) g =
    absurd (not_both_twice n lines i j h g)
one_fault n lines (BadForm i) (TimedTwice j) a b (inr h) g =
    absurd (silent_wrong n lines i j h (wrong_twice n lines j g))
one_fault n lines (BadForm i) (NotTimed s) a b (inl h) g =
    absurd (not_timed_wrong n lines i s (wrong_misplaced n lines i h) g)
one_fault n lines (BadForm i) (NotTimed s) a b (inr h) g =
    absurd (silent_not_timed n lines i s h g)
one_fault n lines (UnknownSegment i) (BadForm j) a b h (inl g) =
    absurd (not_both_places n lines j i g h)
one_fault n lines (UnknownSegment i) (BadForm j) a b h (inr g) =
    absurd (silent_wrong n lines j i g (wrong_unknown n lines i h))
one_fault n lines (UnknownSegment i) (UnknownSegment j) a b h g =
    at_line UnknownSegment i j
    (same_wrong n lines i j (wrong_unknown n lines i h) (wrong_unknown n lines j g))
one_fault n lines (UnknownSegment i) (TimedTwice j) a b h g =
    absurd (not_both_segments n lines i j h g)
one_fault n lines (UnknownSegment i) (NotTimed s) a b h g =
    absurd (not_timed_wrong n lines i s (wrong_unknown n lines i h) g)
one_fault n lines (TimedTwice i) (BadForm j) a b h (inl g) =
    absurd (not_both_twice n lines j i g h)
one_fault n lines (TimedTwice i) (BadForm j) a b h (inr g) =
    absurd (silent_wrong n lines j i g (wrong_twice n lines i h))
one_fault n lines (TimedTwice i) (UnknownSegment j) a b h g =
    absurd (not_both_segments n lines j i g h)
one_fault n lines (TimedTwice i) (TimedTwice j) a b h g =
    at_line TimedTwice i j
    (same_wrong n lines i j (wrong_twice n lines i h) (wrong_twice n lines j g))
one_fault n lines (TimedTwice i) (NotTimed s) a b h g =
    absurd (not_timed_wrong n lines i s (wrong_twice n lines i h) g)
one_fault n lines (NotTimed s) (BadForm j) a b h (inl g) =
    absurd (not_timed_wrong n lines j s (wrong_misplaced n lines j g) h)
one_fault n lines (NotTimed s) (BadForm j) a b h (inr g) =
    absurd (silent_not_timed n lines j s g h)
one_fault n lines (NotTimed s) (UnknownSegment j) a b h g =
    absurd (not_timed_wrong n lines j s (wrong_unknown n lines j g) h)
one_fault n lines (NotTimed s) (TimedTwice j) a b h g =
    absurd (not_timed_wrong n lines j s (wrong_twice n lines j g) h)
one_fault n lines (NotTimed r) (NotTimed s) a b h g =
    at_line NotTimed r s (same_not_timed n lines r s h g)

-- ---- not both

got : (segments : List SegmentTimes) (s : ℕ) → s < length segments
    → (times : SegmentTimes) × (slice_get segments s ≡ Some times)
got [] s h = absurd (omega (arith, h))
got (times ∷ segments) zero h = (times, refl)
got (times ∷ segments) (suc s) h = got segments s (omega (arith, h))

all_timed : (n : ℕ) (lines : List (List ℕ)) (region : RegionTimes) (segments : List SegmentTimes)
    (s : ℕ) → TellsTimes n lines region segments → s < n
    → IsTimedBefore lines (length lines) s
all_timed n lines region segments s tells inside =
    let times = got segments s (omega (arith, inside, tells.each)) in
    let told = tells.told s times.0 times.1 in
    timed_before lines told.1 (length lines) s times.0
    (segment_inside lines told.1 times.0 told.2) told.2 told.0

pub no_fault : (n : ℕ) (lines : List (List ℕ)) (region : RegionTimes)
    (segments : List SegmentTimes) (fault : TimeTextFault) → fault ≢ OutOfMemory
    → TellsTimes n lines region segments → IsTextFault n lines fault → ⊥
no_fault n lines region segments OutOfMemory some tells h = some refl
no_fault n lines region segments (BadForm i) some tells (inl h) =
    none_wrong n lines i tells.right (wrong_misplaced n lines i h)
no_fault n lines region segments (BadForm i) some tells (inr h) =
    silent_region lines i tells.line region h tells.is_region
no_fault n lines region segments (UnknownSegment i) some tells h =
    none_wrong n lines i tells.right (wrong_unknown n lines i h)
no_fault n lines region segments (TimedTwice i) some tells h =
    none_wrong n lines i tells.right (wrong_twice n lines i h)
no_fault n lines region segments (NotTimed s) some tells h =
    h.none (all_timed n lines region segments s tells h.inside)
