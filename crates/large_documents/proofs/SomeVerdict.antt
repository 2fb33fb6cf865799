-- There is a verdict on two programs, and no two.
use Rattle.std.proofs.Common.{◌≡◌, ◌<◌, ◌∙◌, ℕ, List, ap, arith, inl, inr, length, refl, subst, sym}
use Rattle.std.proofs.lemmas.Bool.{cases_lt}
use Rattle.depend_table.proofs.Chains.{kept_within}
use Rattle.depend_table.specs.KeptEdges.{IsKeptEdge}
use Rattle.dispatch_core.proofs.DecidedEdges.{decide_kept_edge, decide_precedes}
use Rattle.dispatch_core.proofs.Decisions.{IsDecided, by_parts, decide_below, decide_both, decide_not}
use Rattle.dispatch_core.proofs.Decisions.{decide_same, find_first, holds_unless}
use Rattle.open_segments.proofs.Within.{within_table}
use Rattle.program_text.specs.Marks.{Mark}
use Rattle.relaxations.specs.Relaxation.{AreSameSegments, IsSameSegment}
use Rattle.relaxations.specs.Verdicts.{IsNewPair, IsOtherSegment, IsVerdict}
use Rattle.relaxations.specs.declared.verdict.Verdict.{Verdict}
use Rattle.relaxations.specs.declared.verdict.Verdict.TheVariants.{NewPair, OtherSegment}
use Rattle.relaxations.specs.declared.verdict.Verdict.TheVariants.{WaitsForNoMore, WrongCount}
use Rattle.task_program.specs.Nested.{IsNested}
use Rattle.task_segments.proofs.Facts.{nested}
use Rattle.task_segments.proofs.Groups.{grouped_table}
use Rattle.task_segments.proofs.LastMoment.{last_of_nested}
use Rattle.task_segments.proofs.Order.{goes_up}
use Rattle.task_segments.specs.InPlace.{IsReadInPlace}
use Rattle.task_segments.specs.Moments.{last_moment}
use Rattle.task_segments.specs.Nesting.{IsNestedTable}
use Rattle.task_segments.specs.Precedence.{IsSegment, MustPrecede}
use Rattle.task_segments.specs.Table.{Table, segment, table_of}

-- ---- no two

one_segment : (old new : Table) (s r : ℕ) → IsOtherSegment old new s → IsOtherSegment old new r
    → s ≡ r
one_segment old new s r a b = elim (cases_lt s r) [
  | inl less ↦ absurd (a.other (b.same_before s less))
  | inr most ↦ elim (cases_lt r s) [
    | inl less ↦ absurd (b.other (a.same_before r less))
    | inr least ↦ omega (arith, most, least)
  ]
]

one_to : (old new : Table) (s t r u : ℕ) → IsNewPair old new s t → IsNewPair old new r u → t ≡ u
one_to old new s t r u a b = elim (cases_lt t u) [
  | inl less ↦ absurd (a.is_new (b.least_to s t less a.kept))
  | inr most ↦ elim (cases_lt u t) [
    | inl less ↦ absurd (b.is_new (a.least_to r u less b.kept))
    | inr least ↦ omega (arith, most, least)
  ]
]

one_from : (old new : Table) (s r t : ℕ) → IsNewPair old new s t → IsNewPair old new r t → s ≡ r
one_from old new s r t a b = elim (cases_lt s r) [
  | inl less ↦ absurd (a.is_new (b.least_from s less a.kept))
  | inr most ↦ elim (cases_lt r s) [
    | inl less ↦ absurd (b.is_new (a.least_from r less b.kept))
    | inr least ↦ omega (arith, most, least)
  ]
]

one_pair : (old new : Table) (s t r u : ℕ) → IsNewPair old new s t → IsNewPair old new r u
    → NewPair s t ≡ NewPair r u
one_pair old new s t r u a b =
    let to : t ≡ u = one_to old new s t r u a b in
    let from : s ≡ r =
    one_from old new s r t a (subst (λ (n : ℕ). IsNewPair old new r n) (sym to) b) in
    ap (λ (n : ℕ). NewPair n t) from ∙ ap (λ (n : ℕ). NewPair r n) to

pub one_verdict : (old new : Table) (one other : Verdict) → IsVerdict old new one
    → IsVerdict old new other
    → one ≡ other
one_verdict old new WaitsForNoMore WaitsForNoMore a b = refl
one_verdict old new WaitsForNoMore WrongCount a b = absurd (b a.same.count)
one_verdict old new WaitsForNoMore (OtherSegment s) a b =
    absurd (b.other (a.same.each s b.is_segment))
one_verdict old new WaitsForNoMore (NewPair s t) a b = absurd (b.is_new (a.no_more s t b.kept))
one_verdict old new WrongCount WaitsForNoMore a b = absurd (a b.same.count)
one_verdict old new WrongCount WrongCount a b = refl
one_verdict old new WrongCount (OtherSegment s) a b = absurd (a b.count)
one_verdict old new WrongCount (NewPair s t) a b = absurd (a b.same.count)
one_verdict old new (OtherSegment s) WaitsForNoMore a b =
    absurd (a.other (b.same.each s a.is_segment))
one_verdict old new (OtherSegment s) WrongCount a b = absurd (b a.count)
one_verdict old new (OtherSegment s) (OtherSegment r) a b =
    ap (λ (n : ℕ). OtherSegment n) (one_segment old new s r a b)
one_verdict old new (OtherSegment s) (NewPair r u) a b =
    absurd (a.other (b.same.each s a.is_segment))
one_verdict old new (NewPair s t) WaitsForNoMore a b = absurd (a.is_new (b.no_more s t a.kept))
one_verdict old new (NewPair s t) WrongCount a b = absurd (b a.same.count)
one_verdict old new (NewPair s t) (OtherSegment r) a b =
    absurd (b.other (a.same.each r b.is_segment))
one_verdict old new (NewPair s t) (NewPair r u) a b = one_pair old new s t r u a b

-- ---- one

decide_segment : (old new : Table) (s : ℕ) → IsDecided (IsSameSegment old new s)
decide_segment old new s =
    let is : Table → ℕ = λ table. (segment table s).cost in
    by_parts
    (decide_both ((segment new s).task ≡ (segment old s).task)
    (((segment new s).index ≡ (segment old s).index) × (is new ≡ is old))
    (decide_same (segment new s).task (segment old s).task)
    (decide_both ((segment new s).index ≡ (segment old s).index) (is new ≡ is old)
    (decide_same (segment new s).index (segment old s).index)
    (decide_same (is new) (is old))))
    (λ h. record { task = h.0; index = h.1.0; cost = h.1.1 })
    (λ same. (same.task, (same.index, same.cost)))

-- what the new program keeps, and the old one does not order
abbrev IsNew : (old new : Table) → (s t : ℕ) → Type 0
IsNew old new s t = IsKeptEdge new s t × (¬ MustPrecede old s t)

decide_new : (old new : Table) (s t : ℕ) → IsReadInPlace old → IsDecided (IsNew old new s t)
decide_new old new s t in_place =
    decide_both (IsKeptEdge new s t) (¬ MustPrecede old s t) (decide_kept_edge new s t)
    (decide_not (MustPrecede old s t) (decide_precedes old s t in_place))

-- what is kept and not new must precede in the old program
not_new : (old new : Table) (s t : ℕ) → IsReadInPlace old → IsKeptEdge new s t
    → (¬ IsNew old new s t)
    → MustPrecede old s t
not_new old new s t in_place kept none =
    holds_unless (decide_precedes old s t in_place) (λ apart. none (kept, apart))

-- each kept pair goes up to a segment
record KeepsInside (table : Table) : Type 0 where
  ascending : (s t : ℕ) → IsKeptEdge table s t → s < t
  within : (s t : ℕ) → IsKeptEdge table s t → IsSegment table t

keeps_inside : (marks : List Mark) → IsNested marks → KeepsInside (table_of marks)
keeps_inside marks is =
    let table : Table = table_of marks in
    let last = last_of_nested marks is in
    let tree : IsNestedTable table = nested (last_moment marks) last in
    let grouped = grouped_table (last_moment marks) last in
    record {
      ascending = λ s t kept. goes_up table tree s t (kept_within table s t tree grouped kept);
      within = λ s t kept. within_table table s t tree (kept_within table s t tree grouped kept);
    }

by_pairs : (old new : Table) → IsReadInPlace old → KeepsInside new → AreSameSegments old new
    → (verdict : Verdict) × IsVerdict old new verdict
by_pairs old new in_place inside same =
    let decided : (s t : ℕ) → IsDecided (IsNew old new s t) = λ s t. decide_new old new s t in_place in
    elim (find_first (λ t. (s : ℕ) × (s < t) × IsNew old new s t) (length new.segments)
    (λ t. decide_below (λ s. IsNew old new s t) t (λ s. decided s t))) [
      | inl none ↦ (
        WaitsForNoMore,
        record {
          same = same;
          no_more = λ s t kept. not_new old new s t in_place kept
              (λ is. none t (inside.within s t kept) (s, inside.ascending s t kept, is));
        },
      )
      | inr to ↦ elim (find_first (λ s. IsNew old new s to.0) to.0 (λ s. decided s to.0)) [
        | inl nor ↦ let holds = to.1.holds in absurd (nor holds.0 holds.1 holds.2)
        | inr from ↦ let holds = from.1.holds in (
          NewPair from.0 to.0,
          record {
            same = same;
            kept = holds.0;
            is_new = holds.1;
            least_to = λ r u less kept. not_new old new r u in_place kept
                (λ is. to.1.none_before u less (r, inside.ascending r u kept, is));
            least_from = λ r less kept. not_new old new r to.0 in_place kept
                (from.1.none_before r less);
          },
        )
      ]
    ]

by_segments : (old new : Table) → IsReadInPlace old → KeepsInside new
    → length new.segments ≡ length old.segments
    → (verdict : Verdict) × IsVerdict old new verdict
by_segments old new in_place inside count =
    let decided : (s : ℕ) → IsDecided (IsSameSegment old new s) = λ s. decide_segment old new s in
    elim (find_first (λ s. ¬ IsSameSegment old new s) (length old.segments)
    (λ s. decide_not (IsSameSegment old new s) (decided s))) [
      | inl none ↦
          by_pairs old new in_place inside (record {
            count = count;
            each = λ s known. holds_unless (decided s) (none s known);
          })
      | inr found ↦ (
        OtherSegment found.0,
        record {
          count = count;
          is_segment = found.1.below;
          other = found.1.holds;
          same_before = λ r less. holds_unless (decided r) (found.1.none_before r less);
        },
      )
    ]

pub some_verdict : (old : Table) (marks : List Mark) → IsReadInPlace old → IsNested marks
    → (verdict : Verdict) × IsVerdict old (table_of marks) verdict
some_verdict old marks in_place is =
    let new : Table = table_of marks in
    elim (decide_same (length new.segments) (length old.segments)) [
      | inl count ↦ by_segments old new in_place (keeps_inside marks is) count
      | inr other ↦ (WrongCount, other)
    ]
