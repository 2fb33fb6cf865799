-- Times of each segment are those of a legal run within the limits, or have a fault.
use Rattle.std.proofs.Common.{◌≡◌, ◌≢◌, ◌+◌, ◌<◌, ◌≤◌, ◌⊎◌, ◌∙◌, ℕ, List, length, sym, refl}
use Rattle.std.proofs.Common.{arith, inl, inr, get_or}
use Rattle.std.proofs.lemmas.Bool.{cases_eq, cases_lt}
use Rattle.std.specs.List.{Contains}
use Rattle.dispatch_core.proofs.Decisions.{IsDecided, IsFirst, decide_below, decide_both, decide_either}
use Rattle.dispatch_core.proofs.Decisions.{decide_less, decide_most, decide_same, decided_by_equivalent}
use Rattle.dispatch_core.proofs.Decisions.{find_first}
use Rattle.dispatch_core.specs.RecordedGraph.{IsGraph, Precedes, RecordedGraph, predecessors_of}
use Rattle.greedy_sim.specs.declared.greedy.TheConstants.{MOST_THREADS}
use Rattle.program_text.specs.declared.limits.TheConstants.{MOST_WORK}
use Rattle.task_segments.specs.Schedule.{at}
use Rattle.time_accounts.proofs.Checked.{timed_run}
use Rattle.time_accounts.specs.Faults.{AreMoments, BeginsBefore, HasEach, IsCounted}
use Rattle.time_accounts.specs.Faults.{IsInRange, IsOverlap, IsRanged, IsThreadCount}
use Rattle.time_accounts.specs.Faults.{IsTimesFault, IsUpTo}
use Rattle.time_accounts.specs.TimedRun.{AreApart, AreInOrder, IsTimedRun, Runs, TimedRun}
use Rattle.time_accounts.specs.declared.fault.TimesFault.{TimesFault}
use Rattle.time_accounts.specs.declared.fault.TimesFault.TheVariants.{ThreadCount, Moments}
use Rattle.time_accounts.specs.declared.fault.TimesFault.TheVariants.{NoThread, EndsEarly, OutOfTime}
use Rattle.time_accounts.specs.declared.fault.TimesFault.TheVariants.{TooSoon, NotApart, OutOfMemory}

-- a member of a list, wherever it stands
decide_contains : (list : List ℕ) (x : ℕ) → IsDecided (Contains list x)
decide_contains list x =
    decide_below (λ k. get_or list k x ≡ x) (length list) (λ k. decide_same (get_or list k x) x)

pub record IsLegalWithin (n : ℕ) (R : ℕ → ℕ → Type 0) (p first last : ℕ) (run : TimedRun) : Type 0 where
  pub legal : IsTimedRun n R p first last run
  pub within : IsRanged n p first last run

pub record HasFault (n : ℕ) (R : ℕ → ℕ → Type 0) (p first last : ℕ) (run : TimedRun) : Type 0 where
  pub fault : TimesFault
  pub of_run : fault ≢ OutOfMemory
  pub is_fault : IsTimesFault n R p first last run fault

decide_count : (p : ℕ) → IsDecided (IsThreadCount p)
decide_count p =
    decided_by_equivalent ((1 ≤ p) × (p ≤ MOST_THREADS)) (IsThreadCount p)
    (λ h. record { some = h.0; few = h.1 }) (λ h. (h.some, h.few))
    (decide_both (1 ≤ p) (p ≤ MOST_THREADS) (decide_most 1 p) (decide_most p MOST_THREADS))

decide_moments : (first last : ℕ) → IsDecided (AreMoments first last)
decide_moments first last =
    decided_by_equivalent ((first ≤ last) × (last ≤ MOST_WORK)) (AreMoments first last)
    (λ h. record { in_time = h.0; soon = h.1 }) (λ h. (h.in_time, h.soon))
    (decide_both (first ≤ last) (last ≤ MOST_WORK) (decide_most first last)
    (decide_most last MOST_WORK))

module _ (graph : RecordedGraph) (is : IsGraph graph) (p first last : ℕ) (run : TimedRun) where
  abbrev pub n : ℕ
  n = length graph.costs

  abbrev pub R : ℕ → ℕ → Type 0
  R = Precedes graph

  abbrev pub Verdict : Type 0
  Verdict = IsLegalWithin n R p first last run ⊎ HasFault n R p first last run

  -- ---- ranges

  abbrev Out : ℕ → Type 0
  Out s = (p ≤ at run.threads s) ⊎ ((at run.ends s < at run.begins s)
      ⊎ ((at run.begins s < first) ⊎ (last < at run.ends s)))

  decide_out : (s : ℕ) → IsDecided (Out s)
  decide_out s =
      decide_either (p ≤ at run.threads s) ((at run.ends s < at run.begins s)
      ⊎ ((at run.begins s < first) ⊎ (last < at run.ends s)))
      (decide_most p (at run.threads s))
      (decide_either (at run.ends s < at run.begins s)
      ((at run.begins s < first) ⊎ (last < at run.ends s))
      (decide_less (at run.ends s) (at run.begins s))
      (decide_either (at run.begins s < first) (last < at run.ends s)
      (decide_less (at run.begins s) first) (decide_less last (at run.ends s))))

  in_range : (s : ℕ) → (Out s → ⊥) → IsInRange p first last run s
  in_range s fine = record {
    on_thread = elim (cases_lt (at run.threads s) p) [
      | inl less ↦ less
      | inr not_less ↦ absurd (fine (inl not_less))
    ];
    forward = elim (cases_lt (at run.ends s) (at run.begins s)) [
      | inl less ↦ absurd (fine (inr (inl less)))
      | inr not_less ↦ not_less
    ];
    after_first = elim (cases_lt (at run.begins s) first) [
      | inl less ↦ absurd (fine (inr (inr (inl less))))
      | inr not_less ↦ not_less
    ];
    before_last = elim (cases_lt last (at run.ends s)) [
      | inl less ↦ absurd (fine (inr (inr (inr less))))
      | inr not_less ↦ not_less
    ];
  }

  -- of a segment that is out of range the first reason is reported
  range_fault : (s : ℕ) → IsUpTo n p first last run s → Out s → HasFault n R p first last run
  range_fault s upto out = elim (cases_lt (at run.threads s) p) [
    | inr none ↦ record {
      fault = NoThread s;
      of_run = λ same. let never : NoThread s ≡ OutOfMemory = same in cc;
      is_fault = (upto, none);
    }
    | inl on ↦ elim (cases_lt (at run.ends s) (at run.begins s)) [
      | inl early ↦ record {
        fault = EndsEarly s;
        of_run = λ same. let never : EndsEarly s ≡ OutOfMemory = same in cc;
        is_fault = (upto, on, early);
      }
      | inr forward ↦ elim out [
        | inl none ↦ absurd (omega (arith, none, on))
        | inr other ↦ elim other [
          | inl early ↦ absurd (omega (arith, early, forward))
          | inr outside ↦ record {
            fault = OutOfTime s;
            of_run = λ same. let never : OutOfTime s ≡ OutOfMemory = same in cc;
            is_fault = (upto, on, forward, outside);
          }
        ]
      ]
    ]
  ]

  -- ---- order

  abbrev Late : ℕ → ℕ → Type 0
  Late s r = R r s × (at run.begins s < at run.ends r)

  decide_late : (s r : ℕ) → IsDecided (Late s r)
  decide_late s r =
      decide_both (R r s) (at run.begins s < at run.ends r)
      (decide_contains (predecessors_of graph s) r)
      (decide_less (at run.begins s) (at run.ends r))

  abbrev TooEarly : ℕ → Type 0
  TooEarly s = (r : ℕ) × (r < s) × Late s r

  decide_early : (s : ℕ) → IsDecided (TooEarly s)
  decide_early s = decide_below (Late s) s (decide_late s)

  -- no predecessor of a segment ends after its begin
  kept_at : (t : ℕ) → (TooEarly t → ⊥) → (s : ℕ) → R s t → at run.ends s ≤ at run.begins t
  kept_at t fine s before = elim (cases_lt (at run.begins t) (at run.ends s)) [
    | inl late ↦ absurd (fine (s, is.smaller s t before, (before, late)))
    | inr kept ↦ kept
  ]

  order_fault : (s : ℕ) → IsRanged n p first last run → IsFirst TooEarly n s
      → (r : ℕ) → IsFirst (Late s) s r → HasFault n R p first last run
  order_fault s ranged early r late = record {
    fault = TooSoon s r;
    of_run = λ same. let never : TooSoon s r ≡ OutOfMemory = same in cc;
    is_fault = (
      ranged,
      record {
        inside = early.below;
        below = λ q t inside before. kept_at t (early.none_before t inside) q before;
        before = late.holds.0;
        ends_later = late.holds.1;
        least = λ q before less. elim (cases_lt (at run.begins s) (at run.ends q)) [
          | inl after ↦ absurd (late.none_before q less (before, after))
          | inr kept ↦ kept
        ];
      },
    );
  }

  -- ---- threads

  abbrev Meets : ℕ → ℕ → Type 0
  Meets s other = BeginsBefore run other s × ((at run.threads other ≡ at run.threads s)
      × (Runs run s (at run.begins s) × Runs run other (at run.begins s)))

  decide_runs : (s m : ℕ) → IsDecided (Runs run s m)
  decide_runs s m =
      decide_both (at run.begins s ≤ m) (m < at run.ends s) (decide_most (at run.begins s) m)
      (decide_less m (at run.ends s))

  decide_before : (s t : ℕ) → IsDecided (BeginsBefore run s t)
  decide_before s t =
      decide_either (at run.begins s < at run.begins t)
      ((at run.begins s ≡ at run.begins t) × (s < t))
      (decide_less (at run.begins s) (at run.begins t))
      (decide_both (at run.begins s ≡ at run.begins t) (s < t)
      (decide_same (at run.begins s) (at run.begins t)) (decide_less s t))

  decide_meets : (s other : ℕ) → IsDecided (Meets s other)
  decide_meets s other =
      decide_both (BeginsBefore run other s) ((at run.threads other ≡ at run.threads s)
      × (Runs run s (at run.begins s) × Runs run other (at run.begins s)))
      (decide_before other s)
      (decide_both (at run.threads other ≡ at run.threads s)
      (Runs run s (at run.begins s) × Runs run other (at run.begins s))
      (decide_same (at run.threads other) (at run.threads s))
      (decide_both (Runs run s (at run.begins s)) (Runs run other (at run.begins s))
      (decide_runs s (at run.begins s)) (decide_runs other (at run.begins s))))

  -- it begins while one that began before it runs on its thread
  abbrev Overlaps : ℕ → Type 0
  Overlaps s = (other : ℕ) × (other < n) × Meets s other

  decide_overlaps : (s : ℕ) → IsDecided (Overlaps s)
  decide_overlaps s = decide_below (Meets s) n (decide_meets s)

  overlap : (s : ℕ) → s < n → Overlaps s → IsOverlap n run s
  overlap s inside h = record {
    inside = inside;
    other = h.0;
    other_inside = h.1;
    before = h.2.0;
    same = h.2.1.0;
    runs = h.2.1.1.0;
    other_runs = h.2.1.1.1;
  }

  overlaps : (s : ℕ) → IsOverlap n run s → Overlaps s
  overlaps s h = (h.other, h.other_inside, (h.before, (h.same, (h.runs, h.other_runs))))

  -- one of them begins at this moment
  abbrev AtMoment : ℕ → ℕ → Type 0
  AtMoment m s = (at run.begins s ≡ m) × Overlaps s

  decide_at : (m s : ℕ) → IsDecided (AtMoment m s)
  decide_at m s =
      decide_both (at run.begins s ≡ m) (Overlaps s) (decide_same (at run.begins s) m)
      (decide_overlaps s)

  abbrev SomeAt : ℕ → Type 0
  SomeAt m = (s : ℕ) × (s < n) × AtMoment m s

  decide_some_at : (m : ℕ) → IsDecided (SomeAt m)
  decide_some_at m = decide_below (AtMoment m) n (decide_at m)

  overlap_fault : IsRanged n p first last run → AreInOrder n R run
      → (m : ℕ) → ((k : ℕ) → k < m → SomeAt k → ⊥)
      → (s : ℕ) → IsFirst (AtMoment m) n s → HasFault n R p first last run
  overlap_fault ranged order m none s found = record {
    fault = NotApart s;
    of_run = λ same. let never : NotApart s ≡ OutOfMemory = same in cc;
    is_fault = (
      ranged,
      order,
      record {
        overlap = overlap s found.below found.holds.1;
        first = λ t other before. elim before [
          | inl less ↦
              none (at run.begins t) (omega (arith, less, found.holds.0))
              (t, other.inside, (refl, overlaps t other))
          | inr same ↦
              found.none_before t same.1 (same.0 ∙ found.holds.0, overlaps t other)
        ];
      },
    );
  }

  -- two segments that run on one thread at one moment overlap
  pair_overlaps : (s t m : ℕ) → s < n → BeginsBefore run s t
      → at run.threads s ≡ at run.threads t → Runs run s m → Runs run t m → Overlaps t
  pair_overlaps s t m inside before same on_s on_t =
      let earlier : at run.begins s ≤ at run.begins t = elim before [
        | inl less ↦ omega (arith, less)
        | inr tied ↦ omega (arith, tied.0)
      ] in (
        s,
        inside,
        (
          before,
          (
            same,
            (
              (omega arith, omega (arith, on_t.0, on_t.1)),
              (earlier, omega (arith, on_t.0, on_s.1)),
            ),
          ),
        ),
      )

  apart : ((s : ℕ) → s < n → Overlaps s → ⊥) → AreApart n run
  apart none s t m less inside same on_s on_t =
      elim (cases_lt (at run.begins t) (at run.begins s)) [
        | inl later ↦
            none s (omega (arith, less, inside))
            (pair_overlaps t s m inside (inl later) (sym same) on_t on_s)
        | inr not_later ↦ elim (cases_eq (at run.begins s) (at run.begins t)) [
          | inl tied ↦
              none t inside
              (pair_overlaps s t m (omega (arith, less, inside)) (inr (tied, less)) same on_s on_t)
          | inr differ ↦
              none t inside
              (pair_overlaps s t m (omega (arith, less, inside))
              (inl (omega (arith, not_later, differ))) same on_s on_t)
        ]
      ]

  legal_within : IsRanged n p first last run → AreInOrder n R run → AreApart n run
      → IsLegalWithin n R p first last run
  legal_within ranged order separate = record {
    legal = timed_run ranged order separate;
    within = ranged;
  }

  -- the begins lie before the moment after the last one
  begins_soon : IsRanged n p first last run → (s : ℕ) → s < n → at run.begins s < last + 1
  begins_soon ranged s h =
      let range = ranged.ranges s h in omega (arith, range.forward, range.before_last)

  by_threads : IsRanged n p first last run → AreInOrder n R run → Verdict
  by_threads ranged order = elim (find_first SomeAt (last + 1) decide_some_at) [
    | inl none ↦ inl (legal_within ranged order (apart (λ s inside h.
        none (at run.begins s) (begins_soon ranged s inside) (s, inside, (refl, h)))))
    | inr found ↦ elim (find_first (AtMoment found.0) n (decide_at found.0)) [
      | inl nobody ↦
          absurd (nobody found.1.holds.0 found.1.holds.1 found.1.holds.2)
      | inr segment ↦
          inr (overlap_fault ranged order found.0 found.1.none_before segment.0 segment.1)
    ]
  ]

  by_order : IsRanged n p first last run → Verdict
  by_order ranged = elim (find_first TooEarly n decide_early) [
    | inl none ↦ by_threads ranged (λ s t inside before. kept_at t (none t inside) s before)
    | inr early ↦ elim (find_first (Late early.0) early.0 (decide_late early.0)) [
      | inl nobody ↦
          absurd (nobody early.1.holds.0 early.1.holds.1 early.1.holds.2)
      | inr late ↦ inr (order_fault early.0 ranged early.1 late.0 late.1)
    ]
  ]

  by_ranges : IsCounted n p first last run → Verdict
  by_ranges counted = elim (find_first Out n decide_out) [
    | inl none ↦
        by_order (record { counted = counted; ranges = λ s inside. in_range s (none s inside) })
    | inr out ↦ inr (range_fault out.0 (record {
      counted = counted;
      inside = out.1.below;
      below = λ r less. in_range r (out.1.none_before r less);
    }) out.1.holds)
  ]

  pub some_verdict : HasEach n run → Verdict
  some_verdict each = elim (decide_count p) [
    | inr none ↦ inr (record {
      fault = ThreadCount;
      of_run = λ same. let never : ThreadCount ≡ OutOfMemory = same in cc;
      is_fault = none;
    })
    | inl count ↦ elim (decide_moments first last) [
      | inr none ↦ inr (record {
        fault = Moments;
        of_run = λ same. let never : Moments ≡ OutOfMemory = same in cc;
        is_fault = (count, none);
      })
      | inl moments ↦
          by_ranges (record { threads = count; moments = moments; each = each })
    ]
  ]
