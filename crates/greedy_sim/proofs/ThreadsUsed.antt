-- A run whose last threads have no segment is the run on fewer threads too.
use Rattle.std.proofs.Common.{◌≡◌, ℕ, suc, ◌+◌, ◌<◌, ◌≤◌, inl, inr, true, false, List}
use Rattle.std.proofs.Common.{[], ◌∷◌, length, Option, Some, None, slice_index_or, refl, ap, sym}
use Rattle.std.proofs.Common.{◌∙◌, arith, subst, eqb}
use Rattle.std.specs.List.{list_any, AllByRecursion, IsDistinct}
use Rattle.std.proofs.lemmas.Bool.{cases_Bool, cases_lt, or_parts, and_parts, eqb-true}
use Rattle.std.proofs.lemmas.Bool.{leb-true, ltb-true}
use Rattle.std.proofs.lemmas.Map.Steps.{length-le_from_distinct_below}
use Rattle.task_segments.specs.Schedule.{at}
use Rattle.greedy_sim.specs.Greedy.{IsGreedyRun, runs_at, running_count}
use Rattle.greedy_sim.specs.Simulation.{UsesBelow}
use Rattle.greedy_sim.proofs.Sums.{one_if}

none_equal : (x : ℕ) (xs : List ℕ)
    → list_any (eqb x) xs ≡ false
    → AllByRecursion (λ y. eqb x y ≡ false) xs
none_equal x [] h = tt
none_equal x (y ∷ ys) h =
    let parts = or_parts (eqb x y) (list_any (eqb x) ys) h in (parts.0, none_equal x ys parts.1)

-- a segment runs at a moment, on this thread
pub record RunsOn (costs starts : List ℕ) (T : ℕ → Option ℕ) (m s k : ℕ) : Type 0 where
  pub inside : s < length costs
  pub runs : runs_at m (at costs s) (at starts s) ≡ true
  pub on : T s ≡ Some k

one_later : (cost start : ℕ) (costs starts : List ℕ) (T : ℕ → Option ℕ) (m s k : ℕ)
    → RunsOn costs starts (λ r. T (suc r)) m s k
    → RunsOn (cost ∷ costs) (start ∷ starts) T m (suc s) k
one_later cost start costs starts T m s k found =
    record { inside = omega (arith, found.inside); runs = found.runs; on = found.on }

-- the threads of those that run at a moment: different ones, and as many as run
pub record RunningThreads (costs starts : List ℕ) (T : ℕ → Option ℕ) (m : ℕ) : Type 0 where
  pub threads : List ℕ
  pub each : length threads ≡ running_count costs starts m
  pub distinct : IsDistinct eqb threads
  pub of_one : (k : ℕ) → list_any (eqb k) threads ≡ true → (s : ℕ) × RunsOn costs starts T m s k

none_run : (k : ℕ) → (list_any (eqb k) [] ≡ true → ⊥)
none_run k h = absurd (cc)

with_first : {costs starts : List ℕ} {T : ℕ → Option ℕ} {m : ℕ} (cost start k : ℕ)
    → RunsOn (cost ∷ costs) (start ∷ starts) T m 0 k
    → ((s j : ℕ) → 0 < s → RunsOn (cost ∷ costs) (start ∷ starts) T m s j
    → RunsOn (cost ∷ costs) (start ∷ starts) T m 0 j → ⊥)
    → RunningThreads costs starts (λ s. T (suc s)) m
    → RunningThreads (cost ∷ costs) (start ∷ starts) T m
unfolding IsDistinct
with_first {costs} {starts} {T} {m} cost start k first apart rest =
    let not_later : list_any (eqb k) rest.threads ≡ false =
    elim (cases_Bool (list_any (eqb k) rest.threads)) [
      | inr none ↦ none
      | inl some ↦
          let found = rest.of_one k some in
          absurd (apart (suc found.0) k (omega arith)
          (one_later cost start costs starts T m found.0 k found.1) first)
    ] in
    record {
      threads = k ∷ rest.threads;
      each = omega (arith, rest.each, ap one_if first.runs);
      distinct = (none_equal k rest.threads not_later, rest.distinct);
      of_one = λ j h. elim (cases_Bool (eqb j k)) [
        | inl same ↦ (
          0,
          subst (λ (i : ℕ). RunsOn (cost ∷ costs) (start ∷ starts) T m 0 i)
              (sym (eqb-true j k same)) first,
        )
        | inr other ↦
            let found = rest.of_one j (rw other at h) in
            (suc found.0, one_later cost start costs starts T m found.0 j found.1)
      ];
    }

pub running_threads : (costs starts : List ℕ) (T : ℕ → Option ℕ) (m : ℕ)
    → ((s : ℕ) → s < length costs → runs_at m (at costs s) (at starts s) ≡ true
    → (k : ℕ) × (T s ≡ Some k))
    → ((s t k : ℕ) → t < s → RunsOn costs starts T m s k → RunsOn costs starts T m t k → ⊥)
    → RunningThreads costs starts T m
unfolding IsDistinct
running_threads [] starts T m each apart =
    record { threads = []; each = refl; distinct = tt; of_one = λ k h. absurd (none_run k h) }
running_threads (cost ∷ costs) [] T m each apart =
    record { threads = []; each = refl; distinct = tt; of_one = λ k h. absurd (none_run k h) }
running_threads (cost ∷ costs) (start ∷ starts) T m each apart =
    let rest = running_threads costs starts (λ s. T (suc s)) m
    (λ s inside runs. each (suc s) (omega (arith, inside)) runs)
    (λ s t k less one other. apart (suc s) (suc t) k (omega (arith, less))
    (one_later cost start costs starts T m s k one)
    (one_later cost start costs starts T m t k other)) in
    elim (cases_Bool (runs_at m cost start)) [
      | inl runs ↦
          let here = each 0 (omega arith) runs in
          with_first cost start here.0
          (record { inside = omega arith; runs = runs; on = here.1 })
          (λ s k later one other. apart s 0 k later one other) rest
      | inr idle ↦ record {
        threads = rest.threads;
        each = omega (arith, rest.each, ap one_if idle);
        distinct = rest.distinct;
        of_one = λ k h.
            let found = rest.of_one k h in
            (suc found.0, one_later cost start costs starts T m found.0 k found.1);
      }
    ]

pub runs_from_to : (m cost start : ℕ) → runs_at m cost start ≡ true
    → (start ≤ m) × (m < start + cost)
runs_from_to m cost start h =
    let parts = and_parts _ _ h in (leb-true start m parts.0, ltb-true m (start + cost) parts.1)

pub same_thread : {j k : ℕ} → Some j ≡ Some k → j ≡ k
same_thread {j} {k} h = cc

-- two segments that run at one moment have different threads
different_threads : {costs : List ℕ} {R : ℕ → ℕ → Type 0} {p : ℕ} {starts : List ℕ}
    {threads : List (Option ℕ)}
    → IsGreedyRun costs R p starts threads
    → (m s t k : ℕ)
    → t < s
    → RunsOn costs starts (λ r. slice_index_or threads r None) m s k
    → RunsOn costs starts (λ r. slice_index_or threads r None) m t k
    → ⊥
different_threads {costs} {R} {p} {starts} {threads} run m s t k less one other =
    let first = runs_from_to m (at costs s) (at starts s) one.runs in
    let second = runs_from_to m (at costs t) (at starts t) other.runs in
    let of_s = run.with s one.inside (omega (arith, first.0, first.1)) in
    let of_t = run.with t other.inside (omega (arith, second.0, second.1)) in
    let same_s : of_s.0 ≡ k = same_thread (sym of_s.1.has ∙ one.on) in
    let same_t : of_t.0 ≡ k = same_thread (sym of_t.1.has ∙ other.on) in
    elim (cases_lt (at starts s) (at starts t)) [
      | inl sooner ↦
          let ended = of_t.1.free s (one.on ∙ ap (λ (j : ℕ). Some j) (sym same_t)) sooner in
          omega (arith, ended, first.1, second.0)
      | inr not_sooner ↦ elim (cases_lt (at starts t) (at starts s)) [
        | inl later ↦
            let ended = of_s.1.free t (other.on ∙ ap (λ (j : ℕ). Some j) (sym same_s)) later in
            omega (arith, ended, second.1, first.0)
        | inr not_later ↦
            let same : at starts t ≡ at starts s = omega (arith, not_sooner, not_later) in
            omega (arith, of_s.1.ascending t k less same other.on, same_s)
      ]
    ]

few_run : {costs : List ℕ} {R : ℕ → ℕ → Type 0} {p q : ℕ} {starts : List ℕ}
    {threads : List (Option ℕ)}
    → IsGreedyRun costs R q starts threads
    → UsesBelow p threads
    → (m : ℕ)
    → running_count costs starts m ≤ p
few_run {costs} {R} {p} {q} {starts} {threads} run below m =
    let T : ℕ → Option ℕ = λ s. slice_index_or threads s None in
    let found = running_threads costs starts T m
    (λ s inside runs.
    let spans = runs_from_to m (at costs s) (at starts s) runs in
    let thread = run.with s inside (omega (arith, spans.0, spans.1)) in (thread.0, thread.1.has))
    (different_threads run m) in
    let few = length-le_from_distinct_below found.threads p found.distinct
    (λ k h. let one = found.of_one k h in below one.0 k one.1.on) in
    omega (arith, found.each, few)

pub on_fewer : {costs : List ℕ} {R : ℕ → ℕ → Type 0} {p q : ℕ} {starts : List ℕ}
    {threads : List (Option ℕ)}
    → IsGreedyRun costs R q starts threads
    → p ≤ q
    → UsesBelow p threads
    → IsGreedyRun costs R p starts threads
on_fewer run less below =
    record {
      greedy = record {
        legal_on = record {
          legal = run.greedy.legal_on.legal;
          on_threads = few_run run below;
        };
        at_once = run.greedy.at_once;
        no_idle = λ s m inside few ready.
            run.greedy.no_idle s m inside (omega (arith, few, less)) ready;
      };
      in_order = run.in_order;
      each = run.each;
      without = run.without;
      with = λ s inside positive.
          let thread = run.with s inside positive in (
            thread.0,
            record {
              has = thread.1.has;
              within = below s thread.0 thread.1.has;
              free = thread.1.free;
              ascending = thread.1.ascending;
              smallest = thread.1.smallest;
            },
          );
    }
