-- What each call answers, under some costs and a relation of precedence.
use Rattle.std.specs.Prelude.{ℕ, ◌+◌, ◌-◌, ◌*◌, ◌≤◌, ◌≡◌, ◌↔◌, Bool, IsTrue, List, length, map}
use Rattle.std.specs.Prelude.{Option, Some, None, drop, sum, take}
use Rattle.program_text.specs.declared.limits.TheConstants.{MOST_WORK}
use Rattle.greedy_sim.specs.Greedy.{IsCurve, IsGreedyRun}
use Rattle.span_analysis.specs.Findings.{AreFindings}
use Rattle.task_segments.specs.Schedule.{IsLeastEnd, IsLegal, IsSpan, end_of}
use Rattle.task_segments.specs.Table.{Table, costs_of}
use Rattle.task_segments.specs.declared.table.Segment.{Segment}
use Rattle.spanprof_c.specs.Refusals.{IsOutOfRange}
use Rattle.spanprof_c.specs.declared.told.Measured.{Measured}
use Rattle.spanprof_c.specs.declared.told.Analysed.{Analysed}
use Rattle.spanprof_c.specs.declared.told.Bounds.{Bounds}

-- how many segments there are, the work and the span
pub record Measures (told : Measured) (costs : List ℕ) (R : ℕ → ℕ → Type 0) : Type 0 where
  pub counts : told.segments ≡ length costs
  pub sums : told.work ≡ sum costs
  pub is_span : IsSpan costs R told.span
  pub is_least_end : IsLeastEnd costs R told.span

-- the task and the cost of each segment
pub record ListsSegments (numbers costs : List ℕ) (table : Table) : Type 0 where
  pub are_tasks : numbers ≡ map (λ (row : Segment). row.task) table.segments
  pub are_costs : costs ≡ costs_of table

-- the work, the span, the earliest starts and the slacks, and a chain that reaches the span, which
-- stands at the head of a list
abbrev pub Analyses : Analysed
    → List ℕ
    → List ℕ
    → List ℕ
    → List ℕ
    → (ℕ → ℕ → Type 0)
    → Type 0
Analyses told starts slacks path costs R = AreFindings costs R (record {
  work = told.work;
  span = told.span;
  starts = starts;
  slacks = slacks;
  chain = take told.path_length path;
})

-- so many numbers stand at the head of a list, and behind them it holds what it held
pub record StandAtHead (n : ℕ) (before after : List ℕ) : Type 0 where
  pub inside : n ≤ length after
  pub behind : drop n after ≡ drop n before

-- the number of a thread, and where there is none, the largest number of 32 bits
abbrev pub thread_number : Option ℕ → ℕ
thread_number None = 4294967295
thread_number (Some thread) = thread

-- the greedy run on so many threads: when each segment starts and on which thread, and the end
pub record RunsGreedily (count : ℕ) (starts numbers : List ℕ) (last : ℕ) (costs : List ℕ)
    (R : ℕ → ℕ → Type 0)
    : Type 0 where
  pub threads : List (Option ℕ)
  pub is_run : IsGreedyRun costs R count starts threads
  pub are_numbers : numbers ≡ map thread_number threads
  pub is_end : last ≡ end_of costs starts
  pub in_range : ¬ IsOutOfRange count

-- the ends of the greedy runs on 1, 2, .. threads
pub record Curves (upto : ℕ) (ends costs : List ℕ) (R : ℕ → ℕ → Type 0) : Type 0 where
  pub is_curve : IsCurve costs R upto ends
  pub in_range : ¬ IsOutOfRange upto

-- whether the starts are a legal schedule
abbrev pub Judges : List ℕ → Bool → List ℕ → (ℕ → ℕ → Type 0) → Type 0
Judges starts legal costs R = IsTrue legal ↔ IsLegal costs R starts

-- The ends that a work and a span leave on so many threads.
pub record AreBounds (work span threads : ℕ) (told : Bounds) : Type 0 where
  pub in_range : ¬ IsOutOfRange threads
  pub little : work ≤ MOST_WORK
  pub ordered : span ≤ work
  -- the least T with work <= threads * T and span <= T: no schedule ends sooner
  pub work_fits : work ≤ threads * told.least
  pub span_fits : span ≤ told.least
  pub least : (T : ℕ) → work ≤ threads * T → span ≤ T → told.least ≤ T
  -- the greatest T with threads * T <= work + (threads - 1) * span: no greedy schedule ends later
  pub within : threads * told.greatest ≤ work + (threads - 1) * span
  pub greatest : (T : ℕ) → threads * T ≤ work + (threads - 1) * span → T ≤ told.greatest
