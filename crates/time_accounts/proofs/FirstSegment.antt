-- Segment 0 begins first.
use Rattle.std.proofs.Common.{◌≡◌, ℕ, ◌<◌, ◌≤◌, inl, inr, List, [], ◌∷◌, length, refl, sym, arith}
use Rattle.std.proofs.Common.{get_or, subst}
use Rattle.std.proofs.lemmas.Bool.{cases_lt}
use Rattle.std.proofs.lemmas.List.Elements.{Contains-get_or}
use Rattle.task_segments.specs.Schedule.{at}
use Rattle.dispatch_core.specs.RecordedGraph.{RecordedGraph, IsGraph, Precedes, predecessors_of}
use Rattle.greedy_sim.proofs.Sums.{strong_induction}
use Rattle.time_accounts.specs.TimedRun.{TimedRun, IsTimedRun}
use Rattle.time_accounts.specs.OwnPath.{IsOwnPath}
use Rattle.time_accounts.proofs.Paths.{same_number}

pub begins_first : (graph : RecordedGraph) (p first last : ℕ) (run : TimedRun) → IsGraph graph
    → IsTimedRun (length graph.costs) (Precedes graph) p first last run
    → (s : ℕ) → s < length graph.costs → at run.begins 0 ≤ at run.begins s
begins_first graph p first last run is timed =
    strong_induction (λ s. s < length graph.costs → at run.begins 0 ≤ at run.begins s)
    (λ s before h. elim (cases_lt 0 s) [
      | inr none ↦
          let zero_it : s ≡ 0 = omega (arith, none) in
          subst (λ (x : ℕ). at run.begins 0 ≤ at run.begins x) (sym zero_it) (omega arith)
      | inl later ↦
          let r = get_or (predecessors_of graph s) 0 0 in
          let pred : Precedes graph r s =
          Contains-get_or (predecessors_of graph s) 0 0 (is.reached s later h) in
          let less = is.smaller r s pred in
          omega (
            arith,
            before r less (omega (arith, less, h)),
            timed.forward r (omega (arith, less, h)),
            timed.kept r s h pred,
          )
    ])

pub path_begins : (graph : RecordedGraph) (run : TimedRun) (path : List ℕ) → IsGraph graph
    → (own : IsOwnPath (length graph.costs) (Precedes graph) run path)
    → own.first ≡ 0
path_begins graph run [] is own = absurd own.linked
path_begins graph run (s ∷ rest) is own =
    let same : s ≡ own.first = same_number own.begins in
    elim (cases_lt 0 own.first) [
      | inr none ↦ omega (arith, none)
      | inl later ↦
          let inside = own.segments s (0, omega arith, refl) in
          absurd (own.alone (get_or (predecessors_of graph own.first) 0 0)
          (Contains-get_or (predecessors_of graph own.first) 0 0
          (is.reached own.first later (omega (arith, same, inside)))))
    ]
