-- What the counts of unfinished predecessors show, and how a finish changes them.
use Rattle.std.proofs.Common.{ℕ, ◌<◌, ◌≡◌, ◌⊎◌, ◌↔◌, List, [], ◌∷◌, ◌++◌, Option, Some, None}
use Rattle.std.proofs.Common.{length, cond, get_or, map, refl, sym, ap, ◌∙◌, subst, arith, inl, inr}
use Rattle.std.specs.Prelude.{slice_get, slice_set, Contains, is_none, replicate}
use Rattle.std.specs.List.Sorted.{IsStrictlyIncreasing}
use Rattle.std.proofs.lemmas.Bool.{cases_lt}
use Rattle.std.proofs.lemmas.Option.{same_Some, slice_get-get_or, slice_get_within}
use Rattle.std.proofs.lemmas.List.{length-map, get_or-map}
use Rattle.task_segments.specs.Table.{Table}
use Rattle.task_segments.specs.declared.table.Segment.{Segment}
use Rattle.task_segments.specs.Precedence.{MustPrecede}
use Rattle.depend_table.specs.KeptEdges.{IsKeptEdge}
use Rattle.depend_table.specs.Lists.{Lists}
use Rattle.depend_table.proofs.Lists.{lists_same, cases_contains}
use Rattle.open_segments.specs.Counters.{AreLowered, IsCounted, unfinished_count}
use Rattle.open_segments.specs.Entry.{entry}
use Rattle.open_segments.specs.Facts.{IsSoundTable}
use Rattle.open_segments.specs.NumberLists.{IsListed}
use Rattle.open_segments.proofs.PlaceLemmas.{entry-replicate}
use Rattle.open_segments.proofs.Falls.{IsOnce, add_one, all_counted, count_falls, counted_above}
use Rattle.open_segments.proofs.Falls.{counts_after, lowered_like, none_left, once_listed}
use Rattle.dispatch_core.specs.declared.event.Event.{Event}
use Rattle.dispatch_core.specs.declared.event.Event.TheVariants.{Finish}
use Rattle.dispatch_core.specs.Graph.{IsGraphOf}
use Rattle.dispatch_core.specs.RecordedGraph.{RecordedGraph, predecessors_of}
use Rattle.dispatch_core.specs.Run.{Run, HasFinished, Runs, IsLegalRun, BecomesReady}
use Rattle.dispatch_core.specs.Sound.{AreValues, IsWaiting, TellFinished}
use Rattle.dispatch_core.specs.Successors.{AreSuccessors}
use Rattle.dispatch_core.proofs.FinishStep.{no_entry, no_value, started_known}
use Rattle.dispatch_core.proofs.Histories.{legal_push}
use Rattle.dispatch_core.proofs.KeptEnough.{becomes_by_kept, entry_finished, finished_entry}
use Rattle.dispatch_core.proofs.KeptEnough.{kept_by_becomes, kept_enough}
use Rattle.dispatch_core.proofs.StartAndEnd.{no_more}

-- a graph has a cost for each segment
pub costs_each : (table : Table) (graph : RecordedGraph) → IsGraphOf table graph
    → length graph.costs ≡ length table.segments
costs_each table graph of =
    ap (λ (l : List ℕ). length l) of.costs
    ∙ length-map table.segments (λ (row : Segment). row.cost)

-- the list of a segment's predecessors
preds_at : (table : Table) (graph : RecordedGraph) (t : ℕ) → IsGraphOf table graph
    → t < length table.segments
    → slice_get graph.predecessors t ≡ Some (predecessors_of graph t)
preds_at table graph t of known =
    slice_get-get_or graph.predecessors t [] (let each = of.each in omega (arith, known, each))

-- each predecessor once
once_each : (table : Table) (graph : RecordedGraph) → IsGraphOf table graph
    → (t : ℕ) (list : List ℕ)
    → slice_get graph.predecessors t ≡ Some list
    → IsOnce list
once_each table graph of t list is =
    let within = slice_get_within graph.predecessors t list is in
    let known : t < length table.segments = let each = of.each in omega (arith, within, each) in
    let same : predecessors_of graph t ≡ list =
    same_Some (predecessors_of graph t) list (sym (preds_at table graph t of known) ∙ is) in
    subst IsOnce same
    (once_listed (λ s. IsKeptEdge table s t) (predecessors_of graph t) (of.predecessors t known))

-- the successors of a segment are those that have it among their predecessors
pub listed_as : (table : Table) (graph : RecordedGraph) (successors : List (List ℕ)) (s t : ℕ)
    → IsGraphOf table graph
    → AreSuccessors graph successors
    → s < length table.segments
    → Contains (get_or successors s []) t ↔ IsListed graph.predecessors t s
listed_as table graph successors s t of followed known =
    let follows = (followed.follow s (let each = costs_each table graph of in
    omega (arith, known, each))).each t in (
      λ has. elim (cases_lt t (length table.segments)) [
        | inl within ↦ record {
          list = predecessors_of graph t;
          is_list = preds_at table graph t of within;
          has = follows.0 has;
        }
        | inr past ↦ absurd (no_more graph t s (let each = of.each in omega (arith, each, past))
            (follows.0 has))
      ],
      λ listed.
          let within = slice_get_within graph.predecessors t listed.list listed.is_list in
          let there = slice_get-get_or graph.predecessors t [] within in
          follows.1 (subst (λ (l : List ℕ). Contains l s)
          (same_Some listed.list (predecessors_of graph t) (sym listed.is_list ∙ there))
          listed.has),
    )

pub successors_ascend : (table : Table) (graph : RecordedGraph) (successors : List (List ℕ)) (s : ℕ)
    → IsGraphOf table graph
    → AreSuccessors graph successors
    → s < length table.segments
    → IsStrictlyIncreasing (get_or successors s [])
successors_ascend table graph successors s of followed known =
    (followed.follow s (let each = costs_each table graph of in omega (arith, known, each))).ascending

-- the segment is known and has no value
pub record IsUnfinished (table : Table) (values : List (Option ℕ)) (s : ℕ) : Type 0 where
  pub known : s < length table.segments
  pub within : s < length values
  pub none : entry values s ≡ None

-- what a worker runs is so, as a core stores it
pub runs_unfinished : (stored seen : Run) (value_of : ℕ → ℕ → ℕ → ℕ) (values : List (Option ℕ))
    (worker s t : ℕ)
    → stored ≡ seen
    → IsLegalRun stored.table stored.history
    → AreValues stored.table stored.history value_of values
    → Runs seen.history worker t
    → s ≡ t
    → IsUnfinished stored.table values s
runs_unfinished stored seen value_of values worker s t same legal are runs is =
    let Here : Run → Type 0 = λ run. Runs run.history worker t in
    let stored_runs : Runs stored.history worker s =
    subst (λ (n : ℕ). Runs stored.history worker n) (sym is) (subst Here (sym same) runs) in
    let start = started_known stored.table stored.history worker s legal stored_runs.started in
    record {
      known = start.1;
      within = let known = start.1 in let each = are.tell.each in omega (arith, known, each);
      none = no_value stored.table stored.history value_of values s are stored_runs.unfinished;
    }

-- the successors of a segment that is not finished are counted
pub successor_counted : (table : Table) (values : List (Option ℕ)) (graph : RecordedGraph)
    (successors : List (List ℕ)) (counts : List ℕ) (s t : ℕ)
    → IsWaiting table values graph successors counts
    → IsUnfinished table values s
    → Contains (get_or successors s []) t
    → IsCounted counts t
successor_counted table values graph successors counts s t state finishing has =
    counted_above values graph.predecessors counts s t finishing.within finishing.none
    (once_each table graph state.of_table) state.counted
    ((listed_as table graph successors s t state.of_table state.followed finishing.known).0 has)

-- once a segment has its value, and the counts of its successors are lowered
pub waits_after : (table : Table) (values : List (Option ℕ)) (graph : RecordedGraph)
    (successors : List (List ℕ)) (counts after : List ℕ) (s v : ℕ)
    → IsWaiting table values graph successors counts
    → IsUnfinished table values s
    → AreLowered counts (Contains (get_or successors s [])) after
    → IsWaiting table (slice_set values s (Some v)) graph successors after
waits_after table values graph successors counts after s v state finishing lowered = record {
  of_table = state.of_table;
  followed = state.followed;
  counted = counts_after values graph.predecessors counts after s v finishing.within
      finishing.none
      (once_each table graph state.of_table) state.counted
      (lowered_like counts after (Contains (get_or successors s []))
      (λ t. IsListed graph.predecessors t s)
      (λ t. listed_as table graph successors s t state.of_table state.followed finishing.known)
      lowered);
}

-- nothing has a value at the start
all_unfinished : (n : ℕ) (list : List ℕ)
    → length list ≡ unfinished_count (replicate n None) list
all_unfinished n [] = refl
all_unfinished n (x ∷ xs) =
    let none = no_entry (entry (replicate n None) x) (λ v is. entry-replicate n v x is) in
    let rest = all_unfinished n xs in
    let here : cond {A = ℕ} (is_none (entry (replicate n None) x)) 1 0 ≡ 1 =
    ap (λ (o : Option ℕ). cond {A = ℕ} (is_none o) 1 0) none in
    omega (arith, add_one (replicate n None) x xs, here, rest)

pub waits_first : (table : Table) (graph : RecordedGraph) (successors : List (List ℕ))
    (counts : List ℕ)
    → IsGraphOf table graph
    → AreSuccessors graph successors
    → counts ≡ map (λ (l : List ℕ). length l) graph.predecessors
    → IsWaiting table (replicate (length table.segments) None) graph successors counts
waits_first table graph successors counts of followed are = record {
  of_table = of;
  followed = followed;
  counted = record {
    each = ap (λ (l : List ℕ). length l) are
        ∙ length-map graph.predecessors (λ (l : List ℕ). length l);
    counted = λ t list is.
        let within = slice_get_within graph.predecessors t list is in
        let same : get_or graph.predecessors t [] ≡ list = same_Some (get_or graph.predecessors t [])
        list (sym (slice_get-get_or graph.predecessors t [] within) ∙ is) in
        let inside : t < length (map (λ (l : List ℕ). length l) graph.predecessors) =
        omega (arith, within, length-map graph.predecessors (λ (l : List ℕ). length l)) in
        ap (λ (l : List ℕ). slice_get l t) are
        ∙ slice_get-get_or (map (λ (l : List ℕ). length l) graph.predecessors) t 0 inside
        ∙ ap (λ (n : ℕ). Some n)
        (get_or-map (λ (l : List ℕ). length l) graph.predecessors t [] 0 within
        ∙ ap (λ (l : List ℕ). length l) same ∙ all_unfinished (length table.segments) list);
  };
}

-- a count of 0 says that all that must precede the segment is finished
pub none_counted : (table : Table) (history : List Event) (values : List (Option ℕ))
    (graph : RecordedGraph) (successors : List (List ℕ)) (counts : List ℕ) (t : ℕ)
    → IsSoundTable table
    → IsLegalRun table history
    → TellFinished (length table.segments) history values
    → IsWaiting table values graph successors counts
    → t < length table.segments
    → (slice_get counts t ≡ Some 0)
    ↔ ((p : ℕ) → MustPrecede table p t → HasFinished history p)
none_counted table history values graph successors counts t sound legal tell state known =
    let list : List ℕ = predecessors_of graph t in
    let there = state.counted.counted t list (preds_at table graph t state.of_table known) in
    let lists = state.of_table.predecessors t known in (
      λ is.
          let none : unfinished_count values list ≡ 0 =
          same_Some (unfinished_count values list) 0 (sym there ∙ is) in
          kept_enough table history t sound.goes_up sound.chains legal
          (λ p edge. entry_finished table history values p (entry values p) tell refl
          (none_left values list none p ((lists.each p).1 edge))),
      λ all.
          let none = all_counted values list (λ p has. finished_entry table history values p tell
          (all p (sound.chains.within p t ((lists.each p).0 has)))) in
          there ∙ ap (λ (n : ℕ). Some n) none,
    )

-- a successor that waits for nothing else becomes ready by the finish of s
one_becomes : (table : Table) (history : List Event) (values : List (Option ℕ))
    (graph : RecordedGraph) (successors : List (List ℕ)) (counts : List ℕ) (worker s v t : ℕ)
    → IsSoundTable table
    → IsLegalRun table history
    → Runs history worker s
    → TellFinished (length table.segments) (history ++ Finish worker s ∷ [])
    (slice_set values s (Some v))
    → IsWaiting table values graph successors counts
    → IsUnfinished table values s
    → Contains (get_or successors s []) t
    → slice_get counts t ≡ Some 1
    → BecomesReady table history (history ++ Finish worker s ∷ []) t
one_becomes table history values graph successors counts worker s v t sound legal runs tell state
    finishing has one =
    let listed = (listed_as table graph successors s t state.of_table state.followed finishing.known).0 has in
    let list : List ℕ = listed.list in
    let t_within = slice_get_within graph.predecessors t list listed.is_list in
    let t_known : t < length table.segments =
    let each = state.of_table.each in omega (arith, t_within, each) in
    let same : list ≡ predecessors_of graph t = same_Some list (predecessors_of graph t)
    (sym listed.is_list ∙ preds_at table graph t state.of_table t_known) in
    let lists : Lists (λ p. IsKeptEdge table p t) list = subst
    (λ (l : List ℕ). Lists (λ p. IsKeptEdge table p t) l) (sym same)
    (state.of_table.predecessors t t_known) in
    let count : unfinished_count values list ≡ 1 = same_Some (unfinished_count values list) 1
    (sym (state.counted.counted t list listed.is_list) ∙ one) in
    let falls = count_falls values s v list finishing.within finishing.none
    (once_each table graph state.of_table t list listed.is_list) listed.has in
    let left : unfinished_count (slice_set values s (Some v)) list ≡ 0 =
    omega (arith, count, falls) in
    becomes_by_kept table history worker s t sound.goes_up sound.chains legal
    (legal_push table history (Finish worker s) legal runs) runs ((lists.each s).0 listed.has)
    t_known
    (λ p kept. entry_finished table (history ++ Finish worker s ∷ []) (slice_set values s (Some v))
    p (entry (slice_set values s (Some v)) p) tell refl
    (none_left (slice_set values s (Some v)) list left p ((lists.each p).1 kept)))

becomes_one : (table : Table) (history : List Event) (values : List (Option ℕ))
    (graph : RecordedGraph) (successors : List (List ℕ)) (counts : List ℕ) (worker s v t : ℕ)
    → IsSoundTable table
    → IsLegalRun table history
    → TellFinished (length table.segments) (history ++ Finish worker s ∷ [])
    (slice_set values s (Some v))
    → IsWaiting table values graph successors counts
    → IsUnfinished table values s
    → BecomesReady table history (history ++ Finish worker s ∷ []) t
    → Contains (get_or successors s []) t × (slice_get counts t ≡ Some 1)
becomes_one table history values graph successors counts worker s v t sound legal tell state finishing
    becomes =
    let list : List ℕ = predecessors_of graph t in
    let there = preds_at table graph t state.of_table becomes.is_now.known in
    let lists = state.of_table.predecessors t becomes.is_now.known in
    let decided : IsKeptEdge table s t ⊎ ¬ IsKeptEdge table s t = elim (cases_contains list s) [
      | inl has ↦ inl ((lists.each s).0 has)
      | inr absent ↦ inr (λ edge. absent ((lists.each s).1 edge))
    ] in
    let kept = kept_by_becomes table history worker s t sound.goes_up sound.chains legal decided
    becomes in
    let has : Contains list s = (lists.each s).1 kept.0 in
    let left = all_counted (slice_set values s (Some v)) list (λ p here. finished_entry table
    (history ++ Finish worker s ∷ []) (slice_set values s (Some v)) p tell
    (kept.1 p ((lists.each p).0 here))) in
    let falls = count_falls values s v list finishing.within finishing.none
    (once_each table graph state.of_table t list there) has in
    let one : unfinished_count values list ≡ 1 = omega (arith, left, falls) in (
      (listed_as table graph successors s t state.of_table state.followed finishing.known).1
          (record { list = list; is_list = there; has = has }),
      state.counted.counted t list there ∙ ap (λ (n : ℕ). Some n) one,
    )

-- what becomes ready by the finish of s: its successors that wait for nothing else
pub newly_listed : (table : Table) (history : List Event) (values : List (Option ℕ))
    (graph : RecordedGraph) (successors : List (List ℕ)) (counts : List ℕ) (worker s v : ℕ)
    (ready : List ℕ)
    → IsSoundTable table
    → IsLegalRun table history
    → Runs history worker s
    → TellFinished (length table.segments) (history ++ Finish worker s ∷ [])
    (slice_set values s (Some v))
    → IsWaiting table values graph successors counts
    → IsUnfinished table values s
    → Lists (λ t. Contains (get_or successors s []) t × (slice_get counts t ≡ Some 1)) ready
    → Lists (BecomesReady table history (history ++ Finish worker s ∷ [])) ready
newly_listed table history values graph successors counts worker s v ready sound legal runs tell
    state finishing lists =
    lists_same (λ t. Contains (get_or successors s []) t × (slice_get counts t ≡ Some 1))
    (BecomesReady table history (history ++ Finish worker s ∷ [])) ready lists
    (λ t h. one_becomes table history values graph successors counts worker s v t sound legal runs
    tell state finishing h.0 h.1)
    (λ t becomes. becomes_one table history values graph successors counts worker s v t sound legal
    tell state finishing becomes)
