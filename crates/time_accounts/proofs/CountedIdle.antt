-- What counts at a segment of a share of idle time, by the sorted moments.
use Rattle.std.proofs.Common.{◌≡◌, ℕ, ◌-◌, ◌<◌, ◌≤◌, List, false, true, cond, length, map, ap, sym, ◌∙◌}
use Rattle.std.proofs.Common.{arith, refl, subst}
use Rattle.std.specs.List.{range_with_len}
use Rattle.std.proofs.lemmas.Bool.{both_ways}
use Rattle.std.proofs.lemmas.List.{length-map}
use Rattle.std.proofs.lemmas.List.FromFn.{fill_by_all}
use Rattle.task_segments.specs.Schedule.{at}
use Rattle.dispatch_core.specs.RecordedGraph.{RecordedGraph, Precedes}
use Rattle.time_accounts.specs.TimedRun.{TimedRun, IsTimedRun}
use Rattle.time_accounts.specs.BySegment.{counted_at, delayed_by_segment, is_longest, starved_by_segment}
use Rattle.time_accounts.specs.Counting.{AreCounted}
use Rattle.time_accounts.specs.Shares.{is_outside, last_end, moments, ready_moments, shares_at}
use Rattle.time_accounts.specs.Sweep.{AreChanges, idle_at}
use Rattle.time_accounts.proofs.AllShares.{Outside, Starved, Delayed, kind_of, delayed_part}
use Rattle.time_accounts.proofs.AllShares.{starved_part}
use Rattle.time_accounts.proofs.Between.{AreOuter, idle_between_at, outside_after, outside_before}
use Rattle.time_accounts.proofs.Longest.{part, part_sum, part_zero}
use Rattle.time_accounts.proofs.Measured.{same_idle}
use Rattle.time_accounts.proofs.Outer.{outer_of}

delayed_outside : (graph : RecordedGraph) (p : ℕ) (run : TimedRun) (m : ℕ)
    → is_outside run m ≡ true → (shares_at graph p run m).delayed ≡ 0
delayed_outside graph p run m out =
    elim (kind_of graph p run m) [
      | Outside out_m e ↦ delayed_part e
      | Starved in_m none e ↦ delayed_part e
      | Delayed in_m some e ↦ absurd (both_ways (is_outside run m) in_m out)
    ]

starved_outside : (graph : RecordedGraph) (p : ℕ) (run : TimedRun) (m : ℕ)
    → is_outside run m ≡ true → (shares_at graph p run m).starved ≡ 0
starved_outside graph p run m out =
    elim (kind_of graph p run m) [
      | Outside out_m e ↦ starved_part e
      | Starved in_m none e ↦ absurd (both_ways (is_outside run m) in_m out)
      | Delayed in_m some e ↦ starved_part e
    ]

part_same : (froms tos : List ℕ) (told other : ℕ → ℕ) (s m : ℕ) → told m ≡ other m
    → part froms tos told s m ≡ part froms tos other s m
part_same froms tos told other s m same =
    ap (λ (x : ℕ). cond (is_longest froms tos m s) x 0) same

module _ (graph : RecordedGraph) (n p first last : ℕ) (run : TimedRun) (readies begins ends : List ℕ)
    (each : length graph.predecessors ≡ n) (some : 0 < n)
    (timed : IsTimedRun n (Precedes graph) p first last run)
    (changes : AreChanges graph run readies begins ends) where
  abbrev from : ℕ
  from = at begins 0

  abbrev to : ℕ
  to = at ends (length ends - 1)

  outer : AreOuter n run from to
  outer = outer_of n run begins ends timed.each_begin timed.each_end some changes.all_begins
      changes.begins_up changes.all_ends changes.ends_up

  in_order : from ≤ to
  in_order =
      omega (
        arith,
        outer.begins_first,
        timed.forward outer.first outer.first_in,
        outer.no_later outer.first outer.first_in,
      )

  -- what is nothing outside is the same by the sorted moments
  by_sorted : (froms tos : List ℕ) (told other : ℕ → ℕ)
      → ((m : ℕ) → is_outside run m ≡ true → told m ≡ 0)
      → ((m : ℕ) → from ≤ m → m < to → told m ≡ other m)
      → (s : ℕ)
      → counted_at told froms tos (moments first last) s
      ≡ counted_at other froms tos (moments from to) s
  by_sorted froms tos told other outside inside s =
      part_sum (part froms tos told s) (part froms tos other s) first from to last
      (omega (arith, timed.after_first outer.first outer.first_in, outer.begins_first))
      in_order
      (omega (arith, timed.before_last outer.last outer.last_in, outer.ends_last))
      (λ m h l. part_zero froms tos told s m (outside m (outside_before m timed outer l)))
      (λ m h l. part_same froms tos told other s m (inside m h l))
      (λ m h l. part_zero froms tos told s m (outside m (outside_after m timed outer h)))

  all_counted : (froms tos counts : List ℕ) (told other : ℕ → ℕ)
      → ((m : ℕ) → is_outside run m ≡ true → told m ≡ 0)
      → ((m : ℕ) → from ≤ m → m < to → told m ≡ other m)
      → length froms ≡ length run.begins
      → ((r : ℕ) → r < length tos → at tos r ≤ to)
      → AreCounted other froms tos from counts
      → counts ≡ map (counted_at told froms tos (moments first last))
      (range_with_len 0 (length run.begins))
  all_counted froms tos counts told other outside inside long ends_by counted =
      fill_by_all (counted_at told froms tos (moments first last)) counts (length run.begins) 0
      (counted.each ∙ long) (λ s h.
      counted.is to s in_order ends_by (omega (arith, h, long))
      ∙ sym (by_sorted froms tos told other outside inside s))

  -- the lists and the first moment that a loop has, where they are those of the run
  those : (told : ℕ → ℕ) (given_froms given_tos froms tos counts : List ℕ) (base : ℕ)
      → given_froms ≡ froms
      → given_tos ≡ tos
      → base ≡ from
      → AreCounted told given_froms given_tos base counts
      → AreCounted told froms tos from counts
  those told given_froms given_tos froms tos counts base is_froms is_tos is_base given =
      subst (λ (x : ℕ). AreCounted told froms tos x counts) is_base
      (subst (λ (xs : List ℕ). AreCounted told froms xs base counts) is_tos
      (subst (λ (xs : List ℕ). AreCounted told xs given_tos base counts) is_froms given))

  pub delays_counted : (froms tos counts : List ℕ) (base : ℕ)
      → froms ≡ ready_moments graph run
      → tos ≡ run.begins
      → base ≡ from
      → AreCounted (idle_at true readies begins ends p) froms tos base counts
      → counts ≡ delayed_by_segment graph p first last run
  delays_counted froms tos counts base is_froms is_tos is_base given =
      let other : ℕ → ℕ = idle_at true readies begins ends p in
      all_counted (ready_moments graph run) run.begins counts
      (λ m. (shares_at graph p run m).delayed) other (delayed_outside graph p run)
      (λ m h l. (idle_between_at graph m each timed outer h l).delayed
      ∙ sym (same_idle true graph p run readies begins ends changes m))
      (length-map graph.predecessors (last_end run.ends) ∙ each ∙ sym timed.each_begin)
      (λ r l.
      let inside : r < n = omega (arith, l, timed.each_begin) in
      omega (arith, timed.forward r inside, outer.no_later r inside))
      (those other froms tos (ready_moments graph run) run.begins counts base is_froms is_tos
      is_base given)

  pub starving_counted : (froms tos counts : List ℕ) (base : ℕ)
      → froms ≡ run.begins
      → tos ≡ run.ends
      → base ≡ from
      → AreCounted (idle_at false readies begins ends p) froms tos base counts
      → counts ≡ starved_by_segment graph p first last run
  starving_counted froms tos counts base is_froms is_tos is_base given =
      let other : ℕ → ℕ = idle_at false readies begins ends p in
      all_counted run.begins run.ends counts
      (λ m. (shares_at graph p run m).starved) other (starved_outside graph p run)
      (λ m h l. (idle_between_at graph m each timed outer h l).starved
      ∙ sym (same_idle false graph p run readies begins ends changes m))
      refl
      (λ r l. outer.no_later r (omega (arith, l, timed.each_end)))
      (those other froms tos run.begins run.ends counts base is_froms is_tos is_base given)
