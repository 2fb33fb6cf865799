-- Which segment a moment counts at, and the sum of what counts at one.
use Rattle.std.proofs.Common.{◌≡◌, ℕ, ◌+◌, ◌-◌, ◌*◌, ◌<◌, ◌≤◌, ◌⊎◌, ◌&&◌, ◌||◌, inl, inr, true, false}
use Rattle.std.proofs.Common.{Bool, List, length, ap, sym, ◌∙◌, arith, nat_le, nat_lt, nat_eq, not, get_or}
use Rattle.std.proofs.Common.{cond, max, refl, replicate, subst, sum_by, set}
use Rattle.std.specs.List.{list_all, range_with_len}
use Rattle.std.proofs.lemmas.Bool.{and_from, and_parts, both_ways, cases_Bool, cases_eq, cases_lt}
use Rattle.std.proofs.lemmas.Bool.{cond-false, cond-true, eq-eqb, eqb-true, false_from_ne_true}
use Rattle.std.proofs.lemmas.Bool.{leb-true, lt-ltb, ltb-true, not-true, not_from_false, or_cases}
use Rattle.std.proofs.lemmas.Bool.{or_left, or_right}
use Rattle.std.proofs.lemmas.List.{get_or_default, get_or-replicate, get_or-set_other, get_or-set_same}
use Rattle.std.proofs.lemmas.List.{length-replicate, length-set}
use Rattle.std.proofs.lemmas.List.Elements.{All-from_get_or}
use Rattle.std.proofs.lemmas.List.FromFn.{get_or-range_with_len, length-range_with_len}
use Rattle.std.proofs.lemmas.List.Sums.{AllPass-from_list_all, list_all-from_AllPass}
use Rattle.task_segments.specs.Schedule.{at}
use Rattle.greedy_sim.proofs.Sums.{total}
use Rattle.time_accounts.specs.BySegment.{counted_at, is_earlier, is_longest, is_within}
use Rattle.time_accounts.specs.Checks.{AreByBegin, segment_at}
use Rattle.time_accounts.specs.Counting.{AreCounted, AreCountedTo, IsFrontier}
use Rattle.time_accounts.specs.Faults.{BeginsBefore}
use Rattle.time_accounts.specs.Shares.{moments}
use Rattle.time_accounts.specs.TimedRun.{TimedRun}
use Rattle.time_accounts.proofs.Sweeping.{total-flat}
use Rattle.time_accounts.proofs.Taking.{in_order, not_both}
use Rattle.time_accounts.proofs.Totals.{over_moments}
use Rattle.time_accounts.proofs.Between.{total-alike}
use Rattle.time_accounts.proofs.Within.{within_yes}

-- ---- sums

-- where something is nothing before a part of the moments and behind it, and there it is something else
pub part_sum : (f g : ℕ → ℕ) (first from to last : ℕ) → first ≤ from → from ≤ to → to ≤ last
    → ((m : ℕ) → first ≤ m → m < from → f m ≡ 0)
    → ((m : ℕ) → from ≤ m → m < to → f m ≡ g m)
    → ((m : ℕ) → to ≤ m → m < last → f m ≡ 0)
    → sum_by f (moments first last) ≡ sum_by g (moments from to)
part_sum f g first from to last a b c before same after =
    let to_from : first + (from - first) ≡ from = omega (arith, a) in
    let to_to : from + (to - from) ≡ to = omega (arith, b) in
    let to_last : to + (last - to) ≡ last = omega (arith, c) in
    omega (
      arith,
      a,
      b,
      c,
      over_moments f first last (omega (arith, a, b, c)),
      over_moments g from to b,
      total-flat f 0 first (from - first) (λ m h l. before m h (omega (arith, l, a))),
      ap (total f) to_from,
      total-alike f g from (to - from) (λ m h l. same m h (omega (arith, l, b))),
      ap (total f) to_to,
      ap (total g) to_to,
      total-flat f 0 to (last - to) (λ m h l. after m h (omega (arith, l, c))),
      ap (total f) to_last,
    )

pub no_sum : (f : ℕ → ℕ) (first last : ℕ) → first ≤ last
    → ((m : ℕ) → first ≤ m → m < last → f m ≡ 0)
    → sum_by f (moments first last) ≡ 0
no_sum f first last a none =
    let whole : first + (last - first) ≡ last = omega (arith, a) in
    omega (
      arith,
      over_moments f first last a,
      total-flat f 0 first (last - first) (λ m h l. none m h (omega (arith, l, a))),
      ap (total f) whole,
    )

-- ---- the test

-- the lists as those of a run
abbrev as_run : (froms tos : List ℕ) → TimedRun
as_run froms tos = record { threads = froms; begins = froms; ends = tos }

module _ (froms tos : List ℕ) where
  -- r comes before s
  abbrev pub Earlier : ℕ → ℕ → Type 0
  Earlier r s = BeginsBefore (as_run froms tos) r s

  pub earlier_from : (r s : ℕ) → Earlier r s → is_earlier froms r s ≡ true
  earlier_from r s (inl less) =
      or_left (nat_lt (at froms r) (at froms s))
      (nat_eq (at froms r) (at froms s) && nat_lt r s) (lt-ltb (at froms r) (at froms s) less)
  earlier_from r s (inr same) =
      or_right (nat_lt (at froms r) (at froms s))
      (nat_eq (at froms r) (at froms s) && nat_lt r s)
      (and_from (nat_eq (at froms r) (at froms s)) (nat_lt r s)
      (eq-eqb (at froms r) (at froms s) same.0) (lt-ltb r s same.1))

  pub earlier_parts : (r s : ℕ) → is_earlier froms r s ≡ true → Earlier r s
  earlier_parts r s h =
      elim (or_cases (nat_lt (at froms r) (at froms s))
      (nat_eq (at froms r) (at froms s) && nat_lt r s) h) [
        | inl less ↦ inl (ltb-true (at froms r) (at froms s) less)
        | inr same ↦
            let parts = and_parts (nat_eq (at froms r) (at froms s)) (nat_lt r s) same in
            inr (eqb-true (at froms r) (at froms s) parts.0, ltb-true r s parts.1)
      ]

  -- a moment lies within the numbers of s, and of none that comes before it
  pub record IsLongest (m s : ℕ) : Type 0 where
    pub from_then : at froms s ≤ m
    pub before : m < at tos s
    pub first : (r : ℕ) → r < length froms → at froms r ≤ m → m < at tos r → Earlier r s → ⊥

  abbrev passes : ℕ → ℕ → ℕ → Bool
  passes m s r = not (is_within froms tos m r && is_earlier froms r s)

  nth : (r : ℕ) → r < length froms → get_or (range_with_len 0 (length froms)) r 0 ≡ r
  nth r h = get_or-range_with_len 0 (length froms) r 0 h ∙ omega arith

  pub longest_parts : (m s : ℕ) → is_longest froms tos m s ≡ true → IsLongest m s
  longest_parts m s h =
      let all = range_with_len 0 (length froms) in
      let parts = and_parts (is_within froms tos m s) (list_all (passes m s) all) h in
      let within = and_parts (nat_le (at froms s) m) (nat_lt m (at tos s)) parts.0 in
      record {
        from_then = leb-true (at froms s) m within.0;
        before = ltb-true m (at tos s) within.1;
        first = λ r inside a b earlier.
            let passed : passes m s r ≡ true =
            ap (passes m s) (sym (nth r inside))
            ∙ AllPass-from_list_all (passes m s) all parts.1 r 0
            (omega (arith, inside, length-range_with_len 0 (length froms))) in
            both_ways (is_within froms tos m r && is_earlier froms r s)
            (not-true (is_within froms tos m r && is_earlier froms r s) passed)
            (and_from (is_within froms tos m r) (is_earlier froms r s)
            (within_yes (at froms r) (at tos r) m a b) (earlier_from r s earlier));
      }

  pub longest_from : (m s : ℕ) → IsLongest m s → is_longest froms tos m s ≡ true
  longest_from m s is =
      let all = range_with_len 0 (length froms) in
      and_from (is_within froms tos m s) (list_all (passes m s) all)
      (within_yes (at froms s) (at tos s) m is.from_then is.before)
      (list_all-from_AllPass (passes m s) all
      (All-from_get_or (λ x. passes m s x ≡ true) all 0 (λ r l.
      let inside : r < length froms = omega (arith, l, length-range_with_len 0 (length froms)) in
      ap (passes m s) (nth r inside)
      ∙ not_from_false (is_within froms tos m r && is_earlier froms r s)
      (false_from_ne_true (is_within froms tos m r && is_earlier froms r s) (λ both.
      let parts = and_parts (is_within froms tos m r) (is_earlier froms r s) both in
      let within = and_parts (nat_le (at froms r) m) (nat_lt m (at tos r)) parts.0 in
      is.first r inside (leb-true (at froms r) m within.0) (ltb-true m (at tos r) within.1)
      (earlier_parts r s parts.1))))))

  -- what counts at s of a moment
  abbrev pub part : (ℕ → ℕ) → ℕ → ℕ → ℕ
  part told s m = cond (is_longest froms tos m s) (told m) 0

  pub part_yes : (told : ℕ → ℕ) (s m : ℕ) → is_longest froms tos m s ≡ true
      → part told s m ≡ told m
  part_yes told s m is = cond-true (is_longest froms tos m s) (told m) 0 is

  pub part_no : (told : ℕ → ℕ) (s m : ℕ) → (IsLongest m s → ⊥) → part told s m ≡ 0
  part_no told s m never =
      cond-false (is_longest froms tos m s) (told m) 0
      (false_from_ne_true (is_longest froms tos m s) (λ h. never (longest_parts m s h)))

  pub part_zero : (told : ℕ → ℕ) (s m : ℕ) → told m ≡ 0 → part told s m ≡ 0
  part_zero told s m none = of_test (is_longest froms tos m s) (told m) none
    where
      of_test : (b : Bool) (x : ℕ) → x ≡ 0 → cond b x 0 ≡ 0
      of_test true x e = e
      of_test false x e = refl

  -- ---- the segments in order

  place_of : (order : List (ℕ × ℕ)) (s : ℕ) → AreByBegin froms order → s < length froms
      → (i : ℕ) × (i < length order) × (segment_at order i ≡ s)
  place_of order s by_begin h =
      let found = by_begin.all s h in (
        found.0,
        found.1,
        ap (λ (e : ℕ × ℕ). e.1)
            (get_or_default order found.0 (0, 0) (at froms s, s) found.1 ∙ found.2),
      )

  -- what comes before the segment at a place stands at an earlier one
  earlier_place : (order : List (ℕ × ℕ)) (i n r : ℕ) → AreByBegin froms order
      → i < length order
      → segment_at order i ≡ r
      → Earlier r (segment_at order n)
      → i < n
  earlier_place order i n r by_begin h is earlier =
      let run = as_run froms tos in
      let s = segment_at order n in
      elim (cases_lt i n) [
        | inl less ↦ less
        | inr no_less ↦ elim (cases_lt n i) [
          | inl more ↦ absurd (not_both run r s (segment_at order i) s is refl earlier
              (in_order run order n i by_begin more h))
          | inr no_more ↦
              let one : i ≡ n = omega (arith, no_less, no_more) in
              let same : r ≡ s = sym is ∙ ap (segment_at order) one in
              absurd (not_both run r s s r (sym same) same earlier earlier)
        ]
      ]

  begins_by : (r s : ℕ) → Earlier r s → at froms r ≤ at froms s
  begins_by r s (inl less) = omega (arith, less)
  begins_by r s (inr same) = omega (arith, same.0)

  module _ (order : List (ℕ × ℕ)) (n first until : ℕ) (by_begin : AreByBegin froms order)
      (inside : n < length order) (frontier : IsFrontier froms tos order n first until) where
    -- the segment at the next place is the one that moments count at from when the frontier and its own
    -- number have come, before it ends
    longest_here : (m : ℕ) → until ≤ m → at froms (segment_at order n) ≤ m
        → m < at tos (segment_at order n)
        → IsLongest m (segment_at order n)
    longest_here m from_until from_then before = record {
      from_then = from_then;
      before = before;
      first = λ r h a b earlier.
          let i = place_of order r by_begin h in
          let less = earlier_place order i.0 n r by_begin i.1 i.2 earlier in
          frontier.gone i.0 m less from_until (omega (arith, a, ap (at froms) i.2))
          (omega (arith, b, ap (at tos) i.2));
    }

    -- and no others
    longest_only : (m : ℕ) → first ≤ m → IsLongest m (segment_at order n) → until ≤ m
    longest_only m from_first is =
        elim (cases_lt m until) [
          | inr after ↦ after
          | inl sooner ↦ elim frontier.of_one [
            | inl same ↦ absurd (omega (arith, same, sooner, from_first))
            | inr found ↦
                let r = segment_at order found.0 in
                let earlier =
                in_order (as_run froms tos) order found.0 n by_begin found.1 inside in
                absurd (is.first r
                (by_begin.of_one found.0 (0, 0) (omega (arith, found.1, inside))).0
                (omega (arith, begins_by r (segment_at order n) earlier, is.from_then))
                (omega (arith, found.2, sooner)) earlier)
          ]
        ]

    -- what counts at it, where the frontier and its own number come before its end
    pub counted_here : (told : ℕ → ℕ) (last : ℕ)
        → max (at froms (segment_at order n)) until < at tos (segment_at order n)
        → at tos (segment_at order n) ≤ last
        → counted_at told froms tos (moments first last) (segment_at order n)
        ≡ sum_by told
        (moments (max (at froms (segment_at order n)) until) (at tos (segment_at order n)))
    counted_here told last some in_time =
        let s = segment_at order n in
        part_sum (part told s) told first (max (at froms s) until) (at tos s) last
        (omega (arith, frontier.no_sooner)) (omega (arith, some)) in_time
        (λ m h l. part_no told s m (λ is.
        omega (arith, is.from_then, longest_only m h is, l)))
        (λ m h l. part_yes told s m
        (longest_from m s (longest_here m (omega (arith, h)) (omega (arith, h)) l)))
        (λ m h l. part_no told s m (λ is. omega (arith, is.before, h)))

    -- and where they do not
    pub none_here : (told : ℕ → ℕ) (last : ℕ) → first ≤ last
        → at tos (segment_at order n) ≤ max (at froms (segment_at order n)) until
        → counted_at told froms tos (moments first last) (segment_at order n) ≡ 0
    none_here told last in_time none =
        let s = segment_at order n in
        no_sum (part told s) first last in_time
        (λ m h l. part_no told s m (λ is.
        omega (arith, is.from_then, is.before, longest_only m h is, none)))

    before_or_here : (i : ℕ) → i < n + 1 → (i < n) ⊎ (i ≡ n)
    before_or_here i h = elim (cases_lt i n) [
      | inl less ↦ inl less
      | inr no_less ↦ inr (omega (arith, h, no_less))
    ]

    frontier_moved : max (at froms (segment_at order n)) until < at tos (segment_at order n)
        → IsFrontier froms tos order (n + 1) first (at tos (segment_at order n))
    frontier_moved some = record {
      no_sooner = omega (arith, frontier.no_sooner, some);
      gone = λ i m h after a b. elim (before_or_here i h) [
        | inl before ↦ frontier.gone i m before (omega (arith, after, some)) a b
        | inr here ↦
            let same : at tos (segment_at order i) ≡ at tos (segment_at order n) =
            ap (λ (k : ℕ). at tos (segment_at order k)) here in
            omega (arith, after, b, same)
      ];
      of_one = inr (n, omega arith, refl);
    }

    frontier_kept : at tos (segment_at order n) ≤ max (at froms (segment_at order n)) until
        → IsFrontier froms tos order (n + 1) first until
    frontier_kept none = record {
      no_sooner = frontier.no_sooner;
      gone = λ i m h after a b. elim (before_or_here i h) [
        | inl before ↦ frontier.gone i m before after a b
        | inr here ↦
            let to : at tos (segment_at order i) ≡ at tos (segment_at order n) =
            ap (λ (k : ℕ). at tos (segment_at order k)) here in
            let from : at froms (segment_at order i) ≡ at froms (segment_at order n) =
            ap (λ (k : ℕ). at froms (segment_at order k)) here in
            omega (arith, after, a, b, to, from, none)
      ];
      of_one = elim frontier.of_one [
        | inl same ↦ inl same
        | inr found ↦ inr (found.0, omega (arith, found.1), found.2)
      ];
    }

  -- ---- one place more

  module _ (told : ℕ → ℕ) (order : List (ℕ × ℕ)) (n first until : ℕ) (counts : List ℕ)
      (by_begin : AreByBegin froms order) (each_to : length tos ≡ length froms)
      (inside : n < length order)
      (so_far : AreCountedTo told froms tos order n first until counts) where
    in_list : segment_at order n < length counts
    in_list = omega (arith, (by_begin.of_one n (0, 0) inside).0, so_far.each)

    -- another place has another segment
    other_place : (i : ℕ) → i < length order → (i ≡ n → ⊥)
        → segment_at order i ≡ segment_at order n
        → ⊥
    other_place i h other same = elim (cases_lt i n) [
      | inl less ↦ by_begin.once i n less inside same
      | inr no_less ↦ by_begin.once n i
          (elim (cases_lt n i) [
            | inl more ↦ more
            | inr no_more ↦ absurd (other (omega (arith, no_less, no_more)))
          ]) h (sym same)
    ]

    pub counted_more : (count : ℕ)
        → max (at froms (segment_at order n)) until < at tos (segment_at order n)
        → count ≡ sum_by told
        (moments (max (at froms (segment_at order n)) until) (at tos (segment_at order n)))
        → AreCountedTo told froms tos order (n + 1) first (at tos (segment_at order n))
        (set counts (segment_at order n) count)
    counted_more count some is =
        let s = segment_at order n in
        let after = set counts s count in
        let still : (i : ℕ) → i < length order → (i ≡ n → ⊥)
        → at after (segment_at order i) ≡ at counts (segment_at order i) = λ i h other.
        get_or-set_other counts s (segment_at order i) count 0 (other_place i h other) in
        record {
          frontier = frontier_moved order n first until by_begin inside so_far.frontier some;
          each = length-set counts s count ∙ so_far.each;
          so_far = λ i last h in_time ends. elim (cases_lt i n) [
            | inl less ↦
                still i (omega (arith, less, inside)) (λ e. omega (arith, e, less))
                ∙ so_far.so_far i last less in_time ends
            | inr no_less ↦
                let here : i ≡ n = omega (arith, h, no_less) in
                ap (λ (k : ℕ). at after (segment_at order k)) here
                ∙ get_or-set_same counts s count 0 in_list
                ∙ is
                ∙ sym (counted_here order n first until by_begin inside so_far.frontier told last
                some (ends s (omega (arith, in_list, so_far.each, each_to))))
                ∙ ap (λ (k : ℕ). counted_at told froms tos (moments first last)
                (segment_at order k)) (sym here)
          ];
          none_yet = λ i after_n h.
              still i h (λ e. omega (arith, e, after_n))
              ∙ so_far.none_yet i (omega (arith, after_n)) h;
        }

    pub counted_still : at tos (segment_at order n) ≤ max (at froms (segment_at order n)) until
        → AreCountedTo told froms tos order (n + 1) first until counts
    counted_still none =
        record {
          frontier = frontier_kept order n first until by_begin inside so_far.frontier none;
          each = so_far.each;
          so_far = λ i last h in_time ends. elim (cases_lt i n) [
            | inl less ↦ so_far.so_far i last less in_time ends
            | inr no_less ↦
                let here : i ≡ n = omega (arith, h, no_less) in
                ap (λ (k : ℕ). at counts (segment_at order k)) here
                ∙ so_far.none_yet n (omega arith) inside
                ∙ sym (none_here order n first until by_begin inside so_far.frontier told last
                in_time none)
                ∙ ap (λ (k : ℕ). counted_at told froms tos (moments first last)
                (segment_at order k)) (sym here)
          ];
          none_yet = λ i after_n h. so_far.none_yet i (omega (arith, after_n)) h;
        }

  -- at the start nothing counts
  pub counted_none : (told : ℕ → ℕ) (order : List (ℕ × ℕ)) (first : ℕ) (counts : List ℕ)
      → AreByBegin froms order
      → counts ≡ replicate (length froms) 0
      → AreCountedTo told froms tos order 0 first first counts
  counted_none told order first counts by_begin is = record {
    frontier = record {
      no_sooner = omega arith;
      gone = λ i m h after a b. omega (arith, h);
      of_one = inl refl;
    };
    each = ap length is ∙ length-replicate (length froms) 0;
    so_far = λ i last h in_time ends. absurd (omega (arith, h));
    none_yet = λ i after h.
        ap (λ (xs : List ℕ). at xs (segment_at order i)) is
        ∙ get_or-replicate (length froms) (segment_at order i) 0 0
        (by_begin.of_one i (0, 0) h).0;
  }

  -- in the end all does
  pub counted_all : (told : ℕ → ℕ) (order : List (ℕ × ℕ)) (n first until : ℕ) (counts : List ℕ)
      → AreByBegin froms order
      → length order ≤ n
      → AreCountedTo told froms tos order n first until counts
      → AreCounted told froms tos first counts
  counted_all told order n first until counts by_begin long so_far = record {
    each = so_far.each;
    is = λ last s in_time ends h.
        let i = place_of order s by_begin h in
        ap (at counts) (sym i.2)
        ∙ so_far.so_far i.0 last (omega (arith, i.1, long)) in_time ends
        ∙ ap (counted_at told froms tos (moments first last)) i.2;
  }
