-- A masked program has the same precedence, and its span is the sum of a chain of the whole one.
use Rattle.std.proofs.Common.{◌≡◌, ℕ, ◌+◌, ◌<◌, ◌≤◌, Bool, true, false, List, [], ◌∷◌, ◌++◌}
use Rattle.std.proofs.Common.{length, Contains, refl, sym, ap, subst, ◌∙◌, inl, inr, arith}
use Rattle.std.specs.List.{sum}
use Rattle.std.proofs.lemmas.Bool.{cases_lt, cases_Bool}
use Rattle.std.proofs.lemmas.List.{get_or_past}
use Rattle.task_program.specs.Limits.{work_of}
use Rattle.task_program.specs.Marks.{Mark}
use Rattle.task_program.specs.Marks.Mark.{Begins, Ends, Works, Waits, GroupBegins, GroupEnds}
use Rattle.task_program.specs.Nested.{IsNested}
use Rattle.task_program.specs.Nested.IsNested.{Nothing, Work, Wait, Task, Group}
use Rattle.task_segments.specs.Moments.{last_moment, moment_after, segments_so_far, cost_of, is_latest}
use Rattle.task_segments.specs.Table.{table_at}
use Rattle.task_segments.specs.Precedence.{MustPrecede}
use Rattle.task_segments.specs.Schedule.{at, IsChain, AreSegments, chain_sum}
use Rattle.task_segments.specs.StartsAndTails.{IsAscending}
use Rattle.task_segments.proofs.Facts.{IsLast}
use Rattle.task_segments.proofs.LastMoment.{last_of_nested}
use Rattle.task_segments.proofs.Schedules.{chain_within}
use Rattle.task_segments.proofs.Work.{all_work_at, work_read}
use Rattle.online_span.specs.Awaiting.{Awaits}
use Rattle.online_span.specs.Masked.{IsMaskedMark, IsMasked, ShowsPath}
use Rattle.online_span.specs.Masked.IsMaskedMark.{Shown, Hidden}
use Rattle.online_span.specs.Spans.{IsSpanOf, costs_at}
use Rattle.online_span.proofs.Earliest.{cost-at, costs-length}
use Rattle.online_span.proofs.Program.{must_ascend}
use Rattle.online_span.proofs.Sums.{Ascends, all_on_it, chain_ascends, sum_no_more, same_at_each}
use Rattle.online_span.proofs.Unpriced.{without_costs, same_segments, awaited_with, awaited_without}
use Rattle.online_span.proofs.Whole.{awaited_precedes, preceding_is_awaited}

abbrev is_work : Mark → Bool
is_work (Works cost) = true
is_work _ = false

-- work alone may be hidden
shown_is : (x y : Mark) → IsMaskedMark x y → is_work x ≡ false → x ≡ y
shown_is _ _ (Shown mark) h = refl
shown_is _ _ (Hidden cost) h = absurd (grind arith)

work_stays : (cost : ℕ) (y : Mark) → IsMaskedMark (Works cost) y → (masked : List Mark)
    → IsNested masked
    → IsNested (y ∷ masked)
work_stays cost y (Shown _) masked h = Work cost masked h
work_stays cost y (Hidden _) masked h = Work 0 masked h

-- where a mark stands in the whole list, it stands in the masked one
record Split (before : List Mark) (mark : Mark) (after masked : List Mark) : Type 0 where
  first : List Mark
  shown : Mark
  rest : List Mark
  is : masked ≡ first ++ shown ∷ rest
  of_first : IsMasked before first
  of_mark : IsMaskedMark mark shown
  of_rest : IsMasked after rest

split : (before : List Mark) (mark : Mark) (after masked : List Mark)
    → IsMasked (before ++ mark ∷ after) masked
    → Split before mark after masked
split [] mark after [] h = absurd h
split [] mark after (y ∷ masked) h = record {
  first = [];
  shown = y;
  rest = masked;
  is = refl;
  of_first = tt;
  of_mark = h.0;
  of_rest = h.1;
}
split (x ∷ before) mark after [] h = absurd h
split (x ∷ before) mark after (y ∷ masked) h =
    let k = split before mark after masked h.1 in
    record {
      first = y ∷ k.first;
      shown = k.shown;
      rest = k.rest;
      is = ap (λ (xs : List Mark). y ∷ xs) k.is;
      of_first = (h.0, k.of_first);
      of_mark = k.of_mark;
      of_rest = k.of_rest;
    }

-- a masked program is nested
pub nested_masked : (body : List Mark) → IsNested body → (masked : List Mark)
    → IsMasked body masked
    → IsNested masked
nested_masked _ Nothing [] h = Nothing
nested_masked _ Nothing (y ∷ masked) h = absurd h
nested_masked _ (Work cost rest n) [] h = absurd h
nested_masked _ (Work cost rest n) (y ∷ masked) h =
    work_stays cost y h.0 masked (nested_masked rest n masked h.1)
nested_masked _ (Wait rest n) [] h = absurd h
nested_masked _ (Wait rest n) (y ∷ masked) h =
    let is = shown_is Waits y h.0 refl in
    subst (λ (m : Mark). IsNested (m ∷ masked)) is
    (Wait masked (nested_masked rest n masked h.1))
nested_masked _ (Task d i body rest n m) [] h = absurd h
nested_masked _ (Task d i body rest n m) (y ∷ masked) h =
    let k = split body Ends rest masked h.1 in
    let begins = shown_is (Begins d i) y h.0 refl in
    let ends = shown_is Ends k.shown k.of_mark refl in
    let is = k.is in
    let whole : Begins d i ∷ (k.first ++ Ends ∷ k.rest) ≡ y ∷ masked = cc in
    subst (λ (xs : List Mark). IsNested xs) whole
    (Task d i k.first k.rest (nested_masked body n k.first k.of_first)
    (nested_masked rest m k.rest k.of_rest))
nested_masked _ (Group body rest n m) [] h = absurd h
nested_masked _ (Group body rest n m) (y ∷ masked) h =
    let k = split body GroupEnds rest masked h.1 in
    let begins = shown_is GroupBegins y h.0 refl in
    let ends = shown_is GroupEnds k.shown k.of_mark refl in
    let is = k.is in
    let whole : GroupBegins ∷ (k.first ++ GroupEnds ∷ k.rest) ≡ y ∷ masked = cc in
    subst (λ (xs : List Mark). IsNested xs) whole
    (Group k.first k.rest (nested_masked body n k.first k.of_first)
    (nested_masked rest m k.rest k.of_rest))

-- read to the end, it is masked still
masked_after : (e f body masked : List Mark) → IsMasked e f → IsMasked body masked
    → IsMasked (moment_after e body) (moment_after f masked)
masked_after e f [] [] h k = h
masked_after e f [] (y ∷ masked) h k = absurd k
masked_after e f (x ∷ body) [] h k = absurd k
masked_after e f (x ∷ body) (y ∷ masked) h k =
    masked_after (x ∷ e) (y ∷ f) body masked (k.0, h) k.1

pub masked_last : (body masked : List Mark) → IsMasked body masked
    → IsMasked (last_moment body) (last_moment masked)
masked_last body masked h =
    masked_after (Begins false [] ∷ []) (Begins false [] ∷ []) body masked (Shown (Begins false []), tt) h

-- but for costs it is the same
same_mark : (x y : Mark) → IsMaskedMark x y → (e f : List Mark) → without_costs e ≡ without_costs f
    → without_costs (x ∷ e) ≡ without_costs (y ∷ f)
same_mark _ _ (Shown (Begins d i)) e f h = ap (λ (xs : List Mark). Begins d i ∷ xs) h
same_mark _ _ (Shown Ends) e f h = ap (λ (xs : List Mark). Ends ∷ xs) h
same_mark _ _ (Shown (Works cost)) e f h = ap (λ (xs : List Mark). Works 0 ∷ xs) h
same_mark _ _ (Shown Waits) e f h = ap (λ (xs : List Mark). Waits ∷ xs) h
same_mark _ _ (Shown GroupBegins) e f h = ap (λ (xs : List Mark). GroupBegins ∷ xs) h
same_mark _ _ (Shown GroupEnds) e f h = ap (λ (xs : List Mark). GroupEnds ∷ xs) h
same_mark _ _ (Hidden cost) e f h = ap (λ (xs : List Mark). Works 0 ∷ xs) h

pub same_without : (e f : List Mark) → IsMasked e f → without_costs e ≡ without_costs f
same_without [] [] h = refl
same_without [] (y ∷ f) h = absurd h
same_without (x ∷ e) [] h = absurd h
same_without (x ∷ e) (y ∷ f) h = same_mark x y h.0 e f (same_without e f h.1)

pub same_number : (e f : List Mark) → IsMasked e f → segments_so_far f ≡ segments_so_far e
same_number e f h =
    sym (same_segments f) ∙ ap (λ (xs : List Mark). segments_so_far xs) (sym (same_without e f h))
    ∙ same_segments e

cost_here : (x y : Mark) → IsMaskedMark x y → (e f : List Mark) (s : ℕ)
    → segments_so_far f ≡ segments_so_far e
    → cost_of s f ≤ cost_of s e
    → cost_of s (y ∷ f) ≤ cost_of s (x ∷ e)
cost_here _ _ (Shown (Begins d i)) e f s is h = h
cost_here _ _ (Shown Ends) e f s is h = h
cost_here _ _ (Shown (Works cost)) e f s is h = rw is (omega arith)
cost_here _ _ (Shown Waits) e f s is h = h
cost_here _ _ (Shown GroupBegins) e f s is h = h
cost_here _ _ (Shown GroupEnds) e f s is h = h
cost_here _ _ (Hidden cost) e f s is h = elim (cases_Bool (is_latest s e)) [
  | inl r ↦ rw (is, r) (omega arith)
  | inr r ↦ rw (is, r) (omega arith)
]

-- no segment costs more than it did
cost_masked : (e f : List Mark) → IsMasked e f → (s : ℕ) → cost_of s f ≤ cost_of s e
cost_masked [] [] h s = omega arith
cost_masked [] (y ∷ f) h s = absurd h
cost_masked (x ∷ e) [] h s = absurd h
cost_masked (x ∷ e) (y ∷ f) h s =
    cost_here x y h.0 e f s (same_number e f h.1) (cost_masked e f h.1 s)

-- what must precede does not depend on costs
pub same_precedence : (e f : List Mark) → without_costs e ≡ without_costs f → IsLast e → IsLast f
    → (s t : ℕ)
    → MustPrecede (table_at f) s t
    → MustPrecede (table_at e) s t
same_precedence e f is last_e last_f s t k =
    let bare = awaited_without f s t (preceding_is_awaited f last_f s t k) in
    let same : Awaits (without_costs e) s t =
    subst (λ (xs : List Mark). Awaits xs s t) (sym is) bare in
    awaited_precedes e last_e s t (awaited_with e s t same)

-- the numbers of a chain's segments ascend
pub numbers_ascend : (R : ℕ → ℕ → Type 0) → IsAscending R → (costs list : List ℕ)
    → AreSegments costs list
    → IsChain R list
    → Ascends 0 (0 + length costs) list
numbers_ascend R up costs [] inside h = absurd h
numbers_ascend R up costs (s ∷ rest) inside h =
    chain_ascends R up (0 + length costs) 0 s rest (omega arith)
    (λ t c. omega (arith, inside t c)) h

-- a program with as much span as work has all costs on one chain
all_on_chain : (costs list : List ℕ) → Ascends 0 (0 + length costs) list
    → sum costs ≤ chain_sum costs list
    → (s : ℕ)
    → 0 < at costs s
    → Contains list s
all_on_chain costs list up all s some = elim (cases_lt s (length costs)) [
  | inl l ↦
      all_on_it (at costs) costs 0 (λ i. let is : 0 + i ≡ i = omega arith in ap (at costs) is) list
      up all s (omega arith) (omega arith) some
  | inr l ↦ absurd (omega (arith, get_or_past costs s 0 l))
]

-- the costs of all segments are the work of the program
pub work_at_last : (body : List Mark) → IsNested body
    → sum (costs_at (last_moment body)) ≡ work_of body
work_at_last body nested =
    omega (
      arith,
      all_work_at (last_moment body) (last_of_nested body nested).proper,
      work_read (Begins false [] ∷ []) body,
    )

pub same_length : (e f : List Mark) → IsMasked e f → length (costs_at f) ≡ length (costs_at e)
same_length e f h = costs-length f ∙ same_number e f h ∙ sym (costs-length e)

-- no segment of a list costs more in the masked program
pub no_more_cost : (e f : List Mark) → IsMasked e f → (list : List ℕ)
    → AreSegments (costs_at f) list
    → (s : ℕ)
    → Contains list s
    → at (costs_at f) s ≤ at (costs_at e) s
no_more_cost e f h list inside s c =
    let l = inside s c in
    omega (
      arith,
      cost-at f s (omega (arith, costs-length f)),
      cost-at e s (omega (arith, costs-length e, same_length e f h)),
      cost_masked e f h s,
    )

pub path_by_masking : (body masked : List Mark) (span : ℕ) → IsNested body
    → IsMasked body masked
    → IsSpanOf body span
    → IsSpanOf masked span
    → work_of masked ≡ span
    → ShowsPath body masked span
path_by_masking body masked span nested h whole part all =
    let e = last_moment body in
    let f = last_moment masked in
    let both = masked_last body masked h in
    let last_e = last_of_nested body nested in
    let last_f = last_of_nested masked (nested_masked body nested masked h) in
    let chain = part.greatest_sum.chain in
    let many = same_length e f both in
    let inside : AreSegments (costs_at e) chain =
    λ s c. omega (arith, part.greatest_sum.segments s c) in
    let linked = chain_within (MustPrecede (table_at f)) (MustPrecede (table_at e))
    (same_precedence e f (same_without e f both) last_e last_f) chain part.greatest_sum.linked in
    let no_more = no_more_cost e f both chain part.greatest_sum.segments in
    let shown : chain_sum (costs_at f) chain ≡ span = part.greatest_sum.reached in
    let at_most : chain_sum (costs_at e) chain ≤ span =
    whole.greatest_sum.greatest chain inside linked in
    let at_least : chain_sum (costs_at f) chain ≤ chain_sum (costs_at e) chain =
    sum_no_more (at (costs_at f)) (at (costs_at e)) chain no_more in
    let work : sum (costs_at f) ≤ chain_sum (costs_at f) chain =
    omega (arith, work_at_last masked (nested_masked body nested masked h)) in
    record {
      path = chain;
      segments = inside;
      linked = linked;
      reached = omega arith;
      has_all_shown = all_on_chain (costs_at f) chain
          (numbers_ascend (MustPrecede (table_at f)) (must_ascend f last_f) (costs_at f) chain
          part.greatest_sum.segments part.greatest_sum.linked) work;
      hides_none = same_at_each (at (costs_at f)) (at (costs_at e)) chain no_more (omega arith);
    }
