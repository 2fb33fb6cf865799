-- The program with all costs hidden but those of one chain.
use Rattle.std.proofs.Common.{◌≡◌, ℕ, zero, suc, ◌+◌, ◌-◌, ◌<◌, ◌≤◌, Bool, true, false, cond, eqb, List}
use Rattle.std.proofs.Common.{[], ◌∷◌, length, Contains, refl, sym, ap, subst, inl, inr, arith}
use Rattle.std.proofs.lemmas.Bool.{cases_Bool}
use Rattle.std.proofs.lemmas.Bool.Decides.{nat_tests}
use Rattle.task_program.specs.Limits.{work_of}
use Rattle.task_program.specs.Marks.{Mark}
use Rattle.task_program.specs.Marks.Mark.{Begins, Ends, Works, Waits, GroupBegins, GroupEnds}
use Rattle.task_program.specs.Nested.{IsNested}
use Rattle.task_segments.specs.Moments.{last_moment, moment_after, segments_so_far, cost_of, is_latest}
use Rattle.task_segments.specs.Table.{table_at}
use Rattle.task_segments.specs.Precedence.{MustPrecede}
use Rattle.task_segments.specs.Schedule.{at, AreSegments, chain_sum}
use Rattle.task_segments.proofs.LastMoment.{last_of_nested}
use Rattle.task_segments.proofs.Schedules.{chain_within}
use Rattle.online_span.specs.Masked.{IsMaskedMark, IsMasked}
use Rattle.online_span.specs.Masked.IsMaskedMark.{Shown, Hidden}
use Rattle.online_span.specs.Spans.{IsSpanOf, costs_at}
use Rattle.online_span.proofs.Earliest.{cost-at, costs-length}
use Rattle.online_span.proofs.Masking.{same_without, same_number, same_precedence}
use Rattle.online_span.proofs.Masking.{numbers_ascend, work_at_last, same_length, no_more_cost}
use Rattle.online_span.proofs.Masking.{nested_masked, masked_last}
use Rattle.online_span.proofs.Program.{must_ascend, span_exists}
use Rattle.online_span.proofs.Sums.{ascending_sum, none_off_it, sum_no_more}

-- the number is in the list
abbrev is_on : List ℕ → ℕ → Bool
is_on [] s = false
is_on (t ∷ rest) s = cond (eqb t s) true (is_on rest s)

on_it : (list : List ℕ) (s : ℕ) → Contains list s → is_on list s ≡ true
on_it [] s c = absurd (omega (arith, c.1))
on_it (t ∷ rest) s (zero, l, is) =
    let here : eqb t s ≡ true = grind (arith, nat_tests) in rw here refl
on_it (t ∷ rest) s (suc i, l, is) =
    let later = on_it rest s (i, omega arith, is) in
    elim (cases_Bool (eqb t s)) [
      | inl r ↦ rw r refl
      | inr r ↦ rw r later
    ]

is_on_it : (list : List ℕ) (s : ℕ) → is_on list s ≡ true → Contains list s
is_on_it [] s h = absurd (grind arith)
is_on_it (t ∷ rest) s h = elim (cases_Bool (eqb t s)) [
  | inl r ↦ (zero, omega arith, grind (arith, nat_tests))
  | inr r ↦ (
      let later : is_on rest s ≡ true = rw r at h in
      let c = is_on_it rest s later in
      (suc c.0, omega (arith, c.1), c.2))
]

-- a mark with its cost hidden, unless its segment is kept
abbrev hide_mark : (ℕ → Bool) → List Mark → Mark → Mark
hide_mark keep e (Begins d i) = Begins d i
hide_mark keep e Ends = Ends
hide_mark keep e (Works cost) = Works (cond (keep (segments_so_far e - 1)) cost 0)
hide_mark keep e Waits = Waits
hide_mark keep e GroupBegins = GroupBegins
hide_mark keep e GroupEnds = GroupEnds

abbrev hide : (ℕ → Bool) → List Mark → List Mark → List Mark
hide keep e [] = []
hide keep e (m ∷ marks) = hide_mark keep e m ∷ hide keep (m ∷ e) marks

mark_hidden : (keep : ℕ → Bool) (e : List Mark) (m : Mark) → IsMaskedMark m (hide_mark keep e m)
mark_hidden keep e (Begins d i) = Shown (Begins d i)
mark_hidden keep e Ends = Shown Ends
mark_hidden keep e (Works cost) = elim (cases_Bool (keep (segments_so_far e - 1))) [
  | inl r ↦ rw r (Shown (Works cost))
  | inr r ↦ rw r (Hidden cost)
]
mark_hidden keep e Waits = Shown Waits
mark_hidden keep e GroupBegins = Shown GroupBegins
mark_hidden keep e GroupEnds = Shown GroupEnds

is_hidden : (keep : ℕ → Bool) (e marks : List Mark) → IsMasked marks (hide keep e marks)
is_hidden keep e [] = tt
is_hidden keep e (m ∷ marks) = (mark_hidden keep e m, is_hidden keep (m ∷ e) marks)

-- each segment that is kept has its cost, and the others none
abbrev KeepsCosts : (ℕ → Bool) → List Mark → List Mark → Type 0
KeepsCosts keep e f = (s : ℕ) → cost_of s f ≡ cond (keep s) (cost_of s e) 0

cost_kept : (keep : ℕ → Bool) (e f : List Mark) (m : Mark)
    → segments_so_far f ≡ segments_so_far e
    → KeepsCosts keep e f
    → KeepsCosts keep (m ∷ e) (hide_mark keep e m ∷ f)
cost_kept keep e f (Begins d i) same h s = h s
cost_kept keep e f Ends same h s = h s
cost_kept keep e f (Works cost) same h s =
    let before = h s in
    elim (cases_Bool (is_latest s e)) [
      | inl r ↦ (
          let latest : segments_so_far e - 1 ≡ s = grind (arith, nat_tests) in
          elim (cases_Bool (keep s)) [
            | inl k ↦ (
                let now : cost_of s f ≡ cost_of s e = rw k at before in
                rw (same, r, latest, k) (omega arith))
            | inr k ↦ (
                let now : cost_of s f ≡ 0 = rw k at before in
                rw (same, r, latest, k) (omega arith))
          ])
      | inr r ↦ elim (cases_Bool (keep s)) [
        | inl k ↦ (
            let now : cost_of s f ≡ cost_of s e = rw k at before in
            rw (same, r, k) (omega arith))
        | inr k ↦ (
            let now : cost_of s f ≡ 0 = rw k at before in
            rw (same, r, k) (omega arith))
      ]
    ]
cost_kept keep e f Waits same h s = h s
cost_kept keep e f GroupBegins same h s = h s
cost_kept keep e f GroupEnds same h s = h s

costs_kept : (keep : ℕ → Bool) (e f : List Mark) → IsMasked e f → KeepsCosts keep e f
    → (marks : List Mark)
    → KeepsCosts keep (moment_after e marks) (moment_after f (hide keep e marks))
costs_kept keep e f h k [] = k
costs_kept keep e f h k (m ∷ marks) =
    costs_kept keep (m ∷ e) (hide_mark keep e m ∷ f) (mark_hidden keep e m, h)
    (cost_kept keep e f m (same_number e f h) k) marks

none_yet : (keep : ℕ → Bool) → KeepsCosts keep (Begins false [] ∷ []) (Begins false [] ∷ [])
none_yet keep s = elim (cases_Bool (keep s)) [
  | inl r ↦ rw r refl
  | inr r ↦ rw r refl
]

pub some_masking : (body : List Mark) (span : ℕ) → IsNested body → IsSpanOf body span
    → (masked : List Mark) × IsMasked body masked × IsSpanOf masked span × (work_of masked ≡ span)
some_masking body span nested whole =
    let chain = whole.greatest_sum.chain in
    let keep = is_on chain in
    let root : List Mark = Begins false [] ∷ [] in
    let masked = hide keep root body in
    let h = is_hidden keep root body in
    let e = last_moment body in
    let f = last_moment masked in
    let both : IsMasked e f = masked_last body masked h in
    let kept : KeepsCosts keep e f =
    costs_kept keep root root (Shown (Begins false []), tt) (none_yet keep) body in
    let nested_too = nested_masked body nested masked h in
    let last_e = last_of_nested body nested in
    let last_f = last_of_nested masked nested_too in
    let many = same_length e f both in
    let same = same_without e f both in
    let R = MustPrecede (table_at e) in
    let Q = MustPrecede (table_at f) in
    let part = span_exists masked nested_too in
    let inside : AreSegments (costs_at f) chain =
    λ s c. omega (arith, whole.greatest_sum.segments s c) in
    let linked = chain_within R Q (same_precedence f e (sym same) last_f last_e) chain
    whole.greatest_sum.linked in
    let shown : (s : ℕ) → Contains chain s → at (costs_at e) s ≤ at (costs_at f) s =
    λ s c.
    let l = inside s c in
    let on = on_it chain s c in
    let is : cost_of s f ≡ cost_of s e = rw on at (kept s) in
    omega (
      arith,
      cost-at f s (omega (arith, costs-length f)),
      cost-at e s (omega (arith, costs-length e)),
    ) in
    let at_least = sum_no_more (at (costs_at e)) (at (costs_at f)) chain shown in
    let reached : chain_sum (costs_at e) chain ≡ span = whole.greatest_sum.reached in
    let below : chain_sum (costs_at f) chain ≤ part.0 =
    part.1.greatest_sum.greatest chain inside linked in
    let other = part.1.greatest_sum.chain in
    let back = chain_within Q R (same_precedence e f same last_e last_f) other
    part.1.greatest_sum.linked in
    let most : chain_sum (costs_at e) other ≤ span =
    whole.greatest_sum.greatest other
    (λ s c. omega (arith, part.1.greatest_sum.segments s c)) back in
    let less = sum_no_more (at (costs_at f)) (at (costs_at e)) other
    (no_more_cost e f both other part.1.greatest_sum.segments) in
    let is : part.0 ≡ span = omega (arith, part.1.greatest_sum.reached) in
    let up = numbers_ascend Q (must_ascend f last_f) (costs_at f) chain inside linked in
    let from = λ (i : ℕ).
    let same_place : 0 + i ≡ i = omega arith in ap (at (costs_at f)) same_place in
    let on_chain : (s : ℕ) → 0 ≤ s → s < 0 + length (costs_at f) → 0 < at (costs_at f) s
    → Contains chain s =
    λ s low l some. elim (cases_Bool (keep s)) [
      | inl r ↦ is_on_it chain s r
      | inr r ↦ (
          let none : cost_of s f ≡ 0 = rw r at (kept s) in
          absurd (omega (arith, cost-at f s (omega (arith, costs-length f)))))
    ] in
    let all = none_off_it (at (costs_at f)) (costs_at f) 0 from chain up on_chain in
    let no_less = ascending_sum (at (costs_at f)) (costs_at f) 0 from chain up in
    let work = work_at_last masked nested_too in
    (masked, h, subst (λ (n : ℕ). IsSpanOf masked n) is part.1, omega arith)
