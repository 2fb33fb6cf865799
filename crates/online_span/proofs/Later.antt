-- From the moment at which a segment opened to a later one: what stays, and that the segment
-- continues the one that its task had before.
use Rattle.std.proofs.Common.{true, ◌≡◌, ◌≢◌, ℕ, ◌+◌, ◌<◌, ◌≤◌, false, ◌&&◌}
use Rattle.std.proofs.Common.{List, [], ◌∷◌, refl, sym, ap, subst, ◌∙◌, inl, inr, arith}
use Rattle.std.specs.List.{All}
use Rattle.std.proofs.lemmas.Bool.{cases_lt, cases_Bool, cond-false}
use Rattle.task_program.specs.Marks.{Mark}
use Rattle.task_segments.specs.Moments.{opens, begins_task, segments_so_far, tasks_so_far, open_tasks}
use Rattle.task_segments.specs.Moments.{running_task, runs, is_innermost, opening_of, beginning_of}
use Rattle.task_segments.specs.Moments.{last_of, IsProper}
use Rattle.task_segments.specs.Table.{table_at}
use Rattle.task_segments.specs.Precedence.{Continues}
use Rattle.task_segments.proofs.Steps.{owner, opening_of-old, opening_of-new, segments_opens}
use Rattle.task_segments.proofs.Steps.{count-cons, beginning_of-old}
use Rattle.task_segments.proofs.Places.{stay_out, place_next, not_innermost}
use Rattle.task_segments.proofs.Facts.{segments-at, segment-at, owner-at}
use Rattle.online_span.proofs.Last.{last_facts}
use Rattle.online_span.proofs.Earliest.{Opened}

pub data Later (before : List Mark) : List Mark → Type 0 where
  Now : Later before before
  More : (m : Mark) (e : List Mark) → Later before e → Later before (m ∷ e)

-- the segment that has opened by a mark, and had not before, is the one that it opens
pub opens_now : (m : Mark) (e : List Mark) (t : ℕ) → t < segments_so_far (m ∷ e)
    → segments_so_far e ≤ t
    → (opens m ≡ true) × (segments_so_far e ≡ t)
opens_now m e t l late = elim (cases_Bool (opens m)) [
  | inl o ↦ (o, omega (arith, segments_opens m e o))
  | inr o ↦ absurd (omega (arith, count-cons opens m e, cond-false {A = ℕ} (opens m) 1 0 o))
]

pub opening_later : (e : List Mark) (t : ℕ) → t < segments_so_far e → Later (opening_of t e) e
opening_later [] t l = absurd (omega arith)
opening_later (m ∷ e) t l = elim (cases_lt t (segments_so_far e)) [
  | inl x ↦
      subst (λ (xs : List Mark). Later xs (m ∷ e)) (sym (opening_of-old m e t x))
      (More m e (opening_later e t x))
  | inr x ↦
      let (opened, is) = opens_now m e t l x in
      let P : ℕ → Type 0 = λ t. Later (opening_of t (m ∷ e)) (m ∷ e) in
      subst P is
      (subst (λ (xs : List Mark). Later xs (m ∷ e)) (sym (opening_of-new m e opened)) Now)
]

pub segments_grow : (b e : List Mark) → Later b e → segments_so_far b ≤ segments_so_far e
segments_grow b _ Now = omega arith
segments_grow b _ (More m e k) = omega (arith, segments_grow b e k, count-cons opens m e)

pub tasks_grow : (b e : List Mark) → Later b e → tasks_so_far b ≤ tasks_so_far e
tasks_grow b _ Now = omega arith
tasks_grow b _ (More m e k) = omega (arith, tasks_grow b e k, count-cons begins_task m e)

-- an older segment opened where it did
pub openings_stay : (b e : List Mark) → Later b e → (s : ℕ) → s < segments_so_far b
    → opening_of s e ≡ opening_of s b
openings_stay b _ Now s l = refl
openings_stay b _ (More m e k) s l =
    opening_of-old m e s (omega (arith, segments_grow b e k)) ∙ openings_stay b e k s l

-- and an older task began where it did
pub beginnings_stay : (b e : List Mark) → Later b e → (u : ℕ) → u < tasks_so_far b
    → beginning_of u e ≡ beginning_of u b
beginnings_stay b _ Now u l = refl
beginnings_stay b _ (More m e k) u l =
    beginning_of-old m e u (omega (arith, tasks_grow b e k)) ∙ beginnings_stay b e k u l

pub idle : (u : ℕ) (stack : List ℕ) → All (λ x. x ≢ u) stack → is_innermost u stack ≡ false
idle u [] all = refl
idle u (x ∷ stack) all = not_innermost u (x ∷ stack) (all 0 0 (omega arith))

-- a task that has ended stays so, and keeps its last segment
pub record Over (u : ℕ) (b e : List Mark) : Type 0 where
  pub gone : All (λ x. x ≢ u) (open_tasks e)
  pub last : last_of u e ≡ last_of u b

pub ended_stays : (b e : List Mark) → Later b e → (u : ℕ) → u < tasks_so_far b
    → All (λ x. x ≢ u) (open_tasks b)
    → Over u b e
ended_stays b _ Now u l all = record { gone = all; last = refl }
ended_stays b _ (More m e k) u l all =
    let before = ended_stays b e k u l all in
    let gone = stay_out m e u (omega (arith, tasks_grow b e k)) before.gone in
    let rests : runs u (m ∷ e) ≡ false = idle u (open_tasks (m ∷ e)) gone in
    let not_now : (opens m && runs u (m ∷ e)) ≡ false = grind arith in
    record { gone = gone; last = rw not_now before.last }

-- a segment that opens in a task that had one continues the last that it had
pub continues_last : (e : List Mark) → IsProper e → (t : ℕ) → t < segments_so_far e
    → (h : Opened e t)
    → (p : ℕ)
    → running_task (h.mark ∷ h.before) ≡ p
    → p < tasks_so_far h.before
    → Continues (table_at e) (last_of p h.before) t
continues_last e q t l h p runs_now begun =
    let b = h.before in
    let s = last_of p b in
    let facts = last_facts b h.proper.1 p begun in
    let within = facts.before_n in
    let before : s < t = omega (arith, h.number) in
    let later : Later (h.mark ∷ b) e =
    subst (λ (xs : List Mark). Later xs e) h.opened (opening_later e t l) in
    let older : (x : ℕ) → x < t → owner e x ≡ owner b x = λ x k.
    let inside : x < segments_so_far b = omega (arith, h.number) in
    ap running_task (openings_stay (h.mark ∷ b) e later x
    (omega (arith, count-cons opens h.mark b)) ∙ opening_of-old h.mark b x inside) in
    let of_s : owner e s ≡ p = older s before ∙ facts.own_last in
    let of_t : owner e t ≡ p = ap running_task h.opened ∙ runs_now in
    let gap = place_next e q s t p before l of_s of_t (λ x v w o.
    let no_later = facts.upto_last x (omega (arith, h.number)) (sym (older x w) ∙ o) in
    absurd (omega arith)) in
    let count = segments-at e in
    let s_in : s < segments_so_far e = omega arith in
    record {
      is_from = omega arith;
      is_to = omega arith;
      same_task = owner-at e t l ∙ of_t ∙ sym of_s ∙ sym (owner-at e s s_in);
      next = ap (λ r. r.index) (segment-at e t l) ∙ gap
          ∙ ap (λ n. n + 1) (sym (ap (λ r. r.index) (segment-at e s s_in)));
    }
