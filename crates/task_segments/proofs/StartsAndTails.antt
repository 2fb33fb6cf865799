-- From the earliest starts and the tails: the least starts and the least end, the span, and the
-- slacks.
use Rattle.std.proofs.Common.{◌≡◌, ℕ, ◌+◌, ◌-◌, ◌<◌, ◌≤◌, inl, inr, List, [], ◌∷◌, length, refl}
use Rattle.std.proofs.Common.{subst, arith, zero, suc}
use Rattle.std.proofs.lemmas.List.Sums.{sum_by-cons}
use Rattle.task_segments.specs.Schedule.{at, IsLegal, end_of, IsChain, chain_sum, AreSegments}
use Rattle.task_segments.specs.Schedule.{IsLeastEnd, IsLeastStart, IsSlack, IsSpan}
use Rattle.task_segments.specs.StartsAndTails.{IsAscending, IsEarliest, IsTails}
use Rattle.task_segments.proofs.Schedules.{span-unique, least_end-unique, AreSegments-cons}
use Rattle.task_segments.proofs.Schedules.{end_of-reached, end_of-covers, end_of-least, by_rule}
use Rattle.task_segments.proofs.Schedules.{at-by_rule, IsLegal-by_rule, end_of-by_rule}
use Rattle.task_segments.proofs.Schedules.{chain-within-end}

-- no legal schedule starts a segment before its earliest start
earliest-below : (costs : List ℕ) (R : ℕ → ℕ → Type 0) (starts other : List ℕ) → IsAscending R
    → IsEarliest costs R starts → IsLegal costs R other → (bound t : ℕ) → t < bound
    → t < length costs
    → at starts t ≤ at other t
earliest-below costs R starts other ascending earliest legal zero t below inside =
    absurd (omega arith)
earliest-below costs R starts other ascending earliest legal (suc bound) t below inside =
    elim (earliest.reached t inside) [
      | inl e ↦ omega arith
      | inr w ↦
          let up : w.0 < t = ascending.up w.0 t w.1 in
          let before : at starts w.0 ≤ at other w.0 =
          earliest-below costs R starts other ascending earliest legal bound w.0 (omega arith)
          (omega arith) in
          let kept : at other w.0 + at costs w.0 ≤ at other t = legal.kept w.0 t inside w.1 in
          let ends : at starts w.0 + at costs w.0 ≡ at starts t = w.2 in
          omega arith
    ]

-- no legal schedule starts a segment before its earliest start
pub earliest-le : (costs : List ℕ) (R : ℕ → ℕ → Type 0) (starts other : List ℕ) → IsAscending R
    → IsEarliest costs R starts → IsLegal costs R other → (t : ℕ) → t < length costs
    → at starts t ≤ at other t
earliest-le costs R starts other ascending earliest legal t inside =
    earliest-below costs R starts other ascending earliest legal (suc t) t (omega arith) inside

-- the earliest starts are the least ones
pub IsLeastStart-earliest : (costs : List ℕ) (R : ℕ → ℕ → Type 0) (starts : List ℕ) → IsAscending R
    → IsEarliest costs R starts → (s : ℕ) → s < length costs → IsLeastStart costs R s (at starts s)
IsLeastStart-earliest costs R starts ascending earliest s inside = grind (arith, earliest-le)

-- no legal schedule ends before the earliest one
pub earliest-ends : (costs : List ℕ) (R : ℕ → ℕ → Type 0) (starts other : List ℕ) → IsAscending R
    → IsEarliest costs R starts → IsLegal costs R other → end_of costs starts ≤ end_of costs other
earliest-ends costs R starts other ascending earliest legal =
    end_of-least costs starts (end_of costs other) (λ s inside.
    let sooner : at starts s
    ≤ at other s = earliest-le costs R starts other ascending earliest legal s inside in
    let covers : at other s + at costs s ≤ end_of costs other =
    end_of-covers costs other legal.each s inside in
    omega arith)

-- and the earliest schedule has the least end
pub IsLeastEnd-earliest : (costs : List ℕ) (R : ℕ → ℕ → Type 0) (starts : List ℕ) → IsAscending R
    → IsEarliest costs R starts → IsLeastEnd costs R (end_of costs starts)
IsLeastEnd-earliest costs R starts ascending earliest = grind (arith, earliest-ends)

-- a chain whose sum is the end of a legal schedule has the greatest sum
pub IsSpan-reached : (costs : List ℕ) (R : ℕ → ℕ → Type 0) (starts chain : List ℕ)
    → IsLegal costs R starts
    → AreSegments costs chain
    → IsChain R chain
    → chain_sum costs chain ≡ end_of costs starts
    → IsSpan costs R (end_of costs starts)
IsSpan-reached costs R starts chain legal inside linked reached = grind (arith, chain-within-end)

-- in a legal schedule, the tail of a segment fits between its end and the schedule's
tail-above : (costs : List ℕ) (R : ℕ → ℕ → Type 0) (tails other : List ℕ) (end : ℕ) → IsAscending R
    → IsTails costs R tails → IsLegal costs R other → end_of costs other ≤ end → (left s : ℕ)
    → length costs ≤ s + left → s < length costs → at other s + at costs s + at tails s ≤ end
tail-above costs R tails other end ascending tailed legal ends zero s above inside =
    absurd (omega arith)
tail-above costs R tails other end ascending tailed legal ends (suc left) s above inside =
    elim (tailed.reached s inside) [
      | inl e ↦
          let covers : at other s + at costs s ≤ end_of costs other =
          end_of-covers costs other legal.each s inside in
          omega arith
      | inr w ↦
          let up : s < w.0 = ascending.up s w.0 w.2 in
          let in' : w.0 < length costs = w.1 in
          let after : at other w.0 + at costs w.0 + at tails w.0 ≤ end =
          tail-above costs R tails other end ascending tailed legal ends left w.0 (omega arith)
          in' in
          let kept : at other s + at costs s ≤ at other w.0 = legal.kept s w.0 in' w.2 in
          let is : at tails s ≡ at costs w.0 + at tails w.0 = w.3 in
          omega arith
    ]

-- in each legal schedule there is room for the tail of each segment before the end
pub tail-fits : (costs : List ℕ) (R : ℕ → ℕ → Type 0) (tails other : List ℕ) (end : ℕ)
    → IsAscending R
    → IsTails costs R tails
    → IsLegal costs R other
    → end_of costs other ≤ end
    → (s : ℕ)
    → s < length costs
    → at other s + at costs s + at tails s ≤ end
tail-fits costs R tails other end ascending tailed legal ends s inside =
    tail-above costs R tails other end ascending tailed legal ends (length costs) s (omega arith)
    inside

-- the latest start of each segment: its tail just fits before the end
abbrev pub latest_start : List ℕ → List ℕ → ℕ → ℕ → ℕ
latest_start costs tails end s = end - (at costs s + at tails s)

-- the schedule of latest starts is legal and ends where the earliest one does
pub latest_legal : (costs : List ℕ) (R : ℕ → ℕ → Type 0) (starts tails : List ℕ) → IsAscending R
    → IsEarliest costs R starts → IsTails costs R tails
    → IsLegal costs R (by_rule (latest_start costs tails (end_of costs starts)) (length costs))
latest_legal costs R starts tails ascending earliest tailed =
    let end : ℕ = end_of costs starts in
    IsLegal-by_rule costs R ascending (latest_start costs tails end) (λ s t s_in t_in r.
    let fits : at starts s + at costs s + at tails s ≤ end =
    tail-fits costs R tails starts end ascending tailed earliest.legal (omega arith) s s_in in
    let covers : at costs t + at tails t ≤ at tails s = tailed.covers s t t_in r in
    omega arith)

-- and its end is the same
pub latest_end : (costs : List ℕ) (R : ℕ → ℕ → Type 0) (starts tails : List ℕ) → IsAscending R
    → IsEarliest costs R starts → IsTails costs R tails
    → end_of costs (by_rule (latest_start costs tails (end_of costs starts)) (length costs))
    ≡ end_of costs starts
latest_end costs R starts tails ascending earliest tailed =
    let end : ℕ = end_of costs starts in
    let late : List ℕ = by_rule (latest_start costs tails end) (length costs) in
    let no_sooner : end ≤ end_of costs late = earliest-ends costs R starts late ascending earliest
    (latest_legal costs R starts tails ascending earliest tailed) in
    let no_later : end_of costs late ≤ end =
    end_of-by_rule costs (latest_start costs tails end) end (λ s inside.
    let fits : at starts s + at costs s + at tails s ≤ end =
    tail-fits costs R tails starts end ascending tailed earliest.legal (omega arith) s inside in
    omega arith) in
    omega arith

-- the room that the end leaves a segment with its tail is its slack
pub IsSlack-room : (costs : List ℕ) (R : ℕ → ℕ → Type 0) (starts tails : List ℕ) → IsAscending R
    → IsEarliest costs R starts → IsTails costs R tails → (s slack : ℕ) → s < length costs
    → at starts s + slack + at costs s + at tails s ≡ end_of costs starts → IsSlack costs R s slack
IsSlack-room costs R starts tails ascending earliest tailed s slack inside room = record {
  end = end_of costs starts;
  is_least_end = IsLeastEnd-earliest costs R starts ascending earliest;
  start = at starts s;
  is_least_start = IsLeastStart-earliest costs R starts ascending earliest s inside;
  starts = by_rule (latest_start costs tails (end_of costs starts)) (length costs);
  legal = latest_legal costs R starts tails ascending earliest tailed;
  ends = latest_end costs R starts tails ascending earliest tailed;
  delayed =
      let is : at (by_rule (latest_start costs tails (end_of costs starts)) (length costs)) s
      ≡ latest_start costs tails (end_of costs starts) s =
      at-by_rule (latest_start costs tails (end_of costs starts)) (length costs) s inside in
      omega arith;
  greatest = λ other legal ends.
      let fits : at other s + at costs s + at tails s ≤ end_of costs starts =
      tail-fits costs R tails other (end_of costs starts) ascending tailed legal (omega arith) s
      inside in
      omega arith;
}

-- back from a member of a chain that reaches the end, to a chain whose sum is the end
pub chain_exists : (costs : List ℕ) (R : ℕ → ℕ → Type 0) (starts : List ℕ) (end : ℕ)
    → IsAscending R
    → IsEarliest costs R starts
    → (bound t : ℕ) (rest : List ℕ)
    → t < bound
    → AreSegments costs (t ∷ rest)
    → IsChain R (t ∷ rest)
    → at starts t + chain_sum costs (t ∷ rest) ≡ end
    → (chain : List ℕ) × AreSegments costs chain × IsChain R chain × (chain_sum costs chain ≡ end)
chain_exists costs R starts end ascending earliest zero t rest below inside linked reaches =
    absurd (omega arith)
chain_exists costs R starts end ascending earliest (suc bound) t rest below inside linked reaches =
    let t_in : t < length costs = inside t (0, omega arith, refl) in
    elim (earliest.reached t t_in) [
      | inl z ↦ (t ∷ rest, inside, linked, omega arith)
      | inr w ↦
          let up : w.0 < t = ascending.up w.0 t w.1 in
          let just : at starts w.0 + at costs w.0 ≡ at starts t = w.2 in
          let one_more : chain_sum costs (w.0 ∷ t ∷ rest)
          ≡ at costs w.0 + chain_sum costs (t ∷ rest) =
          sum_by-cons (at costs) w.0 (t ∷ rest) in
          chain_exists costs R starts end ascending earliest bound w.0 (t ∷ rest) (omega arith)
          (AreSegments-cons costs w.0 (t ∷ rest) (omega arith) inside) (w.1, linked) (omega arith)
    ]

-- the earliest schedule ends with the span
pub IsSpan-earliest : (costs : List ℕ) (R : ℕ → ℕ → Type 0) (starts : List ℕ) → IsAscending R
    → IsEarliest costs R starts → 0 < length costs → IsSpan costs R (end_of costs starts)
IsSpan-earliest costs R starts ascending earliest some =
    let last : (s : ℕ) × (s < length costs) × (at starts s + at costs s ≡ end_of costs starts) =
    end_of-reached costs starts earliest.legal.each some in
    let one : chain_sum costs (last.0 ∷ []) ≡ at costs last.0 + 0 =
    sum_by-cons (at costs) last.0 [] in
    let ends : at starts last.0 + at costs last.0 ≡ end_of costs starts = last.2 in
    let chain : (chain : List ℕ)
    × AreSegments costs chain
    × IsChain R chain
    × (chain_sum costs chain ≡ end_of costs starts) = chain_exists
    costs R starts (end_of costs starts) ascending earliest (suc last.0) last.0 [] (omega arith)
    (AreSegments-cons costs last.0 [] last.1 (λ t has. absurd (omega (arith, has.1)))) tt
    (omega arith) in
    IsSpan-reached costs R starts chain.0 earliest.legal chain.1 chain.2 chain.3

-- where there is an earliest schedule, the span is the least end of a legal schedule
pub least_end-from_span : (costs : List ℕ) (R : ℕ → ℕ → Type 0) (starts : List ℕ) → IsAscending R
    → IsEarliest costs R starts → 0 < length costs → (span : ℕ) → IsSpan costs R span
    → IsLeastEnd costs R span
least_end-from_span costs R starts ascending earliest some span is_span =
    let P : ℕ → Type 0 = λ end. IsLeastEnd costs R end in
    subst P
    (span-unique costs R _ span (IsSpan-earliest costs R starts ascending earliest some) is_span)
    (IsLeastEnd-earliest costs R starts ascending earliest)

-- and the least end is the span
pub span-from_least_end : (costs : List ℕ) (R : ℕ → ℕ → Type 0) (starts : List ℕ) → IsAscending R
    → IsEarliest costs R starts → 0 < length costs → (end : ℕ) → IsLeastEnd costs R end
    → IsSpan costs R end
span-from_least_end costs R starts ascending earliest some end least =
    let P : ℕ → Type 0 = λ n. IsSpan costs R n in
    subst P
    (least_end-unique costs R _ end (IsLeastEnd-earliest costs R starts ascending earliest) least)
    (IsSpan-earliest costs R starts ascending earliest some)
