-- Schedules, chains and spans of a relaxation.
use Rattle.std.proofs.Common.{◌≡◌, ◌∙◌, ◌<◌, ◌≤◌, ℕ, List, arith, length, sym}
use Rattle.std.proofs.lemmas.List.{ext_get_or, get_or-map, length-map}
use Rattle.depend_table.specs.KeptEdges.{IsKeptEdge}
use Rattle.task_segments.proofs.Schedules.{chain_within}
use Rattle.task_segments.specs.Precedence.{MustPrecede}
use Rattle.task_segments.specs.Schedule.{IsJoined, IsLeastEnd, IsLegal, IsSpan, at}
use Rattle.task_segments.specs.Table.{Table, costs_of, no_segment, segment}
use Rattle.task_segments.specs.declared.table.Segment.{Segment}
use Rattle.relaxations.specs.Relaxation.{IsRelaxation}

length-costs : (table : Table) → length (costs_of table) ≡ length table.segments
length-costs table = length-map table.segments (λ (row : Segment). row.cost)

cost-at : (table : Table) (s : ℕ)
    → s < length table.segments
    → at (costs_of table) s ≡ (segment table s).cost
cost-at table s inside =
    get_or-map (λ (row : Segment). row.cost) table.segments s no_segment 0 inside

pub same_costs : (old new : Table) → IsRelaxation old new → costs_of new ≡ costs_of old
same_costs old new is =
    let lengths = length-costs new in
    ext_get_or 0 (costs_of new) (costs_of old) (lengths ∙ (is.same.count ∙ sym (length-costs old)))
    (λ s within.
    let in_new : s < length new.segments = omega (arith, within, lengths) in
    let in_old : s < length old.segments = omega (arith, in_new, is.same.count) in
    cost-at new s in_new ∙ ((is.same.each s in_old).cost ∙ sym (cost-at old s in_old)))

pub stays_legal : (old new : Table) (costs starts : List ℕ)
    → IsRelaxation old new
    → IsLegal costs (MustPrecede old) starts
    → IsLegal costs (IsKeptEdge new) starts
stays_legal old new costs starts is legal = record {
  each = legal.each;
  kept = λ s t inside precedes. legal.kept s t inside (is.no_more s t precedes);
}

pub no_longer : (old new : Table) (costs : List ℕ) (before after : ℕ)
    → IsRelaxation old new
    → IsSpan costs (MustPrecede old) before
    → IsSpan costs (IsKeptEdge new) after
    → after ≤ before
no_longer old new costs before after is old_span new_span =
    let linked =
    chain_within (IsKeptEdge new) (MustPrecede old) is.no_more new_span.chain new_span.linked in
    let most = old_span.greatest new_span.chain new_span.segments linked in
    omega (arith, most, new_span.reached)

pub joined_before : (old new : Table) (s t : ℕ)
    → IsRelaxation old new
    → IsJoined (IsKeptEdge new) s t
    → IsJoined (MustPrecede old) s t
joined_before old new s t is joined = record {
  chain = joined.chain;
  linked = chain_within (IsKeptEdge new) (MustPrecede old) is.no_more joined.chain joined.linked;
  begins = joined.begins;
  ends = joined.ends;
}

pub ends_no_later : (R Q : ℕ → ℕ → Type 0) (costs : List ℕ) (before after : ℕ)
    → ((starts : List ℕ) → IsLegal costs R starts → IsLegal costs Q starts)
    → IsLeastEnd costs R before
    → IsLeastEnd costs Q after
    → after ≤ before
ends_no_later R Q costs before after carries one other =
    omega (arith, other.least one.starts (carries one.starts one.legal), one.ends)
