use Rattle.std.proofs.Common.{ℕ, arith, inl, inr, subst}
use Rattle.std.proofs.lemmas.Bool.{both_ways, cases_eq, cases_lt}
use Rattle.dispatch_core.proofs.StartAndEnd.{no_more}
use Rattle.span_cert.specs.Claims.{moments_of_starts}
use Rattle.span_cert.specs.LateSegments.{IsLate}
use Rattle.span_cert.proofs.late_segments.first_late.Goals as goal

pub loop-t-preserved : goal.loop-t-preserved
loop-t-preserved c = λ u less late. elim (cases_eq u c.loop-t.t) [
  | inl same ↦
      let here : IsLate c.args.graph.now (moments_of_starts c.args.starts.now) c.loop-t.t =
      subst (λ (n : ℕ). IsLate c.args.graph.now (moments_of_starts c.args.starts.now) n) same late in
      both_ways c.is_late.result c.if-is_late.false (c.is_late.ensures.1 here)
  | inr other ↦ c.loop-t.invariant u (omega (arith, less, other)) late
]

pub returns : goal.returns
returns c = λ t late. elim (cases_lt t c.loop-t.t) [
  | inl less ↦ c.loop-t.invariant t less late
  | inr past ↦
      let each = c.len-t-end.ensures.is_graph.each in
      let count = c.len-t-end.ensures.count in
      let all = c.loop-t-test.false in
      no_more c.args.graph.now t late.0 (omega (arith, each, count, past, all)) late.1.precedes
]
