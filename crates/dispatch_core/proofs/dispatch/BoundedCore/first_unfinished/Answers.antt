use Rattle.std.proofs.Common.{ℕ, ◌≡◌, ◌<◌, sym, subst, arith, inl, inr}
use Rattle.std.proofs.lemmas.Bool.{both_ways, cases_lt}
use Rattle.task_segments.specs.Precedence.{MustPrecede}
use Rattle.dispatch_core.specs.Run.{Run, HasFinished}
use Rattle.dispatch_core.proofs.dispatch.BoundedCore.first_unfinished.Goals.{
  else-not-has_finished-via-then-not-has_finished+else-must_precede,
}
use Rattle.dispatch_core.proofs.dispatch.BoundedCore.first_unfinished.Goals.{
  else-not-has_finished-via-else-not-has_finished,
}
use Rattle.dispatch_core.proofs.dispatch.BoundedCore.first_unfinished.Goals as goal

pub returns-then-is_free : goal.returns-then-is_free
returns-then-is_free g c = c.is_free.ensures.0 c.if-is_free.true

pub returns-then-must_precede : goal.returns-then-must_precede
returns-then-must_precede g c =
    let P : Run → Type 0 = λ run. MustPrecede run.table c.loop-pred.pred c.args.segment in
    record {
      precedes = subst P c.self.view_is (c.must_precede.ensures.0 c.if-must_precede.true);
      unfinished = λ h.
          both_ways c.has_finished.result c.if-not-has_finished.true (c.has_finished.ensures.1 h);
      smallest = λ other below edge. c.loop-pred.invariant other below edge;
    }

pub loop-pred-preserved : goal.loop-pred-preserved
loop-pred-preserved g c pred below edge =
    let P : Run → Type 0 = λ run. MustPrecede run.table c.loop-pred.pred c.args.segment in
    elim (cases_lt pred c.loop-pred.pred) [
      | inl before ↦ c.loop-pred.invariant pred before edge
      | inr after ↦
          let same : pred ≡ c.loop-pred.pred = omega arith in
          let here : MustPrecede c.args.self.now.table c.loop-pred.pred c.args.segment =
          subst (λ (p : ℕ). MustPrecede c.args.self.now.table p c.args.segment) same edge in
          let Q : ℕ → Type 0 = λ p. HasFinished c.args.self.now.history p in
          subst Q (sym same) (elim c.else-not-has_finished.branch [
            | else-not-has_finished-via-then-not-has_finished+else-must_precede w ↦
                absurd (both_ways w.must_precede.result w.if-must_precede.false
                (w.must_precede.ensures.1 (subst P (sym c.self.view_is) here)))
            | else-not-has_finished-via-else-not-has_finished w ↦
                c.has_finished.ensures.0 w.if-not-has_finished.false
          ])
    ]

pub returns : goal.returns
returns g c pred edge =
    let P : Run → Type 0 = λ run. MustPrecede run.table pred c.args.segment in
    let before : pred < c.args.segment = c.self.invariant.sound_table.goes_up.ascending pred
    c.args.segment (subst P (sym c.self.view_is) edge) in
    c.loop-pred.invariant pred
    (omega (arith, before, c.loop-pred-test.false, c.loop-pred.auto.pred-end)) edge
