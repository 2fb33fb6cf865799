use Rattle.std.proofs.Common.{ℕ, ◌+◌, ◌∙◌, List, Vec, Global, ap, refl, sym, subst, arith}
use Rattle.std.specs.Prelude.{false}
use Rattle.std.proofs.lemmas.Bool.{both_ways}
use Rattle.depend_table.specs.Lists.{Lists}
use Rattle.task_segments.specs.Precedence.{MustPrecede}
use Rattle.dispatch_core.proofs.ListLemmas.{Below, Lists-all, Lists-push, Lists-skip}
use Rattle.calling.proofs.waiting.waits_of.Goals as goal
use Rattle.calling.proofs.waiting.waits_of.Goals.{then-must_precede+in_ok-push, else-must_precede}

pub loop-before-preserved : goal.loop-before-preserved
loop-before-preserved c =
    let Precedes : ℕ → Type 0 = λ before. MustPrecede c.args.table.now before c.args.segment in
    let IsListed : List ℕ → Type 0 = Lists (Below Precedes (c.loop-before.before + 1)) in
    elim c.if-must_precede.branch [
      | then-must_precede+in_ok-push w ↦
          let pushed = Lists-push Precedes c.loop-before.before c.loop-before.waits.items
          (w.if-must_precede.ensures.0 refl) c.loop-before.invariant in
          subst IsListed
          (sym (ap (λ (waits : Vec ℕ Global). waits.items) w.waits-is ∙ w.in_ok-push.ensures.items))
          pushed
      | else-must_precede w ↦
          let skipped = Lists-skip Precedes c.loop-before.before c.loop-before.waits.items
          (λ h. both_ways false refl (w.if-must_precede.ensures.1 h)) c.loop-before.invariant in
          subst IsListed (sym (ap (λ (waits : Vec ℕ Global). waits.items) w.waits-is)) skipped
    ]

pub returns : goal.returns
returns c =
    Lists-all (λ before. MustPrecede c.args.table.now before c.args.segment) c.loop-before.before
    c.loop-before.waits.items
    (λ before h.
    let up = c.goes_up.ensures before c.args.segment h in omega (arith, c.loop-before-test.false))
    c.loop-before.invariant
