use Rattle.std.proofs.Common.{Bool, ◌+◌, sym, subst, take, drop, set, arith}
use Rattle.worker_run.specs.declared.look.Found.TheVariants.{Token, Nothing, Unsure}
use Rattle.worker_run.specs.Looks.{AreLookedAt}
use Rattle.worker_run.proofs.Looking.{SoFar, in_all, nothing_in_place, unsure_in_place, token_in_place, all_looked}
use Rattle.worker_run.proofs.look.look_through.Goals as goal
use Rattle.worker_run.proofs.look.look_through.Goals.{in-Unsure, in-Nothing}

pub returns-in-Token : goal.returns-in-Token
returns-in-Token g c =
    token_in_place g.S.TokenSource.looks c.args.sources.now c.loop-source.unsure c.loop-source.sources
    c.loop-source.source-index c.source-item.result c.look.new.self c.in-Token.token (omega (arith, c.loop-source.auto.sources))
    c.source-item.is
    (subst (λ x. g.S.TokenSource.looks x (Token c.in-Token.token) c.look.new.self) (sym c.source-item.is)
    c.in-Token.ensures) c.loop-source.invariant

pub loop-source-preserved : goal.loop-source-preserved
loop-source-preserved g c =
    let xs = c.loop-source.sources in
    let i = c.loop-source.source-index in
    let After : Bool → Type 0 = λ unsure. SoFar g.S.TokenSource.looks c.args.sources.now unsure
    (take (i + 1) (set xs i c.look.new.self)) (drop (i + 1) (set xs i c.look.new.self)) in
    elim c.match-look.branch [
      | in-Unsure w ↦
          subst After (sym w.unsure-is)
          (unsure_in_place g.S.TokenSource.looks c.args.sources.now c.loop-source.unsure xs i c.source-item.result
          c.look.new.self (omega (arith, c.loop-source.auto.sources)) c.source-item.is
          (subst (λ x. g.S.TokenSource.looks x Unsure c.look.new.self) (sym c.source-item.is) w.in-Unsure.ensures)
          c.loop-source.invariant)
      | in-Nothing w ↦
          subst After (sym w.unsure-is)
          (nothing_in_place g.S.TokenSource.looks c.args.sources.now c.loop-source.unsure xs i c.source-item.result
          c.look.new.self (omega (arith, c.loop-source.auto.sources)) c.source-item.is
          (subst (λ x. g.S.TokenSource.looks x Nothing c.look.new.self) (sym c.source-item.is) w.in-Nothing.ensures)
          c.loop-source.invariant)
    ]

pub returns-then-unsure : goal.returns-then-unsure
returns-then-unsure g c =
    subst
    (λ (b : Bool). AreLookedAt g.S.TokenSource.looks c.args.sources.now (in_all b Nothing) c.loop-source.sources)
    c.if-unsure.true
    (all_looked g.S.TokenSource.looks c.args.sources.now c.loop-source.unsure c.loop-source.sources
    c.loop-source.source-index (omega arith) c.loop-source.invariant)

pub returns-else-unsure : goal.returns-else-unsure
returns-else-unsure g c =
    subst
    (λ (b : Bool). AreLookedAt g.S.TokenSource.looks c.args.sources.now (in_all b Nothing) c.loop-source.sources)
    c.if-unsure.false
    (all_looked g.S.TokenSource.looks c.args.sources.now c.loop-source.unsure c.loop-source.sources
    c.loop-source.source-index (omega arith) c.loop-source.invariant)
