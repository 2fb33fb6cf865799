use Rattle.std.proofs.Common.{◌++◌, ◌∙◌, ap, ap₂, take, replicate, arith}
use Rattle.std.proofs.Math.Seq.{take-nil}
use Rattle.greedy_sim.proofs.simulation.fill.Goals as goal

pub returns : goal.returns
returns g c =
    c.in_ok-resize.ensures.items
    ∙ ap₂ (λ xs n. xs ++ replicate n c.args.value)
    (ap (take c.args.count) c.clear.ensures.items ∙ take-nil c.args.count)
    (omega (arith, c.clear.ensures.len))
