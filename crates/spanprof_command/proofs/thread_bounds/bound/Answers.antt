use Rattle.std.proofs.Common.{◌∙◌, ◌+◌, ◌-◌, ◌/◌, ap}
use Rattle.spanprof_command.proofs.Bounds.{spread}
use Rattle.spanprof_command.proofs.thread_bounds.bound.Goals as goal

pub returns : goal.returns
returns c =
    ap (λ threads. c.args.span + (c.args.work - c.args.span) / threads) c.from.ensures
    ∙ spread c.args.work c.args.span c.args.threads c.requires.some c.requires.within
