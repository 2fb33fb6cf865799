use Rattle.std.proofs.Common.{◌∙◌, ap, max}
use Rattle.std.specs.Int.{div_ceil}
use Rattle.spanprof_command.proofs.Bounds.{rounded_up}
use Rattle.spanprof_command.proofs.thread_bounds.least.Goals as goal

pub returns : goal.returns
returns c =
    c.max.ensures
    ∙ ap (max c.args.span)
    (c.div_ceil.ensures
    ∙ ap (div_ceil c.args.work) c.from.ensures
    ∙ rounded_up c.args.work c.args.threads c.requires)
