use Rattle.large_command.proofs.Bounds.{within_work}
use Rattle.large_command.proofs.laws.span_within_work.Goals as goal

pub returns : goal.returns
returns c body span nested is_span = within_work body span nested is_span
