use Rattle.task_segments.proofs.Schedules.{span-unique}
use Rattle.task_segments.specs.Precedence.{MustPrecede}
use Rattle.task_segments.specs.Table.{costs_of, table_of}
use Rattle.online_span.proofs.laws.one_span.Goals as goal

pub returns : goal.returns
returns c = λ body span other h k.
    span-unique (costs_of (table_of body)) (MustPrecede (table_of body)) span other h.greatest_sum k
