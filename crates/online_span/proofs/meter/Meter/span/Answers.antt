use Rattle.online_span.proofs.Earliest.{span_is}
use Rattle.online_span.proofs.Program.{span_of_program}
use Rattle.online_span.proofs.meter.Meter.span.Goals as goal

pub returns-clause-so_far : goal.returns-clause-so_far
returns-clause-so_far c = λ e h. span_is e c.args.self.now.span h.proper h.some_open h.span

pub returns-clause-whole : goal.returns-clause-whole
returns-clause-whole c = λ body nested h. span_of_program body nested c.args.self.now.span h.span
