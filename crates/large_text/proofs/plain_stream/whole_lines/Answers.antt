use Rattle.large_text.proofs.PlainStreaming.{line_ends}
use Rattle.large_text.proofs.plain_stream.whole_lines.Goals as goal

pub returns-else-bytes-end-ne10-clause-ends : goal.returns-else-bytes-end-ne10-clause-ends
returns-else-bytes-end-ne10-clause-ends c = λ some.
    line_ends c.args.bytes.now c.back.end some c.back.invariant.0 c.if-bytes-end-ne10.false
