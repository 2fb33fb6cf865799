use Rattle.large_command.proofs.Lines.{ends_in_line, line_begins, line_goes_on}
use Rattle.large_command.proofs.room.line_after.Goals as goal

pub returns-then-last-bytes : goal.returns-then-last-bytes
returns-then-last-bytes c = λ text h.
    let bytes = c.args.bytes.now in
    let last = c.last_stretch-last.result in
    line_begins text bytes last (ends_in_line bytes last c.last_stretch-last.ensures)
    c.if-last-bytes.true

pub returns-else-last-bytes : goal.returns-else-last-bytes
returns-else-last-bytes c = λ text h.
    let bytes = c.args.bytes.now in
    let last = c.last_stretch-last.result in
    line_goes_on text bytes c.args.line last h
    (ends_in_line bytes last c.last_stretch-last.ensures) c.if-last-bytes.false
