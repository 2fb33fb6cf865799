use Rattle.std.proofs.Common.{arith}
use Rattle.std.proofs.lemmas.Result.{IfErr-weaker, IfOk-weaker}
use Rattle.large_text.proofs.ReadingTexts.{loops_faulty, loops_tallied, whole_scanned}
use Rattle.large_text.proofs.large_texts.tally_two.Goals as goal

pub returns-clause-measured : goal.returns-clause-measured
returns-clause-measured c =
    let text = c.args.text.now in
    let scanned = whole_scanned text c.new-after_header.result c.takes_header_two.new.scanner
    c.takes_header_two.result (omega arith) c.requires.two c.new-after_header.ensures.rest c.new-after_header.ensures.line
    c.takes_header_two.ensures.is_two c.takes_header_two.ensures.rest
    c.takes_header_two.ensures.line in
    IfOk-weaker c.tally_loops.result _ _
    (λ tally found. loops_tallied text tally c.takes_header_two.new.scanner c.requires.two
    (omega arith) scanned.0 found) c.tally_loops.ensures.tallied

pub returns-clause-refused : goal.returns-clause-refused
returns-clause-refused c =
    let text = c.args.text.now in
    let scanned = whole_scanned text c.new-after_header.result c.takes_header_two.new.scanner
    c.takes_header_two.result (omega arith) c.requires.two c.new-after_header.ensures.rest c.new-after_header.ensures.line
    c.takes_header_two.ensures.is_two c.takes_header_two.ensures.rest
    c.takes_header_two.ensures.line in
    IfErr-weaker c.tally_loops.result _ _
    (λ fault found some. loops_faulty text fault c.takes_header_two.new.scanner c.requires.two
    (omega arith) scanned (found some)) c.tally_loops.ensures.refused
