use Rattle.std.proofs.Common.{◌∙◌, sym}
use Rattle.large_text.proofs.Taken.{sound}
use Rattle.large_text.proofs.Ended.{is_whole_text, ends_early}
use Rattle.large_text.proofs.reader.MarkReader.finish.Goals as goal

pub returns-in-Some-clause-early : goal.returns-in-Some-clause-early
returns-in-Some-clause-early c = λ before marks r.
    ends_early before marks c.args.self.now c.args.line c.in-Some.fault
    (sound before marks c.args.self.now r) (sym c.end_fault.ensures ∙ c.in-Some.is)

pub returns-in-None-clause-whole : goal.returns-in-None-clause-whole
returns-in-None-clause-whole c = λ before marks r.
    is_whole_text before marks c.args.self.now c.args.line (sound before marks c.args.self.now r)
    (sym c.end_fault.ensures ∙ c.in-None.is)
