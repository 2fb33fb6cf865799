use Rattle.std.proofs.Common.{◌∙◌, arith}
use Rattle.spanprof_c.proofs.answers.tell_analysis.Goals as goal

pub put_analysis-requires-clause-starts : goal.put_analysis-requires-clause-starts
put_analysis-requires-clause-starts c =
    c.some_other.ensures.none c.if-some_other.false 0 0 (omega arith) ∙ c.len.ensures.count

pub put_analysis-requires-clause-slacks : goal.put_analysis-requires-clause-slacks
put_analysis-requires-clause-slacks c =
    c.some_other.ensures.none c.if-some_other.false 1 0 (omega arith) ∙ c.len.ensures.count

pub put_analysis-requires-clause-path : goal.put_analysis-requires-clause-path
put_analysis-requires-clause-path c =
    c.some_other.ensures.none c.if-some_other.false 2 0 (omega arith) ∙ c.len.ensures.count
