use Rattle.span_cert.proofs.Verdicts.{accepts_of, refuses_of}
use Rattle.span_cert.proofs.checker.check_claim.Goals as goal

pub returns-clause-accepted : goal.returns-clause-accepted
returns-clause-accepted g c =
    accepts_of c.args.table.now c.args.text.now c.in_ok-claim.claim c.judge_by_edges.result
    c.in_ok-claim.ensures.found c.judge_by_edges.ensures.checked

pub returns-clause-refused : goal.returns-clause-refused
returns-clause-refused g c =
    refuses_of c.args.table.now c.args.text.now c.in_ok-claim.claim c.judge_by_edges.result
    c.in_ok-claim.ensures.found c.judge_by_edges.ensures.refused
