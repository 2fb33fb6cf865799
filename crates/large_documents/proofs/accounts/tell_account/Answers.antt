use Rattle.std.proofs.Common.{ℕ, subst}
use Rattle.std.proofs.lemmas.Result.{IfOk-weaker}
use Rattle.large_documents.proofs.Members.{may_tell, says_of, says_of_read}
use Rattle.large_documents.specs.Accounts.{TellsRun}
use Rattle.large_documents.specs.AccountReports.{SaysOfTimes}
use Rattle.large_documents.proofs.accounts.tell_account.Goals as goal

pub tell_read-requires : goal.tell_read-requires
tell_read-requires c =
    may_tell c.in_ok-graph.graph c.count_lines.result c.args.rest.now c.in_ok-read.read
    c.in_ok-read.ensures

pub returns : goal.returns
returns c =
    let telling = TellsRun c.args.asked in
    let rest = c.args.rest.now in
    let graph = c.in_ok-graph.graph in
    IfOk-weaker c.tell_read.result _ _
    (λ report told. subst (λ (n : ℕ). SaysOfTimes telling n rest c.args.table report)
    c.count_lines.ensures.is
    (says_of_read telling c.count_lines.result rest c.args.table graph report c.is_graph.ensures
    c.in_ok-graph.ensures
    (says_of telling graph c.count_lines.result rest c.in_ok-read.read report c.in_ok-read.ensures
    told)))
    c.tell_read.ensures
