use Rattle.std.proofs.Common.{◌∙◌, ap}
use Rattle.spanprof_command.specs.Finished.{told}
use Rattle.spanprof_command.proofs.Finished.{appends_told, line_told, same_report, sends_told}
use Rattle.spanprof_command.proofs.sending.finish.Goals as goal

pub returns-in-Ok-clause-sends : goal.returns-in-Ok-clause-sends
returns-in-Ok-clause-sends g c =
    let is = same_report c.in-Ok.report c.text.result.now c.status.result c.text.ensures
    c.status.ensures in
    sends_told c.args.made _ c.args.retries c.send.new.retries _ _ _ _ (ap told c.in-Ok.is ∙ is)
    c.send.ensures.retried c.send.ensures.sends

pub returns-in-Err-clause-sends : goal.returns-in-Err-clause-sends
returns-in-Err-clause-sends g c =
    let is = line_told c.args.made c.in-Err.fault c.line_of.result.now c.in-Err.is c.line_of.ensures
    in
    sends_told c.args.made _ c.args.retries c.send-in-Err.new.retries _ _ _ _ is
    c.send-in-Err.ensures.retried c.send-in-Err.ensures.sends

pub returns-in-Ok-clause-flushed_last : goal.returns-in-Ok-clause-flushed_last
returns-in-Ok-clause-flushed_last g c =
    let is = same_report c.in-Ok.report c.text.result.now c.status.result c.text.ensures
    c.status.ensures in
    λ more. appends_told c.args.made _ _ _ (ap told c.in-Ok.is ∙ is)
    (c.send.ensures.flushed_last more)

pub returns-in-Err-clause-flushed_last : goal.returns-in-Err-clause-flushed_last
returns-in-Err-clause-flushed_last g c =
    let is = line_told c.args.made c.in-Err.fault c.line_of.result.now c.in-Err.is c.line_of.ensures
    in
    λ more. appends_told c.args.made _ _ _ is (c.send-in-Err.ensures.flushed_last more)
