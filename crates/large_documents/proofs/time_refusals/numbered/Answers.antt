use Rattle.std.proofs.Common.{◌∙◌, ◌≡◌, ap, append_assoc, ℕ, List}
use Rattle.std.specs.String.{string_bytes}
use Rattle.large_documents.specs.AccountReports.{numbered}
use Rattle.spanprof_command.specs.Report.{Report}
use Rattle.spanprof_command.specs.declared.report.Status.TheVariants.{Refused}
use Rattle.large_documents.proofs.time_refusals.numbered.Goals as goal

pub returns : goal.returns
returns c =
    let whole : List ℕ → Report = λ text. record { text = text; status = Refused } in
    let bytes : c.into_bytes.result.items ≡ c.in_ok-text.text.bytes.items =
    cc c.into_bytes.ensures.value in
    let text : string_bytes c.in_ok-text.text ≡ (numbered c.args.number c.args.word.now).text =
    simp append_assoc (cc c.in_ok-text.ensures.ok) in
    c.new.ensures ∙ ap whole (bytes ∙ text)
