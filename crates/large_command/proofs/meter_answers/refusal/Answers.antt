use Rattle.std.proofs.Common.{◌∙◌, ◌≡◌, ap, append_assoc, ℕ, List}
use Rattle.std.specs.String.{string_bytes}
use Rattle.spanprof_command.specs.Report.{Report, program_refusal}
use Rattle.spanprof_command.specs.declared.report.Status.TheVariants.{Refused}
use Rattle.large_command.proofs.meter_answers.refusal.Goals as goal

pub returns : goal.returns
returns c =
    let whole : List ℕ → Report = λ text. record { text = text; status = Refused } in
    let bytes : c.into_bytes.result.items ≡ c.in_ok-text.text.bytes.items =
    cc c.into_bytes.ensures.value in
    let told = program_refusal (record { kind = c.args.kind; line = c.args.line }) in
    let text : string_bytes c.in_ok-text.text ≡ told.text =
    simp append_assoc (cc c.in_ok-text.ensures.ok) in
    c.new.ensures ∙ ap whole (bytes ∙ text)
