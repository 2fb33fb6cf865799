use Rattle.std.proofs.Common.{IfSome, List, Option, arith, inr, subst, sym, ℕ}
use Rattle.std.proofs.lemmas.Result.{IfOk-weaker}
use Rattle.std.specs.Prelude.{MatchResult}
use Rattle.large_text.specs.Measured.{IsTableOfText}
use Rattle.large_text.specs.LargeTexts.{FitsText, IsLargeFault}
use Rattle.large_command.specs.LargeReports.{RefusesText}
use Rattle.large_command.proofs.Parts.{fits_program, fits_rest}
use Rattle.large_command.proofs.Told.{accepts_document}
use Rattle.large_command.proofs.documents.answer_document.Goals as goal

pub read_table-requires : goal.read_table-requires
read_table-requires c =
    subst (λ (bytes : List ℕ). FitsText bytes) (sym c.split_document.ensures.program)
    (fits_program c.args.document.now c.requires)

pub tell_document-requires-clause-program : goal.tell_document-requires-clause-program
tell_document-requires-clause-program c =
    let fits = subst (λ (bytes : List ℕ). FitsText bytes) (sym c.split_document.ensures.program)
    (fits_program c.args.document.now c.requires) in
    omega (arith, fits.short)

pub tell_document-requires-clause-rest : goal.tell_document-requires-clause-rest
tell_document-requires-clause-rest c =
    subst (λ (rest : Option (List ℕ)). IfSome rest FitsText) (sym c.split_document.ensures.rest)
    (fits_rest c.args.document.now c.requires)

pub returns-in-Ok : goal.returns-in-Ok
returns-in-Ok c =
    let of : IsTableOfText c.split_document.result.program.now c.in-Ok.table =
    subst (λ read. MatchResult read
    (IsTableOfText c.split_document.result.program.now)
    (IsLargeFault c.split_document.result.program.now)) c.in-Ok.is c.in_ok-table.ensures in
    IfOk-weaker c.tell_document.result _ _
    (λ report tells. accepts_document c.args.asked c.args.document.now _ _ c.in-Ok.table report
    c.split_document.ensures.program c.split_document.ensures.rest of tells)
    c.tell_document.ensures

pub returns-in-Err : goal.returns-in-Err
returns-in-Err c =
    let of : IsLargeFault c.split_document.result.program.now c.in-Err.fault =
    subst (λ read. MatchResult read
    (IsTableOfText c.split_document.result.program.now)
    (IsLargeFault c.split_document.result.program.now)) c.in-Err.is c.in_ok-table.ensures in
    IfOk-weaker c.text_refusal.result _ _
    (λ report says. inr (subst (λ (text : List ℕ). RefusesText text report)
    c.split_document.ensures.program (record { fault = c.in-Err.fault; is_fault = of; says = says })))
    c.text_refusal.ensures
