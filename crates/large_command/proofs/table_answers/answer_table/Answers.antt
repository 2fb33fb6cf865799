use Rattle.std.proofs.Common.{inr, subst}
use Rattle.std.proofs.lemmas.Result.{IfOk-weaker}
use Rattle.std.specs.Prelude.{MatchResult}
use Rattle.large_command.specs.LargeReports.{RefusesText}
use Rattle.large_command.proofs.Told.{accepts_table}
use Rattle.large_text.specs.Measured.{IsTableOfText}
use Rattle.large_command.proofs.table_answers.answer_table.Goals as goal

pub returns-in-Ok : goal.returns-in-Ok
returns-in-Ok g c =
    IfOk-weaker c.tell_table.result _ _
    (λ report tells bytes taken.
    let of : IsTableOfText bytes c.in-Ok.table =
    subst (λ read. MatchResult read (IsTableOfText bytes) (RefusesText bytes))
    c.in-Ok.is (c.in_ok-table.ensures bytes taken) in
    accepts_table c.args.asked.now bytes c.in-Ok.table report of tells)
    c.tell_table.ensures

pub returns-in-Err : goal.returns-in-Err
returns-in-Err g c = λ bytes taken.
    inr (subst (λ read. MatchResult read (IsTableOfText bytes) (RefusesText bytes))
    c.in-Err.is (c.in_ok-table.ensures bytes taken))
