use Rattle.std.proofs.Common.{◌≡◌, Some, rules}
use Rattle.large_command.proofs.Told.{found_table, refuses}
use Rattle.large_command.proofs.meter_answers.table_or_refusal.Goals as goal

pub returns-in-Ok-Some : goal.returns-in-Ok-Some
returns-in-Ok-Some c =
    let is : c.in-Ok-Some.field-0 ≡ Some c.in-Ok-Some.table = search rules in
    λ bytes taken. rw is (found_table bytes c.in-Ok-Some.field-0 c.in-Ok-Some.table is
    (c.in-Ok-Some.ensures.table bytes taken))

pub returns-in_ok-text_refusal-in-Err : goal.returns-in_ok-text_refusal-in-Err
returns-in_ok-text_refusal-in-Err c = λ bytes taken.
    refuses bytes c.in-Err.fault c.in_ok-text_refusal-in-Err.field-0
    (c.in-Err.ensures.refused (search rules) bytes taken) c.in_ok-text_refusal-in-Err.ensures
