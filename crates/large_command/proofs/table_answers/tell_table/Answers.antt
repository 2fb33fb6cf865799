use Rattle.std.proofs.Common.{inl}
use Rattle.std.proofs.lemmas.Result.{IfOk-weaker}
use Rattle.large_command.proofs.table_answers.tell_table.Goals as goal

pub returns : goal.returns
returns g c =
    let rows = c.within_rows.ensures in
    IfOk-weaker c.say_of_table.result _ _
    (λ report says. inl (record {
      fits = record { segments = rows.few_segments; tasks = rows.few_tasks; work = rows.work };
      says = says;
    }))
    c.say_of_table.ensures
