use Rattle.std.proofs.Common.{inl}
use Rattle.std.proofs.lemmas.Result.{IfOk-weaker}
use Rattle.large_command.proofs.documents.tell_behind.Goals as goal

pub returns : goal.returns
returns c =
    let rows = c.within_rows.ensures in
    IfOk-weaker c.tell_rest.result _ _
    (λ report says. inl (record {
      fits = record { segments = rows.few_segments; tasks = rows.few_tasks; work = rows.work };
      says = says;
    }))
    c.tell_rest.ensures
