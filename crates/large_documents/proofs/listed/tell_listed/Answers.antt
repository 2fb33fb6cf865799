use Rattle.std.proofs.Common.{◌≡◌, ◌∙◌, List, None, Some, ap, inl, inr, subst, sym, ℕ}
use Rattle.std.proofs.lemmas.Result.{IfOk-weaker}
use Rattle.command_words.specs.declared.changes.Change.{Change}
use Rattle.program_text.specs.Document.{lines_of}
use Rattle.task_segments.specs.Table.{Table, costs_of}
use Rattle.spanprof_command.specs.Report.{Report}
use Rattle.large_documents.specs.ChangeLists.{IsListFault, first_wrong}
use Rattle.large_documents.specs.ListReports.{RefusesList, TellsFault}
use Rattle.large_documents.specs.declared.change_list.ListFault.{ListFault}
use Rattle.large_documents.specs.declared.change_list.ListFault.TheVariants.{OutOfMemory, Wrong}
use Rattle.large_documents.proofs.listed.tell_listed.Goals as goal

-- a fault of the list is reported
refuses : (program rest : List ℕ) (table : Table) (fault : ListFault) (report : Report)
    → IsListFault (costs_of table) (lines_of rest) fault
    → TellsFault program fault report
    → RefusesList program rest table report
refuses program rest table (Wrong i why) report is says =
    record { line = i; why = why; is_first = is; says = says }
refuses program rest table OutOfMemory report is says = absurd says

pub returns-in-Ok : goal.returns-in-Ok
returns-in-Ok c =
    let costs = c.in_ok-graph.ensures.costs in
    let lines = lines_of c.args.list.now in
    IfOk-weaker c.try_on_graph.result _ _
    (λ report tries. inl (record {
      right = subst (λ (xs : List ℕ). first_wrong xs lines ≡ None) costs c.in-Ok.ensures.right;
      changes = c.as_slice.result.now;
      are_listed = c.in-Ok.ensures.listed
          ∙ ap (λ (xs : List Change). Some xs) (sym c.as_slice.ensures.value);
      tries = tries c.args.table c.in_ok-graph.ensures c.kept_schedules.ensures.span;
    }))
    c.try_on_graph.ensures

pub returns-in-Err : goal.returns-in-Err
returns-in-Err c =
    let why = subst (λ (xs : List ℕ). IsListFault xs (lines_of c.args.list.now) c.in-Err.fault)
    c.in_ok-graph.ensures.costs c.in-Err.ensures.refused in
    IfOk-weaker c.list_refused.result _ _
    (λ report says. inr (refuses c.args.program.now c.args.list.now c.args.table c.in-Err.fault
    report why says))
    c.list_refused.ensures
