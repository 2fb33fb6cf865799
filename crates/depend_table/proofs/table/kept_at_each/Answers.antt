use Rattle.std.proofs.Common.{List, ℕ, ap, ◌≡◌, sym, subst}
use Rattle.std.proofs.lemmas.Result.{IfOk-weaker}
use Rattle.program_text.specs.declared.statement.Item.{Item}
use Rattle.depend_table.specs.Lists.{Lists}
use Rattle.depend_table.specs.Merged.{AreMerged}
use Rattle.depend_table.specs.Siblings.{IsKept}
use Rattle.depend_table.specs.Entries.{newest_first}
use Rattle.depend_table.proofs.Alike.{kept_alike, merged_alike}
use Rattle.depend_table.proofs.table.kept_at_each.Goals as goal

pub returns : goal.returns
returns c =
    let siblings = newest_first c.args.calls.now in
    let items = c.args.items.now in
    let merged = c.deref.result.now in
    let are = subst (AreMerged items) (sym c.deref.ensures.value) c.in_ok-merged.ensures in
    IfOk-weaker c.kept_at_names-2.result
    (λ kept. Lists (IsKept siblings merged) kept.items)
    (λ kept. Lists (IsKept siblings items) kept.items)
    (λ kept. kept_alike siblings merged items kept.items (merged_alike items merged are))
    c.kept_at_names-2.ensures
