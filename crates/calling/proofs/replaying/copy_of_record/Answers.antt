use Rattle.std.proofs.Common.{ℕ, List, ◌≡◌, sym, subst}
use Rattle.depend_table.specs.KeptEdges.{IsKeptEdge}
use Rattle.depend_table.specs.Lists.{Lists}
use Rattle.calling.proofs.replaying.copy_of_record.Goals as goal

pub returns-in_ok-to_vec-in-Some : goal.returns-in_ok-to_vec-in-Some
returns-in_ok-to_vec-in-Some c =
    let AreRecorded : List ℕ → Type 0 =
    Lists (λ before. IsKeptEdge c.args.core.now.table before c.args.segment) in
    let same : c.in_ok-to_vec-in-Some.field-0.items ≡ c.in-Some.preds.now =
    c.in_ok-to_vec-in-Some.ensures.items_if_clones_equal (λ x y h. h) in
    (c.in-Some.ensures.0, subst AreRecorded (sym same) c.in-Some.ensures.1)
