-- Each segment has one value and one input.
use Rattle.std.proofs.Common.{ℕ, ◌≡◌, ◌%◌, ◌^◌}
use Rattle.std.proofs.Common.{sym, ap, ◌∙◌}
use Rattle.task_segments.specs.Table.{Table, segment}
use Rattle.depend_table.specs.KeptEdges.{IsKeptEdge}
use Rattle.dispatch_core.specs.Values.{IsValue, IsInput}
use Rattle.dispatch_core.specs.Values.IsValue.{Computes}
use Rattle.open_segments.proofs.Ascending.{same_sums}

pub one_value : (table : Table) (value_of : ℕ → ℕ → ℕ → ℕ) (s v w : ℕ) → IsValue table value_of s v
    → IsValue table value_of s w → v ≡ w
one_value table value_of s v w (Computes s1 v1 known preds lists values are is)
    (Computes s2 v2 known' preds' lists' values' are' is') =
    let sums = same_sums (λ pred. IsKeptEdge table pred s) values values' preds preds' lists lists'
    (λ pred kept.
    one_value table value_of pred (values pred) (values' pred) (are pred kept) (are' pred kept)) in
    is ∙ ap (λ (n : ℕ). value_of s (segment table s).cost (n % 2 ^ 64)) sums ∙ sym is'

pub one_input : (table : Table) (value_of : ℕ → ℕ → ℕ → ℕ) (s i j : ℕ) → IsInput table value_of s i
    → IsInput table value_of s j → i ≡ j
one_input table value_of s i j one two =
    let sums = same_sums (λ pred. IsKeptEdge table pred s) one.values two.values one.preds two.preds
    one.are_preds two.are_preds
    (λ pred kept. one_value table value_of pred (one.values pred) (two.values pred)
    (one.are_values pred kept) (two.are_values pred kept)) in
    one.is_sum ∙ ap (λ (n : ℕ). n % 2 ^ 64) sums ∙ sym two.is_sum
