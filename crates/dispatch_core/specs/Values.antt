-- What segments compute, whatever run they are part of.
use Rattle.std.specs.Prelude.{ℕ, ◌≡◌, ◌%◌, ◌^◌, List, sum_by}
use Rattle.task_segments.specs.Table.{Table, segment}
use Rattle.task_segments.specs.Precedence.{IsSegment}
use Rattle.depend_table.specs.KeptEdges.{IsKeptEdge}
use Rattle.depend_table.specs.Lists.{Lists}

-- The kernel's value of a segment for its cost and its input, which is the sum of the values of its
-- kept predecessors, modulo 2^64.
pub data IsValue (table : Table) (value_of : ℕ → ℕ → ℕ → ℕ) : ℕ → ℕ → Type 0 where
  Computes : (s value : ℕ) → IsSegment table s
      → (preds : List ℕ) → Lists (λ p. IsKeptEdge table p s) preds
      → (values : ℕ → ℕ) → ((p : ℕ) → IsKeptEdge table p s → IsValue table value_of p (values p))
      → value ≡ value_of s (segment table s).cost (sum_by values preds % 2 ^ 64)
      → IsValue table value_of s value

-- the sum of the values of the segment's kept predecessors, modulo 2^64
pub record IsInput (table : Table) (value_of : ℕ → ℕ → ℕ → ℕ) (s input : ℕ) : Type 0 where
  pub preds : List ℕ
  pub are_preds : Lists (λ p. IsKeptEdge table p s) preds
  pub values : ℕ → ℕ
  pub are_values : (p : ℕ) → IsKeptEdge table p s → IsValue table value_of p (values p)
  pub is_sum : input ≡ sum_by values preds % 2 ^ 64
