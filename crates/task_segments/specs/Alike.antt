-- Two tables of which every question has the same answer.
use Rattle.std.specs.Prelude.{ℕ, ◌≡◌, ◌↔◌, length}
use Rattle.task_segments.specs.Table.{Table, segment, task}
use Rattle.task_segments.specs.Precedence.{IsSegment, IsTask, Continues, MustPrecede}

-- what the calls of a table answer, but for `copy` and `same`: of the whole, of each segment, each
-- task and each pair
pub record AnswerAlike (one other : Table) : Type 0 where
  pub len : length one.segments ≡ length other.segments
  pub tasks : length one.tasks ≡ length other.tasks
  pub cost : (s : ℕ) → IsSegment one s → (segment one s).cost ≡ (segment other s).cost
  pub task_of : (s : ℕ) → IsSegment one s → (segment one s).task ≡ (segment other s).task
  pub index : (s : ℕ) → IsSegment one s → (segment one s).index ≡ (segment other s).index
  pub closing : (s : ℕ) → IsSegment one s → (segment one s).closing ≡ (segment other s).closing
  pub next : (s t : ℕ) → IsSegment one s → Continues one s t ↔ Continues other s t
  pub first : (u : ℕ) → IsTask one u → (task one u).first ≡ (task other u).first
  pub last : (u : ℕ) → IsTask one u → (task one u).last ≡ (task other u).last
  pub parent : (u : ℕ) → IsTask one u → (task one u).parent ≡ (task other u).parent
  pub creator : (u : ℕ) → IsTask one u → (task one u).creator ≡ (task other u).creator
  pub undeferred : (u : ℕ) → IsTask one u → (task one u).undeferred ≡ (task other u).undeferred
  pub items : (u : ℕ) → IsTask one u → (task one u).items ≡ (task other u).items
  pub innermost_group : (u : ℕ)
      → IsTask one u
      → (task one u).innermost_group ≡ (task other u).innermost_group
  pub must_precede : (s t : ℕ)
      → IsSegment one s
      → IsSegment one t
      → MustPrecede one s t ↔ MustPrecede other s t
