-- Carried out: marks at names, and where a segment opens: what shows quickly that a segment need
-- not wait.
use Rattle.std.specs.Prelude.{ℕ, ◌+◌, ◌<◌, ◌≡◌, ◌⊎◌, ◌==◌, ◌&&◌, ◌||◌, Bool, true, false, List}
use Rattle.std.specs.Prelude.{length, nat_lt, slice_index_or}
use Rattle.program_text.specs.declared.statement.DependKind.{DependKind}
use Rattle.program_text.specs.declared.statement.DependKind.TheVariants.{DependIn, DependInOutSet}
use Rattle.program_text.specs.declared.statement.Item.{Item}
use Rattle.task_segments.specs.Schedule.{at}
use Rattle.task_segments.specs.Table.{Table, segment, task}
use Rattle.task_segments.specs.declared.table.Closing.{Closing}
use Rattle.task_segments.specs.declared.table.Closing.TheVariants.{Waits, EndsGroup}
use Rattle.span_cert.specs.declared.name_marks.NameMarks.{NameMarks}
use Rattle.span_cert.specs.declared.opening.OpensAt.{OpensAt}
use Rattle.span_cert.specs.declared.opening.OpensAt.TheVariants.{First, AfterChild, AfterCut}

-- ---- marks

abbrev pub is_in : DependKind → Bool
is_in DependIn = true
is_in other = false

abbrev pub is_set : DependKind → Bool
is_set DependInOutSet = true
is_set other = false

-- the segment's mark stands at a name
abbrev pub has_mark : List ℕ → ℕ → ℕ → Bool
has_mark marks name t = nat_lt name (length marks) && (at marks name == t)

-- the segment has marked the item
pub record IsMarked (marks : NameMarks) (t : ℕ) (item : Item) : Type 0 where
  pub not_read : is_in item.kind ≡ false → has_mark marks.not_read.items item.name t ≡ true
  pub not_set : is_set item.kind ≡ false → has_mark marks.not_set.items item.name t ≡ true

-- the segment has marked the first n items
abbrev pub AreMarkedUpTo : NameMarks → ℕ → List Item → ℕ → Type 0
AreMarkedUpTo marks t items n =
    (k : ℕ) (other : Item)
    → k < n
    → k < length items
    → IsMarked marks t (slice_index_or items k other)

abbrev pub AreMarked : NameMarks → ℕ → List Item → Type 0
AreMarked marks t items = AreMarkedUpTo marks t items (length items)

-- of the two marks at a name, one that an item of this type conflicts with
abbrev pub meets_kind : DependKind → Bool → Bool → Bool
meets_kind DependIn not_read not_set = not_read
meets_kind DependInOutSet not_read not_set = not_set
meets_kind other not_read not_set = not_read || not_set

-- the item stands where the segment has put such a mark
abbrev pub meets : NameMarks → ℕ → Item → Bool
meets marks t item =
    meets_kind item.kind (has_mark marks.not_read.items item.name t)
    (has_mark marks.not_set.items item.name t)

-- ---- openings

abbrev pub IsCut : Closing → Type 0
IsCut closing = (closing ≡ Waits) ⊎ (closing ≡ EndsGroup)

-- t opens its task
abbrev pub OpensTask : Table → ℕ → Type 0
OpensTask table t = (task table (segment table t).task).first ≡ t

-- t opens within its task, and not after a cut
pub record OpensAfterChild (table : Table) (t : ℕ) : Type 0 where
  pub within : ¬ OpensTask table t
  pub no_cut : (before : ℕ) → before + 1 ≡ t → ¬ IsCut (segment table before).closing

-- where t opens
abbrev pub IsOpening : Table → ℕ → OpensAt → Type 0
IsOpening table t First = OpensTask table t
IsOpening table t AfterChild = OpensAfterChild table t
IsOpening table t AfterCut = Unit {0}

-- the items of the task that t opens are marked
abbrev pub AreMarkedFor : Table → NameMarks → ℕ → OpensAt → Type 0
AreMarkedFor table marks t First =
    AreMarked marks t (task table (segment table t).task).items
AreMarkedFor table marks t AfterChild = Unit {0}
AreMarkedFor table marks t AfterCut = Unit {0}
