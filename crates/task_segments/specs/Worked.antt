-- A few programs and their tables.
use Rattle.std.specs.Prelude.{◌≡◌, ℕ, Bool, true, false, List, [], ◌∷◌, Option, Some, None}
use Rattle.task_program.specs.Marks.{Mark}
use Rattle.task_program.specs.Marks.Mark.{Begins, Ends, Works, Waits, GroupBegins, GroupEnds}
use Rattle.program_text.specs.declared.statement.DependKind.{DependKind}
use Rattle.program_text.specs.declared.statement.DependKind.TheVariants.{DependIn, DependOut}
use Rattle.program_text.specs.declared.statement.DependKind.TheVariants.{DependInOutSet}
use Rattle.program_text.specs.declared.statement.Item.{Item}
use Rattle.task_segments.specs.declared.table.Closing.{Closing}
use Rattle.task_segments.specs.declared.table.Closing.TheVariants.{Creates, EndsGroup, EndsTask}
use Rattle.task_segments.specs.declared.table.Closing.TheVariants as closings
use Rattle.task_segments.specs.declared.table.Segment.{Segment}
use Rattle.task_segments.specs.Precedence.{Resumption, Dependence, Wait, GroupEnd, TasksDepend}
use Rattle.task_segments.specs.Table.{Table, Task, table_of}

abbrev pub item : DependKind → ℕ → Item
item kind name = record { kind = kind; name = name }

abbrev pub row : ℕ → ℕ → ℕ → Closing → ℕ → Segment
row task index cost closing
    children_before = record {
      task = task;
      index = index;
      cost = cost;
      closing = closing;
      children_before = children_before;
    }

abbrev pub root : ℕ → Task
root
    last = record {
      parent = None;
      creator = None;
      undeferred = false;
      items = [];
      first = 0;
      last = last;
      innermost_group = None;
      siblings_before = 0;
    }

abbrev pub child : ℕ → ℕ → Bool → List Item → ℕ → ℕ → Option ℕ → ℕ → Task
child parent creator undeferred items first last innermost_group siblings_before = record {
  parent = Some parent;
  creator = Some creator;
  undeferred = undeferred;
  items = items;
  first = first;
  last = last;
  innermost_group = innermost_group;
  siblings_before = siblings_before;
}

-- an empty body
abbrev pub empty : List Mark
empty = []

abbrev pub empty_table : Table
empty_table = record {
  segments = row 0 0 0 EndsTask 0 ∷ [];
  tasks = root 0 ∷ [];
}

-- the worked program
abbrev pub worked_program : List Mark
worked_program = Works 5 ∷ Begins false [] ∷ Works 3 ∷ Ends ∷ Works 2 ∷ Waits ∷ Works 1 ∷ []

abbrev pub worked_table : Table
worked_table = record {
  segments = row 0 0 5 (Creates 1) 0 ∷ row 1 0 3 EndsTask 0 ∷ row 0 1 2 closings.Waits 0 ∷
      row 0 2 1 EndsTask 0 ∷ [];
  tasks = root 3 ∷ child 0 0 false [] 1 1 None 0 ∷ [];
}

-- the worked program without its wait
abbrev pub worked_without_wait : List Mark
worked_without_wait = Works 5 ∷ Begins false [] ∷ Works 3 ∷ Ends ∷ Works 2 ∷ Works 1 ∷ []

abbrev pub unwaited_table : Table
unwaited_table = record {
  segments = row 0 0 5 (Creates 1) 0 ∷ row 1 0 3 EndsTask 0 ∷ row 0 1 3 EndsTask 0 ∷ [];
  tasks = root 2 ∷ child 0 0 false [] 1 1 None 0 ∷ [];
}

-- a group and a wait
abbrev pub group_then_wait : List Mark
group_then_wait = GroupBegins ∷ GroupEnds ∷ Waits ∷ []

abbrev pub group_then_wait_table : Table
group_then_wait_table = record {
  segments = row 0 0 0 EndsGroup 0 ∷ row 0 1 0 closings.Waits 0 ∷ row 0 2 0 EndsTask 0 ∷ [];
  tasks = root 2 ∷ [];
}

-- five siblings at one name
abbrev pub siblings : List Mark
siblings = Begins false (item DependInOutSet 0 ∷ []) ∷ Works 4 ∷ Ends ∷
    Begins false (item DependInOutSet 0 ∷ []) ∷ Works 6 ∷ Ends ∷ Begins false (item DependIn 0 ∷ [])
    ∷
    Works 1 ∷ Ends ∷ Begins false (item DependInOutSet 0 ∷ []) ∷ Works 2 ∷ Ends ∷
    Begins false (item DependOut 0 ∷ []) ∷ Works 1 ∷ Ends ∷ []

abbrev pub siblings_table : Table
siblings_table = record {
  segments = row 0 0 0 (Creates 1) 0 ∷ row 1 0 4 EndsTask 0 ∷ row 0 1 0 (Creates 2) 0 ∷
      row 2 0 6 EndsTask 0 ∷ row 0 2 0 (Creates 3) 0 ∷ row 3 0 1 EndsTask 0
      ∷ row 0 3 0 (Creates 4) 0 ∷
      row 4 0 2 EndsTask 0 ∷ row 0 4 0 (Creates 5) 0 ∷ row 5 0 1 EndsTask 0 ∷ row 0 5 0 EndsTask 0
      ∷ [];
  tasks = root 10 ∷ child 0 0 false (item DependInOutSet 0 ∷ []) 1 1 None 0 ∷
      child 0 2 false (item DependInOutSet 0 ∷ []) 3 3 None 1 ∷
      child 0 4 false (item DependIn 0 ∷ []) 5 5 None 2 ∷
      child 0 6 false (item DependInOutSet 0 ∷ []) 7 7 None 3 ∷
      child 0 8 false (item DependOut 0 ∷ []) 9 9 None 4 ∷ [];
}

-- two siblings that read and set one name
abbrev pub read_and_set : List Mark
read_and_set = Begins false (item DependIn 0 ∷ item DependInOutSet 0 ∷ []) ∷ Works 3 ∷ Ends ∷
    Begins false (item DependIn 0 ∷ item DependInOutSet 0 ∷ []) ∷ Works 3 ∷ Ends ∷ []

abbrev pub read_and_set_table : Table
read_and_set_table = record {
  segments = row 0 0 0 (Creates 1) 0 ∷ row 1 0 3 EndsTask 0 ∷ row 0 1 0 (Creates 2) 0 ∷
      row 2 0 3 EndsTask 0 ∷ row 0 2 0 EndsTask 0 ∷ [];
  tasks = root 4 ∷ child 0 0 false (item DependIn 0 ∷ item DependInOutSet 0 ∷ []) 1 1 None 0 ∷
      child 0 2 false (item DependIn 0 ∷ item DependInOutSet 0 ∷ []) 3 3 None 1 ∷ [];
}

-- an undeferred task that depends
abbrev pub undeferred_reader : List Mark
undeferred_reader = Begins false (item DependOut 0 ∷ []) ∷ Works 9 ∷ Ends ∷
    Begins true (item DependIn 0 ∷ []) ∷ Works 1 ∷ Ends ∷ Works 1 ∷ []

abbrev pub undeferred_reader_table : Table
undeferred_reader_table = record {
  segments = row 0 0 0 (Creates 1) 0 ∷ row 1 0 9 EndsTask 0 ∷ row 0 1 0 (Creates 2) 0 ∷
      row 2 0 1 EndsTask 0 ∷ row 0 2 1 EndsTask 0 ∷ [];
  tasks = root 4 ∷ child 0 0 false (item DependOut 0 ∷ []) 1 1 None 0 ∷
      child 0 2 true (item DependIn 0 ∷ []) 3 3 None 1 ∷ [];
}

-- an undeferred task with a child
abbrev pub undeferred_parent : List Mark
undeferred_parent =
    Begins true [] ∷ Begins false [] ∷ Works 8 ∷ Ends ∷ Works 1 ∷ Ends ∷ Works 2 ∷ []

abbrev pub undeferred_parent_table : Table
undeferred_parent_table = record {
  segments = row 0 0 0 (Creates 1) 0 ∷ row 1 0 0 (Creates 2) 0 ∷ row 2 0 8 EndsTask 0 ∷
      row 1 1 1 EndsTask 0 ∷ row 0 1 2 EndsTask 0 ∷ [];
  tasks = root 4 ∷ child 0 0 true [] 1 3 None 0 ∷ child 1 1 false [] 2 2 None 0 ∷ [];
}

-- a wait and a grandchild
abbrev pub waited_grandchild : List Mark
waited_grandchild = Begins false [] ∷ Begins false [] ∷ Works 8 ∷ Ends ∷ Ends ∷ Waits ∷ Works 2 ∷ []

abbrev pub waited_grandchild_table : Table
waited_grandchild_table = record {
  segments = row 0 0 0 (Creates 1) 0 ∷ row 1 0 0 (Creates 2) 0 ∷ row 2 0 8 EndsTask 0 ∷
      row 1 1 0 EndsTask 0 ∷ row 0 1 0 closings.Waits 0 ∷ row 0 2 2 EndsTask 0 ∷ [];
  tasks = root 5 ∷ child 0 0 false [] 1 3 None 0 ∷ child 1 1 false [] 2 2 None 0 ∷ [];
}

-- a group and a grandchild
abbrev pub grouped_grandchild : List Mark
grouped_grandchild =
    GroupBegins ∷ Begins false [] ∷ Begins false [] ∷ Works 8 ∷ Ends ∷ Ends ∷ GroupEnds ∷
    Works 2 ∷ []

abbrev pub grouped_grandchild_table : Table
grouped_grandchild_table = record {
  segments = row 0 0 0 (Creates 1) 0 ∷ row 1 0 0 (Creates 2) 0 ∷ row 2 0 8 EndsTask 0 ∷
      row 1 1 0 EndsTask 0 ∷ row 0 1 0 EndsGroup 0 ∷ row 0 2 2 EndsTask 0 ∷ [];
  tasks = root 5 ∷ child 0 0 false [] 1 3 (Some 5) 0 ∷ child 1 1 false [] 2 2 (Some 5) 0 ∷ [];
}

-- a child from before the group
abbrev pub before_group : List Mark
before_group = Begins false [] ∷ Works 7 ∷ Ends ∷ GroupBegins ∷ Begins false [] ∷ Works 1 ∷ Ends ∷
    GroupEnds ∷ Works 1 ∷ []

abbrev pub before_group_table : Table
before_group_table = record {
  segments = row 0 0 0 (Creates 1) 0 ∷ row 1 0 7 EndsTask 0 ∷ row 0 1 0 (Creates 2) 0 ∷
      row 2 0 1 EndsTask 0 ∷ row 0 2 0 EndsGroup 0 ∷ row 0 3 1 EndsTask 1 ∷ [];
  tasks = root 5 ∷ child 0 0 false [] 1 1 None 0 ∷ child 0 2 false [] 3 3 (Some 5) 1 ∷ [];
}

-- children of two parents
abbrev pub cousins : List Mark
cousins =
    Begins false [] ∷ Begins false (item DependOut 0 ∷ []) ∷ Works 5 ∷ Ends ∷ Ends ∷ Begins false []
    ∷
    Begins false (item DependIn 0 ∷ []) ∷ Works 5 ∷ Ends ∷ Ends ∷ []

abbrev pub cousins_table : Table
cousins_table = record {
  segments = row 0 0 0 (Creates 1) 0 ∷ row 1 0 0 (Creates 2) 0 ∷ row 2 0 5 EndsTask 0 ∷
      row 1 1 0 EndsTask 0 ∷ row 0 1 0 (Creates 3) 0 ∷ row 3 0 0 (Creates 4) 0
      ∷ row 4 0 5 EndsTask 0 ∷
      row 3 1 0 EndsTask 0 ∷ row 0 2 0 EndsTask 0 ∷ [];
  tasks =
      root 8 ∷ child 0 0 false [] 1 3 None 0 ∷ child 1 1 false (item DependOut 0 ∷ []) 2 2 None 0 ∷
      child 0 4 false [] 5 7 None 1 ∷ child 3 5 false (item DependIn 0 ∷ []) 6 6 None 0 ∷ [];
}

-- three siblings
abbrev pub three : List Mark
three =
    Begins false [] ∷ Works 1 ∷ Ends ∷ Begins false [] ∷ Works 1 ∷ Ends ∷ Begins false [] ∷ Works 2
    ∷
    Ends ∷ []

abbrev pub three_table : Table
three_table = record {
  segments = row 0 0 0 (Creates 1) 0 ∷ row 1 0 1 EndsTask 0 ∷ row 0 1 0 (Creates 2) 0 ∷
      row 2 0 1 EndsTask 0 ∷ row 0 2 0 (Creates 3) 0 ∷ row 3 0 2 EndsTask 0 ∷ row 0 3 0 EndsTask 0
      ∷ [];
  tasks = root 6 ∷ child 0 0 false [] 1 1 None 0 ∷ child 0 2 false [] 3 3 None 1 ∷
      child 0 4 false [] 5 5 None 2 ∷ [];
}

-- groups one inside another
abbrev pub nested_groups : List Mark
nested_groups =
    Begins false [] ∷ Ends ∷ GroupBegins ∷ Begins false [] ∷ GroupBegins ∷ Begins false [] ∷
    Ends ∷ GroupEnds ∷ Begins false [] ∷ Ends ∷ Waits ∷ Ends ∷ GroupBegins ∷ GroupEnds
    ∷ Begins false [] ∷
    Ends ∷ GroupEnds ∷ Begins false [] ∷ Ends ∷ []

abbrev pub nested_groups_table : Table
nested_groups_table = record {
  segments = row 0 0 0 (Creates 1) 0 ∷ row 1 0 0 EndsTask 0 ∷ row 0 1 0 (Creates 2) 0 ∷
      row 2 0 0 (Creates 3) 0 ∷ row 3 0 0 EndsTask 0 ∷ row 2 1 0 EndsGroup 0
      ∷ row 2 2 0 (Creates 4) 0 ∷
      row 4 0 0 EndsTask 0 ∷ row 2 3 0 closings.Waits 0 ∷ row 2 4 0 EndsTask 0
      ∷ row 0 2 0 EndsGroup 0 ∷
      row 0 3 0 (Creates 5) 2 ∷ row 5 0 0 EndsTask 0 ∷ row 0 4 0 EndsGroup 0
      ∷ row 0 5 0 (Creates 6) 1 ∷
      row 6 0 0 EndsTask 0 ∷ row 0 6 0 EndsTask 0 ∷ [];
  tasks = root 16 ∷ child 0 0 false [] 1 1 None 0 ∷ child 0 2 false [] 3 9 (Some 14) 1 ∷
      child 2 3 false [] 4 4 (Some 6) 0 ∷ child 2 6 false [] 7 7 (Some 14) 1 ∷
      child 0 11 false [] 12 12 (Some 14) 2 ∷ child 0 14 false [] 15 15 None 3 ∷ [];
}

pub record AreCutSo : Type 0 where
  pub empty_is : table_of empty ≡ empty_table
  pub worked_is : table_of worked_program ≡ worked_table
  pub unwaited_is : table_of worked_without_wait ≡ unwaited_table
  pub group_then_wait_is : table_of group_then_wait ≡ group_then_wait_table
  pub siblings_is : table_of siblings ≡ siblings_table
  pub read_and_set_is : table_of read_and_set ≡ read_and_set_table
  pub undeferred_reader_is : table_of undeferred_reader ≡ undeferred_reader_table
  pub undeferred_parent_is : table_of undeferred_parent ≡ undeferred_parent_table
  pub waited_grandchild_is : table_of waited_grandchild ≡ waited_grandchild_table
  pub grouped_grandchild_is : table_of grouped_grandchild ≡ grouped_grandchild_table
  pub before_group_is : table_of before_group ≡ before_group_table
  pub cousins_is : table_of cousins ≡ cousins_table
  pub three_is : table_of three ≡ three_table
  pub nested_groups_is : table_of nested_groups ≡ nested_groups_table

-- some of the pairs that these tables have and have not
pub record PrecedeSo : Type 0 where
  -- the child of the worked program goes before the segment after the wait
  pub waited : Wait worked_table 1 3
  -- a writer depends on each earlier reader; two members of one set do not depend on each other
  pub written_later : Dependence siblings_table 5 9
  pub of_one_set : TasksDepend siblings_table 1 2 → ⊥
  -- an undeferred task obeys its dependences, and its parent goes on after it alone
  pub undeferred_depends : Dependence undeferred_reader_table 1 3
  pub parent_resumes : Resumption undeferred_parent_table 3 4
  -- the end of a group waits for a grandchild, and not for a child from before the group
  pub grandchild : GroupEnd grouped_grandchild_table 2 5
  pub grouped : GroupEnd before_group_table 3 5
  -- children of two parents do not depend on each other
  pub apart : TasksDepend cousins_table 2 4 → ⊥
