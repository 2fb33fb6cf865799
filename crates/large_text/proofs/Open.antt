-- Which blocks are open behind the marks, whatever token comes.
use Rattle.std.proofs.Common.{ℕ, Bool, List, [], ◌∷◌, ◌++◌, append_assoc}
use Rattle.std.proofs.Common.{sym, subst, codes}
use Rattle.program_text.specs.declared.statement.Item.{Item}
use Rattle.program_text.specs.declared.statement.DependKind.{DependKind}
use Rattle.program_text.specs.Marks.{Mark}
use Rattle.program_text.specs.Marks.Mark.{Begins, Ends, Works, Waits, GroupBegins, GroupEnds}
use Rattle.program_text.specs.Words.{is_text, value_of}
use Rattle.program_text.proofs.Bools.{bool_cases}
use Rattle.task_program.specs.declared.place.Place.{Place}
use Rattle.task_program.specs.declared.place.Place.TheVariants.{Statement, WorkNumber, GroupBrace}
use Rattle.task_program.specs.declared.place.Place.TheVariants.{Clause, DependMore}
use Rattle.task_program.specs.Faults.{State, after_at}
use Rattle.task_program.specs.Nested.{IsNested}
use Rattle.task_program.specs.Nested.IsNested.{Nothing, Work, Wait, Task, Group}
use Rattle.task_program.specs.TreeSoFar.{Block, TreeSoFar, after_end_of}
use Rattle.task_program.specs.TreeSoFar.Block.{TaskBlock, GroupBlock}
use Rattle.large_text.specs.LoopMarked.{AreOpen}
use Rattle.large_text.specs.LoopMarked.AreOpen.{NoneOpen, InTask, InGroup}

pub none_open : (marks : List Mark) → AreOpen [] marks → IsNested marks
none_open _ (NoneOpen marks h) = h

-- nested marks, and others behind them
nested_more : (xs ys : List Mark) → IsNested xs → IsNested ys → IsNested (xs ++ ys)
nested_more _ ys Nothing h = h
nested_more _ ys (Work cost rest g) h = Work cost (rest ++ ys) (nested_more rest ys g h)
nested_more _ ys (Wait rest g) h = Wait (rest ++ ys) (nested_more rest ys g h)
nested_more _ ys (Task undeferred items body rest g r) h =
    subst (λ (ms : List Mark). IsNested (Begins undeferred items ∷ ms))
    (sym (append_assoc body (Ends ∷ rest) ys))
    (Task undeferred items body (rest ++ ys) g (nested_more rest ys r h))
nested_more _ ys (Group body rest g r) h =
    subst (λ (ms : List Mark). IsNested (GroupBegins ∷ ms))
    (sym (append_assoc body (GroupEnds ∷ rest) ys))
    (Group body (rest ++ ys) g (nested_more rest ys r h))

-- the same blocks are open behind nested marks more
pub open_more : (blocks : List Block) (marks more : List Mark)
    → AreOpen blocks marks
    → IsNested more
    → AreOpen blocks (marks ++ more)
open_more _ _ more (NoneOpen marks g) h = NoneOpen (marks ++ more) (nested_more marks more g h)
open_more _ _ more (InTask line blocks before undeferred items inner o g) h =
    subst (AreOpen (TaskBlock line ∷ blocks))
    (sym (append_assoc before (Begins undeferred items ∷ inner) more))
    (InTask line blocks before undeferred items (inner ++ more) o (nested_more inner more g h))
open_more _ _ more (InGroup line blocks before inner o g) h =
    subst (AreOpen (GroupBlock line ∷ blocks))
    (sym (append_assoc before (GroupBegins ∷ inner) more))
    (InGroup line blocks before (inner ++ more) o (nested_more inner more g h))

one_task : (undeferred : Bool) (items : List Item) (inner : List Mark)
    → IsNested inner
    → IsNested (Begins undeferred items ∷ (inner ++ Ends ∷ []))
one_task undeferred items inner g = Task undeferred items inner [] g Nothing

one_group : (inner : List Mark) → IsNested inner
    → IsNested (GroupBegins ∷ (inner ++ GroupEnds ∷ []))
one_group inner g = Group inner [] g Nothing

abbrev pub TreeOpen : TreeSoFar → Type 0
TreeOpen tree = AreOpen tree.blocks tree.marks

-- the innermost block ends
pub open_ends : (blocks : List Block) (marks : List Mark)
    → AreOpen blocks marks
    → TreeOpen (after_end_of blocks marks)
open_ends _ _ (NoneOpen marks g) = NoneOpen marks g
open_ends _ _ (InTask line blocks before undeferred items inner o g) =
    subst (AreOpen blocks) (sym (append_assoc before (Begins undeferred items ∷ inner) (Ends ∷ [])))
    (open_more blocks before (Begins undeferred items ∷ (inner ++ Ends ∷ [])) o
    (one_task undeferred items inner g))
open_ends _ _ (InGroup line blocks before inner o g) =
    subst (AreOpen blocks) (sym (append_assoc before (GroupBegins ∷ inner) (GroupEnds ∷ [])))
    (open_more blocks before (GroupBegins ∷ (inner ++ GroupEnds ∷ [])) o (one_group inner g))

abbrev pub StaysOpen : Place → State → List ℕ → ℕ → Type 0
StaysOpen place state text line =
    TreeOpen state.tree → TreeOpen (after_at place state text line).tree

statement_open : (state : State) (text : List ℕ) (line : ℕ) → StaysOpen Statement state text line
statement_open state text line h =
    bool_cases (is_text text (codes "work"))
    (λ work. rw work h)
    (λ no_work. bool_cases (is_text text (codes "task"))
    (λ task. rw (no_work, task) h)
    (λ no_task. bool_cases (is_text text (codes "taskwait"))
    (λ wait. rw (no_work, no_task, wait)
    (open_more state.tree.blocks state.tree.marks (Waits ∷ []) h (Wait [] Nothing)))
    (λ no_wait. bool_cases (is_text text (codes "taskgroup"))
    (λ group. rw (no_work, no_task, no_wait, group) h)
    (λ no_group. rw (no_work, no_task, no_wait, no_group)
    (open_ends state.tree.blocks state.tree.marks h)))))

clause_open : (state : State) (text : List ℕ) (line : ℕ) → StaysOpen Clause state text line
clause_open state text line h =
    bool_cases (is_text text (codes "{"))
    (λ brace. rw brace (InTask line state.tree.blocks state.tree.marks state.head.undeferred
    state.head.items [] h Nothing))
    (λ no_brace. bool_cases (is_text text (codes "if"))
    (λ if_word. rw (no_brace, if_word) h)
    (λ no_if. rw (no_brace, no_if) h))

more_open : (kind : DependKind) (state : State) (text : List ℕ) (line : ℕ)
    → StaysOpen (DependMore kind) state text line
more_open kind state text line h =
    bool_cases (is_text text (codes ","))
    (λ comma. rw comma h)
    (λ other. rw other h)

-- at every place
pub place_open : (place : Place) (state : State) (text : List ℕ) (line : ℕ)
    → StaysOpen place state text line
place_open Statement state text line h = statement_open state text line h
place_open Clause state text line h = clause_open state text line h
place_open (DependMore kind) state text line h = more_open kind state text line h
place_open WorkNumber state text line h =
    open_more state.tree.blocks state.tree.marks (Works (value_of text) ∷ []) h
    (Work (value_of text) [] Nothing)
place_open GroupBrace state text line h =
    InGroup line state.tree.blocks state.tree.marks [] h Nothing
place_open _ state text line h = h
