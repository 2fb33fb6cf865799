-- What a tree expands to ends each block that it begins.
use Rattle.std.proofs.Common.{◌≡◌, ℕ, ◌<◌, Bool, ◌||◌, List, [], ◌∷◌, ◌++◌, length, map, Ok, refl}
use Rattle.std.proofs.Common.{sym, ap, subst, ◌∙◌, arith, append_assoc}
use Rattle.std.proofs.lemmas.List.{append-nil}
use Rattle.std.proofs.lemmas.List.Sums.{fold-append}
use Rattle.program_text.specs.declared.statement.Item.{Item}
use Rattle.loop_text.specs.declared.loops.LoopItem.{LoopItem}
use Rattle.loop_text.specs.declared.loops.LoopTask.{LoopTask}
use Rattle.loop_text.specs.Loops.{Tree}
use Rattle.loop_text.specs.Loops.Tree.{NoStatement, ThenWork, ThenWait, ThenGroup, ThenTask}
use Rattle.loop_text.specs.Loops.Tree.{ThenFor}
use Rattle.program_text.specs.Marks.{Mark}
use Rattle.program_text.specs.Marks.Mark.{Begins, Ends, Works, Waits, GroupBegins, GroupEnds}
use Rattle.task_program.specs.Nested.{IsNested}
use Rattle.task_program.specs.Nested.IsNested.{Nothing, Work, Wait, Task, Group}
use Rattle.task_program.specs.TreeSoFar.{Block, TreeSoFar, after_end_of, end_mark_of}
use Rattle.task_program.specs.TreeSoFar.Block.{TaskBlock, GroupBlock}
use Rattle.task_program.specs.Expansion.{Piece, expansion, item_comes, task_pieces, turns_of}
use Rattle.task_program.specs.Expansion.{values_between}
use Rattle.task_program.specs.Expansion.Piece.{TurnBegins, TaskOpens, GroupComes}
use Rattle.task_program.specs.Expansion.Piece.{GroupOpens, BlockEnds, WorkIs, WaitIs}
use Rattle.task_program.specs.Expanded.{ExpansionState, after_piece, after_pieces}
use Rattle.task_program.specs.SecondPass.{PieceTest, take_pieces_by}
use Rattle.task_program.proofs.KeptNames.{taken_is}

pub nested_both : (marks more : List Mark) → IsNested marks → IsNested more → IsNested (marks ++ more)
nested_both _ more Nothing g = g
nested_both _ more (Work cost rest h) g = Work cost (rest ++ more) (nested_both rest more h g)
nested_both _ more (Wait rest h) g = Wait (rest ++ more) (nested_both rest more h g)
nested_both _ more (Task undeferred items body rest inside h) g =
    subst (λ (ms : List Mark). IsNested (Begins undeferred items ∷ ms))
    (sym (append_assoc body (Ends ∷ rest) more))
    (Task undeferred items body (rest ++ more) inside (nested_both rest more h g))
nested_both _ more (Group body rest inside h) g =
    subst (λ (ms : List Mark). IsNested (GroupBegins ∷ ms))
    (sym (append_assoc body (GroupEnds ∷ rest) more))
    (Group body (rest ++ more) inside (nested_both rest more h g))

-- between two states nested marks came, and the same blocks are open
pub record Adds (before after : ExpansionState) : Type 0 where
  pub more : List Mark
  pub blocks_are : after.tree.blocks ≡ before.tree.blocks
  pub marks_are : after.tree.marks ≡ before.tree.marks ++ more
  pub nested : IsNested more

adds_none : (state : ExpansionState) → Adds state state
adds_none state = record {
  more = [];
  blocks_are = refl;
  marks_are = sym (append-nil state.tree.marks);
  nested = Nothing;
}

adds_then : (first second third : ExpansionState)
    → Adds first second
    → Adds second third
    → Adds first third
adds_then first second third h g = record {
  more = h.more ++ g.more;
  blocks_are = g.blocks_are ∙ h.blocks_are;
  marks_are = g.marks_are
      ∙ ap (λ (ms : List Mark). ms ++ g.more) h.marks_are
      ∙ append_assoc first.tree.marks h.more g.more;
  nested = nested_both h.more g.more h.nested g.nested;
}

-- after some pieces and then others
adds_pieces : (state : ExpansionState) (one other : List Piece)
    → Adds state (after_pieces state one)
    → Adds (after_pieces state one) (after_pieces (after_pieces state one) other)
    → Adds state (after_pieces state (one ++ other))
adds_pieces state one other h g =
    subst (λ (s : ExpansionState). Adds state s) (sym (fold-append after_piece state one other))
    (adds_then state (after_pieces state one) (after_pieces (after_pieces state one) other) h g)

one_mark : (state next : ExpansionState) (mark : Mark)
    → next.tree.blocks ≡ state.tree.blocks
    → next.tree.marks ≡ state.tree.marks ++ mark ∷ []
    → IsNested (mark ∷ [])
    → Adds state next
one_mark state next mark same is nested = record {
  more = mark ∷ [];
  blocks_are = same;
  marks_are = is;
  nested = nested;
}

-- behind the `{` of a block
pub record Opens (state next : ExpansionState) (block : Block) (mark : Mark) : Type 0 where
  pub blocks_are : next.tree.blocks ≡ block ∷ state.tree.blocks
  pub marks_are : next.tree.marks ≡ state.tree.marks ++ mark ∷ []

ends_block : (state : ExpansionState) (block : Block) (blocks : List Block)
    → state.tree.blocks ≡ block ∷ blocks
    → (after_piece state BlockEnds).tree
    ≡ record { blocks = blocks; marks = state.tree.marks ++ end_mark_of block ∷ [] }
ends_block state block blocks is = ap (λ (bs : List Block). after_end_of bs state.tree.marks) is

abbrev blocks_of : TreeSoFar → List Block
blocks_of tree = tree.blocks

abbrev marks_in : TreeSoFar → List Mark
marks_in tree = tree.marks

-- a block with what stands in it
adds_block : (state opened inside : ExpansionState) (block : Block) (mark : Mark)
    → Opens state opened block mark
    → Adds opened inside
    → ((body : List Mark) → IsNested body → IsNested (mark ∷ (body ++ end_mark_of block ∷ [])))
    → Adds state (after_piece inside BlockEnds)
adds_block state opened inside block mark o h nests =
    let tree = ends_block inside block state.tree.blocks (h.blocks_are ∙ o.blocks_are) in
    let before : List Mark = state.tree.marks in
    let last : List Mark = end_mark_of block ∷ [] in
    record {
      more = mark ∷ (h.more ++ last);
      blocks_are = ap blocks_of tree;
      marks_are = ap marks_in tree
          ∙ ap (λ (ms : List Mark). ms ++ last)
          (h.marks_are ∙ ap (λ (ms : List Mark). ms ++ h.more) o.marks_are)
          ∙ ap (λ (ms : List Mark). ms ++ last) (append_assoc before (mark ∷ []) h.more)
          ∙ append_assoc before (mark ∷ h.more) last;
      nested = nests h.more h.nested;
    }

abbrev Expands : Tree → Type 0
Expands tree =
    (values : List ℕ) (in_final : Bool) (state : ExpansionState)
    → Adds state (after_pieces state (expansion values in_final tree))

-- the block behind these pieces, with what it has inside
block_expands : (state : ExpansionState) (front inside : List Piece) (block : Block) (mark : Mark)
    → Opens state (after_pieces state front) block mark
    → Adds (after_pieces state front) (after_pieces (after_pieces state front) inside)
    → ((body : List Mark) → IsNested body → IsNested (mark ∷ (body ++ end_mark_of block ∷ [])))
    → Adds state (after_pieces state (front ++ (inside ++ BlockEnds ∷ [])))
block_expands state front inside block mark o h nests =
    let opened : ExpansionState = after_pieces state front in
    subst (λ (s : ExpansionState). Adds state s)
    (sym (fold-append after_piece state front (inside ++ BlockEnds ∷ [])
    ∙ fold-append after_piece opened inside (BlockEnds ∷ [])))
    (adds_block state opened (after_pieces opened inside) block mark o h nests)

-- items change no tree
items_tree : (values : List ℕ) (items : List LoopItem) (state : ExpansionState)
    → (after_pieces state (map (item_comes values) items)).tree ≡ state.tree
items_tree values [] state = refl
items_tree values (item ∷ items) state =
    items_tree values items (after_piece state (item_comes values item))

pub task_opens : (values : List ℕ) (in_final : Bool) (task : LoopTask) (state : ExpansionState)
    → (items : List Item)
    × Opens state (after_pieces state (task_pieces values in_final task)) (TaskBlock task.brace_line)
    (Begins (task.undeferred || in_final) items)
task_opens values in_final task state =
    let pieces : List Piece = map (item_comes values) task.items in
    let last : Piece = TaskOpens (task.undeferred || in_final) task.brace_line in
    let whole = fold-append after_piece state pieces (last ∷ []) in
    let tree = items_tree values task.items state in
    let items : List Item = (after_pieces state pieces).items in (
      items,
      record {
        blocks_are = ap (λ (s : ExpansionState). s.tree.blocks) whole
            ∙ ap (λ (t : TreeSoFar). TaskBlock task.brace_line ∷ t.blocks) tree;
        marks_are = ap (λ (s : ExpansionState). s.tree.marks) whole
            ∙ ap
            (λ (t : TreeSoFar). t.marks ++ Begins (task.undeferred || in_final) items ∷ [])
            tree;
      },
    )

turns_expand : (body : Tree)
    → Expands body
    → (numbers values : List ℕ) (in_final : Bool) (line : ℕ) (state : ExpansionState)
    → Adds state (after_pieces state (turns_of values in_final line body numbers))
turns_expand body each [] values in_final line state = adds_none state
turns_expand body each (n ∷ numbers) values in_final line state =
    let begun : ExpansionState = after_piece state (TurnBegins line) in
    let one : List Piece = expansion (n ∷ values) in_final body in
    let later : List Piece = turns_of values in_final line body numbers in
    let first : Adds state begun = record {
      more = [];
      blocks_are = refl;
      marks_are = sym (append-nil state.tree.marks);
      nested = Nothing;
    } in
    adds_then state begun (after_pieces begun (one ++ later)) first (adds_pieces begun one later
    (each (n ∷ values) in_final begun)
    (turns_expand body each numbers values in_final line (after_pieces begun one)))

-- a tree adds nested marks
pub tree_adds : (tree : Tree) → Expands tree
unfolding expansion
tree_adds NoStatement values in_final state = adds_none state
tree_adds (ThenWork before cost line) values in_final state =
    let outer : List Piece = expansion values in_final before in
    let middle : ExpansionState = after_pieces state outer in
    adds_pieces state outer (WorkIs cost line ∷ []) (tree_adds before values in_final state)
    (one_mark middle (after_piece middle (WorkIs cost line)) (Works cost) refl refl
    (Work cost [] Nothing))
tree_adds (ThenWait before line) values in_final state =
    let outer : List Piece = expansion values in_final before in
    let middle : ExpansionState = after_pieces state outer in
    adds_pieces state outer (WaitIs line ∷ []) (tree_adds before values in_final state)
    (one_mark middle (after_piece middle (WaitIs line)) Waits refl refl (Wait [] Nothing))
tree_adds (ThenGroup before line brace_line body) values in_final state =
    let outer : List Piece = expansion values in_final before in
    let front : List Piece = GroupComes line ∷ GroupOpens brace_line ∷ [] in
    let inside : List Piece = expansion values in_final body in
    let middle : ExpansionState = after_pieces state outer in
    adds_pieces state outer (front ++ (inside ++ BlockEnds ∷ []))
    (tree_adds before values in_final state)
    (block_expands middle front inside (GroupBlock brace_line) GroupBegins
    (record { blocks_are = refl; marks_are = refl })
    (tree_adds body values in_final (after_pieces middle front))
    (λ marks nested. Group marks [] nested Nothing))
tree_adds (ThenTask before task body) values in_final state =
    let outer : List Piece = expansion values in_final before in
    let front : List Piece = task_pieces values in_final task in
    let inside : List Piece = expansion values (task.is_final || in_final) body in
    let middle : ExpansionState = after_pieces state outer in
    let opened = task_opens values in_final task middle in
    adds_pieces state outer (front ++ (inside ++ BlockEnds ∷ []))
    (tree_adds before values in_final state)
    (block_expands middle front inside (TaskBlock task.brace_line)
    (Begins (task.undeferred || in_final) opened.0) opened.1
    (tree_adds body values (task.is_final || in_final) (after_pieces middle front))
    (λ marks nested. Task (task.undeferred || in_final) opened.0 marks [] nested Nothing))
tree_adds (ThenFor before from to line body) values in_final state =
    let outer : List Piece = expansion values in_final before in
    adds_pieces state outer (turns_of values in_final line body (values_between from to))
    (tree_adds before values in_final state)
    (turns_expand body (tree_adds body) (values_between from to) values in_final line
    (after_pieces state outer))

-- ---- what is taken

pub blocks_kept : (test : PieceTest) (values : List ℕ) (in_final : Bool) (tree : Tree)
    (state next : ExpansionState)
    → take_pieces_by test state (expansion values in_final tree) ≡ Ok next
    → next.tree.blocks ≡ state.tree.blocks
blocks_kept test values in_final tree state next h =
    ap (λ (s : ExpansionState). s.tree.blocks)
    (taken_is test (expansion values in_final tree) state next h)
    ∙ (tree_adds tree values in_final state).blocks_are

pub in_group : (test : PieceTest) (line brace_line : ℕ) (state next : ExpansionState)
    → take_pieces_by test state (GroupComes line ∷ GroupOpens brace_line ∷ []) ≡ Ok next
    → 0 < length next.tree.blocks
in_group test line brace_line state next h =
    let is = ap (λ (s : ExpansionState). length s.tree.blocks)
    (taken_is test (GroupComes line ∷ GroupOpens brace_line ∷ []) state next h) in
    omega (arith, is)

pub in_task : (test : PieceTest) (values : List ℕ) (in_final : Bool) (task : LoopTask)
    (state next : ExpansionState)
    → take_pieces_by test state (task_pieces values in_final task) ≡ Ok next
    → 0 < length next.tree.blocks
in_task test values in_final task state next h =
    let is = ap (λ (s : ExpansionState). length s.tree.blocks)
    (taken_is test (task_pieces values in_final task) state next h) in
    let opened = ap (λ (bs : List Block). length bs)
    (task_opens values in_final task state).1.blocks_are in
    omega (arith, is, opened)
