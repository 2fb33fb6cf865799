-- The first pass over a text of version 2: the tokens after the header, from left to right, to a
-- tree with loops.
use Rattle.std.specs.Prelude.{ℕ, Bool, true, false, not, ◌&&◌, ◌||◌, ◌==◌, nat_lt, nat_le}
use Rattle.std.specs.Prelude.{if◌then◌else◌, List, [], ◌∷◌, ◌++◌, length, Option, Some, None}
use Rattle.std.specs.Prelude.{Result, Ok, Err, codes}
use Rattle.std.specs.List.{list_any}
use Rattle.std.specs.Str.{bytes_eq}
use Rattle.program_text.specs.declared.fault.ReadKind.{ReadKind}
use Rattle.program_text.specs.declared.fault.ReadKind.TheVariants.{BadWord, BadNumber}
use Rattle.program_text.specs.declared.fault.ReadKind.TheVariants.{Unclosed, Unopened, TooDeep}
use Rattle.program_text.specs.declared.fault.ReadFault.{ReadFault}
use Rattle.loop_text.specs.declared.loop_place.LoopPlace.{LoopPlace}
use Rattle.loop_text.specs.declared.loop_place.LoopPlace.TheVariants.{Statement, WorkNumber}
use Rattle.loop_text.specs.declared.loop_place.LoopPlace.TheVariants.{GroupBrace, ForVariable}
use Rattle.loop_text.specs.declared.loop_place.LoopPlace.TheVariants.{ForFrom, ForTo, ForBrace}
use Rattle.loop_text.specs.declared.loop_place.LoopPlace.TheVariants.{Clause, IfOpens, IfNumber}
use Rattle.loop_text.specs.declared.loop_place.LoopPlace.TheVariants.{IfCloses, FinalOpens}
use Rattle.loop_text.specs.declared.loop_place.LoopPlace.TheVariants.{FinalNumber, FinalCloses}
use Rattle.loop_text.specs.declared.loop_place.LoopPlace.TheVariants.{DependOpens, DependType}
use Rattle.loop_text.specs.declared.loop_place.LoopPlace.TheVariants.{DependColon, DependName}
use Rattle.loop_text.specs.declared.loop_place.LoopPlace.TheVariants.{Subscript, IndexStart}
use Rattle.loop_text.specs.declared.loop_place.LoopPlace.TheVariants.{IndexNumber, IndexSign}
use Rattle.loop_text.specs.declared.loop_place.LoopPlace.TheVariants.{IndexCloses, DependMore}
use Rattle.program_text.specs.declared.statement.DependKind.{DependKind}
use Rattle.program_text.specs.declared.limits.TheConstants.{MOST_NESTING}
use Rattle.program_text.specs.declared.limits.TheConstants.{LARGEST_COST, LARGEST_BOUND}
use Rattle.program_text.specs.Tokens.{Token}
use Rattle.program_text.specs.Words.{is_text, is_word}
use Rattle.program_text.specs.Words.{is_number, value_of, is_type, is_statement_word, type_of}
use Rattle.loop_text.specs.declared.loops.Index.{Index}
use Rattle.loop_text.specs.declared.loops.LoopTask.{LoopTask}
use Rattle.loop_text.specs.declared.loop_reader.LoopHead.{LoopHead}
use Rattle.loop_text.specs.declared.loop_reader.Pending.{Pending}
use Rattle.loop_text.specs.declared.loop_reader.Bounds.{Bounds}
use Rattle.loop_text.specs.declared.open_loops.LoopOpening.{LoopOpening}
use Rattle.loop_text.specs.declared.open_loops.LoopOpening.TheVariants.{TaskOpening, GroupOpening}
use Rattle.loop_text.specs.declared.open_loops.LoopOpening.TheVariants.{ForOpening}
use Rattle.loop_text.specs.declared.open_loops.LoopBlock.{LoopBlock}
use Rattle.loop_text.specs.OpenBlocks as loops
use Rattle.loop_text.specs.OpenBlocks.{OpenBlocks, with_open_block, without_innermost, brace_of}
use Rattle.loop_text.specs.OpenBlocks.{variables_of, variable_number}
use Rattle.loop_text.specs.Loops.{Tree}
use Rattle.loop_text.specs.Parts.{no_clauses, step_of}
use Rattle.loop_text.specs.LoopTokens.{is_plus_or_minus, form_fault}
use Rattle.loop_text.specs.Loops.Tree.{NoStatement, ThenWork, ThenWait}

-- ---- what was read

-- Where the reading stands, and what was read: the line of the word with which the statement
-- begins, its parts, the open blocks, the innermost first, and the statements of the innermost.
pub record State : Type 0 where
  pub place : LoopPlace
  pub word_line : ℕ
  pub head : LoopHead
  pub pending : Pending
  pub bounds : Bounds
  pub tree : OpenBlocks

abbrev pub is_variable : List LoopBlock → List ℕ → Bool
is_variable blocks text = list_any (bytes_eq text) (variables_of blocks)

-- ---- which tokens the grammar allows

abbrev pub is_clause_word : LoopHead → List ℕ → Bool
is_clause_word head text = is_text text (codes "depend")
    || ((is_text text (codes "if") && not head.has_if)
    || (is_text text (codes "final") && not head.has_final))

abbrev pub ends_item : List ℕ → Bool
ends_item text = is_text text (codes ",") || is_text text (codes ")")

abbrev pub is_allowed : LoopPlace → LoopHead → List LoopBlock → List ℕ → Bool
is_allowed Statement head blocks text =
    (is_statement_word text || is_text text (codes "for")) || is_text text (codes "}")
is_allowed WorkNumber head blocks text = is_number text
is_allowed GroupBrace head blocks text = is_text text (codes "{")
is_allowed ForVariable head blocks text = is_word text && not (is_variable blocks text)
is_allowed ForFrom head blocks text = is_number text
is_allowed ForTo head blocks text = is_number text
is_allowed ForBrace head blocks text = is_text text (codes "{")
is_allowed Clause head blocks text = is_text text (codes "{") || is_clause_word head text
is_allowed IfOpens head blocks text = is_text text (codes "(")
is_allowed IfNumber head blocks text = is_number text
is_allowed IfCloses head blocks text = is_text text (codes ")")
is_allowed FinalOpens head blocks text = is_text text (codes "(")
is_allowed FinalNumber head blocks text = is_number text
is_allowed FinalCloses head blocks text = is_text text (codes ")")
is_allowed DependOpens head blocks text = is_text text (codes "(")
is_allowed DependType head blocks text = is_type text
is_allowed (DependColon kind) head blocks text = is_text text (codes ":")
is_allowed (DependName kind) head blocks text = is_word text
is_allowed (Subscript kind) head blocks text = is_text text (codes "[") || ends_item text
is_allowed (IndexStart kind) head blocks text =
    is_number text || (is_text text (codes "-") || (is_word text && is_variable blocks text))
is_allowed (IndexNumber kind) head blocks text = is_number text
is_allowed (IndexSign kind) head blocks text = is_plus_or_minus text || is_text text (codes "]")
is_allowed (IndexCloses kind) head blocks text = is_text text (codes "]")
is_allowed (DependMore kind) head blocks text = ends_item text

abbrev pub closes_nothing : LoopPlace → List LoopBlock → List ℕ → Bool
closes_nothing Statement [] text = is_text text (codes "}")
closes_nothing _ _ text = false

abbrev pub is_number_too_large : LoopPlace → List ℕ → Bool
is_number_too_large WorkNumber text = nat_lt LARGEST_COST (value_of text)
is_number_too_large ForFrom text = nat_lt LARGEST_BOUND (value_of text)
is_number_too_large ForTo text = nat_lt LARGEST_BOUND (value_of text)
is_number_too_large IfNumber text = nat_lt 1 (value_of text)
is_number_too_large FinalNumber text = nat_lt 1 (value_of text)
is_number_too_large _ text = false

-- a block more than may be open; loops count too
abbrev pub nests_too_deep : LoopPlace → List LoopBlock → List ℕ → Bool
nests_too_deep GroupBrace blocks text = nat_le MOST_NESTING (length blocks)
nests_too_deep ForBrace blocks text = nat_le MOST_NESTING (length blocks)
nests_too_deep Clause blocks text = is_text text (codes "{") && nat_le MOST_NESTING (length blocks)
nests_too_deep _ blocks text = false

-- ---- the table of faults, in its order: the first test that holds

abbrev pub place_fault : State → List ℕ → Option ReadKind
place_fault state text =
    if closes_nothing state.place state.tree.blocks text then Some Unopened
    else (if not (is_allowed state.place state.head state.tree.blocks text) then Some BadWord
    else (if is_number_too_large state.place text then Some BadNumber
    else (if nests_too_deep state.place state.tree.blocks text then Some TooDeep
    else None)))

-- ---- where a token leads

abbrev pub no_index : Index
no_index = record { variable = None; is_minus = false; by = 0; line = 0 }

abbrev pub nothing_pending : Pending
nothing_pending = record { name = []; line = 0; index = no_index }

abbrev pub no_bounds : Bounds
no_bounds = record { variable = []; from = 0; to = 0 }

abbrev pub at : State → LoopPlace → State
at state place = record state { place = place }

-- these statements stand in the innermost block, and a statement comes
abbrev pub with_statements : State → Tree → State
with_statements state
    statements = record state {
      place = Statement;
      tree = loops.with_statements state.tree statements;
    }

-- a block opens
abbrev pub after_opening : State → LoopOpening → State
after_opening state
    opening = record state {
      place = Statement;
      word_line = 0;
      tree = with_open_block state.tree opening;
    }

abbrev pub after_closing : State → State
after_closing state = record state { place = Statement; tree = without_innermost state.tree }

abbrev pub with_item : State → DependKind → Option Index → State
with_item state kind index = record state {
  head = record state.head {
    items = state.head.items
        ++ record {
          kind = kind;
          name = state.pending.name;
          line = state.pending.line;
          index = index;
        }
        ∷ [];
  };
  pending = nothing_pending;
}

abbrev pub with_index : State → Index → State
with_index state index = record state { pending = record state.pending { index = index } }

-- after the first token of an index
abbrev pub after_index_start : State → DependKind → List ℕ → ℕ → State
after_index_start state kind text line =
    if is_number text
    then at
    (with_index state
    (record { variable = None; is_minus = false; by = step_of text; line = line }))
    (IndexCloses kind)
    else (if is_text text (codes "-")
    then at (with_index state (record { variable = None; is_minus = true; by = 0; line = line }))
    (IndexNumber kind)
    else at
    (with_index state (record {
      variable = variable_number (variables_of state.tree.blocks) text;
      is_minus = false;
      by = 0;
      line = line;
    }))
    (IndexSign kind))

-- after an item, a `,` or `)`
abbrev pub after_item : State → DependKind → List ℕ → State
after_item state kind text =
    if is_text text (codes ",") then at state (DependName kind) else at state Clause

abbrev pub after_statement : State → List ℕ → ℕ → State
after_statement state text line =
    if is_text text (codes "work") then at state WorkNumber
    else (if is_text text (codes "task") then at (record state { word_line = line }) Clause
    else (if is_text text (codes "taskwait")
    then with_statements state (ThenWait state.tree.statements line)
    else (if is_text text (codes "taskgroup") then at (record state { word_line = line }) GroupBrace
    else (if is_text text (codes "for") then at (record state { word_line = line }) ForVariable
    else after_closing state))))

abbrev pub task_of : State → ℕ → LoopTask
task_of state
    line = record {
      undeferred = state.head.undeferred;
      is_final = state.head.is_final;
      items = state.head.items;
      line = state.word_line;
      brace_line = line;
    }

abbrev pub after_clause : State → List ℕ → ℕ → State
after_clause state text line =
    if is_text text (codes "{")
    then record (after_opening state (TaskOpening (task_of state line))) { head = no_clauses }
    else (if is_text text (codes "if") then at state IfOpens
    else (if is_text text (codes "final") then at state FinalOpens
    else at state DependOpens))

abbrev pub after_at : LoopPlace → State → List ℕ → ℕ → State
after_at Statement state text line = after_statement state text line
after_at WorkNumber state text line =
    with_statements state (ThenWork state.tree.statements (value_of text) line)
after_at GroupBrace state text line = after_opening state (GroupOpening state.word_line line)
after_at ForVariable state text line =
    at (record state { bounds = record state.bounds { variable = text } }) ForFrom
after_at ForFrom state text line =
    at (record state { bounds = record state.bounds { from = value_of text } }) ForTo
after_at ForTo state text line =
    at (record state { bounds = record state.bounds { to = value_of text } }) ForBrace
after_at ForBrace state text
    line = record (after_opening
    state
    (ForOpening state.bounds.variable state.bounds.from state.bounds.to state.word_line line)) {
      bounds = no_bounds;
    }
after_at Clause state text line = after_clause state text line
after_at IfOpens state text line = at state IfNumber
after_at IfNumber state text line =
    at
    (record state { head = record state.head { has_if = true; undeferred = value_of text == 0 } })
    IfCloses
after_at IfCloses state text line = at state Clause
after_at FinalOpens state text line = at state FinalNumber
after_at FinalNumber state text line =
    at
    (record state { head = record state.head { has_final = true; is_final = value_of text == 1 } })
    FinalCloses
after_at FinalCloses state text line = at state Clause
after_at DependOpens state text line = at state DependType
after_at DependType state text line = at state (DependColon (type_of text))
after_at (DependColon kind) state text line = at state (DependName kind)
after_at (DependName kind) state text line =
    at (record state { pending = record { name = text; line = line; index = no_index } })
    (Subscript kind)
after_at (Subscript kind) state text line =
    if is_text text (codes "[")
    then at state (IndexStart kind)
    else after_item (with_item state kind None) kind text
after_at (IndexStart kind) state text line = after_index_start state kind text line
after_at (IndexNumber kind) state text line =
    at (with_index state (record state.pending.index { by = step_of text })) (IndexCloses kind)
after_at (IndexSign kind) state text line =
    if is_text text (codes "]")
    then at (with_item state kind (Some state.pending.index)) (DependMore kind)
    else at (with_index state (record state.pending.index { is_minus = is_text text (codes "-") }))
    (IndexNumber kind)
after_at (IndexCloses kind) state text line =
    at (with_item state kind (Some state.pending.index)) (DependMore kind)
after_at (DependMore kind) state text line = after_item state kind text

abbrev pub unless_fault : Option ReadKind → ℕ → Result State ReadFault → Result State ReadFault
unless_fault (Some kind) line next = Err (record { kind = kind; line = line })
unless_fault None line next = next

-- a block opens, unless too many are open
abbrev pub open_step : State → LoopOpening → Token → Result State ReadFault
open_step state opening token =
    unless_fault (if nat_le MOST_NESTING (length state.tree.blocks) then Some TooDeep else None)
    token.line (Ok (after_opening state opening))

-- a number up to this
abbrev pub number_up_to : (most : ℕ) → Token → Result ℕ ReadFault
number_up_to most token =
    if not (is_number token.text) then Err (record { kind = BadWord; line = token.line })
    else (if nat_lt most (value_of token.text)
    then Err (record { kind = BadNumber; line = token.line })
    else Ok (value_of token.text))

abbrev pub bound_of : Token → Result ℕ ReadFault
bound_of token = number_up_to LARGEST_BOUND token

abbrev pub zero_or_one_of : Token → Result ℕ ReadFault
zero_or_one_of token = number_up_to 1 token

abbrev pub place_step : State → Token → Result State ReadFault
place_step state token =
    unless_fault (place_fault state token.text) token.line
    (Ok (after_at state.place state token.text token.line))

-- one token: a fault at its line, or the next state
unfoldable pub step : State → Token → Result State ReadFault
step state token = unless_fault (form_fault token.text) token.line (place_step state token)

-- where the text ends: what is wrong there
abbrev pub end_at : LoopPlace → List LoopBlock → ℕ → Option ReadFault
end_at Statement [] line = None
end_at Statement (block ∷ blocks) line =
    Some (record { kind = Unclosed; line = brace_of block.opening })
end_at _ blocks line = Some (record { kind = BadWord; line = line })

abbrev pub tree_or_fault : Option ReadFault → State → Result Tree ReadFault
tree_or_fault (Some fault) state = Err fault
tree_or_fault None state = Ok state.tree.statements

abbrev pub go_on : Result State ReadFault → (State → Result Tree ReadFault) → Result Tree ReadFault
go_on (Ok state) later = later state
go_on (Err fault) later = Err fault

-- reading these tokens, up to the end on this line
unfoldable pub first_pass : List Token → ℕ → State → Result Tree ReadFault
first_pass [] end_line state = tree_or_fault (end_at state.place state.tree.blocks end_line) state
first_pass (token ∷ tokens) end_line state =
    go_on (step state token) (λ next. first_pass tokens end_line next)

abbrev pub after_header : State
after_header = record {
  place = Statement;
  word_line = 0;
  head = no_clauses;
  pending = nothing_pending;
  bounds = no_bounds;
  tree = record { blocks = []; statements = NoStatement };
}
