-- Carried out: what a reader of marks holds of the tokens and the marks so far.
use Rattle.std.specs.Prelude.{◌≡◌, ℕ, ◌+◌, ◌≤◌, true, List, [], ◌∷◌, ◌++◌, length, map, reverse}
use Rattle.std.specs.Prelude.{Option, Some, None, Result, Ok}
use Rattle.program_text.specs.declared.fault.ReadFault.{ReadFault}
use Rattle.program_text.specs.declared.limits.TheConstants.{MOST_WORK}
use Rattle.program_text.specs.declared.limits.TheConstants.{LARGEST_COST}
use Rattle.program_text.specs.Limits.{work_of}
use Rattle.program_text.specs.Marks.{Mark}
use Rattle.program_text.specs.Marks.Mark.{Begins, Ends, Works, Waits, GroupBegins, GroupEnds}
use Rattle.program_text.specs.Tokens.{Token}
use Rattle.program_text.specs.declared.scanner.Token.{Token as ScannedToken}
use Rattle.program_text.specs.Words.{is_number, is_word, value_of}
use Rattle.task_program.specs.declared.place.Place.{Place}
use Rattle.task_program.specs.declared.place.Place.TheVariants.{Statement, WorkNumber, IfNumber}
use Rattle.task_program.specs.declared.place.Place.TheVariants.{DependName}
use Rattle.task_program.specs.Faults.{State, after_at, at, is_allowed, no_clauses, start}
use Rattle.task_program.specs.Faults.{unless_fault}
use Rattle.task_program.specs.TreeSoFar.{Block, with_block}
use Rattle.task_program.specs.TreeSoFar.Block.{TaskBlock, GroupBlock}
use Rattle.large_text.specs.declared.limits.TheConstants.{MOST_LARGE_TOKEN_BYTES}
use Rattle.large_text.specs.declared.limits.TheConstants.{MOST_LARGE_ITEMS}
use Rattle.large_text.specs.declared.limits.TheConstants.{MOST_TASK_ITEMS}
use Rattle.large_text.specs.declared.marks.TextMark.{TextMark}
use Rattle.large_text.specs.declared.marks.TextMark.TheVariants.{TaskBegins, TaskEnds, Work, Wait}
use Rattle.large_text.specs.declared.marks.TextMark.TheVariants.{GroupOpens, GroupCloses}
use Rattle.large_text.specs.declared.reader.MarkReader.{MarkReader}
use Rattle.large_text.specs.declared.reader.OpenBlock.{OpenBlock}
use Rattle.large_text.specs.declared.reader.OpenBlock.TheVariants.{OpenTask, OpenGroup}
use Rattle.large_text.specs.LargeFaults.{large_form_fault, grammar_fault, large_limit_by}
use Rattle.large_text.specs.LargeFaults.{is_inside_at, items_coming}

abbrev pub mark_seen : TextMark → Mark
mark_seen (TaskBegins undeferred items) = Begins undeferred items
mark_seen TaskEnds = Ends
mark_seen (Work cost) = Works cost
mark_seen Wait = Waits
mark_seen GroupOpens = GroupBegins
mark_seen GroupCloses = GroupEnds

-- the marks with one more, where there is one
abbrev pub marks_after : List Mark → Option TextMark → List Mark
marks_after marks None = marks
marks_after marks (Some mark) = marks ++ mark_seen mark ∷ []

abbrev pub block_seen : OpenBlock → Block
block_seen (OpenTask line) = TaskBlock line
block_seen (OpenGroup line) = GroupBlock line

-- a token that was scanned, on the line of the whole text on which it begins
abbrev pub token_on : ScannedToken → (line : ℕ) → Token
token_on token line = record { text = token.text.now; line = line }

-- a reader behind these marks, as a state of the reading
abbrev pub state_of : MarkReader → List Mark → State
state_of reader marks = record {
  place = reader.place;
  bytes = reader.bytes;
  names = reader.names;
  head = record {
    has_if = reader.has_if;
    undeferred = reader.undeferred;
    items = reader.items;
  };
  tree = record { blocks = reverse (map block_seen reader.blocks.items); marks = marks };
}

abbrev pub with_bytes : State → ℕ → State
with_bytes state more = record state { bytes = state.bytes + more }

-- where a token leads at its place, after so much work and so many depend items; or why it is refused,
-- and on which line
abbrev pub large_step : (work all_items : ℕ) → State → Token → Result State ReadFault
large_step work all_items state token =
    unless_fault (large_form_fault state.bytes token.text) token.line
    (unless_fault
    (grammar_fault state.place state.head.has_if (length state.tree.blocks) token.text) token.line
    (unless_fault
    (large_limit_by (is_inside_at state.place) work (all_items + items_coming state.place)
    (length state.head.items + items_coming state.place) (length state.tree.blocks) token.text)
    token.line
    (Ok (after_at state.place (with_bytes state (length token.text)) token.text token.line))))

-- behind the `{` of a task on this line
abbrev pub with_task : State → ℕ → State
with_task state line =
    at
    (record state {
      tree = with_block state.tree (TaskBlock line) (Begins state.head.undeferred state.head.items);
      head = no_clauses;
    })
    Statement

-- the token has what its place takes of it: a number that is not too large, or a word
abbrev pub HasValueAt : Place → (work : ℕ) → List ℕ → Type 0
HasValueAt WorkNumber work text =
    (is_number text ≡ true) × (value_of text ≤ LARGEST_COST) × (work + value_of text ≤ MOST_WORK)
HasValueAt IfNumber work text = is_number text ≡ true
HasValueAt (DependName kind) work text = is_word text ≡ true
HasValueAt _ work text = Unit {0}

abbrev pub HasValue : MarkReader → List ℕ → Type 0
HasValue reader text = HasValueAt reader.place reader.work text

pub record IsLargeWithin (reader : MarkReader) : Type 0 where
  pub bytes : reader.bytes ≤ MOST_LARGE_TOKEN_BYTES
  pub all_items : reader.all_items ≤ MOST_LARGE_ITEMS
  pub names : length reader.names ≤ reader.all_items
  pub items : length reader.items ≤ MOST_TASK_ITEMS
  pub work : reader.work ≤ MOST_WORK

-- the work goes on by what this mark does, where there is one, and no item is counted
pub record CountsOn (old new : MarkReader) (mark : Option TextMark) : Type 0 where
  pub work : new.work ≡ old.work + work_of (marks_after [] mark)
  pub all_items : new.all_items ≡ old.all_items

-- the reader has taken these tokens, none of them wrong, and handed on these marks
pub data IsReadSoFar : List Token → List Mark → MarkReader → Type 0 where
  AtFirst : (reader : MarkReader)
      → state_of reader [] ≡ start
      → reader.work ≡ 0
      → reader.all_items ≡ 0
      → IsReadSoFar [] [] reader
  OneMore : (before : List Token) (marks : List Mark) (old new : MarkReader) (token : Token)
      (mark : Option TextMark)
      → IsReadSoFar before marks old
      → large_step old.work old.all_items (state_of old marks) token
      ≡ Ok (state_of new (marks_after marks mark))
      → new.work ≡ old.work + work_of (marks_after [] mark)
      → new.all_items ≡ old.all_items + items_coming old.place
      → IsReadSoFar (before ++ token ∷ []) (marks_after marks mark) new

-- the reader has read some tokens, and can go on
pub record CanGoOn (reader : MarkReader) : Type 0 where
  pub tokens : List Token
  pub marks : List Mark
  pub so_far : IsReadSoFar tokens marks reader

-- no depend item has come of a task that is being read
abbrev pub HasNoItems : MarkReader → Type 0
HasNoItems reader = reader.items ≡ []

-- a token that the grammar has at its place led on from there
pub record GoesTo (old new : MarkReader) (token : Token) (mark : Option TextMark) : Type 0 where
  pub allowed : is_allowed old.place old.has_if token.text ≡ true
  pub leads : (marks : List Mark)
      → after_at old.place (with_bytes (state_of old marks) (length token.text)) token.text
      token.line
      ≡ state_of new (marks_after marks mark)
