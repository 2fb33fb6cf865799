-- What stands open, and what of a statement was read, where the first pass stands.
use Rattle.std.proofs.Common.{◌≡◌, ℕ, zero, suc, ◌+◌, ◌<◌, true, false, eqb, List}
use Rattle.std.proofs.Common.{[], ◌∷◌, ◌++◌, length, append_assoc, Some, None, refl, sym}
use Rattle.std.proofs.Common.{ap, ◌∙◌, arith, codes}
use Rattle.std.specs.Prelude.{nat_le}
use Rattle.std.specs.List.{list_any}
use Rattle.std.specs.Str.{bytes_eq}
use Rattle.std.proofs.lemmas.Bool.{leb-false, not-false}
use Rattle.std.proofs.lemmas.List.{append-nil}
use Rattle.loop_text.specs.declared.loop_place.LoopPlace.{LoopPlace}
use Rattle.loop_text.specs.declared.loop_place.LoopPlace.TheVariants.{Statement, WorkNumber}
use Rattle.loop_text.specs.declared.loop_place.LoopPlace.TheVariants.{GroupBrace, ForVariable}
use Rattle.loop_text.specs.declared.loop_place.LoopPlace.TheVariants.{ForFrom, ForTo, ForBrace}
use Rattle.loop_text.specs.declared.loop_place.LoopPlace.TheVariants.{Clause, IfOpens, IfNumber}
use Rattle.loop_text.specs.declared.loop_place.LoopPlace.TheVariants.{IfCloses, FinalOpens}
use Rattle.loop_text.specs.declared.loop_place.LoopPlace.TheVariants.{FinalNumber, FinalCloses}
use Rattle.loop_text.specs.declared.loop_place.LoopPlace.TheVariants.{DependOpens, DependType}
use Rattle.loop_text.specs.declared.loop_place.LoopPlace.TheVariants.{DependColon, DependName}
use Rattle.loop_text.specs.declared.loop_place.LoopPlace.TheVariants.{Subscript, IndexStart}
use Rattle.loop_text.specs.declared.loop_place.LoopPlace.TheVariants.{IndexNumber, IndexSign}
use Rattle.loop_text.specs.declared.loop_place.LoopPlace.TheVariants.{IndexCloses, DependMore}
use Rattle.program_text.specs.declared.statement.DependKind.{DependKind}
use Rattle.loop_text.specs.declared.loops.Index.{Index}
use Rattle.loop_text.specs.declared.loops.LoopItem.{LoopItem}
use Rattle.loop_text.specs.declared.loop_reader.LoopHead.{LoopHead}
use Rattle.loop_text.specs.declared.loop_reader.Pending.{Pending}
use Rattle.loop_text.specs.declared.loop_reader.Bounds.{Bounds}
use Rattle.loop_text.specs.declared.open_loops.LoopOpening.{LoopOpening}
use Rattle.loop_text.specs.declared.open_loops.LoopBlock.{LoopBlock}
use Rattle.program_text.specs.declared.limits.TheConstants.{MOST_NESTING, LARGEST_BOUND}
use Rattle.program_text.specs.Tokens.{Token}
use Rattle.program_text.specs.Words.{is_text, is_word, is_type, value_of, type_of}
use Rattle.loop_text.specs.Loops.{Tree}
use Rattle.loop_text.specs.Loops.Tree.{NoStatement}
use Rattle.loop_text.specs.OpenBlocks.{variables_of, variables_around}
use Rattle.loop_text.specs.FirstPass.{State, no_index, place_fault, closes_nothing}
use Rattle.loop_text.specs.Parts.{no_clauses}
use Rattle.loop_text.specs.FirstPass.{is_allowed, is_number_too_large, nests_too_deep}
use Rattle.loop_text.specs.FirstPass.{after_closing}
use Rattle.task_program.specs.declared.version.Version.TheVariants.{Two}
use Rattle.task_program.specs.Grammar.{IsNumber, index_of, IsVariable, IndexSpelled}
use Rattle.task_program.specs.Grammar.{ItemsSpelled, ClausesSpelled, OpeningSpelled, Spelled}
use Rattle.task_program.specs.Grammar.Spelled.{Nothing, Block}
use Rattle.program_text.proofs.FaultRows.{row_passed}

-- ---- what is open, and what of a statement was read

-- the tokens up to the `{` of the innermost block, inside loops with these variables, where so many
-- blocks more may be opened
pub data Around : List LoopBlock
    → (variables : List (List ℕ))
    → (room : ℕ)
    → List Token
    → Type 0 where
  Outside : Around [] [] MOST_NESTING []
  Inside : (blocks : List LoopBlock) (variables : List (List ℕ)) (room : ℕ)
      (around before opens : List Token) (tree : Tree) (opening : LoopOpening)
      → Around blocks variables (suc room) around
      → Spelled Two true variables (suc room) before tree
      → OpeningSpelled Two true variables opens opening
      → Around (record { before = tree; opening = opening } ∷ blocks)
      (variables_around opening variables) room (around ++ (before ++ opens))

abbrev pub head_with_items : LoopHead → List LoopItem → LoopHead
head_with_items head items = record head { items = head.items ++ items }

-- the items of a `depend` up to the next name, and the clauses before and after them
pub data Front : (variables : List (List ℕ)) (kind : DependKind) → LoopHead → List Token → LoopHead
    → Type 0 where
  NoItem : (variables : List (List ℕ)) (kind : DependKind) (head : LoopHead)
      → Front variables kind head [] head
  AndComma : (variables : List (List ℕ)) (kind : DependKind) (head : LoopHead) (before : List Token)
      (comma : Token) (items : List LoopItem)
      → ItemsSpelled Two variables kind before items
      → comma.text ≡ codes ","
      → Front variables kind head (before ++ comma ∷ []) (head_with_items head items)

-- the tokens of an index up to its last, at this place
pub data IndexPart : (variables : List (List ℕ)) (kind : DependKind) → LoopPlace → Index
    → List Token → Type 0 where
  AfterMinus : (variables : List (List ℕ)) (kind : DependKind) (minus : Token)
      → minus.text ≡ codes "-"
      → IndexPart variables kind (IndexNumber kind) (index_of None true 0 minus.line) (minus ∷ [])
  AfterPlus : (variables : List (List ℕ)) (kind : DependKind) (word plus : Token) (variable : ℕ)
      → IsVariable variables word.text variable
      → plus.text ≡ codes "+"
      → IndexPart variables kind (IndexNumber kind) (index_of (Some variable) false 0 word.line)
      (word ∷ plus ∷ [])
  AfterLess : (variables : List (List ℕ)) (kind : DependKind) (word minus : Token) (variable : ℕ)
      → IsVariable variables word.text variable
      → minus.text ≡ codes "-"
      → IndexPart variables kind (IndexNumber kind) (index_of (Some variable) true 0 word.line)
      (word ∷ minus ∷ [])
  AfterVariable : (variables : List (List ℕ)) (kind : DependKind) (word : Token) (variable : ℕ)
      → IsVariable variables word.text variable
      → IndexPart variables kind (IndexSign kind) (index_of (Some variable) false 0 word.line)
      (word ∷ [])
  Whole : (variables : List (List ℕ)) (kind : DependKind) (tokens : List Token) (index : Index)
      → IndexSpelled variables tokens index
      → IndexPart variables kind (IndexCloses kind) index tokens

abbrev pub pending_of : Token → Index → Pending
pending_of name index = record { name = name.text; line = name.line; index = index }

-- what was read of an item up to its last token, at this place
pub data ItemPart : (variables : List (List ℕ)) (kind : DependKind) → LoopPlace → Pending
    → List Token → Type 0 where
  AfterName : (variables : List (List ℕ)) (kind : DependKind) (name : Token)
      → is_word name.text ≡ true
      → ItemPart variables kind (Subscript kind) (pending_of name no_index) (name ∷ [])
  AfterBracket : (variables : List (List ℕ)) (kind : DependKind) (name opens : Token)
      → is_word name.text ≡ true
      → opens.text ≡ codes "["
      → ItemPart variables kind (IndexStart kind) (pending_of name no_index) (name ∷ opens ∷ [])
  InIndex : (variables : List (List ℕ)) (kind : DependKind) (place : LoopPlace) (name opens : Token)
      (inside : List Token) (index : Index)
      → is_word name.text ≡ true
      → opens.text ≡ codes "["
      → IndexPart variables kind place index inside
      → ItemPart variables kind place (pending_of name index) (name ∷ opens ∷ inside)

-- a task up to some clauses
pub record InTask (variables : List (List ℕ)) (word : Token) (clauses : List Token)
    (head : LoopHead)
    : Type 0 where
  pub is_task : word.text ≡ codes "task"
  pub clauses_are : ClausesSpelled Two true variables clauses head

-- a `depend` up to its `:`
pub data Heading : DependKind → List Token → Type 0 where
  Heads : (word opens kind colon : Token)
      → word.text ≡ codes "depend"
      → opens.text ≡ codes "("
      → is_type kind.text ≡ true
      → colon.text ≡ codes ":"
      → Heading (type_of kind.text) (word ∷ opens ∷ kind ∷ colon ∷ [])

abbrev pub bounds_of : List ℕ → ℕ → ℕ → Bounds
bounds_of variable from to = record { variable = variable; from = from; to = to }

abbrev pub with_if : LoopHead → ℕ → LoopHead
with_if head number = record head { has_if = true; undeferred = eqb number 0 }

abbrev pub with_final : LoopHead → ℕ → LoopHead
with_final head number = record head { has_final = true; is_final = eqb number 1 }

-- the variable of a `for`
pub record IsNew (variables : List (List ℕ)) (word variable : Token) : Type 0 where
  pub is_for : word.text ≡ codes "for"
  pub is_word : is_word variable.text ≡ true
  pub is_new : list_any (bytes_eq variable.text) variables ≡ false

-- the tokens of the statement that is being read, at this place
pub data Part : (variables : List (List ℕ)) → LoopPlace → (word_line : ℕ) → LoopHead → Pending
    → Bounds → List Token → Type 0 where
  Between : (vs : List (List ℕ)) (word_line : ℕ) (p : Pending) (b : Bounds)
      → Part vs Statement word_line no_clauses p b []
  AtWork : (vs : List (List ℕ)) (word_line : ℕ) (p : Pending) (b : Bounds) (word : Token)
      → word.text ≡ codes "work"
      → Part vs WorkNumber word_line no_clauses p b (word ∷ [])
  AtGroup : (vs : List (List ℕ)) (p : Pending) (b : Bounds) (word : Token)
      → word.text ≡ codes "taskgroup"
      → Part vs GroupBrace word.line no_clauses p b (word ∷ [])
  AtVariable : (vs : List (List ℕ)) (p : Pending) (b : Bounds) (word : Token)
      → word.text ≡ codes "for"
      → Part vs ForVariable word.line no_clauses p b (word ∷ [])
  AtFrom : (vs : List (List ℕ)) (p : Pending) (from to : ℕ) (word variable : Token)
      → IsNew vs word variable
      → Part vs ForFrom word.line no_clauses p (bounds_of variable.text from to)
      (word ∷ variable ∷ [])
  AtTo : (vs : List (List ℕ)) (p : Pending) (to : ℕ) (word variable first : Token)
      → IsNew vs word variable
      → IsNumber true first.text LARGEST_BOUND
      → Part vs ForTo word.line no_clauses p (bounds_of variable.text (value_of first.text) to)
      (word ∷ variable ∷ first ∷ [])
  AtForBrace : (vs : List (List ℕ)) (p : Pending) (word variable first last : Token)
      → IsNew vs word variable
      → IsNumber true first.text LARGEST_BOUND
      → IsNumber true last.text LARGEST_BOUND
      → Part vs ForBrace word.line no_clauses p
      (bounds_of variable.text (value_of first.text) (value_of last.text))
      (word ∷ variable ∷ first ∷ last ∷ [])
  AtClause : (vs : List (List ℕ)) (p : Pending) (b : Bounds) (word : Token) (clauses : List Token)
      (head : LoopHead)
      → InTask vs word clauses head
      → Part vs Clause word.line head p b (word ∷ clauses)
  AtIfOpens : (vs : List (List ℕ)) (p : Pending) (b : Bounds) (word : Token) (clauses : List Token)
      (head : LoopHead) (w : Token)
      → InTask vs word clauses head
      → head.has_if ≡ false
      → w.text ≡ codes "if"
      → Part vs IfOpens word.line head p b (word ∷ (clauses ++ w ∷ []))
  AtIfNumber : (vs : List (List ℕ)) (p : Pending) (b : Bounds) (word : Token) (clauses : List Token)
      (head : LoopHead) (w opens : Token)
      → InTask vs word clauses head
      → head.has_if ≡ false
      → w.text ≡ codes "if"
      → opens.text ≡ codes "("
      → Part vs IfNumber word.line head p b (word ∷ (clauses ++ w ∷ opens ∷ []))
  AtIfCloses : (vs : List (List ℕ)) (p : Pending) (b : Bounds) (word : Token) (clauses : List Token)
      (head : LoopHead) (w opens number : Token)
      → InTask vs word clauses head
      → head.has_if ≡ false
      → w.text ≡ codes "if"
      → opens.text ≡ codes "("
      → IsNumber true number.text 1
      → Part vs IfCloses word.line (with_if head (value_of number.text)) p b
      (word ∷ (clauses ++ w ∷ opens ∷ number ∷ []))
  AtFinalOpens : (vs : List (List ℕ)) (p : Pending) (b : Bounds) (word : Token)
      (clauses : List Token) (head : LoopHead) (w : Token)
      → InTask vs word clauses head
      → head.has_final ≡ false
      → w.text ≡ codes "final"
      → Part vs FinalOpens word.line head p b (word ∷ (clauses ++ w ∷ []))
  AtFinalNumber : (vs : List (List ℕ)) (p : Pending) (b : Bounds) (word : Token)
      (clauses : List Token) (head : LoopHead) (w opens : Token)
      → InTask vs word clauses head
      → head.has_final ≡ false
      → w.text ≡ codes "final"
      → opens.text ≡ codes "("
      → Part vs FinalNumber word.line head p b (word ∷ (clauses ++ w ∷ opens ∷ []))
  AtFinalCloses : (vs : List (List ℕ)) (p : Pending) (b : Bounds) (word : Token)
      (clauses : List Token) (head : LoopHead) (w opens number : Token)
      → InTask vs word clauses head
      → head.has_final ≡ false
      → w.text ≡ codes "final"
      → opens.text ≡ codes "("
      → IsNumber true number.text 1
      → Part vs FinalCloses word.line (with_final head (value_of number.text)) p b
      (word ∷ (clauses ++ w ∷ opens ∷ number ∷ []))
  AtDependOpens : (vs : List (List ℕ)) (p : Pending) (b : Bounds) (word : Token)
      (clauses : List Token) (head : LoopHead) (w : Token)
      → InTask vs word clauses head
      → w.text ≡ codes "depend"
      → Part vs DependOpens word.line head p b (word ∷ (clauses ++ w ∷ []))
  AtDependType : (vs : List (List ℕ)) (p : Pending) (b : Bounds) (word : Token)
      (clauses : List Token) (head : LoopHead) (w opens : Token)
      → InTask vs word clauses head
      → w.text ≡ codes "depend"
      → opens.text ≡ codes "("
      → Part vs DependType word.line head p b (word ∷ (clauses ++ w ∷ opens ∷ []))
  AtDependColon : (vs : List (List ℕ)) (p : Pending) (b : Bounds) (word : Token)
      (clauses : List Token) (head : LoopHead) (w opens kind : Token)
      → InTask vs word clauses head
      → w.text ≡ codes "depend"
      → opens.text ≡ codes "("
      → is_type kind.text ≡ true
      → Part vs (DependColon (type_of kind.text)) word.line head p b
      (word ∷ (clauses ++ w ∷ opens ∷ kind ∷ []))
  AtName : (vs : List (List ℕ)) (p : Pending) (b : Bounds) (word : Token) (clauses : List Token)
      (head after : LoopHead) (kind : DependKind) (heading front : List Token)
      → InTask vs word clauses head → Heading kind heading → Front vs kind head front after
      → Part vs (DependName kind) word.line after p b (word ∷ (clauses ++ (heading ++ front)))
  AtItem : (vs : List (List ℕ)) (place : LoopPlace) (p : Pending) (b : Bounds) (word : Token)
      (clauses : List Token) (head after : LoopHead) (kind : DependKind)
      (heading front item : List Token)
      → InTask vs word clauses head
      → Heading kind heading
      → Front vs kind head front after
      → ItemPart vs kind place p item
      → Part vs place word.line after p b (word ∷ (clauses ++ (heading ++ (front ++ item))))
  AtMore : (vs : List (List ℕ)) (p : Pending) (b : Bounds) (word : Token) (clauses : List Token)
      (head : LoopHead) (kind : DependKind) (heading inside : List Token) (items : List LoopItem)
      → InTask vs word clauses head → Heading kind heading → ItemsSpelled Two vs kind inside items
      → Part vs (DependMore kind) word.line (head_with_items head items) p b
      (word ∷ (clauses ++ (heading ++ inside)))

abbrev pub state_of : LoopPlace → ℕ → LoopHead → Pending → Bounds → List LoopBlock → Tree → State
state_of place word_line head pending bounds blocks
    tree = record {
      place = place;
      word_line = word_line;
      head = head;
      pending = pending;
      bounds = bounds;
      tree = record { blocks = blocks; statements = tree };
    }

-- what is known where these tokens were read
pub record Reads (tokens : List Token) (state : State) : Type 0 where
  pub variables : List (List ℕ)
  pub room : ℕ
  pub around : List Token
  pub here : List Token
  pub part : List Token
  pub tokens_are : tokens ≡ around ++ (here ++ part)
  pub around_is : Around state.tree.blocks variables room around
  pub here_is : Spelled Two true variables room here state.tree.statements
  pub part_is : Part variables state.place state.word_line state.head state.pending state.bounds
      part

-- ---- what passes the table

pub record Passes (state : State) (text : List ℕ) : Type 0 where
  pub unopened : closes_nothing state.place state.tree.blocks text ≡ false
  pub allowed : is_allowed state.place state.head state.tree.blocks text ≡ true
  pub number : is_number_too_large state.place text ≡ false
  pub nesting : nests_too_deep state.place state.tree.blocks text ≡ false

pub passes : (state : State) (text : List ℕ) → place_fault state text ≡ None → Passes state text
passes state text h =
    let unopened_row = row_passed _ _ _ h in
    let allowed_row = row_passed _ _ _ unopened_row.1 in
    let number_row = row_passed _ _ _ allowed_row.1 in
    let nesting_row = row_passed _ _ _ number_row.1 in
    record {
      unopened = unopened_row.0;
      allowed = not-false _ allowed_row.0;
      number = number_row.0;
      nesting = nesting_row.0;
    }

-- ---- tools

room_is : (blocks : List LoopBlock) (variables : List (List ℕ)) (room : ℕ) (around : List Token)
    → Around blocks variables room around
    → length blocks + room ≡ MOST_NESTING
room_is _ _ _ _ Outside = refl
room_is _ _ room _ (Inside blocks variables room' around before opens tree opening a s o) =
    omega (arith, room_is blocks variables (suc room') around a)

pub variables_are : (blocks : List LoopBlock) (variables : List (List ℕ)) (room : ℕ)
    (around : List Token)
    → Around blocks variables room around
    → variables_of blocks ≡ variables
unfolding variables_of
variables_are _ _ _ _ Outside = refl
variables_are _ _ room _ (Inside blocks variables room' around before opens tree opening a s o) =
    ap (λ (vs : List (List ℕ)). variables_around opening vs)
    (variables_are blocks variables (suc room') around a)

one_more : (around here part : List Token) (token : Token)
    → (around ++ (here ++ part)) ++ token ∷ [] ≡ around ++ (here ++ (part ++ token ∷ []))
one_more around here part token =
    append_assoc around (here ++ part) (token ∷ [])
    ∙ ap (λ (ts : List Token). around ++ ts) (append_assoc here part (token ∷ []))

-- what is around and before the statement
pub record Stands (blocks : List LoopBlock) (tree : Tree) (variables : List (List ℕ)) (room : ℕ)
    (around here : List Token)
    : Type 0 where
  pub around_is : Around blocks variables room around
  pub here_is : Spelled Two true variables room here tree

-- one token more in the statement that is being read
pub grow : (blocks : List LoopBlock) (tree : Tree) (variables : List (List ℕ)) (room : ℕ)
    (around here part after : List Token) (token : Token) (place : LoopPlace) (word_line : ℕ)
    (head : LoopHead) (pending : Pending) (bounds : Bounds)
    → Stands blocks tree variables room around here
    → part ++ token ∷ [] ≡ after
    → Part variables place word_line head pending bounds after
    → Reads ((around ++ (here ++ part)) ++ token ∷ [])
    (state_of place word_line head pending bounds blocks tree)
grow blocks tree variables room around here part after token place word_line head pending bounds s
    same p = record {
      variables = variables;
      room = room;
      around = around;
      here = here;
      part = after;
      tokens_are =
          one_more around here part token ∙ ap (λ (ts : List Token). around ++ (here ++ ts)) same;
      around_is = s.around_is;
      here_is = s.here_is;
      part_is = p;
    }

-- a whole statement
pub ends : (blocks : List LoopBlock) (tree : Tree) (variables : List (List ℕ)) (room : ℕ)
    (around here part : List Token) (token : Token) (word_line : ℕ) (pending : Pending)
    (bounds : Bounds)
    → Around blocks variables room around
    → Spelled Two true variables room (here ++ (part ++ token ∷ [])) tree
    → Reads ((around ++ (here ++ part)) ++ token ∷ [])
    (state_of Statement word_line no_clauses pending bounds blocks tree)
ends blocks tree variables room around here part token word_line pending bounds a s = record {
  variables = variables;
  room = room;
  around = around;
  here = here ++ (part ++ token ∷ []);
  part = [];
  tokens_are = one_more around here part token
      ∙ ap (λ (ts : List Token). around ++ ts) (sym (append-nil (here ++ (part ++ token ∷ []))));
  around_is = a;
  here_is = s;
  part_is = Between variables word_line pending bounds;
}

-- a block opens
pub opens : (blocks : List LoopBlock) (tree : Tree) (variables : List (List ℕ)) (room : ℕ)
    (around here part : List Token) (token : Token) (opening : LoopOpening) (pending : Pending)
    (bounds : Bounds)
    → Around blocks variables room around
    → Spelled Two true variables room here tree
    → OpeningSpelled Two true variables (part ++ token ∷ []) opening
    → nat_le MOST_NESTING (length blocks) ≡ false
    → Reads ((around ++ (here ++ part)) ++ token ∷ []) (state_of Statement 0 no_clauses pending
    bounds (record { before = tree; opening = opening } ∷ blocks) NoStatement)
opens blocks tree variables zero around here part token opening pending bounds a s o fits =
    absurd (let deep : length blocks
    < MOST_NESTING = leb-false MOST_NESTING (length blocks) fits in omega
    (arith, deep, room_is blocks variables zero around a))
opens blocks tree variables (suc room) around here part token opening pending bounds a s o
    fits = record {
      variables = variables_around opening variables;
      room = room;
      around = around ++ (here ++ (part ++ token ∷ []));
      here = [];
      part = [];
      tokens_are =
          one_more around here part token
          ∙ sym (append-nil (around ++ (here ++ (part ++ token ∷ []))));
      around_is = Inside blocks variables room around here (part ++ token ∷ []) tree opening a s o;
      here_is = Nothing (variables_around opening variables) room;
      part_is = Between (variables_around opening variables) 0 pending bounds;
    }

abbrev closed_state : List LoopBlock → Tree → ℕ → Pending → Bounds → State
closed_state blocks tree word_line pending bounds =
    after_closing (state_of Statement word_line no_clauses pending bounds blocks tree)

-- the innermost block ends
pub closes : (blocks : List LoopBlock) (tree : Tree) (variables : List (List ℕ)) (room : ℕ)
    (around here : List Token) (token : Token) (word_line : ℕ) (pending : Pending) (bounds : Bounds)
    → Around blocks variables room around
    → Spelled Two true variables room here tree
    → closes_nothing Statement blocks token.text ≡ false
    → token.text ≡ codes "}"
    → Reads ((around ++ (here ++ [])) ++ token ∷ [])
    (closed_state blocks tree word_line pending bounds)
closes _ tree _ _ _ here token word_line pending bounds Outside s unopened brace =
    absurd (let wrong : is_text token.text (codes "}")
    ≡ true = ap (λ (t : List ℕ). is_text t (codes "}")) brace in cc)
closes _ tree _ room _ here token word_line pending bounds
    (Inside blocks variables room' around before opening_tokens outer opening a s0 o) s unopened
    brace =
    let inside : List Token = here ++ token ∷ [] in
    let front : List Token = around ++ (before ++ opening_tokens) in
    record {
      variables = variables;
      room = suc room';
      around = around;
      here = before ++ (opening_tokens ++ inside);
      part = [];
      tokens_are = ap (λ (ts : List Token). (front ++ ts) ++ token ∷ []) (append-nil here)
          ∙ append_assoc front here (token ∷ [])
          ∙ append_assoc around (before ++ opening_tokens) inside
          ∙ ap (λ (ts : List Token). around ++ ts) (append_assoc before opening_tokens inside
          ∙ sym (append-nil (before ++ (opening_tokens ++ inside))));
      around_is = a;
      here_is =
          Block variables room' before opening_tokens here token opening outer tree s0 o s brace;
      part_is = Between variables word_line pending bounds;
    }
