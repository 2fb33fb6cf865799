-- What the reader answers to a token, and where it begins.
use Rattle.std.proofs.Common.{◌≡◌, ◌≢◌, ℕ, ◌+◌, Bool, false, List, [], ◌∷◌, ◌++◌, length}
use Rattle.std.proofs.Common.{Option, Some, None, Result, Ok, Err, refl, sym, ap, subst, ◌∙◌, arith}
use Rattle.std.proofs.Common.{true, cond}
use Rattle.std.specs.Prelude.{IfOk, IfErr, OnOk, map, reverse, nat_lt}
use Rattle.std.specs.Option.{option_or}
use Rattle.std.proofs.lemmas.List.{length-reverse, length-map}
use Rattle.std.proofs.lemmas.List.Elements.{All-nil}
use Rattle.program_text.specs.declared.fault.ReadKind.{ReadKind}
use Rattle.program_text.specs.declared.fault.ReadKind.TheVariants.{OutOfMemory, TooLong, BadByte}
use Rattle.program_text.specs.declared.fault.ReadKind.TheVariants.{BadWord, BadNumber, BadHeader}
use Rattle.program_text.specs.declared.fault.ReadKind.TheVariants.{Unopened, TooDeep, TooManyItems}
use Rattle.program_text.specs.declared.fault.ReadKind.TheVariants.{WorkTooLarge}
use Rattle.program_text.specs.declared.fault.ReadFault.{ReadFault}
use Rattle.program_text.specs.Answers.{Fails, Gives, is_memory}
use Rattle.program_text.specs.Limits.{work_of}
use Rattle.program_text.specs.Marks.{Mark}
use Rattle.program_text.specs.Tokens.{Token}
use Rattle.program_text.proofs.FaultRows.{row_no_memory, no_row}
use Rattle.task_program.specs.declared.place.Place.{Place}
use Rattle.task_program.specs.Faults.{State, start}
use Rattle.task_program.specs.FirstFault.AreRight.{Nothing as NoTokens}
use Rattle.task_program.specs.Nested.IsNested.{Nothing as NoMarks}
use Rattle.task_program.proofs.Accepting.{sentence_accepted}
use Rattle.task_program.proofs.FoundPlaces.{Explained}
use Rattle.task_program.proofs.Begun.{Began}
use Rattle.task_program.proofs.Tallies.{nothing_counted}
use Rattle.large_text.specs.declared.marks.TextMark.{TextMark}
use Rattle.large_text.specs.declared.reader.MarkReader.{MarkReader}
use Rattle.large_text.specs.declared.reader.OpenBlock.{OpenBlock}
use Rattle.large_text.specs.LargeFaults.{large_form_fault, grammar_fault, large_limit_by}
use Rattle.large_text.specs.LargeFaults.{is_inside_at, items_coming}
use Rattle.large_text.specs.LargeReading.{state_of, marks_after, large_step}
use Rattle.large_text.specs.LargeReading.{GoesTo, IsReadSoFar, block_seen}
use Rattle.large_text.specs.LargeReading.IsReadSoFar.{AtFirst, OneMore}
use Rattle.large_text.specs.LargeTrees.{IsLargeFirstFault}
use Rattle.large_text.specs.declared.limits.TheConstants.{MOST_LARGE_ITEMS}
use Rattle.large_text.proofs.Sound.{IsBehind, IsSound}
use Rattle.large_text.specs.LoopMarked.AreOpen.{NoneOpen}
use Rattle.large_text.proofs.SoFar.{read_more}
use Rattle.large_text.proofs.Steps.{Passed, is_there, passed}
use Rattle.std.proofs.lemmas.Bool.{not-false}
use Rattle.large_text.proofs.Refused.{first_fault, fault_told}

-- ---- the beginning

no_parts : Explained [] start
no_parts = (
  record {
    version = [];
    written = [];
    clauses = [];
    number = [];
    names = [];
    last = [];
  },
  record {
    spelled = refl;
    version = refl;
    means = tt;
    names_are = refl;
    items_are = tt;
    clauses = All-nil _;
    head = refl;
  },
)

not_begun : Began [] start
not_begun = record {
  follows = λ later f. f;
  accepted = λ later s. sentence_accepted later s;
  length_is = refl;
  bytes_are = refl;
}

-- before the first token
pub behind_start : IsBehind [] start
behind_start = record {
  explained = no_parts;
  began = not_begun;
  tally_is = nothing_counted;
  no_items = refl;
  open_are = NoneOpen [] NoMarks;
}

starts : (reader : MarkReader) → state_of reader [] ≡ start → reader.work ≡ 0
    → reader.all_items ≡ 0
    → IsSound [] [] reader
starts reader state work all_items =
    let bytes : reader.bytes ≡ 0 = ap (λ (s : State). s.bytes) state in
    let names : length reader.names ≡ 0 = ap (λ (s : State). length s.names) state in
    let items : length reader.items ≡ 0 = ap (λ (s : State). length s.head.items) state in
    record {
      behind = subst (IsBehind []) (sym state) behind_start;
      right = NoTokens;
      work_is = work;
      counted = omega (arith, all_items, ap (λ (s : State). items_coming s.place) state);
      few = omega arith;
      within = record {
        bytes = omega (arith, bytes);
        all_items = omega (arith, all_items);
        names = omega (arith, names);
        items = omega (arith, items);
        work = omega (arith, work);
      };
    }

-- whatever was taken
pub sound : (before : List Token) (marks : List Mark) (reader : MarkReader)
    → IsReadSoFar before marks reader
    → IsSound before marks reader
sound _ _ _ (AtFirst reader state work all_items) = starts reader state work all_items
sound _ _ _ (OneMore before marks old new token mark r step work all_items) =
    read_more before marks old new token mark (sound before marks old r) step work all_items

-- ---- what is answered to a token

pub reads_on : (result : Result (Option TextMark) ReadFault) (old new : MarkReader) (token : Token)
    → ((marks : List Mark)
    → Gives (λ mark. state_of new (marks_after marks mark)) result
    (large_step old.work old.all_items (state_of old marks) token))
    → IfOk result (λ mark. new.work ≡ old.work + work_of (marks_after [] mark))
    → OnOk result (new.all_items ≡ old.all_items + items_coming old.place)
    → IfOk result (λ mark. (before : List Token) (marks : List Mark)
    → IsReadSoFar before marks old
    → IsReadSoFar (before ++ token ∷ []) (marks_after marks mark) new)
reads_on (Ok mark) old new token step work all_items = λ before marks r.
    OneMore before marks old new token mark r (step marks) work all_items
reads_on (Err fault) old new token step work all_items = tt

pub goes_to : (result : Result (Option TextMark) ReadFault) (old new : MarkReader) (token : Token)
    → ((marks : List Mark)
    → Gives (λ mark. state_of new (marks_after marks mark)) result
    (large_step old.work old.all_items (state_of old marks) token))
    → IfOk result (GoesTo old new token)
goes_to (Ok mark) old new token step =
    let there : (marks : List Mark) → Passed old.work old.all_items (state_of old marks) token
    (state_of new (marks_after marks mark)) = λ marks. passed old.work old.all_items
    (state_of old marks) token (state_of new (marks_after marks mark)) (step marks) in
    record {
      allowed = not-false _
          (is_there old.place old.has_if (length (state_of old []).tree.blocks) token.text
          (there []).grammar).allowed;
      leads = λ marks. (there marks).next_is;
    }
goes_to (Err fault) old new token step = tt

pub is_refused : (result : Result (Option TextMark) ReadFault) (old new : MarkReader)
    (token : Token)
    → ((marks : List Mark)
    → Gives (λ mark. state_of new (marks_after marks mark)) result
    (large_step old.work old.all_items (state_of old marks) token))
    → IfErr result (λ fault. fault.kind ≢ OutOfMemory
    → (before later : List Token) (marks : List Mark) (end_line : ℕ)
    → IsReadSoFar before marks old
    → IsLargeFirstFault (before ++ token ∷ later) end_line fault)
is_refused (Ok mark) old new token step = tt
is_refused (Err fault) old new token step = λ other before later marks end_line r.
    first_fault before later marks old token end_line fault (sound before marks old r)
    (fault_told fault (large_step old.work old.all_items (state_of old marks) token) other
    (step marks))

-- ---- the tests, in their order

pub form_no_memory : (bytes : ℕ) (text : List ℕ) (kind : ReadKind)
    → large_form_fault bytes text ≡ Some kind
    → is_memory kind ≡ false
form_no_memory bytes text kind h =
    row_no_memory _ BadByte kind _ refl
    (row_no_memory _ BadNumber kind _ refl
    (row_no_memory _ BadWord kind _ refl (row_no_memory _ TooLong kind _ refl (no_row kind))))
    h

grammar_no_memory : (place : Place) (has_if : Bool) (depth : ℕ) (text : List ℕ) (kind : ReadKind)
    → grammar_fault place has_if depth text ≡ Some kind
    → is_memory kind ≡ false
grammar_no_memory place has_if depth text kind h =
    row_no_memory _ BadHeader kind _ refl
    (row_no_memory _ Unopened kind _ refl (row_no_memory _ BadWord kind _ refl (no_row kind))) h

either_no_memory : (many : Bool) (kind : ReadKind) (later : Option ReadKind)
    → (later ≡ Some kind → is_memory kind ≡ false)
    → option_or (cond many (Some TooManyItems) None) later ≡ Some kind
    → is_memory kind ≡ false
either_no_memory true kind later quiet h = row_no_memory true TooManyItems kind None refl (no_row kind) h
either_no_memory false kind later quiet h = quiet h

pub limit_no_memory : (inside : Bool) (work all_items items open_blocks : ℕ) (text : List ℕ)
    (kind : ReadKind)
    → large_limit_by inside work all_items items open_blocks text ≡ Some kind
    → is_memory kind ≡ false
limit_no_memory inside work all_items items open_blocks text kind h =
    row_no_memory _ BadNumber kind _ refl
    (row_no_memory _ TooDeep kind _ refl
    (either_no_memory (nat_lt MOST_LARGE_ITEMS all_items) kind _
    (row_no_memory _ TooManyItems kind _ refl (row_no_memory _ WorkTooLarge kind _ refl
    (no_row kind)))))
    h

pub form_fails : (work all_items : ℕ) (state : State) (token : Token) (kind : ReadKind) (fault : ReadFault)
    → large_form_fault state.bytes token.text ≡ Some kind
    → fault ≡ record { kind = kind; line = token.line }
    → Fails fault (large_step work all_items state token)
form_fails work all_items state token kind fault h fault_is =
    let quiet = form_no_memory state.bytes token.text kind h in rw (fault_is, quiet, h) refl

pub grammar_fails : (work all_items : ℕ) (state : State) (token : Token) (kind : ReadKind) (fault : ReadFault)
    → large_form_fault state.bytes token.text ≡ None
    → grammar_fault state.place state.head.has_if (length state.tree.blocks) token.text ≡ Some kind
    → fault ≡ record { kind = kind; line = token.line }
    → Fails fault (large_step work all_items state token)
grammar_fails work all_items state token kind fault form h fault_is =
    let quiet = grammar_no_memory state.place state.head.has_if (length state.tree.blocks) token.text
    kind h in rw (fault_is, quiet, form, h) refl

pub limit_fails : (work all_items : ℕ) (state : State) (token : Token) (kind : ReadKind) (fault : ReadFault)
    → large_form_fault state.bytes token.text ≡ None
    → grammar_fault state.place state.head.has_if (length state.tree.blocks) token.text ≡ None
    → large_limit_by (is_inside_at state.place) work (all_items + items_coming state.place)
    (length state.head.items + items_coming state.place) (length state.tree.blocks) token.text
    ≡ Some kind
    → fault ≡ record { kind = kind; line = token.line }
    → Fails fault (large_step work all_items state token)
limit_fails work all_items state token kind fault form grammar h fault_is =
    let quiet = limit_no_memory (is_inside_at state.place) work
    (all_items + items_coming state.place) (length state.head.items + items_coming state.place)
    (length state.tree.blocks) token.text kind h in
    rw (fault_is, quiet, form, grammar, h) refl

-- ---- the open blocks, as the reader and the state count them

blocks_long : (blocks : List OpenBlock) → length (reverse (map block_seen blocks)) ≡ length blocks
blocks_long blocks = length-reverse (map block_seen blocks) ∙ length-map blocks block_seen

pub grammar_told : (place : Place) (has_if : Bool) (blocks : List OpenBlock) (depth : ℕ)
    (text : List ℕ) (found answer : Option ReadKind)
    → depth ≡ length blocks
    → found ≡ grammar_fault place has_if depth text
    → found ≡ answer
    → grammar_fault place has_if (length (reverse (map block_seen blocks))) text ≡ answer
grammar_told place has_if blocks depth text found answer depth_is found_is same =
    ap (λ (n : ℕ). grammar_fault place has_if n text) (blocks_long blocks ∙ sym depth_is)
    ∙ sym found_is
    ∙ same

pub limit_told : (inside : Bool) (work all_items items : ℕ) (blocks : List OpenBlock) (text : List ℕ)
    (found answer : Option ReadKind)
    → found ≡ large_limit_by inside work all_items items (length blocks) text
    → found ≡ answer
    → large_limit_by inside work all_items items (length (reverse (map block_seen blocks))) text
    ≡ answer
limit_told inside work all_items items blocks text found answer found_is same =
    ap (λ (n : ℕ). large_limit_by inside work all_items items n text) (blocks_long blocks)
    ∙ sym found_is
    ∙ same
