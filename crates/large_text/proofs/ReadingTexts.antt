-- Texts of either version: which one the first bytes show, and what is known in it.
use Rattle.std.proofs.Common.{◌≡◌, ◌≤◌, ◌<◌, ◌++◌, ◌∙◌, ℕ, Bool, true, false, List, length, ap, subst, sym}
use Rattle.std.proofs.Common.{refl}
use Rattle.std.specs.Prelude.{IsTrue, MatchBool, drop, min, take}
use Rattle.std.proofs.lemmas.Bool.{lt-ltb, le-ltb, MatchBool-at_true, MatchBool-at_false}
use Rattle.std.proofs.lemmas.List.{take_all, take-append-le, take_min}
use Rattle.program_text.specs.declared.fault.ReadFault.{ReadFault}
use Rattle.program_text.specs.declared.fault.ReadKind.TheVariants.{TooLong}
use Rattle.program_text.specs.declared.limits.TheConstants.{MOST_TEXT_BYTES}
use Rattle.program_text.specs.ScannerSeen.{end_line, tokens_left}
use Rattle.program_text.specs.Tokens.{Token, line_at_end, texts, tokens_from, tokens_of}
use Rattle.program_text.specs.declared.scanner.Scanner.{Scanner}
use Rattle.program_text.proofs.Bools.{bool_cases}
use Rattle.loop_text.specs.Loops.{Tree}
use Rattle.task_program.specs.declared.version.Version.TheVariants.{Two}
use Rattle.task_program.specs.ExpandsTo.{program_of_state, state_after_tree}
use Rattle.task_program.specs.FirstLoopFault.{IsTreeOf}
use Rattle.task_program.specs.Nested.{IsNested}
use Rattle.task_program.specs.ProgramMarks.{ProgramMarks}
use Rattle.task_program.specs.Versions.{begins_version_two, body_of}
use Rattle.task_program.proofs.FirstFaults.{fault_so}
use Rattle.large_text.specs.declared.tally.Tally.{Tally}
use Rattle.large_text.specs.LargeTexts.{HasLargeLoopFault, HasLoopProgram, IsLargeFault, IsLargeLoopFault}
use Rattle.large_text.specs.LargeTexts.{IsLargeLoopText, StandsForLarge, is_large_two}
use Rattle.large_text.specs.LargeTrees.{HasLargeProgram, IsLargeFirstFault, IsLargeRightWhole}
use Rattle.large_text.specs.LoopTallied.{HasLoopFaultOf, TalliesTree}
use Rattle.large_text.specs.Measured.{TalliesPlain, TalliesText}

-- ---- the first bytes

-- a text that has not more is of the version that its tokens show
pub two_whole : (text : List ℕ) → length text ≤ MOST_TEXT_BYTES
    → is_large_two text ≡ begins_version_two (tokens_of text)
two_whole text few =
    ap (λ (bytes : List ℕ). begins_version_two (tokens_of bytes))
    (take_all MOST_TEXT_BYTES text few)

-- what comes behind them changes nothing
pub two_front : (front later : List ℕ) → MOST_TEXT_BYTES ≤ length front
    → is_large_two (front ++ later) ≡ is_large_two front
two_front front later many =
    ap (λ (bytes : List ℕ). begins_version_two (tokens_of bytes))
    (take-append-le MOST_TEXT_BYTES front later many)

-- and so it is where the first bytes were scanned
pub two_scanned : (text : List ℕ) (scanner : Scanner) (most : ℕ) (two : Bool)
    → scanner.rest.now ≡ take most text
    → scanner.line ≡ 1
    → most ≡ min MOST_TEXT_BYTES (length text)
    → two ≡ begins_version_two (tokens_left scanner)
    → two ≡ is_large_two text
two_scanned text scanner most two rest_is line_is most_is told =
    let head : scanner.rest.now ≡ take MOST_TEXT_BYTES text =
    rest_is
    ∙ ap (λ (n : ℕ). take n text) most_is
    ∙ take_min MOST_TEXT_BYTES text in
    told
    ∙ ap (λ (n : ℕ). begins_version_two (tokens_from false n scanner.rest.now)) line_is
    ∙ ap (λ (bytes : List ℕ). begins_version_two (tokens_of bytes)) head

-- a text that is scanned whole
pub whole_scanned : (text : List ℕ) (scanner after : Scanner) (two : Bool)
    → length text ≤ MOST_TEXT_BYTES
    → is_large_two text ≡ true
    → scanner.rest.now ≡ text
    → scanner.line ≡ 1
    → two ≡ begins_version_two (tokens_left scanner)
    → (IsTrue two → tokens_left after ≡ drop 2 (tokens_left scanner))
    → end_line after ≡ end_line scanner
    → (tokens_left after ≡ body_of text) × (end_line after ≡ line_at_end 1 text)
whole_scanned text scanner after two few is_two rest_is line_is told rest line =
    let tokens : tokens_left scanner ≡ tokens_of text =
    ap (λ (n : ℕ). tokens_from false n scanner.rest.now) line_is
    ∙ ap (λ (bytes : List ℕ). tokens_of bytes) rest_is in
    let yes : two ≡ true =
    told
    ∙ ap begins_version_two tokens
    ∙ sym (two_whole text few)
    ∙ is_two in (
      rest yes
          ∙ ap (λ (tokens : List Token). drop 2 tokens) tokens,
      line
          ∙ ap (λ (n : ℕ). line_at_end n scanner.rest.now) line_is
          ∙ ap (λ (bytes : List ℕ). line_at_end 1 bytes) rest_is,
    )

-- ---- what is said in each version

pub at_true : {b : Bool} (P Q : Type 0) → b ≡ true → P → MatchBool b P Q
at_true P Q is p = subst (λ (b : Bool). MatchBool b P Q) (sym is) p

pub at_false : {b : Bool} (P Q : Type 0) → b ≡ false → Q → MatchBool b P Q
at_false P Q is q = subst (λ (b : Bool). MatchBool b P Q) (sym is) q

pub nested_of : (text : List ℕ) (program : ProgramMarks)
    → StandsForLarge text program
    → IsNested program.marks
nested_of text program h =
    bool_cases (is_large_two text) (λ two. (MatchBool-at_true _ _ two h).nested)
    (λ one. (MatchBool-at_false _ _ one h).tree.nested)

pub fault_plain : (text : List ℕ) (fault : ReadFault)
    → is_large_two text ≡ false
    → IsLargeFirstFault (tokens_of text) (line_at_end 1 text) fault
    → IsLargeFault text fault
fault_plain text fault one h = at_false (IsLargeLoopFault text fault) _ one h

pub fault_long : (text : List ℕ) → is_large_two text ≡ true → MOST_TEXT_BYTES < length text
    → IsLargeFault text (fault_so TooLong 1)
fault_long text two many =
    let fault = fault_so TooLong 1 in
    at_true (IsLargeLoopFault text fault)
    (IsLargeFirstFault (tokens_of text) (line_at_end 1 text) fault) two
    (at_true (fault ≡ fault) (HasLargeLoopFault text fault)
    (lt-ltb MOST_TEXT_BYTES (length text) many) refl)

pub fault_two : (text : List ℕ) (fault : ReadFault)
    → is_large_two text ≡ true
    → length text ≤ MOST_TEXT_BYTES
    → HasLargeLoopFault text fault
    → IsLargeFault text fault
fault_two text fault two few h =
    at_true (IsLargeLoopFault text fault)
    (IsLargeFirstFault (tokens_of text) (line_at_end 1 text) fault) two
    (at_false (fault ≡ fault_so TooLong 1) (HasLargeLoopFault text fault)
    (le-ltb MOST_TEXT_BYTES (length text) few) h)

-- ---- a whole text

pub tallies_plain : (text : List ℕ) (tally : Tally)
    → is_large_two text ≡ false
    → TalliesPlain (tokens_of text) tally
    → TalliesText text tally
tallies_plain text tally one h = record {
  program = h.program;
  stands = at_false (HasLoopProgram text h.program) _ one h.stands;
  right = at_false ((tree : Tree) × IsLargeLoopText text tree) _ one h.right;
  measures = h.measures;
  prints = h.prints;
}

pub tallies_two : (text : List ℕ) (tally : Tally) (tree : Tree)
    → is_large_two text ≡ true
    → length text ≤ MOST_TEXT_BYTES
    → IsTreeOf (body_of text) tree
    → TalliesTree tree tally
    → TalliesText text tally
tallies_two text tally tree two few whole h = record {
  program = program_of_state Two (state_after_tree tree);
  stands = at_true _ (HasLargeProgram (texts (tokens_of text)) (program_of_state Two (state_after_tree tree))) two (record {
    tree = tree;
    whole = whole;
    program_is = refl;
    nested = h.nested;
  });
  right = at_true _ (IsLargeRightWhole (tokens_of text)) two
      (tree, record { fits = few; whole = whole; expands = h.right });
  measures = h.tallies;
  prints = h.prints;
}

-- the same of what was scanned
pub loops_tallied : (text : List ℕ) (tally : Tally) (after : Scanner)
    → is_large_two text ≡ true
    → length text ≤ MOST_TEXT_BYTES
    → tokens_left after ≡ body_of text
    → (tree : Tree) × IsTreeOf (tokens_left after) tree × TalliesTree tree tally
    → TalliesText text tally
loops_tallied text tally after two few left (tree, whole, tallies) =
    tallies_two text tally tree two few
    (subst (λ (tokens : List Token). IsTreeOf tokens tree) left whole) tallies

pub loops_faulty : (text : List ℕ) (fault : ReadFault) (after : Scanner)
    → is_large_two text ≡ true
    → length text ≤ MOST_TEXT_BYTES
    → (tokens_left after ≡ body_of text) × (end_line after ≡ line_at_end 1 text)
    → HasLoopFaultOf (tokens_left after) (end_line after) fault
    → IsLargeFault text fault
loops_faulty text fault after two few (left, line) h =
    fault_two text fault two few
    (subst (λ (n : ℕ). HasLoopFaultOf (body_of text) n fault) line
    (subst (λ (tokens : List Token). HasLoopFaultOf tokens (end_line after) fault) left h))
