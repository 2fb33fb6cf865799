-- The marks of a whole expansion, and where it is refused.
use Rattle.std.proofs.Common.{◌≡◌, ◌≢◌, ◌≤◌, ℕ, Bool, false, List, [], ◌∷◌, Option, Some, None}
use Rattle.std.proofs.Common.{Result, Ok, Err, refl, sym, ap, subst, ◌∙◌, arith, inl, inr}
use Rattle.std.specs.Prelude.{MatchBool}
use Rattle.std.specs.Option.{IfSome, option_or}
use Rattle.std.specs.String.{string_bytes}
use Rattle.program_text.specs.Answers.{Fails, is_memory}
use Rattle.program_text.specs.declared.fault.ReadFault.{ReadFault}
use Rattle.program_text.specs.declared.fault.ReadKind.TheVariants.{OutOfMemory}
use Rattle.program_text.specs.declared.limits.TheConstants.{MOST_WORK}
use Rattle.program_text.specs.Limits.{work_of}
use Rattle.program_text.specs.Tokens.{Token}
use Rattle.loop_text.specs.FirstPass.{first_pass, after_header}
use Rattle.loop_text.specs.Loops.{Tree}
use Rattle.task_program.specs.Canonical.{canonical_text}
use Rattle.task_program.specs.declared.version.Version.TheVariants.{Two}
use Rattle.task_program.specs.Expanded.{ExpansionState, after_piece, empty_expansion}
use Rattle.task_program.specs.ExpandsTo.{program_of_state, state_after_tree}
use Rattle.task_program.specs.Expansion.{Piece, expansion}
use Rattle.task_program.specs.ExpansionFault.{first_fault_by}
use Rattle.task_program.specs.FirstLoopFault.{IsTreeOf}
use Rattle.task_program.specs.Nested.{IsNested}
use Rattle.task_program.specs.SecondPass.{PieceTest, take_pieces_by, then_take, unless_at_fault}
use Rattle.task_program.specs.TreeSoFar.{Block}
use Rattle.task_program.specs.Walks.{LeadsOn}
use Rattle.task_program.proofs.Blocks.{blocks_kept}
use Rattle.task_program.proofs.KeptNames.{taken_is}
use Rattle.task_program.proofs.LoopFaultFound.{read_right, refused_so}
use Rattle.task_program.proofs.LoopFound.{found_tree}
use Rattle.task_program.proofs.Readings.{not_memory}
use Rattle.task_segments.specs.Moments.{last_moment}
use Rattle.large_text.specs.LoopFaults.{large_fault_of}
use Rattle.large_text.specs.LoopMarked.{AreOpen, HasEntered, HasKept, IsRefusedWith}
use Rattle.large_text.specs.LoopTallied.{HasLoopFaultOf, TalliesTree}
use Rattle.large_text.specs.Tallied.{Tallies, keeps_rows, keeps_text}
use Rattle.large_text.specs.declared.loop_marks.LoopMarks.{LoopMarks}
use Rattle.large_text.specs.declared.printer.Printer.{Printer}
use Rattle.large_text.specs.declared.tally.Tally.{Tally}
use Rattle.large_text.proofs.Open.{none_open}
use Rattle.large_text.proofs.Printing.{whole_text}

-- ---- the first fault of the pieces

abbrev fault_in : Result ExpansionState ReadFault → Option ReadFault
fault_in (Ok state) = None
fault_in (Err fault) = Some fault

one_piece_fault : (found : Option ReadFault) (next : ExpansionState)
    (later : ExpansionState → Result ExpansionState ReadFault) (first : Option ReadFault)
    → fault_in (later next) ≡ first
    → fault_in (then_take (unless_at_fault found next) later) ≡ option_or found first
one_piece_fault None next later first h = h
one_piece_fault (Some fault) next later first h = refl

stops_at_first : (test : PieceTest) (state : ExpansionState) (pieces : List Piece)
    → fault_in (take_pieces_by test state pieces) ≡ first_fault_by test state pieces
unfolding take_pieces_by first_fault_by
stops_at_first test state [] = refl
stops_at_first test state (piece ∷ pieces) =
    one_piece_fault (test state piece) (after_piece state piece)
    (λ next. take_pieces_by test next pieces)
    (first_fault_by test (after_piece state piece) pieces)
    (stops_at_first test (after_piece state piece) pieces)

-- the fault with which pieces are taken so
fault_of_taking : (test : PieceTest) (state : ExpansionState) (pieces : List Piece)
    (read : Result ExpansionState ReadFault)
    → take_pieces_by test state pieces ≡ read
    → first_fault_by test state pieces ≡ fault_in read
fault_of_taking test state pieces read h =
    sym (stops_at_first test state pieces) ∙ ap fault_in h

-- ---- the whole expansion

of_state : (taker : LoopMarks) (state : ExpansionState) (tree : Tree)
    → HasEntered taker state
    → state.tree.blocks ≡ []
    → first_fault_by large_fault_of empty_expansion (expansion [] false tree) ≡ None
    → state ≡ state_after_tree tree
    → TalliesTree tree taker.tally
of_state taker state tree h none right is =
    let work_is = h.work in
    let light = h.little_work in
    let little : work_of state.tree.marks ≤ MOST_WORK = omega (arith, work_is, light) in
    record {
      right = right;
      nested = subst (λ (s : ExpansionState). IsNested s.tree.marks) is
          (none_open state.tree.marks
          (subst (λ (bs : List Block). AreOpen bs state.tree.marks) none h.open_are));
      little = subst (λ (s : ExpansionState). work_of s.tree.marks ≤ MOST_WORK) is little;
      tallies = subst (λ (s : ExpansionState). Tallies taker.tally (last_moment s.tree.marks)) is
          h.tallies;
      prints = subst
          (λ (s : ExpansionState). IfSome taker.tally.printer
          (λ (printer : Printer). string_bytes printer.text
          ≡ canonical_text (program_of_state Two s)))
          is
          (whole_text Two taker.tally.printer state.names state.items state.tree.marks h.prints);
    }

-- before the first piece
pub kept_begun : (rows text : Bool) (taker : LoopMarks) (tally : Tally)
    → HasEntered taker empty_expansion
    → taker.tally ≡ tally
    → keeps_rows tally ≡ rows
    → keeps_text tally ≡ text
    → HasKept rows text taker empty_expansion
kept_begun rows text taker tally entered is kept printed = record {
  entered = entered;
  rows = ap keeps_rows is ∙ kept;
  text = ap keeps_text is ∙ printed;
}

pub tallies_tree : (rows text : Bool) (first taker : LoopMarks) (tree : Tree)
    → LeadsOn large_fault_of (expansion [] false tree) (HasKept rows text first)
    (HasKept rows text taker)
    → HasKept rows text first empty_expansion
    → TalliesTree tree taker.tally × HasKept rows text taker (state_after_tree tree)
tallies_tree rows text first taker tree leads begun =
    let pieces = expansion [] false tree in
    let last = leads empty_expansion begun in
    let is : last.0 ≡ state_after_tree tree =
    taken_is large_fault_of pieces empty_expansion last.0 last.1 in (
      of_state taker last.0 tree last.2.entered
          (blocks_kept large_fault_of [] false tree empty_expansion last.0 last.1)
          (fault_of_taking large_fault_of empty_expansion pieces (Ok last.0) last.1) is,
      subst (HasKept rows text taker) is last.2,
    )

-- ---- where it is refused

told : {Y : Type 0} (fault : ReadFault) (read : Result Y ReadFault)
    → Fails fault read
    → fault.kind ≢ OutOfMemory
    → read ≡ Err fault
told fault read h other =
    subst (λ (memory : Bool). MatchBool memory (fault.line ≡ 0) (read ≡ Err fault))
    (not_memory fault.kind other) h

-- out of memory has line 0
pub memory_line : {Y : Type 0} (fault : ReadFault) (read : Result Y ReadFault)
    → Fails fault read
    → fault.kind ≡ OutOfMemory
    → fault.line ≡ 0
memory_line fault read h is =
    subst (λ (memory : Bool). MatchBool memory (fault.line ≡ 0) (read ≡ Err fault))
    (ap is_memory is) h

-- the tokens spell the tree that the first pass makes of them
pub whole_tree : (tokens : List Token) (line : ℕ) (tree : Tree)
    → first_pass tokens line after_header ≡ Ok tree
    → IsTreeOf tokens tree
whole_tree tokens line tree h = record {
  whole = read_right tokens line tree h;
  spelled = (found_tree tokens line tree h).1;
}

pub tokens_refused : (tokens : List Token) (line : ℕ) (fault : ReadFault)
    → Fails fault (first_pass tokens line after_header)
    → fault.kind ≢ OutOfMemory
    → HasLoopFaultOf tokens line fault
tokens_refused tokens line fault h other =
    inl ((refused_so tokens line fault).0 (told fault (first_pass tokens line after_header) h other))

pub expansion_refused : (tokens : List Token) (line : ℕ) (tree : Tree) (fault : ReadFault)
    → first_pass tokens line after_header ≡ Ok tree
    → IsRefusedWith tree fault
    → fault.kind ≢ OutOfMemory
    → HasLoopFaultOf tokens line fault
expansion_refused tokens line tree fault read h other =
    let pieces = expansion [] false tree in
    let taken = take_pieces_by large_fault_of empty_expansion pieces in
    inr (
      tree,
      whole_tree tokens line tree read,
      fault_of_taking large_fault_of empty_expansion pieces (Err fault) (told fault taken h other),
    )
