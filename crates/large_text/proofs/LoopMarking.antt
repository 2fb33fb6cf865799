-- The pieces of an expansion are taken one by one, and their marks entered.
use Rattle.std.proofs.Common.{◌≡◌, ℕ, ◌+◌, ◌<◌, ◌≤◌, ◌^◌, Bool, false, true, List, [], ◌∷◌, ◌++◌, length}
use Rattle.std.proofs.Common.{Option, Some, None, Ok, Err, length-append, refl, sym, ap, subst}
use Rattle.std.proofs.Common.{◌∙◌, arith}
use Rattle.std.specs.Prelude.{nat_le, nat_lt}
use Rattle.std.proofs.Common.{Vec, Global, map, reverse}
use Rattle.std.proofs.lemmas.List.{map-append, reverse-append}
use Rattle.program_text.specs.declared.statement.Item.{Item}
use Rattle.program_text.specs.declared.fault.ReadKind.TheVariants.{WorkTooLarge, TooManyItems, BadNumber}
use Rattle.large_text.specs.declared.reader.OpenBlock.{OpenBlock}
use Rattle.large_text.specs.declared.reader.OpenBlock.TheVariants.{OpenTask, OpenGroup}
use Rattle.large_text.specs.LargeReading.{block_seen}
use Rattle.std.proofs.lemmas.Bool.{le-leb, le-ltb, leb-false, lt-leb, lt-ltb, or_parts}
use Rattle.std.proofs.lemmas.List.Sums.{sum_by-append}
use Rattle.program_text.specs.declared.fault.ReadKind.TheVariants.{OutOfMemory, TooLong}
use Rattle.program_text.specs.declared.fault.ReadKind.TheVariants.{TooManyTurns}
use Rattle.task_program.specs.PieceFaults.{fault_if}
use Rattle.task_program.specs.Walks.{LeadsOn, StopsAt}
use Rattle.program_text.specs.declared.fault.ReadFault.{ReadFault}
use Rattle.program_text.specs.declared.limits.TheConstants.{MOST_WORK}
use Rattle.program_text.specs.Limits.{work_of, work_done}
use Rattle.program_text.specs.Marks.{Mark}
use Rattle.program_text.specs.Marks.Mark.{Begins, Works, Waits, GroupBegins}
use Rattle.task_program.specs.Nested.IsNested.{Nothing, Work, Wait}
use Rattle.task_program.specs.TreeSoFar.{Block, TreeSoFar, after_end_of, end_mark_of}
use Rattle.task_program.specs.TreeSoFar.Block.{TaskBlock, GroupBlock}
use Rattle.task_program.specs.Expansion.{Piece, Place}
use Rattle.task_program.specs.Expansion.Piece.{TurnBegins, TaskComes, ItemComes, TaskOpens, GroupComes, GroupOpens, BlockEnds}
use Rattle.task_program.specs.Expansion.Piece.{WorkIs, WaitIs}
use Rattle.task_program.specs.Expanded.{ExpansionState, after_piece}
use Rattle.task_program.specs.SecondPass.{PieceTest, take_pieces_by}
use Rattle.task_program.proofs.Expanding.{one_piece, then_pieces}
use Rattle.task_segments.specs.Moments.{last_moment}
use Rattle.task_segments.proofs.LastMoment.{moment_after-append}
use Rattle.large_text.specs.declared.limits.TheConstants.{MOST_LARGE_TURNS, MOST_LARGE_LINES, MOST_LARGE_ITEMS}
use Rattle.large_text.specs.declared.limits.TheConstants.{MOST_TASK_ITEMS}
use Rattle.large_text.specs.declared.loop_marks.LoopMarks.{LoopMarks}
use Rattle.large_text.specs.declared.tally.Tally.{Tally}
use Rattle.large_text.specs.LoopMarked.{AreOpen, HasEntered, blocks_seen}
use Rattle.large_text.specs.LoopMarked.AreOpen.{InTask, InGroup}
use Rattle.large_text.specs.LoopFaults.{is_full, large_fault_of, lines_of}
use Rattle.large_text.specs.Printed.{IsOwn, PrintsIn, PrintsMark, PrintsNamed, items_behind}
use Rattle.large_text.specs.Tallied.{CanTally, Tallies}
use Rattle.task_program.specs.declared.version.Version.TheVariants.{Two}
use Rattle.large_text.proofs.Fitting.{closed, closing, fits_next}
use Rattle.large_text.specs.declared.printer.Printer.{Printer}
use Rattle.task_program.specs.Names.{number_of_name, with_name}
use Rattle.task_program.proofs.Keeping.{one_name_more}
use Rattle.large_text.proofs.Printing.{still_tallies}
use Rattle.large_text.proofs.Open.{open_ends, open_more}

-- ---- one piece

pub piece_taken : (test : PieceTest) (state : ExpansionState) (piece : Piece)
    → test state piece ≡ None
    → take_pieces_by test state (piece ∷ []) ≡ Ok (after_piece state piece)
piece_taken test state piece none = one_piece test state piece ∙ rw none refl

pub piece_refused : (test : PieceTest) (state : ExpansionState) (piece : Piece) (fault : ReadFault)
    → test state piece ≡ Some fault
    → take_pieces_by test state (piece ∷ []) ≡ Err fault
piece_refused test state piece fault some = one_piece test state piece ∙ rw some refl

-- ---- the blocks that are open

-- one more is the innermost
pub seen_push : (blocks : List OpenBlock) (block : OpenBlock)
    → blocks_seen (blocks ++ block ∷ []) ≡ block_seen block ∷ blocks_seen blocks
seen_push blocks block =
    ap (λ (bs : List Block). reverse bs) (map-append block_seen blocks (block ∷ []))
    ∙ reverse-append (map block_seen blocks) (block_seen block ∷ [])

-- ---- a mark more

pub can_tally : (tally : Tally) (marks : List Mark) (blocks : List Block) (mark : Mark)
    → Tallies tally (last_moment marks)
    → AreOpen blocks (marks ++ mark ∷ [])
    → work_of (marks ++ mark ∷ []) ≤ MOST_WORK
    → length marks < 2 ^ 63
    → CanTally tally mark
can_tally tally marks blocks mark tallies open_are work few = record {
  moment = last_moment marks;
  tallies = tallies;
  fits = fits_next marks (closing blocks) mark (closed blocks (marks ++ mark ∷ []) open_are) work
      few;
}

-- the mark has been entered: measured, and printed where something is
abbrev pub Enters : (before after : Tally) → Mark → Type 0
Enters before after mark =
    ((moment : List Mark) → Tallies before moment → Tallies after (mark ∷ moment))
    × PrintsMark before.printer after.printer mark

pub tallied : (tally more : Tally) (marks : List Mark) (mark : Mark)
    → Enters tally more mark
    → Tallies tally (last_moment marks)
    → Tallies more (last_moment (marks ++ mark ∷ []))
tallied tally more marks mark takes h =
    subst (Tallies more)
    (sym (moment_after-append marks (mark ∷ []) (Begins false [] ∷ [])))
    (takes.0 (last_moment marks) h)

pub printed : (tally more : Tally) (names : List (List ℕ)) (items after : List Item)
    (marks : List Mark) (mark : Mark)
    → Enters tally more mark
    → IsOwn items mark
    → items_behind items mark ≡ after
    → PrintsIn Two tally.printer names items marks
    → PrintsIn Two more.printer names after (marks ++ mark ∷ [])
printed tally more names items after marks mark takes own same h =
    subst (λ (is : List Item). PrintsIn Two more.printer names is (marks ++ mark ∷ [])) same
    (takes.1 Two names items marks own h)

work_more : (marks : List Mark) (mark : Mark)
    → work_of (marks ++ mark ∷ []) ≡ work_of marks + work_of (mark ∷ [])
work_more marks mark = sum_by-append work_done marks (mark ∷ [])

few_marks : (taker : LoopMarks) (state : ExpansionState)
    → HasEntered taker state
    → length state.tree.marks < 2 ^ 63
few_marks taker state h =
    let lines_are = h.lines in
    let few = h.few_lines in
    omega (arith, lines_are, few)

-- a turn
pub turn_entered : (taker : LoopMarks) (state : ExpansionState) (line : ℕ)
    → HasEntered taker state
    → taker.turns + 1 ≤ MOST_LARGE_TURNS
    → HasEntered (record taker { turns = taker.turns + 1 }) (after_piece state (TurnBegins line))
turn_entered taker state line h room = record {
  turns = ap (λ (n : ℕ). n + 1) h.turns;
  few_turns = room;
  lines = h.lines;
  few_lines = h.few_lines;
  work = h.work;
  little_work = h.little_work;
  names = h.names;
  few_names = h.few_names;
  items = h.items;
  few_items = h.few_items;
  blocks = h.blocks;
  open_are = h.open_are;
  tallies = h.tallies;
  prints = h.prints;
}

-- a mark of a statement that is no block
pub statement_entered : (taker : LoopMarks) (state next : ExpansionState) (mark : Mark) (work : ℕ)
    (tally : Tally)
    → next ≡ record state {
      bytes = next.bytes;
      tree = record { blocks = state.tree.blocks; marks = state.tree.marks ++ mark ∷ [] };
    }
    → HasEntered taker state
    → taker.lines + 1 ≤ MOST_LARGE_LINES
    → work ≡ taker.work + work_of (mark ∷ [])
    → work ≤ MOST_WORK
    → AreOpen state.tree.blocks (state.tree.marks ++ mark ∷ [])
    → Enters taker.tally tally mark
    → IsOwn state.items mark
    → items_behind state.items mark ≡ state.items
    → HasEntered (record taker { lines = taker.lines + 1; work = work; tally = tally }) next
statement_entered taker state next mark work tally is h room sum little open_are takes own same_items =
    let more : work_of (state.tree.marks ++ mark ∷ []) ≡ work_of state.tree.marks
    + work_of (mark ∷ []) = work_more state.tree.marks mark in
    let long = length-append state.tree.marks (mark ∷ []) in
    let lines_are = h.lines in
    let work_is = h.work in
    let same : HasEntered (record taker { lines = taker.lines + 1; work = work; tally = tally })
    (record state {
      bytes = next.bytes;
      tree = record { blocks = state.tree.blocks; marks = state.tree.marks ++ mark ∷ [] };
    }) = record {
      turns = h.turns;
      few_turns = h.few_turns;
      lines = omega (arith, long, lines_are);
      few_lines = room;
      work = omega (arith, more, work_is, sum);
      little_work = little;
      names = h.names;
      few_names = h.few_names;
      items = h.items;
      few_items = h.few_items;
      blocks = h.blocks;
      open_are = open_are;
      tallies = tallied taker.tally tally state.tree.marks mark takes h.tallies;
      prints = printed taker.tally tally state.names state.items state.items state.tree.marks mark
          takes own same_items h.prints;
    } in
    subst (HasEntered (record taker { lines = taker.lines + 1; work = work; tally = tally }))
    (sym is) same

-- ---- a `taskwait`

pub open_wait : (taker : LoopMarks) (state : ExpansionState)
    → HasEntered taker state
    → AreOpen state.tree.blocks (state.tree.marks ++ Waits ∷ [])
open_wait taker state h =
    open_more state.tree.blocks state.tree.marks (Waits ∷ []) h.open_are (Wait [] Nothing)

pub can_wait : (taker : LoopMarks) (state : ExpansionState)
    → HasEntered taker state
    → CanTally taker.tally Waits
can_wait taker state h =
    let more = work_more state.tree.marks Waits in
    let work_is = h.work in
    let little = h.little_work in
    can_tally taker.tally state.tree.marks state.tree.blocks Waits h.tallies
    (open_wait taker state h) (omega (arith, more, work_is, little)) (few_marks taker state h)

-- ---- a `work`

pub open_work : (taker : LoopMarks) (state : ExpansionState) (cost : ℕ)
    → HasEntered taker state
    → AreOpen state.tree.blocks (state.tree.marks ++ Works cost ∷ [])
open_work taker state cost h =
    open_more state.tree.blocks state.tree.marks (Works cost ∷ []) h.open_are
    (Work cost [] Nothing)

pub can_work : (taker : LoopMarks) (state : ExpansionState) (cost : ℕ)
    → HasEntered taker state
    → taker.work + cost ≤ MOST_WORK
    → CanTally taker.tally (Works cost)
can_work taker state cost h little =
    let more = work_more state.tree.marks (Works cost) in
    let work_is = h.work in
    can_tally taker.tally state.tree.marks state.tree.blocks (Works cost) h.tallies
    (open_work taker state cost h) (omega (arith, more, work_is, little)) (few_marks taker state h)

-- ---- a group

pub open_group : (taker : LoopMarks) (state : ExpansionState) (line : ℕ)
    → HasEntered taker state
    → AreOpen (GroupBlock line ∷ state.tree.blocks) (state.tree.marks ++ GroupBegins ∷ [])
open_group taker state line h =
    InGroup line state.tree.blocks state.tree.marks [] h.open_are Nothing

pub can_group : (taker : LoopMarks) (state : ExpansionState)
    → HasEntered taker state
    → CanTally taker.tally GroupBegins
can_group taker state h =
    let more = work_more state.tree.marks GroupBegins in
    let work_is = h.work in
    let little = h.little_work in
    can_tally taker.tally state.tree.marks (GroupBlock 0 ∷ state.tree.blocks) GroupBegins h.tallies
    (open_group taker state 0 h) (omega (arith, more, work_is, little)) (few_marks taker state h)

-- ---- a task

pub open_task : (taker : LoopMarks) (state : ExpansionState) (undeferred : Bool) (line : ℕ)
    → HasEntered taker state
    → AreOpen (TaskBlock line ∷ state.tree.blocks)
    (state.tree.marks ++ Begins undeferred state.items ∷ [])
open_task taker state undeferred line h =
    InTask line state.tree.blocks state.tree.marks undeferred state.items [] h.open_are Nothing

pub can_task : (taker : LoopMarks) (state : ExpansionState) (undeferred : Bool)
    → HasEntered taker state
    → CanTally taker.tally (Begins undeferred state.items)
can_task taker state undeferred h =
    let mark : Mark = Begins undeferred state.items in
    let more = work_more state.tree.marks mark in
    let work_is = h.work in
    let little = h.little_work in
    can_tally taker.tally state.tree.marks (TaskBlock 0 ∷ state.tree.blocks) mark h.tallies
    (open_task taker state undeferred 0 h) (omega (arith, more, work_is, little))
    (few_marks taker state h)

-- ---- the end of a block

pub open_end : (taker : LoopMarks) (state : ExpansionState) (block : Block) (blocks : List Block)
    → HasEntered taker state
    → state.tree.blocks ≡ block ∷ blocks
    → AreOpen blocks (state.tree.marks ++ end_mark_of block ∷ [])
open_end taker state block blocks h is =
    open_ends (block ∷ blocks) state.tree.marks
    (subst (λ (bs : List Block). AreOpen bs state.tree.marks) is h.open_are)

-- ---- the tests

-- so many lines fit
lines_fit : (lines more line : ℕ)
    → lines + more ≤ MOST_LARGE_LINES
    → fault_if (nat_lt MOST_LARGE_LINES (lines + more)) TooLong line ≡ None
lines_fit lines more line room =
    let fits : nat_lt MOST_LARGE_LINES (lines + more) ≡ false =
    le-ltb MOST_LARGE_LINES (lines + more) room in
    rw fits refl

-- or they do not
lines_pass : (lines more line : ℕ)
    → MOST_LARGE_LINES < lines + more
    → fault_if (nat_lt MOST_LARGE_LINES (lines + more)) TooLong line
    ≡ Some (record { kind = TooLong; line = line })
lines_pass lines more line past =
    let passes : nat_lt MOST_LARGE_LINES (lines + more) ≡ true =
    lt-ltb MOST_LARGE_LINES (lines + more) past in
    rw passes refl

-- ---- what each call does

pub memory_stops : (test : PieceTest) (pieces : List Piece) (before : ExpansionState → Type 0)
    → StopsAt test pieces before (record { kind = OutOfMemory; line = 0 })
memory_stops test pieces before = λ state here. refl

pub wait_leads : (taker : LoopMarks) (tally : Tally) (line : ℕ)
    → taker.lines + 1 ≤ MOST_LARGE_LINES
    → Enters taker.tally tally Waits
    → LeadsOn large_fault_of (WaitIs line ∷ []) (HasEntered taker)
    (HasEntered (record taker { lines = taker.lines + 1; tally = tally }))
wait_leads taker tally line room takes = λ state h.
    let lines_are = h.lines in
    let fits = lines_fit (lines_of state.tree) 1 line (omega (arith, lines_are, room)) in (
      after_piece state (WaitIs line),
      piece_taken large_fault_of state (WaitIs line) fits,
      statement_entered taker state (after_piece state (WaitIs line)) Waits taker.work tally refl h
          room (omega arith) h.little_work (open_wait taker state h) takes tt refl,
    )

pub wait_stops : (taker : LoopMarks) (line : ℕ)
    → MOST_LARGE_LINES < taker.lines + 1
    → StopsAt large_fault_of (WaitIs line ∷ []) (HasEntered taker)
    (record { kind = TooLong; line = line })
wait_stops taker line past = λ state h.
    let lines_are = h.lines in
    piece_refused large_fault_of state (WaitIs line) (record { kind = TooLong; line = line })
    (lines_pass (lines_of state.tree) 1 line (omega (arith, lines_are, past)))

pub turn_leads : (taker : LoopMarks) (line : ℕ)
    → taker.turns < MOST_LARGE_TURNS
    → LeadsOn large_fault_of (TurnBegins line ∷ []) (HasEntered taker)
    (HasEntered (record taker { turns = taker.turns + 1 }))
turn_leads taker line room = λ state h.
    let turns_are = h.turns in
    let few : nat_le MOST_LARGE_TURNS state.turns ≡ false =
    lt-leb MOST_LARGE_TURNS state.turns (omega (arith, turns_are, room)) in (
      after_piece state (TurnBegins line),
      piece_taken large_fault_of state (TurnBegins line) (rw few refl),
      turn_entered taker state line h (omega (arith, room)),
    )

pub turn_stops : (taker : LoopMarks) (line : ℕ)
    → MOST_LARGE_TURNS ≤ taker.turns
    → StopsAt large_fault_of (TurnBegins line ∷ []) (HasEntered taker)
    (record { kind = TooManyTurns; line = line })
turn_stops taker line past = λ state h.
    let turns_are = h.turns in
    let many : nat_le MOST_LARGE_TURNS state.turns ≡ true =
    le-leb MOST_LARGE_TURNS state.turns (omega (arith, turns_are, past)) in
    piece_refused large_fault_of state (TurnBegins line)
    (record { kind = TooManyTurns; line = line }) (rw many refl)

-- a `work`
pub work_leads : (taker : LoopMarks) (tally : Tally) (cost line : ℕ)
    → taker.lines + 1 ≤ MOST_LARGE_LINES
    → taker.work + cost ≤ MOST_WORK
    → Enters taker.tally tally (Works cost)
    → LeadsOn large_fault_of (WorkIs cost line ∷ []) (HasEntered taker)
    (HasEntered (record taker {
      lines = taker.lines + 1;
      work = taker.work + cost;
      tally = tally;
    }))
work_leads taker tally cost line room little takes = λ state h.
    let lines_are = h.lines in
    let work_is = h.work in
    let light : nat_lt MOST_WORK (work_of state.tree.marks + cost) ≡ false =
    le-ltb MOST_WORK (work_of state.tree.marks + cost) (omega (arith, work_is, little)) in
    let fits = lines_fit (lines_of state.tree) 1 line (omega (arith, lines_are, room)) in (
      after_piece state (WorkIs cost line),
      piece_taken large_fault_of state (WorkIs cost line) (rw light fits),
      statement_entered taker state (after_piece state (WorkIs cost line)) (Works cost)
          (taker.work + cost) tally refl h room (omega arith) little (open_work taker state cost h)
          takes tt refl,
    )

pub work_heavy : (taker : LoopMarks) (cost line : ℕ)
    → MOST_WORK < taker.work + cost
    → StopsAt large_fault_of (WorkIs cost line ∷ []) (HasEntered taker)
    (record { kind = WorkTooLarge; line = line })
work_heavy taker cost line past = λ state h.
    let work_is = h.work in
    let heavy : nat_lt MOST_WORK (work_of state.tree.marks + cost) ≡ true =
    lt-ltb MOST_WORK (work_of state.tree.marks + cost) (omega (arith, work_is, past)) in
    piece_refused large_fault_of state (WorkIs cost line)
    (record { kind = WorkTooLarge; line = line }) (rw heavy refl)

pub work_stops : (taker : LoopMarks) (cost line : ℕ)
    → taker.work + cost ≤ MOST_WORK
    → MOST_LARGE_LINES < taker.lines + 1
    → StopsAt large_fault_of (WorkIs cost line ∷ []) (HasEntered taker)
    (record { kind = TooLong; line = line })
work_stops taker cost line little past = λ state h.
    let lines_are = h.lines in
    let work_is = h.work in
    let light : nat_lt MOST_WORK (work_of state.tree.marks + cost) ≡ false =
    le-ltb MOST_WORK (work_of state.tree.marks + cost) (omega (arith, work_is, little)) in
    let passes = lines_pass (lines_of state.tree) 1 line (omega (arith, lines_are, past)) in
    piece_refused large_fault_of state (WorkIs cost line)
    (record { kind = TooLong; line = line }) (rw light passes)

-- ---- a block that opens

-- behind its `{`
block_entered : (taker : LoopMarks) (blocks : Vec OpenBlock Global) (items : List Item)
    (tally : Tally) (state next : ExpansionState) (block : OpenBlock) (mark : Mark)
    → next.turns ≡ state.turns
    → next.names ≡ state.names
    → next.items ≡ items
    → length items ≤ MOST_TASK_ITEMS
    → next.tree ≡ record {
      blocks = block_seen block ∷ state.tree.blocks;
      marks = state.tree.marks ++ mark ∷ [];
    }
    → blocks.items ≡ taker.blocks.items ++ block ∷ []
    → HasEntered taker state
    → taker.lines + 2 ≤ MOST_LARGE_LINES
    → work_of (mark ∷ []) ≡ 0
    → AreOpen (block_seen block ∷ state.tree.blocks) (state.tree.marks ++ mark ∷ [])
    → Enters taker.tally tally mark
    → IsOwn state.items mark
    → items_behind state.items mark ≡ items
    → HasEntered (record taker {
      lines = taker.lines + 2;
      blocks = blocks;
      items = items;
      tally = tally;
    }) next
block_entered taker blocks items tally state next block mark turns names is_items few tree pushed h
    room no_work open_are takes own behind =
    let marks_are = ap (λ (t : TreeSoFar). t.marks) tree in
    let blocks_are = ap (λ (t : TreeSoFar). t.blocks) tree in
    let long = length-append state.tree.marks (mark ∷ []) in
    let lines_are = h.lines in
    let work_is = h.work in
    let more = work_more state.tree.marks mark in
    record {
      turns = turns ∙ h.turns;
      few_turns = h.few_turns;
      lines = ap lines_of tree ∙ omega (arith, long, lines_are);
      few_lines = room;
      work = ap work_of marks_are ∙ omega (arith, more, work_is, no_work);
      little_work = h.little_work;
      names = names ∙ h.names;
      few_names = h.few_names;
      items = is_items;
      few_items = few;
      blocks = blocks_are
          ∙ ap (λ (bs : List Block). block_seen block ∷ bs) h.blocks
          ∙ sym (ap blocks_seen pushed ∙ seen_push taker.blocks.items block);
      open_are = subst (λ (t : TreeSoFar). AreOpen t.blocks t.marks) (sym tree) open_are;
      tallies = subst (λ (t : TreeSoFar). Tallies tally (last_moment t.marks)) (sym tree)
          (tallied taker.tally tally state.tree.marks mark takes h.tallies);
      prints = subst (λ (t : TreeSoFar). PrintsIn Two tally.printer next.names next.items t.marks)
          (sym tree)
          (subst
          (λ (ns : List (List ℕ)). PrintsIn Two tally.printer ns next.items
          (state.tree.marks ++ mark ∷ []))
          (sym names)
          (printed taker.tally tally state.names state.items next.items state.tree.marks mark takes
          own (behind ∙ sym is_items) h.prints));
    }

-- a group
pub group_leads : (taker : LoopMarks) (blocks : Vec OpenBlock Global) (tally : Tally)
    (line brace_line : ℕ)
    → blocks.items ≡ taker.blocks.items ++ OpenGroup brace_line ∷ []
    → taker.lines + 2 ≤ MOST_LARGE_LINES
    → Enters taker.tally tally GroupBegins
    → LeadsOn large_fault_of (GroupComes line ∷ GroupOpens brace_line ∷ []) (HasEntered taker)
    (HasEntered (record taker { lines = taker.lines + 2; blocks = blocks; tally = tally }))
group_leads taker blocks tally line brace_line pushed room takes = λ state h.
    let lines_are = h.lines in
    let fits = lines_fit (lines_of state.tree) 2 brace_line (omega (arith, lines_are, room)) in (
      after_piece state (GroupOpens brace_line),
      then_pieces large_fault_of state state (GroupComes line) (GroupOpens brace_line ∷ []) refl
          ∙ piece_taken large_fault_of state (GroupOpens brace_line) fits,
      block_entered taker blocks taker.items tally state
          (after_piece state (GroupOpens brace_line)) (OpenGroup brace_line) GroupBegins refl refl
          h.items h.few_items refl pushed h room refl (open_group taker state brace_line h) takes tt
          h.items,
    )

pub group_stops : (taker : LoopMarks) (line brace_line : ℕ)
    → MOST_LARGE_LINES < taker.lines + 2
    → StopsAt large_fault_of (GroupComes line ∷ GroupOpens brace_line ∷ []) (HasEntered taker)
    (record { kind = TooLong; line = brace_line })
group_stops taker line brace_line past = λ state h.
    let lines_are = h.lines in
    let passes = lines_pass (lines_of state.tree) 2 brace_line (omega (arith, lines_are, past)) in
    then_pieces large_fault_of state state (GroupComes line) (GroupOpens brace_line ∷ []) refl
    ∙ piece_refused large_fault_of state (GroupOpens brace_line)
    (record { kind = TooLong; line = brace_line }) passes

-- a task
pub task_leads : (taker : LoopMarks) (blocks : Vec OpenBlock Global) (tally : Tally)
    (undeferred : Bool) (line : ℕ)
    → blocks.items ≡ taker.blocks.items ++ OpenTask line ∷ []
    → taker.lines + 2 ≤ MOST_LARGE_LINES
    → Enters taker.tally tally (Begins undeferred taker.items)
    → LeadsOn large_fault_of (TaskOpens undeferred line ∷ []) (HasEntered taker)
    (HasEntered (record taker {
      lines = taker.lines + 2;
      blocks = blocks;
      items = [];
      tally = tally;
    }))
task_leads taker blocks tally undeferred line pushed room takes = λ state h.
    let lines_are = h.lines in
    let fits = lines_fit (lines_of state.tree) 2 line (omega (arith, lines_are, room)) in (
      after_piece state (TaskOpens undeferred line),
      piece_taken large_fault_of state (TaskOpens undeferred line) fits,
      block_entered taker blocks [] tally state (after_piece state (TaskOpens undeferred line))
          (OpenTask line) (Begins undeferred state.items) refl refl refl (omega arith) refl pushed h
          room refl (open_task taker state undeferred line h)
          (subst (λ (items : List Item). Enters taker.tally tally (Begins undeferred items))
          (sym h.items) takes)
          refl refl,
    )

pub task_stops : (taker : LoopMarks) (undeferred : Bool) (line : ℕ)
    → MOST_LARGE_LINES < taker.lines + 2
    → StopsAt large_fault_of (TaskOpens undeferred line ∷ []) (HasEntered taker)
    (record { kind = TooLong; line = line })
task_stops taker undeferred line past = λ state h.
    let lines_are = h.lines in
    piece_refused large_fault_of state (TaskOpens undeferred line)
    (record { kind = TooLong; line = line })
    (lines_pass (lines_of state.tree) 2 line (omega (arith, lines_are, past)))

-- ---- a depend item

-- whether an item can follow, where it stands
full_of : (taker : LoopMarks) (state : ExpansionState)
    → HasEntered taker state
    → is_full (length state.items) (length state.names)
    ≡ is_full (length taker.items) (length taker.names)
full_of taker state h =
    ap (λ (items : List Item). is_full (length items) (length state.names)) h.items
    ∙ ap (λ (names : List (List ℕ)). is_full (length taker.items) (length names)) h.names

room_left : (taker : LoopMarks)
    → is_full (length taker.items) (length taker.names) ≡ false
    → (length taker.items < MOST_TASK_ITEMS) × (length taker.names < MOST_LARGE_ITEMS)
room_left taker room =
    let items = nat_le MOST_TASK_ITEMS (length taker.items) in
    let names = nat_le MOST_LARGE_ITEMS (length taker.names) in
    let parts = or_parts items names room in (
      leb-false MOST_TASK_ITEMS (length taker.items) parts.0,
      leb-false MOST_LARGE_ITEMS (length taker.names) parts.1,
    )

pub item_leads : (taker : LoopMarks) (names : List (List ℕ)) (items : List Item)
    (printer : Option Printer) (place : Place)
    → names ≡ with_name taker.names place.location
    → items ≡ taker.items
    ++ record { kind = place.kind; name = number_of_name taker.names place.location } ∷ []
    → is_full (length taker.items) (length taker.names) ≡ false
    → place.index_fits ≡ true
    → PrintsNamed place.kind place.location taker.tally.printer printer
    → LeadsOn large_fault_of (ItemComes place ∷ []) (HasEntered taker)
    (HasEntered (record taker {
      names = names;
      items = items;
      tally = record taker.tally { printer = printer };
    }))
item_leads taker names items printer place names_are items_are room fits prints =
    λ state h.
    let few = room_left taker room in
    let item : Item = record {
      kind = place.kind;
      name = number_of_name taker.names place.location;
    } in
    let one = ap (λ (xs : List Item). length xs) items_are in
    let long = length-append taker.items (item ∷ []) in
    let name = ap (λ (xs : List (List ℕ)). length xs) names_are in (
      after_piece state (ItemComes place),
      piece_taken large_fault_of state (ItemComes place) (rw (full_of taker state h ∙ room, fits) refl),
      record {
        turns = h.turns;
        few_turns = h.few_turns;
        lines = h.lines;
        few_lines = h.few_lines;
        work = h.work;
        little_work = h.little_work;
        names = ap (λ (xs : List (List ℕ)). with_name xs place.location) h.names ∙ sym names_are;
        few_names = omega (arith, name, one_name_more taker.names place.location, few.1);
        items = ap
            (λ (xs : List Item). xs
            ++ record { kind = place.kind; name = number_of_name state.names place.location } ∷ [])
            h.items
            ∙ ap
            (λ (xs : List (List ℕ)). taker.items
            ++ record { kind = place.kind; name = number_of_name xs place.location } ∷ [])
            h.names
            ∙ sym items_are;
        few_items = omega (arith, one, long, few.0);
        blocks = h.blocks;
        open_are = h.open_are;
        tallies = still_tallies taker.tally printer (last_moment state.tree.marks) h.tallies;
        prints = prints Two state.names state.items state.tree.marks h.prints;
      },
    )

pub length_of_none : {X : Type 0} (xs : List X) → xs ≡ [] → length xs ≡ 0
length_of_none xs none = ap (λ ys. length ys) none

-- ---- the end of a block

popped_blocks : (taker : LoopMarks) (blocks : List OpenBlock) (block : OpenBlock)
    (state : ExpansionState)
    → taker.blocks.items ≡ blocks ++ block ∷ []
    → HasEntered taker state
    → state.tree.blocks ≡ block_seen block ∷ blocks_seen blocks
popped_blocks taker blocks block state popped h =
    h.blocks ∙ ap blocks_seen popped ∙ seen_push blocks block

no_end_work : (block : Block) → work_of (end_mark_of block ∷ []) ≡ 0
no_end_work (TaskBlock line) = refl
no_end_work (GroupBlock line) = refl

-- what ends a block takes no items
no_end_items : (block : Block) (items : List Item)
    → IsOwn items (end_mark_of block) × (items_behind items (end_mark_of block) ≡ items)
no_end_items (TaskBlock line) items = (tt, refl)
no_end_items (GroupBlock line) items = (tt, refl)

pub can_end : (taker : LoopMarks) (blocks : List OpenBlock) (block : OpenBlock)
    (state : ExpansionState)
    → taker.blocks.items ≡ blocks ++ block ∷ []
    → HasEntered taker state
    → CanTally taker.tally (end_mark_of (block_seen block))
can_end taker blocks block state popped h =
    let mark : Mark = end_mark_of (block_seen block) in
    let more = work_more state.tree.marks mark in
    let none = no_end_work (block_seen block) in
    let work_is = h.work in
    let little = h.little_work in
    can_tally taker.tally state.tree.marks (blocks_seen blocks) mark h.tallies
    (open_end taker state (block_seen block) (blocks_seen blocks) h
    (popped_blocks taker blocks block state popped h))
    (omega (arith, more, none, work_is, little)) (few_marks taker state h)

pub end_leads : (taker : LoopMarks) (blocks : Vec OpenBlock Global) (tally : Tally)
    (block : OpenBlock)
    → taker.blocks.items ≡ blocks.items ++ block ∷ []
    → Enters taker.tally tally (end_mark_of (block_seen block))
    → LeadsOn large_fault_of (BlockEnds ∷ []) (HasEntered taker)
    (HasEntered (record taker { blocks = blocks; tally = tally }))
end_leads taker blocks tally block popped takes = λ state h.
    let mark : Mark = end_mark_of (block_seen block) in
    let inner : List Block = blocks_seen blocks.items in
    let before = popped_blocks taker blocks.items block state popped h in
    let tree : (after_piece state BlockEnds).tree
    ≡ record { blocks = inner; marks = state.tree.marks ++ mark ∷ [] } =
    ap (λ (bs : List Block). after_end_of bs state.tree.marks) before in
    let long = length-append state.tree.marks (mark ∷ []) in
    let fewer = ap (λ (bs : List Block). length bs) before in
    let lines_are = h.lines in
    let work_is = h.work in
    let more = work_more state.tree.marks mark in
    let none = no_end_work (block_seen block) in (
      after_piece state BlockEnds,
      piece_taken large_fault_of state BlockEnds refl,
      record {
        turns = h.turns;
        few_turns = h.few_turns;
        lines = ap lines_of tree ∙ omega (arith, long, fewer, lines_are);
        few_lines = h.few_lines;
        work = ap (λ (t : TreeSoFar). work_of t.marks) tree ∙ omega (arith, more, work_is, none);
        little_work = h.little_work;
        names = h.names;
        few_names = h.few_names;
        items = h.items;
        few_items = h.few_items;
        blocks = ap (λ (t : TreeSoFar). t.blocks) tree;
        open_are = subst (λ (t : TreeSoFar). AreOpen t.blocks t.marks) (sym tree)
            (open_end taker state (block_seen block) inner h before);
        tallies = subst (λ (t : TreeSoFar). Tallies tally (last_moment t.marks)) (sym tree)
            (tallied taker.tally tally state.tree.marks mark takes h.tallies);
        prints = subst
            (λ (t : TreeSoFar). PrintsIn Two tally.printer state.names state.items t.marks)
            (sym tree)
            (printed taker.tally tally state.names state.items state.items state.tree.marks mark
            takes (no_end_items (block_seen block) state.items).0
            (no_end_items (block_seen block) state.items).1 h.prints);
      },
    )

-- one item too many
pub item_many : (taker : LoopMarks) (place : Place)
    → is_full (length taker.items) (length taker.names) ≡ true
    → StopsAt large_fault_of (ItemComes place ∷ []) (HasEntered taker)
    (record { kind = TooManyItems; line = place.line })
item_many taker place past = λ state h.
    piece_refused large_fault_of state (ItemComes place)
    (record { kind = TooManyItems; line = place.line })
    (rw (full_of taker state h ∙ past) refl)

-- an index out of range
pub item_far : (taker : LoopMarks) (place : Place)
    → is_full (length taker.items) (length taker.names) ≡ false
    → place.index_fits ≡ false
    → StopsAt large_fault_of (ItemComes place ∷ []) (HasEntered taker)
    (record { kind = BadNumber; line = place.index_line })
item_far taker place room far = λ state h.
    piece_refused large_fault_of state (ItemComes place)
    (record { kind = BadNumber; line = place.index_line })
    (rw (full_of taker state h ∙ room, far) refl)

-- the word `task`
pub word_leads : (taker : LoopMarks) (line : ℕ)
    → LeadsOn large_fault_of (TaskComes line ∷ []) (HasEntered taker) (HasEntered taker)
word_leads taker line = λ state h.
    (state, piece_taken large_fault_of state (TaskComes line) refl, h)
