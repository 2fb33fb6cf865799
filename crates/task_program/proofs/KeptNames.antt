-- Names that grow, and marks that come last, keep what a program keeps.
use Rattle.std.proofs.Common.{◌≡◌, ℕ, ◌+◌, ◌-◌, ◌<◌, ◌≤◌, Bool, true, false, ◌&&◌, cond, List}
use Rattle.std.proofs.Common.{[], ◌∷◌, ◌++◌, length, map, append_assoc, Option, Some, None, Result}
use Rattle.std.proofs.Common.{Ok, Err, refl, sym, ap, subst, ◌∙◌, arith, codes}
use Rattle.std.specs.Prelude.{All, fold, nat_lt}
use Rattle.std.specs.List.{flat_map, list_any}
use Rattle.std.specs.Str.{bytes_eq}
use Rattle.std.proofs.lemmas.Bool.{leb-true, ltb-true}
use Rattle.std.proofs.lemmas.List.{append-nil}
use Rattle.std.proofs.Math.ListN.{get_or-append}
use Rattle.std.proofs.lemmas.List.Sums.{sum_by-append}
use Rattle.std.proofs.lemmas.List.Concat.{flat_map-append}
use Rattle.std.proofs.lemmas.List.Elements.{All-head, All-tail, All-push, All-weaker}
use Rattle.program_text.specs.declared.fault.ReadKind.{ReadKind}
use Rattle.program_text.specs.declared.fault.ReadFault.{ReadFault}
use Rattle.program_text.specs.declared.statement.DependKind.{DependKind}
use Rattle.program_text.specs.declared.statement.Item.{Item}
use Rattle.task_program.specs.declared.version.Version.TheVariants.{Two}
use Rattle.loop_text.specs.declared.loops.Index.{Index}
use Rattle.program_text.specs.Marks.{Mark}
use Rattle.program_text.specs.Marks.Mark.{Begins}
use Rattle.program_text.specs.Limits.{tasks_begun, segments_opened, work_done, tasks_of}
use Rattle.program_text.specs.Limits.{segments_of, work_of}
use Rattle.program_text.specs.declared.limits.TheConstants.{MOST_TOKEN_BYTES, MOST_TASKS}
use Rattle.program_text.specs.declared.limits.TheConstants.{MOST_SEGMENTS, MOST_ITEMS, MOST_WORK}
use Rattle.program_text.specs.declared.limits.TheConstants.{LARGEST_INDEX}
use Rattle.task_program.specs.Names.{with_name}
use Rattle.program_text.specs.Words.{type_word}
use Rattle.task_program.specs.Canonical.{name_of, item_separator, items_after, depend_clauses}
use Rattle.task_program.specs.Canonical.{line_of_mark, header_line, solid_bytes}
use Rattle.task_program.specs.Programs.{open_after_mark, open_blocks, IsNamed, FitsLimits, IsName}
use Rattle.task_program.specs.Programs.{IsLocation, names_of_mark}
use Rattle.task_program.specs.Programs.IsLocation.{Plain, Indexed}
use Rattle.task_program.specs.TreeSoFar.{Block}
use Rattle.task_program.specs.Expansion.{Piece, is_negative, size_of, index_fits}
use Rattle.task_program.specs.Expansion.{subscript_of}
use Rattle.task_program.specs.SecondPass.{unless_at_fault}
use Rattle.task_program.specs.Expanded.{ExpansionState, after_piece, after_pieces}
use Rattle.task_program.specs.SecondPass.{PieceTest, then_take, take_pieces_by}
use Rattle.task_program.specs.PieceFaults.{fault_if, fault_at}
use Rattle.task_program.proofs.Keeping.{with_one}
use Rattle.task_program.proofs.Sound.{is_task, opens}
use Rattle.task_program.proofs.Expanding.{in_turn}
use Rattle.program_text.proofs.Bools.{bool_cases}

-- what was expanded so far keeps what a program keeps, with blocks open
pub record IsKept (state : ExpansionState) : Type 0 where
  pub nested : open_blocks state.tree.marks ≡ Some (map is_task state.tree.blocks)
  pub marks_fit : All (FitsLimits (length state.names)) state.tree.marks
  pub items_fit : All (IsNamed (length state.names)) state.items
  pub few_items : length state.items ≤ MOST_ITEMS
  pub names_fit : All IsLocation state.names
  pub tasks : tasks_of state.tree.marks ≤ MOST_TASKS
  pub segments : segments_of state.tree.marks ≤ MOST_SEGMENTS
  pub work : work_of state.tree.marks ≤ MOST_WORK
  pub ordered : state.names
      ≡ fold with_name [] (flat_map (names_of_mark state.names) state.tree.marks
      ++ map (name_of state.names) state.items)
  pub bytes_are : state.bytes
      ≡ solid_bytes (header_line Two ++ flat_map (line_of_mark state.names) state.tree.marks)
      + length state.tree.blocks
  pub bytes : state.bytes ≤ MOST_TOKEN_BYTES

-- ---- names that grow change nothing before

name_stays : (names : List (List ℕ)) (name : List ℕ) (item : Item)
    → IsNamed (length names) item
    → name_of (with_name names name) item ≡ name_of names item
name_stays names name item below =
    bool_cases (list_any (bytes_eq name) names)
    (λ known. rw known refl)
    (λ new. rw new (get_or-append names (name ∷ []) [] item.name below))

pub names_stay : (names : List (List ℕ)) (name : List ℕ) (items : List Item)
    → All (IsNamed (length names)) items
    → map (name_of (with_name names name)) items ≡ map (name_of names) items
names_stay names name [] all = refl
names_stay names name (item ∷ items) all =
    ap (λ (n : List ℕ). n ∷ map (name_of (with_name names name)) items)
    (name_stays names name item (All-head (IsNamed (length names)) item items all))
    ∙ ap (λ (ns : List (List ℕ)). name_of names item ∷ ns)
    (names_stay names name items (All-tail (IsNamed (length names)) item items all))

after_stays : (names : List (List ℕ)) (name : List ℕ) (kind : DependKind) (items : List Item)
    → All (IsNamed (length names)) items
    → items_after (with_name names name) kind items ≡ items_after names kind items
after_stays names name kind [] all = refl
after_stays names name kind (item ∷ items) all =
    ap
    (λ (n : List ℕ).
    item_separator kind item.kind ++ (n ++ items_after (with_name names name) item.kind items))
    (name_stays names name item (All-head (IsNamed (length names)) item items all))
    ∙ ap (λ (ts : List ℕ). item_separator kind item.kind ++ (name_of names item ++ ts))
    (after_stays names name item.kind items (All-tail (IsNamed (length names)) item items all))

abbrev type_text : DependKind → List ℕ
type_text kind = type_word kind

abbrev if_text : Bool → List ℕ
if_text undeferred = cond undeferred (codes " if(0)") []

clauses_stay : (names : List (List ℕ)) (name : List ℕ) (items : List Item)
    → All (IsNamed (length names)) items
    → depend_clauses (with_name names name) items ≡ depend_clauses names items
clauses_stay names name [] all = refl
clauses_stay names name (item ∷ items) all =
    ap (λ (ts : List ℕ). codes " depend(" ++ (type_text item.kind ++ (codes ": " ++ ts)))
    (ap (λ (n : List ℕ). n ++ items_after (with_name names name) item.kind items)
    (name_stays names name item (All-head (IsNamed (length names)) item items all))
    ∙ ap (λ (ts : List ℕ). name_of names item ++ ts)
    (after_stays names name item.kind items (All-tail (IsNamed (length names)) item items all)))

-- the items of the mark name some of so many names
abbrev pub HasNames : ℕ → Mark → Type 0
HasNames names (Begins undeferred items) = All (IsNamed names) items
HasNames names _ = Unit {0}

pub has_names : (names : ℕ) (mark : Mark) → FitsLimits names mark → HasNames names mark
has_names names (Begins undeferred items) h = h.1
has_names names _ h = tt

pub has_names_more : (few many : ℕ) → few ≤ many → (mark : Mark) → HasNames few mark
    → HasNames many mark
has_names_more few many le (Begins undeferred items) h =
    All-weaker (IsNamed few) (IsNamed many) (λ item below. omega (arith, below)) items h
has_names_more few many le _ h = tt

pub line_stays : (names : List (List ℕ)) (name : List ℕ) (mark : Mark)
    → HasNames (length names) mark
    → line_of_mark (with_name names name) mark ≡ line_of_mark names mark
line_stays names name (Begins undeferred items) h =
    ap (λ (ts : List ℕ). codes "task" ++ ((if_text undeferred) ++ (ts ++ codes " {\n")))
    (clauses_stay names name items h)
line_stays names name _ h = refl

pub lines_stay : (names : List (List ℕ)) (name : List ℕ) (marks : List Mark)
    → All (FitsLimits (length names)) marks
    → flat_map (line_of_mark (with_name names name)) marks ≡ flat_map (line_of_mark names) marks
lines_stay names name [] all = refl
lines_stay names name (mark ∷ marks) all =
    ap (λ (ts : List ℕ). ts ++ flat_map (line_of_mark (with_name names name)) marks)
    (line_stays names name mark
    (has_names (length names) mark (All-head (FitsLimits (length names)) mark marks all)))
    ∙ ap (λ (ts : List ℕ). line_of_mark names mark ++ ts)
    (lines_stay names name marks (All-tail (FitsLimits (length names)) mark marks all))

mention_stays : (names : List (List ℕ)) (name : List ℕ) (mark : Mark)
    → FitsLimits (length names) mark
    → names_of_mark (with_name names name) mark ≡ names_of_mark names mark
mention_stays names name (Begins undeferred items) h = names_stay names name items h.1
mention_stays names name _ h = refl

pub mentions_stay : (names : List (List ℕ)) (name : List ℕ) (marks : List Mark)
    → All (FitsLimits (length names)) marks
    → flat_map (names_of_mark (with_name names name)) marks ≡ flat_map (names_of_mark names) marks
mentions_stay names name [] all = refl
mentions_stay names name (mark ∷ marks) all =
    ap (λ (ts : List (List ℕ)). ts ++ flat_map (names_of_mark (with_name names name)) marks)
    (mention_stays names name mark (All-head (FitsLimits (length names)) mark marks all))
    ∙ ap (λ (ts : List (List ℕ)). names_of_mark names mark ++ ts)
    (mentions_stay names name marks (All-tail (FitsLimits (length names)) mark marks all))

-- ---- a location

negative_is_some : (minus : Bool) (value by : ℕ)
    → (minus && nat_lt value by) ≡ true
    → 1 ≤ cond minus (cond (nat_lt value by) (by - value) (value - by)) (value + by)
negative_is_some true value by h =
    let below : value < by = ltb-true value by h in rw h (omega (arith, below))
negative_is_some false value by h = absurd cc

pub location_is : (values : List ℕ) (name : List ℕ) (index : Option Index)
    → IsName name
    → index_fits values index ≡ true
    → IsLocation (name ++ subscript_of values index)
location_is values name None is h = subst IsLocation (sym (append-nil name)) (Plain name is)
location_is values name (Some index) is h =
    Indexed name (is_negative values index) (size_of values index) is
    (leb-true (size_of values index) LARGEST_INDEX h)
    (λ negative. negative_is_some index.is_minus _ index.by negative)

-- ---- one piece

pub not_if : (holds : Bool) (kind : ReadKind) (line : ℕ)
    → fault_if holds kind line ≡ None
    → holds ≡ false
not_if true kind line h = absurd cc
not_if false kind line h = refl

pub not_first : (holds : Bool) (fault other : Option ReadFault)
    → cond holds fault other ≡ None
    → (fault ≡ None → ⊥)
    → (holds ≡ false) × (other ≡ None)
not_first true fault other h some = absurd (some h)
not_first false fault other h some = (refl, h)

pub is_fault : (kind : ReadKind) (line : ℕ) → fault_at kind line ≡ None → ⊥
is_fault kind line h = absurd cc

from_fault : (fault : Option ReadFault) (after : ExpansionState)
    (later : ExpansionState → Result ExpansionState ReadFault) (next : ExpansionState)
    → then_take (unless_at_fault fault after) later ≡ Ok next
    → (fault ≡ None) × (later after ≡ Ok next)
from_fault (Some fault) after later next h = absurd cc
from_fault None after later next h = (refl, h)

pub take_pieces_first : (test : PieceTest) (state next : ExpansionState) (piece : Piece)
    (pieces : List Piece)
    → take_pieces_by test state (piece ∷ pieces) ≡ Ok next
    → (test state piece ≡ None)
    × (take_pieces_by test (after_piece state piece) pieces ≡ Ok next)
unfolding take_pieces_by
take_pieces_first test state next piece pieces h =
    from_fault (test state piece) (after_piece state piece)
    (λ s. take_pieces_by test s pieces) next h

split_ok : (read : Result ExpansionState ReadFault)
    (later : ExpansionState → Result ExpansionState ReadFault) (next : ExpansionState)
    → then_take read later ≡ Ok next
    → (middle : ExpansionState) × (read ≡ Ok middle) × (later middle ≡ Ok next)
split_ok (Ok middle) later next h = (middle, refl, h)
split_ok (Err fault) later next h = absurd cc

pub take_pieces_halves : (test : PieceTest) (state next : ExpansionState) (one other : List Piece)
    → take_pieces_by test state (one ++ other) ≡ Ok next
    → (middle : ExpansionState)
    × (take_pieces_by test state one ≡ Ok middle)
    × (take_pieces_by test middle other ≡ Ok next)
take_pieces_halves test state next one other h =
    split_ok (take_pieces_by test state one) (λ s. take_pieces_by test s other) next
    (sym (in_turn test state one other) ∙ h)

pub at_end : (test : PieceTest) (state next : ExpansionState)
    → take_pieces_by test state [] ≡ Ok next
    → state ≡ next
unfolding take_pieces_by
at_end test state next h = cc

pub taken_is : (test : PieceTest) (pieces : List Piece) (state next : ExpansionState)
    → take_pieces_by test state pieces ≡ Ok next
    → next ≡ after_pieces state pieces
taken_is test [] state next h = sym (at_end test state next h)
taken_is test (piece ∷ pieces) state next h =
    taken_is test pieces (after_piece state piece) next
    (take_pieces_first test state next piece pieces h).1

-- ---- a mark more

-- solid bytes of two texts together
pub solid_bytes-append : (one other : List ℕ)
    → solid_bytes (one ++ other) ≡ solid_bytes one + solid_bytes other
solid_bytes-append one other = sum_by-append _ one other

-- one mark more adds the bytes of its line
lines_more : (names : List (List ℕ)) (marks : List Mark) (mark : Mark)
    → solid_bytes (header_line Two ++ flat_map (line_of_mark names) (marks ++ mark ∷ []))
    ≡ solid_bytes (header_line Two ++ flat_map (line_of_mark names) marks)
    + solid_bytes (line_of_mark names mark)
lines_more names marks mark =
    let all : flat_map (line_of_mark names) (marks ++ mark ∷ [])
    ≡ flat_map (line_of_mark names) marks ++ line_of_mark names mark = flat_map-append
    (line_of_mark names) marks (mark ∷ [])
    ∙ ap (λ (ts : List ℕ). flat_map (line_of_mark names) marks ++ ts)
    (append-nil (line_of_mark names mark)) in
    ap (λ (ts : List ℕ). solid_bytes (header_line Two ++ ts)) all
    ∙ ap solid_bytes (sym (append_assoc (header_line Two) (flat_map (line_of_mark names) marks)
    (line_of_mark names mark)))
    ∙ solid_bytes-append (header_line Two ++ flat_map (line_of_mark names) marks)
    (line_of_mark names mark)

mentions_more : (names : List (List ℕ)) (marks : List Mark) (mark : Mark) (items before : List Item)
    → names_of_mark names mark ++ map (name_of names) items ≡ map (name_of names) before
    → flat_map (names_of_mark names) (marks ++ mark ∷ []) ++ map (name_of names) items
    ≡ flat_map (names_of_mark names) marks ++ map (name_of names) before
mentions_more names marks mark items before h =
    ap (λ (ts : List (List ℕ)). ts ++ map (name_of names) items) (flat_map-append
    (names_of_mark names) marks (mark ∷ [])
    ∙ ap (λ (ts : List (List ℕ)). flat_map (names_of_mark names) marks ++ ts)
    (append-nil (names_of_mark names mark)))
    ∙ append_assoc (flat_map (names_of_mark names) marks) (names_of_mark names mark)
    (map (name_of names) items)
    ∙ ap (λ (ts : List (List ℕ)). flat_map (names_of_mark names) marks ++ ts) h

pub record Adds (state : ExpansionState) (mark : Mark) (blocks : List Block) (items : List Item)
    (bytes : ℕ)
    : Type 0 where
  pub nests : open_after_mark (map is_task state.tree.blocks) mark ≡ Some (map is_task blocks)
  pub fits : FitsLimits (length state.names) mark
  pub tasks : tasks_of state.tree.marks + tasks_begun mark ≤ MOST_TASKS
  pub segments : segments_of state.tree.marks + segments_opened mark ≤ MOST_SEGMENTS
  pub work : work_of state.tree.marks + work_done mark ≤ MOST_WORK
  pub items_are : names_of_mark state.names mark ++ map (name_of state.names) items
      ≡ map (name_of state.names) state.items
  pub items_fit : All (IsNamed (length state.names)) items
  pub few_items : length items ≤ MOST_ITEMS
  pub bytes_are : bytes + length state.tree.blocks
      ≡ (state.bytes + solid_bytes (line_of_mark state.names mark)) + length blocks
  pub bytes_fit : bytes ≤ MOST_TOKEN_BYTES

-- one mark more keeps the limits, where it fits in them
pub adds : (state : ExpansionState) (mark : Mark) (blocks : List Block) (items : List Item)
    (bytes : ℕ)
    → IsKept state
    → Adds state mark blocks items bytes
    → IsKept (record {
      turns = state.turns;
      bytes = bytes;
      names = state.names;
      items = items;
      tree = record { blocks = blocks; marks = state.tree.marks ++ mark ∷ [] };
    })
adds state mark blocks items bytes k a = record {
  nested = opens state.tree.marks mark (map is_task state.tree.blocks) k.nested ∙ a.nests;
  marks_fit = All-push (FitsLimits (length state.names)) state.tree.marks mark k.marks_fit a.fits;
  items_fit = a.items_fit;
  few_items = a.few_items;
  names_fit = k.names_fit;
  tasks = omega (arith, with_one tasks_begun state.tree.marks mark, a.tasks);
  segments = omega (arith, with_one segments_opened state.tree.marks mark, a.segments);
  work = omega (arith, with_one work_done state.tree.marks mark, a.work);
  ordered = k.ordered
      ∙ ap (λ (ms : List (List ℕ)). fold with_name [] ms)
      (sym (mentions_more state.names state.tree.marks mark items state.items a.items_are));
  bytes_are = omega (arith, lines_more state.names state.tree.marks mark, k.bytes_are, a.bytes_are);
  bytes = a.bytes_fit;
}
