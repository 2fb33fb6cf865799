-- Where the text ends: it is whole, or it ends too early.
use Rattle.std.proofs.Common.{◌≡◌, ℕ, Bool, List, [], ◌∷◌, length, Some, None, sym, ap}
use Rattle.std.proofs.Common.{subst, ◌∙◌, codes}
use Rattle.std.specs.Prelude.{fold}
use Rattle.std.specs.List.{flat_map}
use Rattle.std.proofs.lemmas.List.{append-nil}
use Rattle.program_text.specs.declared.fault.ReadFault.{ReadFault}
use Rattle.program_text.specs.Marks.{Mark}
use Rattle.program_text.specs.Tokens.{Token, texts}
use Rattle.task_program.specs.declared.place.Place.{Place}
use Rattle.task_program.specs.declared.place.Place.TheVariants.{Header, Version, Statement}
use Rattle.task_program.specs.Faults.{State, end_at}
use Rattle.task_program.specs.FirstFault.IsFirstFault.{AtEnd}
use Rattle.task_program.specs.PlainGrammar.{Written, texts_of, names_of_piece}
use Rattle.task_program.specs.Names.{with_name}
use Rattle.task_program.specs.TreeSoFar.{Block}
use Rattle.task_program.specs.FirstPlainFault.{IsSentence}
use Rattle.task_program.proofs.FoundPlaces.{Explained}
use Rattle.task_program.specs.ExpandsTo.{state_after_tree}
use Rattle.task_program.proofs.PlainTrees.{HasAnyTree, any_tree_of_plain}
use Rattle.task_program.proofs.Begun.{LengthAt, is_not_viable, viable_next, whole_now}
use Rattle.task_program.proofs.Tallies.{Tally}
use Rattle.task_program.proofs.FaultFound.{end_by, whole_ends, texts_long}
use Rattle.task_program.proofs.Machines.{EndsSo}
use Rattle.large_text.specs.declared.limits.TheConstants.{MOST_LARGE_TOKEN_BYTES}
use Rattle.large_text.specs.declared.limits.TheConstants.{MOST_LARGE_NESTING, MOST_TASK_ITEMS}
use Rattle.large_text.specs.declared.reader.MarkReader.{MarkReader}
use Rattle.large_text.specs.LargeReading.{state_of}
use Rattle.task_program.proofs.Shapes.{FollowsAt, nothing_follows}
use Rattle.large_text.specs.LargeTrees.{HasLargeProgram, large_rules, plain_program, too_many_large}
use Rattle.large_text.specs.LargeTrees.{IsLargeRightWhole, IsLargeFirstFault}
use Rattle.large_text.specs.LoopMarked.{AreOpen}
use Rattle.large_text.proofs.Sound.{IsBehind, IsSound}
use Rattle.large_text.proofs.OneTree.{names_by_pieces, pieces_of}
use Rattle.large_text.proofs.Open.{none_open}

names_of_tree : (written : List Written) (names : List (List ℕ)) (marks : List Mark)
    (h : HasAnyTree (flat_map texts_of written) marks)
    → names ≡ fold with_name [] (flat_map names_of_piece written)
    → names ≡ (state_after_tree h.tree).names
names_of_tree written names marks h is =
    let pieces = pieces_of (flat_map texts_of written) marks h in
    is ∙ names_by_pieces written pieces.written pieces.texts_are ∙ sym pieces.names_are

whole_at : (before : List (List ℕ)) (state : State) (place : Place) (blocks : List Block)
    (marks : List Mark) (line : ℕ)
    → Explained before
    (record state { place = place; tree = record { blocks = blocks; marks = marks } })
    → AreOpen blocks marks
    → end_at place blocks line ≡ None
    → HasLargeProgram before (plain_program state.names marks)
whole_at before state Statement [] marks line e o h =
    let parts = e.0 in
    let explains = e.1 in
    let nested = none_open marks o in
    let names_are = explains.names_are ∙ ap (λ (ns : List (List ℕ)). fold with_name [] ns)
    (append-nil (flat_map names_of_piece parts.written)) in
    let whole =
    any_tree_of_plain parts.written state.names marks explains.means names_are nested in
    record {
      tree = record {
        version = parts.version;
        body = whole.body;
        room = whole.room;
        tree = whole.tree;
        version_is_one = explains.version;
        header = explains.spelled
            ∙ ap (λ (ts : List (List ℕ)). codes "omptasks" ∷ parts.version ∷ ts)
            (append-nil (flat_map texts_of parts.written) ∙ sym whole.texts_are);
        spelled = whole.spelled;
        marks_are = whole.marks_are;
        nested = nested;
      };
      program_is = ap (λ (ns : List (List ℕ)). plain_program ns marks)
          (names_of_tree parts.written state.names marks whole names_are);
    }
whole_at before state Statement (block ∷ blocks) marks line e o h = absurd cc
whole_at before state Header blocks marks line e o h = absurd cc
whole_at before state Version blocks marks line e o h = absurd cc
whole_at before state _ blocks marks line e o h = absurd cc

follows_none : (place : Place) (has_if : Bool) (blocks : List Block) (line : ℕ)
    → end_at place blocks line ≡ None
    → FollowsAt place has_if (length blocks) []
follows_none Statement has_if [] line h = nothing_follows has_if
follows_none Statement has_if (block ∷ blocks) line h = absurd cc
follows_none Header has_if blocks line h = absurd cc
follows_none Version has_if blocks line h = absurd cc
follows_none _ has_if blocks line h = absurd cc

-- where the text may end, it is whole
pub is_whole : (before : List Token) (state : State) (line : ℕ)
    → IsBehind before state
    → end_at state.place state.tree.blocks line ≡ None
    → HasLargeProgram (texts before) (plain_program state.names state.tree.marks)
    × IsSentence (texts before)
is_whole before state line b h =
    let follows = b.began.follows []
    (follows_none state.place state.head.has_if state.tree.blocks line h) in (
      whole_at (texts before) state state.place state.tree.blocks state.tree.marks line b.explained
          b.open_are h,
      subst IsSentence (append-nil (texts before)) follows,
    )

-- and where it may not, it ends too early
pub ends_so : (before : List Token) (state : State) (line : ℕ) (fault : ReadFault)
    → IsBehind before state
    → end_at state.place state.tree.blocks line ≡ Some fault
    → EndsSo large_rules before line fault
ends_so before state line fault b h = (
  λ s. whole_ends state.place state.tree.blocks line fault (whole_now (texts before) state b.began s)
      h,
  end_by MOST_LARGE_TOKEN_BYTES MOST_LARGE_NESTING MOST_TASK_ITEMS too_many_large before state.place
      state.head.has_if state.tree.blocks line fault
      (subst (λ (n : ℕ). LengthAt state.place n) (texts_long before) b.began.length_is)
      (ap (λ (t : Tally). t.braces) b.tally_is)
      (viable_next (texts before) state (codes "}") b.began)
      (is_not_viable (texts before) state (codes "}") b.began) h,
)

pub is_whole_text : (before : List Token) (marks : List Mark) (reader : MarkReader) (line : ℕ)
    → IsSound before marks reader
    → end_at reader.place (state_of reader []).tree.blocks line ≡ None
    → HasLargeProgram (texts before) (plain_program reader.names marks)
    × IsLargeRightWhole before
is_whole_text before marks reader line r h =
    let whole = is_whole before (state_of reader marks) line r.behind h in
    (whole.0, record { sentence = whole.1; right = r.right })

pub ends_early : (before : List Token) (marks : List Mark) (reader : MarkReader) (line : ℕ)
    (fault : ReadFault)
    → IsSound before marks reader
    → end_at reader.place (state_of reader []).tree.blocks line ≡ Some fault
    → IsLargeFirstFault before line fault
ends_early before marks reader line fault r h =
    let early = ends_so before (state_of reader marks) line fault r.behind h in
    AtEnd before line fault r.right early.0 early.1
