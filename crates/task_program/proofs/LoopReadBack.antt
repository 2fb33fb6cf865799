-- A tree that stands for a program's marks expands to the program; the canonical text has such a
-- tree.
use Rattle.std.proofs.Common.{◌≡◌, ℕ, suc, ◌+◌, ◌*◌, ◌≤◌, true, false, List, [], ◌∷◌, ◌++◌, length, refl}
use Rattle.std.proofs.Common.{sym, ap, subst, ◌∙◌, arith, codes}
use Rattle.std.specs.Prelude.{All, drop, fold, sum_by}
use Rattle.std.specs.List.{flat_map}
use Rattle.std.proofs.lemmas.List.{append-nil, length-append}
use Rattle.std.proofs.lemmas.List.Sums.{sum_by-append, sum_by-cons}
use Rattle.std.proofs.lemmas.List.Elements.{All-weaker}
use Rattle.task_program.specs.declared.version.Version.{Version}
use Rattle.task_program.specs.declared.version.Version.TheVariants.{One, Two}
use Rattle.program_text.specs.declared.limits.TheConstants.{MOST_TOKEN_BYTES, MOST_NESTING}
use Rattle.program_text.specs.declared.limits.TheConstants.{MOST_CANONICAL_BYTES, MOST_TURNS}
use Rattle.program_text.specs.Marks.{Mark}
use Rattle.program_text.specs.Marks.Mark.{Begins, Works}
use Rattle.task_program.specs.Names.{with_name}
use Rattle.task_program.specs.Canonical.{name_of, line_of_mark, header_line, canonical_text}
use Rattle.task_program.specs.Canonical.{solid_bytes}
use Rattle.task_program.specs.Programs.{IsNamed, FitsLimits, IsName, IsLocation, IsNameIn}
use Rattle.task_program.specs.Programs.{IsProgram}
use Rattle.task_program.specs.Programs.{names_of_mark}
use Rattle.task_program.specs.ProgramMarks.{ProgramMarks}
use Rattle.program_text.specs.Tokens.{Token, texts, tokens_of}
use Rattle.task_program.specs.TreeSoFar.{Block}
use Rattle.task_program.specs.Grammar.{IsShort}
use Rattle.task_program.specs.Expanded.{ExpansionState, empty_expansion}
use Rattle.task_program.specs.ExpandsTo.{state_after_tree, program_of_state, ExpandsTo}
use Rattle.task_program.proofs.Allowed.{with_few_items}
use Rattle.loop_text.specs.Loops.{Tree}
use Rattle.task_program.specs.Grammar.{Spelled}
use Rattle.task_program.specs.Trees.{HasTree}
use Rattle.task_program.specs.Versions.{begins_version, body_of}
use Rattle.task_program.proofs.Nested.{nests}
use Rattle.task_program.proofs.NamesOnce.{AreOnce, once_mentioned}
use Rattle.task_program.proofs.Spelled.{spell, HasName, FitsNames, canonical_spelled, version_text}
use Rattle.task_program.proofs.Spelled.{line_texts_by}
use Rattle.task_program.proofs.ReadBack.{AllShort, HasShort, FitsShort, lines_short}
use Rattle.task_program.proofs.Locations.{with_lines, have_lines, location_written, location_short}
use Rattle.task_program.proofs.KeptNames.{HasNames, has_names}
use Rattle.task_program.proofs.LinesSpelled.{IsLocated, HasLocations, HasNameIn, HasNamesIn, HasMarks}
use Rattle.task_program.proofs.LinesSpelled.{Stands}
use Rattle.task_program.proofs.LinesSpelled.{lines_spelled}
use Rattle.task_program.proofs.LinesExpand.{Prints, Goes, in_range, expands}
use Rattle.task_program.proofs.CanonicalBytes.{text_weighs}

-- ---- each name is a location

mark_located : (names : List (List ℕ)) (mark : Mark)
    → All IsLocation names
    → FitsLimits (length names) mark
    → HasLocations names mark
mark_located names (Works cost) names_fit fits = fits
mark_located names (Begins undeferred items) names_fit fits =
    All-weaker (IsNamed (length names)) (IsLocated names) (λ item below. names_fit item.name [] below) items fits.1
mark_located names _ names_fit fits = tt

marks_located : (names : List (List ℕ)) (marks : List Mark)
    → All IsLocation names
    → All (FitsLimits (length names)) marks
    → All (HasLocations names) marks
marks_located names marks names_fit =
    All-weaker (FitsLimits (length names)) (HasLocations names) (λ mark. mark_located names mark names_fit) marks

-- so its tokens are known, and short

mark_written : (names : List (List ℕ)) (mark : Mark)
    → HasLocations names mark
    → FitsNames (spell false) names mark
mark_written names (Works cost) h = h
mark_written names (Begins undeferred items) h =
    All-weaker (IsLocated names) (HasName (spell false) names) (λ item. location_written (name_of names item)) items h
mark_written names _ h = tt

marks_written : (names : List (List ℕ)) (marks : List Mark)
    → All (HasLocations names) marks
    → All (FitsNames (spell false) names) marks
marks_written names =
    All-weaker (HasLocations names) (FitsNames (spell false) names) (mark_written names)

mark_short : (names : List (List ℕ)) (mark : Mark)
    → HasLocations names mark
    → FitsShort (spell false) names mark
mark_short names (Works cost) h = h
mark_short names (Begins undeferred items) h =
    All-weaker (IsLocated names) (HasShort (spell false) names) (λ item. location_short (name_of names item)) items h
mark_short names _ h = tt

marks_short : (names : List (List ℕ)) (marks : List Mark)
    → All (HasLocations names) marks
    → All (FitsShort (spell false) names) marks
marks_short names =
    All-weaker (HasLocations names) (FitsShort (spell false) names) (mark_short names)

-- ---- the whole text

pub at_first : (whole : List (List ℕ)) → Prints whole [] empty_expansion
at_first
    whole = record {
      marks_are = refl;
      names_are = refl;
      no_items = refl;
      no_turns = refl;
      bytes_are = omega arith;
    }

pub texts_stay : (words : List (List ℕ)) (lines : ℕ → ℕ) → texts (with_lines words lines) ≡ words
unfolding with_lines
texts_stay [] lines = refl
texts_stay (text ∷ words) lines =
    ap (λ (ts : List (List ℕ)). text ∷ ts) (texts_stay words (λ i. lines (suc i)))

pub front_apart : (word number : List ℕ) (words : List (List ℕ)) (lines : ℕ → ℕ)
    (tokens : List Token)
    → with_lines (word ∷ number ∷ words) lines ≡ tokens
    → tokens
    ≡ record { text = word; line = lines 0 }
    ∷ record { text = number; line = lines 1 } ∷ with_lines words (λ i. lines (suc (suc i)))
unfolding with_lines
front_apart word number words lines tokens h = sym h

-- each name is a location, in both versions
names_located : (version : Version) (names : List (List ℕ))
    → All (IsNameIn version) names
    → All IsLocation names
names_located One names h = All-weaker IsName IsLocation (λ name. IsLocation.Plain name) names h
names_located Two names h = h

program_located : (program : ProgramMarks) → IsProgram program
    → All (HasLocations program.names) program.marks
program_located program fits =
    marks_located program.names program.marks
    (names_located program.version program.names fits.names_fit) fits.marks_fit

one_digit : (version : Version) → length (version_text version) ≡ 1
one_digit One = refl
one_digit Two = refl

same_headers : (version : Version)
    → length (header_line version) ≡ length (header_line Two)
same_headers One = refl
same_headers Two = refl

header_bytes : (version : Version) (words : List (List ℕ))
    → sum_by length (codes "omptasks" ∷ version_text version ∷ words) ≡ 9 + sum_by length words
header_bytes version words = omega (
  arith,
  one_digit version,
  sum_by-cons length (codes "omptasks") (version_text version ∷ words),
  sum_by-cons length (version_text version) words,
)

-- a program's bytes, where its marks were expanded
record Fits (program : ProgramMarks) (state : ExpansionState) : Type 0 where
  program_is : program ≡ program_of_state program.version state
  turns_fit : state.turns ≤ MOST_TURNS
  bytes_fit : state.bytes ≤ MOST_TOKEN_BYTES
  short : length (canonical_text program) ≤ MOST_CANONICAL_BYTES

program_fits : (program : ProgramMarks) (state : ExpansionState)
    → IsProgram program
    → Goes program.names program.marks [] state
    → Fits program state
program_fits program state fits goes =
    let names : List (List ℕ) = program.names in
    let marks : List Mark = program.marks in
    let located = program_located program fits in
    let prints = goes.prints in
    let words : List (List ℕ) = flat_map (line_texts_by (spell false) names) marks in
    let lines : List ℕ = flat_map (line_of_mark names) marks in
    let weighs = text_weighs names marks located in
    let half : length (header_line Two ++ lines) ≤ 2 * solid_bytes (header_line Two ++ lines) =
    weighs.half in
    let solid_is : solid_bytes (header_line Two ++ lines)
    ≡ sum_by length (codes "omptasks" ∷ codes "2" ∷ words) = weighs.solid_is in
    let own : sum_by length (codes "omptasks" ∷ codes "2" ∷ words) ≡ 9 + sum_by length words =
    header_bytes Two words in
    let tokens : sum_by length (texts (tokens_of (canonical_text program)))
    ≡ 9 + sum_by length words = ap
    (λ (ts : List (List ℕ)). sum_by length ts)
    (canonical_spelled program (marks_written names marks located))
    ∙ header_bytes program.version words in
    let size : sum_by length (texts (tokens_of (canonical_text program))) ≤ MOST_TOKEN_BYTES =
    fits.size in
    let apart : solid_bytes (header_line Two ++ lines)
    ≡ solid_bytes (header_line Two) + solid_bytes lines =
    sum_by-append _ (header_line Two) lines in
    let none : length state.tree.blocks ≡ 0 = ap (λ (bs : List Block). length bs) goes.blocks_are in
    let bytes_are : state.bytes
    ≡ (solid_bytes (header_line Two) + solid_bytes lines) + length state.tree.blocks =
    prints.bytes_are in
    let lengths : length (canonical_text program) ≡ length (header_line Two ++ lines) =
    length-append (header_line program.version) lines
    ∙ ap (λ (n : ℕ). n + length lines) (same_headers program.version)
    ∙ sym (length-append (header_line Two) lines) in
    let turns : state.turns ≡ 0 = prints.no_turns in
    let program_of : List Mark → List (List ℕ) → ProgramMarks = λ ms ns. record {
      version = program.version;
      marks = ms;
      names = ns;
    } in
    record {
      program_is = ap (λ (ms : List Mark). program_of ms names) (sym prints.marks_are)
          ∙ ap (λ (ns : List (List ℕ)). program_of state.tree.marks ns)
          (fits.ordered ∙ sym prints.names_are);
      turns_fit = omega (arith, turns);
      bytes_fit = omega (arith, bytes_are, none, apart, solid_is, own, tokens, size);
      short = omega (arith, lengths, half, solid_is, own, tokens, size);
    }

-- a tree that stands for a program's marks expands to the program
pub tree_expands : (program : ProgramMarks) (tree : Tree)
    → IsProgram program
    → Stands program.names program.marks tree
    → ExpandsTo program.version tree program
    × (length (canonical_text program) ≤ MOST_CANONICAL_BYTES)
tree_expands program tree fits stands =
    let names : List (List ℕ) = program.names in
    let marks : List Mark = program.marks in
    let once : AreOnce names =
    subst AreOnce (sym fits.ordered) (once_mentioned (flat_map (names_of_mark names) marks)) in
    let all_names : names
    ≡ fold with_name [] (flat_map (names_of_mark names) ([] ++ (marks ++ []))) = fits.ordered
    ∙ ap (λ (ms : List Mark). fold with_name [] (flat_map (names_of_mark names) ms))
    (sym (append-nil marks)) in
    let goes : Goes names marks [] (state_after_tree tree) = expands names once marks tree stands
    (All-weaker (FitsLimits (length names)) (HasNames (length names)) (has_names (length names)) marks
    fits.marks_fit)
    [] [] empty_expansion all_names (at_first names) in
    let own = program_fits program (state_after_tree tree) fits goes in (
      record {
        program_is = own.program_is;
        tasks = fits.tasks;
        segments = fits.segments;
        work = fits.work;
        items_fit = with_few_items (length names) marks fits.marks_fit;
        indices_fit = in_range names false marks tree stands;
        turns_fit = own.turns_fit;
        bytes_fit = own.bytes_fit;
      },
      own.short,
    )

-- the names of a program are of its version
mark_named : (version : Version) (names : List (List ℕ)) (mark : Mark)
    → All (IsNameIn version) names
    → FitsLimits (length names) mark
    → HasNamesIn version names mark
mark_named version names (Works cost) names_fit fits = fits
mark_named version names (Begins undeferred items) names_fit fits =
    All-weaker (IsNamed (length names)) (HasNameIn version names)
    (λ item below. names_fit item.name [] below) items fits.1
mark_named version names _ names_fit fits = tt

program_named : (program : ProgramMarks) → IsProgram program
    → All (HasNamesIn program.version program.names) program.marks
program_named program fits =
    All-weaker (FitsLimits (length program.names)) (HasNamesIn program.version program.names)
    (λ mark. mark_named program.version program.names mark fits.names_fit) program.marks
    fits.marks_fit

header_begins : (version : Version) (line later : ℕ) (body : List Token)
    → begins_version version (record { text = codes "omptasks"; line = line }
    ∷ record { text = version_text version; line = later } ∷ body) ≡ true
header_begins One line later body = refl
header_begins Two line later body = refl

-- a program is the tree of its canonical text
pub canonical_tree : (program : ProgramMarks)
    → IsProgram program
    → HasTree (canonical_text program) program
    × (length (canonical_text program) ≤ MOST_CANONICAL_BYTES)
canonical_tree program fits =
    let names : List (List ℕ) = program.names in
    let marks : List Mark = program.marks in
    let version : Version = program.version in
    let words : List (List ℕ) = flat_map (line_texts_by (spell false) names) marks in
    let located : All (HasLocations names) marks = program_located program fits in
    let tokens_so : texts (tokens_of (canonical_text program))
    ≡ codes "omptasks" ∷ version_text version ∷ words =
    canonical_spelled program (marks_written names marks located) in
    let lines = have_lines (tokens_of (canonical_text program)) in
    let tokens_are : with_lines (codes "omptasks" ∷ version_text version ∷ words) lines.0
    ≡ tokens_of (canonical_text program) =
    ap (λ (ts : List (List ℕ)). with_lines ts lines.0) (sym tokens_so) ∙ lines.1 in
    let body : List Token = with_lines words (λ i. lines.0 (suc (suc i))) in
    let has_marks : HasMarks version names MOST_NESTING body marks = lines_spelled version names
    MOST_NESTING marks (nests program fits) (program_named program fits)
    (λ i. lines.0 (suc (suc i))) in
    let in_front = front_apart (codes "omptasks") (version_text version) words lines.0
    (tokens_of (canonical_text program)) tokens_are in
    let body_is : body ≡ body_of (canonical_text program) =
    sym (ap (λ (ts : List Token). drop 2 ts) in_front) in
    let expanded = tree_expands program has_marks.tree fits has_marks.stands in
    let short_words : AllShort words =
    lines_short (spell false) names marks (marks_short names marks located) in
    let long : length (canonical_text program) ≤ MOST_CANONICAL_BYTES = expanded.1 in (
      record {
        header = ap (λ (ts : List Token). begins_version version ts) in_front
            ∙ header_begins version (lines.0 0) (lines.0 1) body;
        tree = has_marks.tree;
        spelled = subst
            (λ (ts : List Token). Spelled version true [] MOST_NESTING ts has_marks.tree) body_is
            has_marks.spelled;
        expanded = expanded.0;
        text_fits = omega (arith, long);
        words_fit = subst (λ (ts : List Token). All IsShort (texts ts)) body_is
            (subst (λ (ts : List (List ℕ)). All IsShort ts)
            (sym (texts_stay words (λ i. lines.0 (suc (suc i))))) short_words.each);
        tokens_fit = λ one. fits.size;
      },
      long,
    )
