-- The grammar of version 1 by itself, and that of both versions, have the same trees.
use Rattle.std.proofs.Common.{◌≡◌, ℕ, suc, true, eqb, List, [], ◌∷◌}
use Rattle.std.proofs.Common.{◌++◌, map, refl, sym, ap, subst, ◌∙◌, arith, codes}
use Rattle.std.specs.Prelude.{All, drop, fold, length}
use Rattle.std.specs.List.{flat_map, AllZip}
use Rattle.std.proofs.lemmas.Bool.{and_parts, eqb-true}
use Rattle.std.proofs.lemmas.List.{append-nil}
use Rattle.std.proofs.lemmas.Option.{slice_get_within}
use Rattle.std.proofs.lemmas.List.Elements.{All-nil, All-cons, All-tail}
use Rattle.program_text.specs.declared.statement.DependKind.{DependKind}
use Rattle.program_text.specs.declared.statement.Item.{Item}
use Rattle.task_program.specs.declared.version.Version.{Version}
use Rattle.task_program.specs.declared.version.Version.TheVariants.{One}
use Rattle.program_text.specs.declared.limits.TheConstants.{MOST_NESTING}
use Rattle.program_text.specs.Marks.{Mark}
use Rattle.program_text.specs.Marks.Mark.{Begins, Ends, Works, Waits, GroupBegins, GroupEnds}
use Rattle.program_text.specs.Tokens.{Token, texts, tokens_of}
use Rattle.program_text.specs.Words.{is_text, is_word, is_number, value_of}
use Rattle.task_program.specs.ProgramMarks.{ProgramMarks}
use Rattle.task_program.specs.Names.{with_name}
use Rattle.task_program.specs.PlainGrammar.{Written, texts_of, Means, names_of_piece}
use Rattle.task_program.specs.Grammar.{IsShort}
use Rattle.task_program.specs.PlainGrammar.{HasPlainTree, IsItem, named_items}
use Rattle.task_program.specs.PlainGrammar.Written.{TaskWritten}
use Rattle.task_program.specs.Programs.{IsNamed, IsProgram, names_of_mark}
use Rattle.task_program.specs.Nested.{IsNested}
use Rattle.loop_text.specs.Loops.{Tree}
use Rattle.task_program.specs.Grammar.{Spelled}
use Rattle.task_program.specs.Versions.{number_of, begins_version, body_of}
use Rattle.task_program.specs.Expanded.{ExpansionState, empty_expansion}
use Rattle.task_program.specs.ExpandsTo.{ExpandsTo, state_after_tree}
use Rattle.task_program.specs.Trees.{HasTree}
use Rattle.task_program.proofs.Allowed.{expansion_kept}
use Rattle.task_program.proofs.FoundPlaces.{same_text}
use Rattle.task_program.proofs.KeptNames.{HasNames}
use Rattle.task_program.proofs.NamesOnce.{AreOnce, once_mentioned}
use Rattle.task_program.proofs.Shorter.{same_mentions}
use Rattle.task_program.proofs.Nested.{nests, room_for}
use Rattle.task_program.proofs.LinesExpand.{expands}
use Rattle.task_program.proofs.Locations.{with_lines, have_lines}
use Rattle.task_program.proofs.LinesSpelled.{HasMarks, joined, words_spelled, no_marks}
use Rattle.task_program.proofs.ReadBack.{number_short}
use Rattle.task_program.proofs.LoopReadBack.{texts_stay, front_apart, tree_expands, at_first}
use Rattle.task_program.proofs.PlainPieces.{tree_plain}
use Rattle.task_program.proofs.PlainSpelled.{pieces_spell}

-- ---- the header

-- what a header of this version is made of
record Header (version : Version) (tokens : List Token) : Type 0 where
  number : List ℕ
  is_num : is_number number ≡ true
  value_is : value_of number ≡ number_of version
  texts_are : texts tokens ≡ codes "omptasks" ∷ number ∷ texts (drop 2 tokens)

header_of : (version : Version) (tokens : List Token)
    → begins_version version tokens ≡ true
    → Header version tokens
header_of version [] h = absurd cc
header_of version (word ∷ []) h = absurd cc
header_of version (word ∷ number ∷ tokens) h =
    let first = and_parts (is_text word.text (codes "omptasks")) _ h in
    let second = and_parts (is_number number.text) (eqb (value_of number.text) (number_of version))
    first.1 in
    record {
      number = number.text;
      is_num = second.0;
      value_is = eqb-true (value_of number.text) (number_of version) second.1;
      texts_are = ap (λ (t : List ℕ). t ∷ number.text ∷ texts tokens)
          (same_text word.text (codes "omptasks") first.0);
    }

header_begins : (word number : Token) (tokens : List Token)
    → word.text ≡ codes "omptasks"
    → is_number number.text ≡ true
    → value_of number.text ≡ 1
    → begins_version One (word ∷ number ∷ tokens) ≡ true
header_begins word number tokens is_word is_num one = rw (is_word, is_num, one) refl

-- ---- trees

pub plain_of_tree : (text : List ℕ) (program : ProgramMarks)
    → program.version ≡ One
    → HasTree text program
    → HasPlainTree text program
plain_of_tree text program one h =
    let header = header_of One (tokens_of text)
    (subst (λ (v : Version). begins_version v (tokens_of text) ≡ true) one h.header) in
    let spelled : Spelled One true [] MOST_NESTING (body_of text) h.tree =
    subst (λ (v : Version). Spelled v true [] MOST_NESTING (body_of text) h.tree) one h.spelled in
    let expanded : ExpandsTo One h.tree program =
    subst (λ (v : Version). ExpandsTo v h.tree program) one h.expanded in
    let parts = tree_plain true [] MOST_NESTING (body_of text) h.tree spelled in
    let state : ExpansionState = state_after_tree h.tree in
    let goes = parts.goes refl empty_expansion refl in
    let names : program.names ≡ state.names = ap (λ (p : ProgramMarks). p.names) expanded.program_is
    in
    let marks : program.marks ≡ goes.marks =
    ap (λ (p : ProgramMarks). p.marks) expanded.program_is ∙ goes.marks_are in
    let kept = expansion_kept One (body_of text) h.tree program spelled h.words_fit expanded in
    record {
      in_version = one;
      version = header.number;
      written = parts.written;
      version_is_one = (header.is_num, header.value_is);
      spelled = header.texts_are
          ∙ ap (λ (ts : List (List ℕ)). codes "omptasks" ∷ header.number ∷ ts) parts.texts_are;
      means = subst (λ (ns : List (List ℕ)). AllZip (Means ns) parts.written program.marks)
          (sym names)
          (subst (λ (ms : List Mark). AllZip (Means state.names) parts.written ms) (sym marks)
          goes.means);
      names_are = names ∙ goes.names_are;
      nested = kept.nested;
      tasks = kept.tasks;
      segments = kept.segments;
      work = kept.work;
      marks_fit = kept.marks_fit;
      text_fits = h.text_fits;
      tokens_fit = h.tokens_fit one;
      words_fit = subst (λ (ts : List (List ℕ)). All IsShort ts) (sym header.texts_are)
          (All-cons IsShort (codes "omptasks") (header.number ∷ texts (body_of text))
          (λ word. omega arith)
          (All-cons IsShort header.number (texts (body_of text))
          (number_short header.number header.is_num) h.words_fit));
    }

-- ---- marks of any number

-- the tokens after the header of a text of version 1, in a room that suffices, and the tree that they
-- spell, which expands to these marks
pub record HasAnyTree (words : List (List ℕ)) (marks : List Mark) : Type 0 where
  pub body : List Token
  pub room : ℕ
  pub tree : Tree
  pub texts_are : texts body ≡ words
  pub spelled : Spelled One true [] room body tree
  pub marks_are : marks ≡ (state_after_tree tree).tree.marks

named_below : (names : List (List ℕ)) (named : List (DependKind × List ℕ)) (items : List Item)
    → AllZip (IsItem names) named items
    → All (IsNamed (length names)) items
named_below names [] [] h = All-nil (IsNamed (length names))
named_below names [] (item ∷ items) h = absurd h
named_below names (pair ∷ named) [] h = absurd h
named_below names (pair ∷ named) (item ∷ items) h =
    All-cons (IsNamed (length names)) item items
    (slice_get_within names item.name pair.1 h.0.1) (named_below names named items h.1)

mark_has_names : (names : List (List ℕ)) (piece : Written) (mark : Mark)
    → Means names piece mark
    → HasNames (length names) mark
mark_has_names names (TaskWritten clauses) (Begins undeferred items) h =
    named_below names (flat_map named_items clauses) items h.items_are
mark_has_names names piece (Works cost) h = tt
mark_has_names names piece Waits h = tt
mark_has_names names piece Ends h = tt
mark_has_names names piece GroupBegins h = tt
mark_has_names names piece GroupEnds h = tt
mark_has_names names _ (Begins undeferred items) h = absurd h

marks_have_names : (names : List (List ℕ)) (written : List Written) (marks : List Mark)
    → AllZip (Means names) written marks
    → All (HasNames (length names)) marks
marks_have_names names [] [] h = All-nil (HasNames (length names))
marks_have_names names [] (mark ∷ marks) h = absurd h
marks_have_names names (piece ∷ written) [] h = absurd h
marks_have_names names (piece ∷ written) (mark ∷ marks) h =
    All-cons (HasNames (length names)) mark marks (mark_has_names names piece mark h.0)
    (marks_have_names names written marks h.1)

joined_pieces : (written : List Written)
    → joined (map (λ piece. texts_of piece) written) ≡ flat_map texts_of written
joined_pieces [] = refl
joined_pieces (piece ∷ written) =
    ap (λ (ts : List (List ℕ)). texts_of piece ++ ts) (joined_pieces written)

-- pieces that mean nested marks spell a tree
pub any_tree_of_plain : (written : List Written) (names : List (List ℕ)) (marks : List Mark)
    → AllZip (Means names) written marks
    → names ≡ fold with_name [] (flat_map names_of_piece written)
    → IsNested marks
    → HasAnyTree (flat_map texts_of written) marks
any_tree_of_plain written names marks means names_are nested =
    let room = room_for marks nested in
    let words : List (List ℕ) = flat_map texts_of written in
    let lines : ℕ → ℕ = λ i. i in
    let has_marks : HasMarks One names room.0 (with_lines words lines) marks =
    subst (λ (ts : List (List ℕ)). HasMarks One names room.0 (with_lines ts lines) marks)
    (joined_pieces written)
    (words_spelled One names room.0 marks room.1 (map (λ piece. texts_of piece) written)
    (pieces_spell names written marks means) [] [] lines (no_marks One names room.0)) in
    let once : AreOnce names =
    subst AreOnce (sym names_are) (once_mentioned (flat_map names_of_piece written)) in
    let all_names : names
    ≡ fold with_name [] (flat_map (names_of_mark names) ([] ++ (marks ++ []))) = names_are
    ∙ ap (λ (ns : List (List ℕ)). fold with_name [] ns) (same_mentions names written marks means)
    ∙ ap (λ (ms : List Mark). fold with_name [] (flat_map (names_of_mark names) ms))
    (sym (append-nil marks)) in
    let goes = expands names once marks has_marks.tree has_marks.stands
    (marks_have_names names written marks means) [] [] empty_expansion all_names (at_first names) in
    record {
      body = with_lines words lines;
      room = room.0;
      tree = has_marks.tree;
      texts_are = texts_stay words lines;
      spelled = has_marks.spelled;
      marks_are = sym goes.prints.marks_are;
    }

pub tree_of_plain : (text : List ℕ) (program : ProgramMarks)
    → HasPlainTree text program
    → IsProgram program
    → HasTree text program
tree_of_plain text program h fits =
    let names : List (List ℕ) = program.names in
    let words : List (List ℕ) = flat_map texts_of h.written in
    let lines = have_lines (tokens_of text) in
    let later : ℕ → ℕ = λ i. lines.0 (suc (suc i)) in
    let tokens_are : with_lines (codes "omptasks" ∷ h.version ∷ words) lines.0 ≡ tokens_of text =
    ap (λ (ts : List (List ℕ)). with_lines ts lines.0) (sym h.spelled) ∙ lines.1 in
    let body : List Token = with_lines words later in
    let in_front = front_apart (codes "omptasks") h.version words lines.0 (tokens_of text)
    tokens_are in
    let body_is : body ≡ body_of text = sym (ap (λ (ts : List Token). drop 2 ts) in_front) in
    let has_marks : HasMarks One names MOST_NESTING body program.marks =
    subst (λ (ts : List (List ℕ)). HasMarks One names MOST_NESTING (with_lines ts later)
    program.marks)
    (joined_pieces h.written)
    (words_spelled One names MOST_NESTING program.marks (nests program fits)
    (map (λ piece. texts_of piece) h.written)
    (pieces_spell names h.written program.marks h.means) [] [] later
    (no_marks One names MOST_NESTING)) in
    let short : All IsShort words = All-tail IsShort h.version words
    (All-tail IsShort (codes "omptasks") (h.version ∷ words)
    (subst (λ (ts : List (List ℕ)). All IsShort ts) h.spelled h.words_fit)) in
    record {
      header = subst (λ (v : Version). begins_version v (tokens_of text) ≡ true) (sym h.in_version)
          (ap (λ (ts : List Token). begins_version One ts) in_front
          ∙ header_begins (record { text = codes "omptasks"; line = lines.0 0 })
          (record { text = h.version; line = lines.0 1 }) body refl h.version_is_one.0 h.version_is_one.1);
      tree = has_marks.tree;
      spelled = subst
          (λ (v : Version). Spelled v true [] MOST_NESTING (body_of text) has_marks.tree)
          (sym h.in_version)
          (subst (λ (ts : List Token). Spelled One true [] MOST_NESTING ts has_marks.tree) body_is
          has_marks.spelled);
      expanded = (tree_expands program has_marks.tree fits has_marks.stands).0;
      text_fits = h.text_fits;
      words_fit = subst (λ (ts : List Token). All IsShort (texts ts)) body_is
          (subst (λ (ts : List (List ℕ)). All IsShort ts) (sym (texts_stay words later)) short);
      tokens_fit = λ one. h.tokens_fit;
    }
