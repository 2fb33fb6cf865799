-- No text has two trees of marks, whatever its size.
use Rattle.std.proofs.Common.{◌≡◌, ℕ, ◌∙◌, Bool, true, false, List, [], ◌∷◌, ◌++◌, append_assoc}
use Rattle.std.proofs.Common.{refl, sym, ap, subst, codes, append-nil, arith}
use Rattle.std.specs.Prelude.{drop, fold, if◌then◌else◌}
use Rattle.std.specs.List.{flat_map, AllZip}
use Rattle.program_text.specs.declared.statement.DependKind.{DependKind}
use Rattle.program_text.specs.declared.statement.DependKind.TheVariants.{DependIn, DependOut}
use Rattle.program_text.specs.declared.statement.DependKind.TheVariants.{DependInOut}
use Rattle.program_text.specs.declared.statement.DependKind.TheVariants.{DependInOutSet}
use Rattle.program_text.specs.declared.statement.Item.{Item}
use Rattle.program_text.specs.Marks.{Mark}
use Rattle.program_text.specs.Marks.Mark.{Begins, Ends, Works, Waits, GroupBegins, GroupEnds}
use Rattle.program_text.specs.Tokens.{texts}
use Rattle.program_text.specs.Words.{is_text, type_of, type_word}
use Rattle.task_program.specs.Expanded.{ExpansionState, empty_expansion}
use Rattle.task_program.specs.ExpandsTo.{state_after_tree}
use Rattle.task_program.specs.Names.{with_name}
use Rattle.task_program.specs.Nested.{IsNested}
use Rattle.task_program.specs.Nested.IsNested.{Nothing, Work, Wait, Task, Group}
use Rattle.task_program.specs.PlainGrammar.{Clause, IsItem, Means, Written, clause_texts}
use Rattle.task_program.specs.PlainGrammar.{name_and_comma, names_of_piece, texts_of}
use Rattle.task_program.specs.PlainGrammar.Clause.{IfClause, DependClause}
use Rattle.task_program.specs.PlainGrammar.Written.{WorkWritten, TaskWritten, WaitWritten}
use Rattle.task_program.specs.PlainGrammar.Written.{GroupWritten, EndWritten}
use Rattle.task_program.proofs.NamesOnce.{AreOnce, once_mentioned}
use Rattle.task_program.proofs.PlainPieces.{tree_plain}
use Rattle.task_program.proofs.PlainTrees.{HasAnyTree}
use Rattle.task_program.specs.ProgramMarks.{ProgramMarks}
use Rattle.large_text.specs.LargeTrees.{HasLargeProgram, HasLargeTree, plain_program}

-- ---- the pieces of a text follow from its tokens

-- the words that begin a piece or a clause, and the signs behind them, by number
abbrev word_number : List ℕ → ℕ
word_number text =
    if is_text text (codes "work") then 0
    else (if is_text text (codes "task") then 1
    else (if is_text text (codes "taskwait") then 2
    else (if is_text text (codes "taskgroup") then 3
    else (if is_text text (codes "}") then 4
    else (if is_text text (codes "if") then 5
    else (if is_text text (codes "depend") then 6
    else (if is_text text (codes "{") then 7
    else (if is_text text (codes ",") then 8 else 9))))))))

abbrev first_number : List (List ℕ) → ℕ
first_number [] = 10
first_number (text ∷ texts) = word_number text

abbrev second_number : List (List ℕ) → ℕ
second_number [] = 10
second_number (text ∷ texts) = first_number texts

type_told : (kind : DependKind) → type_of (type_word kind) ≡ kind
type_told DependIn = refl
type_told DependOut = refl
type_told DependInOut = refl
type_told DependInOutSet = refl

same_kind : (one other : DependKind) → type_word one ≡ type_word other → one ≡ other
same_kind one other h = sym (type_told one) ∙ (ap type_of h ∙ type_told other)

-- names with commas behind all but the last, and `)`
same_names : (one other : List (List ℕ)) (last end : List ℕ) (rest more : List (List ℕ))
    → flat_map name_and_comma one ++ last ∷ codes ")" ∷ rest
    ≡ flat_map name_and_comma other ++ end ∷ codes ")" ∷ more
    → (one ≡ other) × (last ≡ end) × (rest ≡ more)
same_names [] [] last end rest more h = (refl, cc, cc)
same_names [] (name ∷ other) last end rest more h = absurd (omega (arith, ap second_number h))
same_names (name ∷ one) [] last end rest more h = absurd (omega (arith, ap second_number h))
same_names (name ∷ one) (first ∷ other) last end rest more h =
    let head : name ≡ first = cc in
    let later = same_names one other last end rest more cc in
    let names : name ∷ one ≡ first ∷ other = ap (λ (n : List ℕ). n ∷ one) head
    ∙ ap (λ (ns : List (List ℕ)). first ∷ ns) later.0 in
    (names, later.1, later.2)

same_clause : (one other : Clause) (rest more : List (List ℕ))
    → clause_texts one ++ rest ≡ clause_texts other ++ more
    → (one ≡ other) × (rest ≡ more)
same_clause (IfClause number) (IfClause other) rest more h =
    let same : number ≡ other = cc in
    (ap (λ (n : List ℕ). IfClause n) same, cc)
same_clause (DependClause kind names last) (DependClause type others end) rest more h =
    let kinds : kind ≡ type = same_kind kind type cc in
    let inside : (flat_map name_and_comma names ++ last ∷ codes ")" ∷ []) ++ rest
    ≡ (flat_map name_and_comma others ++ end ∷ codes ")" ∷ []) ++ more = cc in
    let parts = same_names names others last end rest more
    (sym (append_assoc (flat_map name_and_comma names) (last ∷ codes ")" ∷ []) rest)
    ∙ (inside ∙ append_assoc (flat_map name_and_comma others) (end ∷ codes ")" ∷ []) more)) in (
      ap (λ (k : DependKind). DependClause k names last) kinds
          ∙ (ap (λ (ns : List (List ℕ)). DependClause type ns last) parts.0
          ∙ ap (λ (l : List ℕ). DependClause type others l) parts.1),
      parts.2,
    )
same_clause (IfClause number) (DependClause kind names last) rest more h =
    absurd (omega (arith, ap first_number h))
same_clause (DependClause kind names last) (IfClause number) rest more h =
    absurd (omega (arith, ap first_number h))

same_clauses : (one other : List Clause) (rest more : List (List ℕ))
    → flat_map clause_texts one ++ codes "{" ∷ rest ≡ flat_map clause_texts other ++ codes "{" ∷ more
    → (one ≡ other) × (rest ≡ more)
same_clauses [] [] rest more h = (refl, cc)
same_clauses [] (IfClause number ∷ other) rest more h =
    absurd (omega (arith, ap first_number h))
same_clauses [] (DependClause kind names last ∷ other) rest more h =
    absurd (omega (arith, ap first_number h))
same_clauses (IfClause number ∷ one) [] rest more h =
    absurd (omega (arith, ap first_number h))
same_clauses (DependClause kind names last ∷ one) [] rest more h =
    absurd (omega (arith, ap first_number h))
same_clauses (clause ∷ one) (first ∷ other) rest more h =
    let head = same_clause clause first (flat_map clause_texts one ++ codes "{" ∷ rest)
    (flat_map clause_texts other ++ codes "{" ∷ more)
    (sym (append_assoc (clause_texts clause) (flat_map clause_texts one) (codes "{" ∷ rest)) ∙ (h
    ∙ append_assoc (clause_texts first) (flat_map clause_texts other) (codes "{" ∷ more))) in
    let later = same_clauses one other rest more head.1 in (
      ap (λ (c : Clause). c ∷ one) head.0 ∙ ap (λ (cs : List Clause). first ∷ cs) later.0,
      later.1,
    )

same_piece : (one other : Written) (rest more : List (List ℕ))
    → texts_of one ++ rest ≡ texts_of other ++ more
    → (one ≡ other) × (rest ≡ more)
same_piece (WorkWritten number) (WorkWritten other) rest more h =
    let same : number ≡ other = cc in
    (ap (λ (n : List ℕ). WorkWritten n) same, cc)
same_piece (TaskWritten clauses) (TaskWritten others) rest more h =
    let inside : (flat_map clause_texts clauses ++ codes "{" ∷ []) ++ rest
    ≡ (flat_map clause_texts others ++ codes "{" ∷ []) ++ more = cc in
    let parts = same_clauses clauses others rest more
    (sym (append_assoc (flat_map clause_texts clauses) (codes "{" ∷ []) rest)
    ∙ (inside ∙ append_assoc (flat_map clause_texts others) (codes "{" ∷ []) more)) in
    (ap (λ (cs : List Clause). TaskWritten cs) parts.0, parts.1)
same_piece WaitWritten WaitWritten rest more h = (refl, cc)
same_piece GroupWritten GroupWritten rest more h = (refl, cc)
same_piece EndWritten EndWritten rest more h = (refl, cc)
same_piece one other rest more h = absurd (omega (arith, ap first_number h))

no_piece : (piece : Written) (rest : List (List ℕ)) → [] ≡ texts_of piece ++ rest → ⊥
no_piece (WorkWritten number) rest h = absurd cc
no_piece (TaskWritten clauses) rest h = absurd cc
no_piece WaitWritten rest h = absurd cc
no_piece GroupWritten rest h = absurd cc
no_piece EndWritten rest h = absurd cc

same_pieces : (one other : List Written)
    → flat_map texts_of one ≡ flat_map texts_of other
    → one ≡ other
same_pieces [] [] h = refl
same_pieces [] (piece ∷ other) h = absurd (no_piece piece (flat_map texts_of other) h)
same_pieces (piece ∷ one) [] h = absurd (no_piece piece (flat_map texts_of one) (sym h))
same_pieces (piece ∷ one) (first ∷ other) h =
    let head = same_piece piece first (flat_map texts_of one) (flat_map texts_of other) h in
    ap (λ (p : Written). p ∷ one) head.0
    ∙ ap (λ (ps : List Written). first ∷ ps) (same_pieces one other head.1)

-- ---- and the marks by the pieces

-- an end is that of the innermost open block, which is a task or a group
abbrev Follows : Mark → List Bool → Type 0
Follows Ends (true ∷ blocks) = Unit {0}
Follows Ends blocks = ⊥
Follows GroupEnds (false ∷ blocks) = Unit {0}
Follows GroupEnds blocks = ⊥
Follows mark blocks = Unit {0}

abbrev around : List Bool → List Bool
around [] = []
around (block ∷ blocks) = blocks

abbrev open_behind : List Bool → Mark → List Bool
open_behind blocks (Begins undeferred items) = true ∷ blocks
open_behind blocks GroupBegins = false ∷ blocks
open_behind blocks Ends = around blocks
open_behind blocks GroupEnds = around blocks
open_behind blocks mark = blocks

-- so each end, where these blocks are open before the marks
abbrev AllFollow : List Bool → List Mark → Type 0
AllFollow blocks [] = Unit {0}
AllFollow blocks (mark ∷ marks) = Follows mark blocks × AllFollow (open_behind blocks mark) marks

nested_follow : (marks : List Mark)
    → IsNested marks
    → (blocks : List Bool) (later : List Mark)
    → AllFollow blocks later
    → AllFollow blocks (marks ++ later)
nested_follow _ Nothing blocks later f = f
nested_follow _ (Work cost rest n) blocks later f = (tt, nested_follow rest n blocks later f)
nested_follow _ (Wait rest n) blocks later f = (tt, nested_follow rest n blocks later f)
nested_follow _ (Task undeferred items body rest n m) blocks later f = (
  tt,
  subst (λ (ms : List Mark). AllFollow (true ∷ blocks) ms)
      (sym (append_assoc body (Ends ∷ rest) later))
      (nested_follow body n (true ∷ blocks) (Ends ∷ (rest ++ later))
      (tt, nested_follow rest m blocks later f)),
)
nested_follow _ (Group body rest n m) blocks later f = (
  tt,
  subst (λ (ms : List Mark). AllFollow (false ∷ blocks) ms)
      (sym (append_assoc body (GroupEnds ∷ rest) later))
      (nested_follow body n (false ∷ blocks) (GroupEnds ∷ (rest ++ later))
      (tt, nested_follow rest m blocks later f)),
)

same_item : (one other : Item) → one.kind ≡ other.kind → one.name ≡ other.name → one ≡ other
same_item one other kinds names =
    ap (λ (k : DependKind). record { kind = k; name = one.name }) kinds
    ∙ ap (λ (n : ℕ). record { kind = other.kind; name = n }) names

same_items : (names : List (List ℕ)) (named : List (DependKind × List ℕ)) (one other : List Item)
    → AreOnce names
    → AllZip (IsItem names) named one
    → AllZip (IsItem names) named other
    → one ≡ other
same_items names [] [] [] o h g = refl
same_items names (pair ∷ named) (item ∷ one) (first ∷ other) o h g =
    let head : item ≡ first = same_item item first (h.0.0 ∙ sym g.0.0)
    (o.once pair.1 item.name first.name h.0.1 g.0.1) in
    ap (λ (i : Item). i ∷ one) head
    ∙ ap (λ (is : List Item). first ∷ is) (same_items names named one other o h.1 g.1)
same_items names [] [] (first ∷ other) o h g = absurd g
same_items names (pair ∷ named) (item ∷ one) [] o h g = absurd g
same_items names [] (item ∷ one) other o h g = absurd h
same_items names (pair ∷ named) [] other o h g = absurd h

same_mark : (names : List (List ℕ)) (blocks : List Bool) (piece : Written) (one other : Mark)
    → AreOnce names
    → Means names piece one
    → Means names piece other
    → Follows one blocks
    → Follows other blocks
    → one ≡ other
same_mark names blocks (WorkWritten number) (Works cost) (Works other) o h g f k =
    ap (λ (n : ℕ). Works n) (h.1 ∙ sym g.1)
same_mark names blocks (TaskWritten clauses) (Begins undeferred items) (Begins now others) o h g f
    k =
    ap (λ (u : Bool). Begins u items) (h.undeferred_is ∙ sym g.undeferred_is)
    ∙ ap (λ (is : List Item). Begins now is)
    (same_items names _ items others o h.items_are g.items_are)
same_mark names blocks WaitWritten Waits Waits o h g f k = refl
same_mark names blocks GroupWritten GroupBegins GroupBegins o h g f k = refl
same_mark names blocks EndWritten Ends Ends o h g f k = refl
same_mark names blocks EndWritten GroupEnds GroupEnds o h g f k = refl
same_mark names [] EndWritten Ends GroupEnds o h g f k = absurd f
same_mark names (true ∷ blocks) EndWritten Ends GroupEnds o h g f k = absurd k
same_mark names (false ∷ blocks) EndWritten Ends GroupEnds o h g f k = absurd f
same_mark names [] EndWritten GroupEnds Ends o h g f k = absurd f
same_mark names (true ∷ blocks) EndWritten GroupEnds Ends o h g f k = absurd f
same_mark names (false ∷ blocks) EndWritten GroupEnds Ends o h g f k = absurd k
same_mark names blocks (WorkWritten number) (Works cost) _ o h g f k = absurd g
same_mark names blocks (TaskWritten clauses) (Begins undeferred items) _ o h g f k = absurd g
same_mark names blocks WaitWritten Waits _ o h g f k = absurd g
same_mark names blocks GroupWritten GroupBegins _ o h g f k = absurd g
same_mark names blocks EndWritten Ends _ o h g f k = absurd g
same_mark names blocks EndWritten GroupEnds _ o h g f k = absurd g
same_mark names blocks _ _ other o h g f k = absurd h

same_marks : (names : List (List ℕ)) (written : List Written) (blocks : List Bool)
    (one other : List Mark)
    → AreOnce names
    → AllZip (Means names) written one
    → AllZip (Means names) written other
    → AllFollow blocks one
    → AllFollow blocks other
    → one ≡ other
same_marks names [] blocks [] [] o h g f k = refl
same_marks names (piece ∷ written) blocks (mark ∷ one) (first ∷ other) o h g f k =
    let head : mark ≡ first = same_mark names blocks piece mark first o h.0 g.0 f.0 k.0 in
    ap (λ (m : Mark). m ∷ one) head
    ∙ ap (λ (ms : List Mark). first ∷ ms)
    (same_marks names written (open_behind blocks first) one other o h.1 g.1
    (subst (λ (m : Mark). AllFollow (open_behind blocks m) one) head f.1) k.1)
same_marks names [] blocks [] (first ∷ other) o h g f k = absurd g
same_marks names (piece ∷ written) blocks (mark ∷ one) [] o h g f k = absurd g
same_marks names [] blocks (mark ∷ one) other o h g f k = absurd h
same_marks names (piece ∷ written) blocks [] other o h g f k = absurd h

-- ---- so two trees have the same marks and names

pub record HasPieces (words : List (List ℕ)) (marks : List Mark) (names : List (List ℕ))
    : Type 0 where
  pub written : List Written
  pub texts_are : words ≡ flat_map texts_of written
  pub names_are : names ≡ fold with_name [] (flat_map names_of_piece written)
  pub means : AllZip (Means names) written marks

pub pieces_of : (words : List (List ℕ)) (marks : List Mark) (h : HasAnyTree words marks)
    → HasPieces words marks (state_after_tree h.tree).names
pieces_of words marks h =
    let parts = tree_plain true [] h.room h.body h.tree h.spelled in
    let state : ExpansionState = state_after_tree h.tree in
    let goes = parts.goes refl empty_expansion refl in
    let marks_are : marks ≡ goes.marks = h.marks_are ∙ goes.marks_are in
    record {
      written = parts.written;
      texts_are = sym h.texts_are ∙ parts.texts_are;
      names_are = goes.names_are;
      means = subst (λ (ms : List Mark). AllZip (Means state.names) parts.written ms)
          (sym marks_are) goes.means;
    }

pub names_by_pieces : (one other : List Written) → flat_map texts_of one ≡ flat_map texts_of other
    → fold with_name [] (flat_map names_of_piece one)
    ≡ fold with_name [] (flat_map names_of_piece other)
names_by_pieces one other same =
    ap (λ (ps : List Written). fold with_name [] (flat_map names_of_piece ps))
    (same_pieces one other same)

same_by_pieces : (words : List (List ℕ)) (one other : List Mark) (names others : List (List ℕ))
    → IsNested one
    → IsNested other
    → HasPieces words one names
    → HasPieces words other others
    → (one ≡ other) × (names ≡ others)
same_by_pieces words one other names others n m a b =
    let texts_are = sym b.texts_are ∙ a.texts_are in
    let same : b.written ≡ a.written = same_pieces b.written a.written texts_are in
    let names_are : others ≡ names = b.names_are
    ∙ (names_by_pieces b.written a.written texts_are ∙ sym a.names_are) in
    let once : AreOnce names =
    subst AreOnce (sym a.names_are) (once_mentioned (flat_map names_of_piece a.written)) in
    let means : AllZip (Means names) a.written other =
    subst (λ (ps : List Written). AllZip (Means names) ps other) same
    (subst (λ (ns : List (List ℕ)). AllZip (Means ns) b.written other) names_are b.means) in (
      same_marks names a.written [] one other once a.means means
          (subst (AllFollow []) (append-nil one) (nested_follow one n [] [] tt))
          (subst (AllFollow []) (append-nil other) (nested_follow other m [] [] tt)),
      sym names_are,
    )

-- the header aside, which is one word and a number
same_bodies : (all : List (List ℕ)) (version other : List ℕ) (one more : List (List ℕ))
    → all ≡ codes "omptasks" ∷ version ∷ one
    → all ≡ codes "omptasks" ∷ other ∷ more
    → one ≡ more
same_bodies all version other one more h g =
    ap (λ (ts : List (List ℕ)). drop 2 ts) (sym h ∙ g)

any_tree : (all : List (List ℕ)) (marks : List Mark) (words : List (List ℕ))
    (h : HasLargeTree all marks)
    → texts h.body ≡ words
    → HasPieces words marks (state_after_tree h.tree).names
any_tree all marks words h is =
    pieces_of words marks
    (record {
      body = h.body;
      room = h.room;
      tree = h.tree;
      texts_are = is;
      spelled = h.spelled;
      marks_are = h.marks_are;
    })

same_trees : (all : List (List ℕ)) (one other : List Mark) (h : HasLargeTree all one)
    (g : HasLargeTree all other)
    → (one ≡ other) × ((state_after_tree h.tree).names ≡ (state_after_tree g.tree).names)
same_trees all one other h g =
    same_by_pieces (texts h.body) one other _ _ h.nested g.nested
    (any_tree all one (texts h.body) h refl)
    (any_tree all other (texts h.body) g
    (same_bodies all g.version h.version (texts g.body) (texts h.body) g.header h.header))

pub one_tree : (all : List (List ℕ)) (one other : List Mark)
    → HasLargeTree all one
    → HasLargeTree all other
    → one ≡ other
one_tree all one other h g = (same_trees all one other h g).0

-- and a text stands for one program
pub one_program : (all : List (List ℕ)) (one other : ProgramMarks)
    → HasLargeProgram all one
    → HasLargeProgram all other
    → one ≡ other
one_program all one other h g =
    let same = same_trees all one.marks other.marks h.tree g.tree in
    h.program_is
    ∙ ap (λ (ns : List (List ℕ)). plain_program ns one.marks) same.1
    ∙ ap (λ (ms : List Mark). plain_program (state_after_tree g.tree.tree).names ms) same.0
    ∙ sym g.program_is
