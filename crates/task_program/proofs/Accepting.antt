-- Each sentence of the grammar is accepted token by token.
use Rattle.std.proofs.Common.{◌≡◌, ℕ, zero, suc, ◌+◌, ◌≤◌, Bool, true, false, not, ◌&&◌, ◌||◌, cond}
use Rattle.std.proofs.Common.{eqb, List, [], ◌∷◌, ◌++◌, append_assoc, refl, sym, subst, arith}
use Rattle.std.proofs.Common.{codes}
use Rattle.std.specs.Prelude.{All, count_by}
use Rattle.std.specs.List.{flat_map}
use Rattle.std.proofs.lemmas.List.Elements.{All-head, All-tail}
use Rattle.std.proofs.lemmas.List.Sums.{sum_by-cons}
use Rattle.std.proofs.lemmas.Bool.{and_from, eq-eqb, and_parts}
use Rattle.task_program.specs.declared.place.Place.{Place}
use Rattle.task_program.specs.declared.place.Place.TheVariants.{Header, Version, Statement}
use Rattle.task_program.specs.declared.place.Place.TheVariants.{WorkNumber, GroupBrace, Clause}
use Rattle.task_program.specs.declared.place.Place.TheVariants.{IfOpens, IfNumber, IfCloses}
use Rattle.task_program.specs.declared.place.Place.TheVariants.{DependOpens, DependType}
use Rattle.task_program.specs.declared.place.Place.TheVariants.{DependColon, DependName, DependMore}
use Rattle.program_text.specs.declared.statement.DependKind.{DependKind}
use Rattle.program_text.specs.Words.{is_text, is_number, value_of, type_word, is_statement_word}
use Rattle.task_program.specs.PlainGrammar as grammar
use Rattle.task_program.specs.PlainGrammar.{Written, name_and_comma, clause_texts, texts_of, is_if}
use Rattle.task_program.specs.PlainGrammar.Clause.{IfClause, DependClause}
use Rattle.task_program.specs.PlainGrammar.Written.{WorkWritten, TaskWritten, WaitWritten, GroupWritten}
use Rattle.task_program.specs.PlainGrammar.Written.{EndWritten}
use Rattle.task_program.specs.PlainGrammar.{IsWord, HasClauseForm, HasForm, EndBlocks}
use Rattle.task_program.specs.FirstPlainFault.{IsSentence}
use Rattle.task_program.proofs.PlainSentences.{written_of_sentence}
use Rattle.task_program.proofs.Shapes.{Shape, shape_at, fits_at, fits, lead_at, lead, depend_texts}
use Rattle.task_program.proofs.ReadPieces.{is_type_word, type_of_word}

abbrev pub is_whole : Place → ℕ → Bool
is_whole Statement zero = true
is_whole Statement (suc depth) = false
is_whole _ depth = false

-- these tokens and no others are to come
unfoldable pub accepts : Shape → List (List ℕ) → Bool
accepts shape [] = is_whole shape.place shape.depth
accepts shape (text ∷ texts) = fits shape text && accepts (lead shape text) texts

pub accepts_next : (shape : Shape) (text : List ℕ) (texts : List (List ℕ))
    → accepts shape (text ∷ texts) ≡ true
    → (fits shape text ≡ true) × (accepts (lead shape text) texts ≡ true)
unfolding accepts
accepts_next shape text texts h = and_parts (fits shape text) (accepts (lead shape text) texts) h

pub accepts_none : (shape : Shape)
    → accepts shape [] ≡ true
    → is_whole shape.place shape.depth ≡ true
unfolding accepts
accepts_none shape h = h

accepts_one_more : (place : Place) (has_if : Bool) (depth : ℕ) (text : List ℕ)
    (texts : List (List ℕ))
    → fits_at place has_if depth text ≡ true
    → accepts (lead_at place has_if depth text) texts ≡ true
    → accepts (shape_at place has_if depth) (text ∷ texts) ≡ true
unfolding accepts
accepts_one_more place has_if depth text texts h later =
    and_from (fits_at place has_if depth text) (accepts (lead_at place has_if depth text) texts) h
    later

-- ---- names and clauses

-- the names of a `depend`, with its `)`, are accepted where what follows is
names_accepted : (names : List (List ℕ)) (last : List ℕ) (kind : DependKind) (has_if : Bool)
    (depth : ℕ) (texts : List (List ℕ))
    → All IsWord names → IsWord last
    → accepts (shape_at Clause has_if depth) texts ≡ true
    → accepts (shape_at (DependName kind) has_if depth)
    (flat_map name_and_comma names ++ last ∷ codes ")" ∷ texts)
    ≡ true
names_accepted [] last kind has_if depth texts words last_word later =
    accepts_one_more (DependName kind) has_if depth last (codes ")" ∷ texts) last_word
    (accepts_one_more (DependMore kind) has_if depth (codes ")") texts refl later)
names_accepted (name ∷ names) last kind has_if depth texts words last_word later =
    let others = names_accepted names last kind has_if depth texts
    (All-tail IsWord name names words) last_word later in
    let rest = flat_map name_and_comma names ++ last ∷ codes ")" ∷ texts in
    accepts_one_more (DependName kind) has_if depth name (codes "," ∷ rest)
    (All-head IsWord name names words)
    (accepts_one_more (DependMore kind) has_if depth (codes ",") rest refl others)

-- a `depend` up to its `:` is accepted where its names are
depend_accepted : (kind : DependKind) (has_if : Bool) (depth : ℕ) (texts : List (List ℕ))
    → accepts (shape_at (DependName kind) has_if depth) texts ≡ true
    → accepts (shape_at Clause has_if depth)
    (codes "depend" ∷ codes "(" ∷ type_word kind ∷ codes ":" ∷ texts)
    ≡ true
depend_accepted kind has_if depth texts later =
    let colon : accepts (shape_at (DependColon kind) has_if depth) (codes ":" ∷ texts) ≡ true =
    accepts_one_more (DependColon kind) has_if depth (codes ":") texts refl later in
    accepts_one_more Clause has_if depth (codes "depend")
    (codes "(" ∷ type_word kind ∷ codes ":" ∷ texts) refl
    (accepts_one_more DependOpens has_if depth (codes "(") (type_word kind ∷ codes ":" ∷ texts) refl
    (accepts_one_more DependType has_if depth (type_word kind) (codes ":" ∷ texts)
    (is_type_word kind)
    (subst
    (λ (k : DependKind). accepts (shape_at (DependColon k) has_if depth) (codes ":" ∷ texts) ≡ true)
    (sym (type_of_word kind)) colon)))

-- clauses with one `if` at most are accepted up to the `{` of their task
clauses_accepted : (clauses : List grammar.Clause) (has_if : Bool) (depth : ℕ)
    (texts : List (List ℕ))
    → All HasClauseForm clauses → cond has_if 1 0 + count_by is_if clauses ≤ 1
    → accepts (shape_at Statement false (suc depth)) texts ≡ true
    → accepts (shape_at Clause has_if depth) (flat_map clause_texts clauses ++ codes "{" ∷ texts)
    ≡ true
clauses_accepted [] has_if depth texts forms one_if later =
    accepts_one_more Clause has_if depth (codes "{") texts refl later
clauses_accepted (IfClause number ∷ clauses) true depth texts forms one_if later =
    absurd (omega (
      arith,
      one_if,
      sum_by-cons (λ (c : grammar.Clause). cond (is_if c) 1 0) (IfClause number) clauses,
    ))
clauses_accepted (IfClause number ∷ clauses) false depth texts forms one_if later =
    let fewer : cond true 1 0 + count_by is_if clauses ≤ 1 = omega (
      arith,
      one_if,
      sum_by-cons (λ (c : grammar.Clause). cond (is_if c) 1 0) (IfClause number) clauses,
    ) in
    let others = clauses_accepted clauses true depth texts
    (All-tail HasClauseForm (IfClause number) clauses forms) fewer later in
    let rest = flat_map clause_texts clauses ++ codes "{" ∷ texts in
    accepts_one_more Clause false depth (codes "if") (codes "(" ∷ number ∷ codes ")" ∷ rest) refl
    (accepts_one_more IfOpens false depth (codes "(") (number ∷ codes ")" ∷ rest) refl
    (accepts_one_more IfNumber false depth number (codes ")" ∷ rest)
    (All-head HasClauseForm (IfClause number) clauses forms)
    (accepts_one_more IfCloses true depth (codes ")") rest refl others)))
clauses_accepted (DependClause kind names last ∷ clauses) has_if depth texts forms one_if later =
    let clause = DependClause kind names last in
    let form : HasClauseForm clause = All-head HasClauseForm clause clauses forms in
    let fewer : cond has_if 1 0 + count_by is_if clauses ≤ 1 = omega
    (arith, one_if, sum_by-cons (λ (c : grammar.Clause). cond (is_if c) 1 0) clause clauses) in
    let others = clauses_accepted clauses has_if depth texts
    (All-tail HasClauseForm clause clauses forms) fewer later in
    let inside = names_accepted names last kind has_if depth
    (flat_map clause_texts clauses ++ codes "{" ∷ texts) form.0 form.1 others in
    subst (λ (ts : List (List ℕ)). accepts (shape_at Clause has_if depth)
    (codes "depend" ∷ codes "(" ∷ type_word kind ∷ codes ":" ∷ ts)
    ≡ true)
    (depend_texts names last (flat_map clause_texts clauses) (codes "{" ∷ texts))
    (depend_accepted kind has_if depth _ inside)

-- ---- pieces

pub word_fits : (end word : Bool) → end ≡ false → word ≡ true → (not end && (word || end)) ≡ true
word_fits false true no_end is_word = refl
word_fits false false no_end is_word = absurd cc
word_fits true word no_end is_word = absurd cc

any_word : (end word : Bool) → word ≡ true → (word || end) ≡ true
any_word end true h = refl
any_word end false h = absurd cc

-- the first word of a statement
first_fits : (depth : ℕ) (text : List ℕ)
    → is_text text (codes "}") ≡ false
    → is_statement_word text ≡ true
    → fits_at Statement false depth text ≡ true
first_fits zero text no_end word =
    word_fits (is_text text (codes "}")) (is_statement_word text) no_end word
first_fits (suc depth) text no_end word =
    any_word (is_text text (codes "}")) (is_statement_word text) word

-- a task is accepted up to its `{` where its body is
task_accepted : (clauses : List grammar.Clause) (depth : ℕ) (texts : List (List ℕ))
    → HasForm (TaskWritten clauses)
    → accepts (shape_at Statement false (suc depth)) texts ≡ true
    → accepts (shape_at Statement false depth) (texts_of (TaskWritten clauses) ++ texts) ≡ true
task_accepted clauses depth texts form later =
    let inside = clauses_accepted clauses false depth texts form.0 (omega (arith, form.1)) later in
    subst
    (λ (ts : List (List ℕ)). accepts (shape_at Statement false depth) (codes "task" ∷ ts) ≡ true)
    (sym (append_assoc (flat_map clause_texts clauses) (codes "{" ∷ []) texts))
    (accepts_one_more Statement false depth (codes "task") _
    (first_fits depth (codes "task") refl refl) inside)

none_accepted : accepts (shape_at Statement false 0) [] ≡ true
unfolding accepts
none_accepted = refl

-- pieces whose blocks nest are accepted to the end of the text
pieces_accepted : (written : List Written) (depth : ℕ)
    → All HasForm written
    → EndBlocks written depth
    → accepts (shape_at Statement false depth) (flat_map texts_of written) ≡ true
pieces_accepted [] zero forms nested = none_accepted
pieces_accepted [] (suc depth) forms nested = absurd nested
pieces_accepted (WorkWritten number ∷ written) depth forms nested =
    let later =
    pieces_accepted written depth (All-tail HasForm (WorkWritten number) written forms) nested in
    accepts_one_more Statement false depth (codes "work") (number ∷ flat_map texts_of written)
    (first_fits depth (codes "work") refl refl)
    (accepts_one_more WorkNumber false depth number (flat_map texts_of written)
    (All-head HasForm (WorkWritten number) written forms) later)
pieces_accepted (TaskWritten clauses ∷ written) depth forms nested =
    let later = pieces_accepted written (suc depth)
    (All-tail HasForm (TaskWritten clauses) written forms) nested in
    task_accepted clauses depth (flat_map texts_of written)
    (All-head HasForm (TaskWritten clauses) written forms) later
pieces_accepted (WaitWritten ∷ written) depth forms nested =
    let later = pieces_accepted written depth (All-tail HasForm WaitWritten written forms) nested in
    accepts_one_more Statement false depth (codes "taskwait") (flat_map texts_of written)
    (first_fits depth (codes "taskwait") refl refl) later
pieces_accepted (GroupWritten ∷ written) depth forms nested =
    let later =
    pieces_accepted written (suc depth) (All-tail HasForm GroupWritten written forms) nested in
    accepts_one_more Statement false depth (codes "taskgroup")
    (codes "{" ∷ flat_map texts_of written) (first_fits depth (codes "taskgroup") refl refl)
    (accepts_one_more GroupBrace false depth (codes "{") (flat_map texts_of written) refl later)
pieces_accepted (EndWritten ∷ written) zero forms nested = absurd nested
pieces_accepted (EndWritten ∷ written) (suc depth) forms nested =
    let later = pieces_accepted written depth (All-tail HasForm EndWritten written forms) nested in
    accepts_one_more Statement false (suc depth) (codes "}") (flat_map texts_of written) refl later

version_fits : (number one : Bool) → number ≡ true → one ≡ true → ((number && one) && true) ≡ true
version_fits true true h g = refl
version_fits true false h g = absurd cc
version_fits false one h g = absurd cc

-- each sentence is accepted from the start
pub sentence_accepted : (texts : List (List ℕ))
    → IsSentence texts
    → accepts (shape_at Header false 0) texts ≡ true
sentence_accepted texts sentence =
    let s = written_of_sentence texts sentence in
    let later = pieces_accepted s.written 0 s.forms s.nested in
    let rest = flat_map texts_of s.written in
    subst (λ (ts : List (List ℕ)). accepts (shape_at Header false 0) ts ≡ true) (sym s.spelled)
    (accepts_one_more Header false 0 (codes "omptasks") (s.version ∷ rest) refl
    (accepts_one_more Version false 0 s.version rest
    (version_fits (is_number s.version) (eqb (value_of s.version) 1) s.version_is_one.0
    (eq-eqb (value_of s.version) 1 s.version_is_one.1))
    later))
