-- What decides which token may come: the place, whether the task has an `if`, and how many blocks
-- are open. What may follow where the reading stands so is what the grammar has there.
use Rattle.std.proofs.Common.{◌≡◌, ℕ, zero, suc, ◌+◌, ◌≤◌, Bool, true, false, not, ◌&&◌, cond, eqb}
use Rattle.std.proofs.Common.{List, [], ◌∷◌, ◌++◌, append_assoc, refl, sym, ap, subst, ◌∙◌, arith}
use Rattle.std.proofs.Common.{codes}
use Rattle.std.specs.Prelude.{All, count_by, if◌then◌else◌}
use Rattle.std.specs.List.{flat_map}
use Rattle.std.proofs.lemmas.Bool.{eqb-true, and_parts}
use Rattle.std.proofs.lemmas.List.Elements.{All-nil, All-cons}
use Rattle.std.proofs.lemmas.List.Sums.{sum_by-cons}
use Rattle.task_program.specs.declared.place.Place.{Place}
use Rattle.task_program.specs.declared.place.Place.TheVariants.{Header, Version, Statement}
use Rattle.task_program.specs.declared.place.Place.TheVariants.{WorkNumber, GroupBrace, Clause}
use Rattle.task_program.specs.declared.place.Place.TheVariants.{IfOpens, IfNumber, IfCloses}
use Rattle.task_program.specs.declared.place.Place.TheVariants.{DependOpens, DependType}
use Rattle.task_program.specs.declared.place.Place.TheVariants.{DependColon, DependName, DependMore}
use Rattle.program_text.specs.declared.statement.DependKind.{DependKind}
use Rattle.program_text.specs.declared.statement.DependKind.TheVariants.{DependIn}
use Rattle.program_text.specs.Words.{is_text, is_number, value_of, type_word, type_of}
use Rattle.task_program.specs.Faults.{is_header, is_allowed}
use Rattle.task_program.specs.PlainGrammar as grammar
use Rattle.task_program.specs.PlainGrammar.{Written, name_and_comma, clause_texts, texts_of, is_if}
use Rattle.task_program.specs.PlainGrammar.Clause.{IfClause, DependClause}
use Rattle.task_program.specs.PlainGrammar.Written.{WorkWritten, TaskWritten, WaitWritten, GroupWritten}
use Rattle.task_program.specs.PlainGrammar.Written.{EndWritten}
use Rattle.task_program.specs.PlainGrammar.{IsWord, HasClauseForm, HasForm, EndBlocks}
use Rattle.task_program.specs.FirstPlainFault.{IsSentence}
use Rattle.task_program.proofs.FoundPlaces.{same_text}
use Rattle.task_program.proofs.LoopPieces.{no_more_than_one}
use Rattle.task_program.proofs.PlainSentences.{derived_of_written}
use Rattle.task_program.proofs.Found.{type_is, first_if, is_depend, is_end}
use Rattle.program_text.proofs.Bools.{or_true_right, bool_cases}

pub record Shape : Type 0 where
  pub place : Place
  pub has_if : Bool
  pub depth : ℕ

abbrev pub shape_at : Place → Bool → ℕ → Shape
shape_at place has_if depth = record { place = place; has_if = has_if; depth = depth }

-- ---- which tokens are allowed, and where they lead

abbrev pub one_less : ℕ → ℕ
one_less zero = zero
one_less (suc n) = n

abbrev pub closes_none : Place → ℕ → List ℕ → Bool
closes_none Statement zero text = is_text text (codes "}")
closes_none Statement (suc n) text = false
closes_none _ depth text = false

abbrev pub fits_at : Place → Bool → ℕ → List ℕ → Bool
fits_at place has_if depth text =
    is_header place text && (not (closes_none place depth text) && is_allowed place has_if text)

abbrev pub fits : Shape → List ℕ → Bool
fits shape text = fits_at shape.place shape.has_if shape.depth text

abbrev pub lead_statement : Bool → ℕ → List ℕ → Shape
lead_statement has_if depth text =
    if is_text text (codes "work") then shape_at WorkNumber has_if depth
    else (if is_text text (codes "task") then shape_at Clause has_if depth
    else (if is_text text (codes "taskwait") then shape_at Statement has_if depth
    else (if is_text text (codes "taskgroup") then shape_at GroupBrace has_if depth
    else shape_at Statement has_if (one_less depth))))

abbrev pub lead_clause : Bool → ℕ → List ℕ → Shape
lead_clause has_if depth text =
    if is_text text (codes "{") then shape_at Statement false (suc depth)
    else (if is_text text (codes "if") then shape_at IfOpens has_if depth
    else shape_at DependOpens has_if depth)

abbrev pub lead_more : DependKind → Bool → ℕ → List ℕ → Shape
lead_more kind has_if depth text =
    if is_text text (codes ",")
    then shape_at (DependName kind) has_if depth
    else shape_at Clause has_if depth

abbrev pub lead_at : Place → Bool → ℕ → List ℕ → Shape
lead_at Header has_if depth text = shape_at Version has_if depth
lead_at Version has_if depth text = shape_at Statement has_if depth
lead_at Statement has_if depth text = lead_statement has_if depth text
lead_at WorkNumber has_if depth text = shape_at Statement has_if depth
lead_at GroupBrace has_if depth text = shape_at Statement has_if (suc depth)
lead_at Clause has_if depth text = lead_clause has_if depth text
lead_at IfOpens has_if depth text = shape_at IfNumber has_if depth
lead_at IfNumber has_if depth text = shape_at IfCloses true depth
lead_at IfCloses has_if depth text = shape_at Clause has_if depth
lead_at DependOpens has_if depth text = shape_at DependType has_if depth
lead_at DependType has_if depth text = shape_at (DependColon (type_of text)) has_if depth
lead_at (DependColon kind) has_if depth text = shape_at (DependName kind) has_if depth
lead_at (DependName kind) has_if depth text = shape_at (DependMore kind) has_if depth
lead_at (DependMore kind) has_if depth text = lead_more kind has_if depth text

abbrev pub lead : Shape → List ℕ → Shape
lead shape text = lead_at shape.place shape.has_if shape.depth text

-- ---- what the grammar has after a prefix that leads so far

-- pieces that end so many open blocks
pub record Rest (depth : ℕ) (texts : List (List ℕ)) : Type 0 where
  pub written : List Written
  pub texts_are : texts ≡ flat_map texts_of written
  pub forms : All HasForm written
  pub nested : EndBlocks written depth

-- clauses, the `{` and such pieces
pub record ClausesRest (has_if : Bool) (depth : ℕ) (texts : List (List ℕ)) : Type 0 where
  pub clauses : List grammar.Clause
  pub later : List (List ℕ)
  pub texts_are : texts ≡ flat_map clause_texts clauses ++ codes "{" ∷ later
  pub forms : All HasClauseForm clauses
  pub one_if : cond has_if 1 0 + count_by is_if clauses ≤ 1
  pub rest : Rest (suc depth) later

-- names, the `)` and such clauses
pub record NamesRest (has_if : Bool) (depth : ℕ) (texts : List (List ℕ)) : Type 0 where
  pub names : List (List ℕ)
  pub last : List ℕ
  pub later : List (List ℕ)
  pub texts_are : texts ≡ flat_map name_and_comma names ++ last ∷ codes ")" ∷ later
  pub words : All IsWord names
  pub last_word : IsWord last
  pub rest : ClausesRest has_if depth later

-- after the number of an `if`
abbrev pub AfterNumber : Bool → ℕ → List (List ℕ) → Type 0
AfterNumber true depth texts =
    (number : List ℕ) → is_number number ≡ true
    → ClausesRest false depth (codes "if" ∷ codes "(" ∷ number ∷ texts)
AfterNumber false depth texts = Unit {0}

abbrev pub SentenceAt : ℕ → List (List ℕ) → Type 0
SentenceAt zero texts = IsSentence texts
SentenceAt (suc depth) texts = Unit {0}

abbrev pub FollowsAt : Place → Bool → ℕ → List (List ℕ) → Type 0
FollowsAt Header has_if depth texts = SentenceAt depth texts
FollowsAt Version has_if depth texts = SentenceAt depth (codes "omptasks" ∷ texts)
FollowsAt Statement has_if depth texts = Rest depth texts
FollowsAt WorkNumber has_if depth texts = Rest depth (codes "work" ∷ texts)
FollowsAt GroupBrace has_if depth texts = Rest depth (codes "taskgroup" ∷ texts)
FollowsAt Clause has_if depth texts = ClausesRest has_if depth texts
FollowsAt IfOpens has_if depth texts = ClausesRest false depth (codes "if" ∷ texts)
FollowsAt IfNumber has_if depth texts = ClausesRest false depth (codes "if" ∷ codes "(" ∷ texts)
FollowsAt IfCloses has_if depth texts = AfterNumber has_if depth texts
FollowsAt DependOpens has_if depth texts = ClausesRest has_if depth (codes "depend" ∷ texts)
FollowsAt DependType has_if depth texts =
    ClausesRest has_if depth (codes "depend" ∷ codes "(" ∷ texts)
FollowsAt (DependColon kind) has_if depth texts =
    ClausesRest has_if depth (codes "depend" ∷ codes "(" ∷ type_word kind ∷ texts)
FollowsAt (DependName kind) has_if depth texts = NamesRest has_if depth texts
FollowsAt (DependMore kind) has_if depth texts =
    (name : List ℕ) → IsWord name → NamesRest has_if depth (name ∷ texts)

abbrev pub Follows : Shape → List (List ℕ) → Type 0
Follows shape texts = FollowsAt shape.place shape.has_if shape.depth texts

-- ---- a token that is allowed goes in front

-- the three tests of `fits_at`
header_of : (place : Place) (has_if : Bool) (depth : ℕ) (text : List ℕ)
    → fits_at place has_if depth text ≡ true
    → is_header place text ≡ true
header_of place has_if depth text h = (and_parts (is_header place text) _ h).0

allowed_of : (place : Place) (has_if : Bool) (depth : ℕ) (text : List ℕ)
    → fits_at place has_if depth text ≡ true
    → is_allowed place has_if text ≡ true
allowed_of place has_if depth text h =
    (and_parts (not (closes_none place depth text)) _ (and_parts (is_header place text) _ h).1).1

unclosed_of : (place : Place) (has_if : Bool) (depth : ℕ) (text : List ℕ)
    → fits_at place has_if depth text ≡ true
    → not (closes_none place depth text) ≡ true
unclosed_of place has_if depth text h =
    (and_parts (not (closes_none place depth text)) _ (and_parts (is_header place text) _ h).1).0

piece_rest : (depth after : ℕ) (piece : Written) (texts : List (List ℕ)) → HasForm piece
    → ((pieces : List Written) → EndBlocks pieces after → EndBlocks (piece ∷ pieces) depth)
    → Rest after texts → Rest depth (texts_of piece ++ texts)
piece_rest depth after piece texts form nests r = record {
  written = piece ∷ r.written;
  texts_are = ap (λ (ts : List (List ℕ)). texts_of piece ++ ts) r.texts_are;
  forms = All-cons HasForm piece r.written form r.forms;
  nested = nests r.written r.nested;
}

-- clauses, a `{` and what follows make a task with what follows
task_rest : (has_if : Bool) (depth : ℕ) (texts : List (List ℕ)) → ClausesRest has_if depth texts
    → Rest depth (codes "task" ∷ texts)
task_rest has_if depth texts c = record {
  written = TaskWritten c.clauses ∷ c.rest.written;
  texts_are = ap (λ (ts : List (List ℕ)). codes "task" ∷ ts) (c.texts_are
      ∙ ap (λ (ts : List (List ℕ)). flat_map clause_texts c.clauses ++ codes "{" ∷ ts)
      c.rest.texts_are
      ∙ sym (append_assoc (flat_map clause_texts c.clauses) (codes "{" ∷ [])
      (flat_map texts_of c.rest.written)));
  forms = All-cons HasForm (TaskWritten c.clauses) c.rest.written
      (c.forms, no_more_than_one has_if _ c.one_if) c.rest.forms;
  nested = c.rest.nested;
}

abbrev StepsBack : Place → Bool → ℕ → List ℕ → List (List ℕ) → Type 0
StepsBack place has_if depth text texts =
    fits_at place has_if depth text ≡ true → Follows (lead_at place has_if depth text) texts
    → FollowsAt place has_if depth (text ∷ texts)

end_rest : (depth : ℕ) (texts : List (List ℕ))
    → not (closes_none Statement depth (codes "}")) ≡ true
    → Rest (one_less depth) texts
    → Rest depth (codes "}" ∷ texts)
end_rest zero texts h r = absurd cc
end_rest (suc depth) texts h r =
    piece_rest (suc depth) depth EndWritten texts tt (λ pieces nested. nested) r

-- an allowed first word of a statement goes in front of what follows it
statement_back : (has_if : Bool) (depth : ℕ) (text : List ℕ) (texts : List (List ℕ))
    → StepsBack Statement has_if depth text texts
statement_back has_if depth text texts h =
    let allowed = allowed_of Statement has_if depth text h in
    bool_cases (is_text text (codes "work"))
    (λ work. rw work (λ f. rw (same_text text (codes "work") work) f))
    (λ no_work. bool_cases (is_text text (codes "task"))
    (λ task. rw (no_work, task)
    (λ f. rw (same_text text (codes "task") task) (task_rest has_if depth texts f)))
    (λ no_task. bool_cases (is_text text (codes "taskwait"))
    (λ wait. rw (
      no_work,
      no_task,
      wait,
    ) (λ f. rw (same_text text (codes "taskwait") wait)
    (piece_rest depth depth WaitWritten texts tt (λ pieces nested. nested) f)))
    (λ no_wait. bool_cases (is_text text (codes "taskgroup"))
    (λ group.
    rw (no_work, no_task, no_wait, group) (λ f. rw (same_text text (codes "taskgroup") group) f))
    (λ no_group. rw (no_work, no_task, no_wait, no_group) (λ f.
    let text_is = is_end text allowed no_work no_task no_wait no_group in
    let some : not (closes_none Statement depth (codes "}"))
    ≡ true = subst (λ (t : List ℕ). not (closes_none Statement depth t) ≡ true) text_is
    (unclosed_of Statement has_if depth text h) in
    rw text_is (end_rest depth texts some f))))))

-- an `if` in front of further clauses
if_clause : (depth : ℕ) (number : List ℕ) (texts : List (List ℕ))
    → is_number number ≡ true
    → ClausesRest true depth texts
    → ClausesRest false depth (codes "if" ∷ codes "(" ∷ number ∷ codes ")" ∷ texts)
if_clause depth number texts h c = record {
  clauses = IfClause number ∷ c.clauses;
  later = c.later;
  texts_are =
      ap (λ (ts : List (List ℕ)). codes "if" ∷ codes "(" ∷ number ∷ codes ")" ∷ ts) c.texts_are;
  forms = All-cons HasClauseForm (IfClause number) c.clauses h c.forms;
  one_if = omega (
    arith,
    c.one_if,
    sum_by-cons (λ (clause : grammar.Clause). cond (is_if clause) 1 0) (IfClause number)
        c.clauses,
  );
  rest = c.rest;
}

-- the `{` of a task in front of its body
brace_back : (has_if : Bool) (depth : ℕ) (texts : List (List ℕ)) → Rest (suc depth) texts
    → ClausesRest has_if depth (codes "{" ∷ texts)
brace_back true depth texts
    r = record {
      clauses = [];
      later = texts;
      texts_are = refl;
      forms = All-nil HasClauseForm;
      one_if = omega arith;
      rest = r;
    }
brace_back false depth texts
    r = record {
      clauses = [];
      later = texts;
      texts_are = refl;
      forms = All-nil HasClauseForm;
      one_if = omega arith;
      rest = r;
    }

-- an allowed token goes in front of further clauses
clause_back : (has_if : Bool) (depth : ℕ) (text : List ℕ) (texts : List (List ℕ))
    → StepsBack Clause has_if depth text texts
clause_back has_if depth text texts h =
    let allowed = allowed_of Clause has_if depth text h in
    bool_cases (is_text text (codes "{"))
    (λ brace.
    rw brace (λ f. rw (same_text text (codes "{") brace) (brace_back has_if depth texts f)))
    (λ no_brace. bool_cases (is_text text (codes "if"))
    (λ if_word. rw (no_brace, if_word) (λ f.
    let text_is = same_text text (codes "if") if_word in
    rw (text_is, first_if text has_if allowed text_is) f))
    (λ no_if. rw (no_brace, no_if) (λ f. rw (is_depend text has_if allowed no_brace no_if) f)))

-- a `depend` in front of further clauses
pub depend_texts : (names : List (List ℕ)) (last : List ℕ) (clauses tail : List (List ℕ))
    → flat_map name_and_comma names ++ last ∷ codes ")" ∷ (clauses ++ tail)
    ≡ ((flat_map name_and_comma names ++ last ∷ codes ")" ∷ []) ++ clauses) ++ tail
depend_texts names last clauses tail =
    sym (append_assoc (flat_map name_and_comma names ++ last ∷ codes ")" ∷ []) clauses tail
    ∙ append_assoc (flat_map name_and_comma names) (last ∷ codes ")" ∷ []) (clauses ++ tail))

-- a `depend` in front of names and further clauses
depend_clause : (kind : DependKind) (has_if : Bool) (depth : ℕ) (texts : List (List ℕ))
    → NamesRest has_if depth texts
    → ClausesRest has_if depth (codes "depend" ∷ codes "(" ∷ type_word kind ∷ codes ":" ∷ texts)
depend_clause kind has_if depth texts n =
    let clause = DependClause kind n.names n.last in
    let clauses_after = n.rest in
    record {
      clauses = clause ∷ clauses_after.clauses;
      later = clauses_after.later;
      texts_are =
          ap (λ (ts : List (List ℕ)). codes "depend" ∷ codes "(" ∷ type_word kind ∷ codes ":" ∷ ts)
          (n.texts_are
          ∙ ap (λ (ts : List (List ℕ)). flat_map name_and_comma n.names ++ n.last ∷ codes ")" ∷ ts)
          clauses_after.texts_are
          ∙ depend_texts n.names n.last (flat_map clause_texts clauses_after.clauses)
          (codes "{" ∷ clauses_after.later));
      forms = All-cons HasClauseForm clause clauses_after.clauses (n.words, n.last_word)
          clauses_after.forms;
      one_if = omega (
        arith,
        clauses_after.one_if,
        sum_by-cons (λ (one : grammar.Clause). cond (is_if one) 1 0) clause clauses_after.clauses,
      );
      rest = clauses_after.rest;
    }

-- the last name of a `depend` in front of further clauses
last_name : (has_if : Bool) (depth : ℕ) (name : List ℕ) (texts : List (List ℕ)) → IsWord name
    → ClausesRest has_if depth texts → NamesRest has_if depth (name ∷ codes ")" ∷ texts)
last_name has_if depth name texts word
    c = record {
      names = [];
      last = name;
      later = texts;
      texts_are = refl;
      words = All-nil IsWord;
      last_word = word;
      rest = c;
    }

name_more : (has_if : Bool) (depth : ℕ) (name : List ℕ) (texts : List (List ℕ)) → IsWord name
    → NamesRest has_if depth texts → NamesRest has_if depth (name ∷ codes "," ∷ texts)
name_more has_if depth name texts word n = record {
  names = name ∷ n.names;
  last = n.last;
  later = n.later;
  texts_are = ap (λ (ts : List (List ℕ)). name ∷ codes "," ∷ ts) n.texts_are;
  words = All-cons IsWord name n.names word n.words;
  last_word = n.last_word;
  rest = n.rest;
}

more_back : (kind : DependKind) (has_if : Bool) (depth : ℕ) (text : List ℕ) (texts : List (List ℕ))
    → StepsBack (DependMore kind) has_if depth text texts
more_back kind has_if depth text texts h =
    let allowed = allowed_of (DependMore kind) has_if depth text h in
    bool_cases (is_text text (codes ","))
    (λ comma. rw comma (λ f.
    rw (same_text text (codes ",") comma) (λ name word. name_more has_if depth name texts word f)))
    (λ other. rw other (λ f. rw
    (same_text text (codes ")")
    (or_true_right (is_text text (codes ",")) (is_text text (codes ")")) allowed other))
    (λ name word. last_name has_if depth name texts word f)))

closes_back : (has_if : Bool) (depth : ℕ) (texts : List (List ℕ)) → ClausesRest has_if depth texts
    → AfterNumber has_if depth (codes ")" ∷ texts)
closes_back true depth texts c = λ number h. if_clause depth number texts h c
closes_back false depth texts c = tt

header_back : (depth : ℕ) (text : List ℕ) (texts : List (List ℕ)) → text ≡ codes "omptasks"
    → SentenceAt depth (codes "omptasks" ∷ texts) → SentenceAt depth (text ∷ texts)
header_back depth text texts text_is s = rw text_is s

-- the number of the version in front of the statements
version_back : (depth : ℕ) (text : List ℕ) (texts : List (List ℕ))
    → (is_number text && eqb (value_of text) 1) ≡ true
    → Rest depth texts
    → SentenceAt depth (codes "omptasks" ∷ text ∷ texts)
version_back zero text texts h r = record {
  version = text;
  body = texts;
  version_is_one = ((and_parts _ _ h).0, eqb-true _ _ (and_parts (is_number text) _ h).1);
  spelled = refl;
  derived = derived_of_written texts r.written r.texts_are r.forms r.nested;
}
version_back (suc depth) text texts h r = tt

-- at every place: an allowed token goes in front of what follows it
pub steps_back : (place : Place) (has_if : Bool) (depth : ℕ) (text : List ℕ) (texts : List (List ℕ))
    → StepsBack place has_if depth text texts
steps_back Header has_if depth text texts h f =
    header_back depth text texts
    (same_text text (codes "omptasks") (header_of Header has_if depth text h)) f
steps_back Version has_if depth text texts h f =
    version_back depth text texts (header_of Version has_if depth text h) f
steps_back Statement has_if depth text texts h f = statement_back has_if depth text texts h f
steps_back WorkNumber has_if depth text texts h f =
    piece_rest depth depth (WorkWritten text) texts (allowed_of WorkNumber has_if depth text h)
    (λ pieces nested. nested) f
steps_back GroupBrace has_if depth text texts h f =
    rw (same_text text (codes "{") (allowed_of GroupBrace has_if depth text h))
    (piece_rest depth (suc depth) GroupWritten texts tt (λ pieces nested. nested) f)
steps_back Clause has_if depth text texts h f = clause_back has_if depth text texts h f
steps_back IfNumber has_if depth text texts h f = f text (allowed_of IfNumber has_if depth text h)
steps_back IfCloses has_if depth text texts h f =
    rw (same_text text (codes ")") (allowed_of IfCloses has_if depth text h))
    (closes_back has_if depth texts f)
steps_back DependType has_if depth text texts h f =
    subst (λ (t : List ℕ). ClausesRest has_if depth (codes "depend" ∷ codes "(" ∷ t ∷ texts))
    (sym (type_is text (allowed_of DependType has_if depth text h))) f
steps_back (DependColon kind) has_if depth text texts h f =
    rw (same_text text (codes ":") (allowed_of (DependColon kind) has_if depth text h))
    (depend_clause kind has_if depth texts f)
steps_back (DependName kind) has_if depth text texts h f =
    f text (allowed_of (DependName kind) has_if depth text h)
steps_back (DependMore kind) has_if depth text texts h f =
    more_back kind has_if depth text texts h f
steps_back place has_if depth text texts h f =
    rw (same_text text (codes "(") (allowed_of place has_if depth text h)) f

-- ---- wherever the reading stands, the grammar has something

abbrev Continued : Place → Bool → ℕ → Type 0
Continued place has_if depth = (texts : List (List ℕ)) × FollowsAt place has_if depth texts

pub nothing_follows : (has_if : Bool) → FollowsAt Statement has_if 0 []
nothing_follows
    has_if = record { written = []; texts_are = refl; forms = All-nil HasForm; nested = tt }

statement_continued : (has_if : Bool) (depth : ℕ) → Continued Statement has_if depth
statement_continued has_if zero = ([], nothing_follows has_if)
statement_continued has_if (suc depth) =
    let later = statement_continued has_if depth in
    (codes "}" ∷ later.0, end_rest (suc depth) later.0 refl later.1)

clause_continued : (has_if : Bool) (depth : ℕ) → Continued Clause has_if depth
clause_continued has_if depth =
    let later = statement_continued false (suc depth) in
    (codes "{" ∷ later.0, brace_back has_if depth later.0 later.1)

closes_continued : (has_if : Bool) (depth : ℕ) → Continued IfCloses has_if depth
closes_continued has_if depth =
    let later = clause_continued has_if depth in
    (codes ")" ∷ later.0, closes_back has_if depth later.0 later.1)

if_number_continued : (has_if : Bool) (depth : ℕ) → Continued IfNumber has_if depth
if_number_continued has_if depth =
    let later = closes_continued true depth in (codes "0" ∷ later.0, later.1 (codes "0") refl)

if_opens_continued : (has_if : Bool) (depth : ℕ) → Continued IfOpens has_if depth
if_opens_continued has_if depth =
    let later = if_number_continued has_if depth in (codes "(" ∷ later.0, later.1)

more_continued : (kind : DependKind) (has_if : Bool) (depth : ℕ)
    → Continued (DependMore kind) has_if depth
more_continued kind has_if depth =
    let later = clause_continued has_if depth in
    (codes ")" ∷ later.0, λ name word. last_name has_if depth name later.0 word later.1)

name_continued : (kind : DependKind) (has_if : Bool) (depth : ℕ)
    → Continued (DependName kind) has_if depth
name_continued kind has_if depth =
    let later = more_continued kind has_if depth in (codes "x" ∷ later.0, later.1 (codes "x") refl)

colon_continued : (kind : DependKind) (has_if : Bool) (depth : ℕ)
    → Continued (DependColon kind) has_if depth
colon_continued kind has_if depth =
    let later = name_continued kind has_if depth in
    (codes ":" ∷ later.0, depend_clause kind has_if depth later.0 later.1)

type_continued : (has_if : Bool) (depth : ℕ) → Continued DependType has_if depth
type_continued has_if depth =
    let later = colon_continued DependIn has_if depth in (codes "in" ∷ later.0, later.1)

depend_continued : (has_if : Bool) (depth : ℕ) → Continued DependOpens has_if depth
depend_continued has_if depth =
    let later = type_continued has_if depth in (codes "(" ∷ later.0, later.1)

version_continued : (has_if : Bool) (depth : ℕ) → Continued Version has_if depth
version_continued has_if depth =
    let later = statement_continued has_if depth in
    (codes "1" ∷ later.0, version_back depth (codes "1") later.0 refl later.1)

-- the words that may close a text from here on
pub may_continue : (place : Place) (has_if : Bool) (depth : ℕ) → Continued place has_if depth
may_continue Header has_if depth =
    let later = version_continued has_if depth in (codes "omptasks" ∷ later.0, later.1)
may_continue Version has_if depth = version_continued has_if depth
may_continue Statement has_if depth = statement_continued has_if depth
may_continue WorkNumber has_if depth =
    let later = statement_continued has_if depth in (
      codes "0" ∷ later.0,
      piece_rest depth depth (WorkWritten (codes "0")) later.0 refl (λ pieces nested. nested)
          later.1,
    )
may_continue GroupBrace has_if depth =
    let later = statement_continued has_if (suc depth) in (
      codes "{" ∷ later.0,
      piece_rest depth (suc depth) GroupWritten later.0 tt (λ pieces nested. nested) later.1,
    )
may_continue Clause has_if depth = clause_continued has_if depth
may_continue IfOpens has_if depth = if_opens_continued has_if depth
may_continue IfNumber has_if depth = if_number_continued has_if depth
may_continue IfCloses has_if depth = closes_continued has_if depth
may_continue DependOpens has_if depth = depend_continued has_if depth
may_continue DependType has_if depth = type_continued has_if depth
may_continue (DependColon kind) has_if depth = colon_continued kind has_if depth
may_continue (DependName kind) has_if depth = name_continued kind has_if depth
may_continue (DependMore kind) has_if depth = more_continued kind has_if depth
