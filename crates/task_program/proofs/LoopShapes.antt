-- What decides which token may come in version 2, and what may follow where the first pass stands
-- so.
use Rattle.std.proofs.Common.{◌≡◌, ℕ, ◌+◌, ◌≤◌, Bool, true, false, not, ◌&&◌, ◌||◌, cond, List, []}
use Rattle.std.proofs.Common.{◌∷◌, ◌++◌, append_assoc, refl, sym, ap, subst, ◌∙◌, arith, codes}
use Rattle.std.specs.Prelude.{All, count_by, if◌then◌else◌}
use Rattle.std.specs.List.{flat_map, list_any}
use Rattle.std.specs.Str.{bytes_eq}
use Rattle.std.proofs.lemmas.List.Elements.{All-nil, All-cons}
use Rattle.std.proofs.lemmas.List.Sums.{sum_by-cons}
use Rattle.std.proofs.lemmas.Bool.{and_parts, not-true}
use Rattle.std.proofs.Math.Bool.{or-false}
use Rattle.loop_text.specs.declared.loop_place.LoopPlace.{LoopPlace}
use Rattle.loop_text.specs.declared.loop_place.LoopPlace.TheVariants.{Statement, WorkNumber}
use Rattle.loop_text.specs.declared.loop_place.LoopPlace.TheVariants.{GroupBrace, ForVariable}
use Rattle.loop_text.specs.declared.loop_place.LoopPlace.TheVariants.{ForFrom, ForTo, ForBrace}
use Rattle.loop_text.specs.declared.loop_place.LoopPlace.TheVariants.{Clause, IfOpens, IfNumber}
use Rattle.loop_text.specs.declared.loop_place.LoopPlace.TheVariants.{IfCloses, FinalOpens}
use Rattle.loop_text.specs.declared.loop_place.LoopPlace.TheVariants.{FinalNumber, FinalCloses}
use Rattle.loop_text.specs.declared.loop_place.LoopPlace.TheVariants.{DependOpens, DependType}
use Rattle.loop_text.specs.declared.loop_place.LoopPlace.TheVariants.{DependColon, DependName}
use Rattle.loop_text.specs.declared.loop_place.LoopPlace.TheVariants.{Subscript, IndexStart}
use Rattle.loop_text.specs.declared.loop_place.LoopPlace.TheVariants.{IndexNumber, IndexSign}
use Rattle.loop_text.specs.declared.loop_place.LoopPlace.TheVariants.{IndexCloses, DependMore}
use Rattle.program_text.specs.declared.statement.DependKind.{DependKind}
use Rattle.program_text.specs.Words.{is_text, is_word, is_number, is_type, type_word}
use Rattle.program_text.specs.Words.{is_statement_word, type_of}
use Rattle.loop_text.specs.FirstPass.{ends_item}
use Rattle.loop_text.specs.LoopTokens.{is_plus_or_minus}
use Rattle.task_program.proofs.LoopPieces.{IndexWritten, ItemWritten, LoopClause, LoopPiece}
use Rattle.task_program.proofs.LoopPieces.{index_texts, item_texts, item_and_comma}
use Rattle.task_program.proofs.LoopPieces.{clause_texts, piece_texts, HasNumberForm, IsWord}
use Rattle.task_program.proofs.LoopPieces.{IsVariableAround, IsNewVariable, HasIndexForm}
use Rattle.task_program.proofs.LoopPieces.{HasItemForm, HasLoopClauseForm, is_if, is_final}
use Rattle.task_program.proofs.LoopPieces.{HaveLoopForms}
use Rattle.task_program.proofs.LoopPieces.LoopClause.{IfClause, FinalClause}
use Rattle.task_program.proofs.LoopPieces.LoopPiece.{TaskPiece, WaitPiece, EndPiece}
use Rattle.task_program.proofs.FoundPlaces.{same_text}
use Rattle.program_text.proofs.Bools.{bool_cases}
use Rattle.task_program.proofs.LoopPieces.{no_more_than_one}

-- the place, the clauses that the task has, the variable of the `for` that is read, those of the
-- loops around, and for each open block those of the loops around it
pub record LoopShape : Type 0 where
  pub place : LoopPlace
  pub has_if : Bool
  pub has_final : Bool
  pub variable : List ℕ
  pub variables : List (List ℕ)
  pub around : List (List (List ℕ))

abbrev pub shape_at : LoopPlace → Bool → Bool → List ℕ → List (List ℕ) → List (List (List ℕ))
    → LoopShape
shape_at place has_if has_final x variables
    around = record {
      place = place;
      has_if = has_if;
      has_final = has_final;
      variable = x;
      variables = variables;
      around = around;
    }

-- ---- which tokens are allowed, and where they lead

abbrev pub closes_none : LoopPlace → List (List (List ℕ)) → List ℕ → Bool
closes_none Statement [] text = is_text text (codes "}")
closes_none Statement (outer ∷ around) text = false
closes_none _ around text = false

abbrev pub clause_word : Bool → Bool → List ℕ → Bool
clause_word has_if has_final text =
    is_text text (codes "depend")
    || ((is_text text (codes "if") && not has_if) || (is_text text (codes "final") && not
    has_final))

abbrev pub allowed_at : LoopPlace → Bool → Bool → List (List ℕ) → List ℕ → Bool
allowed_at Statement has_if has_final variables text =
    (is_statement_word text || is_text text (codes "for")) || is_text text (codes "}")
allowed_at WorkNumber has_if has_final variables text = is_number text
allowed_at GroupBrace has_if has_final variables text = is_text text (codes "{")
allowed_at ForVariable has_if has_final variables text = is_word text && not
    (list_any (bytes_eq text) variables)
allowed_at ForFrom has_if has_final variables text = is_number text
allowed_at ForTo has_if has_final variables text = is_number text
allowed_at ForBrace has_if has_final variables text = is_text text (codes "{")
allowed_at Clause has_if has_final variables text = is_text text (codes "{") || clause_word has_if
    has_final text
allowed_at IfOpens has_if has_final variables text = is_text text (codes "(")
allowed_at IfNumber has_if has_final variables text = is_number text
allowed_at IfCloses has_if has_final variables text = is_text text (codes ")")
allowed_at FinalOpens has_if has_final variables text = is_text text (codes "(")
allowed_at FinalNumber has_if has_final variables text = is_number text
allowed_at FinalCloses has_if has_final variables text = is_text text (codes ")")
allowed_at DependOpens has_if has_final variables text = is_text text (codes "(")
allowed_at DependType has_if has_final variables text = is_type text
allowed_at (DependColon kind) has_if has_final variables text = is_text text (codes ":")
allowed_at (DependName kind) has_if has_final variables text = is_word text
allowed_at (Subscript kind) has_if has_final variables text = is_text text (codes "[") || ends_item
    text
allowed_at (IndexStart kind) has_if has_final variables text =
    is_number text || (is_text text (codes "-") || (is_word text && list_any (bytes_eq text)
    variables))
allowed_at (IndexNumber kind) has_if has_final variables text = is_number text
allowed_at (IndexSign kind) has_if has_final variables text = is_plus_or_minus text || is_text text
    (codes "]")
allowed_at (IndexCloses kind) has_if has_final variables text = is_text text (codes "]")
allowed_at (DependMore kind) has_if has_final variables text = ends_item text

abbrev pub fits_at : LoopPlace → Bool → Bool → List (List ℕ) → List (List (List ℕ)) → List ℕ → Bool
fits_at place has_if has_final variables around text = not (closes_none place around text) &&
    allowed_at place has_if has_final variables text

abbrev pub fits : LoopShape → List ℕ → Bool
fits s text = fits_at s.place s.has_if s.has_final s.variables s.around text

-- the shape after a `}`
abbrev pub lead_end : Bool → Bool → List ℕ → List (List ℕ) → List (List (List ℕ)) → LoopShape
lead_end has_if has_final x variables [] = shape_at Statement has_if has_final x variables []
lead_end has_if has_final x variables (outer ∷ around) = shape_at Statement has_if has_final x outer
    around

abbrev pub lead_statement : Bool → Bool → List ℕ → List (List ℕ) → List (List (List ℕ)) → List ℕ
    → LoopShape
lead_statement has_if has_final x variables around text =
    if is_text text (codes "work") then shape_at WorkNumber has_if has_final x variables around
    else (if is_text text (codes "task") then shape_at Clause has_if has_final x variables around
    else (if is_text text (codes "taskwait") then shape_at Statement has_if has_final x variables
    around
    else (if is_text text (codes "taskgroup") then shape_at GroupBrace has_if has_final x variables
    around
    else (if is_text text (codes "for") then shape_at ForVariable has_if has_final x variables
    around
    else lead_end has_if has_final x variables around))))

abbrev pub lead_clause : Bool → Bool → List ℕ → List (List ℕ) → List (List (List ℕ)) → List ℕ
    → LoopShape
lead_clause has_if has_final x variables around text =
    if is_text text (codes "{") then shape_at Statement false false x variables (variables ∷ around)
    else (if is_text text (codes "if") then shape_at IfOpens has_if has_final x variables around
    else (if is_text text (codes "final") then shape_at FinalOpens has_if has_final x variables
    around
    else shape_at DependOpens has_if has_final x variables around))

abbrev pub lead_item : DependKind → Bool → Bool → List ℕ → List (List ℕ) → List (List (List ℕ))
    → List ℕ → LoopShape
lead_item kind has_if has_final x variables around text =
    if is_text text (codes ",")
    then shape_at (DependName kind) has_if has_final x variables around
    else shape_at Clause has_if has_final x variables around

abbrev pub lead_at : LoopPlace → Bool → Bool → List ℕ → List (List ℕ) → List (List (List ℕ))
    → List ℕ → LoopShape
lead_at Statement has_if has_final x variables around text = lead_statement has_if has_final x
    variables around text
lead_at WorkNumber has_if has_final x variables around text = shape_at Statement has_if has_final x
    variables around
lead_at GroupBrace has_if has_final x variables around text = shape_at Statement has_if has_final x
    variables (variables ∷ around)
lead_at ForVariable has_if has_final x variables around text = shape_at ForFrom has_if has_final
    text variables around
lead_at ForFrom has_if has_final x variables around text = shape_at ForTo has_if has_final x
    variables around
lead_at ForTo has_if has_final x variables around text = shape_at ForBrace has_if has_final x
    variables around
lead_at ForBrace has_if has_final x variables around text = shape_at Statement has_if has_final []
    (x ∷ variables) (variables ∷ around)
lead_at Clause has_if has_final x variables around text = lead_clause has_if has_final x variables
    around text
lead_at IfOpens has_if has_final x variables around text = shape_at IfNumber has_if has_final x
    variables around
lead_at IfNumber has_if has_final x variables around text = shape_at IfCloses true has_final x
    variables around
lead_at IfCloses has_if has_final x variables around text = shape_at Clause has_if has_final x
    variables around
lead_at FinalOpens has_if has_final x variables around text = shape_at FinalNumber has_if has_final
    x variables around
lead_at FinalNumber has_if has_final x variables around text = shape_at FinalCloses has_if true x
    variables around
lead_at FinalCloses has_if has_final x variables around text = shape_at Clause has_if has_final x
    variables around
lead_at DependOpens has_if has_final x variables around text = shape_at DependType has_if has_final
    x variables around
lead_at DependType has_if has_final x variables around text = shape_at (DependColon (type_of text))
    has_if has_final x variables around
lead_at (DependColon kind) has_if has_final x variables around text = shape_at (DependName kind)
    has_if has_final x variables around
lead_at (DependName kind) has_if has_final x variables around text = shape_at (Subscript kind)
    has_if has_final x variables around
lead_at (Subscript kind) has_if has_final x variables around text =
    if is_text text (codes "[")
    then shape_at (IndexStart kind) has_if has_final x variables around
    else lead_item kind has_if has_final x variables around text
lead_at (IndexStart kind) has_if has_final x variables around text =
    if is_number text then shape_at (IndexCloses kind) has_if has_final x variables around
    else (if is_text text (codes "-")
    then shape_at (IndexNumber kind) has_if has_final x variables around
    else shape_at (IndexSign kind) has_if has_final x variables around)
lead_at (IndexNumber kind) has_if has_final x variables around text = shape_at (IndexCloses kind)
    has_if has_final x variables around
lead_at (IndexSign kind) has_if has_final x variables around text =
    if is_text text (codes "]")
    then shape_at (DependMore kind) has_if has_final x variables around
    else shape_at (IndexNumber kind) has_if has_final x variables around
lead_at (IndexCloses kind) has_if has_final x variables around text = shape_at (DependMore kind)
    has_if has_final x variables around
lead_at (DependMore kind) has_if has_final x variables around text = lead_item kind has_if has_final
    x variables around text

abbrev pub lead : LoopShape → List ℕ → LoopShape
lead s text = lead_at s.place s.has_if s.has_final s.variable s.variables s.around text

-- ---- what the grammar has after a prefix that leads so far

pub record Rest (variables : List (List ℕ)) (around : List (List (List ℕ))) (texts : List (List ℕ))
    : Type
    0 where
  pub pieces : List LoopPiece
  pub texts_are : texts ≡ flat_map piece_texts pieces
  pub forms : HaveLoopForms pieces variables around

pub record ClausesRest (has_if has_final : Bool) (variables : List (List ℕ))
    (around : List (List (List ℕ)))
    (texts : List (List ℕ))
    : Type 0 where
  pub clauses : List LoopClause
  pub later : List (List ℕ)
  pub texts_are : texts ≡ flat_map clause_texts clauses ++ codes "{" ∷ later
  pub forms : All (HasLoopClauseForm variables) clauses
  pub one_if : cond has_if 1 0 + count_by is_if clauses ≤ 1
  pub one_final : cond has_final 1 0 + count_by is_final clauses ≤ 1
  pub rest : Rest variables (variables ∷ around) later

pub record ItemsRest (has_if has_final : Bool) (variables : List (List ℕ))
    (around : List (List (List ℕ)))
    (texts : List (List ℕ))
    : Type 0 where
  pub items : List ItemWritten
  pub last : ItemWritten
  pub later : List (List ℕ)
  pub texts_are : texts ≡ flat_map item_and_comma items ++ (item_texts last ++ codes ")" ∷ later)
  pub forms : All (HasItemForm variables) items
  pub last_form : HasItemForm variables last
  pub rest : ClausesRest has_if has_final variables around later

abbrev pub AfterIf : Bool → Bool → List (List ℕ) → List (List (List ℕ)) → List (List ℕ) → Type 0
AfterIf true has_final variables around texts =
    (number : List ℕ) → HasNumberForm number
    → ClausesRest false has_final variables around (codes "if" ∷ codes "(" ∷ number ∷ texts)
AfterIf false has_final variables around texts = Unit {0}

abbrev pub AfterFinal : Bool → Bool → List (List ℕ) → List (List (List ℕ)) → List (List ℕ) → Type 0
AfterFinal has_if true variables around texts =
    (number : List ℕ) → HasNumberForm number
    → ClausesRest has_if false variables around (codes "final" ∷ codes "(" ∷ number ∷ texts)
AfterFinal has_if false variables around texts = Unit {0}

-- an index up to its number
pub data OpenIndex : List (List ℕ) → List (List ℕ) → Type 0 where
  OpenMinus : (variables : List (List ℕ)) → OpenIndex variables (codes "-" ∷ [])
  OpenSign : (variables : List (List ℕ)) (variable sign : List ℕ)
      → IsVariableAround variables variable
      → is_plus_or_minus sign ≡ true
      → OpenIndex variables (variable ∷ sign ∷ [])

abbrev pub FollowsAt : LoopPlace → Bool → Bool → List ℕ → List (List ℕ) → List (List (List ℕ))
    → List (List ℕ) → Type 0
FollowsAt Statement has_if has_final x variables around ts = Rest variables around ts
FollowsAt WorkNumber has_if has_final x variables around ts = Rest variables around
    (codes "work" ∷ ts)
FollowsAt GroupBrace has_if has_final x variables around ts = Rest variables around
    (codes "taskgroup" ∷ ts)
FollowsAt ForVariable has_if has_final x variables around ts = Rest variables around
    (codes "for" ∷ ts)
FollowsAt ForFrom has_if has_final x variables around ts = IsNewVariable variables x → Rest
    variables around (codes "for" ∷ x ∷ ts)
FollowsAt ForTo has_if has_final x variables around ts =
    IsNewVariable variables x → (first : List ℕ) → HasNumberForm first
    → Rest variables around (codes "for" ∷ x ∷ first ∷ ts)
FollowsAt ForBrace has_if has_final x variables around ts =
    IsNewVariable variables x → (first last : List ℕ) → HasNumberForm first → HasNumberForm last
    → Rest variables around (codes "for" ∷ x ∷ first ∷ last ∷ ts)
FollowsAt Clause has_if has_final x variables around ts = ClausesRest has_if has_final variables
    around ts
FollowsAt IfOpens has_if has_final x variables around ts = ClausesRest false has_final variables
    around (codes "if" ∷ ts)
FollowsAt IfNumber has_if has_final x variables around ts = ClausesRest false has_final variables
    around (codes "if" ∷ codes "(" ∷ ts)
FollowsAt IfCloses has_if has_final x variables around ts = AfterIf has_if has_final variables
    around ts
FollowsAt FinalOpens has_if has_final x variables around ts = ClausesRest has_if false variables
    around (codes "final" ∷ ts)
FollowsAt FinalNumber has_if has_final x variables around ts = ClausesRest has_if false variables
    around (codes "final" ∷ codes "(" ∷ ts)
FollowsAt FinalCloses has_if has_final x variables around ts = AfterFinal has_if has_final variables
    around ts
FollowsAt DependOpens has_if has_final x variables around ts = ClausesRest has_if has_final
    variables around (codes "depend" ∷ ts)
FollowsAt DependType has_if has_final x variables around ts = ClausesRest has_if has_final variables
    around (codes "depend" ∷ codes "(" ∷ ts)
FollowsAt (DependColon kind) has_if has_final x variables around ts =
    ClausesRest has_if has_final variables around (codes "depend" ∷ codes "(" ∷ type_word kind ∷ ts)
FollowsAt (DependName kind) has_if has_final x variables around ts = ItemsRest has_if has_final
    variables around ts
FollowsAt (Subscript kind) has_if has_final x variables around ts =
    (name : List ℕ) → IsWord name → ItemsRest has_if has_final variables around (name ∷ ts)
FollowsAt (IndexStart kind) has_if has_final x variables around ts =
    (name : List ℕ) → IsWord name → ItemsRest has_if has_final variables around
    (name ∷ codes "[" ∷ ts)
FollowsAt (IndexNumber kind) has_if has_final x variables around ts =
    (name : List ℕ) → IsWord name → (before : List (List ℕ)) → OpenIndex variables before
    → ItemsRest has_if has_final variables around (name ∷ codes "[" ∷ (before ++ ts))
FollowsAt (IndexSign kind) has_if has_final x variables around ts =
    (name : List ℕ) → IsWord name → (variable : List ℕ) → IsVariableAround variables variable
    → ItemsRest has_if has_final variables around (name ∷ codes "[" ∷ variable ∷ ts)
FollowsAt (IndexCloses kind) has_if has_final x variables around ts =
    (name : List ℕ) → IsWord name → (index : IndexWritten) → HasIndexForm variables index
    → ItemsRest has_if has_final variables around (name ∷ codes "[" ∷ (index_texts index ++ ts))
FollowsAt (DependMore kind) has_if has_final x variables around ts =
    (item : ItemWritten) → HasItemForm variables item → ItemsRest has_if has_final variables around
    (item_texts item ++ ts)

abbrev pub Follows : LoopShape → List (List ℕ) → Type 0
Follows s texts = FollowsAt s.place s.has_if s.has_final s.variable s.variables s.around texts

-- ---- a token that is allowed goes in front

pub allowed_of : (place : LoopPlace) (has_if has_final : Bool) (variables : List (List ℕ))
    (around : List (List (List ℕ)))
    (text : List ℕ)
    → fits_at place has_if has_final variables around text ≡ true → allowed_at place has_if
    has_final variables text ≡ true
allowed_of place has_if has_final variables around text h =
    (and_parts (not (closes_none place around text)) _ h).1

abbrev pub StepsBack : LoopPlace → Bool → Bool → List ℕ → List (List ℕ) → List (List (List ℕ))
    → List ℕ → List (List ℕ)
    → Type 0
StepsBack place has_if has_final x variables around text ts =
    fits_at place has_if has_final variables around text ≡ true → Follows
    (lead_at place has_if has_final x variables around text) ts
    → FollowsAt place has_if has_final x variables around (text ∷ ts)

pub piece_rest : (variables : List (List ℕ)) (around : List (List (List ℕ))) (vs' : List (List ℕ))
    (us' : List (List (List ℕ))) (piece : LoopPiece) (ts : List (List ℕ))
    → ((pieces : List LoopPiece) → HaveLoopForms pieces vs' us'
    → HaveLoopForms (piece ∷ pieces) variables around)
    → Rest vs' us' ts → Rest variables around (piece_texts piece ++ ts)
piece_rest variables around vs' us' piece ts forms r = record {
  pieces = piece ∷ r.pieces;
  texts_are = ap (λ (texts : List (List ℕ)). piece_texts piece ++ texts) r.texts_are;
  forms = forms r.pieces r.forms;
}

-- clauses, a `{` and what follows make a task with what follows
task_rest : (has_if has_final : Bool) (variables : List (List ℕ)) (around : List (List (List ℕ)))
    (ts : List (List ℕ))
    → ClausesRest has_if has_final variables around ts → Rest variables around (codes "task" ∷ ts)
task_rest has_if has_final variables around ts c = record {
  pieces = TaskPiece c.clauses ∷ c.rest.pieces;
  texts_are = ap (λ (texts : List (List ℕ)). codes "task" ∷ texts) (c.texts_are
      ∙ ap (λ (texts : List (List ℕ)). flat_map clause_texts c.clauses ++ codes "{" ∷ texts)
      c.rest.texts_are
      ∙ sym (append_assoc (flat_map clause_texts c.clauses) (codes "{" ∷ [])
      (flat_map piece_texts c.rest.pieces)));
  forms = (
    (c.forms, no_more_than_one has_if _ c.one_if, no_more_than_one has_final _ c.one_final),
    c.rest.forms,
  );
}

end_rest : (has_if has_final : Bool) (x : List ℕ) (variables : List (List ℕ))
    (around : List (List (List ℕ)))
    (ts : List (List ℕ))
    → not (closes_none Statement around (codes "}")) ≡ true → Follows
    (lead_end has_if has_final x variables around) ts
    → Rest variables around (codes "}" ∷ ts)
end_rest has_if has_final x variables [] ts h r = absurd cc
end_rest has_if has_final x variables (outer ∷ around) ts h r =
    piece_rest variables (outer ∷ around) outer around EndPiece ts (λ pieces forms. forms) r

pub is_loop_end : (text : List ℕ)
    → ((is_statement_word text || is_text text (codes "for")) || is_text text (codes "}")) ≡ true
    → is_text text (codes "work") ≡ false → is_text text (codes "task") ≡ false
    → is_text text (codes "taskwait") ≡ false → is_text text (codes "taskgroup") ≡ false
    → is_text text (codes "for") ≡ false → text ≡ codes "}"
is_loop_end text h no_work no_task no_wait no_group no_for =
    same_text text (codes "}") (rw (no_work, no_task, no_wait, no_group, no_for) at h)

-- an allowed first word of a statement goes in front of what follows it
pub statement_back : (has_if has_final : Bool) (x : List ℕ) (variables : List (List ℕ))
    (around : List (List (List ℕ)))
    (text : List ℕ) (ts : List (List ℕ))
    → StepsBack Statement has_if has_final x variables around text ts
statement_back has_if has_final x variables around text ts h =
    bool_cases (is_text text (codes "work"))
    (λ work. rw work (λ f. rw (same_text text (codes "work") work) f))
    (λ no_work. bool_cases (is_text text (codes "task"))
    (λ task.
    rw (no_work, task) (λ f. rw (same_text text (codes "task") task) (task_rest has_if has_final
    variables around ts f)))
    (λ no_task. bool_cases (is_text text (codes "taskwait"))
    (λ wait. rw (
      no_work,
      no_task,
      wait,
    ) (λ f. rw (same_text text (codes "taskwait") wait)
    (piece_rest variables around variables around WaitPiece ts (λ pieces forms. forms) f)))
    (λ no_wait. bool_cases (is_text text (codes "taskgroup"))
    (λ group.
    rw (no_work, no_task, no_wait, group) (λ f. rw (same_text text (codes "taskgroup") group) f))
    (λ no_group. bool_cases (is_text text (codes "for"))
    (λ loop.
    rw (no_work, no_task, no_wait, no_group, loop) (λ f. rw (same_text text (codes "for") loop) f))
    (λ no_for. rw (no_work, no_task, no_wait, no_group, no_for) (λ f.
    let text_is = is_loop_end text (allowed_of Statement has_if has_final variables around text h)
    no_work no_task no_wait
    no_group no_for in
    let some : not (closes_none Statement around (codes "}"))
    ≡ true = subst (λ (t : List ℕ). not (closes_none Statement around t) ≡ true) text_is
    (and_parts (not (closes_none Statement around text)) _ h).0 in
    rw text_is (end_rest has_if has_final x variables around ts some f)))))))

pub new_variable : (variables : List (List ℕ)) (text : List ℕ)
    → (is_word text && not (list_any (bytes_eq text) variables)) ≡ true
    → IsNewVariable variables text
new_variable variables text h =
    ((and_parts (is_word text) _ h).0, not-true _ (and_parts (is_word text) _ h).1)

-- an `if` in front of further clauses
if_clause : (has_final : Bool) (variables : List (List ℕ)) (around : List (List (List ℕ)))
    (number : List ℕ)
    (ts : List (List ℕ))
    → HasNumberForm number → ClausesRest true has_final variables around ts
    → ClausesRest false has_final variables around
    (codes "if" ∷ codes "(" ∷ number ∷ codes ")" ∷ ts)
if_clause has_final variables around number ts h c = record {
  clauses = IfClause number ∷ c.clauses;
  later = c.later;
  texts_are = ap (λ (texts : List (List ℕ)). codes "if" ∷ codes "(" ∷ number ∷ codes ")" ∷ texts)
      c.texts_are;
  forms = All-cons (HasLoopClauseForm variables) (IfClause number) c.clauses h c.forms;
  one_if = omega (
    arith,
    c.one_if,
    sum_by-cons (λ (clause : LoopClause). cond (is_if clause) 1 0) (IfClause number) c.clauses,
  );
  one_final = omega (
    arith,
    c.one_final,
    sum_by-cons (λ (clause : LoopClause). cond (is_final clause) 1 0) (IfClause number)
        c.clauses,
  );
  rest = c.rest;
}

-- a `final` in front of further clauses
final_clause : (has_if : Bool) (variables : List (List ℕ)) (around : List (List (List ℕ)))
    (number : List ℕ)
    (ts : List (List ℕ))
    → HasNumberForm number → ClausesRest has_if true variables around ts
    → ClausesRest has_if false variables around
    (codes "final" ∷ codes "(" ∷ number ∷ codes ")" ∷ ts)
final_clause has_if variables around number ts h c = record {
  clauses = FinalClause number ∷ c.clauses;
  later = c.later;
  texts_are = ap (λ (texts : List (List ℕ)). codes "final" ∷ codes "(" ∷ number ∷ codes ")" ∷ texts)
      c.texts_are;
  forms = All-cons (HasLoopClauseForm variables) (FinalClause number) c.clauses h c.forms;
  one_if = omega (
    arith,
    c.one_if,
    sum_by-cons (λ (clause : LoopClause). cond (is_if clause) 1 0) (FinalClause number)
        c.clauses,
  );
  one_final = omega (
    arith,
    c.one_final,
    sum_by-cons (λ (clause : LoopClause). cond (is_final clause) 1 0) (FinalClause number)
        c.clauses,
  );
  rest = c.rest;
}

pub if_back : (has_if has_final : Bool) (variables : List (List ℕ)) (around : List (List (List ℕ)))
    (ts : List (List ℕ))
    → ClausesRest has_if has_final variables around ts → AfterIf has_if has_final variables around
    (codes ")" ∷ ts)
if_back true has_final variables around ts c = λ number h. if_clause has_final variables around
    number ts h c
if_back false has_final variables around ts c = tt

pub final_back : (has_if has_final : Bool) (variables : List (List ℕ))
    (around : List (List (List ℕ)))
    (ts : List (List ℕ))
    → ClausesRest has_if has_final variables around ts → AfterFinal has_if has_final variables
    around (codes ")" ∷ ts)
final_back has_if true variables around ts c = λ number h. final_clause has_if variables around
    number ts h c
final_back has_if false variables around ts c = tt

none_yet : (has : Bool) → cond has 1 0 + 0 ≤ 1
none_yet true = omega arith
none_yet false = omega arith

-- a second `final` is no clause
final_twice : (has_if : Bool) → allowed_at Clause has_if true [] (codes "final") ≡ true → ⊥
final_twice true h = absurd cc
final_twice false h = absurd cc

pub brace_back : (has_if has_final : Bool) (variables : List (List ℕ))
    (around : List (List (List ℕ)))
    (ts : List (List ℕ))
    → Rest variables (variables ∷ around) ts → ClausesRest has_if has_final variables around
    (codes "{" ∷ ts)
brace_back has_if has_final variables around ts
    r = record {
      clauses = [];
      later = ts;
      texts_are = refl;
      forms = All-nil (HasLoopClauseForm variables);
      one_if = none_yet has_if;
      one_final = none_yet has_final;
      rest = r;
    }

clause_if : (has_if has_final : Bool) → allowed_at Clause has_if has_final [] (codes "if") ≡ true →
    has_if ≡ false
clause_if true has_final h = absurd cc
clause_if false has_final h = refl

clause_final : (has_if has_final : Bool) → allowed_at Clause has_if has_final [] (codes "final") ≡
    true → has_final ≡ false
clause_final has_if true h = absurd (final_twice has_if h)
clause_final has_if false h = refl

pub clause_depend : (text : List ℕ) (has_if has_final : Bool)
    → (is_text text (codes "{") || clause_word has_if has_final text) ≡ true
    → is_text text (codes "{") ≡ false
    → is_text text (codes "if") ≡ false
    → is_text text (codes "final") ≡ false
    → text ≡ codes "depend"
clause_depend text has_if has_final h no_brace no_if no_final =
    same_text text (codes "depend")
    (sym (or-false (is_text text (codes "depend"))) ∙ (rw (no_brace, no_if, no_final) at h))

-- an allowed token goes in front of further clauses
pub clause_back : (has_if has_final : Bool) (x : List ℕ) (variables : List (List ℕ))
    (around : List (List (List ℕ)))
    (text : List ℕ) (ts : List (List ℕ))
    → StepsBack Clause has_if has_final x variables around text ts
clause_back has_if has_final x variables around text ts h =
    let allowed = allowed_of Clause has_if has_final variables around text h in
    bool_cases (is_text text (codes "{"))
    (λ brace. rw brace (λ f. rw (same_text text (codes "{") brace) (brace_back has_if has_final
    variables around ts f)))
    (λ no_brace. bool_cases (is_text text (codes "if"))
    (λ if_word. rw (no_brace, if_word) (λ f.
    let text_is = same_text text (codes "if") if_word in
    let none : has_if
    ≡ false = clause_if has_if has_final
    (subst (λ (t : List ℕ). allowed_at Clause has_if has_final [] t ≡ true) text_is allowed) in
    rw (text_is, none) f))
    (λ no_if. bool_cases (is_text text (codes "final"))
    (λ final_word. rw (no_brace, no_if, final_word) (λ f.
    let text_is = same_text text (codes "final") final_word in
    let none : has_final
    ≡ false = clause_final has_if has_final
    (subst (λ (t : List ℕ). allowed_at Clause has_if has_final [] t ≡ true) text_is allowed) in
    rw (text_is, none) f))
    (λ no_final. rw (no_brace, no_if, no_final)
    (λ f. rw (clause_depend text has_if has_final allowed no_brace no_if no_final) f))))
