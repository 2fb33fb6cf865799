-- What the first pass takes of a statement and of its clauses is spelled so.
use Rattle.std.proofs.Common.{◌≡◌, ℕ, Bool, true, false, not, ◌&&◌, ◌||◌, List, [], ◌∷◌, ◌++◌}
use Rattle.std.proofs.Common.{append_assoc, refl, sym, ap, subst, ◌∙◌, codes}
use Rattle.std.specs.Prelude.{nat_lt}
use Rattle.std.specs.List.{list_any}
use Rattle.std.specs.Str.{bytes_eq}
use Rattle.std.proofs.lemmas.Bool.{ltb-false, and_parts, not-true}
use Rattle.loop_text.specs.declared.loop_place.LoopPlace.{LoopPlace}
use Rattle.loop_text.specs.declared.loop_place.LoopPlace.TheVariants.{Statement, WorkNumber}
use Rattle.loop_text.specs.declared.loop_place.LoopPlace.TheVariants.{GroupBrace, ForVariable}
use Rattle.loop_text.specs.declared.loop_place.LoopPlace.TheVariants.{ForFrom, ForTo, ForBrace}
use Rattle.loop_text.specs.declared.loop_place.LoopPlace.TheVariants.{Clause, IfOpens, IfNumber}
use Rattle.loop_text.specs.declared.loop_place.LoopPlace.TheVariants.{IfCloses, FinalOpens}
use Rattle.loop_text.specs.declared.loop_place.LoopPlace.TheVariants.{FinalNumber, FinalCloses}
use Rattle.loop_text.specs.declared.loop_place.LoopPlace.TheVariants.{DependOpens}
use Rattle.loop_text.specs.declared.loop_reader.LoopHead.{LoopHead}
use Rattle.loop_text.specs.declared.loop_reader.Pending.{Pending}
use Rattle.loop_text.specs.declared.loop_reader.Bounds.{Bounds}
use Rattle.loop_text.specs.declared.open_loops.LoopOpening.TheVariants.{TaskOpening, GroupOpening}
use Rattle.loop_text.specs.declared.open_loops.LoopOpening.TheVariants.{ForOpening}
use Rattle.loop_text.specs.declared.open_loops.LoopBlock.{LoopBlock}
use Rattle.program_text.specs.declared.limits.TheConstants.{LARGEST_COST, LARGEST_BOUND}
use Rattle.program_text.specs.Tokens.{Token}
use Rattle.program_text.specs.Words.{is_text, is_word, is_number, value_of, is_statement_word}
use Rattle.loop_text.specs.Loops.{Tree}
use Rattle.loop_text.specs.Loops.Tree.{ThenWork, ThenWait}
use Rattle.loop_text.specs.OpenBlocks.{variables_of}
use Rattle.loop_text.specs.FirstPass.{is_allowed, is_variable, after_at, no_bounds}
use Rattle.loop_text.specs.Parts.{no_clauses}
use Rattle.task_program.specs.Grammar.{IsNumber, task_of}
use Rattle.task_program.specs.Grammar.ClausesSpelled.{NoClause, If, Final}
use Rattle.task_program.specs.Grammar.OpeningSpelled.{Group, Task, For}
use Rattle.task_program.specs.Grammar.Spelled.{Work, Wait}
use Rattle.task_program.proofs.FoundPlaces.{same_text}
use Rattle.task_program.proofs.LoopParts.{InTask, bounds_of, with_if, with_final, IsNew, state_of}
use Rattle.task_program.proofs.LoopParts.{Reads, Passes, variables_are, Stands, grow, ends, opens}
use Rattle.task_program.proofs.LoopParts.{closes}
use Rattle.task_program.proofs.LoopParts.Part.{AtWork, AtGroup, AtVariable, AtFrom, AtTo}
use Rattle.task_program.proofs.LoopParts.Part.{AtForBrace, AtClause, AtIfOpens, AtIfNumber}
use Rattle.task_program.proofs.LoopParts.Part.{AtIfCloses, AtFinalOpens, AtFinalNumber}
use Rattle.task_program.proofs.LoopParts.Part.{AtFinalCloses, AtDependOpens}
use Rattle.program_text.proofs.Bools.{or_true_right, bool_cases, and_right_false}

-- ---- one token more, place by place

pub number_is : (text : List ℕ) (most : ℕ)
    → is_number text ≡ true
    → nat_lt most (value_of text) ≡ false
    → IsNumber true text most
number_is text most number
    fits = record { is_number = number; fits = λ h. ltb-false most (value_of text) fits }

abbrev pub Goes : LoopPlace → List LoopBlock → Tree → List (List ℕ) → ℕ → LoopHead → Pending
    → Bounds → List Token → Type 0
Goes place blocks tree variables word_line head pending bounds part =
    (room : ℕ) (around here : List Token) (token : Token)
    → Stands blocks tree variables room around here
    → Passes (state_of place word_line head pending bounds blocks tree) token.text
    → Reads ((around ++ (here ++ part)) ++ token ∷ []) (after_at place
    (state_of place word_line head pending bounds blocks tree) token.text token.line)

-- each word that a statement may begin with, behind what was read
pub statement_goes : (blocks : List LoopBlock) (tree : Tree) (variables : List (List ℕ))
    (word_line : ℕ) (pending : Pending) (bounds : Bounds)
    → Goes Statement blocks tree variables word_line no_clauses pending bounds []
statement_goes blocks tree variables word_line pending bounds room around here token s p =
    let text = token.text in
    bool_cases (is_text text (codes "work"))
    (λ work. rw work (grow blocks tree variables room around here [] (token ∷ []) token WorkNumber
    word_line no_clauses pending bounds s refl
    (AtWork variables word_line pending bounds token (same_text text (codes "work") work))))
    (λ no_work. bool_cases (is_text text (codes "task"))
    (λ task. rw (no_work, task) (grow blocks tree variables room around here [] (token ∷ []) token
    Clause token.line no_clauses pending bounds s refl
    (AtClause variables pending bounds token [] no_clauses
    (record { is_task = same_text text (codes "task") task; clauses_are = NoClause variables }))))
    (λ no_task. bool_cases (is_text text (codes "taskwait"))
    (λ wait. rw (no_work, no_task, wait) (ends blocks (ThenWait tree token.line) variables room
    around here [] token word_line pending bounds s.around_is
    (Wait variables room here token tree s.here_is (same_text text (codes "taskwait") wait))))
    (λ no_wait. bool_cases (is_text text (codes "taskgroup"))
    (λ group. rw (no_work, no_task, no_wait, group) (grow blocks tree variables room around here []
    (token ∷ []) token GroupBrace token.line no_clauses pending bounds s refl
    (AtGroup variables pending bounds token (same_text text (codes "taskgroup") group))))
    (λ no_group. bool_cases (is_text text (codes "for"))
    (λ loop. rw (no_work, no_task, no_wait, no_group, loop) (grow blocks tree variables room around
    here [] (token ∷ []) token ForVariable token.line no_clauses pending bounds s refl
    (AtVariable variables pending bounds token (same_text text (codes "for") loop))))
    (λ no_loop.
    let none : (is_statement_word text || is_text text (codes "for"))
    ≡ false = rw (no_work, no_task, no_wait, no_group, no_loop) refl in
    let brace : text ≡ codes "}" = same_text text (codes "}") (or_true_right
    (is_statement_word text || is_text text (codes "for")) (is_text text (codes "}")) p.allowed
    none) in
    rw (no_work, no_task, no_wait, no_group, no_loop) (closes blocks tree variables room around here
    token word_line pending bounds s.around_is s.here_is p.unopened brace))))))

pub work_goes : (blocks : List LoopBlock) (tree : Tree) (variables : List (List ℕ)) (word_line : ℕ)
    (pending : Pending) (bounds : Bounds) (word : Token)
    → word.text ≡ codes "work"
    → Goes WorkNumber blocks tree variables word_line no_clauses pending bounds (word ∷ [])
work_goes blocks tree variables word_line pending bounds word is_work room around here token s p =
    ends blocks (ThenWork tree (value_of token.text) token.line) variables room around here
    (word ∷ []) token word_line pending bounds s.around_is
    (Work variables room here word token tree s.here_is is_work
    (number_is token.text LARGEST_COST p.allowed p.number))

pub group_goes : (blocks : List LoopBlock) (tree : Tree) (variables : List (List ℕ))
    (pending : Pending) (bounds : Bounds) (word : Token)
    → word.text ≡ codes "taskgroup"
    → Goes GroupBrace blocks tree variables word.line no_clauses pending bounds (word ∷ [])
group_goes blocks tree variables pending bounds word is_group room around here token s p =
    opens blocks tree variables room around here (word ∷ []) token
    (GroupOpening word.line token.line) pending bounds s.around_is s.here_is
    (Group variables word token is_group (same_text token.text (codes "{") p.allowed)) p.nesting

-- the variable of a loop, behind its `for`
pub variable_goes : (blocks : List LoopBlock) (tree : Tree) (variables : List (List ℕ))
    (pending : Pending) (bounds : Bounds) (word : Token)
    → word.text ≡ codes "for"
    → Goes ForVariable blocks tree variables word.line no_clauses pending bounds (word ∷ [])
variable_goes blocks tree variables pending bounds word is_for room around here token s p =
    let same : variables_of blocks ≡ variables =
    variables_are blocks variables room around s.around_is in
    let new : is_variable blocks token.text ≡ false = not-true _
    (and_parts (is_word token.text) (not (is_variable blocks token.text)) p.allowed).1 in
    let is_new : IsNew variables word token = record {
      is_for = is_for;
      is_word = (and_parts (is_word token.text) (not (is_variable blocks token.text)) p.allowed).0;
      is_new = ap (λ (vs : List (List ℕ)). list_any (bytes_eq token.text) vs) (sym same) ∙ new;
    } in
    grow blocks tree variables room around here (word ∷ []) (word ∷ token ∷ []) token ForFrom
    word.line no_clauses pending (bounds_of token.text bounds.from bounds.to) s refl
    (AtFrom variables pending bounds.from bounds.to word token is_new)

pub from_goes : (blocks : List LoopBlock) (tree : Tree) (variables : List (List ℕ))
    (pending : Pending) (from to : ℕ) (word variable : Token)
    → IsNew variables word variable
    → Goes ForFrom blocks tree variables word.line no_clauses pending
    (bounds_of variable.text from to) (word ∷ variable ∷ [])
from_goes blocks tree variables pending from to word variable is_new room around here token s p =
    grow blocks tree variables room around here (word ∷ variable ∷ [])
    (word ∷ variable ∷ token ∷ []) token ForTo word.line no_clauses pending
    (bounds_of variable.text (value_of token.text) to) s refl
    (AtTo variables pending to word variable token is_new
    (number_is token.text LARGEST_BOUND p.allowed p.number))

pub to_goes : (blocks : List LoopBlock) (tree : Tree) (variables : List (List ℕ))
    (pending : Pending) (to : ℕ) (word variable first : Token)
    → IsNew variables word variable
    → IsNumber true first.text LARGEST_BOUND
    → Goes ForTo blocks tree variables word.line no_clauses pending
    (bounds_of variable.text (value_of first.text) to) (word ∷ variable ∷ first ∷ [])
to_goes blocks tree variables pending to word variable first is_new is_first room around here token
    s p =
    grow blocks tree variables room around here (word ∷ variable ∷ first ∷ [])
    (word ∷ variable ∷ first ∷ token ∷ []) token ForBrace word.line no_clauses pending
    (bounds_of variable.text (value_of first.text) (value_of token.text)) s refl
    (AtForBrace variables pending word variable first token is_new is_first
    (number_is token.text LARGEST_BOUND p.allowed p.number))

-- the `{` of a loop: its variable and its bounds are known
pub for_goes : (blocks : List LoopBlock) (tree : Tree) (variables : List (List ℕ))
    (pending : Pending) (word variable first last : Token)
    → IsNew variables word variable
    → IsNumber true first.text LARGEST_BOUND
    → IsNumber true last.text LARGEST_BOUND
    → Goes ForBrace blocks tree variables word.line no_clauses pending
    (bounds_of variable.text (value_of first.text) (value_of last.text))
    (word ∷ variable ∷ first ∷ last ∷ [])
for_goes blocks tree variables pending word variable first last is_new is_first is_last room around
    here token s p =
    opens blocks tree variables room around here (word ∷ variable ∷ first ∷ last ∷ []) token
    (ForOpening variable.text (value_of first.text) (value_of last.text) word.line token.line)
    pending no_bounds s.around_is s.here_is
    (For variables word variable first last token refl is_new.is_for is_new.is_word is_new.is_new
    is_first is_last (same_text token.text (codes "{") p.allowed))
    p.nesting

-- ---- clauses

pub in_task : (word : Token) (clauses ys : List Token) (token : Token)
    → (word ∷ (clauses ++ ys)) ++ token ∷ [] ≡ word ∷ (clauses ++ (ys ++ token ∷ []))
in_task word clauses ys token =
    ap (λ (ts : List Token). word ∷ ts) (append_assoc clauses ys (token ∷ []))

no_if_yet : (has : Bool) → (not has || false) ≡ true → has ≡ false
no_if_yet true h = absurd cc
no_if_yet false h = refl

last_word : (depend a b : Bool) → (depend || ((false && a) || (false && b))) ≡ true → depend ≡ true
last_word true a b h = refl
last_word false a b h = h

-- each token that may come where a clause or the `{` is awaited
pub clause_goes : (blocks : List LoopBlock) (tree : Tree) (variables : List (List ℕ))
    (pending : Pending) (bounds : Bounds) (word : Token) (clauses : List Token) (head : LoopHead)
    → InTask variables word clauses head
    → Goes Clause blocks tree variables word.line head pending bounds (word ∷ clauses)
clause_goes blocks tree variables pending bounds word clauses head t room around here token s p =
    let text = token.text in
    bool_cases (is_text text (codes "{"))
    (λ brace. rw brace (opens blocks tree variables room around here (word ∷ clauses) token
    (TaskOpening (task_of head word.line token.line)) pending bounds s.around_is s.here_is
    (Task variables clauses word token head t.is_task t.clauses_are
    (same_text text (codes "{") brace))
    (and_right_false (is_text text (codes "{")) _ p.nesting brace)))
    (λ no_brace. bool_cases (is_text text (codes "if"))
    (λ if_word.
    let is_if : text ≡ codes "if" = same_text text (codes "if") if_word in
    let allowed : is_allowed Clause head blocks (codes "if") ≡ true =
    subst (λ (x : List ℕ). is_allowed Clause head blocks x ≡ true) is_if p.allowed in
    rw (no_brace, if_word) (grow blocks tree variables room around here (word ∷ clauses)
    (word ∷ (clauses ++ token ∷ [])) token IfOpens word.line head pending bounds s refl
    (AtIfOpens variables pending bounds word clauses head token t (no_if_yet head.has_if allowed)
    is_if)))
    (λ no_if. bool_cases (is_text text (codes "final"))
    (λ final_word.
    let is_final : text ≡ codes "final" = same_text text (codes "final") final_word in
    let allowed : is_allowed Clause head blocks (codes "final") ≡ true =
    subst (λ (x : List ℕ). is_allowed Clause head blocks x ≡ true) is_final p.allowed in
    rw (no_brace, no_if, final_word) (grow blocks tree variables room around here (word ∷ clauses)
    (word ∷ (clauses ++ token ∷ [])) token FinalOpens word.line head pending bounds s refl
    (AtFinalOpens variables pending bounds word clauses head token t
    (not-true head.has_final allowed) is_final)))
    (λ no_final.
    let depend_word : is_text text (codes "depend")
    ≡ true = last_word (is_text text (codes "depend")) (not head.has_if) (not head.has_final)
    (rw (no_brace, no_if, no_final) at p.allowed) in
    rw (no_brace, no_if, no_final) (grow blocks tree variables room around here (word ∷ clauses)
    (word ∷ (clauses ++ token ∷ [])) token DependOpens word.line head pending bounds s refl
    (AtDependOpens variables pending bounds word clauses head token t
    (same_text text (codes "depend") depend_word))))))

-- the `(` of an `if`, behind what was read
pub if_opens_goes : (blocks : List LoopBlock) (tree : Tree) (variables : List (List ℕ))
    (pending : Pending) (bounds : Bounds) (word : Token) (clauses : List Token) (head : LoopHead)
    (w : Token)
    → InTask variables word clauses head
    → head.has_if ≡ false
    → w.text ≡ codes "if"
    → Goes IfOpens blocks tree variables word.line head pending bounds (word ∷ (clauses ++ w ∷ []))
if_opens_goes blocks tree variables pending bounds word clauses head w t none is_if room around here
    token s p =
    grow blocks tree variables room around here (word ∷ (clauses ++ w ∷ []))
    (word ∷ (clauses ++ w ∷ token ∷ [])) token IfNumber word.line head pending bounds s
    (in_task word clauses (w ∷ []) token)
    (AtIfNumber variables pending bounds word clauses head w token t none is_if
    (same_text token.text (codes "(") p.allowed))

-- the number of an `if`, behind what was read
pub if_number_goes : (blocks : List LoopBlock) (tree : Tree) (variables : List (List ℕ))
    (pending : Pending) (bounds : Bounds) (word : Token) (clauses : List Token) (head : LoopHead)
    (w bracket : Token)
    → InTask variables word clauses head
    → head.has_if ≡ false
    → w.text ≡ codes "if"
    → bracket.text ≡ codes "("
    → Goes IfNumber blocks tree variables word.line head pending bounds
    (word ∷ (clauses ++ w ∷ bracket ∷ []))
if_number_goes blocks tree variables pending bounds word clauses head w bracket t none is_if
    is_bracket room around here token s p =
    grow blocks tree variables room around here (word ∷ (clauses ++ w ∷ bracket ∷ []))
    (word ∷ (clauses ++ w ∷ bracket ∷ token ∷ [])) token IfCloses word.line
    (with_if head (value_of token.text)) pending bounds s
    (in_task word clauses (w ∷ bracket ∷ []) token)
    (AtIfCloses variables pending bounds word clauses head w bracket token t none is_if is_bracket
    (number_is token.text 1 p.allowed p.number))

-- the `)` of an `if`: the clause is whole
pub if_closes_goes : (blocks : List LoopBlock) (tree : Tree) (variables : List (List ℕ))
    (pending : Pending) (bounds : Bounds) (word : Token) (clauses : List Token) (head : LoopHead)
    (w bracket number : Token)
    → InTask variables word clauses head
    → head.has_if ≡ false
    → w.text ≡ codes "if"
    → bracket.text ≡ codes "("
    → IsNumber true number.text 1
    → Goes IfCloses blocks tree variables word.line (with_if head (value_of number.text)) pending
    bounds (word ∷ (clauses ++ w ∷ bracket ∷ number ∷ []))
if_closes_goes blocks tree variables pending bounds word clauses head w bracket number t none is_if
    is_bracket is_num room around here token s p =
    grow blocks tree variables room around here (word ∷ (clauses ++ w ∷ bracket ∷ number ∷ []))
    (word ∷ (clauses ++ w ∷ bracket ∷ number ∷ token ∷ [])) token Clause word.line
    (with_if head (value_of number.text)) pending bounds s
    (in_task word clauses (w ∷ bracket ∷ number ∷ []) token)
    (AtClause variables pending bounds word (clauses ++ w ∷ bracket ∷ number ∷ token ∷ [])
    (with_if head (value_of number.text))
    (record {
      is_task = t.is_task;
      clauses_are = If variables clauses w bracket number token head t.clauses_are none is_if
          is_bracket is_num (same_text token.text (codes ")") p.allowed);
    }))

-- the `(` of a `final`, behind what was read
pub final_opens_goes : (blocks : List LoopBlock) (tree : Tree) (variables : List (List ℕ))
    (pending : Pending) (bounds : Bounds) (word : Token) (clauses : List Token) (head : LoopHead)
    (w : Token)
    → InTask variables word clauses head
    → head.has_final ≡ false
    → w.text ≡ codes "final"
    → Goes FinalOpens blocks tree variables word.line head pending bounds
    (word ∷ (clauses ++ w ∷ []))
final_opens_goes blocks tree variables pending bounds word clauses head w t none is_if room around
    here token s p =
    grow blocks tree variables room around here (word ∷ (clauses ++ w ∷ []))
    (word ∷ (clauses ++ w ∷ token ∷ [])) token FinalNumber word.line head pending bounds s
    (in_task word clauses (w ∷ []) token)
    (AtFinalNumber variables pending bounds word clauses head w token t none is_if
    (same_text token.text (codes "(") p.allowed))

-- the number of a `final`, behind what was read
pub final_number_goes : (blocks : List LoopBlock) (tree : Tree) (variables : List (List ℕ))
    (pending : Pending) (bounds : Bounds) (word : Token) (clauses : List Token) (head : LoopHead)
    (w bracket : Token)
    → InTask variables word clauses head
    → head.has_final ≡ false
    → w.text ≡ codes "final"
    → bracket.text ≡ codes "("
    → Goes FinalNumber blocks tree variables word.line head pending bounds
    (word ∷ (clauses ++ w ∷ bracket ∷ []))
final_number_goes blocks tree variables pending bounds word clauses head w bracket t none is_if
    is_bracket room around here token s p =
    grow blocks tree variables room around here (word ∷ (clauses ++ w ∷ bracket ∷ []))
    (word ∷ (clauses ++ w ∷ bracket ∷ token ∷ [])) token FinalCloses word.line
    (with_final head (value_of token.text)) pending bounds s
    (in_task word clauses (w ∷ bracket ∷ []) token)
    (AtFinalCloses variables pending bounds word clauses head w bracket token t none is_if
    is_bracket (number_is token.text 1 p.allowed p.number))

-- the `)` of a `final`: the clause is whole
pub final_closes_goes : (blocks : List LoopBlock) (tree : Tree) (variables : List (List ℕ))
    (pending : Pending) (bounds : Bounds) (word : Token) (clauses : List Token) (head : LoopHead)
    (w bracket number : Token)
    → InTask variables word clauses head
    → head.has_final ≡ false
    → w.text ≡ codes "final"
    → bracket.text ≡ codes "("
    → IsNumber true number.text 1
    → Goes FinalCloses blocks tree variables word.line (with_final head (value_of number.text))
    pending bounds (word ∷ (clauses ++ w ∷ bracket ∷ number ∷ []))
final_closes_goes blocks tree variables pending bounds word clauses head w bracket number t none
    is_if is_bracket is_num room around here token s p =
    grow blocks tree variables room around here (word ∷ (clauses ++ w ∷ bracket ∷ number ∷ []))
    (word ∷ (clauses ++ w ∷ bracket ∷ number ∷ token ∷ [])) token Clause word.line
    (with_final head (value_of number.text)) pending bounds s
    (in_task word clauses (w ∷ bracket ∷ number ∷ []) token)
    (AtClause variables pending bounds word (clauses ++ w ∷ bracket ∷ number ∷ token ∷ [])
    (with_final head (value_of number.text))
    (record {
      is_task = t.is_task;
      clauses_are = Final variables clauses w bracket number token head refl t.clauses_are none is_if
          is_bracket is_num (same_text token.text (codes ")") p.allowed);
    }))
