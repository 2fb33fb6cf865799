-- What is read at each place outside a statement's clauses is spelled so.
use Rattle.std.proofs.Common.{◌≡◌, ℕ, zero, suc, ◌+◌, ◌≤◌, Bool, true, false, ◌&&◌, ◌||◌, cond}
use Rattle.std.proofs.Common.{eqb, List, [], ◌∷◌, ◌++◌, length, map, append_assoc, Option, Some}
use Rattle.std.proofs.Common.{refl, sym, ap, subst, ◌∙◌, arith, codes}
use Rattle.std.specs.Prelude.{All, fold, count_by, slice_get}
use Rattle.std.specs.List.{list_any, flat_map, AllZip}
use Rattle.std.specs.Str.{bytes_eq}
use Rattle.std.proofs.lemmas.Bool.{eqb-true, and_parts, not-false, ltb-false}
use Rattle.std.proofs.lemmas.Slice.Eq.{bytes_eq-Decides}
use Rattle.std.proofs.lemmas.List.{append-nil, map_push}
use Rattle.std.proofs.lemmas.List.Sums.{fold-append, sum_by-append}
use Rattle.std.proofs.lemmas.List.Concat.{flat_map-append}
use Rattle.std.proofs.lemmas.List.Elements.{All-push}
use Rattle.std.proofs.Math.Bool.{or-false}
use Rattle.task_program.specs.declared.place.Place.{Place}
use Rattle.task_program.specs.declared.place.Place.TheVariants.{Header, Version, Statement}
use Rattle.task_program.specs.declared.place.Place.TheVariants.{WorkNumber, GroupBrace, Clause}
use Rattle.task_program.specs.declared.place.Place.TheVariants.{IfOpens, IfNumber, IfCloses}
use Rattle.task_program.specs.declared.place.Place.TheVariants.{DependOpens, DependType}
use Rattle.task_program.specs.declared.place.Place.TheVariants.{DependColon, DependName, DependMore}
use Rattle.program_text.specs.declared.statement.DependKind.{DependKind}
use Rattle.program_text.specs.declared.statement.Item.{Item}
use Rattle.program_text.specs.declared.limits.TheConstants.{LARGEST_COST}
use Rattle.program_text.specs.Marks.{Mark}
use Rattle.program_text.specs.Marks.Mark.{Begins, Works, GroupBegins}
use Rattle.task_program.specs.Names.{number_of_name, with_name}
use Rattle.program_text.specs.Words.{is_text, is_word, is_number, value_of, type_word}
use Rattle.task_program.specs.PlainGrammar as grammar
use Rattle.task_program.specs.PlainGrammar.{Written, name_and_comma, clause_texts, texts_of, named_items}
use Rattle.task_program.specs.PlainGrammar.{is_if, makes_undeferred, IsClause, IsItem, Means}
use Rattle.task_program.specs.PlainGrammar.{names_of_piece}
use Rattle.task_program.specs.PlainGrammar.Clause.{IfClause, DependClause}
use Rattle.task_program.specs.PlainGrammar.Written.{WorkWritten, TaskWritten, GroupWritten}
use Rattle.task_program.specs.Faults.{State, Head, after_at, no_clauses}
use Rattle.task_program.specs.TreeSoFar.{Block}
use Rattle.task_program.specs.TreeSoFar.Block.{GroupBlock}
use Rattle.task_program.proofs.Keeping.{at, Allows}
use Rattle.program_text.proofs.Bools.{or_true_right, bool_cases}

-- the whole pieces so far, and of the piece that is being read: its whole clauses, and of the
-- clause that is being read its number, its names with a comma, and the last name
pub record Parts : Type 0 where
  pub version : List ℕ
  pub written : List Written
  pub clauses : List grammar.Clause
  pub number : List ℕ
  pub names : List (List ℕ)
  pub last : List ℕ

abbrev pub in_task : Parts → List (List ℕ) → List (List ℕ)
in_task p tail = codes "task" ∷ (flat_map clause_texts p.clauses ++ tail)

-- the tokens of the piece that is being read
abbrev texts_of_partial_piece : Place → Parts → List (List ℕ)
texts_of_partial_piece Header p = []
texts_of_partial_piece Version p = []
texts_of_partial_piece Statement p = []
texts_of_partial_piece WorkNumber p = codes "work" ∷ []
texts_of_partial_piece GroupBrace p = codes "taskgroup" ∷ []
texts_of_partial_piece Clause p = in_task p []
texts_of_partial_piece IfOpens p = in_task p (codes "if" ∷ [])
texts_of_partial_piece IfNumber p = in_task p (codes "if" ∷ codes "(" ∷ [])
texts_of_partial_piece IfCloses p = in_task p (codes "if" ∷ codes "(" ∷ p.number ∷ [])
texts_of_partial_piece DependOpens p = in_task p (codes "depend" ∷ [])
texts_of_partial_piece DependType p = in_task p (codes "depend" ∷ codes "(" ∷ [])
texts_of_partial_piece (DependColon kind) p =
    in_task p (codes "depend" ∷ codes "(" ∷ type_word kind ∷ [])
texts_of_partial_piece (DependName kind) p =
    in_task p
    (codes "depend" ∷ codes "(" ∷ type_word kind ∷ codes ":" ∷ flat_map name_and_comma p.names)
texts_of_partial_piece (DependMore kind) p =
    in_task p (codes "depend" ∷ codes "(" ∷ type_word kind ∷ codes ":"
    ∷ (flat_map name_and_comma p.names ++ p.last ∷ []))

-- all tokens so far
abbrev pub texts_so_far : Place → Parts → List (List ℕ)
texts_so_far Header p = []
texts_so_far Version p = codes "omptasks" ∷ []
texts_so_far place p =
    codes "omptasks" ∷ p.version ∷ (flat_map texts_of p.written ++ texts_of_partial_piece place p)

-- the items of the task that is being read
abbrev pub pending_items : Place → Parts → List (DependKind × List ℕ)
pending_items Header p = []
pending_items Version p = []
pending_items Statement p = []
pending_items WorkNumber p = []
pending_items GroupBrace p = []
pending_items (DependName kind) p =
    flat_map named_items p.clauses ++ map (λ name. (kind, name)) p.names
pending_items (DependMore kind) p =
    flat_map named_items p.clauses ++ map (λ name. (kind, name)) (p.names ++ p.last ∷ [])
pending_items _ p = flat_map named_items p.clauses

abbrev pub IsVersionAt : Place → Parts → Type 0
IsVersionAt Header p = p.written ≡ []
IsVersionAt Version p = p.written ≡ []
IsVersionAt _ p = (is_number p.version ≡ true) × (value_of p.version ≡ 1)

abbrev NoIf : Parts → Head → Type 0
NoIf p head = (list_any is_if p.clauses ≡ false) × (head.has_if ≡ false) × (head.undeferred ≡ false)

-- what the head says of the clauses
abbrev pub HeadIs : Place → Parts → Head → Type 0
HeadIs Header p head = head ≡ no_clauses
HeadIs Version p head = head ≡ no_clauses
HeadIs Statement p head = head ≡ no_clauses
HeadIs WorkNumber p head = head ≡ no_clauses
HeadIs GroupBrace p head = head ≡ no_clauses
HeadIs IfOpens p head = NoIf p head
HeadIs IfNumber p head = NoIf p head
HeadIs IfCloses p head =
    (list_any is_if p.clauses ≡ false)
    × (head.has_if ≡ true)
    × (head.undeferred ≡ eqb (value_of p.number) 0)
    × IsClause (IfClause p.number)
HeadIs _ p head =
    (head.has_if ≡ list_any is_if p.clauses)
    × (head.undeferred ≡ list_any makes_undeferred p.clauses)
    × (count_by is_if p.clauses ≤ 1)

pub record Explains (texts : List (List ℕ)) (state : State) (p : Parts) : Type 0 where
  pub spelled : texts ≡ texts_so_far state.place p
  pub version : IsVersionAt state.place p
  pub means : AllZip (Means state.names) p.written state.tree.marks
  pub names_are : state.names
      ≡ fold with_name []
      (flat_map names_of_piece p.written ++ map (λ named. named.1) (pending_items state.place p))
  pub items_are : AllZip (IsItem state.names) (pending_items state.place p) state.head.items
  pub clauses : All IsClause p.clauses
  pub head : HeadIs state.place p state.head

abbrev pub Explained : List (List ℕ) → State → Type 0
Explained texts state = (p : Parts) × Explains texts state p

-- ---- tools

pub same_text : (text word : List ℕ) → is_text text word ≡ true → text ≡ word
same_text text word h = (bytes_eq-Decides text word).0 h

pub AllZip-more : {A B : Type 0} (R : A → B → Type 0) (xs : List A) (ys : List B) (x : A) (y : B)
    → AllZip R xs ys
    → R x y
    → AllZip R (xs ++ x ∷ []) (ys ++ y ∷ [])
AllZip-more R [] [] x y all one = (one, tt)
AllZip-more R [] (b ∷ ys) x y all one = absurd all
AllZip-more R (a ∷ xs) [] x y all one = absurd all
AllZip-more R (a ∷ xs) (b ∷ ys) x y all one = (all.0, AllZip-more R xs ys x y all.1 one)

pub AllZip-weaker : {A B : Type 0} (R Q : A → B → Type 0)
    → ((x : A) (y : B) → R x y → Q x y)
    → (xs : List A) (ys : List B)
    → AllZip R xs ys
    → AllZip Q xs ys
AllZip-weaker R Q f [] [] all = tt
AllZip-weaker R Q f [] (b ∷ ys) all = all
AllZip-weaker R Q f (a ∷ xs) [] all = all
AllZip-weaker R Q f (a ∷ xs) (b ∷ ys) all = (f a b all.0, AllZip-weaker R Q f xs ys all.1)

-- one element more at the end
pub flat_map-push : {X A : Type 0} (f : X → List A) (xs : List X) (x : X)
    → flat_map f (xs ++ x ∷ []) ≡ flat_map f xs ++ f x
flat_map-push f xs x = flat_map-append f xs (x ∷ []) ∙ ap (λ ys. flat_map f xs ++ ys)
    (append-nil (f x))

-- ---- names

abbrev pub some : List ℕ → Option (List ℕ)
some x = Some x

pub get_stable : (names : List (List ℕ)) (name other : List ℕ) (n : ℕ)
    → slice_get names n ≡ Some name
    → slice_get (names ++ other ∷ []) n ≡ Some name
get_stable [] name other n h = absurd cc
get_stable (first ∷ names) name other zero h = h
get_stable (first ∷ names) name other (suc n) h = get_stable names name other n h

get_last : (names : List (List ℕ)) (name : List ℕ)
    → slice_get (names ++ name ∷ []) (length names) ≡ Some name
get_last [] name = refl
get_last (first ∷ names) name = get_last names name

pub name_stable : (names : List (List ℕ)) (name other : List ℕ) (n : ℕ)
    → slice_get names n ≡ Some name
    → slice_get (with_name names other) n ≡ Some name
name_stable names name other n h =
    bool_cases (list_any (bytes_eq other) names)
    (λ known. rw known h)
    (λ new. rw new (get_stable names name other n h))

known_name : (names : List (List ℕ)) (name : List ℕ)
    → list_any (bytes_eq name) names ≡ true
    → slice_get names (number_of_name names name) ≡ Some name
known_name [] name h = absurd cc
known_name (first ∷ names) name h =
    bool_cases (bytes_eq name first)
    (λ same. rw same (ap (λ (x : List ℕ). some x) (sym (same_text name first same))))
    (λ other. let later : list_any (bytes_eq name) names ≡ true = rw other at h in
    let next : number_of_name (first ∷ names) name ≡ suc (number_of_name names name) =
    rw other (omega arith) in
    rw next (known_name names name later))

new_name : (names : List (List ℕ)) (name : List ℕ)
    → list_any (bytes_eq name) names ≡ false
    → number_of_name names name ≡ length names
new_name [] name h = refl
new_name (first ∷ names) name h =
    bool_cases (bytes_eq name first)
    (λ same. absurd (let wrong = rw same at h in cc))
    (λ other. let later : list_any (bytes_eq name) names
    ≡ false = rw other at h in rw other (omega (arith, new_name names name later)))

pub own_number : (names : List (List ℕ)) (name : List ℕ)
    → slice_get (with_name names name) (number_of_name names name) ≡ Some name
own_number names name =
    bool_cases (list_any (bytes_eq name) names)
    (λ known. rw known (known_name names name known))
    (λ new. rw (new, new_name names name new) (get_last names name))

item_stable : (names : List (List ℕ)) (other : List ℕ) (named : DependKind × List ℕ) (item : Item)
    → IsItem names named item
    → IsItem (with_name names other) named item
item_stable names other named item h = (h.0, name_stable names named.1 other item.name h.1, h.2)

pub means_stable : (names : List (List ℕ)) (other : List ℕ) (written : Written) (mark : Mark)
    → Means names written mark
    → Means (with_name names other) written mark
means_stable names other (TaskWritten clauses) (Begins undeferred items) h = record {
  each = h.each;
  one_if = h.one_if;
  undeferred_is = h.undeferred_is;
  items_are = AllZip-weaker (IsItem names) (IsItem (with_name names other))
      (item_stable names other) (flat_map named_items clauses) items h.items_are;
}
means_stable names other written mark h = h

-- ---- how the tokens so far go on

abbrev pub so_far : Parts → List (List ℕ) → List (List ℕ)
so_far p tail = codes "omptasks" ∷ p.version ∷ (flat_map texts_of p.written ++ tail)

pub one_more : (before : List (List ℕ)) (p : Parts) (tail : List (List ℕ)) (text word : List ℕ)
    → before ≡ so_far p tail
    → text ≡ word
    → before ++ text ∷ [] ≡ so_far p (tail ++ word ∷ [])
one_more before p tail text word so same =
    ap (λ ts. ts ++ text ∷ []) so
    ∙ ap (λ x. codes "omptasks" ∷ p.version ∷ x)
    (append_assoc (flat_map texts_of p.written) tail (text ∷ []))
    ∙ ap (λ t. so_far p (tail ++ t ∷ [])) same

pub task_more : (before : List (List ℕ)) (p : Parts) (tail : List (List ℕ)) (text word : List ℕ)
    → before ≡ so_far p (in_task p tail)
    → text ≡ word
    → before ++ text ∷ [] ≡ so_far p (in_task p (tail ++ word ∷ []))
task_more before p tail text word so same =
    one_more before p (in_task p tail) text word so same
    ∙ ap (λ x. so_far p (codes "task" ∷ x))
    (append_assoc (flat_map clause_texts p.clauses) tail (word ∷ []))

with_clause : Parts → grammar.Clause → Parts
with_clause p
    clause = record {
      version = p.version;
      written = p.written;
      clauses = p.clauses ++ clause ∷ [];
      number = p.number;
      names = p.names;
      last = p.last;
    }

with_piece : Parts → Written → Parts
with_piece p
    piece = record {
      version = p.version;
      written = p.written ++ piece ∷ [];
      clauses = p.clauses;
      number = p.number;
      names = p.names;
      last = p.last;
    }

clause_done : (p : Parts) (clause : grammar.Clause)
    → so_far p (in_task p (clause_texts clause))
    ≡ so_far (with_clause p clause) (in_task (with_clause p clause) [])
unfolding with_clause
clause_done p clause =
    ap (λ x. so_far p (codes "task" ∷ x)) (sym (flat_map-push clause_texts p.clauses clause)
    ∙ sym (append-nil (flat_map clause_texts (p.clauses ++ clause ∷ []))))

piece_done : (p : Parts) (piece : Written)
    → so_far p (texts_of piece) ≡ so_far (with_piece p piece) []
unfolding with_piece
piece_done p piece =
    ap (λ x. codes "omptasks" ∷ p.version ∷ x) (sym (flat_map-push texts_of p.written piece)
    ∙ sym (append-nil (flat_map texts_of (p.written ++ piece ∷ []))))

-- ---- the places

abbrev pub Goes : State → Place → List ℕ → ℕ → List (List ℕ) → Parts → Type 0
Goes state place text line before p =
    Allows (at state place) text → Explains before (at state place) p
    → Explained (before ++ text ∷ []) (after_at place (at state place) text line)

-- the `(` of an `if`, behind what was read
pub if_opens_goes : (state : State) (text : List ℕ) (line : ℕ) (before : List (List ℕ)) (p : Parts)
    → Goes state IfOpens text line before p
if_opens_goes state text line before p passes e =
    let text_is = same_text text (codes "(") (not-false _ passes.allowed) in (
      p,
      record {
        spelled = task_more before p (codes "if" ∷ []) text (codes "(") e.spelled text_is;
        version = e.version;
        means = e.means;
        names_are = e.names_are;
        items_are = e.items_are;
        clauses = e.clauses;
        head = e.head;
      },
    )

-- the cost of a `work`: the piece is whole, and stands for its mark
pub work_goes : (state : State) (text : List ℕ) (line : ℕ) (before : List (List ℕ)) (p : Parts)
    → Goes state WorkNumber text line before p
unfolding with_piece
work_goes state text line before p passes e =
    let number = not-false _ passes.allowed in
    let few = ltb-false LARGEST_COST (value_of text) passes.number in (
      with_piece p (WorkWritten text),
      record {
        spelled = one_more before p (codes "work" ∷ []) text text e.spelled refl
            ∙ piece_done p (WorkWritten text);
        version = e.version;
        means = AllZip-more (Means state.names) p.written state.tree.marks (WorkWritten text)
            (Works (value_of text)) e.means (number, refl, few);
        names_are = e.names_are ∙ simp (flat_map-append, append-nil);
        items_are = e.items_are;
        clauses = e.clauses;
        head = e.head;
      },
    )

pub counts_none : (clauses : List grammar.Clause)
    → list_any is_if clauses ≡ false
    → (count_by is_if clauses ≡ 0) × (list_any makes_undeferred clauses ≡ false)
counts_none [] h = (refl, refl)
counts_none (IfClause number ∷ clauses) h = absurd cc
counts_none (DependClause kind names last ∷ clauses) h = counts_none clauses h

or_assoc : (a b c : Bool) → (a || (b || c)) ≡ ((a || b) || c)
or_assoc true b c = refl
or_assoc false b c = refl

pub list_any-push : (test : grammar.Clause → Bool) (clauses : List grammar.Clause)
    (clause : grammar.Clause)
    → list_any test (clauses ++ clause ∷ []) ≡ (list_any test clauses || test clause)
list_any-push test [] clause = or-false (test clause)
list_any-push test (first ∷ clauses) clause =
    ap (λ b. test first || b) (list_any-push test clauses clause)
    ∙ or_assoc (test first) (list_any test clauses) (test clause)

-- a clause whose test comes after others that fail it
pub list_any-more : (test : grammar.Clause → Bool) (clauses : List grammar.Clause)
    (clause : grammar.Clause)
    → list_any test clauses ≡ false
    → list_any test (clauses ++ clause ∷ []) ≡ test clause
list_any-more test clauses clause h =
    list_any-push test clauses clause ∙ ap (λ b. b || test clause) h

-- a clause that fails the test changes nothing
pub list_any-same : (test : grammar.Clause → Bool) (clauses : List grammar.Clause)
    (clause : grammar.Clause)
    → test clause ≡ false
    → list_any test (clauses ++ clause ∷ []) ≡ list_any test clauses
list_any-same test clauses clause h =
    list_any-push test clauses clause
    ∙ ap (λ b. list_any test clauses || b) h
    ∙ or-false (list_any test clauses)

pub count-push : (clauses : List grammar.Clause) (clause : grammar.Clause)
    → count_by is_if (clauses ++ clause ∷ [])
    ≡ count_by is_if clauses + count_by is_if (clause ∷ [])
count-push clauses clause = sum_by-append (λ c. cond (is_if c) 1 0) clauses (clause ∷ [])

pub items-if : (clauses : List grammar.Clause) (number : List ℕ)
    → flat_map named_items (clauses ++ IfClause number ∷ []) ≡ flat_map named_items clauses
items-if clauses number =
    flat_map-push named_items clauses (IfClause number) ∙ append-nil (flat_map named_items clauses)

abbrev pub names_after : Parts → List (DependKind × List ℕ) → List (List ℕ)
names_after p items =
    fold with_name [] (flat_map names_of_piece p.written ++ map (λ named. named.1) items)

-- the `)` of an `if`: the clause is whole
pub if_closes_goes : (state : State) (text : List ℕ) (line : ℕ) (before : List (List ℕ)) (p : Parts)
    → Goes state IfCloses text line before p
unfolding with_clause
if_closes_goes state text line before p passes e =
    let text_is = same_text text (codes ")") (not-false _ passes.allowed) in
    let clause = IfClause p.number in
    let none = counts_none p.clauses e.head.0 in (
      with_clause p clause,
      record {
        spelled = task_more before p (codes "if" ∷ codes "(" ∷ p.number ∷ []) text (codes ")")
            e.spelled text_is
            ∙ clause_done p clause;
        version = e.version;
        means = e.means;
        names_are = e.names_are ∙ ap (names_after p) (sym (items-if p.clauses p.number));
        items_are = subst (λ items. AllZip (IsItem state.names) items state.head.items)
            (sym (items-if p.clauses p.number)) e.items_are;
        clauses = All-push IsClause p.clauses clause e.clauses e.head.3;
        head = (
          e.head.1 ∙ sym (list_any-more is_if p.clauses clause e.head.0),
          e.head.2 ∙ sym (list_any-more makes_undeferred p.clauses clause none.1),
          omega (arith, count-push p.clauses clause, none.0),
        );
      },
    )

-- the name goes last among the items
pub name_goes : (state : State) (kind : DependKind) (text : List ℕ) (line : ℕ)
    (before : List (List ℕ)) (p : Parts)
    → Goes state (DependName kind) text line before p
name_goes state kind text line before p passes e =
    let word = not-false (is_word text) passes.allowed in
    let named : List ℕ → DependKind × List ℕ = λ name. (kind, name) in
    let second : DependKind × List ℕ → List ℕ = λ item. item.1 in
    let here = flat_map named_items p.clauses ++ map named p.names in
    let earlier = flat_map names_of_piece p.written in
    let later : flat_map named_items p.clauses ++ map named (p.names ++ text ∷ [])
    ≡ here ++ (kind, text) ∷ [] = ap
    (λ x. flat_map named_items p.clauses ++ x) (map_push named p.names text)
    ∙ sym
    (append_assoc (flat_map named_items p.clauses) (map named p.names) ((kind, text) ∷ [])) in (
      record p { last = text },
      record {
        spelled = task_more before p
            (codes "depend" ∷ codes "(" ∷ type_word kind ∷ codes ":"
            ∷ flat_map name_and_comma p.names)
            text text e.spelled refl;
        version = e.version;
        means = AllZip-weaker (Means state.names) (Means (with_name state.names text))
            (means_stable state.names text) p.written state.tree.marks e.means;
        names_are = ap (λ names. with_name names text) e.names_are
            ∙ sym (fold-append with_name [] (earlier ++ map second here) (text ∷ []))
            ∙ ap (λ x. fold with_name [] x) (append_assoc earlier (map second here) (text ∷ [])
            ∙ ap (λ x. earlier ++ x) (sym (map_push second here (kind, text))))
            ∙ ap (names_after p) (sym later);
        items_are = rw later (AllZip-more (IsItem (with_name state.names text)) here
            state.head.items (kind, text)
            (record { kind = kind; name = number_of_name state.names text })
            (AllZip-weaker (IsItem state.names) (IsItem (with_name state.names text))
            (item_stable state.names text) here state.head.items e.items_are)
            (refl, own_number state.names text, word));
        clauses = e.clauses;
        head = e.head;
      },
    )

-- a comma: the name before it is one of several
comma_goes : (state : State) (kind : DependKind) (text : List ℕ) (before : List (List ℕ))
    (p : Parts)
    → text ≡ codes ","
    → Explains before (at state (DependMore kind)) p
    → Explained (before ++ text ∷ []) (at state (DependName kind))
comma_goes state kind text before p text_is e =
    let start = codes "depend" ∷ codes "(" ∷ type_word kind ∷ codes ":" ∷ [] in (
      record p { names = p.names ++ p.last ∷ [] },
      record {
        spelled = task_more before p
            (codes "depend" ∷ codes "(" ∷ type_word kind ∷ codes ":"
            ∷ (flat_map name_and_comma p.names ++ p.last ∷ []))
            text (codes ",") e.spelled text_is
            ∙ ap (λ x.
            so_far p (in_task p (codes "depend" ∷ codes "(" ∷ type_word kind ∷ codes ":" ∷ x)))
            (append_assoc (flat_map name_and_comma p.names) (p.last ∷ []) (codes "," ∷ [])
            ∙ sym (flat_map-push name_and_comma p.names p.last));
        version = e.version;
        means = e.means;
        names_are = e.names_are;
        items_are = e.items_are;
        clauses = e.clauses;
        head = e.head;
      },
    )

-- the `)` of a `depend`: the clause is whole, and its names are items
depend_done_goes : (state : State) (kind : DependKind) (text : List ℕ) (before : List (List ℕ))
    (p : Parts)
    → text ≡ codes ")"
    → Explains before (at state (DependMore kind)) p
    → Explained (before ++ text ∷ []) (at state Clause)
unfolding with_clause
depend_done_goes state kind text before p text_is e =
    let clause = DependClause kind p.names p.last in
    let items : flat_map named_items p.clauses ++ named_items clause
    ≡ flat_map named_items (p.clauses ++ clause ∷ []) =
    sym (flat_map-push named_items p.clauses clause) in (
      with_clause p clause,
      record {
        spelled = task_more before p
            (codes "depend" ∷ codes "(" ∷ type_word kind ∷ codes ":"
            ∷ (flat_map name_and_comma p.names ++ p.last ∷ []))
            text (codes ")") e.spelled text_is
            ∙ ap
            (λ x.
            so_far p (in_task p (codes "depend" ∷ codes "(" ∷ type_word kind ∷ codes ":" ∷ x)))
            (append_assoc (flat_map name_and_comma p.names) (p.last ∷ []) (codes ")" ∷ []))
            ∙ clause_done p clause;
        version = e.version;
        means = e.means;
        names_are = e.names_are ∙ ap (names_after p) items;
        items_are = subst (λ xs. AllZip (IsItem state.names) xs state.head.items) items e.items_are;
        clauses = All-push IsClause p.clauses clause e.clauses tt;
        head = (
          e.head.0 ∙ sym (list_any-same is_if p.clauses clause refl),
          e.head.1 ∙ sym (list_any-same makes_undeferred p.clauses clause refl),
          omega (arith, count-push p.clauses clause, e.head.2),
        );
      },
    )

pub more_goes : (state : State) (kind : DependKind) (text : List ℕ) (line : ℕ)
    (before : List (List ℕ)) (p : Parts)
    → Goes state (DependMore kind) text line before p
more_goes state kind text line before p passes e =
    bool_cases (is_text text (codes ","))
    (λ comma. rw comma (comma_goes state kind text before p (same_text text (codes ",") comma) e))
    (λ other. rw other (depend_done_goes state kind text before p
    (same_text text (codes ")") (or_true_right (is_text text (codes ",")) (is_text text (codes ")"))
    (not-false (is_text text (codes ",") || is_text text (codes ")")) passes.allowed) other))
    e))

-- one more piece that stands for one more mark
pub piece_goes : (state : State) (before : List (List ℕ)) (p : Parts) (piece : Written)
    (mark : Mark) (blocks : List Block) (part : List (List ℕ)) (text word : List ℕ)
    → before ≡ so_far p part
    → text ≡ word
    → part ++ word ∷ [] ≡ texts_of piece
    → (is_number p.version ≡ true) × (value_of p.version ≡ 1)
    → AllZip (Means state.names) p.written state.tree.marks
    → Means state.names piece mark
    → All IsClause p.clauses
    → state.names ≡ fold with_name [] (flat_map names_of_piece p.written ++ names_of_piece piece)
    → Explained (before ++ text
    ∷ []) (record {
      place = Statement;
      bytes = state.bytes;
      names = state.names;
      head = no_clauses;
      tree = record { blocks = blocks; marks = state.tree.marks ++ mark ∷ [] };
    })
unfolding with_piece
piece_goes state before p piece mark blocks part text word so text_is part_is version means one
    clauses names_are = (
      with_piece p piece,
      record {
        spelled =
            one_more before p part text word so text_is
            ∙ ap (so_far p) part_is
            ∙ piece_done p piece;
        version = version;
        means = AllZip-more (Means state.names) p.written state.tree.marks piece mark means one;
        names_are = names_are
            ∙ ap (λ x. fold with_name [] x) (sym (flat_map-push names_of_piece p.written piece)
            ∙ sym (append-nil (flat_map names_of_piece (p.written ++ piece ∷ []))));
        items_are = tt;
        clauses = clauses;
        head = refl;
      },
    )

-- the first word of a text
pub header_goes : (state : State) (text : List ℕ) (line : ℕ) (before : List (List ℕ)) (p : Parts)
    → Goes state Header text line before p
header_goes state text line before p passes e =
    let text_is = same_text text (codes "omptasks") (not-false _ passes.header) in (
      p,
      record {
        spelled = ap (λ ts. ts ++ text ∷ []) e.spelled ∙ ap (λ t. t ∷ []) text_is;
        version = e.version;
        means = e.means;
        names_are = e.names_are;
        items_are = e.items_are;
        clauses = e.clauses;
        head = e.head;
      },
    )

-- the number of the version
pub version_goes : (state : State) (text : List ℕ) (line : ℕ) (before : List (List ℕ)) (p : Parts)
    → Goes state Version text line before p
version_goes state text line before p passes e =
    let one = not-false (is_number text && eqb (value_of text) 1) passes.header in (
      record p { version = text },
      record {
        spelled = ap (λ ts. ts ++ text ∷ []) e.spelled
            ∙ ap (λ w. codes "omptasks" ∷ text ∷ (flat_map texts_of w ++ [])) (sym e.version);
        version = ((and_parts _ _ one).0, eqb-true _ _ (and_parts (is_number text) _ one).1);
        means = e.means;
        names_are = e.names_are;
        items_are = e.items_are;
        clauses = e.clauses;
        head = e.head;
      },
    )

-- the `{` of a `taskgroup`: the piece is whole
pub group_goes : (state : State) (text : List ℕ) (line : ℕ) (before : List (List ℕ)) (p : Parts)
    → Goes state GroupBrace text line before p
group_goes state text line before p passes e =
    let text_is = same_text text (codes "{") (not-false _ passes.allowed) in
    subst
    (λ head. Explained (before ++ text
    ∷ []) (record {
      place = Statement;
      bytes = state.bytes;
      names = state.names;
      head = head;
      tree = record {
        blocks = GroupBlock line ∷ state.tree.blocks;
        marks = state.tree.marks ++ GroupBegins ∷ [];
      };
    }))
    (sym e.head)
    (piece_goes state before p GroupWritten GroupBegins (GroupBlock line ∷ state.tree.blocks)
    (codes "taskgroup" ∷ []) text (codes "{") e.spelled text_is refl e.version e.means tt e.clauses
    e.names_are)
