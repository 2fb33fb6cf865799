-- The bytes of the canonical text of version 2: those of its tokens are all that are no blanks, and
-- at most half are blanks.
use Rattle.std.proofs.Common.{◌≡◌, ℕ, ◌+◌, ◌*◌, ◌≤◌, Bool, true, false, not, cond, List, []}
use Rattle.std.proofs.Common.{◌∷◌, ◌++◌, length, length-append, append_assoc, refl, sym, ap, subst}
use Rattle.std.proofs.Common.{◌∙◌, arith, codes}
use Rattle.std.specs.Prelude.{All, sum_by}
use Rattle.std.specs.List.{flat_map, list_all}
use Rattle.std.specs.Char.{is_ascii_digit}
use Rattle.std.specs.Fmt.{decimal}
use Rattle.std.proofs.lemmas.List.Elements.{All-head, All-tail}
use Rattle.std.proofs.lemmas.List.Sums.{sum_by-append, sum_by-cons}
use Rattle.std.proofs.lemmas.Bool.{and_parts, or_parts}
use Rattle.program_text.specs.declared.statement.DependKind.{DependKind}
use Rattle.program_text.specs.declared.statement.DependKind.TheVariants.{DependIn}
use Rattle.program_text.specs.declared.statement.Item.{Item}
use Rattle.task_program.specs.declared.version.Version.TheVariants.{Two}
use Rattle.program_text.specs.Marks.{Mark}
use Rattle.program_text.specs.Marks.Mark.{Begins, Works}
use Rattle.task_program.specs.Canonical.{same_kind, name_of, item_separator, items_after}
use Rattle.task_program.specs.Canonical.{depend_clauses, line_of_mark, header_line, solid_bytes}
use Rattle.task_program.specs.Programs.{IsLocation}
use Rattle.task_program.specs.Programs.IsLocation.{Plain, Indexed}
use Rattle.task_program.specs.Subscripts.{subscript}
use Rattle.program_text.specs.declared.limits.TheConstants.{LARGEST_INDEX}
use Rattle.program_text.specs.Tokens.{is_blank, is_run_byte}
use Rattle.program_text.specs.Words.{is_run, is_word, begins_with_digit, type_word, is_number}
use Rattle.task_program.proofs.Kept.{solid_more}
use Rattle.task_program.proofs.ReadPieces.{digits_run}
use Rattle.task_program.proofs.Spelled.{spell}
use Rattle.task_program.proofs.Spelled.{decimal_number, joint_texts, after_texts_by}
use Rattle.task_program.proofs.Spelled.{depend_texts_by, if_texts, line_texts_by}
use Rattle.task_program.proofs.Locations.{word_alone, indexed_alone, subscript_texts}
use Rattle.task_program.proofs.LinesSpelled.{IsLocated, HasLocations}
use Rattle.program_text.proofs.Bools.{bool_cases}
use Rattle.task_program.proofs.KeptNames.{solid_bytes-append}
use Rattle.program_text.proofs.Scanning.{run_is_no_gap}

-- the text has the bytes of these tokens and no more blanks than that
record Weighs (text : List ℕ) (tokens : List (List ℕ)) : Type 0 where
  solid_is : solid_bytes text ≡ sum_by length tokens
  half : length text ≤ 2 * solid_bytes text

-- two texts that weigh what their tokens do weigh so together
weighs_together : (one other : List ℕ) (some more : List (List ℕ))
    → Weighs one some
    → Weighs other more
    → Weighs (one ++ other) (some ++ more)
weighs_together one other some more h g = record {
  solid_is = let first = h.solid_is in
      let second = g.solid_is in
      omega (arith, first, second, solid_bytes-append one other, sum_by-append length some more);
  half = let first = h.half in
      let second = g.half in
      omega (arith, first, second, solid_bytes-append one other, length-append one other);
}

run_solid : (bytes : List ℕ) → list_all is_run_byte bytes ≡ true → solid_bytes bytes ≡ length bytes
run_solid [] h = omega arith
run_solid (b ∷ bytes) h =
    let run : is_run_byte b ≡ true = (and_parts (is_run_byte b) (list_all is_run_byte bytes) h).0 in
    let others : solid_bytes bytes ≡ length bytes =
    run_solid bytes (and_parts (is_run_byte b) (list_all is_run_byte bytes) h).1 in
    let is : is_blank b ≡ false = (or_parts (is_blank b) _ (run_is_no_gap b run)).0 in
    let one : solid_bytes (b ∷ bytes) ≡ 1 + solid_bytes bytes = solid_more b bytes ∙ rw is refl in
    omega (arith, one, others)

run_weighs : (bytes : List ℕ) → list_all is_run_byte bytes ≡ true → Weighs bytes (bytes ∷ [])
run_weighs bytes h =
    let all : solid_bytes bytes ≡ length bytes = run_solid bytes h in
    record { solid_is = omega (arith, all, sum_by-cons length bytes []); half = omega (arith, all) }

word_run : (word : List ℕ) → is_word word ≡ true → list_all is_run_byte word ≡ true
word_run word h =
    (and_parts _ (list_all is_run_byte word)
    (and_parts (is_run word) (not (begins_with_digit word)) h).0).1

number_run : (digits : List ℕ) → is_number digits ≡ true → list_all is_run_byte digits ≡ true
number_run digits h =
    digits_run digits (and_parts (begins_with_digit digits) (list_all is_ascii_digit digits) h).1

-- ---- a location

sign_weighs : (is_negative : Bool)
    → Weighs (cond is_negative (codes "-") []) (cond is_negative (codes "-" ∷ []) [])
sign_weighs true = record { solid_is = omega arith; half = omega arith }
sign_weighs false = record { solid_is = omega arith; half = omega arith }

opens_weighs : Weighs (codes "[") (codes "[" ∷ [])
opens_weighs = record { solid_is = omega arith; half = omega arith }

closes_weighs : Weighs (codes "]") (codes "]" ∷ [])
closes_weighs = record { solid_is = omega arith; half = omega arith }

subscript_weighs : (is_negative : Bool) (size : ℕ)
    → size ≤ LARGEST_INDEX
    → Weighs (subscript is_negative size) (subscript_texts is_negative size)
subscript_weighs is_negative size fits =
    let number : Weighs (decimal size) (decimal size ∷ []) = run_weighs (decimal size)
    (number_run (decimal size) (decimal_number size (omega (arith, fits)))) in
    weighs_together (codes "[") _ (codes "[" ∷ []) _ opens_weighs
    (weighs_together (cond is_negative (codes "-") []) (decimal size ++ codes "]")
    (cond is_negative (codes "-" ∷ []) []) (decimal size ∷ codes "]" ∷ []) (sign_weighs is_negative)
    (weighs_together (decimal size) (codes "]") (decimal size ∷ []) (codes "]" ∷ []) number
    closes_weighs))

location_weighs : (name : List ℕ) → IsLocation name → Weighs name (spell false name)
location_weighs _ (Plain word is) =
    subst (λ (ts : List (List ℕ)). Weighs word ts) (sym (word_alone word is.0))
    (run_weighs word (word_run word is.0))
location_weighs _ (Indexed word is_negative size is fits some) =
    subst (λ (ts : List (List ℕ)). Weighs (word ++ subscript is_negative size) ts)
    (sym (indexed_alone word is_negative size is.0 fits))
    (weighs_together word (subscript is_negative size) (word ∷ [])
    (subscript_texts is_negative size) (run_weighs word (word_run word is.0))
    (subscript_weighs is_negative size fits))

-- ---- items

comma_weighs : Weighs (codes ", ") (codes "," ∷ [])
comma_weighs = record { solid_is = omega arith; half = omega arith }

clause_weighs : (next : DependKind)
    → Weighs (codes ") depend(" ++ (type_word next ++ codes ": "))
    (codes ")" ∷ codes "depend" ∷ codes "(" ∷ type_word next ∷ codes ":" ∷ [])
clause_weighs DependIn = record { solid_is = omega arith; half = omega arith }
clause_weighs _ = record { solid_is = omega arith; half = omega arith }

joint_weighs : (kind next : DependKind) → Weighs (item_separator kind next) (joint_texts kind next)
joint_weighs kind next =
    bool_cases (same_kind kind next)
    (λ same. rw same comma_weighs)
    (λ other. rw other (clause_weighs next))

items_close : Weighs (codes ")") (codes ")" ∷ [])
items_close = record { solid_is = omega arith; half = omega arith }

-- the rest of a `depend` weighs what its tokens do
after_weighs : (names : List (List ℕ)) (kind : DependKind) (items : List Item)
    → All (IsLocated names) items
    → Weighs (items_after names kind items) (after_texts_by (spell false) names kind items)
after_weighs names kind [] all = items_close
after_weighs names kind (item ∷ items) all =
    weighs_together (item_separator kind item.kind)
    (name_of names item ++ items_after names item.kind items) (joint_texts kind item.kind)
    (spell false (name_of names item) ++ after_texts_by (spell false) names item.kind items)
    (joint_weighs kind item.kind)
    (weighs_together (name_of names item) (items_after names item.kind items)
    (spell false (name_of names item)) (after_texts_by (spell false) names item.kind items)
    (location_weighs (name_of names item) (All-head (IsLocated names) item items all))
    (after_weighs names item.kind items (All-tail (IsLocated names) item items all)))

front_weighs : (kind : DependKind)
    → Weighs (codes " depend(" ++ (type_word kind ++ codes ": "))
    (codes "depend" ∷ codes "(" ∷ type_word kind ∷ codes ":" ∷ [])
front_weighs DependIn = record { solid_is = omega arith; half = omega arith }
front_weighs _ = record { solid_is = omega arith; half = omega arith }

front_apart : (kind : DependKind) (inside : List ℕ)
    → (codes " depend(" ++ (type_word kind ++ codes ": ")) ++ inside
    ≡ codes " depend(" ++ (type_word kind ++ (codes ": " ++ inside))
front_apart DependIn inside = refl
front_apart _ inside = refl

nothing_weighs : Weighs [] []
nothing_weighs = record { solid_is = omega arith; half = omega arith }

-- the clauses of a task weigh what their tokens do
depends_weigh : (names : List (List ℕ)) (items : List Item)
    → All (IsLocated names) items
    → Weighs (depend_clauses names items) (depend_texts_by (spell false) names items)
depends_weigh names [] all = nothing_weighs
depends_weigh names (item ∷ items) all =
    let inside : List ℕ = name_of names item ++ items_after names item.kind items in
    let words : List (List ℕ) =
    spell false (name_of names item) ++ after_texts_by (spell false) names item.kind items in
    subst (λ (bytes : List ℕ). Weighs bytes (depend_texts_by (spell false) names (item ∷ items)))
    (front_apart item.kind inside)
    (weighs_together (codes " depend(" ++ (type_word item.kind ++ codes ": ")) inside
    (codes "depend" ∷ codes "(" ∷ type_word item.kind ∷ codes ":" ∷ []) words
    (front_weighs item.kind)
    (weighs_together (name_of names item) (items_after names item.kind items)
    (spell false (name_of names item)) (after_texts_by (spell false) names item.kind items)
    (location_weighs (name_of names item) (All-head (IsLocated names) item items all))
    (after_weighs names item.kind items (All-tail (IsLocated names) item items all))))

if_weighs : (undeferred : Bool) → Weighs (cond undeferred (codes " if(0)") []) (if_texts undeferred)
if_weighs true = record { solid_is = omega arith; half = omega arith }
if_weighs false = record { solid_is = omega arith; half = omega arith }

-- ---- lines

-- a text after which four bytes stand, and one that ends a line
ends_weigh : (first middle last : List ℕ) (some more : List (List ℕ)) (end : List (List ℕ))
    → Weighs middle more
    → solid_bytes first ≡ sum_by length some
    → solid_bytes last ≡ sum_by length end
    → length first + length last ≤ 2 * (solid_bytes first + solid_bytes last)
    → Weighs (first ++ (middle ++ last)) (some ++ (more ++ end))
ends_weigh first middle last some more end h one two few =
    let middle_is = h.solid_is in
    let middle_half = h.half in
    let lengths : length (first ++ (middle ++ last))
    ≡ length first + (length middle + length last) = length-append
    first (middle ++ last)
    ∙ ap (λ (n : ℕ). length first + n) (length-append middle last) in
    let solids : solid_bytes (first ++ (middle ++ last))
    ≡ solid_bytes first + (solid_bytes middle + solid_bytes last) = solid_bytes-append
    first (middle ++ last)
    ∙ ap (λ (n : ℕ). solid_bytes first + n) (solid_bytes-append middle last) in
    let sums : sum_by length (some ++ (more ++ end))
    ≡ sum_by length some + (sum_by length more + sum_by length end) = sum_by-append
    length some (more ++ end)
    ∙ ap (λ (n : ℕ). sum_by length some + n) (sum_by-append length more end) in
    record {
      solid_is = omega (arith, solids, sums, one, two, middle_is);
      half = omega (arith, lengths, solids, few, middle_half);
    }

-- the line of a mark weighs what its tokens do
line_weighs : (names : List (List ℕ)) (mark : Mark)
    → HasLocations names mark
    → Weighs (line_of_mark names mark) (line_texts_by (spell false) names mark)
line_weighs names (Works cost) fits =
    ends_weigh (codes "work ") (decimal cost) (codes "\n") (codes "work" ∷ []) (decimal cost ∷ [])
    [] (run_weighs (decimal cost) (number_run (decimal cost) (decimal_number cost fits)))
    (omega arith) (omega arith) (omega arith)
line_weighs names (Begins undeferred items) fits =
    let ifs : List ℕ = cond undeferred (codes " if(0)") [] in
    let deps : List ℕ = depend_clauses names items in
    let bytes_are : codes "task" ++ ((ifs ++ deps) ++ codes " {\n")
    ≡ line_of_mark names (Begins undeferred items) =
    ap (λ (bs : List ℕ). codes "task" ++ bs) (append_assoc ifs deps (codes " {\n")) in
    let words_are : codes "task"
    ∷ ((if_texts undeferred ++ depend_texts_by (spell false) names items) ++ codes "{" ∷ [])
    ≡ line_texts_by (spell false) names (Begins undeferred items) =
    ap (λ (ts : List (List ℕ)). codes "task" ∷ ts) (append_assoc (if_texts undeferred)
    (depend_texts_by (spell false) names items) (codes "{" ∷ [])) in
    let whole : Weighs (codes "task" ++ ((ifs ++ deps) ++ codes " {\n")) (codes "task"
    ∷ ((if_texts undeferred ++ depend_texts_by (spell false) names items) ++ codes "{" ∷ [])) =
    ends_weigh (codes "task") (ifs ++ deps) (codes " {\n") (codes "task" ∷ [])
    (if_texts undeferred ++ depend_texts_by (spell false) names items) (codes "{" ∷ [])
    (weighs_together ifs deps (if_texts undeferred) (depend_texts_by (spell false) names items)
    (if_weighs undeferred) (depends_weigh names items fits))
    (omega arith) (omega arith) (omega arith) in
    subst (λ (bs : List ℕ). Weighs bs (line_texts_by (spell false) names (Begins undeferred items)))
    bytes_are (subst
    (λ (ts : List (List ℕ)). Weighs (codes "task" ++ ((ifs ++ deps) ++ codes " {\n")) ts) words_are
    whole)
line_weighs names _ fits = record { solid_is = omega arith; half = omega arith }

lines_weigh : (names : List (List ℕ)) (marks : List Mark)
    → All (HasLocations names) marks
    → Weighs (flat_map (line_of_mark names) marks)
    (flat_map (line_texts_by (spell false) names) marks)
lines_weigh names [] all = nothing_weighs
lines_weigh names (mark ∷ marks) all =
    weighs_together (line_of_mark names mark) (flat_map (line_of_mark names) marks)
    (line_texts_by (spell false) names mark) (flat_map (line_texts_by (spell false) names) marks)
    (line_weighs names mark (All-head (HasLocations names) mark marks all))
    (lines_weigh names marks (All-tail (HasLocations names) mark marks all))

header_weighs : Weighs (header_line Two) (codes "omptasks" ∷ codes "2" ∷ [])
header_weighs = record { solid_is = omega arith; half = omega arith }

-- the whole text
pub record TextWeighs (text : List ℕ) (tokens : List (List ℕ)) : Type 0 where
  pub solid_is : solid_bytes text ≡ sum_by length tokens
  pub half : length text ≤ 2 * solid_bytes text

pub text_weighs : (names : List (List ℕ)) (marks : List Mark)
    → All (HasLocations names) marks
    → TextWeighs (header_line Two ++ flat_map (line_of_mark names) marks)
    (codes "omptasks" ∷ codes "2" ∷ flat_map (line_texts_by (spell false) names) marks)
text_weighs names marks all =
    let weighed = weighs_together (header_line Two) (flat_map (line_of_mark names) marks)
    (codes "omptasks" ∷ codes "2" ∷ []) (flat_map (line_texts_by (spell false) names) marks)
    header_weighs (lines_weigh names marks all) in
    record { solid_is = weighed.solid_is; half = weighed.half }
