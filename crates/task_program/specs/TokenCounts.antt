-- What the tokens after the header amount to, counted on the tokens alone, and which limit one
-- token more passes. A text of version 1 has parentheses in its clauses only, and one `:` or `,`
-- before each depend item.
use Rattle.std.specs.Prelude.{ℕ, ◌+◌, Bool, true, false, not, ◌&&◌, ◌||◌, nat_lt, nat_le}
use Rattle.std.specs.Prelude.{if◌then◌else◌, List, [], ◌∷◌, ◌++◌, length, drop, fold, sum_by, Option}
use Rattle.std.specs.Prelude.{Some, None, codes}
use Rattle.std.specs.Option.{option_or}
use Rattle.program_text.specs.declared.fault.ReadKind.{ReadKind}
use Rattle.program_text.specs.declared.fault.ReadKind.TheVariants.{BadNumber, TooDeep, TooManyTasks}
use Rattle.program_text.specs.declared.fault.ReadKind.TheVariants.{TooManySegments, TooManyItems}
use Rattle.program_text.specs.declared.fault.ReadKind.TheVariants.{WorkTooLarge}
use Rattle.program_text.specs.declared.limits.TheConstants.{MOST_TASKS, MOST_SEGMENTS}
use Rattle.program_text.specs.declared.limits.TheConstants.{LARGEST_COST, MOST_WORK}
use Rattle.program_text.specs.Tokens.{Token, texts}
use Rattle.program_text.specs.Words.{is_text, is_number, value_of}

-- ---- parentheses

abbrev pub inside_after : (inside : Bool) → List ℕ → Bool
inside_after inside text =
    if is_text text (codes "(") then true else (if is_text text (codes ")") then false else inside)

-- a `(` is open
abbrev pub is_inside : List (List ℕ) → Bool
is_inside texts = fold inside_after false texts

-- the tokens in front of which no `(` is open
unfoldable pub outside_from : (inside : Bool) → List (List ℕ) → List (List ℕ)
outside_from inside [] = []
outside_from inside (text ∷ texts) =
    let later = outside_from (inside_after inside text) texts in
    if inside then later else text ∷ later

abbrev pub outside : List (List ℕ) → List (List ℕ)
outside texts = outside_from false texts

-- ---- tasks, segments and work

abbrev pub tasks_by : List ℕ → ℕ
tasks_by text = if is_text text (codes "task") then 1 else 0

abbrev pub is_waiting : List ℕ → Bool
is_waiting text = is_text text (codes "taskwait") || is_text text (codes "taskgroup")

abbrev pub segments_by : List ℕ → ℕ
segments_by text = if is_text text (codes "task") then 2 else (if is_waiting text then 1 else 0)

abbrev pub work_by : List ℕ → ℕ
work_by text = if is_number text then value_of text else 0

-- the words `task` outside parentheses
abbrev pub tasks_in : List (List ℕ) → ℕ
tasks_in texts = sum_by tasks_by (outside texts)

-- 1, and 2 for each such `task`, 1 for each `taskwait` and `taskgroup`
abbrev pub segments_in : List (List ℕ) → ℕ
segments_in texts = 1 + sum_by segments_by (outside texts)

-- the sum of the numbers outside parentheses
abbrev pub work_in : List (List ℕ) → ℕ
work_in texts = sum_by work_by (outside texts)

-- ---- items

abbrev pub items_after : ℕ → List ℕ → ℕ
items_after items text =
    if is_text text (codes "{")
    then 0
    else (if is_text text (codes ":") || is_text text (codes ",") then items + 1 else items)

-- the `:` and `,` since the last `{`: of the task whose clauses are read, the items, the one that
-- comes included
abbrev pub items_in : List (List ℕ) → ℕ
items_in texts = fold items_after 0 texts

-- ---- open blocks

abbrev pub braces_after : List ℕ → Token → List ℕ
braces_after braces token =
    if is_text token.text (codes "{")
    then token.line ∷ braces
    else (if is_text token.text (codes "}") then drop 1 braces else braces)

-- the lines of the `{` that no `}` has closed, the innermost first
abbrev pub open_braces : List Token → List ℕ
open_braces tokens = fold braces_after [] tokens

-- ---- the limits, in the order of their tests

-- the number of an `if` stands in parentheses, that of a `work` outside
abbrev pub is_value_too_large : (inside : Bool) → List ℕ → Bool
is_value_too_large inside text =
    is_number text
    && (if inside then nat_lt 1 (value_of text) else nat_lt LARGEST_COST (value_of text))

abbrev pub is_too_deep : (most open_blocks : ℕ) → List ℕ → Bool
is_too_deep most open_blocks text = is_text text (codes "{") && nat_le most open_blocks

abbrev pub is_work_past : (inside : Bool) → (work : ℕ) → List ℕ → Bool
is_work_past inside work text =
    not inside && (is_number text && nat_lt MOST_WORK (work + value_of text))

-- there are too many tasks or segments with this token, after these
abbrev pub too_many_after : (body : List Token) → List ℕ → Option ReadKind
too_many_after body text =
    let all = texts body ++ text ∷ [] in
    if nat_lt MOST_TASKS (tasks_in all) then Some TooManyTasks
    else (if nat_lt MOST_SEGMENTS (segments_in all) then Some TooManySegments else None)

-- the first limit that this token passes after these, where so many blocks may be open, and a task
-- may have so many items
abbrev pub limit_fault_after : (nesting most_items : ℕ) (too_many : Option ReadKind) (body : List Token)
    → List ℕ
    → Option ReadKind
limit_fault_after nesting most_items too_many body text =
    let before = texts body in
    if is_value_too_large (is_inside before) text then Some BadNumber
    else (if is_too_deep nesting (length (open_braces body)) text then Some TooDeep
    else option_or too_many (if nat_lt most_items (items_in before) then Some TooManyItems
    else (if is_work_past (is_inside before) (work_in before) text then Some WorkTooLarge
    else None)))
