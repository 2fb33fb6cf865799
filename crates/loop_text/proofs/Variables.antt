-- The number of a variable, block by block.
use Rattle.std.proofs.Common.{◌≡◌, ℕ, ◌+◌, ◌-◌, ◌<◌, ◌≤◌, Bool, true, false, cond, List, [], ◌∷◌}
use Rattle.std.proofs.Common.{◌++◌, length, take, get_or, reverse, Option, Some, None, refl, sym}
use Rattle.std.proofs.Common.{ap, ◌∙◌, arith}
use Rattle.std.specs.List.{list_any, position_or_len}
use Rattle.std.specs.Str.{bytes_eq}
use Rattle.std.proofs.Math.Seq.{take-length}
use Rattle.std.proofs.lemmas.List.{take_more, reverse-append}
use Rattle.loop_text.specs.declared.open_loops.LoopOpening.{LoopOpening}
use Rattle.loop_text.specs.declared.open_loops.LoopOpening.TheVariants.{TaskOpening, GroupOpening}
use Rattle.loop_text.specs.declared.open_loops.LoopOpening.TheVariants.{ForOpening}
use Rattle.loop_text.specs.declared.open_loops.LoopBlock.{LoopBlock}
use Rattle.loop_text.specs.OpenBlocks.{variables_of, variables_around, variable_number}

-- so many loops more stand between
abbrev pub number_further_out : ℕ → Option ℕ → Option ℕ
number_further_out more None = None
number_further_out more (Some number) = Some (more + number)

abbrev some : ℕ → Option ℕ
some n = Some n

by_any : (any : Bool) (number more : ℕ)
    → number_further_out (more + 1) (cond any (Some number) None)
    ≡ number_further_out more (cond any (Some (1 + number)) None)
by_any true number more = ap some (omega arith)
by_any false number more = refl

variable_is_first : (variables : List (List ℕ)) (variable text : List ℕ)
    → bytes_eq text variable ≡ true
    → variable_number (variable ∷ variables) text ≡ Some 0
variable_is_first variables variable text same = rw same refl

variable_is_later : (variables : List (List ℕ)) (variable text : List ℕ) (more : ℕ)
    → bytes_eq text variable ≡ false
    → number_further_out (more + 1) (variable_number variables text)
    ≡ number_further_out more (variable_number (variable ∷ variables) text)
variable_is_later variables variable text more other =
    rw other
    (by_any (list_any (bytes_eq text) variables) (position_or_len (bytes_eq text) variables) more)

-- the last block stands first when they are turned round
last_first : (blocks : List LoopBlock) (d : LoopBlock)
    → 1 ≤ length blocks
    → reverse blocks
    ≡ get_or blocks (length blocks - 1) d ∷ reverse (take (length blocks - 1) blocks)
last_first blocks d some_block =
    let last : ℕ = length blocks - 1 in
    let all : last + 1 ≡ length blocks = omega (arith, some_block) in
    let split : blocks ≡ take last blocks ++ get_or blocks last d ∷ [] = sym (take-length blocks)
    ∙ ap (λ (k : ℕ). take k blocks) (sym all)
    ∙ take_more blocks last d (omega (arith, some_block)) in
    ap (λ (bs : List LoopBlock). reverse bs) split
    ∙ reverse-append (take last blocks) (get_or blocks last d ∷ [])

variables_are : (blocks : List LoopBlock) (d : LoopBlock) → 1 ≤ length blocks
    → variables_of (reverse blocks)
    ≡ variables_around (get_or blocks (length blocks - 1) d).opening
    (variables_of (reverse (take (length blocks - 1) blocks)))
unfolding variables_of
variables_are blocks d some_block =
    ap (λ (bs : List LoopBlock). variables_of bs) (last_first blocks d some_block)

no_variable : (opening : LoopOpening) (variables : List (List ℕ))
    → ((variable : List ℕ) (from to line brace_line : ℕ)
    → opening ≡ ForOpening variable from to line brace_line → ⊥)
    → variables_around opening variables ≡ variables
no_variable (TaskOpening task) variables h = refl
no_variable (GroupOpening line brace_line) variables h = refl
no_variable (ForOpening variable from to line brace_line) variables h =
    absurd (h variable from to line brace_line refl)

-- a block that is no loop
pub passed_block : (blocks : List LoopBlock) (block d : LoopBlock) (text : List ℕ) (more : ℕ)
    (total : Option ℕ)
    → 1 ≤ length blocks
    → block ≡ get_or blocks (length blocks - 1) d
    → ((variable : List ℕ) (from to line brace_line : ℕ)
    → block.opening ≡ ForOpening variable from to line brace_line → ⊥)
    → number_further_out more (variable_number (variables_of (reverse blocks)) text) ≡ total
    → number_further_out more
    (variable_number (variables_of (reverse (take (length blocks - 1) blocks))) text)
    ≡ total
passed_block blocks block d text more total some_block is no_loop h =
    let around : List (List ℕ) = variables_of (reverse (take (length blocks - 1) blocks)) in
    let same : variables_of (reverse blocks) ≡ around = variables_are blocks d some_block
    ∙ ap (λ (b : LoopBlock). variables_around b.opening around) (sym is)
    ∙ no_variable block.opening around no_loop in
    ap (λ (vs : List (List ℕ)). number_further_out more (variable_number vs text)) (sym same) ∙ h

-- the innermost open block is a loop, and its variable is the innermost one
loop_is : (blocks : List LoopBlock) (block d : LoopBlock) (variable : List ℕ)
    (from to line brace_line : ℕ)
    → 1 ≤ length blocks
    → block ≡ get_or blocks (length blocks - 1) d
    → block.opening ≡ ForOpening variable from to line brace_line
    → variables_of (reverse blocks)
    ≡ variable ∷ variables_of (reverse (take (length blocks - 1) blocks))
loop_is blocks block d variable from to line brace_line some_block is opening =
    let around : List (List ℕ) = variables_of (reverse (take (length blocks - 1) blocks)) in
    variables_are blocks d some_block
    ∙ ap (λ (b : LoopBlock). variables_around b.opening around) (sym is)
    ∙ ap (λ (o : LoopOpening). variables_around o around) opening

-- a loop of another variable
pub passed_loop : (blocks : List LoopBlock) (block d : LoopBlock) (variable : List ℕ)
    (from to line brace_line : ℕ) (text : List ℕ) (more : ℕ) (total : Option ℕ)
    → 1 ≤ length blocks
    → block ≡ get_or blocks (length blocks - 1) d
    → block.opening ≡ ForOpening variable from to line brace_line
    → bytes_eq text variable ≡ false
    → number_further_out more (variable_number (variables_of (reverse blocks)) text) ≡ total
    → number_further_out (more + 1)
    (variable_number (variables_of (reverse (take (length blocks - 1) blocks))) text)
    ≡ total
passed_loop blocks block d variable from to line brace_line text more total some_block is opening
    other h =
    let around : List (List ℕ) = variables_of (reverse (take (length blocks - 1) blocks)) in
    variable_is_later around variable text more other
    ∙ ap (λ (vs : List (List ℕ)). number_further_out more (variable_number vs text))
    (sym (loop_is blocks block d variable from to line brace_line some_block is opening))
    ∙ h

-- the loop of this variable
pub found_loop : (blocks : List LoopBlock) (block d : LoopBlock) (variable : List ℕ)
    (from to line brace_line : ℕ) (text : List ℕ) (more : ℕ) (total : Option ℕ)
    → 1 ≤ length blocks
    → block ≡ get_or blocks (length blocks - 1) d
    → block.opening ≡ ForOpening variable from to line brace_line
    → bytes_eq text variable ≡ true
    → number_further_out more (variable_number (variables_of (reverse blocks)) text) ≡ total
    → Some more ≡ total
found_loop blocks block d variable from to line brace_line text more total some_block is opening
    same h =
    let around : List (List ℕ) = variables_of (reverse (take (length blocks - 1) blocks)) in
    let first : number_further_out more (variable_number (variables_of (reverse blocks)) text)
    ≡ Some (more + 0) = ap
    (λ (vs : List (List ℕ)). number_further_out more (variable_number vs text))
    (loop_is blocks block d variable from to line brace_line some_block is opening)
    ∙ ap (number_further_out more) (variable_is_first around variable text same) in
    let none : more ≡ more + 0 = omega arith in
    ap some none ∙ sym first ∙ h

no_blocks : (blocks : List LoopBlock) → length blocks < 1 → blocks ≡ []
no_blocks [] h = refl
no_blocks (block ∷ blocks) h = absurd (omega (arith, h))

-- no block is left
pub no_loop_left : (blocks : List LoopBlock) (text : List ℕ) (more : ℕ) (total : Option ℕ)
    → length blocks < 1
    → number_further_out more (variable_number (variables_of (reverse blocks)) text) ≡ total
    → None ≡ total
unfolding variables_of
no_loop_left blocks text more total none h =
    ap
    (λ (bs : List LoopBlock).
    number_further_out more (variable_number (variables_of (reverse bs)) text))
    (sym (no_blocks blocks none))
    ∙ h

pub not_shifted : (o : Option ℕ) → number_further_out 0 o ≡ o
not_shifted None = refl
not_shifted (Some n) = ap some (omega arith)
