-- The value of digits grows with each digit.
use Rattle.std.proofs.Common.{◌≡◌, ℕ, ◌+◌, ◌*◌, ◌-◌, ◌<◌, ◌≤◌, List, [], ◌∷◌, length, take, drop}
use Rattle.std.proofs.Common.{get_or, take-append-drop, sym, ap, ◌∙◌, arith}
use Rattle.std.specs.Prelude.{fold}
use Rattle.std.proofs.lemmas.List.Sums.{fold-append, fold_more}
use Rattle.program_text.specs.Words.{value_of}

abbrev with_digit : ℕ → ℕ → ℕ
with_digit n d = (10 * n) + (d - 48)

grows : (n : ℕ) (digits : List ℕ) → n ≤ fold with_digit n digits
grows n [] = omega arith
grows n (d ∷ digits) = omega (arith, grows (with_digit n d) digits)

pub value_of-take : (digits : List ℕ) (i : ℕ) → value_of (take i digits) ≤ value_of digits
value_of-take digits i =
    let split : value_of digits ≡ fold with_digit (value_of (take i digits)) (drop i digits) = ap
    value_of (sym (take-append-drop i digits))
    ∙ fold-append with_digit 0 (take i digits) (drop i digits) in
    omega (arith, split, grows (value_of (take i digits)) (drop i digits))

-- one digit more is already too large
pub passes_with : (digits : List ℕ) (i value most : ℕ)
    → i < length digits
    → value ≡ value_of (take i digits)
    → most < 10 * value + (get_or digits i 0 - 48)
    → value_of digits ≤ most
    → ⊥
passes_with digits i value most lt so_far above within =
    let more : value_of (take (i + 1) digits)
    ≡ with_digit (value_of (take i digits)) (get_or digits i 0) =
    fold_more with_digit 0 digits i 0 lt in
    omega (arith, more, so_far, value_of-take digits (i + 1))
