-- The version of a text is known from its first lines, where these have a header.
use Rattle.std.proofs.Common.{◌≡◌, ◌+◌, ◌-◌, ◌<◌, ◌≤◌, ◌∙◌, ℕ, List, [], ◌∷◌, ◌++◌, length, take, refl, sym}
use Rattle.std.proofs.Common.{Bool, false, not, ap, arith, append_assoc, length-append}
use Rattle.std.specs.Prelude.{IsTrue}
use Rattle.std.proofs.lemmas.Bool.{not-true}
use Rattle.std.proofs.lemmas.List.{take_all}
use Rattle.std.proofs.Math.Seq.{take-append-add}
use Rattle.program_text.specs.declared.limits.TheConstants.{MOST_TEXT_BYTES}
use Rattle.program_text.specs.Tokens.{Token, line_at_end, tokens_from, tokens_of}
use Rattle.task_program.specs.Versions.{begins_version_two}
use Rattle.large_text.specs.LargeTexts.{is_large_two}
use Rattle.large_text.specs.PlainStreamed.{EndsLine}
use Rattle.large_text.proofs.PlainStreaming.{cut_once}

-- a header is two tokens
header_stays : (tokens later : List Token)
    → 2 ≤ length tokens
    → begins_version_two (tokens ++ later) ≡ begins_version_two tokens
header_stays [] later two = absurd (omega (arith, two))
header_stays (word ∷ []) later two = absurd (omega (arith, two))
header_stays (word ∷ (number ∷ tokens)) later two = refl

-- no tokens are in no bytes
some_bytes : (bytes : List ℕ) → 2 ≤ length (tokens_of bytes) → 0 < length bytes
unfolding tokens_from
some_bytes [] two = absurd (omega (arith, two))
some_bytes (byte ∷ bytes) two = omega arith

known_from_lines : (lines later : List ℕ)
    → EndsLine lines
    → 2 ≤ length (tokens_of lines)
    → length lines ≤ MOST_TEXT_BYTES
    → is_large_two (lines ++ later) ≡ is_large_two lines
known_from_lines lines later ends two few =
    let room = MOST_TEXT_BYTES - length lines in
    let whole : MOST_TEXT_BYTES ≡ length lines + room = omega (arith, few) in
    let head : take MOST_TEXT_BYTES (lines ++ later) ≡ lines ++ take room later =
    ap (λ (n : ℕ). take n (lines ++ later)) whole ∙ take-append-add lines later room in
    ap (λ (bytes : List ℕ). begins_version_two (tokens_of bytes)) head
    ∙ ap (λ (tokens : List Token). begins_version_two tokens)
    (cut_once 1 lines (take room later) ends)
    ∙ header_stays (tokens_of lines) (tokens_from _ (line_at_end 1 lines) (take room later)) two
    ∙ ap (λ (bytes : List ℕ). begins_version_two (tokens_of bytes))
    (sym (take_all MOST_TEXT_BYTES lines few))

-- where these whole lines begin the bytes, and have a header that is not of version 2
pub never_two : (bytes lines rest : List ℕ) (two : Bool)
    → bytes ≡ lines ++ rest
    → (0 < length lines → EndsLine lines)
    → 2 ≤ length (tokens_of lines)
    → length bytes ≤ MOST_TEXT_BYTES
    → two ≡ is_large_two lines
    → IsTrue (not two)
    → (later : List ℕ) → is_large_two (bytes ++ later) ≡ false
never_two bytes lines rest two all ends some few told never = λ later.
    let long = ap (λ (a : List ℕ). length a) all in
    let short : length lines ≤ MOST_TEXT_BYTES =
    omega (arith, few, long, length-append lines rest) in
    ap (λ (a : List ℕ). is_large_two (a ++ later)) all
    ∙ ap (λ (a : List ℕ). is_large_two a) (append_assoc lines rest later)
    ∙ known_from_lines lines (rest ++ later) (ends (some_bytes lines some)) some short
    ∙ sym told
    ∙ not-true two never
