-- Tokens of bytes that stand further down: the same, each so many lines further.
use Rattle.std.proofs.Common.{◌≡◌, ℕ, ◌+◌, Bool, ◌&&◌, List, [], ◌∷◌, map, refl, arith}
use Rattle.std.proofs.Common.{sym, ap, ◌∙◌}
use Rattle.program_text.specs.Tokens.{Token, is_gap, in_comment_after, is_run_byte, is_line_feed}
use Rattle.program_text.specs.Tokens.{line_after, starts_with_run_byte, with_byte_in_front}
use Rattle.program_text.specs.Tokens.{tokens_from}
use Rattle.program_text.proofs.Bools.{bool_cases}
use Rattle.large_text.proofs.Cutting.{one_byte}

abbrev pub further : (lines : ℕ) → Token → Token
further lines token = record { text = token.text; line = lines + token.line }

front_further : (lines b : ℕ) (tokens : List Token)
    → map (further lines) (with_byte_in_front b tokens)
    ≡ with_byte_in_front b (map (further lines) tokens)
front_further lines b [] = refl
front_further lines b (token ∷ tokens) = refl

line_further : (lines b line : ℕ) → line_after b (lines + line) ≡ lines + line_after b line
line_further lines b line =
    bool_cases (is_line_feed b) (λ feed. rw feed (omega arith)) (λ other. rw other refl)

pub tokens_further : (lines : ℕ) (c : Bool) (line : ℕ) (bytes : List ℕ)
    → tokens_from c (lines + line) bytes ≡ map (further lines) (tokens_from c line bytes)
unfolding tokens_from
tokens_further lines c line [] = refl
tokens_further lines c line (b ∷ bytes) =
    let later : tokens_from (in_comment_after c b) (line_after b (lines + line)) bytes
    ≡ map (further lines) (tokens_from (in_comment_after c b) (line_after b line) bytes) =
    ap (λ (n : ℕ). tokens_from (in_comment_after c b) n bytes) (line_further lines b line)
    ∙ tokens_further lines (in_comment_after c b) (line_after b line) bytes in
    bool_cases (is_gap c b)
    (λ gap. rw (one_byte c (lines + line) b bytes, one_byte c line b bytes, gap) later)
    (λ none. bool_cases (is_run_byte b && starts_with_run_byte bytes)
    (λ run. rw (one_byte c (lines + line) b bytes, one_byte c line b bytes, none, run)
    (ap (λ (ts : List Token). with_byte_in_front b ts) later
    ∙ sym (front_further lines b
    (tokens_from (in_comment_after c b) (line_after b line) bytes))))
    (λ other. rw (one_byte c (lines + line) b bytes, one_byte c line b bytes, none, other)
    (ap (λ (ts : List Token). record { text = b ∷ []; line = lines + line } ∷ ts) later)))
