-- A text that is cut behind an LF: the tokens of its two parts.
use Rattle.std.proofs.Common.{◌≡◌, ℕ, Bool, true, false, ◌&&◌, cond, List, [], ◌∷◌}
use Rattle.std.proofs.Common.{◌++◌, refl, arith, subst, eqb}
use Rattle.std.proofs.lemmas.Bool.{and_parts, or_parts}
use Rattle.std.proofs.lemmas.Grind.{common_steps}
use Rattle.program_text.specs.Tokens.{Token, is_blank, is_gap, in_comment_after, is_run_byte}
use Rattle.program_text.specs.Tokens.{line_after, line_at_end, starts_with_run_byte}
use Rattle.program_text.specs.Tokens.{with_byte_in_front, tokens_from}
use Rattle.program_text.proofs.Bools.{bool_cases}
use Rattle.program_text.proofs.Scanning.{run_token}

-- the same byte follows
starts_alike : (a later : List ℕ)
    → starts_with_run_byte (a ++ 10 ∷ later) ≡ starts_with_run_byte (a ++ 10 ∷ [])
starts_alike [] later = refl
starts_alike (b ∷ a) later = refl

-- a byte in front stays in the first part, where that has a token
in_front : (b line : ℕ) (bytes : List ℕ) (later : List Token)
    → starts_with_run_byte bytes ≡ true
    → with_byte_in_front b (tokens_from false line bytes ++ later)
    ≡ with_byte_in_front b (tokens_from false line bytes) ++ later
in_front b line [] later starts = absurd cc
in_front b line (d ∷ bytes) later starts = rw (run_token line d bytes starts) refl

line_more : (line b : ℕ) (bytes : List ℕ)
    → line_at_end (line_after b line) bytes ≡ line_at_end line (b ∷ bytes)
line_more line b bytes = grind (arith, common_steps)

-- behind a run byte that is in no comment there is none
outside : (c : Bool) (b : ℕ) → is_gap c b ≡ false → in_comment_after c b ≡ false
outside true b none = absurd cc
outside false b none = (or_parts (is_blank b) (eqb b 35) none).1

-- one byte of the definition
pub one_byte : (c : Bool) (line b : ℕ) (bytes : List ℕ)
    → tokens_from c line (b ∷ bytes)
    ≡ cond (is_gap c b) (tokens_from (in_comment_after c b) (line_after b line) bytes)
    (cond (is_run_byte b && starts_with_run_byte bytes)
    (with_byte_in_front b (tokens_from (in_comment_after c b) (line_after b line) bytes))
    (record { text = b ∷ []; line = line }
    ∷ tokens_from (in_comment_after c b) (line_after b line) bytes))
unfolding tokens_from
one_byte c line b bytes = refl

-- what one byte adds, before tokens that are those of two parts
one_more : (c : Bool) (line b : ℕ) (all first : List ℕ) (later : List Token)
    → starts_with_run_byte all ≡ starts_with_run_byte first
    → tokens_from (in_comment_after c b) (line_after b line) all
    ≡ tokens_from (in_comment_after c b) (line_after b line) first ++ later
    → tokens_from c line (b ∷ all) ≡ tokens_from c line (b ∷ first) ++ later
one_more c line b all first later alike parts =
    bool_cases (is_gap c b)
    (λ gap. rw (one_byte c line b all, one_byte c line b first, gap) parts)
    (λ none. bool_cases (is_run_byte b && starts_with_run_byte first)
    (λ run.
    let starts = (and_parts (is_run_byte b) (starts_with_run_byte first) run).1 in
    let same = outside c b none in
    rw (one_byte c line b all, one_byte c line b first, none, alike, run, parts, same)
    (in_front b (line_after b line) first later starts))
    (λ other. rw (one_byte c line b all, one_byte c line b first, none, alike, other, parts) refl))

at_feed : (c : Bool) (line : ℕ) (later : List ℕ)
    → tokens_from c line (10 ∷ later)
    ≡ tokens_from c line (10 ∷ []) ++ tokens_from false (line_at_end line (10 ∷ [])) later
unfolding tokens_from
at_feed true line later = refl
at_feed false line later = refl

pub cut_behind : (c : Bool) (line : ℕ) (a later : List ℕ)
    → tokens_from c line (a ++ 10 ∷ later)
    ≡ tokens_from c line (a ++ 10 ∷ [])
    ++ tokens_from false (line_at_end line (a ++ 10 ∷ [])) later
cut_behind c line [] later = at_feed c line later
cut_behind c line (b ∷ a) later =
    one_more c line b (a ++ 10 ∷ later) (a ++ 10 ∷ [])
    (tokens_from false (line_at_end line (b ∷ (a ++ 10 ∷ []))) later) (starts_alike a later)
    (subst (λ (n : ℕ). tokens_from (in_comment_after c b) (line_after b line) (a ++ 10 ∷ later)
    ≡ tokens_from (in_comment_after c b) (line_after b line) (a ++ 10 ∷ [])
    ++ tokens_from false n later) (line_more line b (a ++ 10 ∷ []))
    (cut_behind (in_comment_after c b) (line_after b line) a later))
