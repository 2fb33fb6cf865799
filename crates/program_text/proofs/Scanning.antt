-- How the scanner goes on from byte to byte, and from token to token.
use Rattle.std.proofs.Common.{◌≡◌, ℕ, suc, ◌-◌, ◌<◌, ◌≤◌, Bool, true, false, not, ◌&&◌, cond, List}
use Rattle.std.proofs.Common.{[], ◌∷◌, length, take, drop, max, get_or, refl, sym, ap, ◌∙◌, arith}
use Rattle.std.proofs.Common.{eqb, ltb, false-eqb}
use Rattle.std.specs.Prelude.{count_by}
use Rattle.std.specs.List.{list_all, prefix_len}
use Rattle.std.proofs.lemmas.Bool.Decides.{nat_tests}
use Rattle.std.proofs.lemmas.Bool.{eqb-true, lt-ltb, ne_eqb, or_parts}
use Rattle.std.proofs.lemmas.List.{take_all, length-drop}
use Rattle.std.proofs.lemmas.List.Sums.{prefix_len-le-length}
use Rattle.std.proofs.lemmas.Grind.{common_steps}
use Rattle.program_text.specs.Tokens.{is_gap, in_comment_after, is_blank, is_line_feed, is_run_byte}
use Rattle.program_text.specs.Tokens.{line_after, line_at_end, starts_with_run_byte}
use Rattle.program_text.specs.Tokens.{with_byte_in_front, tokens_from, StandsAtToken}
use Rattle.program_text.specs.Words.{is_run}
use Rattle.program_text.proofs.Bools.{bool_cases}

-- what a `[first, rest @ ..]` pattern binds as the rest
pub rest_of_cons : (b : ℕ) (bytes : List ℕ)
    → take (length (b ∷ bytes) - 1) (drop 1 (b ∷ bytes)) ≡ bytes
rest_of_cons b bytes = take_all _ _ (omega arith)

blank_is_no_hash : (b : ℕ) → is_blank b ≡ true → in_comment_after false b ≡ false
blank_is_no_hash b h = grind (arith, nat_tests)

-- a blank adds no token
pub blank_goes_on : (line : ℕ) (bytes : List ℕ)
    → 1 ≤ length bytes
    → is_blank (get_or bytes 0 0) ≡ true
    → tokens_from false (line_after (get_or bytes 0 0) line)
    (take (length bytes - 1) (drop 1 bytes))
    ≡ tokens_from false line bytes
unfolding tokens_from
blank_goes_on line [] some h = absurd (omega arith)
blank_goes_on line (b ∷ bytes) some h =
    let outside : in_comment_after false b ≡ false = blank_is_no_hash b h in
    rw (rest_of_cons b bytes, h, outside) refl

pub line_goes_on : (line : ℕ) (bytes : List ℕ) → 1 ≤ length bytes
    → line_at_end (line_after (get_or bytes 0 0) line) (take (length bytes - 1) (drop 1 bytes))
    ≡ line_at_end line bytes
line_goes_on line [] some = absurd (omega arith)
line_goes_on line (b ∷ bytes) some = rw (rest_of_cons b bytes) (grind (arith, common_steps))

-- nor does a space, after which the line is the same
pub space_goes_on : (line : ℕ) (bytes : List ℕ) → 1 ≤ length bytes → get_or bytes 0 0 ≡ 32
    → (tokens_from false line (take (length bytes - 1) (drop 1 bytes)) ≡ tokens_from false line bytes)
    × (line_at_end line (take (length bytes - 1) (drop 1 bytes)) ≡ line_at_end line bytes)
space_goes_on line bytes some space =
    let rest = take (length bytes - 1) (drop 1 bytes) in
    let same_line : line_after (get_or bytes 0 0) line ≡ line =
    ap (λ (b : ℕ). line_after b line) space in (
      sym (ap (λ (n : ℕ). tokens_from false n rest) same_line)
          ∙ blank_goes_on line bytes some (ap is_blank space),
      sym (ap (λ (n : ℕ). line_at_end n rest) same_line) ∙ line_goes_on line bytes some,
    )

one_more : (p : ℕ → Bool) (b : ℕ) (bytes : List ℕ) → p b ≡ true
    → prefix_len p (b ∷ bytes) ≡ suc (prefix_len p bytes)
one_more p b bytes h = rw h (omega arith)

-- a comment ends before the next LF
comment_ends : (line : ℕ) (bytes : List ℕ)
    → tokens_from true line bytes
    ≡ tokens_from false line (drop (prefix_len (λ b. not (is_line_feed b)) bytes) bytes)
unfolding tokens_from
comment_ends line [] = refl
comment_ends line (b ∷ bytes) =
    bool_cases (is_line_feed b)
    (λ feed. rw (eqb-true b 10 feed) refl)
    (λ other. rw (one_more (λ b. not (is_line_feed b)) b bytes (ap not other), other)
    (comment_ends line bytes))

comment_has_no_feed : (bytes : List ℕ)
    → count_by is_line_feed (drop (prefix_len (λ b. not (is_line_feed b)) bytes) bytes)
    ≡ count_by is_line_feed bytes
comment_has_no_feed [] = refl
comment_has_no_feed (b ∷ bytes) =
    bool_cases (is_line_feed b)
    (λ feed. rw (eqb-true b 10 feed) refl)
    (λ other. rw (one_more (λ b. not (is_line_feed b)) b bytes (ap not other), other)
    (comment_has_no_feed bytes))

hash_begins : (line b : ℕ) (bytes : List ℕ) → b ≡ 35
    → tokens_from true line bytes ≡ tokens_from false line (b ∷ bytes)
unfolding tokens_from
hash_begins line b bytes hash = rw hash refl

-- what a slice `[n..]` is
slice_is_drop : (n : ℕ) (bytes : List ℕ) → take (length bytes - n) (drop n bytes) ≡ drop n bytes
slice_is_drop n bytes = take_all _ _ (omega (arith, length-drop n bytes))

-- and adds no token; `rest` is what stands behind its `#`, and `n` how far the comment goes there
pub comment_goes_on : (line : ℕ) (bytes : List ℕ) (n : ℕ)
    → 1 ≤ length bytes
    → get_or bytes 0 0 ≡ 35
    → let rest = take (length bytes - 1) (drop 1 bytes) in
    n ≡ prefix_len (λ b. not (is_line_feed b)) rest
    → (tokens_from false line (take (length rest - n) (drop n rest)) ≡ tokens_from false line bytes)
    × (line_at_end line (take (length rest - n) (drop n rest)) ≡ line_at_end line bytes)
    × (length (take (length rest - n) (drop n rest)) ≤ length bytes)
comment_goes_on line [] n some hash n_is = absurd (omega arith)
comment_goes_on line (b ∷ bytes) n some hash n_is =
    let rest = take (length (b ∷ bytes) - 1) (drop 1 (b ∷ bytes)) in
    let all : rest ≡ bytes = rest_of_cons b bytes in
    let n_there : n ≡ prefix_len (λ b. not (is_line_feed b)) bytes =
    n_is ∙ ap (λ bytes. prefix_len (λ b. not (is_line_feed b)) bytes) all in
    let same : take (length rest - n) (drop n rest)
    ≡ drop (prefix_len (λ b. not (is_line_feed b)) bytes) bytes =
    slice_is_drop n rest ∙ rw (all, n_there) refl in (
      rw same (sym (comment_ends line bytes) ∙ hash_begins line b bytes hash),
      rw (same, comment_has_no_feed bytes, hash) refl,
      rw same (omega (arith, length-drop (prefix_len (λ b. not (is_line_feed b)) bytes) bytes)),
    )

-- nothing is left
pub no_tokens : (c : Bool) (line : ℕ) (bytes : List ℕ)
    → length bytes < 1
    → tokens_from c line bytes ≡ []
unfolding tokens_from
no_tokens c line [] none = refl
no_tokens c line (b ∷ bytes) none = absurd (omega arith)

-- one byte of the definition
tokens_step : (line b : ℕ) (bytes : List ℕ) → is_gap false b ≡ false
    → tokens_from false line (b ∷ bytes)
    ≡ cond (is_run_byte b && starts_with_run_byte bytes)
    (with_byte_in_front b (tokens_from (in_comment_after false b) (line_after b line) bytes))
    (record { text = b ∷ []; line = line }
    ∷ tokens_from (in_comment_after false b) (line_after b line) bytes)
unfolding tokens_from
tokens_step line b bytes h = rw h refl

no_hash : (b : ℕ) → is_gap false b ≡ false → in_comment_after false b ≡ false
no_hash b h = (or_parts (is_blank b) (eqb b 35) h).1

no_feed : (b line : ℕ) → is_gap false b ≡ false → line_after b line ≡ line
no_feed b line h = let blank = (or_parts (is_blank b) (eqb b 35) h).0 in
    let feed = (or_parts (eqb b 13) (eqb b 10) (or_parts _ _ blank).1).1 in rw feed refl

-- a run byte differs from a byte that is none
differs : (k b : ℕ) → is_run_byte k ≡ false → is_run_byte b ≡ true → eqb b k ≡ false
differs k b k_is_none b_is_one =
    bool_cases (eqb b k)
    (λ same. absurd (let same_byte : b ≡ k = eqb-true b k same in let same_test = ap is_run_byte
    same_byte in cc))
    (λ other. other)

pub run_is_no_gap : (b : ℕ) → is_run_byte b ≡ true → is_gap false b ≡ false
run_is_no_gap b h =
    rw (
      differs 32 b refl h,
      differs 9 b refl h,
      differs 13 b refl h,
      differs 10 b refl h,
      differs 35 b refl h,
    )
    refl

-- a byte that is no run byte, and belongs to no gap, is a token
pub single_token : (line b : ℕ) (bytes : List ℕ) → is_gap false b ≡ false → is_run_byte b ≡ false
    → tokens_from false line (b ∷ bytes)
    ≡ record { text = b ∷ []; line = line } ∷ tokens_from false line bytes
single_token line b bytes no_gap no_run =
    rw (tokens_step line b bytes no_gap, no_run, no_hash b no_gap, no_feed b line no_gap) refl

-- run bytes in front are one token, as many as there are
pub run_token : (line b : ℕ) (bytes : List ℕ) → is_run_byte b ≡ true
    → tokens_from false line (b ∷ bytes)
    ≡ record { text = take (prefix_len is_run_byte (b ∷ bytes)) (b ∷ bytes); line = line }
    ∷ tokens_from false line (drop (prefix_len is_run_byte (b ∷ bytes)) (b ∷ bytes))
run_token line b [] h =
    let no_gap = run_is_no_gap b h in
    rw (tokens_step line b [] no_gap, no_hash b no_gap, no_feed b line no_gap, h) refl
run_token line b (d ∷ bytes) h =
    let no_gap = run_is_no_gap b h in
    bool_cases (is_run_byte d)
    (λ more. rw (
      tokens_step line b (d ∷ bytes) no_gap,
      no_hash b no_gap,
      no_feed b line no_gap,
      one_more is_run_byte b (d ∷ bytes) h,
      run_token line d bytes more,
      h,
      more,
    )
    refl)
    (λ ends. rw
    (tokens_step line b (d ∷ bytes) no_gap, no_hash b no_gap, no_feed b line no_gap, h, ends) refl)

-- how long the first token is
abbrev pub token_length : List ℕ → ℕ
token_length bytes = max (prefix_len is_run_byte bytes) 1

-- what the first token takes
pub record TakesToken (line : ℕ) (bytes : List ℕ) : Type 0 where
  pub within : token_length bytes ≤ length bytes
  pub first : tokens_from false line bytes
      ≡ record { text = take (token_length bytes) bytes; line = line }
      ∷ tokens_from false line (drop (token_length bytes) bytes)
  pub no_feed : count_by is_line_feed (drop (token_length bytes) bytes)
      ≡ count_by is_line_feed bytes

feed_free : (b : ℕ) → is_gap false b ≡ false → is_line_feed b ≡ false
feed_free b h =
    (or_parts (eqb b 13) (eqb b 10) (or_parts _ _ (or_parts (is_blank b) (eqb b 35) h).0).1).1

run_has_no_feed : (bytes : List ℕ)
    → count_by is_line_feed (drop (prefix_len is_run_byte bytes) bytes)
    ≡ count_by is_line_feed bytes
run_has_no_feed [] = refl
run_has_no_feed (b ∷ bytes) =
    bool_cases (is_run_byte b)
    (λ run.
    rw (one_more is_run_byte b bytes run, feed_free b (run_is_no_gap b run), run_has_no_feed bytes) refl)
    (λ other. rw other refl)

-- at a token, the scanner takes that token and leaves the rest
pub takes_token : (line : ℕ) (bytes : List ℕ) → 0 < length bytes → StandsAtToken bytes
    → TakesToken line bytes
takes_token line [] some stands = absurd (omega arith)
takes_token line (b ∷ bytes) some stands =
    bool_cases (is_run_byte b)
    (λ run. let long : max (prefix_len is_run_byte (b ∷ bytes)) 1
    ≡ prefix_len is_run_byte (b ∷ bytes) = omega (arith, one_more is_run_byte b bytes run) in
    record {
      within = rw long (prefix_len-le-length is_run_byte (b ∷ bytes));
      first = rw long
          (run_token line b bytes run);
      no_feed = rw long (run_has_no_feed (b ∷ bytes));
    })
    (λ other. let none : prefix_len is_run_byte (b ∷ bytes) ≡ 0 = rw other refl in
    let long : max (prefix_len is_run_byte (b ∷ bytes)) 1 ≡ 1 = rw none refl in
    record {
      within = rw long (omega arith);
      first = rw long (single_token line b bytes stands other);
      no_feed = rw (long, feed_free b stands) refl;
    })

-- the same at the length that the scanner found
pub token_found : (line : ℕ) (bytes : List ℕ) (run n : ℕ) (empty : Bool)
    → empty ≡ eqb (length bytes) 0
    → empty ≡ false
    → StandsAtToken bytes
    → run ≡ prefix_len is_run_byte bytes
    → n ≡ max run 1
    → (n ≤ length bytes)
    × (tokens_from false line bytes
    ≡ record { text = take n bytes; line = line } ∷ tokens_from false line (drop n bytes))
    × (count_by is_line_feed (drop n bytes) ≡ count_by is_line_feed bytes)
token_found line bytes run n empty empty_is not_empty stands run_is n_is =
    let some : 0 < length bytes =
    omega (arith, false-eqb (length bytes) 0 (sym not_empty ∙ empty_is)) in
    let found = takes_token line bytes some stands in
    let same : n ≡ token_length bytes = n_is ∙ ap (λ (k : ℕ). max k 1) run_is in
    (rw same found.within, rw same found.first, rw same found.no_feed)

run_bytes_alone : (bytes : List ℕ)
    → list_all is_run_byte (take (prefix_len is_run_byte bytes) bytes) ≡ true
run_bytes_alone [] = refl
run_bytes_alone (b ∷ bytes) =
    bool_cases (is_run_byte b)
    (λ run. rw (one_more is_run_byte b bytes run, run, run_bytes_alone bytes) refl)
    (λ other. rw other refl)

first_is_run : (bytes : List ℕ) → 0 < length bytes
    → ltb 0 (prefix_len is_run_byte bytes) ≡ is_run (take (token_length bytes) bytes)
first_is_run [] some = absurd (omega arith)
first_is_run (b ∷ bytes) some =
    bool_cases (is_run_byte b)
    (λ run. let long : token_length (b ∷ bytes) ≡ suc (prefix_len is_run_byte bytes) =
    omega (arith, one_more is_run_byte b bytes run) in
    let further = prefix_len is_run_byte bytes in
    let size : length (take (suc further) (b ∷ bytes)) ≡ suc (length (take further bytes)) = refl in
    let full : eqb (length (take (suc further) (b ∷ bytes))) 0 ≡ false =
    ne_eqb (length (take (suc further) (b ∷ bytes))) 0 (λ none. omega (arith, size, none)) in
    let one : ltb 0 (prefix_len is_run_byte (b ∷ bytes)) ≡ true =
    lt-ltb 0 (prefix_len is_run_byte (b ∷ bytes)) (omega (arith, one_more is_run_byte b bytes run)) in
    rw (one, long, full, run, run_bytes_alone bytes) refl)
    (λ other. let none : prefix_len is_run_byte (b ∷ bytes) ≡ 0 = rw other refl in
    let long : token_length (b ∷ bytes) ≡ 1 = rw none refl in
    rw (long, none, other) refl)

-- whether the first token is a run is known from its length
pub run_told : (bytes : List ℕ) (run n : ℕ) (empty : Bool)
    → empty ≡ eqb (length bytes) 0
    → empty ≡ false
    → run ≡ prefix_len is_run_byte bytes
    → n ≡ max run 1
    → ltb 0 run ≡ is_run (take n bytes)
run_told bytes run n empty empty_is not_empty run_is n_is =
    let some : 0 < length bytes =
    omega (arith, false-eqb (length bytes) 0 (sym not_empty ∙ empty_is)) in
    let same : n ≡ token_length bytes = n_is ∙ ap (λ (k : ℕ). max k 1) run_is in
    rw (same, run_is) (first_is_run bytes some)
