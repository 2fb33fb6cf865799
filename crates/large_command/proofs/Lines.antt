-- Lines of a text that comes in pieces.
use Rattle.std.proofs.Common.{◌≡◌, ◌+◌, ◌<◌, ◌≤◌, ◌∙◌, ℕ, Bool, true, false, not, cond, List}
use Rattle.std.proofs.Common.{[], ◌∷◌, ◌++◌, length, take, drop, reverse, count_by, arith, ap, sym}
use Rattle.std.proofs.Common.{refl, inl, inr, append_assoc, length-append, take-append-drop}
use Rattle.std.proofs.Common.{◌⊎◌, one-add, zero-add}
use Rattle.std.proofs.lemmas.Bool.{cases_lt}
use Rattle.std.proofs.lemmas.List.{length-reverse, reverse-append, reverse-reverse}
use Rattle.std.proofs.lemmas.List.Folds.{length-prefix_len}
use Rattle.std.proofs.lemmas.List.Sums.{count_by-le-length}
use Rattle.std.proofs.lemmas.List.Sums.{sum_by-append, sum_by-cons}
use Rattle.std.proofs.lemmas.List.Sorted.{IsPermutation-reverse, sum_by-IsPermutation}
use Rattle.std.specs.List.{prefix_len}
use Rattle.program_text.specs.Tokens.{is_line_feed}
use Rattle.large_text.specs.LargeTexts.{HasNoLineFeed}
use Rattle.large_command.specs.TextInput.{EndsInLine}

-- ---- cuts of a list

-- of two cuts of a list, the one that is further behind
pub record Further (a b c d : List ℕ) : Type 0 where
  pub between : List ℕ
  pub longer : a ≡ c ++ between
  pub rest : d ≡ between ++ b

pub further : (a b c d : List ℕ) → a ++ b ≡ c ++ d → length c ≤ length a → Further a b c d
further a b [] d same within = record { between = a; longer = refl; rest = sym same }
further [] b (x ∷ c) d same within = absurd (omega arith)
further (y ∷ a) b (x ∷ c) d same within =
    let tails : a ++ b ≡ c ++ d = cc in
    let h = further a b c d tails (omega arith) in
    let same_head : y ≡ x = cc in
    let longer = h.longer in
    record { between = h.between; longer = cc; rest = h.rest }

pub length_of : (whole front back : List ℕ) → whole ≡ front ++ back
    → length whole ≡ length front + length back
length_of whole front back is =
    ap (λ (bytes : List ℕ). length bytes) is ∙ length-append front back

pub cut_lengths : (a b c d : List ℕ) → a ++ b ≡ c ++ d
    → length a + length b ≡ length c + length d
cut_lengths a b c d same = sym (length-append a b) ∙ length_of (a ++ b) c d same

pub part_within : (whole front part back : List ℕ) → whole ≡ front ++ (part ++ back)
    → length part ≤ length whole
part_within whole front part back is =
    omega (arith, length_of whole front (part ++ back) is, length-append part back)

-- ---- the LF bytes of a list

pub feeds-append : (a b : List ℕ)
    → count_by is_line_feed (a ++ b) ≡ count_by is_line_feed a + count_by is_line_feed b
feeds-append a b = sum_by-append (λ byte. cond (is_line_feed byte) 1 0) a b

pub feeds_of : (whole front back : List ℕ) → whole ≡ front ++ back
    → count_by is_line_feed whole ≡ count_by is_line_feed front + count_by is_line_feed back
feeds_of whole front back is =
    ap (λ (bytes : List ℕ). count_by is_line_feed bytes) is ∙ feeds-append front back

feeds-cons : (b : ℕ) (bytes : List ℕ)
    → count_by is_line_feed (b ∷ bytes)
    ≡ cond (is_line_feed b) 1 0 + count_by is_line_feed bytes
feeds-cons b bytes = sum_by-cons (λ byte. cond (is_line_feed byte) 1 0) b bytes

one_more : (b : ℕ) (bytes : List ℕ) → is_line_feed b ≡ true
    → count_by is_line_feed (b ∷ bytes) ≡ 1 + count_by is_line_feed bytes
one_more b bytes feed =
    feeds-cons b bytes ∙ ap (λ (t : Bool). cond t 1 0 + count_by is_line_feed bytes) feed

no_more : (b : ℕ) (bytes : List ℕ) → is_line_feed b ≡ false
    → count_by is_line_feed (b ∷ bytes) ≡ count_by is_line_feed bytes
no_more b bytes other =
    feeds-cons b bytes
    ∙ ap (λ (t : Bool). cond t 1 0 + count_by is_line_feed bytes) other
    ∙ zero-add (count_by is_line_feed bytes)

-- ---- what stands before the first LF

abbrev pub is_inside : ℕ → Bool
is_inside byte = not (is_line_feed byte)

pub before_feed : (bytes : List ℕ) → HasNoLineFeed (take (prefix_len is_inside bytes) bytes)
before_feed [] = refl
before_feed (b ∷ bytes) = by (before_feed bytes) (is_line_feed b) refl
  where
    by : HasNoLineFeed (take (prefix_len is_inside bytes) bytes)
        → (feed : Bool) → is_line_feed b ≡ feed
        → HasNoLineFeed (take (prefix_len is_inside (b ∷ bytes)) (b ∷ bytes))
    by rest true is = rw is refl
    by rest false is =
        let n = prefix_len is_inside bytes in
        rw is (rw one-add (no_more b (take n bytes) is ∙ rest))

pub first_longest : (bytes line later : List ℕ) → bytes ≡ line ++ later → HasNoLineFeed line
    → length line ≤ prefix_len is_inside bytes
first_longest bytes [] later is none = omega arith
first_longest [] (x ∷ line) later is none = absurd cc
first_longest (b ∷ bytes) (x ∷ line) later is none =
    by (first_longest bytes line later cc) (is_line_feed x) refl
  where
    by : (HasNoLineFeed line → length line ≤ prefix_len is_inside bytes)
        → (feed : Bool) → is_line_feed x ≡ feed
        → length (x ∷ line) ≤ prefix_len is_inside (b ∷ bytes)
    by rest true feed = absurd (omega (arith, one_more x line feed, none))
    by rest false feed =
        let here : b ≡ x = cc in
        let within = rest (sym (no_more x line feed) ∙ none) in
        rw (here, feed) (omega (arith, within))

-- ---- what stands behind the last one

feeds-reverse : (bytes : List ℕ)
    → count_by is_line_feed (reverse bytes) ≡ count_by is_line_feed bytes
feeds-reverse bytes =
    sum_by-IsPermutation (λ byte. cond (is_line_feed byte) 1 0) bytes (reverse bytes)
    (IsPermutation-reverse bytes)

pub ends_in_line : (bytes : List ℕ) (count : ℕ) → count ≡ prefix_len is_inside (reverse bytes)
    → EndsInLine bytes count
ends_in_line bytes count is =
    let back = reverse bytes in
    let n = prefix_len is_inside back in
    let whole : bytes ≡ reverse (drop n back) ++ reverse (take n back) =
    sym (reverse-reverse bytes)
    ∙ ap reverse (sym (take-append-drop n back))
    ∙ reverse-append (take n back) (drop n back) in
    record {
      front = reverse (drop n back);
      line = reverse (take n back);
      all = whole;
      one_line = feeds-reverse (take n back) ∙ before_feed back;
      count_is = length-reverse (take n back) ∙ length-prefix_len is_inside back ∙ sym is;
      longest = λ before last all none.
          let turned : back ≡ reverse last ++ reverse before =
          ap reverse all ∙ reverse-append before last in
          let most = first_longest back (reverse last) (reverse before) turned
          (feeds-reverse last ∙ none) in
          omega (arith, most, is, length-reverse last);
    }

-- the last line begins in these bytes
pub line_begins : (text bytes : List ℕ) (last : ℕ) → EndsInLine bytes last → last < length bytes
    → EndsInLine (text ++ bytes) last
line_begins text bytes last h within = record {
  front = text ++ h.front;
  line = h.line;
  all = ap (λ (a : List ℕ). text ++ a) h.all ∙ sym (append_assoc text h.front h.line);
  one_line = h.one_line;
  count_is = h.count_is;
  longest = λ before end all none. by before end all none (cases_lt (length bytes) (length end));
}
  where
    by : (before end : List ℕ) → text ++ bytes ≡ before ++ end → HasNoLineFeed end
        → (length bytes < length end) ⊎ (length end ≤ length bytes)
        → length end ≤ last
    by before end all none (inl longer) =
        let sizes = cut_lengths text bytes before end all in
        let cut = further text bytes before end all (omega (arith, sizes, longer)) in
        let feeds = feeds_of end cut.between bytes cut.rest in
        let none_in : HasNoLineFeed bytes = omega (arith, none, feeds) in
        absurd (omega (arith, h.longest [] bytes refl none_in, within))
    by before end all none (inr short) =
        let sizes = cut_lengths text bytes before end all in
        let cut = further before end text bytes (sym all) (omega (arith, sizes, short)) in
        h.longest cut.between end cut.rest none

-- or it goes on
pub line_goes_on : (text bytes : List ℕ) (line last : ℕ) → EndsInLine text line
    → EndsInLine bytes last → length bytes ≤ last
    → EndsInLine (text ++ bytes) (line + length bytes)
line_goes_on text bytes line last g h all_of_it =
    let sizes = length_of bytes h.front h.line h.all in
    let feeds = feeds_of bytes h.front h.line h.all in
    let few = count_by-le-length is_line_feed h.front in
    let none_in : HasNoLineFeed bytes =
    omega (arith, sizes, feeds, few, h.count_is, all_of_it, h.one_line) in
    record {
      front = g.front;
      line = g.line ++ bytes;
      all = ap (λ (a : List ℕ). a ++ bytes) g.all ∙ append_assoc g.front g.line bytes;
      one_line = omega (arith, feeds-append g.line bytes, g.one_line, none_in);
      count_is = omega (arith, length-append g.line bytes, g.count_is);
      longest = λ before end all none. by before end all none
          (cases_lt (length bytes) (length end));
    }
  where
    by : (before end : List ℕ) → text ++ bytes ≡ before ++ end → HasNoLineFeed end
        → (length bytes < length end) ⊎ (length end ≤ length bytes)
        → length end ≤ line + length bytes
    by before end all none (inl longer) =
        let sizes = cut_lengths text bytes before end all in
        let cut = further text bytes before end all (omega (arith, sizes, longer)) in
        let feeds = feeds_of end cut.between bytes cut.rest in
        let most = g.longest before cut.between cut.longer (omega (arith, none, feeds)) in
        omega (arith, most, length_of end cut.between bytes cut.rest)
    by before end all none (inr short) = omega (arith, short)
