-- Texts that are too long, and the room of those that are not.
use Rattle.std.proofs.Common.{◌≡◌, ◌⊎◌, ◌+◌, ◌-◌, ◌<◌, ◌≤◌, ◌∙◌, ℕ, List, [], ◌∷◌, ◌++◌, length, take}
use Rattle.std.proofs.Common.{drop, reverse, subst, arith, ap, sym, refl, inl, inr, append_assoc, length-append}
use Rattle.std.proofs.Common.{append-nil, take-append-drop}
use Rattle.std.proofs.lemmas.Bool.{cases_lt}
use Rattle.std.proofs.lemmas.List.Folds.{length-prefix_len}
use Rattle.std.specs.List.{prefix_len}
use Rattle.large_text.specs.declared.limits.TheConstants.{LARGEST_LINE, LARGEST_PIECE, LARGEST_TEXT}
use Rattle.large_command.specs.declared.room.Room.{Room}
use Rattle.large_command.specs.declared.text_input.TheConstants.{PIECE}
use Rattle.large_command.specs.Lengths.{IsReadInTime, IsTooLong}
use Rattle.large_text.specs.LargeTexts.{FitsText, HasNoLineFeed}
use Rattle.large_command.specs.TextInput.{EndsInLine, HasRoom}
use Rattle.large_documents.proofs.Handing.{fits_front}
use Rattle.large_command.proofs.Lines.{Further, before_feed, cut_lengths, feeds-append, feeds_of}
use Rattle.large_command.proofs.Lines.{first_longest, further, is_inside, length_of, part_within}
use Rattle.large_command.proofs.Lines.{ends_in_line, line_begins, line_goes_on}

-- ---- the bytes that come next

pub fits_none : FitsText []
fits_none = record {
  short = omega arith;
  lines = λ front line later all none. omega (arith, part_within [] front line later all);
}

pub has_all_room : HasRoom [] (record { left = LARGEST_TEXT; line = 0 })
has_all_room = record {
  fits = fits_none;
  bytes_left = omega arith;
  last_line = record {
    front = [];
    line = [];
    all = refl;
    one_line = refl;
    count_is = refl;
    longest = λ before last all none. omega (arith, length_of [] before last all);
  };
}

-- a line that begins in a text and ends in what follows
goes_over : (text bytes front one later : List ℕ) (line : ℕ)
    → EndsInLine text line
    → line + prefix_len is_inside bytes ≤ LARGEST_LINE
    → (first : List ℕ) → text ≡ front ++ first
    → Further one later first bytes
    → HasNoLineFeed one
    → length one ≤ LARGEST_LINE
goes_over text bytes front one later line last goes_on first is cut none =
    let feeds = feeds_of one first cut.between cut.longer in
    let most = last.longest front first is (omega (arith, feeds, none)) in
    let more = first_longest bytes cut.between later cut.rest (omega (arith, feeds, none)) in
    omega (arith, most, more, goes_on, length_of one first cut.between cut.longer)

-- each line of a text and what follows lies in the one or the other, or goes on from the one
fits_more : (text bytes : List ℕ) (line : ℕ)
    → FitsText text
    → EndsInLine text line
    → length text + length bytes ≤ LARGEST_TEXT
    → length bytes ≤ LARGEST_LINE
    → line + prefix_len is_inside bytes ≤ LARGEST_LINE
    → FitsText (text ++ bytes)
fits_more text bytes line h last room within goes_on = record {
  short = omega (arith, length-append text bytes, room);
  lines = λ front one later all none.
      elim (cases_lt (length text) (length front + length one)) [
        | inr ends_before ↦
            let grouped : text ++ bytes ≡ (front ++ one) ++ later =
            all ∙ sym (append_assoc front one later) in
            let cut = further text bytes (front ++ one) later grouped
            (omega (arith, ends_before, length-append front one)) in
            h.lines front one cut.between
            (cut.longer ∙ append_assoc front one cut.between) none
        | inl ends_behind ↦ elim (cases_lt (length front) (length text)) [
          | inr begins_behind ↦
              let cut = further front (one ++ later) text bytes (sym all) begins_behind in
              omega (arith, part_within bytes cut.between one later cut.rest, within)
          | inl begins_before ↦
              let cut = further text bytes front (one ++ later) all (omega arith) in
              let size = length_of text front cut.between cut.longer in
              goes_over text bytes front one later line last goes_on cut.between cut.longer
              (further one later cut.between bytes cut.rest (omega (arith, size, ends_behind)))
              none
        ]
      ];
}

pub has_room : (text bytes : List ℕ) (old new : Room)
    → HasRoom text old
    → length bytes ≤ LARGEST_PIECE
    → length bytes ≤ old.left
    → old.line + prefix_len is_inside bytes ≤ LARGEST_LINE
    → new.left ≡ old.left - length bytes
    → (EndsInLine text old.line → EndsInLine (text ++ bytes) new.line)
    → HasRoom (text ++ bytes) new
has_room text bytes old new h piece room goes_on left ends = record {
  fits = fits_more text bytes old.line h.fits h.last_line (omega (arith, room, h.bytes_left))
      (omega (arith, piece)) goes_on;
  bytes_left = omega (arith, length-append text bytes, room, left, h.bytes_left);
  last_line = ends h.last_line;
}

pub has_long_line : (text bytes : List ℕ) (room : Room)
    → HasRoom text room
    → LARGEST_LINE < room.line + prefix_len is_inside bytes
    → IsTooLong (text ++ bytes)
has_long_line text bytes room h long =
    let first = take (prefix_len is_inside bytes) bytes in
    let rest = drop (prefix_len is_inside bytes) bytes in
    let end = h.last_line in
    inr (record {
      front = end.front;
      line = end.line ++ first;
      later = rest;
      all = ap (λ (a : List ℕ). a ++ bytes) end.all
          ∙ append_assoc end.front end.line bytes
          ∙ ap (λ (a : List ℕ). end.front ++ (end.line ++ a))
          (sym (take-append-drop (prefix_len is_inside bytes) bytes))
          ∙ ap (λ (a : List ℕ). end.front ++ a) (sym (append_assoc end.line first rest));
      one_line = omega (arith, feeds-append end.line first, end.one_line, before_feed bytes);
      longer = omega (
        arith,
        length-append end.line first,
        end.count_is,
        length-prefix_len is_inside bytes,
        long,
      );
    })

-- ---- what is read in time

pub is_in_time : (text : List ℕ) → FitsText text → IsReadInTime text
is_in_time text h = λ front later all long.
    fits_front front later (subst (λ (bytes : List ℕ). FitsText bytes) all h)

pub piece_in_time : (text piece : List ℕ) → FitsText text → length piece ≤ PIECE
    → IsReadInTime (text ++ piece)
piece_in_time text piece h small = λ front later all long.
    let sizes = cut_lengths text piece front later all in
    let cut = further text piece front later all (omega (arith, sizes, small, long)) in
    fits_front front cut.between (subst (λ (bytes : List ℕ). FitsText bytes) cut.longer h)

-- ---- laws

pub not_both : (text : List ℕ) → FitsText text → IsTooLong text → ⊥
not_both text h (inl many) = omega (arith, h.short, many)
not_both text h (inr long) =
    omega (arith, h.lines long.front long.line long.later long.all long.one_line, long.longer)

pub stays_too_long : (text later : List ℕ) → IsTooLong text → IsTooLong (text ++ later)
stays_too_long text later (inl many) = inl (omega (arith, many, length-append text later))
stays_too_long text later (inr long) = inr (record {
  front = long.front;
  line = long.line;
  later = long.later ++ later;
  all = ap (λ (a : List ℕ). a ++ later) long.all
      ∙ append_assoc long.front (long.line ++ long.later) later
      ∙ ap (λ (a : List ℕ). long.front ++ a) (append_assoc long.line long.later later);
  one_line = long.one_line;
  longer = long.longer;
})

-- the last line behind one byte more
line_after : (text : List ℕ) (b line : ℕ) → EndsInLine text line
    → (count : ℕ) × EndsInLine (text ++ b ∷ []) count
line_after text b line h =
    let last = prefix_len is_inside (reverse (b ∷ [])) in
    let end = ends_in_line (b ∷ []) last refl in
    elim (cases_lt last (length (b ∷ []))) [
      | inl begins ↦ (last, line_begins text (b ∷ []) last end begins)
      | inr goes_on ↦ (line + length (b ∷ []), line_goes_on text (b ∷ []) line last h end goes_on)
    ]

fits_or_not : (text rest : List ℕ) (room : Room) → HasRoom text room
    → FitsText (text ++ rest) ⊎ IsTooLong (text ++ rest)
fits_or_not text [] room h =
    inl (subst (λ (all : List ℕ). FitsText all) (sym (append-nil text)) h.fits)
fits_or_not text (b ∷ rest) room h =
    let piece = b ∷ [] in
    let grouped : (text ++ piece) ++ rest ≡ text ++ (b ∷ rest) = append_assoc text piece rest in
    let end = line_after text b room.line h.last_line in
    let next : Room = record { left = room.left - 1; line = end.0 } in
    let goes_on = λ (more : HasRoom (text ++ piece) next).
    fits_or_not (text ++ piece) rest next more in
    let stops = λ (long : IsTooLong (text ++ piece)). stays_too_long (text ++ piece) rest long in
    subst (λ (all : List ℕ). FitsText all ⊎ IsTooLong all) grouped
    (elim (cases_lt room.left (length piece)) [
      | inl many ↦ inr (stops (inl (omega (arith, length-append text piece, h.bytes_left, many))))
      | inr few ↦ elim (cases_lt LARGEST_LINE (room.line + prefix_len is_inside piece)) [
        | inl long ↦ inr (stops (has_long_line text piece room h long))
        | inr within ↦ goes_on (has_room text piece room next h (omega arith) few within refl
            (λ same. end.1))
      ]
    ])

pub fits_or_too_long : (text : List ℕ) → FitsText text ⊎ IsTooLong text
fits_or_too_long text = fits_or_not [] text (record { left = LARGEST_TEXT; line = 0 }) has_all_room
