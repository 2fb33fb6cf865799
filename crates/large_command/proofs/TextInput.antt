-- An input that is taken piece by piece.
use Rattle.std.proofs.Common.{◌≡◌, ◌+◌, ◌<◌, ◌≤◌, ◌++◌, ℕ, List, [], length, take, Option, arith}
use Rattle.std.proofs.Common.{ap, append-nil, subst, sym, ◌∙◌}
use Rattle.std.proofs.lemmas.List.{length-append, length-take, length-take-le}
use Rattle.std.proofs.KnownBytes.{Consumes-trans}
use Rattle.std.specs.Io.KnownBytes.{Consumes}
use Rattle.counted_io.specs.Input.{ConsumesAtMost}
use Rattle.large_text.specs.LargeTexts.{FitsText}
use Rattle.large_text.specs.Streamed.{HasTaken}
use Rattle.large_text.specs.declared.limits.TheConstants.{LARGEST_LINE, LARGEST_TEXT}
use Rattle.large_text.specs.declared.stream.TextMeter.{TextMeter}
use Rattle.large_command.specs.Lengths.{IsTooLong}
use Rattle.large_command.specs.TextInput.{HasRoom, ReadsTooLong}
use Rattle.large_command.specs.declared.room.Room.{Room}
use Rattle.large_command.specs.declared.text_input.TheConstants.{PIECE}
use Rattle.large_command.proofs.Lengths.{piece_in_time}

-- of what was read so far this holds, and so much room is left behind it
pub record IsTaken (before after : Option (List ℕ)) (room : Room) (Holds : List ℕ → Type 0) : Type 0
  where
    pub text : List ℕ
    pub read : Consumes before after text
    pub has_room : HasRoom text room
    pub taken : Holds text

-- a meter has taken it
abbrev pub IsMetered : TextMeter → List ℕ → Type 0
IsMetered text_meter bytes = HasTaken bytes text_meter

-- it is kept
abbrev pub IsKept : List ℕ → List ℕ → Type 0
IsKept document bytes = document ≡ bytes

-- what a line still may have can be said
pub line_fits : (before after : Option (List ℕ)) (room : Room) (Holds : List ℕ → Type 0)
    → IsTaken before after room Holds
    → room.line ≤ LARGEST_LINE
line_fits before after room Holds h =
    let end = h.has_room.last_line in
    omega (
      arith,
      end.count_is,
      h.has_room.fits.lines end.front end.line []
          (end.all ∙ ap (λ (a : List ℕ). end.front ++ a) (sym (append-nil end.line))) end.one_line,
    )

-- a piece more
pub is_taken : (before middle after : Option (List ℕ)) (old new : Room) (piece read : List ℕ)
    (Held Holds : List ℕ → Type 0)
    → IsTaken before middle old Held
    → Consumes middle after read
    → piece ≡ read
    → ((text : List ℕ) → HasRoom text old → HasRoom (text ++ piece) new)
    → ((text : List ℕ) → FitsText (text ++ piece) → Held text → Holds (text ++ piece))
    → IsTaken before after new Holds
is_taken before middle after old new piece read Held Holds h second is goes_on takes =
    let room = goes_on h.text h.has_room in
    record {
      text = h.text ++ piece;
      read = Consumes-trans before middle after h.text piece h.read
          (subst (λ (bytes : List ℕ). Consumes middle after bytes) (sym is) second);
      has_room = room;
      taken = takes h.text room.fits h.taken;
    }

-- a piece that may be one byte too long
pub as_many_more : (before middle after : Option (List ℕ)) (room : Room) (taken : ℕ)
    (buffer : List ℕ) (Holds : List ℕ → Type 0)
    → IsTaken before middle room Holds
    → Consumes middle after (take taken buffer)
    → taken ≤ room.left + 1
    → ConsumesAtMost (LARGEST_TEXT + 1) before after
as_many_more before middle after room taken buffer Holds h second few =
    let piece = take taken buffer in (
      h.text ++ piece,
      Consumes-trans before middle after h.text piece h.read second,
      omega (
        arith,
        h.has_room.bytes_left,
        few,
        length-append h.text piece,
        length-take taken buffer,
      ),
    )

-- behind a piece there is less room than before it
pub has_less_room : (before after : Option (List ℕ)) (room rest : Room) (taken : ℕ)
    (buffer piece : List ℕ) (Holds : List ℕ → Type 0)
    → IsTaken before after room Holds
    → piece ≡ take taken buffer
    → taken ≤ length buffer
    → 0 < taken
    → ((text : List ℕ) → HasRoom text room → HasRoom (text ++ piece) rest)
    → rest.left < room.left
has_less_room before after room rest taken buffer piece Holds h is within some left =
    omega (
      arith,
      h.has_room.bytes_left,
      (left h.text h.has_room).bytes_left,
      length-append h.text piece,
      ap (λ (bytes : List ℕ). length bytes) is,
      length-take-le taken buffer within,
      some,
    )

pub reads_too_long : (before middle after : Option (List ℕ)) (room : Room) (taken : ℕ)
    (buffer piece : List ℕ) (Holds : List ℕ → Type 0)
    → IsTaken before middle room Holds
    → Consumes middle after (take taken buffer)
    → piece ≡ take taken buffer
    → taken ≤ room.left + 1
    → taken ≤ PIECE
    → ((text : List ℕ) → HasRoom text room → IsTooLong (text ++ piece))
    → ReadsTooLong before after
reads_too_long before middle after room taken buffer piece Holds h second is few small too_long =
    let read : Consumes middle after piece =
    subst (λ (bytes : List ℕ). Consumes middle after bytes) (sym is) second in
    record {
      text = h.text ++ piece;
      read = Consumes-trans before middle after h.text piece h.read read;
      most = omega (
        arith,
        h.has_room.bytes_left,
        few,
        length-append h.text piece,
        length-take taken buffer,
        ap (λ (bytes : List ℕ). length bytes) is,
      );
      too_long = too_long h.text h.has_room;
      in_time = piece_in_time h.text piece h.has_room.fits (omega (
        arith,
        small,
        length-take taken buffer,
        ap (λ (bytes : List ℕ). length bytes) is,
      ));
    }
