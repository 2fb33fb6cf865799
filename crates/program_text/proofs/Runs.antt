-- A run is ASCII.
use Rattle.std.proofs.Common.{◌≡◌, ℕ, suc, zero, ◌<◌, true, not, length, List}
use Rattle.std.proofs.Common.{[], ◌∷◌, arith, eqb}
use Rattle.std.specs.List.{list_all}
use Rattle.std.specs.Str.{IsAscii}
use Rattle.std.proofs.lemmas.Bool.Decides.{nat_tests}
use Rattle.std.proofs.lemmas.Bool.{and_parts}
use Rattle.program_text.specs.Tokens.{is_run_byte}
use Rattle.program_text.specs.Words.{is_run}

byte_is_ascii : (b : ℕ) → is_run_byte b ≡ true → b < 128
byte_is_ascii b h = grind (arith, nat_tests)

bytes_are_ascii : (text : List ℕ) → list_all is_run_byte text ≡ true → IsAscii text
bytes_are_ascii [] h i = omega arith
bytes_are_ascii (b ∷ bytes) h zero =
    byte_is_ascii b (and_parts (is_run_byte b) (list_all is_run_byte bytes) h).0
bytes_are_ascii (b ∷ bytes) h (suc i) =
    bytes_are_ascii bytes (and_parts (is_run_byte b) (list_all is_run_byte bytes) h).1 i

pub run_is_ascii : (text : List ℕ) → is_run text ≡ true → IsAscii text
run_is_ascii text h =
    bytes_are_ascii text (and_parts (not (eqb (length text) 0)) (list_all is_run_byte text) h).1
