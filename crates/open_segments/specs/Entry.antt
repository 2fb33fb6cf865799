-- Carried out: what stands at a place of a list of options, if anything.
use Rattle.std.specs.Prelude.{ℕ, List, Option, slice_get}
use Rattle.std.specs.Option.{option_flatten}

abbrev pub entry : List (Option ℕ) → ℕ → Option ℕ
entry list at = option_flatten (slice_get list at)
