-- The rows of a table of faults, none of which is out of memory.
use Rattle.std.proofs.Common.{◌≡◌, Bool, true, false, cond, Option, Some, None, refl, sym, ap, ◌∙◌}
use Rattle.program_text.specs.declared.fault.ReadKind.{ReadKind}
use Rattle.program_text.specs.Answers.{is_memory}

-- a row of a table whose own fault is another than out of memory
pub row_no_memory : (b : Bool) (k kind : ReadKind) (rest : Option ReadKind)
    → is_memory k ≡ false
    → (rest ≡ Some kind → is_memory kind ≡ false)
    → cond b (Some k) rest ≡ Some kind
    → is_memory kind ≡ false
row_no_memory true k kind rest own other h =
    let same : k ≡ kind = cc in ap is_memory (sym same) ∙ own
row_no_memory false k kind rest own other h = other h

abbrev pub none_of : Option ReadKind
none_of = None

pub no_row : (kind : ReadKind) → none_of ≡ Some kind → is_memory kind ≡ false
no_row kind h = absurd cc

-- no row of a table gives a fault: its first test fails, and the rows below give none either
pub row_passed : (b : Bool) (kind : ReadKind) (others : Option ReadKind)
    → cond b (Some kind) others ≡ None
    → (b ≡ false) × (others ≡ None)
row_passed true kind others h = absurd cc
row_passed false kind others h = (refl, h)

-- and the other way round
pub row_passes : (b : Bool) (kind : ReadKind) (others : Option ReadKind)
    → b ≡ false
    → others ≡ None
    → cond b (Some kind) others ≡ None
row_passes b kind others fails none_below = rw fails none_below
