-- What a part of the reader answers, compared with what the definitions give: the same, unless memory ran
-- out.
use Rattle.std.specs.Prelude.{◌≡◌, Bool, true, false, MatchBool, Result, Ok, Err}
use Rattle.program_text.specs.declared.fault.ReadKind.{ReadKind}
use Rattle.program_text.specs.declared.fault.ReadKind.TheVariants.{OutOfMemory}
use Rattle.program_text.specs.declared.fault.ReadFault.{ReadFault}

abbrev pub is_memory : ReadKind → Bool
is_memory OutOfMemory = true
is_memory _ = false

-- out of memory has line 0
abbrev pub Fails : {Y : Type 0} → ReadFault → Result Y ReadFault → Type 0
Fails fault read = MatchBool (is_memory fault.kind) (fault.line ≡ 0) (read ≡ Err fault)

abbrev pub Gives : {X Y : Type 0} → (X → Y) → Result X ReadFault → Result Y ReadFault → Type 0
Gives view (Ok x) read = read ≡ Ok (view x)
Gives view (Err fault) read = Fails fault read
