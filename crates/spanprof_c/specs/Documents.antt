-- What is answered about a certificate, and why it does not hold.
use Rattle.std.specs.Prelude.{ℕ, ◌≡◌, ◌⊎◌, Bool, List, [], Option, None, Some}
use Rattle.program_text.specs.Document.{program_part, rest_part}
use Rattle.span_cert.specs.Acceptance.{AcceptsOf, RefusesOf}
use Rattle.task_segments.specs.Table.{Table}
use Rattle.spanprof_c.specs.Programs.{OfText, Source, source}
use Rattle.span_cert.specs.declared.checker.Checked.{Checked}
use Rattle.span_cert.specs.declared.fault.CheckFault.{CheckFault}
use Rattle.span_cert.specs.declared.fault.CheckFault.TheVariants as test
use Rattle.spanprof_c.specs.Refusals.{TellsWhy, asked, kind_number, on_line}
use Rattle.spanprof_c.specs.Runs.{at_segments}
use Rattle.spanprof_c.specs.declared.told.Certified.{Certified}
use Rattle.spanprof_c.specs.declared.told.Place.{Place}

abbrev pub checked_told : Certified → Checked
checked_told told = record { segments = told.segments; ends_at = told.ends_at }

abbrev pub claim_number : CheckFault → ℕ
claim_number (test.BadProgram fault) = kind_number fault.kind
claim_number test.OutOfMemory = 13
claim_number test.BadForm = 25
claim_number test.WrongCount = 26
claim_number (test.Broken s t) = 27
claim_number test.EndWrong = 28
claim_number (test.ChainStep s t) = 29
claim_number test.ChainSum = 30

-- the line of a fault of the program, the pair of a test, and else nothing
abbrev pub claim_place : CheckFault → Place
claim_place (test.BadProgram fault) = on_line fault.line
claim_place (test.Broken s t) = at_segments s t
claim_place (test.ChainStep s t) = at_segments s t
claim_place _ = at_segments 0 0

-- the part after the divider is a claim that holds, and this is answered about it
abbrev pub AcceptsRest : Table → Option (List ℕ) → Checked → Type 0
AcceptsRest table None checked = ⊥
AcceptsRest table (Some text) checked = AcceptsOf table text checked

-- it is not, by the first test that fails; where there is no divider, there is no claim
abbrev pub RefusesRest : Table → Option (List ℕ) → CheckFault → Type 0
RefusesRest table None fault = fault ≡ test.BadForm
RefusesRest table (Some text) fault = RefusesOf table text fault

-- the program of a document
abbrev pub program_of_document : Bool → List ℕ → Source
program_of_document any_size document = source any_size (program_part document)

abbrev pub Certifies : Bool → List ℕ → Certified → Type 0
Certifies any_size document told = OfText (program_of_document any_size document)
    (λ table. AcceptsRest table (rest_part document) (checked_told told))

-- a number and a place say which is the first test that a document fails
pub record TellsTest (any_size : Bool) (document : List ℕ) (number : ℕ) (place : Place) : Type
    0 where
  pub fault : CheckFault
  pub is_fault : OfText (program_of_document any_size document)
      (λ table. RefusesRest table (rest_part document) fault)
  pub is_number : number ≡ claim_number fault
  pub is_place : place ≡ claim_place fault

-- or why its program is not read
abbrev pub TellsNoCertificate : Bool → List ℕ → ℕ → Place → Type 0
TellsNoCertificate any_size document number place =
    TellsWhy (asked (program_of_document any_size document) [] 1 []) number place
    ⊎ TellsTest any_size document number place
