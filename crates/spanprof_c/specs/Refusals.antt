-- Why a call is not answered, and the number and the line that say so.
use Rattle.std.specs.Prelude.{ℕ, ◌≡◌, ◌≢◌, ◌<◌, ◌⊎◌, List, Contains, length, sum}
use Rattle.greedy_sim.specs.declared.greedy.TheConstants.{MOST_THREADS}
use Rattle.program_text.specs.declared.fault.ReadKind.{ReadKind}
use Rattle.program_text.specs.declared.fault.ReadKind.TheVariants as kind
use Rattle.program_text.specs.declared.limits.TheConstants.{MOST_WORK}
use Rattle.spanprof_c.specs.declared.refusal.Refusal.{Refusal}
use Rattle.spanprof_c.specs.declared.refusal.Refusal.TheVariants as refusal
use Rattle.spanprof_c.specs.Programs.{IsFaultOf, OfText, Source}
use Rattle.spanprof_c.specs.declared.told.Place.{Place}

-- what a call is asked about: a text, the costs that are given, a number of threads, and the lengths
-- of the lists to be filled with one number for each segment
pub record Asked : Type 0 where
  pub from : Source
  pub given : List ℕ
  pub threads : ℕ
  pub lengths : List ℕ

abbrev pub asked : Source → List ℕ → ℕ → List ℕ → Asked
asked from given threads
    lengths = record { from = from; given = given; threads = threads; lengths = lengths }

-- costs are given, and not one for each of so many segments
pub record IsCostCount (given : List ℕ) (count : ℕ) : Type 0 where
  pub some : 0 < length given
  pub other : length given ≢ count

-- a list to be filled has not one place for each of so many segments
pub record IsWrongLength (lengths : List ℕ) (count : ℕ) : Type 0 where
  pub wrong : ℕ
  pub is_length : Contains lengths wrong
  pub other : wrong ≢ count

-- it is not one of the numbers of threads that a greedy run can have
abbrev pub IsOutOfRange : ℕ → Type 0
IsOutOfRange threads = (threads < 1) ⊎ (MOST_THREADS < threads)

-- this is a reason not to answer
abbrev pub IsRefused : Asked → Refusal → Type 0
IsRefused ask (refusal.Text what line) =
    IsFaultOf ask.from.any_size ask.from.text (record { kind = what; line = line })
IsRefused ask refusal.ThreadCount = IsOutOfRange ask.threads
IsRefused ask refusal.CostCount =
    OfText ask.from (λ table. IsCostCount ask.given (length table.segments))
IsRefused ask refusal.CostsTooLarge = MOST_WORK < sum ask.given
IsRefused ask refusal.WrongLength =
    OfText ask.from (λ table. IsWrongLength ask.lengths (length table.segments))
IsRefused ask refusal.OutOfMemory = Unit {0}

-- ---- numbers

abbrev pub kind_number : ReadKind → ℕ
kind_number kind.TooLong = 1
kind_number kind.BadHeader = 2
kind_number kind.BadByte = 3
kind_number kind.BadWord = 4
kind_number kind.BadNumber = 5
kind_number kind.Unclosed = 6
kind_number kind.Unopened = 7
kind_number kind.TooDeep = 8
kind_number kind.TooManyTasks = 9
kind_number kind.TooManySegments = 10
kind_number kind.TooManyItems = 11
kind_number kind.WorkTooLarge = 12
kind_number kind.OutOfMemory = 13
kind_number kind.TooManyTurns = 14

abbrev pub number_of : Refusal → ℕ
number_of (refusal.Text what line) = kind_number what
number_of refusal.OutOfMemory = 13
number_of refusal.ThreadCount = 15
number_of refusal.CostCount = 16
number_of refusal.CostsTooLarge = 17
number_of refusal.WrongLength = 18

-- a line of a text, and no segment
abbrev pub on_line : ℕ → Place
on_line line = record { line = line; segment = 0; other = 0 }

-- no place at all: what is written along with an answer
abbrev pub nowhere : Place
nowhere = on_line 0

-- the line of a text's fault, and else nothing
abbrev pub place_of : Refusal → Place
place_of (refusal.Text what line) = on_line line
place_of _ = on_line 0

-- a number and a place say why a call is not answered
pub record TellsWhy (ask : Asked) (number : ℕ) (place : Place) : Type 0 where
  pub why : Refusal
  pub is_why : IsRefused ask why
  pub is_number : number ≡ number_of why
  pub is_place : place ≡ place_of why

-- the number says why there are no bounds: of the number of threads, or of the work and the span
abbrev pub RefusesBounds : ℕ → ℕ → ℕ → ℕ → Type 0
RefusesBounds work span threads number =
    ((number ≡ 15) × IsOutOfRange threads)
    ⊎ ((number ≡ 17) × ((MOST_WORK < work) ⊎ (work < span)))
