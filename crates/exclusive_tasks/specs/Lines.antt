-- What the lines of a log say: claims `exclusive PARENT LOCATION FIRST LAST`, and events `start THREAD
-- SEGMENT` and `finish THREAD SEGMENT`.
use Rattle.std.specs.Prelude.{ℕ, ◌-◌, ◌^◌, ◌<◌, ◌≡◌, ◌≢◌, List, [], ◌∷◌, length, flat_map, Option}
use Rattle.std.specs.Prelude.{Some, None, if◌then◌else◌, codes, slice_index_or}
use Rattle.std.specs.Str.{bytes_eq}
use Rattle.program_text.specs.PlainWords.{words_of, number_in_word}
use Rattle.exclusive_tasks.specs.declared.claim.Claim.{Claim}
use Rattle.exclusive_tasks.specs.declared.claim.Event.{Event}
use Rattle.exclusive_tasks.specs.declared.claim.Event.TheVariants.{Start, Finish}
use Rattle.exclusive_tasks.specs.declared.line.Said.{Said}
use Rattle.exclusive_tasks.specs.declared.line.Said.TheVariants as said
use Rattle.exclusive_tasks.specs.declared.log.Reading.{Reading}
use Rattle.exclusive_tasks.specs.declared.log.Reading.TheVariants.{Log, BadForm}

-- the number of a thread, a segment, a task or a location
abbrev pub number_said : List ℕ → Option ℕ
number_said word = number_in_word (2 ^ 32 - 1) word

abbrev pub event_of : List ℕ → Option ℕ → Option ℕ → Option Said
event_of verb (Some thread) (Some segment) =
    if bytes_eq verb (codes "start") then Some (said.Event (Start segment))
    else if bytes_eq verb (codes "finish") then Some (said.Event (Finish segment))
    else None
event_of verb _ _ = None

-- what happens to a segment, on whatever thread
abbrev pub event_said : (verb thread segment : List ℕ) → Option Said
event_said verb thread segment = event_of verb (number_said thread) (number_said segment)

abbrev pub claim_of : Option ℕ → Option ℕ → Option ℕ → Option ℕ → Option Said
claim_of (Some parent) (Some location) (Some first) (Some last) = Some (said.Claim
    (record { parent = parent; location = location; first = first; last = last }))
claim_of _ _ _ _ = None

abbrev pub claim_said : (parent location first last : List ℕ) → Option Said
claim_said parent location first last =
    claim_of (number_said parent) (number_said location) (number_said first) (number_said last)

-- what words say, if anything
abbrev pub words_say : List (List ℕ) → Option Said
words_say [] = Some said.Blank
words_say (a ∷ []) = None
words_say (a ∷ b ∷ []) = None
words_say (verb ∷ thread ∷ segment ∷ []) = event_said verb thread segment
words_say (a ∷ b ∷ c ∷ d ∷ []) = None
words_say (a ∷ b ∷ c ∷ d ∷ e ∷ []) =
    if bytes_eq a (codes "exclusive") then claim_said b c d e else None
words_say (a ∷ b ∷ c ∷ d ∷ e ∷ f ∷ rest) = None

abbrev pub line_says : List ℕ → Option Said
line_says line = words_say (words_of line)

-- what the line with this index from 0 says
abbrev pub says : List (List ℕ) → ℕ → Option Said
says lines i = line_says (slice_index_or lines i [])

-- the claim of a line, if it has one
abbrev pub claims_in : Option Said → List Claim
claims_in None = []
claims_in (Some said.Blank) = []
claims_in (Some (said.Claim claim)) = claim ∷ []
claims_in (Some (said.Event event)) = []

abbrev pub events_in : Option Said → List Event
events_in None = []
events_in (Some said.Blank) = []
events_in (Some (said.Claim claim)) = []
events_in (Some (said.Event event)) = event ∷ []

-- the claims and the events of lines, in their order
abbrev pub claims_told : List (List ℕ) → List Claim
claims_told lines = flat_map (λ line. claims_in (line_says line)) lines

abbrev pub events_told : List (List ℕ) → List Event
events_told lines = flat_map (λ line. events_in (line_says line)) lines

-- each line before this one says something
abbrev pub AreRightBefore : List (List ℕ) → ℕ → Type 0
AreRightBefore lines i = (j : ℕ) → j < i → says lines j ≢ None

-- the first line that says nothing that a line can say
pub record IsFirstWrong (lines : List (List ℕ)) (i : ℕ) : Type 0 where
  pub inside : i < length lines
  pub right : AreRightBefore lines i
  pub wrong : says lines i ≡ None

-- all lines are right, and have these claims and events
pub record Tells (lines : List (List ℕ)) (claims : List Claim) (events : List Event) : Type 0 where
  pub right : AreRightBefore lines (length lines)
  pub each_claim : claims ≡ claims_told lines
  pub each_event : events ≡ events_told lines

abbrev pub IsReading : List (List ℕ) → Reading → Type 0
IsReading lines (Log log) = Tells lines log.claims.items log.events.items
IsReading lines (BadForm line) = IsFirstWrong lines line
