-- Carried out: the parts of the reader of version 2 as a state of the first pass, and what it does
-- with a token.
use Rattle.std.specs.Prelude.{Result}
use Rattle.program_text.specs.Answers.{Gives}
use Rattle.program_text.specs.ScannerSeen.{token_seen}
use Rattle.program_text.specs.declared.fault.ReadFault.{ReadFault}
use Rattle.program_text.specs.declared.scanner.Token.{Token}
use Rattle.loop_text.specs.declared.loop_place.LoopPlace.{LoopPlace}
use Rattle.loop_text.specs.declared.loop_reader.LoopReader.{LoopReader}
use Rattle.loop_text.specs.FirstPass.{State, place_step}

abbrev pub loop_state_of : LoopReader → LoopPlace → State
loop_state_of reader place = record {
  place = place;
  word_line = reader.word_line;
  head = reader.head;
  pending = reader.pending;
  bounds = reader.bounds;
  tree = reader.tree;
}

-- the token at this place took the reader to its next place, or is at fault
abbrev pub StepsAt : LoopPlace → Token → (old new : LoopReader) → Result LoopPlace ReadFault → Type 0
StepsAt place token old new next =
    Gives (loop_state_of new) next (place_step (loop_state_of old place) (token_seen token))
