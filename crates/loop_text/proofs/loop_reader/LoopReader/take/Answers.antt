use Rattle.std.proofs.Common.{◌∙◌, sym}
use Rattle.loop_text.specs.LoopReaderSeen.{loop_state_of}
use Rattle.program_text.specs.ScannerSeen.{token_seen}
use Rattle.loop_text.proofs.LoopSteps.{form_fails, form_passes}
use Rattle.loop_text.proofs.loop_reader.LoopReader.take.Goals as goal

pub returns-in-Some : goal.returns-in-Some
returns-in-Some c =
    form_fails (loop_state_of c.args.self.now c.args.place) (token_seen c.args.token) c.in-Some.kind
    _ (sym c.loop_form_fault.ensures ∙ c.in-Some.is) c.fault.ensures

pub returns : goal.returns
returns c =
    rw
    (form_passes (loop_state_of c.args.self.now c.args.place) (token_seen c.args.token)
    (sym c.loop_form_fault.ensures ∙ c.in_default.is))
    c.take_formed.ensures
