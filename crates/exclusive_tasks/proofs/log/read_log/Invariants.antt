use Rattle.std.proofs.Common.{length, ◌≡◌, take}
use Rattle.program_text.specs.Document.{lines_of}
use Rattle.exclusive_tasks.specs.Lines.{AreRightBefore, claims_told, events_told}
use Rattle.exclusive_tasks.proofs.log.read_log.Given as goal

-- the lines so far are read
abbrev pub invariant-loop-line : goal.invariant-loop-line
invariant-loop-line l = record {
  count : l.number ≡ length l.yielded;
  right : AreRightBefore (lines_of l.text) l.number;
  claims : l.claims.items ≡ claims_told (take l.number (lines_of l.text));
  events : l.events.items ≡ events_told (take l.number (lines_of l.text));
}
