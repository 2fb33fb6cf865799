use Rattle.std.proofs.Common.{◌≢◌, ◌+◌, ℕ, List, rules}
use Rattle.std.proofs.lemmas.Result.{IfErr-weaker, on_ok_weaker}
use Rattle.program_text.specs.declared.fault.ReadKind.TheVariants.{OutOfMemory}
use Rattle.program_text.specs.Tokens.{tokens_of, line_at_end}
use Rattle.large_text.specs.LargeTrees.{IsLargeFirstFault}
use Rattle.large_text.specs.PlainStreamed.{HasTakenPlain}
use Rattle.large_text.proofs.PlainStreaming.{told, fault_last, ends_early, ends_whole}
use Rattle.large_text.proofs.Memory.{line_of_first}
use Rattle.large_text.proofs.plain_stream.PlainMeter.end.Goals as goal

pub returns-in-Some-clause-refused : goal.returns-in-Some-clause-refused
returns-in-Some-clause-refused c = λ some text h.
    let self = c.args.self.now in
    told self.fault text self.tail.items (self.lines + 1) self.reader self.meter c.in-Some.fault
    c.in-Some.is h.taken (line_at_end 1 text)

pub returns-in_err-line-clause-refused : goal.returns-in_err-line-clause-refused
returns-in_err-line-clause-refused c =
    let self = c.args.self.now in
    let fault = c.in_err-line.field-0.0 in
    let stops : fault.kind ≢ OutOfMemory → (text : List ℕ) → HasTakenPlain text self
    → IsLargeFirstFault (tokens_of text) (line_at_end 1 text) fault =
    λ some text h. fault_last self.fault text self.tail.items c.as_slice.result.now
    (self.lines + 1) self.reader self.meter fault c.in_default.is c.as_slice.ensures.value h.taken
    (c.in_err-line.ensures.refused some) (line_at_end 1 text) in
    search (stops, rules)

pub returns-clause-refused : goal.returns-clause-refused
returns-clause-refused c =
    let self = c.args.self.now in
    IfErr-weaker c.finish.result _ _
    (λ fault early some text h. ends_early self.fault text self.tail.items c.as_slice.result.now
    (self.lines + 1) c.in_ok-line.line self.reader c.take_tokens.new.reader self.meter
    c.take_tokens.new.meter fault c.in_default.is c.as_slice.ensures.value h.taken
    c.in_ok-line.ensures.line c.in_ok-line.ensures.reads early) c.finish.ensures.early

pub returns-clause-measured : goal.returns-clause-measured
returns-clause-measured c =
    let self = c.args.self.now in
    on_ok_weaker c.finish.result
    (λ whole text h. ends_whole self.fault text self.tail.items c.as_slice.result.now
    (self.lines + 1) self.reader c.take_tokens.new.reader self.meter c.take_tokens.new.meter c.in_default.is
    c.as_slice.ensures.value h.taken c.in_ok-line.ensures.reads whole) c.finish.ensures.whole

pub returns-in-Some-clause-memory : goal.returns-in-Some-clause-memory
returns-in-Some-clause-memory c = λ is.
    let self = c.args.self.now in
    let text = c.requires.bytes in
    line_of_first (tokens_of text) 1 c.in-Some.fault
    (told self.fault text self.tail.items (self.lines + 1) self.reader self.meter c.in-Some.fault
    c.in-Some.is c.requires.taken.taken 1) is

pub returns-clause-memory : goal.returns-clause-memory
returns-clause-memory c =
    let self = c.args.self.now in
    let text = c.requires.bytes in
    IfErr-weaker c.finish.result _ _
    (λ fault early. line_of_first (tokens_of text) (line_at_end 1 text) fault
    (ends_early self.fault text self.tail.items c.as_slice.result.now (self.lines + 1)
    c.in_ok-line.line self.reader c.take_tokens.new.reader self.meter c.take_tokens.new.meter fault
    c.in_default.is c.as_slice.ensures.value c.requires.taken.taken c.in_ok-line.ensures.line
    c.in_ok-line.ensures.reads early)) c.finish.ensures.early
