use Rattle.std.proofs.Common.{refl, ◌∙◌, ◌≢◌, ◌+◌, ◌++◌, ℕ, List, rules, false}
use Rattle.program_text.specs.declared.fault.ReadKind.TheVariants.{OutOfMemory}
use Rattle.program_text.specs.ScannerSeen.{token_seen}
use Rattle.program_text.specs.Tokens.{Token, tokens_from}
use Rattle.large_text.specs.LargeTrees.{IsLargeFirstFault}
use Rattle.large_text.specs.Measured.{MeasuresSoFar}
use Rattle.large_text.proofs.Measuring.{goes_first, goes_on, goes_still, goes_whole, stops_at}
use Rattle.large_text.proofs.measure.take_tokens.Goals as goal

pub tokens-init : goal.tokens-init
tokens-init c = (
  goes_first c.args.text.now c.args.lines c.new-scanner.result c.args.reader.now
      c.args.meter.now c.new-scanner.ensures.rest c.new-scanner.ensures.line,
  refl,
  refl,
)

pub take_token-requires : goal.take_token-requires
take_token-requires c =
    goes_still c.args.text.now c.args.lines c.tokens.scanner c.args.reader.now c.tokens.reader
    c.args.meter.now c.tokens.meter c.tokens.invariant.0 c.requires.taken

pub tokens-preserved : goal.tokens-preserved
tokens-preserved c = (
  goes_on c.args.text.now c.args.lines c.tokens.scanner c.next_token.new.self
      (token_seen c.in-Some.token) c.args.reader.now c.tokens.reader c.take_token.new.reader
      c.args.meter.now c.tokens.meter c.take_token.new.meter c.tokens.invariant.0
      c.in-Some.ensures.first c.in-Some.ensures.line c.in_ok-take_token.ensures.reads,
  c.take_token.ensures.rows ∙ c.tokens.invariant.1,
  c.take_token.ensures.text ∙ c.tokens.invariant.2,
)

pub returns-clause-reads : goal.returns-clause-reads
returns-clause-reads c =
    goes_whole c.args.text.now c.args.lines c.tokens.scanner c.args.reader.now c.tokens.reader
    c.args.meter.now c.tokens.meter c.tokens.invariant.0 c.in_default.ensures.first

pub returns-in_err-take_token-clause-refused : goal.returns-in_err-take_token-clause-refused
returns-in_err-take_token-clause-refused c =
    let fault = c.in_err-take_token.field-0.0 in
    let stops : fault.kind ≢ OutOfMemory → (before later : List Token) (end_line : ℕ)
    → MeasuresSoFar before c.args.reader.now c.args.meter.now
    → IsLargeFirstFault (before ++ (tokens_from false (c.args.lines + 1) c.args.text.now ++ later)) end_line fault =
    λ some. stops_at c.args.text.now c.args.lines c.tokens.scanner c.next_token.new.self
    (token_seen c.in-Some.token)
    c.args.reader.now c.tokens.reader c.args.meter.now c.tokens.meter fault c.tokens.invariant.0 c.in-Some.ensures.first
    (c.in_err-take_token.ensures.refused some) in
    search (stops, rules)
