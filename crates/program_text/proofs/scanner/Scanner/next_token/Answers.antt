use Rattle.std.proofs.Common.{◌≡◌, ◌∙◌, length, sym, arith, eqb-true}
use Rattle.program_text.proofs.Scanning.{no_tokens, run_told, token_found}
use Rattle.program_text.proofs.scanner.Scanner.next_token.Goals as goal

pub returns-then-is_empty-clause-first : goal.returns-then-is_empty-clause-first
returns-then-is_empty-clause-first c =
    let empty : length c.skip_gap.new.self.rest.now ≡ 0 =
    eqb-true _ _ (sym c.is_empty.ensures ∙ c.if-is_empty.true) in
    sym c.skip_gap.ensures.same ∙ no_tokens _ _ _ (omega arith)

pub split_at-requires : goal.split_at-requires
split_at-requires c =
    (token_found 1 _ _ _ _ c.is_empty.ensures c.if-is_empty.false c.skip_gap.ensures.stops
    c.run_length-run.ensures c.max-length.ensures).0

pub returns-clause-first : goal.returns-clause-first
returns-clause-first c =
    let found = token_found c.skip_gap.new.self.line _ _ _ _ c.is_empty.ensures c.if-is_empty.false
    c.skip_gap.ensures.stops c.run_length-run.ensures c.max-length.ensures in
    rw (c.split_at.ensures.front, c.split_at.ensures.back) (sym c.skip_gap.ensures.same ∙ found.1)

pub returns-clause-line : goal.returns-clause-line
returns-clause-line c =
    let found = token_found c.skip_gap.new.self.line _ _ _ _ c.is_empty.ensures c.if-is_empty.false
    c.skip_gap.ensures.stops c.run_length-run.ensures c.max-length.ensures in
    rw (c.split_at.ensures.back, found.2) c.skip_gap.ensures.line

pub invariant_of-result : goal.invariant_of-result
invariant_of-result c =
    let told = run_told _ _ _ _ c.is_empty.ensures c.if-is_empty.false c.run_length-run.ensures
    c.max-length.ensures in
    record { run_is_told = rw c.split_at.ensures.front told; number_is_told = c.is_number.ensures }
