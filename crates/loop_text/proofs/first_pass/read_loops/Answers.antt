use Rattle.std.proofs.Common.{ap, subst, ◌∙◌, Result, ℕ}
use Rattle.std.proofs.lemmas.Result.{err_from_is_err_and}
use Rattle.program_text.specs.Answers.{Gives}
use Rattle.loop_text.specs.Loops.{Tree}
use Rattle.loop_text.specs.FirstPass.{first_pass, tree_or_fault, end_at}
use Rattle.program_text.specs.declared.fault.ReadFault.{ReadFault}
use Rattle.loop_text.specs.LoopReaderSeen.{loop_state_of}
use Rattle.program_text.specs.ScannerSeen.{tokens_left, end_line, token_seen}
use Rattle.loop_text.proofs.LoopReading.{goes_on, fails, ends}
use Rattle.loop_text.proofs.first_pass.read_loops.Goals as goal

pub returns-in_err-next : goal.returns-in_err-next
returns-in_err-next c =
    let fault = c.in_err-next.field-0.0 in
    let fails_so = fails (tokens_left c.tokens.scanner) (tokens_left c.next_token.new.self)
    (token_seen c.in-Some.token) (end_line c.tokens.scanner)
    (loop_state_of c.tokens.reader c.tokens.next) fault _ c.in-Some.ensures.first
    c.in_err-next.ensures c.tokens.invariant in
    let passed_on = err_from_is_err_and c.from_residual.result c.from_residual.ensures.1 in
    rw (passed_on.1, passed_on.2) fails_so

pub tokens-preserved : goal.tokens-preserved
tokens-preserved c =
    let one = c.in_ok-next.ensures in
    let later = tokens_left c.next_token.new.self in
    ap (λ line. first_pass later line (loop_state_of c.take.new.self c.in_ok-next.next))
    c.in-Some.ensures.line
    ∙ goes_on (tokens_left c.tokens.scanner) later (token_seen c.in-Some.token)
    (end_line c.tokens.scanner) (loop_state_of c.tokens.reader c.tokens.next)
    (loop_state_of c.take.new.self c.in_ok-next.next) _ c.in-Some.ensures.first one
    c.tokens.invariant

pub returns : goal.returns
returns c =
    let ended_so = ends (tokens_left c.tokens.scanner) (end_line c.tokens.scanner)
    (loop_state_of c.tokens.reader c.tokens.next) _ c.in_default.ensures.first c.tokens.invariant in
    let answer : ℕ → Result Tree ReadFault = λ line. tree_or_fault
    (end_at c.tokens.next c.tokens.reader.tree.blocks line)
    (loop_state_of c.tokens.reader c.tokens.next) in
    subst (λ (total : Result Tree ReadFault). Gives (λ body. body) c.finish.result total)
    (ap answer c.in_default.ensures.at_end ∙ ended_so) c.finish.ensures
