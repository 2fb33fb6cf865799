use Rattle.std.proofs.Common.{◌≢◌, subst, sym}
use Rattle.program_text.specs.ScannerSeen.{tokens_left, end_line}
use Rattle.program_text.specs.declared.fault.ReadFault.{ReadFault}
use Rattle.program_text.specs.declared.fault.ReadKind.TheVariants.{OutOfMemory}
use Rattle.loop_text.specs.Loops.{Tree}
use Rattle.large_text.specs.LoopMarked.{IsRefusedWith}
use Rattle.large_text.specs.LoopTallied.{HasLoopFaultOf, TalliesTree}
use Rattle.large_text.proofs.LoopTallying.{expansion_refused, tokens_refused, whole_tree}
use Rattle.large_text.proofs.loop_marks.tally_loops.Goals as goal

pub returns-in-Err-clause-refused : goal.returns-in-Err-clause-refused
returns-in-Err-clause-refused c =
    let tokens = tokens_left c.args.after_header in
    let line = end_line c.args.after_header in
    subst
    (λ (fault : ReadFault). fault.kind ≢ OutOfMemory → HasLoopFaultOf tokens line fault)
    (sym c.large_fault.ensures)
    (λ other. tokens_refused tokens line c.in-Err.fault c.in-Err.ensures other)

pub returns-in-Ok-tally_statements-clause-tallied :
    goal.returns-in-Ok-tally_statements-clause-tallied
returns-in-Ok-tally_statements-clause-tallied c =
    let tokens = tokens_left c.args.after_header in
    let line = end_line c.args.after_header in (
      c.in-Ok.body,
      whole_tree tokens line c.in-Ok.body c.in-Ok.ensures,
      subst (λ (tree : Tree). TalliesTree tree c.in-Ok-tally_statements.tally)
          (sym c.as_slice.ensures) c.in-Ok-tally_statements.ensures.tallied,
    )

pub returns-clause-refused : goal.returns-clause-refused
returns-clause-refused c =
    let tokens = tokens_left c.args.after_header in
    let line = end_line c.args.after_header in
    let fault = c.in-Err-tally_statements.fault in
    subst
    (λ (fault : ReadFault). fault.kind ≢ OutOfMemory → HasLoopFaultOf tokens line fault)
    (sym c.large_fault-in-Err-tally_statements.ensures)
    (λ other. expansion_refused tokens line c.in-Ok.body fault c.in-Ok.ensures
    (subst (λ (tree : Tree). IsRefusedWith tree fault) (sym c.as_slice.ensures)
    c.in-Err-tally_statements.ensures.refused) other)
