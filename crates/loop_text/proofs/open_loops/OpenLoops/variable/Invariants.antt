use Rattle.std.proofs.Common.{◌≡◌, ◌≤◌, ◌+◌, length, reverse}
use Rattle.loop_text.specs.OpenBlocks.{variables_of, variable_number}
use Rattle.loop_text.proofs.Variables.{number_further_out}
use Rattle.loop_text.proofs.open_loops.OpenLoops.variable.Given as goal
use Rattle.program_text.specs.declared.limits.TheConstants.{MOST_NESTING}

abbrev pub invariant-variables : goal.invariant-variables
invariant-variables l = record {
  same : number_further_out l.number
      (variable_number (variables_of (reverse l.blocks)) l.token.text.now)
      ≡ variable_number (variables_of l.fn.self.blocks) l.token.text.now;
  fits : l.number + length l.blocks ≤ MOST_NESTING;
}

abbrev pub decreases-variables : goal.decreases-variables
decreases-variables l = length l.blocks
