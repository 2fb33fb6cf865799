use Rattle.std.proofs.Common.{arith, length, rules}
use Rattle.dispatch_core.specs.RecordedGraph.{Precedes}
use Rattle.spanprof_command.proofs.ChainPlaces.{chain_ascends}
use Rattle.spanprof_command.proofs.Finished.{table_told}
use Rattle.spanprof_command.specs.Slacks.{slack_header, slack_row}
use Rattle.spanprof_command.proofs.slacks.tell_slacks.Goals as goal

pub slack_table-requires : goal.slack_table-requires
slack_table-requires g c =
    let known = c.in_ok-found.ensures in (
      omega arith,
      (
        search rules,
        (
          search rules,
          chain_ascends (Precedes c.in_ok-found.field-0-0) known.is_graph.smaller
              c.in_ok-found.found.chain known.is_analysis.findings.linked,
        ),
      ),
    )

pub returns : goal.returns
returns g c =
    let table = c.args.table in
    let found = c.in_ok-found.found in record {
      graph = c.in_ok-found.field-0-0;
      found = found;
      are_analysed = c.in_ok-found.ensures;
      says = table_told slack_header (slack_row table found) (length table.segments) _ _
          c.in_ok-text.ensures c.new.ensures;
    }
