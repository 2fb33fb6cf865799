use Rattle.std.proofs.Common.{◌∙◌, ℕ, List, ap, length}
use Rattle.csv_table.specs.Tables.{numbered_table}
use Rattle.large_documents.proofs.PlaceRows.{table_of_sums}
use Rattle.large_documents.specs.Places.{place_row, places_header}
use Rattle.large_documents.specs.declared.places.PlaceSums.{PlaceSums}
use Rattle.spanprof_command.specs.Report.{Report}
use Rattle.spanprof_command.specs.declared.report.Status.TheVariants.{Done}
use Rattle.large_documents.proofs.places.tell_sums.Goals as goal

pub returns : goal.returns
returns c =
    let whole : List ℕ → Report = λ text. record { text = text; status = Done } in
    let of = c.in_ok-sums.ensures in
    record {
      found = of.found;
      is_analysis = of.is_analysis;
      says = c.new.ensures
          ∙ ap whole (c.in_ok-text.ensures
          ∙ ap (λ (l : List PlaceSums). numbered_table places_header (place_row l) 0 (length l))
          c.as_slice.ensures.value
          ∙ table_of_sums c.args.places.now c.args.graph.now.costs of.found.slacks of.found.chain
          c.in_ok-sums.sums.items of.are);
    }
