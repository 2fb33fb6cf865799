use Rattle.std.proofs.Common.{◌∙◌, ℕ, List, ap, length}
use Rattle.csv_table.specs.Tables.{numbered_table}
use Rattle.time_accounts.specs.BySegment.{delayed_by_segment, starved_by_segment}
use Rattle.time_accounts.specs.TimedRun.{durations}
use Rattle.large_documents.proofs.PlaceTimes.{table_of_times}
use Rattle.large_documents.specs.TimedPlaces.{timed_header, timed_line}
use Rattle.large_documents.specs.declared.places.PlaceSums.{PlaceSums}
use Rattle.spanprof_command.specs.Report.{Report}
use Rattle.spanprof_command.specs.declared.report.Status.TheVariants.{Done}
use Rattle.large_documents.proofs.timed_places.tell_run_at.Goals as goal

pub returns : goal.returns
returns c =
    let whole : List ℕ → Report = λ text. record { text = text; status = Done } in
    let table : List PlaceSums → List ℕ → List ℕ → List ℕ → List ℕ = λ l b d s.
    numbered_table timed_header (timed_line l b d s) 0 (length l) in
    let graph = c.args.graph.now in
    let region = c.args.region in
    let run = c.args.times.now in
    let of = c.in_ok-sums.ensures in
    let sums = c.in_ok-sums.sums.items in
    let busy = c.in_ok-busy.busy.items in
    let delayed = c.in_ok-delayed.delayed.items in
    let starved = c.in_ok-starved.starved.items in
    record {
      found = of.found;
      is_analysis = of.is_analysis;
      says = c.new.ensures
          ∙ ap whole (c.in_ok-text.ensures
          ∙ ap (λ (l : List PlaceSums). table l c.as_slice-2.result.now c.as_slice-3.result.now
          c.as_slice-4.result.now) c.as_slice.ensures.value
          ∙ ap (λ (b : List ℕ). table sums b c.as_slice-3.result.now c.as_slice-4.result.now)
          c.as_slice-2.ensures.value
          ∙ ap (λ (d : List ℕ). table sums busy d c.as_slice-4.result.now)
          c.as_slice-3.ensures.value
          ∙ ap (λ (s : List ℕ). table sums busy delayed s) c.as_slice-4.ensures.value
          ∙ table_of_times c.args.places.now graph.costs of.found.slacks of.found.chain
          (durations run) (delayed_by_segment graph region.threads region.first region.last run)
          (starved_by_segment graph region.threads region.first region.last run) sums busy delayed
          starved of.are c.in_ok-busy.ensures c.in_ok-delayed.ensures c.in_ok-starved.ensures);
    }
