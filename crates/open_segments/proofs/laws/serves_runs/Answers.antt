use Rattle.task_segments.specs.Precedence.{MustPrecede}
use Rattle.task_segments.proofs.Reaches.{reaches_by_one, reached_is_joined}
use Rattle.open_segments.proofs.Within.{within_table}
use Rattle.open_segments.proofs.laws.serves_runs.Goals as goal

pub returns : goal.returns
returns g c = record {
  some_segment = c.reads_in_place.ensures.some_segment;
  few_segments = c.within_rows.ensures.few_segments;
  few_tasks = c.within_rows.ensures.few_tasks;
  little_work = c.within_rows.ensures.work;
  goes_up = record {
    ascending = c.goes_up.ensures;
    within = λ s t edge. within_table c.args.table.now s t c.nests.ensures edge;
    reached = c.opens_after_another.ensures;
  };
  chains = record {
    within = c.same_chains.ensures.within;
    joined = λ s t edge. (c.same_chains.ensures.joined s t).0
        (reached_is_joined {R = MustPrecede c.args.table.now} (reaches_by_one edge));
  };
  in_place = c.reads_in_place.ensures;
}
