-- The times of a run, as they stand in a document behind its program.
use Rattle.std.specs.Prelude.{ℕ, ◌+◌, List, map, count_by}
use Rattle.program_text.specs.Tokens.{is_line_feed}
use Rattle.time_accounts.specs.TimedRun.{TimedRun}
use Rattle.time_text.specs.declared.line.SegmentTimes.{SegmentTimes}

-- the times of the segments, by number
abbrev pub run_of : List SegmentTimes → TimedRun
run_of segments = record {
  threads = map (λ (times : SegmentTimes). times.thread) segments;
  begins = map (λ (times : SegmentTimes). times.begin) segments;
  ends = map (λ (times : SegmentTimes). times.end) segments;
}

-- how many lines end in a text
abbrev pub ended : List ℕ → ℕ
ended text = count_by is_line_feed text

-- The number in a document, from 1 on, of the line with this index behind a divider, before which so
-- many lines have ended: there are those, the divider, and as many lines as the index says.
abbrev pub line_behind : ℕ → ℕ → ℕ
line_behind before i = before + i + 2
