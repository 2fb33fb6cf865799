use Rattle.std.proofs.Common.{◌≤◌, length, drop}
use Rattle.large_text.specs.LargeTexts.{HasNoLineFeed}
use Rattle.large_text.proofs.plain_stream.whole_lines.Given as goal

abbrev pub invariant-back : goal.invariant-back
invariant-back l = (l.end ≤ length l.bytes) × HasNoLineFeed (drop l.end l.bytes)

abbrev pub decreases-back : goal.decreases-back
decreases-back l = l.end
