use Rattle.std.proofs.Common.{ℕ, List, Option, subst, sym}
use Rattle.span_cert.specs.BrokenPairs.{AreColumns}
use Rattle.span_cert.specs.Claims.{moments_of_starts}
use Rattle.span_cert.proofs.Columns.{first_of_all}
use Rattle.span_cert.proofs.broken_pairs.first_broken.Goals as goal

pub returns : goal.returns
returns g c =
    let A : List (Option (ℕ × ℕ)) → Type 0 = λ columns.
    AreColumns c.args.table.now (moments_of_starts c.args.starts.now) columns in
    first_of_all c.args.table.now (moments_of_starts c.args.starts.now) c.as_slice-2.result.now
    c.earliest_pair.result (subst A (sym c.as_slice-2.ensures.value) c.in_ok-columns.ensures)
    c.earliest_pair.ensures
