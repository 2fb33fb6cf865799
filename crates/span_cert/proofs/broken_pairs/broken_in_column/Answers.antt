use Rattle.std.proofs.Common.{ℕ, Option, subst, rules}
use Rattle.span_cert.specs.BrokenPairs.{IsRow}
use Rattle.span_cert.specs.Claims.{moments_of_starts}
use Rattle.span_cert.proofs.Columns.{found_in_column, next_in_column, none_in_column, one_row_more}
use Rattle.span_cert.proofs.broken_pairs.broken_in_column.Goals as goal

pub returns-in-Some : goal.returns-in-Some
returns-in-Some g c =
    found_in_column c.args.table.now (moments_of_starts c.args.starts.now) c.args.column c.in-Some.s
    c.loop-t.t c.loop-t.invariant.1
    (subst (λ (o : Option ℕ). IsRow c.args.table.now (moments_of_starts c.args.starts.now) c.loop-t.t o)
    c.in-Some.is c.in_ok-found.ensures)

pub loop-t-preserved : goal.loop-t-preserved
loop-t-preserved g c =
    let here = c.loop-t.invariant.0 in (
      next_in_column c.args.column c.loop-t.t here,
      one_row_more c.args.table.now (moments_of_starts c.args.starts.now) c.args.column c.loop-t.t
          here c.loop-t.invariant.1
          (subst (λ (o : Option ℕ). IsRow c.args.table.now (moments_of_starts c.args.starts.now)
          c.loop-t.t o) c.in_default.is c.in_ok-found.ensures),
    )

pub returns : goal.returns
returns g c =
    none_in_column c.args.table.now (moments_of_starts c.args.starts.now) c.args.column c.loop-t.t
    (search rules) c.loop-t.invariant.1
