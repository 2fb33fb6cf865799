use Rattle.std.proofs.Common.{◌-◌, arith, rules, length, subst, Option}
use Rattle.std.proofs.lemmas.List.Splits.{length-slice_split}
use Rattle.program_text.specs.Document.{lines_of}
use Rattle.program_text.specs.Tokens.{is_line_feed}
use Rattle.time_text.proofs.WholeTexts.{all_told, empty_told, nothing_told}
use Rattle.time_text.specs.Reading.{IsSoFar}
use Rattle.time_text.specs.declared.line.RegionTimes.{RegionTimes}
use Rattle.time_text.proofs.reader.read_rows.Goals as goal

pub returns-in_err-segments-in-Some-clause-refused :
    goal.returns-in_err-segments-in-Some-clause-refused
returns-in_err-segments-in-Some-clause-refused c =
    let n = length c.args.rows.now in
    let lines = lines_of c.args.text.now in
    let so_far = subst (λ (r : Option RegionTimes). IsSoFar n lines (length lines) r
    c.read_lines.new.rows) c.in-Some.is c.in_ok-region.ensures.read in
    let bad = empty_told n lines c.in-Some.region c.read_lines.new.rows
    c.in_err-segments-in-Some.field-0.0 so_far c.in_err-segments-in-Some.ensures.first in
    search (rules, bad)

pub returns-in_ok-segments-in-Some-clause-found : goal.returns-in_ok-segments-in-Some-clause-found
returns-in_ok-segments-in-Some-clause-found c =
    let n = length c.args.rows.now in
    let lines = lines_of c.args.text.now in
    let so_far = subst (λ (r : Option RegionTimes). IsSoFar n lines (length lines) r
    c.read_lines.new.rows) c.in-Some.is c.in_ok-region.ensures.read in
    all_told n lines c.in-Some.region c.read_lines.new.rows _ so_far
    c.in_ok-segments-in-Some.ensures.all

pub overflow_sub-result : goal.overflow_sub-result
overflow_sub-result c =
    omega (
      arith,
      c.in_ok-region.ensures.count,
      length-slice_split is_line_feed c.args.text.now,
    )

pub returns-in-None-clause-refused : goal.returns-in-None-clause-refused
returns-in-None-clause-refused c =
    let n = length c.args.rows.now in
    let lines = lines_of c.args.text.now in
    let so_far = subst (λ (r : Option RegionTimes). IsSoFar n lines (length lines) r
    c.read_lines.new.rows) c.in-None.is c.in_ok-region.ensures.read in
    nothing_told n lines c.read_lines.new.rows (c.in_ok-region.lines - 1) so_far
    (omega (
      arith,
      c.in_ok-region.ensures.count,
      length-slice_split is_line_feed c.args.text.now,
    ))
