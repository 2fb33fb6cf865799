use Rattle.std.proofs.Common.{◌≡◌, ◌∙◌, ℕ, [], ap, sym, subst, arith, rules, length}
use Rattle.std.proofs.Common.{get_or}
use Rattle.std.proofs.lemmas.Iterator.Consumers.{YieldsList-end, YieldsList-turn}
use Rattle.std.proofs.lemmas.Iterator.Splits.{YieldsList-from_slice_split}
use Rattle.std.proofs.lemmas.List.{get_or_default, length_push}
use Rattle.program_text.specs.Document.{lines_of}
use Rattle.program_text.specs.Tokens.{is_line_feed}
use Rattle.time_text.proofs.LineSteps.{one_more, one_wrong}
use Rattle.time_text.specs.Reading.{IsSoFar}
use Rattle.time_text.specs.TimeLines.{line_says, says}
use Rattle.time_text.proofs.reader.read_lines.Goals.{In-None, In-Some}
use Rattle.time_text.proofs.reader.read_lines.Goals as goal

-- the line that comes next
next_line : (c : In-Some) → get_or (lines_of c.args.text.now) c.loop-line.number [] ≡ c.in-Some.line.now
next_line c =
    let turn = YieldsList-turn
    (YieldsList-from_slice_split _ is_line_feed c.args.text.now (cc) (cc) (cc)
    (λ x b q k. search rules))
    c.loop-line.yielded _ c.loop-line.yielded_by _ _ c.in-Some.line c.in-Some.is
    c.next.ensures.steps in
    ap (λ (k : ℕ). get_or (lines_of c.args.text.now) k []) c.loop-line.invariant.count
    ∙ sym (turn.1
    ∙ get_or_default (lines_of c.args.text.now) (length c.loop-line.yielded) _ [] turn.0)

-- all lines are read
whole : (c : In-None) → c.loop-line.number ≡ length (lines_of c.args.text.now)
whole c =
    let ended = YieldsList-end
    (YieldsList-from_slice_split _ is_line_feed c.args.text.now (cc) (cc) (cc)
    (λ x b q k. search rules))
    c.loop-line.yielded _ c.loop-line.yielded_by _ _ c.in-None.is c.next.ensures.steps in
    c.loop-line.invariant.count ∙ ended.1

pub returns-in_err-region-clause-refused : goal.returns-in_err-region-clause-refused
returns-in_err-region-clause-refused c =
    let here = (goal.at.returns-in_err-region-clause-refused c).In-Some in
    let said : says (lines_of c.args.text.now) c.loop-line.number ≡ c.in_ok-said.said =
    ap line_says (next_line here) ∙ sym c.in_ok-said.ensures in
    let bad = one_wrong (length c.args.rows.now) (lines_of c.args.text.now) c.loop-line.number
    c.loop-line.region c.loop-line.rows c.in_ok-said.said c.in_err-region.field-0.0
    c.loop-line.invariant.so_far said c.in_err-region.ensures.refused in
    search (rules, bad)

pub loop-line-preserved : goal.loop-line-preserved
loop-line-preserved c =
    let here = (goal.at.loop-line-preserved c).In-Some in
    let said : says (lines_of c.args.text.now) c.loop-line.number ≡ c.in_ok-said.said =
    ap line_says (next_line here) ∙ sym c.in_ok-said.ensures in
    record {
      count = omega (
        arith,
        c.loop-line.invariant.count,
        length_push c.loop-line.yielded c.in-Some.line,
      );
      so_far = one_more (length c.args.rows.now) (lines_of c.args.text.now) c.loop-line.number
          c.loop-line.region c.loop-line.rows c.in_ok-said.said
          (record { region = c.in_ok-region.region; rows = c.take.new.rows })
          c.loop-line.invariant.so_far said c.in_ok-region.ensures.taken;
    }

pub returns-clause-count : goal.returns-clause-count
returns-clause-count c = whole (goal.at.returns-clause-count c).In-None

pub returns-clause-read : goal.returns-clause-read
returns-clause-read c =
    subst (λ (k : ℕ). IsSoFar (length c.args.rows.now) (lines_of c.args.text.now) k
    c.loop-line.region c.loop-line.rows)
    (whole (goal.at.returns-clause-read c).In-None) c.loop-line.invariant.so_far
