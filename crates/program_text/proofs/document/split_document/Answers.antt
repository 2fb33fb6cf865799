use Rattle.std.proofs.Common.{◌+◌, ℕ, List, rules, arith, length, take, [], ap, sym, ◌∙◌, Some}
use Rattle.std.proofs.Common.{◌≡◌, false}
use Rattle.std.proofs.lemmas.Iterator.Splits.{YieldsList-from_slice_split}
use Rattle.std.proofs.lemmas.Iterator.Consumers.{YieldsList-turn, YieldsList-end}
use Rattle.std.proofs.lemmas.List.{length_push, get_or_default, length-take}
use Rattle.program_text.specs.Tokens.{is_line_feed}
use Rattle.program_text.specs.Document.{lines_of, text_of_lines, has_divider}
use Rattle.program_text.proofs.Splitting.{IsLine, line_within, before_line, after_line, next_start}
use Rattle.program_text.proofs.Splitting.{rest_from, finds_divider, still_undivided, has_no_divider}
use Rattle.program_text.proofs.Splitting.{program_at, rest_at, program_whole, no_rest}
use Rattle.program_text.proofs.document.split_document.Goals.{In-Some, In-None}
use Rattle.program_text.proofs.document.split_document.Goals as goal

-- the line that comes next
next_line : (c : In-Some)
    → IsLine c.args.document.now (length c.loop-line.yielded) c.loop-line.start c.in-Some.line.now
next_line c =
    let turn = YieldsList-turn
    (YieldsList-from_slice_split _ is_line_feed c.args.document.now (cc) (cc) (cc)
    (λ x b q k. search rules))
    c.loop-line.yielded _ c.loop-line.yielded_by _ _ c.in-Some.line c.in-Some.is
    c.next.ensures.steps in
    record {
      is_there = turn.0;
      is_line =
          turn.1 ∙ get_or_default (lines_of c.args.document.now) (length c.loop-line.yielded) _ []
          turn.0;
      starts = c.loop-line.invariant.start;
    }

-- no line is left, and none was the divider
none_left : (c : In-None) → has_divider c.args.document.now ≡ false
none_left c =
    let at_end = YieldsList-end
    (YieldsList-from_slice_split _ is_line_feed c.args.document.now (cc) (cc) (cc)
    (λ x b q k. search rules))
    c.loop-line.yielded _ c.loop-line.yielded_by _ _ c.in-None.is c.next.ensures.steps in
    has_no_divider c.args.document.now (length c.loop-line.yielded) at_end.1
    c.loop-line.invariant.undivided

pub overflow_add-after : goal.overflow_add-after
overflow_add-after c =
    let is = next_line (goal.at.overflow_add-after c).In-Some in
    let within = line_within _ _ _ _ is in
    omega arith

pub overflow_add-after-in-loop-line : goal.overflow_add-after-in-loop-line
overflow_add-after-in-loop-line c =
    let is = next_line (goal.at.overflow_add-after-in-loop-line c).In-Some in
    let within = line_within _ _ _ _ is in
    omega arith

pub slice_bounds-result-end : goal.slice_bounds-result-end
slice_bounds-result-end c =
    let is = next_line (goal.at.slice_bounds-result-end c).In-Some in
    let within = line_within _ _ _ _ is in
    omega (arith, length-take {A = ℕ})

pub returns-then-is_divider-clause-program : goal.returns-then-is_divider-clause-program
returns-then-is_divider-clause-program c =
    let is = next_line (goal.at.returns-then-is_divider-clause-program c).In-Some in
    let first = finds_divider c.args.document.now (length c.loop-line.yielded) c.in-Some.line.now
    is.is_there is.is_line c.loop-line.invariant.undivided (search rules) in
    before_line _ _ _ _ is
    ∙ sym (program_at c.args.document.now (length c.loop-line.yielded) first.0 first.1)

pub returns-then-is_divider-clause-rest : goal.returns-then-is_divider-clause-rest
returns-then-is_divider-clause-rest c =
    let is = next_line (goal.at.returns-then-is_divider-clause-rest c).In-Some in
    let first = finds_divider c.args.document.now (length c.loop-line.yielded) c.in-Some.line.now
    is.is_there is.is_line c.loop-line.invariant.undivided (search rules) in
    ap (λ (text : List ℕ). Some text) (rest_from _
    (c.loop-line.start + (length c.in-Some.line.now + 1)) _ (search rules)
    ∙ after_line _ _ _ _ is)
    ∙ sym (rest_at c.args.document.now (length c.loop-line.yielded) first.0 first.1)

pub loop-line-preserved : goal.loop-line-preserved
loop-line-preserved c =
    let is = next_line (goal.at.loop-line-preserved c).In-Some in
    let one_longer = length_push c.loop-line.yielded c.in-Some.line in
    record {
      start = next_start _ _ _ _ is
          ∙ ap (λ k. length (text_of_lines (take k (lines_of c.args.document.now))))
          (sym one_longer);
      undivided = still_undivided c.args.document.now (length c.loop-line.yielded) _
          c.in-Some.line.now one_longer is.is_line c.loop-line.invariant.undivided (search rules);
    }

pub returns-clause-program : goal.returns-clause-program
returns-clause-program c =
    sym (program_whole c.args.document.now (none_left (goal.at.returns-clause-program c).In-None))

pub returns-clause-rest : goal.returns-clause-rest
returns-clause-rest c =
    sym (no_rest c.args.document.now (none_left (goal.at.returns-clause-rest c).In-None))
