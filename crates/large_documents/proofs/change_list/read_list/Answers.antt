use Rattle.std.proofs.Common.{◌≡◌, ◌∙◌, ◌≤◌, ℕ, [], Option, ap, sym, arith, rules, length, get_or}
use Rattle.std.proofs.lemmas.Iterator.Consumers.{YieldsList-end, YieldsList-turn}
use Rattle.std.proofs.lemmas.Iterator.Splits.{YieldsList-from_slice_split}
use Rattle.std.proofs.lemmas.List.{get_or_default, length_push}
use Rattle.program_text.specs.Document.{lines_of}
use Rattle.program_text.specs.Tokens.{is_line_feed}
use Rattle.large_documents.specs.ChangeLists.{line_says}
use Rattle.large_documents.specs.declared.change_list.ChangeLine.{ChangeLine}
use Rattle.large_documents.proofs.ListSteps.{SaysNext, all_listed, none_listed}
use Rattle.large_documents.proofs.ListSteps.{none_wrong, one_more, refused_line}
use Rattle.large_documents.proofs.change_list.read_list.Goals.{In-None, In-Some}
use Rattle.large_documents.proofs.change_list.read_list.Goals as goal

pub loop-line-init : goal.loop-line-init
loop-line-init c = record {
  count = search rules;
  so_far = none_listed c.args.graph.now.costs c.in_ok-list.list.costs.items
      (lines_of c.args.text.now) c.in_ok-list.list.changes.items c.in_ok-list.ensures.costs
      c.in_ok-list.ensures.none;
  work = c.in_ok-list.ensures.work;
  small = c.in_ok-list.ensures.small;
}

-- the line that comes next says so
next_line : (c : In-Some) (said : Option ChangeLine) → said ≡ line_says c.in-Some.line.now
    → SaysNext (lines_of c.args.text.now) c.loop-line.number said
next_line c said is =
    let lines = lines_of c.args.text.now in
    let turn = YieldsList-turn
    (YieldsList-from_slice_split _ is_line_feed c.args.text.now (cc) (cc) (cc)
    (λ x b q k. search rules))
    c.loop-line.yielded _ c.loop-line.yielded_by _ _ c.in-Some.line c.in-Some.is
    c.next.ensures.steps in
    let here : get_or lines c.loop-line.number [] ≡ c.in-Some.line.now =
    ap (λ (k : ℕ). get_or lines k []) c.loop-line.invariant.count
    ∙ sym (turn.1 ∙ get_or_default lines (length c.loop-line.yielded) _ [] turn.0) in
    record {
      line = c.in-Some.line.now;
      inside = omega (arith, turn.0, c.loop-line.invariant.count);
      is = here;
      says = sym is;
    }

-- all lines are read
whole : (c : In-None) → length (lines_of c.args.text.now) ≤ c.loop-line.number
whole c =
    let ended = YieldsList-end
    (YieldsList-from_slice_split _ is_line_feed c.args.text.now (cc) (cc) (cc)
    (λ x b q k. search rules))
    c.loop-line.yielded _ c.loop-line.yielded_by _ _ c.in-None.is c.next.ensures.steps in
    omega (arith, c.loop-line.invariant.count, ended.1)

pub returns-in_err-take-clause-refused : goal.returns-in_err-take-clause-refused
returns-in_err-take-clause-refused c =
    let here = (goal.at.returns-in_err-take-clause-refused c).In-Some in
    let bad = refused_line c.args.graph.now.costs c.loop-line.list.costs.items
    (lines_of c.args.text.now) c.loop-line.number c.loop-line.list.changes.items c.in_ok-said.said
    c.in_err-take.field-0.0 (next_line here c.in_ok-said.said c.in_ok-said.ensures)
    c.loop-line.invariant.so_far c.in_err-take.ensures.wrong in
    search (rules, bad)

pub loop-line-preserved : goal.loop-line-preserved
loop-line-preserved c =
    let here = (goal.at.loop-line-preserved c).In-Some in
    let before = c.loop-line.list in
    let after = c.take.new.list in
    let more = one_more c.args.graph.now.costs before.costs.items (lines_of c.args.text.now)
    c.loop-line.number before.changes.items c.in_ok-said.said
    (next_line here c.in_ok-said.said c.in_ok-said.ensures) c.loop-line.invariant.so_far
    c.in_ok-take.ensures.right in
    record {
      count = omega (
        arith,
        c.loop-line.invariant.count,
        length_push c.loop-line.yielded c.in-Some.line,
      );
      so_far = rw (c.in_ok-take.ensures.changes, c.in_ok-take.ensures.costs) more;
      work = c.in_ok-take.ensures.work;
      small = c.in_ok-take.ensures.small;
    }

pub returns-clause-right : goal.returns-clause-right
returns-clause-right c =
    none_wrong c.args.graph.now.costs c.loop-line.list.costs.items (lines_of c.args.text.now)
    c.loop-line.number c.loop-line.list.changes.items
    (whole (goal.at.returns-clause-right c).In-None) c.loop-line.invariant.so_far

pub returns-clause-listed : goal.returns-clause-listed
returns-clause-listed c =
    all_listed c.args.graph.now.costs c.loop-line.list.costs.items (lines_of c.args.text.now)
    c.loop-line.number c.loop-line.list.changes.items
    (whole (goal.at.returns-clause-listed c).In-None) c.loop-line.invariant.so_far
