use Rattle.std.proofs.Common.{◌≡◌, ◌≢◌, ◌<◌, ◌∙◌, ℕ, List, [], ◌++◌, ap, sym, subst, arith, rules}
use Rattle.std.proofs.Common.{length, below_more, take, get_or, Option, Some, None}
use Rattle.std.proofs.lemmas.Iterator.Consumers.{YieldsList-end, YieldsList-turn}
use Rattle.std.proofs.lemmas.Iterator.Splits.{YieldsList-from_slice_split}
use Rattle.std.proofs.Math.Seq.{take-length}
use Rattle.std.proofs.lemmas.List.{get_or_default, length_push}
use Rattle.program_text.specs.Document.{lines_of}
use Rattle.program_text.specs.Tokens.{is_line_feed}
use Rattle.exclusive_tasks.specs.Lines.{AreRightBefore, claims_in, claims_told, events_in}
use Rattle.exclusive_tasks.specs.Lines.{events_told, line_says, says}
use Rattle.exclusive_tasks.specs.declared.line.Said.{Said}
use Rattle.exclusive_tasks.proofs.LogLines.{some_is_not_none, told_one_more}
use Rattle.exclusive_tasks.proofs.log.read_log.Goals.{In-Some}
use Rattle.exclusive_tasks.proofs.log.read_log.Goals as goal

-- the line that comes next
line_here : (c : In-Some) → (c.loop-line.number < length (lines_of c.args.text.now))
    × (get_or (lines_of c.args.text.now) c.loop-line.number [] ≡ c.in-Some.line.now)
line_here c =
    let turn = YieldsList-turn
    (YieldsList-from_slice_split _ is_line_feed c.args.text.now (cc) (cc) (cc)
    (λ x b q k. search rules))
    c.loop-line.yielded _ c.loop-line.yielded_by _ _ c.in-Some.line c.in-Some.is
    c.next.ensures.steps in (
      omega (arith, c.loop-line.invariant.count, turn.0),
      ap (λ (k : ℕ). get_or (lines_of c.args.text.now) k []) c.loop-line.invariant.count
          ∙ sym (turn.1
          ∙ get_or_default (lines_of c.args.text.now) (length c.loop-line.yielded) _ [] turn.0),
    )

pub returns-in-None-2 : goal.returns-in-None-2
returns-in-None-2 c =
    let next = line_here (goal.at.returns-in-None-2 c).In-Some in
    record {
      inside = next.0;
      right = c.loop-line.invariant.right;
      wrong = ap line_says next.1 ∙ sym c.in_ok-said.ensures ∙ c.in-None-2.is;
    }

pub loop-line-preserved : goal.loop-line-preserved
loop-line-preserved c =
    let lines = lines_of c.args.text.now in
    let number = c.loop-line.number in
    let next = line_here (goal.at.loop-line-preserved c).In-Some in
    let says_so : says lines number ≡ Some c.in-Some-2.said =
    ap line_says next.1 ∙ sym c.in_ok-said.ensures ∙ c.in-Some-2.is in
    record {
      count = omega (
        arith,
        c.loop-line.invariant.count,
        length_push c.loop-line.yielded c.in-Some.line,
      );
      right = below_more (λ (j : ℕ). says lines j ≢ None) number c.loop-line.invariant.right
          (λ none. some_is_not_none c.in-Some-2.said (sym says_so ∙ none));
      claims = told_one_more (λ (line : List ℕ). claims_in (line_says line)) lines number
          c.loop-line.claims.items c.keep.new.claims.items next.0
          c.loop-line.invariant.claims
          (c.in_ok-keep-in-Some-2.ensures.claims
          ∙ ap (λ (s : Option Said). c.loop-line.claims.items ++ claims_in s) (sym says_so));
      events = told_one_more (λ (line : List ℕ). events_in (line_says line)) lines number
          c.loop-line.events.items c.keep.new.events.items next.0
          c.loop-line.invariant.events
          (c.in_ok-keep-in-Some-2.ensures.events
          ∙ ap (λ (s : Option Said). c.loop-line.events.items ++ events_in s) (sym says_so));
    }

pub returns : goal.returns
returns c =
    let lines = lines_of c.args.text.now in
    let ended = YieldsList-end
    (YieldsList-from_slice_split _ is_line_feed c.args.text.now (cc) (cc) (cc)
    (λ x b q k. search rules))
    c.loop-line.yielded _ c.loop-line.yielded_by _ _ c.in-None.is c.next.ensures.steps in
    let all : c.loop-line.number ≡ length lines = c.loop-line.invariant.count ∙ ended.1 in
    let taken : take c.loop-line.number lines ≡ lines =
    ap (λ (k : ℕ). take k lines) all ∙ take-length lines in
    record {
      right = subst (λ (k : ℕ). AreRightBefore lines k) all c.loop-line.invariant.right;
      each_claim = c.loop-line.invariant.claims ∙ ap claims_told taken;
      each_event = c.loop-line.invariant.events ∙ ap events_told taken;
    }
