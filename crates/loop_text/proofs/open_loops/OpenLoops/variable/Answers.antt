use Rattle.std.proofs.Common.{◌≡◌, ◌-◌, ap, sym, ◌∙◌, arith, length, reverse, List, true, false}
use Rattle.std.proofs.lemmas.List.{length-take-le}
use Rattle.std.specs.Str.{bytes_eq}
use Rattle.loop_text.specs.declared.open_loops.LoopBlock.{LoopBlock}
use Rattle.loop_text.specs.OpenBlocks.{OpenBlocks, variables_of, variable_number}
use Rattle.loop_text.proofs.Variables.{not_shifted, passed_block, passed_loop, found_loop}
use Rattle.loop_text.proofs.Variables.{no_loop_left}
use Rattle.loop_text.proofs.open_loops.OpenLoops.variable.Goals as goal

pub variables-init : goal.variables-init
variables-init c =
    let same : reverse c.as_slice-blocks.result.now ≡ c.args.self.now.blocks = ap
    (λ (bs : List LoopBlock). reverse bs) c.as_slice-blocks.ensures.value
    ∙ ap (λ (s : OpenBlocks). s.blocks) c.self.view_is in
    let long : length c.as_slice-blocks.result.now ≡ length c.self.inside.blocks.items =
    ap (λ (bs : List LoopBlock). length bs) c.as_slice-blocks.ensures.value in
    record {
      same = not_shifted _
          ∙ ap (λ (bs : List LoopBlock). variable_number (variables_of bs) c.args.token.text.now)
          same;
      fits = omega (arith, long, c.self.invariant);
    }

pub variables-preserved : goal.variables-preserved
variables-preserved c =
    let shorter = length-take-le (length c.variables.blocks.now - 1) c.variables.blocks.now
    (omega (arith, c.in-len1-up.len_at_least)) in
    record {
      same = passed_block c.variables.blocks.now c.block-item.result _ c.args.token.text.now
          c.variables.number _ c.in-len1-up.len_at_least c.block-item.is
          c.in_default-opening.not-ForOpening c.variables.invariant.same;
      fits = omega (arith, shorter, c.variables.invariant.fits, c.in-len1-up.len_at_least);
    }

pub variables-preserved-else-is : goal.variables-preserved-else-is
variables-preserved-else-is c =
    let shorter = length-take-le (length c.variables.blocks.now - 1) c.variables.blocks.now
    (omega (arith, c.in-len1-up.len_at_least)) in
    let other : bytes_eq c.args.token.text.now c.in-ForOpening.variable ≡ false = ap
    (bytes_eq c.args.token.text.now) (sym (c.as_bytes.ensures.value ∙ c.as_str.ensures))
    ∙ sym c.is.ensures
    ∙ c.if-is.false in
    record {
      same = passed_loop c.variables.blocks.now c.block-item.result _ c.in-ForOpening.variable
          c.in-ForOpening.from c.in-ForOpening.to c.in-ForOpening.line c.in-ForOpening.brace_line
          c.args.token.text.now c.variables.number _ c.in-len1-up.len_at_least c.block-item.is
          c.in-ForOpening.is other c.variables.invariant.same;
      fits = omega (arith, shorter, c.variables.invariant.fits, c.in-len1-up.len_at_least);
    }

pub returns-then-is : goal.returns-then-is
returns-then-is c =
    let here : bytes_eq c.args.token.text.now c.in-ForOpening.variable ≡ true = ap
    (bytes_eq c.args.token.text.now) (sym (c.as_bytes.ensures.value ∙ c.as_str.ensures))
    ∙ sym c.is.ensures
    ∙ c.if-is.true in
    found_loop c.variables.blocks.now c.block-item.result _ c.in-ForOpening.variable
    c.in-ForOpening.from c.in-ForOpening.to c.in-ForOpening.line c.in-ForOpening.brace_line
    c.args.token.text.now c.variables.number _ c.in-len1-up.len_at_least c.block-item.is
    c.in-ForOpening.is here c.variables.invariant.same

pub returns : goal.returns
returns c =
    no_loop_left c.variables.blocks.now c.args.token.text.now c.variables.number _
    c.in_default.len_below c.variables.invariant.same
