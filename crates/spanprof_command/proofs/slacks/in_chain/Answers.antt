use Rattle.std.proofs.Common.{ℕ, ◌∙◌, List, length, get_or, sym, ap, arith}
use Rattle.spanprof_command.proofs.ChainPlaces.{stands_not}
use Rattle.spanprof_command.proofs.slacks.in_chain.Goals as goal
use Rattle.spanprof_command.proofs.slacks.in_chain.Goals.{
  else-place-chain-via-then-place-chain+else-chain-place,
}
use Rattle.spanprof_command.proofs.slacks.in_chain.Goals.{else-place-chain-via-else-place-chain}

pub returns-else-place-chain-clause-is : goal.returns-else-place-chain-clause-is
returns-else-place-chain-clause-is c =
    let is = c.chain-chain.ensures in
    sym (stands_not c.args.found.now.chain c.args.segment c.args.place c.requires.ascending
    c.requires.place (λ l e. elim c.else-place-chain.branch [
      | else-place-chain-via-then-place-chain+else-chain-place w ↦
          w.if-chain-place.false (ap (λ (xs : List ℕ). get_or xs c.args.place 0) is ∙ e)
      | else-place-chain-via-else-place-chain w ↦
          omega (arith, w.if-place-chain.false, ap (λ (xs : List ℕ). length xs) is)
    ]))
