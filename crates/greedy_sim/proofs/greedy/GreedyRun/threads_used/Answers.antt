use Rattle.std.proofs.Common.{◌≡◌, ◌∙◌, None, Some, inl, inr, ap, sym, arith, length, slice_index_or}
use Rattle.std.proofs.lemmas.Bool.{cases_lt}
use Rattle.std.proofs.lemmas.List.{get_or_past}
use Rattle.greedy_sim.proofs.greedy.GreedyRun.threads_used.Goals as goal

pub returns : goal.returns
returns c = λ s k has.
    let threads = c.args.self.now.threads in
    let same : length c.deref-thread-items.result.now ≡ length threads =
    ap length c.deref-thread-items.ensures.value ∙ ap (λ run. length run.threads) c.self.view_is in
    elim (cases_lt s (length threads)) [
      | inl within ↦
          c.loop-thread.invariant s k (omega (arith, within, same, c.loop-thread-test.false)) has
      | inr past ↦
          let none : slice_index_or threads s None ≡ None = get_or_past threads s None past in
          let wrong : None ≡ Some k = sym none ∙ has in absurd (cc)
    ]
