use Rattle.std.proofs.Common.{ℕ, ◌≡◌, ◌∙◌, List, ap, arith, length}
use Rattle.std.proofs.lemmas.List.{length-map}
use Rattle.time_accounts.specs.Shares.{last_end, ready_moments}
use Rattle.spanprof_c.proofs.account.tell_account.Goals as goal

pub copy_from_slice-requires : goal.copy_from_slice-requires
copy_from_slice-requires c =
    let graph = c.args.graph.now in
    let run = c.args.times.now in
    let same : length c.as_slice.result.now ≡ length (ready_moments graph run) =
    ap (λ (xs : List ℕ). length xs) (c.as_slice.ensures.value ∙ c.in_ok-moments.ensures) in
    omega (
      arith,
      same,
      length-map graph.predecessors (last_end run.ends),
      c.is_graph.ensures.each,
      c.requires,
    )
