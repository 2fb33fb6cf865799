-- The first and the last of sorted moments.
use Rattle.std.proofs.Common.{◌≡◌, ℕ, ◌-◌, ◌<◌, List, length, ◌∙◌, arith}
use Rattle.std.specs.List.Sorted.{IsNonDecreasing, IsPermutation}
use Rattle.std.proofs.lemmas.List.{get_or_default}
use Rattle.std.proofs.lemmas.List.Elements.{Contains-get_or}
use Rattle.std.proofs.lemmas.List.Sorted.{Contains-permutation, IsPermutation-sym, length_permutation}
use Rattle.task_segments.specs.Schedule.{at}
use Rattle.time_accounts.specs.TimedRun.{TimedRun}
use Rattle.time_accounts.proofs.Between.{AreOuter}

-- a member of the one stands somewhere in the other
place_in : (xs ys : List ℕ) (s : ℕ) → IsPermutation xs ys → s < length xs
    → (k : ℕ) × (k < length ys) × (at ys k ≡ at xs s)
place_in xs ys s moved h =
    let found = Contains-permutation xs ys (at xs s) moved (Contains-get_or xs s 0 h) in
    (found.0, found.1, get_or_default ys found.0 0 (at xs s) found.1 ∙ found.2)

pub outer_of : (n : ℕ) (run : TimedRun) (bs es : List ℕ)
    → length run.begins ≡ n
    → length run.ends ≡ n
    → 0 < n
    → IsPermutation run.begins bs
    → IsNonDecreasing bs
    → IsPermutation run.ends es
    → IsNonDecreasing es
    → AreOuter n run (at bs 0) (at es (length es - 1))
outer_of n run bs es each_begin each_end some moved_bs up_bs moved_es up_es =
    let long_bs = length_permutation run.begins bs moved_bs in
    let long_es = length_permutation run.ends es moved_es in
    let first = place_in bs run.begins 0 (IsPermutation-sym run.begins bs moved_bs)
    (omega (arith, some, each_begin, long_bs)) in
    let last = place_in es run.ends (length es - 1) (IsPermutation-sym run.ends es moved_es)
    (omega (arith, some, each_end, long_es)) in
    record {
      first = first.0;
      first_in = omega (arith, first.1, each_begin);
      begins_first = first.2;
      no_earlier = λ s h.
          let k = place_in run.begins bs s moved_bs (omega (arith, h, each_begin)) in
          omega (arith, k.2, up_bs 0 k.0 0 (omega arith) k.1);
      last = last.0;
      last_in = omega (arith, last.1, each_end);
      ends_last = last.2;
      no_later = λ s h.
          let k = place_in run.ends es s moved_es (omega (arith, h, each_end)) in
          omega (
            arith,
            k.2,
            up_es k.0 (length es - 1) 0 (omega (arith, k.1))
                (omega (arith, some, each_end, long_es)),
          );
    }
