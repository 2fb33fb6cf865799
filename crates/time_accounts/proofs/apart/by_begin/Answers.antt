use Rattle.std.proofs.Common.{◌≡◌, ℕ, ◌<◌, List, length, refl, sym, subst, ap, ◌∙◌, arith, rules}
use Rattle.std.proofs.lemmas.List.{get_or_default}
use Rattle.std.proofs.lemmas.List.Elements.{All-from_get_or}
use Rattle.std.proofs.lemmas.List.Sorted.{All-permutation, Contains-permutation}
use Rattle.std.proofs.lemmas.List.Sorted.{IsNonDecreasingBy-from_sort_by_key}
use Rattle.task_segments.specs.Schedule.{at}
use Rattle.time_accounts.specs.Checks.{begin_and_number}
use Rattle.time_accounts.proofs.Taking.{one_place}
use Rattle.time_accounts.proofs.apart.by_begin.Goals as goal

-- an entry is of a segment
abbrev IsEntry : List ℕ → ℕ × ℕ → Type 0
IsEntry begins entry = (entry.1 < length begins) × (entry.0 ≡ at begins entry.1)

pub returns : goal.returns
returns c =
    let begins = c.args.begins.now in
    let entries = c.loop-segment.order.items in
    let order = c.sort_unstable_by_key.new.self.items in
    let moved = c.sort_unstable_by_key.ensures.permutation in
    record {
      of_one = All-permutation (IsEntry begins) entries order moved
          (All-from_get_or (IsEntry begins) entries (0, 0) (λ i l.
          let small : i < length begins = omega (
            arith,
            l,
            c.loop-segment.invariant.each,
            c.loop-segment.auto.segment-end,
          ) in
          let whole : IsEntry begins (at begins i, i) = (small, refl) in
          subst (IsEntry begins) (sym (c.loop-segment.invariant.so_far i
          (omega (arith, l, c.loop-segment.invariant.each)))) whole));
      all = λ s l.
          let inside : s < c.loop-segment.segment = omega (arith, l, c.loop-segment-test.false) in
          let within : s < length entries =
          omega (arith, inside, c.loop-segment.invariant.each) in
          Contains-permutation entries order (at begins s, s) moved (
            s,
            within,
            get_or_default entries s (at begins s, s) (0, 0) within
                ∙ c.loop-segment.invariant.so_far s inside,
          );
      once = λ i j less h same. one_place entries order i j
          (λ k l. ap (λ (e : ℕ × ℕ). e.1)
          (c.loop-segment.invariant.so_far k (omega (arith, l, c.loop-segment.invariant.each)))
          ∙ omega arith) moved less h same;
      few = omega (arith, c.requires);
      sorted = IsNonDecreasingBy-from_sort_by_key begin_and_number _
          c.sort_unstable_by_key.ensures.sorted (λ a r q k. search rules);
    }
