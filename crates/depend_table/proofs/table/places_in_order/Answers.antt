use Rattle.std.proofs.Common.{ℕ, List, subst}
use Rattle.std.proofs.lemmas.List.Filters.{dedup_is}
use Rattle.std.proofs.lemmas.List.Kept.{Contains-dedup_nat, Contains-from_dedup}
use Rattle.std.proofs.lemmas.List.Sorted.{Contains-permutation, IsPermutation-sym}
use Rattle.std.proofs.lemmas.Map.Keys.{IsStrictlyIncreasing-dedup}
use Rattle.std.specs.Prelude.{Contains}
use Rattle.depend_table.specs.Lists.{Lists}
use Rattle.depend_table.proofs.table.places_in_order.Goals as goal

pub returns : goal.returns
returns c =
    let is = dedup_is _ _ _ c.dedup.ensures.filtered in
    let moved = c.sort_unstable.ensures.permutation in
    subst (λ (all : List ℕ). Lists (Contains all) c.dedup.new.self.items) c.in_ok-gathered.ensures
    (record {
      ascending = rw is (IsStrictlyIncreasing-dedup _ c.sort_unstable.ensures.sorted);
      each = λ x. (
        (λ h. Contains-permutation _ _ x (IsPermutation-sym _ _ moved)
            (Contains-from_dedup _ _ x (rw is at h))),
        (λ h. rw is (Contains-dedup_nat _ x (Contains-permutation _ _ x moved h))),
      );
    })
