-- Items that are merged in order: what they mention and share, and that their names ascend.
use Rattle.std.proofs.Common.{ℕ, suc, ◌+◌, ◌≡◌, ◌<◌, ◌≤◌, Bool, true, false, not, ◌&&◌, ◌||◌, ◌==◌, cond}
use Rattle.std.proofs.Common.{List, [], ◌∷◌, ◌++◌, length, get_or, take, Option, Some, None, refl, sym, ◌∙◌}
use Rattle.std.proofs.Common.{ap, subst, inl, inr, arith}
use Rattle.std.specs.Prelude.{nat_le, nat_lt}
use Rattle.std.specs.List.{list_any, list_all}
use Rattle.std.specs.List.Sorted.{IsPermutation, IsNonDecreasingBy}
use Rattle.std.proofs.lemmas.Bool.{and_parts, and_from, cases_Bool, eqb-true, eqb-false, le-leb}
use Rattle.std.proofs.lemmas.Bool.{ltb-true, ltb-false, false≢true}
use Rattle.std.proofs.lemmas.List.{get_or_default}
use Rattle.std.proofs.lemmas.List.Sorted.{list_any-IsPermutation, All-permutation, IsPermutation-sym}
use Rattle.std.proofs.lemmas.List.Sums.{AllPass-from_list_all, list_all-from_AllPass}
use Rattle.std.proofs.lemmas.List.Folds.{list_any-append, list_all-append, list_any_more, list_all_more}
use Rattle.program_text.specs.declared.statement.Item.{Item}
use Rattle.program_text.specs.declared.statement.DependKind.{DependKind}
use Rattle.program_text.specs.declared.statement.DependKind.TheVariants.{DependIn, DependOut}
use Rattle.program_text.specs.declared.statement.DependKind.TheVariants.{DependInOut}
use Rattle.program_text.specs.declared.statement.DependKind.TheVariants.{DependInOutSet}
use Rattle.depend_table.specs.Generations.{mentions, is_kind, has_only, sharing_at, ascend_from}
use Rattle.depend_table.specs.Merged.{AreMerged, both, merged_with, with_last}
use Rattle.depend_table.proofs.Sharing.{Shares}
use Rattle.depend_table.proofs.Sharing.Shares.{Reads, Sets}

-- ---- what is mentioned

one_of_two : (x y : Bool) → (x || (y || false)) ≡ ((x || (y || false)) || y)
one_of_two true y = refl
one_of_two false true = refl
one_of_two false false = refl

one_of_three : (x y z : Bool) → (x || (y || (z || false))) ≡ ((x || (y || false)) || z)
one_of_three true y z = refl
one_of_three false true z = refl
one_of_three false false true = refl
one_of_three false false false = refl

last_alone : (x y : Bool) → (x || (y || false)) ≡ (x || y)
last_alone true y = refl
last_alone false true = refl
last_alone false false = refl

abbrev is_on : ℕ → Item → Bool
is_on name item = item.name == name

mentions_more : (merged : List Item) (last : Option Item) (item : Item) (name : ℕ)
    → mentions name (merged_with merged last item)
    ≡ (mentions name (with_last merged last) || (item.name == name))
mentions_more merged None item name =
    list_any-append (is_on name) merged (item ∷ [])
    ∙ last_alone (mentions name merged) (item.name == name)
mentions_more merged (Some last) item name =
    let before = list_any-append (is_on name) merged (last ∷ []) in
    elim (cases_Bool (last.name == item.name)) [
      | inl same ↦
          let one = eqb-true last.name item.name same in
          let joined : Item = record { kind = both last.kind item.kind; name = item.name } in
          rw same (list_any-append (is_on name) merged (joined ∷ [])
          ∙ one_of_two (mentions name merged) (item.name == name)
          ∙ ap (λ (b : Bool). b || (item.name == name)) (sym (before
          ∙ ap (λ (n : ℕ). mentions name merged || ((n == name) || false)) one)))
      | inr other ↦ rw other (list_any-append (is_on name) merged (last ∷ item ∷ [])
          ∙ one_of_three (mentions name merged) (last.name == name) (item.name == name)
          ∙ ap (λ (b : Bool). b || (item.name == name)) (sym before))
    ]

-- ---- what is shared

both_kind : (a b kind : DependKind) → Shares kind
    → is_kind (both a b) kind ≡ (is_kind a kind && is_kind b kind)
both_kind DependIn DependIn _ Reads = refl
both_kind DependIn DependOut _ Reads = refl
both_kind DependIn DependInOut _ Reads = refl
both_kind DependIn DependInOutSet _ Reads = refl
both_kind DependOut DependIn _ Reads = refl
both_kind DependOut DependOut _ Reads = refl
both_kind DependOut DependInOut _ Reads = refl
both_kind DependOut DependInOutSet _ Reads = refl
both_kind DependInOut DependIn _ Reads = refl
both_kind DependInOut DependOut _ Reads = refl
both_kind DependInOut DependInOut _ Reads = refl
both_kind DependInOut DependInOutSet _ Reads = refl
both_kind DependInOutSet DependIn _ Reads = refl
both_kind DependInOutSet DependOut _ Reads = refl
both_kind DependInOutSet DependInOut _ Reads = refl
both_kind DependInOutSet DependInOutSet _ Reads = refl
both_kind DependIn DependIn _ Sets = refl
both_kind DependIn DependOut _ Sets = refl
both_kind DependIn DependInOut _ Sets = refl
both_kind DependIn DependInOutSet _ Sets = refl
both_kind DependOut DependIn _ Sets = refl
both_kind DependOut DependOut _ Sets = refl
both_kind DependOut DependInOut _ Sets = refl
both_kind DependOut DependInOutSet _ Sets = refl
both_kind DependInOut DependIn _ Sets = refl
both_kind DependInOut DependOut _ Sets = refl
both_kind DependInOut DependInOut _ Sets = refl
both_kind DependInOut DependInOutSet _ Sets = refl
both_kind DependInOutSet DependIn _ Sets = refl
both_kind DependInOutSet DependOut _ Sets = refl
both_kind DependInOutSet DependInOut _ Sets = refl
both_kind DependInOutSet DependInOutSet _ Sets = refl

all_of_two : (x n a b : Bool)
    → (x && ((n || (a && b)) && true)) ≡ ((x && ((n || a) && true)) && (n || b))
all_of_two false n a b = refl
all_of_two true true a b = refl
all_of_two true false false b = refl
all_of_two true false true true = refl
all_of_two true false true false = refl

all_of_three : (x y z : Bool) → (x && (y && (z && true))) ≡ ((x && (y && true)) && z)
all_of_three false y z = refl
all_of_three true false z = refl
all_of_three true true true = refl
all_of_three true true false = refl

all_alone : (x y : Bool) → (x && (y && true)) ≡ (x && y)
all_alone false y = refl
all_alone true true = refl
all_alone true false = refl

abbrev fits : ℕ → DependKind → Item → Bool
fits name kind item = not (item.name == name) || is_kind item.kind kind

only_more : (merged : List Item) (last : Option Item) (item : Item) (name : ℕ) (kind : DependKind)
    → Shares kind
    → has_only name kind (merged_with merged last item)
    ≡ (has_only name kind (with_last merged last) && fits name kind item)
only_more merged None item name kind shares =
    list_all-append (fits name kind) merged (item ∷ [])
    ∙ all_alone (has_only name kind merged) (fits name kind item)
only_more merged (Some last) item name kind shares =
    let before = list_all-append (fits name kind) merged (last ∷ []) in
    elim (cases_Bool (last.name == item.name)) [
      | inl same ↦
          let one = eqb-true last.name item.name same in
          let joined : Item = record { kind = both last.kind item.kind; name = item.name } in
          let apart = not (item.name == name) in
          rw same (list_all-append (fits name kind) merged (joined ∷ [])
          ∙ ap (λ (k : Bool). has_only name kind merged && ((apart || k) && true))
          (both_kind last.kind item.kind kind shares)
          ∙ all_of_two (has_only name kind merged) apart (is_kind last.kind kind)
          (is_kind item.kind kind)
          ∙ ap (λ (b : Bool). b && fits name kind item) (sym (before
          ∙ ap (λ (n : ℕ). has_only name kind merged
          && ((not (n == name) || is_kind last.kind kind) && true)) one)))
      | inr other ↦ rw other (list_all-append (fits name kind) merged (last ∷ item ∷ [])
          ∙ all_of_three (has_only name kind merged) (fits name kind last) (fits name kind item)
          ∙ ap (λ (b : Bool). b && fits name kind item) (sym before))
    ]

-- ---- the names ascend

ascend_renamed : (from : ℕ) (xs : List Item) (a b : Item) → a.name ≡ b.name
    → ascend_from from (xs ++ a ∷ []) ≡ true
    → ascend_from from (xs ++ b ∷ []) ≡ true
ascend_renamed from [] a b same e = subst (λ (n : ℕ). (nat_le from n && true) ≡ true) same e
ascend_renamed from (x ∷ xs) a b same e =
    let parts = and_parts (nat_le from x.name) (ascend_from (x.name + 1) (xs ++ a ∷ [])) e in
    and_from (nat_le from x.name) (ascend_from (x.name + 1) (xs ++ b ∷ [])) parts.0
    (ascend_renamed (x.name + 1) xs a b same parts.1)

ascend_above : (from : ℕ) (xs : List Item) (a b : Item) → a.name < b.name
    → ascend_from from (xs ++ a ∷ []) ≡ true
    → ascend_from from (xs ++ (a ∷ b ∷ [])) ≡ true
ascend_above from [] a b above e =
    let parts = and_parts (nat_le from a.name) true e in
    and_from (nat_le from a.name) (nat_le (a.name + 1) b.name && true) parts.0
    (and_from (nat_le (a.name + 1) b.name) true (le-leb (a.name + 1) b.name (omega (arith, above)))
    refl)
ascend_above from (x ∷ xs) a b above e =
    let parts = and_parts (nat_le from x.name) (ascend_from (x.name + 1) (xs ++ a ∷ [])) e in
    and_from (nat_le from x.name) (ascend_from (x.name + 1) (xs ++ (a ∷ b ∷ []))) parts.0
    (ascend_above (x.name + 1) xs a b above parts.1)

-- ---- all of them

-- the first n of these items are merged; the last one is not above those that follow
pub record AreMergedTo (n : ℕ) (sorted merged : List Item) (last : Option Item) : Type 0 where
  pub ascend : ascend_from 0 (with_last merged last) ≡ true
  pub mentioned : (name : ℕ)
      → mentions name (with_last merged last) ≡ mentions name (take n sorted)
  pub only : (name : ℕ) (kind : DependKind)
      → Shares kind
      → has_only name kind (with_last merged last) ≡ has_only name kind (take n sorted)
  pub first : last ≡ None → merged ≡ []
  pub below : (l : Item)
      → last ≡ Some l
      → (i : ℕ) (d : Item)
      → n ≤ i
      → i < length sorted
      → l.name ≤ (get_or sorted i d).name

less_of : (a b : ℕ) → a ≤ b → (a ≡ b → ⊥) → a < b
less_of a b le other =
    elim (cases_Bool (nat_lt a b)) [
      | inl less ↦ ltb-true a b less
      | inr least ↦ absurd (other (omega (arith, le, ltb-false a b least)))
    ]

ascend_more : (merged : List Item) (last : Option Item) (item : Item)
    → ascend_from 0 (with_last merged last) ≡ true
    → (last ≡ None → merged ≡ [])
    → ((l : Item) → last ≡ Some l → l.name ≤ item.name)
    → ascend_from 0 (merged_with merged last item) ≡ true
ascend_more merged None item e first below =
    rw (first refl) (and_from (nat_le 0 item.name) true (le-leb 0 item.name (omega arith)) refl)
ascend_more merged (Some last) item e first below =
    elim (cases_Bool (last.name == item.name)) [
      | inl same ↦ rw same (ascend_renamed 0 merged last
          (record { kind = both last.kind item.kind; name = item.name })
          (eqb-true last.name item.name same) e)
      | inr other ↦
          rw other (ascend_above 0 merged last item
          (less_of last.name item.name (below last refl) (eqb-false last.name item.name other)) e)
    ]

pub none_merged : (sorted : List Item) → AreMergedTo 0 sorted [] None
none_merged sorted = record {
  ascend = refl;
  mentioned = λ name. refl;
  only = λ name kind shares. refl;
  first = λ is. refl;
  below = λ l is i d le less. absurd cc;
}

-- one more
pub merged_more : (n : ℕ) (sorted merged merged' : List Item) (last : Option Item) (next d : Item)
    → IsNonDecreasingBy (λ (a : Item). a.name) sorted
    → n < length sorted
    → AreMergedTo n sorted merged last
    → merged' ++ next ∷ [] ≡ merged_with merged last (get_or sorted n d)
    → next.name ≡ (get_or sorted n d).name
    → AreMergedTo (n + 1) sorted merged' (Some next)
merged_more n sorted merged merged' last next d sorted_so inside are whole named =
    let item = get_or sorted n d in
    record {
      ascend = subst (λ (xs : List Item). ascend_from 0 xs ≡ true) (sym whole)
          (ascend_more merged last item are.ascend are.first
          (λ l is. are.below l is n d (omega arith) inside));
      mentioned = λ name. ap (mentions name) whole
          ∙ mentions_more merged last item name
          ∙ ap (λ (b : Bool). b || (item.name == name)) (are.mentioned name)
          ∙ sym (list_any_more (is_on name) sorted n d inside);
      only = λ name kind shares. ap (has_only name kind) whole
          ∙ only_more merged last item name kind shares
          ∙ ap (λ (b : Bool). b && fits name kind item) (are.only name kind shares)
          ∙ sym (list_all_more (fits name kind) sorted n d inside);
      first = λ is. absurd cc;
      below = λ l is i e le less.
          let same : l ≡ next = cc in
          let there = sorted_so n i d (omega (arith, le)) less in
          let other : (get_or sorted i d).name ≡ (get_or sorted i e).name =
          ap (λ (a : Item). a.name) (get_or_default sorted i d e less) in
          omega (arith, ap (λ (a : Item). a.name) same, named, there, other);
    }

-- ---- in any order

all_moved : (p : Item → Bool) (xs ys : List Item) → IsPermutation xs ys → list_all p xs ≡ true
    → list_all p ys ≡ true
all_moved p xs ys moved e =
    list_all-from_AllPass p ys
    (All-permutation (λ x. p x ≡ true) xs ys moved (AllPass-from_list_all p xs e))

only_moved : (name : ℕ) (kind : DependKind) (xs ys : List Item) → IsPermutation xs ys
    → has_only name kind xs ≡ has_only name kind ys
only_moved name kind xs ys moved =
    elim (cases_Bool (has_only name kind xs)) [
      | inl all ↦ all ∙ sym (all_moved (fits name kind) xs ys moved all)
      | inr some ↦ elim (cases_Bool (has_only name kind ys)) [
        | inl all ↦ absurd (false≢true (sym some
            ∙ all_moved (fits name kind) ys xs (IsPermutation-sym xs ys moved) all))
        | inr other ↦ some ∙ sym other
      ]
    ]

shared_by : (name : ℕ) (xs ys : List Item)
    → has_only name DependIn xs ≡ has_only name DependIn ys
    → has_only name DependInOutSet xs ≡ has_only name DependInOutSet ys
    → sharing_at name xs ≡ sharing_at name ys
shared_by name xs ys reads sets =
    ap
    (λ (b : Bool). cond b (Some DependIn) (cond (has_only name DependInOutSet xs) (Some DependInOutSet) None))
    reads
    ∙ ap
    (λ (b : Bool). cond (has_only name DependIn ys) (Some DependIn) (cond b (Some DependInOutSet) None))
    sets

-- all of these items are merged
pub merged_all : (n : ℕ) (items merged whole : List Item) (last : Option Item)
    → AreMergedTo n items merged last
    → take n items ≡ items
    → whole ≡ with_last merged last
    → AreMerged items whole
merged_all n items merged whole last are all is =
    let only : (name : ℕ) (kind : DependKind)
    → Shares kind
    → has_only name kind whole ≡ has_only name kind items =
    λ name kind shares. ap (has_only name kind) is
    ∙ are.only name kind shares
    ∙ ap (has_only name kind) all in
    record {
      ascend = subst (λ (xs : List Item). ascend_from 0 xs ≡ true) (sym is) are.ascend;
      mentioned = λ name. ap (mentions name) is ∙ are.mentioned name ∙ ap (mentions name) all;
      shared = λ name. shared_by name whole items (only name DependIn Reads)
          (only name DependInOutSet Sets);
    }

-- and they are those of the same items in another order
pub merged_moved : (items sorted merged : List Item) → IsPermutation items sorted
    → AreMerged sorted merged
    → AreMerged items merged
merged_moved items sorted merged moved are = record {
  ascend = are.ascend;
  mentioned = λ name. are.mentioned name
      ∙ sym (list_any-IsPermutation (is_on name) items sorted moved);
  shared = λ name. are.shared name
      ∙ shared_by name sorted items (sym (only_moved name DependIn items sorted moved))
      (sym (only_moved name DependInOutSet items sorted moved));
}
