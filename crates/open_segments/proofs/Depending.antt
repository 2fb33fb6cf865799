-- The kept siblings of a task are among those with depend items.
use Rattle.std.proofs.Common.{ℕ, zero, suc, ◌+◌, ◌<◌, ◌≡◌, ◌≢◌, Bool, true, false, List, [], ◌∷◌, Some, length}
use Rattle.std.proofs.Common.{get_or, refl, sym, ap, ◌∙◌, subst, inl, inr, replicate, arith, All, ◌==◌}
use Rattle.std.specs.Prelude.{slice_set, if◌then◌else◌}
use Rattle.std.proofs.lemmas.Bool.{cases_eq, false≢true}
use Rattle.std.proofs.lemmas.Option.{get_or_from_slice_get, slice_get_within}
use Rattle.std.proofs.lemmas.List.{get_or-set_same, get_or-set_other}
use Rattle.std.proofs.lemmas.List.Elements.{All-cons}
use Rattle.program_text.specs.declared.statement.Item.{Item}
use Rattle.task_segments.specs.Table.{Table, segment, task}
use Rattle.task_segments.specs.declared.table.Closing.TheVariants.{Creates}
use Rattle.task_segments.specs.Precedence.{IsSegment}
use Rattle.task_segments.specs.InPlace.{IsReadInPlace}
use Rattle.depend_table.specs.Lists.{Lists}
use Rattle.depend_table.specs.Siblings.{Sibling, IsAmong, IsKept, conflict_at, rank}
use Rattle.depend_table.specs.Siblings.IsAmong.{Newest, Below}
use Rattle.depend_table.specs.KeptEdges.{children_below}
use Rattle.depend_table.proofs.Lists.{lists_same}
use Rattle.open_segments.specs.Families.{FamilyMap, family_at, has_items, depending, AreInFamilies}
use Rattle.open_segments.proofs.KeptLists.{entered_child, entered_first, entered_so_far, entered_still}

no_items : (items : List Item) → has_items items ≡ false → items ≡ []
no_items [] none = refl
no_items (item ∷ items) none = absurd (false≢true (sym none))

pub not_empty : (items : List Item) → (length items == 0) ≡ false → has_items items ≡ true
not_empty [] none = absurd (false≢true (sym none))
not_empty (item ∷ items) none = refl

some_items : (name : ℕ) (earlier later : List Item) → conflict_at name earlier later ≡ true
    → has_items earlier ≡ true
some_items name [] later conflicts = absurd (false≢true conflicts)
some_items name (item ∷ items) later conflicts = refl

-- one sibling more, with depend items or without
rank_step : (name : ℕ) (items : List Item) (sibling : Sibling) (older : List Sibling)
    → rank name sibling.items (depending older) ≡ rank name sibling.items older
    → rank name items (depending older) ≡ rank name items older
    → rank name items (depending (sibling ∷ older)) ≡ rank name items (sibling ∷ older)
rank_step name items sibling older its rest = by_items (has_items sibling.items) refl
  where
    by_items : (some : Bool) → has_items sibling.items ≡ some
        → rank name items (if some then sibling ∷ depending older else depending older)
        ≡ rank name items (sibling ∷ older)
    by_items true is = rw (its, rest) refl
    by_items false is =
        let none : conflict_at name sibling.items items ≡ false =
        ap (λ (l : List Item). conflict_at name l items) (no_items sibling.items is) in
        rw none rest

pub rank_depending : (name : ℕ) (items : List Item) (siblings : List Sibling)
    → rank name items (depending siblings) ≡ rank name items siblings
rank_depending name items [] = refl
rank_depending name items (sibling ∷ older) =
    rank_step name items sibling older (rank_depending name sibling.items older)
    (rank_depending name items older)

-- a sibling with those before it, of which these have depend items
record AmongAll (siblings : List Sibling) (x : Sibling) (kept : List Sibling) : Type 0 where
  older : List Sibling
  among : IsAmong siblings x older
  same : depending older ≡ kept

newest_or_older : (y x : Sibling) (ys kept : List Sibling)
    → (IsAmong (depending ys) x kept → AmongAll ys x kept)
    → IsAmong (y ∷ depending ys) x kept
    → AmongAll (y ∷ ys) x kept
newest_or_older y x ys kept rest Newest = record { older = ys; among = Newest; same = refl }
newest_or_older y x ys kept rest (Below among) =
    let found = rest among in
    record { older = found.older; among = Below found.among; same = found.same }

among_step : (y x : Sibling) (ys kept : List Sibling) (some : Bool)
    → (IsAmong (depending ys) x kept → AmongAll ys x kept)
    → IsAmong (if some then y ∷ depending ys else depending ys) x kept
    → AmongAll (y ∷ ys) x kept
among_step y x ys kept true rest among = newest_or_older y x ys kept rest among
among_step y x ys kept false rest among =
    let found = rest among in
    record { older = found.older; among = Below found.among; same = found.same }

among_all : (siblings : List Sibling) (x : Sibling) (kept : List Sibling)
    → IsAmong (depending siblings) x kept → AmongAll siblings x kept
among_all [] x kept among = elim among [ ]
among_all (y ∷ ys) x kept among =
    among_step y x ys kept (has_items y.items) (among_all ys x kept) among

depending_step : (y x : Sibling) (ys older : List Sibling) (some : Bool)
    → IsAmong (depending ys) x older
    → IsAmong (if some then y ∷ depending ys else depending ys) x older
depending_step y x ys older true among = Below among
depending_step y x ys older false among = among

depending_first : (x : Sibling) (older : List Sibling) (some : Bool) → some ≡ true
    → IsAmong (if some then x ∷ depending older else depending older) x (depending older)
depending_first x older true is = Newest
depending_first x older false is = absurd (false≢true is)

among_depending : {siblings older : List Sibling} {x : Sibling} → IsAmong siblings x older
    → has_items x.items ≡ true → IsAmong (depending siblings) x (depending older)
among_depending (Newest {x} {older}) some = depending_first x older (has_items x.items) some
among_depending (Below {x} {y} {siblings} {older} among) some =
    depending_step y x siblings (depending older) (has_items y.items) (among_depending among some)

kept_of_all : (siblings : List Sibling) (items : List Item) (t : ℕ)
    → IsKept (depending siblings) items t → IsKept siblings items t
kept_of_all siblings items t kept =
    let found = among_all siblings kept.earlier kept.older kept.among in
    record {
      earlier = kept.earlier;
      older = found.older;
      among = found.among;
      number = kept.number;
      name = kept.name;
      conflicts = kept.conflicts;
      one_less = ap (λ n. n + 1) (sym (rank_depending kept.name kept.earlier.items found.older)
          ∙ ap (λ (l : List Sibling). rank kept.name kept.earlier.items l) found.same)
          ∙ kept.one_less
          ∙ rank_depending kept.name items siblings;
    }

kept_of_depending : (siblings : List Sibling) (items : List Item) (t : ℕ)
    → IsKept siblings items t → IsKept (depending siblings) items t
kept_of_depending siblings items t kept = record {
  earlier = kept.earlier;
  older = depending kept.older;
  among = among_depending kept.among
      (some_items kept.name kept.earlier.items items kept.conflicts);
  number = kept.number;
  name = kept.name;
  conflicts = kept.conflicts;
  one_less = ap (λ n. n + 1) (rank_depending kept.name kept.earlier.items kept.older)
      ∙ kept.one_less
      ∙ sym (rank_depending kept.name items siblings);
}

-- the same siblings are kept
pub kept_depending : (family siblings : List Sibling) (items : List Item) (kept : List ℕ)
    → family ≡ depending siblings
    → Lists (IsKept family items) kept
    → Lists (IsKept siblings items) kept
kept_depending family siblings items kept is lists =
    lists_same (IsKept (depending siblings) items) (IsKept siblings items) kept
    (subst (λ (l : List Sibling). Lists (IsKept l items) kept) is lists)
    (kept_of_all siblings items) (kept_of_depending siblings items)

pub one_depending : (child : Sibling) (siblings : List Sibling) → has_items child.items ≡ true
    → depending (child ∷ siblings) ≡ child ∷ depending siblings
one_depending child siblings is =
    ap (λ (b : Bool). if b then child ∷ depending siblings else depending siblings) is

-- what holds of all holds of those with depend items
pub depending_all : (P : Sibling → Type 0) (siblings : List Sibling) → All P siblings
    → All P (depending siblings)
depending_all P [] all = all
depending_all P (sibling ∷ older) all =
    with_or_without (has_items sibling.items)
    (depending_all P older (λ k d h. all (suc k) d (omega arith)))
  where
    with_or_without : (some : Bool) → All P (depending older)
        → All P (if some then sibling ∷ depending older else depending older)
    with_or_without true rest =
        All-cons P sibling (depending older) (all zero sibling (omega arith)) rest
    with_or_without false rest = rest

-- before the first segment
pub families_first : (table : Table) (families : FamilyMap)
    → ((p : ℕ) → family_at families p ≡ [])
    → AreInFamilies table 0 families
families_first table families none = record {
  siblings = replicate (length table.tasks) [];
  entered = entered_first table;
  family = λ p. none p ∙ sym (ap depending (nothing (length table.tasks) p));
}
  where
    nothing : (n p : ℕ) → get_or (replicate {A = List Sibling} n []) p [] ≡ []
    nothing zero p = refl
    nothing (suc n) zero = refl
    nothing (suc n) (suc p) = nothing n p

-- where the next segment creates no task
pub families_still : (table : Table) (s : ℕ) (families : FamilyMap) → IsSegment table s
    → ((child : ℕ) → ¬ ((task table child).creator ≡ Some s))
    → AreInFamilies table s families
    → AreInFamilies table (s + 1) families
families_still table s families known none so_far = record {
  siblings = so_far.siblings;
  entered = entered_still table s so_far.siblings known none so_far.entered;
  family = so_far.family;
}

-- before the child c of p is entered, which the next segment creates
pub families_so_far : (table : Table) (s c p : ℕ) (families : FamilyMap)
    → IsReadInPlace table
    → IsSegment table s
    → (segment table s).closing ≡ Creates c
    → (task table c).parent ≡ Some p
    → AreInFamilies table s families
    → family_at families p ≡ depending (children_below table p c)
families_so_far table s c p families facts known closing of_p so_far =
    so_far.family p
    ∙ ap depending (get_or_from_slice_get so_far.siblings p (children_below table p c) []
    (entered_so_far table s c p so_far.siblings facts known closing of_p so_far.entered))

-- and after it
pub families_child : (table : Table) (s c p : ℕ) (families after : FamilyMap)
    → IsReadInPlace table
    → IsSegment table s
    → (segment table s).closing ≡ Creates c
    → (task table c).parent ≡ Some p
    → AreInFamilies table s families
    → family_at after p ≡ depending
    (record { task = c; items = (task table c).items } ∷ children_below table p c)
    → ((q : ℕ) → q ≢ p → family_at after q ≡ family_at families q)
    → AreInFamilies table (s + 1) after
families_child table s c p families after facts known closing of_p so_far its others = record {
  siblings = slice_set so_far.siblings p one;
  entered = entered_child table s c p so_far.siblings facts known closing of_p so_far.entered;
  family = λ q. elim (cases_eq q p) [
    | inl same ↦ subst
        (λ (k : ℕ). family_at after k ≡ depending (get_or (slice_set so_far.siblings p one) k []))
        (sym same)
        (its ∙ sym (ap depending (get_or-set_same so_far.siblings p one [] within)))
    | inr apart ↦ others q apart ∙ so_far.family q
        ∙ sym (ap depending (get_or-set_other so_far.siblings p q one [] apart))
  ];
}
  where
    one : List Sibling
    one = record { task = c; items = (task table c).items } ∷ children_below table p c

    within : p < length so_far.siblings
    within = slice_get_within so_far.siblings p (children_below table p c)
        (entered_so_far table s c p so_far.siblings facts known closing of_p so_far.entered)
