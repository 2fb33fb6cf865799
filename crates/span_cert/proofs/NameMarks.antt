-- Items that conflict with marked items stand at their marks.
use Rattle.std.proofs.Common.{ℕ, suc, ◌≡◌, ◌+◌, Bool, true, false, ◌==◌, List, [], ◌∷◌, get_or, refl}
use Rattle.std.proofs.Common.{◌∙◌, ap, subst, inl, inr, arith}
use Rattle.std.specs.List.{list_any}
use Rattle.std.proofs.lemmas.Bool.{and_parts, or_cases, or_left, or_right, eqb-true}
use Rattle.std.proofs.lemmas.Bool.{cases_lt}
use Rattle.std.proofs.lemmas.List.{get_or_default}
use Rattle.program_text.specs.Conflict.{conflicts_with, items_conflict, kinds_conflict}
use Rattle.program_text.specs.declared.statement.DependKind.{DependKind}
use Rattle.program_text.specs.declared.statement.DependKind.TheVariants.{DependIn, DependInOutSet}
use Rattle.program_text.specs.declared.statement.DependKind.TheVariants.{DependOut, DependInOut}
use Rattle.program_text.specs.declared.statement.Item.{Item}
use Rattle.span_cert.specs.NameMarks.{AreMarked, AreMarkedUpTo, IsMarked, has_mark, is_in}
use Rattle.span_cert.specs.NameMarks.{is_set, meets, meets_kind}
use Rattle.span_cert.specs.declared.name_marks.NameMarks.{NameMarks}

-- one more item is marked, and marks that stood stay
pub marked_more : (before after : NameMarks) (t : ℕ) (items : List Item) (n : ℕ) (none : Item)
    → ((name : ℕ) → has_mark before.not_read.items name t ≡ true
    → has_mark after.not_read.items name t ≡ true)
    → ((name : ℕ) → has_mark before.not_set.items name t ≡ true
    → has_mark after.not_set.items name t ≡ true)
    → IsMarked after t (get_or items n none)
    → AreMarkedUpTo before t items n
    → AreMarkedUpTo after t items (n + 1)
marked_more before after t items n none read set here are k other below inside =
    elim (cases_lt k n) [
      | inl earlier ↦
          let old = are k other earlier inside in
          record {
            not_read = λ no. read _ (old.not_read no);
            not_set = λ no. set _ (old.not_set no);
          }
      | inr last ↦
          let same : n ≡ k = omega arith in
          let P : ℕ → Type 0 = λ place. IsMarked after t (get_or items place none) in
          let Q : Item → Type 0 = λ item. IsMarked after t item in
          subst Q (get_or_default items k none other inside) (subst P same here)
    ]

-- two types that conflict, of which the second has left its marks
kinds_meet : (one other : DependKind) (not_read not_set : Bool)
    → kinds_conflict one other ≡ true
    → (is_in other ≡ false → not_read ≡ true)
    → (is_set other ≡ false → not_set ≡ true)
    → meets_kind one not_read not_set ≡ true
kinds_meet DependIn DependIn r s conflict read set = absurd cc
kinds_meet DependIn _ r s conflict read set = read refl
kinds_meet DependInOutSet DependInOutSet r s conflict read set = absurd cc
kinds_meet DependInOutSet _ r s conflict read set = set refl
kinds_meet DependOut DependIn r s conflict read set = or_right r s (set refl)
kinds_meet DependOut _ r s conflict read set = or_left r s (read refl)
kinds_meet DependInOut DependIn r s conflict read set = or_right r s (set refl)
kinds_meet DependInOut _ r s conflict read set = or_left r s (read refl)

pair_meets : (marks : NameMarks) (t : ℕ) (one other : Item)
    → IsMarked marks t other
    → conflicts_with one other ≡ true
    → meets marks t one ≡ true
pair_meets marks t one other marked conflict =
    let both = and_parts (one.name == other.name) (kinds_conflict one.kind other.kind) conflict in
    let same : one.name ≡ other.name = eqb-true one.name other.name both.0 in
    kinds_meet one.kind other.kind (has_mark marks.not_read.items one.name t)
    (has_mark marks.not_set.items one.name t) both.1
    (λ no. ap (λ n. has_mark marks.not_read.items n t) same ∙ marked.not_read no)
    (λ no. ap (λ n. has_mark marks.not_set.items n t) same ∙ marked.not_set no)

one_meets : (marks : NameMarks) (t : ℕ) (one : Item) (others : List Item)
    → AreMarked marks t others
    → list_any (conflicts_with one) others ≡ true
    → meets marks t one ≡ true
one_meets marks t one [] marked conflict = absurd cc
one_meets marks t one (other ∷ others) marked conflict =
    elim (or_cases (conflicts_with one other) (list_any (conflicts_with one) others) conflict) [
      | inl here ↦
          pair_meets marks t one other (marked 0 other (omega arith) (omega arith)) here
      | inr there ↦ one_meets marks t one others
          (λ k d within all. marked (suc k) d (omega arith) (omega arith)) there
    ]

pub items_meet : (marks : NameMarks) (t : ℕ) (items others : List Item)
    → AreMarked marks t others
    → items_conflict items others ≡ true
    → list_any (meets marks t) items ≡ true
items_meet marks t [] others marked conflict = absurd cc
items_meet marks t (one ∷ items) others marked conflict =
    elim (or_cases (list_any (conflicts_with one) others) (items_conflict items others) conflict) [
      | inl here ↦ or_left (meets marks t one) (list_any (meets marks t) items)
          (one_meets marks t one others marked here)
      | inr there ↦ or_right (meets marks t one) (list_any (meets marks t) items)
          (items_meet marks t items others marked there)
    ]
