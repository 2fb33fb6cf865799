-- Items that mention the same names and share the same there: their tasks have the same conflicts,
-- ranks and kept siblings.
use Rattle.std.proofs.Common.{ℕ, ◌+◌, ◌≡◌, Bool, true, false, List, [], ◌∷◌, refl, sym, ◌∙◌, ap, subst}
use Rattle.std.proofs.Common.{inl, inr, cond, max, Contains}
use Rattle.std.proofs.lemmas.Bool.{cases_Bool, false≢true}
use Rattle.program_text.specs.declared.statement.Item.{Item}
use Rattle.program_text.specs.declared.statement.DependKind.{DependKind}
use Rattle.depend_table.specs.Siblings.{Sibling, conflict_at, rank, IsAmong, IsKept}
use Rattle.depend_table.specs.Generations.{mentions, sharing_at}
use Rattle.depend_table.specs.Entries.{Entry, entry_after, entry_with}
use Rattle.depend_table.specs.Lists.{Lists}
use Rattle.depend_table.specs.Merged.{AreMerged}
use Rattle.depend_table.proofs.Conflicts.{earlier_mentions, later_mentions}
use Rattle.depend_table.proofs.Sharing.{mention, mentions_is_true, apart_sharing, sharing_apart}

pub record ShareAlike (a b : List Item) : Type 0 where
  pub mentioned : (name : ℕ) → mentions name a ≡ mentions name b
  pub shared : (name : ℕ) → sharing_at name a ≡ sharing_at name b

pub either_way : (a b : List Item) → ShareAlike a b → ShareAlike b a
either_way a b alike = record {
  mentioned = λ name. sym (alike.mentioned name);
  shared = λ name. sym (alike.shared name);
}

pub merged_alike : (items merged : List Item) → AreMerged items merged → ShareAlike merged items
merged_alike items merged are = record { mentioned = are.mentioned; shared = are.shared }

-- what conflicts with the one conflicts with the other
conflicts_too : (name : ℕ) (earlier a b : List Item) → ShareAlike a b
    → conflict_at name earlier a ≡ true
    → conflict_at name earlier b ≡ true
conflicts_too name earlier a b alike e =
    elim (cases_Bool (conflict_at name earlier b)) [
      | inl conflicts ↦ conflicts
      | inr apart ↦
          let of_a = mentions_is_true name a (later_mentions name earlier a e) in
          let of_b = mention name b (sym (alike.mentioned name) ∙ of_a) in
          let found = apart_sharing name earlier b (earlier_mentions name earlier a e) of_b apart in
          absurd (false≢true (sym (sharing_apart name earlier a found.0 found.1
          (alike.shared name ∙ found.2))
          ∙ e))
    ]

pub conflicts_alike : (name : ℕ) (earlier a b : List Item) → ShareAlike a b
    → conflict_at name earlier a ≡ conflict_at name earlier b
conflicts_alike name earlier a b alike =
    elim (cases_Bool (conflict_at name earlier a)) [
      | inl of_a ↦ of_a ∙ sym (conflicts_too name earlier a b alike of_a)
      | inr none_of_a ↦ elim (cases_Bool (conflict_at name earlier b)) [
        | inl of_b ↦ absurd (false≢true (sym none_of_a
            ∙ conflicts_too name earlier b a (either_way a b alike) of_b))
        | inr none_of_b ↦ none_of_a ∙ sym none_of_b
      ]
    ]

pub rank_alike : (name : ℕ) (a b : List Item) (siblings : List Sibling) → ShareAlike a b
    → rank name a siblings ≡ rank name b siblings
rank_alike name a b [] alike = refl
rank_alike name a b (sibling ∷ older) alike =
    let below = max (rank name sibling.items older + 1) in
    let same = rank_alike name a b older alike in
    ap (λ (c : Bool). cond c (below (rank name a older)) (rank name a older))
    (conflicts_alike name sibling.items a b alike)
    ∙ ap (λ (n : ℕ). cond (conflict_at name sibling.items b) (below n) n) same

kept_too : (siblings : List Sibling) (a b : List Item) (task : ℕ) → ShareAlike a b
    → IsKept siblings a task
    → IsKept siblings b task
kept_too siblings a b task alike kept = record {
  earlier = kept.earlier;
  older = kept.older;
  among = kept.among;
  number = kept.number;
  name = kept.name;
  conflicts =
      sym (conflicts_alike kept.name kept.earlier.items a b alike) ∙ kept.conflicts;
  one_less = kept.one_less ∙ rank_alike kept.name a b siblings alike;
}

-- and their tasks keep the same siblings
pub kept_alike : (siblings : List Sibling) (a b : List Item) (tasks : List ℕ) → ShareAlike a b
    → Lists (IsKept siblings a) tasks
    → Lists (IsKept siblings b) tasks
kept_alike siblings a b tasks alike lists = record {
  ascending = lists.ascending;
  each = λ n. (
    (λ inside. kept_too siblings a b n alike ((lists.each n).0 inside)),
    (λ kept. (lists.each n).1 (kept_too siblings b a n (either_way a b alike) kept)),
  );
}

-- and enter the same at each name
pub entered_alike : (place : ℕ) (a b : List Item) (name : ℕ) (entry : Entry) → ShareAlike a b
    → entry_after place a a name entry ≡ entry_after place b b name entry
entered_alike place a b name entry alike =
    ap (λ (c : Bool). cond c (entry_with place (sharing_at name a) entry) entry)
    (alike.mentioned name)
    ∙ ap (λ sharing. cond (mentions name b) (entry_with place sharing entry) entry)
    (alike.shared name)
