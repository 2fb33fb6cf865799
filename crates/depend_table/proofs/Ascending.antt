-- Items whose names ascend: each name has one item.
use Rattle.std.proofs.Common.{ℕ, zero, suc, ◌+◌, ◌≡◌, ◌<◌, ◌≤◌, true, false, ◌==◌}
use Rattle.std.proofs.Common.{List, [], ◌∷◌, length, get_or, take, refl, sym, ap, ◌∙◌, arith}
use Rattle.std.proofs.Common.{Bool, Option, Some, None, cond}
use Rattle.std.specs.Prelude.{nat_le}
use Rattle.std.proofs.Math.Bool.{and-true}
use Rattle.std.proofs.lemmas.Bool.{and_parts, and_from, leb-true, le-leb, ne_eqb, eq-eqb}
use Rattle.program_text.specs.declared.statement.Item.{Item}
use Rattle.program_text.specs.declared.statement.DependKind.{DependKind}
use Rattle.program_text.specs.declared.statement.DependKind.TheVariants.{DependIn, DependOut}
use Rattle.program_text.specs.declared.statement.DependKind.TheVariants.{DependInOut}
use Rattle.program_text.specs.declared.statement.DependKind.TheVariants.{DependInOutSet}
use Rattle.depend_table.specs.Generations.{mentions, is_kind, has_only, sharing_at, ascend_from}
use Rattle.depend_table.specs.Merged.{alone}

-- the names are numbered from the first number on
name_from : (from i : ℕ) (d : Item) (items : List Item) → ascend_from from items ≡ true
    → i < length items → from ≤ (get_or items i d).name
name_from from i d [] e h = absurd (omega arith)
name_from from zero d (x ∷ xs) e h =
    leb-true from x.name (and_parts (nat_le from x.name) (ascend_from (x.name + 1) xs) e).0
name_from from (suc i) d (x ∷ xs) e h =
    let parts = and_parts (nat_le from x.name) (ascend_from (x.name + 1) xs) e in
    let first = leb-true from x.name parts.0 in
    let later = name_from (x.name + 1) i d xs parts.1 (omega arith) in
    omega arith

-- a lesser name is not among them
not_mentioned : (from name : ℕ) (kind : DependKind) (items : List Item)
    → ascend_from from items ≡ true → name < from → has_only name kind items ≡ true
not_mentioned from name kind [] e less = refl
not_mentioned from name kind (x ∷ xs) e less =
    let parts = and_parts (nat_le from x.name) (ascend_from (x.name + 1) xs) e in
    let first : from ≤ x.name = leb-true from x.name parts.0 in
    let other : (x.name == name) ≡ false = ne_eqb x.name name (λ same. omega arith) in
    rw (other, not_mentioned (x.name + 1) name kind xs parts.1 (omega arith)) refl

-- all items on the name of one have that one's type
pub has_only_its : (from i : ℕ) (d : Item) (kind : DependKind) (items : List Item)
    → ascend_from from items ≡ true → i < length items
    → has_only (get_or items i d).name kind items ≡ is_kind (get_or items i d).kind kind
has_only_its from i d kind [] e h = absurd (omega arith)
has_only_its from zero d kind (x ∷ xs) e h =
    let parts = and_parts (nat_le from x.name) (ascend_from (x.name + 1) xs) e in
    let same : (x.name == x.name) ≡ true = eq-eqb x.name x.name refl in
    let rest : has_only x.name kind xs ≡ true =
    not_mentioned (x.name + 1) x.name kind xs parts.1 (omega arith) in
    rw (same, rest) (and-true (is_kind x.kind kind))
has_only_its from (suc i) d kind (x ∷ xs) e h =
    let parts = and_parts (nat_le from x.name) (ascend_from (x.name + 1) xs) e in
    let above : x.name + 1 ≤ (get_or xs i d).name =
    name_from (x.name + 1) i d xs parts.1 (omega arith) in
    let other : (x.name == (get_or xs i d).name) ≡ false =
    ne_eqb x.name (get_or xs i d).name (λ same. omega arith) in
    rw other (has_only_its (x.name + 1) i d kind xs parts.1 (omega arith))

-- none of the items before one is on its name
pub not_repeated : (from i : ℕ) (d : Item) (items : List Item)
    → ascend_from from items ≡ true → i < length items
    → mentions (get_or items i d).name (take i items) ≡ false
not_repeated from i d [] e h = absurd (omega arith)
not_repeated from zero d (x ∷ xs) e h = refl
not_repeated from (suc i) d (x ∷ xs) e h =
    let parts = and_parts (nat_le from x.name) (ascend_from (x.name + 1) xs) e in
    let above : x.name + 1 ≤ (get_or xs i d).name =
    name_from (x.name + 1) i d xs parts.1 (omega arith) in
    let other : (x.name == (get_or xs i d).name) ≡ false =
    ne_eqb x.name (get_or xs i d).name (λ same. omega arith) in
    rw other (not_repeated (x.name + 1) i d xs parts.1 (omega arith))

-- what an item that is alone on its name lets its task share, as the definition of sharing has it
abbrev alone_by : DependKind → Option DependKind
alone_by kind = cond (is_kind kind DependIn) (Some DependIn)
    (cond (is_kind kind DependInOutSet) (Some DependInOutSet) None)

alone_so : (kind : DependKind) → alone_by kind ≡ alone kind
alone_so DependIn = refl
alone_so DependOut = refl
alone_so DependInOut = refl
alone_so DependInOutSet = refl

pub sharing_alone : (i : ℕ) (d : Item) (items : List Item) → ascend_from 0 items ≡ true
    → i < length items
    → sharing_at (get_or items i d).name items ≡ alone (get_or items i d).kind
sharing_alone i d items up inside =
    let item = get_or items i d in
    ap
    (λ (b : Bool). cond b (Some DependIn) (cond (has_only item.name DependInOutSet items) (Some DependInOutSet) None))
    (has_only_its 0 i d DependIn items up inside)
    ∙ ap
    (λ (b : Bool). cond (is_kind item.kind DependIn) (Some DependIn) (cond b (Some DependInOutSet) None))
    (has_only_its 0 i d DependInOutSet items up inside)
    ∙ alone_so item.kind

-- one item ascends
pub one_ascends : (items : List Item) → length items ≡ 1 → ascend_from 0 items ≡ true
one_ascends [] one = absurd (omega (arith, one))
one_ascends (x ∷ []) one = and_from (nat_le 0 x.name) true (le-leb 0 x.name (omega arith)) refl
one_ascends (x ∷ y ∷ xs) one = absurd (omega (arith, one))
