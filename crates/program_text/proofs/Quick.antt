-- Lists that only read do not conflict, nor do lists whose names are numbered apart.
use Rattle.std.proofs.Common.{◌≡◌, Bool, true, false, ◌&&◌, ◌==◌, List, [], ◌∷◌, refl, rules}
use Rattle.std.specs.List.{list_all, list_any}
use Rattle.std.proofs.lemmas.Bool.{ne_eqb}
use Rattle.std.proofs.Common.{ℕ, suc, ◌<◌, inl, inr, length, get_or, arith}
use Rattle.program_text.specs.Conflict.{conflicts_with, items_conflict, kinds_conflict}
use Rattle.program_text.specs.Quick.{AreApart, is_in, is_read}
use Rattle.program_text.specs.declared.statement.DependKind.{DependKind}
use Rattle.program_text.specs.declared.statement.DependKind.TheVariants.{DependIn, DependOut}
use Rattle.program_text.specs.declared.statement.DependKind.TheVariants.{DependInOut}
use Rattle.program_text.specs.declared.statement.DependKind.TheVariants.{DependInOutSet}
use Rattle.program_text.specs.declared.statement.Item.{Item}

both_read : (one other : DependKind)
    → is_in one ≡ true
    → is_in other ≡ true
    → kinds_conflict one other ≡ false
both_read DependIn DependIn h g = refl
both_read DependIn DependOut h g = absurd cc
both_read DependIn DependInOut h g = absurd cc
both_read DependIn DependInOutSet h g = absurd cc
both_read DependOut other h g = absurd cc
both_read DependInOut other h g = absurd cc
both_read DependInOutSet other h g = absurd cc

and_no : (b : Bool) → (b && false) ≡ false
and_no true = refl
and_no false = refl

no_pair : (one other : Item)
    → is_read one ≡ true
    → is_read other ≡ true
    → conflicts_with one other ≡ false
no_pair one other h g =
    let no_conflict = both_read one.kind other.kind h g in rw no_conflict
    (and_no (one.name == other.name))

none_with : (one : Item) (others : List Item) → is_read one ≡ true → list_all is_read others ≡ true
    → list_any (conflicts_with one) others ≡ false
none_with one [] h all = refl
none_with one (other ∷ others) h all =
    let first : is_read other ≡ true = search rules in
    let rest : list_all is_read others ≡ true = search rules in
    let no_conflict = no_pair one other h first in
    rw (no_conflict, none_with one others h rest) refl

pub reads_apart : (earlier later : List Item)
    → list_all is_read earlier ≡ true
    → list_all is_read later ≡ true
    → items_conflict earlier later ≡ false
reads_apart [] later all others = refl
reads_apart (one ∷ earlier) later all others =
    let first : is_read one ≡ true = search rules in
    let rest : list_all is_read earlier ≡ true = search rules in
    rw (none_with one later first others, reads_apart earlier later rest others) refl

-- ---- names apart

apart_pair : (one other : Item) → (one.name ≡ other.name → ⊥) → conflicts_with one other ≡ false
apart_pair one other apart = let differ = ne_eqb one.name other.name apart in rw differ refl

apart_with : (one : Item) (others : List Item)
    → ((k : ℕ) (d : Item) → k < length others → one.name ≡ (get_or others k d).name → ⊥)
    → list_any (conflicts_with one) others ≡ false
apart_with one [] apart = refl
apart_with one (other ∷ others) apart =
    let first = apart_pair one other (apart 0 other (omega arith)) in
    rw (first, apart_with one others (λ k d within. apart (suc k) d (omega arith))) refl

all_apart : (earlier later : List Item)
    → ((j k : ℕ) (c d : Item) → j < length earlier → k < length later
    → (get_or earlier j c).name ≡ (get_or later k d).name → ⊥)
    → items_conflict earlier later ≡ false
all_apart [] later apart = refl
all_apart (one ∷ earlier) later apart =
    let first = apart_with one later (λ k d within. apart 0 k one d (omega arith) within) in
    rw
    (first, all_apart earlier later (λ j k c d here there. apart (suc j) k c d (omega arith) there))
    refl

pub names_apart : (earlier later : List Item)
    → AreApart earlier later
    → items_conflict earlier later ≡ false
names_apart earlier later (inl below) =
    all_apart earlier later (λ j k c d here there same.
    let up = below.up_to j c here in let from = below.from k d there in omega (arith, below.apart))
names_apart earlier later (inr above) =
    all_apart earlier later (λ j k c d here there same.
    let up = above.up_to k d there in let from = above.from j c here in omega (arith, above.apart))
