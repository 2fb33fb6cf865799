-- Truth values: what std states in another form, or not at all.
use Rattle.std.proofs.Common.{◌≡◌, Bool, true, false, ◌&&◌, ◌||◌, refl}

-- a goal that holds both where the test is met and where it is not
pub bool_cases : {P : Type 0} (b : Bool) → (b ≡ true → P) → (b ≡ false → P) → P
bool_cases true on_true on_false = on_true refl
bool_cases false on_true on_false = on_false refl

-- of two facts that do not both hold, the second fails where the first holds
pub and_right_false : (a b : Bool) → (a && b) ≡ false → a ≡ true → b ≡ false
and_right_false true b not_both holds = not_both
and_right_false false b not_both holds = absurd cc

-- of two facts of which one holds, it is the second where the first fails
pub or_true_right : (a b : Bool) → (a || b) ≡ true → a ≡ false → b ≡ true
or_true_right true b either fails = absurd cc
or_true_right false b either fails = either

-- and the first where the second fails
pub or_true_left : (a b : Bool) → (a || b) ≡ true → b ≡ false → a ≡ true
or_true_left true b either fails = refl
or_true_left false b either fails = absurd cc
