-- What holds of each element of two lists in a row holds of each element of either.
use Rattle.std.proofs.Common.{List, ◌∷◌, ◌++◌, length, take, drop, sym}
use Rattle.std.specs.Prelude.{All}
use Rattle.std.proofs.Math.Seq.{take-append_seam, drop-append_seam}
use Rattle.std.proofs.lemmas.List.Elements.{All-head, All-same, All-take, All-drop}

pub all_front : {X : Type 0} (P : X → Type 0) (one other : List X) → All P (one ++ other) → All P one
all_front P one other all =
    All-same P one (take (length one) (one ++ other)) (sym (take-append_seam one other))
    (All-take P (length one) (one ++ other) all)

pub all_back : {X : Type 0} (P : X → Type 0) (one other : List X) → All P (one ++ other) → All P other
all_back P one other all =
    All-same P other (drop (length one) (one ++ other)) (sym (drop-append_seam one other))
    (All-drop P (length one) (one ++ other) all)

-- and of the one between them
pub all_middle : {X : Type 0} (P : X → Type 0) (one : List X) (x : X) (other : List X)
    → All P (one ++ x ∷ other)
    → P x
all_middle P one x other all = All-head P x other (all_back P one (x ∷ other) all)
