use Rattle.std.proofs.Common.{ℕ, List, subst, sym}
use Rattle.std.proofs.lemmas.List.{append-nil}
use Rattle.large_text.specs.LargeTexts.{FitsText}
use Rattle.refused_growths.proofs.tests.large.of_spent.Goals as goal

pub finish-requires : goal.finish-requires
finish-requires c =
    let before = c.requires.room in record {
      bytes = before.bytes;
      taken = c.in-Err.ensures.kept before.bytes before.taken;
      fits = subst (λ (bytes : List ℕ). FitsText bytes) (sym (append-nil before.bytes))
          before.taken.fits;
    }
