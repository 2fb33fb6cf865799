use Rattle.std.proofs.Common.{rules}
use Rattle.std.proofs.Common.{ℕ, ◌≡◌, ◌<◌, length, Contains, sym, ap, ◌∙◌, subst, arith, get_or}
use Rattle.std.specs.Prelude.{slice_set}
use Rattle.std.proofs.lemmas.List.Edits.{map_over_more}
use Rattle.std.proofs.lemmas.List.Elements.{Contains-get_or}
use Rattle.open_segments.specs.WaysToOpen.{last_segment}
use Rattle.open_segments.proofs.ListLemmas.{read_over}
use Rattle.open_segments.proofs.beginning.to_last_segments.Goals as goal

pub last-requires : goal.last-requires
last-requires g c = (
  search rules,
  (
      let here : ℕ = c.index.result.now in
      let is : here ≡ get_or c.args.tasks.now.items c.loop-at.at here = read_over
      (last_segment c.args.table.now) c.args.tasks.now.items c.loop-at.tasks.items c.loop-at.at here
      (omega (arith, c.loop-at-test.true, c.len-at-end.ensures)) c.loop-at.invariant.0
      c.index.ensures in
      c.requires here (subst (λ (n : ℕ). Contains c.args.tasks.now.items n) (sym is)
      (Contains-get_or c.args.tasks.now.items c.loop-at.at here
      (omega (arith, c.loop-at-test.true, c.len-at-end.ensures))))
      ),
)

pub loop-at-preserved : goal.loop-at-preserved
loop-at-preserved g c =
    let last : ℕ → ℕ = last_segment c.args.table.now in
    let here : ℕ = c.index.result.now in
    let written : c.last.result ≡ last here = c.last.ensures in
    let within : c.loop-at.at < length c.args.tasks.now.items =
    omega (arith, c.loop-at-test.true, c.len-at-end.ensures) in (
      ap (λ (y : ℕ). slice_set c.loop-at.tasks.items c.loop-at.at y) written
          ∙ map_over_more last c.args.tasks.now.items c.loop-at.tasks.items c.loop-at.at here within
          c.loop-at.invariant.0 c.index.ensures,
      c.loop-at.invariant.1,
    )
