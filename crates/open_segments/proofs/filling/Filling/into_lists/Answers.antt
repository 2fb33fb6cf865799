use Rattle.std.proofs.Common.{ℕ, ◌≡◌, List, [], length, get_or, sym, ap, ◌∙◌}
use Rattle.open_segments.specs.FilledLists.{Filled, rooms_from}
use Rattle.open_segments.proofs.FilledLists.{full_lists, length_at}
use Rattle.open_segments.proofs.filling.Filling.into_lists.Goals as goal

pub returns : goal.returns
returns c =
    let items : List ℕ = c.self.inside.items.items in
    let ends : List ℕ = c.self.inside.ends.items in
    let counts : List ℕ = c.self.inside.counts.items in
    let full : (place : ℕ) → get_or counts place 0 ≡ get_or (rooms_from 0 ends) place 0 = λ place.
    sym (length_at items 0 ends counts place c.self.invariant.0 c.self.invariant.1)
    ∙ ap (λ (f : Filled). length (get_or f.lists place [])) c.self.view_is
    ∙ c.requires place
    ∙ ap (λ (f : Filled). get_or f.rooms place 0) (sym c.self.view_is) in
    full_lists items 0 ends counts c.self.invariant.0 c.self.invariant.1 full
    ∙ ap (λ (f : Filled). f.lists) c.self.view_is
