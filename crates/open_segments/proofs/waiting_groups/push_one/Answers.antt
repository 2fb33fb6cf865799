use Rattle.std.proofs.Common.{ℕ, ◌≡◌, ◌++◌, ◌∷◌, [], List, Vec, Global, ap, sym, ◌∙◌, set, get_or, map}
use Rattle.std.proofs.lemmas.List.{map-set, get_or-map}
use Rattle.open_segments.proofs.waiting_groups.push_one.Goals as goal

pub returns : goal.returns
returns c =
    let lists = c.args.lists.now.items in
    let row : Vec ℕ Global → List ℕ = λ v. v.items in
    let place = c.args.place in
    let old : get_or (map row lists) place [] ≡ c.index_mut.result.now.items =
    get_or-map row lists place c.index_mut.result.now [] c.requires
    ∙ ap row (sym c.index_mut.ensures.value) in
    let new : c.push.new.self.items ≡ get_or (map row lists) place [] ++ c.args.number ∷ [] =
    c.in_ok-push.ensures.items ∙ ap (λ (x : List ℕ). x ++ c.args.number ∷ []) (sym old) in
    map-set row lists place c.push.new.self
    ∙ ap (λ (x : List ℕ). set (map row lists) place x) new
