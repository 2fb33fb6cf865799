use Rattle.std.proofs.Common.{◌∙◌, ap, List, ℕ}
use Rattle.std.specs.String.{string_bytes}
use Rattle.std.specs.List.{list_any}
use Rattle.std.specs.Str.{bytes_eq}
use Rattle.task_program.specs.Names.{number_of_name}
use Rattle.task_program.proofs.Naming.{list_any-map, position_or_len-map}
use Rattle.task_program.proofs.Naming.{position_or_len-found, with_name-known}
use Rattle.task_program.proofs.names.Names.number_in.Goals as goal

pub returns-in-Some-clause-number : goal.returns-in-Some-clause-number
returns-in-Some-clause-number c =
    let name : List ℕ = c.args.name.now in
    position_or_len-found (λ key. bytes_eq name (string_bytes key)) c.self.inside.names.keys
    c.in-Some.number c.in-Some.ensures.index
    ∙ position_or_len-map (bytes_eq name) string_bytes c.self.inside.names.keys
    ∙ ap (λ (names : List (List ℕ)). number_of_name names name) c.self.view_is

pub returns-in-Some-clause-ok : goal.returns-in-Some-clause-ok
returns-in-Some-clause-ok c =
    let name : List ℕ = c.args.name.now in
    with_name-known c.args.self.now name
    (c.in-Some.ensures.found ∙ list_any-map (bytes_eq name) string_bytes c.self.inside.names.keys
    ∙ ap (λ (names : List (List ℕ)). list_any (bytes_eq name) names) c.self.view_is)
