use Rattle.std.proofs.Common.{◌≡◌, ◌∙◌, ap, map, List, ℕ}
use Rattle.std.specs.String.{string_bytes}
use Rattle.std.specs.Str.{bytes_eq}
use Rattle.task_program.specs.Names.{number_of_name, with_name}
use Rattle.task_program.proofs.Naming.{insert-map, position_or_len-map}
use Rattle.task_program.proofs.names.Names.add.Goals as goal

pub returns-clause-number : goal.returns-clause-number
returns-clause-number c =
    let bytes : string_bytes c.in_ok-from_str.field-0 ≡ c.args.name.now =
    c.in_ok-from_str.ensures.ok in
    c.in_ok-number.ensures.index
    ∙ position_or_len-map (bytes_eq (string_bytes c.in_ok-from_str.field-0)) string_bytes
    c.self.inside.names.keys
    ∙ ap (λ (b : List ℕ). number_of_name (map string_bytes c.self.inside.names.keys) b) bytes
    ∙ ap (λ (names : List (List ℕ)). number_of_name names c.args.name.now) c.self.view_is

pub returns-clause-ok : goal.returns-clause-ok
returns-clause-ok c =
    let bytes : string_bytes c.in_ok-from_str.field-0 ≡ c.args.name.now =
    c.in_ok-from_str.ensures.ok in
    ap (map string_bytes) c.in_ok-number.ensures.keys
    ∙ insert-map (bytes_eq (string_bytes c.in_ok-from_str.field-0)) string_bytes
    c.self.inside.names.keys c.in_ok-from_str.field-0
    ∙ ap (λ (b : List ℕ). with_name (map string_bytes c.self.inside.names.keys) b) bytes
    ∙ ap (λ (names : List (List ℕ)). with_name names c.args.name.now) c.self.view_is
