use Rattle.std.proofs.Common.{◌≡◌, ◌∙◌, ◌<◌, ◌^◌, ap, length, map, subst, sym, []}
use Rattle.std.specs.String.{string_bytes, string_eq, string_eq_equiv}
use Rattle.indexmap.specs.IndexSet.{insert_all}
use Rattle.indexmap.proofs.SetLemmas.{set_all_distinct}
use Rattle.task_program.proofs.names.Names.change_key.Goals as goal

-- src/names.rt:91:5
pub invariant_of-self-2 : goal.invariant_of-self-2
invariant_of-self-2 c =
    let keys = c.self.inside.names.keys in
    let same : c.append.new.self.keys ≡ keys =
    c.in_ok-append.ensures.keys
    ∙ ap (λ xs. insert_all string_eq xs keys) c.in_ok-names.ensures.empty
    ∙ set_all_distinct string_eq_equiv [] keys c.len-count.ensures.unique in
    subst (λ xs. length xs < 2 ^ 32) (sym same) c.self.invariant

pub returns : goal.returns
returns c =
    let keys = c.self.inside.names.keys in
    let same : c.append.new.self.keys ≡ keys =
    c.in_ok-append.ensures.keys
    ∙ ap (λ xs. insert_all string_eq xs keys) c.in_ok-names.ensures.empty
    ∙ set_all_distinct string_eq_equiv [] keys c.len-count.ensures.unique in
    ap (map string_bytes) same ∙ c.self.view_is
