use Rattle.std.proofs.Common.{ℕ, ◌≡◌, ◌<◌, List, length, Contains, ap, ◌∙◌, sym}
use Rattle.std.proofs.Common.{◌∷◌, [], ◌++◌, subst, arith}
use Rattle.std.proofs.lemmas.List.Elements.{All-contains}
use Rattle.program_text.specs.declared.statement.Item.{Item}
use Rattle.depend_table.specs.declared.table.Call.{Call}
use Rattle.depend_table.specs.Siblings.{Sibling}
use Rattle.depend_table.specs.Entries.{Entry, entry_at, entry_after, items_of, newest_first, IsTableOf}
use Rattle.depend_table.proofs.Alike.{entered_alike, merged_alike}
use Rattle.depend_table.proofs.Places.{table_after, table_same}
use Rattle.depend_table.proofs.table.accept_merged.Goals as goal

pub returns-clause-table : goal.returns-clause-table
returns-clause-table c =
    let names = c.args.names.now in
    let calls = c.args.calls.now.items in
    let items = c.args.items.now in
    let merged = c.args.merged.now in
    let call : Call = record { task = c.args.task; items = c.in_ok-copy.copy } in
    let copied : items_of call.items ≡ items = c.in_ok-copy.ensures in
    let place : c.len-place.result ≡ length calls = grind arith in
    let above : (s : Sibling) → Contains (newest_first calls) s → s.task < c.args.task =
    λ s held. All-contains (λ (x : Sibling). x.task < c.args.task) (newest_first calls) s
    c.requires.above held in
    let same : (name : ℕ)
    → entry_at c.enter_all.new.names name
    ≡ entry_after (length calls) (items_of call.items) (items_of call.items) name (entry_at names name) =
    λ name.
    c.enter_all.ensures name
    ∙ ap (λ (e : Entry). entry_after c.len-place.result merged merged name e)
    (c.in_ok-make_all_room.ensures.same name)
    ∙ entered_alike c.len-place.result merged items name (entry_at names name)
    (merged_alike items merged c.requires.merged)
    ∙ ap (λ n. entry_after n items items name (entry_at names name)) place
    ∙ ap (λ (is : List Item). entry_after (length calls) is is name (entry_at names name))
    (sym copied) in
    subst (IsTableOf c.enter_all.new.names) (sym (c.push_reserved.ensures.items
    ∙ ap (λ (xs : List Call). xs ++ call ∷ []) c.in_ok-make_room_in.ensures.same))
    (table_after names c.enter_all.new.names calls call c.requires.table above same)

pub returns-in_err-make_all_room-clause-table : goal.returns-in_err-make_all_room-clause-table
returns-in_err-make_all_room-clause-table c =
    subst (IsTableOf c.make_all_room.new.names) (sym c.in_ok-make_room_in.ensures.same)
    (table_same c.args.names.now c.make_all_room.new.names c.args.calls.now.items c.requires.table
    c.in_err-make_all_room.ensures.same)
