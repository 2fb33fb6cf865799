use Rattle.std.proofs.Common.{◌≡◌, ◌++◌, refl, rules}
use Rattle.std.specs.String.{string_bytes}
use Rattle.large_text.specs.Printed.{joint}
use Rattle.large_text.proofs.Printing.{prints_item}
use Rattle.large_text.proofs.printer.Printer.put_item.Goals as goal

pub returns : goal.returns
returns c =
    let self = c.args.self.now in
    let clauses : string_bytes c.push_str.new.self
    ≡ (string_bytes self.clauses ++ joint self.last c.args.kind) ++ c.args.name.now = search rules in
    prints_item self _ c.args.kind c.args.name.now refl clauses refl
