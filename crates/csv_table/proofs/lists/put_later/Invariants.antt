use Rattle.std.proofs.Common.{◌≡◌, ◌++◌, ◌∷◌, flat_map, take, true}
use Rattle.std.specs.Fmt.{decimal}
use Rattle.csv_table.specs.Row.{is_plain}
use Rattle.csv_table.proofs.lists.put_later.Given as goal

-- the numbers so far are written
abbrev pub invariant-loop-number : goal.invariant-loop-number
invariant-loop-number l = record {
  text : l.text.items ≡ l.fn.text.items ++ flat_map (λ n. 32 ∷ decimal n) (take l.number-index l.numbers);
  plain : is_plain l.text.items ≡ true;
}
