use Rattle.std.proofs.Common.{◌≡◌, ◌∙◌, ◌+◌, refl, sym, arith, length}
use Rattle.large_text.specs.LargeFaults.{is_inside_at, items_coming}
use Rattle.large_text.specs.LargeReading.{state_of, token_on}
use Rattle.large_text.proofs.Steps.{is_formed}
use Rattle.large_text.proofs.Taken.{form_fails, grammar_fails, limit_fails, grammar_told}
use Rattle.large_text.proofs.Taken.{limit_told}
use Rattle.large_text.proofs.reader.MarkReader.take_any.Goals as goal

pub returns-in-Some-clause-step : goal.returns-in-Some-clause-step
returns-in-Some-clause-step c = λ marks.
    form_fails c.args.self.now.work c.args.self.now.all_items (state_of c.args.self.now marks) (token_on c.args.token c.args.line)
    c.in-Some.kind _ (sym c.form_fault.ensures ∙ c.in-Some.is) refl

pub overflow_add-self : goal.overflow_add-self
overflow_add-self c =
    omega (
      arith,
      (is_formed c.args.self.now.bytes c.args.token.text.now
          (sym c.form_fault.ensures ∙ c.in_default.is)).bytes_fit,
    )

pub returns-in-Some-grammar_fault-clause-step : goal.returns-in-Some-grammar_fault-clause-step
returns-in-Some-grammar_fault-clause-step c = λ marks.
    let reader = c.args.self.now in
    let depth : c.len.result ≡ length reader.blocks.items = omega (arith, c.len.ensures) in
    grammar_fails reader.work reader.all_items (state_of reader marks) (token_on c.args.token c.args.line)
    c.in-Some-grammar_fault.kind _ (sym c.form_fault.ensures ∙ c.in_default.is)
    (grammar_told reader.place reader.has_if reader.blocks.items c.len.result c.args.token.text.now
    c.grammar_fault.result _ depth c.grammar_fault.ensures c.in-Some-grammar_fault.is)
    refl

pub returns-in-Some-limit_fault-clause-step : goal.returns-in-Some-limit_fault-clause-step
returns-in-Some-limit_fault-clause-step c = λ marks.
    let reader = c.args.self.now in
    let depth : c.len.result ≡ length reader.blocks.items = omega (arith, c.len.ensures) in
    limit_fails reader.work reader.all_items (state_of reader marks) (token_on c.args.token c.args.line)
    c.in-Some-limit_fault.kind _ (sym c.form_fault.ensures ∙ c.in_default.is)
    (grammar_told reader.place reader.has_if reader.blocks.items c.len.result c.args.token.text.now
    c.grammar_fault.result _ depth c.grammar_fault.ensures c.in_default-grammar_fault.is)
    (limit_told (is_inside_at reader.place) reader.work
    (reader.all_items + items_coming reader.place) (length reader.items + items_coming reader.place) reader.blocks.items c.args.token.text.now
    c.limit_fault.result _ c.limit_fault.ensures c.in-Some-limit_fault.is)
    refl
