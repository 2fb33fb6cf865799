-- What is left of a text for the scanner.
use Rattle.std.specs.Prelude.{ℕ, false, List}
use Rattle.program_text.specs.Tokens as tokens
use Rattle.program_text.specs.Tokens.{tokens_from, line_at_end}
use Rattle.program_text.specs.declared.scanner.Scanner.{Scanner}
use Rattle.program_text.specs.declared.scanner.Token.{Token}

abbrev pub token_seen : Token → tokens.Token
token_seen token = record { text = token.text.now; line = token.line }

-- the tokens that are left, and the line of the text's end
abbrev pub tokens_left : Scanner → List tokens.Token
tokens_left scanner = tokens_from false scanner.line scanner.rest.now

abbrev pub end_line : Scanner → ℕ
end_line scanner = line_at_end scanner.line scanner.rest.now
