use Rattle.std.proofs.Common.{arith, subst, sym}
use Rattle.large_text.specs.PlainStreamed.{EndsLine}
use Rattle.large_text.proofs.PlainStreaming.{split_whole}
use Rattle.large_text.proofs.VersionKnown.{never_two}
use Rattle.large_text.proofs.version_known.is_never_two.Goals as goal

pub returns-then-has_two_tokens : goal.returns-then-has_two_tokens
returns-then-has_two_tokens c = λ never.
    let bytes = c.args.bytes.now in
    let lines = c.split_at.result.0.now in
    let rest = c.split_at.result.1.now in
    never_two bytes lines rest c.is_large_two.result
    (split_whole bytes lines rest _ c.split_at.ensures.front c.split_at.ensures.back)
    (λ some. subst EndsLine (sym c.split_at.ensures.front)
    (c.whole_lines.ensures.ends (omega (arith, some, c.split_at.ensures.front_len))))
    (c.has_two_tokens.ensures c.if-has_two_tokens.true) c.requires c.is_large_two.ensures never
