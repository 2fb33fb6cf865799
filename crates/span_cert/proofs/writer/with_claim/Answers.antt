use Rattle.std.proofs.Common.{List, ℕ, ◌++◌, ◌∙◌, ap₂, append_assoc, codes}
use Rattle.span_cert.specs.Analysed.{claim_of}
use Rattle.span_cert.specs.Written.{claim_text}
use Rattle.span_cert.proofs.writer.with_claim.Goals as goal

pub returns : goal.returns
returns c =
    c.in_ok-extend_from_slice-2.ensures.items
    ∙ ap₂ (λ (xs ys : List ℕ). xs ++ ys) c.in_ok-extend_from_slice.ensures.items
    (c.as_bytes.ensures.value ∙ c.in_ok-claim.ensures)
    ∙ append_assoc c.args.text.items (codes "---\n") (claim_text (claim_of c.args.analysis.now))
