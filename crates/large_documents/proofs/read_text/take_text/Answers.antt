use Rattle.std.proofs.Common.{sym}
use Rattle.large_text.proofs.PlainStreaming.{split_whole}
use Rattle.large_documents.proofs.Handing.{can_take_piece, takes_piece}
use Rattle.large_documents.proofs.read_text.take_text.Goals as goal

pub take-requires-clause-room : goal.take-requires-clause-room
take-requires-clause-room c =
    can_take_piece c.args.text.now c.pieces.rest.now _ _ c.pieces.meter c.requires.fits
    c.pieces.invariant
    (sym (split_whole _ _ _ _ c.split_at.ensures.front c.split_at.ensures.back))

pub pieces-preserved : goal.pieces-preserved
pieces-preserved c =
    takes_piece c.args.text.now c.pieces.rest.now _ _ c.pieces.meter _ c.requires.fits
    c.pieces.invariant
    (sym (split_whole _ _ _ _ c.split_at.ensures.front c.split_at.ensures.back))
    c.in_ok-take.ensures.takes
