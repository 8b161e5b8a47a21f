-- `pieces::piece_at`: the rest of the text is what stands after the byte, and no piece goes past the end. Assumes nothing.
use Rattle.scanner.proofs.PieceSizes.{piece_before}
use Rattle.scanner.proofs.pieces.piece_at.Goals as goal

pub returns-clause-within : goal.returns-clause-within
returns-clause-within c =
    piece_before c.args.edition c.args.text.now c.args.at c.requires.inside c.begun.result c.begun.ensures.piece
