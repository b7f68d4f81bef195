use Rattle.merc_io.proofs.OpenFiles.{moved-left}
use Rattle.merc_io.proofs.file_shelf.read_at.Goals as goal

pub returns-in-Ok-read_piece-clause-left : goal.returns-in-Ok-read_piece-clause-left
returns-in-Ok-read_piece-clause-left g c =
    moved-left (λ file. file.name) (λ file. file.at) (λ file. file.handle) (g.O.Reader.Read.remaining)
    (g.O.Opener.files c.args.opener.now) c.moved.result c.args.name.now c.in-Ok.file.name c.args.at c.in-Ok.file.at c.in-Ok-read_piece.count
    c.read_piece.new.into (g.O.Reader.Read.remaining c.in-Ok.file.handle) c.read_piece.new.handle
    c.moved.ensures.place c.moved.ensures.same c.in-Ok.ensures.fits.0 c.in-Ok.ensures.fits.1 c.in-Ok.ensures.left
    c.in-Ok-read_piece.ensures.bytes c.in-Ok-read_piece.ensures.count.0
