-- A read that a signal interrupted took nothing.
use Rattle.std.specs.Io.KnownBytes.{Keeps}
use Rattle.merc_io.proofs.file_shelf.read_piece.Given as goal

abbrev pub invariant-loop : goal.invariant-loop
invariant-loop g l = Keeps (g.F.Read.remaining l.fn.handle) (g.F.Read.remaining l.handle)
