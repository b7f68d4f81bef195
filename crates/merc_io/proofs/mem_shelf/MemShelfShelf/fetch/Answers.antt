use Rattle.merc_io.proofs.mem_shelf.MemShelfShelf.fetch.Goals as goal

pub returns-clause-answer : goal.returns-clause-answer
returns-clause-answer c = c.read_piece.ensures.answer 0
