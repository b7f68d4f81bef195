use Rattle.merc_io.proofs.failing_shelf.FailingShelfShelf.fetch.Goals as goal

pub returns-clause-answer : goal.returns-clause-answer
returns-clause-answer c = rw (← c.self.view_is) (c.read_piece.ensures.answer c.self.inside.faults)
