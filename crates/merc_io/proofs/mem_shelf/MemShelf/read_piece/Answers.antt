use Rattle.std.proofs.Common.{◌≡◌, ◌≤◌, Some, arith, rules}
use Rattle.merc_base.specs.Outside.{file_named, piece_limit}
use Rattle.merc_io.proofs.Reading.{piece_limit_is, piece_answers}
use Rattle.merc_io.proofs.mem_shelf.MemShelf.read_piece.Goals as goal

pub returns-clause-answer : goal.returns-clause-answer
returns-clause-answer c =
    let found : file_named c.args.name.now c.args.self.now ≡ Some c.in-Some.file.now = cc c.in-Some.ensures in
    piece_answers piece_limit c.args.most c.args.at c.min-count.result c.fill.result c.args.self.now
    c.args.name.now c.in-Some.file.now c.fill.new.self
    found piece_limit_is c.requires.some c.requires.bound
    c.if-file-at.false c.min-count.ensures c.fill.ensures.count c.fill.ensures.kept

pub returns-clause-piece : goal.returns-clause-piece
returns-clause-piece c =
    let bound : c.args.most ≤ piece_limit = omega (arith, piece_limit_is) in
    search rules
