use Rattle.std.proofs.Common.{subst, ap, ◌∙◌, ◌≡◌, true}
use Rattle.merc_script.specs.Places.{left_of}
use Rattle.merc_board.specs.Going.{next}
use Rattle.merc_stealing.specs.Memory.{has_memory}
use Rattle.merc_held_branches.specs.Owning.{Own}
use Rattle.merc_stealing.proofs.HandLaws.{resumed}
use Rattle.merc_stealing.proofs.Forming.{children_keep}
use Rattle.merc_stealing.proofs.facing.StealingBoardBoard.resume.Goals as goal

pub returns-clause-resumed : goal.returns-clause-resumed
returns-clause-resumed g c at limit cells moves children rest holds left =
    let o = holds.1.0 in let here = holds.1.1 in let b = c.resume.ensures.behind o holds.1.2 in
    resumed g.M.Load.root g.N.Room.table c.args.self.now.thieves.items _ c.resume.new.hold at limit children c.resume.result holds.0 c.resume.ensures.runs (subst (λ a. Own g.M.Load.root g.N.Room.table c.resume.new.hold (next a)) here b.0)
    (b.1 limit cells moves children rest (ap left_of here ∙ left) (children_keep at limit cells moves children rest (subst (λ a. has_memory a.root ≡ true) here c.args.self.now.formed.formed) left))
