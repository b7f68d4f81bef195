use Rattle.std.proofs.Common.{rules, ◌≡◌, ◌∙◌}
use Rattle.merc_stealing.specs.Hands.{is_root_hold}
use Rattle.merc_stealing.proofs.HandLaws.{root_named}
use Rattle.merc_stealing.proofs.facing.StealingBoardBoard.is_root.Goals as goal

pub returns-clause-named : goal.returns-clause-named
returns-clause-named g c is board seat at own = let root : is_root_hold c.args.hold.now ≡ c.is_none.result = search rules in root_named g.M.Load.root g.N.Room.table c.args.hold.now at (root ∙ is) own.1
