use Rattle.std.proofs.Common.{refl}
use Rattle.merc_type_matching.proofs.Pairings.{pair_added, pair_follows}
use Rattle.merc_type_matching.proofs.matching.IndependentPairs.add.Goals as goal

pub returns-in_ok-push : goal.returns-in_ok-push
returns-in_ok-push c =
    pair_added c.args.self.now (record { pairs = c.push.new.self; linked = c.link.new.self }) c.in_ok-link.field-0 c.args.one c.args.other c.requires c.in_ok-link.ensures c.in_ok-push.ensures.ok

pub returns-else-branch : goal.returns-else-branch
returns-else-branch c =
    pair_follows c.args.self.now (record { pairs = c.args.self.now.pairs; linked = c.link.new.self }) c.in_ok-link.field-0 c.args.one c.args.other c.requires c.in_ok-link.ensures
    c.if-branch.false refl

pub link-requires : goal.link-requires
link-requires c = c.requires.falling
