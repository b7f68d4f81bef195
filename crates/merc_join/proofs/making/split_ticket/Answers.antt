use Rattle.std.proofs.Common.{rules, ap}
use Rattle.merc_join.proofs.Dealing.{splits}
use Rattle.merc_join.proofs.making.split_ticket.Goals as goal

pub split_seat-first-requires : goal.split_seat-first-requires
split_seat-first-requires g c = (search rules, search rules, splits g.P.Forked.ends _ _ c.args.child _ (ap (λ m. m.0) c.requires.view.0) c.requires.view.1)
