use Rattle.std.proofs.Common.{sym, ◌∙◌}
use Rattle.merc_type_matching.proofs.Linking.{links_shorter, same_links}
use Rattle.merc_type_matching.proofs.linked.LinkedNames.shorten.Goals as goal

pub returns-in_ok-insert-in-Some : goal.returns-in_ok-insert-in-Some
returns-in_ok-insert-in-Some c =
    links_shorter c.args.self.now c.insert.new.self c.args.name c.args.next c.in-Some.last c.requires.falling c.requires.next (sym c.get.ensures.value ∙ sym c.in-Some.ensures)
    c.in_ok-insert-in-Some.ensures.updates.0

pub returns-in-None : goal.returns-in-None
returns-in-None c = same_links c.args.self.now c.requires.falling
