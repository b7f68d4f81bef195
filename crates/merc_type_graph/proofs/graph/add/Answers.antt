use Rattle.merc_type_graph.proofs.Adding.{sound-append}
use Rattle.merc_type_graph.proofs.graph.add.Goals as goal

pub returns-clause-sound : goal.returns-clause-sound
returns-clause-sound c =
    sound-append c.args.store.now c.args.cells.now.items c.push.new.self.items c.args.known c.requires.sound c.requires.stored c.requires.root c.requires.within c.in_ok-push.ensures.items
