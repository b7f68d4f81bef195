use Rattle.std.proofs.Common.{◌∙◌, ◌+◌, ◌++◌, ◌∷◌, [], sym, ap, map}
use Rattle.std.proofs.lemmas.List.{map-append}
use Rattle.merc_cell.specs.Ends.{consumer_name, producer_name}
use Rattle.merc_held_branches.specs.Beds.{IsNamed, cell_named}
use Rattle.merc_held_branches.specs.Lying.{due_of}
use Rattle.merc_held_branches.specs.Kids.{with_signal}
use Rattle.merc_held_branches.specs.Sharing.{own_rights}
use Rattle.merc_held_branches.proofs.Lists.{all_more}
use Rattle.merc_held_branches.proofs.CellLaws.{due, owed, half_given, signal_given, wait_given, parent_given, parent_waits, parent_waits_not}
use Rattle.merc_held_branches.proofs.cells.share_cell.Goals as goal

pub give_wait-requires-clause-kids : goal.give_wait-requires-clause-kids
give_wait-requires-clause-kids g c = let are = c.requires.kids in
    (are.0, are.1, with_signal c.args.one.producer (owed c.args.one (cell_named (producer_name c.args.ends.0))) are.2, c.give_signal.ensures.given (are.0 + 1) are.1 are.2 are.3)

pub returns-then-one-eq0-clause-given : goal.returns-then-one-eq0-clause-given
returns-then-one-eq0-clause-given g c = λ room loads before cells same are. let cell = cell_named (consumer_name c.args.ends.1) in
    parent_given g.N.Room.table room loads before cells c.args.one cell same _ c.if-one-eq0.true
    (signal_given g.N.Room.table (room + 1) loads before cells c.args.one cell same _ (cell_named (producer_name c.args.ends.0)) c.requires.same (c.give_signal.ensures.given (room + 1) loads (own_rights before cells) are))

pub returns-else-one-eq0-clause-given : goal.returns-else-one-eq0-clause-given
returns-else-one-eq0-clause-given g c = λ room loads before cells same are. let cell = cell_named (consumer_name c.args.ends.1) in
    wait_given g.N.Room.table room loads before cells c.args.one cell same _ (c.give_wait.ensures.given room loads (half_given before cells c.args.one cell)
    (signal_given g.N.Room.table (room + 1) loads before cells c.args.one cell same _ (cell_named (producer_name c.args.ends.0)) c.requires.same (c.give_signal.ensures.given (room + 1) loads (own_rights before cells) are)))

pub returns-then-one-eq0-clause-behind : goal.returns-then-one-eq0-clause-behind
returns-then-one-eq0-clause-behind g c = λ before cells same was. let cell = cell_named (consumer_name c.args.ends.1) in
    ap (map due_of) c.push_reserved.ensures.items ∙ map-append due_of c.args.behind.now.items _ ∙ ap (λ l. l ++ due c.args.one cell ∷ []) was ∙ sym (parent_waits before cells c.args.one cell same c.if-one-eq0.true)

pub returns-else-one-eq0-clause-behind : goal.returns-else-one-eq0-clause-behind
returns-else-one-eq0-clause-behind g c = λ before cells same was. was ∙ sym (parent_waits_not before cells c.args.one (cell_named (consumer_name c.args.ends.1)) same c.if-one-eq0.false)

pub returns-then-one-eq0-clause-named : goal.returns-then-one-eq0-clause-named
returns-then-one-eq0-clause-named g c = all_more (λ right. IsNamed g.N.Room.table (consumer_name right.end)) c.args.behind.now.items _ _ c.push_reserved.ensures.items c.requires.named.2 c.requires.named.1
