use Rattle.std.proofs.Common.{◌∙◌, ◌++◌, ◌∷◌, [], sym, ap}
use Rattle.merc_cell.specs.Ends.{producer_name}
use Rattle.merc_held_branches.specs.Beds.{IsNamed}
use Rattle.merc_held_branches.specs.Kids.{with_signal, with_signals}
use Rattle.merc_held_branches.specs.Lying.{owed_of}
use Rattle.merc_held_branches.proofs.Lists.{all_more}
use Rattle.merc_held_branches.proofs.Giving.{less_rooms}
use Rattle.merc_held_branches.proofs.Handing.{are_same, moved_signal, kept_signal, gives_signal_away, keeps_signal_more}
use Rattle.merc_held_branches.proofs.moving.move_signal.Goals as goal

pub give_signal-requires-clause-kids : goal.give_signal-requires-clause-kids
give_signal-requires-clause-kids g c = c.requires.kids

pub returns-in-Some-clause-given : goal.returns-in-Some-clause-given
returns-in-Some-clause-given g c = λ room loads has before are. let to = sym c.child_to_signal.ensures ∙ c.in-Some.is in
    are_same g.N.Room.table room loads (with_signal c.in-Some.child (owed_of c.args.right) (with_signals c.args.given.now before has)) (with_signals c.args.given.now (before ++ owed_of c.args.right ∷ []) has) _
    (moved_signal c.args.given.now has before (owed_of c.args.right) c.in-Some.child to) (c.give_signal.ensures.given room loads (with_signals c.args.given.now before has) are)

pub returns-in-Some-clause-kept : goal.returns-in-Some-clause-kept
returns-in-Some-clause-kept g c = λ had before is. is ∙ ap (λ l. had ++ l) (sym (gives_signal_away c.args.given.now before (owed_of c.args.right) c.in-Some.child (sym c.child_to_signal.ensures ∙ c.in-Some.is)))

pub returns-in-None-clause-given : goal.returns-in-None-clause-given
returns-in-None-clause-given g c = λ room loads has before are.
    are_same g.N.Room.table room loads (with_signals c.args.given.now before has) (with_signals c.args.given.now (before ++ owed_of c.args.right ∷ []) has) _
    (kept_signal c.args.given.now has before (owed_of c.args.right) (sym c.child_to_signal.ensures ∙ c.in-None.is)) (less_rooms g.N.Room.table room loads (with_signals c.args.given.now before has) _ are)

pub returns-in-None-clause-kept : goal.returns-in-None-clause-kept
returns-in-None-clause-kept g c = λ had before is. keeps_signal_more c.args.given.now had before c.args.right c.args.kept.now.items _ c.push_reserved.ensures.items (sym c.child_to_signal.ensures ∙ c.in-None.is) is

pub returns-in-None-clause-named : goal.returns-in-None-clause-named
returns-in-None-clause-named g c = all_more (λ right. IsNamed g.N.Room.table (producer_name right.end)) c.args.kept.now.items _ c.args.right c.push_reserved.ensures.items c.requires.named.1 c.requires.named.0
