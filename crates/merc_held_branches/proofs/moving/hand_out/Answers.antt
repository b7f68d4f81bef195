use Rattle.std.proofs.Common.{◌∙◌, ◌+◌, ◌++◌, ap, map, length}
use Rattle.merc_board.specs.Rights.{waits_kept, signals_kept}
use Rattle.merc_held_branches.specs.Lying.{due_of, owed_of}
use Rattle.merc_held_branches.specs.Kids.{with_waits}
use Rattle.merc_held_branches.proofs.Handing.{to_hand, handed}
use Rattle.merc_held_branches.proofs.moving.hand_out.Goals as goal

pub move_waits-requires-clause-kids : goal.move_waits-requires-clause-kids
move_waits-requires-clause-kids g c = let are = c.requires.kids in let w = ap (λ (v : _). v.items) c.replace-waits.ensures.value in
    (length c.args.hold.now.signals.items + are.0, are.1, are.2, to_hand g.N.Room.table are.1 c.args.given.now are.2 _ _ c.args.hold.now.signals.items _ w (λ i. c.args.hold.now.signals.items) are.0 _ are.3)

pub move_signals-requires-clause-kids : goal.move_signals-requires-clause-kids
move_signals-requires-clause-kids g c = let are = c.requires.kids in let w = ap (λ (v : _). v.items) c.replace-waits.ensures.value in let s = ap (λ (v : _). v.items) c.replace-signals.ensures.value in (
  are.0,
  are.1,
  with_waits c.args.given.now (map due_of c.replace-waits.result.items) are.2,
  c.move_waits.ensures.given (length c.replace-signals.result.items + are.0) are.1 are.2 (to_hand g.N.Room.table are.1 c.args.given.now are.2 _ _ _ _ w s are.0 _ are.3),
)

pub returns-clause-given : goal.returns-clause-given
returns-clause-given g c = λ room loads has are. let w = ap (λ (v : _). v.items) c.replace-waits.ensures.value in let s = ap (λ (v : _). v.items) c.replace-signals.ensures.value in
    handed g.N.Room.table loads c.args.given.now has _ _ _ _ w s room _
    (c.move_signals.ensures.given room loads (with_waits c.args.given.now (map due_of c.replace-waits.result.items) has)
    (c.move_waits.ensures.given (length c.replace-signals.result.items + room) loads has (to_hand g.N.Room.table loads c.args.given.now has _ _ _ _ w s room _ are)))

pub returns-clause-rights : goal.returns-clause-rights
returns-clause-rights g c = let w = ap (λ (v : _). v.items) c.replace-waits.ensures.value in let s = ap (λ (v : _). v.items) c.replace-signals.ensures.value in
    let waits = c.move_waits.ensures.kept ∙ ap (λ (v : _). map due_of v.items ++ waits_kept c.args.given.now (map due_of c.replace-waits.result.items)) c.replace-waits.ensures.after
    ∙ ap (λ l. map due_of c.args.behind.items ++ waits_kept c.args.given.now (map due_of l)) w in
    let signals = c.move_signals.ensures.kept ∙ ap (λ (v : _). map owed_of v.items ++ signals_kept c.args.given.now (map owed_of c.replace-signals.result.items)) c.replace-signals.ensures.after
    ∙ ap (λ l. map owed_of l ++ signals_kept c.args.given.now (map owed_of c.replace-signals.result.items)) c.requires.named.2
    ∙ ap (λ l. signals_kept c.args.given.now (map owed_of l)) s in
    λ i. record { waits = waits i; signals = signals i }
