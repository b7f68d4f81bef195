use Rattle.std.proofs.Common.{◌∙◌, ◌++◌, sym, refl}
use Rattle.merc_board.specs.Rights.{waits_kept, signals_kept}
use Rattle.merc_held_branches.specs.Lying.{rights}
use Rattle.merc_held_branches.specs.Owning.{spot_held}
use Rattle.merc_held_branches.specs.Sharing.{cells_ahead, own_rights}
use Rattle.merc_stealing.proofs.ForkLaws.{joins}
use Rattle.merc_stealing.proofs.preparing.hand_over.Goals as goal

pub hand_out-requires-clause-kids : goal.hand_out-requires-clause-kids
hand_out-requires-clause-kids g c = let made = c.requires.1 in (0, c.requires.0, own_rights c.args._shared.now (cells_ahead g.M.Load.root (spot_held c.args.parent.now.hold.berth)), made.kids)

pub returns-clause-count : goal.returns-clause-count
returns-clause-count g c = let made = c.requires.1 in (c.hand_out.ensures.given 0 c.requires.0 (own_rights c.args._shared.now (cells_ahead g.M.Load.root (spot_held c.args.parent.now.hold.berth))) made.kids).count ∙ sym made.kids.count

pub returns-clause-joins : goal.returns-clause-joins
returns-clause-joins g c =
    let old = c.args.parent.now in let shared = c.args._shared.now in let given = c.args.given.now in let loads = c.requires.0 in let made = c.requires.1 in let out = c.hand_out.ensures in let has = rights old.hold in
    let ahead = cells_ahead g.M.Load.root (spot_held old.hold.berth) in
    joins g.M.Load.root g.M.Load.stands g.M.Load.awaits g.M.Load.forked g.M.Load.shows g.N.Room.table old shared given c.args.limit loads c.requires.2 0
    c.hand_out.new.kids.items _ refl refl out.same.0 out.same.1 out.same.2 (record { waits = out.named.waits; signals = out.named.signals })
    (out.rights ∙ (λ i. record { waits = made.behind i ++ waits_kept given has.waits; signals = signals_kept given has.signals }))
    (out.given 0 loads (own_rights shared ahead) made.kids) (out.berths made.berths)
