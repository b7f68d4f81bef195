use Rattle.std.proofs.Common.{◌≡◌, suc, ◌≤◌, length, refl, sym, arith}
use Rattle.merc_pool.specs.declared.shared.Slot.{Slot}
use Rattle.merc_pool.specs.Working.{DoneWith}
use Rattle.merc_pool.proofs.Lists.{at_get, get_same, without_one}
use Rattle.merc_pool.proofs.Slots.{done_at_work, is_back_done}
use Rattle.merc_pool.proofs.session.take_back.Goals as goal

pub returns-then-is_back-clause-others : goal.returns-then-is_back-clause-others
returns-then-is_back-clause-others g c = λ board done i slot at.
    done_at_work g.M.Engine g.N.Asked g.B.Board board slot
    (without_one (λ (s : Slot _ _ _ _). DoneWith g.M.Engine g.N.Asked g.B.Board board s.worker s.hand) c.args.slots.now.items c.remove.new.self.items c.loop-index.index
    (rw c.loop-index.invariant at c.remove.ensures.by_index.2) done i slot at)

pub returns-then-is_back-clause-back : goal.returns-then-is_back-clause-back
returns-then-is_back-clause-back g c = λ board done.
    let e : c.len-index-end.result ≡ c.args.slots.now.len = c.len-index-end.ensures in
    let t = c.loop-index-test.true in
    let o = c.args.slots.now.ok.0 in
    let less : suc c.loop-index.index ≤ length c.args.slots.now.items = omega (arith, e, t, o) in
    let value = rw c.loop-index.invariant at c.remove.ensures.value in
    let other = rw c.loop-index.invariant at c.index.ensures in
    let same = get_same c.args.slots.now.items c.loop-index.index c.remove.result c.index.result.now less value other in
    let came = c.if-is_back.ensures refl in
    is_back_done g.M.Engine g.N.Asked g.B.Board board c.remove.result (rw same came)
    (done c.loop-index.index c.remove.result (at_get c.args.slots.now.items c.loop-index.index c.remove.result less value))

pub returns-clause-others : goal.returns-clause-others
returns-clause-others g c = λ board done i slot at. done_at_work g.M.Engine g.N.Asked g.B.Board board slot (done i slot (rw c.loop-index.invariant at at))
