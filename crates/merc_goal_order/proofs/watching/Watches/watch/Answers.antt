use Rattle.std.proofs.Common.{ℕ, sym, subst}
use Rattle.merc_order.specs.Bound.{among}
use Rattle.merc_order.specs.Procedures.{modes_of}
use Rattle.merc_goal_facts.specs.Facts.{AreKnown, subgoals}
use Rattle.merc_goal_order.specs.Watching.{IsWatch, AreFree}
use Rattle.merc_goal_order.proofs.Watched.{put_keeps}
use Rattle.merc_goal_order.proofs.watching.Watches.watch.Goals as goal

pub returns-clause-keeps : goal.returns-clause-keeps
returns-clause-keeps c =
    let modes = modes_of c.args.setting.now.predicates.now in
    let goal = c.args.placed.now.goal.now in
    let facts = c.args.placed.now.facts.now in
    let free = subst (λ l. AreFree facts (among c.unbound_in.new.bound) l) (sym c.as_slice.ensures)
    (subst (λ b. AreFree facts (among b) c.in_ok-free.free) (sym c.in_ok-free.ensures.same) c.in_ok-free.ensures.all) in
    λ other. put_keeps (λ l. (total : ℕ → ℕ) → AreKnown total modes (subgoals goal) facts → IsWatch total modes goal l) c.args.self.now.variables.items c.make_room.new.watched.items c.args.index other c.in_ok-watched.watched
    c.in_ok-make_room.ensures.same (λ total known. c.in_ok-watched.ensures.tells total known free)
