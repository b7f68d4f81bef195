use Rattle.std.proofs.Common.{◌∙◌, ◌++◌, ◌∷◌, [], ap, suc, add-one, slice_index_or}
use Rattle.merc_rights.specs.Waits.{fresh}
use Rattle.merc_rights.specs.Rights.{right_to}
use Rattle.merc_rights.proofs.Indexes.{map_more_at, map_all}
use Rattle.merc_rights.proofs.conjuncts.put_waits.Goals as goal

pub loop-user-preserved : goal.loop-user-preserved
loop-user-preserved c =
    map_more_at (λ user. (user, fresh (right_to (suc user) c.args.variable))) c.args.users.now c.loop-user.user-index 0 c.args.waits.now.items c.loop-user.waits.items c.push.new.self.items
    c.loop-user-test.true c.loop-user.invariant
    (c.in_ok-push.ensures.items ∙ ap (λ n. c.loop-user.waits.items ++ (slice_index_or c.args.users.now c.loop-user.user-index 0, fresh (right_to n c.args.variable)) ∷ [])
    (c.in_ok-sum.ensures ∙ add-one (slice_index_or c.args.users.now c.loop-user.user-index 0)))

pub returns : goal.returns
returns c = map_all (λ user. (user, fresh (right_to (suc user) c.args.variable))) c.args.users.now c.loop-user.user-index c.args.waits.now.items c.loop-user.waits.items c.loop-user-test.false c.loop-user.invariant
