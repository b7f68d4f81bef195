use Rattle.std.proofs.Common.{◌∙◌, ◌++◌, ◌∷◌, [], ap, suc, add-one, slice_index_or}
use Rattle.merc_rights.proofs.Indexes.{map_more_at}
use Rattle.merc_rights.proofs.conjuncts.consumers.Goals as goal

pub loop-user-preserved : goal.loop-user-preserved
loop-user-preserved c =
    map_more_at suc c.args.users.now c.loop-user.user-index 0 [] c.loop-user.consumers.items c.push.new.self.items c.loop-user-test.true c.loop-user.invariant
    (c.in_ok-push.ensures.items ∙ ap (λ n. c.loop-user.consumers.items ++ n ∷ []) (c.in_ok-sum.ensures ∙ add-one (slice_index_or c.args.users.now c.loop-user.user-index 0)))
