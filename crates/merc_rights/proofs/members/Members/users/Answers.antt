use Rattle.std.proofs.Common.{arith}
use Rattle.merc_graded_tree.specs.Variables.{in_node}
use Rattle.merc_rights.proofs.Indexes.{walks, walk_on, walk_over}
use Rattle.merc_rights.proofs.members.Members.users.Goals as goal

pub loop-user-smaller : goal.loop-user-smaller
loop-user-smaller c =
    let w = walks (λ goal. in_node goal c.args.variable) c.loop-user.next 0 c.args.self.now.goals.items c.in-Some.user c.in-Some.ensures in
    let low = w.after in
    let high = w.before in
    omega (arith, low, high, c.in_ok-next.ensures)

pub loop-user-preserved : goal.loop-user-preserved
loop-user-preserved c =
    walk_on (λ number. number) (λ goal. in_node goal c.args.variable) c.loop-user.next c.in_ok-next.next c.in-Some.user c.args.self.now.goals.items c.loop-user.users.items c.push.new.self.items _
    c.in-Some.ensures c.in_ok-next.ensures c.in_ok-push.ensures.items c.loop-user.invariant

pub returns : goal.returns
returns c =
    walk_over (λ number. number) (λ goal. in_node goal c.args.variable) c.loop-user.next c.args.self.now.goals.items c.loop-user.users.items _ c.in_default.ensures c.loop-user.invariant
