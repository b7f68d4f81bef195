use Rattle.std.proofs.Common.{sym, subst, length, nat_le, ◌<◌}
use Rattle.std.specs.List.{filter}
use Rattle.merc_graded_tree.specs.Variables.{among}
use Rattle.merc_rights.specs.Rows.{row_of}
use Rattle.merc_rights.proofs.Indexes.{falls, next_is, walk_on, walk_over}
use Rattle.merc_rights.proofs.arms.held_by.Goals as goal

pub loop-next-smaller : goal.loop-next-smaller
loop-next-smaller c =
    let row = row_of c.args.variable c.args.holders.now in
    let f = falls c.loop-next.next c.in-Some.holder row c.in-Some.ensures in
    subst (λ n. length (filter (nat_le n) row) < length (filter (nat_le c.loop-next.next) row)) (sym c.in_ok-next.ensures) f.less

pub loop-next-preserved : goal.loop-next-preserved
loop-next-preserved c = λ lists tells.
    walk_on (λ number. number) (λ list. among list c.args.variable) c.loop-next.next c.in_ok-next.next c.in-Some.holder lists c.loop-next.numbers.items c.push.new.self.items _
    (next_is c.args.variable c.loop-next.next c.args.holders.now lists _ tells c.in-Some.ensures) c.in_ok-next.ensures c.in_ok-push.ensures.items (c.loop-next.invariant lists tells)

pub returns : goal.returns
returns c = λ lists tells.
    walk_over (λ number. number) (λ list. among list c.args.variable) c.loop-next.next lists c.loop-next.numbers.items _
    (next_is c.args.variable c.loop-next.next c.args.holders.now lists _ tells c.in_default.ensures) (c.loop-next.invariant lists tells)
