use Rattle.std.proofs.Common.{sym, ap, ◌∙◌, ◌&&◌}
use Rattle.merc_gen.specs.Singles.{contained}
use Rattle.merc_gen.specs.Waiting.{are_quiet}
use Rattle.merc_gen.proofs.Quieting.{looked_fewer, quiet-last}
use Rattle.merc_gen.proofs.quiet.all_pass.Goals as goal

pub returns-then-not-branch-2 : goal.returns-then-not-branch-2
returns-then-not-branch-2 c =
    ap (λ b. b && are_quiet (contained c.args.singles.now) c.look.new.left.items) (sym c.if-not-branch-2.true) ∙ c.in_ok-look.ensures.looked
    ∙ sym (quiet-last (contained c.args.singles.now) c.pop.new.self.items c.in-Some.next) ∙ ap (are_quiet (contained c.args.singles.now)) (sym c.in-Some.ensures.items) ∙ c.loop-next.invariant

pub loop-next-smaller : goal.loop-next-smaller
loop-next-smaller c = looked_fewer c.loop-next.left.items c.pop.new.self.items c.look.new.left.items c.in-Some.next c.in-Some.ensures.items c.in_ok-look.ensures.less

pub loop-next-preserved : goal.loop-next-preserved
loop-next-preserved c =
    ap (λ b. b && are_quiet (contained c.args.singles.now) c.look.new.left.items) (sym c.if-not-branch-2.false) ∙ c.in_ok-look.ensures.looked
    ∙ sym (quiet-last (contained c.args.singles.now) c.pop.new.self.items c.in-Some.next) ∙ ap (are_quiet (contained c.args.singles.now)) (sym c.in-Some.ensures.items) ∙ c.loop-next.invariant
