use Rattle.std.proofs.Common.{◌∙◌, sym, ap, true, false}
use Rattle.merc_board.specs.Rights.{is_sooner}
use Rattle.merc_held_branches.proofs.Picking.{used_behind, used_of_two}
use Rattle.merc_held_branches.proofs.rights.sooner_place.Goals as goal

pub returns-then-ne : goal.returns-then-ne
returns-then-ne g c = used_behind c.args.variable c.args.place c.args.signals.now c.index-signals-place.result c.args.behind c.requires.place c.index-signals-place.is c.requires.behind (sym c.ne.ensures ∙ c.if-ne.true)

pub returns-then-comes_sooner : goal.returns-then-comes_sooner
returns-then-comes_sooner g c = used_of_two true c.args.variable c.args.place c.in-Some.next c.args.signals.now c.index-signals-place.result c.args.behind c.requires.place c.index-signals-place.is c.requires.behind
    (sym c.ne.ensures ∙ c.if-ne.false) c.in-Some.is (ap (λ k. is_sooner k c.index-signals-place.result.consumer) (sym c.consumer_of.ensures) ∙ sym c.comes_sooner.ensures ∙ c.if-comes_sooner.true)

pub returns-else-comes_sooner : goal.returns-else-comes_sooner
returns-else-comes_sooner g c = used_of_two false c.args.variable c.args.place c.in-Some.next c.args.signals.now c.index-signals-place.result c.args.behind c.requires.place c.index-signals-place.is c.requires.behind
    (sym c.ne.ensures ∙ c.if-ne.false) c.in-Some.is (ap (λ k. is_sooner k c.index-signals-place.result.consumer) (sym c.consumer_of.ensures) ∙ sym c.comes_sooner.ensures ∙ c.if-comes_sooner.false)
