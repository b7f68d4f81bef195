use Rattle.std.proofs.Common.{◌∙◌, ap, refl}
use Rattle.std.specs.List.{filter}
use Rattle.merc_goal_facts.specs.Outside.{occurs_outside}
use Rattle.merc_goal_facts.proofs.Found.{quantified_are}
use Rattle.merc_goal_facts.proofs.finding.quantified_facts.Goals as goal

pub returns : goal.returns
returns c = λ total modes own goal span stretch known.
    quantified_are total modes own goal span c.args.stretch.all.now c.args.stretch.start c.args.stretch.end c.args.inner.now _ stretch known refl
    (c.in_ok-binds.ensures ∙ ap (filter (λ variable. occurs_outside c.args.stretch.all.now c.args.stretch.start c.args.stretch.end variable)) c.as_slice.ensures) c.new.ensures c.new-2.ensures
    c.in_ok-needs.ensures refl
