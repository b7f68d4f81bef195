use Rattle.std.proofs.Common.{◌∙◌, ◌∷◌, [], length, ap, sym, arith}
use Rattle.std.proofs.lemmas.List.{same_from_push, length-append}
use Rattle.merc_goal_facts.specs.declared.facts.Facts.{Facts}
use Rattle.merc_goal_facts.proofs.deciding.take_needs.Goals as goal

pub returns-in-Some : goal.returns-in-Some
returns-in-Some c = λ others last is.
    let same = same_from_push c.pop.new.self.items others c.in-Some.last last (sym c.in-Some.ensures.items ∙ is) in
    (same.0, ap (λ (f : Facts). f.needs) same.1)

pub returns-in-None : goal.returns-in-None
returns-in-None c = λ others last is.
    absurd (omega (arith, c.in-None.ensures.cases.0, c.args.facts.now.ok.0, ap length is, length-append others (last ∷ [])))
