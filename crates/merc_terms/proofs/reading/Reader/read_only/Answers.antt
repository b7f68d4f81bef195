use Rattle.std.proofs.Common.{refl}
use Rattle.merc_terms.proofs.ItemLaws.{goal_alone, goal_refused}
use Rattle.merc_terms.proofs.reading.Reader.read_only.Goals as goal

pub returns-in-Some-clause-refused : goal.returns-in-Some-clause-refused
returns-in-Some-clause-refused c =
    goal_refused c.args.self.now.progress.rest.now c.args.self.now.progress c.read_goal.new.self.progress c.in_ok-found.found c.in-Some.rule c.in-Some.detail c.place-place.result c.requires.great
    refl c.in_ok-found.ensures (rw c.in-Some.is at c.in_ok-rule.ensures) c.place-place.ensures.value

pub returns-in-None-clause-found : goal.returns-in-None-clause-found
returns-in-None-clause-found c =
    goal_alone c.args.self.now.progress c.read_goal.new.self.progress c.in_ok-found.found c.requires.terms c.requires.great c.in_ok-found.ensures (rw c.in-None.is at c.in_ok-rule.ensures)
