-- The goals `true` and `X = Y`, by which examples go, with X and Y free. No predicate has a mode.
use Rattle.std.specs.Prelude.{ℕ, true, List, [], ◌∷◌, refl}
use Rattle.merc_tree.specs.Term.{no_span}
use Rattle.merc_tree.specs.declared.declarations.ModeDecl.{ModeDecl}
use Rattle.merc_goal_tree.specs.declared.goal.SimpleGoal.TheVariants.{True, Same}
use Rattle.merc_goal_tree.specs.Nodes.{Node, Simple}
use Rattle.merc_goal_tree.specs.Variables.{count}
use Rattle.merc_goal_facts.specs.Facts.{AreFactsOf}
use Rattle.merc_goal_facts.specs.Outside.{IsStretch}
use Rattle.merc_goal_facts.specs.declared.facts.Facts.{Facts}

abbrev pub no_modes : ℕ → List ModeDecl
no_modes predicate = []

-- the variables of a body, and how often each occurs

abbrev pub body : List ℕ
body = 1 ∷ 2 ∷ 1 ∷ 2 ∷ []

abbrev pub in_body : ℕ → ℕ
in_body variable = count variable body

abbrev pub truth : Node
truth = Simple True no_span

abbrev pub unready : Node
unready = Simple (Same 1 2) no_span

abbrev pub true_facts : Facts
true_facts = record { reached = true; binds = []; owed = []; owed_by_condition = []; needs = []; occurrences = 0 }

pub true_known : AreFactsOf in_body no_modes truth true_facts
true_known = record { reached_is = refl; binds_are = λ variable. refl; owed_are = λ bound. refl; owed_by_condition_are = λ bound. refl; needed = λ bound ready. refl; occurrences_are = refl }

-- `true` has no variables
pub no_stretch : IsStretch in_body body 0 0 []
no_stretch = record { before = []; after = body; whole = refl; start_is = refl; end_is = refl; total_is = λ variable. refl }
