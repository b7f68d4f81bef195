-- The flat form of `_Y = 1, Z = 1, X = 1`, and goals that have another.
use Rattle.std.proofs.Common.{◌≡◌, ℕ, pos, List, [], ◌∷◌, Some, None, refl}
use Rattle.merc_goals.specs.Written.{written}
use Rattle.merc_goal_tree.specs.Nodes.{Node, Simple, Conjunction, nodes_of}
use Rattle.merc_goal_tree.specs.declared.goal.SimpleGoal.TheVariants.{Shape, Call}
use Rattle.merc_goal_tree.specs.declared.goal.Symbol.TheVariants.{Integer as IntegerSymbol}
use Rattle.merc_scopes.specs.declared.occurrence.Occurrence.{Occurrence}
use Rattle.merc_scopes.specs.Scopes.{occurrence}
use Rattle.merc_flat.specs.Flat.{query_node}
use Rattle.merc_flat.specs.GoalFaults.{unknown_name}
use Rattle.merc_check.specs.Forms.{IsFlatForm, answers_of}
use Rattle.merc_check.proofs.AcceptedExamples.{at, bare, q_name, texts, three, word}

-- `V = 1`
abbrev is_one : ℕ → ℕ → Node
is_one variable first = Simple (Shape variable (IntegerSymbol (pos 1)) []) (at first)

-- where the variables have these numbers
abbrev form_of : ℕ → ℕ → ℕ → Node
form_of y z x = Conjunction (nodes_of (is_one y 10 ∷ is_one z 13 ∷ is_one x 16 ∷ [])) (at 9)

-- the answer variables are numbered as the form's are
abbrev answers : List Occurrence
answers = occurrence 2 12 ∷ occurrence 0 18 ∷ []

has_form : IsFlatForm texts bare three (form_of 4 12 18) answers
has_form = record { faultless = refl; form_is = refl; answers_are = refl }

-- those of its body are others
has_form-numbers : IsFlatForm texts bare three (form_of 0 1 2) answers → ⊥
has_form-numbers is = let wrong : form_of 4 12 18 ≡ form_of 0 1 2 = is.form_is in cc

-- `_Y` is no answer variable
has_form-answers : IsFlatForm texts bare three (form_of 4 12 18) (occurrence 1 4 ∷ answers) → ⊥
has_form-answers is = let wrong : occurrence 1 4 ∷ answers ≡ answers = is.answers_are in cc

-- by their numbers in the form's body, where `_Y` comes first
body_answers : answers_of (form_of 4 12 18) answers ≡ 1 ∷ 2 ∷ []
body_answers = refl

-- `q`, which is not there, has no form, whatever is made of it

unknown : query_node texts bare (written 0 (word q_name 4)) ≡ Simple (Call 0 []) (at 4)
unknown = refl

unknown-form : IsFlatForm texts bare (word q_name 4) (Simple (Call 0 []) (at 4)) [] → ⊥
unknown-form is = let wrong : Some (unknown_name bare (at 4)) ≡ None = is.faultless in cc
