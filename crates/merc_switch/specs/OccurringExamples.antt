-- The variables of a few goals themselves, and which of a few variables are outputs.
use Rattle.std.specs.Prelude.{◌≡◌, [], ◌∷◌, refl}
use Rattle.merc_graded_tree.specs.declared.basic.BasicGoal.TheVariants.{Build}
use Rattle.merc_graded_tree.specs.declared.entries.Root.TheVariants.{Basic, Disjunction, Switch, Quantified}
use Rattle.merc_grading.specs.GradingExamples.{red, green, box, c, b, n}
use Rattle.merc_switch.specs.Occurring.{variables_at, outputs_behind}

construction : variables_at (Basic (Build b box (n ∷ []))) ≡ b ∷ n ∷ []
construction = refl

switch : variables_at (Switch c (red ∷ green ∷ [])) ≡ c ∷ []
switch = refl

disjunction : variables_at (Disjunction 2) ≡ []
disjunction = refl

-- a quantifier's list is no occurrence
quantified : variables_at (Quantified (c ∷ [])) ≡ c ∷ [] → ⊥
quantified wrong = cc

outputs : outputs_behind (4 ∷ 2 ∷ 7 ∷ []) (7 ∷ []) (2 ∷ 3 ∷ 2 ∷ []) ≡ 7 ∷ 2 ∷ []
outputs = refl

no_output : outputs_behind (4 ∷ 2 ∷ []) [] (3 ∷ []) ≡ 3 ∷ [] → ⊥
no_output wrong = cc
