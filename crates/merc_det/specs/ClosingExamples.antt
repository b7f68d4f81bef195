-- Goals that become one, over the types and goals of the examples of categories.
use Rattle.std.specs.Prelude.{◌≡◌, [], ◌∷◌, Some, None, refl}
use Rattle.std.proofs.Common.{ap}
use Rattle.merc_base.specs.declared.category.Category.{Category}
use Rattle.merc_base.specs.declared.category.Category.TheVariants.{Det, Semidet}
use Rattle.merc_graded_tree.specs.declared.basic.BasicGoal.TheVariants.{Build, Split}
use Rattle.merc_graded_tree.specs.declared.entries.Label.{Label}
use Rattle.merc_graded_tree.specs.declared.entries.Root.TheVariants.{Basic as BasicRoot, Disjunction as DisjunctionRoot, Negation as NegationRoot, Switch as SwitchRoot}
use Rattle.merc_graded_tree.specs.Nodes.{Node, node, Goal, Basic, Negation}
use Rattle.merc_grading.specs.GradingExamples.{at, declared, modes, types, red, green, c, n, of, is_red}
use Rattle.merc_det.specs.Closing.{with_category, known_behind_root, FitsFirst, FitsRoot, closed}

abbrev with : Category → Goal → Node
with category goal = node goal (9 ∷ []) (Some category) (at 10)

abbrev red_once : Node
red_once = with Semidet (Basic (Split c red []))

abbrev green_once : Node
green_once = with Semidet (Basic (Split c green []))

-- `not C = red`, behind a goal that is not its part
negation : closed declared modes types [] (of (Negation (is_red c))) (green_once ∷ red_once ∷ []) ≡ green_once ∷ with Semidet (Negation red_once) ∷ []
negation = refl

negation_is_no_det : closed declared modes types [] (of (Negation (is_red c))) (red_once ∷ []) ≡ with Det (Negation red_once) ∷ [] → ⊥
negation_is_no_det wrong = cc

-- `C = red`, by what is known of C

split : closed declared modes types [] (is_red c) [] ≡ red_once ∷ []
split = refl

known_split : closed declared modes types ((c, red) ∷ []) (is_red c) [] ≡ with Det (Basic (Split c red [])) ∷ []
known_split = refl

-- Goals that hold no others tell of their variables. What the goals that a goal joins tell is known already.

told : known_behind_root (BasicRoot (Build c red [])) [] ≡ (c, red) ∷ []
told = refl

not_forgotten : known_behind_root NegationRoot ((c, red) ∷ []) ≡ [] → ⊥
not_forgotten wrong = cc

abbrev label : Label
label = record { root = NegationRoot; outputs = []; category = None; span = at 3 }

labelled : with_category label Det ≡ record { root = NegationRoot; outputs = []; category = Some Det; span = at 3 }
labelled = refl

labelled_not : with_category label Det ≡ label → ⊥
labelled_not wrong = let absent : Some Det ≡ None = ap (λ one. one.category) wrong in cc

-- the first symbol of a switch

fits : FitsFirst declared types c (green ∷ red ∷ [])
fits = refl

fits_not : FitsFirst declared types n (green ∷ red ∷ []) → ⊥
fits_not wrong = cc

no_arm : FitsRoot declared types (SwitchRoot c []) → ⊥
no_arm wrong = wrong

any_disjunction : FitsRoot declared types (DisjunctionRoot 2)
any_disjunction = tt
