-- Worked examples of symbols that fit their variables' types or not, over the types and variables of the examples of categories.
use Rattle.std.specs.Prelude.{◌≡◌, true, false, [], ◌∷◌, ◌++◌, pos, Some, None, refl}
use Rattle.merc_goal_tree.specs.declared.goal.Symbol.TheVariants.{Constructor, Integer, Text}
use Rattle.merc_graded_tree.specs.declared.basic.BasicGoal.TheVariants.{True, Build}
use Rattle.merc_graded_tree.specs.declared.entries.Running.TheVariants.{Sequential}
use Rattle.merc_graded_tree.specs.Nodes.{Node, Conjunction, Conditional, Disjunction, Quantified, Switch, Negation, nodes_of, no_arms, more_arms}
use Rattle.merc_grading.specs.Fitting.{are_alike, fellows, AreToldApart, Fits}
use Rattle.merc_grading.specs.GradingExamples.{declared, types, red, green, box, c, d, n, of, basic, is_red}

AreToldApart-declared : AreToldApart declared
AreToldApart-declared = (refl, (refl, tt))

-- one name for two types
AreToldApart-not : AreToldApart (declared ++ declared) → ⊥
AreToldApart-not apart = let wrong : true ≡ false = apart.0 in cc

-- the same name with another number of parameters
alike_not : are_alike (record { name = 9; params = []; constructors = []; unit = None }) (record { name = 9; params = 1 ∷ []; constructors = []; unit = None }) ≡ false
alike_not = refl

alike : are_alike (record { name = 9; params = 2 ∷ []; constructors = []; unit = None }) (record { name = 9; params = 1 ∷ []; constructors = []; unit = None }) ≡ true
alike = refl

fellows_red : fellows declared red ≡ Some (red ∷ green ∷ [])
fellows_red = refl

fellows_box : fellows declared box ≡ Some (box ∷ [])
fellows_box = refl

fellows_integer : fellows declared (Integer (pos 1)) ≡ None
fellows_integer = refl

fellows_text : fellows declared (Text 60) ≡ None
fellows_text = refl

-- a name that is no constructor
fellows_unknown : fellows declared (Constructor 60 0) ≡ None
fellows_unknown = refl

-- `not D = red`
Fits-split : Fits declared types (of (Negation (is_red d)))
Fits-split = refl

-- `N = red`, where N is an integer
Fits-split-not : Fits declared types (is_red n) → ⊥
Fits-split-not fits = cc

-- A construction is of any symbol.
Fits-construction : Fits declared types (basic (Build n red []))
Fits-construction = tt

-- `N = red` wherever it stands

abbrev wrong_split : Node
wrong_split = is_red n

abbrev right_split : Node
right_split = is_red c

Fits-conjunct : Fits declared types (of (Conjunction Sequential (nodes_of (right_split ∷ wrong_split ∷ [])))) → ⊥
Fits-conjunct fits = let wrong : None ≡ Some (red ∷ green ∷ []) = fits.1.0 in cc

Fits-disjunct : Fits declared types (of (Disjunction (nodes_of (right_split ∷ wrong_split ∷ [])))) → ⊥
Fits-disjunct fits = let wrong : None ≡ Some (red ∷ green ∷ []) = fits.1.0 in cc

Fits-condition : Fits declared types (of (Conditional wrong_split right_split right_split)) → ⊥
Fits-condition fits = let wrong : None ≡ Some (red ∷ green ∷ []) = fits.0 in cc

Fits-then : Fits declared types (of (Conditional right_split wrong_split right_split)) → ⊥
Fits-then fits = let wrong : None ≡ Some (red ∷ green ∷ []) = fits.1 in cc

Fits-else : Fits declared types (of (Conditional right_split right_split wrong_split)) → ⊥
Fits-else fits = let wrong : None ≡ Some (red ∷ green ∷ []) = fits.2 in cc

Fits-quantified : Fits declared types (of (Quantified (8 ∷ []) wrong_split)) → ⊥
Fits-quantified fits = let wrong : None ≡ Some (red ∷ green ∷ []) = fits in cc

-- in the second arm
Fits-arm : Fits declared types (of (Switch c (more_arms green right_split (more_arms red wrong_split no_arms)))) → ⊥
Fits-arm fits = let wrong : None ≡ Some (red ∷ green ∷ []) = fits.1.2.1 in cc

-- a switch on C: `D = red` where it is `green`
Fits-switch : Fits declared types (of (Switch c (more_arms green (is_red d) no_arms)))
Fits-switch = (tt, (refl, refl, tt))

-- a switch on N with the arm `green`
Fits-switch-not : Fits declared types (of (Switch n (more_arms green (basic True) no_arms))) → ⊥
Fits-switch-not fits = let wrong : None ≡ Some (red ∷ green ∷ []) = fits.1.0 in cc

-- a switch without arms
Fits-no_arms : Fits declared types (of (Switch c no_arms)) → ⊥
Fits-no_arms fits = fits.0
