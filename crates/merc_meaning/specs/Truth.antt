-- Truth by stages: whether a goal is yes, or no, under an assignment; it is open where it is neither. The order of goals and modes play no part.
use Rattle.std.specs.Prelude.{◌≡◌, ℕ, zero, suc, Bool, true, false, ◌||◌, ◌⊎◌, List, [], ◌∷◌, Option, Some, None}
use Rattle.merc_base.specs.Category.{most_of}
use Rattle.merc_base.specs.declared.category.Category.{Category}
use Rattle.merc_base.specs.declared.category.Most.TheVariants.{Zero}
use Rattle.merc_tree.specs.declared.declarations.Arg.{Arg}
use Rattle.merc_value.specs.Value.{Value, Values, IsValue, none, more}
use Rattle.merc_graded_tree.specs.declared.basic.BasicGoal.{BasicGoal}
use Rattle.merc_graded_tree.specs.declared.basic.BasicGoal.TheVariants.{True, Fail, Assign, Test, Build, Split, Arithmetic, Compare, Raise, Call, Wait, Signal}
use Rattle.merc_graded_tree.specs.declared.basic.Procedure.{Procedure}
use Rattle.merc_graded_tree.specs.Nodes.{Node, node, Goal, Basic, Conjunction, Disjunction, Switch, Conditional, Negation, Quantified, Nodes, no_nodes, more_nodes, Arms, no_arms, more_arms}
use Rattle.merc_graded_tree.specs.Variables.{among, in_node, in_nodes}
use Rattle.merc_meaning.specs.Values.{made}
use Rattle.merc_meaning.specs.Arithmetic.{arithmetic_of, comparison_of}
use Rattle.merc_meaning.specs.Runs.{Program, ProcedureBody}

-- a value for each variable
abbrev pub Assignment : Type 0
Assignment = ℕ → Value

abbrev pub IsAssignment : Assignment → Type 0
IsAssignment values = (variable : ℕ) → IsValue (values variable)

-- the variables that occur outside a goal; all others are its own
abbrev pub Outside : Type 0
Outside = ℕ → Bool

-- those of both
abbrev pub with : Outside → Outside → Outside
with outside further = λ variable. outside variable || further variable

-- a body's first variables, which are its arguments
abbrev pub is_argument : List Arg → Outside
is_argument [] variable = false
is_argument (place ∷ places) zero = true
is_argument (place ∷ places) (suc variable) = is_argument places variable

-- two assignments have the same values outside
abbrev pub AgreeOn : Outside → Assignment → Assignment → Type 0
AgreeOn outside values others = (variable : ℕ) → outside variable ≡ true → others variable ≡ values variable

-- for some values, and for all values, of the variables that do not occur outside
abbrev pub Somewhere : Outside → (Assignment → Type 0) → Assignment → Type 0
Somewhere outside Holds values = (others : Assignment) × IsAssignment others × AgreeOn outside values others × Holds others

abbrev pub Everywhere : Outside → (Assignment → Type 0) → Assignment → Type 0
Everywhere outside Holds values = (others : Assignment) → IsAssignment others → AgreeOn outside values others → Holds others

abbrev pub assigned : Assignment → List ℕ → Values
assigned values [] = none
assigned values (variable ∷ variables) = more (values variable) (assigned values variables)

-- a category with a maximum of 0, where there is a category
abbrev pub HasNoSolution : Option Category → Type 0
HasNoSolution None = ⊥
HasNoSolution (Some category) = most_of category ≡ Zero

-- what is said of calls
abbrev pub Judgement : Type 1
Judgement = Procedure → List ℕ → Assignment → Type 0

-- Given is which calls are yes, and which are no. Unifications are equality; an exception is no; a wait and a signal ask nothing.
module _ (is_yes is_no : Judgement) where
  abbrev pub YesBasic : BasicGoal → Assignment → Type 0
  YesBasic True values = Unit {0}
  YesBasic Fail values = ⊥
  YesBasic (Assign to from) values = values to ≡ values from
  YesBasic (Test one other) values = values one ≡ values other
  YesBasic (Build whole symbol arguments) values = values whole ≡ made symbol (assigned values arguments)
  YesBasic (Split whole symbol arguments) values = values whole ≡ made symbol (assigned values arguments)
  YesBasic (Arithmetic operation result left right) values = arithmetic_of operation (values left) (values right) ≡ Some (values result)
  YesBasic (Compare test left right) values = comparison_of test (values left) (values right) ≡ true
  YesBasic (Raise text) values = ⊥
  YesBasic (Call procedure arguments) values = is_yes procedure arguments values
  YesBasic (Wait variable conjunct) values = Unit {0}
  YesBasic (Signal variable conjunct) values = Unit {0}

  abbrev pub NoBasic : BasicGoal → Assignment → Type 0
  NoBasic True values = ⊥
  NoBasic Fail values = Unit {0}
  NoBasic (Assign to from) values = values to ≡ values from → ⊥
  NoBasic (Test one other) values = values one ≡ values other → ⊥
  NoBasic (Build whole symbol arguments) values = values whole ≡ made symbol (assigned values arguments) → ⊥
  NoBasic (Split whole symbol arguments) values = values whole ≡ made symbol (assigned values arguments) → ⊥
  NoBasic (Arithmetic operation result left right) values = arithmetic_of operation (values left) (values right) ≡ Some (values result) → ⊥
  NoBasic (Compare test left right) values = comparison_of test (values left) (values right) ≡ true → ⊥
  NoBasic (Raise text) values = Unit {0}
  NoBasic (Call procedure arguments) values = is_no procedure arguments values
  NoBasic (Wait variable conjunct) values = ⊥
  NoBasic (Signal variable conjunct) values = ⊥

  abbrev mutual
    pub Yes : Outside → Node → Assignment → Type 0
    Yes outside (node goal outputs category span) values = (HasNoSolution category → ⊥) × Somewhere outside (λ others. YesGoal outside goal others) values

    -- A goal with a maximum of 0 is no before all other rules.
    pub No : Outside → Node → Assignment → Type 0
    No outside (node goal outputs category span) values = HasNoSolution category ⊎ Everywhere outside (λ others. NoGoal outside goal others) values

    -- An if-then-else is the condition and the then part, or the else part where the condition has no solution. A solution has its own values for what
    -- occurs in the condition and in the then part alone.
    pub YesGoal : Outside → Goal → Assignment → Type 0
    YesGoal outside (Basic goal) values = YesBasic goal values
    YesGoal outside (Conjunction running goals) values = YesAll outside goals values
    YesGoal outside (Disjunction goals) values = YesAny outside goals values
    YesGoal outside (Switch whole arms) values = YesArm (with outside (among (whole ∷ []))) arms values
    YesGoal outside (Conditional condition then_part else_part) values =
        (Yes (with outside (with (in_node then_part) (in_node else_part))) condition values × Yes (with outside (with (in_node condition) (in_node else_part))) then_part values)
        ⊎ (Yes (with outside (with (in_node condition) (in_node then_part))) else_part values × No (with outside (in_node else_part)) condition values)
    YesGoal outside (Negation goal) values = No outside goal values
    YesGoal outside (Quantified own goal) values = Yes outside goal values

    pub NoGoal : Outside → Goal → Assignment → Type 0
    NoGoal outside (Basic goal) values = NoBasic goal values
    NoGoal outside (Conjunction running goals) values = NoAny outside goals values
    NoGoal outside (Disjunction goals) values = NoAll outside goals values
    NoGoal outside (Switch whole arms) values = NoArms (with outside (among (whole ∷ []))) arms values
    NoGoal outside (Conditional condition then_part else_part) values =
        (No (with outside (with (in_node then_part) (in_node else_part))) condition values ⊎ No (with outside (with (in_node condition) (in_node else_part))) then_part values)
        × (No (with outside (with (in_node condition) (in_node then_part))) else_part values ⊎ Yes (with outside (in_node else_part)) condition values)
    NoGoal outside (Negation goal) values = Yes outside goal values
    NoGoal outside (Quantified own goal) values = No outside goal values

    -- of a conjunction: the variables of the other members occur outside each
    pub YesAll : Outside → Nodes → Assignment → Type 0
    YesAll outside no_nodes values = Unit {0}
    YesAll outside (more_nodes first rest) values = Yes (with outside (in_nodes rest)) first values × YesAll (with outside (in_node first)) rest values

    pub NoAny : Outside → Nodes → Assignment → Type 0
    NoAny outside no_nodes values = ⊥
    NoAny outside (more_nodes first rest) values = No (with outside (in_nodes rest)) first values ⊎ NoAny (with outside (in_node first)) rest values

    -- of a disjunction, and of a switch: an arm does not see the others
    pub YesAny : Outside → Nodes → Assignment → Type 0
    YesAny outside no_nodes values = ⊥
    YesAny outside (more_nodes first rest) values = Yes outside first values ⊎ YesAny outside rest values

    pub NoAll : Outside → Nodes → Assignment → Type 0
    NoAll outside no_nodes values = Unit {0}
    NoAll outside (more_nodes first rest) values = No outside first values × NoAll outside rest values

    pub YesArm : Outside → Arms → Assignment → Type 0
    YesArm outside no_arms values = ⊥
    YesArm outside (more_arms symbol body rest) values = Yes outside body values ⊎ YesArm outside rest values

    pub NoArms : Outside → Arms → Assignment → Type 0
    NoArms outside no_arms values = Unit {0}
    NoArms outside (more_arms symbol body rest) values = No outside body values × NoArms outside rest values

-- A body's first variables have the arguments' values.
abbrev pub IsEntered : List ℕ → Assignment → Assignment → Type 0
IsEntered [] values inner = Unit {0}
IsEntered (argument ∷ arguments) values inner = (inner zero ≡ values argument) × IsEntered arguments values (λ variable. inner (suc variable))

-- "there are values of the body's other variables such that the body" is yes, or no; of a procedure that is not there it is neither
abbrev pub YesBody : Judgement → Judgement → Option ProcedureBody → List ℕ → Assignment → Type 0
YesBody is_yes is_no None arguments values = ⊥
YesBody is_yes is_no (Some procedure) arguments values =
    (inner : Assignment) × IsAssignment inner × IsEntered arguments values inner × Yes is_yes is_no (is_argument procedure.places) procedure.body inner

abbrev pub NoBody : Judgement → Judgement → Option ProcedureBody → List ℕ → Assignment → Type 0
NoBody is_yes is_no None arguments values = ⊥
NoBody is_yes is_no (Some procedure) arguments values =
    (inner : Assignment) → IsAssignment inner → IsEntered arguments values inner → No is_yes is_no (is_argument procedure.places) procedure.body inner

-- A call is open at stage 0. At each later stage it is what its procedure's body is at the stage before.
abbrev mutual
  pub YesCall : Program → ℕ → Judgement
  YesCall program zero procedure arguments values = ⊥
  YesCall program (suc stage) procedure arguments values = YesBody (YesCall program stage) (NoCall program stage) (program procedure) arguments values

  pub NoCall : Program → ℕ → Judgement
  NoCall program zero procedure arguments values = ⊥
  NoCall program (suc stage) procedure arguments values = NoBody (YesCall program stage) (NoCall program stage) (program procedure) arguments values

-- a goal is yes, and no, at a stage
abbrev pub YesAt : Program → ℕ → Outside → Node → Assignment → Type 0
YesAt program stage outside goal values = Yes (YesCall program stage) (NoCall program stage) outside goal values

abbrev pub NoAt : Program → ℕ → Outside → Node → Assignment → Type 0
NoAt program stage outside goal values = No (YesCall program stage) (NoCall program stage) outside goal values
