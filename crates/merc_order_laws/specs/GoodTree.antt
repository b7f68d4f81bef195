-- What the parts of a goal keep to whose fresh variables and tests are written out, and which may have switches.
use Rattle.std.specs.Prelude.{◌≡◌, ℕ, Bool, true, false, ◌||◌, ◌&&◌, List, [], ◌∷◌, length, Option, Some, None, slice_get}
use Rattle.merc_tree.specs.declared.declarations.Arg.{Arg}
use Rattle.merc_tree.specs.declared.declarations.Arg.TheVariants.{Input, Output}
use Rattle.merc_tree.specs.declared.declarations.ModeDecl.{ModeDecl}
use Rattle.merc_graded_tree.specs.declared.basic.BasicGoal.{BasicGoal}
use Rattle.merc_graded_tree.specs.declared.basic.BasicGoal.TheVariants.{True, Fail, Assign, Test, Build, Split, Arithmetic, Compare, Raise, Call, Wait, Signal}
use Rattle.merc_graded_tree.specs.Nodes.{Node, node, Goal, Basic, Conjunction, Disjunction, Switch, Conditional, Negation, Quantified, Nodes, no_nodes, more_nodes, Arms, no_arms, more_arms, outputs_of}
use Rattle.merc_graded_tree.specs.Variables.{in_goal, in_node, in_nodes}
use Rattle.merc_order.specs.Bound.{Bound, with, among}
use Rattle.merc_order.specs.CallModes.{inputs_of, can_succeed}
use Rattle.merc_order_laws.specs.Bindings.{Variables, AreBound, AreFree, Binds, ArmBinds, NotBinding}

-- the arguments of a call that a mode gives their values
abbrev pub written_by : List Arg → List ℕ → List ℕ
written_by [] arguments = []
written_by (place ∷ places) [] = []
written_by (Input ∷ places) (argument ∷ arguments) = written_by places arguments
written_by (Output ∷ places) (argument ∷ arguments) = argument ∷ written_by places arguments

-- what is bound behind goals that go one after the other
abbrev pub behind_nodes : Bound → Nodes → Bound
behind_nodes bound no_nodes = bound
behind_nodes bound (more_nodes first rest) = behind_nodes (with bound (among (outputs_of first))) rest

-- A call is of a mode of its predicate, with as many arguments, of which the inputs are bound and the others free.
abbrev pub GoodProcedure : Variables → Bound → List ℕ → Option ModeDecl → List ℕ → Type 0
GoodProcedure outside bound outputs None arguments = ⊥
GoodProcedure outside bound outputs (Some mode) arguments =
    (length mode.args ≡ length arguments)
    × AreBound bound (inputs_of mode.args arguments)
    × AreFree bound (written_by mode.args arguments)
    × Binds outside (among arguments) bound outputs (with bound (among (written_by mode.args arguments)))

-- Given are the modes of each predicate.
module _ (modes : ℕ → List ModeDecl) where
  abbrev pub basic_ends : BasicGoal → Bool
  basic_ends Fail = false
  basic_ends (Raise text) = false
  basic_ends (Call procedure arguments) = can_succeed (modes procedure.predicate)
  basic_ends other = true

  abbrev mutual
    -- whether the end of a goal can be reached
    pub node_ends : Node → Bool
    node_ends (node goal outputs category span) = goal_ends goal

    pub goal_ends : Goal → Bool
    goal_ends (Basic goal) = basic_ends goal
    goal_ends (Conjunction running goals) = all_nodes_end goals
    goal_ends (Disjunction goals) = some_node_ends goals
    goal_ends (Switch variable arms) = some_arm_ends arms
    goal_ends (Conditional condition then_part else_part) = (node_ends condition && node_ends then_part) || node_ends else_part
    goal_ends (Negation goal) = true
    goal_ends (Quantified own goal) = node_ends goal

    pub all_nodes_end : Nodes → Bool
    all_nodes_end no_nodes = true
    all_nodes_end (more_nodes first rest) = node_ends first && all_nodes_end rest

    pub some_node_ends : Nodes → Bool
    some_node_ends no_nodes = false
    some_node_ends (more_nodes first rest) = node_ends first || some_node_ends rest

    pub some_arm_ends : Arms → Bool
    some_arm_ends no_arms = false
    some_arm_ends (more_arms symbol body rest) = node_ends body || some_arm_ends rest

  -- the disjuncts, or the arms, of a goal with these variables bind the same
  abbrev pub DisjunctsBind : Variables → Variables → Bound → List ℕ → Nodes → Type 0
  DisjunctsBind outside occurring bound outputs no_nodes = Unit {0}
  DisjunctsBind outside occurring bound outputs (more_nodes first rest) =
      ArmBinds (node_ends first) outside occurring bound outputs (with bound (among (outputs_of first))) × DisjunctsBind outside occurring bound outputs rest

  abbrev pub ArmsBind : Variables → Variables → Bound → List ℕ → Arms → Type 0
  ArmsBind outside occurring bound outputs no_arms = Unit {0}
  ArmsBind outside occurring bound outputs (more_arms symbol body rest) =
      ArmBinds (node_ends body) outside occurring bound outputs (with bound (among (outputs_of body))) × ArmsBind outside occurring bound outputs rest

  -- A goal that holds no others. Waits and signals are put in later.
  abbrev pub GoodBasic : Variables → Bound → List ℕ → BasicGoal → Type 0
  GoodBasic outside bound outputs True = Unit {0}
  GoodBasic outside bound outputs Fail = Unit {0}
  GoodBasic outside bound outputs (Assign to from) =
      (bound from ≡ true) × (bound to ≡ false) × Binds outside (among (to ∷ from ∷ [])) bound outputs (with bound (among (to ∷ [])))
  GoodBasic outside bound outputs (Test one other) = (bound one ≡ true) × (bound other ≡ true)
  GoodBasic outside bound outputs (Build whole symbol arguments) =
      AreBound bound arguments × (bound whole ≡ false) × Binds outside (among (whole ∷ arguments)) bound outputs (with bound (among (whole ∷ [])))
  GoodBasic outside bound outputs (Split whole symbol arguments) =
      (bound whole ≡ true) × AreFree bound arguments × Binds outside (among (whole ∷ arguments)) bound outputs (with bound (among arguments))
  GoodBasic outside bound outputs (Arithmetic operation result left right) =
      (bound left ≡ true)
      × (bound right ≡ true)
      × (bound result ≡ false)
      × Binds outside (among (result ∷ left ∷ right ∷ [])) bound outputs (with bound (among (result ∷ [])))
  GoodBasic outside bound outputs (Compare comparison left right) = (bound left ≡ true) × (bound right ≡ true)
  GoodBasic outside bound outputs (Raise text) = bound text ≡ true
  GoodBasic outside bound outputs (Call procedure arguments) = GoodProcedure outside bound outputs (slice_get (modes procedure.predicate) procedure.mode) arguments
  GoodBasic outside bound outputs (Wait variable conjunct) = ⊥
  GoodBasic outside bound outputs (Signal variable conjunct) = ⊥

  abbrev mutual
    -- A goal where these variables occur outside it and these are bound before it. Its outputs occur in it, are free before it, and stand once each.
    pub GoodNode : Variables → Bound → Node → Type 0
    GoodNode outside bound (node goal outputs category span) =
        ((variable : ℕ) → among outputs variable ≡ true → in_goal goal variable ≡ true) × AreFree bound outputs × GoodGoal outside bound outputs goal

    pub GoodGoal : Variables → Bound → List ℕ → Goal → Type 0
    GoodGoal outside bound outputs (Basic goal) = GoodBasic outside bound outputs goal
    GoodGoal outside bound outputs (Conjunction running goals) = GoodNodes outside bound goals × Binds outside (in_nodes goals) bound outputs (behind_nodes bound goals)
    GoodGoal outside bound outputs (Disjunction goals) = GoodDisjuncts outside bound goals × DisjunctsBind outside (in_nodes goals) bound outputs goals
    GoodGoal outside bound outputs (Switch variable arms) =
        (bound variable ≡ true)
        × GoodArms (with outside (among (variable ∷ []))) bound arms
        × ArmsBind outside (in_goal (Switch variable arms)) bound outputs arms
    GoodGoal outside bound outputs (Conditional condition then_part else_part) =
        GoodNode (with outside (with (in_node then_part) (in_node else_part))) bound condition
        × NotBinding (with outside (in_node else_part)) (outputs_of condition)
        × GoodNode (with outside (with (in_node condition) (in_node else_part))) (with bound (among (outputs_of condition))) then_part
        × ArmBinds (node_ends condition && node_ends then_part) outside (in_goal (Conditional condition then_part else_part)) bound outputs
        (with (with bound (among (outputs_of condition))) (among (outputs_of then_part)))
        × GoodNode (with outside (with (in_node condition) (in_node then_part))) bound else_part
        × ArmBinds (node_ends else_part) outside (in_goal (Conditional condition then_part else_part)) bound outputs (with bound (among (outputs_of else_part)))
    GoodGoal outside bound outputs (Negation goal) = GoodNode outside bound goal × NotBinding outside (outputs_of goal) × Binds outside (in_node goal) bound outputs bound
    GoodGoal outside bound outputs (Quantified own goal) = GoodNode outside bound goal × Binds outside (in_node goal) bound outputs (with bound (among (outputs_of goal)))

    -- goals that go one after the other
    pub GoodNodes : Variables → Bound → Nodes → Type 0
    GoodNodes outside bound no_nodes = Unit {0}
    GoodNodes outside bound (more_nodes first rest) =
        GoodNode (with outside (in_nodes rest)) bound first × GoodNodes (with outside (in_node first)) (with bound (among (outputs_of first))) rest

    -- Disjuncts. A variable that occurs in several of them and not outside is each one's own, so none sees the others.
    pub GoodDisjuncts : Variables → Bound → Nodes → Type 0
    GoodDisjuncts outside bound no_nodes = Unit {0}
    GoodDisjuncts outside bound (more_nodes first rest) = GoodNode outside bound first × GoodDisjuncts outside bound rest

    -- arms of a switch, in the same way
    pub GoodArms : Variables → Bound → Arms → Type 0
    GoodArms outside bound no_arms = Unit {0}
    GoodArms outside bound (more_arms symbol body rest) = GoodNode outside bound body × GoodArms outside bound rest
