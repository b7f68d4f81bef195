-- The order of a goal from what is bound, or why there is none.
use Rattle.std.specs.Prelude.{ℕ, Bool, true, false, not, ◌&&◌, ◌||◌, nat_lt, List, [], ◌∷◌, ◌++◌, length, Option, Some, None, if◌then◌else◌}
use Rattle.std.specs.List.{list_all, list_any, filter}
use Rattle.merc_base.specs.declared.place.Span.{Span}
use Rattle.merc_tree.specs.declared.declarations.ModeDecl.{ModeDecl}
use Rattle.merc_goal_tree.specs.declared.goal.SimpleGoal.{SimpleGoal}
use Rattle.merc_goal_tree.specs.declared.goal.SimpleGoal.TheVariants.{True, Fail, Same, Shape, Arithmetic, Compare, Raise, Call}
use Rattle.merc_goal_tree.specs.Nodes.{Node, Nodes, Simple, Conjunction, Parallel, Disjunction, Conditional, Negation, Quantified, no_nodes, more_nodes, span_of}
use Rattle.merc_goal_tree.specs.Variables.{variables_of, variables, all_variables, count}
use Rattle.merc_order.specs.Bound.{Bound, with, among, are_bound, each_once}
use Rattle.merc_order.specs.CallModes.{taken_from, can_succeed, tested, call_tested}
use Rattle.merc_order.specs.Faults.{never_ready, binds_outer, unbound_output}
use Rattle.merc_order.specs.Moves.{Move, settled, beside, each_from}
use Rattle.merc_order.specs.Ordered.{put, Truth, Failure, Assign, Test, Build, Split, Computed, Compared, Raised, Called, Sequence, Beside, Choice, Decision, Denial, Within, Outcome, Ready, Stuck, if_ready, if_all_ready}

-- An arm: what it binds, and whether its end can be reached.
pub record Arm : Type 0 where
  pub binds : Bound
  pub reached : Bool

abbrev pub any_reached : List Arm → Bool
any_reached arms = list_any (λ arm. arm.reached) arms

-- the arms that count: those whose ends can be reached, or all where there are none
abbrev pub counting : List Arm → List Arm
counting arms = if any_reached arms then filter (λ arm. arm.reached) arms else arms

abbrev pub all_bind : List Arm → ℕ → Bool
all_bind arms variable = list_all (λ arm. arm.binds variable) (counting arms)

-- some of those that can be reached bind it, and not all
abbrev pub differ_on : List Arm → ℕ → Bool
differ_on arms variable = any_reached arms && list_any (λ arm. arm.binds variable) (counting arms) && not (all_bind arms variable)

-- What is bound behind arms that do not differ: what those bind that can be reached, or where there are none what all bind.
abbrev pub arms_bind : List Arm → ℕ → Bool
arms_bind arms variable = if any_reached arms then list_any (λ arm. arm.binds variable) (counting arms) else all_bind arms variable

-- Given are how often each variable occurs in the whole, where an argument of the predicate or a variable of the answer counts once more, and the modes of each predicate.
module _ (total : ℕ → ℕ) (modes : ℕ → List ModeDecl) where
  -- a variable occurs outside a goal that has these: more often in the whole than in the goal
  abbrev pub outside : List ℕ → ℕ → Bool
  outside inside variable = nat_lt (count variable inside) (total variable)

  -- one of these that occurs outside too
  abbrev pub shared : List ℕ → ℕ → Bool
  shared inside variable = among inside variable && outside inside variable

  abbrev pub is_simple_reached : SimpleGoal → Bool
  is_simple_reached Fail = false
  is_simple_reached (Raise text) = false
  is_simple_reached (Call predicate arguments) = can_succeed (modes predicate)
  is_simple_reached other = true

  abbrev mutual
    -- whether the end of a goal can be reached
    pub reached : Node → Bool
    reached (Simple goal span) = is_simple_reached goal
    reached (Conjunction goals span) = all_reached goals
    reached (Parallel goals span) = all_reached goals
    reached (Disjunction goals span) = some_reached goals
    reached (Conditional condition then_part else_part span) = (reached condition && reached then_part) || reached else_part
    reached (Negation goal span) = true
    reached (Quantified own goal span) = reached goal

    pub all_reached : Nodes → Bool
    all_reached no_nodes = true
    all_reached (more_nodes first rest) = reached first && all_reached rest

    pub some_reached : Nodes → Bool
    some_reached no_nodes = false
    some_reached (more_nodes first rest) = reached first || some_reached rest

  abbrev mutual
    -- which variables a goal has bound behind it, where it can be ordered, beside those that were bound before
    pub binds : Node → Bound
    binds (Simple goal span) variable = among (variables_of goal) variable
    binds (Conjunction goals span) variable = some_bind goals variable
    binds (Parallel goals span) variable = some_bind goals variable
    binds (Disjunction goals span) variable = shared (all_variables goals) variable && arms_bind (arms goals) variable
    binds (Conditional condition then_part else_part span) variable =
        shared (variables (Conditional condition then_part else_part span)) variable
        && arms_bind (record { binds = λ one. binds condition one || binds then_part one; reached = reached condition && reached then_part }
        ∷ record { binds = λ one. binds else_part one; reached = reached else_part } ∷ []) variable
    binds (Negation goal span) variable = false
    binds (Quantified own goal span) variable = shared (variables goal) variable && binds goal variable

    pub some_bind : Nodes → Bound
    some_bind no_nodes variable = false
    some_bind (more_nodes first rest) variable = binds first variable || some_bind rest variable

    pub arms : Nodes → List Arm
    arms no_nodes = []
    arms (more_nodes first rest) = record { binds = λ one. binds first one; reached = reached first } ∷ arms rest

  abbrev pub decision_arms : Node → Node → Node → List Arm
  decision_arms condition then_part else_part =
      record { binds = with (binds condition) (binds then_part); reached = reached condition && reached then_part }
      ∷ record { binds = binds else_part; reached = reached else_part } ∷ []

  -- Of these variables none occurs outside that is bound there and not before.
  abbrev pub binds_inside : Bound → List ℕ → List ℕ → Bound → Bool
  binds_inside bound inside variables binds = list_all (λ variable. bound variable || not (binds variable) || not (outside inside variable)) variables

  -- The arms bind the same of the variables that occur outside.
  abbrev pub agree : Bound → List ℕ → List Arm → Bool
  agree bound inside arms = list_all (λ variable. bound variable || not (differ_on arms variable) || not (outside inside variable)) inside

  -- The outputs of a goal with these variables from what is bound: what it binds that was not bound and occurs outside it, in the order of the text.
  abbrev pub outputs : Bound → List ℕ → Bound → List ℕ
  outputs bound inside binds = each_once (filter (λ variable. binds variable && (not (bound variable) && outside inside variable)) inside)

  abbrev pub outputs_of : Bound → Node → List ℕ
  outputs_of bound goal = outputs bound (variables goal) (binds goal)

  -- Goals that hold no others.

  -- two variables: a test where both are bound, an assignment where one is
  abbrev pub same_from : ℕ → ℕ → Bool → Bool → List ℕ → Span → Outcome
  same_from one other true true outputs span = Ready (put (Test one other) outputs span)
  same_from one other true false outputs span = Ready (put (Assign other one) outputs span)
  same_from one other false true outputs span = Ready (put (Assign one other) outputs span)
  same_from one other false false outputs span = Stuck (never_ready span)

  abbrev pub called_from : Bound → ℕ → List ℕ → Option (ℕ × ModeDecl) → List ℕ → Span → Outcome
  called_from bound predicate arguments None outputs span = Stuck (never_ready span)
  called_from bound predicate arguments (Some taken) outputs span =
      Ready (put (Called predicate taken.0 arguments (call_tested bound taken.1.args arguments)) outputs span)

  abbrev pub simple_from : SimpleGoal → List ℕ → Span → Bound → Outcome
  simple_from True outputs span bound = Ready (put Truth outputs span)
  simple_from Fail outputs span bound = Ready (put Failure outputs span)
  simple_from (Same one other) outputs span bound = same_from one other (bound one) (bound other) outputs span
  simple_from (Shape whole symbol arguments) outputs span bound =
      if bound whole then Ready (put (Split whole symbol arguments (tested bound arguments)) outputs span)
      else if are_bound bound arguments then Ready (put (Build whole symbol arguments) outputs span)
      else Stuck (never_ready span)
  simple_from (Arithmetic operation result left right) outputs span bound =
      if bound left && bound right then Ready (put (Computed operation result left right (tested bound (result ∷ []))) outputs span) else Stuck (never_ready span)
  simple_from (Compare comparison left right) outputs span bound =
      if bound left && bound right then Ready (put (Compared comparison left right) outputs span) else Stuck (never_ready span)
  simple_from (Raise text) outputs span bound = if bound text then Ready (put (Raised text) outputs span) else Stuck (never_ready span)
  simple_from (Call predicate arguments) outputs span bound = called_from bound predicate arguments (taken_from 0 bound arguments (modes predicate)) outputs span

  abbrev mutual
    -- what becomes of a goal from what is bound
    pub from : Node → Bound → Outcome
    from (Simple goal span) bound = simple_from goal (outputs_of bound (Simple goal span)) span bound
    from (Conjunction goals span) bound =
        if_all_ready (settled (length (moves goals)) (moves goals) bound) (λ all. Ready (put (Sequence all) (outputs_of bound (Conjunction goals span)) span))
    from (Parallel goals span) bound = if_all_ready (beside 1 (moves goals) bound) (λ all. Ready (put (Beside all) (outputs_of bound (Parallel goals span)) span))
    from (Disjunction goals span) bound = if_all_ready (each_from (moves goals) bound) (λ all.
        if agree bound (all_variables goals) (arms goals) then Ready (put (Choice all) (outputs_of bound (Disjunction goals span)) span) else Stuck (unbound_output span))
    from (Conditional condition then_part else_part span) bound = if_ready (from condition bound) (λ first.
        if binds_inside bound (variables condition ++ variables then_part) (variables condition) (binds condition)
        then if_ready (from then_part (with bound (binds condition))) (λ second. if_ready (from else_part bound) (λ third.
        if agree bound (variables (Conditional condition then_part else_part span)) (decision_arms condition then_part else_part)
        then Ready (put (Decision first second third) (outputs_of bound (Conditional condition then_part else_part span)) span) else Stuck (unbound_output span)))
        else Stuck (binds_outer (span_of condition)))
    from (Negation goal span) bound = if_ready (from goal bound) (λ inner.
        if binds_inside bound (variables goal) (variables goal) (binds goal) then Ready (put (Denial inner) [] span) else Stuck (binds_outer span))
    from (Quantified own goal span) bound = if_ready (from goal bound) (λ inner. Ready (put (Within own inner) (outputs_of bound (Quantified own goal span)) span))

    pub moves : Nodes → List Move
    moves no_nodes = []
    moves (more_nodes first rest) = record { binds = binds first; span = span_of first; from = λ bound. from first bound } ∷ moves rest
