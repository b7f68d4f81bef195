-- The variables and outputs of ordered goals, and whether their ends can be reached.
use Rattle.std.specs.Prelude.{ℕ, Bool, true, false, ◌||◌, ◌&&◌, List, [], ◌∷◌}
use Rattle.merc_tree.specs.declared.declarations.ModeDecl.{ModeDecl}
use Rattle.merc_order.specs.Bound.{Bound, with, among}
use Rattle.merc_order.specs.CallModes.{can_succeed}
use Rattle.merc_order.specs.Ordered.{Ordered, Step, Ordereds, put, Truth, Failure, Assign, Test, Build, Split, Computed, Compared, Raised, Called, Sequence, Beside, Choice, Decision, Denial, Within, no_goals, more_goals}

-- whether a variable occurs in a goal; a quantifier's list is no occurrence
abbrev mutual
  pub in_ordered : Ordered → ℕ → Bool
  in_ordered (put step outputs span) variable = in_step step variable

  pub in_step : Step → ℕ → Bool
  in_step Truth variable = false
  in_step Failure variable = false
  in_step (Assign to from) variable = among (to ∷ from ∷ []) variable
  in_step (Test one other) variable = among (one ∷ other ∷ []) variable
  in_step (Build whole symbol arguments) variable = among (whole ∷ arguments) variable
  in_step (Split whole symbol arguments tests) variable = among (whole ∷ arguments) variable
  in_step (Computed operation result left right tests) variable = among (result ∷ left ∷ right ∷ []) variable
  in_step (Compared comparison left right) variable = among (left ∷ right ∷ []) variable
  in_step (Raised text) variable = among (text ∷ []) variable
  in_step (Called predicate mode arguments tests) variable = among arguments variable
  in_step (Sequence goals) variable = in_ordereds goals variable
  in_step (Beside goals) variable = in_ordereds goals variable
  in_step (Choice goals) variable = in_ordereds goals variable
  in_step (Decision condition then_part else_part) variable = in_ordered condition variable || (in_ordered then_part variable || in_ordered else_part variable)
  in_step (Denial goal) variable = in_ordered goal variable
  in_step (Within own goal) variable = in_ordered goal variable

  pub in_ordereds : Ordereds → ℕ → Bool
  in_ordereds no_goals variable = false
  in_ordereds (more_goals first rest) variable = in_ordered first variable || in_ordereds rest variable

abbrev pub ordered_outputs : Ordered → List ℕ
ordered_outputs (put step outputs span) = outputs

-- what is bound behind goals that go one after the other
abbrev pub bound_behind : Bound → Ordereds → Bound
bound_behind bound no_goals = bound
bound_behind bound (more_goals first rest) = bound_behind (with bound (among (ordered_outputs first))) rest

-- Given are the modes of each predicate.
module _ (modes : ℕ → List ModeDecl) where
  abbrev mutual
    -- whether the end of a goal can be reached
    pub ends : Ordered → Bool
    ends (put step outputs span) = step_ends step

    pub step_ends : Step → Bool
    step_ends Failure = false
    step_ends (Raised text) = false
    step_ends (Called predicate mode arguments tests) = can_succeed (modes predicate)
    step_ends (Sequence goals) = all_end goals
    step_ends (Beside goals) = all_end goals
    step_ends (Choice goals) = some_ends goals
    step_ends (Decision condition then_part else_part) = (ends condition && ends then_part) || ends else_part
    step_ends (Within own goal) = ends goal
    step_ends other = true

    pub all_end : Ordereds → Bool
    all_end no_goals = true
    all_end (more_goals first rest) = ends first && all_end rest

    pub some_ends : Ordereds → Bool
    some_ends no_goals = false
    some_ends (more_goals first rest) = ends first || some_ends rest
