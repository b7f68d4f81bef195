-- What occurs in a flat goal that is read as an ordered goal, and what it binds.
use Rattle.std.proofs.Common.{◌≡◌, inl, inr, ℕ, Bool, true, ◌||◌, ◌&&◌, List, ◌++◌, refl, ap, sym, ◌∙◌}
use Rattle.merc_tree.specs.declared.declarations.ModeDecl.{ModeDecl}
use Rattle.merc_goal_tree.specs.declared.goal.SimpleGoal.{SimpleGoal}
use Rattle.merc_goal_tree.specs.declared.goal.SimpleGoal.TheVariants.{True, Fail, Same, Shape, Arithmetic, Compare, Raise, Call}
use Rattle.merc_goal_tree.specs.Nodes.{Node, Nodes, Simple, Conjunction, Parallel, Disjunction, Conditional, Negation, Quantified, no_nodes, more_nodes}
use Rattle.merc_goal_tree.specs.Variables.{variables_of, variables, all_variables}
use Rattle.merc_graded_tree.specs.Variables.{variables_of as basic_variables, in_node, in_nodes}
use Rattle.merc_order.specs.Bound.{among}
use Rattle.merc_order.specs.Order.{shared, outside, binds, some_bind}
use Rattle.merc_order_laws.proofs.Facts.{clash, or_left, or_right, or_cases, or_same, and_left, among_append}
use Rattle.merc_program_laws.specs.Plain.{plain_goal, plain, plain_all}

goal_in : (g : SimpleGoal) (v : ℕ) → among (basic_variables (plain_goal g)) v ≡ among (variables_of g) v
goal_in True v = refl
goal_in Fail v = refl
goal_in (Same one other) v = refl
goal_in (Shape all symbol args) v = refl
goal_in (Arithmetic operation result left right) v = refl
goal_in (Compare comparison left right) v = refl
goal_in (Raise text) v = refl
goal_in (Call predicate args) v = refl

mutual
  pub plain_in : (m : Node) (v : ℕ) → in_node (plain m) v ≡ among (variables m) v
  plain_in (Simple g at) v = goal_in g v
  plain_in (Conjunction goals at) v = plain_all_in goals v
  plain_in (Parallel goals at) v = plain_all_in goals v
  plain_in (Disjunction goals at) v = plain_all_in goals v
  plain_in (Conditional c t e at) v =
      or_same (in_node (plain c) v) (in_node (plain t) v || in_node (plain e) v) (among (variables c) v) (among (variables t) v || among (variables e) v) (plain_in c v)
      (or_same (in_node (plain t) v) (in_node (plain e) v) (among (variables t) v) (among (variables e) v) (plain_in t v) (plain_in e v))
      ∙ ap (λ (k : Bool). among (variables c) v || k) (sym (among_append v (variables t) (variables e))) ∙ sym (among_append v (variables c) (variables t ++ variables e))
  plain_in (Negation goal at) v = plain_in goal v
  plain_in (Quantified own goal at) v = plain_in goal v

  plain_all_in : (ms : Nodes) (v : ℕ) → in_nodes (plain_all ms) v ≡ among (all_variables ms) v
  plain_all_in no_nodes v = refl
  plain_all_in (more_nodes m ms) v =
      or_same (in_node (plain m) v) (in_nodes (plain_all ms) v) (among (variables m) v) (among (all_variables ms) v) (plain_in m v) (plain_all_in ms v) ∙ sym (among_append v (variables m) (all_variables ms))

module _ (total : ℕ → ℕ) (modes : ℕ → List ModeDecl) where
  shared_in : (inside : List ℕ) (v : ℕ) (b : Bool) → (shared total modes inside v && b) ≡ true → among inside v ≡ true
  shared_in inside v b h = and_left (among inside v) (outside total modes inside v) (and_left (shared total modes inside v) b h)

  mutual
    -- what a goal binds occurs in it
    pub binds_in : (m : Node) (v : ℕ) → binds total modes m v ≡ true → in_node (plain m) v ≡ true
    binds_in (Simple g at) v h = goal_in g v ∙ h
    binds_in (Conjunction goals at) v h = some_in goals v h
    binds_in (Parallel goals at) v h = some_in goals v h
    binds_in (Disjunction goals at) v h = plain_in (Disjunction goals at) v ∙ shared_in (all_variables goals) v _ h
    binds_in (Conditional c t e at) v h = plain_in (Conditional c t e at) v ∙ shared_in (variables (Conditional c t e at)) v _ h
    binds_in (Negation goal at) v h = clash h refl
    binds_in (Quantified own goal at) v h = plain_in goal v ∙ shared_in (variables goal) v _ h

    some_in : (ms : Nodes) (v : ℕ) → some_bind total modes ms v ≡ true → in_nodes (plain_all ms) v ≡ true
    some_in no_nodes v h = clash h refl
    some_in (more_nodes m ms) v h = elim (or_cases (binds total modes m v) (some_bind total modes ms v) h) as (λ _. in_nodes (plain_all (more_nodes m ms)) v ≡ true) [
      | inl k ↦ or_left (in_node (plain m) v) (in_nodes (plain_all ms) v) (binds_in m v k)
      | inr k ↦ or_right (in_node (plain m) v) (in_nodes (plain_all ms) v) (some_in ms v k)
    ]
