-- Where a variable has another symbol a guarded goal is no.
use Rattle.std.proofs.Common.{◌≡◌, inl, inr, ℕ, true, false, List, [], ◌∷◌, Option, Some, None, refl, ap, sym, ◌∙◌}
use Rattle.std.specs.List.{AllByRecursion}
use Rattle.merc_tree.specs.declared.declarations.Module.{Module}
use Rattle.merc_goal_tree.specs.declared.goal.Symbol.{Symbol}
use Rattle.merc_graded_tree.specs.declared.basic.BasicGoal.{BasicGoal}
use Rattle.merc_graded_tree.specs.declared.basic.BasicGoal.TheVariants.{True, Fail, Assign, Test, Build, Split, Arithmetic, Compare, Raise, Call, Wait, Signal}
use Rattle.merc_graded_tree.specs.Nodes.{Node, node, Goal, Basic, Conjunction, Disjunction, Switch, Conditional, Negation, Quantified, Nodes, no_nodes, more_nodes, Arms, no_arms, more_arms}
use Rattle.merc_graded_tree.specs.Roots.{symbols_of}
use Rattle.merc_graded_tree.specs.Variables.{in_node, in_nodes}
use Rattle.merc_order.specs.Bound.{with, among}
use Rattle.merc_order_laws.specs.Bindings.{Variables}
use Rattle.merc_order_laws.specs.WrittenGoals.{basic_goals, basic_goals_in, all_basic_goals, arm_basic_goals}
use Rattle.merc_order_laws.proofs.Facts.{clash, or_left}
use Rattle.merc_order_laws.proofs.Written.{all_left, all_right}
use Rattle.merc_grading.specs.Known.{same_symbol, has_symbol}
use Rattle.merc_value.specs.Value.{Value, Values}
use Rattle.merc_meaning.specs.Values.{made, fields}
use Rattle.merc_meaning.specs.Truth.{Assignment, Judgement, assigned, No, NoGoal, NoAny, NoAll, NoArms}
use Rattle.merc_program_laws.specs.Guarding.{Guards, GuardsGoal, OneGuards, EachGuards, EachArmGuards, ArmsHaveGuards}
use Rattle.merc_program_laws.proofs.Values.{Instance, or_not_left, or_not_right, none_not, symbol_decides, one_symbol, fields_of_made}
use Rattle.merc_program_laws.proofs.TreeCategories.{IsPart}
use Rattle.merc_program_laws.proofs.SimpleTruth.{assigned_many}

none_case : (o : Option Values) → ((ws : Values) → o ≡ Some ws → ⊥) → o ≡ None
none_case None h = refl
none_case (Some ws) h = absurd (h ws refl)

other_symbol : (u t : Symbol) (v : Value) (vs : Values) → same_symbol t u ≡ false → fields t v ≡ Some vs → (w : Value) → w ≡ v → fields u w ≡ None
other_symbol u t v vs h e w q = none_case (fields u w) (λ ws f. clash ((symbol_decides t u).1 (one_symbol t u v vs ws e (ap (fields u) (sym q) ∙ f))) h)

-- Given are the module, the types of the variables, what type variables stand for, and judgements of calls.
module _ (known : Module) (types i : Instance) (y n : Judgement) where
  abbrev Parts : List BasicGoal → Type 0
  Parts gs = AllByRecursion (IsPart known types i) gs

  mutual
    guard_no : (g : Goal) (out : Variables) (x : ℕ) (t : Symbol) (s : Assignment) → Parts (basic_goals_in g) → out x ≡ true → GuardsGoal x t g → fields t (s x) ≡ None → NoGoal y n out g s
    guard_no (Basic (Split z u ys)) out x t s parts o h e = λ q.
        none_not (sym e ∙ ap (fields t) (ap s (sym h.0) ∙ q) ∙ ap (λ (k : Symbol). fields k (made u (assigned s ys))) (sym h.1) ∙ fields_of_made u (assigned s ys) (assigned_many known (λ _. []) types i z u ys s parts.0.0))
    guard_no (Basic True) out x t s parts o h e = absurd h
    guard_no (Basic Fail) out x t s parts o h e = absurd h
    guard_no (Basic (Assign a b)) out x t s parts o h e = absurd h
    guard_no (Basic (Test a b)) out x t s parts o h e = absurd h
    guard_no (Basic (Build a b c)) out x t s parts o h e = absurd h
    guard_no (Basic (Arithmetic a b c d)) out x t s parts o h e = absurd h
    guard_no (Basic (Compare a b c)) out x t s parts o h e = absurd h
    guard_no (Basic (Raise a)) out x t s parts o h e = absurd h
    guard_no (Basic (Call a b)) out x t s parts o h e = absurd h
    guard_no (Basic (Wait a b)) out x t s parts o h e = absurd h
    guard_no (Basic (Signal a b)) out x t s parts o h e = absurd h
    guard_no (Conjunction running ns) out x t s parts o h e = guard_one ns out x t s parts o h e
    guard_no (Disjunction ns) out x t s parts o h e = guard_each ns out x t s parts o h e
    guard_no (Switch z arms) out x t s parts o h e = guard_arms arms (with out (among (z ∷ []))) x t s parts (or_left (out x) (among (z ∷ []) x) o) h e
    guard_no (Conditional a b c) out x t s parts o h e = absurd h
    guard_no (Negation a) out x t s parts o h e = absurd h
    guard_no (Quantified a b) out x t s parts o h e = absurd h

    pub guard_node : (m : Node) (out : Variables) (x : ℕ) (t : Symbol) (s : Assignment) → Parts (basic_goals m) → out x ≡ true → Guards x t m → fields t (s x) ≡ None → No y n out m s
    guard_node (node g outs cat span) out x t s parts o h e = inr (λ s' v a. guard_no g out x t s' parts o h (ap (fields t) (a x o) ∙ e))

    guard_one : (ns : Nodes) (out : Variables) (x : ℕ) (t : Symbol) (s : Assignment) → Parts (all_basic_goals ns) → out x ≡ true → OneGuards x t ns → fields t (s x) ≡ None → NoAny y n out ns s
    guard_one no_nodes out x t s parts o h e = h
    guard_one (more_nodes m ns) out x t s parts o (inl h) e =
        inl (guard_node m (with out (in_nodes ns)) x t s (all_left (IsPart known types i) (basic_goals m) (all_basic_goals ns) parts) (or_left (out x) (in_nodes ns x) o) h e)
    guard_one (more_nodes m ns) out x t s parts o (inr h) e =
        inr (guard_one ns (with out (in_node m)) x t s (all_right (IsPart known types i) (basic_goals m) (all_basic_goals ns) parts) (or_left (out x) (in_node m x) o) h e)

    guard_each : (ns : Nodes) (out : Variables) (x : ℕ) (t : Symbol) (s : Assignment) → Parts (all_basic_goals ns) → out x ≡ true → EachGuards x t ns → fields t (s x) ≡ None → NoAll y n out ns s
    guard_each no_nodes out x t s parts o h e = tt
    guard_each (more_nodes m ns) out x t s parts o h e = (
      guard_node m out x t s (all_left (IsPart known types i) (basic_goals m) (all_basic_goals ns) parts) o h.0 e,
      guard_each ns out x t s (all_right (IsPart known types i) (basic_goals m) (all_basic_goals ns) parts) o h.1 e,
    )

    guard_arms : (arms : Arms) (out : Variables) (x : ℕ) (t : Symbol) (s : Assignment) → Parts (arm_basic_goals arms) → out x ≡ true → EachArmGuards x t arms → fields t (s x) ≡ None → NoArms y n out arms s
    guard_arms no_arms out x t s parts o h e = tt
    guard_arms (more_arms u m arms) out x t s parts o h e = (
      guard_node m out x t s (all_left (IsPart known types i) (basic_goals m) (arm_basic_goals arms) parts) o h.0 e,
      guard_arms arms out x t s (all_right (IsPart known types i) (basic_goals m) (arm_basic_goals arms) parts) o h.1 e,
    )

  -- behind the arm that is taken all are no
  pub rest_no : (arms : Arms) (out : Variables) (x : ℕ) (t : Symbol) (v : Value) (vs : Values) (s : Assignment) → Parts (arm_basic_goals arms) → out x ≡ true → ArmsHaveGuards x arms → has_symbol (symbols_of arms) t ≡ false
      → fields t v ≡ Some vs → s x ≡ v → NoArms y n out arms s
  rest_no no_arms out x t v vs s parts o guards h e q = tt
  rest_no (more_arms u m arms) out x t v vs s parts o guards h e q = (
    guard_node m out x u s (all_left (IsPart known types i) (basic_goals m) (arm_basic_goals arms) parts) o guards.0 (other_symbol u t v vs (or_not_left (same_symbol t u) (has_symbol (symbols_of arms) t) h) e (s x) q),
    rest_no arms out x t v vs s (all_right (IsPart known types i) (basic_goals m) (arm_basic_goals arms) parts) o guards.3 (or_not_right (same_symbol t u) (has_symbol (symbols_of arms) t) h) e q,
  )
