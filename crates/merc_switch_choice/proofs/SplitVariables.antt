-- A variable that is split at the beginning of a goal occurs in it.
use Rattle.std.specs.Prelude.{◌≡◌, ℕ, Bool, true, false, ◌==◌, ◌||◌, List, [], ◌∷◌, ◌++◌, Option, Some, None, if◌then◌else◌, refl}
use Rattle.std.proofs.Common.{◌∙◌, ◌⊎◌, inl, inr, ap}
use Rattle.merc_goal_tree.specs.declared.goal.Symbol.{Symbol}
use Rattle.merc_graded_tree.specs.declared.basic.BasicGoal.{BasicGoal}
use Rattle.merc_graded_tree.specs.declared.basic.BasicGoal.TheVariants.{True, Fail, Assign, Test, Build, Split, Arithmetic, Compare, Raise, Call, Wait, Signal}
use Rattle.merc_graded_tree.specs.declared.entries.Running.TheVariants.{Sequential, Parallel}
use Rattle.merc_graded_tree.specs.Nodes.{Node, node, Goal, Basic, Conjunction, Disjunction, Switch, Conditional, Negation, Quantified, Nodes, no_nodes, more_nodes}
use Rattle.merc_graded_tree.specs.Variables.{in_node, in_goal, in_nodes, variables_of, among}
use Rattle.merc_grading.specs.Switches.{Beginning, followed, basic_beginning, beginning, goal_beginning, all_beginning, symbol_in, symbol_at}
use Rattle.merc_switch_choice.proofs.Members.{or_true}
use Rattle.merc_switch_choice.proofs.Tests.{eq_turned}

pub no_symbol : {A : Type 0} {s : Symbol} → ◌≡◌ {A = Option Symbol} None (Some s) → A
no_symbol h = absurd (cc)

split_occurs_if : (whole variable : ℕ) (here : Symbol) (arguments : List ℕ) (symbol : Symbol) (b : Bool) → (whole == variable) ≡ b → (if b then Some here else None) ≡ Some symbol
    → ((variable == whole) || among arguments variable) ≡ true
split_occurs_if whole variable here arguments symbol true same h = ap (λ b. b || among arguments variable) (eq_turned variable whole ∙ same)
split_occurs_if whole variable here arguments symbol false same h = no_symbol h

basic_occurs : (goal : BasicGoal) (variable : ℕ) (symbol : Symbol) → symbol_in (basic_beginning goal).splits variable ≡ Some symbol → among (variables_of goal) variable ≡ true
basic_occurs True variable symbol h = no_symbol h
basic_occurs Fail variable symbol h = no_symbol h
basic_occurs (Assign to from) variable symbol h = no_symbol h
basic_occurs (Test one other) variable symbol h = no_symbol h
basic_occurs (Build whole here arguments) variable symbol h = no_symbol h
basic_occurs (Split whole here arguments) variable symbol h = split_occurs_if whole variable here arguments symbol (whole == variable) refl h
basic_occurs (Arithmetic operation result left right) variable symbol h = no_symbol h
basic_occurs (Compare comparison left right) variable symbol h = no_symbol h
basic_occurs (Raise text) variable symbol h = no_symbol h
basic_occurs (Call procedure arguments) variable symbol h = no_symbol h
basic_occurs (Wait one conjunct) variable symbol h = no_symbol h
basic_occurs (Signal one conjunct) variable symbol h = no_symbol h

-- a symbol in two lists of splits is in one of them
pub in_either : (front back : List (ℕ × Symbol)) (variable : ℕ) (symbol : Symbol) → symbol_in (front ++ back) variable ≡ Some symbol
    → (symbol_in front variable ≡ Some symbol) ⊎ (symbol_in back variable ≡ Some symbol)
in_either [] back variable symbol h = inr h
in_either (first ∷ rest) back variable symbol h = either_if (first.0 == variable) first.1 (symbol_in rest variable) (symbol_in back variable) (symbol_in (rest ++ back) variable) symbol h (in_either rest back variable symbol)
  where
    either_if : (b : Bool) (here : Symbol) (one two both : Option Symbol) (s : Symbol) → (if b then Some here else both) ≡ Some s → (both ≡ Some s → (one ≡ Some s) ⊎ (two ≡ Some s))
        → ((if b then Some here else one) ≡ Some s) ⊎ (two ≡ Some s)
    either_if true here one two both s h f = inl h
    either_if false here one two both s h f = f h

followed_either_if : (goes_on : Bool) (front back : List (ℕ × Symbol)) (next : Bool) (variable : ℕ) (symbol : Symbol)
    → symbol_in (followed (record { splits = front; goes_on = goes_on }) (record { splits = back; goes_on = next })).splits variable ≡ Some symbol
    → (symbol_in front variable ≡ Some symbol) ⊎ (symbol_in back variable ≡ Some symbol)
followed_either_if true front back next variable symbol h = in_either front back variable symbol h
followed_either_if false front back next variable symbol h = inl h

pub followed_either : (first next : Beginning) (variable : ℕ) (symbol : Symbol) → symbol_in (followed first next).splits variable ≡ Some symbol
    → (symbol_in first.splits variable ≡ Some symbol) ⊎ (symbol_in next.splits variable ≡ Some symbol)
followed_either first next variable symbol h = followed_either_if first.goes_on first.splits next.splits next.goes_on variable symbol h

occurs_either : {A B : Type 0} (one other : Bool) → A ⊎ B → (A → one ≡ true) → (B → other ≡ true) → (one || other) ≡ true
occurs_either one other (inl h) f g = ap (λ b. b || other) (f h)
occurs_either one other (inr h) f g = ap (λ b. one || b) (g h) ∙ or_true one

mutual
  pub split_occurs : (whole : Node) (variable : ℕ) (symbol : Symbol) → symbol_at variable whole ≡ Some symbol → in_node whole variable ≡ true
  split_occurs (node goal outputs category span) variable symbol h = goal_occurs goal variable symbol h

  goal_occurs : (goal : Goal) (variable : ℕ) (symbol : Symbol) → symbol_in (goal_beginning goal).splits variable ≡ Some symbol → in_goal goal variable ≡ true
  goal_occurs (Basic goal) variable symbol h = basic_occurs goal variable symbol h
  goal_occurs (Conjunction Sequential goals) variable symbol h = all_occurs goals variable symbol h
  goal_occurs (Conjunction (Parallel site) goals) variable symbol h = no_symbol h
  goal_occurs (Disjunction goals) variable symbol h = no_symbol h
  goal_occurs (Switch whole arms) variable symbol h = no_symbol h
  goal_occurs (Conditional condition then_part else_part) variable symbol h = no_symbol h
  goal_occurs (Negation goal) variable symbol h = no_symbol h
  goal_occurs (Quantified own goal) variable symbol h = no_symbol h

  all_occurs : (goals : Nodes) (variable : ℕ) (symbol : Symbol) → symbol_in (all_beginning goals).splits variable ≡ Some symbol → in_nodes goals variable ≡ true
  all_occurs no_nodes variable symbol h = no_symbol h
  all_occurs (more_nodes first rest) variable symbol h =
      occurs_either (in_node first variable) (in_nodes rest variable) (followed_either (beginning first) (all_beginning rest) variable symbol h)
      (λ k. split_occurs first variable symbol k) (λ k. all_occurs rest variable symbol k)
