-- A goal that begins with a symbol of a variable fails where the variable has another.
use Rattle.std.proofs.Common.{◌≡◌, ◌⊎◌, inl, inr, ℕ, Bool, true, false, ◌==◌, Option, Some, None, if◌then◌else◌, refl}
use Rattle.std.proofs.lemmas.Bool.Decides.{Decides-eqb}
use Rattle.merc_goal_tree.specs.declared.goal.Symbol.{Symbol}
use Rattle.merc_graded_tree.specs.declared.basic.BasicGoal.{BasicGoal}
use Rattle.merc_graded_tree.specs.declared.basic.BasicGoal.TheVariants.{True, Fail, Assign, Test, Build, Split, Arithmetic, Compare, Raise, Call, Wait, Signal}
use Rattle.merc_graded_tree.specs.declared.entries.Running.TheVariants.{Sequential, Parallel}
use Rattle.merc_graded_tree.specs.Nodes.{Node, node, Goal, Basic, Conjunction, Disjunction, Switch, Conditional, Negation, Quantified, Nodes, no_nodes, more_nodes}
use Rattle.merc_grading.specs.Switches.{basic_beginning, beginning, goal_beginning, all_beginning, symbol_in, symbol_at}
use Rattle.merc_switch_choice.proofs.SplitVariables.{followed_either}
use Rattle.merc_program_laws.specs.Guarding.{GuardsBasic, Guards, GuardsGoal, OneGuards}

no_symbol : {A : Type 0} {s : Symbol} → ◌≡◌ {A = Option Symbol} None (Some s) → A
no_symbol h = absurd (cc)

same_symbols : {one other : Symbol} → ◌≡◌ {A = Option Symbol} (Some one) (Some other) → one ≡ other
same_symbols h = cc

split_guards : (whole x : ℕ) (here c : Symbol) (b : Bool) → (whole == x) ≡ b → (if b then Some here else None) ≡ Some c → (whole ≡ x) × (here ≡ c)
split_guards whole x here c true is h = ((Decides-eqb whole x).0 is, same_symbols h)
split_guards whole x here c false is h = no_symbol h

basic_guards : (g : BasicGoal) (x : ℕ) (c : Symbol) → symbol_in (basic_beginning g).splits x ≡ Some c → GuardsBasic x c g
basic_guards True x c h = no_symbol h
basic_guards Fail x c h = no_symbol h
basic_guards (Assign to from) x c h = no_symbol h
basic_guards (Test one other) x c h = no_symbol h
basic_guards (Build whole symbol arguments) x c h = no_symbol h
basic_guards (Split whole symbol arguments) x c h = split_guards whole x symbol c (whole == x) refl h
basic_guards (Arithmetic operation result left right) x c h = no_symbol h
basic_guards (Compare comparison left right) x c h = no_symbol h
basic_guards (Raise text) x c h = no_symbol h
basic_guards (Call procedure arguments) x c h = no_symbol h
basic_guards (Wait variable conjunct) x c h = no_symbol h
basic_guards (Signal variable conjunct) x c h = no_symbol h

pub either : {A B C D : Type 0} → (A → C) → (B → D) → A ⊎ B → C ⊎ D
either f g (inl a) = inl (f a)
either f g (inr b) = inr (g b)

mutual
  pub beginning_guards : (m : Node) (x : ℕ) (c : Symbol) → symbol_at x m ≡ Some c → Guards x c m
  beginning_guards (node g outs cat at) x c h = goal_guards g x c h

  goal_guards : (g : Goal) (x : ℕ) (c : Symbol) → symbol_in (goal_beginning g).splits x ≡ Some c → GuardsGoal x c g
  goal_guards (Basic g) x c h = basic_guards g x c h
  goal_guards (Conjunction Sequential ms) x c h = one_guards ms x c h
  goal_guards (Conjunction (Parallel site) ms) x c h = no_symbol h
  goal_guards (Disjunction ms) x c h = no_symbol h
  goal_guards (Switch y arms) x c h = no_symbol h
  goal_guards (Conditional condition then_part else_part) x c h = no_symbol h
  goal_guards (Negation m) x c h = no_symbol h
  goal_guards (Quantified own m) x c h = no_symbol h

  one_guards : (ms : Nodes) (x : ℕ) (c : Symbol) → symbol_in (all_beginning ms).splits x ≡ Some c → OneGuards x c ms
  one_guards no_nodes x c h = no_symbol h
  one_guards (more_nodes m ms) x c h = either (beginning_guards m x c) (one_guards ms x c) (followed_either (beginning m) (all_beginning ms) x c h)
