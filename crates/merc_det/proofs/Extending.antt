-- What is known behind a goal stands in front of what is known before it, so that it can be forgotten.
use Rattle.std.specs.Prelude.{◌≡◌, ◌≤◌, ℕ, [], ◌∷◌, ◌++◌, length, Option, Some, None, refl}
use Rattle.std.proofs.Common.{◌∙◌, ap, sym, arith}
use Rattle.std.proofs.lemmas.List.{append_assoc, length-append}
use Rattle.merc_goal_tree.specs.declared.goal.Symbol.{Symbol}
use Rattle.merc_graded_tree.specs.declared.basic.BasicGoal.{BasicGoal}
use Rattle.merc_graded_tree.specs.declared.basic.BasicGoal.TheVariants.{True, Fail, Assign, Test, Build, Split, Arithmetic, Compare, Raise, Call, Wait, Signal}
use Rattle.merc_graded_tree.specs.Nodes.{Node, node, Goal, Basic, Conjunction, Disjunction, Switch, Conditional, Negation, Quantified, Nodes, no_nodes, more_nodes}
use Rattle.merc_grading.specs.Known.{Known, known_of, with_known, known_behind, known_behind_goal, known_behind_all, known_behind_basic}
use Rattle.merc_det.specs.Seen.{back_to}
use Rattle.merc_det.proofs.SeenLaws.{back_to-short, back_to-more}

pub record Extends (known later : Known) : Type 0 where
  pub front : Known
  pub is : later ≡ front ++ known

pub same : (known : Known) → Extends known known
same known = record { front = []; is = refl }

pub one_more : (variable : ℕ) (symbol : Symbol) (known : Known) → Extends known ((variable, symbol) ∷ known)
one_more variable symbol known = record { front = (variable, symbol) ∷ []; is = refl }

pub chain : (known middle later : Known) → Extends known middle → Extends middle later → Extends known later
chain known middle later one two = record {
  front = two.front ++ one.front;
  is = two.is ∙ ap (λ l. two.front ++ l) one.is ∙ sym (append_assoc two.front one.front known);
}

told : (variable : ℕ) (found : Option Symbol) (known : Known) → Extends known (with_known variable found known)
told variable None known = same known
told variable (Some symbol) known = one_more variable symbol known

behind_basic : (goal : BasicGoal) (known : Known) → Extends known (known_behind_basic goal known)
behind_basic True known = same known
behind_basic Fail known = same known
behind_basic (Assign to from) known = told to (known_of known from) known
behind_basic (Test one other) known = same known
behind_basic (Build whole symbol arguments) known = one_more whole symbol known
behind_basic (Split whole symbol arguments) known = one_more whole symbol known
behind_basic (Arithmetic operation result left right) known = same known
behind_basic (Compare comparison left right) known = same known
behind_basic (Raise text) known = same known
behind_basic (Call procedure arguments) known = same known
behind_basic (Wait variable conjunct) known = same known
behind_basic (Signal variable conjunct) known = same known

mutual
  pub behind : (whole : Node) (known : Known) → Extends known (known_behind whole known)
  behind (node goal outputs category span) known = behind_goal goal known

  behind_goal : (goal : Goal) (known : Known) → Extends known (known_behind_goal goal known)
  behind_goal (Basic goal) known = behind_basic goal known
  behind_goal (Conjunction running goals) known = behind_all goals known
  behind_goal (Disjunction goals) known = same known
  behind_goal (Switch variable arms) known = same known
  behind_goal (Conditional condition then_part else_part) known = same known
  behind_goal (Negation goal) known = same known
  behind_goal (Quantified own goal) known = behind goal known

  behind_all : (goals : Nodes) (known : Known) → Extends known (known_behind_all goals known)
  behind_all no_nodes known = same known
  behind_all (more_nodes first rest) known =
      chain known (known_behind first known) (known_behind_all rest (known_behind first known)) (behind first known) (behind_all rest (known_behind first known))

back_front : (front known : Known) → back_to (length known) (front ++ known) ≡ known
back_front [] known = back_to-short (length known) known (omega arith)
back_front (first ∷ rest) known =
    let h : length known ≤ length (rest ++ known) = omega (arith, length-append rest known) in
    back_to-more (length known) first (rest ++ known) h ∙ back_front rest known

pub forgotten : (known later : Known) → Extends known later → back_to (length known) later ≡ known
forgotten known later extends = ap (back_to (length known)) extends.is ∙ back_front extends.front known
