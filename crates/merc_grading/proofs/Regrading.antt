-- Goals with their categories, graded again.
use Rattle.std.specs.Prelude.{◌≡◌, ℕ, List, ◌∷◌, Some, refl}
use Rattle.std.proofs.Common.{◌∙◌, ap}
use Rattle.merc_tree.specs.Types.{TypeExpr}
use Rattle.merc_tree.specs.declared.declarations.ModeDecl.{ModeDecl}
use Rattle.merc_tree.specs.declared.declarations.TypeDef.{TypeDef}
use Rattle.merc_graded_tree.specs.declared.entries.Running.{Running}
use Rattle.merc_graded_tree.specs.Nodes.{Node, node, Goal, Basic, Conjunction, Disjunction, Switch, Conditional, Negation, Quantified, Nodes, no_nodes, more_nodes, Arms, no_arms, more_arms}
use Rattle.merc_grading.specs.Known.{Known, known_behind, known_behind_goal, known_behind_all}
use Rattle.merc_grading.specs.Grading as grading

module _ (declared : List TypeDef) (modes : ℕ → List ModeDecl) (types : ℕ → TypeExpr) where
  abbrev grade : Known → Node → Node
  grade = grading.graded declared modes types

  abbrev grade_goal : Known → Goal → Goal
  grade_goal = grading.graded_goal declared modes types

  abbrev grade_all : Running → Known → Nodes → Nodes
  grade_all = grading.graded_all declared modes types

  -- what is known at the goal behind the first
  abbrev next : Running → Known → Node → Known
  next running known first = grading.handed_on running (grading.category_at (grade known first)) (known_behind first known) known

  abbrev grade_each : Known → Nodes → Nodes
  grade_each = grading.graded_each declared modes types

  abbrev grade_arms : Known → ℕ → Arms → Arms
  grade_arms = grading.graded_arms declared modes types

  -- categories tell nothing of symbols
  mutual
    same_known : (known other : Known) (tree : Node) → known_behind (grade known tree) other ≡ known_behind tree other
    same_known known other (node goal outputs category span) = same_known_goal known other goal

    same_known_goal : (known other : Known) (goal : Goal) → known_behind_goal (grade_goal known goal) other ≡ known_behind_goal goal other
    same_known_goal known other (Basic goal) = refl
    same_known_goal known other (Conjunction running goals) = same_known_all running known other goals
    same_known_goal known other (Disjunction goals) = refl
    same_known_goal known other (Switch variable arms) = refl
    same_known_goal known other (Conditional condition then_part else_part) = refl
    same_known_goal known other (Negation goal) = refl
    same_known_goal known other (Quantified own goal) = same_known known other goal

    same_known_all : (running : Running) (known other : Known) (goals : Nodes) → known_behind_all (grade_all running known goals) other ≡ known_behind_all goals other
    same_known_all running known other no_nodes = refl
    same_known_all running known other (more_nodes first rest) =
        ap (λ k. known_behind_all (grade_all running (next running known first) rest) k) (same_known known other first)
        ∙ same_known_all running (next running known first) (known_behind first other) rest

  mutual
    pub again : (known : Known) (tree : Node) → grade known (grade known tree) ≡ grade known tree
    again known (node goal outputs category span) =
        ap (λ g. node g outputs (Some (grading.with_category declared modes types known outputs g)) span) (again_goal known goal)

    again_goal : (known : Known) (goal : Goal) → grade_goal known (grade_goal known goal) ≡ grade_goal known goal
    again_goal known (Basic goal) = refl
    again_goal known (Conjunction running goals) = ap (Conjunction running) (again_all running known goals)
    again_goal known (Disjunction goals) = ap Disjunction (again_each known goals)
    again_goal known (Switch variable arms) = ap (Switch variable) (again_arms known variable arms)
    again_goal known (Conditional condition then_part else_part) =
        let behind = known_behind condition known in
        ap (λ c. Conditional c (grade (known_behind (grade known condition) known) (grade behind then_part)) (grade known (grade known else_part))) (again known condition)
        ∙ ap (λ k. Conditional (grade known condition) (grade k (grade behind then_part)) (grade known (grade known else_part))) (same_known known known condition)
        ∙ ap (λ t. Conditional (grade known condition) t (grade known (grade known else_part))) (again behind then_part)
        ∙ ap (λ e. Conditional (grade known condition) (grade behind then_part) e) (again known else_part)
    again_goal known (Negation goal) = ap Negation (again known goal)
    again_goal known (Quantified own goal) = ap (Quantified own) (again known goal)

    again_all : (running : Running) (known : Known) (goals : Nodes) → grade_all running known (grade_all running known goals) ≡ grade_all running known goals
    again_all running known no_nodes = refl
    again_all running known (more_nodes first rest) =
        let later = next running known first in
        let handed = λ (c : Node) (k : Known). grading.handed_on running (grading.category_at c) k known in
        ap (λ f. more_nodes f (grade_all running (handed f (known_behind (grade known first) known)) (grade_all running later rest))) (again known first)
        ∙ ap (λ k. more_nodes (grade known first) (grade_all running (handed (grade known first) k) (grade_all running later rest))) (same_known known known first)
        ∙ ap (λ r. more_nodes (grade known first) r) (again_all running later rest)

    again_each : (known : Known) (goals : Nodes) → grade_each known (grade_each known goals) ≡ grade_each known goals
    again_each known no_nodes = refl
    again_each known (more_nodes first rest) =
        ap (λ f. more_nodes f (grade_each known (grade_each known rest))) (again known first)
        ∙ ap (λ r. more_nodes (grade known first) r) (again_each known rest)

    again_arms : (known : Known) (variable : ℕ) (arms : Arms) → grade_arms known variable (grade_arms known variable arms) ≡ grade_arms known variable arms
    again_arms known variable no_arms = refl
    again_arms known variable (more_arms symbol body rest) =
        let inside = (variable, symbol) ∷ known in
        ap (λ b. more_arms symbol b (grade_arms known variable (grade_arms known variable rest))) (again inside body)
        ∙ ap (λ r. more_arms symbol (grade inside body) r) (again_arms known variable rest)
