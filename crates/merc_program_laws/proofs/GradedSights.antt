-- A goal with its categories: its variables, whether its end can be reached, and the parts that hold no others.
use Rattle.std.proofs.Common.{◌≡◌, ℕ, ◌==◌, ◌||◌, ◌&&◌, List, ◌∷◌, ◌++◌, refl, ap, sym, subst, ◌∙◌}
use Rattle.std.specs.List.{AllByRecursion}
use Rattle.merc_tree.specs.Types.{TypeExpr}
use Rattle.merc_tree.specs.declared.declarations.ModeDecl.{ModeDecl}
use Rattle.merc_tree.specs.declared.declarations.TypeDef.{TypeDef}
use Rattle.merc_tree.specs.declared.declarations.Module.{Module}
use Rattle.merc_graded_tree.specs.declared.basic.BasicGoal.{BasicGoal}
use Rattle.merc_graded_tree.specs.declared.entries.Running.{Running}
use Rattle.merc_graded_tree.specs.Nodes.{Node, node, Goal, Basic, Conjunction, Disjunction, Switch, Conditional, Negation, Quantified, Nodes, no_nodes, more_nodes, Arms, no_arms, more_arms, outputs_of}
use Rattle.merc_graded_tree.specs.Variables.{in_goal, in_node, in_nodes, in_arms}
use Rattle.merc_grading.specs.Known.{Known, known_behind}
use Rattle.merc_grading.specs.Grading.{category_at, handed_on, graded, graded_goal, graded_all, graded_each, graded_arms}
use Rattle.merc_type_check.specs.Typing.{IsTypedGoal}
use Rattle.merc_order_laws.specs.GoodTree.{node_ends, goal_ends, all_nodes_end, some_node_ends, some_arm_ends}
use Rattle.merc_order_laws.specs.WrittenGoals.{basic_goals, basic_goals_in, all_basic_goals, arm_basic_goals, written_goal}
use Rattle.merc_order_laws.specs.TypedTree.{IsTypedTree}
use Rattle.merc_order_laws.proofs.Facts.{or_same, and_same}
use Rattle.merc_program_laws.specs.GoodPrograms.{HasLiteral, HasLiterals}

both : (one two three four : List BasicGoal) → one ≡ three → two ≡ four → (one ++ two) ≡ (three ++ four)
both one two three four p q = ap (λ l. l ++ two) p ∙ ap (λ l. three ++ l) q

module _ (declared : List TypeDef) (types : ℕ → TypeExpr) (modes : ℕ → List ModeDecl) where
  abbrev with_all : Known → Node → Node
  with_all seen m = graded declared modes types seen m

  -- what is known at the goal of a conjunction behind this one
  abbrev pub next_known : Running → Known → Node → Known
  next_known running seen m = handed_on running (category_at (with_all seen m)) (known_behind m seen) seen

  pub graded_outputs : (seen : Known) (m : Node) → outputs_of (with_all seen m) ≡ outputs_of m
  graded_outputs seen (node g outs c at) = refl

  mutual
    pub in_graded : (seen : Known) (m : Node) (v : ℕ) → in_node (with_all seen m) v ≡ in_node m v
    in_graded seen (node g outs c at) v = in_graded_goal seen g v

    pub in_graded_goal : (seen : Known) (g : Goal) (v : ℕ) → in_goal (graded_goal declared modes types seen g) v ≡ in_goal g v
    in_graded_goal seen (Basic g) v = refl
    in_graded_goal seen (Conjunction running ms) v = in_graded_all running seen ms v
    in_graded_goal seen (Disjunction ms) v = in_graded_each seen ms v
    in_graded_goal seen (Switch x arms) v = ap (λ b. (v == x) || b) (in_graded_arms seen x arms v)
    in_graded_goal seen (Conditional c t e) v =
        let behind = known_behind c seen in
        or_same (in_node (with_all seen c) v) (in_node (with_all behind t) v || in_node (with_all seen e) v) (in_node c v) (in_node t v || in_node e v) (in_graded seen c v)
        (or_same (in_node (with_all behind t) v) (in_node (with_all seen e) v) (in_node t v) (in_node e v) (in_graded behind t v) (in_graded seen e v))
    in_graded_goal seen (Negation m) v = in_graded seen m v
    in_graded_goal seen (Quantified own m) v = in_graded seen m v

    pub in_graded_all : (running : Running) (seen : Known) (ms : Nodes) (v : ℕ) → in_nodes (graded_all declared modes types running seen ms) v ≡ in_nodes ms v
    in_graded_all running seen no_nodes v = refl
    in_graded_all running seen (more_nodes m ms) v =
        let next = next_known running seen m in
        or_same (in_node (with_all seen m) v) (in_nodes (graded_all declared modes types running next ms) v) (in_node m v) (in_nodes ms v) (in_graded seen m v) (in_graded_all running next ms v)

    pub in_graded_each : (seen : Known) (ms : Nodes) (v : ℕ) → in_nodes (graded_each declared modes types seen ms) v ≡ in_nodes ms v
    in_graded_each seen no_nodes v = refl
    in_graded_each seen (more_nodes m ms) v =
        or_same (in_node (with_all seen m) v) (in_nodes (graded_each declared modes types seen ms) v) (in_node m v) (in_nodes ms v) (in_graded seen m v) (in_graded_each seen ms v)

    in_graded_arms : (seen : Known) (x : ℕ) (arms : Arms) (v : ℕ) → in_arms (graded_arms declared modes types seen x arms) v ≡ in_arms arms v
    in_graded_arms seen x no_arms v = refl
    in_graded_arms seen x (more_arms symbol m arms) v =
        or_same (in_node (with_all ((x, symbol) ∷ seen) m) v) (in_arms (graded_arms declared modes types seen x arms) v) (in_node m v) (in_arms arms v) (in_graded ((x, symbol) ∷ seen) m v) (in_graded_arms seen x arms v)

  mutual
    pub graded_ends : (seen : Known) (m : Node) → node_ends modes (with_all seen m) ≡ node_ends modes m
    graded_ends seen (node g outs c at) = graded_goal_ends seen g

    graded_goal_ends : (seen : Known) (g : Goal) → goal_ends modes (graded_goal declared modes types seen g) ≡ goal_ends modes g
    graded_goal_ends seen (Basic g) = refl
    graded_goal_ends seen (Conjunction running ms) = graded_all_end running seen ms
    graded_goal_ends seen (Disjunction ms) = graded_some_ends seen ms
    graded_goal_ends seen (Switch x arms) = graded_arms_end seen x arms
    graded_goal_ends seen (Conditional c t e) =
        let behind = known_behind c seen in
        or_same (node_ends modes (with_all seen c) && node_ends modes (with_all behind t)) (node_ends modes (with_all seen e)) (node_ends modes c && node_ends modes t) (node_ends modes e)
        (and_same (node_ends modes (with_all seen c)) (node_ends modes (with_all behind t)) (node_ends modes c) (node_ends modes t) (graded_ends seen c) (graded_ends behind t)) (graded_ends seen e)
    graded_goal_ends seen (Negation m) = refl
    graded_goal_ends seen (Quantified own m) = graded_ends seen m

    graded_all_end : (running : Running) (seen : Known) (ms : Nodes) → all_nodes_end modes (graded_all declared modes types running seen ms) ≡ all_nodes_end modes ms
    graded_all_end running seen no_nodes = refl
    graded_all_end running seen (more_nodes m ms) =
        let next = next_known running seen m in
        and_same (node_ends modes (with_all seen m)) (all_nodes_end modes (graded_all declared modes types running next ms)) (node_ends modes m) (all_nodes_end modes ms)
        (graded_ends seen m) (graded_all_end running next ms)

    graded_some_ends : (seen : Known) (ms : Nodes) → some_node_ends modes (graded_each declared modes types seen ms) ≡ some_node_ends modes ms
    graded_some_ends seen no_nodes = refl
    graded_some_ends seen (more_nodes m ms) =
        or_same (node_ends modes (with_all seen m)) (some_node_ends modes (graded_each declared modes types seen ms)) (node_ends modes m) (some_node_ends modes ms) (graded_ends seen m) (graded_some_ends seen ms)

    graded_arms_end : (seen : Known) (x : ℕ) (arms : Arms) → some_arm_ends modes (graded_arms declared modes types seen x arms) ≡ some_arm_ends modes arms
    graded_arms_end seen x no_arms = refl
    graded_arms_end seen x (more_arms symbol m arms) =
        or_same (node_ends modes (with_all ((x, symbol) ∷ seen) m)) (some_arm_ends modes (graded_arms declared modes types seen x arms)) (node_ends modes m) (some_arm_ends modes arms)
        (graded_ends ((x, symbol) ∷ seen) m) (graded_arms_end seen x arms)

  mutual
    pub graded_basics : (seen : Known) (m : Node) → basic_goals (with_all seen m) ≡ basic_goals m
    graded_basics seen (node g outs c at) = graded_goal_basics seen g

    graded_goal_basics : (seen : Known) (g : Goal) → basic_goals_in (graded_goal declared modes types seen g) ≡ basic_goals_in g
    graded_goal_basics seen (Basic g) = refl
    graded_goal_basics seen (Conjunction running ms) = graded_all_basics running seen ms
    graded_goal_basics seen (Disjunction ms) = graded_each_basics seen ms
    graded_goal_basics seen (Switch x arms) = graded_arm_basics seen x arms
    graded_goal_basics seen (Conditional c t e) =
        let behind = known_behind c seen in
        both (basic_goals (with_all seen c)) (basic_goals (with_all behind t) ++ basic_goals (with_all seen e)) (basic_goals c) (basic_goals t ++ basic_goals e) (graded_basics seen c)
        (both (basic_goals (with_all behind t)) (basic_goals (with_all seen e)) (basic_goals t) (basic_goals e) (graded_basics behind t) (graded_basics seen e))
    graded_goal_basics seen (Negation m) = graded_basics seen m
    graded_goal_basics seen (Quantified own m) = graded_basics seen m

    graded_all_basics : (running : Running) (seen : Known) (ms : Nodes) → all_basic_goals (graded_all declared modes types running seen ms) ≡ all_basic_goals ms
    graded_all_basics running seen no_nodes = refl
    graded_all_basics running seen (more_nodes m ms) =
        let next = next_known running seen m in
        both (basic_goals (with_all seen m)) (all_basic_goals (graded_all declared modes types running next ms)) (basic_goals m) (all_basic_goals ms) (graded_basics seen m) (graded_all_basics running next ms)

    graded_each_basics : (seen : Known) (ms : Nodes) → all_basic_goals (graded_each declared modes types seen ms) ≡ all_basic_goals ms
    graded_each_basics seen no_nodes = refl
    graded_each_basics seen (more_nodes m ms) =
        both (basic_goals (with_all seen m)) (all_basic_goals (graded_each declared modes types seen ms)) (basic_goals m) (all_basic_goals ms) (graded_basics seen m) (graded_each_basics seen ms)

    graded_arm_basics : (seen : Known) (x : ℕ) (arms : Arms) → arm_basic_goals (graded_arms declared modes types seen x arms) ≡ arm_basic_goals arms
    graded_arm_basics seen x no_arms = refl
    graded_arm_basics seen x (more_arms symbol m arms) =
        both (basic_goals (with_all ((x, symbol) ∷ seen) m)) (arm_basic_goals (graded_arms declared modes types seen x arms)) (basic_goals m) (arm_basic_goals arms)
        (graded_basics ((x, symbol) ∷ seen) m) (graded_arm_basics seen x arms)

pub graded_is_typed : (known : Module) (types : ℕ → TypeExpr) (modes : ℕ → List ModeDecl) (seen : Known) (m : Node) → IsTypedTree known types m → IsTypedTree known types (graded known.types modes types seen m)
graded_is_typed known types modes seen m all =
    subst (λ (l : List BasicGoal). AllByRecursion (λ basic. IsTypedGoal known types (written_goal basic)) l) (sym (graded_basics known.types types modes seen m)) all

pub graded_has_literals : (declared : List TypeDef) (types : ℕ → TypeExpr) (modes : ℕ → List ModeDecl) (seen : Known) (m : Node) → HasLiterals m → HasLiterals (graded declared modes types seen m)
graded_has_literals declared types modes seen m all = subst (λ (l : List BasicGoal). AllByRecursion HasLiteral l) (sym (graded_basics declared types modes seen m)) all
