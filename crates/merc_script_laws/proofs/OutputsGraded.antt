-- With its categories a goal keeps its outputs.
use Rattle.std.proofs.Common.{◌≡◌, ◌⊎◌, inl, inr, ℕ, false, List, ◌∷◌, ◌++◌, refl, ap, ◌∙◌}
use Rattle.merc_tree.specs.Types.{TypeExpr}
use Rattle.merc_tree.specs.declared.declarations.ModeDecl.{ModeDecl}
use Rattle.merc_tree.specs.declared.declarations.TypeDef.{TypeDef}
use Rattle.merc_graded_tree.specs.declared.entries.Running.{Running}
use Rattle.merc_graded_tree.specs.Nodes.{Node, node, Goal, Basic, Conjunction, Disjunction, Switch, Conditional, Negation, Quantified, Nodes, no_nodes, more_nodes, Arms, no_arms, more_arms, outputs_of}
use Rattle.merc_order.specs.Bound.{among}
use Rattle.merc_grading.specs.Known.{Known, known_behind}
use Rattle.merc_grading.specs.Grading.{graded, graded_goal, graded_all, graded_each, graded_arms}
use Rattle.merc_order_laws.specs.GoodTree.{node_ends}
use Rattle.merc_program_laws.proofs.GradedSights.{next_known, graded_ends, graded_outputs}
use Rattle.merc_script_laws.specs.Parallel.{all_outputs, ArmHas, KeepsOutputs, GoalKeepsOutputs, AllKeepOutputs, EachKeepsOutputs, ArmsKeepOutputs}

module _ (declared : List TypeDef) (types : ℕ → TypeExpr) (modes : ℕ → List ModeDecl) where
  abbrev with_all : Known → Node → Node
  with_all seen m = graded declared modes types seen m

  -- what is known at the goal of a conjunction behind this one
  abbrev next : Running → Known → Node → Known
  next running seen m = next_known declared types modes running seen m

  arm_graded : (seen : Known) (m : Node) (outs : List ℕ) → ArmHas modes outs m → ArmHas modes outs (with_all seen m)
  arm_graded seen m outs (inl h) = inl (graded_ends declared types modes seen m ∙ h)
  arm_graded seen m outs (inr h) = inr (λ v k. ap (λ (l : List ℕ). among l v) (graded_outputs declared types modes seen m) ∙ h v k)

  then_graded : (seen now : Known) (c t : Node) (outs : List ℕ) → (node_ends modes c ≡ false) ⊎ ArmHas modes outs t → (node_ends modes (with_all seen c) ≡ false) ⊎ ArmHas modes outs (with_all now t)
  then_graded seen now c t outs (inl h) = inl (graded_ends declared types modes seen c ∙ h)
  then_graded seen now c t outs (inr h) = inr (arm_graded now t outs h)

  all_graded : (running : Running) (seen : Known) (ms : Nodes) → all_outputs (graded_all declared modes types running seen ms) ≡ all_outputs ms
  all_graded running seen no_nodes = refl
  all_graded running seen (more_nodes m ms) =
      ap (λ (l : List ℕ). l ++ all_outputs (graded_all declared modes types running (next running seen m) ms)) (graded_outputs declared types modes seen m)
      ∙ ap (λ (l : List ℕ). outputs_of m ++ l) (all_graded running (next running seen m) ms)

  mutual
    pub graded_keeps : (m : Node) (seen : Known) → KeepsOutputs modes m → KeepsOutputs modes (with_all seen m)
    graded_keeps (node g outs c at) seen k = goal_keeps g outs seen k

    goal_keeps : (g : Goal) (outs : List ℕ) (seen : Known) → GoalKeepsOutputs modes outs g → GoalKeepsOutputs modes outs (graded_goal declared modes types seen g)
    goal_keeps (Basic g) outs seen k = tt
    goal_keeps (Conjunction running ms) outs seen k = (all_keep running ms seen k.0, λ v h. ap (λ (l : List ℕ). among l v) (all_graded running seen ms) ∙ k.1 v h)
    goal_keeps (Disjunction ms) outs seen k = each_keeps ms outs seen k
    goal_keeps (Switch x arms) outs seen k = arms_keep arms x outs seen k
    goal_keeps (Conditional c t e) outs seen k = (
      graded_keeps c seen k.0,
      (graded_keeps t (known_behind c seen) k.1.0, then_graded seen (known_behind c seen) c t outs k.1.1),
      (graded_keeps e seen k.2.0, arm_graded seen e outs k.2.1),
    )
    goal_keeps (Negation m) outs seen k = (graded_keeps m seen k.0, k.1)
    goal_keeps (Quantified own m) outs seen k = (graded_keeps m seen k.0, λ v h. ap (λ (l : List ℕ). among l v) (graded_outputs declared types modes seen m) ∙ k.1 v h)

    all_keep : (running : Running) (ms : Nodes) (seen : Known) → AllKeepOutputs modes ms → AllKeepOutputs modes (graded_all declared modes types running seen ms)
    all_keep running no_nodes seen k = tt
    all_keep running (more_nodes m ms) seen k = (graded_keeps m seen k.0, all_keep running ms (next running seen m) k.1)

    each_keeps : (ms : Nodes) (outs : List ℕ) (seen : Known) → EachKeepsOutputs modes outs ms → EachKeepsOutputs modes outs (graded_each declared modes types seen ms)
    each_keeps no_nodes outs seen k = tt
    each_keeps (more_nodes m ms) outs seen k = ((graded_keeps m seen k.0.0, arm_graded seen m outs k.0.1), each_keeps ms outs seen k.1)

    arms_keep : (arms : Arms) (x : ℕ) (outs : List ℕ) (seen : Known) → ArmsKeepOutputs modes outs arms → ArmsKeepOutputs modes outs (graded_arms declared modes types seen x arms)
    arms_keep no_arms x outs seen k = tt
    arms_keep (more_arms symbol m arms) x outs seen k = ((graded_keeps m ((x, symbol) ∷ seen) k.0.0, arm_graded ((x, symbol) ∷ seen) m outs k.0.1), arms_keep arms x outs seen k.1)
