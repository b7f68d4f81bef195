-- A goal is yes, and no, wherever its calls are no less so.
use Rattle.std.proofs.Common.{inl, inr, ℕ, List, [], ◌∷◌}
use Rattle.merc_graded_tree.specs.declared.basic.BasicGoal.{BasicGoal}
use Rattle.merc_graded_tree.specs.declared.basic.BasicGoal.TheVariants.{True, Fail, Assign, Test, Build, Split, Arithmetic, Compare, Raise, Call, Wait, Signal}
use Rattle.merc_graded_tree.specs.declared.basic.Procedure.{Procedure}
use Rattle.merc_graded_tree.specs.Nodes.{Node, node, Goal, Basic, Conjunction, Disjunction, Switch, Conditional, Negation, Quantified, Nodes, no_nodes, more_nodes, Arms, no_arms, more_arms}
use Rattle.merc_graded_tree.specs.Variables.{among, in_node, in_nodes}
use Rattle.merc_meaning.specs.Truth.{Assignment, Outside, with, Judgement, YesBasic, NoBasic, Yes, No, YesGoal, NoGoal, YesAll, NoAll, YesAny, NoAny, YesArm, NoArms}
use Rattle.merc_program_laws.proofs.Basics.{either}

module _ (y n y' n' : Judgement) (yes_calls : (p : Procedure) (args : List ℕ) (s : Assignment) → y p args s → y' p args s) (no_calls : (p : Procedure) (args : List ℕ) (s : Assignment) → n p args s → n' p args s) where
  yes_basic : (b : BasicGoal) (s : Assignment) → YesBasic y n b s → YesBasic y' n' b s
  yes_basic True s h = h
  yes_basic Fail s h = h
  yes_basic (Assign u v) s h = h
  yes_basic (Test u v) s h = h
  yes_basic (Build u c ys) s h = h
  yes_basic (Split u c ys) s h = h
  yes_basic (Arithmetic op z u v) s h = h
  yes_basic (Compare test u v) s h = h
  yes_basic (Raise u) s h = h
  yes_basic (Call p args) s h = yes_calls p args s h
  yes_basic (Wait u k) s h = h
  yes_basic (Signal u k) s h = h

  no_basic : (b : BasicGoal) (s : Assignment) → NoBasic y n b s → NoBasic y' n' b s
  no_basic True s h = h
  no_basic Fail s h = h
  no_basic (Assign u v) s h = h
  no_basic (Test u v) s h = h
  no_basic (Build u c ys) s h = h
  no_basic (Split u c ys) s h = h
  no_basic (Arithmetic op z u v) s h = h
  no_basic (Compare test u v) s h = h
  no_basic (Raise u) s h = h
  no_basic (Call p args) s h = no_calls p args s h
  no_basic (Wait u k) s h = h
  no_basic (Signal u k) s h = h

  mutual
    pub yes_carried : (m : Node) (out : Outside) (s : Assignment) → Yes y n out m s → Yes y' n' out m s
    yes_carried (node g outs cat at) out s h = (h.0, (h.1.0, h.1.1, h.1.2, yes_goal g out h.1.0 h.1.3))

    pub no_carried : (m : Node) (out : Outside) (s : Assignment) → No y n out m s → No y' n' out m s
    no_carried (node g outs cat at) out s (inl z) = inl z
    no_carried (node g outs cat at) out s (inr h) = inr (λ t v a. no_goal g out t (h t v a))

    yes_goal : (g : Goal) (out : Outside) (s : Assignment) → YesGoal y n out g s → YesGoal y' n' out g s
    yes_goal (Basic b) out s h = yes_basic b s h
    yes_goal (Conjunction r ms) out s h = yes_all ms out s h
    yes_goal (Disjunction ms) out s h = yes_any ms out s h
    yes_goal (Switch x arms) out s h = yes_arm arms (with out (among (x ∷ []))) s h
    yes_goal (Conditional c t e) out s (inl h) = inl (yes_carried c (with out (with (in_node t) (in_node e))) s h.0, yes_carried t (with out (with (in_node c) (in_node e))) s h.1)
    yes_goal (Conditional c t e) out s (inr h) = inr (yes_carried e (with out (with (in_node c) (in_node t))) s h.0, no_carried c (with out (in_node e)) s h.1)
    yes_goal (Negation m) out s h = no_carried m out s h
    yes_goal (Quantified own m) out s h = yes_carried m out s h

    no_goal : (g : Goal) (out : Outside) (s : Assignment) → NoGoal y n out g s → NoGoal y' n' out g s
    no_goal (Basic b) out s h = no_basic b s h
    no_goal (Conjunction r ms) out s h = no_any ms out s h
    no_goal (Disjunction ms) out s h = no_all ms out s h
    no_goal (Switch x arms) out s h = no_arm arms (with out (among (x ∷ []))) s h
    no_goal (Conditional c t e) out s h = (
      either (no_carried c (with out (with (in_node t) (in_node e))) s) (no_carried t (with out (with (in_node c) (in_node e))) s) h.0,
      either (no_carried e (with out (with (in_node c) (in_node t))) s) (yes_carried c (with out (in_node e)) s) h.1,
    )
    no_goal (Negation m) out s h = yes_carried m out s h
    no_goal (Quantified own m) out s h = no_carried m out s h

    yes_all : (ms : Nodes) (out : Outside) (s : Assignment) → YesAll y n out ms s → YesAll y' n' out ms s
    yes_all no_nodes out s h = h
    yes_all (more_nodes m ms) out s h = (yes_carried m (with out (in_nodes ms)) s h.0, yes_all ms (with out (in_node m)) s h.1)

    no_any : (ms : Nodes) (out : Outside) (s : Assignment) → NoAny y n out ms s → NoAny y' n' out ms s
    no_any no_nodes out s h = h
    no_any (more_nodes m ms) out s h = either (no_carried m (with out (in_nodes ms)) s) (no_any ms (with out (in_node m)) s) h

    yes_any : (ms : Nodes) (out : Outside) (s : Assignment) → YesAny y n out ms s → YesAny y' n' out ms s
    yes_any no_nodes out s h = h
    yes_any (more_nodes m ms) out s h = either (yes_carried m out s) (yes_any ms out s) h

    no_all : (ms : Nodes) (out : Outside) (s : Assignment) → NoAll y n out ms s → NoAll y' n' out ms s
    no_all no_nodes out s h = h
    no_all (more_nodes m ms) out s h = (no_carried m out s h.0, no_all ms out s h.1)

    yes_arm : (arms : Arms) (out : Outside) (s : Assignment) → YesArm y n out arms s → YesArm y' n' out arms s
    yes_arm no_arms out s h = h
    yes_arm (more_arms c m arms) out s h = either (yes_carried m out s) (yes_arm arms out s) h

    no_arm : (arms : Arms) (out : Outside) (s : Assignment) → NoArms y n out arms s → NoArms y' n' out arms s
    no_arm no_arms out s h = h
    no_arm (more_arms c m arms) out s h = (no_carried m out s h.0, no_arm arms out s h.1)
