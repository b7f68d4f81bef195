-- Truth by stages: yes and no stay at each later stage, and no goal is both.
use Rattle.std.proofs.Common.{◌≡◌, subst, arith, ◌⊎◌, inl, inr, ℕ, zero, suc, ◌+◌, List, Option, Some, None}
use Rattle.merc_graded_tree.specs.declared.basic.BasicGoal.{BasicGoal}
use Rattle.merc_graded_tree.specs.declared.basic.BasicGoal.TheVariants.{True, Fail, Assign, Test, Build, Split, Arithmetic, Compare, Raise, Call, Wait, Signal}
use Rattle.merc_graded_tree.specs.declared.basic.Procedure.{Procedure}
use Rattle.merc_graded_tree.specs.Nodes.{Node, node, Goal, Basic, Conjunction, Disjunction, Switch, Conditional, Negation, Quantified, Nodes, no_nodes, more_nodes, Arms, no_arms, more_arms}
use Rattle.merc_meaning.specs.Runs.{Program, ProcedureBody}
use Rattle.merc_meaning.specs.Truth.{Assignment, Outside, Judgement, Yes, No, YesBasic, NoBasic, YesGoal, NoGoal, YesAll, YesAny, NoAll, NoAny, YesArm, NoArms, YesBody, NoBody, YesCall, NoCall, YesAt, NoAt}

either-to : {A B C D : Type 0} → (A → C) → (B → D) → A ⊎ B → C ⊎ D
either-to f g (inl a) = inl (f a)
either-to f g (inr b) = inr (g b)

-- Given are judgements of calls, of which the second is at least as decided.
module _ (y n y' n' : Judgement) (up-yes : (p : Procedure) (args : List ℕ) (s : Assignment) → y p args s → y' p args s) (up-no : (p : Procedure) (args : List ℕ) (s : Assignment) → n p args s → n' p args s) where
  yes-basic-up : (g : BasicGoal) (s : Assignment) → YesBasic y n g s → YesBasic y' n' g s
  yes-basic-up True s h = h
  yes-basic-up Fail s h = h
  yes-basic-up (Assign a b) s h = h
  yes-basic-up (Test a b) s h = h
  yes-basic-up (Build a b c) s h = h
  yes-basic-up (Split a b c) s h = h
  yes-basic-up (Arithmetic a b c d) s h = h
  yes-basic-up (Compare a b c) s h = h
  yes-basic-up (Raise a) s h = h
  yes-basic-up (Call p args) s h = up-yes p args s h
  yes-basic-up (Wait a b) s h = h
  yes-basic-up (Signal a b) s h = h

  no-basic-up : (g : BasicGoal) (s : Assignment) → NoBasic y n g s → NoBasic y' n' g s
  no-basic-up True s h = h
  no-basic-up Fail s h = h
  no-basic-up (Assign a b) s h = h
  no-basic-up (Test a b) s h = h
  no-basic-up (Build a b c) s h = h
  no-basic-up (Split a b c) s h = h
  no-basic-up (Arithmetic a b c d) s h = h
  no-basic-up (Compare a b c) s h = h
  no-basic-up (Raise a) s h = h
  no-basic-up (Call p args) s h = up-no p args s h
  no-basic-up (Wait a b) s h = h
  no-basic-up (Signal a b) s h = h

  mutual
    yes-up : (goal : Node) (out : Outside) (s : Assignment) → Yes y n out goal s → Yes y' n' out goal s
    yes-up (node g outs cat span) out s h = (h.0, (h.1.0, h.1.1, h.1.2, yes-goal-up g out h.1.0 h.1.3))

    no-up : (goal : Node) (out : Outside) (s : Assignment) → No y n out goal s → No y' n' out goal s
    no-up (node g outs cat span) out s (inl h) = inl h
    no-up (node g outs cat span) out s (inr h) = inr (λ s' v a. no-goal-up g out s' (h s' v a))

    yes-goal-up : (g : Goal) (out : Outside) (s : Assignment) → YesGoal y n out g s → YesGoal y' n' out g s
    yes-goal-up (Basic g) out s h = yes-basic-up g s h
    yes-goal-up (Conjunction running ns) out s h = yes-all-up ns out s h
    yes-goal-up (Disjunction ns) out s h = yes-any-up ns out s h
    yes-goal-up (Switch x arms) out s h = yes-arm-up arms _ s h
    yes-goal-up (Conditional c t e) out s (inl h) = inl (yes-up c _ s h.0, yes-up t _ s h.1)
    yes-goal-up (Conditional c t e) out s (inr h) = inr (yes-up e _ s h.0, no-up c _ s h.1)
    yes-goal-up (Negation goal) out s h = no-up goal out s h
    yes-goal-up (Quantified xs goal) out s h = yes-up goal out s h

    no-goal-up : (g : Goal) (out : Outside) (s : Assignment) → NoGoal y n out g s → NoGoal y' n' out g s
    no-goal-up (Basic g) out s h = no-basic-up g s h
    no-goal-up (Conjunction running ns) out s h = no-any-up ns out s h
    no-goal-up (Disjunction ns) out s h = no-all-up ns out s h
    no-goal-up (Switch x arms) out s h = no-arms-up arms _ s h
    no-goal-up (Conditional c t e) out s h =
        (either-to (λ k. no-up c _ s k) (λ k. no-up t _ s k) h.0, either-to (λ k. no-up e _ s k) (λ k. yes-up c _ s k) h.1)
    no-goal-up (Negation goal) out s h = yes-up goal out s h
    no-goal-up (Quantified xs goal) out s h = no-up goal out s h

    yes-all-up : (ns : Nodes) (out : Outside) (s : Assignment) → YesAll y n out ns s → YesAll y' n' out ns s
    yes-all-up no_nodes out s h = tt
    yes-all-up (more_nodes goal ns) out s h = (yes-up goal _ s h.0, yes-all-up ns _ s h.1)

    yes-any-up : (ns : Nodes) (out : Outside) (s : Assignment) → YesAny y n out ns s → YesAny y' n' out ns s
    yes-any-up no_nodes out s h = h
    yes-any-up (more_nodes goal ns) out s (inl h) = inl (yes-up goal _ s h)
    yes-any-up (more_nodes goal ns) out s (inr h) = inr (yes-any-up ns _ s h)

    no-all-up : (ns : Nodes) (out : Outside) (s : Assignment) → NoAll y n out ns s → NoAll y' n' out ns s
    no-all-up no_nodes out s h = tt
    no-all-up (more_nodes goal ns) out s h = (no-up goal _ s h.0, no-all-up ns _ s h.1)

    no-any-up : (ns : Nodes) (out : Outside) (s : Assignment) → NoAny y n out ns s → NoAny y' n' out ns s
    no-any-up no_nodes out s h = h
    no-any-up (more_nodes goal ns) out s (inl h) = inl (no-up goal _ s h)
    no-any-up (more_nodes goal ns) out s (inr h) = inr (no-any-up ns _ s h)

    yes-arm-up : (arms : Arms) (out : Outside) (s : Assignment) → YesArm y n out arms s → YesArm y' n' out arms s
    yes-arm-up no_arms out s h = h
    yes-arm-up (more_arms t goal arms) out s (inl h) = inl (yes-up goal _ s h)
    yes-arm-up (more_arms t goal arms) out s (inr h) = inr (yes-arm-up arms _ s h)

    no-arms-up : (arms : Arms) (out : Outside) (s : Assignment) → NoArms y n out arms s → NoArms y' n' out arms s
    no-arms-up no_arms out s h = tt
    no-arms-up (more_arms t goal arms) out s h = (no-up goal _ s h.0, no-arms-up arms _ s h.1)

-- Given are judgements of calls that are never both.
module _ (y n : Judgement) (apart-calls : (p : Procedure) (args : List ℕ) (s : Assignment) → y p args s → n p args s → ⊥) where
  not-both-basic : (g : BasicGoal) (s : Assignment) → YesBasic y n g s → NoBasic y n g s → ⊥
  not-both-basic True s h k = k
  not-both-basic Fail s h k = h
  not-both-basic (Assign a b) s h k = k h
  not-both-basic (Test a b) s h k = k h
  not-both-basic (Build a b c) s h k = k h
  not-both-basic (Split a b c) s h k = k h
  not-both-basic (Arithmetic a b c d) s h k = k h
  not-both-basic (Compare a b c) s h k = k h
  not-both-basic (Raise a) s h k = h
  not-both-basic (Call p args) s h k = apart-calls p args s h k
  not-both-basic (Wait a b) s h k = k
  not-both-basic (Signal a b) s h k = k

  mutual
    not-both : (goal : Node) (out : Outside) (s : Assignment) → Yes y n out goal s → No y n out goal s → ⊥
    not-both (node g outs cat span) out s h (inl k) = h.0 k
    not-both (node g outs cat span) out s h (inr k) = not-both-goal g out h.1.0 h.1.3 (k h.1.0 h.1.1 h.1.2)

    not-both-goal : (g : Goal) (out : Outside) (s : Assignment) → YesGoal y n out g s → NoGoal y n out g s → ⊥
    not-both-goal (Basic g) out s h k = not-both-basic g s h k
    not-both-goal (Conjunction running ns) out s h k = all-not-any ns out s h k
    not-both-goal (Disjunction ns) out s h k = any-not-all ns out s h k
    not-both-goal (Switch x arms) out s h k = arm-not-all arms _ s h k
    not-both-goal (Conditional c t e) out s (inl h) k = elim k.0 as (λ _. ⊥) [ inl m ↦ not-both c _ s h.0 m | inr m ↦ not-both t _ s h.1 m ]
    not-both-goal (Conditional c t e) out s (inr h) k = elim k.1 as (λ _. ⊥) [ inl m ↦ not-both e _ s h.0 m | inr m ↦ not-both c _ s m h.1 ]
    not-both-goal (Negation goal) out s h k = not-both goal out s k h
    not-both-goal (Quantified xs goal) out s h k = not-both goal out s h k

    all-not-any : (ns : Nodes) (out : Outside) (s : Assignment) → YesAll y n out ns s → NoAny y n out ns s → ⊥
    all-not-any no_nodes out s h k = k
    all-not-any (more_nodes goal ns) out s h (inl k) = not-both goal _ s h.0 k
    all-not-any (more_nodes goal ns) out s h (inr k) = all-not-any ns _ s h.1 k

    any-not-all : (ns : Nodes) (out : Outside) (s : Assignment) → YesAny y n out ns s → NoAll y n out ns s → ⊥
    any-not-all no_nodes out s h k = h
    any-not-all (more_nodes goal ns) out s (inl h) k = not-both goal _ s h k.0
    any-not-all (more_nodes goal ns) out s (inr h) k = any-not-all ns _ s h k.1

    arm-not-all : (arms : Arms) (out : Outside) (s : Assignment) → YesArm y n out arms s → NoArms y n out arms s → ⊥
    arm-not-all no_arms out s h k = h
    arm-not-all (more_arms t goal arms) out s (inl h) k = not-both goal _ s h k.0
    arm-not-all (more_arms t goal arms) out s (inr h) k = arm-not-all arms _ s h k.1

module _ (program : Program) where
  body-yes-up : (y n y' n' : Judgement) → ((p : Procedure) (args : List ℕ) (s : Assignment) → y p args s → y' p args s) → ((p : Procedure) (args : List ℕ) (s : Assignment) → n p args s → n' p args s)
      → (o : Option ProcedureBody) (args : List ℕ) (s : Assignment) → YesBody y n o args s → YesBody y' n' o args s
  body-yes-up y n y' n' a b None args s h = h
  body-yes-up y n y' n' a b (Some p) args s h = (h.0, h.1, h.2, yes-up y n y' n' a b p.body _ h.0 h.3)

  body-no-up : (y n y' n' : Judgement) → ((p : Procedure) (args : List ℕ) (s : Assignment) → y p args s → y' p args s) → ((p : Procedure) (args : List ℕ) (s : Assignment) → n p args s → n' p args s)
      → (o : Option ProcedureBody) (args : List ℕ) (s : Assignment) → NoBody y n o args s → NoBody y' n' o args s
  body-no-up y n y' n' a b None args s h = h
  body-no-up y n y' n' a b (Some p) args s h = λ inner v e. no-up y n y' n' a b p.body _ inner (h inner v e)

  mutual
    yes-call-up : (k : ℕ) (p : Procedure) (args : List ℕ) (s : Assignment) → YesCall program k p args s → YesCall program (suc k) p args s
    yes-call-up zero p args s h = absurd h
    yes-call-up (suc k) p args s h = body-yes-up (YesCall program k) (NoCall program k) (YesCall program (suc k)) (NoCall program (suc k)) (yes-call-up k) (no-call-up k) (program p) args s h

    no-call-up : (k : ℕ) (p : Procedure) (args : List ℕ) (s : Assignment) → NoCall program k p args s → NoCall program (suc k) p args s
    no-call-up zero p args s h = absurd h
    no-call-up (suc k) p args s h = body-no-up (YesCall program k) (NoCall program k) (YesCall program (suc k)) (NoCall program (suc k)) (yes-call-up k) (no-call-up k) (program p) args s h

  yes-stays : (k : ℕ) (out : Outside) (goal : Node) (s : Assignment) → YesAt program k out goal s → YesAt program (suc k) out goal s
  yes-stays k out goal s h = yes-up _ _ _ _ (yes-call-up k) (no-call-up k) goal out s h

  no-stays : (k : ℕ) (out : Outside) (goal : Node) (s : Assignment) → NoAt program k out goal s → NoAt program (suc k) out goal s
  no-stays k out goal s h = no-up _ _ _ _ (yes-call-up k) (no-call-up k) goal out s h

  pub yes-stays-later : (k further : ℕ) (out : Outside) (goal : Node) (s : Assignment) → YesAt program k out goal s → YesAt program (further + k) out goal s
  yes-stays-later k zero out goal s h =
      let here : k ≡ zero + k = omega arith in
      subst (λ (stage : ℕ). YesAt program stage out goal s) here h
  yes-stays-later k (suc further) out goal s h =
      let next : suc (further + k) ≡ suc further + k = omega arith in
      subst (λ (stage : ℕ). YesAt program stage out goal s) next (yes-stays (further + k) out goal s (yes-stays-later k further out goal s h))

  pub no-stays-later : (k further : ℕ) (out : Outside) (goal : Node) (s : Assignment) → NoAt program k out goal s → NoAt program (further + k) out goal s
  no-stays-later k zero out goal s h =
      let here : k ≡ zero + k = omega arith in
      subst (λ (stage : ℕ). NoAt program stage out goal s) here h
  no-stays-later k (suc further) out goal s h =
      let next : suc (further + k) ≡ suc further + k = omega arith in
      subst (λ (stage : ℕ). NoAt program stage out goal s) next (no-stays (further + k) out goal s (no-stays-later k further out goal s h))

  apart-body : (y n : Judgement) → ((p : Procedure) (args : List ℕ) (s : Assignment) → y p args s → n p args s → ⊥) → (o : Option ProcedureBody) (args : List ℕ) (s : Assignment) → YesBody y n o args s → NoBody y n o args s → ⊥
  apart-body y n a None args s h k = h
  apart-body y n a (Some p) args s h k = not-both y n a p.body _ h.0 h.3 (k h.0 h.1 h.2)

  apart-at : (k : ℕ) (p : Procedure) (args : List ℕ) (s : Assignment) → YesCall program k p args s → NoCall program k p args s → ⊥
  apart-at zero p args s h m = h
  apart-at (suc k) p args s h m = apart-body (YesCall program k) (NoCall program k) (apart-at k) (program p) args s h m

  pub apart : (k : ℕ) (out : Outside) (goal : Node) (s : Assignment) → YesAt program k out goal s → NoAt program k out goal s → ⊥
  apart k out goal s h m = not-both (YesCall program k) (NoCall program k) (apart-at k) goal out s h m
