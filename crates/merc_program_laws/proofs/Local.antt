-- The truth of a goal depends on its own variables alone: on which of them occur outside, and on the values of these.
use Rattle.std.proofs.Common.{◌≡◌, inl, inr, ℕ, true, ◌==◌, ◌||◌, List, [], ◌∷◌, ap, sym, ◌∙◌}
use Rattle.merc_graded_tree.specs.declared.basic.BasicGoal.{BasicGoal}
use Rattle.merc_graded_tree.specs.declared.basic.BasicGoal.TheVariants.{True, Fail, Assign, Test, Build, Split, Arithmetic, Compare, Raise, Call, Wait, Signal}
use Rattle.merc_graded_tree.specs.declared.basic.Procedure.{Procedure}
use Rattle.merc_graded_tree.specs.Nodes.{Node, node, Goal, Basic, Conjunction, Disjunction, Switch, Conditional, Negation, Quantified, Nodes, no_nodes, more_nodes, Arms, no_arms, more_arms}
use Rattle.merc_graded_tree.specs.Variables.{among, variables_of, in_goal, in_node, in_nodes, in_arms}
use Rattle.merc_meaning.specs.Values.{made}
use Rattle.merc_meaning.specs.Truth.{Assignment, IsAssignment, Outside, with, AgreeOn, assigned, Judgement, YesBasic, NoBasic, Yes, No, YesGoal, NoGoal, YesAll, NoAll, YesAny, NoAny, YesArm, NoArms}
use Rattle.merc_order_laws.proofs.Facts.{or_left, or_right, either_way}
use Rattle.merc_order_laws.proofs.Replacing.{first_among}
use Rattle.merc_program_laws.proofs.Values.{among_there, chosen_false, chosen_true}
use Rattle.merc_program_laws.proofs.Basics.{either, mix, mix_values, mix_in, assigned_same}

-- a call's truth depends on the values of its arguments alone
abbrev pub IsByValues : Judgement → Type 0
IsByValues is_true = (p : Procedure) (args args' : List ℕ) (s s' : Assignment) → assigned s args ≡ assigned s' args' → is_true p args s → is_true p args' s'

-- these variables have the same values
abbrev pub Match : Outside → Assignment → Assignment → Type 0
Match these s s' = (x : ℕ) → these x ≡ true → s' x ≡ s x

-- the same of these variables occur outside
abbrev pub Around : Outside → Outside → Outside → Type 0
Around these out out' = (x : ℕ) → these x ≡ true → out' x ≡ out x

-- those of these variables that occur outside have the same values
abbrev pub Meet : Outside → Outside → Assignment → Assignment → Type 0
Meet these out s s' = (x : ℕ) → these x ≡ true → out x ≡ true → s' x ≡ s x

mixed : (these out out' : Outside) (s s' t : Assignment) → Around these out out' → Meet these out s s' → AgreeOn out s t → AgreeOn out' s' (mix these t s')
mixed these out out' s s' t o a g x m = elim (either_way (these x)) as (λ _. mix these t s' x ≡ s' x) [
  | inl i ↦ chosen_true (t x) (s' x) i ∙ g x (sym (o x i) ∙ m) ∙ sym (a x i (sym (o x i) ∙ m))
  | inr i ↦ chosen_false (t x) (s' x) i
]

back : (these out out' : Outside) → Around these out out' → Around these out' out
back these out out' o x m = sym (o x m)

turned : (these out out' : Outside) (s s' : Assignment) → Around these out out' → Meet these out s s' → Meet these out' s' s
turned these out out' s s' o a x m k = sym (a x m (sym (o x m) ∙ k))

in_condition : (c t e : Node) (z : ℕ) → in_node c z ≡ true → in_goal (Conditional c t e) z ≡ true
in_condition c t e z m = or_left (in_node c z) (in_node t z || in_node e z) m

in_then : (c t e : Node) (z : ℕ) → in_node t z ≡ true → in_goal (Conditional c t e) z ≡ true
in_then c t e z m = or_right (in_node c z) (in_node t z || in_node e z) (or_left (in_node t z) (in_node e z) m)

in_else : (c t e : Node) (z : ℕ) → in_node e z ≡ true → in_goal (Conditional c t e) z ≡ true
in_else c t e z m = or_right (in_node c z) (in_node t z || in_node e z) (or_right (in_node t z) (in_node e z) m)

module _ (y n : Judgement) (by_y : IsByValues y) (by_n : IsByValues n) where
  pub basic_yes : (b : BasicGoal) (s s' : Assignment) → Match (among (variables_of b)) s s' → YesBasic y n b s → YesBasic y n b s'
  basic_yes True s s' a h = h
  basic_yes Fail s s' a h = h
  basic_yes (Assign u v) s s' a h = a u (first_among u (v ∷ [])) ∙ h ∙ sym (a v (among_there v u (v ∷ []) (first_among v [])))
  basic_yes (Test u v) s s' a h = a u (first_among u (v ∷ [])) ∙ h ∙ sym (a v (among_there v u (v ∷ []) (first_among v [])))
  basic_yes (Build u c ys) s s' a h = a u (first_among u ys) ∙ h ∙ ap (made c) (assigned_same ys s s' (λ x m. a x (among_there x u ys m)))
  basic_yes (Split u c ys) s s' a h = a u (first_among u ys) ∙ h ∙ ap (made c) (assigned_same ys s s' (λ x m. a x (among_there x u ys m)))
  basic_yes (Arithmetic op z u v) s s' a h =
      let e : s' z ≡ s z = a z (first_among z (u ∷ v ∷ [])) in
      let f : s' u ≡ s u = a u (among_there u z (u ∷ v ∷ []) (first_among u (v ∷ []))) in
      let g : s' v ≡ s v = a v (among_there v z (u ∷ v ∷ []) (among_there v u (v ∷ []) (first_among v []))) in
      cc
  basic_yes (Compare test u v) s s' a h =
      let f : s' u ≡ s u = a u (first_among u (v ∷ [])) in
      let g : s' v ≡ s v = a v (among_there v u (v ∷ []) (first_among v [])) in
      cc
  basic_yes (Raise u) s s' a h = h
  basic_yes (Call p args) s s' a h = by_y p args args s s' (assigned_same args s s' a) h
  basic_yes (Wait u k) s s' a h = h
  basic_yes (Signal u k) s s' a h = h

  pub basic_no : (b : BasicGoal) (s s' : Assignment) → Match (among (variables_of b)) s s' → NoBasic y n b s → NoBasic y n b s'
  basic_no True s s' a h = h
  basic_no Fail s s' a h = h
  basic_no (Assign u v) s s' a h = λ k. h (basic_yes (Assign u v) s' s (λ x m. sym (a x m)) k)
  basic_no (Test u v) s s' a h = λ k. h (basic_yes (Test u v) s' s (λ x m. sym (a x m)) k)
  basic_no (Build u c ys) s s' a h = λ k. h (basic_yes (Build u c ys) s' s (λ x m. sym (a x m)) k)
  basic_no (Split u c ys) s s' a h = λ k. h (basic_yes (Split u c ys) s' s (λ x m. sym (a x m)) k)
  basic_no (Arithmetic op z u v) s s' a h = λ k. h (basic_yes (Arithmetic op z u v) s' s (λ x m. sym (a x m)) k)
  basic_no (Compare test u v) s s' a h = λ k. h (basic_yes (Compare test u v) s' s (λ x m. sym (a x m)) k)
  basic_no (Raise u) s s' a h = h
  basic_no (Call p args) s s' a h = by_n p args args s s' (assigned_same args s s' a) h
  basic_no (Wait u k) s s' a h = h
  basic_no (Signal u k) s s' a h = h

  mutual
    pub yes_local : (m : Node) (out out' : Outside) (s s' : Assignment) → IsAssignment s → IsAssignment s' → Around (in_node m) out out' → Meet (in_node m) out s s' → Yes y n out m s → Yes y n out' m s'
    yes_local (node g outs cat at) out out' s s' v v' o a h = (
      h.0,
      (
        mix (in_goal g) h.1.0 s',
        mix_values (in_goal g) h.1.0 s' h.1.1 v',
        mixed (in_goal g) out out' s s' h.1.0 o a h.1.2,
        yes_goal g out out' h.1.0 (mix (in_goal g) h.1.0 s') h.1.1 (mix_values (in_goal g) h.1.0 s' h.1.1 v') o (λ x m. mix_in (in_goal g) h.1.0 s' x m) h.1.3,
      ),
    )

    pub no_local : (m : Node) (out out' : Outside) (s s' : Assignment) → IsAssignment s → IsAssignment s' → Around (in_node m) out out' → Meet (in_node m) out s s' → No y n out m s → No y n out' m s'
    no_local (node g outs cat at) out out' s s' v v' o a (inl z) = inl z
    no_local (node g outs cat at) out out' s s' v v' o a (inr h) = inr (λ t w k.
        no_goal g out out' (mix (in_goal g) t s) t (mix_values (in_goal g) t s w v) w o (λ x m. sym (mix_in (in_goal g) t s x m))
        (h (mix (in_goal g) t s) (mix_values (in_goal g) t s w v)
        (mixed (in_goal g) out' out s' s t (back (in_goal g) out out' o) (turned (in_goal g) out out' s s' o a) k)))

    yes_goal : (g : Goal) (out out' : Outside) (s s' : Assignment) → IsAssignment s → IsAssignment s' → Around (in_goal g) out out' → Match (in_goal g) s s' → YesGoal y n out g s → YesGoal y n out' g s'
    yes_goal (Basic b) out out' s s' v v' o a h = basic_yes b s s' a h
    yes_goal (Conjunction r ns) out out' s s' v v' o a h = yes_all ns out out' s s' v v' o a h
    yes_goal (Disjunction ns) out out' s s' v v' o a h = yes_any ns out out' s s' v v' o a h
    yes_goal (Switch x arms) out out' s s' v v' o a h =
        yes_arm arms (with out (among (x ∷ []))) (with out' (among (x ∷ []))) s s' v v' (λ z m. ap (λ b. b || among (x ∷ []) z) (o z (or_right (z == x) (in_arms arms z) m)))
        (λ z m. a z (or_right (z == x) (in_arms arms z) m)) h
    yes_goal (Conditional c t e) out out' s s' v v' o a (inl h) = inl (
      yes_local c (with out (with (in_node t) (in_node e))) (with out' (with (in_node t) (in_node e))) s s' v v'
          (λ z m. ap (λ b. b || (in_node t z || in_node e z)) (o z (in_condition c t e z m))) (λ z m k. a z (in_condition c t e z m)) h.0,
      yes_local t (with out (with (in_node c) (in_node e))) (with out' (with (in_node c) (in_node e))) s s' v v'
          (λ z m. ap (λ b. b || (in_node c z || in_node e z)) (o z (in_then c t e z m))) (λ z m k. a z (in_then c t e z m)) h.1,
    )
    yes_goal (Conditional c t e) out out' s s' v v' o a (inr h) = inr (
      yes_local e (with out (with (in_node c) (in_node t))) (with out' (with (in_node c) (in_node t))) s s' v v'
          (λ z m. ap (λ b. b || (in_node c z || in_node t z)) (o z (in_else c t e z m))) (λ z m k. a z (in_else c t e z m)) h.0,
      no_local c (with out (in_node e)) (with out' (in_node e)) s s' v v'
          (λ z m. ap (λ b. b || in_node e z) (o z (in_condition c t e z m))) (λ z m k. a z (in_condition c t e z m)) h.1,
    )
    yes_goal (Negation m) out out' s s' v v' o a h = no_local m out out' s s' v v' o (λ z m k. a z m) h
    yes_goal (Quantified own m) out out' s s' v v' o a h = yes_local m out out' s s' v v' o (λ z m k. a z m) h

    no_goal : (g : Goal) (out out' : Outside) (s s' : Assignment) → IsAssignment s → IsAssignment s' → Around (in_goal g) out out' → Match (in_goal g) s s' → NoGoal y n out g s → NoGoal y n out' g s'
    no_goal (Basic b) out out' s s' v v' o a h = basic_no b s s' a h
    no_goal (Conjunction r ns) out out' s s' v v' o a h = no_any ns out out' s s' v v' o a h
    no_goal (Disjunction ns) out out' s s' v v' o a h = no_all ns out out' s s' v v' o a h
    no_goal (Switch x arms) out out' s s' v v' o a h =
        no_arm arms (with out (among (x ∷ []))) (with out' (among (x ∷ []))) s s' v v' (λ z m. ap (λ b. b || among (x ∷ []) z) (o z (or_right (z == x) (in_arms arms z) m)))
        (λ z m. a z (or_right (z == x) (in_arms arms z) m)) h
    no_goal (Conditional c t e) out out' s s' v v' o a h = (
      either (no_local c (with out (with (in_node t) (in_node e))) (with out' (with (in_node t) (in_node e))) s s' v v'
          (λ z m. ap (λ b. b || (in_node t z || in_node e z)) (o z (in_condition c t e z m))) (λ z m k. a z (in_condition c t e z m)))
          (no_local t (with out (with (in_node c) (in_node e))) (with out' (with (in_node c) (in_node e))) s s' v v'
          (λ z m. ap (λ b. b || (in_node c z || in_node e z)) (o z (in_then c t e z m))) (λ z m k. a z (in_then c t e z m))) h.0,
      either (no_local e (with out (with (in_node c) (in_node t))) (with out' (with (in_node c) (in_node t))) s s' v v'
          (λ z m. ap (λ b. b || (in_node c z || in_node t z)) (o z (in_else c t e z m))) (λ z m k. a z (in_else c t e z m)))
          (yes_local c (with out (in_node e)) (with out' (in_node e)) s s' v v' (λ z m. ap (λ b. b || in_node e z) (o z (in_condition c t e z m))) (λ z m k. a z (in_condition c t e z m))) h.1,
    )
    no_goal (Negation m) out out' s s' v v' o a h = yes_local m out out' s s' v v' o (λ z m k. a z m) h
    no_goal (Quantified own m) out out' s s' v v' o a h = no_local m out out' s s' v v' o (λ z m k. a z m) h

    pub yes_all : (ns : Nodes) (out out' : Outside) (s s' : Assignment) → IsAssignment s → IsAssignment s' → Around (in_nodes ns) out out' → Match (in_nodes ns) s s' → YesAll y n out ns s → YesAll y n out' ns s'
    yes_all no_nodes out out' s s' v v' o a h = h
    yes_all (more_nodes m ns) out out' s s' v v' o a h = (
      yes_local m (with out (in_nodes ns)) (with out' (in_nodes ns)) s s' v v' (λ z k. ap (λ b. b || in_nodes ns z) (o z (or_left (in_node m z) (in_nodes ns z) k)))
          (λ z k _. a z (or_left (in_node m z) (in_nodes ns z) k)) h.0,
      yes_all ns (with out (in_node m)) (with out' (in_node m)) s s' v v' (λ z k. ap (λ b. b || in_node m z) (o z (or_right (in_node m z) (in_nodes ns z) k)))
          (λ z k. a z (or_right (in_node m z) (in_nodes ns z) k)) h.1,
    )

    pub no_any : (ns : Nodes) (out out' : Outside) (s s' : Assignment) → IsAssignment s → IsAssignment s' → Around (in_nodes ns) out out' → Match (in_nodes ns) s s' → NoAny y n out ns s → NoAny y n out' ns s'
    no_any no_nodes out out' s s' v v' o a h = h
    no_any (more_nodes m ns) out out' s s' v v' o a (inl h) =
        inl (no_local m (with out (in_nodes ns)) (with out' (in_nodes ns)) s s' v v' (λ z k. ap (λ b. b || in_nodes ns z) (o z (or_left (in_node m z) (in_nodes ns z) k)))
        (λ z k _. a z (or_left (in_node m z) (in_nodes ns z) k)) h)
    no_any (more_nodes m ns) out out' s s' v v' o a (inr h) =
        inr (no_any ns (with out (in_node m)) (with out' (in_node m)) s s' v v' (λ z k. ap (λ b. b || in_node m z) (o z (or_right (in_node m z) (in_nodes ns z) k)))
        (λ z k. a z (or_right (in_node m z) (in_nodes ns z) k)) h)

    yes_any : (ns : Nodes) (out out' : Outside) (s s' : Assignment) → IsAssignment s → IsAssignment s' → Around (in_nodes ns) out out' → Match (in_nodes ns) s s' → YesAny y n out ns s → YesAny y n out' ns s'
    yes_any no_nodes out out' s s' v v' o a h = h
    yes_any (more_nodes m ns) out out' s s' v v' o a (inl h) =
        inl (yes_local m out out' s s' v v' (λ z k. o z (or_left (in_node m z) (in_nodes ns z) k)) (λ z k _. a z (or_left (in_node m z) (in_nodes ns z) k)) h)
    yes_any (more_nodes m ns) out out' s s' v v' o a (inr h) =
        inr (yes_any ns out out' s s' v v' (λ z k. o z (or_right (in_node m z) (in_nodes ns z) k)) (λ z k. a z (or_right (in_node m z) (in_nodes ns z) k)) h)

    no_all : (ns : Nodes) (out out' : Outside) (s s' : Assignment) → IsAssignment s → IsAssignment s' → Around (in_nodes ns) out out' → Match (in_nodes ns) s s' → NoAll y n out ns s → NoAll y n out' ns s'
    no_all no_nodes out out' s s' v v' o a h = h
    no_all (more_nodes m ns) out out' s s' v v' o a h = (
      no_local m out out' s s' v v' (λ z k. o z (or_left (in_node m z) (in_nodes ns z) k)) (λ z k _. a z (or_left (in_node m z) (in_nodes ns z) k)) h.0,
      no_all ns out out' s s' v v' (λ z k. o z (or_right (in_node m z) (in_nodes ns z) k)) (λ z k. a z (or_right (in_node m z) (in_nodes ns z) k)) h.1,
    )

    yes_arm : (arms : Arms) (out out' : Outside) (s s' : Assignment) → IsAssignment s → IsAssignment s' → Around (in_arms arms) out out' → Match (in_arms arms) s s' → YesArm y n out arms s → YesArm y n out' arms s'
    yes_arm no_arms out out' s s' v v' o a h = h
    yes_arm (more_arms c m ns) out out' s s' v v' o a (inl h) =
        inl (yes_local m out out' s s' v v' (λ z k. o z (or_left (in_node m z) (in_arms ns z) k)) (λ z k _. a z (or_left (in_node m z) (in_arms ns z) k)) h)
    yes_arm (more_arms c m ns) out out' s s' v v' o a (inr h) =
        inr (yes_arm ns out out' s s' v v' (λ z k. o z (or_right (in_node m z) (in_arms ns z) k)) (λ z k. a z (or_right (in_node m z) (in_arms ns z) k)) h)

    no_arm : (arms : Arms) (out out' : Outside) (s s' : Assignment) → IsAssignment s → IsAssignment s' → Around (in_arms arms) out out' → Match (in_arms arms) s s' → NoArms y n out arms s → NoArms y n out' arms s'
    no_arm no_arms out out' s s' v v' o a h = h
    no_arm (more_arms c m ns) out out' s s' v v' o a h = (
      no_local m out out' s s' v v' (λ z k. o z (or_left (in_node m z) (in_arms ns z) k)) (λ z k _. a z (or_left (in_node m z) (in_arms ns z) k)) h.0,
      no_arm ns out out' s s' v v' (λ z k. o z (or_right (in_node m z) (in_arms ns z) k)) (λ z k. a z (or_right (in_node m z) (in_arms ns z) k)) h.1,
    )
