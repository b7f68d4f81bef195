-- A goal learns symbols of what was bound before it or is bound behind it.
use Rattle.std.proofs.Common.{◌≡◌, ◌⊎◌, inl, inr, ℕ, Bool, true, false, ◌==◌, if◌then◌else◌, List, [], ◌∷◌, Option, Some, None, refl, sym, ◌∙◌, subst}
use Rattle.merc_tree.specs.declared.declarations.ModeDecl.{ModeDecl}
use Rattle.merc_goal_tree.specs.declared.goal.Symbol.{Symbol}
use Rattle.merc_graded_tree.specs.declared.basic.BasicGoal.{BasicGoal}
use Rattle.merc_graded_tree.specs.declared.basic.BasicGoal.TheVariants.{True, Fail, Assign, Test, Build, Split, Arithmetic, Compare, Raise, Call, Wait, Signal}
use Rattle.merc_graded_tree.specs.Nodes.{Node, node, Goal, Basic, Conjunction, Disjunction, Switch, Conditional, Negation, Quantified, Nodes, no_nodes, more_nodes, outputs_of}
use Rattle.merc_graded_tree.specs.Variables.{in_node, in_nodes, in_goal}
use Rattle.merc_order.specs.Bound.{Bound, with, among}
use Rattle.merc_order_laws.specs.Bindings.{Variables}
use Rattle.merc_order_laws.specs.GoodTree.{behind_nodes, GoodBasic, GoodNode, GoodGoal, GoodNodes}
use Rattle.merc_order_laws.proofs.Facts.{clash, or_left, or_right, either_way}
use Rattle.merc_grading.specs.Known.{Known, known_of, with_known, known_behind_basic, known_behind, known_behind_goal, known_behind_all}
use Rattle.merc_program_laws.proofs.Values.{same_some, same_number, among_here}
use Rattle.merc_script_laws.proofs.Seen.{behind_other}

-- a symbol that is known of one variable more
more_case : {X : Type 0} (b : Bool) (y x : ℕ) (s t : Symbol) (o : Option Symbol) → ((b ≡ true) × (y ≡ x)) ⊎ ((b ≡ false) × (y ≡ x → ⊥)) → (if b then Some s else o) ≡ Some t → (y ≡ x → s ≡ t → X) → (o ≡ Some t → X) → X
more_case true y x s t o (inl p) e f g = f p.1 (same_some e)
more_case true y x s t o (inr p) e f g = clash refl p.0
more_case false y x s t o (inl p) e f g = clash p.0 refl
more_case false y x s t o (inr p) e f g = g e

known_more : {X : Type 0} (y x : ℕ) (s t : Symbol) (seen : Known) → known_of ((y, s) ∷ seen) x ≡ Some t → (y ≡ x → s ≡ t → X) → (known_of seen x ≡ Some t → X) → X
known_more y x s t seen e f g = more_case (y == x) y x s t (known_of seen x) (same_number y x) e f g

known_copied : {X : Type 0} (y x : ℕ) (o : Option Symbol) (t : Symbol) (seen : Known) → known_of (with_known y o seen) x ≡ Some t → (y ≡ x → X) → (known_of seen x ≡ Some t → X) → X
known_copied y x None t seen e f g = g e
known_copied y x (Some s) t seen e f g = known_more y x s t seen e (λ p q. f p) g

grows : (out : Variables) (b : Bound) (ns : Nodes) (x : ℕ) → b x ≡ true → behind_nodes b ns x ≡ true
grows out b no_nodes x h = h
grows out b (more_nodes n ns) x h = grows out (with b (among (outputs_of n))) ns x (or_left (b x) (among (outputs_of n) x) h)

-- Given are the modes of each predicate.
module _ (modes : ℕ → List ModeDecl) where
  learns_basic : (g : BasicGoal) (seen : Known) (out : Variables) (b : Bound) (outs : List ℕ) → GoodBasic modes out b outs g → (x : ℕ) (s : Symbol) → out x ≡ true → known_of (known_behind_basic g seen) x ≡ Some s
      → (known_of seen x ≡ Some s) ⊎ (with b (among outs) x ≡ true)
  learns_basic True seen out b outs good x s o e = inl e
  learns_basic Fail seen out b outs good x s o e = inl e
  learns_basic (Assign to from) seen out b outs good x s o e =
      known_copied to x (known_of seen from) s seen e
      (λ p. inr (subst (λ z. with b (among outs) z ≡ true) p
      (sym (good.2 to (among_here to (from ∷ [])) (subst (λ z. out z ≡ true) (sym p) o)) ∙ or_right (b to) (among (to ∷ []) to) (among_here to []))))
      (λ k. inl k)
  learns_basic (Test y z) seen out b outs good x s o e = inl e
  learns_basic (Build whole t args) seen out b outs good x s o e =
      known_more whole x t s seen e
      (λ p q. inr (subst (λ z. with b (among outs) z ≡ true) p
      (sym (good.2 whole (among_here whole args) (subst (λ z. out z ≡ true) (sym p) o)) ∙ or_right (b whole) (among (whole ∷ []) whole) (among_here whole []))))
      (λ k. inl k)
  learns_basic (Split whole t args) seen out b outs good x s o e =
      known_more whole x t s seen e (λ p q. inr (or_left (b x) (among outs x) (subst (λ z. b z ≡ true) p good.0))) (λ k. inl k)
  learns_basic (Arithmetic op w y z) seen out b outs good x s o e = inl e
  learns_basic (Compare test y z) seen out b outs good x s o e = inl e
  learns_basic (Raise y) seen out b outs good x s o e = inl e
  learns_basic (Call p args) seen out b outs good x s o e = inl e
  learns_basic (Wait y k) seen out b outs good x s o e = absurd good
  learns_basic (Signal y k) seen out b outs good x s o e = absurd good

  mutual
    pub learns : (n : Node) (seen : Known) (out : Variables) (b : Bound) → GoodNode modes out b n → (x : ℕ) (s : Symbol) → in_node n x ≡ true → out x ≡ true → known_of (known_behind n seen) x ≡ Some s
        → (known_of seen x ≡ Some s) ⊎ (with b (among (outputs_of n)) x ≡ true)
    learns (node g outs category span) seen out b good x s i o e = learns_goal g seen out b outs good.2 x s i o e

    learns_goal : (g : Goal) (seen : Known) (out : Variables) (b : Bound) (outs : List ℕ) → GoodGoal modes out b outs g → (x : ℕ) (s : Symbol) → in_goal g x ≡ true → out x ≡ true → known_of (known_behind_goal g seen) x ≡ Some s
        → (known_of seen x ≡ Some s) ⊎ (with b (among outs) x ≡ true)
    learns_goal (Basic g) seen out b outs good x s i o e = learns_basic g seen out b outs good x s o e
    learns_goal (Conjunction running ns) seen out b outs good x s i o e = elim (learns_all ns seen out b good.0 x s o e) as (λ _. (known_of seen x ≡ Some s) ⊎ (with b (among outs) x ≡ true)) [
      | inl k ↦ inl k
      | inr k ↦ inr (sym (good.1 x i o) ∙ k)
    ]
    learns_goal (Disjunction ns) seen out b outs good x s i o e = inl e
    learns_goal (Switch y arms) seen out b outs good x s i o e = inl e
    learns_goal (Conditional c t f) seen out b outs good x s i o e = inl e
    learns_goal (Negation n) seen out b outs good x s i o e = inl e
    learns_goal (Quantified own n) seen out b outs good x s i o e = elim (learns n seen out b good.0 x s i o e) as (λ _. (known_of seen x ≡ Some s) ⊎ (with b (among outs) x ≡ true)) [
      | inl k ↦ inl k
      | inr k ↦ inr (sym (good.1 x i o) ∙ k)
    ]

    pub learns_all : (ns : Nodes) (seen : Known) (out : Variables) (b : Bound) → GoodNodes modes out b ns → (x : ℕ) (s : Symbol) → out x ≡ true → known_of (known_behind_all ns seen) x ≡ Some s
        → (known_of seen x ≡ Some s) ⊎ (behind_nodes b ns x ≡ true)
    learns_all no_nodes seen out b good x s o e = inl e
    learns_all (more_nodes n ns) seen out b good x s o e =
        elim (learns_all ns (known_behind n seen) (with out (in_node n)) (with b (among (outputs_of n))) good.1 x s (or_left (out x) (in_node n x) o) e) as (λ _. (known_of seen x ≡ Some s) ⊎ (behind_nodes b (more_nodes n ns) x ≡ true)) [
          | inl k ↦ elim (either_way (in_node n x)) as (λ _. (known_of seen x ≡ Some s) ⊎ (behind_nodes b (more_nodes n ns) x ≡ true)) [
            | inl i ↦ elim (learns n seen (with out (in_nodes ns)) b good.0 x s i (or_left (out x) (in_nodes ns x) o) k) as (λ _. (known_of seen x ≡ Some s) ⊎ (behind_nodes b (more_nodes n ns) x ≡ true)) [
              | inl j ↦ inl j
              | inr j ↦ inr (grows out (with b (among (outputs_of n))) ns x j)
            ]
            | inr i ↦ inl (sym (behind_other n seen x i) ∙ k)
          ]
          | inr k ↦ inr k
        ]
