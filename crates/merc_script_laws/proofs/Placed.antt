-- What occurs in a goal of the split tree: what occurs in the goal that it is made of.
use Rattle.std.proofs.Common.{◌≡◌, ◌⊎◌, inl, inr, ℕ, suc, ◌+◌, Bool, true, false, not, ◌==◌, ◌||◌, ◌&&◌, if◌then◌else◌, List, [], ◌∷◌, ◌++◌, map, flat_map, Option, Some, refl, sym, subst}
use Rattle.merc_base.specs.declared.category.Category.{Category}
use Rattle.merc_base.specs.declared.place.Span.{Span}
use Rattle.merc_tree.specs.declared.declarations.ModeDecl.{ModeDecl}
use Rattle.merc_graded_tree.specs.declared.entries.Running.TheVariants.{Sequential, Parallel}
use Rattle.merc_graded_tree.specs.Nodes.{Node, node, Goal, Basic, Conjunction, Disjunction, Switch, Conditional, Negation, Quantified, Nodes, no_nodes, more_nodes, nodes_of, Arms, no_arms, more_arms, outputs_of, span_of}
use Rattle.merc_graded_tree.specs.Variables.{among, in_goal, in_node, in_nodes, in_arms}
use Rattle.merc_order.specs.Bound.{Bound, with}
use Rattle.merc_order_laws.specs.Bindings.{Variables}
use Rattle.merc_order_laws.specs.GoodTree.{GoodNode, GoodGoal, GoodNodes, GoodDisjuncts, GoodArms}
use Rattle.merc_order_laws.proofs.Facts.{clash, or_left, or_right, or_cases, same_bool}
use Rattle.merc_par_split.specs.Forks.{forks}
use Rattle.merc_rights.specs.Rights.{Right, right_to, those, used_in, unused_in, passed_by, bound_in, unbound_in, wait_at, signal_at, between, around, ahead_of, signals_of}
use Rattle.merc_par_split.specs.Sites.{are_for}
use Rattle.merc_par_split.specs.Split.{may_fail, nothing, moves_in, placed, placed_goal, placed_in_turn, placed_conjuncts, placed_arms, placed_alone}
use Rattle.merc_script_laws.proofs.RightLists.{right_first, those_in, equal_is}
use Rattle.merc_script_laws.proofs.Bonds.{Within, AllUsed}
use Rattle.merc_script_laws.proofs.Sites.{has_among}
use Rattle.merc_script_laws.proofs.Counts.{signals_within}

-- it occurs in a goal, or a right is for it
abbrev pub Or : ℕ → Type 0 → List Right → List Right → Type 0
Or x A w s = A ⊎ ((are_for w x ≡ true) ⊎ (are_for s x ≡ true))

or_more : (x : ℕ) (A B : Type 0) (w v s t : List Right) → (A → B) → (are_for w x ≡ true → are_for v x ≡ true) → (are_for s x ≡ true → are_for t x ≡ true) → Or x A w s → Or x B v t
or_more x A B w v s t f g h (inl a) = inl (f a)
or_more x A B w v s t f g h (inr (inl a)) = inr (inl (g a))
or_more x A B w v s t f g h (inr (inr a)) = inr (inr (h a))

one_among : (x y : ℕ) → among (y ∷ []) x ≡ true → y ≡ x
one_among x y h = elim (or_cases (x == y) false h) as (λ _. y ≡ x) [ inl p ↦ sym (equal_is x y p) | inr p ↦ clash p refl ]

same_for : (x : ℕ) (r : Right) (rights : List Right) → r.variable ≡ x → are_for (r ∷ rights) x ≡ true
same_for x r rights e = subst (λ z. are_for (r ∷ rights) z ≡ true) e (right_first r rights)

-- Waits and signals at a goal.

in_waits : (span : Span) (w : List Right) (goals : List Node) (x : ℕ) → in_nodes (nodes_of (map (wait_at span) w ++ goals)) x ≡ true → (are_for w x ≡ true) ⊎ (in_nodes (nodes_of goals) x ≡ true)
in_waits span [] goals x h = inr h
in_waits span (r ∷ w) goals x h = on (or_cases (among (r.variable ∷ []) x) (in_nodes (nodes_of (map (wait_at span) w ++ goals)) x) h) (λ k. in_waits span w goals x k) where
  on : (among (r.variable ∷ []) x ≡ true) ⊎ (in_nodes (nodes_of (map (wait_at span) w ++ goals)) x ≡ true)
      → (in_nodes (nodes_of (map (wait_at span) w ++ goals)) x ≡ true → (are_for w x ≡ true) ⊎ (in_nodes (nodes_of goals) x ≡ true)) → (are_for (r ∷ w) x ≡ true) ⊎ (in_nodes (nodes_of goals) x ≡ true)
  on (inl k) rec = inl (same_for x r w (one_among x r.variable k))
  on (inr k) rec = elim (rec k) as (λ _. (are_for (r ∷ w) x ≡ true) ⊎ (in_nodes (nodes_of goals) x ≡ true)) [
    | inl j ↦ inl (or_right (r.variable == x) (are_for w x) j)
    | inr j ↦ inr j
  ]

in_signals : (span : Span) (s : List Right) (x : ℕ) → in_nodes (nodes_of (map (signal_at span) s)) x ≡ true → are_for s x ≡ true
in_signals span [] x h = clash h refl
in_signals span (r ∷ s) x h = elim (or_cases (among (r.variable ∷ []) x) (in_nodes (nodes_of (map (signal_at span) s)) x) h) as (λ _. are_for (r ∷ s) x ≡ true) [
  | inl k ↦ same_for x r s (one_among x r.variable k)
  | inr k ↦ or_right (r.variable == x) (are_for s x) (in_signals span s x k)
]

-- goals behind the waits
waits_there : (span : Span) (w : List Right) (goals : List Node) (x : ℕ) → in_nodes (nodes_of goals) x ≡ true → in_nodes (nodes_of (map (wait_at span) w ++ goals)) x ≡ true
waits_there span [] goals x h = h
waits_there span (r ∷ w) goals x h = or_right (among (r.variable ∷ []) x) (in_nodes (nodes_of (map (wait_at span) w ++ goals)) x) (waits_there span w goals x h)

in_between : (w : List Right) (n : Node) (behind : List Node) (x : ℕ) → in_node (between w n behind) x ≡ true → (are_for w x ≡ true) ⊎ ((in_node n x ≡ true) ⊎ (in_nodes (nodes_of behind) x ≡ true))
in_between [] n [] x h = inr (inl h)
in_between [] n (m ∷ ms) x h = inr (or_cases (in_node n x) (in_nodes (nodes_of (m ∷ ms)) x) h)
in_between (r ∷ w) n behind x h = elim (in_waits (span_of n) (r ∷ w) (n ∷ behind) x h) as (λ _. (are_for (r ∷ w) x ≡ true) ⊎ ((in_node n x ≡ true) ⊎ (in_nodes (nodes_of behind) x ≡ true))) [
  | inl k ↦ inl k
  | inr k ↦ inr (or_cases (in_node n x) (in_nodes (nodes_of behind) x) k)
]

pub there_between : (w : List Right) (n : Node) (behind : List Node) (x : ℕ) → in_node n x ≡ true → in_node (between w n behind) x ≡ true
there_between [] n [] x h = h
there_between [] n (m ∷ ms) x h = or_left (in_node n x) (in_nodes (nodes_of (m ∷ ms)) x) h
there_between (r ∷ w) n behind x h = waits_there (span_of n) (r ∷ w) (n ∷ behind) x (or_left (in_node n x) (in_nodes (nodes_of behind) x) h)

in_around : (w s : List Right) (n : Node) (x : ℕ) → in_node (around w s n) x ≡ true → Or x (in_node n x ≡ true) w s
in_around w s n x h = on (in_between w n (map (signal_at (span_of n)) s) x h) where
  on : (are_for w x ≡ true) ⊎ ((in_node n x ≡ true) ⊎ (in_nodes (nodes_of (map (signal_at (span_of n)) s)) x ≡ true)) → Or x (in_node n x ≡ true) w s
  on (inl k) = inr (inl k)
  on (inr (inl k)) = inl k
  on (inr (inr k)) = inr (inr (in_signals (span_of n) s x k))

in_ahead : (w : List Right) (n : Node) (x : ℕ) → in_node (ahead_of n w) x ≡ true → (in_node n x ≡ true) ⊎ (are_for w x ≡ true)
in_ahead w n x h = on (in_between [] n (map (wait_at (span_of n)) w) x h) where
  waits : (v : List Right) → in_nodes (nodes_of (map (wait_at (span_of n)) v)) x ≡ true → are_for v x ≡ true
  waits [] k = clash k refl
  waits (r ∷ v) k = elim (or_cases (among (r.variable ∷ []) x) (in_nodes (nodes_of (map (wait_at (span_of n)) v)) x) k) as (λ _. are_for (r ∷ v) x ≡ true) [
    | inl j ↦ same_for x r v (one_among x r.variable j)
    | inr j ↦ or_right (r.variable == x) (are_for v x) (waits v j)
  ]

  on : (are_for [] x ≡ true) ⊎ ((in_node n x ≡ true) ⊎ (in_nodes (nodes_of (map (wait_at (span_of n)) w)) x ≡ true)) → (in_node n x ≡ true) ⊎ (are_for w x ≡ true)
  on (inl k) = clash k refl
  on (inr (inl k)) = inl k
  on (inr (inr k)) = inr (waits w k)

in_output_waits : (span : Span) (xs : List ℕ) (x : ℕ) → in_nodes (nodes_of (map (λ variable. wait_at span (right_to 0 variable)) xs)) x ≡ true → among xs x ≡ true
in_output_waits span [] x h = clash h refl
in_output_waits span (y ∷ xs) x h = elim (or_cases (among (y ∷ []) x) (in_nodes (nodes_of (map (λ variable. wait_at span (right_to 0 variable)) xs)) x) h) as (λ _. among (y ∷ xs) x ≡ true) [
  | inl k ↦ or_left (x == y) (among xs x) (elim (or_cases (x == y) false k) as (λ _. (x == y) ≡ true) [ inl p ↦ p | inr p ↦ clash p refl ])
  | inr k ↦ or_right (x == y) (among xs x) (in_output_waits span xs x k)
]

none_for : (x : ℕ) (A : Type 0) → Or x A [] [] → A
none_for x A (inl a) = a
none_for x A (inr (inl h)) = clash h refl
none_for x A (inr (inr h)) = clash h refl

sub_those : (p : ℕ → Bool) (w : List Right) (x : ℕ) → are_for (those p w) x ≡ true → are_for w x ≡ true
sub_those p w x h = (those_in p w x h).0

module _ (modes : ℕ → List ModeDecl) where
  own_only : (n : Node) (out : Variables) (b : Bound) → GoodNode modes out b n → (w s : List Right) (x : ℕ) → (are_for s x ≡ true → among (outputs_of n) x ≡ true) → Or x (in_node n x ≡ true) (used_in n w) s → in_node n x ≡ true
  own_only n out b good w s x f (inl a) = a
  own_only n out b good w s x f (inr (inl a)) = (those_in (in_node n) w x a).1
  own_only (node g outs category span) out b good w s x f (inr (inr a)) = good.0 x (f a)

  mutual
    pub in_split : (n : Node) (out : Variables) (b : Bound) → GoodNode modes out b n → (site : ℕ) (later : ℕ → Bool) (w s : List Right) (x : ℕ) → in_node (placed site later w s n) x ≡ true → Or x (in_node n x ≡ true) w s
    in_split (node g outs category span) out b good site later w s x h = on (may_fail category) h (λ t k. in_split_goal g outs out b good.0 good.2 site later w t category span x k) where
      on : (f : Bool) → in_node (if f then around [] s (placed_goal site later w [] g outs category span) else placed_goal site later w s g outs category span) x ≡ true
          → ((t : List Right) → in_node (placed_goal site later w t g outs category span) x ≡ true → Or x (in_goal g x ≡ true) w t) → Or x (in_goal g x ≡ true) w s
      on true k inner = elim (in_around [] s (placed_goal site later w [] g outs category span) x k) as (λ _. Or x (in_goal g x ≡ true) w s) [
        | inl j ↦ or_more x (in_goal g x ≡ true) (in_goal g x ≡ true) w w [] s (λ a. a) (λ a. a) (λ a. clash a refl) (inner [] j)
        | inr j ↦ elim j as (λ _. Or x (in_goal g x ≡ true) w s) [ inl i ↦ clash i refl | inr i ↦ inr (inr i) ]
      ]
      on false k inner = inner s k

    in_split_goal : (g : Goal) (outs : List ℕ) (out : Variables) (b : Bound) → ((y : ℕ) → among outs y ≡ true → in_goal g y ≡ true) → GoodGoal modes out b outs g → (site : ℕ) (later : ℕ → Bool) (w s : List Right) (category : Option Category) (span : Span) (x : ℕ)
        → in_node (placed_goal site later w s g outs category span) x ≡ true → Or x (in_goal g x ≡ true) w s
    in_split_goal (Basic g) outs out b occur good site later w s category span x h = in_around w s (node (Basic g) outs category span) x h
    in_split_goal (Conjunction Sequential ns) outs out b occur good site later w s category span x h = in_split_turn ns out b good.0 site later w s x h
    in_split_goal (Conjunction (Parallel unknown) ns) outs out b occur good site later w s category span x h = on (in_between (those (λ variable. not (moves_in later ns variable)) w) whole (map (λ variable. wait_at span (right_to 0 variable)) outs) x h)
        (λ k. in_split_conjuncts ns out b good.0 (suc site) 1 outs (those (moves_in later ns) w) s [] x k) where
          whole : Node
          whole = node (Conjunction (Parallel (Some (record { number = site }))) (placed_conjuncts (suc site) 1 outs (those (moves_in later ns) w) s [] ns)) outs category span

          on : (are_for (those (λ variable. not (moves_in later ns variable)) w) x ≡ true) ⊎ ((in_node whole x ≡ true) ⊎ (in_nodes (nodes_of (map (λ variable. wait_at span (right_to 0 variable)) outs)) x ≡ true))
              → (in_node whole x ≡ true → in_nodes ns x ≡ true) → Or x (in_nodes ns x ≡ true) w s
          on (inl k) rec = inr (inl (sub_those (λ variable. not (moves_in later ns variable)) w x k))
          on (inr (inl k)) rec = inl (rec k)
          on (inr (inr k)) rec = inl (occur x (in_output_waits span outs x k))
    in_split_goal (Disjunction ns) outs out b occur good site later w s category span x h =
        or_more x (in_nodes (placed_alone site ns) x ≡ true) (in_nodes ns x ≡ true) w w s s (λ k. in_split_alone ns out b good.0 site x k) (λ k. k) (λ k. k) (in_around w s (node (Disjunction (placed_alone site ns)) outs category span) x h)
    in_split_goal (Switch y arms) outs out b occur good site later w s category span x h =
        on (in_around (those (λ other. other == y) w) [] (node (Switch y (placed_arms site later (those (λ other. not (other == y)) w) s arms)) outs category span) x h)
        (λ k. in_split_arms arms (with out (among (y ∷ []))) b good.1 site later (those (λ other. not (other == y)) w) s x k) where
          rest : List Right
          rest = those (λ other. not (other == y)) w

          on : Or x (in_goal (Switch y (placed_arms site later rest s arms)) x ≡ true) (those (λ other. other == y) w) [] → (in_arms (placed_arms site later rest s arms) x ≡ true → Or x (in_arms arms x ≡ true) rest s)
              → Or x (((x == y) || in_arms arms x) ≡ true) w s
          on (inr (inl k)) rec = inr (inl (sub_those (λ other. other == y) w x k))
          on (inr (inr k)) rec = clash k refl
          on (inl k) rec = elim (or_cases (x == y) (in_arms (placed_arms site later rest s arms) x) k) as (λ _. Or x (((x == y) || in_arms arms x) ≡ true) w s) [
            | inl j ↦ inl (or_left (x == y) (in_arms arms x) j)
            | inr j ↦ or_more x (in_arms arms x ≡ true) (((x == y) || in_arms arms x) ≡ true) rest w s s (λ a. or_right (x == y) (in_arms arms x) a) (sub_those (λ other. not (other == y)) w x) (λ a. a) (rec j)
          ]
    in_split_goal (Conditional c t e) outs out b occur good site later w s category span x h =
        on (in_around (used_in c w) [] (node (Conditional (placed site nothing [] [] c) then_part else_part) outs category span) x h)
        (λ k. in_split c (with out (with (in_node t) (in_node e))) b good.0 site nothing [] [] x k)
        (λ k. in_split t (with out (with (in_node c) (in_node e))) (with b (among (outputs_of c))) good.2 (site + forks c) later (used_in t (unused_in c w)) (bound_in t s) x k)
        (λ k. in_split e (with out (with (in_node c) (in_node t))) b good.4 (site + forks c + forks t) later (used_in e (unused_in c w)) (bound_in e s) x k) where
          inner : List Right
          inner = unused_in c w

          then_part : Node
          then_part = ahead_of (placed (site + forks c) later (used_in t inner) (bound_in t s) t) (passed_by later t inner)

          else_part : Node
          else_part = ahead_of (placed (site + forks c + forks t) later (used_in e inner) (bound_in e s) e) (passed_by later e inner)

          All : Bool
          All = in_node c x || (in_node t x || in_node e x)

          below : (p : ℕ → Bool) → are_for (those p inner) x ≡ true → are_for w x ≡ true
          below p k = sub_those (λ variable. not (in_node c variable)) w x (sub_those p inner x k)

          Then : Type 0
          Then = in_node (placed (site + forks c) later (used_in t inner) (bound_in t s) t) x ≡ true → Or x (in_node t x ≡ true) (used_in t inner) (bound_in t s)

          Else : Type 0
          Else = in_node (placed (site + forks c + forks t) later (used_in e inner) (bound_in e s) e) x ≡ true → Or x (in_node e x ≡ true) (used_in e inner) (bound_in e s)

          from_then : Then → (in_node (placed (site + forks c) later (used_in t inner) (bound_in t s) t) x ≡ true) ⊎ (are_for (passed_by later t inner) x ≡ true) → Or x (All ≡ true) w s
          from_then rec (inl k) = or_more x (in_node t x ≡ true) (All ≡ true) (used_in t inner) w (bound_in t s) s (λ a. or_right (in_node c x) (in_node t x || in_node e x) (or_left (in_node t x) (in_node e x) a)) (below (in_node t)) (sub_those (among (outputs_of t)) s x) (rec k)
          from_then rec (inr k) = inr (inl (below (λ variable. later variable && not (in_node t variable)) k))

          from_else : Else → (in_node (placed (site + forks c + forks t) later (used_in e inner) (bound_in e s) e) x ≡ true) ⊎ (are_for (passed_by later e inner) x ≡ true) → Or x (All ≡ true) w s
          from_else rec (inl k) = or_more x (in_node e x ≡ true) (All ≡ true) (used_in e inner) w (bound_in e s) s (λ a. or_right (in_node c x) (in_node t x || in_node e x) (or_right (in_node t x) (in_node e x) a)) (below (in_node e)) (sub_those (among (outputs_of e)) s x) (rec k)
          from_else rec (inr k) = inr (inl (below (λ variable. later variable && not (in_node e variable)) k))

          on : Or x ((in_node (placed site nothing [] [] c) x || (in_node then_part x || in_node else_part x)) ≡ true) (used_in c w) []
              → (in_node (placed site nothing [] [] c) x ≡ true → Or x (in_node c x ≡ true) [] []) → Then → Else → Or x (All ≡ true) w s
          on (inr (inl k)) rc rt re = inr (inl (sub_those (in_node c) w x k))
          on (inr (inr k)) rc rt re = clash k refl
          on (inl k) rc rt re = elim (or_cases (in_node (placed site nothing [] [] c) x) (in_node then_part x || in_node else_part x) k) as (λ _. Or x (All ≡ true) w s) [
            | inl j ↦ inl (or_left (in_node c x) (in_node t x || in_node e x) (none_for x (in_node c x ≡ true) (rc j)))
            | inr j ↦ elim (or_cases (in_node then_part x) (in_node else_part x) j) as (λ _. Or x (All ≡ true) w s) [
              | inl i ↦ from_then rt (in_ahead (passed_by later t inner) (placed (site + forks c) later (used_in t inner) (bound_in t s) t) x i)
              | inr i ↦ from_else re (in_ahead (passed_by later e inner) (placed (site + forks c + forks t) later (used_in e inner) (bound_in e s) e) x i)
            ]
          ]
    in_split_goal (Negation n) outs out b occur good site later w s category span x h =
        or_more x (in_node (placed site nothing [] [] n) x ≡ true) (in_node n x ≡ true) w w s s (λ k. none_for x (in_node n x ≡ true) (in_split n out b good.0 site nothing [] [] x k)) (λ k. k) (λ k. k)
        (in_around w s (node (Negation (placed site nothing [] [] n)) outs category span) x h)
    in_split_goal (Quantified own n) outs out b occur good site later w s category span x h = in_split n out b good.0 site later w s x h

    in_split_turn : (ns : Nodes) (out : Variables) (b : Bound) → GoodNodes modes out b ns → (site : ℕ) (later : ℕ → Bool) (w s : List Right) (x : ℕ) → in_nodes (placed_in_turn site later w s ns) x ≡ true → Or x (in_nodes ns x ≡ true) w s
    in_split_turn no_nodes out b good site later w s x h = clash h refl
    in_split_turn (more_nodes n ns) out b good site later w s x h =
        let first : Node = placed site (λ variable. later variable || in_nodes ns variable) (used_in n w) (bound_in n s) n in
        let rest : Nodes = placed_in_turn (site + forks n) later (unused_in n w) (unbound_in n s) ns in
        elim (or_cases (in_node first x) (in_nodes rest x) h) as (λ _. Or x ((in_node n x || in_nodes ns x) ≡ true) w s) [
          | inl k ↦ or_more x (in_node n x ≡ true) ((in_node n x || in_nodes ns x) ≡ true) (used_in n w) w (bound_in n s) s (λ a. or_left (in_node n x) (in_nodes ns x) a) (sub_those (in_node n) w x) (sub_those (among (outputs_of n)) s x)
              (in_split n (with out (in_nodes ns)) b good.0 site (λ variable. later variable || in_nodes ns variable) (used_in n w) (bound_in n s) x k)
          | inr k ↦ or_more x (in_nodes ns x ≡ true) ((in_node n x || in_nodes ns x) ≡ true) (unused_in n w) w (unbound_in n s) s (λ a. or_right (in_node n x) (in_nodes ns x) a) (sub_those (λ variable. not (in_node n variable)) w x)
              (sub_those (λ variable. not (among (outputs_of n) variable)) s x)
              (in_split_turn ns (with out (in_node n)) (with b (among (outputs_of n))) good.1 (site + forks n) later (unused_in n w) (unbound_in n s) x k)
        ]

    pub in_split_conjuncts : (ns : Nodes) (out : Variables) (b : Bound) → GoodNodes modes out b ns → (site number : ℕ) (outputs : List ℕ) (w s : List Right) (left : List ℕ) (x : ℕ)
        → in_nodes (placed_conjuncts site number outputs w s left ns) x ≡ true → in_nodes ns x ≡ true
    in_split_conjuncts no_nodes out b good site number outputs w s left x h = h
    in_split_conjuncts (more_nodes n ns) out b good site number outputs w s left x h =
        let waits : List Right = used_in n (map (right_to number) left ++ w) in
        let signals : List Right = flat_map (signals_of (suc number) ns outputs s) (outputs_of n) in
        let first : Node = placed site nothing waits signals n in
        let rest : Nodes = placed_conjuncts (site + forks n) (suc number) outputs w s (left ++ outputs_of n) ns in
        elim (or_cases (in_node first x) (in_nodes rest x) h) as (λ _. (in_node n x || in_nodes ns x) ≡ true) [
          | inl k ↦ or_left (in_node n x) (in_nodes ns x) (own_only n (with out (in_nodes ns)) b good.0 (map (right_to number) left ++ w) signals x (λ a. has_among x (outputs_of n) (signals_within (suc number) ns outputs s n x a))
              (in_split n (with out (in_nodes ns)) b good.0 site nothing waits signals x k))
          | inr k ↦ or_right (in_node n x) (in_nodes ns x) (in_split_conjuncts ns (with out (in_node n)) (with b (among (outputs_of n))) good.1 (site + forks n) (suc number) outputs w s (left ++ outputs_of n) x k)
        ]

    in_split_alone : (ns : Nodes) (out : Variables) (b : Bound) → GoodDisjuncts modes out b ns → (site : ℕ) (x : ℕ) → in_nodes (placed_alone site ns) x ≡ true → in_nodes ns x ≡ true
    in_split_alone no_nodes out b good site x h = h
    in_split_alone (more_nodes n ns) out b good site x h = elim (or_cases (in_node (placed site nothing [] [] n) x) (in_nodes (placed_alone (site + forks n) ns) x) h) as (λ _. (in_node n x || in_nodes ns x) ≡ true) [
      | inl k ↦ or_left (in_node n x) (in_nodes ns x) (none_for x (in_node n x ≡ true) (in_split n out b good.0 site nothing [] [] x k))
      | inr k ↦ or_right (in_node n x) (in_nodes ns x) (in_split_alone ns out b good.1 (site + forks n) x k)
    ]

    in_split_arms : (arms : Arms) (out : Variables) (b : Bound) → GoodArms modes out b arms → (site : ℕ) (later : ℕ → Bool) (w s : List Right) (x : ℕ) → in_arms (placed_arms site later w s arms) x ≡ true → Or x (in_arms arms x ≡ true) w s
    in_split_arms no_arms out b good site later w s x h = clash h refl
    in_split_arms (more_arms symbol n arms) out b good site later w s x h = on (or_cases (in_node (ahead_of body (passed_by later n w)) x) (in_arms rest x) h)
        (λ k. in_split n out b good.0 site later (used_in n w) (bound_in n s) x k) (λ k. in_split_arms arms out b good.1 (site + forks n) later w s x k) where
          body : Node
          body = placed site later (used_in n w) (bound_in n s) n

          rest : Arms
          rest = placed_arms (site + forks n) later w s arms

          First : Type 0
          First = in_node body x ≡ true → Or x (in_node n x ≡ true) (used_in n w) (bound_in n s)

          first : First → (in_node body x ≡ true) ⊎ (are_for (passed_by later n w) x ≡ true) → Or x ((in_node n x || in_arms arms x) ≡ true) w s
          first rec (inl k) = or_more x (in_node n x ≡ true) ((in_node n x || in_arms arms x) ≡ true) (used_in n w) w (bound_in n s) s (λ a. or_left (in_node n x) (in_arms arms x) a) (sub_those (in_node n) w x) (sub_those (among (outputs_of n)) s x) (rec k)
          first rec (inr k) = inr (inl (sub_those (λ variable. later variable && not (in_node n variable)) w x k))

          on : (in_node (ahead_of body (passed_by later n w)) x ≡ true) ⊎ (in_arms rest x ≡ true) → First → (in_arms rest x ≡ true → Or x (in_arms arms x ≡ true) w s) → Or x ((in_node n x || in_arms arms x) ≡ true) w s
          on (inl k) rec more = first rec (in_ahead (passed_by later n w) body x k)
          on (inr k) rec more = or_more x (in_arms arms x ≡ true) ((in_node n x || in_arms arms x) ≡ true) w w s s (λ a. or_right (in_node n x) (in_arms arms x) a) (λ a. a) (λ a. a) (more k)

-- what occurs in a goal occurs in the goal that is made of it
mutual
  pub split_in : (n : Node) (site : ℕ) (later : ℕ → Bool) (w s : List Right) (x : ℕ) → in_node n x ≡ true → in_node (placed site later w s n) x ≡ true
  split_in (node g outs category span) site later w s x h = on (may_fail category) (split_in_goal g outs site later w [] category span x h) (split_in_goal g outs site later w s category span x h) where
    on : (f : Bool) → in_node (placed_goal site later w [] g outs category span) x ≡ true → in_node (placed_goal site later w s g outs category span) x ≡ true
        → in_node (if f then around [] s (placed_goal site later w [] g outs category span) else placed_goal site later w s g outs category span) x ≡ true
    on true k l = there_between [] (placed_goal site later w [] g outs category span) (map (signal_at (span_of (placed_goal site later w [] g outs category span))) s) x k
    on false k l = l

  split_in_goal : (g : Goal) (outs : List ℕ) (site : ℕ) (later : ℕ → Bool) (w s : List Right) (category : Option Category) (span : Span) (x : ℕ) → in_goal g x ≡ true → in_node (placed_goal site later w s g outs category span) x ≡ true
  split_in_goal (Basic g) outs site later w s category span x h = there_between w (node (Basic g) outs category span) (map (signal_at span) s) x h
  split_in_goal (Conjunction Sequential ns) outs site later w s category span x h = split_in_turn ns site later w s x h
  split_in_goal (Conjunction (Parallel unknown) ns) outs site later w s category span x h =
      there_between (those (λ variable. not (moves_in later ns variable)) w) (node (Conjunction (Parallel (Some (record { number = site }))) (placed_conjuncts (suc site) 1 outs (those (moves_in later ns) w) s [] ns)) outs category span)
      (map (λ variable. wait_at span (right_to 0 variable)) outs) x (split_in_conjuncts ns (suc site) 1 outs (those (moves_in later ns) w) s [] x h)
  split_in_goal (Disjunction ns) outs site later w s category span x h = there_between w (node (Disjunction (placed_alone site ns)) outs category span) (map (signal_at span) s) x (split_in_alone ns site x h)
  split_in_goal (Switch y arms) outs site later w s category span x h =
      there_between (those (λ other. other == y) w) (node (Switch y (placed_arms site later (those (λ other. not (other == y)) w) s arms)) outs category span) [] x
      (elim (or_cases (x == y) (in_arms arms x) h) as (λ _. ((x == y) || in_arms (placed_arms site later (those (λ other. not (other == y)) w) s arms) x) ≡ true) [
        | inl k ↦ or_left (x == y) (in_arms (placed_arms site later (those (λ other. not (other == y)) w) s arms) x) k
        | inr k ↦ or_right (x == y) (in_arms (placed_arms site later (those (λ other. not (other == y)) w) s arms) x) (split_in_arms arms site later (those (λ other. not (other == y)) w) s x k)
      ])
  split_in_goal (Conditional c t e) outs site later w s category span x h =
      let inner : List Right = unused_in c w in
      let cond : Node = placed site nothing [] [] c in
      let body : Node = placed (site + forks c) later (used_in t inner) (bound_in t s) t in
      let other : Node = placed (site + forks c + forks t) later (used_in e inner) (bound_in e s) e in
      let then_part : Node = ahead_of body (passed_by later t inner) in
      let else_part : Node = ahead_of other (passed_by later e inner) in
      there_between (used_in c w) (node (Conditional cond then_part else_part) outs category span) [] x
      (elim (or_cases (in_node c x) (in_node t x || in_node e x) h) as (λ _. (in_node cond x || (in_node then_part x || in_node else_part x)) ≡ true) [
        | inl k ↦ or_left (in_node cond x) (in_node then_part x || in_node else_part x) (split_in c site nothing [] [] x k)
        | inr k ↦ or_right (in_node cond x) (in_node then_part x || in_node else_part x) (elim (or_cases (in_node t x) (in_node e x) k) as (λ _. (in_node then_part x || in_node else_part x) ≡ true) [
          | inl j ↦ or_left (in_node then_part x) (in_node else_part x)
              (there_between [] body (map (wait_at (span_of body)) (passed_by later t inner)) x (split_in t (site + forks c) later (used_in t inner) (bound_in t s) x j))
          | inr j ↦ or_right (in_node then_part x) (in_node else_part x)
              (there_between [] other (map (wait_at (span_of other)) (passed_by later e inner)) x (split_in e (site + forks c + forks t) later (used_in e inner) (bound_in e s) x j))
        ])
      ])
  split_in_goal (Negation n) outs site later w s category span x h = there_between w (node (Negation (placed site nothing [] [] n)) outs category span) (map (signal_at span) s) x (split_in n site nothing [] [] x h)
  split_in_goal (Quantified own n) outs site later w s category span x h = split_in n site later w s x h

  split_in_turn : (ns : Nodes) (site : ℕ) (later : ℕ → Bool) (w s : List Right) (x : ℕ) → in_nodes ns x ≡ true → in_nodes (placed_in_turn site later w s ns) x ≡ true
  split_in_turn no_nodes site later w s x h = h
  split_in_turn (more_nodes n ns) site later w s x h =
      let first : Node = placed site (λ variable. later variable || in_nodes ns variable) (used_in n w) (bound_in n s) n in
      let rest : Nodes = placed_in_turn (site + forks n) later (unused_in n w) (unbound_in n s) ns in
      elim (or_cases (in_node n x) (in_nodes ns x) h) as (λ _. (in_node first x || in_nodes rest x) ≡ true) [
        | inl k ↦ or_left (in_node first x) (in_nodes rest x) (split_in n site (λ variable. later variable || in_nodes ns variable) (used_in n w) (bound_in n s) x k)
        | inr k ↦ or_right (in_node first x) (in_nodes rest x) (split_in_turn ns (site + forks n) later (unused_in n w) (unbound_in n s) x k)
      ]

  split_in_conjuncts : (ns : Nodes) (site number : ℕ) (outputs : List ℕ) (w s : List Right) (left : List ℕ) (x : ℕ) → in_nodes ns x ≡ true → in_nodes (placed_conjuncts site number outputs w s left ns) x ≡ true
  split_in_conjuncts no_nodes site number outputs w s left x h = h
  split_in_conjuncts (more_nodes n ns) site number outputs w s left x h =
      let first : Node = placed site nothing (used_in n (map (right_to number) left ++ w)) (flat_map (signals_of (suc number) ns outputs s) (outputs_of n)) n in
      let rest : Nodes = placed_conjuncts (site + forks n) (suc number) outputs w s (left ++ outputs_of n) ns in
      elim (or_cases (in_node n x) (in_nodes ns x) h) as (λ _. (in_node first x || in_nodes rest x) ≡ true) [
        | inl k ↦ or_left (in_node first x) (in_nodes rest x) (split_in n site nothing (used_in n (map (right_to number) left ++ w)) (flat_map (signals_of (suc number) ns outputs s) (outputs_of n)) x k)
        | inr k ↦ or_right (in_node first x) (in_nodes rest x) (split_in_conjuncts ns (site + forks n) (suc number) outputs w s (left ++ outputs_of n) x k)
      ]

  split_in_alone : (ns : Nodes) (site x : ℕ) → in_nodes ns x ≡ true → in_nodes (placed_alone site ns) x ≡ true
  split_in_alone no_nodes site x h = h
  split_in_alone (more_nodes n ns) site x h = elim (or_cases (in_node n x) (in_nodes ns x) h) as (λ _. (in_node (placed site nothing [] [] n) x || in_nodes (placed_alone (site + forks n) ns) x) ≡ true) [
    | inl k ↦ or_left (in_node (placed site nothing [] [] n) x) (in_nodes (placed_alone (site + forks n) ns) x) (split_in n site nothing [] [] x k)
    | inr k ↦ or_right (in_node (placed site nothing [] [] n) x) (in_nodes (placed_alone (site + forks n) ns) x) (split_in_alone ns (site + forks n) x k)
  ]

  split_in_arms : (arms : Arms) (site : ℕ) (later : ℕ → Bool) (w s : List Right) (x : ℕ) → in_arms arms x ≡ true → in_arms (placed_arms site later w s arms) x ≡ true
  split_in_arms no_arms site later w s x h = h
  split_in_arms (more_arms symbol n arms) site later w s x h =
      let body : Node = placed site later (used_in n w) (bound_in n s) n in
      let whole : Node = ahead_of body (passed_by later n w) in
      let rest : Arms = placed_arms (site + forks n) later w s arms in
      elim (or_cases (in_node n x) (in_arms arms x) h) as (λ _. (in_node whole x || in_arms rest x) ≡ true) [
        | inl k ↦ or_left (in_node whole x) (in_arms rest x) (there_between [] body (map (wait_at (span_of body)) (passed_by later n w)) x (split_in n site later (used_in n w) (bound_in n s) x k))
        | inr k ↦ or_right (in_node whole x) (in_arms rest x) (split_in_arms arms (site + forks n) later w s x k)
      ]

-- where the rights are for what the goal uses and binds
pub in_placed : (modes : ℕ → List ModeDecl) (n : Node) (out : Variables) (b : Bound) → GoodNode modes out b n → (site : ℕ) (later : ℕ → Bool) (w s : List Right) → AllUsed w (in_node n) → Within s (outputs_of n) → (x : ℕ)
    → in_node (placed site later w s n) x ≡ in_node n x
in_placed modes (node g outs category span) out b good site later w s used within x =
    let n : Node = node g outs category span in
    same_bool (in_node (placed site later w s n) x) (in_node n x) (λ h. on (in_split modes n out b good site later w s x h)) (λ h. split_in n site later w s x h) where
      on : Or x (in_goal g x ≡ true) w s → in_goal g x ≡ true
      on (inl h) = h
      on (inr (inl h)) = used x h
      on (inr (inr h)) = good.0 x (within x h)
