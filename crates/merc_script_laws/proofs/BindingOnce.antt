-- The conjuncts of a parallel conjunction of a good goal bind a variable once at most for the goals behind it.
use Rattle.std.proofs.Common.{◌≡◌, ◌⊎◌, inl, inr, ℕ, suc, Bool, true, false, ◌==◌, if◌then◌else◌, List, [], ◌∷◌, ◌++◌, map, filter, flat_map, refl, ap, sym, subst, ◌∙◌, arith}
use Rattle.merc_tree.specs.declared.declarations.ModeDecl.{ModeDecl}
use Rattle.merc_graded_tree.specs.declared.entries.Running.TheVariants.{Sequential, Parallel}
use Rattle.merc_graded_tree.specs.Nodes.{Node, node, Goal, Basic, Conjunction, Disjunction, Switch, Conditional, Negation, Quantified, Nodes, no_nodes, more_nodes, Arms, no_arms, more_arms, outputs_of}
use Rattle.merc_graded_tree.specs.Variables.{in_node, in_nodes}
use Rattle.merc_order.specs.Bound.{Bound, with, among}
use Rattle.merc_order_laws.specs.Bindings.{Variables, AreFree}
use Rattle.merc_order_laws.specs.GoodTree.{GoodNode, GoodGoal, GoodNodes, GoodDisjuncts, GoodArms}
use Rattle.merc_order_laws.proofs.Facts.{clash}
use Rattle.merc_program_laws.proofs.Steps.{free_not}
use Rattle.merc_program_laws.proofs.Values.{among_here, among_there, or_not_left, or_not_right}
use Rattle.merc_core.specs.Rights.{has}
use Rattle.merc_core.specs.WellFormed.{AreDistinct}
use Rattle.merc_rights.specs.declared.sites.CellInfo.{CellInfo}
use Rattle.merc_rights.specs.Rights.{users}
use Rattle.merc_par_split.specs.Sites.{consumers, cells_of}
use Rattle.merc_plan.proofs.NumberingLists.{distinct_append}
use Rattle.merc_plan.proofs.Placing.{BindsOnce, GoalBindsOnce, AllBindOnce, ArmsBindOnce}
use Rattle.merc_plan.proofs.Sets.{absent, front_or, in_either, same_number}
use Rattle.merc_plan.proofs.TellingNodes.{bound_behind}

-- Lists without repetition.

among_has : (x : ℕ) (xs : List ℕ) → has x xs ≡ true → among xs x ≡ true
among_has x [] h = absurd cc
among_has x (y ∷ ys) h = elim (front_or x y ys h) as (λ _. among (y ∷ ys) x ≡ true) [
  | inl e ↦ ap (among (y ∷ ys)) e ∙ among_here y ys
  | inr k ↦ among_there x y ys (among_has x ys k)
]

kept_among : (p : ℕ → Bool) (x : ℕ) (xs : List ℕ) → has x (filter p xs) ≡ true → among xs x ≡ true
kept_among p x [] h = absurd cc
kept_among p x (y ∷ ys) h = on (p y) h (λ k. kept_among p x ys k) where
  front : (x ≡ y) ⊎ (has x (filter p ys) ≡ true) → (has x (filter p ys) ≡ true → among ys x ≡ true) → among (y ∷ ys) x ≡ true
  front (inl e) rec = ap (among (y ∷ ys)) e ∙ among_here y ys
  front (inr k) rec = among_there x y ys (rec k)

  on : (b : Bool) → has x (if b then y ∷ filter p ys else filter p ys) ≡ true → (has x (filter p ys) ≡ true → among ys x ≡ true) → among (y ∷ ys) x ≡ true
  on true k rec = front (front_or x y (filter p ys) k) rec
  on false k rec = among_there x y ys (rec k)

free_distinct : (p : ℕ → Bool) (b : Bound) (xs : List ℕ) → AreFree b xs → AreDistinct (filter p xs)
free_distinct p b [] h = tt
free_distinct p b (x ∷ xs) h = on (p x) (free_distinct p b xs h.2) where
  on : (z : Bool) → AreDistinct (filter p xs) → AreDistinct (if z then x ∷ filter p xs else filter p xs)
  on true rec = (absent x (filter p xs) (λ k. clash (kept_among p x xs k) h.1), rec)
  on false rec = rec

-- The cells for the goals behind a parallel conjunction are those of the outputs that its conjuncts bind.

abbrev cell_of : ℕ → ℕ → ℕ → CellInfo
cell_of producer variable consumer = record { variable = variable; producer = producer; consumer = consumer }

behind_append : (xs ys : List CellInfo) → bound_behind (xs ++ ys) ≡ bound_behind xs ++ bound_behind ys
behind_append [] ys = refl
behind_append (x ∷ xs) ys = on (x.consumer == 0) (behind_append xs ys) where
  on : (z : Bool) → bound_behind (xs ++ ys) ≡ bound_behind xs ++ bound_behind ys
      → map (λ (one : CellInfo). one.variable) (if z then x ∷ filter (λ (one : CellInfo). one.consumer == 0) (xs ++ ys) else filter (λ (one : CellInfo). one.consumer == 0) (xs ++ ys))
      ≡ map (λ (one : CellInfo). one.variable) (if z then x ∷ filter (λ (one : CellInfo). one.consumer == 0) xs else filter (λ (one : CellInfo). one.consumer == 0) xs) ++ bound_behind ys
  on true e = ap (λ (l : List ℕ). x.variable ∷ l) e
  on false e = e

-- no conjunct has the number 0
behind_number : (one : CellInfo) (rest : List CellInfo) (number : ℕ) → one.consumer ≡ suc number → bound_behind (one ∷ rest) ≡ bound_behind rest
behind_number one rest number e = on (one.consumer == 0) refl where
  on : (z : Bool) → (one.consumer == 0) ≡ z
      → map (λ (other : CellInfo). other.variable) (if z then one ∷ filter (λ (other : CellInfo). other.consumer == 0) rest else filter (λ (other : CellInfo). other.consumer == 0) rest) ≡ bound_behind rest
  on true k = absurd (omega (arith, same_number one.consumer 0 k, e))
  on false k = refl

behind_users : (producer variable number : ℕ) (ns : Nodes) → bound_behind (map (cell_of producer variable) (users (suc number) ns variable)) ≡ []
behind_users producer variable number no_nodes = refl
behind_users producer variable number (more_nodes n ns) = on (in_node n variable) (behind_users producer variable (suc number) ns) where
  on : (z : Bool) → bound_behind (map (cell_of producer variable) (users (suc (suc number)) ns variable)) ≡ []
      → bound_behind (map (cell_of producer variable) (if z then suc number ∷ users (suc (suc number)) ns variable else users (suc (suc number)) ns variable)) ≡ []
  on true e = behind_number (cell_of producer variable (suc number)) (map (cell_of producer variable) (users (suc (suc number)) ns variable)) number refl ∙ e
  on false e = e

map_append : (f : ℕ → CellInfo) (xs ys : List ℕ) → map f (xs ++ ys) ≡ map f xs ++ map f ys
map_append f [] ys = refl
map_append f (x ∷ xs) ys = ap (λ (l : List CellInfo). f x ∷ l) (map_append f xs ys)

behind_one : (producer number : ℕ) (outputs : List ℕ) (ns : Nodes) (variable : ℕ)
    → bound_behind (map (cell_of producer variable) (consumers (suc number) ns outputs variable)) ≡ (if among outputs variable then variable ∷ [] else [])
behind_one producer number outputs ns variable =
    ap bound_behind (map_append (cell_of producer variable) (users (suc number) ns variable) (if among outputs variable then 0 ∷ [] else []))
    ∙ behind_append (map (cell_of producer variable) (users (suc number) ns variable)) (map (cell_of producer variable) (if among outputs variable then 0 ∷ [] else []))
    ∙ ap (λ (l : List ℕ). l ++ bound_behind (map (cell_of producer variable) (if among outputs variable then 0 ∷ [] else []))) (behind_users producer variable number ns)
    ∙ last (among outputs variable)
  where
    last : (z : Bool) → bound_behind (map (cell_of producer variable) (if z then 0 ∷ [] else [])) ≡ (if z then variable ∷ [] else [])
    last true = refl
    last false = refl

behind_each : (producer number : ℕ) (outputs : List ℕ) (ns : Nodes) (variables : List ℕ)
    → bound_behind (flat_map (λ variable. map (cell_of producer variable) (consumers (suc number) ns outputs variable)) variables) ≡ filter (among outputs) variables
behind_each producer number outputs ns [] = refl
behind_each producer number outputs ns (variable ∷ variables) =
    behind_append (map (cell_of producer variable) (consumers (suc number) ns outputs variable)) (flat_map (λ other. map (cell_of producer other) (consumers (suc number) ns outputs other)) variables)
    ∙ ap (λ (l : List ℕ). l ++ bound_behind (flat_map (λ other. map (cell_of producer other) (consumers (suc number) ns outputs other)) variables)) (behind_one producer number outputs ns variable)
    ∙ ap (λ (l : List ℕ). (if among outputs variable then variable ∷ [] else []) ++ l) (behind_each producer number outputs ns variables)
    ∙ on (among outputs variable)
  where
    on : (z : Bool) → (if z then variable ∷ [] else []) ++ filter (among outputs) variables ≡ (if z then variable ∷ filter (among outputs) variables else filter (among outputs) variables)
    on true = refl
    on false = refl

abbrev bound_for : List ℕ → Nodes → List ℕ
bound_for outputs no_nodes = []
bound_for outputs (more_nodes n ns) = filter (among outputs) (outputs_of n) ++ bound_for outputs ns

behind_cells : (producer : ℕ) (outputs : List ℕ) (ns : Nodes) → bound_behind (cells_of producer outputs ns) ≡ bound_for outputs ns
behind_cells producer outputs no_nodes = refl
behind_cells producer outputs (more_nodes n ns) =
    behind_append (flat_map (λ variable. map (cell_of producer variable) (consumers (suc producer) ns outputs variable)) (outputs_of n)) (cells_of (suc producer) outputs ns)
    ∙ ap (λ (l : List ℕ). l ++ bound_behind (cells_of (suc producer) outputs ns)) (behind_each producer producer outputs ns (outputs_of n))
    ∙ ap (λ (l : List ℕ). filter (among outputs) (outputs_of n) ++ l) (behind_cells (suc producer) outputs ns)

module _ (modes : ℕ → List ModeDecl) where
  free_outputs : (n : Node) (out : Variables) (b : Bound) → GoodNode modes out b n → AreFree b (outputs_of n)
  free_outputs (node g outs cat span) out b good = good.1

  bound_free : (outputs : List ℕ) (ns : Nodes) (out : Variables) (b : Bound) → GoodNodes modes out b ns → (x : ℕ) → has x (bound_for outputs ns) ≡ true → b x ≡ false
  bound_free outputs no_nodes out b good x h = absurd cc
  bound_free outputs (more_nodes n ns) out b good x h = elim (in_either x (filter (among outputs) (outputs_of n)) (bound_for outputs ns) h) as (λ _. b x ≡ false) [
    | inl k ↦ free_not b (outputs_of n) (free_outputs n (with out (in_nodes ns)) b good.0) x (kept_among (among outputs) x (outputs_of n) k)
    | inr k ↦ or_not_left (b x) (among (outputs_of n) x) (bound_free outputs ns (with out (in_node n)) (with b (among (outputs_of n))) good.1 x k)
  ]

  bound_once : (outputs : List ℕ) (ns : Nodes) (out : Variables) (b : Bound) → GoodNodes modes out b ns → AreDistinct (bound_for outputs ns)
  bound_once outputs no_nodes out b good = tt
  bound_once outputs (more_nodes n ns) out b good =
      let b1 : Bound = with b (among (outputs_of n)) in
      distinct_append (filter (among outputs) (outputs_of n)) (bound_for outputs ns) (free_distinct (among outputs) b (outputs_of n) (free_outputs n (with out (in_nodes ns)) b good.0))
      (bound_once outputs ns (with out (in_node n)) b1 good.1)
      (λ c h k. clash (kept_among (among outputs) c (outputs_of n) h) (or_not_right (b c) (among (outputs_of n) c) (bound_free outputs ns (with out (in_node n)) b1 good.1 c k)))

  mutual
    pub binds_once : (n : Node) (out : Variables) (b : Bound) → GoodNode modes out b n → BindsOnce n
    binds_once (node g outs cat span) out b good = goal_once g out b outs good.2

    goal_once : (g : Goal) (out : Variables) (b : Bound) (outs : List ℕ) → GoodGoal modes out b outs g → GoalBindsOnce outs g
    goal_once (Basic g) out b outs good = tt
    goal_once (Conjunction Sequential ns) out b outs good = all_once ns out b good.0
    goal_once (Conjunction (Parallel place) ns) out b outs good = (subst AreDistinct (sym (behind_cells 1 outs ns)) (bound_once outs ns out b good.0), all_once ns out b good.0)
    goal_once (Disjunction ns) out b outs good = each_once ns out b good.0
    goal_once (Switch x arms) out b outs good = arms_once arms (with out (among (x ∷ []))) b good.1
    goal_once (Conditional c t e) out b outs good = (
      binds_once c (with out (with (in_node t) (in_node e))) b good.0,
      (binds_once t (with out (with (in_node c) (in_node e))) (with b (among (outputs_of c))) good.2, binds_once e (with out (with (in_node c) (in_node t))) b good.4),
    )
    goal_once (Negation n) out b outs good = binds_once n out b good.0
    goal_once (Quantified own n) out b outs good = binds_once n out b good.0

    all_once : (ns : Nodes) (out : Variables) (b : Bound) → GoodNodes modes out b ns → AllBindOnce ns
    all_once no_nodes out b good = tt
    all_once (more_nodes n ns) out b good = (binds_once n (with out (in_nodes ns)) b good.0, all_once ns (with out (in_node n)) (with b (among (outputs_of n))) good.1)

    each_once : (ns : Nodes) (out : Variables) (b : Bound) → GoodDisjuncts modes out b ns → AllBindOnce ns
    each_once no_nodes out b good = tt
    each_once (more_nodes n ns) out b good = (binds_once n out b good.0, each_once ns out b good.1)

    arms_once : (arms : Arms) (out : Variables) (b : Bound) → GoodArms modes out b arms → ArmsBindOnce arms
    arms_once no_arms out b good = tt
    arms_once (more_arms symbol n arms) out b good = (binds_once n out b good.0, arms_once arms out b good.1)
