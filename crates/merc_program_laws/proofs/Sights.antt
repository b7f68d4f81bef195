-- What the parts of a goal look like to the goal: goals whose parts look the same are good together.
use Rattle.std.proofs.Common.{◌≡◌, ℕ, Bool, ◌||◌, ◌&&◌, List, ap, sym, subst, ◌∙◌}
use mathlib.Core.Path.{fun_ext}
use Rattle.merc_tree.specs.declared.declarations.ModeDecl.{ModeDecl}
use Rattle.merc_graded_tree.specs.declared.entries.Running.{Running}
use Rattle.merc_graded_tree.specs.Nodes.{Node, Conjunction, Conditional, Negation, Quantified, Nodes, outputs_of}
use Rattle.merc_graded_tree.specs.Variables.{in_node, in_nodes}
use Rattle.merc_order.specs.Bound.{Bound, with, among}
use Rattle.merc_order_laws.specs.Bindings.{Variables, Binds, ArmBinds, NotBinding}
use Rattle.merc_order_laws.specs.GoodTree.{node_ends, GoodNode, GoodGoal, behind_nodes, GoodNodes}

-- whether the end can be reached, the outputs, and the variables that occur
pub record Sight : Type 0 where
  pub ends : Bool
  pub outputs : List ℕ
  pub inside : Variables

module _ (modes : ℕ → List ModeDecl) where
  abbrev pub sight : Node → Sight
  sight goal = record { ends = node_ends modes goal; outputs = outputs_of goal; inside = in_node goal }

  pub same_sight : (one other : Node) → node_ends modes one ≡ node_ends modes other → outputs_of one ≡ outputs_of other → ((v : ℕ) → in_node one v ≡ in_node other v) → sight one ≡ sight other
  same_sight one other ends outputs inside =
      ap (λ (b : Bool). record { ends = b; outputs = outputs_of one; inside = in_node one }) ends
      ∙ ap (λ (l : List ℕ). record { ends = node_ends modes other; outputs = l; inside = in_node one }) outputs
      ∙ ap (λ (i : Variables). record { ends = node_ends modes other; outputs = outputs_of other; inside = i }) (fun_ext inside)

  -- A conditional of parts that look like this is good.
  abbrev Decided : Variables → Bound → List ℕ → Node → Node → Node → Sight → Sight → Sight → Type 0
  Decided outside bound outputs condition then_part else_part c t e =
      GoodNode modes (with outside (with t.inside e.inside)) bound condition
      × NotBinding (with outside e.inside) c.outputs
      × GoodNode modes (with outside (with c.inside e.inside)) (with bound (among c.outputs)) then_part
      × ArmBinds (c.ends && t.ends) outside (λ v. c.inside v || (t.inside v || e.inside v)) bound outputs (with (with bound (among c.outputs)) (among t.outputs))
      × GoodNode modes (with outside (with c.inside t.inside)) bound else_part
      × ArmBinds e.ends outside (λ v. c.inside v || (t.inside v || e.inside v)) bound outputs (with bound (among e.outputs))

  pub decided : (outside : Variables) (bound : Bound) (outputs : List ℕ) (c t e c' t' e' : Node) → sight c' ≡ sight c → sight t' ≡ sight t → sight e' ≡ sight e
      → GoodGoal modes outside bound outputs (Conditional c t e)
      → GoodNode modes (with outside (with (in_node t) (in_node e))) bound c'
      → GoodNode modes (with outside (with (in_node c) (in_node e))) (with bound (among (outputs_of c))) t'
      → GoodNode modes (with outside (with (in_node c) (in_node t))) bound e'
      → GoodGoal modes outside bound outputs (Conditional c' t' e')
  decided outside bound outputs c t e c' t' e' of_c of_t of_e good condition then_part else_part =
      subst (λ (s : Sight). Decided outside bound outputs c' t' e' s (sight t') (sight e')) (sym of_c)
      (subst (λ (s : Sight). Decided outside bound outputs c' t' e' (sight c) s (sight e')) (sym of_t)
      (subst (λ (s : Sight). Decided outside bound outputs c' t' e' (sight c) (sight t) s) (sym of_e)
      (condition, good.1, then_part, good.3, else_part, good.5)))

  abbrev Negated : Variables → Bound → List ℕ → Node → Sight → Type 0
  Negated outside bound outputs goal s = GoodNode modes outside bound goal × NotBinding outside s.outputs × Binds outside s.inside bound outputs bound

  pub negated : (outside : Variables) (bound : Bound) (outputs : List ℕ) (m m' : Node) → sight m' ≡ sight m → GoodGoal modes outside bound outputs (Negation m) → GoodNode modes outside bound m'
      → GoodGoal modes outside bound outputs (Negation m')
  negated outside bound outputs m m' same good inner = subst (λ (s : Sight). Negated outside bound outputs m' s) (sym same) (inner, good.1, good.2)

  abbrev Owned : Variables → Bound → List ℕ → Node → Sight → Type 0
  Owned outside bound outputs goal s = GoodNode modes outside bound goal × Binds outside s.inside bound outputs (with bound (among s.outputs))

  pub owned : (outside : Variables) (bound : Bound) (outputs own : List ℕ) (m m' : Node) → sight m' ≡ sight m → GoodGoal modes outside bound outputs (Quantified own m) → GoodNode modes outside bound m'
      → GoodGoal modes outside bound outputs (Quantified own m')
  owned outside bound outputs own m m' same good inner = subst (λ (s : Sight). Owned outside bound outputs m' s) (sym same) (inner, good.1)

  -- Goals one after the other: the same variables occur in them, and the same are bound behind them.
  pub joined : (outside : Variables) (bound : Bound) (outputs : List ℕ) (running : Running) (ms ms' : Nodes) → ((v : ℕ) → in_nodes ms' v ≡ in_nodes ms v) → behind_nodes bound ms' ≡ behind_nodes bound ms
      → GoodGoal modes outside bound outputs (Conjunction running ms) → GoodNodes modes outside bound ms' → GoodGoal modes outside bound outputs (Conjunction running ms')
  joined outside bound outputs running ms ms' inside behind good inner =
      (inner, λ v i o. ap (λ (b : Bound). b v) behind ∙ good.1 v (sym (inside v) ∙ i) o)

  -- One in front of others, which look the same.
  pub in_front : (outside : Variables) (bound : Bound) (m m' : Node) (ms ms' : Nodes) → sight m' ≡ sight m → ((v : ℕ) → in_nodes ms' v ≡ in_nodes ms v)
      → GoodNode modes (with outside (in_nodes ms)) bound m' → GoodNodes modes (with outside (in_node m)) (with bound (among (outputs_of m))) ms'
      → GoodNode modes (with outside (in_nodes ms')) bound m' × GoodNodes modes (with outside (in_node m')) (with bound (among (outputs_of m'))) ms'
  in_front outside bound m m' ms ms' same inside first rest = (
    subst (λ (i : Variables). GoodNode modes (with outside i) bound m') (sym (fun_ext inside)) first,
    subst (λ (s : Sight). GoodNodes modes (with outside s.inside) (with bound (among s.outputs)) ms') (sym same) rest,
  )

  pub same_behind : (bound : Bound) (m m' : Node) (ms ms' : Nodes) → outputs_of m' ≡ outputs_of m → behind_nodes (with bound (among (outputs_of m))) ms' ≡ behind_nodes (with bound (among (outputs_of m))) ms
      → behind_nodes (with bound (among (outputs_of m'))) ms' ≡ behind_nodes (with bound (among (outputs_of m))) ms
  same_behind bound m m' ms ms' outputs others = ap (λ (l : List ℕ). behind_nodes (with bound (among l)) ms') outputs ∙ others
