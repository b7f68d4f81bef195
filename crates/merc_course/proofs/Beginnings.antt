-- What a conjunct begins with.
use Rattle.std.proofs.Common.{◌≡◌, ℕ, Bool, true, false, ◌==◌, ◌||◌, if◌then◌else◌, List, [], ◌∷◌, ◌++◌, None, refl, ap, sym, ◌∙◌}
use Rattle.std.proofs.lemmas.Bool.Decides.{Decides-eqb}
use Rattle.merc_graded_tree.specs.Nodes.{Node, node, Goal, Basic, Conjunction, Disjunction, Switch, Conditional, Negation, Quantified, Nodes, no_nodes, more_nodes, Arms, no_arms, more_arms}
use Rattle.merc_graded_tree.specs.Variables.{among, in_goal, in_node, in_nodes, in_arms}
use Rattle.merc_meaning.specs.Trace.{Env}
use Rattle.merc_meaning.specs.Steps.{value_at, with_entry}
use Rattle.merc_meaning.proofs.Environments.{entry_same, entry_other}
use Rattle.merc_course.specs.Variables.{goal_variables, node_variables, all_variables, arms_variables, only}

clash : {A : Type 0} {b : Bool} → b ≡ true → b ≡ false → A
clash p q = absurd (cc)

or_assoc : (a b c : Bool) → ((a || b) || c) ≡ (a || (b || c))
or_assoc true b c = refl
or_assoc false b c = refl

-- two tests that are the same in both parts
both : (a b c d : Bool) → a ≡ c → b ≡ d → (a || b) ≡ (c || d)
both a b c d p q = ap (λ (k : Bool). k || b) p ∙ ap (λ (k : Bool). c || k) q

among_append : (xs ys : List ℕ) (v : ℕ) → among (xs ++ ys) v ≡ (among xs v || among ys v)
among_append [] ys v = refl
among_append (x ∷ xs) ys v = ap (λ (k : Bool). (v == x) || k) (among_append xs ys v) ∙ sym (or_assoc (v == x) (among xs v) (among ys v))

-- the variables of a goal are those that occur in it
mutual
  goal-among : (g : Goal) (v : ℕ) → among (goal_variables g) v ≡ in_goal g v
  goal-among (Basic g) v = refl
  goal-among (Conjunction running ns) v = all-among ns v
  goal-among (Disjunction ns) v = all-among ns v
  goal-among (Switch x arms) v = ap (λ (k : Bool). (v == x) || k) (arms-among arms v)
  goal-among (Conditional c t e) v =
      among_append (node_variables c) (node_variables t ++ node_variables e) v
      ∙ both (among (node_variables c) v) (among (node_variables t ++ node_variables e) v) (in_node c v) (in_node t v || in_node e v) (node-among c v)
      (among_append (node_variables t) (node_variables e) v ∙ both (among (node_variables t) v) (among (node_variables e) v) (in_node t v) (in_node e v) (node-among t v) (node-among e v))
  goal-among (Negation n) v = node-among n v
  goal-among (Quantified own n) v = node-among n v

  node-among : (n : Node) (v : ℕ) → among (node_variables n) v ≡ in_node n v
  node-among (node g outputs category span) v = goal-among g v

  all-among : (ns : Nodes) (v : ℕ) → among (all_variables ns) v ≡ in_nodes ns v
  all-among no_nodes v = refl
  all-among (more_nodes n ns) v =
      among_append (node_variables n) (all_variables ns) v ∙ both (among (node_variables n) v) (among (all_variables ns) v) (in_node n v) (in_nodes ns v) (node-among n v) (all-among ns v)

  arms-among : (arms : Arms) (v : ℕ) → among (arms_variables arms) v ≡ in_arms arms v
  arms-among no_arms v = refl
  arms-among (more_arms s n arms) v =
      among_append (node_variables n) (arms_variables arms) v ∙ both (among (node_variables n) v) (among (arms_variables arms) v) (in_node n v) (in_arms arms v) (node-among n v) (arms-among arms v)

-- one more entry
entry-at : (env before : Env) (x v : ℕ) (rest same : Bool) → (v == x) ≡ same → value_at before v ≡ (if rest then value_at env v else None)
    → value_at (with_entry before x (value_at env x)) v ≡ (if same || rest then value_at env v else None)
entry-at env before x v rest true e h =
    let q : v ≡ x = (Decides-eqb v x).0 e in
    ap (value_at (with_entry before x (value_at env x))) q ∙ entry_same before x (value_at env x) ∙ ap (value_at env) (sym q)
entry-at env before x v rest false e h = entry_other before x v (value_at env x) (λ q. clash ((Decides-eqb v x).1 q) e) ∙ h

only-at : (variables : List ℕ) (env : Env) (v : ℕ) → value_at (only variables env) v ≡ (if among variables v then value_at env v else None)
only-at [] env v = refl
only-at (x ∷ xs) env v = entry-at env (only xs env) x v (among xs v) (v == x) refl (only-at xs env v)

pub beginning : (n : Node) (env : Env) (v : ℕ) → value_at (only (node_variables n) env) v ≡ (if in_node n v then value_at env v else None)
beginning n env v = only-at (node_variables n) env v ∙ ap (λ (k : Bool). if k then value_at env v else None) (node-among n v)
