-- The variables of a goal are those of its parts.
use Rattle.std.specs.Prelude.{◌≡◌, ◌<◌, ◌||◌, ◌&&◌, ◌==◌, ℕ, zero, suc, Bool, true, false, List, [], ◌∷◌, ◌++◌, length, if◌then◌else◌, refl}
use Rattle.std.specs.List.{filter, list_all, slice_index_or}
use Rattle.std.proofs.Common.{◌∙◌, ap, sym, arith}
use Rattle.std.proofs.lemmas.Bool.Decides.{Decides-eqb}
use Rattle.merc_graded_tree.specs.declared.entries.Label.{Label}
use Rattle.merc_graded_tree.specs.Nodes.{Node, node, Goal, Basic, Conjunction, Disjunction, Switch, Conditional, Negation, Quantified, Nodes, no_nodes, more_nodes, Arms, no_arms, more_arms, nodes_of}
use Rattle.merc_graded_tree.specs.Roots.{label_of, root_of}
use Rattle.merc_graded_tree.specs.Labels.{labels_of, inner_labels, joined_labels, arm_labels}
use Rattle.merc_graded_tree.specs.Variables.{in_node, in_goal, in_nodes, in_arms}
use Rattle.merc_order.specs.Bound.{among}
use Rattle.merc_switch_choice.specs.Variables.{behind}
use Rattle.merc_switch_choice.proofs.Members.{or_assoc, or_false, or_true, among-behind}
use Rattle.merc_switch.specs.Occurring.{variables_at, outputs_behind}
use Rattle.merc_switch.specs.Selections.{has_output}

or_turned : (a b : Bool) → (a || b) ≡ (b || a)
or_turned true b = sym (or_true b)
or_turned false b = sym (or_false b)

-- whether a variable is that of one of these labels
abbrev pub in_labels : List Label → ℕ → Bool
in_labels [] variable = false
in_labels (first ∷ rest) variable = among (variables_at first.root) variable || in_labels rest variable

in_labels-append : (front back : List Label) (variable : ℕ) → in_labels (front ++ back) variable ≡ (in_labels front variable || in_labels back variable)
in_labels-append [] back variable = refl
in_labels-append (first ∷ rest) back variable =
    ap (λ b. among (variables_at first.root) variable || b) (in_labels-append rest back variable)
    ∙ sym (or_assoc (among (variables_at first.root) variable) (in_labels rest variable) (in_labels back variable))

mutual
  pub in_labels_of : (whole : Node) (variable : ℕ) → in_labels (labels_of whole) variable ≡ in_node whole variable
  in_labels_of (node goal outputs category span) variable =
      in_labels-append (inner_labels goal) (label_of (node goal outputs category span) ∷ []) variable
      ∙ or_turned (in_labels (inner_labels goal) variable) (among (variables_at (root_of goal)) variable || false)
      ∙ ap (λ b. b || in_labels (inner_labels goal) variable) (or_false (among (variables_at (root_of goal)) variable))
      ∙ in_inner goal variable

  in_inner : (goal : Goal) (variable : ℕ) → (among (variables_at (root_of goal)) variable || in_labels (inner_labels goal) variable) ≡ in_goal goal variable
  in_inner (Basic goal) variable = or_false (in_goal (Basic goal) variable)
  in_inner (Conjunction running goals) variable = in_joined goals variable
  in_inner (Disjunction goals) variable = in_joined goals variable
  in_inner (Switch whole arms) variable =
      ap (λ b. b || in_labels (arm_labels arms) variable) (or_false (variable == whole)) ∙ ap (λ b. (variable == whole) || b) (in_arm_labels arms variable)
  in_inner (Conditional condition then_part else_part) variable =
      in_labels-append (labels_of condition) (labels_of then_part ++ labels_of else_part) variable
      ∙ ap (λ b. in_labels (labels_of condition) variable || b)
      (in_labels-append (labels_of then_part) (labels_of else_part) variable
      ∙ ap (λ b. b || in_labels (labels_of else_part) variable) (in_labels_of then_part variable)
      ∙ ap (λ b. in_node then_part variable || b) (in_labels_of else_part variable))
      ∙ ap (λ b. b || (in_node then_part variable || in_node else_part variable)) (in_labels_of condition variable)
  in_inner (Negation goal) variable = in_labels_of goal variable
  in_inner (Quantified own goal) variable = in_labels_of goal variable

  in_joined : (goals : Nodes) (variable : ℕ) → in_labels (joined_labels goals) variable ≡ in_nodes goals variable
  in_joined no_nodes variable = refl
  in_joined (more_nodes first rest) variable =
      in_labels-append (labels_of first) (joined_labels rest) variable
      ∙ ap (λ b. b || in_labels (joined_labels rest) variable) (in_labels_of first variable)
      ∙ ap (λ b. in_node first variable || b) (in_joined rest variable)

  in_arm_labels : (arms : Arms) (variable : ℕ) → in_labels (arm_labels arms) variable ≡ in_arms arms variable
  in_arm_labels no_arms variable = refl
  in_arm_labels (more_arms symbol body rest) variable =
      in_labels-append (labels_of body) (arm_labels rest) variable
      ∙ ap (λ b. b || in_labels (arm_labels rest) variable) (in_labels_of body variable)
      ∙ ap (λ b. in_node body variable || b) (in_arm_labels rest variable)

-- the outputs among one variable more

added : (outputs found : List ℕ) (first w : ℕ) (rest : List ℕ) (b : Bool) → among outputs first ≡ b
    → (among (if b then behind found first else found) w || (among outputs w && among rest w)) ≡ (among found w || (among outputs w && ((w == first) || among rest w)))
added outputs found first w rest true one = ap (λ b. b || (among outputs w && among rest w)) (among-behind found first w) ∙ by_case (w == first) refl
  where
    by_case : (b : Bool) → (w == first) ≡ b → ((among found w || b) || (among outputs w && among rest w)) ≡ (among found w || (among outputs w && (b || among rest w)))
    by_case true same =
        let there : among outputs w ≡ true = ap (among outputs) ((Decides-eqb w first).0 same) ∙ one in
        ap (λ b. b || (among outputs w && among rest w)) (or_true (among found w)) ∙ sym (ap (λ b. among found w || (b && true)) there ∙ or_true (among found w))
    by_case false same = ap (λ b. b || (among outputs w && among rest w)) (or_false (among found w))
added outputs found first w rest false none = by_case (w == first) refl
  where
    by_case : (b : Bool) → (w == first) ≡ b → (among found w || (among outputs w && among rest w)) ≡ (among found w || (among outputs w && (b || among rest w)))
    by_case true same =
        let not_there : among outputs w ≡ false = ap (among outputs) ((Decides-eqb w first).0 same) ∙ none in
        ap (λ b. among found w || (b && among rest w)) not_there ∙ sym (ap (λ b. among found w || (b && true)) not_there)
    by_case false same = refl

none_more : (x o : Bool) → x ≡ (x || (o && false))
none_more true o = refl
none_more false true = refl
none_more false false = refl

pub among-outputs_behind : (outputs found variables : List ℕ) (w : ℕ) → among (outputs_behind outputs found variables) w ≡ (among found w || (among outputs w && among variables w))
among-outputs_behind outputs found [] w = none_more (among found w) (among outputs w)
among-outputs_behind outputs found (first ∷ rest) w =
    among-outputs_behind outputs (if among outputs first then behind found first else found) rest w ∙ added outputs found first w rest (among outputs first) refl

spread : (x o y z : Bool) → ((x || (o && y)) || (o && z)) ≡ (x || (o && (y || z)))
spread true o y z = refl
spread false true y z = refl
spread false false y z = refl

-- The outputs in one label more are put behind those that are known.
pub labels_more : (outputs before now : List ℕ) (left : List Label) (label : Label) (rest : List Label) (variable : ℕ) (whole : Bool)
    → ((w : ℕ) → among now w ≡ (among before w || (among outputs w && among (variables_at label.root) w))) → left ≡ label ∷ rest
    → (among before variable || (among outputs variable && in_labels left variable)) ≡ whole → (among now variable || (among outputs variable && in_labels rest variable)) ≡ whole
labels_more outputs before now left label rest variable whole put is same =
    ap (λ b. b || (among outputs variable && in_labels rest variable)) (put variable)
    ∙ spread (among before variable) (among outputs variable) (among (variables_at label.root) variable) (in_labels rest variable)
    ∙ ap (λ l. among before variable || (among outputs variable && in_labels l variable)) (sym is)
    ∙ same

-- the variables of one of the goals are among those of all

occurs_in_one : (goals : List Node) (index : ℕ) (one : Node) (variable : ℕ) → index < length goals → one ≡ slice_index_or goals index one → in_node one variable ≡ true
    → in_nodes (nodes_of goals) variable ≡ true
occurs_in_one [] index one variable within is occurs = absurd (omega (arith, within))
occurs_in_one (first ∷ rest) zero one variable within is occurs = ap (λ b. b || in_nodes (nodes_of rest) variable) (ap (λ g. in_node g variable) (sym is) ∙ occurs)
occurs_in_one (first ∷ rest) (suc index) one variable within is occurs =
    ap (λ b. in_node first variable || b) (occurs_in_one rest index one variable (omega (arith, within)) is occurs) ∙ or_true (in_node first variable)

absorbed : (a b c : Bool) → (b ≡ true → c ≡ true) → ((a || b) || c) ≡ (a || c)
absorbed true b c h = refl
absorbed false true c h = sym (h refl)
absorbed false false c h = refl

second_true : (a b : Bool) → (a && b) ≡ true → b ≡ true
second_true true b h = h
second_true false b h = absurd (cc)

pub one_more_goal : (goals : List Node) (index : ℕ) (one : Node) (outputs before after : List ℕ) (variable : ℕ) → index < length goals → one ≡ slice_index_or goals index one
    → among after variable ≡ (among before variable || has_output outputs variable one) → (among after variable || in_nodes (nodes_of goals) variable) ≡ (among before variable || in_nodes (nodes_of goals) variable)
one_more_goal goals index one outputs before after variable within is put =
    ap (λ b. b || in_nodes (nodes_of goals) variable) put
    ∙ absorbed (among before variable) (has_output outputs variable one) (in_nodes (nodes_of goals) variable)
    (λ h. occurs_in_one goals index one variable within is (second_true (among outputs variable) (in_node one variable) h))

-- Where all of some outputs are known, no more have to be looked for.
pub outputs_known : (known : List ℕ) (goals : List Node) (outputs : List ℕ) → list_all (λ output. among known output) outputs ≡ true
    → ((variable : ℕ) → (among known variable || in_nodes (nodes_of goals) variable) ≡ in_nodes (nodes_of goals) variable)
    → filter (λ output. among known output) outputs ≡ filter (λ output. in_nodes (nodes_of goals) output) outputs
outputs_known known goals [] all same = refl
outputs_known known goals (first ∷ rest) all same =
    let parts = both (among known first) (list_all (λ output. among known output) rest) all in
    let there : in_nodes (nodes_of goals) first ≡ true = sym (same first) ∙ ap (λ b. b || in_nodes (nodes_of goals) first) parts.0 in
    let kept = filter (λ output. among known output) rest in
    ap (λ b. if b then first ∷ kept else kept) (parts.0 ∙ sym there)
    ∙ ap (λ l. if in_nodes (nodes_of goals) first then first ∷ l else l) (outputs_known known goals rest parts.1 same)
  where
    both : (a b : Bool) → (a && b) ≡ true → (a ≡ true) × (b ≡ true)
    both true b h = (refl, h)
    both false b h = absurd (cc)
