-- The faults of goals that are left to look at.
use Rattle.std.specs.Prelude.{◌≡◌, ◌≤◌, ◌<◌, ◌+◌, ◌-◌, ℕ, suc, List, [], ◌∷◌, ◌++◌, length, reverse, Option, None, refl}
use Rattle.std.proofs.Common.{◌∙◌, ap, sym, arith}
use Rattle.std.proofs.lemmas.List.{append_assoc, append-nil, length-append}
use Rattle.merc_base.specs.FirstFault.{first_of_faults}
use Rattle.merc_base.specs.declared.refusal.Refusal.{Refusal}
use Rattle.merc_graded_tree.specs.declared.entries.Running.TheVariants.{Sequential, Parallel}
use Rattle.merc_graded_tree.specs.Nodes.{Node, node, Goal, Basic, Conjunction, Disjunction, Switch, Conditional, Negation, Quantified, Nodes, no_nodes, more_nodes, Arms, no_arms, more_arms, goal_of, list_of, nodes_of}
use Rattle.merc_graded_tree.specs.Roots.{bodies_of, goals_in}
use Rattle.merc_grading.specs.Faults.{parallel_faults, goal_faults, all_faults, arm_faults, beside_faults, conjunct_faults}
use Rattle.merc_det.specs.Looking.{own_goal_faults, faults_in}
use Rattle.merc_det.specs.Tasks.{turns, goal_turns, joined_turns, arm_turns}
use Rattle.merc_graded_tree.proofs.Reversed.{reverse-first}

faults_in-append : (front back : List Node) → faults_in (front ++ back) ≡ faults_in back ++ faults_in front
faults_in-append [] back = sym (append-nil (faults_in back))
faults_in-append (first ∷ rest) back =
    ap (λ l. l ++ parallel_faults first) (faults_in-append rest back) ∙ append_assoc (faults_in back) (faults_in rest) (parallel_faults first)

-- goals that are turned round come in their order
turned : (first : Node) (rest : List Node) → faults_in (reverse (first ∷ rest)) ≡ parallel_faults first ++ faults_in (reverse rest)
turned first rest = ap faults_in (reverse-first first rest) ∙ faults_in-append (reverse rest) (first ∷ [])

all_is : (goals : Nodes) → all_faults goals ≡ faults_in (reverse (list_of goals))
all_is no_nodes = refl
all_is (more_nodes first rest) = ap (λ l. parallel_faults first ++ l) (all_is rest) ∙ sym (turned first (list_of rest))

arms_is : (arms : Arms) → arm_faults arms ≡ faults_in (reverse (bodies_of arms))
arms_is no_arms = refl
arms_is (more_arms symbol body rest) = ap (λ l. parallel_faults body ++ l) (arms_is rest) ∙ sym (turned body (bodies_of rest))

-- a goal's faults are those of its conjuncts, if it is parallel, and those of the goals that it joins
goal_is : (goal : Goal) → goal_faults goal ≡ own_goal_faults goal ++ faults_in (reverse (goals_in goal))
goal_is (Basic goal) = refl
goal_is (Conjunction Sequential goals) = all_is goals
goal_is (Conjunction (Parallel site) goals) = ap (λ l. beside_faults 1 goals ++ l) (all_is goals)
goal_is (Disjunction goals) = all_is goals
goal_is (Switch variable arms) = arms_is arms
goal_is (Conditional condition then_part else_part) = sym (append_assoc (parallel_faults condition) (parallel_faults then_part) (parallel_faults else_part))
goal_is (Negation goal) = refl
goal_is (Quantified own goal) = refl

whole_is : (whole : Node) → parallel_faults whole ≡ own_goal_faults (goal_of whole) ++ faults_in (reverse (goals_in (goal_of whole)))
whole_is (node goal outputs category span) = goal_is goal

-- one goal is looked at
pub look : (done : List Refusal) (goals kept later : List Node) (whole : Node) (all : List Refusal) → goals ≡ kept ++ whole ∷ [] → later ≡ kept ++ reverse (goals_in (goal_of whole))
    → done ++ faults_in goals ≡ all → (done ++ own_goal_faults (goal_of whole)) ++ faults_in later ≡ all
look done goals kept later whole all e f same =
    let own = own_goal_faults (goal_of whole) in
    let inner = reverse (goals_in (goal_of whole)) in
    append_assoc done own (faults_in later)
    ∙ ap (λ l. done ++ (own ++ l)) (ap faults_in f ∙ faults_in-append kept inner)
    ∙ ap (λ l. done ++ l) (sym (append_assoc own (faults_in inner) (faults_in kept)) ∙ ap (λ l. l ++ faults_in kept) (sym (whole_is whole)))
    ∙ ap (λ l. done ++ l) (sym (ap faults_in e ∙ faults_in-append kept (whole ∷ []))) ∙ same

pub look_found : (done : List Refusal) (whole : Node) (found own next : Option Refusal) → found ≡ first_of_faults done → own ≡ first_of_faults (own_goal_faults (goal_of whole))
    → ((faults others : List Refusal) → found ≡ first_of_faults faults → own ≡ first_of_faults others → next ≡ first_of_faults (faults ++ others))
    → next ≡ first_of_faults (done ++ own_goal_faults (goal_of whole))
look_found done whole found own next e f step = step done (own_goal_faults (goal_of whole)) e f

-- fewer goals are left each time

abbrev pub node_turns : List Node → ℕ
node_turns [] = 0
node_turns (first ∷ rest) = turns first + node_turns rest

node_turns-append : (front back : List Node) → node_turns (front ++ back) ≡ node_turns front + node_turns back
node_turns-append [] back = omega arith
node_turns-append (first ∷ rest) back = let h = node_turns-append rest back in omega (arith, h)

node_turns-reverse : (goals : List Node) → node_turns (reverse goals) ≡ node_turns goals
node_turns-reverse [] = refl
node_turns-reverse (first ∷ rest) =
    let h = node_turns-reverse rest in
    omega (arith, h, ap node_turns (reverse-first first rest), node_turns-append (reverse rest) (first ∷ []))

joined_fewer : (goals : Nodes) → node_turns (list_of goals) ≤ joined_turns goals
joined_fewer no_nodes = omega arith
joined_fewer (more_nodes first rest) = let h = joined_fewer rest in omega (arith, h)

arms_fewer : (arms : Arms) → node_turns (bodies_of arms) ≤ arm_turns arms
arms_fewer no_arms = omega arith
arms_fewer (more_arms symbol body rest) = let h = arms_fewer rest in omega (arith, h)

goal_fewer : (goal : Goal) → node_turns (goals_in goal) ≤ goal_turns goal
goal_fewer (Basic goal) = omega arith
goal_fewer (Conjunction running goals) = let h = joined_fewer goals in omega (arith, h)
goal_fewer (Disjunction goals) = joined_fewer goals
goal_fewer (Switch variable arms) = arms_fewer arms
goal_fewer (Conditional condition then_part else_part) = omega arith
goal_fewer (Negation goal) = omega arith
goal_fewer (Quantified own goal) = omega arith

inner_fewer : (whole : Node) → node_turns (goals_in (goal_of whole)) < turns whole
inner_fewer (node goal outputs category span) = let h = goal_fewer goal in omega (arith, h)

pub look_fewer : (goals kept later : List Node) (whole : Node) → goals ≡ kept ++ whole ∷ [] → later ≡ kept ++ reverse (goals_in (goal_of whole)) → node_turns later < node_turns goals
look_fewer goals kept later whole e f =
    let h = inner_fewer whole in
    omega (arith, h, ap node_turns e, ap node_turns f, node_turns-append kept (whole ∷ []), node_turns-append kept (reverse (goals_in (goal_of whole))), node_turns-reverse (goals_in (goal_of whole)))

-- parallel conjuncts, from the last to the first

pub record Beside (all left : List Node) (number : ℕ) (found : Option Refusal) : Type 0 where
  pub number_is : number ≡ length left
  pub taken : List Node
  pub whole : all ≡ left ++ taken
  pub found_is : found ≡ first_of_faults (beside_faults (suc (length left)) (nodes_of taken))

pub beside_start : (all : List Node) (number : ℕ) → number ≡ length all → Beside all all number None
beside_start all number e = record { number_is = e; taken = []; whole = sym (append-nil all); found_is = refl }

pub beside_step : (all left later : List Node) (last : Node) (number : ℕ) (found own next : Option Refusal) → Beside all left number found → left ≡ later ++ last ∷ []
    → own ≡ first_of_faults (conjunct_faults number last)
    → ((faults others : List Refusal) → own ≡ first_of_faults faults → found ≡ first_of_faults others → next ≡ first_of_faults (faults ++ others))
    → Beside all later (number - 1) next
beside_step all left later last number found own next beside e f step =
    let count : length left ≡ suc (length later) = omega (arith, ap length e, length-append later (last ∷ [])) in
    let numbered : number ≡ suc (length later) = beside.number_is ∙ count in
    record {
      number_is = omega (arith, numbered);
      taken = last ∷ beside.taken;
      whole = beside.whole ∙ ap (λ l. l ++ beside.taken) e ∙ append_assoc later (last ∷ []) beside.taken;
      found_is = step (conjunct_faults (suc (length later)) last) (beside_faults (suc (suc (length later))) (nodes_of beside.taken))
          (f ∙ ap (λ n. first_of_faults (conjunct_faults n last)) numbered)
          (beside.found_is ∙ ap (λ n. first_of_faults (beside_faults (suc n) (nodes_of beside.taken))) count);
    }

pub beside_end : (all left : List Node) (number : ℕ) (found : Option Refusal) → Beside all left number found → left ≡ [] → found ≡ first_of_faults (beside_faults 1 (nodes_of all))
beside_end all left number found beside e =
    beside.found_is ∙ ap (λ l. first_of_faults (beside_faults (suc (length l)) (nodes_of beside.taken))) e
    ∙ ap (λ l. first_of_faults (beside_faults 1 (nodes_of l))) (sym (beside.whole ∙ ap (λ l. l ++ beside.taken) e))
