-- The goals of a conjunction by their index: where one stands, and what is known of it and of those behind it.
use Rattle.std.specs.Prelude.{◌≡◌, ◌≤◌, ◌<◌, ◌+◌, ℕ, zero, suc, List, [], ◌∷◌, ◌++◌, length, take, drop, refl}
use Rattle.std.specs.List.{slice_index_or}
use Rattle.std.proofs.Common.{◌∙◌, ap, sym, subst, arith}
use Rattle.std.proofs.lemmas.List.{length-append, append_assoc, append-nil, drop_more}
use Rattle.merc_tree.specs.declared.declarations.ModeDecl.{ModeDecl}
use Rattle.merc_goal_tree.specs.Nodes.{Node, more_nodes, nodes_of}
use Rattle.merc_goal_tree.specs.Parts.{parts_of, all_parts}
use Rattle.merc_goal_tree.specs.Variables.{variables, all_variables}
use Rattle.merc_goal_facts.specs.Facts.{AreKnown, all_subgoals}
use Rattle.merc_goal_facts.specs.Outside.{IsStretch}
use Rattle.merc_goal_facts.specs.declared.facts.Facts.{Facts}
use Rattle.merc_readiness.specs.Sweeps.{AreKnownFrom}
use Rattle.merc_readiness.proofs.Marking.{known_split, known_length, all_subgoals_length, parts_length}
use Rattle.merc_readiness.proofs.Listed.{all_parts_cut, all_subgoals_cut}
use Rattle.merc_readiness.proofs.Rounds.{head_is}
use Rattle.merc_goal_order.specs.Agenda.{start_at, StandAt}
use Rattle.merc_goal_order.specs.Positions.{IsAt, IsPlaced, IsNext, variables_before}
use Rattle.merc_goal_order.specs.declared.agenda.Start.{Start}
use Rattle.merc_goal_order.proofs.Stretches.{stretch_front, stretch_back, stretch_within}

-- the next of a list
pub next_item : {X : Type 0} (items : List X) (index : ℕ) (item : X) → index < length items → item ≡ slice_index_or items index item → drop index items ≡ item ∷ drop (index + 1) items
next_item items index item room is = drop_more items index item room ∙ ap (λ x. x ∷ drop (index + 1) items) (sym is)

-- a goal has parts
pub some_parts : (goal : Node) (count : ℕ) → count ≡ length (parts_of goal) → 1 ≤ count
some_parts goal count h = omega (arith, h, parts_length goal)

-- goals cut before an index

all_variables_cut : (goals : List Node) (index : ℕ) → all_variables (nodes_of goals) ≡ variables_before goals index ++ all_variables (nodes_of (drop index goals))
all_variables_cut [] zero = refl
all_variables_cut [] (suc index) = refl
all_variables_cut (goal ∷ goals) zero = refl
all_variables_cut (goal ∷ goals) (suc index) =
    ap (λ l. variables goal ++ l) (all_variables_cut goals index) ∙ sym (append_assoc (variables goal) (variables_before goals index) (all_variables (nodes_of (drop index goals))))

pub drop_next : (goals : List Node) (index : ℕ) (goal : Node) (rest : List Node) → drop index goals ≡ goal ∷ rest → drop (suc index) goals ≡ rest
drop_next [] zero goal rest there = cc
drop_next [] (suc index) goal rest there = cc
drop_next (first ∷ others) zero goal rest there = cc
drop_next (first ∷ others) (suc index) goal rest there = drop_next others index goal rest there

pub index_within : (goals : List Node) (index : ℕ) (goal : Node) (rest : List Node) → drop index goals ≡ goal ∷ rest → index < length goals
index_within [] zero goal rest there = cc
index_within [] (suc index) goal rest there = cc
index_within (first ∷ others) zero goal rest there = omega arith
index_within (first ∷ others) (suc index) goal rest there = omega (arith, index_within others index goal rest there)

pub variables_next : (goals : List Node) (index : ℕ) (goal : Node) (rest : List Node) → drop index goals ≡ goal ∷ rest → variables_before goals (suc index) ≡ variables_before goals index ++ variables goal
variables_next [] zero goal rest there = cc
variables_next [] (suc index) goal rest there = cc
variables_next (first ∷ others) zero goal rest there = append-nil (variables first) ∙ ap variables (head_is first goal others rest there)
variables_next (first ∷ others) (suc index) goal rest there =
    ap (λ l. variables first ++ l) (variables_next others index goal rest there) ∙ sym (append_assoc (variables first) (variables_before others index) (variables goal))

pub variables_longer : (goals : List Node) (index other : ℕ) → index ≤ other → length (variables_before goals index) ≤ length (variables_before goals other)
variables_longer goals zero other h = omega arith
variables_longer goals (suc index) zero h = absurd (omega (arith, h))
variables_longer [] (suc index) (suc other) h = omega arith
variables_longer (goal ∷ goals) (suc index) (suc other) h =
    let rest = variables_longer goals index other (omega (arith, h)) in
    omega (arith, rest, length-append (variables goal) (variables_before goals index), length-append (variables goal) (variables_before goals other))

pub at_is : (goals : List Node) (index at : ℕ) → IsAt goals index at → at ≡ length (all_parts (nodes_of (take index goals)))
at_is goals index at (within, is) = omega (arith, is, all_parts_cut goals index)

pub at_next : (goals : List Node) (index at : ℕ) (goal : Node) (rest : List Node) → drop index goals ≡ goal ∷ rest → IsAt goals index at → IsAt goals (suc index) (at + length (parts_of goal))
at_next goals index at goal rest there (within, is) =
    let here : length (all_parts (nodes_of (drop index goals))) ≡ length (all_parts (nodes_of (goal ∷ rest))) = ap (λ l. length (all_parts (nodes_of l))) there in
    let next : length (all_parts (nodes_of (drop (suc index) goals))) ≡ length (all_parts (nodes_of rest)) = ap (λ l. length (all_parts (nodes_of l))) (drop_next goals index goal rest there) in
    (omega (arith, index_within goals index goal rest there), omega (arith, is, here, next, length-append (parts_of goal) (all_parts (nodes_of rest))))

pub parts_within : (goals : List Node) (index at : ℕ) (goal : Node) (rest : List Node) → drop index goals ≡ goal ∷ rest → IsAt goals index at → at + length (parts_of goal) ≤ length (all_parts (nodes_of goals))
parts_within goals index at goal rest there is = let n = (at_next goals index at goal rest there is).1 in omega (arith, n)

pub known_at : (total : ℕ → ℕ) (modes : ℕ → List ModeDecl) (goals : List Node) (index at : ℕ) (facts : List Facts) → AreKnown total modes (all_subgoals (nodes_of goals)) facts → IsAt goals index at
    → AreKnownFrom total modes (all_subgoals (nodes_of (drop index goals))) facts at
known_at total modes goals index at facts known is =
    let k = known_split total modes (all_subgoals (nodes_of (take index goals))) (all_subgoals (nodes_of (drop index goals))) facts (subst (λ l. AreKnown total modes l facts) (all_subgoals_cut goals index) known) in
    record {
      front = k.front;
      back = k.back;
      at_is = known_length total modes (all_subgoals (nodes_of (take index goals))) k.front k.first_known ∙ all_subgoals_length (nodes_of (take index goals)) ∙ sym (at_is goals index at is);
      facts_are = k.facts_are;
      known = k.rest_known;
    }

cut_stretch : (total : ℕ → ℕ) (all : List ℕ) (start : ℕ) (goals : List Node) (index : ℕ) → IsStretch total all start (start + length (all_variables (nodes_of goals))) (all_variables (nodes_of goals))
    → IsStretch total all start (start + length (variables_before goals index ++ all_variables (nodes_of (drop index goals)))) (variables_before goals index ++ all_variables (nodes_of (drop index goals)))
cut_stretch total all start goals index stretch = subst (λ l. IsStretch total all start (start + length l) l) (all_variables_cut goals index) stretch

pub stretch_at : (total : ℕ → ℕ) (all : List ℕ) (start : ℕ) (goals : List Node) (index place : ℕ) → IsStretch total all start (start + length (all_variables (nodes_of goals))) (all_variables (nodes_of goals))
    → IsPlaced start goals index place → IsStretch total all place (place + length (all_variables (nodes_of (drop index goals)))) (all_variables (nodes_of (drop index goals)))
stretch_at total all start goals index place stretch placed =
    let behind = all_variables (nodes_of (drop index goals)) in
    subst (λ p. IsStretch total all p (p + length behind) behind) (sym placed) (stretch_back total all start (variables_before goals index) behind (cut_stretch total all start goals index stretch))

-- the same of the goal of the index

pub known_from : (total : ℕ → ℕ) (modes : ℕ → List ModeDecl) (goals rest : List Node) (index at : ℕ) (facts : List Facts) (goal : Node) → drop index goals ≡ goal ∷ rest → IsAt goals index at
    → AreKnown total modes (all_subgoals (nodes_of goals)) facts → AreKnownFrom total modes (all_subgoals (more_nodes goal (nodes_of rest))) facts at
known_from total modes goals rest index at facts goal there is known =
    subst (λ l. AreKnownFrom total modes (all_subgoals (nodes_of l)) facts at) there (known_at total modes goals index at facts known is)

pub rest_from : (total : ℕ → ℕ) (all : List ℕ) (start : ℕ) (goals rest : List Node) (index place : ℕ) (goal : Node) → drop index goals ≡ goal ∷ rest → IsPlaced start goals index place
    → IsStretch total all start (start + length (all_variables (nodes_of goals))) (all_variables (nodes_of goals))
    → IsStretch total all place (place + length (variables goal ++ all_variables (nodes_of rest))) (variables goal ++ all_variables (nodes_of rest))
rest_from total all start goals rest index place goal there placed stretch =
    subst (λ l. IsStretch total all place (place + length (all_variables (nodes_of l))) (all_variables (nodes_of l))) there (stretch_at total all start goals index place stretch placed)

pub stretch_from : (total : ℕ → ℕ) (all : List ℕ) (start : ℕ) (goals rest : List Node) (index place : ℕ) (goal : Node) → drop index goals ≡ goal ∷ rest → IsPlaced start goals index place
    → IsStretch total all start (start + length (all_variables (nodes_of goals))) (all_variables (nodes_of goals)) → IsStretch total all place (place + length (variables goal)) (variables goal)
stretch_from total all start goals rest index place goal there placed stretch =
    stretch_front total all place (variables goal) (all_variables (nodes_of rest)) (rest_from total all start goals rest index place goal there placed stretch)

-- where the goals begin

pub within_goals : (goals : List Node) (starts : List Start) (index asked : ℕ) → StandAt goals starts → index < asked → asked < length starts → index < length goals
within_goals goals starts index asked stands h room = let long = stands.0 in omega (arith, long, h, room)

pub at_start : (goals : List Node) (starts : List Start) (index asked : ℕ) (here : Start) → StandAt goals starts → index < asked → asked < length starts → here ≡ start_at starts index → IsAt goals index here.at
at_start goals starts index asked here stands h room is = subst (λ s. IsAt goals index s.at) (sym is) (stands.1 index (omega (arith, h, room)))

pub placed_start : (goals : List Node) (starts : List Start) (start index asked : ℕ) (here : Start) → ((other : ℕ) → other < length starts → IsPlaced start goals other (start_at starts other).place)
    → index < asked → asked < length starts → here ≡ start_at starts index → IsPlaced start goals index here.place
placed_start goals starts start index asked here placed h room is = subst (λ s. IsPlaced start goals index s.place) (sym is) (placed index (omega (arith, h, room)))

-- where the next goal begins

pub placed_next : (total : ℕ → ℕ) (modes : ℕ → List ModeDecl) (goals rest : List Node) (index at start place next next_place : ℕ) (facts : List Facts) (all : List ℕ) (goal : Node) → drop index goals ≡ goal ∷ rest → next ≡ suc index → IsAt goals index at
    → AreKnown total modes (all_subgoals (nodes_of goals)) facts → IsStretch total all start (start + length (all_variables (nodes_of goals))) (all_variables (nodes_of goals)) → IsPlaced start goals index place
    → IsNext goal facts all at place next_place → IsPlaced start goals next next_place
placed_next total modes goals rest index at start place next next_place facts all goal there next_is is known stretch placed behind =
    let few = stretch_within total all place (place + length (variables goal ++ all_variables (nodes_of rest))) (variables goal ++ all_variables (nodes_of rest))
    (rest_from total all start goals rest index place goal there placed stretch) in
    let longer : length (variables_before goals next) ≡ length (variables_before goals index) + length (variables goal) =
    ap (λ n. length (variables_before goals n)) next_is ∙ ap (λ l. length l) (variables_next goals index goal rest there) ∙ length-append (variables_before goals index) (variables goal) in
    let here : next_place ≡ place + length (variables goal) = behind total modes (nodes_of rest) (known_from total modes goals rest index at facts goal there is known)
    (omega (arith, few, length-append (variables goal) (all_variables (nodes_of rest)))) in
    omega (arith, here, placed, longer)
