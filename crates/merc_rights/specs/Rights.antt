-- Rights of parallel conjuncts to wait for values and to signal them, and the goals that use them.
use Rattle.std.specs.Prelude.{ℕ, suc, zero, Bool, false, true, ◌==◌, ◌&&◌, not, nat_lt, List, [], ◌∷◌, ◌++◌, map, Some, if◌then◌else◌}
use Rattle.std.specs.List.{filter}
use Rattle.merc_base.specs.declared.category.Category.TheVariants.{Det}
use Rattle.merc_base.specs.declared.place.Span.{Span}
use Rattle.merc_graded_tree.specs.declared.basic.BasicGoal.TheVariants.{Wait, Signal}
use Rattle.merc_graded_tree.specs.declared.entries.Running.TheVariants.{Sequential}
use Rattle.merc_graded_tree.specs.Nodes.{Node, node, Basic, Conjunction, Nodes, no_nodes, more_nodes, nodes_of, outputs_of, category_of, span_of}
use Rattle.merc_graded_tree.specs.Variables.{among, in_node}

-- A right to wait for a variable's value, or to signal it: to the conjunct of this number, or to the goals behind the `&`, where it is 0.
pub record Right : Type 0 where
  pub variable : ℕ
  pub conjunct : ℕ

abbrev pub right_to : ℕ → ℕ → Right
right_to conjunct variable = record { variable = variable; conjunct = conjunct }

-- the rights whose variables are such
abbrev pub those : (ℕ → Bool) → List Right → List Right
those such rights = filter (λ right. such right.variable) rights

-- of rights to wait: those for what a goal uses, the others, and those for what is used behind the goal and not in it
abbrev pub used_in : Node → List Right → List Right
used_in goal rights = those (in_node goal) rights

abbrev pub unused_in : Node → List Right → List Right
unused_in goal rights = those (λ variable. not (in_node goal variable)) rights

abbrev pub passed_by : (ℕ → Bool) → Node → List Right → List Right
passed_by later goal rights = those (λ variable. later variable && not (in_node goal variable)) rights

-- of rights to signal: those for what a goal binds, and the others
abbrev pub bound_in : Node → List Right → List Right
bound_in goal rights = those (among (outputs_of goal)) rights

abbrev pub unbound_in : Node → List Right → List Right
unbound_in goal rights = those (λ variable. not (among (outputs_of goal) variable)) rights

-- a wait, and a signal, at the span of a goal
abbrev pub wait_at : Span → Right → Node
wait_at span right = node (Basic (Wait right.variable right.conjunct)) [] (Some Det) span

abbrev pub signal_at : Span → Right → Node
signal_at span right = node (Basic (Signal right.variable right.conjunct)) [] (Some Det) span

-- goals one after the other in the place of a goal
abbrev pub in_place_of : Node → List Node → Node
in_place_of whole goals = node (Conjunction Sequential (nodes_of goals)) (outputs_of whole) (category_of whole) (span_of whole)

-- A goal with waits before it, and goals behind it. Where there are neither, it stays as it is.
abbrev pub between : List Right → Node → List Node → Node
between [] whole [] = whole
between [] whole (next ∷ behind) = in_place_of whole (whole ∷ next ∷ behind)
between (first ∷ waits) whole behind = in_place_of whole (map (wait_at (span_of whole)) (first ∷ waits) ++ whole ∷ behind)

-- a goal with waits before it and signals behind it, and a goal with waits behind it
abbrev pub around : List Right → List Right → Node → Node
around waits signals whole = between waits whole (map (signal_at (span_of whole)) signals)

abbrev pub ahead_of : Node → List Right → Node
ahead_of whole waits = between [] whole (map (wait_at (span_of whole)) waits)

-- the numbers of the goals that use a variable, where the first one has this number
abbrev pub users : ℕ → Nodes → ℕ → List ℕ
users number no_nodes variable = []
users number (more_nodes first rest) variable =
    if in_node first variable then number ∷ users (suc number) rest variable else users (suc number) rest variable

-- Signals of one variable stand in the order of the conjuncts, and 0 is the last.
abbrev pub is_sooner : ℕ → ℕ → Bool
is_sooner zero other = false
is_sooner (suc number) zero = true
is_sooner (suc number) (suc other) = nat_lt number other

-- a right in its place among others, behind those of its number
abbrev pub with_right : Right → List Right → List Right
with_right right [] = right ∷ []
with_right right (first ∷ rest) = if is_sooner right.conjunct first.conjunct then right ∷ first ∷ rest else first ∷ with_right right rest

abbrev pub with_rights : List Right → List Right → List Right
with_rights [] rights = rights
with_rights (first ∷ rest) rights = with_rights rest (with_right first rights)

-- The rights of a conjunct to signal a variable that it binds: to the conjuncts to its right that use it, the first of which has this number, to the
-- goals behind the `&`, where the variable is an output of it, and what moves in.
abbrev pub signals_of : ℕ → Nodes → List ℕ → List Right → ℕ → List Right
signals_of next rest outputs moved variable =
    with_rights (those (λ other. other == variable) moved)
    (map (λ conjunct. right_to conjunct variable) (users next rest variable ++ (if among outputs variable then 0 ∷ [] else [])))
