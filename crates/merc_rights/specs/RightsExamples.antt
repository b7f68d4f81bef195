-- Worked examples of rights.
use Rattle.std.specs.Prelude.{◌≡◌, ℕ, true, ◌==◌, List, [], ◌∷◌, map, Some, None, refl}
use Rattle.std.proofs.Common.{ap}
use Rattle.merc_base.specs.declared.category.Category.TheVariants.{Det}
use Rattle.merc_base.specs.declared.place.Span.{Span}
use Rattle.merc_graded_tree.specs.declared.basic.BasicGoal.TheVariants.{Test, Assign, Wait, Signal}
use Rattle.merc_graded_tree.specs.declared.entries.Running.TheVariants.{Sequential}
use Rattle.merc_graded_tree.specs.Nodes.{Node, node, Basic, Conjunction, nodes_of}
use Rattle.merc_rights.specs.Rights.{Right, right_to, those, used_in, unused_in, passed_by, bound_in, unbound_in, in_place_of, between, around, ahead_of, users, is_sooner, with_right, with_rights, signals_of}

abbrev nowhere : Span
nowhere = record { first = 0; past = 0; line = 1 }

-- a goal that uses the variables 1 and 2 and binds 1, and one that uses 2 alone
abbrev copies : Node
copies = node (Basic (Assign 1 2)) (1 ∷ []) (Some Det) nowhere

abbrev tests : Node
tests = node (Basic (Test 2 2)) [] None nowhere

abbrev conjuncts : List Right → List ℕ
conjuncts rights = map (λ right. right.conjunct) rights

abbrev rights : List Right
rights = right_to 4 1 ∷ right_to 5 2 ∷ right_to 0 3 ∷ []

-- `those` keeps the order

those-example : those (λ variable. variable == 3) (right_to 4 3 ∷ right_to 4 1 ∷ right_to 0 3 ∷ []) ≡ right_to 4 3 ∷ right_to 0 3 ∷ []
those-example = refl

those-not : those (λ variable. variable == 3) rights ≡ [] → ⊥
those-not wrong = cc

used_in-example : used_in copies rights ≡ right_to 4 1 ∷ right_to 5 2 ∷ []
used_in-example = refl

used_in-not : used_in tests rights ≡ [] → ⊥
used_in-not none = cc

unused_in-example : unused_in copies rights ≡ right_to 0 3 ∷ []
unused_in-example = refl

unused_in-not : unused_in copies rights ≡ rights → ⊥
unused_in-not all = cc

-- what is used behind a goal and not in it

passed_by-example : passed_by (λ variable. variable == 3) copies rights ≡ right_to 0 3 ∷ []
passed_by-example = refl

passed_by-not : passed_by (λ variable. variable == 1) copies rights ≡ right_to 4 1 ∷ [] → ⊥
passed_by-not used_in_it = cc

bound_in-example : bound_in copies rights ≡ right_to 4 1 ∷ []
bound_in-example = refl

bound_in-not : bound_in copies rights ≡ right_to 4 1 ∷ right_to 5 2 ∷ [] → ⊥
bound_in-not used_alone = cc

unbound_in-example : unbound_in copies rights ≡ right_to 5 2 ∷ right_to 0 3 ∷ []
unbound_in-example = refl

unbound_in-not : unbound_in copies rights ≡ rights → ⊥
unbound_in-not all = cc

-- goals in the place of one have its outputs and its category

in_place_of-example : in_place_of tests (tests ∷ copies ∷ []) ≡ node (Conjunction Sequential (nodes_of (tests ∷ copies ∷ []))) [] None nowhere
in_place_of-example = refl

in_place_of-not : in_place_of tests (copies ∷ []) ≡ copies → ⊥
in_place_of-not the_goal_alone = cc

-- waits and signals

abbrev wait : ℕ → ℕ → Node
wait variable conjunct = node (Basic (Wait variable conjunct)) [] (Some Det) nowhere

abbrev signal : ℕ → ℕ → Node
signal variable conjunct = node (Basic (Signal variable conjunct)) [] (Some Det) nowhere

between-example : between (right_to 4 2 ∷ []) copies (signal 1 0 ∷ []) ≡ in_place_of copies (wait 2 4 ∷ copies ∷ signal 1 0 ∷ [])
between-example = refl

between-none : between [] copies [] ≡ copies
between-none = refl

between-not : between (right_to 4 2 ∷ []) copies [] ≡ in_place_of copies (copies ∷ wait 2 4 ∷ []) → ⊥
between-not behind_it = cc

around-example : around (right_to 4 2 ∷ []) (right_to 5 1 ∷ right_to 0 1 ∷ []) copies ≡ in_place_of copies (wait 2 4 ∷ copies ∷ signal 1 5 ∷ signal 1 0 ∷ [])
around-example = refl

around-not : around [] [] copies ≡ in_place_of copies (copies ∷ []) → ⊥
around-not without_reason = cc

ahead_of-example : ahead_of tests (right_to 4 1 ∷ []) ≡ in_place_of tests (tests ∷ wait 1 4 ∷ [])
ahead_of-example = refl

ahead_of-not : ahead_of tests (right_to 4 1 ∷ []) ≡ in_place_of tests (wait 1 4 ∷ tests ∷ []) → ⊥
ahead_of-not before_it = cc

-- the conjuncts that use a variable

users-example : users 3 (nodes_of (copies ∷ tests ∷ copies ∷ [])) 1 ≡ 3 ∷ 5 ∷ []
users-example = refl

users-not : users 3 (nodes_of (copies ∷ tests ∷ [])) 1 ≡ 3 ∷ 4 ∷ [] → ⊥
users-not all = cc

-- the order of signals

is_sooner-example : is_sooner 2 3 ≡ true
is_sooner-example = refl

is_sooner-behind : is_sooner 7 0 ≡ true
is_sooner-behind = refl

is_sooner-not : is_sooner 2 2 ≡ true → ⊥
is_sooner-not equal = cc

is_sooner-not_behind : is_sooner 0 2 ≡ true → ⊥
is_sooner-not_behind least = cc

with_right-example : with_right (right_to 3 1) (right_to 2 1 ∷ right_to 4 1 ∷ right_to 0 1 ∷ []) ≡ right_to 2 1 ∷ right_to 3 1 ∷ right_to 4 1 ∷ right_to 0 1 ∷ []
with_right-example = refl

with_right-behind : with_right (right_to 0 1) (right_to 2 1 ∷ right_to 0 1 ∷ []) ≡ right_to 2 1 ∷ right_to 0 1 ∷ right_to 0 1 ∷ []
with_right-behind = refl

with_right-not : with_right (right_to 3 1) (right_to 2 1 ∷ []) ≡ right_to 3 1 ∷ right_to 2 1 ∷ [] → ⊥
with_right-not in_front = let numbers : ◌≡◌ {A = List ℕ} (2 ∷ 3 ∷ []) (3 ∷ 2 ∷ []) = ap conjuncts in_front in cc

with_rights-example : with_rights (right_to 3 1 ∷ right_to 0 1 ∷ []) (right_to 2 1 ∷ right_to 0 1 ∷ []) ≡ right_to 2 1 ∷ right_to 3 1 ∷ right_to 0 1 ∷ right_to 0 1 ∷ []
with_rights-example = refl

with_rights-not : with_rights (right_to 3 1 ∷ []) (right_to 0 1 ∷ []) ≡ right_to 0 1 ∷ right_to 3 1 ∷ [] → ⊥
with_rights-not behind_the_last = let numbers : ◌≡◌ {A = List ℕ} (3 ∷ 0 ∷ []) (0 ∷ 3 ∷ []) = ap conjuncts behind_the_last in cc

-- the signals of a conjunct for a variable that it binds: those that use it, what moves in, and what is behind

signals_of-example : signals_of 2 (nodes_of (copies ∷ tests ∷ copies ∷ [])) (1 ∷ []) (right_to 3 1 ∷ right_to 3 2 ∷ []) 1
    ≡ right_to 2 1 ∷ right_to 3 1 ∷ right_to 4 1 ∷ right_to 0 1 ∷ []
signals_of-example = refl

signals_of-not : signals_of 2 (nodes_of (copies ∷ [])) [] [] 1 ≡ right_to 2 1 ∷ right_to 0 1 ∷ [] → ⊥
signals_of-not no_output = cc
