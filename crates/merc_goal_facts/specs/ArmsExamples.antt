-- Which arms count, and what they bind.
use Rattle.std.specs.Prelude.{◌≡◌, true, false, ◌∷◌, [], Some, None, refl}
use Rattle.merc_goal_facts.specs.declared.facts.Facts.{Facts}
use Rattle.merc_goal_facts.specs.Arms.{counts, bound_with, among_all, all_of, those_bound, those_owed}
use Rattle.merc_goal_facts.specs.Outside.{occurs_outside, IsStretch}
use Rattle.merc_goal_facts.specs.Complete.{AreKnown}
use Rattle.merc_goal_tree.specs.Nodes.{no_nodes}
use Rattle.merc_goal_tree.specs.Variables.{count}

-- one that fails beside one that does not
failing : counts true false ≡ false
failing = refl

-- one that fails beside others that fail
all_failing : counts false false ≡ true
all_failing = refl

abbrev binds_two : Facts
binds_two = record { reached = true; binds = 4 ∷ 2 ∷ []; owed = []; owed_by_condition = []; needs = []; occurrences = 3 }

one_more : bound_with true (2 ∷ []) binds_two ≡ 2 ∷ 4 ∷ []
one_more = refl

none_more : bound_with true (2 ∷ []) (record { reached = false; binds = 4 ∷ 2 ∷ []; owed = []; owed_by_condition = []; needs = []; occurrences = 3 }) ≡ 2 ∷ []
none_more = refl

-- of the variables 3, 1, 3 the middle one alone
outside_middle : occurs_outside (3 ∷ 1 ∷ 3 ∷ []) 1 2 3 ≡ true
outside_middle = refl

inside_middle : occurs_outside (3 ∷ 1 ∷ 3 ∷ []) 1 2 1 ≡ false
inside_middle = refl

middle : IsStretch (λ variable. count variable (3 ∷ 1 ∷ 3 ∷ [])) (3 ∷ 1 ∷ 3 ∷ []) 1 2 (1 ∷ [])
middle = record { before = 3 ∷ []; after = 3 ∷ []; whole = refl; start_is = refl; end_is = refl; total_is = λ variable. refl }

nothing_known : AreKnown (λ variable. 0) (λ predicate. []) [] [] no_nodes
nothing_known = tt

bound_by_no_arms : among_all None 3 ≡ true
bound_by_no_arms = refl

not_bound_by_all : among_all (Some (4 ∷ [])) 3 ≡ false
not_bound_by_all = refl

all_of_no_arms : all_of (4 ∷ []) None ≡ 4 ∷ []
all_of_no_arms = refl

bound_behind : those_bound true (4 ∷ 2 ∷ []) (2 ∷ []) ≡ 4 ∷ 2 ∷ []
bound_behind = refl

bound_behind_failing : those_bound false (4 ∷ 2 ∷ []) (2 ∷ []) ≡ 2 ∷ []
bound_behind_failing = refl

owed_by_one : those_owed true (4 ∷ 2 ∷ []) (2 ∷ []) ≡ 4 ∷ []
owed_by_one = refl

not_owed : those_owed false (4 ∷ 2 ∷ []) (2 ∷ []) ≡ []
not_owed = refl
