-- The variable on which a few disjuncts are a switch, over the types and goals of the examples of categories.
use Rattle.std.specs.Prelude.{◌≡◌, ℕ, Bool, ◌==◌, ◌||◌, true, false, List, [], ◌∷◌, Some, None, refl}
use Rattle.std.proofs.Common.{ap}
use Rattle.std.proofs.lemmas.Bool.Decides.{Decides-eqb}
use Rattle.merc_graded_tree.specs.Nodes.{Node}
use Rattle.merc_order.specs.Bound.{among}
use Rattle.merc_grading.specs.GradingExamples.{red, green, declared, c, d, both, is_red, is_green}
use Rattle.merc_switch_choice.specs.declared.choosing.Candidates.{Candidates}
use Rattle.merc_switch_choice.specs.Choosing.{symbols_in, fellows_of, is_covered, is_open, opened_in, chosen, AreLeft, Takes}

-- `C = red, D = red` and `C = red, D = green`
abbrev pairs : List Node
pairs = both (is_red c ∷ is_red d ∷ []) ∷ both (is_red c ∷ is_green d ∷ []) ∷ []

symbols : symbols_in pairs d ≡ red ∷ green ∷ []
symbols = refl

fellows_of_first : fellows_of declared (green ∷ []) ≡ Some (red ∷ green ∷ [])
fellows_of_first = refl

fellows_of_none : fellows_of declared [] ≡ None
fellows_of_none = refl

covered : is_covered declared pairs d ≡ true
covered = refl

-- green lacks
covered_not : is_covered declared pairs c ≡ true → ⊥
covered_not wrong = cc

opened : is_open (among (c ∷ [])) [] pairs c ≡ true
opened = refl

-- one that is not bound, one by which they came together, and one that is not split in each

opened_unbound : is_open (among (d ∷ [])) [] pairs c ≡ true → ⊥
opened_unbound wrong = cc

opened_used : is_open (among (c ∷ [])) (c ∷ []) pairs c ≡ true → ⊥
opened_used wrong = cc

opened_lacking : is_open (among (d ∷ [])) [] (is_red c ∷ pairs) d ≡ true → ⊥
opened_lacking wrong = cc

opened_both : opened_in (among (c ∷ d ∷ [])) [] pairs ≡ c ∷ d ∷ c ∷ d ∷ []
opened_both = refl

-- D is covered, C is the lesser
covered_first : chosen declared (among (c ∷ d ∷ [])) [] pairs ≡ Some d
covered_first = refl

covered_first_not : chosen declared (among (c ∷ d ∷ [])) [] pairs ≡ Some c → ⊥
covered_first_not wrong = cc

chosen_used : chosen declared (among (c ∷ d ∷ [])) (d ∷ []) pairs ≡ Some c
chosen_used = refl

abbrev candidates : List ℕ → List ℕ → Candidates
candidates untried uncovered = record { untried = untried; uncovered = uncovered }

split_twice : (a b : Bool) → ((b || false) || (a || false)) ≡ (a || (b || (a || (b || false))))
split_twice true true = refl
split_twice true false = refl
split_twice false true = refl
split_twice false false = refl

only_c : (variable : ℕ) → (b : Bool) → (variable == c) ≡ b → (b || false) ≡ true → is_covered declared pairs variable ≡ false
only_c variable true same h = ap (is_covered declared pairs) ((Decides-eqb variable c).0 same)
only_c variable false same h = absurd (cc)

-- C was tried, and green lacks
left : AreLeft declared (among (c ∷ d ∷ [])) [] pairs (d ∷ []) (c ∷ [])
left = record { all_are = λ variable. split_twice (variable == c) (variable == d); uncovered_are = λ variable h. only_c variable (variable == c) refl h }

-- D was forgotten
left_not : AreLeft declared (among (c ∷ d ∷ [])) [] pairs [] (c ∷ []) → ⊥
left_not left = let wrong : false ≡ true = left.all_are d in cc

-- C was tried, and D is taken as the least of those that are left
takes_not : Takes declared pairs (candidates (d ∷ []) (c ∷ [])) (candidates (d ∷ []) []) (Some c) → ⊥
takes_not takes = let wrong : Some c ≡ Some d = takes.choice_is (among (c ∷ d ∷ [])) [] left in cc

-- no disjuncts are no switch
takes_none : Takes declared [] (candidates [] []) (candidates [] []) None
takes_none = record { choice_is = λ bound used left. refl; left_are = λ bound used variable left is. absurd (cc) }
