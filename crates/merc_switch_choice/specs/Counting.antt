-- How many disjuncts have something, such as a split of a variable at their beginnings.
use Rattle.std.specs.Prelude.{◌≡◌, ℕ, Bool, true, false, nat_eq, ◌+◌, ◌==◌, List, [], ◌∷◌, Option, Some, None}
use Rattle.indexmap.specs.IndexMap.{get}
use Rattle.merc_graded_tree.specs.Nodes.{Node}
use Rattle.merc_grading.specs.Switches.{symbol_at, is_there}
use Rattle.merc_switch_choice.specs.declared.counts.VarCounts.{VarCounts}

abbrev pub one_if : Bool → ℕ
one_if true = 1
one_if false = 0

-- how often a variable stands among these
abbrev pub occurrences : List ℕ → ℕ → ℕ
occurrences [] variable = 0
occurrences (first ∷ rest) variable = one_if (variable == first) + occurrences rest variable

-- how many of the disjuncts pass a test
abbrev pub counting : (Node → Bool) → List Node → ℕ
counting test [] = 0
counting test (first ∷ rest) = one_if (test first) + counting test rest

-- the same of several lists of disjuncts together
abbrev pub all_counting : (Node → Bool) → List (List Node) → ℕ
all_counting test [] = 0
all_counting test (first ∷ rest) = counting test first + all_counting test rest

abbrev pub splits : ℕ → Node → Bool
splits variable disjunct = is_there (symbol_at variable disjunct)

-- how many of the disjuncts split a variable
abbrev pub splitting : List Node → ℕ → ℕ
splitting disjuncts variable = counting (splits variable) disjuncts

-- the same of several lists of disjuncts together
abbrev pub all_splitting : List (List Node) → ℕ → ℕ
all_splitting groups variable = all_counting (splits variable) groups

abbrev pub number_of : Option ℕ → ℕ
number_of None = 0
number_of (Some number) = number

-- the count that is kept of a variable
abbrev pub count_of : VarCounts → ℕ → ℕ
count_of counts variable = number_of (get nat_eq counts.by_number variable)

-- the counts are how many of the disjuncts split each variable
abbrev pub Counts : VarCounts → List Node → Type 0
Counts counts disjuncts = (variable : ℕ) → count_of counts variable ≡ splitting disjuncts variable
