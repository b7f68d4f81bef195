-- Worked examples of courses of branches.
use Rattle.std.specs.Prelude.{◌≡◌, pos, true, [], ◌∷◌, Some, None, refl}
use Rattle.merc_value.specs.Value.{Value, Int}
use Rattle.merc_graded_tree.specs.Nodes.{no_nodes}
use Rattle.merc_plan.specs.Branch.{Hold, Fork, BranchCourse, Over, Breaks, Steps, Finds, Awaits, Gives, Forks, no_branches, more_branches, Raised, Starving, after, each, taken_back, first_alone, choose, negated, closed, names, gift_at, value_given, gifts_through, does_answer, gives}

abbrev one : Value
one = Int (pos 1)

abbrev two : Value
two = Int (pos 2)

-- branches that have one variable, with this value
abbrev has : Value → Hold
has value = record { env = Some value ∷ []; waits = []; signals = []; next = 0 }

-- a step, an answer, and a second answer
abbrev answers : BranchCourse
answers = Steps (Finds (has one) (Finds (has two) Over))

abbrev fails : BranchCourse
fails = Steps Over

-- where there is no further answer another course stands behind

after-example : after answers fails ≡ Steps (Finds (has one) (Finds (has two) (Steps Over)))
after-example = refl

after-broken : after (Steps (Breaks Starving)) answers ≡ Steps (Breaks Starving)
after-broken = refl

after-not : after (Breaks Starving) fails ≡ fails → ⊥
after-not goes_on = cc

-- each answer goes on

each-example : each (λ hold. Steps (Finds hold Over)) answers ≡ Steps (Steps (Finds (has one) (Steps (Finds (has two) Over))))
each-example = refl

each-gives : each (λ hold. Gives 3 one (Finds hold Over)) (Awaits 4 (Some one) (Finds (has one) Over)) ≡ Awaits 4 (Some one) (Gives 3 one (Finds (has one) Over))
each-gives = refl

each-not : each (λ hold. fails) answers ≡ Steps Over → ⊥
each-not first_alone = cc

taken_back-example : taken_back (λ hold. has two) answers ≡ Steps (Finds (has two) (Finds (has two) Over))
taken_back-example = refl

taken_back-not : taken_back (λ hold. has two) answers ≡ Steps Over → ⊥
taken_back-not none = cc

first_alone-example : first_alone answers ≡ Steps (Finds (has one) Over)
first_alone-example = refl

first_alone-not : first_alone answers ≡ answers → ⊥
first_alone-not all = cc

-- a condition that answers goes on, and one that does not leads to the else part

choose-example : choose (λ hold. Finds hold Over) fails answers ≡ Steps (Finds (has one) (Finds (has two) Over))
choose-example = refl

choose-else : choose (λ hold. Finds hold Over) answers fails ≡ Steps (Steps (Finds (has one) (Finds (has two) Over)))
choose-else = refl

choose-not : choose (λ hold. Over) answers fails ≡ Steps Over → ⊥
choose-not no_else = cc

negated-example : negated (has two) fails ≡ Steps (Finds (has two) Over)
negated-example = refl

negated-answers : negated (has two) answers ≡ Steps Over
negated-answers = refl

negated-not : negated (has two) answers ≡ Steps (Finds (has two) Over) → ⊥
negated-not turned = cc

-- a conjunct has ended well at its first answer, and its course is over in the same way where it has none

closed-example : closed answers ≡ Steps Over
closed-example = refl

closed-broken : closed (Gives 3 one (Breaks (Raised 7))) ≡ Gives 3 one (Breaks (Raised 7))
closed-broken = refl

closed-not : closed answers ≡ answers → ⊥
closed-not goes_on = cc

-- What a course gives: up to its first answer, and of a fork through the cells that moved in. The fork's own cell is 5; the right to signal 3 moves in.

abbrev fork : Fork
fork = record {
  cells = record { cell = 5; variable = 0; producer = 1; consumer = 0 } ∷ [];
  moves = record { cell = 3; child = 1; signal = true } ∷ [];
  goals = no_nodes;
  before = has one;
}

abbrev forks : BranchCourse
forks = Forks 0 fork (more_branches (Gives 5 one (Gives 3 two (Finds (has one) Over))) no_branches) (Awaits 5 (Some one) (Gives 4 one (Finds (has one) (Gives 6 one Over))))

names-example : names fork.cells ≡ 5 ∷ []
names-example = refl

gives-example : gives forks ≡ record { cell = 3; value = Some two } ∷ record { cell = 4; value = Some one } ∷ []
gives-example = refl

gives-not : gives (Finds (has one) (Gives 6 one Over)) ≡ record { cell = 6; value = Some one } ∷ [] → ⊥
gives-not behind_an_answer = cc

-- behind a conjunct that does not answer nothing is given
abbrev halted : BranchCourse
halted = Forks 0 fork (more_branches (Gives 3 two (Breaks (Raised 7))) no_branches) (Gives 4 one (Finds (has one) Over))

gives-halted : gives halted ≡ record { cell = 3; value = Some two } ∷ []
gives-halted = refl

does_answer-example : does_answer forks ≡ true
does_answer-example = refl

does_answer-not : does_answer halted ≡ true → ⊥
does_answer-not answers = cc

gift_at-example : gift_at 4 (gives forks) ≡ Some (Some one)
gift_at-example = refl

gift_at-not : gift_at 5 (gives forks) ≡ Some (Some one) → ⊥
gift_at-not own = cc

value_given-example : value_given (gift_at 3 (gives forks)) ≡ Some two
value_given-example = refl

value_given-not : value_given (gift_at 6 (gives forks)) ≡ Some one → ⊥
value_given-not later = cc

gifts_through-example : gifts_through (4 ∷ 7 ∷ []) (gives forks) ≡ record { cell = 4; value = Some one } ∷ record { cell = 7; value = None } ∷ []
gifts_through-example = refl

gifts_through-not : gifts_through (4 ∷ []) (gives forks) ≡ [] → ⊥
gifts_through-not none = cc
