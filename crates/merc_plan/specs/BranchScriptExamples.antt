-- Worked examples of scripts of branches: of limits, exceptions, forks that do not end well, and of numbers for cells.
use Rattle.std.specs.Prelude.{◌≡◌, ℕ, pos, true, false, [], ◌∷◌, Some, None, refl}
use Rattle.merc_value.specs.Value.{Value, Int}
use Rattle.merc_graded_tree.specs.Nodes.{no_nodes}
use Rattle.merc_meaning.specs.Trace.{Ends as RunEnds, Tick, Answer, RunDone, RunRaised, LimitPassed}
use Rattle.merc_script.specs.declared.outcome.Outcome.TheVariants.{Ok as Fine, Raise, Limit, Starved}
use Rattle.merc_script.specs.Script.{Script, Ends, TickThen, WaitThen, SignalThen, ForkThen, Children, NoChild, Child, Cell}
use Rattle.merc_plan.specs.Branch.{Hold, NamedCell, BranchCourse, Over, Breaks, Steps, Finds, Awaits, Gives, Forks, no_branches, more_branches, Raised, TooDeep}
use Rattle.merc_plan.specs.Hold.{holding}
use Rattle.merc_plan.specs.BranchScript.{those_of, signalled, going, script, with_numbers, no_numbers, width, numbered, shown_by}

abbrev one : Value
one = Int (pos 1)

abbrev nothing : Hold
nothing = holding [] 0

-- how scripts end

script-over : script true 3 2 [] Over ≡ Ends (Fine 2)
script-over = refl

script-raises : script true 3 2 [] (Breaks (Raised 7)) ≡ Ends (Raise 7 2)
script-raises = refl

script-deep : script true 3 2 [] (Breaks TooDeep) ≡ Ends Limit
script-deep = refl

-- no step more than are left
script-limit : script true 1 0 [] (Steps (Steps Over)) ≡ TickThen (Ends Limit)
script-limit = refl

script-limit_not : script true 1 0 [] (Steps (Steps Over)) ≡ TickThen (TickThen (Ends (Fine 2))) → ⊥
script-limit_not beyond = cc

-- a conjunct ends at its first answer, and the root of all goes on
script-conjunct : script false 3 0 [] (Steps (Finds nothing (Steps Over))) ≡ TickThen (Ends (Fine 1))
script-conjunct = refl

script-root : script true 3 0 [] (Steps (Finds nothing (Steps Over))) ≡ TickThen (TickThen (Ends (Fine 2)))
script-root = refl

-- a cell that no script signals starves
script-waits : script false 3 0 (4 ∷ []) (Awaits 4 (Some one) (Finds nothing Over)) ≡ WaitThen 4 (Ends (Fine 0))
script-waits = refl

script-starves : script false 3 0 [] (Awaits 4 (Some one) (Finds nothing Over)) ≡ WaitThen 4 (Ends Starved)
script-starves = refl

-- A fork of two conjuncts: the first makes a step and gives the cell 0, the second waits for it and makes a step. Behind it the branch makes a step.

abbrev cell : NamedCell
cell = record { cell = 0; variable = 1; producer = 1; consumer = 2 }

abbrev forks : BranchCourse → BranchCourse
forks first =
    Forks 0 (record { cells = cell ∷ []; moves = []; goals = no_nodes; before = nothing }) (more_branches first (more_branches (Awaits 0 (Some one) (Steps (Finds nothing Over))) no_branches)) (Steps (Finds nothing Over))

abbrev gives_one : BranchCourse
gives_one = Steps (Gives 0 one (Finds nothing Over))

abbrev valued : Cell
valued = record { cell = 0; producer = 1; consumer = 2; value = Some one }

abbrev children : Children
children = Child (TickThen (SignalThen 0 (Ends (Fine 1)))) (Child (WaitThen 0 (TickThen (Ends (Fine 1)))) NoChild)

script-forks : script true 9 0 [] (forks gives_one) ≡ ForkThen 9 (valued ∷ []) [] children (TickThen (Ends (Fine 3)))
script-forks = refl

-- the conjuncts' steps are counted behind the fork, whose limit is what was left
script-counts : script true 2 5 [] (forks gives_one) ≡ ForkThen 2 (valued ∷ []) [] children (Ends Limit)
script-counts = refl

script-counts_not : script true 2 0 [] (forks gives_one) ≡ ForkThen 2 (valued ∷ []) [] children (TickThen (Ends (Fine 3))) → ⊥
script-counts_not not_taken_off = cc

-- where the first raises an exception and gives nothing, the cell has no value, the second starves, and the fork is the last item
script-raised : script true 9 4 [] (forks (Steps (Breaks (Raised 7))))
    ≡ ForkThen 9 (record { cell = 0; producer = 1; consumer = 2; value = None } ∷ []) [] (Child (TickThen (Ends (Raise 7 1))) (Child (WaitThen 0 (Ends Starved)) NoChild)) (Ends (Raise 7 5))
script-raised = refl

going-example : going (Raise 7 2) 3 (λ steps. Ends (Fine steps)) ≡ Ends (Raise 7 5)
going-example = refl

going-fine : going (Fine 2) 3 (λ steps. Ends (Fine steps)) ≡ Ends (Fine 2)
going-fine = refl

going-not : going Limit 3 (λ steps. Ends (Fine steps)) ≡ Ends (Fine 3) → ⊥
going-not goes_on = cc

-- the cells from outside that a script signals: a fork's own are not among them, those that moved in are

those_of-example : those_of (4 ∷ 5 ∷ []) (5 ∷ 6 ∷ []) ≡ 5 ∷ []
those_of-example = refl

signalled-example : signalled (SignalThen 3 (ForkThen 9 (valued ∷ []) (record { cell = 4; child = 1; signal = true } ∷ []) (Child (SignalThen 0 (SignalThen 4 (Ends (Fine 0)))) NoChild) (Ends (Fine 0))))
    ≡ 3 ∷ 4 ∷ []
signalled-example = refl

signalled-not : signalled (ForkThen 9 (valued ∷ []) [] children (Ends (Fine 0))) ≡ 0 ∷ [] → ⊥
signalled-not own = cc

-- Numbers: the name 0 stands for one cell in the first fork and for another in the second.

abbrev fork_of : ℕ → Script → Script
fork_of number rest = ForkThen 9 (record { cell = number; producer = 1; consumer = 0; value = Some one } ∷ []) [] (Child (SignalThen number (Ends (Fine 0))) NoChild) (WaitThen number rest)

width-example : width (fork_of 0 (fork_of 0 (Ends (Fine 0)))) ≡ 2
width-example = refl

numbered-example : numbered no_numbers 0 (fork_of 0 (fork_of 0 (Ends (Fine 0)))) ≡ fork_of 0 (fork_of 1 (Ends (Fine 0)))
numbered-example = refl

numbered-not : numbered no_numbers 0 (fork_of 0 (fork_of 0 (Ends (Fine 0)))) ≡ fork_of 0 (fork_of 0 (Ends (Fine 0))) → ⊥
numbered-not same = cc

with_numbers-example : with_numbers (valued ∷ []) 6 no_numbers 0 ≡ 6
with_numbers-example = refl

with_numbers-not : with_numbers (valued ∷ []) 6 no_numbers 3 ≡ 6 → ⊥
with_numbers-not others = cc

-- what runs show

shown_by-example : shown_by 0 (Tick (Answer [] (Tick (RunEnds RunDone)))) ≡ Fine 2
shown_by-example = refl

shown_by-raised : shown_by 3 (Tick (RunEnds (RunRaised 7))) ≡ Raise 7 4
shown_by-raised = refl

shown_by-not : shown_by 0 (Tick (RunEnds LimitPassed)) ≡ Fine 1 → ⊥
shown_by-not ended = cc
