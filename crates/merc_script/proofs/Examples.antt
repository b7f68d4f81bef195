-- Outcomes that are joined, scripts as items, and places in them.
use Rattle.std.proofs.Common.{◌≡◌, ◌≢◌, ℕ, [], ◌∷◌, map, refl, lit≤, arith}
use Rattle.std.specs.Prelude.{replicate, Some, None, pos}
use Rattle.merc_value.specs.Value.{Int}
use Rattle.merc_value.specs.declared.word.Word.TheVariants.{Int as IntWord}
use Rattle.merc_script.specs.Cells.{value_shown}
use Rattle.merc_script.specs.declared.outcome.Outcome.{Outcome}
use Rattle.merc_script.specs.declared.outcome.Outcome.TheVariants.{Ok as Fine, Raise, Limit, Starved, NoMemory}
use Rattle.merc_script.specs.declared.items.Item.TheVariants.{Tick, Wait, Signal, Fork, End}
use Rattle.merc_script.specs.Script.{Script, Ends, TickThen, WaitThen, SignalThen, ForkThen, NoChild, Child, end_of, ends, size}
use Rattle.merc_script.specs.Joining.{joined, later, HasFewSteps}
use Rattle.merc_script.specs.Items.{items_of, script_of}
use Rattle.merc_script.specs.Counting.{count_in}
use Rattle.merc_script.specs.Places.{left_of}

-- steps are summed up, and may come to the limit
sums : joined 9 (Fine 4 ∷ Fine 5 ∷ []) ≡ Fine 9
sums = refl

no_limit_at_the_limit : joined 9 (Fine 4 ∷ Fine 5 ∷ []) ≢ Limit
no_limit_at_the_limit same = cc

-- one more passes it
passes : joined 9 (Fine 4 ∷ Fine 6 ∷ []) ≡ Limit
passes = refl

-- it is passed before a later outcome decides
passes_first : joined 9 (Fine 10 ∷ Raise 7 1 ∷ []) ≡ Limit
passes_first = refl

-- an exception has the steps before it
raises : joined 9 (Fine 4 ∷ Raise 7 5 ∷ []) ≡ Raise 7 9
raises = refl

raises_late : joined 9 (Fine 4 ∷ Raise 7 6 ∷ []) ≡ Limit
raises_late = refl

no_steps_lost : joined 9 (Fine 4 ∷ Raise 7 5 ∷ []) ≢ Raise 7 5
no_steps_lost same = cc

-- of two exceptions the left one comes, whichever was raised first
leftmost : joined 9 (Raise 7 5 ∷ Raise 8 1 ∷ []) ≡ Raise 7 5
leftmost = refl

not_the_soonest : joined 9 (Raise 7 5 ∷ Raise 8 1 ∷ []) ≢ Raise 8 1
not_the_soonest same = cc

limit_below : joined 9 (Fine 1 ∷ Limit ∷ Raise 7 1 ∷ []) ≡ Limit
limit_below = refl

starved_first : joined 9 (Starved ∷ Raise 7 1 ∷ []) ≡ Starved
starved_first = refl

starved_last : joined 9 (Raise 7 1 ∷ Starved ∷ []) ≡ Raise 7 1
starved_last = refl

-- want of memory comes before all else
lacking : joined 9 (Raise 7 5 ∷ NoMemory ∷ []) ≡ NoMemory
lacking = refl

-- whatever stands before or behind it
lacking_behind : map (λ (first : Outcome). joined 9 (first ∷ NoMemory ∷ [])) (Fine 4 ∷ Fine 10 ∷ Raise 7 5 ∷ Limit ∷ Starved ∷ NoMemory ∷ []) ≡ replicate 6 NoMemory
lacking_behind = refl

lacking_before : map (λ (last : Outcome). joined 9 (NoMemory ∷ last ∷ [])) (Fine 10 ∷ Raise 7 5 ∷ Limit ∷ Starved ∷ []) ≡ replicate 4 NoMemory
lacking_before = refl

-- the first one that is not fine decides, behind one that is
first_decides : map (λ (next : Outcome). joined 9 (Fine 4 ∷ next ∷ Raise 8 1 ∷ Starved ∷ Limit ∷ [])) (Fine 4 ∷ Raise 7 1 ∷ Limit ∷ Starved ∷ []) ≡ Raise 8 9 ∷ Raise 7 5 ∷ Limit ∷ Starved ∷ []
first_decides = refl

nobody : joined 0 [] ≡ Fine 0
nobody = refl

later_raise : later 3 (Raise 7 5) ≡ Raise 7 8
later_raise = refl

later_ok : later 3 (Fine 5) ≡ Fine 5
later_ok = refl

later_others : map (later 3) (Limit ∷ Starved ∷ NoMemory ∷ []) ≡ Limit ∷ Starved ∷ NoMemory ∷ []
later_others = refl

abbrev giver : Script
giver = TickThen (SignalThen 5 (Ends (Fine 1)))

abbrev taker : Script
taker = WaitThen 5 (TickThen (Ends (Fine 1)))

abbrev root : Script
root = TickThen (ForkThen 9 [] [] (Child giver (Child taker NoChild)) (Ends (Fine 3)))

its_end : end_of root ≡ Fine 3
its_end = refl

its_children : ends (Child giver (Child taker NoChild)) ≡ Fine 1 ∷ Fine 1 ∷ []
its_children = refl

its_size : size root ≡ 9
its_size = refl

its_items : items_of root
    ≡ Tick ∷ Fork (record { limit = 9; children = 2; cells = []; moves = [] }) ∷ Tick ∷ Signal 5 ∷ End (Fine 1) ∷ Wait 5 ∷ Tick ∷ End (Fine 1) ∷ End (Fine 3) ∷ []
its_items = refl

read_back : script_of (items_of root) ≡ root
read_back = refl

counted : count_in (items_of root) ≡ Some 1
counted = refl

-- a second end begins another script, and an item behind the last end none
two_scripts : count_in (Tick ∷ End (Fine 1) ∷ End (Fine 1) ∷ []) ≡ Some 2
two_scripts = refl

no_end : count_in (Tick ∷ []) ≡ None
no_end = refl

wait_or_signal_alone : map count_in ((Wait 5 ∷ []) ∷ (Signal 5 ∷ []) ∷ (Fork (record { limit = 9; children = 0; cells = []; moves = [] }) ∷ []) ∷ []) ≡ replicate 3 None
wait_or_signal_alone = refl

-- what follows a fork is no child of it
fork_before_two : count_in (Fork (record { limit = 9; children = 1; cells = []; moves = [] }) ∷ End (Fine 1) ∷ End (Fine 2) ∷ End (Fine 3) ∷ []) ≡ Some 2
fork_before_two = refl

child_lacks : count_in (Fork (record { limit = 9; children = 2; cells = []; moves = [] }) ∷ End (Fine 1) ∷ End (Fine 1) ∷ []) ≡ None
child_lacks = refl

-- the second child behind its wait
taker_left : left_of (record { root = root; name = (1, 2) ∷ []; passed = 1 }) ≡ Some (TickThen (Ends (Fine 1)))
taker_left = refl

-- the first child has the number 1, and none has 0
giver_left : left_of (record { root = root; name = (1, 1) ∷ []; passed = 0 }) ≡ Some giver
giver_left = refl

no_zeroth : left_of (record { root = root; name = (1, 0) ∷ []; passed = 0 }) ≡ None
no_zeroth = refl

-- a name begins at the root
abbrev above : Script
above = ForkThen 9 [] [] (Child (Ends (Fine 1)) (Child root NoChild)) (Ends (Fine 4))

taker_below : left_of (record { root = above; name = (0, 2) ∷ (1, 2) ∷ []; passed = 2 }) ≡ Some (Ends (Fine 1))
taker_below = refl

not_from_the_end : left_of (record { root = above; name = (1, 2) ∷ (0, 2) ∷ []; passed = 2 }) ≡ None
not_from_the_end = refl

root_left : left_of (record { root = root; name = []; passed = 2 }) ≡ Some (Ends (Fine 3))
root_left = refl

-- there is no third child, no fork at the first item, and nothing behind an end
no_third : left_of (record { root = root; name = (1, 3) ∷ []; passed = 0 }) ≡ None
no_third = refl

no_fork : left_of (record { root = root; name = (0, 1) ∷ []; passed = 0 }) ≡ None
no_fork = refl

behind_the_end : left_of (record { root = root; name = []; passed = 3 }) ≡ None
behind_the_end = refl

-- the value of a cell is that of its block's first root
first_root : value_shown (Some (record { cells = []; roots = IntWord (pos 7) ∷ IntWord (pos 8) ∷ [] })) ≡ Some (Int (pos 7))
first_root = refl

no_block : value_shown None ≡ None
no_block = refl

-- a thousand million steps are few, and one more is not
few_steps : HasFewSteps (Fine 1000000000)
few_steps = lit≤ tt

few_steps_raised : HasFewSteps (Raise 7 1000000000)
few_steps_raised = lit≤ tt

too_many_steps_made : HasFewSteps (Fine 1000000001) → ⊥
too_many_steps_made few = omega (arith, few)

too_many_steps : HasFewSteps (Raise 7 1000000001) → ⊥
too_many_steps few = omega (arith, few)
