-- Worked examples of tasks, and of what is left to do for goals that join others.
use Rattle.std.specs.Prelude.{◌≡◌, ◌≤◌, ◌<◌, ℕ, false, List, [], ◌∷◌, ◌++◌, length, Some, None, refl}
use Rattle.std.proofs.Common.{◌∙◌, sym, arith}
use Rattle.std.proofs.lemmas.List.{append-nil}
use Rattle.merc_base.specs.declared.category.Category.TheVariants.{Det}
use Rattle.merc_base.specs.declared.place.Span.{Span}
use Rattle.merc_graded_tree.specs.declared.basic.BasicGoal.TheVariants.{Test, Assign, Wait}
use Rattle.merc_graded_tree.specs.declared.entries.Label.{Label}
use Rattle.merc_graded_tree.specs.declared.entries.Root.TheVariants.{Conjunction as ConjunctionRoot}
use Rattle.merc_graded_tree.specs.declared.entries.Running.TheVariants.{Sequential, Parallel}
use Rattle.merc_graded_tree.specs.Labels.{labels_of}
use Rattle.merc_graded_tree.specs.Nodes.{Node, node, Basic, Conjunction, nodes_of}
use Rattle.merc_rights.specs.declared.conjuncts.Found.{Found}
use Rattle.merc_rights.specs.declared.sites.Moved.{Moved}
use Rattle.merc_rights.specs.declared.sites.SiteInfo.{SiteInfo}
use Rattle.merc_par_split.specs.declared.tasks.Placing.{Placing}
use Rattle.merc_par_split.specs.declared.tasks.Task.{Task}
use Rattle.merc_par_split.specs.declared.tasks.Task.TheVariants.{Place, Enter, Waits, Signals, Close}
use Rattle.merc_par_split.specs.Constructs.{turn_tasks, site_tasks, FindsMoved, LeavesRunning}
use Rattle.merc_rights.specs.Groups.{numbered_with}
use Rattle.merc_rights.specs.Members.{Finds}
use Rattle.merc_rights.specs.Waits.{fresh}
use Rattle.merc_rights.specs.Rights.{Right, right_to}
use Rattle.merc_par_split.specs.Tasks.{Progress, after, after_all, HaveEnough, effort, total, AllLie, Performs, shares_of, relabelled, wraps, passing, placed_tasks}
use Rattle.merc_rights.specs.Places.{Lies}

abbrev nowhere : Span
nowhere = record { first = 0; past = 0; line = 1 }

-- a goal that uses the variables 1 and 2 and binds 1, and one that uses 2 alone and can fail
abbrev copies : Node
copies = node (Basic (Assign 1 2)) (1 ∷ []) (Some Det) nowhere

abbrev tests : Node
tests = node (Basic (Test 2 2)) [] None nowhere

abbrev wait : ℕ → ℕ → Node
wait variable conjunct = node (Basic (Wait variable conjunct)) [] (Some Det) nowhere

abbrev in_turn : List Node → Node
in_turn goals = node (Conjunction Sequential (nodes_of goals)) (1 ∷ []) (Some Det) nowhere

-- the label of such a conjunction
abbrev label : ℕ → Label
label count = record { root = ConjunctionRoot Sequential count; outputs = 1 ∷ []; category = Some Det; span = nowhere }

abbrev placing : Node → ℕ → List Right → Placing
placing goal first signals = record { goal = goal; first = first; waits = []; signals = signals }

abbrev progress : List Node → Progress
progress goals = record { goals = goals; sites = [] }

abbrev one_wait : Task
one_wait = Waits (right_to 4 2 ∷ []) nowhere

-- one task, and one after the other

after-example : after one_wait (progress (tests ∷ [])) ≡ progress (tests ∷ wait 2 4 ∷ [])
after-example = refl

after_all-example : after_all (one_wait ∷ Place (placing copies 0 []) ∷ Close (label 2) ∷ []) (progress (tests ∷ []))
    ≡ progress (tests ∷ in_turn (wait 2 4 ∷ copies ∷ []) ∷ [])
after_all-example = refl

-- what is closed joins goals that are there

HaveEnough-example : HaveEnough 1 (one_wait ∷ Close (label 2) ∷ [])
HaveEnough-example = (omega arith, tt)

HaveEnough-not : HaveEnough 1 (Close (label 2) ∷ one_wait ∷ []) → ⊥
HaveEnough-not enough = let wrong : 2 ≤ 1 = enough.0 in absurd (omega (arith, wrong))

effort-example : effort (Enter (placing (in_turn (tests ∷ copies ∷ [])) 0 [])) ≡ 40
effort-example = refl

total-example : total (Place (placing copies 0 []) ∷ one_wait ∷ []) ≡ 13
total-example = refl

-- each goal with the rights of its number

shares_of-example : shares_of 0 (tests ∷ copies ∷ []) ((0, fresh (right_to 4 2)) ∷ []) ((1, right_to 5 1) ∷ []) ((1, right_to 6 3) ∷ [])
    ≡ record { goal = tests; waits = fresh (right_to 4 2) ∷ []; signals = []; passed = [] }
    ∷ record { goal = copies; waits = []; signals = right_to 5 1 ∷ []; passed = right_to 6 3 ∷ [] } ∷ []
shares_of-example = refl

-- goals in the place of one

wraps-example : wraps 2 copies ≡ Close (label 3) ∷ []
wraps-example = refl

wraps-not : wraps 0 copies ≡ Close (label 1) ∷ [] → ⊥
wraps-not of_none = cc

passing-example : passing copies (right_to 4 2 ∷ []) ≡ one_wait ∷ Close (label 2) ∷ []
passing-example = refl

-- signals go into a goal that cannot fail, and else stand behind it

placed_tasks-example : placed_tasks (placing copies 5 (right_to 4 1 ∷ [])) ≡ Enter (placing copies 5 (right_to 4 1 ∷ [])) ∷ []
placed_tasks-example = refl

placed_tasks-fails : placed_tasks (placing tests 5 (right_to 4 1 ∷ []))
    ≡ Enter (placing tests 5 []) ∷ Signals (right_to 4 1 ∷ []) nowhere ∷ Close (relabelled tests (ConjunctionRoot Sequential 2)) ∷ []
placed_tasks-fails = refl

placed_tasks-not : placed_tasks (placing tests 5 (right_to 4 1 ∷ [])) ≡ Enter (placing tests 5 (right_to 4 1 ∷ [])) ∷ [] → ⊥
placed_tasks-not goes_into_it = cc

-- the first goal begins where the whole does, and the signal goes to the one that binds its variable

abbrev whole : Placing
whole = placing (in_turn (tests ∷ copies ∷ [])) 5 (right_to 4 1 ∷ [])

turn_tasks-example : turn_tasks whole (tests ∷ copies ∷ []) ≡ Place (placing tests 5 []) ∷ Place (placing copies 6 (right_to 4 1 ∷ [])) ∷ Close (label 2) ∷ []
turn_tasks-example = refl

site_tasks-example : site_tasks copies 2 3 0
    ≡ Close (record { root = ConjunctionRoot (Parallel (Some (record { number = 3 }))) 2; outputs = 1 ∷ []; category = Some Det; span = nowhere })
    ∷ Waits (right_to 0 1 ∷ []) nowhere ∷ Close (label 2) ∷ []
site_tasks-example = refl

-- what is found where nothing moves in, and a wait that moves in is told

FindsMoved-example : (found : Found) → Finds [] [] [] found → FindsMoved [] (placing tests 0 []) [] found
FindsMoved-example found finds = record {
  own = found;
  finds = finds;
  adds = record {
    more_cells = sym (append-nil found.cells.items);
    more_moves = sym (append-nil found.moves.items);
    more_waits = sym (append-nil found.waits.items);
    more_signals = sym (append-nil (numbered_with [] found.signals.items));
  };
}

none_but_one : (front : List Moved) (last : Moved) → [] ≡ front ++ last ∷ [] → ⊥
none_but_one [] last are = cc
none_but_one (first ∷ rest) last are = cc

FindsMoved-not : (found : Found) → found.moves.items ≡ [] → FindsMoved (copies ∷ []) (placing copies 0 []) (fresh (right_to 4 2) ∷ []) found → ⊥
FindsMoved-not found none finds = none_but_one finds.own.moves.items (record { variable = 2; child = 1; signal = false }) (sym none ∙ finds.adds.more_moves)

-- Goals one after the other have no site of their own.

LeavesRunning-example : LeavesRunning Sequential whole (tests ∷ copies ∷ []) [] []
    (one_wait ∷ []) (Place (placing tests 5 []) ∷ Place (placing copies 6 (right_to 4 1 ∷ [])) ∷ Close (label 2) ∷ one_wait ∷ [])
LeavesRunning-example = (refl, refl)

LeavesRunning-not : (tasks tasks' : List Task)
    → LeavesRunning Sequential whole (tests ∷ copies ∷ []) [] (record { children = 2; cells = []; moves = [] } ∷ []) tasks tasks' → ⊥
LeavesRunning-not tasks tasks' leaves = let wrong : ◌≡◌ {A = List SiteInfo} (record { children = 2; cells = []; moves = [] } ∷ []) [] = leaves.1 in cc

-- the goals of tasks stand where they say

AllLie-example : AllLie copies (one_wait ∷ Place (placing copies 0 []) ∷ [])
AllLie-example = (tt, (record { front = []; back = []; are = refl; count = refl }, tt))

AllLie-not : AllLie copies (one_wait ∷ Place (placing copies 1 []) ∷ []) → ⊥
AllLie-not lie = let lies : Lies (labels_of copies) 1 (labels_of copies) = lie.1.0 in not_behind lies.front lies.back lies.are lies.count
  where
    not_behind : (front back : List Label) → labels_of copies ≡ front ++ (labels_of copies ++ back) → length front ≡ 1 → ⊥
    not_behind [] back are count = cc
    not_behind (first ∷ []) back are count = cc
    not_behind (first ∷ second ∷ rest) back are count = cc

-- a goal without signals into it is entered, which is less than to place it

Performs-example : Performs copies (Place (placing copies 0 [])) [] (progress []) (Enter (placing copies 0 []) ∷ []) (progress [])
Performs-example = record { same = refl; enough = λ enough. enough; smaller = omega arith; lie = λ lie. lie }

Performs-not : Performs copies one_wait [] (progress []) (one_wait ∷ []) (progress []) → ⊥
Performs-not performs = let wrong : 1 < 1 = performs.smaller in absurd (omega (arith, wrong))
