-- What a few goals are planned as, and what comes of it, over the types and goals of the examples of categories.
use Rattle.std.specs.Prelude.{◌≡◌, ◌≤◌, true, false, List, [], ◌∷◌, Some, None, refl}
use Rattle.std.proofs.Common.{ap, arith}
use Rattle.merc_graded_tree.specs.declared.entries.Running.TheVariants.{Sequential, Parallel}
use Rattle.merc_graded_tree.specs.declared.basic.BasicGoal.TheVariants.{Raise, Build}
use Rattle.merc_graded_tree.specs.Nodes.{Node, Arms, Conjunction, Disjunction, Switch, Negation, nodes_of, no_arms, more_arms}
use Rattle.merc_grading.specs.Grading.{graded}
use Rattle.merc_grading.specs.GradingExamples.{declared, modes, types, red, green, c, n, of, basic, both, is_red, is_green}
use Rattle.merc_det.specs.Tasks.{arm_task, plan, inner_tells, last_has_none, Progress, after_all, TasksFit, count_after_all, AreEnough, tell_turns, turns, all_turns, Leads}
use Rattle.merc_det.specs.declared.planning.Task.{Task}
use Rattle.merc_det.specs.declared.planning.Task.TheVariants.{Grade, Beside, Withhold, Recall, Tell, Learn, Forget, Close}

abbrev start : Progress
start = record { goals = []; known = [] }

abbrev done : List Task → Progress
done tasks = after_all declared modes types tasks start

-- `C = red, C = red`

abbrev twice : Node
twice = of (Conjunction Sequential (nodes_of (is_red c ∷ is_red c ∷ [])))

plan_of_twice : plan 0 twice ≡ Close twice ∷ Grade (is_red c) ∷ Grade (is_red c) ∷ []
plan_of_twice = refl

-- what the first tells is known at the second, and behind both
twice_done : done (plan 0 twice) ≡ record { goals = graded declared modes types [] twice ∷ []; known = (c, red) ∷ (c, red) ∷ [] }
twice_done = refl

-- `( error(..), C = red ) & C = red`

abbrev red_behind_error : Node
red_behind_error = both (basic (Raise 6) ∷ basic (Build c red []) ∷ [])

abbrev beside : Node
beside = of (Conjunction (Parallel None) (nodes_of (red_behind_error ∷ is_red c ∷ [])))

plan_of_beside : plan 3 beside ≡ Recall beside ∷ Withhold 3 ∷ Close beside ∷ Beside (is_red c) ∷ Beside red_behind_error ∷ []
plan_of_beside = refl

-- the first has no solution: what it tells is known behind both, and not at the second
beside_done : done (plan 0 beside) ≡ record { goals = graded declared modes types [] beside ∷ []; known = (c, red) ∷ (c, red) ∷ [] }
beside_done = refl

between : done (Beside red_behind_error ∷ []) ≡ record { goals = graded declared modes types [] red_behind_error ∷ []; known = [] }
between = refl

kept : (done (Beside (is_red c) ∷ [])).known ≡ (c, red) ∷ []
kept = refl

withheld : (done (Withhold 0 ∷ Grade red_behind_error ∷ [])).known ≡ []
withheld = refl

withheld_not : (done (Withhold 0 ∷ Grade (is_red c) ∷ [])).known ≡ [] → ⊥
withheld_not wrong = cc

recalled : (done (Recall (is_green c) ∷ Grade red_behind_error ∷ [])).known ≡ (c, green) ∷ (c, red) ∷ []
recalled = refl

recalled_not : (done (Recall (is_green c) ∷ Grade (is_red c) ∷ [])).known ≡ (c, red) ∷ []
recalled_not = refl

told : (done (Tell red_behind_error ∷ [])).known ≡ (c, red) ∷ []
told = refl

tells : inner_tells (Conjunction (Parallel None) (nodes_of (red_behind_error ∷ is_red c ∷ []))) ≡ Tell (is_red c) ∷ Tell red_behind_error ∷ []
tells = refl

tells_nothing : inner_tells (Negation (is_red c)) ≡ []
tells_nothing = refl

no_solution : last_has_none (is_red c ∷ graded declared modes types [] red_behind_error ∷ []) ≡ true
no_solution = refl

some_solution : last_has_none (graded declared modes types [] red_behind_error ∷ is_red c ∷ []) ≡ false
some_solution = refl

-- `( C = red ; C = green )`

abbrev either : Node
either = of (Disjunction (nodes_of (is_red c ∷ is_green c ∷ [])))

plan_of_either : plan 3 either ≡ Close either ∷ Forget 3 ∷ Grade (is_green c) ∷ Forget 3 ∷ Grade (is_red c) ∷ []
plan_of_either = refl

either_done : done (plan 0 either) ≡ record { goals = graded declared modes types [] either ∷ []; known = [] }
either_done = refl

-- without forgetting, `red` would be known behind the first
not_forgotten : (done (Grade (is_red c) ∷ [])).known ≡ [] → ⊥
not_forgotten wrong = cc

-- a switch on C, whose arms split it again

abbrev arms : Arms
arms = more_arms red (is_red c) (more_arms green (is_green c) no_arms)

plan_of_switch : plan 0 (of (Switch c arms))
    ≡ Close (of (Switch c arms)) ∷ Forget 0 ∷ Grade (is_green c) ∷ Learn c green ∷ Forget 0 ∷ Grade (is_red c) ∷ Learn c red ∷ []
plan_of_switch = refl

switch_done : done (plan 0 (of (Switch c arms))) ≡ record { goals = graded declared modes types [] (of (Switch c arms)) ∷ []; known = [] }
switch_done = refl

no_symbol : arm_task 0 c None (is_red c) ≡ []
no_symbol = refl

-- tasks whose symbols fit, and tasks whose symbols do not

fit : TasksFit declared types (Grade (is_red c) ∷ Learn n red ∷ [])
fit = (refl, (tt, tt))

fit_not : TasksFit declared types (Learn c red ∷ Grade (is_red n) ∷ []) → ⊥
fit_not fit = let wrong : None ≡ Some (red ∷ green ∷ []) = fit.1.0 in cc

fit_beside : TasksFit declared types (Beside (is_red c) ∷ Recall (is_red n) ∷ [])
fit_beside = (refl, (tt, tt))

fit_beside_not : TasksFit declared types (Beside (is_red n) ∷ []) → ⊥
fit_beside_not fit = let wrong : None ≡ Some (red ∷ green ∷ []) = fit.0 in cc

-- how many goals there are

one_is_left : count_after_all (Close (of (Negation (is_red c))) ∷ Forget 0 ∷ Grade (is_red c) ∷ []) 4 ≡ 5
one_is_left = refl

enough : AreEnough (Close twice ∷ Grade (is_red c) ∷ []) 1
enough = (omega arith, (tt, tt))

too_few : AreEnough (Close twice ∷ Grade (is_red c) ∷ []) 0 → ⊥
too_few few = let wrong : 2 ≤ 1 = few.0 in absurd (omega (arith, wrong))

-- a task that looks at the last goal needs one

one_to_look_at : AreEnough (Withhold 3 ∷ Beside (is_red c) ∷ []) 0
one_to_look_at = (omega arith, (tt, tt))

none_to_look_at : AreEnough (Recall twice ∷ Tell twice ∷ []) 0 → ⊥
none_to_look_at few = let wrong : 1 ≤ 0 = few.0 in absurd (omega (arith, wrong))

-- turns: a goal alone takes its own and that of closing it

alone : turns (is_red c) ≡ 2
alone = refl

two_goals : turns twice ≡ 15
two_goals = refl

two_disjuncts : turns either ≡ 10
two_disjuncts = refl

to_tell : tell_turns beside ≡ 5
to_tell = refl

to_tell_not : tell_turns (of (Negation (is_red c))) ≡ 2 → ⊥
to_tell_not wrong = cc

of_tasks : all_turns (Forget 0 ∷ Grade (is_red c) ∷ []) ≡ 3
of_tasks = refl

of_tasks_not : all_turns (Forget 0 ∷ Grade (is_red c) ∷ []) ≡ 2 → ⊥
of_tasks_not wrong = cc

-- a goal's plan leads where the goal leads

leads : Leads declared modes types (Grade twice ∷ []) start (plan 0 twice) start
leads = record { fit = ((refl, (refl, tt)), (refl, (refl, tt))); same = refl }

leads_not : Leads declared modes types (Grade twice ∷ []) start [] start → ⊥
leads_not lead = let wrong : [] ≡ graded declared modes types [] twice ∷ [] = ap (λ at. at.goals) lead.same in cc
