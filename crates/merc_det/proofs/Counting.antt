-- How many goals tasks leave, and how many turns they take.
use Rattle.std.specs.Prelude.{◌≡◌, ◌≤◌, ◌<◌, ◌+◌, ◌-◌, ℕ, suc, Bool, true, false, if◌then◌else◌, List, [], ◌∷◌, ◌++◌, length, take, drop, refl}
use Rattle.std.proofs.Common.{◌∙◌, ap, sym, subst, arith}
use Rattle.std.proofs.lemmas.List.{length-append, length-take-le}
use Rattle.merc_graded_tree.specs.declared.entries.Label.{Label}
use Rattle.merc_graded_tree.specs.declared.entries.Running.{Running}
use Rattle.merc_graded_tree.specs.declared.entries.Running.TheVariants.{Sequential, Parallel}
use Rattle.merc_graded_tree.specs.Nodes.{Node, node, Goal, Basic, Conjunction, Disjunction, Switch, Conditional, Negation, Quantified, Nodes, no_nodes, more_nodes, Arms, no_arms, more_arms, goal_of, list_of}
use Rattle.merc_graded_tree.specs.Roots.{bodies_of, goals_in, arity_of, root_of, labelled, last_joined}
use Rattle.merc_graded_tree.specs.RootLaws.{arity_is}
use Rattle.merc_det.specs.Tasks.{conjunct_task, tasks_in_turn, tell_tasks, inner_tells, choice_tasks, arm_tasks, recall_tasks, inner_tasks, plan, count_after, count_after_all, IsEnough, AreEnough, turns, goal_turns, tell_turns, goal_tell_turns, all_tell_turns, joined_turns, arm_turns, task_turns, all_turns}
use Rattle.merc_det.specs.declared.planning.Task.{Task}
use Rattle.merc_det.specs.declared.planning.Task.TheVariants.{Grade, Beside, Withhold, Recall, Tell, Learn, Forget, Close}

-- goals that are left

count-append : (front back : List Task) (count : ℕ) → count_after_all (front ++ back) count ≡ count_after_all front (count_after_all back count)
count-append [] back count = refl
count-append (first ∷ rest) back count = ap (count_after first) (count-append rest back count)

enough-both : (front back : List Task) (count : ℕ) → AreEnough front (count_after_all back count) → AreEnough back count → AreEnough (front ++ back) count
enough-both [] back count f b = b
enough-both (first ∷ rest) back count (one, others) b =
    (subst (IsEnough first) (sym (count-append rest back count)) one, enough-both rest back count others b)

pub record Both (front back : List Task) (count : ℕ) : Type 0 where
  pub front_is : AreEnough front (count_after_all back count)
  pub back_is : AreEnough back count

enough-parts : (front back : List Task) (count : ℕ) → AreEnough (front ++ back) count → Both front back count
enough-parts [] back count enough = record { front_is = tt; back_is = enough }
enough-parts (first ∷ rest) back count (one, others) =
    let inner = enough-parts rest back count others in
    record { front_is = (subst (IsEnough first) (count-append rest back count) one, inner.front_is); back_is = inner.back_is }

conjunct_count : (running : Running) (goal : Node) (count : ℕ) → count_after (conjunct_task running goal) count ≡ suc count
conjunct_count Sequential goal count = refl
conjunct_count (Parallel site) goal count = refl

in_turn_count : (running : Running) (goals : Nodes) (count : ℕ) → count_after_all (tasks_in_turn running goals) count ≡ length (list_of goals) + count
in_turn_count running no_nodes count = omega arith
in_turn_count running (more_nodes first rest) count =
    let h = in_turn_count running rest (count_after (conjunct_task running first) count) in
    count-append (tasks_in_turn running rest) (conjunct_task running first ∷ []) count ∙ omega (arith, h, conjunct_count running first count)

choices_count : (known : ℕ) (goals : Nodes) (count : ℕ) → count_after_all (choice_tasks known goals) count ≡ length (list_of goals) + count
choices_count known no_nodes count = omega arith
choices_count known (more_nodes first rest) count =
    let h = choices_count known rest (suc count) in
    count-append (choice_tasks known rest) (Forget known ∷ Grade first ∷ []) count ∙ omega (arith, h)

arms_count : (known variable : ℕ) (arms : Arms) (count : ℕ) → count_after_all (arm_tasks known variable arms) count ≡ length (bodies_of arms) + count
arms_count known variable no_arms count = omega arith
arms_count known variable (more_arms symbol body rest) count =
    let h = arms_count known variable rest (suc count) in
    count-append (arm_tasks known variable rest) (Forget known ∷ Grade body ∷ Learn variable symbol ∷ []) count ∙ omega (arith, h)

inner_count : (known : ℕ) (goal : Goal) (count : ℕ) → count_after_all (inner_tasks known goal) count ≡ length (goals_in goal) + count
inner_count known (Basic goal) count = omega arith
inner_count known (Conjunction running goals) count = in_turn_count running goals count
inner_count known (Disjunction goals) count = choices_count known goals count
inner_count known (Switch variable arms) count = arms_count known variable arms count
inner_count known (Conditional condition then_part else_part) count = omega arith
inner_count known (Negation goal) count = omega arith
inner_count known (Quantified own goal) count = omega arith

conjunct_enough : (running : Running) (goal : Node) (count : ℕ) → IsEnough (conjunct_task running goal) count
conjunct_enough Sequential goal count = tt
conjunct_enough (Parallel site) goal count = tt

in_turn_enough : (running : Running) (goals : Nodes) (count : ℕ) → AreEnough (tasks_in_turn running goals) count
in_turn_enough running no_nodes count = tt
in_turn_enough running (more_nodes first rest) count =
    enough-both (tasks_in_turn running rest) (conjunct_task running first ∷ []) count
    (in_turn_enough running rest (count_after (conjunct_task running first) count)) (conjunct_enough running first count, tt)

choices_enough : (known : ℕ) (goals : Nodes) (count : ℕ) → AreEnough (choice_tasks known goals) count
choices_enough known no_nodes count = tt
choices_enough known (more_nodes first rest) count =
    enough-both (choice_tasks known rest) (Forget known ∷ Grade first ∷ []) count (choices_enough known rest (suc count)) (tt, (tt, tt))

arms_enough : (known variable : ℕ) (arms : Arms) (count : ℕ) → AreEnough (arm_tasks known variable arms) count
arms_enough known variable no_arms count = tt
arms_enough known variable (more_arms symbol body rest) count =
    enough-both (arm_tasks known variable rest) (Forget known ∷ Grade body ∷ Learn variable symbol ∷ []) count (arms_enough known variable rest (suc count)) (tt, (tt, (tt, tt)))

inner_enough : (known : ℕ) (goal : Goal) (count : ℕ) → AreEnough (inner_tasks known goal) count
inner_enough known (Basic goal) count = tt
inner_enough known (Conjunction running goals) count = in_turn_enough running goals count
inner_enough known (Disjunction goals) count = choices_enough known goals count
inner_enough known (Switch variable arms) count = arms_enough known variable arms count
inner_enough known (Conditional condition then_part else_part) count = (tt, (tt, (tt, (tt, (tt, tt)))))
inner_enough known (Negation goal) count = (tt, (tt, tt))
inner_enough known (Quantified own goal) count = (tt, tt)

plan_close : (known : ℕ) (whole : Node) (count : ℕ) → IsEnough (Close whole) (count_after_all (inner_tasks known (goal_of whole)) count)
plan_close known whole count = omega (arith, inner_count known (goal_of whole) count, arity_is (goal_of whole))

recall_count : (known : ℕ) (whole : Node) (goal : Goal) (count : ℕ) → count_after_all (recall_tasks known whole goal) count ≡ count
recall_count known whole (Basic goal) count = refl
recall_count known whole (Conjunction Sequential goals) count = refl
recall_count known whole (Conjunction (Parallel site) goals) count = refl
recall_count known whole (Disjunction goals) count = refl
recall_count known whole (Switch variable arms) count = refl
recall_count known whole (Conditional condition then_part else_part) count = refl
recall_count known whole (Negation goal) count = refl
recall_count known whole (Quantified own goal) count = refl

recall_enough : (known : ℕ) (whole : Node) (goal : Goal) (count : ℕ) → 1 ≤ count → AreEnough (recall_tasks known whole goal) count
recall_enough known whole (Basic goal) count h = tt
recall_enough known whole (Conjunction Sequential goals) count h = tt
recall_enough known whole (Conjunction (Parallel site) goals) count h = (h, (h, tt))
recall_enough known whole (Disjunction goals) count h = tt
recall_enough known whole (Switch variable arms) count h = tt
recall_enough known whole (Conditional condition then_part else_part) count h = tt
recall_enough known whole (Negation goal) count h = tt
recall_enough known whole (Quantified own goal) count h = tt

plan_count : (known : ℕ) (whole : Node) (count : ℕ) → count_after_all (plan known whole) count ≡ suc count
plan_count known whole count =
    let goal = goal_of whole in
    let last = Close whole ∷ inner_tasks known goal in
    count-append (recall_tasks known whole goal) last count ∙ recall_count known whole goal (count_after_all last count)
    ∙ omega (arith, inner_count known goal count, arity_is goal)

plan_is_enough : (known : ℕ) (whole : Node) (count : ℕ) → AreEnough (plan known whole) count
plan_is_enough known whole count =
    let goal = goal_of whole in
    let last = Close whole ∷ inner_tasks known goal in
    enough-both (recall_tasks known whole goal) last count (recall_enough known whole goal (count_after_all last count) (omega arith))
    (plan_close known whole count, inner_enough known goal count)

-- tasks in place of the last one
pub replaced_enough : (tasks new later : List Task) (task : Task) (count : ℕ) → new ≡ tasks ++ later → count_after_all later count ≡ count_after task count → AreEnough later count
    → AreEnough (tasks ++ task ∷ []) count → AreEnough new count
replaced_enough tasks new later task count e same inner enough =
    let front = (enough-parts tasks (task ∷ []) count enough).front_is in
    subst (λ l. AreEnough l count) (sym e) (enough-both tasks later count (subst (AreEnough tasks) (sym same) front) inner)

-- what is left of tasks once the last is done
pub rest_enough : (tasks : List Task) (task : Task) (count now : ℕ) → now ≡ count_after task count → AreEnough (tasks ++ task ∷ []) count → AreEnough tasks now
rest_enough tasks task count now e enough = subst (AreEnough tasks) (sym e) (enough-parts tasks (task ∷ []) count enough).front_is

pub last_enough : (tasks : List Task) (task : Task) (count : ℕ) → AreEnough (tasks ++ task ∷ []) count → IsEnough task count
last_enough tasks task count enough = (enough-parts tasks (task ∷ []) count enough).back_is.0

pub length-last_joined : (label : Label) (goals now : List Node) → arity_of label.root ≤ length goals → now ≡ last_joined label goals
    → suc (length goals - arity_of label.root) ≡ length now
length-last_joined label goals now h e =
    let before = length goals - arity_of label.root in
    let short : before ≤ length goals = omega arith in
    omega (arith, ap length e, length-append (take before goals) (labelled label (drop before goals) ∷ []), length-take-le before goals short)

-- turns

turns-append : (front back : List Task) → all_turns (front ++ back) ≡ all_turns front + all_turns back
turns-append [] back = omega arith
turns-append (first ∷ rest) back = let h = turns-append rest back in omega (arith, h)

conjunct_turns : (running : Running) (goal : Node) → task_turns (conjunct_task running goal) ≤ suc (suc (turns goal))
conjunct_turns Sequential goal = omega arith
conjunct_turns (Parallel site) goal = omega arith

in_turn_turns : (running : Running) (goals : Nodes) → all_turns (tasks_in_turn running goals) ≤ joined_turns goals
in_turn_turns running no_nodes = omega arith
in_turn_turns running (more_nodes first rest) =
    let h = in_turn_turns running rest in
    omega (arith, h, conjunct_turns running first, turns-append (tasks_in_turn running rest) (conjunct_task running first ∷ []))

tell_all_turns : (goals : Nodes) → all_turns (tell_tasks goals) ≤ all_tell_turns goals
tell_all_turns no_nodes = omega arith
tell_all_turns (more_nodes first rest) =
    let h = tell_all_turns rest in omega (arith, h, turns-append (tell_tasks rest) (Tell first ∷ []))

inner_tell_turns : (goal : Goal) → all_turns (inner_tells goal) ≤ goal_tell_turns goal
inner_tell_turns (Basic goal) = omega arith
inner_tell_turns (Conjunction running goals) = tell_all_turns goals
inner_tell_turns (Disjunction goals) = omega arith
inner_tell_turns (Switch variable arms) = omega arith
inner_tell_turns (Conditional condition then_part else_part) = omega arith
inner_tell_turns (Negation goal) = omega arith
inner_tell_turns (Quantified own goal) = omega arith

tell_fewer_turns : (whole : Node) → all_turns (inner_tells (goal_of whole)) < tell_turns whole
tell_fewer_turns (node goal outputs category span) = let h = inner_tell_turns goal in omega (arith, h)

choices_turns : (known : ℕ) (goals : Nodes) → all_turns (choice_tasks known goals) ≤ joined_turns goals
choices_turns known no_nodes = omega arith
choices_turns known (more_nodes first rest) =
    let h = choices_turns known rest in omega (arith, h, turns-append (choice_tasks known rest) (Forget known ∷ Grade first ∷ []))

arms_turns : (known variable : ℕ) (arms : Arms) → all_turns (arm_tasks known variable arms) ≤ arm_turns arms
arms_turns known variable no_arms = omega arith
arms_turns known variable (more_arms symbol body rest) =
    let h = arms_turns known variable rest in
    omega (arith, h, turns-append (arm_tasks known variable rest) (Forget known ∷ Grade body ∷ Learn variable symbol ∷ []))

-- with those of the tasks behind the goal
inner_turns : (known : ℕ) (whole : Node) (goal : Goal) → tell_turns whole ≡ suc (goal_tell_turns goal) → all_turns (recall_tasks known whole goal) + all_turns (inner_tasks known goal) ≤ goal_turns goal
inner_turns known whole (Basic goal) e = omega arith
inner_turns known whole (Conjunction Sequential goals) e = let h = in_turn_turns Sequential goals in omega (arith, h)
inner_turns known whole (Conjunction (Parallel site) goals) e = let h = in_turn_turns (Parallel site) goals in omega (arith, h, e)
inner_turns known whole (Disjunction goals) e = let h = choices_turns known goals in omega (arith, h)
inner_turns known whole (Switch variable arms) e = let h = arms_turns known variable arms in omega (arith, h)
inner_turns known whole (Conditional condition then_part else_part) e = omega arith
inner_turns known whole (Negation goal) e = omega arith
inner_turns known whole (Quantified own goal) e = omega arith

plan_turns : (known : ℕ) (whole : Node) → all_turns (plan known whole) < turns whole
plan_turns known (node goal outputs category span) =
    let whole = node goal outputs category span in
    let h = inner_turns known whole goal refl in
    let all : all_turns (plan known whole) ≡ all_turns (recall_tasks known whole goal) + all_turns (Close whole ∷ inner_tasks known goal) =
    turns-append (recall_tasks known whole goal) (Close whole ∷ inner_tasks known goal) in
    omega (arith, h, all)

pub replaced_fewer : (tasks new later : List Task) (task : Task) → new ≡ tasks ++ later → all_turns later < task_turns task → all_turns new < all_turns (tasks ++ task ∷ [])
replaced_fewer tasks new later task e h = omega (arith, h, ap all_turns e, turns-append tasks later, turns-append tasks (task ∷ []))

pub plan_fewer : (tasks new : List Task) (known : ℕ) (whole : Node) → new ≡ tasks ++ plan known whole → all_turns new < all_turns (tasks ++ Grade whole ∷ [])
plan_fewer tasks new known whole e = replaced_fewer tasks new (plan known whole) (Grade whole) e (plan_turns known whole)

some_turn : (task : Task) → 1 ≤ task_turns task
some_turn (Grade (node goal outputs category span)) = omega arith
some_turn (Beside goal) = omega arith
some_turn (Withhold known) = omega arith
some_turn (Recall goal) = omega arith
some_turn (Tell (node goal outputs category span)) = omega arith
some_turn (Learn variable symbol) = omega arith
some_turn (Forget known) = omega arith
some_turn (Close whole) = omega arith

pub rest_fewer : (tasks : List Task) (task : Task) → all_turns tasks < all_turns (tasks ++ task ∷ [])
rest_fewer tasks task = let h = some_turn task in omega (arith, h, turns-append tasks (task ∷ []))

-- the same of each task by its kind

pub plan_enough : (tasks new : List Task) (known : ℕ) (whole : Node) (count : ℕ) → new ≡ tasks ++ plan known whole → AreEnough (tasks ++ Grade whole ∷ []) count → AreEnough new count
plan_enough tasks new known whole count e =
    replaced_enough tasks new (plan known whole) (Grade whole) count e (plan_count known whole count) (plan_is_enough known whole count)

pub grade_enough : (tasks new : List Task) (task : Task) (known : ℕ) (whole : Node) (count : ℕ) → task ≡ Grade whole → new ≡ tasks ++ plan known whole
    → AreEnough (tasks ++ task ∷ []) count → AreEnough new count
grade_enough tasks new task known whole count is e enough =
    plan_enough tasks new known whole count e (subst (λ t. AreEnough (tasks ++ t ∷ []) count) is enough)

pub grade_fewer : (tasks new : List Task) (task : Task) (known : ℕ) (whole : Node) → task ≡ Grade whole → new ≡ tasks ++ plan known whole
    → all_turns new < all_turns (tasks ++ task ∷ [])
grade_fewer tasks new task known whole is e = subst (λ t. all_turns new < all_turns (tasks ++ t ∷ [])) (sym is) (plan_fewer tasks new known whole e)

pub done_enough : (tasks : List Task) (task one : Task) (count now : ℕ) → task ≡ one → count_after one count ≡ now → AreEnough (tasks ++ task ∷ []) count → AreEnough tasks now
done_enough tasks task one count now is e enough =
    rest_enough tasks one count now (sym e) (subst (λ t. AreEnough (tasks ++ t ∷ []) count) is enough)

pub close_enough : (tasks : List Task) (task : Task) (whole : Node) (count : ℕ) → task ≡ Close whole → AreEnough (tasks ++ task ∷ []) count
    → arity_of (root_of (goal_of whole)) ≤ count
close_enough tasks task whole count is enough = last_enough tasks (Close whole) count (subst (λ t. AreEnough (tasks ++ t ∷ []) count) is enough)

pub beside_enough : (tasks new : List Task) (task : Task) (known : ℕ) (whole : Node) (count : ℕ) → task ≡ Beside whole → new ≡ tasks ++ Withhold known ∷ Grade whole ∷ []
    → AreEnough (tasks ++ task ∷ []) count → AreEnough new count
beside_enough tasks new task known whole count is e enough =
    replaced_enough tasks new (Withhold known ∷ Grade whole ∷ []) (Beside whole) count e refl (omega arith, (tt, tt)) (subst (λ t. AreEnough (tasks ++ t ∷ []) count) is enough)

pub beside_fewer : (tasks new : List Task) (task : Task) (known : ℕ) (whole : Node) → task ≡ Beside whole → new ≡ tasks ++ Withhold known ∷ Grade whole ∷ []
    → all_turns new < all_turns (tasks ++ task ∷ [])
beside_fewer tasks new task known whole is e =
    subst (λ t. all_turns new < all_turns (tasks ++ t ∷ [])) (sym is) (replaced_fewer tasks new (Withhold known ∷ Grade whole ∷ []) (Beside whole) e (omega arith))

-- a task that looks at the last goal
pub some_enough : (tasks : List Task) (task one : Task) (count : ℕ) → task ≡ one → IsEnough one count ≡ (1 ≤ count) → AreEnough (tasks ++ task ∷ []) count → 1 ≤ count
some_enough tasks task one count is look enough = subst (λ p. p) look (last_enough tasks one count (subst (λ t. AreEnough (tasks ++ t ∷ []) count) is enough))

recalled_enough : (b : Bool) (whole : Node) (count : ℕ) → AreEnough (if b then Tell whole ∷ [] else []) count
recalled_enough true whole count = (tt, tt)
recalled_enough false whole count = tt

recalled_count : (b : Bool) (whole : Node) (count : ℕ) → count_after_all (if b then Tell whole ∷ [] else []) count ≡ count
recalled_count true whole count = refl
recalled_count false whole count = refl

recalled_turns : (b : Bool) (whole : Node) → all_turns (if b then Tell whole ∷ [] else []) < task_turns (Recall whole)
recalled_turns true whole = omega arith
recalled_turns false whole = omega arith

pub recall_enough_left : (b : Bool) (tasks new : List Task) (task : Task) (whole : Node) (count : ℕ) → task ≡ Recall whole → new ≡ tasks ++ (if b then Tell whole ∷ [] else [])
    → AreEnough (tasks ++ task ∷ []) count → AreEnough new count
recall_enough_left b tasks new task whole count is e enough =
    replaced_enough tasks new (if b then Tell whole ∷ [] else []) (Recall whole) count e (recalled_count b whole count) (recalled_enough b whole count)
    (subst (λ t. AreEnough (tasks ++ t ∷ []) count) is enough)

pub recall_fewer : (b : Bool) (tasks new : List Task) (task : Task) (whole : Node) → task ≡ Recall whole → new ≡ tasks ++ (if b then Tell whole ∷ [] else [])
    → all_turns new < all_turns (tasks ++ task ∷ [])
recall_fewer b tasks new task whole is e =
    subst (λ t. all_turns new < all_turns (tasks ++ t ∷ [])) (sym is) (replaced_fewer tasks new (if b then Tell whole ∷ [] else []) (Recall whole) e (recalled_turns b whole))

-- goals that tell

tell_count : (goals : Nodes) (count : ℕ) → count_after_all (tell_tasks goals) count ≡ count
tell_count no_nodes count = refl
tell_count (more_nodes first rest) count = count-append (tell_tasks rest) (Tell first ∷ []) count ∙ tell_count rest count

tell_enough : (goals : Nodes) (count : ℕ) → AreEnough (tell_tasks goals) count
tell_enough no_nodes count = tt
tell_enough (more_nodes first rest) count = enough-both (tell_tasks rest) (Tell first ∷ []) count (tell_enough rest count) (tt, tt)

inner_tell_count : (goal : Goal) (count : ℕ) → count_after_all (inner_tells goal) count ≡ count
inner_tell_count (Basic goal) count = refl
inner_tell_count (Conjunction running goals) count = tell_count goals count
inner_tell_count (Disjunction goals) count = refl
inner_tell_count (Switch variable arms) count = refl
inner_tell_count (Conditional condition then_part else_part) count = refl
inner_tell_count (Negation goal) count = refl
inner_tell_count (Quantified own goal) count = refl

inner_tell_enough : (goal : Goal) (count : ℕ) → AreEnough (inner_tells goal) count
inner_tell_enough (Basic goal) count = tt
inner_tell_enough (Conjunction running goals) count = tell_enough goals count
inner_tell_enough (Disjunction goals) count = tt
inner_tell_enough (Switch variable arms) count = tt
inner_tell_enough (Conditional condition then_part else_part) count = tt
inner_tell_enough (Negation goal) count = tt
inner_tell_enough (Quantified own goal) count = (tt, tt)

pub tells_enough : (tasks new : List Task) (task : Task) (whole : Node) (count : ℕ) → task ≡ Tell whole → new ≡ tasks ++ inner_tells (goal_of whole)
    → AreEnough (tasks ++ task ∷ []) count → AreEnough new count
tells_enough tasks new task whole count is e enough =
    replaced_enough tasks new (inner_tells (goal_of whole)) (Tell whole) count e (inner_tell_count (goal_of whole) count) (inner_tell_enough (goal_of whole) count)
    (subst (λ t. AreEnough (tasks ++ t ∷ []) count) is enough)

pub tells_fewer : (tasks new : List Task) (task : Task) (whole : Node) → task ≡ Tell whole → new ≡ tasks ++ inner_tells (goal_of whole)
    → all_turns new < all_turns (tasks ++ task ∷ [])
tells_fewer tasks new task whole is e =
    subst (λ t. all_turns new < all_turns (tasks ++ t ∷ [])) (sym is) (replaced_fewer tasks new (inner_tells (goal_of whole)) (Tell whole) e (tell_fewer_turns whole))
