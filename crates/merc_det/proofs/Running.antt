-- The tasks that a goal is planned as lead to what the goal leads to.
use Rattle.std.specs.Prelude.{◌≡◌, ◌-◌, ℕ, suc, Bool, true, false, List, [], ◌∷◌, ◌++◌, length, drop, Some, refl, if◌then◌else◌}
use Rattle.std.proofs.Common.{◌∙◌, ap, sym, subst, arith}
use Rattle.std.proofs.Math.Nat.{add-sub_cancel}
use Rattle.std.proofs.Math.Seq.{drop-append_seam}
use Rattle.std.proofs.lemmas.List.{append_assoc, append-nil, length-append}
use Rattle.merc_base.specs.Category.{can_fail_of, most_of}
use Rattle.merc_base.specs.declared.category.Category.{Category}
use Rattle.merc_base.specs.declared.category.Most.{Most}
use Rattle.merc_base.specs.declared.category.Most.TheVariants.{Zero, One, Many}
use Rattle.merc_tree.specs.Types.{TypeExpr}
use Rattle.merc_tree.specs.declared.declarations.ModeDecl.{ModeDecl}
use Rattle.merc_tree.specs.declared.declarations.TypeDef.{TypeDef}
use Rattle.merc_graded_tree.specs.declared.entries.Root.TheVariants.{Conjunction as ConjunctionRoot, Disjunction as DisjunctionRoot, Switch as SwitchRoot}
use Rattle.merc_graded_tree.specs.declared.entries.Running.{Running}
use Rattle.merc_graded_tree.specs.declared.entries.Running.TheVariants.{Sequential, Parallel}
use Rattle.merc_graded_tree.specs.Nodes.{Node, node, Goal, Basic, Conjunction, Disjunction, Switch, Conditional, Negation, Quantified, Nodes, no_nodes, more_nodes, Arms, no_arms, more_arms, list_of, goal_of}
use Rattle.merc_graded_tree.specs.Roots.{symbols_of, bodies_of, root_of, goals_in, label_of, arity_of, joining, last_joined}
use Rattle.merc_graded_tree.specs.RootLaws.{arity_is, joining_is, last_joined_is}
use Rattle.merc_grading.specs.Categories.{category, is_zero, both_most, then_category, conjunction_category}
use Rattle.merc_grading.specs.Grading as grading
use Rattle.merc_grading.specs.Grading.{capped, categories, category_at, handed_on}
use Rattle.merc_grading.specs.Known.{Known, known_behind, known_behind_all, known_behind_goal}
use Rattle.merc_det.specs.Closing.{category_of, closed, known_behind_root, with_category}
use Rattle.merc_det.specs.Folding.{category_in}
use Rattle.merc_det.specs.Seen.{back_to}
use Rattle.merc_det.specs.Tasks.{conjunct_task, tasks_in_turn, tell_tasks, inner_tells, last_has_none, choice_tasks, arm_tasks, recall_tasks, inner_tasks, plan, Progress, after, after_all}
use Rattle.merc_det.specs.declared.planning.Task.{Task}
use Rattle.merc_det.specs.declared.planning.Task.TheVariants.{Grade, Beside, Withhold, Tell, Learn, Forget, Close}
use Rattle.merc_det.proofs.Extending.{Extends, behind, chain, forgotten, one_more, same}
use Rattle.merc_det.proofs.SeenLaws.{slice_get-last}

-- maxima of 0

most_is : (b : Bool) (m : Most) → most_of (category b m) ≡ m
most_is false Zero = refl
most_is true Zero = refl
most_is false One = refl
most_is true One = refl
most_is false Many = refl
most_is true Many = refl

pub record Neither (one other : Most) : Type 0 where
  pub first : is_zero one ≡ false
  pub second : is_zero other ≡ false

neither_most : (one other : Most) → is_zero (both_most one other) ≡ false → Neither one other
neither_most Zero other h = cc h
neither_most One Zero h = cc h
neither_most One One h = record { first = refl; second = refl }
neither_most One Many h = record { first = refl; second = refl }
neither_most Many Zero h = cc h
neither_most Many One h = record { first = refl; second = refl }
neither_most Many Many h = record { first = refl; second = refl }

neither : (one other : Category) → is_zero (most_of (then_category one other)) ≡ false → Neither (most_of one) (most_of other)
neither one other h =
    neither_most (most_of one) (most_of other)
    (ap is_zero (sym (most_is _ (both_most (most_of one) (most_of other)))) ∙ h)

once_zero : (b : Bool) → is_zero (if b then Zero else One) ≡ b
once_zero true = refl
once_zero false = refl

capped_zero : (outputs : List ℕ) (inner : Category) → is_zero (most_of (capped outputs inner)) ≡ is_zero (most_of inner)
capped_zero [] inner = ap is_zero (most_is (can_fail_of inner) _) ∙ once_zero (is_zero (most_of inner))
capped_zero (output ∷ outputs) inner = refl

pub last_is : (goals : List Node) (last : Node) → last_has_none (goals ++ last ∷ []) ≡ is_zero (most_of (category_at last))
last_is goals last =
    let index : length (goals ++ last ∷ []) - 1 ≡ length goals = omega (arith, length-append goals (last ∷ [])) in
    ap (λ found. is_zero (most_of (category_in found))) (slice_get-last goals last (length (goals ++ last ∷ []) - 1) index)

abbrev reached : List Node → Known → Progress
reached goals known = record { goals = goals; known = known }

module _ (declared : List TypeDef) (modes : ℕ → List ModeDecl) (types : ℕ → TypeExpr) where
  abbrev grade : Known → Node → Node
  grade = grading.graded declared modes types

  abbrev grade_goal : Known → Goal → Goal
  grade_goal = grading.graded_goal declared modes types

  abbrev grade_all : Running → Known → Nodes → Nodes
  grade_all = grading.graded_all declared modes types

  abbrev grade_each : Known → Nodes → Nodes
  grade_each = grading.graded_each declared modes types

  abbrev grade_arms : Known → ℕ → Arms → Arms
  grade_arms = grading.graded_arms declared modes types

  abbrev run : List Task → Progress → Progress
  run = after_all declared modes types

  pub run-append : (front back : List Task) (at : Progress) → run (front ++ back) at ≡ run front (run back at)
  run-append [] back at = refl
  run-append (first ∷ rest) back at = ap (after declared modes types first) (run-append rest back at)

  -- what is known at the goal of a conjunction behind this one
  abbrev next : Running → Known → Node → Known
  next running known first = handed_on running (category_at (grade known first)) (known_behind first known) known

  -- what is known when all goals of a conjunction have their categories
  abbrev conjuncts_known : Running → Nodes → Known → Known
  conjuncts_known running no_nodes known = known
  conjuncts_known running (more_nodes first rest) known = conjuncts_known running rest (next running known first)

  conjunct_run : (running : Running) (goal : Node) (at : Progress)
      → after declared modes types (conjunct_task running goal) at ≡ reached (at.goals ++ grade at.known goal ∷ []) (next running at.known goal)
  conjunct_run Sequential goal at = refl
  conjunct_run (Parallel site) goal at = refl

  in_turn_run : (running : Running) (goals : Nodes) (at : Progress)
      → run (tasks_in_turn running goals) at ≡ reached (at.goals ++ list_of (grade_all running at.known goals)) (conjuncts_known running goals at.known)
  in_turn_run running no_nodes at = ap (λ l. reached l at.known) (sym (append-nil at.goals))
  in_turn_run running (more_nodes first rest) at =
      let one = grade at.known first in
      let behind = next running at.known first in
      run-append (tasks_in_turn running rest) (conjunct_task running first ∷ []) at
      ∙ ap (run (tasks_in_turn running rest)) (conjunct_run running first at)
      ∙ in_turn_run running rest (reached (at.goals ++ one ∷ []) behind)
      ∙ ap (λ l. reached l (conjuncts_known running rest behind)) (append_assoc at.goals (one ∷ []) (list_of (grade_all running behind rest)))

  -- a goal that keeps to itself what it tells
  apart_run : (whole : Node) (known : Known) (goals : List Node)
      → run (Forget (length known) ∷ Grade whole ∷ []) (reached goals known) ≡ reached (goals ++ grade known whole ∷ []) known
  apart_run whole known goals = ap (λ k. reached (goals ++ grade known whole ∷ []) k) (forgotten known (known_behind whole known) (behind whole known))

  choices_run : (goals : Nodes) (known : Known) (before : List Node)
      → run (choice_tasks (length known) goals) (reached before known) ≡ reached (before ++ list_of (grade_each known goals)) known
  choices_run no_nodes known before = ap (λ l. reached l known) (sym (append-nil before))
  choices_run (more_nodes first rest) known before =
      let one = grade known first in
      let tasks = choice_tasks (length known) rest in
      run-append tasks (Forget (length known) ∷ Grade first ∷ []) (reached before known)
      ∙ ap (run tasks) (apart_run first known before)
      ∙ choices_run rest known (before ++ one ∷ [])
      ∙ ap (λ l. reached l known) (append_assoc before (one ∷ []) (list_of (grade_each known rest)))

  arms_run : (variable : ℕ) (arms : Arms) (known : Known) (before : List Node)
      → run (arm_tasks (length known) variable arms) (reached before known) ≡ reached (before ++ bodies_of (grade_arms known variable arms)) known
  arms_run variable no_arms known before = ap (λ l. reached l known) (sym (append-nil before))
  arms_run variable (more_arms symbol body rest) known before =
      let inner = (variable, symbol) ∷ known in
      let one = grade inner body in
      let tasks = arm_tasks (length known) variable rest in
      run-append tasks (Forget (length known) ∷ Grade body ∷ Learn variable symbol ∷ []) (reached before known)
      ∙ ap (λ k. run tasks (reached (before ++ one ∷ []) k))
      (forgotten known (known_behind body inner) (chain known inner (known_behind body inner) (one_more variable symbol known) (behind body inner)))
      ∙ arms_run variable rest known (before ++ one ∷ [])
      ∙ ap (λ l. reached l known) (append_assoc before (one ∷ []) (bodies_of (grade_arms known variable rest)))

  conditional_run : (condition then_part else_part : Node) (known : Known) (before : List Node)
      → run (Forget (length known) ∷ Grade else_part ∷ Forget (length known) ∷ Grade then_part ∷ Grade condition ∷ []) (reached before known)
      ≡ reached (before ++ grade known condition ∷ grade (known_behind condition known) then_part ∷ grade known else_part ∷ []) known
  conditional_run condition then_part else_part known before =
      let behind_condition = known_behind condition known in
      let later = known_behind then_part behind_condition in
      let one = grade known condition in
      let two = grade behind_condition then_part in
      let three = grade known else_part in
      ap (λ k. run (Forget (length known) ∷ Grade else_part ∷ []) (reached ((before ++ one ∷ []) ++ two ∷ []) k))
      (forgotten known later (chain known behind_condition later (behind condition known) (behind then_part behind_condition)))
      ∙ apart_run else_part known ((before ++ one ∷ []) ++ two ∷ [])
      ∙ ap (λ l. reached l known) (append_assoc (before ++ one ∷ []) (two ∷ []) (three ∷ []) ∙ append_assoc before (one ∷ []) (two ∷ three ∷ []))

  -- what is known behind the goals that a goal joins
  abbrev inner_known : Goal → Known → Known
  inner_known (Basic goal) known = known
  inner_known (Conjunction running goals) known = conjuncts_known running goals known
  inner_known (Disjunction goals) known = known
  inner_known (Switch variable arms) known = known
  inner_known (Conditional condition then_part else_part) known = known
  inner_known (Negation goal) known = known
  inner_known (Quantified own goal) known = known_behind goal known

  inner_run : (goal : Goal) (known : Known) (before : List Node)
      → run (inner_tasks (length known) goal) (reached before known) ≡ reached (before ++ goals_in (grade_goal known goal)) (inner_known goal known)
  inner_run (Basic goal) known before = ap (λ l. reached l known) (sym (append-nil before))
  inner_run (Conjunction running goals) known before = in_turn_run running goals (reached before known)
  inner_run (Disjunction goals) known before = choices_run goals known before
  inner_run (Switch variable arms) known before = arms_run variable arms known before
  inner_run (Conditional condition then_part else_part) known before = conditional_run condition then_part else_part known before
  inner_run (Negation goal) known before = apart_run goal known before
  inner_run (Quantified own goal) known before = refl

  -- a goal's root is the same with categories

  count_all : (running : Running) (known : Known) (goals : Nodes) → length (list_of (grade_all running known goals)) ≡ length (list_of goals)
  count_all running known no_nodes = refl
  count_all running known (more_nodes first rest) = ap suc (count_all running (next running known first) rest)

  count_each : (known : Known) (goals : Nodes) → length (list_of (grade_each known goals)) ≡ length (list_of goals)
  count_each known no_nodes = refl
  count_each known (more_nodes first rest) = ap suc (count_each known rest)

  same_symbols : (known : Known) (variable : ℕ) (arms : Arms) → symbols_of (grade_arms known variable arms) ≡ symbols_of arms
  same_symbols known variable no_arms = refl
  same_symbols known variable (more_arms symbol body rest) = ap (λ l. symbol ∷ l) (same_symbols known variable rest)

  same_root : (known : Known) (goal : Goal) → root_of (grade_goal known goal) ≡ root_of goal
  same_root known (Basic goal) = refl
  same_root known (Conjunction running goals) = ap (ConjunctionRoot running) (count_all running known goals)
  same_root known (Disjunction goals) = ap DisjunctionRoot (count_each known goals)
  same_root known (Switch variable arms) = ap (SwitchRoot variable) (same_symbols known variable arms)
  same_root known (Conditional condition then_part else_part) = refl
  same_root known (Negation goal) = refl
  same_root known (Quantified own goal) = refl

  -- of goals that join others the category comes from theirs alone
  same_rule : (known : Known) (goal : Goal)
      → grading.rule declared modes types (inner_known goal known) (grade_goal known goal) ≡ grading.rule declared modes types known (grade_goal known goal)
  same_rule known (Basic goal) = refl
  same_rule known (Conjunction running goals) = refl
  same_rule known (Disjunction goals) = refl
  same_rule known (Switch variable arms) = refl
  same_rule known (Conditional condition then_part else_part) = refl
  same_rule known (Negation goal) = refl
  same_rule known (Quantified own goal) = refl

  -- the goals that a goal joins become it
  closed_is : (known : Known) (goal : Goal) (outputs : List ℕ) (category : _) (span : _) (before : List Node)
      → closed declared modes types (inner_known goal known) (node goal outputs category span) (before ++ goals_in (grade_goal known goal))
      ≡ before ++ grade known (node goal outputs category span) ∷ []
  closed_is known goal outputs category span before =
      let now = inner_known goal known in
      let label = label_of (node goal outputs category span) in
      let graded_goal = grade_goal known goal in
      let parts = goals_in graded_goal in
      let all = before ++ parts in
      let arity : arity_of (root_of goal) ≡ length parts = ap arity_of (sym (same_root known goal)) ∙ arity_is graded_goal in
      let start : length all - arity_of (root_of goal) ≡ length before =
      ap (λ n. length all - n) arity ∙ ap (λ n. n - length parts) (length-append before parts) ∙ add-sub_cancel (length before) (length parts) in
      let dropped : drop (length all - arity_of (root_of goal)) all ≡ parts = ap (λ n. drop n all) start ∙ drop-append_seam before parts in
      let joined : joining (root_of goal) parts ≡ graded_goal = ap (λ r. joining r parts) (sym (same_root known goal)) ∙ joining_is graded_goal in
      let found = category_of declared modes types now label in
      ap (λ l. last_joined (with_category label (found l)) all) dropped
      ∙ last_joined_is (with_category label (found parts)) before parts arity
      ∙ ap (λ g. before ++ node g outputs (Some (grading.with_category declared modes types now outputs g)) span ∷ []) joined
      ∙ ap (λ c. before ++ node graded_goal outputs (Some (grading.capped outputs c)) span ∷ []) (same_rule known goal)

  -- What is known behind a conjunction.

  in_turn_known : (goals : Nodes) (known : Known) → conjuncts_known Sequential goals known ≡ known_behind_all goals known
  in_turn_known no_nodes known = refl
  in_turn_known (more_nodes first rest) known = in_turn_known rest (known_behind first known)

  handed_extends : (b : Bool) (known later : Known) → Extends known later → Extends known (if b then known else later)
  handed_extends true known later extends = same known
  handed_extends false known later extends = extends

  beside_extends : (site : _) (goals : Nodes) (known : Known) → Extends known (conjuncts_known (Parallel site) goals known)
  beside_extends site no_nodes known = same known
  beside_extends site (more_nodes first rest) known =
      let middle = next (Parallel site) known first in
      chain known middle (conjuncts_known (Parallel site) rest middle)
      (handed_extends (is_zero (most_of (category_at (grade known first)))) known (known_behind first known) (behind first known)) (beside_extends site rest middle)

  -- where each conjunct may have a solution, each hands on what it tells
  beside_known : (site : _) (goals : Nodes) (known : Known) → is_zero (most_of (conjunction_category (categories (list_of (grade_all (Parallel site) known goals))))) ≡ false
      → conjuncts_known (Parallel site) goals known ≡ known_behind_all goals known
  beside_known site no_nodes known some = refl
  beside_known site (more_nodes first rest) known some =
      let parts = neither (category_at (grade known first)) (conjunction_category (categories (list_of (grade_all (Parallel site) (next (Parallel site) known first) rest)))) some in
      let handed : next (Parallel site) known first ≡ known_behind first known = ap (λ b. if b then known else known_behind first known) parts.first in
      ap (conjuncts_known (Parallel site) rest) handed
      ∙ beside_known site rest (known_behind first known)
      (subst (λ k. is_zero (most_of (conjunction_category (categories (list_of (grade_all (Parallel site) k rest))))) ≡ false) handed parts.second)

  recalled : (b : Bool) (whole : Node) (count : ℕ) (known later : Known) → back_to count later ≡ known → (b ≡ false → later ≡ known_behind whole known)
      → (if b then known_behind whole (if b then back_to count later else later) else (if b then back_to count later else later)) ≡ known_behind whole known
  recalled true whole count known later back told = ap (known_behind whole) back
  recalled false whole count known later back told = told refl

  recall_run : (goal : Goal) (outputs : List ℕ) (category : _) (span : _) (known : Known) (before : List Node) → let whole = node goal outputs category span in
      run (recall_tasks (length known) whole goal) (reached (before ++ grade known whole ∷ []) (known_behind_root (root_of goal) (inner_known goal known)))
      ≡ reached (before ++ grade known whole ∷ []) (known_behind_goal goal known)
  recall_run (Basic goal) outputs category span known before = refl
  recall_run (Conjunction Sequential goals) outputs category span known before =
      ap (reached (before ++ grade known (node (Conjunction Sequential goals) outputs category span) ∷ [])) (in_turn_known goals known)
  recall_run (Conjunction (Parallel site) goals) outputs category span known before =
      let whole = node (Conjunction (Parallel site) goals) outputs category span in
      let one = grade known whole in
      let later = conjuncts_known (Parallel site) goals known in
      let none = last_has_none (before ++ one ∷ []) in
      ap (reached (before ++ one ∷ []))
      (recalled none whole (length known) known later (forgotten known later (beside_extends site goals known))
      (λ some. beside_known site goals known (sym (capped_zero outputs (conjunction_category (categories (list_of (grade_all (Parallel site) known goals))))) ∙ sym (last_is before one) ∙ some)))
  recall_run (Disjunction goals) outputs category span known before = refl
  recall_run (Switch variable arms) outputs category span known before = refl
  recall_run (Conditional condition then_part else_part) outputs category span known before = refl
  recall_run (Negation goal) outputs category span known before = refl
  recall_run (Quantified own goal) outputs category span known before = refl

  pub plan_run : (whole : Node) (at : Progress) → run (plan (length at.known) whole) at ≡ after declared modes types (Grade whole) at
  plan_run (node goal outputs category span) at =
      let whole = node goal outputs category span in
      let recalls = recall_tasks (length at.known) whole goal in
      run-append recalls (Close whole ∷ inner_tasks (length at.known) goal) at
      ∙ ap (λ reach. run recalls (after declared modes types (Close whole) reach)) (inner_run goal at.known at.goals)
      ∙ ap (λ l. run recalls (reached l (known_behind_root (root_of goal) (inner_known goal at.known)))) (closed_is at.known goal outputs category span at.goals)
      ∙ recall_run goal outputs category span at.known at.goals

  -- a conjunct of `&`, which hands on nothing if it has no solution
  pub beside_run : (whole : Node) (at : Progress) → run (Withhold (length at.known) ∷ Grade whole ∷ []) at ≡ after declared modes types (Beside whole) at
  beside_run whole at =
      let one = grade at.known whole in
      let behind_it = known_behind whole at.known in
      ap (λ b. reached (at.goals ++ one ∷ []) (if b then back_to (length at.known) behind_it else behind_it)) (last_is at.goals one)
      ∙ ap (λ k. reached (at.goals ++ one ∷ []) (if is_zero (most_of (category_at one)) then k else behind_it)) (forgotten at.known behind_it (behind whole at.known))

  -- Goals that tell again what they tell.

  tell_run : (goals : Nodes) (at : Progress) → run (tell_tasks goals) at ≡ reached at.goals (known_behind_all goals at.known)
  tell_run no_nodes at = refl
  tell_run (more_nodes first rest) at = run-append (tell_tasks rest) (Tell first ∷ []) at ∙ tell_run rest (reached at.goals (known_behind first at.known))

  inner_tell_run : (goal : Goal) (known : Known) (before : List Node)
      → run (inner_tells goal) (reached before (known_behind_root (root_of goal) known)) ≡ reached before (known_behind_goal goal known)
  inner_tell_run (Basic goal) known before = refl
  inner_tell_run (Conjunction running goals) known before = tell_run goals (reached before known)
  inner_tell_run (Disjunction goals) known before = refl
  inner_tell_run (Switch variable arms) known before = refl
  inner_tell_run (Conditional condition then_part else_part) known before = refl
  inner_tell_run (Negation goal) known before = refl
  inner_tell_run (Quantified own goal) known before = refl

  pub tells_run : (whole : Node) (known : Known) (before : List Node)
      → run (inner_tells (goal_of whole)) (reached before (known_behind_root (root_of (goal_of whole)) known)) ≡ reached before (known_behind whole known)
  tells_run (node goal outputs category span) known before = inner_tell_run goal known before

  pub recalled_run : (b : Bool) (whole : Node) (at : Progress)
      → run (if b then Tell whole ∷ [] else []) at ≡ reached at.goals (if b then known_behind whole at.known else at.known)
  recalled_run true whole at = refl
  recalled_run false whole at = refl
