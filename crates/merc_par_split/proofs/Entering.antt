-- What is left to do for a goal performs it.
use Rattle.std.specs.Prelude.{◌≡◌, ◌==◌, ◌≤◌, ◌<◌, ◌+◌, ◌-◌, ◌*◌, ℕ, suc, List, [], ◌∷◌, ◌++◌, length, map, Option, Some, refl}
use Rattle.std.specs.List.{filter, flat_map}
use Rattle.std.proofs.Common.{◌∙◌, ap, sym, subst, arith}
use Rattle.std.proofs.lemmas.List.{append-nil, length-append, length-map}
use Rattle.merc_goal_tree.specs.declared.goal.Symbol.{Symbol}
use Rattle.merc_graded_tree.specs.declared.basic.BasicGoal.{BasicGoal}
use Rattle.merc_graded_tree.specs.declared.basic.Site.{Site}
use Rattle.merc_graded_tree.specs.declared.entries.Root.{Root}
use Rattle.merc_graded_tree.specs.declared.entries.Root.TheVariants.{Conjunction as ConjunctionRoot, Disjunction as DisjunctionRoot, Switch as SwitchRoot, Conditional as ConditionalRoot, Negation as NegationRoot, Quantified as QuantifiedRoot, Basic as BasicRoot}
use Rattle.merc_graded_tree.specs.declared.entries.Running.{Running}
use Rattle.merc_graded_tree.specs.declared.entries.Running.TheVariants.{Sequential, Parallel}
use Rattle.merc_graded_tree.specs.Nodes.{Node, Goal, Basic, Conjunction, Disjunction, Switch, Conditional, Negation, Quantified, Arms, nodes_of, goal_of, outputs_of, span_of}
use Rattle.merc_graded_tree.specs.Roots.{arity_of, arms_of, bodies_of}
use Rattle.merc_graded_tree.specs.Labels.{labels_of, inner_labels, arm_labels, all_labels}
use Rattle.merc_graded_tree.specs.Variables.{in_node}
use Rattle.merc_par_split.specs.Constructs.{whole_tasks, turn_tasks, arm_tasks, switch_tasks, conditional_tasks, LeavesConjuncts, LeavesRunning}
use Rattle.merc_rights.specs.Members.{turn_wait, turn_signal, wait_shares, signal_shares, pass_shares}
use Rattle.merc_rights.specs.Waits.{rights_of, those_waits, others, stays}
use Rattle.merc_rights.specs.Rights.{Right, right_to}
use Rattle.merc_par_split.specs.Tasks.{with_outcome, node_entered, after_all, HaveEnough, effort, total, AllLie, Performs, shares_of, member_tasks, relabelled, framed}
use Rattle.merc_rights.specs.Places.{Lies}
use Rattle.merc_rights.specs.declared.rights.Awaited.{Awaited}
use Rattle.merc_rights.specs.declared.sites.SiteInfo.{SiteInfo}
use Rattle.merc_par_split.specs.declared.tasks.Placing.{Placing}
use Rattle.merc_par_split.specs.declared.tasks.Task.{Task}
use Rattle.merc_par_split.specs.declared.tasks.Task.TheVariants.{Place, Enter, Waits, Signals, Close}
use Rattle.merc_par_split.proofs.StepLaws.{at_with, after-append}
use Rattle.merc_par_split.proofs.ConstructLaws.{list-nodes, entered_as, turn_same, basic_same, disjunction_same, negation_same, quantified_same, switch_same, conditional_same}
use Rattle.merc_par_split.proofs.SideLaws.{site_frame, conjunct_tasks, tasks_are, conjuncts_same}
use Rattle.merc_par_split.proofs.EffortLaws.{Goes, goes-append, members_go, framed_go, total-append, labels-count, members-effort, framed-effort, lies-front, lies-back, lies-inner, joined-all, armed-all, Lie, lie-append, members-lie, framed-lie}
use Rattle.merc_rights.specs.Groups.{numbered}

shares-length : (number : ℕ) (goals : List Node) (waits : List (ℕ × Awaited)) (signals passed : List (ℕ × Right)) → length (shares_of number goals waits signals passed) ≡ length goals
shares-length number [] waits signals passed = refl
shares-length number (first ∷ rest) waits signals passed = ap suc (shares-length (suc number) rest waits signals passed)

members-go : (start number before arity : ℕ) (goals : List Node) (waits : List (ℕ × Awaited)) (signals passed : List (ℕ × Right)) → arity ≡ length goals
    → Goes before (member_tasks start (shares_of number goals waits signals passed)) (before + arity)
members-go start number before arity goals waits signals passed size rest enough =
    let shares = shares_of number goals waits signals passed in
    let e : before + arity ≡ before + length shares = let l = shares-length number goals waits signals passed in omega (arith, l, size) in
    members_go start before shares rest (subst (λ n. HaveEnough n rest) e enough)

bodies-are : (symbols : List Symbol) (goals : List Node) → length symbols ≡ length goals → bodies_of (arms_of symbols goals) ≡ goals
bodies-are [] [] size = refl
bodies-are [] (first ∷ rest) size = absurd (omega (arith, size))
bodies-are (symbol ∷ symbols) [] size = absurd (omega (arith, size))
bodies-are (symbol ∷ symbols) (first ∷ rest) size = ap (λ l. first ∷ l) (bodies-are symbols rest (omega (arith, size)))

module _ (whole : Node) (placing : Placing) (goals : List Node) (sites : List SiteInfo) where
  -- what comes of the goal that is entered
  abbrev pub come : Node × List SiteInfo
  come = node_entered (length sites) placing.waits placing.signals placing.goal

  abbrev pub Parts : List Node → Type 0
  Parts list = inner_labels (goal_of placing.goal) ≡ all_labels list

  pub performed : (tasks rest : List Task) → after_all tasks (at_with goals sites) ≡ with_outcome (at_with goals sites) come → ((n : ℕ) → Goes n tasks (suc n))
      → total tasks < effort (Enter placing) → (Lies (labels_of whole) placing.first (labels_of placing.goal) → Lie whole tasks)
      → Performs whole (Enter placing) rest (at_with goals sites) (tasks ++ rest) (at_with goals sites)
  performed tasks rest same goes less lie = record {
    same = after-append tasks rest (at_with goals sites) ∙ ap (λ p. after_all rest p) same;
    enough = λ enough. goes (length goals) rest enough;
    smaller = let e = total-append tasks rest in omega (arith, e, less);
    lie = λ lies. lie lies.0 rest lies.1;
  }

  lies-all : (list : List Node) → Parts list → Lies (labels_of whole) placing.first (labels_of placing.goal) → Lies (labels_of whole) placing.first (all_labels list)
  lies-all list parts lies = subst (λ l. Lies (labels_of whole) placing.first l) parts (lies-inner (labels_of whole) placing.first placing.goal lies)

  pub framed-performed : (root : Root) (before : List Right) (inner : List Task) (behind : Task) (count : ℕ) (rest : List Task)
      → after_all (framed placing.goal root before inner behind count) (at_with goals sites) ≡ with_outcome (at_with goals sites) come
      → ((n : ℕ) → Goes n inner (n + arity_of root)) → ((n : ℕ) (more : List Task) → HaveEnough (n + count) more → HaveEnough n (behind ∷ more)) → effort behind ≡ 1
      → total inner ≤ 16 * length (inner_labels (goal_of placing.goal)) → (Lies (labels_of whole) placing.first (labels_of placing.goal) → Lie whole inner)
      → ((more : List Task) → AllLie whole more → AllLie whole (behind ∷ more))
      → Performs whole (Enter placing) rest (at_with goals sites) (framed placing.goal root before inner behind count ++ rest) (at_with goals sites)
  framed-performed root before inner behind count rest same goes puts one less lie puts_lie =
      performed (framed placing.goal root before inner behind count) rest same (λ n. framed_go placing.goal root before inner behind count n (goes (n + length before)) puts)
      (let e = framed-effort placing.goal root before inner behind count one in omega (arith, e, less))
      (λ lies. framed-lie whole placing.goal root before inner behind count (lie lies) puts_lie)

  members-less : (list : List Node) (waits : List (ℕ × Awaited)) (signals passed : List (ℕ × Right)) → Parts list
      → total (member_tasks placing.first (shares_of 0 list waits signals passed)) ≤ 16 * length (inner_labels (goal_of placing.goal))
  members-less list waits signals passed parts = let e = members-effort placing.first 0 list waits signals passed in let l = ap length parts in omega (arith, e, l)

  -- one after the other
  pub turns_perform : (list : List Node) (rest : List Task) → Conjunction Sequential (nodes_of list) ≡ goal_of placing.goal
      → Performs whole (Enter placing) rest (at_with goals sites) (turn_tasks placing list ++ rest) (at_with goals sites)
  turns_perform list rest is =
      let waits = flat_map (turn_wait list) placing.waits in
      let signals = flat_map (turn_signal list) placing.signals in
      let members = member_tasks placing.first (shares_of 0 list waits signals []) in
      let label = relabelled placing.goal (ConjunctionRoot Sequential (length list)) in
      let parts : Parts list = ap inner_labels (sym is) ∙ joined-all (nodes_of list) ∙ ap all_labels (list-nodes list) in
      performed (turn_tasks placing list) rest (turn_same placing list (at_with goals sites) ∙ ap (λ g. with_outcome (at_with goals sites) (entered_as placing g (length sites))) is)
      (λ n. goes-append n (n + length list) (suc n) members (Close label ∷ []) (members-go placing.first 0 n (length list) list waits signals [] refl)
      (λ more enough. (omega arith, let e : suc n ≡ suc (n + length list - length list) = omega arith in subst (λ m. HaveEnough m more) e enough)))
      (let e = total-append members (Close label ∷ []) in let less = members-less list waits signals [] parts in omega (arith, e, less))
      (λ lies. lie-append whole members (Close label ∷ []) (members-lie whole placing.first 0 list waits signals [] (lies-all list parts lies)) (λ more so. (tt, so)))

  -- goals without rights
  pub wholes_perform : (root : Root) (list : List Node) (rest : List Task) → arity_of root ≡ length list → Parts list
      → after_all (whole_tasks placing root list) (at_with goals sites) ≡ with_outcome (at_with goals sites) come
      → Performs whole (Enter placing) rest (at_with goals sites) (whole_tasks placing root list ++ rest) (at_with goals sites)
  wholes_perform root list rest size parts same =
      framed-performed root (rights_of placing.waits) (member_tasks placing.first (shares_of 0 list [] [] [])) (Signals placing.signals (span_of placing.goal)) (length placing.signals) rest same
      (λ n. members-go placing.first 0 n (arity_of root) list [] [] [] size) (λ n more enough. enough) refl (members-less list [] [] [] parts)
      (λ lies. members-lie whole placing.first 0 list [] [] [] (lies-all list parts lies)) (λ more so. (tt, so))

  entered_is : (goal : Goal) (tasks : List Task) → goal ≡ goal_of placing.goal
      → after_all tasks (at_with goals sites) ≡ with_outcome (at_with goals sites) (entered_as placing goal (length sites)) → after_all tasks (at_with goals sites) ≡ with_outcome (at_with goals sites) come
  entered_is goal tasks is same = same ∙ ap (λ g. with_outcome (at_with goals sites) (entered_as placing g (length sites))) is

  pub basic_performs : (goal : BasicGoal) (rest : List Task) → Basic goal ≡ goal_of placing.goal
      → Performs whole (Enter placing) rest (at_with goals sites) (whole_tasks placing (BasicRoot goal) [] ++ rest) (at_with goals sites)
  basic_performs goal rest is =
      wholes_perform (BasicRoot goal) [] rest refl (ap inner_labels (sym is)) (entered_is (Basic goal) (whole_tasks placing (BasicRoot goal) []) is (basic_same placing goal (at_with goals sites)))

  pub disjunction_performs : (list : List Node) (rest : List Task) → Disjunction (nodes_of list) ≡ goal_of placing.goal
      → Performs whole (Enter placing) rest (at_with goals sites) (whole_tasks placing (DisjunctionRoot (length list)) list ++ rest) (at_with goals sites)
  disjunction_performs list rest is =
      wholes_perform (DisjunctionRoot (length list)) list rest refl (ap inner_labels (sym is) ∙ joined-all (nodes_of list) ∙ ap all_labels (list-nodes list))
      (entered_is (Disjunction (nodes_of list)) (whole_tasks placing (DisjunctionRoot (length list)) list) is (disjunction_same placing list (at_with goals sites)))

  pub negation_performs : (goal : Node) (rest : List Task) → Negation goal ≡ goal_of placing.goal
      → Performs whole (Enter placing) rest (at_with goals sites) (whole_tasks placing NegationRoot (goal ∷ []) ++ rest) (at_with goals sites)
  negation_performs goal rest is =
      wholes_perform NegationRoot (goal ∷ []) rest refl (ap inner_labels (sym is) ∙ sym (append-nil (labels_of goal)))
      (entered_is (Negation goal) (whole_tasks placing NegationRoot (goal ∷ [])) is (negation_same placing goal (at_with goals sites)))

  pub quantified_performs : (own : List ℕ) (goal : Node) (rest : List Task) → Quantified own goal ≡ goal_of placing.goal
      → Performs whole (Enter placing) rest (at_with goals sites)
      (Place (record { goal = goal; first = placing.first; waits = placing.waits; signals = placing.signals }) ∷ Close (relabelled placing.goal (QuantifiedRoot own)) ∷ rest) (at_with goals sites)
  quantified_performs own goal rest is =
      let inner : Placing = record { goal = goal; first = placing.first; waits = placing.waits; signals = placing.signals } in
      let tasks = Place inner ∷ Close (relabelled placing.goal (QuantifiedRoot own)) ∷ [] in
      let parts : inner_labels (goal_of placing.goal) ≡ labels_of goal = ap inner_labels (sym is) in
      performed tasks rest (entered_is (Quantified own goal) tasks is (quantified_same placing own goal (at_with goals sites)))
      (λ n more enough. (omega arith, let e : suc n ≡ suc (suc n - 1) = omega arith in subst (λ m. HaveEnough m more) e enough))
      (let l = ap length parts in let own_count = labels-count goal in omega (arith, l, own_count))
      (λ lies more so. (subst (λ l. Lies (labels_of whole) placing.first l) parts (lies-inner (labels_of whole) placing.first placing.goal lies), (tt, so)))

  -- goals of which one is chosen
  pub switch_performs : (variable : ℕ) (symbols : List Symbol) (list : List Node) (rest : List Task) → length symbols ≡ length list → Switch variable (arms_of symbols list) ≡ goal_of placing.goal
      → Performs whole (Enter placing) rest (at_with goals sites) (switch_tasks placing variable symbols list ++ rest) (at_with goals sites)
  switch_performs variable symbols list rest size is =
      let inside = those_waits (others (λ other. other == variable)) placing.waits in
      let waits = flat_map (wait_shares list) inside in
      let signals = flat_map (signal_shares list) placing.signals in
      let passed = flat_map (pass_shares list) inside in
      let parts : Parts list = ap inner_labels (sym is) ∙ armed-all (arms_of symbols list) ∙ ap all_labels (bodies-are symbols list size) in
      framed-performed (SwitchRoot variable symbols) (rights_of (those_waits (λ other. other == variable) placing.waits)) (arm_tasks list placing.first inside placing.signals)
      (Signals [] (span_of placing.goal)) 0 rest
      (entered_is (Switch variable (arms_of symbols list)) (switch_tasks placing variable symbols list) is (switch_same placing variable symbols list (at_with goals sites) size))
      (λ n. members-go placing.first 0 n (length symbols) list waits signals passed size) (λ n more enough. enough) refl (members-less list waits signals passed parts)
      (λ lies. members-lie whole placing.first 0 list waits signals passed (lies-all list parts lies)) (λ more so. (tt, so))

  pub conditional_performs : (condition then_part else_part : Node) (rest : List Task) → Conditional condition then_part else_part ≡ goal_of placing.goal
      → Performs whole (Enter placing) rest (at_with goals sites) (conditional_tasks placing condition then_part else_part ++ rest) (at_with goals sites)
  conditional_performs condition then_part else_part rest is =
      let inside = those_waits (others (in_node condition)) placing.waits in
      let arms = then_part ∷ else_part ∷ [] in
      let later = placing.first + length (labels_of condition) in
      let waits = flat_map (wait_shares arms) inside in
      let signals = flat_map (signal_shares arms) placing.signals in
      let passed = flat_map (pass_shares arms) inside in
      let asked : Placing = record { goal = condition; first = placing.first; waits = []; signals = [] } in
      let members = arm_tasks arms later inside placing.signals in
      let parts : inner_labels (goal_of placing.goal) ≡ labels_of condition ++ all_labels arms =
      ap inner_labels (sym is) ∙ ap (λ l. labels_of condition ++ (labels_of then_part ++ l)) (sym (append-nil (labels_of else_part))) in
      framed-performed ConditionalRoot (rights_of (those_waits (in_node condition) placing.waits)) (Place asked ∷ members) (Signals [] (span_of placing.goal)) 0 rest
      (entered_is (Conditional condition then_part else_part) (conditional_tasks placing condition then_part else_part) is (conditional_same placing condition then_part else_part (at_with goals sites)))
      (λ n more enough. let e : n + 3 ≡ suc n + 2 = omega arith in members-go later 0 (suc n) 2 arms waits signals passed refl more (subst (λ m. HaveEnough m more) e enough))
      (λ n more enough. enough) refl
      (let l = ap length parts in let sum = length-append (labels_of condition) (all_labels arms) in let own = labels-count condition in
      let e = members-effort later 0 arms waits signals passed in omega (arith, l, sum, own, e))
      (λ lies more so.
      let inner = subst (λ l. Lies (labels_of whole) placing.first l) parts (lies-inner (labels_of whole) placing.first placing.goal lies) in (
        lies-front (labels_of whole) placing.first (labels_of condition) (all_labels arms) inner,
        members-lie whole later 0 arms waits signals passed (lies-back (labels_of whole) placing.first (labels_of condition) (all_labels arms) inner) more so,
      ))
      (λ more so. (tt, so))

  -- side by side
  pub conjuncts_perform : (unknown : Option Site) (list : List Node) (sites' : List SiteInfo) (tasks tasks' : List Task) → Conjunction (Parallel unknown) (nodes_of list) ≡ goal_of placing.goal
      → LeavesConjuncts placing list sites sites' tasks tasks' → Performs whole (Enter placing) tasks (at_with goals sites) tasks' (at_with goals sites')
  conjuncts_perform unknown list sites' tasks tasks' is leaves =
      let members = conjunct_tasks placing list sites sites' tasks tasks' leaves in
      let waits = leaves.with_moved.waits.items in
      let signals = numbered leaves.with_moved.signals.items in
      let root = ConjunctionRoot (Parallel (Some (record { number = length sites }))) (length list) in
      let before = rights_of (filter (stays (nodes_of list)) placing.waits) in
      let behind = Waits (map (right_to 0) (outputs_of placing.goal)) (span_of placing.goal) in
      let count = length (outputs_of placing.goal) in
      let are = tasks_are placing list sites sites' tasks tasks' leaves in
      let frame = site_frame placing list sites members in
      let parts : Parts list = ap inner_labels (sym is) ∙ joined-all (nodes_of list) ∙ ap all_labels (list-nodes list) in
      record {
        same = conjuncts_same placing list sites sites' tasks tasks' leaves unknown goals
            ∙ ap (λ g. after_all tasks (with_outcome (at_with goals sites) (entered_as placing g (length sites)))) is;
        enough = λ enough. subst (λ l. HaveEnough (length goals) l) (sym are)
            (framed_go placing.goal root before members behind count (length goals) (members-go placing.first 0 (length goals + length before) (length list) list waits signals [] refl)
            (λ n more so. subst (λ m. HaveEnough (n + m) more) (sym (length-map (outputs_of placing.goal) (right_to 0))) so) tasks enough);
        smaller = let e = ap total are in let sum = total-append frame tasks in let f = framed-effort placing.goal root before members behind count refl in
            let less = members-less list waits signals [] parts in omega (arith, e, sum, f, less);
        lie = λ lies. subst (λ l. AllLie whole l) (sym are)
            (framed-lie whole placing.goal root before members behind count (members-lie whole placing.first 0 list waits signals [] (lies-all list parts lies.0)) (λ more so. (tt, so)) tasks lies.1);
      }

  pub running_performs : (running : Running) (list : List Node) (sites' : List SiteInfo) (tasks tasks' : List Task) → Conjunction running (nodes_of list) ≡ goal_of placing.goal
      → LeavesRunning running placing list sites sites' tasks tasks' → Performs whole (Enter placing) tasks (at_with goals sites) tasks' (at_with goals sites')
  running_performs Sequential list sites' tasks tasks' is leaves =
      subst (λ t. Performs whole (Enter placing) tasks (at_with goals sites) t (at_with goals sites')) (sym leaves.0)
      (subst (λ s. Performs whole (Enter placing) tasks (at_with goals sites) (turn_tasks placing list ++ tasks) (at_with goals s)) (sym leaves.1) (turns_perform list tasks is))
  running_performs (Parallel unknown) list sites' tasks tasks' is leaves = conjuncts_perform unknown list sites' tasks tasks' is leaves

-- tasks that are left before the others
pub left : (whole : Node) (placing : Placing) (goals : List Node) (sites : List SiteInfo) (rest tasks tasks' : List Task) → tasks' ≡ tasks
    → Performs whole (Enter placing) rest (at_with goals sites) tasks (at_with goals sites) → Performs whole (Enter placing) rest (at_with goals sites) tasks' (at_with goals sites)
left whole placing goals sites rest tasks tasks' are performs = subst (λ t. Performs whole (Enter placing) rest (at_with goals sites) t (at_with goals sites)) (sym are) performs

-- where the parts of goals lie that are joined
pub lies-goals : (whole goal : Node) (first : ℕ) (inner : Goal) (list : List Node) → inner ≡ goal_of goal → inner_labels inner ≡ all_labels list
    → Lies (labels_of whole) first (labels_of goal) → Lies (labels_of whole) first (all_labels list)
lies-goals whole goal first inner list is parts lies = subst (λ l. Lies (labels_of whole) first l) (ap inner_labels (sym is) ∙ parts) (lies-inner (labels_of whole) first goal lies)

pub lies-conjunction : (whole goal : Node) (first : ℕ) (running : Running) (list : List Node) → Conjunction running (nodes_of list) ≡ goal_of goal
    → Lies (labels_of whole) first (labels_of goal) → Lies (labels_of whole) first (all_labels list)
lies-conjunction whole goal first running list is lies =
    lies-goals whole goal first (Conjunction running (nodes_of list)) list is (joined-all (nodes_of list) ∙ ap all_labels (list-nodes list)) lies

pub lies-switch : (whole goal : Node) (first variable : ℕ) (arms : Arms) → Switch variable arms ≡ goal_of goal
    → Lies (labels_of whole) first (labels_of goal) → Lies (labels_of whole) first (arm_labels arms)
lies-switch whole goal first variable arms is lies = subst (λ l. Lies (labels_of whole) first l) (ap inner_labels (sym is)) (lies-inner (labels_of whole) first goal lies)

pub lies-arms : (whole : Node) (first : ℕ) (symbols : List Symbol) (list : List Node) → length symbols ≡ length list
    → Lies (labels_of whole) first (arm_labels (arms_of symbols list)) → Lies (labels_of whole) first (all_labels list)
lies-arms whole first symbols list size lies = subst (λ l. Lies (labels_of whole) first l) (armed-all (arms_of symbols list) ∙ ap all_labels (bodies-are symbols list size)) lies

pub lies-conditional : (whole goal : Node) (first : ℕ) (condition then_part else_part : Node) → Conditional condition then_part else_part ≡ goal_of goal
    → Lies (labels_of whole) first (labels_of goal) → Lies (labels_of whole) first (labels_of condition ++ (labels_of then_part ++ labels_of else_part))
lies-conditional whole goal first condition then_part else_part is lies = subst (λ l. Lies (labels_of whole) first l) (ap inner_labels (sym is)) (lies-inner (labels_of whole) first goal lies)
