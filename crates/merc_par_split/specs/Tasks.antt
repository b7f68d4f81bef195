-- What is to be done to split goals, and what comes of it. The first of a list of tasks comes first.
use Rattle.std.specs.Prelude.{◌≡◌, ◌≤◌, ◌<◌, ℕ, zero, suc, ◌+◌, ◌-◌, ◌*◌, List, [], ◌∷◌, ◌++◌, length, map, if◌then◌else◌}
use Rattle.merc_graded_tree.specs.declared.entries.Label.{Label}
use Rattle.merc_graded_tree.specs.declared.entries.Root.{Root}
use Rattle.merc_graded_tree.specs.declared.entries.Root.TheVariants.{Conjunction}
use Rattle.merc_graded_tree.specs.declared.entries.Running.TheVariants.{Sequential}
use Rattle.merc_graded_tree.specs.Nodes.{Node, goal_of, outputs_of, category_of, span_of}
use Rattle.merc_graded_tree.specs.Roots.{last_joined, arity_of}
use Rattle.merc_graded_tree.specs.Labels.{labels_of, inner_labels}
use Rattle.merc_rights.specs.Rights.{Right, wait_at, signal_at, ahead_of}
use Rattle.merc_par_split.specs.Split.{may_fail}
use Rattle.merc_rights.specs.Rows.{row_of}
use Rattle.merc_par_split.specs.Outcomes.{outcome, entered}
use Rattle.merc_rights.specs.declared.rights.Awaited.{Awaited}
use Rattle.merc_rights.specs.declared.sites.SiteInfo.{SiteInfo}
use Rattle.merc_rights.specs.Places.{Lies}
use Rattle.merc_par_split.specs.declared.tasks.Placing.{Placing}
use Rattle.merc_par_split.specs.declared.tasks.Task.{Task}
use Rattle.merc_par_split.specs.declared.tasks.Task.TheVariants.{Place, Enter, Waits, Signals, Close}

-- the goals of the split tree so far, and the sites
pub record Progress : Type 0 where
  pub goals : List Node
  pub sites : List SiteInfo

abbrev pub with_goals : Progress → List Node → Progress
with_goals at more = record { goals = at.goals ++ more; sites = at.sites }

abbrev pub with_outcome : Progress → Node × List SiteInfo → Progress
with_outcome at outcome = record { goals = at.goals ++ outcome.0 ∷ []; sites = at.sites ++ outcome.1 }

-- what comes of a goal past the choice whether signals go into it
abbrev pub node_entered : ℕ → List Awaited → List Right → Node → Node × List SiteInfo
node_entered site waits signals whole = entered site waits signals (goal_of whole) (outputs_of whole) (category_of whole) (span_of whole)

abbrev pub after : Task → Progress → Progress
after (Place placing) at = with_outcome at (outcome (length at.sites) placing.waits placing.signals placing.goal)
after (Enter placing) at = with_outcome at (node_entered (length at.sites) placing.waits placing.signals placing.goal)
after (Waits rights span) at = with_goals at (map (wait_at span) rights)
after (Signals rights span) at = with_goals at (map (signal_at span) rights)
after (Close label) at = record { goals = last_joined label at.goals; sites = at.sites }

abbrev pub after_all : List Task → Progress → Progress
after_all [] at = at
after_all (first ∷ rest) at = after_all rest (after first at)

-- The tasks have enough goals, where there are so many before: what is closed joins no more than there are.
abbrev pub HaveEnough : ℕ → List Task → Type 0
HaveEnough count [] = Unit {0}
HaveEnough count (Place placing ∷ tasks) = HaveEnough (suc count) tasks
HaveEnough count (Enter placing ∷ tasks) = HaveEnough (suc count) tasks
HaveEnough count (Waits rights span ∷ tasks) = HaveEnough (count + length rights) tasks
HaveEnough count (Signals rights span ∷ tasks) = HaveEnough (count + length rights) tasks
HaveEnough count (Close label ∷ tasks) = (arity_of label.root ≤ count) × HaveEnough (suc (count - arity_of label.root)) tasks

-- how much a task gives to do
abbrev pub effort : Task → ℕ
effort (Place placing) = 12 + 16 * length (inner_labels (goal_of placing.goal))
effort (Enter placing) = 8 + 16 * length (inner_labels (goal_of placing.goal))
effort (Waits rights span) = 1
effort (Signals rights span) = 1
effort (Close label) = 1

abbrev pub total : List Task → ℕ
total [] = 0
total (first ∷ rest) = effort first + total rest

-- The parts of a task's goal stand where it says.
abbrev pub LiesTask : Node → Task → Type 0
LiesTask whole (Place placing) = Lies (labels_of whole) placing.first (labels_of placing.goal)
LiesTask whole (Enter placing) = Lies (labels_of whole) placing.first (labels_of placing.goal)
LiesTask whole (Waits rights span) = Unit {0}
LiesTask whole (Signals rights span) = Unit {0}
LiesTask whole (Close label) = Unit {0}

abbrev pub AllLie : Node → List Task → Type 0
AllLie whole [] = Unit {0}
AllLie whole (first ∷ rest) = LiesTask whole first × AllLie whole rest

-- a goal that is joined, with the rights that go to it, and what is waited for behind it
pub record Share : Type 0 where
  pub goal : Node
  pub waits : List Awaited
  pub signals : List Right
  pub passed : List Right

abbrev pub shares_of : ℕ → List Node → List (ℕ × Awaited) → List (ℕ × Right) → List (ℕ × Right) → List Share
shares_of number [] waits signals passed = []
shares_of number (first ∷ rest) waits signals passed =
    record { goal = first; waits = row_of number waits; signals = row_of number signals; passed = row_of number passed } ∷ shares_of (suc number) rest waits signals passed

-- what comes of them
abbrev pub shared : ℕ → List Share → List Node × List SiteInfo
shared site [] = ([], [])
shared site (first ∷ rest) =
    let one = outcome site first.waits first.signals first.goal in
    let more = shared (site + length one.1) rest in
    (ahead_of one.0 first.passed ∷ more.0, one.1 ++ more.1)

-- the label of a goal with another root, and that of a conjunction in the place of a goal of the goal and so many others
abbrev pub relabelled : Node → Root → Label
relabelled whole root = record { root = root; outputs = outputs_of whole; category = category_of whole; span = span_of whole }

abbrev pub wraps : ℕ → Node → List Task
wraps zero whole = []
wraps (suc others) whole = Close (relabelled whole (Conjunction Sequential (suc (suc others)))) ∷ []

-- what is left to do behind a goal that is passed rights to wait
abbrev pub passing : Node → List Right → List Task
passing whole [] = []
passing whole (first ∷ rest) = Waits (first ∷ rest) (span_of whole) ∷ wraps (suc (length rest)) whole

abbrev pub member_tasks : ℕ → List Share → List Task
member_tasks start [] = []
member_tasks start (first ∷ rest) =
    Place (record { goal = first.goal; first = start; waits = first.waits; signals = first.signals })
    ∷ (passing first.goal first.passed ++ member_tasks (start + length (labels_of first.goal)) rest)

-- A task has been done: what comes out in the end is the same, and less is left to do.
pub record Performs (whole : Node) (task : Task) (rest : List Task) (at : Progress) (tasks : List Task) (now : Progress) : Type 0 where
  pub same : after_all tasks now ≡ after_all (task ∷ rest) at
  pub enough : HaveEnough (length at.goals) (task ∷ rest) → HaveEnough (length now.goals) tasks
  pub smaller : total tasks < total (task ∷ rest)
  pub lie : AllLie whole (task ∷ rest) → AllLie whole tasks

-- what is left to do for a goal whose inner tasks are these, with waits before it and so many goals behind it, which a task puts
abbrev pub closed : Node → Root → ℕ → Task → ℕ → List Task
closed whole root before behind count = Close (relabelled whole root) ∷ behind ∷ wraps (before + count) whole

abbrev pub framed : Node → Root → List Right → List Task → Task → ℕ → List Task
framed whole root before inner behind count = Waits before (span_of whole) ∷ (inner ++ closed whole root (length before) behind count)

abbrev pub placed_tasks : Placing → List Task
placed_tasks placing =
    if may_fail (category_of placing.goal)
    then Enter (record { goal = placing.goal; first = placing.first; waits = placing.waits; signals = [] })
    ∷ Signals placing.signals (span_of placing.goal) ∷ wraps (length placing.signals) placing.goal
    else Enter placing ∷ []
