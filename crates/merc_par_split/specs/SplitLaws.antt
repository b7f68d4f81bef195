-- What the split tree has of the graded tree.
use Rattle.std.specs.Prelude.{◌≡◌, ℕ, zero, suc, length, Bool, true, false, ◌||◌, List, [], ◌∷◌, ◌++◌, Option, Some, None, if◌then◌else◌}
use Rattle.std.specs.Option.{option_map}
use Rattle.merc_graded_tree.specs.declared.basic.BasicGoal.{BasicGoal}
use Rattle.merc_graded_tree.specs.declared.basic.BasicGoal.TheVariants.{True, Fail, Assign, Test, Build, Split, Arithmetic, Compare, Raise, Call, Wait, Signal}
use Rattle.merc_graded_tree.specs.declared.basic.Procedure.{Procedure}
use Rattle.merc_graded_tree.specs.declared.basic.Site.{Site}
use Rattle.merc_graded_tree.specs.declared.entries.Running.{Running}
use Rattle.merc_graded_tree.specs.declared.entries.Running.TheVariants.{Sequential, Parallel}
use Rattle.merc_graded_tree.specs.Nodes.{Node, node, Goal, Basic, Conjunction, Disjunction, Switch, Conditional, Negation, Quantified, Nodes, no_nodes, more_nodes, Arms, no_arms, more_arms}
use Rattle.merc_meaning.specs.Trace.{Env, Trace}
use Rattle.merc_meaning.specs.Runs.{Program, ProcedureBody, node_trace, call_trace, run}
use Rattle.merc_par_split.specs.Forks.{forks}
use Rattle.merc_par_split.specs.Split.{split}
use Rattle.merc_par_split.specs.Sites.{sites}

-- whether a goal that holds no others is a wait or a signal
abbrev pub is_mark : BasicGoal → Bool
is_mark True = false
is_mark Fail = false
is_mark (Assign to from) = false
is_mark (Test one other) = false
is_mark (Build whole symbol arguments) = false
is_mark (Split whole symbol arguments) = false
is_mark (Arithmetic operation result left right) = false
is_mark (Compare comparison left right) = false
is_mark (Raise text) = false
is_mark (Call procedure arguments) = false
is_mark (Wait variable conjunct) = true
is_mark (Signal variable conjunct) = true

-- .. and the same of any goal
abbrev pub is_marked_goal : Goal → Bool
is_marked_goal (Basic goal) = is_mark goal
is_marked_goal (Conjunction running goals) = false
is_marked_goal (Disjunction goals) = false
is_marked_goal (Switch variable arms) = false
is_marked_goal (Conditional condition then_part else_part) = false
is_marked_goal (Negation goal) = false
is_marked_goal (Quantified own goal) = false

abbrev pub marks : Node → Bool
marks (node goal outputs category span) = is_marked_goal goal

abbrev pub any_marks : Nodes → Bool
any_marks no_nodes = false
any_marks (more_nodes first rest) = marks first || any_marks rest

abbrev pub unsited : Running → Running
unsited Sequential = Sequential
unsited (Parallel site) = Parallel None

-- the first of these goals in place of a goal that has waits or signals among its own
abbrev pub first_if : Bool → Nodes → Node → Node
first_if false goals whole = whole
first_if true no_nodes whole = whole
first_if true (more_nodes first rest) whole = first

-- A goal without its waits, signals and sites. Where they stand, the goal for which they do is the only other one of their conjunction.
abbrev mutual
  pub erased : Node → Node
  erased (node (Basic goal) outputs category span) = node (Basic goal) outputs category span
  erased (node (Conjunction running goals) outputs category span) =
      first_if (any_marks goals) (erased_all goals) (node (Conjunction (unsited running) (erased_all goals)) outputs category span)
  erased (node (Disjunction goals) outputs category span) = node (Disjunction (erased_all goals)) outputs category span
  erased (node (Switch variable arms) outputs category span) = node (Switch variable (erased_arms arms)) outputs category span
  erased (node (Conditional condition then_part else_part) outputs category span) =
      node (Conditional (erased condition) (erased then_part) (erased else_part)) outputs category span
  erased (node (Negation goal) outputs category span) = node (Negation (erased goal)) outputs category span
  erased (node (Quantified own goal) outputs category span) = node (Quantified own (erased goal)) outputs category span

  pub erased_all : Nodes → Nodes
  erased_all no_nodes = no_nodes
  erased_all (more_nodes first rest) = if marks first then erased_all rest else more_nodes (erased first) (erased_all rest)

  pub erased_arms : Arms → Arms
  erased_arms no_arms = no_arms
  erased_arms (more_arms symbol body rest) = more_arms symbol (erased body) (erased_arms rest)

-- A goal has no wait, signal or site.
abbrev mutual
  pub Unsplit : Node → Type 0
  Unsplit (node goal outputs category span) = UnsplitGoal goal

  pub UnsplitGoal : Goal → Type 0
  UnsplitGoal (Basic goal) = is_mark goal ≡ false
  UnsplitGoal (Conjunction running goals) = (unsited running ≡ running) × AllUnsplit goals
  UnsplitGoal (Disjunction goals) = AllUnsplit goals
  UnsplitGoal (Switch variable arms) = ArmsUnsplit arms
  UnsplitGoal (Conditional condition then_part else_part) = Unsplit condition × (Unsplit then_part × Unsplit else_part)
  UnsplitGoal (Negation goal) = Unsplit goal
  UnsplitGoal (Quantified own goal) = Unsplit goal

  pub AllUnsplit : Nodes → Type 0
  AllUnsplit no_nodes = Unit {0}
  AllUnsplit (more_nodes first rest) = Unsplit first × AllUnsplit rest

  pub ArmsUnsplit : Arms → Type 0
  ArmsUnsplit no_arms = Unit {0}
  ArmsUnsplit (more_arms symbol body rest) = Unsplit body × ArmsUnsplit rest

-- the procedures that a goal calls, in the order of the text
abbrev pub calls_of_basic : BasicGoal → List Procedure
calls_of_basic True = []
calls_of_basic Fail = []
calls_of_basic (Assign to from) = []
calls_of_basic (Test one other) = []
calls_of_basic (Build whole symbol arguments) = []
calls_of_basic (Split whole symbol arguments) = []
calls_of_basic (Arithmetic operation result left right) = []
calls_of_basic (Compare comparison left right) = []
calls_of_basic (Raise text) = []
calls_of_basic (Call procedure arguments) = procedure ∷ []
calls_of_basic (Wait variable conjunct) = []
calls_of_basic (Signal variable conjunct) = []

abbrev mutual
  pub calls_of : Node → List Procedure
  calls_of (node goal outputs category span) = goal_calls goal

  pub goal_calls : Goal → List Procedure
  goal_calls (Basic goal) = calls_of_basic goal
  goal_calls (Conjunction running goals) = all_calls goals
  goal_calls (Disjunction goals) = all_calls goals
  goal_calls (Switch variable arms) = arm_calls arms
  goal_calls (Conditional condition then_part else_part) = calls_of condition ++ (calls_of then_part ++ calls_of else_part)
  goal_calls (Negation goal) = calls_of goal
  goal_calls (Quantified own goal) = calls_of goal

  pub all_calls : Nodes → List Procedure
  all_calls no_nodes = []
  all_calls (more_nodes first rest) = calls_of first ++ all_calls rest

  pub arm_calls : Arms → List Procedure
  arm_calls no_arms = []
  arm_calls (more_arms symbol body rest) = calls_of body ++ arm_calls rest

-- the sites of a goal's parallel conjunctions, in the order of the text
abbrev mutual
  pub sites_of : Node → List (Option Site)
  sites_of (node goal outputs category span) = goal_sites goal

  pub goal_sites : Goal → List (Option Site)
  goal_sites (Basic goal) = []
  goal_sites (Conjunction Sequential goals) = all_sites goals
  goal_sites (Conjunction (Parallel site) goals) = site ∷ all_sites goals
  goal_sites (Disjunction goals) = all_sites goals
  goal_sites (Switch variable arms) = arm_sites arms
  goal_sites (Conditional condition then_part else_part) = sites_of condition ++ (sites_of then_part ++ sites_of else_part)
  goal_sites (Negation goal) = sites_of goal
  goal_sites (Quantified own goal) = sites_of goal

  pub all_sites : Nodes → List (Option Site)
  all_sites no_nodes = []
  all_sites (more_nodes first rest) = sites_of first ++ all_sites rest

  pub arm_sites : Arms → List (Option Site)
  arm_sites no_arms = []
  arm_sites (more_arms symbol body rest) = sites_of body ++ arm_sites rest

-- so many sites, whose numbers follow one another
abbrev pub sites_from : ℕ → ℕ → List (Option Site)
sites_from number zero = []
sites_from number (suc count) = Some (record { number = number }) ∷ sites_from (suc number) count

-- the program of the split trees, with the number of the first site of each
abbrev pub split_body : ℕ → ProcedureBody → ProcedureBody
split_body site procedure = record { places = procedure.places; body = split site procedure.body }

abbrev pub split_program : (Procedure → ℕ) → Program → Program
split_program sites program procedure = option_map (split_body (sites procedure)) (program procedure)

-- Without its waits, signals and sites the split tree is the graded one.
abbrev pub ErasesToGraded : Type 0
ErasesToGraded = (site : ℕ) (tree : Node) → Unsplit tree → erased (split site tree) ≡ tree

-- The split tree's trace is the graded one's, in whatever way calls go; and so are the traces of calls, and runs.
abbrev pub KeepsTraces : Type 0
KeepsTraces = (program : Program) (call : Procedure → Env → Trace) (site : ℕ) (tree : Node) (env : Env) → node_trace program call (split site tree) env ≡ node_trace program call tree env

abbrev pub KeepsCallTraces : Type 0
KeepsCallTraces = (program : Program) (sites : Procedure → ℕ) (depth : ℕ) (procedure : Procedure) (env : Env)
    → call_trace (split_program sites program) depth procedure env ≡ call_trace program depth procedure env

abbrev pub KeepsRuns : Type 0
KeepsRuns = (program : Program) (sites : Procedure → ℕ) (site : ℕ) (tree : Node) (limit : ℕ) → run (split_program sites program) (split site tree) limit ≡ run program tree limit

-- It has as many parallel conjunctions, and calls the same procedures.
abbrev pub KeepsForks : Type 0
KeepsForks = (site : ℕ) (tree : Node) → forks (split site tree) ≡ forks tree

abbrev pub KeepsCalls : Type 0
KeepsCalls = (site : ℕ) (tree : Node) → calls_of (split site tree) ≡ calls_of tree

-- Its sites have one number after the other.
abbrev pub NumbersSites : Type 0
NumbersSites = (site : ℕ) (tree : Node) → sites_of (split site tree) ≡ sites_from site (forks tree)

-- There is something at each of them, and nothing more.
abbrev pub PlansSites : Type 0
PlansSites = (tree : Node) → length (sites tree) ≡ forks tree
