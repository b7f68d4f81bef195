-- A goal that is asked: its course uses no rights from outside, its script is well formed, it ends as the goal's run does, and the scripts of each fork's
-- conjuncts join to what its goals show.
use Rattle.std.proofs.Common.{◌≡◌, ℕ, suc, ◌≤◌, true, false, List, [], length, None, refl, ◌∙◌, arith}
use Rattle.merc_tree.specs.declared.declarations.Module.{Module}
use Rattle.merc_graded_tree.specs.Nodes.{Node, outputs_of}
use Rattle.merc_graded_tree.specs.Variables.{in_node}
use Rattle.merc_order.specs.Bound.{Bound}
use Rattle.merc_order_laws.specs.Bindings.{Variables}
use Rattle.merc_order_laws.proofs.Facts.{clash}
use Rattle.merc_grading.specs.Known.{Known}
use Rattle.merc_meaning.specs.Trace.{Env, Trace, cut}
use Rattle.merc_meaning.specs.Runs.{Program, call_trace, node_trace}
use Rattle.merc_meaning.specs.Programs.{program_with}
use Rattle.merc_program_laws.proofs.Values.{Instance}
use Rattle.merc_program_laws.proofs.Lawful.{Fits}
use Rattle.merc_script.specs.Script.{end_of}
use Rattle.merc_core.specs.WellFormed.{WellFormed, most_steps}
use Rattle.merc_par_split.specs.Sites.{all_sites}
use Rattle.merc_par_split.specs.Split.{nothing}
use Rattle.merc_plan.specs.Branch.{Hold, BranchCourse}
use Rattle.merc_plan.specs.Hold.{holding}
use Rattle.merc_plan.specs.Branches.{Plan, call_branch, first_name, root_branch}
use Rattle.merc_plan.specs.EachFork.{EachFork, JoinShows}
use Rattle.merc_plan.specs.BranchScript.{script, no_numbers, shown_by}
use Rattle.merc_plan.proofs.Deep.{node_deep}
use Rattle.merc_plan.proofs.Depths.{counted_law}
use Rattle.merc_plan.proofs.EachForks.{each_fork}
use Rattle.merc_plan.proofs.Flat.{Like, events}
use Rattle.merc_plan.proofs.Forms.{formed_root}
use Rattle.merc_plan.proofs.Givers.{node_within, call_within}
use Rattle.merc_plan.proofs.Joins.{end_law}
use Rattle.merc_plan.proofs.Judging.{flat, NamedFormed, Served, Sure, Quiet}
use Rattle.merc_plan.proofs.Shown.{Shown}
use Rattle.merc_plan.proofs.Likes.{like_seen}
use Rattle.merc_plan.proofs.Numbering.{numbered_formed}
use Rattle.merc_plan.proofs.NumberingSizes.{numbered_end}
use Rattle.merc_plan.proofs.Serves.{served_quiet}
use Rattle.merc_script_laws.specs.ScriptLaws.{goal_script, split_goal, split_plan, split_program}
use Rattle.merc_script_laws.proofs.AcceptedSound.{IsSoundProgram}
use Rattle.merc_script_laws.proofs.Alone.{bound_here, alone_fit, alone_match, alone_names, alone_ready, alone_fine}
use Rattle.merc_script_laws.proofs.Bonds.{Ends, Sound}
use Rattle.merc_script_laws.proofs.CallTrees.{AllGo, GoesAt, calls_go}
use Rattle.merc_script_laws.proofs.SplitPrograms.{goal_planned}

-- Given are a program of sound trees, a sound goal behind them before which nothing has a value, and a limit of steps.
module _ (known : Module) (trees : List Node) (sound : IsSoundProgram known trees) (types i : Instance) (out : Variables) (b : Bound) (seen : Known) (tree : Node) (is : Sound known types i out b seen tree)
    (fits : Fits known types i out b (in_node tree) seen []) (go : AllGo known (program_with known.preds trees) (split_plan trees tree) (split_program known.preds trees)) (limit : ℕ) where
  abbrev program : Program
  program = program_with known.preds trees

  abbrev plan : Plan
  plan = split_plan trees tree

  abbrev split_trees : Program
  split_trees = split_program known.preds trees

  abbrev pub alone_trace : Trace
  alone_trace = node_trace program (call_trace program (suc limit)) tree []

  abbrev pub alone : BranchCourse
  alone = root_branch plan split_trees (suc limit) (split_goal trees tree)

  goes : GoesAt known program plan split_trees types i (call_trace program (suc limit)) (call_branch plan split_trees (suc limit)) tree (length (all_sites trees))
  goes =
      go types i (suc limit) (sound.lawful (suc limit)) (call_branch plan split_trees (suc limit)) (calls_go known trees sound tree go (suc limit)) tree (length (all_sites trees))

  abbrev pub AloneEnds : Hold → Env → Type 0
  AloneEnds = Ends [] (bound_here b []) [] [] nothing (outputs_of tree) (holding [] first_name)

  pub alone_along : Like AloneEnds (flat alone) (events alone_trace) × Sure (Shown program) alone
  alone_along =
      goes.along nothing [] [] out b seen (bound_here b []) (holding [] first_name) [] (goal_planned trees tree) (λ x h. clash h refl) (λ x h. clash h refl) is fits (alone_fit b [] first_name) (alone_match [] first_name)
      (alone_ready known types i out b (in_node tree) seen [] fits) (alone_names [] first_name) (λ x h. clash h refl)

  pub alone_quiet : Quiet first_name [] alone
  alone_quiet =
      goes.quiet nothing out b seen (bound_here b []) (holding [] first_name) (goal_planned trees tree) is (alone_fine known types i out b (in_node tree) seen [] first_name fits) (alone_fit b [] first_name)
      (alone_ready known types i out b (in_node tree) seen [] fits) (alone_names [] first_name)

  pub alone_formed : limit ≤ most_steps → NamedFormed (λ c. None) 0 [] [] (script true limit 0 [] alone)
  alone_formed few = formed_root alone first_name limit 0 alone_quiet (node_within plan split_trees (call_branch plan split_trees (suc limit)) (λ procedure. call_within plan split_trees (suc limit) procedure) (split_goal trees tree) (λ c. false) (holding [] first_name) refl (tt, omega (arith))) (omega (arith, few))

  pub alone_well_formed : limit ≤ most_steps → WellFormed (goal_script known.preds trees tree limit)
  alone_well_formed few = numbered_formed (script true limit 0 [] alone) (alone_formed few)

  alone_served : Served true [] alone
  alone_served = served_quiet alone true first_name [] [] alone_quiet (λ c h. h)

  pub alone_shows : end_of (goal_script known.preds trees tree limit) ≡ shown_by 0 (cut limit alone_trace)
  alone_shows =
      numbered_end no_numbers 0 (script true limit 0 [] alone)
      ∙ end_law (Shown program) true alone limit 0 [] alone_served alone_along.1
      ∙ like_seen AloneEnds (flat alone) (events alone_trace) alone_along.0 true limit 0
      ∙ counted_law alone_trace limit

  pub alone_joins : EachFork (JoinShows program) true limit [] alone
  alone_joins =
      each_fork program true alone limit [] (node_deep plan split_trees limit (suc limit) (omega (arith)) (split_goal trees tree) (holding [] first_name)) alone_served alone_along.1
