-- The rights that a board deals out to the branches of an accepted goal find the cells of its script.
use Rattle.std.proofs.Common.{ℕ, suc, true, false, List, [], ◌∷◌, ◌++◌, length, Option, None, refl, subst}
use Rattle.std.specs.List.{AllByRecursion}
use Rattle.merc_tree.specs.declared.declarations.PredDecl.{PredDecl}
use Rattle.merc_graded_tree.specs.Nodes.{Node}
use Rattle.merc_order.specs.Bound.{nothing, among}
use Rattle.merc_order.specs.Procedures.{modes_of}
use Rattle.merc_core.specs.WellFormed.{cells_of, value_in}
use Rattle.merc_meaning.specs.Runs.{run}
use Rattle.merc_meaning.specs.Programs.{program_with}
use Rattle.merc_meaning.specs.Shown.{shown}
use Rattle.merc_course.specs.Course.{RunCourse}
use Rattle.merc_course.specs.Courses.{course}
use Rattle.merc_course.specs.Shown.{shown as course_shown}
use Rattle.merc_value.specs.Value.{Value}
use Rattle.merc_par_split.specs.Sites.{sites, all_sites}
use Rattle.merc_par_split.specs.Split.{all_split}
use Rattle.merc_board.specs.Rights.{no_rights}
use Rattle.merc_plan.specs.Branches.{first_name, Plan, root_branch}
use Rattle.merc_plan.specs.BranchScript.{script, root_script}
use Rattle.merc_plan.proofs.Judging.{NamedFormed, Quiet}
use Rattle.merc_plan.proofs.Placing.{none_plus, BindsOnce, HasSites, has_front, has_back}
use Rattle.merc_plan.proofs.Valuing.{bodies_are, planned, program_prompt, goal_prompt, split_valued}
use Rattle.merc_script_laws.specs.ScriptLaws.{goal_script, split_goal, split_plan, split_program}
use Rattle.merc_script_laws.proofs.AcceptedSound.{IsSoundGoal, accepted_sound, accepted_goal_sound}
use Rattle.merc_script_laws.proofs.AcceptedScripts.{any, all_go}
use Rattle.merc_script_laws.proofs.BindingOnce.{binds_once}
use Rattle.merc_script_laws.proofs.Top.{alone_quiet, alone_formed}
use Rattle.merc_shown_laws.proofs.Roots.{roots_show}
use Rattle.merc_branch_laws.specs.Dealing.{Deals}
use Rattle.merc_branch_laws.specs.BranchLaws.{split_sites, GoalsKeepToScripts, RightsFindCells}
use Rattle.merc_branch_laws.proofs.Siting.{Sited, split_sited, all_split_sited}
use Rattle.merc_branch_laws.proofs.LookingNodes.{AreSited, root_looks}
use Rattle.merc_branch_laws.proofs.DealingAt.{root_deals}
use Rattle.merc_branch_laws.proofs.Runs.{keeps, deals_shown}

-- The split trees of a program and of a goal that is asked behind it.
module _ (predicates : List PredDecl) (trees : List Node) (goal : Node) (once : AllByRecursion BindsOnce trees) (goal_once : BindsOnce goal) where
  abbrev plan : Plan
  plan = split_plan trees goal

  all_planned : HasSites plan 0 (all_sites trees ++ all_sites (goal ∷ []))
  all_planned = planned predicates trees goal once goal_once

  program_sited : AreSited plan (split_program predicates trees)
  program_sited procedure body e =
      bodies_are (Sited plan false) predicates (all_split 0 trees) procedure.predicate procedure.mode body
      (all_split_sited plan 0 trees (has_front plan 0 (all_sites trees) (all_sites (goal ∷ [])) all_planned)) e

  goal_sited : Sited plan false (split_goal trees goal)
  goal_sited =
      split_sited plan (length (all_sites trees)) goal
      (has_front plan (length (all_sites trees)) (sites goal) []
      (subst (λ (n : ℕ). HasSites plan n (all_sites (goal ∷ []))) (none_plus (length (all_sites trees)))
      (has_back plan 0 (length (all_sites trees)) (all_sites trees) (all_sites (goal ∷ [])) refl all_planned)))

  pub split_deals : (limit : ℕ) → Quiet first_name [] (root_branch plan (split_program predicates trees) (suc limit) (split_goal trees goal))
      → NamedFormed (λ c. None) 0 [] [] (script true limit 0 [] (root_branch plan (split_program predicates trees) (suc limit) (split_goal trees goal)))
      → Deals (split_sites trees goal) (value_in (cells_of (root_script plan (split_program predicates trees) (split_goal trees goal) limit))) no_rights limit 0
      (course (split_program predicates trees) (split_goal trees goal) limit) (root_script plan (split_program predicates trees) (split_goal trees goal) limit)
  split_deals limit quiet formed =
      root_deals (split_sites trees goal) (split_program predicates trees) (split_goal trees goal) limit
      (root_looks plan (split_program predicates trees) (program_prompt predicates trees goal once goal_once) program_sited (suc limit) (split_goal trees goal)
      (goal_prompt predicates trees goal once goal_once) goal_sited)
      (split_valued predicates trees goal once goal_once limit quiet) formed

pub rights_find : RightsFindCells
rights_find before after text items found trees is names asked goal accepted tree graded limit few =
    let sound = accepted_sound before after text items found trees is in
    let g : IsSoundGoal found tree = accepted_goal_sound before after text items found trees is names asked goal accepted tree graded in
    split_deals found.preds trees tree sound.once (binds_once (modes_of found.preds) tree (among g.answers) nothing (g.sound any).good) limit
    (alone_quiet found trees sound g.types any (among g.answers) nothing [] tree (g.sound any) (g.fits any) (all_go found trees sound tree) limit)
    (alone_formed found trees sound g.types any (among g.answers) nothing [] tree (g.sound any) (g.fits any) (all_go found trees sound tree) limit few)

-- With the goal's run, of which the same variables are shown.
pub goals_keep : GoalsKeepToScripts
goals_keep before after text items found trees is names asked goal accepted tree graded limit few variables within =
    let script = goal_script found.preds trees tree limit in
    let values : (ℕ → Option Value) = value_in (cells_of script) in
    let whole : RunCourse = course (split_program found.preds trees) (split_goal trees tree) limit in
    keeps (split_sites trees tree) values no_rights limit 0 (shown variables (run (program_with found.preds trees) tree limit)) (course_shown variables whole) script
    (deals_shown (split_sites trees tree) values variables no_rights limit 0 whole script (rights_find before after text items found trees is names asked goal accepted tree graded limit few))
    (roots_show before after text items found trees is names asked goal accepted tree graded limit few variables within)
