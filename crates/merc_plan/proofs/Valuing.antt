-- The waits of a goal that is asked go on with the values that its cells have, so that its machine stands at its script.
use Rattle.std.proofs.Common.{◌≡◌, ℕ, zero, suc, ◌+◌, ◌≤◌, true, List, [], ◌∷◌, ◌++◌, length, drop, Some, None, slice_get, refl, ap, subst, ◌∙◌, arith}
use Rattle.std.specs.List.{AllByRecursion}
use Rattle.merc_tree.specs.declared.declarations.ModeDecl.{ModeDecl}
use Rattle.merc_tree.specs.declared.declarations.PredDecl.{PredDecl}
use Rattle.merc_graded_tree.specs.Nodes.{Node}
use Rattle.merc_meaning.specs.Runs.{Program, ProcedureBody}
use Rattle.merc_meaning.specs.Programs.{body_of, body_of_mode, program_with}
use Rattle.merc_core.specs.WellFormed.{most_steps, cells_of, value_in}
use Rattle.merc_course.specs.Courses.{course}
use Rattle.merc_rights.specs.declared.sites.SiteInfo.{SiteInfo}
use Rattle.merc_par_split.specs.Forks.{forks}
use Rattle.merc_par_split.specs.Split.{nothing, split, all_split}
use Rattle.merc_par_split.specs.Sites.{sites, all_sites}
use Rattle.merc_par_split.proofs.PlannedCounts.{planned_count, sites_append}
use Rattle.merc_plan.specs.Branches.{first_name, Plan, root_branch}
use Rattle.merc_plan.specs.BranchScript.{root_script}
use Rattle.merc_plan.specs.PlanLists.{plan_of}
use Rattle.merc_plan.specs.Stands.{Stands}
use Rattle.merc_plan.proofs.Judging.{Quiet}
use Rattle.merc_plan.proofs.Standing.{Valued}
use Rattle.merc_plan.proofs.StandingAt.{root_stands}
use Rattle.merc_plan.proofs.Forms.{formed_root}
use Rattle.merc_plan.proofs.Givers.{branch_within}
use Rattle.merc_plan.proofs.TellingNodes.{Prompt, ArePrompt, root_tells}
use Rattle.merc_plan.proofs.Knowing.{valued_root}
use Rattle.merc_plan.proofs.Placing.{none_plus, BindsOnce, HasSites, has_front, has_back, split_prompt}

-- Given are the plan and the procedures, where waits for what conjuncts bind stand directly behind their forks.
module _ (plan : Plan) (program : Program) (prompt : ArePrompt plan program) (goal : Node) (is_prompt : Prompt plan goal) where
  pub root_valued : (limit : ℕ) → Quiet first_name [] (root_branch plan program (suc limit) goal) → Valued (λ c. None) true limit [] (root_branch plan program (suc limit) goal)
  root_valued limit quiet =
      valued_root (root_branch plan program (suc limit) goal) first_name first_name limit quiet (branch_within plan program (suc limit) goal first_name (omega arith))
      (root_tells plan program prompt (suc limit) goal is_prompt)

  pub root_at_script : (limit : ℕ) → limit ≤ most_steps → Quiet first_name [] (root_branch plan program (suc limit) goal)
      → Stands (value_in (cells_of (root_script plan program goal limit))) (course program goal limit) (root_script plan program goal limit)
  root_at_script limit few quiet =
      root_stands plan program goal limit (root_valued limit quiet)
      (formed_root (root_branch plan program (suc limit) goal) first_name limit 0 quiet (branch_within plan program (suc limit) goal first_name (omega arith)) (omega (arith, few)))

-- The split trees of a program and of a goal that is asked behind it.

modes_are : (Is : Node → Type 0) (modes : List ModeDecl) (trees : List Node) (number : ℕ) (body : ProcedureBody) → AllByRecursion Is trees → body_of_mode modes trees number ≡ Some body → Is body.body
modes_are Is [] trees number body all e = absurd (cc)
modes_are Is (mode ∷ modes) [] number body all e = absurd (cc)
modes_are Is (mode ∷ modes) (tree ∷ trees) zero body all e = subst (λ (n : Node). Is n) (body_same (record { places = mode.args; body = tree }) body e) all.0
  where
    body_same : (one other : ProcedureBody) → Some one ≡ Some other → one.body ≡ other.body
    body_same one other e = cc
modes_are Is (mode ∷ modes) (tree ∷ trees) (suc number) body all e = modes_are Is modes trees number body all.1 e

drop_are : (Is : Node → Type 0) (n : ℕ) (trees : List Node) → AllByRecursion Is trees → AllByRecursion Is (drop n trees)
drop_are Is zero trees all = all
drop_are Is (suc n) [] all = tt
drop_are Is (suc n) (tree ∷ trees) all = drop_are Is n trees all.1

-- the body of each procedure is such, where all trees are
pub bodies_are : (Is : Node → Type 0) (predicates : List PredDecl) (trees : List Node) (predicate mode : ℕ) (body : ProcedureBody) → AllByRecursion Is trees
    → body_of predicates trees predicate mode ≡ Some body → Is body.body
bodies_are Is [] trees predicate mode body all e = absurd (cc)
bodies_are Is (declared ∷ rest) trees zero mode body all e = modes_are Is declared.modes trees mode body all e
bodies_are Is (declared ∷ rest) trees (suc predicate) mode body all e =
    bodies_are Is rest (drop (length declared.modes) trees) predicate mode body (drop_are Is (length declared.modes) trees all) e

all_prompt : (plan : Plan) (site : ℕ) (trees : List Node) → AllByRecursion BindsOnce trees → HasSites plan site (all_sites trees) → AllByRecursion (Prompt plan) (all_split site trees)
all_prompt plan site [] b h = tt
all_prompt plan site (tree ∷ trees) b h = (
  split_prompt plan site tree b.0 (has_front plan site (sites tree) (all_sites trees) h),
  all_prompt plan (site + forks tree) trees b.1 (has_back plan site (forks tree) (sites tree) (all_sites trees) (planned_count tree nothing [] []) h),
)

pub listed_sites : (infos : List SiteInfo) → HasSites (plan_of infos) 0 infos
listed_sites infos number info e = ap (λ (k : ℕ). slice_get infos k) (omega arith) ∙ e

module _ (predicates : List PredDecl) (trees : List Node) (goal : Node) (once : AllByRecursion BindsOnce trees) (goal_once : BindsOnce goal) where
  abbrev plan : Plan
  plan = plan_of (all_sites (trees ++ goal ∷ []))

  abbrev program : Program
  program = program_with predicates (all_split 0 trees)

  abbrev whole : Node
  whole = split (length (all_sites trees)) goal

  pub planned : HasSites plan 0 (all_sites trees ++ all_sites (goal ∷ []))
  planned = subst (λ infos. HasSites plan 0 infos) (sites_append trees (goal ∷ [])) (listed_sites (all_sites (trees ++ goal ∷ [])))

  pub program_prompt : ArePrompt plan program
  program_prompt procedure body e =
      bodies_are (Prompt plan) predicates (all_split 0 trees) procedure.predicate procedure.mode body
      (all_prompt plan 0 trees once (has_front plan 0 (all_sites trees) (all_sites (goal ∷ [])) planned)) e

  pub goal_prompt : Prompt plan whole
  goal_prompt =
      split_prompt plan (length (all_sites trees)) goal goal_once
      (has_front plan (length (all_sites trees)) (sites goal) []
      (subst (λ (n : ℕ). HasSites plan n (all_sites (goal ∷ []))) (none_plus (length (all_sites trees)))
      (has_back plan 0 (length (all_sites trees)) (all_sites trees) (all_sites (goal ∷ [])) refl planned)))

  pub split_valued : (limit : ℕ) → Quiet first_name [] (root_branch plan program (suc limit) whole) → Valued (λ c. None) true limit [] (root_branch plan program (suc limit) whole)
  split_valued limit quiet = root_valued plan program program_prompt whole goal_prompt limit quiet

  -- its machine
  pub split_stands : (limit : ℕ) → limit ≤ most_steps → Quiet first_name [] (root_branch plan program (suc limit) whole)
      → Stands (value_in (cells_of (root_script plan program whole limit))) (course program whole limit) (root_script plan program whole limit)
  split_stands limit few quiet = root_at_script plan program program_prompt whole goal_prompt limit few quiet
