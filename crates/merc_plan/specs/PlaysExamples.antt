-- Worked examples of courses of branches and of what belongs to them, at `X = 1 & Y = X` of which Y is asked.
use Rattle.std.specs.Prelude.{◌≡◌, ℕ, pos, List, [], ◌∷◌, Option, Some, None, slice_get, refl}
use Rattle.merc_base.specs.declared.category.Category.TheVariants.{Det}
use Rattle.merc_value.specs.Value.{Value, Int}
use Rattle.merc_goal_tree.specs.declared.goal.Symbol.TheVariants.{Integer}
use Rattle.merc_graded_tree.specs.declared.basic.BasicGoal.{BasicGoal}
use Rattle.merc_graded_tree.specs.declared.basic.BasicGoal.TheVariants.{Assign, Build, Wait, Signal}
use Rattle.merc_graded_tree.specs.declared.entries.Running.TheVariants.{Sequential, Parallel}
use Rattle.merc_graded_tree.specs.Nodes.{Node, Goal, Basic, Conjunction, nodes_of}
use Rattle.merc_meaning.specs.Trace.{Done}
use Rattle.merc_meaning.specs.Runs.{Program}
use Rattle.merc_meaning.specs.RunExamples.{graded}
use Rattle.merc_course.specs.Course.{GoalCourse, Reply, Ends, Tick, Meets, AtWait, AtSignal, no_courses, more_courses, one_answer}
use Rattle.merc_course.specs.Courses.{node_course, call_course}
use Rattle.merc_rights.specs.declared.sites.SiteInfo.{SiteInfo}
use Rattle.merc_par_split.specs.Split.{split}
use Rattle.merc_par_split.specs.Sites.{sites}
use Rattle.merc_plan.specs.Branch.{Fork, BranchCourse, Over, Breaks, Steps, Finds, Awaits, Gives, Forks, no_branches, more_branches, Starving}
use Rattle.merc_plan.specs.Hold.{holding}
use Rattle.merc_plan.specs.Branches.{Plan, node_branch, call_branch, root_branch}
use Rattle.merc_plan.specs.Plays.{Plays, ends_done, steps, finds, waits, starves, hands, forks, PlayAll, play_none, play_more}

abbrev pub int : ℕ → Option Value
int number = Some (Int (pos number))

abbrev pub one : Value
one = Int (pos 1)

abbrev of : Goal → List ℕ → Node
of goal outputs = graded Det goal outputs

abbrev basic : BasicGoal → List ℕ → Node
basic goal outputs = of (Basic goal) outputs

abbrev sequence : List Node → List ℕ → Node
sequence goals outputs = of (Conjunction Sequential (nodes_of goals)) outputs

abbrev is_one : Node
is_one = basic (Build 0 (Integer (pos 1)) []) (0 ∷ [])

abbrev is_same : Node
is_same = basic (Assign 1 0) (1 ∷ [])

-- The conjuncts as they are written, and as they are split: the first signals X to the second, which waits for it and signals Y to the goals behind.
abbrev asked : Node
asked = of (Conjunction (Parallel None) (nodes_of (is_one ∷ is_same ∷ []))) (1 ∷ [])

abbrev first : Node
first = sequence (is_one ∷ basic (Signal 0 2) [] ∷ []) (0 ∷ [])

abbrev second : Node
second = sequence (basic (Wait 0 2) [] ∷ is_same ∷ basic (Signal 1 0) [] ∷ []) (1 ∷ [])

abbrev pub both : Node
both = sequence (of (Conjunction (Parallel (Some (record { number = 0 }))) (nodes_of (first ∷ second ∷ []))) (1 ∷ []) ∷ basic (Wait 1 0) [] ∷ []) (1 ∷ [])

abbrev info : SiteInfo
info = record {
  children = 2;
  cells = record { variable = 0; producer = 1; consumer = 2 } ∷ record { variable = 1; producer = 2; consumer = 0 } ∷ [];
  moves = [];
}

both-split : split 0 asked ≡ both
both-split = refl

both-sites : sites asked ≡ info ∷ []
both-sites = refl

abbrev pub plan : Plan
plan site = slice_get (info ∷ []) site

abbrev pub program : Program
program procedure = None

-- The course of the branch: X has the cell 1 and Y the cell 2, and each conjunct has used its rights where it has answered.

abbrev pub fork : Fork
fork = record {
  cells = record { cell = 1; variable = 0; producer = 1; consumer = 2 } ∷ record { cell = 2; variable = 1; producer = 2; consumer = 0 } ∷ [];
  moves = [];
  goals = nodes_of (first ∷ second ∷ []);
  before = holding [] 1;
}

abbrev first_branch : BranchCourse
first_branch = Gives 1 one (Finds (holding (int 1 ∷ []) 3) Over)

abbrev second_branch : BranchCourse
second_branch = Awaits 1 (Some one) (Gives 2 one (Finds (holding (int 1 ∷ int 1 ∷ []) 3) Over))

abbrev pub both_branch : BranchCourse
both_branch = Forks 0 fork (more_branches first_branch (more_branches second_branch no_branches)) (Awaits 2 (Some one) (Finds (holding (None ∷ int 1 ∷ []) 1) Over))

branch-example : root_branch plan program 3 both ≡ both_branch
branch-example = refl

-- without a right to wait there is no value
branch-starves : node_branch plan program (call_branch plan program 3) second (holding [] 1) ≡ Awaits 0 None (Breaks Starving)
branch-starves = refl

branch-not : root_branch plan program 3 both ≡ Forks 0 fork no_branches Over → ⊥
branch-not forks_nobody = cc

-- The course of the goal, which goes on by what it is told.

abbrev waiting : ℕ → (Reply → GoalCourse) → GoalCourse
waiting variable next = Meets (AtWait variable) no_courses next

abbrev signalling : ℕ → Value → GoalCourse → GoalCourse
signalling variable value rest = Meets (AtSignal variable value) no_courses (λ reply. rest)

abbrev pub both_course : GoalCourse
both_course = node_course program (call_course program 3) both []

first-plays : Plays (signalling 0 one (one_answer (int 1 ∷ []))) first_branch
first-plays = hands 0 1 one _ _ _ (finds (holding (int 1 ∷ []) 3) _ _ ends_done)

both-plays : Plays both_course both_branch
both-plays =
    forks 0 fork _ _ _ _
    (play_more _ _ first_branch _ (hands 0 1 one _ _ _ ends_done)
    (play_more _ _ second_branch _ (waits 0 1 one _ _ _ (hands 1 2 one _ _ _ ends_done)) play_none))
    (λ steps. waits 1 2 one _ _ _ (finds (holding (None ∷ int 1 ∷ []) 1) _ _ ends_done))

-- to a branch that waits without a value belongs what waits, whatever it would do
starves-plays : Plays (waiting 0 (λ reply. Tick (Ends Done))) (Awaits 0 None (Breaks Starving))
starves-plays = starves 0 0 _ _

steps-plays : Plays (Tick (Ends Done)) (Steps Over)
steps-plays = steps _ _ ends_done

steps-not : Plays (Tick (Ends Done)) Over → ⊥
steps-not plays = elim plays [ ]

-- another value is signalled
first-not : Plays (signalling 0 one (Ends Done)) (Gives 0 (Int (pos 2)) Over) → ⊥
first-not plays = elim plays [ ]

-- a conjunct ends at its first answer
conjunct-not : PlayAll (more_courses (signalling 0 one (one_answer (int 1 ∷ []))) no_courses) (more_branches first_branch no_branches) → ⊥
conjunct-not (play_more _ _ _ _ (hands _ _ _ _ _ _ behind) rest) = elim behind [ ]
