-- The code of goals that meet nobody.
use Rattle.std.proofs.Common.{◌≡◌, ℕ, List, Option, Some, None, sym, ap, ◌∙◌, subst}
use Rattle.merc_graded_tree.specs.declared.basic.Procedure.{Procedure}
use Rattle.merc_graded_tree.specs.declared.entries.Running.TheVariants.{Sequential, Parallel}
use Rattle.merc_graded_tree.specs.Nodes.{Node, node, Goal, Basic, Conjunction, Disjunction, Switch, Conditional, Negation, Quantified, Nodes, no_nodes, more_nodes, Arms, no_arms, more_arms}
use Rattle.merc_meaning.specs.Runs.{Program, ProcedureBody, run}
use Rattle.merc_course.specs.Course.{RunCourse}
use Rattle.merc_course.specs.Shown.{shown}
use Rattle.merc_course.specs.Alone.{GoalMeetsNobody, MeetsNobody, AllMeetNobody, ArmsMeetNobody, BodyMeetsNobody, ProgramMeetsNobody}
use Rattle.merc_course.proofs.Wholes.{alone-runs, whole-shown}
use Rattle.merc_code.specs.Steps.{Code, Codes}
use Rattle.merc_code.specs.Meaning.{Yields, start}
use Rattle.merc_gen.specs.Generated.{codes_of, query_code}
use Rattle.merc_gen.specs.Sites.{Sites}
use Rattle.merc_gen.specs.Sited.{IsSitedGoal, IsSited, AreSited, AreSitedArms, IsSitedBody, IsSitedProgram}
use Rattle.merc_gen.specs.Following.{Follows, FollowsRun}
use Rattle.merc_gen.proofs.Theorem.{code-follows, same-code-follows}

-- one that forks nothing needs no sites
module _ (sites : Sites) where
  mutual
    sited-goal : (g : Goal) → GoalMeetsNobody g → IsSitedGoal sites g
    sited-goal (Basic g) h = tt
    sited-goal (Conjunction Sequential ns) h = sited-all ns h.1
    sited-goal (Conjunction (Parallel None) ns) h = sited-all ns h.1
    sited-goal (Conjunction (Parallel (Some site)) ns) h = absurd h.0
    sited-goal (Disjunction ns) h = sited-all ns h
    sited-goal (Switch x arms) h = sited-arms arms h
    sited-goal (Conditional c t e) h = (sited-node c h.0, sited-node t h.1, sited-node e h.2)
    sited-goal (Negation n) h = sited-node n h
    sited-goal (Quantified own n) h = sited-node n h

    pub sited-node : (n : Node) → MeetsNobody n → IsSited sites n
    sited-node (node g outputs category span) h = sited-goal g h

    sited-all : (ns : Nodes) → AllMeetNobody ns → AreSited sites ns
    sited-all no_nodes h = tt
    sited-all (more_nodes n ns) h = (sited-node n h.0, sited-all ns h.1)

    sited-arms : (arms : Arms) → ArmsMeetNobody arms → AreSitedArms sites arms
    sited-arms no_arms h = tt
    sited-arms (more_arms s n arms) h = (sited-node n h.0, sited-arms arms h.1)

  sited-body : (o : Option ProcedureBody) → BodyMeetsNobody o → IsSitedBody sites o
  sited-body None h = tt
  sited-body (Some p) h = sited-node p.body h

  pub sited-program : (program : Program) → ProgramMeetsNobody program → IsSitedProgram sites program
  sited-program program h = record { bodies = λ p. sited-body (program p) (h.bodies p) }

-- its course is its run
as-run : (program : Program) → ProgramMeetsNobody program → (goal : Node) → MeetsNobody goal → (variables : List ℕ) (codes : Codes) (code : Code)
    → Follows program goal variables codes code → FollowsRun program goal variables codes code
as-run program h goal g variables codes code f = record {
  each_limit_runs = λ limit.
      subst (λ (x : RunCourse). Yields codes (start code limit) x) (sym (whole-shown variables (run program goal limit) ∙ ap (shown variables) (alone-runs program h goal g limit)))
      (f.each_limit limit);
}

pub code-runs : (program : Program) → ProgramMeetsNobody program → (goal : Node) → MeetsNobody goal → (sites : Sites) (variables : List ℕ)
    → FollowsRun program goal variables (codes_of program sites) (query_code program goal variables)
code-runs program h goal g sites variables =
    as-run program h goal g variables (codes_of program sites) (query_code program goal variables)
    (code-follows program sites (sited-program sites program h) goal (sited-node sites goal g) variables)

pub same-code-runs : (program : Program) → ProgramMeetsNobody program → (goal : Node) → MeetsNobody goal → (sites : Sites) (variables : List ℕ) (codes : Codes)
    → ((procedure : Procedure) → codes.procedures procedure ≡ (codes_of program sites).procedures procedure) → ((site : ℕ) → codes.conjuncts site ≡ (codes_of program sites).conjuncts site)
    → FollowsRun program goal variables codes (query_code program goal variables)
same-code-runs program h goal g sites variables codes same both =
    as-run program h goal g variables codes (query_code program goal variables)
    (same-code-follows program sites (sited-program sites program h) goal (sited-node sites goal g) variables codes same both)
