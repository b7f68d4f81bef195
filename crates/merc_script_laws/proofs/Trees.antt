-- Each goal of the split trees goes as its trace.
use Rattle.std.proofs.Common.{◌≡◌, ℕ, suc, ◌+◌, Bool, true, false, if◌then◌else◌, nat_eq, List, [], Option, Some, subst}
use Rattle.merc_base.specs.declared.category.Category.{Category}
use Rattle.merc_base.specs.declared.place.Span.{Span}
use Rattle.merc_tree.specs.declared.declarations.Module.{Module}
use Rattle.merc_graded_tree.specs.declared.basic.Procedure.{Procedure}
use Rattle.merc_graded_tree.specs.declared.entries.Running.TheVariants.{Sequential, Parallel}
use Rattle.merc_graded_tree.specs.Nodes.{Node, node, Goal, Basic, Conjunction, Disjunction, Switch, Conditional, Negation, Quantified, Nodes, no_nodes, more_nodes, Arms, no_arms, more_arms}
use Rattle.merc_meaning.specs.Trace.{Env, Trace}
use Rattle.merc_meaning.specs.Runs.{Program}
use Rattle.merc_program_laws.specs.GoodPrograms.{AreGoodTypes}
use Rattle.merc_program_laws.proofs.Values.{Instance, none_not, same_some}
use Rattle.merc_program_laws.proofs.Calls.{LawfulCalls}
use Rattle.merc_par_split.specs.Forks.{forks}
use Rattle.merc_par_split.specs.Split.{nothing, placed, placed_goal, placed_in_turn, placed_arms, placed_alone}
use Rattle.merc_par_split.specs.Sites.{planned, planned_goal, planned_in_turn, planned_arms, planned_alone}
use Rattle.merc_par_split.proofs.PlannedCounts.{planned_count}
use Rattle.merc_plan.specs.Branch.{Hold, BranchCourse}
use Rattle.merc_plan.specs.Branches.{Plan}
use Rattle.merc_script_laws.proofs.Bonds.{Goes, Planned}
use Rattle.merc_script_laws.proofs.CallLeaves.{CallsGo, leaf_basic}
use Rattle.merc_script_laws.proofs.CallTrees.{GoesAt}
use Rattle.merc_script_laws.proofs.ForkShows.{AtDepth}
use Rattle.merc_script_laws.proofs.Forks.{goes_par}
use Rattle.merc_script_laws.proofs.InTurn.{ListGoes, list_none, in_turn_goes}
use Rattle.merc_script_laws.proofs.JoinedLeaves.{EachGoes, each_none, each_one, leaf_disj, leaf_not}
use Rattle.merc_script_laws.proofs.PlacedGoals.{placed_node, placed_conj, placed_quantified, placed_switch, placed_if}
use Rattle.merc_script_laws.proofs.Placing.{planned_front, planned_back}
use Rattle.merc_script_laws.proofs.Runs.{goes_leaf}
use Rattle.merc_script_laws.proofs.Sites.{nth}
use Rattle.merc_script_laws.proofs.SwitchArms.{ArmsGo, no_arms_go, arms_go}

-- Given are the module, the types of the variables, and what type variables stand for; the program of the graded trees, whose calls are lawful; and the plan and
-- the program of the split trees, whose calls go along those, up to some depth.
module _ (known : Module) (types i : Instance) (declared : AreGoodTypes known.types) (program : Program) (calls : Procedure → Env → Trace) (lawful : LawfulCalls known program calls)
    (plan : Plan) (split : Program) (course : Procedure → Hold → BranchCourse) (go : CallsGo known program calls split course) (deep : AtDepth program calls) where
  abbrev pub At : Node → ℕ → Type 1
  At n site = GoesAt known program plan split types i calls course n site

  abbrev pub In : Goal → List ℕ → Option Category → Span → ℕ → Type 1
  In g outs cat span site =
      Goes known types i program calls plan split course (node g outs cat span) (λ later w s. placed_goal site later w s g outs cat span) (λ later w s. Planned plan site (planned_goal later w s g outs))

  goes_which : (m n : Node) (ns : Nodes) (at k : ℕ) (z : Bool) → ((site : ℕ) → At m site) → (nth at k ns ≡ Some n → (site : ℕ) → At n site) → (if z then Some m else nth at k ns) ≡ Some n → (site : ℕ) → At n site
  goes_which m n ns at k true one rest e site = subst (λ (v : Node). At v site) (same_some e) (one site)
  goes_which m n ns at k false one rest e site = rest e site

  mutual
    pub goes_node : (n : Node) (site : ℕ) → At n site
    goes_node (node g outs cat span) site = placed_node known types i declared program calls lawful plan split course site outs cat span g (goes_in g outs cat span site)

    goes_in : (g : Goal) (outs : List ℕ) (cat : Option Category) (span : Span) (site : ℕ) → In g outs cat span site
    goes_in (Basic g) outs cat span site =
        goes_leaf known types i declared program calls lawful plan split course (Basic g) (Basic g) outs cat span (λ later w s. Planned plan site [])
        (λ later w s fit. leaf_basic known types i program calls lawful split course go plan outs cat span declared g)
    goes_in (Conjunction Sequential ns) outs cat span site = placed_conj known types i declared program calls lawful plan split course site outs cat span ns (goes_list ns site)
    goes_in (Conjunction (Parallel place) ns) outs cat span site =
        goes_par known types i declared program calls lawful plan split course place ns outs cat span site (λ k n e at. goes_at ns 1 k n e at) deep
    goes_in (Disjunction ns) outs cat span site =
        goes_leaf known types i declared program calls lawful plan split course (Disjunction ns) (Disjunction (placed_alone site ns)) outs cat span (λ later w s. Planned plan site (planned_alone ns))
        (λ later w s fit. leaf_disj known types i declared program calls lawful plan split course ns (placed_alone site ns) outs cat span (goes_each ns site fit))
    goes_in (Switch x arms) outs cat span site = placed_switch known types i declared program calls lawful plan split course site outs cat span x arms (goes_arms arms site)
    goes_in (Conditional c t e) outs cat span site =
        placed_if known types i declared program calls lawful plan split course site outs cat span c t e (goes_node c site) (goes_node t (site + forks c)) (goes_node e (site + forks c + forks t))
    goes_in (Negation n) outs cat span site =
        goes_leaf known types i declared program calls lawful plan split course (Negation n) (Negation (placed site nothing [] [] n)) outs cat span (λ later w s. Planned plan site (planned nothing [] [] n))
        (λ later w s fit. leaf_not known types i declared program calls lawful plan split course n (λ later1 w1 s1. placed site later1 w1 s1 n) (λ later1 w1 s1. Planned plan site (planned later1 w1 s1 n)) (goes_node n site) fit outs cat span)
    goes_in (Quantified own n) outs cat span site = placed_quantified known types i declared program calls lawful plan split course site outs cat span own n (goes_node n site)

    goes_list : (ns : Nodes) (site : ℕ) → ListGoes known types i declared program calls lawful plan split course ns (λ later w s. placed_in_turn site later w s ns) (λ later w s. Planned plan site (planned_in_turn later w s ns))
    goes_list no_nodes site = list_none known types i declared program calls lawful plan split course (λ later w s. Planned plan site [])
    goes_list (more_nodes n ns) site = in_turn_goes known types i declared program calls lawful plan split course site n ns (goes_node n site) (goes_list ns (site + forks n))

    goes_each : (ns : Nodes) (site : ℕ) → Planned plan site (planned_alone ns) → EachGoes known types i declared program calls lawful plan split course ns (placed_alone site ns)
    goes_each no_nodes site fit = each_none known types i declared program calls lawful plan split course
    goes_each (more_nodes n ns) site fit =
        each_one known types i declared program calls lawful plan split course n (λ later w s. placed site later w s n) (λ later w s. Planned plan site (planned later w s n)) (goes_node n site)
        (planned_front plan site (planned nothing [] [] n) (planned_alone ns) fit) ns (placed_alone (site + forks n) ns)
        (goes_each ns (site + forks n) (planned_back plan site (forks n) (planned nothing [] [] n) (planned_alone ns) (planned_count n nothing [] []) fit))

    goes_at : (ns : Nodes) (at k : ℕ) (n : Node) → nth at k ns ≡ Some n → (site : ℕ) → At n site
    goes_at no_nodes at k n e site = absurd (none_not e)
    goes_at (more_nodes m ns) at k n e site = goes_which m n ns (suc at) k (nat_eq k at) (λ s. goes_node m s) (λ q s. goes_at ns (suc at) k n q s) e site

    goes_arms : (arms : Arms) (site : ℕ) → ArmsGo known types i declared program calls lawful plan split course arms (λ later w s. placed_arms site later w s arms) (λ later w s. Planned plan site (planned_arms later w s arms))
    goes_arms no_arms site = no_arms_go known types i declared program calls lawful plan split course (λ later w s. Planned plan site [])
    goes_arms (more_arms symbol n arms) site = arms_go known types i declared program calls lawful plan split course site symbol n arms (goes_node n site) (goes_arms arms (site + forks n))
