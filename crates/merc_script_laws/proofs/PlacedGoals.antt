-- Goals of the split tree at the sites of the plan, from their parts.
use Rattle.std.proofs.Common.{ℕ, ◌+◌, Bool, List, [], ◌++◌, Option}
use Rattle.merc_base.specs.declared.category.Category.{Category}
use Rattle.merc_base.specs.declared.place.Span.{Span}
use Rattle.merc_tree.specs.declared.declarations.Module.{Module}
use Rattle.merc_graded_tree.specs.declared.basic.Procedure.{Procedure}
use Rattle.merc_graded_tree.specs.declared.entries.Running.TheVariants.{Sequential}
use Rattle.merc_graded_tree.specs.Nodes.{Node, node, Goal, Conjunction, Switch, Conditional, Quantified, Nodes, Arms}
use Rattle.merc_meaning.specs.Trace.{Env, Trace}
use Rattle.merc_meaning.specs.Runs.{Program}
use Rattle.merc_program_laws.specs.GoodPrograms.{AreGoodTypes}
use Rattle.merc_program_laws.proofs.Values.{Instance}
use Rattle.merc_program_laws.proofs.Calls.{LawfulCalls}
use Rattle.merc_rights.specs.Rights.{Right, used_in, unused_in, bound_in}
use Rattle.merc_par_split.specs.Forks.{forks}
use Rattle.merc_par_split.specs.Split.{nothing, placed, placed_goal, placed_in_turn, placed_arms}
use Rattle.merc_par_split.specs.Sites.{planned, planned_goal, planned_in_turn, planned_arms}
use Rattle.merc_par_split.proofs.PlannedCounts.{planned_count}
use Rattle.merc_plan.specs.Branch.{Hold, BranchCourse}
use Rattle.merc_plan.specs.Branches.{Plan}
use Rattle.merc_script_laws.proofs.Bonds.{Planned, Goes}
use Rattle.merc_script_laws.proofs.Placing.{planned_front, planned_back, goes_fewer, goes_place}
use Rattle.merc_script_laws.proofs.InTurn.{ListGoes}
use Rattle.merc_script_laws.proofs.SwitchArms.{ArmsGo}
use Rattle.merc_script_laws.proofs.Turns.{goes_conj, goes_quantified}
use Rattle.merc_script_laws.proofs.Switches.{goes_switch}
use Rattle.merc_script_laws.proofs.Conditionals.{goes_if}

-- Given are the module, the types of the variables, and what type variables stand for; the program of the graded trees, whose calls are lawful; and the plan and
-- the program of the split trees, with the courses of its calls.
module _ (known : Module) (types i : Instance) (declared : AreGoodTypes known.types) (program : Program) (calls : Procedure → Env → Trace) (lawful : LawfulCalls known program calls)
    (plan : Plan) (split : Program) (course : Procedure → Hold → BranchCourse) where
  -- a goal with the sites from a number on
  abbrev pub NodeGoes : ℕ → Node → Type 1
  NodeGoes site n = Goes known types i program calls plan split course n (λ later w s. placed site later w s n) (λ later w s. Planned plan site (planned later w s n))

  abbrev pub AllGo : ℕ → Nodes → Type 1
  AllGo site ns = ListGoes known types i declared program calls lawful plan split course ns (λ later w s. placed_in_turn site later w s ns) (λ later w s. Planned plan site (planned_in_turn later w s ns))

  abbrev pub ArmsGoAt : ℕ → Arms → Type 1
  ArmsGoAt site arms = ArmsGo known types i declared program calls lawful plan split course arms (λ later w s. placed_arms site later w s arms) (λ later w s. Planned plan site (planned_arms later w s arms))

  module _ (site : ℕ) (outs : List ℕ) (cat : Option Category) (span : Span) where
    -- before signals are put behind it where it may fail
    abbrev pub GoalGoes : Goal → Type 1
    GoalGoes g = Goes known types i program calls plan split course (node g outs cat span) (λ later w s. placed_goal site later w s g outs cat span) (λ later w s. Planned plan site (planned_goal later w s g outs))

    pub placed_node : (g : Goal) → GoalGoes g → NodeGoes site (node g outs cat span)
    placed_node g goes = goes_place known types i program calls plan split course site g outs cat span (λ later w s. placed_goal site later w s g outs cat span) (λ later w s. planned_goal later w s g outs) goes

    pub placed_conj : (ns : Nodes) → AllGo site ns → GoalGoes (Conjunction Sequential ns)
    placed_conj ns all =
        goes_conj known types i declared program calls lawful plan split course outs cat span ns (λ later w s. placed_in_turn site later w s ns) (λ later w s. Planned plan site (planned_in_turn later w s ns)) all

    pub placed_quantified : (own : List ℕ) (n : Node) → NodeGoes site n → GoalGoes (Quantified own n)
    placed_quantified own n goes =
        goes_quantified known types i declared program calls lawful plan split course outs cat span own n (λ later w s. placed site later w s n) (λ later w s. Planned plan site (planned later w s n)) goes

    pub placed_switch : (x : ℕ) (arms : Arms) → ArmsGoAt site arms → GoalGoes (Switch x arms)
    placed_switch x arms all =
        goes_switch known types i declared program calls lawful plan split course x arms outs cat span (λ later w s. placed_arms site later w s arms) (λ later w s. Planned plan site (planned_arms later w s arms)) all

    pub placed_if : (c t e : Node) → NodeGoes site c → NodeGoes (site + forks c) t → NodeGoes (site + forks c + forks t) e → GoalGoes (Conditional c t e)
    placed_if c t e gc gt ge =
        goes_fewer known types i program calls plan split course (node (Conditional c t e) outs cat span) (λ later w s. placed_goal site later w s (Conditional c t e) outs cat span) due
        (λ later w s. Planned plan site (planned_goal later w s (Conditional c t e) outs)) in_parts
        (goes_if known types i declared program calls lawful plan split course c t e outs cat span (λ later w s. placed site later w s c) (λ later w s. placed (site + forks c) later w s t)
        (λ later w s. placed (site + forks c + forks t) later w s e) due_c due_t due_e gc gt ge) where
          due_c : (ℕ → Bool) → List Right → List Right → Type 0
          due_c later w s = Planned plan site (planned later w s c)

          due_t : (ℕ → Bool) → List Right → List Right → Type 0
          due_t later w s = Planned plan (site + forks c) (planned later w s t)

          due_e : (ℕ → Bool) → List Right → List Right → Type 0
          due_e later w s = Planned plan (site + forks c + forks t) (planned later w s e)

          due : (ℕ → Bool) → List Right → List Right → Type 0
          due later w s =
              let inner = unused_in c w in
              due_c nothing [] [] × (due_t later (used_in t inner) (bound_in t s) × due_e later (used_in e inner) (bound_in e s))

          in_parts : (later : ℕ → Bool) (w s : List Right) → Planned plan site (planned_goal later w s (Conditional c t e) outs) → due later w s
          in_parts later w s h =
              let inner = unused_in c w in
              let xs = planned nothing [] [] c in
              let ys = planned later (used_in t inner) (bound_in t s) t in
              let zs = planned later (used_in e inner) (bound_in e s) e in
              let rest = planned_back plan site (forks c) xs (ys ++ zs) (planned_count c nothing [] []) h in
              (planned_front plan site xs (ys ++ zs) h, (planned_front plan (site + forks c) ys zs rest, planned_back plan (site + forks c) (forks t) ys zs (planned_count t later (used_in t inner) (bound_in t s)) rest))
