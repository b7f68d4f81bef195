-- What an accepted goal does beside others shows its run along its script.
use Rattle.std.proofs.Common.{◌≡◌, inl, inr, ℕ, suc, ◌≤◌, true, List, [], ◌∷◌, map, refl, ap, sym, subst, ◌∙◌}
use Rattle.merc_tree.specs.Types.{IntType}
use Rattle.merc_tree.specs.declared.declarations.Module.{Module}
use Rattle.merc_graded_tree.specs.Nodes.{Node, outputs_of}
use Rattle.merc_graded_tree.specs.Variables.{in_node}
use Rattle.merc_order.specs.Bound.{nothing, among}
use Rattle.merc_order.specs.Procedures.{modes_of}
use Rattle.merc_order_laws.specs.Laws.{BindsHeads}
use Rattle.merc_meaning.specs.Trace.{Env, Trace, Run, Ends, Tick as EventTick, Answer as EventAnswer, Done as TraceDone, Raised as TraceRaised, TooDeep as TraceTooDeep, cut}
use Rattle.merc_meaning.specs.Steps.{value_at}
use Rattle.merc_meaning.specs.Runs.{Program, call_trace}
use Rattle.merc_meaning.specs.Programs.{program_with}
use Rattle.merc_meaning.specs.Shown.{shown}
use Rattle.merc_check.specs.Accepted.{query_answers}
use Rattle.merc_program_laws.specs.Answers.{Each, Never}
use Rattle.merc_program_laws.proofs.Graded.{ends_zero}
use Rattle.merc_program_laws.proofs.Lawful.{Fits}
use Rattle.merc_program_laws.proofs.TreeCategories.{node_law}
use Rattle.merc_program_laws.proofs.Values.{Instance, among_here, among_there}
use Rattle.merc_core.specs.WellFormed.{most_steps, cells_of, value_in}
use Rattle.merc_course.specs.Courses.{course}
use Rattle.merc_course.specs.Shown.{shown as course_shown}
use Rattle.merc_plan.specs.Branch.{Hold}
use Rattle.merc_plan.specs.Branches.{first_name}
use Rattle.merc_plan.proofs.Flat.{Flat, Done, Halts, Tick, Answer, Like, events}
use Rattle.merc_plan.proofs.Judging.{flat, Served}
use Rattle.merc_plan.proofs.Likes.{like_more}
use Rattle.merc_plan.proofs.Serves.{served_quiet}
use Rattle.merc_plan.proofs.Shown.{Shown}
use Rattle.merc_plan.proofs.Valuing.{split_valued}
use Rattle.merc_script_laws.specs.Parallel.{AreWithin}
use Rattle.merc_script_laws.specs.ScriptLaws.{goal_script, split_goal, split_plan, split_program}
use Rattle.merc_script_laws.proofs.AcceptedSound.{IsSoundProgram, accepted_sound}
use Rattle.merc_script_laws.proofs.BindingOnce.{binds_once}
use Rattle.merc_script_laws.proofs.Bonds.{Sound}
use Rattle.merc_script_laws.proofs.CallTrees.{AllGo}
use Rattle.merc_script_laws.proofs.Top.{alone_trace, alone, AloneEnds, alone_along, alone_quiet, alone_formed}
use Rattle.merc_script_laws.proofs.Trees.{goes_node}
use Rattle.merc_shown_laws.specs.Shows.{Shows}
use Rattle.merc_shown_laws.specs.ShownLaws.{ShowsItsRun, RootsShowRuns}
use Rattle.merc_shown_laws.proofs.AskedGoals.{IsAsked, accepted_asked}
use Rattle.merc_shown_laws.proofs.RunOf.{Agree, run_of, run_same}
use Rattle.merc_shown_laws.proofs.Showing.{root_shows}

-- what type variables stand for is not seen
abbrev any : Instance
any x = IntType

all_go : (known : Module) (trees : List Node) (sound : IsSoundProgram known trees) (tree : Node) → AllGo known (program_with known.preds trees) (split_plan trees tree) (split_program known.preds trees)
all_go known trees sound tree types i depth lawful course go n site =
    let program = program_with known.preds trees in
    goes_node known types i sound.good_types program (call_trace program depth) lawful (split_plan trees tree) (split_program known.preds trees) course go (depth, refl) n site

-- variables that have the same values
agree_on : (xs : List ℕ) (one other : Env) → ((x : ℕ) → among xs x ≡ true → value_at one x ≡ value_at other x) → map (value_at one) xs ≡ map (value_at other) xs
agree_on [] one other h = refl
agree_on (x ∷ xs) one other h =
    ap (λ v. v ∷ map (value_at one) xs) (h x (among_here x xs)) ∙ ap (λ vs. value_at other x ∷ vs) (agree_on xs one other (λ y m. h y (among_there y x xs m)))

-- of a trace without answers nothing is to be shown of these
like_never : {A : Type 0} (R Q : A → Env → Type 0) (t : Flat A) (trace : Trace) → Like R t (events trace) → Each Never trace → Like Q t (events trace)
like_never R Q Done (Ends TraceDone) h n = tt
like_never R Q t (Ends TraceDone) h n = absurd h
like_never R Q (Halts g) (Ends (TraceRaised text)) h n = h
like_never R Q t (Ends (TraceRaised text)) h n = absurd h
like_never R Q (Halts g) (Ends TraceTooDeep) h n = h
like_never R Q t (Ends TraceTooDeep) h n = absurd h
like_never R Q (Tick t) (EventTick u) h n = like_never R Q t u h n
like_never R Q (Answer a t) (EventAnswer env u) h n = absurd n.0
like_never R Q t trace h n = absurd h

-- Given are a program of sound trees, a sound goal behind them with its answer variables, before which nothing has a value, and a limit of steps.
module _ (known : Module) (trees : List Node) (sound : IsSoundProgram known trees) (types i : Instance) (answers : List ℕ) (tree : Node) (is : Sound known types i (among answers) nothing [] tree)
    (fits : Fits known types i (among answers) nothing (in_node tree) [] []) (binds : BindsHeads (modes_of known.preds) answers nothing tree) (limit : ℕ) (variables : List ℕ) (within : AreWithin variables answers) where
  abbrev program : Program
  program = program_with known.preds trees

  go : AllGo known program (split_plan trees tree) (split_program known.preds trees)
  go = all_go known trees sound tree

  abbrev trace : Trace
  trace = alone_trace known trees sound types i (among answers) nothing [] tree is fits go limit

  abbrev FoundEnds : Hold → Env → Type 0
  FoundEnds = AloneEnds known trees sound types i (among answers) nothing [] tree is fits go limit

  abbrev flat_course : Flat Hold
  flat_course = flat (alone known trees sound types i (among answers) nothing [] tree is fits go limit)

  ends_agree : AreWithin answers (outputs_of tree) → (hold : Hold) (env : Env) → FoundEnds hold env → Agree variables hold env
  ends_agree outputs hold env h = agree_on variables hold.env env (λ x m. let v = h.0.fresh x (outputs x (within x m)) in v.1 ∙ sym (h.1.0 x v.0 v.1))

  shows_alike : Like (Agree variables) flat_course (events trace)
  shows_alike =
      let along : Like FoundEnds flat_course (events trace) = (alone_along known trees sound types i (among answers) nothing [] tree is fits go limit).0 in
      elim binds as (λ _. Like (Agree variables) flat_course (events trace)) [
        | inl z ↦ like_never FoundEnds (Agree variables) flat_course trace along
            ((node_law known sound.good_types program (call_trace program (suc limit)) (sound.lawful (suc limit)) types i tree (among answers) nothing [] [] is.good is.graded is.parts fits).no_answer
            (ends_zero known.types (modes_of known.preds) types tree [] (among answers) nothing is.good is.graded z))
        | inr outputs ↦ like_more FoundEnds (Agree variables) (ends_agree outputs) flat_course (events trace) along
      ]

  pub goal_shows : limit ≤ most_steps → ShowsItsRun known.preds trees tree limit variables
  goal_shows few =
      let quiet = alone_quiet known trees sound types i (among answers) nothing [] tree is fits go limit in
      subst (λ (r : Run). Shows (value_in (cells_of (goal_script known.preds trees tree limit))) limit r (course_shown variables (course (split_program known.preds trees) (split_goal trees tree) limit))
      (goal_script known.preds trees tree limit)) (run_same variables flat_course trace shows_alike limit)
      (root_shows variables (Shown program) (split_plan trees tree) (split_program known.preds trees) (split_goal trees tree) limit
      (split_valued known.preds trees tree sound.once (binds_once (modes_of known.preds) tree (among answers) nothing is.good) limit quiet)
      (alone_formed known trees sound types i (among answers) nothing [] tree is fits go limit few)
      (served_quiet (alone known trees sound types i (among answers) nothing [] tree is fits go limit) true first_name [] [] quiet (λ c h. h))
      (alone_along known trees sound types i (among answers) nothing [] tree is fits go limit).1)

pub roots_show : RootsShowRuns
roots_show before after text items found trees is names asked goal accepted tree graded limit few variables within =
    let sound = accepted_sound before after text items found trees is in
    let g : IsAsked found (query_answers names found goal) tree = accepted_asked before after text items found trees is names asked goal accepted tree graded in
    goal_shows found trees sound g.types any (query_answers names found goal) tree (g.sound any) (g.fits any) g.binds limit variables within few
