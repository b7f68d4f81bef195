-- Calls at each depth: where each split goal goes as its trace, so do they.
use Rattle.std.proofs.Common.{◌≡◌, ◌⊎◌, inl, inr, ℕ, zero, suc, true, is_some, List, [], length, Option, Some, refl, sym, ◌∙◌, subst}
use Rattle.merc_tree.specs.declared.declarations.ModeDecl.{ModeDecl}
use Rattle.merc_tree.specs.declared.declarations.PredDecl.{PredDecl}
use Rattle.merc_tree.specs.declared.declarations.Module.{Module}
use Rattle.merc_graded_tree.specs.declared.basic.Procedure.{Procedure}
use Rattle.merc_graded_tree.specs.Nodes.{Node, outputs_of}
use Rattle.merc_graded_tree.specs.Variables.{in_node}
use Rattle.merc_order.specs.Bound.{among}
use Rattle.merc_order.specs.Procedures.{bound_at, numbers_below, modes_of}
use Rattle.merc_order_laws.specs.Laws.{BindsHeads}
use Rattle.merc_order_laws.proofs.Bodies.{below_are}
use Rattle.merc_order_laws.proofs.Facts.{clash, or_cases}
use Rattle.merc_value.specs.Value.{Value}
use Rattle.merc_meaning.specs.Trace.{Env, Trace}
use Rattle.merc_meaning.specs.Steps.{value_at}
use Rattle.merc_meaning.specs.Truth.{is_argument}
use Rattle.merc_meaning.specs.Runs.{Program, ProcedureBody, body_trace, node_trace, call_trace}
use Rattle.merc_meaning.specs.Programs.{program_with}
use Rattle.merc_program_laws.specs.Answers.{Never}
use Rattle.merc_program_laws.specs.CategoryLaws.{Enters}
use Rattle.merc_program_laws.proofs.Values.{Instance, some_of}
use Rattle.merc_program_laws.proofs.Lawful.{Fits}
use Rattle.merc_program_laws.proofs.Calls.{LawfulCalls}
use Rattle.merc_program_laws.proofs.Graded.{ends_zero}
use Rattle.merc_program_laws.proofs.Procedures.{body_fits}
use Rattle.merc_program_laws.proofs.TreeCategories.{node_law}
use Rattle.merc_par_split.specs.Split.{nothing, placed, split}
use Rattle.merc_par_split.specs.Sites.{planned}
use Rattle.merc_plan.specs.Branch.{Hold, BranchCourse}
use Rattle.merc_plan.specs.Hold.{holding}
use Rattle.merc_plan.specs.Branches.{Plan, body_branch, call_branch, node_branch}
use Rattle.merc_plan.proofs.Flat.{Each, Like, Tick, events}
use Rattle.merc_plan.proofs.Judging.{flat, Sure, Quiet}
use Rattle.merc_plan.proofs.Shown.{Shown}
use Rattle.merc_plan.proofs.Likes.{like_more, like_with}
use Rattle.merc_script_laws.specs.ScriptLaws.{split_plan, split_program}
use Rattle.merc_script_laws.proofs.AcceptedSound.{IsSoundProgram, SoundProcedure, sound_body}
use Rattle.merc_script_laws.proofs.Alone.{bound_here, alone_fit, alone_match, alone_names, alone_ready, alone_fine}
use Rattle.merc_script_laws.proofs.Bonds.{Here, Ends, Goes, Planned}
use Rattle.merc_script_laws.proofs.CallLeaves.{HeadsAgree, CallGoes, CallsGo}
use Rattle.merc_script_laws.proofs.HoldLaw.{each_event}
use Rattle.merc_script_laws.proofs.SplitPrograms.{HasSplitBody, split_body}

-- Given are the module, the program of the graded trees, and the plan and the program of the split trees.
module _ (known : Module) (program : Program) (plan : Plan) (split_trees : Program) where
  -- a goal whose sites have numbers from here on goes, where the plan has them
  abbrev pub GoesAt : (types i : Instance) → (Procedure → Env → Trace) → (Procedure → Hold → BranchCourse) → Node → ℕ → Type 1
  GoesAt types i calls course n site =
      Goes known types i program calls plan split_trees course n (λ later w s. placed site later w s n) (λ later w s. Planned plan site (planned later w s n))

  -- each goal goes at each depth of calls, where calls do
  abbrev pub AllGo : Type 1
  AllGo = (types i : Instance) (depth : ℕ) → LawfulCalls known program (call_trace program depth) → (course : Procedure → Hold → BranchCourse) → CallsGo known program (call_trace program depth) split_trees course
      → (n : Node) (site : ℕ) → GoesAt types i (call_trace program depth) course n site

-- Given is a program of sound trees, and a goal that is asked behind them.
module _ (known : Module) (trees : List Node) (sound : IsSoundProgram known trees) (goal : Node) where
  abbrev program : Program
  program = program_with known.preds trees

  abbrev plan : Plan
  plan = split_plan trees goal

  abbrev split_trees : Program
  split_trees = split_program known.preds trees

  abbrev calls : ℕ → Procedure → Env → Trace
  calls depth = call_trace program depth

  abbrev course : ℕ → Procedure → Hold → BranchCourse
  course depth = call_branch plan split_trees depth

  module _ (depth : ℕ) (p : Procedure) (declared : PredDecl) (mode : ModeDecl) (is : SoundProcedure known (program p) declared mode) where
    abbrev tree : Node
    tree = is.body.tree

    abbrev whole : ProcedureBody
    whole = record { places = mode.args; body = is.body.tree }

    module _ (at : HasSplitBody known.preds trees goal p whole) (i : Instance) (goes : GoesAt known program plan split_trees is.body.types i (calls depth) (course depth) tree at.site)
        (env : Env) (next : ℕ) (enters : Enters known.types i mode.args declared.args env) where
      abbrev inner : BranchCourse
      inner = node_branch plan split_trees (course depth) (split at.site tree) (holding env next)

      abbrev trace : Trace
      trace = node_trace program (calls depth) tree env

      body_there : Fits known is.body.types i (is_argument mode.args) (bound_at mode.args) (in_node tree) [] env
      body_there = body_fits known declared mode is.body is.good i env enters

      abbrev Alike : Hold → Env → Type 0
      Alike = Ends env (bound_here (bound_at mode.args) env) [] [] nothing (outputs_of tree) (holding env next)

      body_along : Like Alike (flat inner) (events trace) × Sure (Shown program) inner
      body_along =
          goes.along nothing [] [] (is_argument mode.args) (bound_at mode.args) [] (bound_here (bound_at mode.args) env) (holding env next) env at.planned (λ x h. clash h refl) (λ x h. clash h refl)
          (sound_body known (program p) declared mode is i) body_there (alone_fit (bound_at mode.args) env next) (alone_match env next)
          (alone_ready known is.body.types i (is_argument mode.args) (bound_at mode.args) (in_node tree) [] env body_there) (alone_names env next) (λ x h. clash h refl)

      body_quiet : Quiet next [] inner
      body_quiet =
          goes.quiet nothing (is_argument mode.args) (bound_at mode.args) [] (bound_here (bound_at mode.args) env) (holding env next) at.planned (sound_body known (program p) declared mode is i)
          (alone_fine known is.body.types i (is_argument mode.args) (bound_at mode.args) (in_node tree) [] env next body_there) (alone_fit (bound_at mode.args) env next)
          (alone_ready known is.body.types i (is_argument mode.args) (bound_at mode.args) (in_node tree) [] env body_there) (alone_names env next)

      head_here : (e : Hold) (q : Env) → Alike e q → (x : ℕ) → (bound_at mode.args x ≡ true) ⊎ (among (outputs_of tree) x ≡ true) → (v : Value) × (Here e x v × (value_at q x ≡ Some v))
      head_here e q k x (inl h) =
          let b : is_some (value_at env x) ≡ true = enters.bindings x ∙ h in
          let v = some_of (value_at env x) b in
          let here = k.0.keep x v.0 (h, b) v.1 in
          (v.0, (here, k.1.0 x v.0 here))
      head_here e q k x (inr h) = let v = k.0.fresh x h in (v.0, (v.1, k.1.0 x v.0 v.1))

      heads_agree : BindsHeads (modes_of known.preds) (numbers_below (length declared.args)) (bound_at mode.args) tree → Like (HeadsAgree (length declared.args)) (flat inner) (events trace)
      heads_agree (inl z) =
          let good = sound_body known (program p) declared mode is i in
          let law = node_law known sound.good_types program (calls depth) (sound.lawful depth) is.body.types i tree (is_argument mode.args) (bound_at mode.args) [] env good.good good.graded good.parts body_there in
          let never : Each (λ q. ⊥) (events trace)
          = each_event Never trace (law.no_answer (ends_zero known.types (modes_of known.preds) is.body.types tree [] (is_argument mode.args) (bound_at mode.args) good.good good.graded z)) in
          like_more (λ e q. Alike e q × ⊥) (HeadsAgree (length declared.args)) (λ e q k. absurd k.1) (flat inner) (events trace) (like_with Alike (λ q. ⊥) (flat inner) (events trace) body_along.0 never)
      heads_agree (inr h) =
          like_more Alike (HeadsAgree (length declared.args))
          (λ e q k x l. head_here e q k x (or_cases (bound_at mode.args x) (among (outputs_of tree) x) (h x (below_are (length declared.args) x l)))) (flat inner) (events trace) body_along.0

    -- a call at one depth more
    one_more : (at : HasSplitBody known.preds trees goal p whole) → ((i : Instance) → GoesAt known program plan split_trees is.body.types i (calls depth) (course depth) tree at.site)
        → CallGoes known program (calls (suc depth)) split_trees (course (suc depth)) p declared mode
    one_more at goes = record {
      procedure = record { places = mode.args; body = split at.site tree };
      there = at.there;
      places = refl;
      along = λ i env next enters.
          subst (λ (o : Option ProcedureBody). Like (HeadsAgree (length declared.args)) (Tick (flat (body_branch plan split_trees (course depth) o (holding env next)))) (events (calls (suc depth) p env))
          × Sure (Shown program) (body_branch plan split_trees (course depth) o (holding env next))) (sym at.there)
          (subst (λ (o : Option ProcedureBody). Like (HeadsAgree (length declared.args)) (flat (inner at i (goes i) env next enters)) (events (body_trace program (calls depth) o env))
          × Sure (Shown program) (inner at i (goes i) env next enters)) (sym is.there)
          (heads_agree at i (goes i) env next enters is.good.binds_head, (body_along at i (goes i) env next enters).1));
      quiet = λ i env next enters.
          subst (λ (o : Option ProcedureBody). Quiet next [] (body_branch plan split_trees (course depth) o (holding env next))) (sym at.there) (body_quiet at i (goes i) env next enters);
    }

  pub calls_go : AllGo known program plan split_trees → (depth : ℕ) → CallsGo known program (calls depth) split_trees (course depth)
  calls_go go zero p declared mode is =
      let body = sound.procedures p declared mode is in
      let at = split_body known.preds trees goal p (record { places = mode.args; body = body.body.tree }) body.there in
      record {
        procedure = record { places = mode.args; body = split at.site body.body.tree };
        there = at.there;
        places = refl;
        along = λ i env next enters. (refl, tt);
        quiet = λ i env next enters. tt;
      }
  calls_go go (suc depth) p declared mode is =
      let body = sound.procedures p declared mode is in
      let at = split_body known.preds trees goal p (record { places = mode.args; body = body.body.tree }) body.there in
      one_more depth p declared mode body at
      (λ i. go body.body.types i depth (sound.lawful depth) (course depth) (calls_go go depth) body.body.tree at.site)
