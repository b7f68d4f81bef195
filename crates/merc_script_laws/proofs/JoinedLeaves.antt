-- Disjunctions and negations beside other branches: nothing is pushed into them.
use Rattle.std.proofs.Common.{◌≡◌, inl, inr, ℕ, Bool, true, List, [], ◌∷◌, ◌++◌, Option, refl, ap, sym, ◌∙◌, subst}
use Rattle.std.specs.List.{AllByRecursion}
use Rattle.merc_base.specs.declared.category.Category.{Category}
use Rattle.merc_base.specs.declared.place.Span.{Span}
use Rattle.merc_tree.specs.declared.declarations.Module.{Module}
use Rattle.merc_graded_tree.specs.declared.basic.Procedure.{Procedure}
use Rattle.merc_graded_tree.specs.Nodes.{Node, node, Disjunction, Negation, Nodes, no_nodes, more_nodes, outputs_of}
use Rattle.merc_graded_tree.specs.Variables.{in_node, in_nodes}
use Rattle.merc_order.specs.Bound.{Bound, among}
use Rattle.merc_order.specs.Procedures.{modes_of}
use Rattle.merc_order_laws.specs.Bindings.{Variables}
use Rattle.merc_order_laws.specs.GoodTree.{GoodDisjuncts}
use Rattle.merc_order_laws.specs.WrittenGoals.{basic_goals, all_basic_goals}
use Rattle.merc_order_laws.proofs.Facts.{clash, or_left, or_right}
use Rattle.merc_order_laws.proofs.Written.{all_left, all_right}
use Rattle.merc_grading.specs.Known.{Known}
use Rattle.merc_grading.specs.Faults.{parallel_faults, all_faults}
use Rattle.merc_meaning.specs.Trace.{Env, Trace, after as t_after, negated as t_negated}
use Rattle.merc_meaning.specs.Runs.{Program, answers_once, node_trace, any_trace}
use Rattle.merc_program_laws.specs.Answers.{Never}
use Rattle.merc_program_laws.specs.GoodPrograms.{AreGoodTypes}
use Rattle.merc_program_laws.proofs.Values.{Instance}
use Rattle.merc_program_laws.proofs.Lawful.{Fits}
use Rattle.merc_program_laws.proofs.Calls.{LawfulCalls}
use Rattle.merc_program_laws.proofs.Graded.{GradedEach, ends_zero}
use Rattle.merc_program_laws.proofs.TreeCategories.{IsPart, node_law}
use Rattle.merc_rights.specs.Rights.{Right}
use Rattle.merc_par_split.specs.Split.{nothing}
use Rattle.merc_plan.specs.Branch.{Hold, BranchCourse, after as c_after, negated as c_negated}
use Rattle.merc_plan.specs.Branches.{Plan, node_branch, any_branch}
use Rattle.merc_plan.proofs.Flat.{Flat, Each, Like, after, negated, events}
use Rattle.merc_plan.proofs.Judging.{flat, Sure, Quiet}
use Rattle.merc_plan.proofs.Shown.{Shown}
use Rattle.merc_plan.proofs.Likes.{like_after, like_negated, like_more, like_with}
use Rattle.merc_plan.proofs.Flats.{flat_after, sure_after, flat_negated, sure_negated}
use Rattle.merc_plan.proofs.Events.{events_after, events_negated}
use Rattle.merc_plan.proofs.Holds.{quiet_after, quiet_negated, quiet_once}
use Rattle.merc_script_laws.specs.Parallel.{AreWithin, ArmHas, EachKeepsOutputs, AllHaveFew}
use Rattle.merc_script_laws.proofs.Bonds.{Set, Fit, Fine, Match, Names, Moves, Ends, Ready, Sound, Goes}
use Rattle.merc_script_laws.proofs.HoldLaw.{each_event}
use Rattle.merc_script_laws.proofs.Leaf.{Leaf, moves_none, wrap}

-- A part of a goal.

pub ready_less : (here : Set) (w : List Right) (b : Bound) (uses less : ℕ → Bool) → ((x : ℕ) → less x ≡ true → uses x ≡ true) → Ready here w b uses → Ready here w b less
ready_less here w b uses less i r x u h = r x (i x u) h

pub fewer_outputs : (here : Set) (w s : List Right) (later : ℕ → Bool) (outs less : List ℕ) (hold hold' : Hold) → AreWithin less outs → Moves here w s later outs hold hold' → Moves here w s later less hold hold'
fewer_outputs here w s later outs less hold hold' i m =
    record { keep = m.keep; fresh = λ x h. m.fresh x (i x h); got = m.got; rest = m.rest; old = m.old; next = m.next; names = m.names; signed = m.signed; still = m.still; unsigned = m.unsigned }

no_first : {A : Type 0} (xs ys : List A) → xs ++ ys ≡ [] → xs ≡ []
no_first [] ys h = refl
no_first (x ∷ xs) ys h = absurd cc

no_rest : {A : Type 0} (xs ys : List A) → xs ++ ys ≡ [] → ys ≡ []
no_rest [] ys h = h
no_rest (x ∷ xs) ys h = absurd cc

-- Given are the module, the types of the variables, and what type variables stand for.
module _ (known : Module) (types i : Instance) where
  pub fits_less : (out : Variables) (b : Bound) (occurs less : Variables) (seen : Known) (env : Env) → ((x : ℕ) → less x ≡ true → occurs x ≡ true) → Fits known types i out b occurs seen env → Fits known types i out b less seen env
  fits_less out b occurs less seen env s fits = record { bounds = λ x o. fits.bounds x (s x o); outer = λ x o h. fits.outer x (s x o) h; typed = fits.typed; knows = fits.knows }

  pub fine_less : (out : Variables) (b : Bound) (occurs less : Variables) (seen : Known) (hold : Hold) → ((x : ℕ) → less x ≡ true → occurs x ≡ true) → Fine known types i out b occurs seen hold → Fine known types i out b less seen hold
  fine_less out b occurs less seen hold s fine = record {
    exact = λ x v o h. fine.exact x v (s x o) h;
    outer = λ x o h. fine.outer x (s x o) h;
    typed = fine.typed;
    typed_owed = fine.typed_owed;
    bound = λ x k o e. fine.bound x k (s x o) e;
    knows = fine.knows;
    knows_owed = λ x c s1 v o e p. fine.knows_owed x c s1 v (s x o) e p;
  }

  -- the disjuncts of a sound disjunction with these outputs
  pub record SoundEach (out : Variables) (b : Bound) (outs : List ℕ) (seen : Known) (ns : Nodes) : Type 0 where
    pub good : GoodDisjuncts (modes_of known.preds) out b ns
    pub graded : GradedEach known.types (modes_of known.preds) types seen ns
    pub parts : AllByRecursion (IsPart known types i) (all_basic_goals ns)
    pub outputs : EachKeepsOutputs (modes_of known.preds) outs ns
    pub beside : all_faults ns ≡ []
    pub few : AllHaveFew ns

  sound_each : (out : Variables) (b : Bound) (seen : Known) (ns : Nodes) (outs : List ℕ) (category : Option Category) (span : Span) → Sound known types i out b seen (node (Disjunction ns) outs category span) → SoundEach out b outs seen ns
  sound_each out b seen ns outs category span sound =
      record { good = sound.good.2.0; graded = sound.graded.1; parts = sound.parts; outputs = sound.parallel.outputs; beside = sound.parallel.beside; few = sound.parallel.few }

  sound_first : (out : Variables) (b : Bound) (outs : List ℕ) (seen : Known) (n : Node) (ns : Nodes) → SoundEach out b outs seen (more_nodes n ns) → Sound known types i out b seen n
  sound_first out b outs seen n ns sound = record {
    good = sound.good.0;
    graded = sound.graded.0;
    parts = all_left (IsPart known types i) (basic_goals n) (all_basic_goals ns) sound.parts;
    parallel = record { outputs = sound.outputs.0.0; beside = no_first (parallel_faults n) (all_faults ns) sound.beside; few = sound.few.0 };
  }

  sound_rest : (out : Variables) (b : Bound) (outs : List ℕ) (seen : Known) (n : Node) (ns : Nodes) → SoundEach out b outs seen (more_nodes n ns) → SoundEach out b outs seen ns
  sound_rest out b outs seen n ns sound = record {
    good = sound.good.1;
    graded = sound.graded.1;
    parts = all_right (IsPart known types i) (basic_goals n) (all_basic_goals ns) sound.parts;
    outputs = sound.outputs.1;
    beside = no_rest (parallel_faults n) (all_faults ns) sound.beside;
    few = sound.few.1;
  }

  sound_denied : (out : Variables) (b : Bound) (seen : Known) (n : Node) (outs : List ℕ) (category : Option Category) (span : Span) → Sound known types i out b seen (node (Negation n) outs category span) → Sound known types i out b seen n
  sound_denied out b seen n outs category span sound = record {
    good = sound.good.2.0;
    graded = sound.graded.1;
    parts = sound.parts;
    parallel = record { outputs = sound.parallel.outputs.0; beside = sound.parallel.beside; few = sound.parallel.few };
  }

-- Given is a program whose calls are lawful.
module _ (known : Module) (types i : Instance) (declared : AreGoodTypes known.types) (program : Program) (calls : Procedure → Env → Trace) (lawful : LawfulCalls known program calls) where
  -- a part whose end cannot be reached, or that has all outputs of the whole, answers as the whole does
  pub arm_answers : (n : Node) (outs : List ℕ) (out : Variables) (b : Bound) (seen : Known) (here : Set) (w s : List Right) (later : ℕ → Bool) (hold : Hold) (full : Env) → Sound known types i out b seen n
      → Fits known types i out b (in_node n) seen full → ArmHas (modes_of known.preds) outs n → (t : Flat Hold) → Like (Ends full here w s later (outputs_of n) hold) t (events (node_trace program calls n full))
      → Like (Ends full here w s later outs hold) t (events (node_trace program calls n full))
  arm_answers n outs out b seen here w s later hold full sound fits (inl e) t like =
      let law = node_law known declared program calls lawful types i n out b seen full sound.good sound.graded sound.parts fits in
      let never : Each (λ q. ⊥) (events (node_trace program calls n full))
      = each_event Never (node_trace program calls n full) (law.no_answer (ends_zero known.types (modes_of known.preds) types n seen out b sound.good sound.graded e)) in
      like_more (λ e q. Ends full here w s later (outputs_of n) hold e q × ⊥) (Ends full here w s later outs hold) (λ e q k. absurd k.1) t (events (node_trace program calls n full))
      (like_with (Ends full here w s later (outputs_of n) hold) (λ q. ⊥) t (events (node_trace program calls n full)) like never)
  arm_answers n outs out b seen here w s later hold full sound fits (inr h) t like =
      like_more (Ends full here w s later (outputs_of n) hold) (Ends full here w s later outs hold) (λ e q k. (fewer_outputs here w s later (outputs_of n) outs hold e h k.0, k.1)) t (events (node_trace program calls n full)) like

  module _ (plan : Plan) (split_program : Program) (course : Procedure → Hold → BranchCourse) where
    -- what the disjuncts of a disjunction do
    pub record EachGoes (ns ms : Nodes) : Type 1 where
      pub along : (out : Variables) (b : Bound) (outs : List ℕ) (seen : Known) (here : Set) (hold : Hold) (full : Env) → SoundEach known types i out b outs seen ns → Fits known types i out b (in_nodes ns) seen full → Fit b here [] hold
          → Match [] hold full → Ready here [] b (in_nodes ns) → Names hold
          → Like (Ends full here [] [] nothing outs hold) (flat (any_branch plan split_program course ms hold)) (events (any_trace program calls ns full)) × Sure (Shown program) (any_branch plan split_program course ms hold)
      pub quiet : (out : Variables) (b : Bound) (outs : List ℕ) (seen : Known) (here : Set) (hold : Hold) → SoundEach known types i out b outs seen ns → Fine known types i out b (in_nodes ns) seen hold → Fit b here [] hold
          → Ready here [] b (in_nodes ns) → Names hold → Quiet hold.next [] (any_branch plan split_program course ms hold)

    pub each_none : EachGoes no_nodes no_nodes
    each_none = record { along = λ out b outs seen here hold full sound fits f t r names. (tt, tt); quiet = λ out b outs seen here hold sound fine f r names. tt }

    module _ (n : Node) (make : (ℕ → Bool) → List Right → List Right → Node) (fits_in : (ℕ → Bool) → List Right → List Right → Type 0) (first : Goes known types i program calls plan split_program course n make fits_in)
        (planned : fits_in nothing [] []) where
      abbrev one_course : Hold → BranchCourse
      one_course hold = node_branch plan split_program course (make nothing [] []) hold

      first_along : (out : Variables) (b : Bound) (seen : Known) (here : Set) (hold : Hold) (full : Env) → Sound known types i out b seen n → Fits known types i out b (in_node n) seen full → Fit b here [] hold
          → Match [] hold full → Ready here [] b (in_node n) → Names hold
          → Like (Ends full here [] [] nothing (outputs_of n) hold) (flat (one_course hold)) (events (node_trace program calls n full)) × Sure (Shown program) (one_course hold)
      first_along out b seen here hold full sound fits f t r names =
          first.along nothing [] [] out b seen here hold full planned (λ x h. clash h refl) (λ x h. clash h refl) sound fits f t r names (λ x h. clash h refl)

      pub each_one : (ns ms : Nodes) → EachGoes ns ms → EachGoes (more_nodes n ns) (more_nodes (make nothing [] []) ms)
      each_one ns ms rest = record { along = along; quiet = quiet } where
        in_first : (x : ℕ) → in_node n x ≡ true → in_nodes (more_nodes n ns) x ≡ true
        in_first x h = or_left (in_node n x) (in_nodes ns x) h

        in_rest : (x : ℕ) → in_nodes ns x ≡ true → in_nodes (more_nodes n ns) x ≡ true
        in_rest x h = or_right (in_node n x) (in_nodes ns x) h

        rest_course : Hold → BranchCourse
        rest_course hold = any_branch plan split_program course ms hold

        along : (out : Variables) (b : Bound) (outs : List ℕ) (seen : Known) (here : Set) (hold : Hold) (full : Env) → SoundEach known types i out b outs seen (more_nodes n ns)
            → Fits known types i out b (in_nodes (more_nodes n ns)) seen full → Fit b here [] hold → Match [] hold full → Ready here [] b (in_nodes (more_nodes n ns)) → Names hold
            → Like (Ends full here [] [] nothing outs hold) (flat (c_after (one_course hold) (rest_course hold))) (events (any_trace program calls (more_nodes n ns) full)) × Sure (Shown program) (c_after (one_course hold) (rest_course hold))
        along out b outs seen here hold full sound fits f t r names =
            let R : Hold → Env → Type 0 = Ends full here [] [] nothing outs hold in
            let s1 = sound_first known types i out b outs seen n ns sound in
            let fits1 = fits_less known types i out b (in_nodes (more_nodes n ns)) (in_node n) seen full in_first fits in
            let one = first_along out b seen here hold full s1 fits1 f t (ready_less here [] b (in_nodes (more_nodes n ns)) (in_node n) in_first r) names in
            let all = rest.along out b outs seen here hold full (sound_rest known types i out b outs seen n ns sound) (fits_less known types i out b (in_nodes (more_nodes n ns)) (in_nodes ns) seen full in_rest fits) f t
            (ready_less here [] b (in_nodes (more_nodes n ns)) (in_nodes ns) in_rest r) names in
            let u = node_trace program calls n full in
            let us = any_trace program calls ns full in (
              subst (λ (z : Flat Hold). Like R z (events (t_after u us))) (sym (flat_after (Shown program) (one_course hold) (rest_course hold) one.1))
                  (subst (λ (z : Flat Env). Like R (after (flat (one_course hold)) (flat (rest_course hold))) z) (sym (events_after u us))
                  (like_after R (flat (one_course hold)) (events u) (flat (rest_course hold)) (events us) (arm_answers n outs out b seen here [] [] nothing hold full s1 fits1 sound.outputs.0.1 (flat (one_course hold)) one.0) all.0)),
              sure_after (Shown program) (one_course hold) (rest_course hold) one.1 all.1,
            )

        quiet : (out : Variables) (b : Bound) (outs : List ℕ) (seen : Known) (here : Set) (hold : Hold) → SoundEach known types i out b outs seen (more_nodes n ns) → Fine known types i out b (in_nodes (more_nodes n ns)) seen hold
            → Fit b here [] hold → Ready here [] b (in_nodes (more_nodes n ns)) → Names hold → Quiet hold.next [] (c_after (one_course hold) (rest_course hold))
        quiet out b outs seen here hold sound fine f r names =
            quiet_after hold.next (one_course hold) (rest_course hold) []
            (first.quiet nothing out b seen here hold planned (sound_first known types i out b outs seen n ns sound) (fine_less known types i out b (in_nodes (more_nodes n ns)) (in_node n) seen hold in_first fine) f
            (ready_less here [] b (in_nodes (more_nodes n ns)) (in_node n) in_first r) names)
            (rest.quiet out b outs seen here hold (sound_rest known types i out b outs seen n ns sound) (fine_less known types i out b (in_nodes (more_nodes n ns)) (in_nodes ns) seen hold in_rest fine) f
            (ready_less here [] b (in_nodes (more_nodes n ns)) (in_nodes ns) in_rest r) names)

      pub leaf_not : (outs : List ℕ) (category : Option Category) (span : Span) → Leaf known types i program calls plan split_program course (Negation n) (Negation (make nothing [] [])) outs category span
      leaf_not outs category span = record {
        along = λ out b seen here hold full sound fits f t r names.
            let R : Hold → Env → Type 0 = Ends full here [] [] nothing outs hold in
            let one = first_along out b seen here hold full (sound_denied known types i out b seen n outs category span sound) fits f t r names in
            let u = node_trace program calls n full in
            wrap (Shown program) R (answers_once outs category) (c_negated hold (one_course hold)) (t_negated full u)
            (subst (λ (z : Flat Hold). Like R z (events (t_negated full u))) (sym (flat_negated (Shown program) hold (one_course hold) one.1))
            (subst (λ (z : Flat Env). Like R (negated hold (flat (one_course hold))) z) (sym (events_negated full u))
            (like_negated (Ends full here [] [] nothing (outputs_of n) hold) R hold full
            (moves_none here nothing outs hold (λ x h. clash (sym (ap (λ (os : List ℕ). among os x) sound.parallel.outputs.1) ∙ h) refl), (t.same, λ x v p. p))
            (flat (one_course hold)) (events u) one.0)))
            (sure_negated (Shown program) hold (one_course hold) one.1);
        quiet = λ out b seen here hold sound fine f r names.
            quiet_once hold.next (answers_once outs category) (c_negated hold (one_course hold)) []
            (quiet_negated hold.next hold (one_course hold) [] (first.quiet nothing out b seen here hold planned (sound_denied known types i out b seen n outs category span sound) fine f r names));
      }

    pub leaf_disj : (ns ms : Nodes) (outs : List ℕ) (category : Option Category) (span : Span) → EachGoes ns ms → Leaf known types i program calls plan split_program course (Disjunction ns) (Disjunction ms) outs category span
    leaf_disj ns ms outs category span all = record {
      along = λ out b seen here hold full sound fits f t r names.
          let a = all.along out b outs seen here hold full (sound_each known types i out b seen ns outs category span sound) fits f t r names in
          wrap (Shown program) (Ends full here [] [] nothing outs hold) (answers_once outs category) (any_branch plan split_program course ms hold) (any_trace program calls ns full) a.0 a.1;
      quiet = λ out b seen here hold sound fine f r names.
          quiet_once hold.next (answers_once outs category) (any_branch plan split_program course ms hold) [] (all.quiet out b outs seen here hold (sound_each known types i out b seen ns outs category span sound) fine f r names);
    }
