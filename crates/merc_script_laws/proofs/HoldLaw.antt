-- The category law from what a branch has: where all that a goal uses of what is bound is here, it goes on as the law says.
use Rattle.std.proofs.Common.{◌≡◌, inl, inr, ℕ, Bool, true, false, is_some, [], Some, refl, ap, sym, ◌∙◌}
use Rattle.merc_base.specs.Category.{can_fail_of, most_of}
use Rattle.merc_base.specs.declared.category.Most.{Most}
use Rattle.merc_base.specs.declared.category.Most.TheVariants.{Zero, One, Many}
use Rattle.merc_tree.specs.declared.declarations.Module.{Module}
use Rattle.merc_goal_tree.specs.declared.goal.Symbol.{Symbol}
use Rattle.merc_graded_tree.specs.declared.basic.Procedure.{Procedure}
use Rattle.merc_graded_tree.specs.Nodes.{Node, outputs_of}
use Rattle.merc_graded_tree.specs.Variables.{in_node}
use Rattle.merc_order.specs.Bound.{Bound, with, among}
use Rattle.merc_order.specs.Procedures.{modes_of}
use Rattle.merc_order_laws.specs.Bindings.{Variables}
use Rattle.merc_order_laws.proofs.Facts.{clash, either_way, same_bool}
use Rattle.merc_grading.specs.Known.{Known, known_of, known_behind}
use Rattle.merc_grading.specs.Grading.{category_at}
use Rattle.merc_value.specs.Value.{Value, Values}
use Rattle.merc_meaning.specs.Trace.{Env, Trace, Ends as TraceEnds, Tick as TraceTick, Answer as TraceAnswer, Done as TraceDone, Raised as TraceRaised, TooDeep as TraceTooDeep}
use Rattle.merc_meaning.specs.Values.{fields}
use Rattle.merc_meaning.specs.Steps.{value_at}
use Rattle.merc_meaning.specs.Runs.{Program, node_trace}
use Rattle.merc_program_laws.specs.Answers.{Each as EachAnswer, Has, Any, Never, IsDone}
use Rattle.merc_program_laws.specs.GoodPrograms.{AreGoodTypes}
use Rattle.merc_program_laws.proofs.Values.{Instance, none_not, same_some, some_of, is_some_of}
use Rattle.merc_program_laws.proofs.Lawful.{Fits, Goes, Lawful}
use Rattle.merc_program_laws.proofs.Calls.{LawfulCalls}
use Rattle.merc_program_laws.proofs.TreeCategories.{node_law}
use Rattle.merc_plan.specs.Branch.{Hold}
use Rattle.merc_plan.proofs.Flat.{Flat, NotDone, Each, Like, events}
use Rattle.merc_plan.proofs.Likes.{like_with, like_answers, each_all, each_more}
use Rattle.merc_script_laws.proofs.Bonds.{Set, Here, Fit, Fine, After, Moves, Ends, Ready, Sound}
use Rattle.merc_script_laws.proofs.Seen.{agree_back, behind_agree, behind_other, graded_same, known_in_other, known_in_same, occurring, occurring_agrees}

-- Traces.

-- no end that is Done before an answer
pub not_done : (t : Trace) → (IsDone t → Has Any t) → NotDone (events t)
not_done (TraceEnds TraceDone) h = absurd (h tt)
not_done (TraceEnds (TraceRaised text)) h = tt
not_done (TraceEnds TraceTooDeep) h = tt
not_done (TraceTick t) h = not_done t h
not_done (TraceAnswer env t) h = tt

pub each_event : (P : Env → Type 0) (t : Trace) → EachAnswer P t → Each P (events t)
each_event P (TraceEnds TraceDone) h = tt
each_event P (TraceEnds (TraceRaised text)) h = tt
each_event P (TraceEnds TraceTooDeep) h = tt
each_event P (TraceTick t) h = each_event P t h
each_event P (TraceAnswer env t) h = (h.0, each_event P t h.1)

-- no answer is reached where the maximum is 0
pub each_unreached : (m : Most) (t : Flat Env) → (m ≡ Zero → Each (λ env. ⊥) t) → Each (λ env. m ≡ Zero → ⊥) t
each_unreached Zero t h = each_more (λ env. ⊥) (λ env. Zero ≡ Zero → ⊥) (λ env k e. k) t (h refl)
each_unreached One t h = each_all (λ env. One ≡ Zero → ⊥) (λ env e. absurd cc) t
each_unreached Many t h = each_all (λ env. Many ≡ Zero → ⊥) (λ env e. absurd cc) t

-- what a branch has no rights for is here, where a goal uses it and it is bound
pub is_here : (here : Set) (b : Bound) (uses : ℕ → Bool) (hold : Hold) → Fit b here [] hold → Ready here [] b uses → (x : ℕ) → uses x ≡ true → b x ≡ true → (v : Value) × (here x × Here hold x v)
is_here here b uses hold f r x u h = elim (r x u h) as (λ _. (v : Value) × (here x × Here hold x v)) [
  | inl p ↦ let v = f.held x p in (v.0, (p, v.1))
  | inr p ↦ clash p refl
]

-- Given are the module, the types of the variables, and what type variables stand for.
module _ (known : Module) (types i : Instance) where
  abbrev pub AfterGoal : Variables → Bound → Node → Known → Env → Env → Type 0
  AfterGoal out b n seen env env' = Goes known types i out (with b (among (outputs_of n))) (in_node n) (known_behind n (occurring n seen)) env env'

  module _ (out : Variables) (b : Bound) (seen : Known) (n : Node) (here : Set) (hold : Hold) (fine : Fine known types i out b (in_node n) seen hold) where
    seen_one : (x : ℕ) (s : Symbol) → known_of (occurring n seen) x ≡ Some s → (in_node n x ≡ true) × (known_of seen x ≡ Some s)
    seen_one x s e = elim (either_way (in_node n x)) as (λ _. (in_node n x ≡ true) × (known_of seen x ≡ Some s)) [
      | inl p ↦ (p, sym (known_in_same (in_node n) seen x p) ∙ e)
      | inr p ↦ absurd (none_not (sym (known_in_other (in_node n) seen x p) ∙ e))
    ]

    pub hold_fits : Fit b here [] hold → Ready here [] b (in_node n) → Fits known types i out b (in_node n) (occurring n seen) hold.env
    hold_fits f r = record {
      bounds = λ x o. same_bool (is_some (value_at hold.env x)) (b x) (λ h. let v = some_of (value_at hold.env x) h in fine.exact x v.0 o v.1)
          (λ h. let v = is_here here b (in_node n) hold f r x o h in is_some_of (value_at hold.env x) v.0 v.1.1);
      outer = fine.outer;
      typed = fine.typed;
      knows = λ x s e.
          let k = seen_one x s e in
          let v = is_here here b (in_node n) hold f r x k.0 (fine.bound x s k.0 k.1) in
          let fs = fine.knows x s v.0 k.1 v.1.1 in
          (v.0, fs.0, v.1.1, fs.1);
    }

    behind_same : (x : ℕ) → in_node n x ≡ true → known_of (known_behind n (occurring n seen)) x ≡ known_of (known_behind n seen) x
    behind_same = agree_back (in_node n) (known_behind n seen) (known_behind n (occurring n seen)) (behind_agree (in_node n) n seen (occurring n seen) (λ x m. m) (occurring_agrees n seen))

    -- behind the goal, where the branch has what an answer has
    pub leaf_after : (env' : Env) (hold' : Hold) → AfterGoal out b n seen hold.env env' → ((x : ℕ) (v : Value) → Here hold' x v → value_at env' x ≡ Some v)
        → After known types i out b (outputs_of n) (in_node n) seen (known_behind n seen) hold hold'
    leaf_after env' hold' goes same = record {
      own = λ x v o h. sym (goes.own x o) ∙ same x v h;
      exact = λ x v o m h. sym (goes.bounds x o m) ∙ is_some_of (value_at env' x) v (same x v h);
      typed = λ x v h. goes.typed x v (same x v h);
      bound = λ x s o m e. let k = goes.knows x s (behind_same x o ∙ e) in sym (goes.bounds x o m) ∙ is_some_of (value_at env' x) k.0 k.2;
      knows = knows;
      same = λ x o. behind_other n seen x o;
    } where
      knows : (x : ℕ) (s : Symbol) (v : Value) → known_of (known_behind n seen) x ≡ Some s → Here hold' x v → (vs : Values) × (fields s v ≡ Some vs)
      knows x s v e h = elim (either_way (in_node n x)) as (λ _. (vs : Values) × (fields s v ≡ Some vs)) [
        | inl o ↦ let k = goes.knows x s (behind_same x o ∙ e) in
            (k.1, ap (fields s) (same_some (sym (same x v h) ∙ k.2)) ∙ k.3)
        | inr o ↦ fine.knows x s v (sym (behind_other n seen x o) ∙ e) (sym (goes.own x o) ∙ same x v h)
      ]

  -- Given is a program whose calls are lawful.
  module _ (declared : AreGoodTypes known.types) (program : Program) (calls : Procedure → Env → Trace) (lawful : LawfulCalls known program calls) where
    module _ (out : Variables) (b : Bound) (seen : Known) (n : Node) (here : Set) (hold : Hold) (sound : Sound known types i out b seen n) (fine : Fine known types i out b (in_node n) seen hold)
        (f : Fit b here [] hold) (r : Ready here [] b (in_node n)) where
      pub hold_law : Lawful (AfterGoal out b n seen hold.env) (category_at n) (node_trace program calls n hold.env)
      hold_law = node_law known declared program calls lawful types i n out b (occurring n seen) hold.env sound.good
          (graded_same known.types (modes_of known.preds) types n seen (occurring n seen) (occurring_agrees n seen) sound.graded) sound.parts (hold_fits out b seen n here hold fine f r)

      pub hold_not_done : can_fail_of (category_at n) ≡ false → NotDone (events (node_trace program calls n hold.env))
      hold_not_done sure = not_done (node_trace program calls n hold.env) (hold_law.some_answer sure)

      pub hold_goes : Each (AfterGoal out b n seen hold.env) (events (node_trace program calls n hold.env))
      hold_goes = each_event (AfterGoal out b n seen hold.env) (node_trace program calls n hold.env) hold_law.goes

      pub hold_unreached : Each (λ env'. most_of (category_at n) ≡ Zero → ⊥) (events (node_trace program calls n hold.env))
      hold_unreached = each_unreached (most_of (category_at n)) (events (node_trace program calls n hold.env)) (λ z. each_event Never (node_trace program calls n hold.env) (hold_law.no_answer z))

      -- what holds at each answer of a course that goes as this trace
      abbrev pub Answered : (ℕ → Bool) → Hold → Type 0
      Answered later hold' =
          Moves here [] [] later (outputs_of n) hold hold' × (After known types i out b (outputs_of n) (in_node n) seen (known_behind n seen) hold hold' × (most_of (category_at n) ≡ Zero → ⊥))

      pub leaf_answers : (later : ℕ → Bool) (t : Flat Hold) → Like (Ends hold.env here [] [] later (outputs_of n) hold) t (events (node_trace program calls n hold.env)) → Each (Answered later) t
      leaf_answers later t like =
          let trace = events (node_trace program calls n hold.env) in
          let R : Hold → Env → Type 0 = Ends hold.env here [] [] later (outputs_of n) hold in
          let with_goes = like_with R (AfterGoal out b n seen hold.env) t trace like hold_goes in
          let Q : Hold → Env → Type 0 = λ hold' env'. R hold' env' × AfterGoal out b n seen hold.env env' in
          let P : Env → Type 0 = λ env'. most_of (category_at n) ≡ Zero → ⊥ in
          each_more (λ hold'. (env' : Env) × (Q hold' env' × P env')) (Answered later)
          (λ hold' k. (k.1.0.0.0, (leaf_after out b seen n here hold fine k.0 hold' k.1.0.1 k.1.0.0.1.0, k.1.1))) t
          (like_answers (λ hold' env'. Q hold' env' × P env') t trace (like_with Q P t trace with_goes hold_unreached))
