-- The category law of every call, by induction on its depth.
use Rattle.std.proofs.Common.{◌≡◌, inl, inr, ℕ, zero, suc, ◌<◌, Bool, true, false, not, ◌||◌, is_some, List, [], ◌∷◌, length, Option, Some, None, refl, ap, sym, ◌∙◌, subst, arith}
use Rattle.std.specs.List.{AllByRecursion}
use Rattle.merc_base.specs.Category.{can_fail_of, most_of}
use Rattle.merc_base.specs.declared.category.Category.{Category}
use Rattle.merc_base.specs.declared.category.Most.{Most}
use Rattle.merc_base.specs.declared.category.Most.TheVariants.{Zero, One, Many}
use Rattle.merc_tree.specs.Types.{TypeExpr, replaced}
use Rattle.merc_tree.specs.declared.declarations.ModeDecl.{ModeDecl}
use Rattle.merc_tree.specs.declared.declarations.PredDecl.{PredDecl}
use Rattle.merc_tree.specs.declared.declarations.Module.{Module}
use Rattle.merc_graded_tree.specs.declared.basic.Procedure.{Procedure as ProcedureNumber}
use Rattle.merc_graded_tree.specs.Nodes.{Node, node, outputs_of}
use Rattle.merc_graded_tree.specs.Variables.{in_node}
use Rattle.merc_type_check.specs.Typing.{IsTypedGoal}
use Rattle.merc_order.specs.Bound.{nothing, with, among}
use Rattle.merc_order.specs.Procedures.{bound_at, numbers_below, modes_of}
use Rattle.merc_order_laws.specs.WrittenGoals.{basic_goals, written_goal}
use Rattle.merc_order_laws.proofs.Facts.{clash, either_way}
use Rattle.merc_order_laws.proofs.Bodies.{below_are, inputs_below}
use Rattle.merc_grading.specs.Known.{known_behind}
use Rattle.merc_grading.specs.Grading.{category_at}
use Rattle.merc_grading.specs.Faults.{at_most, Body}
use Rattle.merc_meaning.specs.Trace.{Env, Trace, Tick}
use Rattle.merc_meaning.specs.Steps.{value_at}
use Rattle.merc_meaning.specs.Runs.{Program, ProcedureBody, is_at_most_one, once_if, goal_trace, node_trace, body_trace, call_trace}
use Rattle.merc_program_laws.specs.ValueTypes.{HasType}
use Rattle.merc_program_laws.specs.Answers.{Each, Never, Single, AreAtMost}
use Rattle.merc_program_laws.specs.GoodPrograms.{HasLiteral, IsGoodProcedure, IsGoodProgram, IsGoodQuery, program_of}
use Rattle.merc_program_laws.specs.CategoryLaws.{Enters, Leaves, IsProcedure, CategoryLaw, ErroneousLaw, TypeLaw, GivesAll, QueryCategoryLaw, QueryTypeLaw}
use Rattle.merc_program_laws.proofs.Traces.{single_first, never_has}
use Rattle.merc_program_laws.proofs.Values.{Instance, none_not, some_of, is_some_of, both}
use Rattle.merc_program_laws.proofs.Lawful.{Fits, Goes, Lawful}
use Rattle.merc_program_laws.proofs.Knowing.{one_not_zero, many_not_zero}
use Rattle.merc_program_laws.proofs.Calls.{LawfulCalls}
use Rattle.merc_program_laws.proofs.Combining.{looser, zero_law}
use Rattle.merc_program_laws.proofs.Graded.{Graded, graded_has, ends_zero}
use Rattle.merc_program_laws.proofs.TreeCategories.{IsPart, outputs_within, not_in, node_law}
use Rattle.merc_program_laws.proofs.NumberedBodies.{all_both, body_graded, body_parts, found, type_below, type_of}

-- What a declaration allows.

allowed_sure : (declared inferred : Bool) → (not inferred || declared) ≡ true → declared ≡ false → inferred ≡ false
allowed_sure declared false h e = refl
allowed_sure declared true h e = clash h e

allowed_zero : (inferred declared : Most) → at_most inferred declared ≡ true → declared ≡ Zero → inferred ≡ Zero
allowed_zero Zero declared h e = refl
allowed_zero One Zero h e = clash h refl
allowed_zero Many Zero h e = clash h refl
allowed_zero One One h e = e
allowed_zero One Many h e = absurd (many_not_zero e)
allowed_zero Many One h e = absurd (one_not_zero e)
allowed_zero Many Many h e = e

allowed_one : (inferred declared : Most) → at_most inferred declared ≡ true → declared ≡ One → inferred ≡ Many → ⊥
allowed_one Zero declared h e k = absurd cc
allowed_one One declared h e k = absurd cc
allowed_one Many Zero h e k = clash h refl
allowed_one Many One h e k = clash h refl
allowed_one Many Many h e k = absurd cc

-- Given is a procedure with a good body, and what type variables stand for.
module _ (known : Module) (declared : PredDecl) (mode : ModeDecl) (body : Body) (good : IsGoodProcedure known declared mode body) where
  abbrev heads : List ℕ
  heads = numbers_below (length declared.args)

  module _ (i : Instance) where
    -- what holds before the body
    body_fits : (env : Env) → Enters known.types i mode.args declared.args env → Fits known body.types i (among heads) (bound_at mode.args) (in_node body.tree) [] env
    body_fits env h = record {
      bounds = λ x o. h.bindings x;
      outer = λ x o e. below_are (length declared.args) x (omega (arith, inputs_below mode.args x e, good.arity));
      typed = λ x v e.
          let below : x < length mode.args = inputs_below mode.args x (sym (h.bindings x) ∙ is_some_of (value_at env x) v e) in
          let t = type_below declared.args x (omega (arith, below, good.arity)) in
          subst (λ (u : TypeExpr). HasType known.types v (replaced i u)) (sym (type_of known declared mode body good x t.0 t.1)) (h.typed x t.0 v t.1 e);
      knows = λ x s e. absurd (none_not e);
    }

    head_in : (a b : Bool) → (a || b) ≡ true → b ≡ false → a ≡ true
    head_in true b h k = refl
    head_in false b h k = clash h k

    -- what holds at an answer, where the end can be reached
    body_leaves : (env answer : Env) → Enters known.types i mode.args declared.args env
        → ((x : ℕ) → among heads x ≡ true → (bound_at mode.args x || among (outputs_of body.tree) x) ≡ true)
        → Goes known body.types i (among heads) (with (bound_at mode.args) (among (outputs_of body.tree))) (in_node body.tree) (known_behind body.tree []) env answer
        → Leaves known.types i declared.args env answer
    body_leaves env answer h ends goes = record {
      keeps = goes.keeps;
      bindings = λ x l.
          let o : among heads x ≡ true = below_are (length declared.args) x l in
          elim (either_way (in_node body.tree x)) as (λ _. is_some (value_at answer x) ≡ true) [
            | inl q ↦ goes.bounds x q o ∙ ends x o
            | inr q ↦ ap is_some (goes.own x q) ∙ h.bindings x ∙ head_in (bound_at mode.args x) (among (outputs_of body.tree) x) (ends x o)
                (not_in known body.types i (among (outputs_of body.tree)) (in_node body.tree) (outputs_within known body.types i body.tree _ _ good.binds) x q)
          ];
      typed = λ x t v p q. subst (λ (u : TypeExpr). HasType known.types v (replaced i u)) (type_of known declared mode body good x t p) (goes.typed x v q);
    }

-- Given is a good program.
module _ (known : Module) (bodies : List Body) (good : IsGoodProgram known bodies) where
  abbrev program : Program
  program = program_of known.preds bodies

  lawful_body : (call : ProcedureNumber → Env → Trace) → LawfulCalls known program call → (declared : PredDecl) (mode : ModeDecl) (body : Body) → IsGoodProcedure known declared mode body → (i : Instance) (env : Env)
      → Enters known.types i mode.args declared.args env → Lawful (Leaves known.types i declared.args env) mode.category (node_trace program call body.tree env)
  lawful_body call calls declared mode body g i env h =
      let c : Category = category_at body.tree in
      let law = node_law known good.good_types program call calls body.types i body.tree (among (numbers_below (length declared.args))) (bound_at mode.args) [] env g.binds
      (body_graded known declared mode body g) (body_parts known declared mode body g i) (body_fits known declared mode body g i env h) in
      let leaves : Lawful (Leaves known.types i declared.args env) c (node_trace program call body.tree env) =
      elim g.binds_head as (λ _. Lawful (Leaves known.types i declared.args env) c (node_trace program call body.tree env)) [
        | inl z ↦ zero_law _ _ c _ law (ends_zero known.types (modes_of known.preds) body.types body.tree [] _ _ g.binds (body_graded known declared mode body g) z)
        | inr e ↦ looser _ _ c _ (λ answer goes. body_leaves known declared mode body g i env answer h e goes) law
      ] in
      let fits = both (not (can_fail_of c) || can_fail_of mode.category) (at_most (most_of c) (most_of mode.category)) g.allowed in
      record {
        goes = leaves.goes;
        no_answer = λ z. leaves.no_answer (allowed_zero (most_of c) (most_of mode.category) fits.1 z);
        some_answer = λ s d. leaves.some_answer (allowed_sure (can_fail_of mode.category) (can_fail_of c) fits.0 s) d;
      }

  pub lawful_calls : (depth : ℕ) → LawfulCalls known program (call_trace program depth)
  lawful_calls zero p declared mode is =
      let there = found known bodies good p declared mode is in
      record {
        procedure = record { places = mode.args; body = there.body.tree };
        there = there.there;
        places = refl;
        law = λ i env h. record { goes = tt; no_answer = λ z. tt; some_answer = λ c d. absurd d };
      }
  lawful_calls (suc depth) p declared mode is =
      let there = found known bodies good p declared mode is in
      record {
        procedure = record { places = mode.args; body = there.body.tree };
        there = there.there;
        places = refl;
        law = λ i env h.
            let law = lawful_body (call_trace program depth) (lawful_calls depth) declared mode there.body there.good i env h in
            subst (λ (o : Option ProcedureBody). Lawful (Leaves known.types i declared.args env) mode.category (Tick (body_trace program (call_trace program depth) o env))) (sym there.there)
            (record { goes = law.goes; no_answer = law.no_answer; some_answer = law.some_answer });
      }

  -- one answer at most

  single_most : (m : Most) → (m ≡ Many → ⊥) → (t : Trace) → Single (once_if (is_at_most_one m) t)
  single_most Zero h t = single_first t
  single_most One h t = single_first t
  single_most Many h t = absurd (h refl)

  single_node : (call : ProcedureNumber → Env → Trace) (n : Node) (env : Env) → (most_of (category_at n) ≡ Many → ⊥) → Single (node_trace program call n env)
  single_node call (node g [] c span) env h = single_first (goal_trace program call g env)
  single_node call (node g (out ∷ outs) None span) env h = absurd (h refl)
  single_node call (node g (out ∷ outs) (Some c) span) env h = single_most (most_of c) h (goal_trace program call g env)

  pub single_call : (depth : ℕ) (p : ProcedureNumber) (declared : PredDecl) (mode : ModeDecl) → IsProcedure known p declared mode → most_of mode.category ≡ One → (env : Env) → Single (call_trace program depth p env)
  single_call zero p declared mode is m env = tt
  single_call (suc depth) p declared mode is m env =
      let there = found known bodies good p declared mode is in
      let c : Category = category_at there.body.tree in
      let fits = both (not (can_fail_of c) || can_fail_of mode.category) (at_most (most_of c) (most_of mode.category)) there.good.allowed in
      subst (λ (o : Option ProcedureBody). Single (body_trace program (call_trace program depth) o env)) (sym there.there)
      (single_node (call_trace program depth) there.body.tree env (allowed_one (most_of c) (most_of mode.category) fits.1 m))

  counted : (m : Most) (t : Trace) → (m ≡ Zero → Each Never t) → (m ≡ One → Single t) → AreAtMost m t
  counted Zero t h k = h refl
  counted One t h k = k refl
  counted Many t h k = tt

  -- Goals that are asked.
  module _ (answers : List ℕ) (query : Body) (asked : IsGoodQuery known answers query) (i : Instance) where
    pub query_graded : Graded known.types (modes_of known.preds) query.types [] query.tree
    query_graded = subst (λ (n : Node). Graded known.types (modes_of known.preds) query.types [] n) (sym asked.is_graded.1) (graded_has known.types (modes_of known.preds) query.types asked.is_graded.0 [])

    pub query_parts : AllByRecursion (IsPart known query.types i) (basic_goals query.tree)
    query_parts = all_both (λ g. IsTypedGoal known query.types (written_goal g)) HasLiteral (basic_goals query.tree) asked.typed asked.literals

    pub query_fits : Fits known query.types i (among answers) nothing (in_node query.tree) [] []
    query_fits = record { bounds = λ x o. refl; outer = λ x o e. clash e refl; typed = λ x v e. absurd (none_not e); knows = λ x s e. absurd (none_not e) }

    query_gives : (answer : Env) → ((x : ℕ) → among answers x ≡ true → (nothing x || among (outputs_of query.tree) x) ≡ true)
        → Goes known query.types i (among answers) (with nothing (among (outputs_of query.tree))) (in_node query.tree) (known_behind query.tree []) [] answer → GivesAll known.types i query.types answers answer
    query_gives answer ends goes x h =
        let within : in_node query.tree x ≡ true = outputs_within known query.types i query.tree (among answers) nothing asked.binds x (ends x h) in
        let r = some_of (value_at answer x) (goes.bounds x within h ∙ ends x h) in
        (r.0, r.1, goes.typed x r.0 r.1)

    query_law : (depth : ℕ) → Lawful (GivesAll known.types i query.types answers) (category_at query.tree) (node_trace program (call_trace program depth) query.tree [])
    query_law depth =
        let call : ProcedureNumber → Env → Trace = call_trace program depth in
        let law = node_law known good.good_types program call (lawful_calls depth) query.types i query.tree (among answers) nothing [] [] asked.binds query_graded query_parts query_fits in
        elim asked.binds_answers as (λ _. Lawful (GivesAll known.types i query.types answers) (category_at query.tree) (node_trace program call query.tree [])) [
          | inl z ↦ zero_law _ _ (category_at query.tree) _ law (ends_zero known.types (modes_of known.preds) query.types query.tree [] _ _ asked.binds query_graded z)
          | inr e ↦ looser _ _ (category_at query.tree) _ (λ answer goes. query_gives answer e goes) law
        ]

one_not_many : (m : Most) → m ≡ One → m ≡ Many → ⊥
one_not_many m e k = absurd (let wrong : One ≡ Many = sym e ∙ k in cc)

pub category_law : CategoryLaw
category_law known bodies good p declared mode is i env h depth =
    let law = (lawful_calls known bodies good depth p declared mode is).law i env h in
    record {
      at_most = counted known bodies good (most_of mode.category) (call_trace (program_of known.preds bodies) depth p env) law.no_answer (λ m. single_call known bodies good depth p declared mode is m env);
      at_least = law.some_answer;
    }

pub type_law : TypeLaw
type_law known bodies good p declared mode is i env h depth = ((lawful_calls known bodies good depth p declared mode is).law i env h).goes

pub erroneous_law : ErroneousLaw
erroneous_law known bodies good p declared mode is i env h depth e done =
    let law = (lawful_calls known bodies good depth p declared mode is).law i env h in
    never_has _ (call_trace (program_of known.preds bodies) depth p env) (law.no_answer (ap most_of e)) (law.some_answer (ap can_fail_of e) done)

pub query_category_law : QueryCategoryLaw
query_category_law known bodies good answers query asked i depth =
    let c : Category = category_at query.tree in
    let call : ProcedureNumber → Env → Trace = call_trace (program_of known.preds bodies) depth in
    let law = query_law known bodies good answers query asked i depth in
    record {
      at_most = counted known bodies good (most_of c) (node_trace (program_of known.preds bodies) call query.tree []) law.no_answer
          (λ m. single_node known bodies good call query.tree [] (one_not_many (most_of c) m));
      at_least = law.some_answer;
    }

pub query_type_law : QueryTypeLaw
query_type_law known bodies good answers query asked i depth = (query_law known bodies good answers query asked i depth).goes
