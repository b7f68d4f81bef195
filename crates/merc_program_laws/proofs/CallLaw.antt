-- The truth law of every call, by induction on its depth.
use Rattle.std.proofs.Common.{◌≡◌, ◌⊎◌, inl, inr, ℕ, zero, suc, ◌≤◌, pos, true, is_some, List, [], ◌∷◌, length, Option, Some, None, refl, sym, ◌∙◌, subst, arith, rules}
use Rattle.merc_tree.specs.declared.declarations.Arg.{Arg}
use Rattle.merc_tree.specs.declared.declarations.Arg.TheVariants.{Input, Output}
use Rattle.merc_tree.specs.declared.declarations.ModeDecl.{ModeDecl}
use Rattle.merc_tree.specs.declared.declarations.PredDecl.{PredDecl}
use Rattle.merc_tree.specs.declared.declarations.Module.{Module}
use Rattle.merc_graded_tree.specs.Nodes.{outputs_of}
use Rattle.merc_graded_tree.specs.Variables.{in_node}
use Rattle.merc_order.specs.Bound.{with, among}
use Rattle.merc_order.specs.Procedures.{bound_at}
use Rattle.merc_order_laws.proofs.Facts.{clash, either_way}
use Rattle.merc_grading.specs.Known.{known_behind}
use Rattle.merc_grading.specs.Grading.{category_at}
use Rattle.merc_grading.specs.Faults.{Body}
use Rattle.merc_value.specs.Value.{Value, Int, IsValue}
use Rattle.merc_meaning.specs.Trace.{Env, Trace, Tick}
use Rattle.merc_meaning.specs.Steps.{value_at}
use Rattle.merc_meaning.specs.Runs.{Program, ProcedureBody, node_trace, body_trace, call_trace}
use Rattle.merc_meaning.specs.Truth.{Assignment, IsAssignment, is_argument, IsEntered, YesCall, NoCall, YesBody, NoBody, Yes, No}
use Rattle.merc_program_laws.specs.Answers.{Each, Has, IsDone}
use Rattle.merc_program_laws.specs.GoodPrograms.{IsGoodProcedure, IsGoodProgram, program_of}
use Rattle.merc_program_laws.specs.CategoryLaws.{Enters}
use Rattle.merc_program_laws.proofs.Traces.{each_map, has_map, has_each}
use Rattle.merc_program_laws.proofs.Values.{Instance, none_not, same_some, is_some_of}
use Rattle.merc_program_laws.proofs.Lawful.{Goes, Lawful}
use Rattle.merc_program_laws.proofs.TreeCategories.{node_law}
use Rattle.merc_program_laws.specs.Instances.{ArgumentsAgree}
use Rattle.merc_program_laws.specs.AnswerLaws.{AnswersLaw, OthersLaw}
use Rattle.merc_program_laws.proofs.Truthful.{Truthful, or_else, decide_has, decide_head, typed_value, each_both}
use Rattle.merc_program_laws.proofs.CallTruth.{TruthfulCalls}
use Rattle.merc_program_laws.proofs.TreeTruth.{node_truth}
use Rattle.merc_program_laws.proofs.NumberedBodies.{body_graded, body_parts, found}
use Rattle.merc_program_laws.proofs.Programs.{lawful_calls, single_call}
use Rattle.merc_program_laws.proofs.Procedures.{body_good, body_fits}

-- an assignment of a body's variables: the arguments' values, and else an environment's
abbrev entered_as : List ℕ → Assignment → (ℕ → Option Value) → Assignment
entered_as [] s g x = or_else (Int (pos 0)) (g x)
entered_as (a ∷ args) s g zero = s a
entered_as (a ∷ args) s g (suc x) = entered_as args s (λ y. g (suc y)) x

is_entered : (args : List ℕ) (s : Assignment) (g : ℕ → Option Value) → IsEntered args s (entered_as args s g)
is_entered [] s g = tt
is_entered (a ∷ args) s g = (refl, is_entered args s (λ y. g (suc y)))

zero_fits : IsValue (Int (pos 0))
zero_fits = search rules

else_value : (o : Option Value) → ((v : Value) → o ≡ Some v → IsValue v) → IsValue (or_else (Int (pos 0)) o)
else_value None h = zero_fits
else_value (Some v) h = h v refl

entered_values : (args : List ℕ) (s : Assignment) (g : ℕ → Option Value) → IsAssignment s → ((x : ℕ) (v : Value) → g x ≡ Some v → IsValue v) → IsAssignment (entered_as args s g)
entered_values [] s g vals h x = else_value (g x) (h x)
entered_values (a ∷ args) s g vals h zero = vals a
entered_values (a ∷ args) s g vals h (suc x) = entered_values args s (λ y. g (suc y)) vals (λ y v e. h (suc y) v e) x

else_is : (o : Option Value) (v : Value) → o ≡ Some v → or_else (Int (pos 0)) o ≡ v
else_is None v e = absurd (none_not e)
else_is (Some w) v e = same_some e

entered_agrees : (args : List ℕ) (s : Assignment) (g : ℕ → Option Value) → ArgumentsAgree args s g → (x : ℕ) (v : Value) → g x ≡ Some v → entered_as args s g x ≡ v
entered_agrees [] s g h x v e = else_is (g x) v e
entered_agrees (a ∷ args) s g h zero v e = h.0 v e
entered_agrees (a ∷ args) s g h (suc x) v e = entered_agrees args s (λ y. g (suc y)) h.1 x v e

-- a body's assignment that is entered so has the values of the inputs
input_values : (places : List Arg) (args : List ℕ) (s inner : Assignment) (g : ℕ → Option Value) → ((v : ℕ) → is_some (g v) ≡ bound_at places v) → length places ≡ length args → ArgumentsAgree args s g → IsEntered args s inner
    → (x : ℕ) (v : Value) → g x ≡ Some v → inner x ≡ v
input_values [] args s inner g b l h k x v e = clash (is_some_of (g x) v e) (b x)
input_values (p ∷ places) [] s inner g b l h k x v e = absurd cc
input_values (p ∷ places) (a ∷ args) s inner g b l h k zero v e = k.0 ∙ h.0 v e
input_values (Input ∷ places) (a ∷ args) s inner g b l h k (suc x) v e = input_values places args s (λ y. inner (suc y)) (λ y. g (suc y)) (λ y. b (suc y)) (omega (arith, l)) h.1 k.1 x v e
input_values (Output ∷ places) (a ∷ args) s inner g b l h k (suc x) v e = input_values places args s (λ y. inner (suc y)) (λ y. g (suc y)) (λ y. b (suc y)) (omega (arith, l)) h.1 k.1 x v e

-- the arguments agree with an environment where the body's first variables do
arguments_agree : (places : List Arg) (args : List ℕ) (s inner : Assignment) (g : ℕ → Option Value) → length places ≡ length args → IsEntered args s inner
    → ((x : ℕ) → is_argument places x ≡ true → (v : Value) → g x ≡ Some v → inner x ≡ v) → ArgumentsAgree args s g
arguments_agree [] [] s inner g l k h = tt
arguments_agree [] (a ∷ args) s inner g l k h = absurd cc
arguments_agree (p ∷ places) [] s inner g l k h = absurd cc
arguments_agree (p ∷ places) (a ∷ args) s inner g l k h =
    ((λ v e. sym k.0 ∙ h zero refl v e), arguments_agree places args s (λ y. inner (suc y)) (λ y. g (suc y)) (omega (arith, l)) k.1 (λ x o v e. h (suc x) o v e))

-- what is said of a call's trace at a stage
abbrev SaysYes : Program → ℕ → Option ProcedureBody → List ℕ → Trace → Type 0
SaysYes program stage o args t = Each (λ env'. (s : Assignment) → IsAssignment s → ArgumentsAgree args s (value_at env') → YesBody (YesCall program stage) (NoCall program stage) o args s) t

abbrev SaysNo : Program → ℕ → Option ProcedureBody → List ℕ → Env → Trace → Type 0
SaysNo program stage o args env t =
    IsDone t → (s : Assignment) → IsAssignment s → ArgumentsAgree args s (value_at env) → NoBody (YesCall program stage) (NoCall program stage) o args s ⊎ Has (λ env'. ArgumentsAgree args s (value_at env')) t

-- Given is a good program.
module _ (known : Module) (bodies : List Body) (good : IsGoodProgram known bodies) where
  abbrev program : Program
  program = program_of known.preds bodies

  module _ (depth stage : ℕ) (truth : TruthfulCalls known (YesCall program stage) (NoCall program stage) (call_trace program depth)) (declared : PredDecl) (mode : ModeDecl) (body : Body) (g : IsGoodProcedure known declared mode body)
      (i : Instance) (env : Env) (enters : Enters known.types i mode.args declared.args env) (args : List ℕ) (long : length mode.args ≡ length args) where
    abbrev trace : Trace
    trace = node_trace program (call_trace program depth) body.tree env

    body_law : Lawful (Goes known body.types i (is_argument mode.args) (with (bound_at mode.args) (among (outputs_of body.tree))) (in_node body.tree) (known_behind body.tree []) env) (category_at body.tree) trace
    body_law = node_law known good.good_types program (call_trace program depth) (lawful_calls known bodies good depth) body.types i body.tree (is_argument mode.args) (bound_at mode.args) [] env
        (body_good known declared mode body g) (body_graded known declared mode body g) (body_parts known declared mode body g i) (body_fits known declared mode body g i env enters)

    body_truth : Truthful (is_argument mode.args) (in_node body.tree) (λ s. Yes (YesCall program stage) (NoCall program stage) (is_argument mode.args) body.tree s)
        (λ s. No (YesCall program stage) (NoCall program stage) (is_argument mode.args) body.tree s) env trace
    body_truth = node_truth known good.good_types program (YesCall program stage) (NoCall program stage) (call_trace program depth) (lawful_calls known bodies good depth) truth body.types i body.tree (is_argument mode.args) (bound_at mode.args) [] env
        (body_good known declared mode body g) (body_graded known declared mode body g) g.guarded (body_parts known declared mode body g i) (body_fits known declared mode body g i env enters)

    body_yes : SaysYes program stage (Some (record { places = mode.args; body = body.tree })) args trace
    body_yes = each_map _ _ trace
        (λ env' h s vals a.
        let inner : Assignment = entered_as args s (value_at env') in
        let inner_vals : IsAssignment inner = entered_values args s (value_at env') vals (λ x v e. typed_value known.types v _ (h.0.typed x v e)) in
        (inner, inner_vals, is_entered args s (value_at env'), h.1 inner inner_vals (λ x o v e. entered_agrees args s (value_at env') a x v e)))
        (each_both _ _ trace body_law.goes body_truth.answers_yes)

    body_no : SaysNo program stage (Some (record { places = mode.args; body = body.tree })) args env trace
    body_no done s vals a =
        elim (decide_has (λ env'. ArgumentsAgree args s (value_at env')) trace (λ env'. decide_head args s (value_at env')))
        as (λ _. NoBody (YesCall program stage) (NoCall program stage) (Some (record { places = mode.args; body = body.tree })) args s ⊎ Has (λ env'. ArgumentsAgree args s (value_at env')) trace) [
          | inl k ↦ inr k
          | inr k ↦ inl (λ inner inner_vals entered.
              let inputs : (x : ℕ) (v : Value) → value_at env x ≡ Some v → inner x ≡ v = input_values mode.args args s inner (value_at env) enters.bindings long a entered in
              elim (body_truth.others_no done inner inner_vals (λ x o v e. inputs x v e)) as (λ _. No (YesCall program stage) (NoCall program stage) (is_argument mode.args) body.tree inner) [
                | inl w ↦ w
                | inr w ↦ absurd (k (has_map _ _ trace
                    (λ env' h. arguments_agree mode.args args s inner (value_at env') long entered (λ x o v e. elim (either_way (in_node body.tree x)) as (λ _. inner x ≡ v) [
                      | inl q ↦ h.1 x q o v e
                      | inr q ↦ inputs x v (sym (h.0.own x q) ∙ e)
                    ]))
                    (has_each _ _ trace body_law.goes w)))
              ])
        ]

  pub truthful_calls : (depth stage : ℕ) → depth ≤ stage → TruthfulCalls known (YesCall program stage) (NoCall program stage) (call_trace program depth)
  truthful_calls zero stage le p declared mode is = record { single = λ one i env h. tt; answers_yes = λ i env h args long. tt; others_no = λ i env h args long d. absurd d }
  truthful_calls (suc depth) zero le p declared mode is = absurd (omega (arith, le))
  truthful_calls (suc depth) (suc stage) le p declared mode is =
      let there = found known bodies good p declared mode is in
      let truth = truthful_calls depth stage (omega (arith, le)) in
      record {
        single = λ one i env h. single_call known bodies good (suc depth) p declared mode is one env;
        answers_yes = λ i env h args long.
            subst (λ (o : Option ProcedureBody). SaysYes program stage o args (Tick (body_trace program (call_trace program depth) o env))) (sym there.there)
            (body_yes depth stage truth declared mode there.body there.good i env h args long);
        others_no = λ i env h args long.
            subst (λ (o : Option ProcedureBody). SaysNo program stage o args env (Tick (body_trace program (call_trace program depth) o env))) (sym there.there)
            (body_no depth stage truth declared mode there.body there.good i env h args long);
      }

pub answers_law : AnswersLaw
answers_law known bodies good p declared mode is i env enters args long depth stage le = (truthful_calls known bodies good depth stage le p declared mode is).answers_yes i env enters args long

pub others_law : OthersLaw
others_law known bodies good p declared mode is i env enters args long depth stage le = (truthful_calls known bodies good depth stage le p declared mode is).others_no i env enters args long
