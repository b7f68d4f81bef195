-- A program that is good, and others that are not: `same(T, T)` with the mode `(in, out)` and the body `Y = X`.
use Rattle.std.specs.Prelude.{◌≡◌, ℕ, zero, suc, Bool, true, false, ◌==◌, ◌||◌, ◌⊎◌, List, [], ◌∷◌, Some, None, pos, refl}
use Rattle.std.proofs.Common.{inl, inr, ap, sym, subst}
use Rattle.std.proofs.lemmas.Bool.Decides.{Decides-eqb}
use Rattle.merc_base.specs.declared.category.Category.{Category}
use Rattle.merc_base.specs.declared.category.Category.TheVariants.{Det, Semidet, Erroneous}
use Rattle.merc_tree.specs.Term.{no_span}
use Rattle.merc_tree.specs.Types.{TypeVariable, IntType, TextType}
use Rattle.merc_tree.specs.declared.declarations.Arg.{Arg}
use Rattle.merc_tree.specs.declared.declarations.Arg.TheVariants.{Input, Output}
use Rattle.merc_tree.specs.declared.declarations.ModeDecl.{ModeDecl}
use Rattle.merc_tree.specs.declared.declarations.PredDecl.{PredDecl}
use Rattle.merc_tree.specs.declared.declarations.TypeDef.{TypeDef}
use Rattle.merc_tree.specs.declared.declarations.Module.{Module}
use Rattle.merc_goal_tree.specs.declared.goal.Symbol.TheVariants.{Integer, Text}
use Rattle.merc_graded_tree.specs.declared.basic.BasicGoal.{BasicGoal}
use Rattle.merc_graded_tree.specs.declared.basic.BasicGoal.TheVariants.{True, Assign, Build, Raise, Call}
use Rattle.merc_graded_tree.specs.Nodes.{node, Goal, Basic, Switch, more_arms, no_arms, goal_of, outputs_of, category_of}
use Rattle.merc_order.specs.Bound.{among}
use Rattle.merc_order.specs.Procedures.{bound_at, modes_of}
use Rattle.merc_grading.specs.Grading.{graded_goal, with_category}
use Rattle.merc_grading.specs.Faults.{Body}
use Rattle.merc_program_laws.specs.ValueTypesExamples.{declared, parameter, list_of}
use Rattle.merc_program_laws.specs.GoodPrograms.{AreGoodTypes, FitsArguments, IsGraded, IsGoodProcedure, IsGoodProgram, IsGoodQuery, program_of}

-- The types of the examples of values are good. One whose constructor mentions another type variable is not.

good_types : AreGoodTypes declared
good_types = record { apart = (refl, tt); scoped = ((tt, ((refl, ((refl, tt), tt)), tt)), tt) }

abbrev unscoped : List TypeDef
unscoped = record { name = 80; params = parameter ∷ []; constructors = record { name = 81; args = list_of (TypeVariable 82) ∷ [] } ∷ []; unit = None } ∷ []

not_scoped : AreGoodTypes unscoped → ⊥
not_scoped h = cc h.scoped.0.0.0.0

-- an integer with an argument
no_argument : FitsArguments (Integer (pos 1)) (0 ∷ []) → ⊥
no_argument h = cc h.1

-- The program.

abbrev mode : Category → ModeDecl
mode category = record { args = Input ∷ Output ∷ []; category = category; span = no_span }

abbrev pub same : Category → PredDecl
same category = record { name = 83; args = TypeVariable 84 ∷ TypeVariable 84 ∷ []; modes = mode category ∷ []; span = no_span; unit = None }

abbrev pub example : Category → Module
example category = record { name = 99; units = []; types = declared; preds = same category ∷ []; own = 1; clauses = [] }

abbrev body_with : Category → Body
body_with category = record { types = λ variable. TypeVariable 84; tree = node (Basic (Assign 1 0)) (1 ∷ []) (Some category) no_span }

abbrev pub body : Body
body = body_with Det

is_good : IsGoodProcedure (example Semidet) (same Semidet) (mode Semidet) body
is_good = record {
  arity = refl;
  head = (refl, (refl, tt));
  typed = (refl, tt);
  literals = (tt, tt);
  binds = (λ v h. first (v == 1) (v == 0) h, (refl, refl, tt), (refl, refl, λ v h o. refl));
  binds_head = inr heads;
  guarded = tt;
  is_graded = (node (Basic (Assign 1 0)) (1 ∷ []) None no_span, refl);
  allowed = refl;
} where
  first : (a b : Bool) → (a || false) ≡ true → (a || (b || false)) ≡ true
  first true b h = refl
  first false b h = cc

  neither : (a b : Bool) → (a ≡ true → ⊥) → (b ≡ true → ⊥) → (a || (b || false)) ≡ true → ⊥
  neither true b f g h = f refl
  neither false true f g h = g refl
  neither false false f g h = cc

  not_at : (v n : ℕ) → (suc (suc v) ≡ n → ⊥) → (suc (suc v) == n) ≡ true → ⊥
  not_at v n f e = f ((Decides-eqb (suc (suc v)) n).0 e)

  heads : (v : ℕ) → among (0 ∷ 1 ∷ []) v ≡ true → (bound_at (Input ∷ Output ∷ []) v || among (1 ∷ []) v) ≡ true
  heads zero h = refl
  heads (suc zero) h = refl
  heads (suc (suc v)) h = absurd (neither (suc (suc v) == 0) (suc (suc v) == 1) (not_at v 0 (λ e. absurd cc)) (not_at v 1 (λ e. absurd cc)) h)

-- Bodies of it that are not good: one for each thing that is established

abbrev IsGood : Body → Type 0
IsGood other = IsGoodProcedure (example Semidet) (same Semidet) (mode Semidet) other

abbrev body_of_goal : BasicGoal → List ℕ → Body
body_of_goal goal outputs = record { types = body.types; tree = node (Basic goal) outputs (Some Det) no_span }

-- a mode with a place for one argument, and one whose first argument is an output

abbrev mode_of : List Arg → ModeDecl
mode_of places = record { args = places; category = Semidet; span = no_span }

place_missing : IsGoodProcedure (example Semidet) (same Semidet) (mode_of (Input ∷ [])) body → ⊥
place_missing h = cc h.arity

input_unbound : IsGoodProcedure (example Semidet) (same Semidet) (mode_of (Output ∷ Input ∷ [])) body → ⊥
input_unbound h = cc h.binds.2.0

-- variables of another type than the arguments, and a text that is none
other_types : IsGood (record { types = λ variable. IntType; tree = body.tree }) → ⊥
other_types h = cc h.head.0

not_typed : IsGood (body_of_goal (Raise 0) []) → ⊥
not_typed h = cc h.typed.0

-- `Y = 1` with an argument, and a body that leaves Y unbound

literal_with_argument : IsGood (body_of_goal (Build 1 (Integer (pos 1)) (0 ∷ [])) (1 ∷ [])) → ⊥
literal_with_argument h = cc h.literals.0.1

output_unbound : IsGood (body_of_goal True []) → ⊥
output_unbound h = unbound h.binds_head where
  unbound : (true ≡ false) ⊎ ((v : ℕ) → among (0 ∷ 1 ∷ []) v ≡ true → (bound_at (Input ∷ Output ∷ []) v || false) ≡ true) → ⊥
  unbound (inl e) = cc e
  unbound (inr f) = cc (f 1 refl)

-- a switch whose arm does not guard its symbol
not_guarded : IsGood (record { types = body.types; tree = node (Switch 0 (more_arms (Integer (pos 1)) body.tree no_arms)) (1 ∷ []) (Some Semidet) no_span }) → ⊥
not_guarded h = h.guarded.0

-- the category in the tree is another one
not_graded : IsGraded (example Semidet) body.types (body_with Semidet).tree → ⊥
not_graded (node goal outputs category span, e) =
    let with_goal : Goal = graded_goal declared (modes_of (same Semidet ∷ [])) body.types [] goal in
    let inner : Basic (Assign 1 0) ≡ with_goal = ap goal_of e in
    let same_outputs : 1 ∷ [] ≡ outputs = ap outputs_of e in
    let has : Some Semidet ≡ Some (with_category declared (modes_of (same Semidet ∷ [])) body.types [] outputs with_goal) = ap category_of e in
    let wrong : Some Semidet ≡ Some Det =
    subst (λ (g : Goal). Some Semidet ≡ Some (with_category declared (modes_of (same Semidet ∷ [])) body.types [] (1 ∷ []) g)) (sym inner)
    (subst (λ (o : List ℕ). Some Semidet ≡ Some (with_category declared (modes_of (same Semidet ∷ [])) body.types [] o with_goal)) (sym same_outputs) has) in
    cc

-- the declared category does not allow the body's
not_allowed : IsGoodProcedure (example Erroneous) (same Erroneous) (mode Erroneous) body → ⊥
not_allowed h = cc h.allowed

-- The program is good. Without a body, with one too many, or where types are not good it is not.

good_program : IsGoodProgram (example Semidet) (body ∷ [])
good_program = record { good_types = good_types; procedures = (is_good, tt) }

no_body : IsGoodProgram (example Semidet) [] → ⊥
no_body h = h.procedures

body_too_many : IsGoodProgram (example Semidet) (body ∷ body ∷ []) → ⊥
body_too_many h = h.procedures.1

bad_types : IsGoodProgram (record { name = 99; units = []; types = unscoped; preds = []; own = 0; clauses = [] }) [] → ⊥
bad_types h = not_scoped h.good_types

-- The procedure is the first mode of the first predicate, and there are no others.

found : program_of (same Semidet ∷ []) (body ∷ []) (record { predicate = 0; mode = 0 }) ≡ Some (record { places = Input ∷ Output ∷ []; body = body.tree })
found = refl

no_such_mode : program_of (same Semidet ∷ []) (body ∷ []) (record { predicate = 0; mode = 1 }) ≡ None
no_such_mode = refl

-- Goals that are asked over it: `X = "a"` is good where X is an answer variable. Where Y is one too it is not, and `same(X, X)` has an input that is not bound.

abbrev ask : BasicGoal → List ℕ → Category → Body
ask goal outputs category = record { types = λ variable. TextType; tree = node (Basic goal) outputs (Some category) no_span }

abbrev text : Body
text = ask (Build 0 (Text 70) []) (0 ∷ []) Det

good_query : IsGoodQuery (example Semidet) (0 ∷ []) text
good_query = record {
  typed = (refl, tt);
  literals = (refl, tt);
  binds = (λ v h. h, (refl, refl, tt), (tt, refl, λ v o h. refl));
  binds_answers = inr (λ v h. h);
  guarded = tt;
  is_graded = (node (Basic (Build 0 (Text 70) [])) (0 ∷ []) None no_span, refl);
}

answer_unbound : IsGoodQuery (example Semidet) (0 ∷ 1 ∷ []) text → ⊥
answer_unbound h = unbound h.binds_answers where
  unbound : (true ≡ false) ⊎ ((v : ℕ) → among (0 ∷ 1 ∷ []) v ≡ true → (false || among (0 ∷ []) v) ≡ true) → ⊥
  unbound (inl e) = cc e
  unbound (inr f) = cc (f 1 refl)

asked_of_free : IsGoodQuery (example Semidet) (0 ∷ []) (ask (Call (record { predicate = 0; mode = 0 }) (0 ∷ 1 ∷ [])) (1 ∷ []) Semidet) → ⊥
asked_of_free h = cc h.binds.2.1.0

asked_type : IsGoodQuery (example Semidet) (0 ∷ []) (ask (Build 0 (Integer (pos 1)) []) (0 ∷ []) Det) → ⊥
asked_type h = cc h.typed.0

asked_literal : IsGoodQuery (example Semidet) (0 ∷ []) (ask (Build 0 (Text 70) (0 ∷ [])) (0 ∷ []) Det) → ⊥
asked_literal h = cc h.literals.0

asked_switch : IsGoodQuery (example Semidet) [] (record { types = λ variable. TextType; tree = node (Switch 0 (more_arms (Text 70) text.tree no_arms)) [] (Some Semidet) no_span }) → ⊥
asked_switch h = h.guarded.0
