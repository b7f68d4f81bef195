-- Ordered bodies of `same(T, T)` with the mode `(in, out)`, and goals that are asked over it.
use Rattle.std.specs.Prelude.{◌≡◌, ℕ, zero, suc, Bool, true, false, ◌==◌, ◌||◌, ◌⊎◌, List, [], ◌∷◌, Some, None, pos, refl}
use Rattle.std.proofs.Common.{inl, inr}
use Rattle.std.proofs.lemmas.Bool.Decides.{Decides-eqb}
use Rattle.merc_base.specs.declared.category.Category.TheVariants.{Det, Semidet}
use Rattle.merc_tree.specs.Term.{no_span}
use Rattle.merc_tree.specs.Types.{TypeVariable, IntType, TextType}
use Rattle.merc_tree.specs.declared.declarations.Arg.{Arg}
use Rattle.merc_tree.specs.declared.declarations.Arg.TheVariants.{Input, Output}
use Rattle.merc_tree.specs.declared.declarations.ModeDecl.{ModeDecl}
use Rattle.merc_goal_tree.specs.declared.goal.Symbol.TheVariants.{Integer, Text}
use Rattle.merc_graded_tree.specs.declared.basic.BasicGoal.{BasicGoal}
use Rattle.merc_graded_tree.specs.declared.basic.BasicGoal.TheVariants.{True, Assign, Build, Raise, Call}
use Rattle.merc_graded_tree.specs.Nodes.{Node, node, Basic, Switch, more_arms, no_arms}
use Rattle.merc_order.specs.Bound.{among}
use Rattle.merc_order.specs.Procedures.{bound_at}
use Rattle.merc_grading.specs.Faults.{Body}
use Rattle.merc_program_laws.specs.GoodProgramsExamples.{example, same}
use Rattle.merc_program_laws.specs.OrderedBodies.{IsOrderedProcedure, IsOrderedQuery, finished_body}

abbrev mode_of : List Arg → ModeDecl
mode_of places = record { args = places; category = Semidet; span = no_span }

abbrev goal_of : BasicGoal → List ℕ → Node
goal_of goal outputs = node (Basic goal) outputs None no_span

abbrev body_of : BasicGoal → List ℕ → Body
body_of goal outputs = record { types = λ variable. TypeVariable 84; tree = goal_of goal outputs }

abbrev IsOrderedIn : List Arg → Body → Type 0
IsOrderedIn places body = IsOrderedProcedure (example Semidet) (same Semidet) (mode_of places) body

abbrev IsOrdered : Body → Type 0
IsOrdered body = IsOrderedIn (Input ∷ Output ∷ []) body

-- `Y = X`, which has no category yet
abbrev pub body : Body
body = body_of (Assign 1 0) (1 ∷ [])

pub is_ordered : IsOrdered body
is_ordered = record {
  arity = refl;
  head = (refl, (refl, tt));
  typed = (refl, tt);
  literals = (tt, tt);
  binds = (λ v h. first (v == 1) (v == 0) h, (refl, refl, tt), (refl, refl, λ v h o. refl));
  binds_head = inr heads;
  guarded = tt;
} where
  first : (a b : Bool) → (a || false) ≡ true → (a || (b || false)) ≡ true
  first true b h = refl
  first false b h = cc

  neither : (a b : Bool) → (a ≡ true → ⊥) → (b ≡ true → ⊥) → (a || (b || false)) ≡ true → ⊥
  neither true b f g h = f refl
  neither false true f g h = g refl
  neither false false f g h = cc

  not_at : (v n : ℕ) → (suc (suc v) ≡ n → ⊥) → (suc (suc v) == n) ≡ true → ⊥
  not_at v n f e = f ((Decides-eqb (suc (suc v)) n).0 e)

  heads : (v : ℕ) → among (0 ∷ 1 ∷ []) v ≡ true → (bound_at (Input ∷ Output ∷ []) v || among (1 ∷ []) v) ≡ true
  heads zero h = refl
  heads (suc zero) h = refl
  heads (suc (suc v)) h = absurd (neither (suc (suc v) == 0) (suc (suc v) == 1) (not_at v 0 (λ e. absurd cc)) (not_at v 1 (λ e. absurd cc)) h)

-- a mode with a place for one argument, and one whose first argument is an output

place_missing : IsOrderedIn (Input ∷ []) body → ⊥
place_missing h = cc h.arity

input_unbound : IsOrderedIn (Output ∷ Input ∷ []) body → ⊥
input_unbound h = cc h.binds.2.0

-- variables of another type than the arguments, and a text that is none

other_types : IsOrdered (record { types = λ variable. IntType; tree = body.tree }) → ⊥
other_types h = cc h.head.0

not_typed : IsOrdered (body_of (Raise 0) []) → ⊥
not_typed h = cc h.typed.0

-- `Y = 1` with an argument, a body that leaves Y unbound, and a switch whose arm does not guard its symbol

literal_with_argument : IsOrdered (body_of (Build 1 (Integer (pos 1)) (0 ∷ [])) (1 ∷ [])) → ⊥
literal_with_argument h = cc h.literals.0.1

output_unbound : IsOrdered (body_of True []) → ⊥
output_unbound h = unbound h.binds_head where
  unbound : (true ≡ false) ⊎ ((v : ℕ) → among (0 ∷ 1 ∷ []) v ≡ true → (bound_at (Input ∷ Output ∷ []) v || false) ≡ true) → ⊥
  unbound (inl e) = cc e
  unbound (inr f) = cc (f 1 refl)

not_guarded : IsOrdered (record { types = body.types; tree = node (Switch 0 (more_arms (Integer (pos 1)) body.tree no_arms)) (1 ∷ []) None no_span }) → ⊥
not_guarded h = h.guarded.0

-- With its category the body is det, and as it was besides.
finished : finished_body (example Semidet) (bound_at (Input ∷ Output ∷ [])) body ≡ record { types = body.types; tree = node (Basic (Assign 1 0)) (1 ∷ []) (Some Det) no_span }
finished = refl

not_finished : finished_body (example Semidet) (bound_at (Input ∷ Output ∷ [])) body ≡ body → ⊥
not_finished same = cc

-- Goals that are asked: `X = "a"` where X is the answer variable. Where Y is one too it is not bound, and `same(X, X)` has an input that is not.

abbrev ask : BasicGoal → List ℕ → Body
ask goal outputs = record { types = λ variable. TextType; tree = goal_of goal outputs }

ordered_query : IsOrderedQuery (example Semidet) (0 ∷ []) (ask (Build 0 (Text 70) []) (0 ∷ []))
ordered_query = record {
  typed = (refl, tt);
  literals = (refl, tt);
  binds = (λ v h. h, (refl, refl, tt), (tt, refl, λ v o h. refl));
  binds_answers = inr (λ v h. h);
  guarded = tt;
}

answer_unbound : IsOrderedQuery (example Semidet) (0 ∷ 1 ∷ []) (ask (Build 0 (Text 70) []) (0 ∷ [])) → ⊥
answer_unbound h = unbound h.binds_answers where
  unbound : (true ≡ false) ⊎ ((v : ℕ) → among (0 ∷ 1 ∷ []) v ≡ true → (false || among (0 ∷ []) v) ≡ true) → ⊥
  unbound (inl e) = cc e
  unbound (inr f) = cc (f 1 refl)

asked_of_free : IsOrderedQuery (example Semidet) (0 ∷ []) (ask (Call (record { predicate = 0; mode = 0 }) (0 ∷ 1 ∷ [])) (1 ∷ [])) → ⊥
asked_of_free h = cc h.binds.2.1.0

asked_type : IsOrderedQuery (example Semidet) (0 ∷ []) (ask (Build 0 (Integer (pos 1)) []) (0 ∷ [])) → ⊥
asked_type h = cc h.typed.0

asked_literal : IsOrderedQuery (example Semidet) (0 ∷ []) (ask (Build 0 (Text 70) (0 ∷ [])) (0 ∷ [])) → ⊥
asked_literal h = cc h.literals.0

asked_switch : IsOrderedQuery (example Semidet) [] (record { types = λ variable. TextType; tree = node (Switch 0 (more_arms (Text 70) (goal_of (Build 0 (Text 70) []) (0 ∷ [])) no_arms)) [] None no_span }) → ⊥
asked_switch h = h.guarded.0
