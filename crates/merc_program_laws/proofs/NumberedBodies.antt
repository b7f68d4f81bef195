-- The bodies of a good program by the numbers of its procedures, and what they have.
use Rattle.std.proofs.Common.{◌≡◌, ℕ, zero, suc, ◌+◌, ◌<◌, List, [], ◌∷◌, ◌++◌, length, map, drop, Option, Some, slice_get, refl, ap, sym, ◌∙◌, subst, arith}
use Rattle.std.specs.List.{AllByRecursion}
use Rattle.merc_tree.specs.Types.{TypeExpr}
use Rattle.merc_tree.specs.declared.declarations.ModeDecl.{ModeDecl}
use Rattle.merc_tree.specs.declared.declarations.PredDecl.{PredDecl}
use Rattle.merc_tree.specs.declared.declarations.Module.{Module}
use Rattle.merc_graded_tree.specs.declared.basic.Procedure.{Procedure as ProcedureNumber}
use Rattle.merc_graded_tree.specs.Nodes.{Node}
use Rattle.merc_type_check.specs.Typing.{IsTypedGoal, AreArguments}
use Rattle.merc_order.specs.Procedures.{modes_of}
use Rattle.merc_order_laws.specs.WrittenGoals.{basic_goals, written_goal}
use Rattle.merc_grading.specs.Faults.{Procedure, Body, with_modes, procedures_of}
use Rattle.merc_meaning.specs.Runs.{ProcedureBody}
use Rattle.merc_meaning.specs.Programs.{body_of_mode, body_of}
use Rattle.merc_program_laws.specs.GoodPrograms.{HasLiteral, IsGoodProcedure, AreGoodProcedures, IsGoodProgram, program_of}
use Rattle.merc_program_laws.specs.CategoryLaws.{IsProcedure}
use Rattle.merc_program_laws.proofs.Values.{Instance, none_not, same_some}
use Rattle.merc_program_laws.proofs.Graded.{Graded, graded_has}
use Rattle.merc_program_laws.proofs.TreeCategories.{IsPart}

-- a good body, which the program has at a place
pub record Found (known : Module) (declared : PredDecl) (mode : ModeDecl) (place : Option ProcedureBody) : Type 0 where
  pub body : Body
  pub good : IsGoodProcedure known declared mode body
  pub there : place ≡ Some (record { places = mode.args; body = body.tree })

abbrev pub trees : List Body → List Node
trees bodies = map (λ (body : Body). body.tree) bodies

in_modes : (known : Module) (declared : PredDecl) (modes : List ModeDecl) (rest : List Procedure) (bodies : List Body) (number : ℕ) (mode : ModeDecl) → AreGoodProcedures known (with_modes declared modes ++ rest) bodies
    → slice_get modes number ≡ Some mode → Found known declared mode (body_of_mode modes (trees bodies) number)
in_modes known declared [] rest bodies number mode good e = absurd (none_not e)
in_modes known declared (m ∷ modes) rest [] number mode good e = absurd good
in_modes known declared (m ∷ modes) rest (body ∷ bodies) zero mode good e =
    record { body = body; good = subst (λ (k : ModeDecl). IsGoodProcedure known declared k body) (same_some e) good.0; there = ap (λ (k : ModeDecl). Some (record { places = k.args; body = body.tree })) (same_some e) }
in_modes known declared (m ∷ modes) rest (body ∷ bodies) (suc number) mode good e = in_modes known declared modes rest bodies number mode good.1 e

behind_modes : (known : Module) (declared : PredDecl) (modes : List ModeDecl) (rest : List Procedure) (bodies : List Body) → AreGoodProcedures known (with_modes declared modes ++ rest) bodies
    → AreGoodProcedures known rest (drop (length modes) bodies)
behind_modes known declared [] rest bodies good = good
behind_modes known declared (m ∷ modes) rest [] good = absurd good
behind_modes known declared (m ∷ modes) rest (body ∷ bodies) good = behind_modes known declared modes rest bodies good.1

pub trees_behind : (n : ℕ) (bodies : List Body) → trees (drop n bodies) ≡ drop n (trees bodies)
trees_behind zero bodies = refl
trees_behind (suc n) [] = refl
trees_behind (suc n) (body ∷ bodies) = trees_behind n bodies

in_predicates : (known : Module) (predicates : List PredDecl) (bodies : List Body) (predicate number : ℕ) (declared : PredDecl) (mode : ModeDecl) → AreGoodProcedures known (procedures_of predicates) bodies
    → slice_get predicates predicate ≡ Some declared → slice_get declared.modes number ≡ Some mode → Found known declared mode (body_of predicates (trees bodies) predicate number)
in_predicates known [] bodies predicate number declared mode good e k = absurd (none_not e)
in_predicates known (d ∷ ds) bodies zero number declared mode good e k =
    subst (λ (z : PredDecl). Found known z mode (body_of_mode d.modes (trees bodies) number)) (same_some e)
    (in_modes known d d.modes (procedures_of ds) bodies number mode good (subst (λ (z : PredDecl). slice_get z.modes number ≡ Some mode) (sym (same_some e)) k))
in_predicates known (d ∷ ds) bodies (suc predicate) number declared mode good e k =
    subst (λ (ts : List Node). Found known declared mode (body_of ds ts predicate number)) (trees_behind (length d.modes) bodies)
    (in_predicates known ds (drop (length d.modes) bodies) predicate number declared mode (behind_modes known d d.modes (procedures_of ds) bodies good) e k)

-- Arguments.

pub type_below : (ts : List TypeExpr) (x : ℕ) → x < length ts → (t : TypeExpr) × (slice_get ts x ≡ Some t)
type_below [] x h = absurd (omega (arith, h))
type_below (t ∷ ts) zero h = (t, refl)
type_below (t ∷ ts) (suc x) h = type_below ts x (omega (arith, h))

argument_type : (known : Module) (types : Instance) (n : ℕ) (ts : List TypeExpr) (x : ℕ) (t : TypeExpr) → AreArguments known types n ts → slice_get ts x ≡ Some t → types (n + x) ≡ t
argument_type known types n [] x t h e = absurd (none_not e)
argument_type known types n (u ∷ ts) zero t h e = ap types (omega (arith)) ∙ h.0 ∙ same_some e
argument_type known types n (u ∷ ts) (suc x) t h e = ap types (omega (arith)) ∙ argument_type known types (n + 1) ts x t h.1 e

pub all_both : {X : Type 0} (P Q : X → Type 0) (xs : List X) → AllByRecursion P xs → AllByRecursion Q xs → AllByRecursion (λ x. P x × Q x) xs
all_both P Q [] h k = tt
all_both P Q (x ∷ xs) h k = ((h.0, k.0), all_both P Q xs h.1 k.1)

-- Given is a procedure with a good body.
module _ (known : Module) (declared : PredDecl) (mode : ModeDecl) (body : Body) (good : IsGoodProcedure known declared mode body) where
  pub body_graded : Graded known.types (modes_of known.preds) body.types [] body.tree
  body_graded = subst (λ (n : Node). Graded known.types (modes_of known.preds) body.types [] n) (sym good.is_graded.1) (graded_has known.types (modes_of known.preds) body.types good.is_graded.0 [])

  pub body_parts : (i : Instance) → AllByRecursion (IsPart known body.types i) (basic_goals body.tree)
  body_parts i = all_both (λ g. IsTypedGoal known body.types (written_goal g)) HasLiteral (basic_goals body.tree) good.typed good.literals

  pub type_of : (x : ℕ) (t : TypeExpr) → slice_get declared.args x ≡ Some t → body.types x ≡ t
  type_of x t e = ap body.types (omega (arith)) ∙ argument_type known body.types 0 declared.args x t good.head e

-- Given is a good program.
module _ (known : Module) (bodies : List Body) (good : IsGoodProgram known bodies) where
  pub found : (p : ProcedureNumber) (declared : PredDecl) (mode : ModeDecl) → IsProcedure known p declared mode → Found known declared mode (program_of known.preds bodies p)
  found p declared mode is = in_predicates known known.preds bodies p.predicate p.mode declared mode good.procedures is.predicate is.mode_there
