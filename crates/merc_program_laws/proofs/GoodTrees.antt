-- A module without faults of categories is a good program.
use Rattle.std.proofs.Common.{◌≡◌, ℕ, Bool, true, false, is_some, List, [], ◌∷◌, ◌++◌, Option, Some, None, if◌then◌else◌, refl}
use Rattle.merc_base.specs.declared.refusal.Refusal.{Refusal}
use Rattle.merc_base.specs.FirstFault.{first_of_faults}
use Rattle.merc_tree.specs.declared.declarations.ModeDecl.{ModeDecl}
use Rattle.merc_tree.specs.declared.declarations.Module.{Module}
use Rattle.merc_graded_tree.specs.Nodes.{Node}
use Rattle.merc_grading.specs.Grading.{category_at}
use Rattle.merc_grading.specs.Faults.{allows, own_faults, mode_faults, parallel_faults, Procedure, Body, procedures_of, procedure_faults, all_finished}
use Rattle.merc_program_laws.specs.GoodPrograms.{AreGoodProcedures}
use Rattle.merc_program_laws.specs.ProgramBodies.{AreOrderedProcedures, finished_for, finished_bodies, UnitsAllow}
use Rattle.merc_program_laws.specs.ProgramLaws.{ProgramBecomesGood}
use Rattle.merc_program_laws.proofs.Bodies.{procedure_becomes_good}

none_first : (faults : List Refusal) → first_of_faults faults ≡ None → faults ≡ []
none_first [] none = refl
none_first (one ∷ rest) none = absurd (cc)

none_front : (front back : List Refusal) → front ++ back ≡ [] → front ≡ []
none_front [] back none = refl
none_front (one ∷ front) back none = absurd (cc)

none_back : (front back : List Refusal) → front ++ back ≡ [] → back ≡ []
none_back [] back none = none
none_back (one ∷ front) back none = absurd (cc)

passes : (b : Bool) (fault : Refusal) → (if b then [] else fault ∷ []) ≡ [] → b ≡ true
passes true fault none = refl
passes false fault none = absurd (cc)

is_allowed : (unit : Option ℕ) (mode : ModeDecl) (tree : Node) → (is_some unit ≡ true → allows mode.category (category_at tree) ≡ true) → own_faults unit mode tree ≡ [] → allows mode.category (category_at tree) ≡ true
is_allowed None mode tree units none = passes (allows mode.category (category_at tree)) _ none
is_allowed (Some unit) mode tree units none = units refl

module _ (known : Module) where
  procedures_good : (procedures : List Procedure) (bodies : List Body) → AreOrderedProcedures known procedures bodies → UnitsAllow known procedures bodies
      → procedure_faults procedures (all_finished known.types known.preds procedures bodies) ≡ [] → AreGoodProcedures known procedures (finished_bodies known procedures bodies)
  procedures_good [] [] ordered units none = tt
  procedures_good [] (body ∷ bodies) ordered units none = absurd ordered
  procedures_good (procedure ∷ procedures) [] ordered units none = absurd ordered
  procedures_good (procedure ∷ procedures) (body ∷ bodies) ordered units none =
      let tree = (finished_for known procedure body).tree in
      let rest = procedure_faults procedures (all_finished known.types known.preds procedures bodies) in
      let here = none_front (mode_faults procedure.predicate.unit procedure.mode tree) rest none in (
        procedure_becomes_good known procedure.predicate procedure.mode body ordered.0
            (is_allowed procedure.predicate.unit procedure.mode tree units.0 (none_front (own_faults procedure.predicate.unit procedure.mode tree) (parallel_faults tree) here)),
        procedures_good procedures bodies ordered.1 units.1 (none_back (mode_faults procedure.predicate.unit procedure.mode tree) rest none),
      )

pub program_becomes_good : ProgramBecomesGood
program_becomes_good known bodies types ordered units none = record {
  good_types = types;
  procedures = procedures_good known (procedures_of known.preds) bodies ordered units
      (none_first (procedure_faults (procedures_of known.preds) (all_finished known.types known.preds (procedures_of known.preds) bodies)) none);
}
