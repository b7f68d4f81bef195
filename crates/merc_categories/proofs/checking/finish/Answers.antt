-- One goal has switches, and it is graded; where its symbols do not fit nothing is said.
use Rattle.std.proofs.Common.{◌≡◌, ℕ, List, [], ◌∷◌, ◌++◌, Some, None, slice_get, Result, Ok, Err, OnOk, sym, ap, subst, ◌∙◌}
use Rattle.std.proofs.lemmas.Option.{same_Some}
use Rattle.merc_base.specs.declared.memory.NoMemory.{NoMemory}
use Rattle.merc_tree.specs.Types.{TypeExpr}
use Rattle.merc_tree.specs.declared.declarations.ModeDecl.{ModeDecl}
use Rattle.merc_tree.specs.declared.declarations.TypeDef.{TypeDef}
use Rattle.merc_graded_tree.specs.Nodes.{Node}
use Rattle.merc_order.specs.Bound.{Bound}
use Rattle.merc_order.specs.Procedures.{bound_at, modes_of}
use Rattle.merc_grading.specs.Fitting.{Fits}
use Rattle.merc_grading.specs.Grading.{graded}
use Rattle.merc_grading.specs.Switches.{find}
use Rattle.merc_order_laws.proofs.FoundFitting.{found_fits}
use Rattle.merc_categories.proofs.checking.finish.Goals as goal

-- Given are the declared types and modes, what is bound, a goal, and one goal for it where its symbols fit.
module _ (declared : List TypeDef) (modes : ℕ → List ModeDecl) (bound : Bound) (tree : Node) (switched : List Node)
    (found : (types : ℕ → TypeExpr) → Fits declared types tree → switched ≡ find declared types bound tree ∷ []) where
  whole_graded : (whole : Node) (old new : List Node) (result : Result (Unit {0}) NoMemory) → slice_get switched 0 ≡ Some whole
      → OnOk result ((types : ℕ → TypeExpr) → Fits declared types whole → new ≡ old ++ graded declared modes types [] whole ∷ [])
      → OnOk result ((types : ℕ → TypeExpr) → Fits declared types tree → new ≡ old ++ graded declared modes types [] (find declared types bound tree) ∷ [])
  whole_graded whole old new (Ok done) there grades = λ types fits.
      let is : whole ≡ find declared types bound tree = same_Some whole (find declared types bound tree) (sym there ∙ ap (λ (l : List Node). slice_get l 0) (found types fits)) in
      rw (← is) (grades types (subst (λ (t : Node). Fits declared types t) (sym is) (found_fits declared types bound tree fits)))
  whole_graded whole old new (Err reason) there grades = tt

  none_found : (types : ℕ → TypeExpr) → Fits declared types tree → slice_get switched 0 ≡ None → ⊥
  none_found types fits none =
      let there : Some (find declared types bound tree) ≡ None = sym (ap (λ (l : List Node). slice_get l 0) (found types fits)) ∙ none in
      cc

pub returns-in-Some : goal.returns-in-Some
returns-in-Some c =
    whole_graded c.args.known.now.types (modes_of c.args.known.now.preds) (bound_at c.args.inputs.now) c.args.tree.now c.find_switches.new.found
    (λ types fits. c.in_ok-find_switches.ensures types fits
    ∙ ap (λ (l : List Node). l ++ find c.args.known.now.types types (bound_at c.args.inputs.now) c.args.tree.now ∷ []) c.new-switched.ensures)
    c.in-Some.whole c.args.graded.now c.grade.new.nodes c.grade.result (sym c.get.ensures ∙ c.in-Some.is) c.grade.ensures

pub returns : goal.returns
returns c = λ types fits.
    absurd (none_found c.args.known.now.types (modes_of c.args.known.now.preds) (bound_at c.args.inputs.now) c.args.tree.now c.find_switches.new.found
    (λ types fits. c.in_ok-find_switches.ensures types fits
    ∙ ap (λ (l : List Node). l ++ find c.args.known.now.types types (bound_at c.args.inputs.now) c.args.tree.now ∷ []) c.new-switched.ensures)
    types fits (sym c.get.ensures ∙ c.in-None.is))
