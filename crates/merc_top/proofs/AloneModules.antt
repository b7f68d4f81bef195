-- The procedures of accepted modules, and accepted goals, meet nobody.
use Rattle.std.proofs.Common.{◌≡◌, ℕ, zero, suc, List, [], ◌∷◌, length, drop, sym, subst}
use Rattle.std.specs.List.{AllByRecursion}
use Rattle.merc_base.specs.Names.{fixed_names}
use Rattle.merc_base.proofs.NameExamples.{HoldsFixed-fixed}
use Rattle.merc_base.proofs.NameLaws.{fixed_names-distinct}
use Rattle.merc_tree.specs.Term.{Term}
use Rattle.merc_tree.specs.declared.declarations.Clause.{Clause}
use Rattle.merc_tree.specs.declared.declarations.ModeDecl.{ModeDecl}
use Rattle.merc_tree.specs.declared.declarations.Module.{Module}
use Rattle.merc_tree.specs.declared.declarations.PredDecl.{PredDecl}
use Rattle.merc_goals.specs.Written.{written}
use Rattle.merc_goal_tree.specs.Nodes.{Node as WrittenNode}
use Rattle.merc_graded_tree.specs.Nodes.{Node}
use Rattle.merc_bodies.specs.Bodies.{asked_body, body_of as written_body}
use Rattle.merc_flat.specs.Flat.{clause_node, query_node}
use Rattle.merc_order.specs.Bound.{nothing}
use Rattle.merc_order.specs.Procedures.{bound_at, modes_of, numbers_below, procedure_from, query_from}
use Rattle.merc_grading.specs.Faults.{Body, Procedure, all_finished, finished, procedures_of}
use Rattle.merc_order_laws.specs.ProcedureBodies.{AreBodiesOf}
use Rattle.merc_meaning.specs.Programs.{body_of, body_of_mode, program_with}
use Rattle.merc_course.specs.Alone.{BodyMeetsNobody, MeetsNobody, ProgramMeetsNobody}
use Rattle.merc_check.specs.Accepted.{AreGraded, IsGradedGoal, query_answers}
use Rattle.merc_check.specs.Checked.{IsAccepted, IsGoal}
use Rattle.merc_program_laws.proofs.AcceptedGood.{accepted_becomes_good, accepted_goal_becomes_good}
use Rattle.merc_top.proofs.AloneTrees.{body_alone, finished_alone}

-- these trees meet nobody
abbrev pub TreesMeetNobody : List Node → Type 0
TreesMeetNobody trees = AllByRecursion MeetsNobody trees

-- Bodies of procedures, with their switches and categories.
bodies_alone : (known : Module) (form : Clause → WrittenNode) (procedures : List Procedure) (bodies : List Body) → AreBodiesOf known form procedures bodies
    → TreesMeetNobody (all_finished known.types known.preds procedures bodies)
bodies_alone known form [] bodies are = tt
bodies_alone known form (procedure ∷ procedures) [] are = tt
bodies_alone known form (procedure ∷ procedures) (body ∷ bodies) are =
    let modes = modes_of known.preds in
    let arity = length procedure.predicate.args in
    let goal = written_body form known.clauses procedure.predicate in (
      finished_alone known.types body.types modes (bound_at procedure.mode.args) body.tree
          (body_alone modes (numbers_below arity) (procedure_from modes arity procedure.mode goal) goal body.tree are.0.tree),
      bodies_alone known form procedures bodies are.1,
    )

-- Programs whose procedures have such trees.

behind_alone : (count : ℕ) (trees : List Node) → TreesMeetNobody trees → TreesMeetNobody (drop count trees)
behind_alone zero trees alone = alone
behind_alone (suc count) [] alone = tt
behind_alone (suc count) (tree ∷ trees) alone = behind_alone count trees alone.1

mode_alone : (modes : List ModeDecl) (trees : List Node) (number : ℕ) → TreesMeetNobody trees → BodyMeetsNobody (body_of_mode modes trees number)
mode_alone [] trees number alone = tt
mode_alone (mode ∷ modes) [] number alone = tt
mode_alone (mode ∷ modes) (tree ∷ trees) zero alone = alone.0
mode_alone (mode ∷ modes) (tree ∷ trees) (suc number) alone = mode_alone modes trees number alone.1

procedure_alone : (predicates : List PredDecl) (trees : List Node) (predicate mode : ℕ) → TreesMeetNobody trees → BodyMeetsNobody (body_of predicates trees predicate mode)
procedure_alone [] trees predicate mode alone = tt
procedure_alone (declared ∷ rest) trees zero mode alone = mode_alone declared.modes trees mode alone
procedure_alone (declared ∷ rest) trees (suc predicate) mode alone =
    procedure_alone rest (drop (length declared.modes) trees) predicate mode (behind_alone (length declared.modes) trees alone)

pub program_alone : (predicates : List PredDecl) (trees : List Node) → TreesMeetNobody trees → ProgramMeetsNobody (program_with predicates trees)
program_alone predicates trees alone = record { bodies = λ procedure. procedure_alone predicates trees procedure.predicate procedure.mode alone }

-- Given is an accepted file.
module _ (text : List ℕ) (file_names : List (List ℕ)) (items : List Term) (found : Module) (is : IsAccepted fixed_names file_names text items found) where
  pub module_alone : (trees : List Node) → AreGraded file_names found trees → TreesMeetNobody trees
  module_alone trees graded =
      let good = accepted_becomes_good fixed_names file_names text items found HoldsFixed-fixed fixed_names-distinct is in
      subst TreesMeetNobody (sym (graded good.bodies good.are)) (bodies_alone found (clause_node file_names found) (procedures_of found.preds) good.bodies good.are)

  -- and of an accepted goal over it
  pub goal_alone : (goal : List ℕ) (names : List (List ℕ)) (term : Term) (tree : Node) → IsGoal file_names names found goal term → IsGradedGoal names found term (tree ∷ []) → MeetsNobody tree
  goal_alone goal names term tree asked graded =
      let good = accepted_goal_becomes_good fixed_names file_names names text goal items found term is asked in
      let body = asked_body (query_node names found (written 0 term)) in
      let answers = query_answers names found term in
      let modes = modes_of found.preds in
      subst MeetsNobody (sym (alone_in tree (finished found.types found.preds nothing good.body) (graded good.body good.is)))
      (finished_alone found.types good.body.types modes nothing good.body.tree (body_alone modes answers (query_from modes answers body) body good.body.tree good.is.tree))
    where
      alone_in : (one other : Node) → one ∷ [] ≡ other ∷ [] → one ≡ other
      alone_in one other same = cc
