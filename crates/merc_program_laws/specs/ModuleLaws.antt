-- That a module without faults is a good program, and a goal that is asked a good one.
use Rattle.std.specs.Prelude.{◌≡◌, ℕ, List, [], map, None}
use Rattle.std.specs.List.{AllByRecursion, IsDistinct}
use Rattle.std.specs.Str.{bytes_eq}
use Rattle.merc_base.specs.Names.{HoldsFixed}
use Rattle.merc_tree.specs.Term.{Term}
use Rattle.merc_tree.specs.declared.declarations.Module.{Module}
use Rattle.merc_terms.specs.Texts.{ReadsGoal}
use Rattle.merc_goals.specs.Written.{written}
use Rattle.merc_bodies.specs.Bodies.{asked_body, body_of}
use Rattle.merc_flat.specs.Flat.{clause_node, query_node}
use Rattle.merc_type_check.specs.Typing.{HasTyping}
use Rattle.merc_order.specs.Bound.{nothing}
use Rattle.merc_order.specs.Ordered.{Ordered, Ready}
use Rattle.merc_order.specs.Procedures.{modes_of, order_fault, query_from}
use Rattle.merc_items.specs.ReadModule.{IsModule}
use Rattle.merc_grading.specs.Faults.{Body, category_fault, procedures_of}
use Rattle.merc_order_laws.specs.TypedTree.{ModesFit}
use Rattle.merc_program_laws.specs.GoodPrograms.{IsGoodProgram, IsGoodQuery}
use Rattle.merc_program_laws.specs.OrderedBodies.{finished_body}
use Rattle.merc_program_laws.specs.ProgramBodies.{UnitsAllow, finished_bodies}
use Rattle.merc_order_laws.specs.HeadTypes.{declared_arguments}
use Rattle.merc_order_laws.specs.ProcedureBodies.{AreBodiesOf, IsAskedBody}

-- Given are the texts of names and a module.
module _ (names : List (List ℕ)) (known : Module) where
  abbrev pub HaveBodies : List Body → Type 0
  HaveBodies bodies = AreBodiesOf known (clause_node names known) (procedures_of known.preds) bodies

  -- each clause is typed, each procedure has an order, and whatever types its variables have, no procedure has a fault of categories
  pub record IsFaultless : Type 0 where
    pub typed : AllByRecursion (λ clause. HasTyping known (declared_arguments known clause.head) (clause_node names known clause)) known.clauses
    pub ordered : order_fault known.preds (map (body_of (clause_node names known) known.clauses) known.preds) ≡ None
    pub categories : (bodies : List Body) → HaveBodies bodies → category_fault known.types known.preds bodies ≡ None

  -- the categories that library units declare allow those of their bodies
  abbrev pub UnitsKeepTheirCategories : Type 0
  UnitsKeepTheirCategories = (bodies : List Body) → HaveBodies bodies → UnitsAllow known (procedures_of known.preds) bodies

  -- the module's procedures have bodies with which it is a good program
  pub record BecomesGood : Type 0 where
    pub bodies : List Body
    pub are : HaveBodies bodies
    pub good : IsGoodProgram known (finished_bodies known (procedures_of known.preds) bodies)

-- A module that a text is becomes a good program where it is faultless and its units keep their categories.
abbrev pub ModuleBecomesGood : Type 0
ModuleBecomesGood = (before after : List (List ℕ)) (text : List ℕ) (terms : List Term) (found : Module) → HoldsFixed before → IsDistinct bytes_eq before
    → IsModule before after text terms found → IsFaultless after found → UnitsKeepTheirCategories after found → BecomesGood after found

-- a goal that is asked with these answer variables has a body that is a good one
pub record BecomesGoodQuery (names : List (List ℕ)) (known : Module) (answers : List ℕ) (goal : Term) : Type 0 where
  pub body : Body
  pub is : IsAskedBody known answers (asked_body (query_node names known (written 0 goal))) body
  pub good : IsGoodQuery known answers (finished_body known nothing body)

-- It has where it is typed and has an order.
abbrev pub AskedBecomesGood : Type 0
AskedBecomesGood = (before after : List (List ℕ)) (text : List ℕ) (term : Term) (known : Module) (answers : List ℕ) (ordered : Ordered) → ModesFit known.preds
    → ReadsGoal before after text term → HasTyping known [] (query_node after known (written 0 term))
    → query_from (modes_of known.preds) answers (asked_body (query_node after known (written 0 term))) ≡ Ready ordered → BecomesGoodQuery after known answers term
