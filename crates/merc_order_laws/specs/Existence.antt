-- That procedures and goals have bodies.
use Rattle.std.specs.Prelude.{◌≡◌, ℕ, List, [], map, None}
use Rattle.std.specs.List.{AllByRecursion, IsDistinct}
use Rattle.std.specs.Str.{bytes_eq}
use Rattle.merc_base.specs.Names.{HoldsFixed}
use Rattle.merc_tree.specs.Term.{Term}
use Rattle.merc_tree.specs.declared.declarations.Clause.{Clause}
use Rattle.merc_tree.specs.declared.declarations.Module.{Module}
use Rattle.merc_goal_tree.specs.Nodes.{Node}
use Rattle.merc_bodies.specs.Bodies.{asked_body, body_of}
use Rattle.merc_type_check.specs.Typing.{HasTyping}
use Rattle.merc_order.specs.Ordered.{Ordered, Ready}
use Rattle.merc_order.specs.Procedures.{modes_of, order_fault, query_from}
use Rattle.merc_items.specs.ReadModule.{IsModule}
use Rattle.merc_grading.specs.Faults.{Body, procedures_of}
use Rattle.merc_order_laws.specs.TypedTree.{ModesFit}
use Rattle.merc_order_laws.specs.HeadTypes.{declared_arguments}
use Rattle.merc_order_laws.specs.ProcedureBodies.{AreBodiesOf, IsAskedBody}

-- Each mode of a module's predicates has a place for each argument.
abbrev pub ModuleModesFit : Type 0
ModuleModesFit = (before after : List (List ℕ)) (text : List ℕ) (terms : List Term) (found : Module) → IsModule before after text terms found → ModesFit found.preds

-- Where each clause of a module is typed, and the procedures have no fault of order, each procedure has a body.
abbrev pub BodiesAreThere : Type 0
BodiesAreThere = (before after : List (List ℕ)) (text : List ℕ) (terms : List Term) (found : Module) (form : Clause → Node) → HoldsFixed before → IsDistinct bytes_eq before
    → IsModule before after text terms found → AllByRecursion (λ clause. HasTyping found (declared_arguments found clause.head) (form clause)) found.clauses
    → order_fault found.preds (map (body_of form found.clauses) found.preds) ≡ None
    → (bodies : List Body) × AreBodiesOf found form (procedures_of found.preds) bodies

-- A goal that is asked has one where it is typed and has an order.
abbrev pub AskedBodyIsThere : Type 0
AskedBodyIsThere = (found : Module) (answers : List ℕ) (form : Node) (ordered : Ordered) → ModesFit found.preds → HasTyping found [] form
    → query_from (modes_of found.preds) answers (asked_body form) ≡ Ready ordered → (body : Body) × IsAskedBody found answers (asked_body form) body
