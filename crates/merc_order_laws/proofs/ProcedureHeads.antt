-- Each procedure of a module has a body, where each clause is typed by the types of the predicate whose head it has.
use Rattle.std.proofs.Common.{◌≡◌, Bool, true, false, ◌==◌, List, [], ◌∷◌, length, cond, None, refl, subst, ◌∙◌, ap₂, ℕ, eqb-true}
use Rattle.std.proofs.lemmas.Bool.{and_parts}
use Rattle.std.specs.List.{AllByRecursion}
use Rattle.merc_tree.specs.Term.{Term, Variable, Integer, Text, Application, list_of}
use Rattle.merc_tree.specs.Types.{TypeExpr}
use Rattle.merc_tree.specs.declared.declarations.Clause.{Clause}
use Rattle.merc_tree.specs.declared.declarations.PredDecl.{PredDecl}
use Rattle.merc_tree.specs.declared.declarations.Module.{Module}
use Rattle.merc_goal_tree.specs.Nodes.{Node}
use Rattle.merc_bodies.specs.Bodies.{body_of, clauses_of, is_head}
use Rattle.merc_order_laws.proofs.JoinedTyping.{body_typed}
use Rattle.merc_name_resolution.specs.Known.{callee_in}
use Rattle.merc_type_check.specs.Typing.{HasTyping}
use Rattle.merc_order_laws.specs.Existence.{BodiesAreThere}
use Rattle.merc_order_laws.specs.HeadTypes.{called_arguments, declared_arguments}
use Rattle.merc_order_laws.proofs.ModesFitting.{module_modes_fit}
use Rattle.merc_order_laws.proofs.PredicatesApart.{HasItsTypes, predicates_have_types}
use Rattle.merc_order_laws.proofs.ProcedureTrees.{procedures_have_bodies}

-- Given are a module and the flat form of each clause.
module _ (known : Module) (form : Clause → Node) where
  module _ (declared : PredDecl) (its : HasItsTypes known declared) where
    head_has_types : (head : Term) → is_head declared head ≡ true → declared_arguments known head ≡ declared.args
    head_has_types (Application name qualifier arguments span) is =
        let parts = and_parts (name == declared.name) (length (list_of arguments) == length declared.args) is in
        ap₂ (λ (n count : ℕ). called_arguments known (callee_in known n None count)) (eqb-true name declared.name parts.0) (eqb-true (length (list_of arguments)) (length declared.args) parts.1) ∙ its
    head_has_types (Variable name span) is = absurd cc
    head_has_types (Integer value span) is = absurd cc
    head_has_types (Text text span) is = absurd cc

    clauses_typed : (clauses : List Clause) → AllByRecursion (λ clause. HasTyping known (declared_arguments known clause.head) (form clause)) clauses
        → AllByRecursion (λ clause. HasTyping known declared.args (form clause)) (clauses_of clauses declared)
    clauses_typed [] typed = tt
    clauses_typed (clause ∷ rest) typed = by (is_head declared clause.head) refl (clauses_typed rest typed.1)
      where
        by : (b : Bool) → is_head declared clause.head ≡ b → AllByRecursion (λ clause. HasTyping known declared.args (form clause)) (clauses_of rest declared)
            → AllByRecursion (λ clause. HasTyping known declared.args (form clause)) (cond b (clause ∷ clauses_of rest declared) (clauses_of rest declared))
        by true is others = (subst (λ (arguments : List TypeExpr). HasTyping known arguments (form clause)) (head_has_types clause.head is) typed.0, others)
        by false is others = others

  pub bodies_typed : AllByRecursion (λ clause. HasTyping known (declared_arguments known clause.head) (form clause)) known.clauses → (some : List PredDecl)
      → AllByRecursion (HasItsTypes known) some → AllByRecursion (λ declared. HasTyping known declared.args (body_of form known.clauses declared)) some
  bodies_typed typed [] its = tt
  bodies_typed typed (declared ∷ rest) its = (body_typed known form known.clauses declared (clauses_typed declared its.0 known.clauses typed), bodies_typed typed rest its.1)

pub bodies_are_there : BodiesAreThere
bodies_are_there before after text terms found form fixed distinct is typed none =
    procedures_have_bodies found form (module_modes_fit before after text terms found is)
    (bodies_typed found form typed found.preds (predicates_have_types before after text terms found fixed distinct is)) none
