-- The orders of typed goals are ordered bodies.
use Rattle.std.proofs.Common.{◌≡◌, ℕ, ◌<◌, ◌≤◌, ◌+◌, List, [], ◌∷◌, length, ap, sym, subst, ◌∙◌, arith}
use Rattle.merc_tree.specs.Types.{TypeExpr}
use Rattle.merc_tree.specs.declared.declarations.ModeDecl.{ModeDecl}
use Rattle.merc_goal_tree.specs.Nodes.{Node}
use Rattle.merc_tree.specs.declared.declarations.Module.{Module}
use Rattle.merc_graded_tree.specs.Nodes.{Node as OrderedNode}
use Rattle.merc_order.specs.Ordered.{Outcome}
use Rattle.merc_order.specs.Procedures.{numbers_below, first_fresh, modes_of, IsBody}
use Rattle.merc_type_check.specs.Typing.{AreArguments}
use Rattle.merc_order_laws.proofs.TreeTypes.{tree_is_typed, typed_is_sized}
use Rattle.merc_order_laws.proofs.Bodies.{procedure_is_good, procedure_binds_heads, query_is_good, query_binds_answers, procedure_is_made_from, query_is_made_from}
use Rattle.merc_program_laws.specs.Guarding.{HasGuards}
use Rattle.merc_program_laws.specs.ProgramLaws.{ProcedureIsOrdered, QueryIsOrdered}
use Rattle.merc_program_laws.proofs.SpeltGuards.{spelt_has_guards}
use Rattle.merc_program_laws.proofs.Numbers.{argument_below}
use Rattle.merc_program_laws.proofs.Literals.{literals_stay}

same_arguments : (known : Module) (types others : ℕ → TypeExpr) (end : ℕ) → ((v : ℕ) → v < end → others v ≡ types v) → (number : ℕ) (arguments : List TypeExpr) → number + length arguments ≤ end
    → AreArguments known types number arguments → AreArguments known others number arguments
same_arguments known types others end same number [] l h = tt
same_arguments known types others end same number (t ∷ ts) l h = (same number (omega (arith, l)) ∙ h.0, same_arguments known types others end same (number + 1) ts (omega (arith, l)) h.1)

has_guards : (modes : ℕ → List ModeDecl) (heads : List ℕ) (outcome : Outcome) (goal : Node) (tree : OrderedNode) → IsBody modes heads outcome goal tree → HasGuards tree
has_guards modes heads outcome goal tree is = subst HasGuards (sym is.2) (spelt_has_guards modes (first_fresh heads goal) is.0)

pub procedure_is_ordered : ProcedureIsOrdered
procedure_is_ordered known declared mode types goal tree fit long typed literals is =
    let modes = modes_of known.preds in
    let arity = length declared.args in
    let sized = typed_is_sized known types declared.args goal fit typed in
    let made = procedure_is_made_from modes arity mode goal tree sized is in (
      λ v. types (made.0 v),
      record {
        arity = long;
        head = same_arguments known types (λ v. types (made.0 v)) arity (λ v l. ap types (made.1 v (argument_below arity goal v l))) 0 declared.args (omega (arith)) typed.head;
        typed = tree_is_typed known types declared.args goal made.0 tree typed made.2;
        literals = literals_stay goal made.0 tree literals made.2;
        binds = procedure_is_good modes arity mode goal tree sized long is;
        binds_head = procedure_binds_heads modes arity mode goal tree sized is;
        guarded = has_guards modes (numbers_below arity) _ goal tree is;
      },
    )

pub query_is_ordered : QueryIsOrdered
query_is_ordered known answers types goal tree fit typed literals is =
    let modes = modes_of known.preds in
    let sized = typed_is_sized known types [] goal fit typed in
    let made = query_is_made_from modes answers goal tree sized is in (
      λ v. types (made.0 v),
      record {
        typed = tree_is_typed known types [] goal made.0 tree typed made.2;
        literals = literals_stay goal made.0 tree literals made.2;
        binds = query_is_good modes answers goal tree sized is;
        binds_answers = query_binds_answers modes answers goal tree sized is;
        guarded = has_guards modes answers _ goal tree is;
      },
    )
