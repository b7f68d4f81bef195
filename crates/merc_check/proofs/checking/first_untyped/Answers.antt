-- A clause that is not typed is the first, and one that is typed makes one more.
use Rattle.std.proofs.Common.{◌≡◌, ℕ, ◌+◌, ◌<◌, Bool, true, false, List, length, map, get_or, take, Some, slice_get, sym, ap, subst, ◌∙◌}
use Rattle.std.specs.List.{AllByRecursion}
use Rattle.merc_tree.specs.declared.declarations.Clause.{Clause}
use Rattle.merc_tree.specs.declared.declarations.Module.{Module}
use Rattle.merc_goal_tree.specs.Nodes.{Node}
use Rattle.merc_type_check.specs.Checked.{Tells}
use Rattle.merc_order_laws.specs.HeadTypes.{declared_arguments}
use Rattle.merc_check.specs.Untyped.{IsTypedAs, IsUntypedAt}
use Rattle.merc_check.proofs.FirstUntyped.{typed_more, untyped_at}
use Rattle.merc_check.proofs.checking.first_untyped.Goals as goal

-- The clauses before an index are typed, and this is told of the one there.
module _ (known : Module) (form : Clause → Node) (forms : List Node) (same : forms ≡ map form known.clauses) (index : ℕ) (clause : Clause) (node : Node)
    (at : Some node ≡ slice_get forms index) where
  wrong_here : (clauses : List Clause) (told : Bool) → clauses ≡ known.clauses → index < length clauses → clause ≡ get_or clauses index clause
      → AllByRecursion (IsTypedAs known form) (take index clauses) → Tells told known (declared_arguments known clause.head) node → told ≡ false
      → IsUntypedAt known form clause.span
  wrong_here clauses true is within item all tells test = cc
  wrong_here clauses false is within item all tells test =
      untyped_at known form forms same index clause node (rw (← is) within) (rw (← is) item) (sym at) (subst (λ (some : List Clause). AllByRecursion (IsTypedAs known form) (take index some)) is all) tells

  typed_here : (clauses : List Clause) (told : Bool) → clauses ≡ known.clauses → index < length clauses → clause ≡ get_or clauses index clause
      → AllByRecursion (IsTypedAs known form) (take index clauses) → Tells told known (declared_arguments known clause.head) node → told ≡ true
      → AllByRecursion (IsTypedAs known form) (take (index + 1) clauses)
  typed_here clauses true is within item all tells test =
      rw is (typed_more known form forms same index clause node (rw (← is) within) (rw (← is) item) (sym at) (subst (λ (some : List Clause). AllByRecursion (IsTypedAs known form) (take index some)) is all) tells)
  typed_here clauses false is within item all tells test = cc

pub returns-then-not-branch : goal.returns-then-not-branch
returns-then-not-branch c = λ form same.
    wrong_here c.args.known.now form c.args.forms.now same c.loop-index.index c.clause-item.result c.in-Some.form c.in-Some.ensures
    c.as_slice-clause-items.result.now c.in_ok-is_typed_clause.field-0 (c.as_slice-clause-items.ensures ∙ ap (λ (known : Module). known.clauses) c.module.ensures)
    c.loop-index-test.true c.clause-item.is (c.loop-index.invariant.typed form same) c.in_ok-is_typed_clause.ensures.typed c.if-not-branch.true

pub loop-index-preserved : goal.loop-index-preserved
loop-index-preserved c = record {
  typed = λ form same.
      typed_here c.args.known.now form c.args.forms.now same c.loop-index.index c.clause-item.result c.in-Some.form c.in-Some.ensures
      c.as_slice-clause-items.result.now c.in_ok-is_typed_clause.field-0 (c.as_slice-clause-items.ensures ∙ ap (λ (known : Module). known.clauses) c.module.ensures)
      c.loop-index-test.true c.clause-item.is (c.loop-index.invariant.typed form same) c.in_ok-is_typed_clause.ensures.typed c.if-not-branch.false;
  kept = c.in_ok-is_typed_clause.ensures.kept;
}
