use Rattle.std.proofs.Common.{ap, sym, subst, ◌∙◌}
use Rattle.std.specs.Prelude.{slice_get}
use Rattle.std.specs.List.{AllByRecursion}
use Rattle.merc_base.specs.Groups.{kept}
use Rattle.merc_tree.specs.declared.declarations.Module.{Module}
use Rattle.merc_tree.specs.declared.declarations.Constructor.{Constructor}
use Rattle.merc_tree.specs.declared.declarations.TypeDef.{TypeDef}
use Rattle.merc_tree.specs.declared.declarations.PredDecl.{PredDecl}
use Rattle.merc_type_matching.specs.Listed.{AreWithin}
use Rattle.merc_type_check.specs.TypeNumbers.{AreDeclared}
use Rattle.merc_type_check.proofs.Numbers.{all_within, declared_all, kept_within}
use Rattle.merc_type_check.proofs.declared.DeclaredTypes.of.Goals as goal

pub list_predicates-requires : goal.list_predicates-requires
list_predicates-requires c =
    let are : AreDeclared c.args.known.now (record { table = c.new-table.result; predicates = c.in_ok-predicates.predicates; constructors = c.in_ok-constructors.constructors }) =
    declared_all c.args.known.now (record { table = c.new-table.result; predicates = c.in_ok-predicates.predicates; constructors = c.in_ok-constructors.constructors })
    c.in_ok-numbering.numbering c.number_predicates.new.numbering c.number_constructors.new.numbering c.as_slice.result.now c.as_slice-2.result.now
    c.in_ok-predicates.ensures c.in_ok-constructors.ensures (c.new-table.ensures ∙ c.in_ok-into_table.ensures)
    (c.as_slice.ensures ∙ ap (λ (m : Module). m.preds) c.module.ensures) (c.as_slice-2.ensures ∙ ap (λ (m : Module). m.types) c.module-2.ensures) in
    subst (AllByRecursion (AreWithin c.new-table.result)) (sym c.deref.ensures.value)
    (all_within (λ (one : PredDecl). one.args) c.new-table.result c.in_ok-predicates.predicates.items (slice_get c.args.known.now.preds) are.predicates)

pub list_constructors-requires : goal.list_constructors-requires
list_constructors-requires c =
    let are : AreDeclared c.args.known.now (record { table = c.list_predicates.new.listed; predicates = c.in_ok-predicates.predicates; constructors = c.in_ok-constructors.constructors }) =
    declared_all c.args.known.now (record { table = c.list_predicates.new.listed; predicates = c.in_ok-predicates.predicates; constructors = c.in_ok-constructors.constructors })
    c.in_ok-numbering.numbering c.number_predicates.new.numbering c.number_constructors.new.numbering c.as_slice.result.now c.as_slice-2.result.now
    c.in_ok-predicates.ensures c.in_ok-constructors.ensures (c.in_ok-list_predicates.ensures ∙ c.new-table.ensures ∙ c.in_ok-into_table.ensures)
    (c.as_slice.ensures ∙ ap (λ (m : Module). m.preds) c.module.ensures) (c.as_slice-2.ensures ∙ ap (λ (m : Module). m.types) c.module-2.ensures) in
    λ name arity. kept_within (λ (found : TypeDef × Constructor). found.1.args) c.list_predicates.new.listed (slice_get (kept c.in_ok-constructors.constructors name arity) 0) _ (are.constructors name arity)

pub returns : goal.returns
returns c =
    declared_all c.args.known.now (record { table = c.list_constructors.new.listed; predicates = c.in_ok-predicates.predicates; constructors = c.in_ok-constructors.constructors })
    c.in_ok-numbering.numbering c.number_predicates.new.numbering c.number_constructors.new.numbering c.as_slice.result.now c.as_slice-2.result.now
    c.in_ok-predicates.ensures c.in_ok-constructors.ensures (c.in_ok-list_constructors.ensures ∙ c.in_ok-list_predicates.ensures ∙ c.new-table.ensures ∙ c.in_ok-into_table.ensures)
    (c.as_slice.ensures ∙ ap (λ (m : Module). m.preds) c.module.ensures) (c.as_slice-2.ensures ∙ ap (λ (m : Module). m.types) c.module-2.ensures)
