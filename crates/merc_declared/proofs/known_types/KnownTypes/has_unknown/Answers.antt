use Rattle.std.proofs.Common.{◌≡◌, ap, ◌∙◌, List}
use Rattle.std.proofs.lemmas.Result.{IfOk-weaker}
use Rattle.merc_base.specs.Names.{semicolon_name}
use Rattle.merc_tree.specs.Term.{Term}
use Rattle.merc_operands.specs.Members.{chain}
use Rattle.merc_item_forms.specs.Items.{TypeItem}
use Rattle.merc_declared.specs.UnknownTypes.{has_unknown}
use Rattle.merc_declared.proofs.TypeLaws.{predicate-agrees}
use Rattle.merc_declared.proofs.known_types.KnownTypes.has_unknown.Goals as goal

pub returns-in-Predicate : goal.returns-in-Predicate
returns-in-Predicate c = λ own entries holds.
    rw c.in-Predicate.is
    (c.has_wrong_argument.ensures ∙ predicate-agrees c.args.names.now own entries c.args.self.now c.in-Predicate.head c.in-Predicate.field-1 holds)

pub returns-in_ok-constructors-in-Type : goal.returns-in_ok-constructors-in-Type
returns-in_ok-constructors-in-Type c =
    let constructors : c.deref.result.now ≡ chain semicolon_name c.in-Type.root = c.deref.ensures.value ∙ c.in_ok-constructors-in-Type.ensures in
    rw c.in-Type.is
    (IfOk-weaker c.has_wrong_member-answer.result _ _
    (λ answer is own entries holds. is own entries holds ∙ ap (λ (terms : List Term). has_unknown c.args.names.now own entries (TypeItem c.in-Type.head terms)) constructors)
    c.has_wrong_member-answer.ensures)
