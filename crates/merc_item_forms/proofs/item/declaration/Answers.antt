use Rattle.std.proofs.Common.{ap, sym, ◌∙◌}
use Rattle.merc_item_forms.proofs.ItemLaws.{declaration_by, declaration-by}
use Rattle.merc_item_forms.proofs.item.declaration.Goals as goal

pub returns-in-One : goal.returns-in-One
returns-in-One c = c.unary.ensures ∙ ap declaration_by c.in-One.ensures ∙ sym (declaration-by c.args.term.now)
