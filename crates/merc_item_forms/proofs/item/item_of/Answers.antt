use Rattle.std.proofs.Common.{None, if◌then◌else◌, ap, sym, ◌∙◌}
use Rattle.merc_item_forms.specs.Items.{declaration, ClauseItem}
use Rattle.merc_item_forms.proofs.ItemLaws.{item_by, item_of-by}
use Rattle.merc_item_forms.proofs.item.item_of.Goals as goal

pub returns-then-eq : goal.returns-then-eq
returns-then-eq c =
    c.declaration.ensures
    ∙ ap (λ b. if b then declaration c.in-One.only else ClauseItem c.args.term.now None) c.if-eq.ensures
    ∙ ap (item_by c.args.term.now) c.in-One.ensures
    ∙ sym (item_of-by c.args.term.now)
