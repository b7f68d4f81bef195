use Rattle.std.proofs.Common.{refl, sym, ap, ◌∙◌}
use Rattle.std.specs.Option.{option_copied}
use Rattle.merc_entries.specs.Library.{unit_text}
use Rattle.merc_entries.proofs.ConstantTexts.{unit_named, copied_there, copied_now}
use Rattle.merc_entries.proofs.units.library_text.Goals as goal

pub unwrap-name-requires : goal.unwrap-name-requires
unwrap-name-requires c =
    copied_there c.text.result _ (c.text.ensures.value ∙ unit_named c.args.names.now c.args.unit c.text.ensures.fixed c.requires) refl

pub unwrap-requires : goal.unwrap-requires
unwrap-requires c =
    let named = copied_now c.text.result c.unwrap-name.result _ c.unwrap-name.ensures (c.text.ensures.value ∙ unit_named c.args.names.now c.args.unit c.text.ensures.fixed c.requires) in
    copied_there c.text_of.result _ (c.text_of.ensures.value ∙ ap unit_text named) c.requires

pub returns-clause-value : goal.returns-clause-value
returns-clause-value c =
    let named = copied_now c.text.result c.unwrap-name.result _ c.unwrap-name.ensures (c.text.ensures.value ∙ unit_named c.args.names.now c.args.unit c.text.ensures.fixed c.requires) in
    sym (c.text_of.ensures.value ∙ ap unit_text named) ∙ ap option_copied c.unwrap.ensures
