use Rattle.std.proofs.Common.{◌∙◌, ap, ◌++◌, refl}
use Rattle.merc_base.specs.Names.{fixed_names}
use Rattle.merc_base.specs.Texts.{with_text}
use Rattle.merc_base.proofs.NameLaws.{HoldsFixed-front, slice_get-front, with_text-known, added_behind, added_distinct, added_known}
use Rattle.merc_base.proofs.names.Names.intern.Goals as goal

pub returns-in-Some-clause-known : goal.returns-in-Some-clause-known
returns-in-Some-clause-known c = slice_get-front fixed_names c.self.inside.added _ _ c.in-Some.ensures

pub returns-in-Some-clause-ok : goal.returns-in-Some-clause-ok
returns-in-Some-clause-ok c =
    with_text-known (fixed_names ++ c.self.inside.added) c.args.text.now c.in-Some.number (slice_get-front fixed_names c.self.inside.added _ _ c.in-Some.ensures)
    ∙ ap (λ names. with_text names c.args.text.now) c.self.view_is

pub returns-in-Some-clause-distinct : goal.returns-in-Some-clause-distinct
returns-in-Some-clause-distinct c = c.self.invariant

pub returns-in-Some-clause-fixed : goal.returns-in-Some-clause-fixed
returns-in-Some-clause-fixed c = HoldsFixed-front c.self.inside.added

pub returns-in_err-place-clause-fixed : goal.returns-in_err-place-clause-fixed
returns-in_err-place-clause-fixed c = HoldsFixed-front c.add.new.self

pub invariant_of-self-2 : goal.invariant_of-self-2
invariant_of-self-2 c = added_distinct c.self.inside.added c.add.new.self c.args.text.now c.in_ok-place.ensures.texts c.in_default.ensures c.self.invariant

pub returns-clause-known : goal.returns-clause-known
returns-clause-known c =
    added_known c.self.inside.added c.add.new.self c.args.text.now c.in_ok-place.place _ c.in_ok-place.ensures.texts c.in_ok-place.ensures.place refl

pub returns-clause-ok : goal.returns-clause-ok
returns-clause-ok c =
    added_behind c.self.inside.added c.add.new.self c.args.text.now c.in_ok-place.ensures.texts c.in_default.ensures
    ∙ ap (λ names. with_text names c.args.text.now) c.self.view_is

pub returns-clause-distinct : goal.returns-clause-distinct
returns-clause-distinct c = added_distinct c.self.inside.added c.add.new.self c.args.text.now c.in_ok-place.ensures.texts c.in_default.ensures c.self.invariant

pub returns-clause-fixed : goal.returns-clause-fixed
returns-clause-fixed c = HoldsFixed-front c.add.new.self
