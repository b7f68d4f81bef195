use Rattle.std.proofs.Common.{◌-◌, ◌∙◌, sym, arith}
use Rattle.merc_base.specs.Names.{constant_count, fixed_names}
use Rattle.merc_base.proofs.NameLaws.{length-fixed_names, slice_get-within, slice_get-back, HoldsFixed-front}
use Rattle.merc_base.proofs.names.Names.text.Goals as goal

pub returns-then-number-lt98-clause-value : goal.returns-then-number-lt98-clause-value
returns-then-number-lt98-clause-value c =
    rw (← c.self.view_is, ← c.name.view_is) (c.fixed_text.ensures
    ∙ sym (slice_get-within fixed_names c.self.inside.added c.name.inside.0 (omega (arith, length-fixed_names))))

pub returns-then-number-lt98-clause-fixed : goal.returns-then-number-lt98-clause-fixed
returns-then-number-lt98-clause-fixed c = rw (← c.self.view_is) (HoldsFixed-front c.self.inside.added)

pub returns-clause-value : goal.returns-clause-value
returns-clause-value c =
    rw (← c.self.view_is, ← c.name.view_is) (c.text.ensures
    ∙ sym (slice_get-back fixed_names c.self.inside.added (c.name.inside.0 - constant_count) c.name.inside.0 (omega (arith, length-fixed_names))))

pub returns-clause-fixed : goal.returns-clause-fixed
returns-clause-fixed c = rw (← c.self.view_is) (HoldsFixed-front c.self.inside.added)
