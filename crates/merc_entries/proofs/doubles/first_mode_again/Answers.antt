use Rattle.std.proofs.Common.{◌∙◌}
use Rattle.std.proofs.lemmas.Result.{IfOk-weaker}
use Rattle.merc_entries.specs.Entries.{is_same_mode}
use Rattle.merc_entries.specs.ModeValue.{mode_value}
use Rattle.merc_entries.proofs.SameKeys.{same_mode, first_again_as}
use Rattle.merc_entries.proofs.doubles.first_mode_again.Goals as goal

pub returns : goal.returns
returns c =
    IfOk-weaker c.first_again.result _ _ (λ place is. is ∙ first_again_as _ is_same_mode mode_value same_mode c.args.declared.items) c.first_again.ensures
