use Rattle.std.proofs.Common.{◌∙◌}
use Rattle.std.proofs.lemmas.Result.{IfOk-weaker}
use Rattle.merc_entries.specs.Entries.{is_key}
use Rattle.merc_entries.proofs.KeyLaws.{same-test}
use Rattle.merc_entries.proofs.SameKeys.{first_again_as}
use Rattle.merc_entries.proofs.doubles.first_key_again.Goals as goal

pub returns : goal.returns
returns c =
    IfOk-weaker c.first_again.result _ _ (λ place is. is ∙ first_again_as _ is_key (λ key. key) same-test c.args.declared.items) c.first_again.ensures
