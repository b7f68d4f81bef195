use Rattle.std.proofs.Common.{sym, ap, ◌∙◌, Option}
use Rattle.std.specs.Option.{unwrap_or}
use Rattle.merc_declared.specs.declared.mode_counts.ModeCount.{ModeCount}
use Rattle.merc_declared.specs.ModeCounts.{no_modes}
use Rattle.merc_entries.proofs.KeyLaws.{lookup-nothing}
use Rattle.merc_declared.proofs.mode_counts.ModeCounts.at.Goals as goal

pub returns-in-None : goal.returns-in-None
returns-in-None c = rw c.in-None.is (c.none-in-None.ensures ∙ sym (ap (λ (found : Option ModeCount). unwrap_or found no_modes) (lookup-nothing c.args.self.now.by_key.entries)))
