use Rattle.std.proofs.Common.{◌∙◌}
use Rattle.merc_switch_choice.proofs.KeyLaws.{added, placed}
use Rattle.merc_switch_choice.proofs.symbols.SymbolSet.add.Goals as goal

pub returns-clause-symbols : goal.returns-clause-symbols
returns-clause-symbols c =
    added c.key_of.result c.args.symbol c.self.inside.keys.keys c.insert_full.new.self.keys c.args.self.now c.key_of.ensures c.self.view_is c.in_ok-place.ensures.keys

pub returns-clause-place : goal.returns-clause-place
returns-clause-place c =
    c.in_ok-place.ensures.index ∙ placed c.key_of.result c.args.symbol c.self.inside.keys.keys c.args.self.now c.key_of.ensures c.self.view_is
