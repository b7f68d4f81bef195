use Rattle.std.proofs.Common.{◌∙◌}
use Rattle.merc_switch_choice.proofs.KeyLaws.{contained}
use Rattle.merc_switch_choice.proofs.symbols.SymbolSet.contains.Goals as goal

pub returns : goal.returns
returns c = c.contains.ensures ∙ contained c.key_of-key.result c.args.symbol c.self.inside.keys.keys c.args.self.now c.key_of-key.ensures c.self.view_is
