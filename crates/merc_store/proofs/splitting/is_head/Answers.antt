use Rattle.std.proofs.Common.{ap, ◌∙◌}
use Rattle.merc_goal_tree.specs.contracts.goal.SymbolPartialEq.TheImpl.{eq-value}
use Rattle.merc_store.proofs.EffectLemmas.{symbol_is}
use Rattle.merc_store.proofs.splitting.is_head.Goals as goal

pub returns : goal.returns
returns c value is = c.eq.ensures ∙ ap (eq-value.it c.args.symbol) is ∙ symbol_is c.args.symbol value
