use Rattle.std.proofs.Common.{sym, subst}
use Rattle.merc_code.specs.declared.instruction.Instruction.TheVariants.{Compare}
use Rattle.merc_store.specs.Performing.{Does}
use Rattle.merc_store.proofs.store.Store.compare.Goals as goal

pub returns : goal.returns
returns c = subst (Does c.args.self.now c.args.self.now (Compare c.args.comparison c.args.one c.args.other)) (sym c.tested.ensures) c.compare_variables.ensures
