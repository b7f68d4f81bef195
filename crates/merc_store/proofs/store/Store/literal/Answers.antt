use Rattle.std.proofs.Common.{rules, FitsSigned, sym, ap, subst, ◌∙◌, of_z, to_z, to_z-of_z}
use Rattle.std.specs.Int.{w64}
use Rattle.merc_goal_tree.specs.declared.goal.Symbol.TheVariants.{Integer}
use Rattle.merc_code.specs.declared.instruction.Instruction.TheVariants.{Literal}
use Rattle.merc_store.specs.Performing.{Does}
use Rattle.merc_store.proofs.store.Store.literal.Goals as goal

pub returns-in-Integer : goal.returns-in-Integer
returns-in-Integer c =
    let fits : FitsSigned w64 c.in-Integer.number = search rules in
    subst (λ symbol. Does c.args.self.now c.args.self.now (Literal c.args.whole symbol) c.tested.result) (ap Integer (to_z-of_z fits) ∙ sym c.in-Integer.is)
    (subst (Does c.args.self.now c.args.self.now (Literal c.args.whole (Integer (to_z w64 (of_z w64 c.in-Integer.number))))) (sym c.tested.ensures) c.has_integer.ensures)
