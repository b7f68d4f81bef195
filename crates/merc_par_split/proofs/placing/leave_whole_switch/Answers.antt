use Rattle.std.proofs.Common.{◌∙◌, ap, sym, length}
use Rattle.std.proofs.lemmas.Result.{on_ok_weaker}
use Rattle.merc_par_split.proofs.Entering.{lies-arms}
use Rattle.merc_par_split.proofs.placing.leave_whole_switch.Goals as goal

pub leave_switch-requires : goal.leave_switch-requires
leave_switch-requires c =
    lies-arms c.args.occurrences.now c.args.placing.now.first c.args.symbols.now c.args.arms (ap length (sym c.as_slice.ensures) ∙ c.if-as_slice-len.false ∙ c.len.ensures) c.requires

pub returns : goal.returns
returns c = on_ok_weaker c.leave_switch.result (λ are. (ap length (sym c.as_slice.ensures) ∙ c.if-as_slice-len.false ∙ c.len.ensures, are)) c.leave_switch.ensures
