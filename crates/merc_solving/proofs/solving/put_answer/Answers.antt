-- Where memory is refused nothing was written.
use Rattle.std.proofs.Common.{[], ◌∷◌, refl}
use Rattle.std.proofs.lemmas.Result.{err_from_is_err_and}
use Rattle.merc_transfer.proofs.WritingLemmas.{puts_front-none}
use Rattle.merc_solving.specs.RunLines.{solution_line}
use Rattle.merc_solving.proofs.solving.put_answer.Goals as goal

pub returns-in_err-values : goal.returns-in_err-values
returns-in_err-values g c =
    let cut = err_from_is_err_and c.from_residual.result c.from_residual.ensures.1 in
    rw (cut.1, cut.2) (λ values _. (puts_front-none (solution_line c.args.ready.now.names c.args.ready.now.variables values ∷ []) (g.K.Sink.sink_state c.args.sink.now), refl))

pub returns-in_err-line : goal.returns-in_err-line
returns-in_err-line g c =
    let cut = err_from_is_err_and c.from_residual-in_err-line.result c.from_residual-in_err-line.ensures.1 in
    rw (cut.1, cut.2) (λ values _. (puts_front-none (solution_line c.args.ready.now.names c.args.ready.now.variables values ∷ []) (g.K.Sink.sink_state c.args.sink.now), refl))
