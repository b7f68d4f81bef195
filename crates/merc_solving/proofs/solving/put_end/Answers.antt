-- Where memory is refused nothing was written.
use Rattle.std.proofs.Common.{[], ◌∷◌, refl}
use Rattle.std.proofs.lemmas.Result.{err_from_is_err_and}
use Rattle.merc_transfer.proofs.WritingLemmas.{puts_front-none}
use Rattle.merc_solving.proofs.solving.put_end.Goals as goal

pub returns-in_err-line-clause-writes : goal.returns-in_err-line-clause-writes
returns-in_err-line-clause-writes g c =
    let cut = err_from_is_err_and c.from_residual.result c.from_residual.ensures.1 in
    rw (cut.1, cut.2) (λ text _. (puts_front-none (text ∷ []) (g.K.Sink.sink_state c.args.sink.now), refl))
