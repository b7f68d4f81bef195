use Rattle.std.proofs.Common.{◌∙◌, ap, sym, map, ◌++◌, ◌∷◌, []}
use Rattle.std.proofs.lemmas.List.{append-nil}
use Rattle.merc_rights.proofs.Indexes.{pairs_rise}
use Rattle.merc_rights.proofs.conjuncts.set_of.Goals as goal

pub of-requires : goal.of-requires
of-requires c =
    pairs_rise c.put_all.new.pairs.items (c.args.variables.now ∷ [])
    (c.in_ok-put_all.ensures ∙ ap (λ l. l ++ map (λ variable. (variable, 0)) c.args.variables.now) c.new-pairs.ensures.items ∙ sym (append-nil (map (λ variable. (variable, 0)) c.args.variables.now)))
