use Rattle.std.proofs.Common.{◌≡◌, ◌+◌, ◌∷◌, drop, ap, sym, ◌∙◌}
use Rattle.std.proofs.lemmas.List.{at_drop_more}
use Rattle.merc_goals.specs.Faults.{earlier, first_span}
use Rattle.merc_flat.specs.UnknownNames.{entries_unknown, entry_unknown}
use Rattle.merc_flat.proofs.UnknownLaws.{found_step}
use Rattle.merc_flat.proofs.unknown.first_among.Goals as goal

pub loop-entry-preserved : goal.loop-entry-preserved
loop-entry-preserved c =
    let rest = drop (c.loop-entry.entry-index + 1) c.args.entries.now in
    let next : entries_unknown c.args.known.now (drop c.loop-entry.entry-index c.args.entries.now) ≡ entries_unknown c.args.known.now (c.entry-item.result ∷ rest) =
    at_drop_more (entries_unknown c.args.known.now) c.args.entries.now c.loop-entry.entry-index c.entry-item.result c.loop-entry-test.true
    ∙ ap (λ e. entries_unknown c.args.known.now (e ∷ rest)) (sym c.entry-item.is) in
    ap (λ f. earlier f (first_span (entries_unknown c.args.known.now rest))) (c.earlier-first.ensures ∙ ap (earlier c.loop-entry.first) c.in_ok-found.ensures)
    ∙ found_step c.loop-entry.first (entry_unknown c.args.known.now c.entry-item.result) (entries_unknown c.args.known.now rest) _
    (ap (λ l. earlier c.loop-entry.first (first_span l)) (sym next) ∙ c.loop-entry.invariant)
