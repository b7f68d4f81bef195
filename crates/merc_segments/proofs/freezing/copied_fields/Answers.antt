-- The next field is copied after those so far.
use Rattle.std.proofs.Common.{List, [], ◌∷◌, ◌++◌, ◌∙◌, ap, sym, map, take}
use Rattle.merc_value.specs.Writing.{arguments_at}
use Rattle.merc_value.specs.declared.word.Word.{Word}
use Rattle.merc_segments.specs.Places.{copy_of}
use Rattle.merc_segments.proofs.FreezeLemmas.{copied_next}
use Rattle.merc_segments.proofs.freezing.copied_fields.Goals as goal

pub loop-index-preserved : goal.loop-index-preserved
loop-index-preserved c =
    c.in_ok-push.ensures.items
    ∙ ap (λ (ws : List Word). ws ++ c.copied.result ∷ []) c.loop-index.invariant
    ∙ ap (λ (w : Word). map (copy_of c.args.places.now) (take c.loop-index.index (arguments_at c.args.heap.now c.args.place)) ++ w ∷ []) c.copied.ensures
    ∙ copied_next c.args.places.now (arguments_at c.args.heap.now c.args.place) c.loop-index.index c.in-Some.field (sym c.argument.ensures ∙ c.in-Some.is)
