-- The word of the field is read among the words of the fields.
use Rattle.std.proofs.Common.{◌<◌, ◌≤◌, ◌∙◌, Some, List, ap, arith, length, refl, slice_get, sym}
use Rattle.std.specs.Option.{option_map}
use Rattle.std.proofs.lemmas.Option.{slice_get-map, slice_get_past, slice_get_read}
use Rattle.merc_value.specs.declared.word.Word.{Word}
use Rattle.merc_heap.specs.Heap.{word_of}
use Rattle.merc_heap.proofs.heap.field_at.Goals as goal

pub returns-then-index-fields : goal.returns-then-index-fields
returns-then-index-fields c =
    let fields = c.cell_at.result.1.now in
    let within : c.args.index < length fields = omega (arith, c.if-index-fields.true) in
    let there = slice_get_read fields (length fields) c.args.index c.index-fields-index.result refl within c.index-fields-index.is in
    ap Some c.word.ensures
    ∙ sym (slice_get-map word_of fields c.args.index ∙ ap (option_map word_of) there)
    ∙ ap (λ (ws : List Word). slice_get ws c.args.index) c.cell_at.ensures.fields

pub returns-else-index-fields : goal.returns-else-index-fields
returns-else-index-fields c =
    let fields = c.cell_at.result.1.now in
    let past : length fields ≤ c.args.index = omega (arith, c.if-index-fields.false) in
    sym (slice_get-map word_of fields c.args.index ∙ ap (option_map word_of) (slice_get_past fields c.args.index past))
    ∙ ap (λ (ws : List Word). slice_get ws c.args.index) c.cell_at.ensures.fields
