-- Fields are the same where each pair of them is, and cells where they are alike and their fields are the same.
use Rattle.std.proofs.Common.{◌≡◌, ◌∙◌, ◌<◌, ◌≤◌, ◌+◌, ◌-◌, Some, List, arith, length, map, refl, slice_get, subst, sym, ap}
use Rattle.std.proofs.lemmas.List.{length-map}
use Rattle.std.proofs.lemmas.Option.{slice_get_read}
use Rattle.merc_value.specs.declared.word.Word.{Word}
use Rattle.merc_heap.specs.Heap.{arguments_in, word_of}
use Rattle.merc_heap.proofs.EqualityLemmas.{pairs_same, word_below}
use Rattle.merc_heap.proofs.ComparisonLemmas.{cells_alike, same_all, same_next, told_again, told_of_fields, word_read}
use Rattle.merc_heap.proofs.comparison.+comparing.Goals.{compare_words-in-Cell+in-Cell-other+else-bound-gt0, compare_words-in-Cell+in_default-other, compare_words-in_default}
use Rattle.merc_heap.proofs.comparison.+comparing.Goals as goal

pub compare_fields-compare_words-requires : goal.compare_fields-compare_words-requires
compare_fields-compare_words-requires t c =
    let within : c.loop-index.index < length c.args.fields.now = omega (arith, c.loop-index-test.true) in
    let within' : c.loop-index.index < length c.args.others.now = omega (arith, within, c.requires.count) in
    let found = word_read c.args.fields.now c.loop-index.index c.index-fields-index.result c.word.result (slice_get_read c.args.fields.now (length c.args.fields.now) c.loop-index.index c.index-fields-index.result refl within c.index-fields-index.is) c.word.ensures in
    let found' = word_read c.args.others.now c.loop-index.index c.index-others-index.result c.word-in-loop-index.result (slice_get_read c.args.others.now (length c.args.others.now) c.loop-index.index c.index-others-index.result refl within' c.index-others-index.is) c.word-in-loop-index.ensures in (
      omega (arith, c.decreases, c.loop-index.invariant.left),
      (
        word_below (length c.args.heap.now) (map word_of c.args.fields.now) c.loop-index.index c.word.result c.requires.fields found,
        word_below (length c.args.heap.now) (map word_of c.args.others.now) c.loop-index.index c.word-in-loop-index.result c.requires.others found',
      ),
    )

pub compare_fields-returns-in-Apart : goal.compare_fields-returns-in-Apart
compare_fields-returns-in-Apart t c same =
    let within : c.loop-index.index < length c.args.fields.now = omega (arith, c.loop-index-test.true) in
    let within' : c.loop-index.index < length c.args.others.now = omega (arith, within, c.requires.count) in
    let found = word_read c.args.fields.now c.loop-index.index c.index-fields-index.result c.word.result (slice_get_read c.args.fields.now (length c.args.fields.now) c.loop-index.index c.index-fields-index.result refl within c.index-fields-index.is) c.word.ensures in
    let found' = word_read c.args.others.now c.loop-index.index c.index-others-index.result c.word-in-loop-index.result (slice_get_read c.args.others.now (length c.args.others.now) c.loop-index.index c.index-others-index.result refl within' c.index-others-index.is) c.word-in-loop-index.ensures in
    c.in-Apart.ensures (pairs_same c.args.heap.now (map word_of c.args.fields.now) (map word_of c.args.others.now) c.loop-index.index c.word.result c.word-in-loop-index.result found found' same)

pub compare_fields-loop-index-preserved : goal.compare_fields-loop-index-preserved
compare_fields-loop-index-preserved t c =
    let within : c.loop-index.index < length c.args.fields.now = omega (arith, c.loop-index-test.true) in
    let within' : c.loop-index.index < length c.args.others.now = omega (arith, within, c.requires.count) in
    let found = word_read c.args.fields.now c.loop-index.index c.index-fields-index.result c.word.result (slice_get_read c.args.fields.now (length c.args.fields.now) c.loop-index.index c.index-fields-index.result refl within c.index-fields-index.is) c.word.ensures in
    let found' = word_read c.args.others.now c.loop-index.index c.index-others-index.result c.word-in-loop-index.result (slice_get_read c.args.others.now (length c.args.others.now) c.loop-index.index c.index-others-index.result refl within' c.index-others-index.is) c.word-in-loop-index.ensures in
    record {
      same = same_next c.args.heap.now (map word_of c.args.fields.now) (map word_of c.args.others.now) c.loop-index.index c.word.result c.word-in-loop-index.result found found' c.loop-index.invariant.same c.in-Same.ensures.0;
      left = omega (arith, c.in-Same.ensures.1, c.loop-index.invariant.left);
    }

pub compare_fields-returns : goal.compare_fields-returns
compare_fields-returns t c = (
  same_all c.args.heap.now (map word_of c.args.fields.now) (map word_of c.args.others.now) c.loop-index.index
      (omega (arith, c.loop-index-test.false, length-map c.args.fields.now word_of)) (omega (arith, c.loop-index-test.false, c.requires.count, length-map c.args.others.now word_of))
      c.loop-index.invariant.same,
  c.loop-index.invariant.left,
)

pub compare_words-fields-others-requires-clause-count : goal.compare_words-fields-others-requires-clause-count
compare_words-fields-others-requires-clause-count t c =
    sym (length-map c.cell.result.1.now word_of) ∙ ap length c.cell.ensures.fields ∙ c.if-are_numbered_alike.ensures.count refl

pub compare_words-returns-then-are_numbered_alike : goal.compare_words-returns-then-are_numbered_alike
compare_words-returns-then-are_numbered_alike t c =
    told_of_fields c.args.heap.now c.cell.ensures.lower c.args.one c.args.other c.requires.one c.requires.other
    (cells_alike c.args.heap.now c.args.one c.args.other c.in-Cell.place c.in-Cell-other.other_place c.cell.result.0 c.in-Cell.is c.in-Cell-other.is c.cell.ensures.symbol
    (c.if-are_numbered_alike.ensures.symbol refl) (c.if-are_numbered_alike.ensures.count refl))
    (map word_of c.cell.result.1.now) (map word_of c.fields-others.result.now) (c.args.bound - 1) c.args.bound c.compare_fields.result
    (c.cell.ensures.fields ∙ ap (arguments_in c.args.heap.now) (sym c.in-Cell.is))
    (c.fields-others.ensures ∙ ap (arguments_in c.args.heap.now) (sym c.in-Cell-other.is))
    (omega arith) c.compare_fields.ensures

pub compare_words-returns : goal.compare_words-returns
compare_words-returns t c = elim c.match-one.branch [
  | compare_words-in-Cell+in-Cell-other+else-bound-gt0 w ↦ told_again c.args.heap.now c.match-one.one c.args.one c.match-one.other c.args.other c.args.bound c.compare_headers.result (w.one-is ∙ sym w.in-Cell.is) (w.other-is ∙ sym w.in-Cell-other.is) (c.compare_headers.ensures c.args.bound)
  | compare_words-in-Cell+in_default-other w ↦ told_again c.args.heap.now c.match-one.one c.args.one c.match-one.other c.args.other c.args.bound c.compare_headers.result (w.one-is ∙ sym w.in-Cell.is) w.other-is (c.compare_headers.ensures c.args.bound)
  | compare_words-in_default w ↦ told_again c.args.heap.now c.match-one.one c.args.one c.match-one.other c.args.other c.args.bound c.compare_headers.result w.one-is w.other-is (c.compare_headers.ensures c.args.bound)
]
