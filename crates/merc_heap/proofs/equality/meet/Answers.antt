-- Two words stand for one value where they are one, or have one constructor and the same arguments.
use Rattle.std.proofs.Common.{◌≡◌, ◌∙◌, true, false, refl, sym, ap}
use Rattle.merc_value.specs.Block.{value_of}
use Rattle.merc_value.specs.contracts.word.WordPartialEq.TheImpl.{eq-value}
use Rattle.merc_value.proofs.WordEquality.{word_eq}
use Rattle.merc_heap.proofs.MetLemmas.{meets_same, meets_noted}
use Rattle.merc_heap.proofs.equality.meet.Goals as goal

pub returns-then-eq-clause-yes : goal.returns-then-eq-clause-yes
returns-then-eq-clause-yes c held =
    let one_word : c.args.one ≡ c.args.other = (word_eq c.args.one c.args.other).0 (sym c.eq.ensures ∙ c.if-eq.true) in
    meets_same c.args.heap.now c.args.one c.args.other c.args.met.now.keys c.args.met.now.keys (ap (value_of c.args.heap.now) one_word) refl

pub are_alike-requires-clause-apart : goal.are_alike-requires-clause-apart
are_alike-requires-clause-apart c one_word =
    let one_word' : eq-value.it c.args.one c.args.other ≡ true = (word_eq c.args.one c.args.other).1 one_word in
    let tested : c.eq.result ≡ eq-value.it c.args.one c.args.other = c.eq.ensures in
    let apart : c.eq.result ≡ false = c.if-eq.false in
    absurd (cc (one_word', tested, apart))

pub returns-clause-yes : goal.returns-clause-yes
returns-clause-yes c held =
    meets_noted c.args.heap.now c.are_alike.ensures.lower c.args.one c.args.other c.args.met.now.keys c.note.new.met.keys
    c.requires.one c.requires.other (c.are_alike.ensures.yes c.if-not-are_alike.false) c.in_ok-note.ensures
