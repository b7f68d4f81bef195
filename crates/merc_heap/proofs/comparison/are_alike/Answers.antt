-- Two words stand for one value only where they have one constructor and as many arguments.
use Rattle.std.proofs.Common.{◌≡◌, ◌∙◌, Some, None, true, false, sym, ap, length}
use Rattle.merc_value.specs.Block.{value_of}
use Rattle.merc_heap.specs.Heap.{arguments_in, symbol_of}
use Rattle.merc_heap.proofs.EqualityLemmas.{plain_one, apart_count, no_symbol}
use Rattle.merc_heap.proofs.comparison.are_alike.Goals as goal

pub returns-in_default-clause-no : goal.returns-in_default-clause-no
returns-in_default-clause-no c failed same =
    let none : symbol_of (value_of c.args.heap.now c.args.one.now) ≡ None = sym c.symbol.ensures ∙ no_symbol c.symbol.result c.in_default.not-Some in
    c.requires.apart (plain_one c.args.heap.now c.arity-count.ensures.lower c.args.one.now c.args.other.now c.requires.one c.requires.other none same)

pub returns-clause-no : goal.returns-clause-no
returns-clause-no c failed same =
    let is : symbol_of (value_of c.args.heap.now c.args.one.now) ≡ Some c.in-Some.symbol = sym c.symbol.ensures ∙ c.in-Some.is in
    let is' : symbol_of (value_of c.args.heap.now c.args.other.now) ≡ Some c.in-Some-symbol.other_symbol = sym c.symbol-2.ensures ∙ c.in-Some-symbol.is in
    let symbols : Some c.in-Some.symbol ≡ Some c.in-Some-symbol.other_symbol = sym is ∙ ap symbol_of same ∙ is' in
    let symbols' : c.in-Some.symbol ≡ c.in-Some-symbol.other_symbol = cc (symbols) in
    let count = apart_count c.args.heap.now c.arity-count.ensures.lower c.args.one.now c.args.other.now c.in-Some.symbol c.requires.one c.requires.other is (is' ∙ sym symbols) same in
    let count' : c.arity-count.result ≡ c.arity-other_count.result = c.arity-count.ensures.arity ∙ count ∙ sym c.arity-other_count.ensures.arity in
    let one_header : c.is_one_header.result ≡ true = c.is_one_header.ensures.1 (symbols', count') in
    let apart : c.is_one_header.result ≡ false = failed in
    absurd (cc (one_header, apart))

pub returns-clause-yes : goal.returns-clause-yes
returns-clause-yes c held =
    let is : symbol_of (value_of c.args.heap.now c.args.one.now) ≡ Some c.in-Some.symbol = sym c.symbol.ensures ∙ c.in-Some.is in
    let is' : symbol_of (value_of c.args.heap.now c.args.other.now) ≡ Some c.in-Some-symbol.other_symbol = sym c.symbol-2.ensures ∙ c.in-Some-symbol.is in
    let both = c.is_one_header.ensures.0 held in
    record {
      symbol = c.in-Some.symbol;
      is_one = is;
      is_other = is' ∙ ap Some (sym both.0);
      count = sym c.arity-count.ensures.arity ∙ both.1 ∙ c.arity-other_count.ensures.arity;
    }
