-- Words without cells stand for one value only where they are one.
use Rattle.std.proofs.Common.{◌∙◌, refl, sym, ap}
use Rattle.merc_value.specs.Block.{value_of}
use Rattle.merc_value.proofs.WordEquality.{word_eq}
use Rattle.merc_heap.proofs.heap.Heap.equal.Goals as goal

pub returns-then-eq : goal.returns-then-eq
returns-then-eq c = ((λ yes. ap (value_of c.args.self.now) ((word_eq c.args.one c.args.other).0 (sym c.eq.ensures ∙ c.if-eq.true))), (λ same. refl))
