-- Cells are noted, and no other words.
use Rattle.std.proofs.Common.{sym, subst}
use Rattle.merc_value.specs.declared.word.Word.{Word}
use Rattle.merc_value.specs.declared.word.Word.TheVariants.{Cell as CellWord}
use Rattle.merc_heap.specs.Equality.{Notes}
use Rattle.merc_heap.proofs.MetLemmas.{added_pair}
use Rattle.merc_heap.proofs.equality.note.Goals as goal

pub returns-in_ok-insert : goal.returns-in_ok-insert
returns-in_ok-insert c =
    let added = added_pair (c.in-Cell.place, c.in-Cell-other.other_place) c.args.met.now.keys c.insert.new.self.keys c.in_ok-insert.ensures.keys in
    subst (λ (w : Word). Notes w c.args.other c.args.met.now.keys c.insert.new.self.keys) (sym c.in-Cell.is)
    (subst (λ (w : Word). Notes (CellWord c.in-Cell.place) w c.args.met.now.keys c.insert.new.self.keys) (sym c.in-Cell-other.is) added)
