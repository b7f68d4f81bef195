use Rattle.std.proofs.Common.{◌∙◌, sym, ap, length}
use Rattle.std.proofs.lemmas.List.{length-map}
use Rattle.merc_heap.specs.Heap.{word_of}
use Rattle.merc_store.proofs.EffectLemmas.{head_cell}
use Rattle.merc_store.proofs.splitting.cell_in.Goals as goal

pub returns-clause-symbol : goal.returns-clause-symbol
returns-clause-symbol c =
    head_cell c.args.heap.now c.cell-name.ensures.lower c.args.place c.cell-name.result.0 (length c.cell-name.result.1.now) c.requires c.cell-name.ensures.symbol
    (ap length (sym c.cell-name.ensures.fields) ∙ length-map c.cell-name.result.1.now word_of)
