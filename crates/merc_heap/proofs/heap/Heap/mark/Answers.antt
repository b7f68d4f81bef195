-- Each place is seen.
use Rattle.std.proofs.Common.{◌≡◌, ◌∙◌, sym, ap, length}
use Rattle.merc_heap.proofs.CellsLemmas.{length-cells_of}
use Rattle.merc_heap.proofs.heap.Heap.mark.Goals as goal

pub returns : goal.returns
returns c =
    let places : c.len.result ≡ length c.self.inside.slots.items = cc (c.self.inside.slots.ok.0, c.len.ensures) in
    places ∙ sym (length-cells_of c.self.inside.functors c.self.inside.slots.items) ∙ ap length c.self.view_is
