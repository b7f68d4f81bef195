use Rattle.std.proofs.Common.{◌≡◌, sym, ap, ◌∙◌}
use Rattle.merc_value.specs.Block.{value_of}
use Rattle.merc_value.specs.declared.word.Word.TheVariants.{Cell}
use Rattle.merc_store.specs.Performing.{head_of}
use Rattle.merc_store.proofs.store.Store.head.Goals as goal

pub returns-in-Cell : goal.returns-in-Cell
returns-in-Cell c =
    let seen : c.self.inside.heap ≡ c.args.self.now.cells = ap (λ s. s.cells) c.self.view_is in
    c.cell_in-head.ensures.symbol
    ∙ ap (λ cells. head_of (value_of cells (Cell c.in-Cell.place))) seen
    ∙ ap (λ w. head_of (value_of c.args.self.now.cells w)) (sym c.in-Cell.is)
