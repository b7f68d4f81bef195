-- A cell has the value of its constructor with its arguments' values.
use Rattle.std.proofs.Common.{◌≡◌, ◌<◌, ◌∙◌, sym, ap, subst, length, arith}
use Rattle.std.specs.List.{All}
use Rattle.merc_value.specs.Value.{Value, Con}
use Rattle.merc_value.specs.Block.{CellData, IsBelow, cell_values, word_values, value_of, no_value}
use Rattle.merc_value.specs.Writing.{arguments_of, HasShape}
use Rattle.merc_value.proofs.Values.{cell_value_at}
use Rattle.merc_value.proofs.BlockLaws.{all_raised}
use Rattle.merc_value.proofs.WritingLemmas.{cell_found}
use Rattle.merc_value.proofs.shape.shape_of.Goals as goal

pub returns-in-Atom-clause-shape : goal.returns-in-Atom-clause-shape
returns-in-Atom-clause-shape c = rw c.in-Atom.is (c.atom_shape.ensures.shape c.args.cells.now)

pub returns-in-Atom-clause-below : goal.returns-in-Atom-clause-below
returns-in-Atom-clause-below c = c.atom_shape.ensures.below _

pub returns-in-Cell-clause-shape : goal.returns-in-Cell-clause-shape
returns-in-Cell-clause-shape c =
    let within : c.in-Cell.place < length c.args.cells.now = rw c.in-Cell.is at c.requires.within in
    let found = cell_found c.args.cells.now c.in-Cell.place c.index-cells-place.result within c.index-cells-place.is in
    let items : c.deref.result.now ≡ c.index-cells-place.result.arguments = c.deref.ensures.value ∙ ap (λ (at : CellData). at.arguments) c.cell.view_is in
    let value = cell_value_at c.args.cells.now c.in-Cell.place c.index-cells-place.result no_value found (c.requires.lower c.in-Cell.place c.index-cells-place.result found) in
    let symbol : c.cell.inside.symbol ≡ c.index-cells-place.result.symbol = ap (λ (at : CellData). at.symbol) c.cell.view_is in
    let shaped = c.cell_shape.ensures.shape c.args.cells.now (ap arguments_of found ∙ sym items) in
    let same : Con c.cell.inside.symbol (word_values (cell_values c.args.cells.now) c.deref.result.now) ≡ value_of c.args.cells.now c.args.word.now = cc (value, items, symbol, c.in-Cell.is) in
    subst (λ (v : Value). HasShape c.args.cells.now v c.cell_shape.result) same shaped

pub returns-in-Cell-clause-below : goal.returns-in-Cell-clause-below
returns-in-Cell-clause-below c =
    let within : c.in-Cell.place < length c.args.cells.now = rw c.in-Cell.is at c.requires.within in
    let found = cell_found c.args.cells.now c.in-Cell.place c.index-cells-place.result within c.index-cells-place.is in
    let items : c.index-cells-place.result.arguments ≡ c.deref.result.now = sym (c.deref.ensures.value ∙ ap (λ (at : CellData). at.arguments) c.cell.view_is) in
    let raised = all_raised c.in-Cell.place (length c.args.cells.now) (omega arith) c.index-cells-place.result.arguments (c.requires.lower c.in-Cell.place c.index-cells-place.result found) in
    c.cell_shape.ensures.below _ within (subst (All (IsBelow (length c.args.cells.now))) items raised)
