-- A cell is the empty list or a list cell where it has the right number of arguments and the right name.
use Rattle.std.proofs.Common.{◌≡◌, ap, sym, subst, [], arith}
use Rattle.merc_value.specs.Value.{Value, Con}
use Rattle.merc_value.specs.Block.{IsBelow, word_values, cell_values}
use Rattle.merc_value.specs.Writing.{HasShape}
use Rattle.merc_value.proofs.WritingLemmas.{applied_shape, no_words}
use Rattle.merc_value.proofs.shape.cell_shape.Goals as goal

pub returns-in-empty-clause-shape : goal.returns-in-empty-clause-shape
returns-in-empty-clause-shape c cells at =
    let empty : c.args.arguments.now ≡ [] = no_words c.args.arguments.now c.in-empty.len_below in
    subst (λ (v : Value). HasShape cells v c.atom_shape.result) (ap (λ words. Con c.args.symbol (word_values (cell_values cells) words)) (sym empty)) (c.atom_shape.ensures.shape cells)

pub returns-in-empty-clause-below : goal.returns-in-empty-clause-below
returns-in-empty-clause-below c bound within below = c.atom_shape.ensures.below bound

pub returns-in-len1-clause-shape : goal.returns-in-len1-clause-shape
returns-in-len1-clause-shape c cells at = applied_shape cells _ _ _ at (λ few. absurd (omega arith)) (λ two. absurd (omega arith))

pub returns-in-len2-clause-below : goal.returns-in-len2-clause-below
returns-in-len2-clause-below c bound within below = let e = c.pair_shape.ensures.below in let f = c.in-len2 in
    c.pair_shape.ensures.below bound within
    (subst (IsBelow bound) (sym c.first-item.is) (below 0 c.first-item.result (omega arith)))
    (subst (IsBelow bound) (sym c.second-item.is) (below 1 c.second-item.result (omega arith)))

pub returns-in-len3-up-clause-shape : goal.returns-in-len3-up-clause-shape
returns-in-len3-up-clause-shape c cells at = applied_shape cells _ _ _ at (λ few. absurd (omega arith)) (λ two. absurd (omega arith))
