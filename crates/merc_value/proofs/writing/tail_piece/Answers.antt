-- A comma stands before the next head and tail, and a bar before an end that is no list.
use Rattle.std.proofs.Common.{ap, sym, ◌∙◌, arith, append_assoc, codes, ◌++◌}
use Rattle.merc_value.specs.Text.{value_text, tail_text}
use Rattle.merc_value.specs.Block.{value_of}
use Rattle.merc_value.specs.declared.writing.Todo.TheVariants.{Tail}
use Rattle.merc_value.proofs.WritingLemmas.{takes_two, takes_bar, other_shape}
use Rattle.merc_value.proofs.writing.tail_piece.Goals as goal

pub returns-in_ok-push_two-in-Pair : goal.returns-in_ok-push_two-in-Pair
returns-in_ok-push_two-in-Pair c =
    takes_two _ _ _ _ (Tail c.in-Pair.tail) c.in-Pair.head _ c.in_ok-push_two-in-Pair.ensures c.in-Pair.ensures.below.1 c.in-Pair.ensures.below.0
    (λ names. ap (λ t. codes ", " ++ t) (sym (append_assoc (value_text names (value_of c.args.cells.now c.in-Pair.head)) (tail_text names (value_of c.args.cells.now c.in-Pair.tail)) (codes "]")))
    ∙ ap (λ v. tail_text names v ++ codes "]") (sym c.in-Pair.ensures.shape))
    (λ names. omega arith)

pub returns-in_default : goal.returns-in_default
returns-in_default c = let e = c.in_default.not-Nil in let f = c.in_default.not-Pair in
    takes_bar _ _ _ _ _ _ c.shape_of.ensures.shape (other_shape _ e f) c.requires.within c.bar_piece.ensures
