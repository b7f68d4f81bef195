-- A list's bracket stands before its head and its tail, and a constructor's name before its arguments.
use Rattle.std.proofs.Common.{ap, sym, ◌∙◌, arith, append_assoc, codes, ◌++◌}
use Rattle.merc_value.specs.Text.{text_at, value_text, tail_text}
use Rattle.merc_value.specs.Block.{value_of}
use Rattle.merc_value.specs.declared.writing.Todo.TheVariants.{Tail, Arguments}
use Rattle.merc_value.proofs.WritingLemmas.{takes_one, takes_two, whole_applied, name_some}
use Rattle.merc_value.proofs.writing.whole_piece.Goals as goal

pub returns-in_ok-push_two-in-Pair : goal.returns-in_ok-push_two-in-Pair
returns-in_ok-push_two-in-Pair c =
    takes_two _ _ _ _ (Tail c.in-Pair.tail) c.in-Pair.head _ c.in_ok-push_two-in-Pair.ensures c.in-Pair.ensures.below.1 c.in-Pair.ensures.below.0
    (λ names. ap (λ t. codes "[" ++ t) (sym (append_assoc (value_text names (value_of c.args.cells.now c.in-Pair.head)) (tail_text names (value_of c.args.cells.now c.in-Pair.tail)) (codes "]")))
    ∙ ap (value_text names) (sym c.in-Pair.ensures.shape))
    (λ names. omega arith)

pub returns-in_ok-push-in-Applied : goal.returns-in_ok-push-in-Applied
returns-in_ok-push-in-Applied c =
    takes_one _ _ _ _ (Arguments c.in-Applied.place) _ c.in_ok-push-in-Applied.ensures.items c.in-Applied.ensures.below
    (λ names. whole_applied names _ _ c.in-Applied.ensures.shape.1 c.in-Applied.ensures.shape.2 ∙ ap (value_text names) (sym c.in-Applied.ensures.shape.0))
    (λ names. name_some (text_at names c.in-Applied.symbol))
