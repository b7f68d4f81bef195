-- A comma stands before the next argument and the others, and the closing parenthesis behind the last.
use Rattle.std.proofs.Common.{ap, sym, ◌∙◌, ◌+◌, arith, append_assoc, codes, ◌++◌}
use Rattle.merc_value.specs.Text.{value_text, others_text}
use Rattle.merc_value.specs.Block.{value_of}
use Rattle.merc_value.specs.Writing.{arguments_from}
use Rattle.merc_value.specs.declared.writing.Todo.TheVariants.{Others}
use Rattle.merc_value.proofs.WritingLemmas.{takes_two, takes_all, arguments_from-none, arguments_from-found, argument_below}
use Rattle.merc_value.proofs.writing.others_piece.Goals as goal

pub returns-in-None : goal.returns-in-None
returns-in-None c = takes_all _ _ _ _ (λ names. ap (λ v. others_text names v ++ codes ")") (sym (arguments_from-none c.args.cells.now c.args.place c.args.first (sym c.in-None.ensures.value))))

pub returns-in_ok-push_two-in-Some : goal.returns-in_ok-push_two-in-Some
returns-in_ok-push_two-in-Some c =
    let found = sym c.in-Some.ensures.value in
    takes_two _ _ _ _ (Others c.args.place (c.args.first + 1)) c.in-Some.word _ c.in_ok-push_two-in-Some.ensures c.requires.within
    (argument_below c.args.cells.now c.args.place c.args.first c.in-Some.word c.requires.lower c.requires.within found)
    (λ names. ap (λ t. codes ", " ++ t) (sym (append_assoc (value_text names (value_of c.args.cells.now c.in-Some.word)) (others_text names (arguments_from c.args.cells.now c.args.place (c.args.first + 1))) (codes ")")))
    ∙ ap (λ v. others_text names v ++ codes ")") (sym (arguments_from-found c.args.cells.now c.args.place c.args.first c.in-Some.word found)))
    (λ names. omega arith)
