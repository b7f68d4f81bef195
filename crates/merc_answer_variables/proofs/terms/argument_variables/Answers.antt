use Rattle.std.proofs.Common.{◌≡◌, ◌+◌, ◌++◌, reverse, ◌∙◌, ap, arith}
use Rattle.std.proofs.lemmas.List.{reverse-reverse}
use Rattle.std.proofs.lemmas.Result.{IfOk-weaker}
use Rattle.merc_value.specs.Text.{is_blank}
use Rattle.merc_scopes.proofs.Walks.{parts-arguments}
use Rattle.merc_tree.specs.Shape.{arguments_of}
use Rattle.merc_answer_variables.specs.Reading.{listed}
use Rattle.merc_answer_variables.proofs.TermLaws.{all_parts, listed-terms}
use Rattle.merc_answer_variables.proofs.terms.argument_variables.Goals as goal

pub term_variables-requires : goal.term_variables-requires
term_variables-requires c =
    let terms : c.push_arguments.new.terms.items ≡ reverse (arguments_of c.args.term.now) =
    c.in_ok-push_arguments.ensures ∙ ap (λ l. l ++ reverse c.arguments.result) c.new-terms.ensures.items ∙ ap reverse c.arguments.ensures in
    let counted : all_parts (reverse c.push_arguments.new.terms.items) ≡ all_parts (arguments_of c.args.term.now) =
    ap all_parts (ap reverse terms ∙ reverse-reverse (arguments_of c.args.term.now)) in
    omega (arith, counted, parts-arguments c.args.term.now, c.requires)

pub returns : goal.returns
returns c =
    let terms : c.push_arguments.new.terms.items ≡ reverse (arguments_of c.args.term.now) =
    c.in_ok-push_arguments.ensures ∙ ap (λ l. l ++ reverse c.arguments.result) c.new-terms.ensures.items ∙ ap reverse c.arguments.ensures in
    IfOk-weaker c.term_variables.result _ _ (λ found is.
    is
    ∙ ap (λ l. listed (is_blank c.args.names.now) (c.args.at + 2) l) (ap reverse terms ∙ reverse-reverse (arguments_of c.args.term.now))
    ∙ listed-terms (is_blank c.args.names.now) (c.args.at + 2) (arguments_of c.args.term.now))
    c.term_variables.ensures
