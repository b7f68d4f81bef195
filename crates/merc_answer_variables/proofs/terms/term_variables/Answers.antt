use Rattle.std.proofs.Common.{◌≡◌, ◌+◌, ◌++◌, reverse, ◌∙◌, ap, arith, refl}
use Rattle.merc_tree.specs.Shape.{arguments_of}
use Rattle.merc_value.specs.Text.{is_blank}
use Rattle.merc_answer_variables.proofs.TermLaws.{term_parts, term_step}
use Rattle.merc_answer_variables.proofs.terms.term_variables.Goals as goal

pub overflow_add-at : goal.overflow_add-at
overflow_add-at c =
    let counted = term_parts c.loop-term.terms.items c.pop.new.self.items (c.pop.new.self.items ++ reverse (arguments_of c.in-Some.term)) c.in-Some.term c.in-Some.ensures.items refl in
    omega (arith, counted, c.loop-term.invariant.fits)

pub loop-term-smaller : goal.loop-term-smaller
loop-term-smaller c =
    let counted = term_parts c.loop-term.terms.items c.pop.new.self.items c.push_arguments.new.terms.items c.in-Some.term c.in-Some.ensures.items
    (c.in_ok-push_arguments.ensures ∙ ap (λ l. c.pop.new.self.items ++ reverse l) c.arguments.ensures)
    in
    omega (arith, counted)

pub loop-term-preserved : goal.loop-term-preserved
loop-term-preserved c =
    let pushed : c.push_arguments.new.terms.items ≡ c.pop.new.self.items ++ reverse (arguments_of c.in-Some.term) =
    c.in_ok-push_arguments.ensures ∙ ap (λ l. c.pop.new.self.items ++ reverse l) c.arguments.ensures
    in
    let counted = term_parts c.loop-term.terms.items c.pop.new.self.items c.push_arguments.new.terms.items c.in-Some.term c.in-Some.ensures.items pushed in
    record {
      found = term_step (is_blank c.args.names.now) c.loop-term.at c.loop-term.terms.items c.pop.new.self.items c.push_arguments.new.terms.items c.in-Some.term
          c.loop-term.found.items c.push_variable.new.found.items _ c.in-Some.ensures.items pushed c.in_ok-push_variable.ensures c.loop-term.invariant.found;
      fits = omega (arith, counted, c.loop-term.invariant.fits);
    }
