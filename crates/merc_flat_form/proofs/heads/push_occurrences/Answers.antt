use Rattle.std.proofs.Common.{◌≡◌, [], ◌∷◌, ◌++◌, reverse, ap, sym, ◌∙◌}
use Rattle.merc_tree.specs.Shape.{shape_of}
use Rattle.merc_goals.specs.Numbers.{NumberedTerm}
use Rattle.merc_value.specs.Text.{is_blank}
use Rattle.merc_flat_form.proofs.HeadLaws.{part_less, variable_less, arguments_step, variable_step}
use Rattle.merc_flat_form.proofs.heads.push_occurrences.Goals as goal

pub loop-part-smaller-in_ok-push_variable-in-Variable : goal.loop-part-smaller-in_ok-push_variable-in-Variable
loop-part-smaller-in_ok-push_variable-in-Variable c = variable_less c.loop-part.left.items c.pop.new.self.items c.in-Some.part c.in-Some.ensures.items

pub loop-part-preserved-in_ok-push_variable-in-Variable : goal.loop-part-preserved-in_ok-push_variable-in-Variable
loop-part-preserved-in_ok-push_variable-in-Variable c =
    let part : NumberedTerm = record { term = c.part.inside.term; at = c.part.inside.at } in
    let popping : c.loop-part.left.items ≡ c.pop.new.self.items ++ part ∷ [] = c.in-Some.ensures.items ∙ ap (λ (n : NumberedTerm). c.pop.new.self.items ++ n ∷ []) (sym c.part.view_is) in
    variable_step (is_blank c.args.names.now) c.loop-part.left.items c.pop.new.self.items part c.in-Variable.name c.loop-part.found.items
    c.push_variable.new.found.items _ popping (sym c.in-Variable.ensures) c.in_ok-push_variable-in-Variable.ensures c.loop-part.invariant

pub loop-part-smaller : goal.loop-part-smaller
loop-part-smaller c =
    let pushing = c.in_ok-push_reversed-in_default-shape.ensures ∙ ap (λ l. c.pop.new.self.items ++ reverse l) c.in_ok-numbered_arguments-in_default-shape.ensures in
    part_less c.loop-part.left.items c.pop.new.self.items c.push_reversed.new.left.items c.in-Some.part c.in-Some.ensures.items pushing

pub loop-part-preserved : goal.loop-part-preserved
loop-part-preserved c =
    let pushing = c.in_ok-push_reversed-in_default-shape.ensures ∙ ap (λ l. c.pop.new.self.items ++ reverse l) c.in_ok-numbered_arguments-in_default-shape.ensures in
    arguments_step (is_blank c.args.names.now) c.loop-part.left.items c.pop.new.self.items c.push_reversed.new.left.items c.in-Some.part
    c.loop-part.found.items _ c.in-Some.ensures.items pushing (λ name is. c.in_default-shape.not-Variable name (c.shape.ensures ∙ ap (λ (n : NumberedTerm). shape_of n.term) c.part.view_is ∙ is)) c.loop-part.invariant
