use Rattle.std.proofs.Common.{◌≡◌, [], ◌∷◌, ◌++◌, ap, sym, ◌∙◌}
use Rattle.merc_goals.specs.Numbers.{NumberedTerm}
use Rattle.merc_value.specs.Text.{is_blank}
use Rattle.merc_scopes.proofs.Walks.{arguments_step, popped_less, pushed_less, variable_step}
use Rattle.merc_scopes.proofs.occurring.variables.Goals as goal

pub loop-numbered-smaller-in-Continue-1 : goal.loop-numbered-smaller-in-Continue-1
loop-numbered-smaller-in-Continue-1 c = popped_less _ _ c.in-Some.numbered c.in-Some.ensures.items

pub loop-numbered-preserved-in-Continue-1 : goal.loop-numbered-preserved-in-Continue-1
loop-numbered-preserved-in-Continue-1 c =
    let one : NumberedTerm = record { term = c.numbered.inside.term; at = c.numbered.inside.at } in
    let popping : c.loop-numbered.stack.items ≡ c.pop.new.self.items ++ one ∷ [] = c.in-Some.ensures.items ∙ ap (λ (n : NumberedTerm). c.pop.new.self.items ++ n ∷ []) (sym c.numbered.view_is) in
    record {
      step = c.in_ok-add_variable-in-Variable.ensures.step;
      whole = λ other.
          variable_step (is_blank c.args.names.now) _ _ one c.in-Variable.name popping c.in-Variable.ensures other _ _ _
          (c.in_ok-add_variable-in-Variable.ensures.places other) (c.loop-numbered.invariant.whole other);
    }

pub loop-numbered-smaller : goal.loop-numbered-smaller
loop-numbered-smaller c =
    let one : NumberedTerm = record { term = c.numbered.inside.term; at = c.numbered.inside.at } in
    let popping : c.loop-numbered.stack.items ≡ c.pop.new.self.items ++ one ∷ [] = c.in-Some.ensures.items ∙ ap (λ (n : NumberedTerm). c.pop.new.self.items ++ n ∷ []) (sym c.numbered.view_is) in
    pushed_less _ _ _ one popping c.in_ok-push_arguments-in_default-shape.ensures

pub loop-numbered-preserved : goal.loop-numbered-preserved
loop-numbered-preserved c =
    let one : NumberedTerm = record { term = c.numbered.inside.term; at = c.numbered.inside.at } in
    let popping : c.loop-numbered.stack.items ≡ c.pop.new.self.items ++ one ∷ [] = c.in-Some.ensures.items ∙ ap (λ (n : NumberedTerm). c.pop.new.self.items ++ n ∷ []) (sym c.numbered.view_is) in
    record {
      step = c.loop-numbered.invariant.step;
      whole = λ other.
          arguments_step (is_blank c.args.names.now) _ _ _ one _ popping c.shape.ensures c.in_default-shape.not-Variable
          c.in_ok-push_arguments-in_default-shape.ensures other _ _ (c.loop-numbered.invariant.whole other);
    }
