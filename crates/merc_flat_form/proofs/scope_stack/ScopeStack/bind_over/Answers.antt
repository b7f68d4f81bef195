use Rattle.std.proofs.Common.{◌≡◌, ◌∷◌, [], List, drop, ◌++◌, ap, sym, ◌∙◌}
use Rattle.merc_scopes.specs.declared.occurrence.Occurrence.{Occurrence}
use Rattle.merc_scopes.specs.Scopes.{at_of}
use Rattle.merc_flat_form.specs.Levels.{shown, or_else}
use Rattle.merc_flat_form.proofs.LevelLaws.{below-onto, onto-hidden}
use Rattle.merc_flat_form.proofs.scope_stack.ScopeStack.bind_over.Goals as goal

pub loop-one-preserved : goal.loop-one-preserved
loop-one-preserved c =
    let one : Occurrence = c.in-Some.one.now in
    let last : c.loop-one.one-iterator.iter.rest.now ≡ c.next.new.self.iter.rest.now ++ one ∷ [] = c.in-Some.ensures.steps in
    record {
      below = ap (drop 1) c.in_ok-give.ensures ∙ below-onto one c.loop-one.self ∙ c.loop-one.invariant.below;
      meanings = λ name.
          ap (λ (levels : List (List Occurrence)). or_else (at_of name c.next.new.self.iter.rest.now) (shown name levels)) c.in_ok-give.ensures
          ∙ onto-hidden name one c.next.new.self.iter.rest.now c.loop-one.self
          ∙ ap (λ (left : List Occurrence). or_else (at_of name left) (shown name c.loop-one.self)) (sym last)
          ∙ c.loop-one.invariant.meanings name;
    }
