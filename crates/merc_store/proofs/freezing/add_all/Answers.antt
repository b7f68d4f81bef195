use Rattle.std.proofs.Common.{[], ◌∷◌, ◌++◌, ap, ◌∙◌}
use Rattle.merc_store.specs.Frozen.{held_variables, held_words}
use Rattle.merc_store.proofs.FreezingLemmas.{variables_more, words_more}
use Rattle.merc_store.proofs.freezing.add_all.Goals as goal

pub loop-variable-preserved : goal.loop-variable-preserved
loop-variable-preserved c =
    let slots = c.args.frames.now.stacks.current in
    record {
      variables = variables_more slots c.args.variables.now c.loop-variable.variable-index c.variable-item.result c.args.held.now.items c.loop-variable.held.items c.add_held.new.held.items
          c.loop-variable-test.true c.loop-variable.invariant.variables
          (c.in_ok-add_held.ensures.variables ∙ ap (λ x. c.loop-variable.held.items ++ held_variables slots (x ∷ [])) c.variable-item.is);
      words = words_more slots c.args.variables.now c.loop-variable.variable-index c.variable-item.result c.args.words.now.items c.loop-variable.words.items c.add_held.new.words.items
          c.loop-variable-test.true c.loop-variable.invariant.words
          (c.in_ok-add_held.ensures.words ∙ ap (λ x. c.loop-variable.words.items ++ held_words slots (x ∷ [])) c.variable-item.is);
    }
