-- File and goal are the plain words, and the options are set by their texts.
use Rattle.std.proofs.Common.{◌∙◌, List, ℕ, ap, refl, sym, Some}
use Rattle.merc_words.specs.Words.{default_steps}
use Rattle.merc_words.specs.Parts.{text_behind}
use Rattle.merc_words.proofs.words.solve_request.Goals as goal

pub returns-clause-asked : goal.returns-clause-asked
unfolding default_steps
returns-clause-asked c = (
  refl,
  ap text_behind c.in-Some.is ∙ ap (λ (text : List ℕ). Some text) (sym (c.in_ok-file.ensures ∙ c.as_bytes.ensures.value)),
  ap text_behind c.in-Some-second.is ∙ ap (λ (text : List ℕ). Some text) (sym (c.in_ok-goal.ensures ∙ c.as_bytes-2.ensures.value)),
  (c.in-Some-settings_of.settings, c.in-Some-settings_of.ensures, c.unwrap_or.ensures, c.unwrap_or-2.ensures, refl),
)
