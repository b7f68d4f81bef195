-- It has its name and nothing else.
use Rattle.std.proofs.Common.{◌≡◌, ◌∙◌, ℕ, List, Some, ap}
use Rattle.clap.specs.Walk.{Rule, rule_of}
use Rattle.merc_words.proofs.parts.option.Goals as goal

abbrev with_long : List ℕ → Rule → Rule
with_long name r = record r { long = Some name }

pub returns-clause-rule : goal.returns-clause-rule
returns-clause-rule c = ap rule_of c.long.ensures ∙ ap (with_long c.args.name.now) c.new.ensures.rule
