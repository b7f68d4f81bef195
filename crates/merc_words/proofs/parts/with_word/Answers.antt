-- The command has the word behind its own rules.
use Rattle.std.proofs.Common.{◌∙◌, ap}
use Rattle.clap.specs.Simple.{app_of, with_rule}
use Rattle.merc_words.proofs.parts.with_word.Goals as goal

pub returns : goal.returns
returns c = c.in_ok-arg.ensures.shape c.new.ensures.optional.1 ∙ ap (with_rule (app_of c.args.command)) c.new.ensures.rule
