-- The command has the option behind its own rules.
use Rattle.std.proofs.Common.{◌∙◌, ap}
use Rattle.clap.specs.Simple.{app_of, with_rule}
use Rattle.merc_words.proofs.parts.with_option.Goals as goal

pub returns : goal.returns
returns c = c.in_ok-arg.ensures.shape c.option.ensures.local ∙ ap (with_rule (app_of c.args.command)) c.option.ensures.rule
