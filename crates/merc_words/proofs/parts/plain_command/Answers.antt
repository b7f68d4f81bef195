-- The command has a name and two settings.
use Rattle.std.proofs.Common.{◌∙◌, ap, true}
use Rattle.clap.specs.Simple.{App, app_of_fields}
use Rattle.merc_words.proofs.parts.plain_command.Goals as goal

abbrev without_name : App → App
without_name a = record a { top = record a.top { no_binary_name = true } }

abbrev without_help : App → App
without_help a = record a { top = record a.top { disable_help_flag = true } }

pub returns : goal.returns
returns c = ap app_of_fields c.disable_help_flag.ensures ∙ ap without_help (ap app_of_fields c.no_binary_name.ensures ∙ ap without_name c.new.ensures.app)
