-- The command has the arguments that it is made of.
use Rattle.std.proofs.Common.{◌≡◌, ◌∙◌, ap, codes}
use Rattle.std.specs.Prelude.{ℕ, List}
use Rattle.std.proofs.lemmas.Result.{IfOk-weaker}
use Rattle.clap.specs.Simple.{App, new_rule, with_rule}
use Rattle.merc_words.specs.Asked.{option_rule}
use Rattle.merc_words.proofs.parts.command.Goals as goal

abbrev with_option : List ℕ → App → App
with_option name app = with_rule app (option_rule name)

abbrev with_word : List ℕ → App → App
with_word name app = with_rule app (new_rule name)

pub returns : goal.returns
returns c =
    let one = c.in_ok-command.ensures ∙ ap (with_option (codes "workers")) c.plain_command.ensures in
    let two = c.in_ok-command-2.ensures ∙ ap (with_option (codes "steps")) one in
    let three = c.in_ok-command-3.ensures ∙ ap (with_option (codes "max")) two in
    let four = c.in_ok-command-4.ensures ∙ ap (with_word (codes "first")) three in
    IfOk-weaker c.with_word-2.result _ _ (λ command is. is ∙ ap (with_word (codes "second")) four) c.with_word-2.ensures
