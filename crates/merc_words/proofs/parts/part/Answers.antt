-- What is found in the words is what they give.
use Rattle.std.proofs.Common.{◌∙◌, ap, sym}
use Rattle.clap.specs.Simple.{App, is_simple, matches_of}
use Rattle.clap.specs.Faults.{fault_of, is_simple_and_free}
use Rattle.clap.specs.Matches.{found_of}
use Rattle.merc_words.specs.Parts.{words_behind}
use Rattle.merc_words.proofs.Asked.{asked-free, asked-simple}
use Rattle.merc_words.proofs.Parting.{found-only, refused}
use Rattle.merc_words.proofs.parts.part.Goals as goal

pub returns-in-Ok-clause-parts : goal.returns-in-Ok-clause-parts
returns-in-Ok-clause-parts c =
    let app_is = c.in_ok-command.ensures in
    let words = words_behind c.args.words.now in
    let rows = (c.in-Ok.ensures.matches (ap is_simple app_is ∙ asked-simple)).0 ∙ ap (λ (some : App). matches_of some words) app_is in
    let none = sym (ap (λ (some : App). fault_of some words) app_is) ∙ c.in-Ok.ensures.kinds (ap is_simple_and_free app_is ∙ asked-free) in
    found-only words c.requires none (found_of c.in-Ok.matches) rows
    (record { first = c.get_str.result; second = c.get_str-in-Ok.result; workers = c.get_str-in-Ok-2.result; steps = c.get_str-in-Ok-3.result; most = c.get_str-in-Ok-4.result })
    c.get_str.ensures c.get_str-in-Ok.ensures c.get_str-in-Ok-2.ensures c.get_str-in-Ok-3.ensures c.get_str-in-Ok-4.ensures

pub returns-in-Err-clause-usage : goal.returns-in-Err-clause-usage
returns-in-Err-clause-usage c = λ usage.
    let app_is = c.in_ok-command.ensures in
    refused _ (words_behind c.args.words.now) c.in-Err.error app_is (c.in-Err.ensures.kinds (ap is_simple_and_free app_is ∙ asked-free)) (c.fault_of.ensures.usage usage)
