-- A check and a listing want a file alone.
use Rattle.std.proofs.Common.{◌≡◌, ◌∙◌, codes, sym}
use Rattle.std.proofs.lemmas.Slice.Eq.{bytes_eq-Decides}
use Rattle.merc_words.specs.Parts.{texts_of}
use Rattle.merc_words.proofs.Reading.{passed_up}
use Rattle.merc_words.proofs.Requests.{no_check, no_code}
use Rattle.merc_words.proofs.words.request_of.Goals as goal

pub returns-in_err-file-clause-usage : goal.returns-in_err-file-clause-usage
returns-in_err-file-clause-usage c =
    let command : c.args.command.now ≡ codes "check" = (bytes_eq-Decides _ _).0 (sym c.if-eq-2.ensures) ∙ c.as_slice-else-eq.ensures in
    passed_up c.from_residual.result c.in_err-file.field-0.0 _ c.from_residual.ensures.1
    (λ usage. no_check c.args.command.now (texts_of c.args.parts.now) (c.in_err-file.ensures.usage usage) command)

pub returns-in_err-file-2-clause-usage : goal.returns-in_err-file-2-clause-usage
returns-in_err-file-2-clause-usage c =
    let command : c.args.command.now ≡ codes "code" = (bytes_eq-Decides _ _).0 (sym c.if-eq-3.ensures) ∙ c.as_slice-else-eq-2.ensures in
    passed_up c.from_residual-in_err-file-2.result c.in_err-file-2.field-0.0 _ c.from_residual-in_err-file-2.ensures.1
    (λ usage. no_code c.args.command.now (texts_of c.args.parts.now) (c.in_err-file-2.ensures.usage usage) command)
