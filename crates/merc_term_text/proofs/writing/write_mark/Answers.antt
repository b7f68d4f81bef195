-- The text of an integer is that of its pieces.
use Rattle.std.proofs.Common.{◌≡◌, ap, sym, ◌∙◌, ◌++◌, OnOk, rules}
use Rattle.std.proofs.lemmas.Result.{on_ok_weaker}
use Rattle.std.specs.Fmt.{signed_decimal}
use Rattle.merc_term_text.specs.Pieces.{pieces_text}
use Rattle.merc_term_text.specs.Walking.{mark_pieces}
use Rattle.merc_term_text.proofs.IntegerText.{integer_text}
use Rattle.merc_term_text.proofs.writing.write_mark.Goals as goal

pub returns-in-Integer-clause-ok : goal.returns-in-Integer-clause-ok
returns-in-Integer-clause-ok c =
    let h : OnOk c.write_integer.result (c.write_integer.new.into ≡ c.args.into.now ++ signed_decimal c.in-Integer.value) = search rules in
    on_ok_weaker c.write_integer.result (λ e. e ∙ ap (λ t. c.args.into.now ++ t) (integer_text c.args.names.now c.in-Integer.value c.requires)
    ∙ ap (λ m. c.args.into.now ++ pieces_text c.args.names.now (mark_pieces c.args.names.now m)) (sym c.in-Integer.is)) h
