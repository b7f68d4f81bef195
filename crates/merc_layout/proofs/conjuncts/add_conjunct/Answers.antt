use Rattle.std.proofs.Common.{[], refl}
use Rattle.std.proofs.lemmas.Result.{on_ok_weaker}
use Rattle.merc_layout.specs.declared.conjuncts.KnownConjunct.{KnownConjunct}
use Rattle.merc_layout.proofs.KnownProcedures.{added_one}
use Rattle.merc_layout.proofs.conjuncts.add_conjunct.Goals as goal

pub returns : goal.returns
returns c =
    let one : KnownConjunct = record { entry = c.in_ok-entry.entry; used = c.args.conjunct.used } in
    record {
      added = on_ok_weaker c.push-2.result (λ ok. added_one c.args.pieces.now c.in_ok-conjunct_piece.field-0 c.push.new.self c.in_ok-entry.ensures.pieces) c.push-2.ensures.ok;
      known = on_ok_weaker c.push-2.result (λ ok. (
        one,
        ok,
        (λ codes lent. record {
          piece = c.in_ok-conjunct_piece.field-0;
          has_entry = record { before = c.args.pieces.now; behind = []; whole = c.in_ok-entry.ensures.pieces; entry_is = c.in_ok-entry.ensures.entry };
          code_is = c.in_ok-conjunct_piece.ensures codes.conjuncts lent;
          used_are = refl;
        }),
      )) c.push-2.ensures.ok;
    }
