use Rattle.std.proofs.Common.{List, Result, Ok, Err, IfOk, OnOk, sym, subst}
use Rattle.std.specs.Option.{IfSome}
use Rattle.merc_tree.specs.Types.{TypeExpr}
use Rattle.merc_type_table.specs.Table.{type_at}
use Rattle.merc_type_matching.specs.Kept.{AreKept}
use Rattle.merc_type_matching.specs.Matched.{AreMatched}
use Rattle.merc_type_check.proofs.Places.{matchings_changed}
use Rattle.merc_type_check.proofs.checker.Checker.take_matching.Goals as goal

on_ok : {A E : Type 0} (result : Result A E) (P : Type 0) → P → OnOk result P
on_ok (Ok x) P p = p
on_ok (Err e) P p = tt

pub take-requires-clause-kept : goal.take-requires-clause-kept
take-requires-clause-kept c = subst (λ (t : List TypeExpr). AreKept t c.args.self.now.matchings) (sym c.requires.sound.table) c.requires.sound.matchings

pub returns-clause-same : goal.returns-clause-same
returns-clause-same c =
    on_ok c.take.result _
    (matchings_changed c.args.self.now c.take.new.self c.requires.sound (subst (λ (t : List TypeExpr). AreKept t c.take.new.self) c.requires.sound.table c.take.ensures.kept))

pub returns-clause-matched : goal.returns-clause-matched
returns-clause-matched c =
    subst (λ (t : List TypeExpr). IfOk c.take.result (λ found. IfSome found (λ pairs. AreMatched pairs (type_at t c.args.one) (type_at t c.args.other))))
    c.requires.sound.table c.take.ensures.matched
