use Rattle.std.proofs.Common.{◌≡◌, Option, List, sym, subst}
use Rattle.std.specs.Option.{IfNone, IfSome}
use Rattle.merc_tree.specs.Types.{TypeExpr}
use Rattle.merc_type_check.specs.Checked.{head_of}
use Rattle.merc_type_matching.specs.Kept.{AreKept}
use Rattle.merc_type_check.specs.Progress.{Knows}
use Rattle.merc_type_check.specs.Typing.{HasTyping, IsTyped}
use Rattle.merc_type_check.specs.declared.checker.Checker.{Checker}
use Rattle.merc_type_check.proofs.Told.{told}
use Rattle.merc_type_check.proofs.checking.is_typed.Goals as goal

pub returns-in_ok-typed-in-Some-clause-typed : goal.returns-in_ok-typed-in-Some-clause-typed
returns-in_ok-typed-in-Some-clause-typed c =
    let knows = subst (λ (o : Option Checker). IfSome o (λ checker. Knows checker (λ types. IsTyped c.args.known.now types (head_of c.args.known.now c.args.predicate) c.args.goal.now)))
    c.in-Some.is c.in_ok-checker.ensures.some in
    told c.in_ok-typed-in-Some.typed c.in-Some.checker c.args.known.now (head_of c.args.known.now c.args.predicate) c.args.goal.now knows c.in_ok-typed-in-Some.ensures

pub returns-in_ok-typed-in-Some-clause-kept : goal.returns-in_ok-typed-in-Some-clause-kept
returns-in_ok-typed-in-Some-clause-kept c =
    let knows = subst (λ (o : Option Checker). IfSome o (λ checker. Knows checker (λ types. IsTyped c.args.known.now types (head_of c.args.known.now c.args.predicate) c.args.goal.now)))
    c.in-Some.is c.in_ok-checker.ensures.some in
    let table = subst (λ (o : Option Checker). IfSome o (λ checker. c.args.declared.now.table ≡ checker.graph.table)) c.in-Some.is c.in_ok-checker.ensures.table in
    subst (λ m. AreKept c.args.declared.now.table m) (sym c.into_matchings.ensures) (subst (λ (t : List TypeExpr). AreKept t c.in-Some.checker.matchings) (sym table) knows.sound.matchings)

pub returns-in-None-clause-typed : goal.returns-in-None-clause-typed
returns-in-None-clause-typed c =
    subst (λ (o : Option Checker). IfNone o (HasTyping c.args.known.now (head_of c.args.known.now c.args.predicate) c.args.goal.now → ⊥)) c.in-None.is c.in_ok-checker.ensures.none

pub checked-requires-clause-kept : goal.checked-requires-clause-kept
checked-requires-clause-kept c = subst (λ m. AreKept c.args.declared.now.table m) (sym c.replace-before.ensures.value) c.requires.kept
