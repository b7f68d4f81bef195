use Rattle.std.proofs.Common.{◌≡◌, false, Option, subst}
use Rattle.std.specs.Option.{IfNone, IfSome}
use Rattle.std.proofs.lemmas.Result.{IfOk-weaker}
use Rattle.merc_type_check.specs.Checked.{head_of}
use Rattle.merc_type_check.specs.Progress.{Knows}
use Rattle.merc_type_check.specs.Typing.{HasTyping, IsTyped}
use Rattle.merc_type_check.specs.declared.checker.Checker.{Checker}
use Rattle.merc_type_check.proofs.Told.{none_found, typing_found}
use Rattle.merc_type_check.proofs.checking.typing.Goals as goal

pub returns-in-Some-clause-some : goal.returns-in-Some-clause-some
returns-in-Some-clause-some c =
    let knows = subst (λ (o : Option Checker). IfSome o (λ checker. Knows checker (λ types. IsTyped c.args.known.now types (head_of c.args.known.now c.args.predicate) c.args.goal.now)))
    c.in-Some.is c.in_ok-checker.ensures.some in
    let mode = subst (λ (o : Option Checker). IfSome o (λ checker. checker.may_wait ≡ false)) c.in-Some.is c.in_ok-checker.ensures.mode in
    IfOk-weaker c.into_typing.result _ _
    (λ found yields. typing_found found c.in-Some.checker c.args.known.now (head_of c.args.known.now c.args.predicate) c.args.goal.now mode knows yields)
    c.into_typing.ensures

pub returns-in-Some-clause-none : goal.returns-in-Some-clause-none
returns-in-Some-clause-none c =
    let knows = subst (λ (o : Option Checker). IfSome o (λ checker. Knows checker (λ types. IsTyped c.args.known.now types (head_of c.args.known.now c.args.predicate) c.args.goal.now)))
    c.in-Some.is c.in_ok-checker.ensures.some in
    IfOk-weaker c.into_typing.result _ _
    (λ found yields. none_found found c.in-Some.checker c.args.known.now (head_of c.args.known.now c.args.predicate) c.args.goal.now knows yields)
    c.into_typing.ensures

pub returns-in-None-clause-none : goal.returns-in-None-clause-none
returns-in-None-clause-none c =
    subst (λ (o : Option Checker). IfNone o (HasTyping c.args.known.now (head_of c.args.known.now c.args.predicate) c.args.goal.now → ⊥)) c.in-None.is c.in_ok-checker.ensures.none
