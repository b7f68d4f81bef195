use Rattle.std.proofs.Common.{◌≡◌, ◌<◌, ℕ, true, eqb, List, IfOk, length, sym, subst, ◌∙◌, arith}
use Rattle.std.proofs.lemmas.Bool.Decides.{nat_tests}
use Rattle.std.proofs.lemmas.Result.{IfOk-weaker}
use Rattle.merc_tree.specs.Types.{TypeExpr, replaced}
use Rattle.merc_type_table.specs.Table.{is_closed, type_at}
use Rattle.merc_type_check.specs.Progress.{Takes}
use Rattle.merc_type_check.proofs.Numbers.{given_whole}
use Rattle.merc_type_check.proofs.checker.Checker.has_type.Goals as goal

same_number : (a b : ℕ) → true ≡ eqb a b → a ≡ b
same_number a b e = grind (arith, nat_tests)

pub make_whole-requires-clause-declared : goal.make_whole-requires-clause-declared
make_whole-requires-clause-declared c = subst (λ (t : List TypeExpr). c.args.number < length t) (sym c.in_ok-place.ensures.grows.same_table) c.requires.number

pub returns-then-is_closed : goal.returns-then-is_closed
returns-then-is_closed c =
    IfOk-weaker c.make_whole.result _ _
    (λ done takes. given_whole c.args.user done c.args.self.now c.variable.new.self c.make_whole.new.self c.in_ok-place.place c.args.variable c.args.number
    c.args.self.now.graph.table c.in_ok-place.ensures.grows.same_table
    (subst (λ (t : List TypeExpr). is_closed (type_at t c.args.number) ≡ true) (sym c.in_ok-place.ensures.grows.same_table) (sym c.is_closed.ensures ∙ c.if-is_closed.true))
    c.in_ok-place.ensures takes) c.make_whole.ensures

pub has_same_type-requires-clause-waits : goal.has_same_type-requires-clause-waits
has_same_type-requires-clause-waits c = sym c.waits_with.ensures ∙ c.in-Some.is

pub has_like_type-requires-clause-waits : goal.has_like_type-requires-clause-waits
has_like_type-requires-clause-waits c = sym c.waits_with.ensures ∙ c.in-Some.is

pub returns-then-eq : goal.returns-then-eq
returns-then-eq c =
    subst (λ (n : ℕ). IfOk c.has_same_type.result (λ done. Takes done c.args.self.now c.has_same_type.new.self (λ types instance. types c.args.variable ≡ replaced (instance c.args.user) (type_at c.args.self.now.graph.table n))))
    (same_number c.in-Some.used.number c.args.number c.if-eq.ensures) c.has_same_type.ensures
