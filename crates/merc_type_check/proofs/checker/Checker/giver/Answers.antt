use Rattle.std.proofs.Common.{◌≡◌, ℕ, true, eqb, Some, ap, sym, ◌∙◌, arith}
use Rattle.std.proofs.lemmas.Bool.Decides.{nat_tests}
use Rattle.merc_type_check.specs.declared.checker.UsedType.{UsedType}
use Rattle.merc_type_check.proofs.checker.Checker.giver.Goals as goal

same_number : (a b : ℕ) → true ≡ eqb a b → a ≡ b
same_number a b e = grind (arith, nat_tests)

pub returns-then-eq : goal.returns-then-eq
returns-then-eq c =
    let with_number : ℕ → UsedType = λ n. record { number = n; user = c.in-Some.used.user } in
    sym c.get.ensures.value ∙ sym c.copied.ensures ∙ c.in-Some.is ∙ ap (λ (n : ℕ). Some (with_number n)) (same_number c.in-Some.used.number c.args.number c.if-eq.ensures)
