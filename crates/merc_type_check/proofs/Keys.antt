-- Keys of maps that compare as equal are the same.
use Rattle.std.proofs.Common.{◌≡◌, ℕ, true, ap, ◌∙◌}
use Rattle.std.specs.Ordering.{nat_cmp, is_eq}
use Rattle.merc_type_matching.proofs.Maps.{number-equal, number-same, then_equal, then_same}
use Rattle.merc_type_matching.specs.declared.used.UsedVariable.{UsedVariable}
use Rattle.merc_type_check.specs.Progress.{compare_variables}

pub variable-equal : (a b : UsedVariable) → is_eq (compare_variables a b) ≡ true → a ≡ b
variable-equal a b same =
    let both = then_equal (nat_cmp a.user b.user) (nat_cmp a.name b.name) same in
    let with_user : ℕ → UsedVariable = λ n. record { user = n; name = a.name } in
    let with_name : ℕ → UsedVariable = λ n. record { user = b.user; name = n } in
    ap with_user (number-equal a.user b.user both.0) ∙ ap with_name (number-equal a.name b.name both.1)

pub variable-same : (a : UsedVariable) → is_eq (compare_variables a a) ≡ true
variable-same a = then_same (nat_cmp a.user a.user) (nat_cmp a.name a.name) (number-same a.user) (number-same a.name)
