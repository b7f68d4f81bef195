-- A call of `error` has one argument.
use Rattle.std.proofs.Common.{◌≡◌, ℕ, ◌==◌, ◌&&◌, Bool, true, false, Option, Some, refl, if◌then◌else◌, arith}
use Rattle.std.proofs.lemmas.Bool.Decides.{nat_tests}
use Rattle.std.specs.List.{list_any}
use Rattle.merc_base.specs.Names.{error_name, require_name}
use Rattle.merc_tree.specs.declared.declarations.Module.{Module}
use Rattle.merc_name_resolution.specs.declared.callee.Callee.TheVariants.{Predicate, Error}
use Rattle.merc_name_resolution.specs.Known.{allows, callee_in, is_error}

error_by : (test : Bool) (number : ℕ) → (if test then Error else Predicate number) ≡ Error → test ≡ true
error_by true number is = refl
error_by false number is = cc

second_of_four : (a b c d : Bool) → (a && b && c && d) ≡ true → b ≡ true
second_of_four true true c d both = refl
second_of_four true false c d both = cc
second_of_four false b c d both = cc

pub error_has_one_argument : (found : Module) (name : ℕ) (qualifier : Option ℕ) (arity : ℕ) → callee_in found name qualifier arity ≡ Error → arity ≡ 1
error_has_one_argument found name qualifier arity is =
    let test : (arity == 1) ≡ true =
    second_of_four (name == error_name) (arity == 1) (list_any (λ unit. unit == require_name) found.units) (allows found.name qualifier (Some require_name))
    (error_by (is_error found name qualifier arity) _ is) in
    grind (arith, nat_tests)
