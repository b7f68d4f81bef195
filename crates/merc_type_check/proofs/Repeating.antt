-- Parts of a goal that are compared.
use Rattle.std.proofs.Common.{◌≡◌, Bool, true, false, refl}
use Rattle.std.specs.Bool.{Decides}
use Rattle.merc_type_check.specs.Repeats.{IsEqualIf}

pub equal_if : {A : Type 0} (answer : Bool) (one other : A) → Decides answer (one ≡ other) → IsEqualIf answer one other
equal_if true one other decides = decides.0 refl
equal_if false one other decides = tt
