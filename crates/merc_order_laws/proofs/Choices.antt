-- What a test chooses.
use Rattle.std.proofs.Common.{◌≡◌, Bool, true, false, refl}
use Rattle.std.specs.Prelude.{if◌then◌else◌}

pub chosen_true : {T : Type 0} (test : Bool) (one other : T) → test ≡ true → (if test then one else other) ≡ one
chosen_true true one other is = refl
chosen_true false one other is = absurd cc

pub chosen_false : {T : Type 0} (test : Bool) (one other : T) → test ≡ false → (if test then one else other) ≡ other
chosen_false false one other is = refl
chosen_false true one other is = absurd cc
