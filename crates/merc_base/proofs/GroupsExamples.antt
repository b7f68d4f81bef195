-- Worked examples of the definitions of specs/Groups.antt: what holds, and what does not.
use Rattle.std.proofs.Common.{◌≡◌, ℕ, true, false, Some, None, [], ◌∷◌, refl}
use Rattle.merc_base.specs.declared.groups.Key.{Key}
use Rattle.merc_base.specs.Groups.{is_key, listed}

abbrev key : Key
key = record { name = 7; arity = 2 }

pub is_key-same : is_key 7 2 key ≡ true
is_key-same = refl

pub is_key-other_arity : is_key 7 1 key ≡ false
is_key-other_arity = refl

pub listed-some : listed {T = ℕ} (Some (4 ∷ 5 ∷ [])) ≡ 4 ∷ 5 ∷ []
listed-some = refl

pub listed-none : listed {T = ℕ} None ≡ 4 ∷ [] → ⊥
listed-none h = cc
