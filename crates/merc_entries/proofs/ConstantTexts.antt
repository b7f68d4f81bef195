-- The name of a library unit is a constant, which every table of names has.
use Rattle.std.proofs.Common.{◌≡◌, ℕ, true, List, [], Option, Some, None, is_some, slice_get, refl, sym, ap, ◌∙◌}
use Rattle.std.proofs.lemmas.Option.{same_Some}
use Rattle.std.specs.Borrow.{Bor}
use Rattle.std.specs.Option.{IsSome, option_copied, unwrap_or}
use Rattle.merc_base.specs.Names.{fixed_names, HoldsFixed}
use Rattle.merc_entries.specs.Library.{units, unit_text}
use Rattle.merc_entries.specs.Units.{constant_text}

-- no unit's name is empty
no_name : is_some (unit_text []) ≡ true → ⊥
unfolding units
no_name is = cc

constant_there : (found : Option (List ℕ)) → is_some (unit_text (unwrap_or found [])) ≡ true → found ≡ Some (unwrap_or found [])
constant_there None is = absurd (no_name is)
constant_there (Some text) is = refl

-- A table has the name of each unit.
pub unit_named : (names : List (List ℕ)) (unit : ℕ) → HoldsFixed names → is_some (unit_text (constant_text unit)) ≡ true → slice_get names unit ≡ Some (constant_text unit)
unit_named names unit fixed there = fixed.text unit (constant_text unit) (constant_there (slice_get fixed_names unit) there)

-- What a reference that was found points to.
pub copied_there : (found : Option (Bor (List ℕ))) (given : Option (List ℕ)) → option_copied found ≡ given → is_some given ≡ true → IsSome found
copied_there None None is there = absurd cc
copied_there None (Some text) is there = absurd cc
copied_there (Some one) given is there = refl

pub copied_now : (found : Option (Bor (List ℕ))) (one : Bor (List ℕ)) (text : List ℕ) → found ≡ Some one → option_copied found ≡ Some text → one.now ≡ text
copied_now found one text is copied = same_Some _ _ (sym (ap option_copied is) ∙ copied)
