-- Items that stand at places, and the first of them that passes a test.
use Rattle.std.specs.Prelude.{◌≡◌, ℕ, ◌≤◌, Bool, true, nat_le, List, [], ◌∷◌, ◌++◌, Option, Some, None, if◌then◌else◌}
use Rattle.merc_base.specs.declared.place.Place.{Place}

-- an item that passes a test stands at this place
pub record StandsAt {A : Type 0} (place_of : A → Place) (test : A → Bool) (items : List A) (place : Place) : Type 0 where
  pub front : List A
  pub item : A
  pub back : List A
  pub whole : items ≡ front ++ item ∷ back
  pub passes : test item ≡ true
  pub there : place ≡ place_of item

-- from a byte on, no item stands at a lesser byte than one before it
abbrev pub NeverFalls : {A : Type 0} → (A → Place) → ℕ → List A → Type 0
NeverFalls place_of byte [] = Unit {0}
NeverFalls place_of byte (item ∷ rest) = (byte ≤ (place_of item).byte) × NeverFalls place_of (place_of item).byte rest

-- the place of the first item that passes a test
abbrev pub first_place : {A : Type 0} → (A → Place) → (A → Bool) → List A → Option Place
first_place place_of test [] = None
first_place place_of test (item ∷ rest) = if test item then Some (place_of item) else first_place place_of test rest

-- the earlier of two places, or the one that is there
abbrev pub earlier : Option Place → Option Place → Option Place
earlier None other = other
earlier (Some one) None = Some one
earlier (Some one) (Some other) = if nat_le one.byte other.byte then Some one else Some other

-- the least place at which something holds, None where there is none
abbrev pub IsLeast : (Place → Type 0) → Option Place → Type 0
IsLeast Holds None = (place : Place) → Holds place → ⊥
IsLeast Holds (Some least) = Holds least × ((place : Place) → Holds place → least.byte ≤ place.byte)
