-- Variables that are bound or free, and what a goal binds.
use Rattle.std.specs.Prelude.{◌≡◌, ◌⊎◌, ℕ, Bool, true, false, ◌||◌, List, [], ◌∷◌}
use Rattle.merc_order.specs.Bound.{Bound, among}

-- a set of variables
abbrev pub Variables : Type 0
Variables = ℕ → Bool

abbrev pub AreBound : Bound → List ℕ → Type 0
AreBound bound [] = Unit {0}
AreBound bound (variable ∷ others) = (bound variable ≡ true) × AreBound bound others

-- none of these is bound, and no two are one
abbrev pub AreFree : Bound → List ℕ → Type 0
AreFree bound [] = Unit {0}
AreFree bound (variable ∷ others) = (bound variable ≡ false) × (among others variable ≡ false) × AreFree bound others

-- Of the variables that occur in a goal and outside it exactly those are bound behind it that were bound before or are among its outputs.
abbrev pub Binds : Variables → Variables → Bound → List ℕ → Bound → Type 0
Binds outside occurring bound outputs behind =
    (variable : ℕ) → occurring variable ≡ true → outside variable ≡ true → behind variable ≡ (bound variable || among outputs variable)

-- the same of an arm of a goal, which owes nothing where its end cannot be reached
abbrev pub ArmBinds : Bool → Variables → Variables → Bound → List ℕ → Bound → Type 0
ArmBinds reached outside occurring bound outputs behind = (reached ≡ false) ⊎ Binds outside occurring bound outputs behind

-- none of these outputs occurs outside
abbrev pub NotBinding : Variables → List ℕ → Type 0
NotBinding outside outputs = (variable : ℕ) → outside variable ≡ true → among outputs variable ≡ false
