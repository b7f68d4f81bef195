-- How two declared types are matched.
use Rattle.std.specs.Prelude.{◌≡◌, ◌↔◌, ℕ, ◌+◌, ◌<◌, Bool, true, false, List, [], ◌∷◌, ◌++◌, length}
use Rattle.std.specs.Ordering.{nat_cmp}
use Rattle.std.specs.BTreeMap.{get}
use Rattle.merc_tree.specs.Types.{TypeExpr, TypeVariable, replaced}
use Rattle.merc_type_table.specs.Table.{type_at, with_first, is_application}
use Rattle.merc_type_matching.specs.Weights.{type_weight}
use Rattle.merc_type_matching.specs.Linked.{Agree, IsFalling}
use Rattle.merc_type_matching.specs.Matched.{AgreeOn}
use Rattle.merc_type_matching.specs.declared.matching.NumberPair.{NumberPair}
use Rattle.merc_type_matching.specs.declared.matching.IndependentPairs.{IndependentPairs}

-- what is linked is just what the pairs say
pub record IsMet (found : IndependentPairs) : Type 0 where
  pub falling : IsFalling (get nat_cmp found.linked.lesser)
  pub same : (one other : ℕ → TypeExpr) → AgreeOn one other found.pairs ↔ Agree found.linked one other

-- one more pair
pub record AddsPair (old new : IndependentPairs) (name name' : ℕ) : Type 0 where
  pub met : IsMet new
  pub pairs : (one other : ℕ → TypeExpr) → AgreeOn one other new.pairs ↔ (AgreeOn one other old.pairs × (one name ≡ other name'))

-- Given are types by numbers.
module _ (table : List TypeExpr) where
  -- instances of the two types of each pair are the same
  abbrev pub AreAlike : (ℕ → TypeExpr) → (ℕ → TypeExpr) → List NumberPair → Type 0
  AreAlike one other [] = Unit {0}
  AreAlike one other (part ∷ parts) = (replaced one (type_at table part.one) ≡ replaced other (type_at table part.other)) × AreAlike one other parts

  -- the types are there
  abbrev pub AreThere : List NumberPair → Type 0
  AreThere [] = Unit {0}
  AreThere (part ∷ parts) = (part.one < length table) × (part.other < length table) × AreThere parts

  -- how much is left to match
  abbrev pub left_weight : List NumberPair → ℕ
  left_weight [] = 0
  left_weight (part ∷ parts) = type_weight (type_at table part.one) + left_weight parts

  -- the pairs, and what is left, are just what makes instances of two types the same
  pub record AreFound (found : IndependentPairs) (parts : List NumberPair) (whole : NumberPair) : Type 0 where
    pub met : IsMet found
    pub there : AreThere parts
    pub alike : (one other : ℕ → TypeExpr) → (AgreeOn one other found.pairs × AreAlike one other parts)
        ↔ (replaced one (type_at table whole.one) ≡ replaced other (type_at table whole.other))

  -- what is left of two types is added
  pub record Matches (part : NumberPair) (old new : IndependentPairs) (before after : List NumberPair) : Type 0 where
    pub met : IsMet new
    pub there : AreThere before → AreThere after
    pub alike : (one other : ℕ → TypeExpr) → (AgreeOn one other new.pairs × AreAlike one other after)
        ↔ (AgreeOn one other old.pairs × AreAlike one other before × (replaced one (type_at table part.one) ≡ replaced other (type_at table part.other)))
    pub less : left_weight after < left_weight before + type_weight (type_at table part.one)

  abbrev pub MatchesIf : Bool → NumberPair → IndependentPairs → IndependentPairs → List NumberPair → List NumberPair → Type 0
  MatchesIf true part old new before after = Matches part old new before after
  MatchesIf false part old new before after = Unit {0}

  -- a type variable is added to the pairs, beside another type that is one too
  pub record IsVariable (name number : ℕ) (old new : IndependentPairs) : Type 0 where
    pub other : ℕ
    pub is : type_at table number ≡ TypeVariable other
    pub adds : AddsPair old new name other

  abbrev pub IsVariableIf : Bool → ℕ → ℕ → IndependentPairs → IndependentPairs → Type 0
  IsVariableIf true name number old new = IsVariable name number old new
  IsVariableIf false name number old new = Unit {0}

  -- the first argument and the rest of a type are left, beside those of another type
  pub record IsSplit (first rest number : ℕ) (before after : List NumberPair) : Type 0 where
    pub other_first : ℕ
    pub other_rest : ℕ
    pub is : type_at table number ≡ with_first (type_at table other_first) (type_at table other_rest)
    pub smaller : (other_first < number) × (other_rest < number)
    pub complete : is_application (type_at table other_rest) ≡ true
    pub more : after ≡ (before ++ record { one = rest; other = other_rest } ∷ []) ++ record { one = first; other = other_first } ∷ []

  abbrev pub IsSplitIf : Bool → ℕ → ℕ → ℕ → List NumberPair → List NumberPair → Type 0
  IsSplitIf true first rest number before after = IsSplit first rest number before after
  IsSplitIf false first rest number before after = Unit {0}
