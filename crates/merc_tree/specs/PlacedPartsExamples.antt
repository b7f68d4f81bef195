-- A worked example of the placed parts of a term, and a false statement that the prover refutes.
use Rattle.std.specs.Prelude.{◌≡◌, ℕ, [], ◌∷◌, pos, None, refl}
use Rattle.merc_base.specs.Names.{error_name}
use Rattle.merc_base.specs.declared.place.Span.{Span}
use Rattle.merc_tree.specs.Term.{Term, Integer, Application, none, more}
use Rattle.merc_tree.specs.declared.term.Shape.TheVariants.{Integer as IntegerShape, Application as ApplicationShape}
use Rattle.merc_tree.specs.PlacedParts.{placed_parts}

abbrev span : ℕ → ℕ → Span
span first past = record { first = first; past = past; line = 1 }

-- `error(3)`, whose parts are 3 and itself, in this order
abbrev error_three : Term
error_three = Application error_name None (more (Integer (pos 3) (span 6 7)) none) (span 0 8)

pub placed_parts-example : placed_parts error_three ≡ (IntegerShape (pos 3), span 6 7) ∷ (ApplicationShape error_name None 1, span 0 8) ∷ []
placed_parts-example = refl

pub placed_parts-not : placed_parts error_three ≡ (ApplicationShape error_name None 1, span 0 8) ∷ [] → ⊥
placed_parts-not same = cc
