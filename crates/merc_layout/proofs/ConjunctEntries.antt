-- What is known of conjuncts.
use Rattle.std.specs.Prelude.{◌≡◌, ℕ, List, [], ◌∷◌, ◌++◌, Option, Some, None, slice_get, refl}
use Rattle.std.proofs.Common.{◌∙◌, ap}
use Rattle.merc_code.specs.Steps.{Codes, ConjunctCode}
use Rattle.merc_code.specs.ProgramCode.{forked_there}
use Rattle.merc_layout.specs.declared.conjuncts.KnownConjunct.{KnownConjunct}
use Rattle.merc_layout.specs.declared.entries.Piece.{Piece}
use Rattle.merc_layout.specs.Entries.{AreAdded, Each}
use Rattle.merc_layout.specs.KnownConjuncts.{AreKnownConjuncts, IsKnownConjunct, conjunct_at, in_site}
use Rattle.merc_layout.proofs.KnownProcedures.{has_entry-longer}
use Rattle.merc_layout.proofs.Lists.{Each-append, Each-found, Each-weaker, none_not}

conjunct-longer : (codes : Codes) (pieces after : List Piece) → AreAdded pieces after → (known : KnownConjunct) (conjunct : ConjunctCode)
    → IsKnownConjunct codes pieces known conjunct → IsKnownConjunct codes after known conjunct
conjunct-longer codes pieces after more known conjunct is = record {
  piece = is.piece;
  has_entry = has_entry-longer pieces after is.piece known.entry more is.has_entry;
  code_is = is.code_is;
  used_are = is.used_are;
}

those-longer : (codes : Codes) (pieces after : List Piece) → AreAdded pieces after → (known : List KnownConjunct) (those : List ConjunctCode)
    → Each (IsKnownConjunct codes pieces) known those → Each (IsKnownConjunct codes after) known those
those-longer codes pieces after more known those are = Each-weaker (IsKnownConjunct codes pieces) (IsKnownConjunct codes after) (conjunct-longer codes pieces after more) known those are

pub conjuncts-longer : (codes : Codes) (pieces after : List Piece) → AreAdded pieces after → (table : List (List KnownConjunct)) (conjuncts : List (List ConjunctCode))
    → AreKnownConjuncts codes pieces table conjuncts → AreKnownConjuncts codes after table conjuncts
conjuncts-longer codes pieces after more table conjuncts are =
    Each-weaker (Each (IsKnownConjunct codes pieces)) (Each (IsKnownConjunct codes after)) (those-longer codes pieces after more) table conjuncts are

-- one conjunct more
pub those-more : (codes : Codes) (middle after : List Piece) (known : List KnownConjunct) (those : List ConjunctCode) (one : KnownConjunct) (conjunct : ConjunctCode) → AreAdded middle after
    → Each (IsKnownConjunct codes middle) known those → IsKnownConjunct codes after one conjunct → Each (IsKnownConjunct codes after) (known ++ one ∷ []) (those ++ conjunct ∷ [])
those-more codes middle after known those one conjunct more are is =
    Each-append (IsKnownConjunct codes after) known those (one ∷ []) (conjunct ∷ []) (those-longer codes middle after more known those are) (is, tt)

-- the conjuncts of one site more
pub sites-more : (codes : Codes) (middle after : List Piece) (table : List (List KnownConjunct)) (conjuncts : List (List ConjunctCode)) (known : List KnownConjunct) (those : List ConjunctCode)
    → AreAdded middle after → AreKnownConjuncts codes middle table conjuncts → Each (IsKnownConjunct codes after) known those
    → AreKnownConjuncts codes after (table ++ known ∷ []) (conjuncts ++ those ∷ [])
sites-more codes middle after table conjuncts known those more are is =
    Each-append (Each (IsKnownConjunct codes after)) table conjuncts (known ∷ []) (those ∷ []) (conjuncts-longer codes middle after more table conjuncts are) (is, tt)

-- what is known of a conjunct that is there
pub record IsConjunctThere (codes : Codes) (pieces : List Piece) (found : Option KnownConjunct) (conjunct : ConjunctCode) : Type 0 where
  pub known : KnownConjunct
  pub found_is : found ≡ Some known
  pub is : IsKnownConjunct codes pieces known conjunct

module _ (codes : Codes) (pieces : List Piece) where
  pub conjunct-there : (table : List (List KnownConjunct)) (conjuncts : List (List ConjunctCode)) (site number : ℕ) (conjunct : ConjunctCode) → AreKnownConjuncts codes pieces table conjuncts
      → slice_get (forked_there (slice_get conjuncts site)) number ≡ Some conjunct → IsConjunctThere codes pieces (conjunct_at table site number) conjunct
  conjunct-there table conjuncts site number conjunct are h = by (slice_get conjuncts site) refl h
    where
      by : (found : Option (List ConjunctCode)) → slice_get conjuncts site ≡ found → slice_get (forked_there found) number ≡ Some conjunct → IsConjunctThere codes pieces (conjunct_at table site number) conjunct
      by None e h = absurd (none_not conjunct h)
      by (Some those) e h =
          let row = Each-found (Each (IsKnownConjunct codes pieces)) table conjuncts site those are e in
          let one = Each-found (IsKnownConjunct codes pieces) row.item those number conjunct row.fits h in
          record { known = one.item; found_is = ap (λ known. in_site known number) row.found ∙ one.found; is = one.fits }
