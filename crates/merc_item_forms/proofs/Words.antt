-- The first word of a list of items is that of the first item that has one.
use Rattle.std.proofs.Common.{◌≡◌, ℕ, ◌+◌, ◌<◌, List, [], ◌∷◌, ◌++◌, Option, Some, None, length, drop, get_or, refl, ap, sym, ◌∙◌}
use Rattle.std.specs.List.{flat_map}
use Rattle.std.proofs.lemmas.List.{drop_more}
use Rattle.merc_base.specs.declared.refusal.Construct.{Construct}
use Rattle.merc_item_forms.specs.FormChecks.{first_of}

here : (words others : List Construct) (word : Construct) → Some word ≡ first_of words → Some word ≡ first_of (words ++ others)
here [] others word is = cc
here (first ∷ rest) others word is = is

not_here : (words others : List Construct) → None ≡ first_of words → first_of (words ++ others) ≡ first_of others
not_here [] others is = refl
not_here (first ∷ rest) others is = cc

-- one step of a walk over items, where an item's words are these
module _ {X : Type 0} (words : X → List Construct) (items : List X) (index : ℕ) (item : X) (within : index < length items) (there : item ≡ get_or items index item)
    (whole : Option Construct) (before : first_of (flat_map words (drop index items)) ≡ whole) where
  next : drop index items ≡ item ∷ drop (index + 1) items
  next = drop_more items index item within ∙ ap (λ x. x ∷ drop (index + 1) items) (sym there)

  pub word_found : (word : Construct) → Some word ≡ first_of (words item) → Some word ≡ whole
  word_found word is =
      here (words item) (flat_map words (drop (index + 1) items)) word is ∙ sym (ap (λ l. first_of (flat_map words l)) next) ∙ before

  pub word_passed : None ≡ first_of (words item) → first_of (flat_map words (drop (index + 1) items)) ≡ whole
  word_passed is =
      sym (not_here (words item) (flat_map words (drop (index + 1) items)) is) ∙ sym (ap (λ l. first_of (flat_map words l)) next) ∙ before
