-- Goals that are taken from the last to the first, and what is pushed for them.
use Rattle.std.specs.Prelude.{◌≡◌, List, [], ◌∷◌, ◌++◌, reverse}
use Rattle.std.proofs.Common.{◌∙◌, ap, sym}
use Rattle.std.proofs.lemmas.List.{append_assoc, reverse-append}

pub reverse-last : {X : Type 0} (items : List X) (last : X) → reverse (items ++ last ∷ []) ≡ last ∷ reverse items
reverse-last items last = reverse-append items (last ∷ [])

pub reverse-first : {X : Type 0} (first : X) (items : List X) → reverse (first ∷ items) ≡ reverse items ++ first ∷ []
reverse-first first items = reverse-append (first ∷ []) items

-- what is to come loses what is pushed
pub reversed_step : {X : Type 0} (old new goals left : List X) (last : X) (whole : List X) → goals ≡ left ++ last ∷ [] → new ≡ old ++ last ∷ []
    → old ++ reverse goals ≡ whole → new ++ reverse left ≡ whole
reversed_step old new goals left last whole e f same =
    ap (λ l. l ++ reverse left) f ∙ append_assoc old (last ∷ []) (reverse left) ∙ ap (λ l. old ++ l) (sym (ap reverse e ∙ reverse-last left last)) ∙ same
