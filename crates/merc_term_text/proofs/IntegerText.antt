-- The text of an integer.
use Rattle.std.proofs.Common.{◌≡◌, ℕ, ◌+◌, ℤ, pos, negsuc, List, [], ◌∷◌, ◌++◌, refl, ap, sym, ◌∙◌, Some, slice_get, add-one}
use Rattle.std.proofs.lemmas.List.{append-nil}
use Rattle.std.specs.Fmt.{signed_decimal, decimal}
use Rattle.std.specs.Option.{unwrap_or}
use Rattle.merc_base.specs.Names.{HoldsFixed, fixed_names, minus_name}
use Rattle.std.specs.Prelude.{codes}
use Rattle.merc_value.specs.Text.{text_at}
use Rattle.merc_term_text.specs.Pieces.{pieces_text}
use Rattle.merc_term_text.specs.Written.{integer_pieces}

minus_is : slice_get fixed_names minus_name ≡ Some (codes "-")
unfolding fixed_names
minus_is = refl

pub minus_text : (names : List (List ℕ)) → HoldsFixed names → text_at names minus_name ≡ codes "-"
minus_text names fixed = ap (λ o. unwrap_or o []) (fixed.text minus_name (codes "-") minus_is)

pub integer_text : (names : List (List ℕ)) (value : ℤ) → HoldsFixed names → signed_decimal value ≡ pieces_text names (integer_pieces value)
integer_text names (pos n) fixed = sym (append-nil (decimal n))
integer_text names (negsuc n) fixed =
    ap (λ (k : ℕ). 45 ∷ decimal k) (sym (add-one n)) ∙ ap (λ t. 45 ∷ t) (sym (append-nil (decimal (n + 1)))) ∙ ap (λ t. t ++ (decimal (n + 1) ++ [])) (sym (minus_text names fixed))
