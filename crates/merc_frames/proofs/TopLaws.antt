-- The tops of choice points, which lie with the oldest first and are seen with the newest first.
use Rattle.std.proofs.Common.{◌≡◌, List, [], ◌∷◌, ◌++◌, reverse, filter_map, Option, Some, None, refl, sym, ap, ◌∙◌, append_assoc, append-nil}
use Rattle.std.specs.List.{cons_option}
use Rattle.std.proofs.lemmas.List.{reverse-append}
use Rattle.merc_frames.specs.Held.{Top}
use Rattle.merc_frames.specs.View.{kept_top, tops_of}
use Rattle.merc_frames.specs.declared.kept.Kept.{Kept}

-- the tops of these choice points, one by one put in front of others
abbrev pub onto : List Kept → List Top → List Top
onto [] tops = tops
onto (k ∷ choices) tops = onto choices (cons_option (kept_top k) tops)

one_more : (o : Option Top) (xs tops : List Top) → (xs ++ cons_option o []) ++ tops ≡ xs ++ cons_option o tops
one_more None xs tops = append_assoc xs [] tops
one_more (Some top) xs tops = append_assoc xs (top ∷ []) tops

option_append : (o : Option Top) (xs ys : List Top) → cons_option o (xs ++ ys) ≡ cons_option o xs ++ ys
option_append None xs ys = refl
option_append (Some top) xs ys = refl

tops_append : (xs ys : List Kept) → filter_map kept_top (xs ++ ys) ≡ filter_map kept_top xs ++ filter_map kept_top ys
tops_append [] ys = refl
tops_append (k ∷ xs) ys = ap (cons_option (kept_top k)) (tops_append xs ys) ∙ option_append (kept_top k) (filter_map kept_top xs) (filter_map kept_top ys)

tops_first : (k : Kept) (choices : List Kept) (tops : List Top) → tops_of choices ++ cons_option (kept_top k) tops ≡ tops_of (k ∷ choices) ++ tops
tops_first k choices tops =
    sym (one_more (kept_top k) (tops_of choices) tops)
    ∙ ap (λ x. x ++ tops) (sym (tops_append (reverse choices) (k ∷ [])))
    ∙ ap (λ x. filter_map kept_top x ++ tops) (sym (reverse-append (k ∷ []) choices))

onto_is : (choices : List Kept) (tops : List Top) → onto choices tops ≡ tops_of choices ++ tops
onto_is [] tops = refl
onto_is (k ∷ choices) tops = onto_is choices (cons_option (kept_top k) tops) ∙ tops_first k choices tops

pub tops_onto : (choices : List Kept) → tops_of choices ≡ onto choices []
tops_onto choices = sym (onto_is choices [] ∙ append-nil (tops_of choices))

-- the newest goes first
pub tops_last : (front : List Kept) (k : Kept) → tops_of (front ++ k ∷ []) ≡ cons_option (kept_top k) (tops_of front)
tops_last front k = ap (filter_map kept_top) (reverse-append front (k ∷ []))
