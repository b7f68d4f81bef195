-- Laws of tables of names. Callers cite `names_equal` and `slice_get-with_text`, and the code of `Names` the others.
use Rattle.std.proofs.Common.{◌≡◌, ℕ, zero, suc, append_assoc, ◌+◌, ◌<◌, ◌↔◌, Bool, true, false, List, [], ◌∷◌, ◌++◌, Some, fold, cond, length, slice_get, refl, sym, ap, subst, ◌∙◌, arith, ◌||◌}
use Rattle.std.specs.List.{IsDistinct}
use Rattle.std.specs.Str.{bytes_eq}
use Rattle.std.proofs.lemmas.List.Folds.{list_any-append}
use Rattle.std.proofs.lemmas.Map.Keys.{any_passes_from_place}
use Rattle.std.proofs.lemmas.Slice.Eq.{bytes_eq-Decides}
use Rattle.merc_base.specs.Names.{constant_count, fixed_names, HoldsFixed}
use Rattle.merc_base.specs.Texts.{is_among, place_among, with_text}
use Rattle.merc_base.proofs.TextTables.{with_text-present, place_has_text, with_text-distinct, distinct_places}

-- A text that stands in the front of a list.
pub slice_get-front : (front back : List (List ℕ)) (number : ℕ) (text : List ℕ) → slice_get front number ≡ Some text → slice_get (front ++ back) number ≡ Some text
slice_get-front [] back number text h = absurd cc
slice_get-front (name ∷ front) back zero text h = h
slice_get-front (name ∷ front) back (suc number) text h = slice_get-front front back number text h

-- Names of one table are equal exactly where their texts are.
pub names_equal : (names : List (List ℕ)) (one other : ℕ) (text other_text : List ℕ) → IsDistinct bytes_eq names → slice_get names one ≡ Some text → slice_get names other ≡ Some other_text
    → (one ≡ other) ↔ (text ≡ other_text)
names_equal names one other text other_text d h g = (λ e. cc (ap (slice_get names) e), λ e. distinct_places names one other text d h (g ∙ ap Some (sym e)))

-- A name keeps its text in a table that grows.
pub slice_get-with_text : (names : List (List ℕ)) (text : List ℕ) (number : ℕ) (kept : List ℕ) → slice_get names number ≡ Some kept → slice_get (with_text names text) number ≡ Some kept
slice_get-with_text names text number kept h = by (is_among text names)
  where
    by : (b : Bool) → slice_get (cond b names (names ++ text ∷ [])) number ≡ Some kept
    by true = h
    by false = slice_get-front names (text ∷ []) number kept h

pub fold-distinct : (names texts : List (List ℕ)) → IsDistinct bytes_eq names → IsDistinct bytes_eq (fold with_text names texts)
fold-distinct names [] d = d
fold-distinct names (text ∷ texts) d = fold-distinct (with_text names text) texts (with_text-distinct names text d)

none_distinct : IsDistinct bytes_eq []
unfolding IsDistinct
none_distinct = tt

fixed_names-fold : fold with_text [] fixed_names ≡ fixed_names
unfolding fixed_names
fixed_names-fold = refl

-- No constant has the text of another.
pub fixed_names-distinct : IsDistinct bytes_eq fixed_names
fixed_names-distinct = subst (IsDistinct bytes_eq) fixed_names-fold (fold-distinct [] fixed_names none_distinct)

-- The constants are as many as `constant_count` says.
pub length-fixed_names : length fixed_names ≡ constant_count
unfolding fixed_names
length-fixed_names = refl

-- The front of a list, by number.
pub slice_get-within : (front back : List (List ℕ)) (number : ℕ) → number < length front → slice_get (front ++ back) number ≡ slice_get front number
slice_get-within [] back number h = absurd (omega arith)
slice_get-within (name ∷ front) back zero h = refl
slice_get-within (name ∷ front) back (suc number) h = slice_get-within front back number (omega arith)

-- The back of a list, by number.
pub slice_get-back : (front back : List (List ℕ)) (number at : ℕ) → at ≡ length front + number → slice_get (front ++ back) at ≡ slice_get back number
slice_get-back [] back number at e = ap (slice_get back) (grind arith)
slice_get-back (name ∷ front) back number zero e = absurd (omega arith)
slice_get-back (name ∷ front) back number (suc at) e = slice_get-back front back number at (omega arith)

-- Each constant has its text where the constants come first.
pub HoldsFixed-front : (added : List (List ℕ)) → HoldsFixed (fixed_names ++ added)
HoldsFixed-front added = record { text = slice_get-front fixed_names added }

-- A text that a table has is not added.
pub with_text-known : (names : List (List ℕ)) (text : List ℕ) (number : ℕ) → slice_get names number ≡ Some text → names ≡ with_text names text
with_text-known names text number h =
    with_text-present names text (sym (any_passes_from_place (bytes_eq text) names number text h ((bytes_eq-Decides text text).1 refl)))

-- A text that the front of a table lacks is added to the back.
with_text-append : (front back : List (List ℕ)) (text : List ℕ) → is_among text front ≡ false → with_text (front ++ back) text ≡ front ++ with_text back text
with_text-append front back text new = by (is_among text back) refl
  where
    joined : (b : Bool) → is_among text back ≡ b → is_among text (front ++ back) ≡ b
    joined b e = list_any-append (bytes_eq text) front back ∙ ap (λ (c : Bool). c || is_among text back) new ∙ e

    by : (b : Bool) → is_among text back ≡ b → with_text (front ++ back) text ≡ front ++ with_text back text
    by true e = rw (joined true e, e) refl
    by false e = rw (joined false e, e, append_assoc front back (text ∷ [])) refl

-- A text that no constant has goes to the texts that were added,
pub added_behind : (back after : List (List ℕ)) (text : List ℕ) → after ≡ with_text back text → is_among text fixed_names ≡ false → fixed_names ++ after ≡ with_text (fixed_names ++ back) text
added_behind back after text added new = ap (λ texts. fixed_names ++ texts) added ∙ sym (with_text-append fixed_names back text new)

-- where all stay distinct,
pub added_distinct : (back after : List (List ℕ)) (text : List ℕ) → after ≡ with_text back text → is_among text fixed_names ≡ false
    → IsDistinct bytes_eq (fixed_names ++ back) → IsDistinct bytes_eq (fixed_names ++ after)
added_distinct back after text added new distinct = subst (IsDistinct bytes_eq) (sym (added_behind back after text added new)) (with_text-distinct (fixed_names ++ back) text distinct)

-- and has its place there behind the constants.
pub added_known : (back after : List (List ℕ)) (text : List ℕ) (place number : ℕ) → after ≡ with_text back text → place ≡ place_among after text → number ≡ constant_count + place
    → slice_get (fixed_names ++ after) number ≡ Some text
added_known back after text place number added at is =
    slice_get-back fixed_names after place number (omega (arith, length-fixed_names))
    ∙ ap (slice_get after) at
    ∙ ap (λ texts. slice_get texts (place_among texts text)) added
    ∙ place_has_text back text
