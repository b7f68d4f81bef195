-- Bindings put behind each other.
use Rattle.std.proofs.Common.{◌≡◌, ◌+◌, ◌<◌, ◌≤◌, ◌∙◌, ap, sym, refl, List, [], ◌∷◌, ◌++◌, ℕ, suc, zero, length, take, get_or, append_assoc, codes, subst, arith, length-take, length-append, take_all}
use Rattle.std.specs.Prelude.{◌==◌, true, false, Option, Some, None, slice_get, IfSome}
use Rattle.std.proofs.lemmas.List.{take_more, append-nil}
use Rattle.std.proofs.lemmas.Bool.Decides.{nat_tests}
use Rattle.std.proofs.lemmas.Option.{same_Some, slice_get_within}
use Rattle.merc_value.specs.Value.{Value}
use Rattle.merc_value.specs.Text.{text_at, value_text}
use Rattle.merc_solving.specs.Lines.{behind_commas, comma_list, joined}
use Rattle.merc_solving.specs.RunLines.{binding, bindings}

-- what stands before the text at this place
abbrev pub separator_at : ℕ → List ℕ
separator_at zero = []
separator_at (suc number) = codes ", "

pub behind_commas-snoc : (texts : List (List ℕ)) (text : List ℕ) → behind_commas (texts ++ text ∷ []) ≡ (behind_commas texts ++ codes ", ") ++ text
behind_commas-snoc [] text = append-nil (codes ", " ++ text)
behind_commas-snoc (first ∷ texts) text =
    ap (λ more. (codes ", " ++ first) ++ more) (behind_commas-snoc texts text)
    ∙ simp append_assoc

joined-snoc : (texts : List (List ℕ)) (text : List ℕ) → joined (texts ++ text ∷ []) ≡ (joined texts ++ separator_at (length texts)) ++ text
joined-snoc [] text = append-nil text
joined-snoc (first ∷ texts) text =
    ap (λ more. first ++ more) (behind_commas-snoc texts text) ∙ simp append_assoc

-- one text more
pub joined-more : (texts : List (List ℕ)) (k : ℕ) (text : List ℕ) → k < length texts → text ≡ get_or texts k []
    → (joined (take k texts) ++ separator_at k) ++ text ≡ joined (take (k + 1) texts)
joined-more texts k text below same =
    let count : length (take k texts) ≡ k = omega (arith, length-take k texts) in
    ap (λ n. (joined (take k texts) ++ separator_at n) ++ text) (sym count)
    ∙ sym (joined-snoc (take k texts) text)
    ∙ ap (λ t. joined (take k texts ++ t ∷ [])) same
    ∙ ap joined (sym (take_more texts k [] below))

-- as many bindings as variables and as values
pub bindings-within : (names : List (List ℕ)) (variables : List ℕ) (values : List Value) (k : ℕ) → k < length variables → k < length values → k < length (bindings names variables values)
bindings-within names [] values k below within = absurd (omega (arith, below))
bindings-within names (variable ∷ variables) [] k below within = absurd (omega (arith, within))
bindings-within names (variable ∷ variables) (value ∷ values) zero below within = omega arith
bindings-within names (variable ∷ variables) (value ∷ values) (suc k) below within =
    let more = bindings-within names variables values k (omega (arith, below)) (omega (arith, within)) in
    omega (arith, more)

pub bindings-no_more : (names : List (List ℕ)) (variables : List ℕ) (values : List Value) → length (bindings names variables values) ≤ length variables
bindings-no_more names [] values = omega arith
bindings-no_more names (variable ∷ variables) [] = omega arith
bindings-no_more names (variable ∷ variables) (value ∷ values) = let rest = bindings-no_more names variables values in omega (arith, rest)

pub bindings-no_others : (names : List (List ℕ)) (variables : List ℕ) (values : List Value) → length (bindings names variables values) ≤ length values
bindings-no_others names [] values = omega arith
bindings-no_others names (variable ∷ variables) [] = omega arith
bindings-no_others names (variable ∷ variables) (value ∷ values) = let rest = bindings-no_others names variables values in omega (arith, rest)

-- the binding at a place
pub binding-at : (names : List (List ℕ)) (variables : List ℕ) (values : List Value) (k variable : ℕ) (value : Value) → slice_get variables k ≡ Some variable → slice_get values k ≡ Some value
    → binding names variable value ≡ get_or (bindings names variables values) k []
binding-at names [] values k variable value is at = cc
binding-at names (first ∷ variables) [] k variable value is at = cc
binding-at names (first ∷ variables) (known ∷ values) zero variable value is at =
    ap (λ (some : ℕ). binding names some value) (sym (same_Some first variable is)) ∙ ap (λ (some : Value). binding names first some) (sym (same_Some known value at))
binding-at names (first ∷ variables) (known ∷ values) (suc k) variable value is at = binding-at names variables values k variable value is at

some_bytes : (name value : List ℕ) → 0 < length (name ++ codes " = " ++ value)
some_bytes [] value = omega arith
some_bytes (byte ∷ name) value = omega arith

-- a binding has a text
binding-some : (names : List (List ℕ)) (variable : ℕ) (value : Value) → 0 < length (binding names variable value)
binding-some names variable value = some_bytes (text_at names variable) (value_text names value)

-- The line of no bindings is empty, and no other is.
pub line-of_none : (names : List (List ℕ)) (variables : List ℕ) (values : List Value) (text : List ℕ) → text ≡ joined (bindings names variables values) → length text ≡ 0
    → text ++ codes "true" ≡ comma_list (bindings names variables values)
line-of_none names [] values text is empty = ap (λ (l : List ℕ). l ++ codes "true") is
line-of_none names (variable ∷ variables) [] text is empty = ap (λ (l : List ℕ). l ++ codes "true") is
line-of_none names (variable ∷ variables) (value ∷ values) text is empty =
    let rest = behind_commas (bindings names variables values) in
    absurd (omega (arith, empty, ap (λ (l : List ℕ). length l) is, length-append (binding names variable value) rest, binding-some names variable value))

pub line-of_some : (names : List (List ℕ)) (variables : List ℕ) (values : List Value) (text : List ℕ) → text ≡ joined (bindings names variables values) → 0 < length text
    → text ≡ comma_list (bindings names variables values)
line-of_some names [] values text is some = absurd (omega (arith, some, ap (λ (l : List ℕ). length l) is))
line-of_some names (variable ∷ variables) [] text is some = absurd (omega (arith, some, ap (λ (l : List ℕ). length l) is))
line-of_some names (variable ∷ variables) (value ∷ values) text is some = is

pub item_there : {A : Type 0} (items : List A) (k : ℕ) (item : A) → k < length items → item ≡ get_or items k item → slice_get items k ≡ Some item
item_there [] k item below is = absurd (omega (arith, below))
item_there (first ∷ items) zero item below is = ap (λ some. Some some) (sym is)
item_there (first ∷ items) (suc k) item below is = item_there items k item (omega (arith, below)) is

pub value_there : {A : Type 0} (items : List A) (k : ℕ) → k < length items → (item : A) × (slice_get items k ≡ Some item)
value_there [] k below = absurd (omega (arith, below))
value_there (item ∷ items) zero below = (item, refl)
value_there (item ∷ items) (suc k) below = value_there items k (omega (arith, below))

pub some_holds : {A : Type 0} (found : Option A) (P : A → Type 0) (item : A) → found ≡ Some item → IfSome found P → P item
some_holds None P item is holds = cc
some_holds (Some other) P item is holds = subst P (same_Some other item is) holds

pub empty_text : (text : List ℕ) → (length text == 0) ≡ true → length text ≡ 0
empty_text text is = none (length text) is
  where
    none : (n : ℕ) → (n == 0) ≡ true → n ≡ 0
    none n test = grind (arith, nat_tests)

pub some_text : (text : List ℕ) → (length text == 0) ≡ false → 0 < length text
some_text text is = positive (length text) is
  where
    positive : (n : ℕ) → (n == 0) ≡ false → 0 < n
    positive n test = grind (arith, nat_tests)

-- Given is a line that goes on with the bindings before one.
module _ (names : List (List ℕ)) (variables : List ℕ) (values : List Value) (old line : List ℕ) (k : ℕ) (so_far : line ≡ old ++ joined (take k (bindings names variables values))) where
  -- with that one it goes on with one more,
  pub bindings-step : (variable : ℕ) (value : Value) (separator separated bound : List ℕ) → slice_get variables k ≡ Some variable → slice_get values k ≡ Some value → separator ≡ separator_at k
      → separated ≡ line ++ separator → bound ≡ separated ++ binding names variable value → bound ≡ old ++ joined (take (k + 1) (bindings names variables values))
  bindings-step variable value separator separated bound is at separates separated_is bound_is =
      let all = bindings names variables values in
      let text = binding names variable value in
      bound_is ∙ ap (λ (l : List ℕ). l ++ text) (separated_is ∙ ap (λ (l : List ℕ). l ++ separator) so_far ∙ ap (λ (s : List ℕ). (old ++ joined (take k all)) ++ s) separates)
      ∙ ap (λ (l : List ℕ). l ++ text) (append_assoc old (joined (take k all)) (separator_at k))
      ∙ append_assoc old (joined (take k all) ++ separator_at k) text
      ∙ ap (λ (l : List ℕ). old ++ l)
      (joined-more all k text (bindings-within names variables values k (slice_get_within variables k variable is) (slice_get_within values k value at)) (binding-at names variables values k variable value is at))

  -- and behind the last it goes on with all.
  all_taken : length (bindings names variables values) ≤ k → line ≡ old ++ joined (bindings names variables values)
  all_taken past = so_far ∙ ap (λ (texts : List (List ℕ)). old ++ joined texts) (take_all k (bindings names variables values) past)

  pub bindings-variables_end : length variables ≤ k → line ≡ old ++ joined (bindings names variables values)
  bindings-variables_end past = all_taken (omega (arith, past, bindings-no_more names variables values))

  pub bindings-values_end : length values ≤ k → line ≡ old ++ joined (bindings names variables values)
  bindings-values_end past = all_taken (omega (arith, past, bindings-no_others names variables values))
