-- Parameters repeat where the names of their variables, sorted, have two equal ones side by side.
use Rattle.std.proofs.Common.{◌≡◌, ℕ, suc, ◌+◌, ◌≤◌, ◌<◌, ◌==◌, Bool, true, false, not, ◌&&◌, ◌||◌, List, [], ◌∷◌, length, get_or, Some, None, if◌then◌else◌, refl, ap, sym, ◌∙◌, eqb-true, ne_eqb, eq-eqb, arith}
use Rattle.std.specs.List.{list_any, sum_by}
use Rattle.std.specs.List.Sorted.{IsPermutation}
use Rattle.std.proofs.lemmas.List.Sorted.{sum_by-IsPermutation}
use Rattle.std.proofs.lemmas.Bool.{eqb-false}
use Rattle.std.proofs.lemmas.List.Sums.{sum_by-cons}
use Rattle.std.specs.Ordering.{is_lt, nat_cmp}
use Rattle.std.proofs.lemmas.Bool.Decides.{nat_tests}
use Rattle.merc_tree.specs.Term.{Term, Variable, Integer, Text, Application}
use Rattle.merc_value.specs.Text.{is_blank}
use Rattle.merc_item_forms.specs.Forms.{is_in, is_this_variable, repeats}
use Rattle.merc_item_forms.specs.Parameters.{with_name, own_variables, has_double, begins_with, has_equal_neighbors}

either_way : (a b : Bool) → (a ≡ true → b ≡ true) → (b ≡ true → a ≡ true) → a ≡ b
either_way true true to back = refl
either_way true false to back = sym (to refl)
either_way false true to back = back refl
either_way false false to back = refl

or_none : (a : Bool) → (a || true) ≡ true
or_none true = refl
or_none false = refl

-- how often a number stands in a list

abbrev tally : Bool → ℕ
tally true = 1
tally false = 0

abbrev count : ℕ → List ℕ → ℕ
count number [] = 0
count number (other ∷ rest) = tally (number == other) + count number rest

count_sum : (number : ℕ) (numbers : List ℕ) → count number numbers ≡ sum_by (λ other. tally (number == other)) numbers
count_sum number [] = refl
count_sum number (other ∷ rest) = ap (λ n. tally (number == other) + n) (count_sum number rest) ∙ sym (sum_by-cons (λ x. tally (number == x)) other rest)

first_counts : (same inside : Bool) (n : ℕ) → (inside ≡ true → 1 ≤ n) → (same || inside) ≡ true → 1 ≤ tally same + n
first_counts true inside n more is = omega arith
first_counts false inside n more is = omega (arith, more is)

in_count : (number : ℕ) (numbers : List ℕ) → is_in number numbers ≡ true → 1 ≤ count number numbers
in_count number [] is = cc
in_count number (first ∷ rest) is = first_counts (number == first) (is_in number rest) (count number rest) (in_count number rest) is

first_inside : (same inside : Bool) (n : ℕ) → (1 ≤ n → inside ≡ true) → 1 ≤ tally same + n → (same || inside) ≡ true
first_inside true inside n more some = refl
first_inside false inside n more some = more (omega (arith, some))

count_in : (number : ℕ) (numbers : List ℕ) → 1 ≤ count number numbers → is_in number numbers ≡ true
count_in number [] some = absurd (omega (arith, some))
count_in number (first ∷ rest) some = first_inside (number == first) (is_in number rest) (count number rest) (count_in number rest) some

abbrev Doubled : List ℕ → Type 0
Doubled numbers = (number : ℕ) × (2 ≤ count number numbers)

first_doubled : (first : ℕ) (rest : List ℕ) → (has_double rest ≡ true → Doubled rest) → (inside : Bool) → is_in first rest ≡ inside
    → (inside || has_double rest) ≡ true → Doubled (first ∷ rest)
first_doubled first rest more true same is = (first, omega (arith, in_count first rest same, ap tally (eq-eqb first first refl)))
first_doubled first rest more false same is = let found = more is in (found.0, omega (arith, found.1))

double_count : (numbers : List ℕ) → has_double numbers ≡ true → Doubled numbers
double_count [] is = cc
double_count (first ∷ rest) is = first_doubled first rest (double_count rest) (is_in first rest) refl is

first_double : (number first : ℕ) (rest : List ℕ) → (2 ≤ count number rest → has_double rest ≡ true) → (same : Bool) → (number == first) ≡ same
    → 2 ≤ tally same + count number rest → (is_in first rest || has_double rest) ≡ true
first_double number first rest more true is some =
    let there : is_in number rest ≡ true = count_in number rest (omega (arith, some)) in
    ap (λ b. b || has_double rest) (ap (λ n. is_in n rest) (sym (eqb-true number first is)) ∙ there)
first_double number first rest more false is some = ap (λ b. is_in first rest || b) (more (omega (arith, some))) ∙ or_none (is_in first rest)

count_double : (number : ℕ) (numbers : List ℕ) → 2 ≤ count number numbers → has_double numbers ≡ true
count_double number [] some = absurd (omega (arith, some))
count_double number (first ∷ rest) some = first_double number first rest (count_double number rest) (number == first) refl some

double_moved : (numbers others : List ℕ) → IsPermutation numbers others → has_double numbers ≡ has_double others
double_moved numbers others moved =
    let same : (n : ℕ) → count n others ≡ count n numbers = λ n. count_sum n others ∙ sum_by-IsPermutation (λ other. tally (n == other)) numbers others moved ∙ sym (count_sum n numbers) in
    either_way (has_double numbers) (has_double others)
    (λ is. let found = double_count numbers is in count_double found.0 others (omega (arith, found.1, same found.0)))
    (λ is. let found = double_count others is in count_double found.0 numbers (omega (arith, found.1, same found.0)))

-- in a list that rises, equal numbers stand side by side

abbrev Rising : List ℕ → Type 0
Rising numbers = (k : ℕ) (d : ℕ) → k + 1 < length numbers → get_or numbers k d ≤ get_or numbers (k + 1) d

rising_rest : (first : ℕ) (rest : List ℕ) → Rising (first ∷ rest) → Rising rest
rising_rest first rest up k d within =
    let next : get_or (first ∷ rest) (suc k) d ≤ get_or (first ∷ rest) (suc k + 1) d = up (suc k) d (omega (arith, within)) in
    let back : suc k + 1 ≡ suc (k + 1) = omega arith in
    rw back at next

rising_next : (first second : ℕ) (rest : List ℕ) → Rising (first ∷ second ∷ rest) → first ≤ second
rising_next first second rest up = up 0 0 (omega arith)

not_below : (number : ℕ) (numbers : List ℕ) → ((d : ℕ) → 0 < length numbers → number < get_or numbers 0 d) → Rising numbers → is_in number numbers ≡ false
not_below number [] below up = refl
not_below number (first ∷ []) below up = let less : number < first = below 0 (omega arith) in ap (λ b. b || false) (ne_eqb number first (λ same. omega (arith, same, less)))
not_below number (first ∷ second ∷ rest) below up =
    let less : number < first = below 0 (omega arith) in
    let next : number < second = omega (arith, less, rising_next first second rest up) in
    ap (λ b. b || is_in number (second ∷ rest)) (ne_eqb number first (λ same. omega (arith, same, less)))
    ∙ not_below number (second ∷ rest) (λ d some. next) (rising_rest first (second ∷ rest) up)

by_second : (first second : ℕ) (rest : List ℕ) → Rising (first ∷ second ∷ rest) → (same : Bool) → (first == second) ≡ same → (same || is_in first rest) ≡ same
by_second first second rest up true is = refl
by_second first second rest up false is =
    let apart : first ≡ second → ⊥ = eqb-false first second is in
    let le : first ≤ second = rising_next first second rest up in
    let less : first < second = grind (arith, le, apart) in
    let none : is_in first (second ∷ rest) ≡ false = not_below first (second ∷ rest) (λ d some. less) (rising_rest first (second ∷ rest) up) in
    sym (ap (λ b. b || is_in first rest) is) ∙ none

side_by_side : (first : ℕ) (rest : List ℕ) → Rising (first ∷ rest) → is_in first rest ≡ begins_with first rest
side_by_side first [] up = refl
side_by_side first (second ∷ rest) up = by_second first second rest up (first == second) refl

neighbors_double : (numbers : List ℕ) → Rising numbers → has_equal_neighbors numbers ≡ has_double numbers
neighbors_double [] up = refl
neighbors_double (first ∷ rest) up =
    ap (λ b. b || has_equal_neighbors rest) (sym (side_by_side first rest up)) ∙ ap (λ b. is_in first rest || b) (neighbors_double rest (rising_rest first rest up))

-- parameters repeat where the names of their own variables have a double

different : false ≡ true → ⊥
different same = grind (arith, same)

other_name : (names : List (List ℕ)) (name other : ℕ) → is_blank names name ≡ false → is_blank names other ≡ true → (name == other) ≡ false
other_name names name other plain blank = ne_eqb name other (λ same. different (sym plain ∙ ap (is_blank names) same ∙ blank))

module _ (names : List (List ℕ)) (name : ℕ) (plain : is_blank names name ≡ false) where
  first_named : (rest : List ℕ) (inside : Bool) → inside ≡ is_in name rest → (other : ℕ) (blank : Bool) → is_blank names other ≡ blank
      → ((name == other) || inside) ≡ is_in name (with_name (if blank then None else Some other) rest)
  first_named rest inside same other true is = ap (λ b. b || inside) (other_name names name other plain is) ∙ same
  first_named rest inside same other false is = ap (λ b. (name == other) || b) same

  is_named : (terms : List Term) → list_any (is_this_variable name) terms ≡ is_in name (own_variables names terms)
  is_named [] = refl
  is_named (Variable other span ∷ rest) = first_named (own_variables names rest) _ (is_named rest) other (is_blank names other) refl
  is_named (Integer value span ∷ rest) = is_named rest
  is_named (Text text span ∷ rest) = is_named rest
  is_named (Application other qualifier arguments span ∷ rest) = is_named rest

variable_repeats : (names : List (List ℕ)) (name : ℕ) (rest : List Term) (more : Bool) → more ≡ has_double (own_variables names rest) → (blank : Bool) → is_blank names name ≡ blank
    → ((not blank && list_any (is_this_variable name) rest) || more) ≡ has_double (with_name (if blank then None else Some name) (own_variables names rest))
variable_repeats names name rest more same true is = same
variable_repeats names name rest more same false is = ap (λ b. b || more) (is_named names name is rest) ∙ ap (λ b. is_in name (own_variables names rest) || b) same

repeats-double : (names : List (List ℕ)) (terms : List Term) → repeats names terms ≡ has_double (own_variables names terms)
repeats-double names [] = refl
repeats-double names (Variable name span ∷ rest) = variable_repeats names name rest _ (repeats-double names rest) (is_blank names name) refl
repeats-double names (Integer value span ∷ rest) = repeats-double names rest
repeats-double names (Text text span ∷ rest) = repeats-double names rest
repeats-double names (Application name qualifier arguments span ∷ rest) = repeats-double names rest

not_less : (a b : ℕ) → is_lt (nat_cmp a b) ≡ false → b ≤ a
not_less a b is = grind (arith, nat_tests, is)

pub repeats_sorted : (names : List (List ℕ)) (terms : List Term) (variables sorted : List ℕ) → variables ≡ own_variables names terms → IsPermutation variables sorted
    → ((k : ℕ) (d : ℕ) → 0 ≤ k → k + 1 < length sorted → is_lt (nat_cmp (get_or sorted (k + 1) d) (get_or sorted k d)) ≡ false)
    → has_equal_neighbors sorted ≡ repeats names terms
repeats_sorted names terms variables sorted are moved up =
    neighbors_double sorted (λ k d within. not_less _ _ (up k d (omega arith) within))
    ∙ sym (double_moved variables sorted moved)
    ∙ ap has_double are
    ∙ sym (repeats-double names terms)
