-- What the operator table tells of its operators.
use Rattle.std.proofs.Common.{◌≡◌, ℕ, ◌≤◌, ◌==◌, ◌&&◌, ◌||◌, not, nat_le, Bool, true, false, List, [], ◌∷◌, Option, Some, None, is_some, slice_get, refl, ap, sym, ◌∙◌, eqb-true, leb-true, ltb-true, nat_lt, inr, length}
use Rattle.std.proofs.Math.Bool.{or-true}
use Rattle.std.specs.List.{list_all}
use Rattle.std.specs.Option.{unwrap_or}
use Rattle.std.specs.Str.{IsUtf8}
use Rattle.std.proofs.lemmas.Str.{IsUtf8-append, IsUtf8-nil}
use Rattle.merc_term_text.proofs.Utf8Parts.{ascii_byte}
use Rattle.merc_term_text.proofs.Parted.{HasName, IsSpelled, is_operator}
use Rattle.merc_base.specs.Names.{HoldsFixed, fixed_names, comma_name, minus_name}
use Rattle.std.proofs.lemmas.Bool.{and_parts, not-true}
use Rattle.merc_tokens.specs.Pieces.{name_limit}
use Rattle.merc_terms.proofs.Table.{find_all, find_holds, infix_name, prefix_name}
use Rattle.merc_value.specs.Text.{text_at, is_plain, word_operators}
use Rattle.merc_tokens.specs.declared.token.TokenKind.TheVariants.{Name}
use Rattle.merc_terms.specs.declared.operators.Operator.{Operator}
use Rattle.merc_terms.specs.Operators.{operators, infix_named, prefix_named, takes_two, is_infix, last_most, term_most}
use Rattle.merc_terms.specs.Reading.{leaves_plain}

-- the rows of the table

bounded_check : Operator → Bool
bounded_check operator = nat_le 200 operator.priority && nat_le operator.priority 1200

all_bounded : list_all bounded_check operators ≡ true
unfolding operators bounded_check
all_bounded = refl

minus_check : Operator → Bool
minus_check operator = not (operator.name == minus_name) || (is_infix operator.fixity || (not (takes_two operator.fixity) && last_most operator == 199))

all_minus : list_all minus_check operators ≡ true
unfolding operators minus_check
all_minus = refl

text_check : Operator → Bool
text_check operator = is_some (slice_get fixed_names operator.name) && not (is_plain (text_at fixed_names operator.name))

all_texts : list_all text_check operators ≡ true
unfolding operators text_check fixed_names word_operators
all_texts = refl

infix_checked : (check : Operator → Bool) → list_all check operators ≡ true → (name : ℕ) (operator : Operator) → infix_named name ≡ Some operator → check operator ≡ true
infix_checked check all name operator found = find_all check (λ o. (o.name == name) && is_infix o.fixity) operators operator all found

prefix_checked : (check : Operator → Bool) → list_all check operators ≡ true → (name : ℕ) (operator : Operator) → prefix_named name ≡ Some operator → check operator ≡ true
prefix_checked check all name operator found = find_all check (λ o. (o.name == name) && not (is_infix o.fixity)) operators operator all found

-- the least and the greatest priority of an operator
pub record IsBounded (priority : ℕ) : Type 0 where
  pub low : 200 ≤ priority
  pub high : priority ≤ term_most

bounded_by : (operator : Operator) → bounded_check operator ≡ true → IsBounded operator.priority
unfolding bounded_check
bounded_by operator h = record {
  low = leb-true 200 operator.priority ((and_parts (nat_le 200 operator.priority) (nat_le operator.priority 1200) h).0);
  high = leb-true operator.priority 1200 ((and_parts (nat_le 200 operator.priority) (nat_le operator.priority 1200) h).1);
}

pub infix_bounded : (name : ℕ) (operator : Operator) → infix_named name ≡ Some operator → IsBounded operator.priority
infix_bounded name operator found = bounded_by operator (infix_checked bounded_check all_bounded name operator found)

pub prefix_bounded : (name : ℕ) (operator : Operator) → prefix_named name ≡ Some operator → IsBounded operator.priority
prefix_bounded name operator found = bounded_by operator (prefix_checked bounded_check all_bounded name operator found)

-- the prefix operator that may be a sign takes one operand, which binds tighter than each operator

minus_by : (operator : Operator) → operator.name ≡ minus_name → is_infix operator.fixity ≡ false → minus_check operator ≡ true → not (takes_two operator.fixity) && last_most operator == 199 ≡ true
unfolding minus_check
minus_by operator minus prefix h =
    sym (ap (λ (n : ℕ). not (n == minus_name) || (is_infix operator.fixity || (not (takes_two operator.fixity) && last_most operator == 199))) minus
    ∙ ap (λ b. b || (not (takes_two operator.fixity) && last_most operator == 199)) prefix) ∙ h

prefix_fixity : (name : ℕ) (operator : Operator) → prefix_named name ≡ Some operator → is_infix operator.fixity ≡ false
prefix_fixity name operator found = not-true (is_infix operator.fixity) ((and_parts (operator.name == name) (not (is_infix operator.fixity)) (find_holds (λ o. (o.name == name) && not (is_infix o.fixity)) operators operator found)).1)

pub minus_row : (operator : Operator) → prefix_named minus_name ≡ Some operator → (takes_two operator.fixity ≡ false) × (last_most operator ≡ 199)
minus_row operator found =
    let h = minus_by operator (prefix_name minus_name operator found) (prefix_fixity minus_name operator found) (prefix_checked minus_check all_minus minus_name operator found) in (
      not-true (takes_two operator.fixity) ((and_parts (not (takes_two operator.fixity)) (last_most operator == 199) h).0),
      eqb-true (last_most operator) 199 ((and_parts (not (takes_two operator.fixity)) (last_most operator == 199) h).1),
    )

-- a plain name is no operator

fixed_known : (names : List (List ℕ)) → HoldsFixed names → (name : ℕ) (found : Option (List ℕ)) → slice_get fixed_names name ≡ found → is_some found ≡ true → text_at names name ≡ text_at fixed_names name
fixed_known names fixed name None e there = absurd (cc)
fixed_known names fixed name (Some text) e there = ap (λ o. unwrap_or o []) (fixed.text name text e ∙ sym e)

fixed_text : (names : List (List ℕ)) → HoldsFixed names → (name : ℕ) → is_some (slice_get fixed_names name) ≡ true → text_at names name ≡ text_at fixed_names name
fixed_text names fixed name there = fixed_known names fixed name (slice_get fixed_names name) refl there

text_by : (names : List (List ℕ)) → HoldsFixed names → (operator : Operator) → text_check operator ≡ true → is_plain (text_at names operator.name) ≡ false
unfolding text_check
text_by names fixed operator h =
    ap is_plain (fixed_text names fixed operator.name ((and_parts (is_some (slice_get fixed_names operator.name)) (not (is_plain (text_at fixed_names operator.name))) h).0))
    ∙ not-true (is_plain (text_at fixed_names operator.name)) ((and_parts (is_some (slice_get fixed_names operator.name)) (not (is_plain (text_at fixed_names operator.name))) h).1)

none_by : {A : Type 0} (found : Option A) → ((operator : A) → found ≡ Some operator → ⊥) → found ≡ None
none_by None never = refl
none_by (Some operator) never = absurd (never operator refl)

clash : (b : Bool) → b ≡ true → b ≡ false → ⊥
clash b e f = absurd (cc)

pub no_infix : (names : List (List ℕ)) → HoldsFixed names → (name : ℕ) → is_plain (text_at names name) ≡ true → infix_named name ≡ None
no_infix names fixed name plain = none_by (infix_named name) (λ operator found.
    clash (is_plain (text_at names name)) plain (ap (λ (n : ℕ). is_plain (text_at names n)) (sym (infix_name name operator found)) ∙ text_by names fixed operator (infix_checked text_check all_texts name operator found)))

pub no_prefix : (names : List (List ℕ)) → HoldsFixed names → (name : ℕ) → is_plain (text_at names name) ≡ true → prefix_named name ≡ None
no_prefix names fixed name plain = none_by (prefix_named name) (λ operator found.
    clash (is_plain (text_at names name)) plain (ap (λ (n : ℕ). is_plain (text_at names n)) (sym (prefix_name name operator found)) ∙ text_by names fixed operator (prefix_checked text_check all_texts name operator found)))

-- the sign itself is a prefix operator too, which leaves one before it as it is
pub minus_kept : leaves_plain (Name minus_name) ≡ false
unfolding operators
minus_kept = refl

-- each operator's name can be spelled

is_small : ℕ → Bool
is_small byte = nat_lt byte 128

ascii_utf8 : (text : List ℕ) → list_all is_small text ≡ true → IsUtf8 text
unfolding is_small
ascii_utf8 [] small = IsUtf8-nil
ascii_utf8 (byte ∷ bytes) small =
    IsUtf8-append (byte ∷ []) bytes (ascii_byte byte (ltb-true byte 128 ((and_parts (nat_lt byte 128) (list_all is_small bytes) small).0))) (ascii_utf8 bytes ((and_parts (nat_lt byte 128) (list_all is_small bytes) small).1))

abbrev has_text : Option (List ℕ) → Bool
has_text None = false
has_text (Some text) = list_all is_small text && nat_le (length text) name_limit

name_check : Operator → Bool
name_check operator = has_text (slice_get fixed_names operator.name)

all_names : list_all name_check operators ≡ true
unfolding operators name_check fixed_names is_small
all_names = refl

known_name : (names : List (List ℕ)) → HoldsFixed names → (name : ℕ) (found : Option (List ℕ)) → slice_get fixed_names name ≡ found → has_text found ≡ true → HasName names name
known_name names fixed name None e good = absurd (cc)
known_name names fixed name (Some text) e good = record {
  text = text;
  there = fixed.text name text e;
  utf8 = ascii_utf8 text ((and_parts (list_all is_small text) (nat_le (length text) name_limit) good).0);
  short = leb-true (length text) name_limit ((and_parts (list_all is_small text) (nat_le (length text) name_limit) good).1);
}

name_by : (names : List (List ℕ)) → HoldsFixed names → (operator : Operator) → name_check operator ≡ true → HasName names operator.name
unfolding name_check
name_by names fixed operator good = known_name names fixed operator.name (slice_get fixed_names operator.name) refl good

pub infix_spelled : (names : List (List ℕ)) → HoldsFixed names → (operator : Operator) → infix_named operator.name ≡ Some operator → (operator.name == comma_name) ≡ false → IsSpelled names (Name operator.name)
infix_spelled names fixed operator row other = (
  name_by names fixed operator (infix_checked name_check all_names operator.name operator row),
  inr (ap (λ o. (is_some o || is_some (prefix_named operator.name)) && not (operator.name == comma_name)) row ∙ ap not other),
)

-- a comma is no prefix operator
comma_check : Operator → Bool
comma_check operator = is_infix operator.fixity || not (operator.name == comma_name)

all_commas : list_all comma_check operators ≡ true
unfolding operators comma_check
all_commas = refl

comma_by : (operator : Operator) → is_infix operator.fixity ≡ false → comma_check operator ≡ true → not (operator.name == comma_name) ≡ true
unfolding comma_check
comma_by operator prefix h = sym (ap (λ b. b || not (operator.name == comma_name)) prefix) ∙ h

pub prefix_spelled : (names : List (List ℕ)) → HoldsFixed names → (operator : Operator) → prefix_named operator.name ≡ Some operator → IsSpelled names (Name operator.name)
prefix_spelled names fixed operator row = (
  name_by names fixed operator (prefix_checked name_check all_names operator.name operator row),
  inr (ap (λ o. (is_some (infix_named operator.name) || is_some o) && not (operator.name == comma_name)) row
      ∙ ap (λ b. b && not (operator.name == comma_name)) (or-true (is_some (infix_named operator.name)))
      ∙ comma_by operator (prefix_fixity operator.name operator row) (prefix_checked comma_check all_commas operator.name operator row)),
)

minus_known : has_text (slice_get fixed_names minus_name) ≡ true
unfolding fixed_names is_small
minus_known = refl

minus_operator : is_operator minus_name ≡ true
unfolding operators
minus_operator = refl

pub minus_spelled : (names : List (List ℕ)) → HoldsFixed names → IsSpelled names (Name minus_name)
minus_spelled names fixed = (known_name names fixed minus_name (slice_get fixed_names minus_name) refl minus_known, inr minus_operator)
