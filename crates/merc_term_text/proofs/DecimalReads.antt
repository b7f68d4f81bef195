-- A number in decimal digits reads as that number.
use Rattle.std.proofs.Common.{◌≡◌, ℕ, zero, suc, ◌+◌, ◌-◌, ◌*◌, ◌/◌, ◌%◌, ◌^◌, ◌<◌, ◌≤◌, ap₂, one-add, Option, Bool, true, false, ◌==◌, ◌&&◌, leb, cond, List, [], ◌∷◌, ◌++◌, length, take, reverse, get_or, Some, refl, sym, ◌∙◌, ap, arith, length-append, decimal}
use Rattle.std.specs.List.{list_all, prefix_len}
use Rattle.std.proofs.lemmas.Bool.Decides.{nat_tests}
use Rattle.std.proofs.Math.Seq.{take-append_seam, drop-append_seam}
use Rattle.std.proofs.lemmas.Bool.{le-leb, lt-ltb, ne_eqb, leb-true, and_parts, and_from, agree_below_at}
use Rattle.std.proofs.lemmas.Fmt.{decimal_by_steps, decimal_digit, first_decimal}
use Rattle.std.proofs.lemmas.List.{reverse-append}
use Rattle.std.proofs.lemmas.List.Folds.{list_all-append}
use Rattle.merc_base.specs.Characters.{nine_code, underscore_code, zero_code}
use Rattle.merc_tokens.specs.declared.bytes.Class.TheVariants.{Digits}
use Rattle.merc_tokens.specs.declared.bytes.Start.TheVariants.{Digit}
use Rattle.merc_tokens.specs.declared.integers.Form.TheVariants.{Decimal}
use Rattle.merc_tokens.specs.declared.integers.Form.{Form}
use Rattle.merc_tokens.specs.declared.integers.Integer.{Integer}
use Rattle.merc_tokens.specs.declared.pieces.Spelling.TheVariants.{Int}
use Rattle.merc_tokens.specs.declared.pieces.Piece.TheVariants.{Token}
use Rattle.merc_tokens.specs.Bytes.{is_digit, digit_of, is_digit_of, is_underscore, class_test, is_graphic, begins_with, start_of}
use Rattle.merc_tokens.specs.Integers.{digits_value, digits_len, within_limit, based_integer, form_of, integer_of, integer_at, integer_limit}
use Rattle.merc_tokens.specs.Pieces.{integer_piece, first_piece}
use Rattle.merc_term_text.proofs.Behind.{EndsOperand, no_digit, no_letter, no_fraction, no_form}

-- bytes of a class, and then one that is of another
pub prefix_len-run : (test : ℕ → Bool) (run rest : List ℕ) → list_all test run ≡ true → begins_with test rest ≡ false → prefix_len test (run ++ rest) ≡ length run
prefix_len-run test [] [] all other = refl
prefix_len-run test [] (next ∷ rest) all other = rw other refl
prefix_len-run test (byte ∷ run) rest all other =
    let parts = and_parts (test byte) (list_all test run) all in
    rw parts.0 (omega (arith, prefix_len-run test run rest parts.1 other))

-- a byte from `0` to `9`
data IsDigit (byte : ℕ) : Type 0 where
  digit : (value : ℕ) → value < 10 → byte ≡ 48 + value → IsDigit byte

digit-bounds : (byte : ℕ) → is_digit byte ≡ true → (48 ≤ byte) × (byte ≤ 57)
digit-bounds byte is = let parts = and_parts (leb zero_code byte) (leb byte nine_code) is in (leb-true zero_code byte parts.0, leb-true byte nine_code parts.1)

digit-is : (value : ℕ) → value < 10 → is_digit (48 + value) ≡ true
digit-is value small = and_from (leb 48 (48 + value)) (leb (48 + value) 57) (le-leb 48 (48 + value) (omega arith)) (le-leb (48 + value) 57 (omega arith))

digit-of : (value : ℕ) → value < 10 → digit_of (48 + value) ≡ value
digit-of value small = rw (digit-is value small) (omega arith)

digit-base : (byte : ℕ) → is_digit byte ≡ true → is_digit_of 10 byte ≡ true
digit-base byte is = let bounds = digit-bounds byte is in rw is (lt-ltb (byte - zero_code) 10 (omega arith))

digit-class : (byte : ℕ) → is_digit byte ≡ true → class_test (Digits 10) byte ≡ true
digit-class byte is = rw (digit-base byte is) refl

digit-no_underscore : (byte : ℕ) → is_digit byte ≡ true → is_underscore byte ≡ false
digit-no_underscore byte is = let bounds = digit-bounds byte is in ne_eqb byte underscore_code (λ same. omega arith)

digit-start : (byte : ℕ) → is_digit byte ≡ true → start_of byte ≡ Digit
digit-start byte is = let bounds = digit-bounds byte is in grind (arith, nat_tests)

all_class : (digits : List ℕ) → list_all is_digit digits ≡ true → list_all (class_test (Digits 10)) digits ≡ true
all_class [] all = refl
all_class (byte ∷ digits) all =
    let parts = and_parts (is_digit byte) (list_all is_digit digits) all in
    and_from _ _ (digit-class byte parts.0) (all_class digits parts.1)

none_first : (b : Bool) (m n : ℕ) → cond b (1 + m) 0 ≡ 0 → cond b (1 + n) 0 ≡ 0
none_first true m n none = absurd (omega arith)
none_first false m n none = refl

none_joined : (test : ℕ → Bool) (front : List ℕ) (byte : ℕ) → prefix_len test front ≡ 0 → test byte ≡ false → prefix_len test (front ++ byte ∷ []) ≡ 0
none_joined test [] byte none other = rw other refl
none_joined test (first ∷ front) byte none other = none_first (test first) (prefix_len test front) (prefix_len test (front ++ byte ∷ [])) none

no_underscores : (digits : List ℕ) → list_all is_digit digits ≡ true → prefix_len is_underscore (reverse digits) ≡ 0
no_underscores [] all = refl
no_underscores (byte ∷ digits) all =
    let parts = and_parts (is_digit byte) (list_all is_digit digits) all in
    rw (reverse-append (byte ∷ []) digits) (none_joined is_underscore (reverse digits) byte (no_underscores digits parts.1) (digit-no_underscore byte parts.0))

-- digits are as many as they are
digits_len-run : (byte : ℕ) (digits rest : List ℕ) → list_all is_digit digits ≡ true → begins_with (class_test (Digits 10)) rest ≡ false → digits_len 10 (byte ∷ (digits ++ rest)) ≡ 1 + length digits
digits_len-run byte digits rest all other =
    rw (prefix_len-run (class_test (Digits 10)) digits rest (all_class digits all) other, take-append_seam digits rest, no_underscores digits all) (omega arith)

value-more : (b : Bool) (x y m n last : ℕ) → x ≡ 10 * m + last → y ≡ 10 * n + last → cond b x y ≡ 10 * cond b m n + last
value-more true x y m n last one other = one
value-more false x y m n last one other = other

digits_value-last : (value byte : ℕ) (digits : List ℕ) → is_digit byte ≡ true → digits_value 10 value (digits ++ byte ∷ []) ≡ 10 * digits_value 10 value digits + digit_of byte
digits_value-last value byte [] is = rw (digit-no_underscore byte is) refl
digits_value-last value byte (first ∷ digits) is =
    value-more (first == underscore_code) (digits_value 10 value (digits ++ byte ∷ [])) _ (digits_value 10 value digits) _ (digit_of byte)
    (digits_value-last value byte digits is) (digits_value-last (10 * value + digit_of first) byte digits is)

-- what is known of the digits of a number
record Spelled (value : ℕ) (digits : List ℕ) : Type 0 where
  pub all : list_all is_digit digits ≡ true
  pub says : digits_value 10 0 digits ≡ value
  pub some : 0 < length digits

spelled-one : (value : ℕ) → value < 10 → Spelled value ((48 + value) ∷ [])
spelled-one value small = record {
  all = and_from _ _ (digit-is value small) refl;
  says = rw (digit-no_underscore (48 + value) (digit-is value small), digit-of value small) (omega arith);
  some = omega arith;
}

spelled-more : (value : ℕ) (digits : List ℕ) → 10 ≤ value → Spelled (value / 10) digits → Spelled value (digits ++ (48 + value % 10) ∷ [])
spelled-more value digits great front = record {
  all = rw (list_all-append is_digit digits ((48 + value % 10) ∷ [])) (and_from _ _ front.all (and_from _ _ (digit-is (value % 10) (omega arith)) refl));
  says = rw (digits_value-last 0 (48 + value % 10) digits (digit-is (value % 10) (omega arith)), front.says, digit-of (value % 10) (omega arith)) (omega arith);
  some = omega (arith, length-append digits ((48 + value % 10) ∷ []));
}

spelled : (value : ℕ) → value < 2 ^ 64 → Spelled value (decimal value)
spelled = decimal_by_steps Spelled spelled-one (λ value digits great front. spelled-more value digits great front)

-- an integer with these digits
abbrev integer : ℕ → List ℕ → Integer
integer value digits = record { value = Some value; past = length digits; is_decimal = true }

-- no form but the decimal one
form-first : (byte : ℕ) (rest : List ℕ) → 48 < byte → form_of (byte ∷ rest) ≡ Decimal
form-first byte [] above = refl
form-first byte (next ∷ rest) above = rw (ne_eqb byte zero_code (λ same. omega arith)) refl

form-more : (digits rest : List ℕ) → 48 < get_or digits 0 0 → form_of (digits ++ rest) ≡ Decimal
form-more [] rest above = absurd (omega arith)
form-more (byte ∷ digits) rest above = form-first byte (digits ++ rest) above

form-of : (value : ℕ) (rest : List ℕ) → value < 2 ^ 64 → EndsOperand rest → form_of (decimal value ++ rest) ≡ Decimal
form-of zero rest small ends = rw (decimal_digit 0 (omega arith)) (no_form rest ends)
form-of (suc value) rest small ends = form-more (decimal (suc value)) rest (first_decimal (suc value) (omega arith) small)

within : (value : ℕ) → value ≤ integer_limit → within_limit value ≡ Some value
within value fits = rw (le-leb value integer_limit fits) refl

front-first : (byte : ℕ) (digits rest : List ℕ) → take (1 + length digits) (byte ∷ (digits ++ rest)) ≡ byte ∷ digits
front-first byte digits rest = rw one-add (ap (λ (t : List ℕ). byte ∷ t) (take-append_seam digits rest))

based-reads : (value : ℕ) (digits rest : List ℕ) → value ≤ integer_limit → Spelled value digits → EndsOperand rest → based_integer 10 0 (digits ++ rest) ≡ Some (integer value digits)
based-reads value [] rest fits spelled ends = absurd (omega (arith, spelled.some))
based-reads value (byte ∷ digits) rest fits spelled ends =
    let parts = and_parts (is_digit byte) (list_all is_digit digits) spelled.all in
    let found : within_limit (digits_value 10 0 (take (1 + length digits) (byte ∷ (digits ++ rest)))) ≡ Some value =
    ap (λ (t : List ℕ). within_limit (digits_value 10 0 t)) (front-first byte digits rest) ∙ ap within_limit spelled.says ∙ within value fits in
    let many : 0 + (1 + length digits) ≡ length (byte ∷ digits) = omega arith in
    rw (digit-base byte parts.0, digits_len-run byte digits rest parts.1 (no_digit rest ends))
    (ap₂ (λ (v : Option ℕ) (n : ℕ). Some (record { value = v; past = n; is_decimal = true })) found many)

integer-reads : (value : ℕ) (digits rest : List ℕ) → value ≤ integer_limit → EndsOperand rest → Spelled value digits → integer_piece (Some (integer value digits)) (digits ++ rest) ≡ Token (Int value) (length digits)
integer-reads value digits rest fits ends spelled =
    rw (drop-append_seam digits rest, no_letter rest ends, no_fraction rest ends) refl

start-first : (value : ℕ) (digits rest : List ℕ) (after : Bool) → Spelled value digits → first_piece after (digits ++ rest) ≡ integer_piece (integer_at (digits ++ rest)) (digits ++ rest)
start-first value [] rest after spelled = absurd (omega (arith, spelled.some))
start-first value (byte ∷ digits) rest after spelled =
    let parts = and_parts (is_digit byte) (list_all is_digit digits) spelled.all in
    rw (digit-start byte parts.0) refl

-- a number of at most 2^63 reads as itself, before what may stand behind it
pub decimal-reads : (value : ℕ) (rest : List ℕ) (after : Bool) → value ≤ integer_limit → EndsOperand rest → first_piece after (decimal value ++ rest) ≡ Token (Int value) (length (decimal value))
decimal-reads value rest after fits ends =
    let small : value < 2 ^ 64 = omega arith in
    let found : integer_at (decimal value ++ rest) ≡ Some (integer value (decimal value)) =
    ap (λ (f : Form). integer_of f (decimal value ++ rest)) (form-of value rest small ends) ∙ based-reads value (decimal value) rest fits (spelled value small) ends in
    start-first value (decimal value) rest after (spelled value small)
    ∙ ap (λ (o : Option Integer). integer_piece o (decimal value ++ rest)) found
    ∙ integer-reads value (decimal value) rest fits ends (spelled value small)

first-no_graphic : (value : ℕ) (digits rest : List ℕ) → Spelled value digits → begins_with is_graphic (digits ++ rest) ≡ false
first-no_graphic value [] rest spelled = absurd (omega (arith, spelled.some))
first-no_graphic value (byte ∷ digits) rest spelled =
    let parts = and_parts (is_digit byte) (list_all is_digit digits) spelled.all in
    let bounds = digit-bounds byte parts.0 in
    let apart : is_digit byte && is_graphic byte ≡ false = agree_below_at (λ b. is_digit b && is_graphic b) (λ b. false) 58 byte refl (omega arith) in
    ap (λ (b : Bool). b && is_graphic byte) (sym parts.0) ∙ apart

-- no graphic character begins a number
pub decimal-no_graphic : (value : ℕ) (rest : List ℕ) → value ≤ integer_limit → begins_with is_graphic (decimal value ++ rest) ≡ false
decimal-no_graphic value rest fits = first-no_graphic value (decimal value) rest (spelled value (omega arith))
