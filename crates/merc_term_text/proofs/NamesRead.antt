-- Plain names and variables read as themselves.
use Rattle.std.proofs.Common.{◌≡◌, ℕ, ◌≤◌, Bool, true, false, leb, ◌==◌, ◌||◌, ◌&&◌, List, [], ◌∷◌, ◌++◌, length, refl, sym, ◌∙◌, ap, arith}
use Rattle.std.specs.List.{list_all}
use Rattle.std.specs.Char.{is_ascii_lowercase}
use Rattle.std.proofs.Math.Seq.{take-append_seam}
use Rattle.std.proofs.lemmas.Bool.{le-leb, leb-true, and_parts}
use Rattle.std.proofs.lemmas.Bool.Decides.{nat_tests}
use Rattle.merc_base.specs.Characters.{lower_a_code, lower_z_code, underscore_code}
use Rattle.merc_value.specs.Text.{is_plain, is_word_byte}
use Rattle.merc_tokens.specs.declared.bytes.Class.TheVariants.{Word}
use Rattle.merc_tokens.specs.declared.bytes.Start.TheVariants.{Lower, Upper}
use Rattle.merc_tokens.specs.declared.pieces.Spelling.{Spelling}
use Rattle.merc_tokens.specs.declared.pieces.Spelling.TheVariants.{Name, Var}
use Rattle.merc_tokens.specs.declared.pieces.Piece.TheVariants.{Token}
use Rattle.merc_tokens.specs.Bytes.{is_lower, is_upper, is_word, class_test, begins_with, start_of}
use Rattle.merc_tokens.specs.Pieces.{run_of, named, first_piece, name_limit}
use Rattle.merc_term_text.proofs.Parted.{is_variable_text}
use Rattle.merc_term_text.proofs.Behind.{EndsOperand, EndsName, operand, no_word}
use Rattle.merc_term_text.proofs.DecimalReads.{prefix_len-run}

-- the two tests of letters are one
lower-same : (byte : ℕ) → is_ascii_lowercase byte ≡ is_lower byte
lower-same byte = grind (arith, nat_tests)

word-same : (byte : ℕ) → is_word_byte byte ≡ is_word byte
word-same byte = grind (arith, nat_tests)

pub lower-bounds : (byte : ℕ) → is_lower byte ≡ true → (97 ≤ byte) × (byte ≤ 122)
lower-bounds byte is = let parts = and_parts (leb lower_a_code byte) (leb byte lower_z_code) is in (leb-true lower_a_code byte parts.0, leb-true byte lower_z_code parts.1)

pub lower-start : (byte : ℕ) → is_lower byte ≡ true → start_of byte ≡ Lower
lower-start byte is = grind (arith, nat_tests)

upper-start : (byte : ℕ) → is_upper byte || byte == underscore_code ≡ true → start_of byte ≡ Upper
upper-start byte is = grind (arith, nat_tests)

words-same : (bytes : List ℕ) → list_all is_word_byte bytes ≡ list_all is_word bytes
words-same [] = refl
words-same (byte ∷ bytes) = rw (word-same byte, words-same bytes) refl

-- a text whose longest run is known
run-is : (byte : ℕ) (bytes rest : List ℕ) → list_all is_word bytes ≡ true → begins_with (class_test Word) rest ≡ false → run_of Word (byte ∷ (bytes ++ rest)) ≡ byte ∷ bytes
run-is byte bytes rest all other = rw (prefix_len-run (class_test Word) bytes rest all other, take-append_seam bytes rest) refl

pub named-short : (make : List ℕ → Spelling) (name : List ℕ) (len : ℕ) → length name ≤ name_limit → named make name len ≡ Token (make name) len
named-short make name len short = rw (le-leb (length name) name_limit short) refl

run-named : (make : List ℕ → Spelling) (byte : ℕ) (bytes rest : List ℕ) → length (byte ∷ bytes) ≤ name_limit → list_all is_word bytes ≡ true → begins_with (class_test Word) rest ≡ false
    → named make (run_of Word (byte ∷ (bytes ++ rest))) (length (run_of Word (byte ∷ (bytes ++ rest)))) ≡ Token (make (byte ∷ bytes)) (length (byte ∷ bytes))
run-named make byte bytes rest short all other = ap (λ (run : List ℕ). named make run (length run)) (run-is byte bytes rest all other) ∙ named-short make (byte ∷ bytes) (length (byte ∷ bytes)) short

-- what a plain name consists of
pub data IsPlain : List ℕ → Type 0 where
  plain : (byte : ℕ) (bytes : List ℕ) → is_lower byte ≡ true → list_all is_word bytes ≡ true → IsPlain (byte ∷ bytes)

pub plain-is : (text : List ℕ) → is_plain text ≡ true → IsPlain text
plain-is [] is = absurd (cc)
plain-is (byte ∷ bytes) is =
    let word = and_parts (is_ascii_lowercase byte && list_all is_word_byte bytes) _ is in
    let parts = and_parts (is_ascii_lowercase byte) (list_all is_word_byte bytes) word.0 in
    plain byte bytes (sym (lower-same byte) ∙ parts.0) (sym (words-same bytes) ∙ parts.1)

pub name-reads : (text rest : List ℕ) (after : Bool) → length text ≤ name_limit → IsPlain text → EndsName rest → first_piece after (text ++ rest) ≡ Token (Name text) (length text)
name-reads _ rest after short (plain byte bytes lower all) ends =
    rw (lower-start byte lower) (run-named Name byte bytes rest short all (no_word rest ends))

pub variable-reads : (text rest : List ℕ) (after : Bool) → length text ≤ name_limit → is_variable_text text ≡ true → EndsOperand rest → first_piece after (text ++ rest) ≡ Token (Var text) (length text)
variable-reads [] rest after short is ends = absurd (cc)
variable-reads (byte ∷ bytes) rest after short is ends =
    let parts = and_parts (is_upper byte || byte == underscore_code) (list_all is_word bytes) is in
    rw (upper-start byte parts.0) (run-named Var byte bytes rest short parts.1 (no_word rest (operand rest ends)))
