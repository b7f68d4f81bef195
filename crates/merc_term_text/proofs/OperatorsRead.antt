-- An operator's name reads as itself before a blank and at the end of the text, and `-` before an integer.
use Rattle.std.proofs.Common.{◌≡◌, ℕ, ◌≤◌, Option, Bool, true, false, cond, ◌==◌, ◌||◌, ◌&&◌, not, nat_le, List, [], ◌∷◌, ◌++◌, length, Some, None, is_some, find, codes, slice_get, refl, sym, ◌∙◌, ap, subst, arith, inl, inr, unwrap_or}
use Rattle.std.specs.List.{list_all, prefix_len}
use Rattle.std.proofs.Math.Seq.{take-append_seam}
use Rattle.std.proofs.lemmas.Bool.{and_parts, and_left, and_right, or_cases, cases_Bool, eqb-true, ne_eqb, leb-true, not-true, false≢true}
use Rattle.std.proofs.lemmas.Bool.Decides.{nat_tests}
use Rattle.merc_base.specs.Characters.{dot_code, semicolon_code, slash_code, star_code}
use Rattle.merc_base.specs.Names.{HoldsFixed, fixed_names, comma_name, minus_name}
use Rattle.merc_value.specs.Text.{text_at}
use Rattle.merc_tokens.specs.declared.bytes.Class.TheVariants.{Graphic as GraphicClass}
use Rattle.merc_tokens.specs.declared.bytes.Start.TheVariants.{Graphic}
use Rattle.merc_tokens.specs.declared.pieces.Spelling.TheVariants.{Name}
use Rattle.merc_tokens.specs.declared.pieces.Piece.TheVariants.{Token}
use Rattle.merc_tokens.specs.Bytes.{begins_with, next_is, is_graphic, is_lower, is_word, class_test, start_of}
use Rattle.merc_tokens.specs.Pieces.{first_piece, run_of, named, name_limit}
use Rattle.merc_terms.specs.declared.operators.Operator.{Operator}
use Rattle.merc_terms.specs.Operators.{operators, is_infix, infix_named, prefix_named}
use Rattle.merc_term_text.proofs.Parted.{is_operator}
use Rattle.merc_term_text.proofs.Behind.{EndsItem, ended, ended-no_graphic}
use Rattle.merc_term_text.proofs.DecimalReads.{prefix_len-run}
use Rattle.merc_term_text.proofs.NamesRead.{plain, name-reads, named-short}

abbrev is_nothing : List ℕ → Bool
is_nothing [] = true
is_nothing (byte ∷ bytes) = false

-- a lower-case letter with letters, digits and `_`; graphic characters that are no `.` and begin no comment; or `;`
abbrev is_alone : List ℕ → Bool
is_alone [] = false
is_alone (byte ∷ bytes) =
    (is_lower byte && list_all is_word bytes)
    || ((is_graphic byte && list_all is_graphic bytes) && (not (byte == dot_code) && (not (byte == slash_code) || next_is slash_code bytes)))
    || ((byte == semicolon_code) && is_nothing bytes)

abbrev is_alone_at : Option (List ℕ) → Bool
is_alone_at None = false
is_alone_at (Some text) = nat_le (length text) name_limit && is_alone text

all_alone : list_all (λ (operator : Operator). (operator.name == comma_name) || is_alone_at (slice_get fixed_names operator.name)) operators ≡ true
unfolding operators fixed_names
all_alone = refl

graphic-start : (byte : ℕ) → is_graphic byte ≡ true → start_of byte ≡ Graphic
graphic-start byte is = grind (arith, nat_tests)

second-slash : (bytes rest : List ℕ) → next_is slash_code bytes ≡ true → next_is star_code (bytes ++ rest) ≡ false
second-slash [] rest is = absurd (cc)
second-slash (byte ∷ bytes) rest is = ne_eqb byte star_code (λ same. omega (arith, eqb-true byte slash_code is))

no_comment : (byte : ℕ) (bytes rest : List ℕ) → not (byte == slash_code) || next_is slash_code bytes ≡ true → (byte == slash_code) && next_is star_code (bytes ++ rest) ≡ false
no_comment byte bytes rest is = elim (cases_Bool (byte == slash_code)) [
  | inl slash ↦ and_right (byte == slash_code) (next_is star_code (bytes ++ rest)) (second-slash bytes rest (subst (λ (b : Bool). not b || next_is slash_code bytes ≡ true) slash is))
  | inr other ↦ and_left (byte == slash_code) (next_is star_code (bytes ++ rest)) other
]

-- graphic characters
graphic-reads : (byte : ℕ) (bytes rest : List ℕ) (after : Bool) → length (byte ∷ bytes) ≤ name_limit → is_graphic byte && list_all is_graphic bytes ≡ true → not (byte == dot_code) && (not (byte == slash_code) || next_is slash_code bytes) ≡ true
    → begins_with is_graphic rest ≡ false → first_piece after (byte ∷ (bytes ++ rest)) ≡ Token (Name (byte ∷ bytes)) (length (byte ∷ bytes))
graphic-reads byte bytes rest after short all apart other =
    let graphic = and_parts (is_graphic byte) (list_all is_graphic bytes) all in
    let parts = and_parts (not (byte == dot_code)) (not (byte == slash_code) || next_is slash_code bytes) apart in
    let run : run_of GraphicClass (byte ∷ (bytes ++ rest)) ≡ byte ∷ bytes =
    rw (prefix_len-run is_graphic bytes rest graphic.1 other, take-append_seam bytes rest) refl in
    rw (graphic-start byte graphic.0, no_comment byte bytes rest parts.1, not-true (byte == dot_code) parts.0)
    (ap (λ (t : List ℕ). named Name t (length t)) run ∙ named-short Name (byte ∷ bytes) (length (byte ∷ bytes)) short)

semicolon-reads : (byte : ℕ) (bytes rest : List ℕ) (after : Bool) → (byte == semicolon_code) && is_nothing bytes ≡ true → first_piece after (byte ∷ (bytes ++ rest)) ≡ Token (Name (byte ∷ bytes)) (length (byte ∷ bytes))
semicolon-reads byte [] rest after is = subst (λ (b : ℕ). first_piece after (b ∷ rest) ≡ Token (Name (b ∷ [])) 1) (sym (eqb-true byte semicolon_code (and_parts (byte == semicolon_code) true is).0)) refl
semicolon-reads byte (next ∷ bytes) rest after is = absurd (false≢true (sym (and_right (byte == semicolon_code) false refl) ∙ is))

alone-reads : (text rest : List ℕ) (after : Bool) → length text ≤ name_limit → is_alone text ≡ true → EndsItem rest → first_piece after (text ++ rest) ≡ Token (Name text) (length text)
alone-reads [] rest after short is behind = absurd (cc)
alone-reads (byte ∷ bytes) rest after short is behind = elim (or_cases _ ((byte == semicolon_code) && is_nothing bytes) is) [
  | inr semicolon ↦ semicolon-reads byte bytes rest after semicolon
  | inl other ↦ elim (or_cases (is_lower byte && list_all is_word bytes) _ other) [
    | inl word ↦ let parts = and_parts (is_lower byte) (list_all is_word bytes) word in name-reads (byte ∷ bytes) rest after short (plain byte bytes parts.0 parts.1) (ended rest behind)
    | inr graphic ↦ let parts = and_parts (is_graphic byte && list_all is_graphic bytes) _ graphic in graphic-reads byte bytes rest after short parts.0 parts.1 (ended-no_graphic rest behind)
  ]
]

-- a constant's text is one that reads as a name
pub record Reads (name : ℕ) : Type 0 where
  pub text : List ℕ
  pub is : slice_get fixed_names name ≡ Some text
  pub piece : (after : Bool) (rest : List ℕ) → EndsItem rest → first_piece after (text ++ rest) ≡ Token (Name text) (length text)

reads-at : (name : ℕ) (found : Option (List ℕ)) → slice_get fixed_names name ≡ found → is_alone_at found ≡ true → Reads name
reads-at name None there is = absurd (cc)
reads-at name (Some text) there is =
    let parts = and_parts (nat_le (length text) name_limit) (is_alone text) is in
    record { text = text; is = there; piece = λ after rest behind. alone-reads text rest after (leb-true (length text) name_limit parts.0) parts.1 behind }

-- what is found passes what each passes
found-passes : {X : Type 0} (test each : X → Bool) (xs : List X) → list_all each xs ≡ true → is_some (find test xs) ≡ true → (x : X) × (test x ≡ true) × (each x ≡ true)
found-passes test each [] all some = absurd (cc)
found-passes test each (x ∷ xs) all some =
    let parts = and_parts (each x) (list_all each xs) all in
    elim (cases_Bool (test x)) [
      | inl here ↦ (x, here, parts.0)
      | inr other ↦ found-passes test each xs parts.1 (subst (λ (b : Bool). is_some (cond b (Some x) (find test xs)) ≡ true) other some)
    ]

operator-named : (name : ℕ) (test : Operator → Bool) → name == comma_name ≡ false → is_some (find (λ (operator : Operator). (operator.name == name) && test operator) operators) ≡ true → Reads name
operator-named name test other some =
    let row = found-passes (λ (operator : Operator). (operator.name == name) && test operator) (λ (operator : Operator). (operator.name == comma_name) || is_alone_at (slice_get fixed_names operator.name)) operators all_alone some in
    let same = eqb-true row.0.name name (and_parts (row.0.name == name) (test row.0) row.1).0 in
    let either : (name == comma_name) || is_alone_at (slice_get fixed_names name) ≡ true = subst (λ (n : ℕ). (n == comma_name) || is_alone_at (slice_get fixed_names n) ≡ true) same row.2 in
    reads-at name (slice_get fixed_names name) refl (subst (λ (b : Bool). b || is_alone_at (slice_get fixed_names name) ≡ true) other either)

pub operator-reads : (name : ℕ) → is_operator name ≡ true → Reads name
operator-reads name is =
    let parts = and_parts (is_some (infix_named name) || is_some (prefix_named name)) (not (name == comma_name)) is in
    let other = not-true (name == comma_name) parts.1 in
    elim (or_cases (is_some (infix_named name)) (is_some (prefix_named name)) parts.0) [
      | inl infix' ↦ operator-named name (λ operator. is_infix operator.fixity) other infix'
      | inr prefix ↦ operator-named name (λ operator. not (is_infix operator.fixity)) other prefix
    ]

-- and `-` before an integer
pub minus-reads : (after : Bool) (rest : List ℕ) → begins_with is_graphic rest ≡ false → first_piece after (45 ∷ rest) ≡ Token (Name (codes "-")) 1
minus-reads after rest other = let none : prefix_len (class_test GraphicClass) rest ≡ 0 = prefix_len-run is_graphic [] rest refl other in rw none refl

-- the text of a constant
text-fixed : (names : List (List ℕ)) (name : ℕ) (text : List ℕ) → HoldsFixed names → slice_get fixed_names name ≡ Some text → text_at names name ≡ text
text-fixed names name text fixed is = ap (λ (o : Option (List ℕ)). unwrap_or o []) (fixed.text name text is)

pub minus-fixed : slice_get fixed_names minus_name ≡ Some (codes "-")
unfolding fixed_names
minus-fixed = refl

pub minus-text : (names : List (List ℕ)) → HoldsFixed names → text_at names minus_name ≡ codes "-"
minus-text names fixed = text-fixed names minus_name (codes "-") fixed minus-fixed
