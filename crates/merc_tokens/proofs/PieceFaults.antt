-- A piece is a fault exactly where its text is faulty, and then the fault with the least rule.
use Rattle.std.proofs.Common.{◌≡◌, ℕ, ◌+◌, ◌-◌, ◌<◌, ◌≤◌, inl, inr, Bool, true, false, ◌==◌, ◌&&◌, not, leb, cond, List, [], ◌∷◌, length, take, drop, Option, Some, None, refl, sym, ◌∙◌, ap, subst, arith}
use Rattle.std.proofs.lemmas.Bool.{false≢true, cond_both, lt-leb, lt-ltb, leb-true, leb-false}
use Rattle.merc_base.specs.Refusal.{rule_number}
use Rattle.merc_base.specs.declared.refusal.Rule.{Rule}
use Rattle.merc_base.specs.declared.refusal.Rule.TheVariants.{BadToken, OutsideProfile, LimitPassed}
use Rattle.merc_base.specs.declared.refusal.Construct.TheVariants.{Character, Float, IntegerSuffix}
use Rattle.merc_base.specs.declared.refusal.LimitName.TheVariants.{Name as NameLimit, Integer as IntegerLimit}
use Rattle.merc_base.specs.declared.refusal.Detail.{Detail}
use Rattle.merc_base.specs.declared.refusal.Detail.TheVariants.{Plain, Word, Limit}
use Rattle.merc_tokens.specs.declared.bytes.Start.{Start}
use Rattle.merc_tokens.specs.declared.bytes.Start.TheVariants.{Blank, Percent, Lower, Upper, Digit, Quote, DoubleQuote, Semicolon, Open as OpenStart, Close as CloseStart, OpenList as OpenListStart, CloseList as CloseListStart, Comma as CommaStart, Bar as BarStart, Outside, Graphic, Other}
use Rattle.merc_tokens.specs.declared.bytes.Class.TheVariants.{Word as WordClass, Graphic as GraphicClass}
use Rattle.merc_tokens.specs.declared.integers.Integer.{Integer}
use Rattle.merc_tokens.specs.declared.pieces.Spelling.{Spelling}
use Rattle.merc_tokens.specs.declared.pieces.Spelling.TheVariants.{Name, Quoted, Var}
use Rattle.merc_tokens.specs.declared.pieces.Piece.{Piece}
use Rattle.merc_tokens.specs.declared.pieces.Piece.TheVariants.{Token, Fault}
use Rattle.merc_tokens.specs.Bytes.{is_digit, is_digit_of, is_letter, is_graphic, begins_with, class_test, next_is, start_of}
use Rattle.std.specs.List.{prefix_len}
use Rattle.std.specs.Option.{option_map}
use Rattle.merc_base.specs.Characters.{dot_code, double_quote_code, nine_code, quote_code, slash_code, star_code, zero_code}
use Rattle.merc_tokens.specs.Integers.{based_integer, character_at, character_integer, form_of, integer_at, integer_of}
use Rattle.merc_tokens.specs.declared.integers.Form.{Form}
use Rattle.merc_tokens.specs.declared.integers.Form.TheVariants.{Character as CharacterForm, Based, Decimal}
use Rattle.merc_tokens.specs.Quoted.{quoted}
use Rattle.merc_tokens.specs.Pieces.{name_limit, run_of, named, comment_past, comment_piece, begins_fraction, graphic_piece, integer_piece, limited, dot_of, quoted_piece, string_piece, piece_of, first_piece}
use Rattle.merc_tokens.specs.Faults.{IsFaulty}
use Rattle.merc_tokens.specs.Faults.IsFaulty.{no_token, open_comment, open_name, open_string, no_character, no_digit, character, suffix, float, great_integer, long_word, long_graphic, long_name}

-- a piece is a fault of at most this rule
pub record FaultAtMost (rule : Rule) (piece : Piece) : Type 0 where
  pub first : Rule
  pub detail : Detail
  pub is : piece ≡ Fault first detail
  pub least : rule_number first ≤ rule_number rule

at_most : {rule : Rule} (first : Rule) (detail : Detail) {piece : Piece} → piece ≡ Fault first detail → rule_number first ≤ rule_number rule → FaultAtMost rule piece
at_most first detail is least = record { first = first; detail = detail; is = is; least = least }

both_ways_from : (b : Bool) → (b ≡ false → b ≡ true) → b ≡ true
both_ways_from true from = refl
both_ways_from false from = from refl

last_chosen : {X : Type 0} (b : Bool) (x y : X) {z : X} → y ≡ z → cond (b && false) x y ≡ z
last_chosen true x y is = is
last_chosen false x y is = is

named-long : (make : List ℕ → Spelling) (name : List ℕ) (len : ℕ) → name_limit < length name → named make name len ≡ Fault LimitPassed (Limit NameLimit)
named-long make name len long = rw (lt-leb (length name) name_limit long)

-- an integer with a fault behind it or above the limit
suffix-least : (integer : Integer) (text : List ℕ) → begins_with is_letter (drop integer.past text) ≡ true → integer_piece (Some integer) text ≡ Fault OutsideProfile (Word IntegerSuffix)
suffix-least integer text letter = rw letter

float-least : (integer : Integer) (text : List ℕ) → integer.is_decimal ≡ true → begins_fraction (drop integer.past text) ≡ true → FaultAtMost OutsideProfile (integer_piece (Some integer) text)
float-least integer text decimal fraction =
    rw (decimal, fraction)
    (cond_both (begins_with is_letter (drop integer.past text)) (Fault OutsideProfile (Word IntegerSuffix)) (Fault OutsideProfile (Word Float)) (FaultAtMost OutsideProfile)
    (λ _. at_most OutsideProfile _ refl (omega arith))
    (λ _. at_most OutsideProfile _ refl (omega arith)))

great-least : (integer : Integer) (text : List ℕ) → integer.value ≡ None → FaultAtMost LimitPassed (integer_piece (Some integer) text)
great-least integer text great =
    rw great
    (cond_both (begins_with is_letter (drop integer.past text)) (Fault OutsideProfile (Word IntegerSuffix)) (cond (integer.is_decimal && begins_fraction (drop integer.past text)) (Fault OutsideProfile (Word Float)) (Fault LimitPassed (Limit IntegerLimit))) (FaultAtMost LimitPassed)
    (λ _. at_most OutsideProfile _ refl (omega arith))
    (λ _. cond_both (integer.is_decimal && begins_fraction (drop integer.past text)) (Fault OutsideProfile (Word Float)) (Fault LimitPassed (Limit IntegerLimit)) (FaultAtMost LimitPassed)
    (λ _. at_most OutsideProfile _ refl (omega arith))
    (λ _. at_most LimitPassed _ refl (omega arith))))

-- a graphic run that is too long is no lone `.`
next-graphic : (byte : ℕ) (rest : List ℕ) → name_limit < length (run_of GraphicClass (byte ∷ rest)) → begins_with is_graphic rest ≡ true
next-graphic byte [] long = absurd (omega arith)
next-graphic byte (next ∷ rest) long =
    both_ways_from (is_graphic next) (λ no. absurd (omega (arith, subst (λ (b : Bool). name_limit < length (byte ∷ take (cond b (1 + prefix_len (class_test GraphicClass) rest) 0) (next ∷ rest))) no long)))

graphic-long : (after_name : Bool) (byte : ℕ) (rest : List ℕ) → (byte == slash_code) && next_is star_code rest ≡ false → name_limit < length (run_of GraphicClass (byte ∷ rest)) → graphic_piece after_name byte rest ≡ Fault LimitPassed (Limit NameLimit)
graphic-long after_name byte rest no_comment long =
    rw (no_comment, next-graphic byte rest long) (last_chosen (byte == dot_code) _ _ (named-long Name (run_of GraphicClass (byte ∷ rest)) _ long))

pub piece-faulty : (text : List ℕ) (rule : Rule) (detail : Detail) (after_name : Bool) → IsFaulty text rule detail → FaultAtMost rule (first_piece after_name text)
piece-faulty _ _ _ after_name (no_token byte rest starts) = at_most BadToken Plain (rw starts) (omega arith)
piece-faulty _ _ _ after_name (open_comment byte rest starts comment none) = at_most BadToken Plain (rw (starts, comment, none)) (omega arith)
piece-faulty _ _ _ after_name (open_name byte rest starts none) = at_most BadToken Plain (rw (starts, none)) (omega arith)
piece-faulty _ _ _ after_name (open_string byte rest starts none) = at_most BadToken Plain (rw (starts, none)) (omega arith)
piece-faulty _ _ _ after_name (no_character byte rest starts form none) = at_most BadToken Plain (rw (starts, form, none)) (omega arith)
piece-faulty _ _ _ after_name (no_digit byte rest base starts form none) = at_most BadToken Plain (rw (starts, form, none)) (omega arith)
piece-faulty _ _ _ after_name (character byte rest starts) = at_most OutsideProfile (Word Character) (rw starts) (omega arith)
piece-faulty _ _ _ after_name (suffix byte rest integer starts found letter) = at_most OutsideProfile (Word IntegerSuffix) (rw (starts, found) (suffix-least integer (byte ∷ rest) letter)) (omega arith)
piece-faulty _ _ _ after_name (float byte rest integer starts found decimal fraction) = rw (starts, found) (float-least integer (byte ∷ rest) decimal fraction)
piece-faulty _ _ _ after_name (great_integer byte rest integer starts found great) = rw (starts, found) (great-least integer (byte ∷ rest) great)
piece-faulty _ _ _ after_name (long_word byte rest (inl starts) long) = at_most LimitPassed (Limit NameLimit) (rw starts (named-long Name (run_of WordClass (byte ∷ rest)) (length (run_of WordClass (byte ∷ rest))) long)) (omega arith)
piece-faulty _ _ _ after_name (long_word byte rest (inr starts) long) = at_most LimitPassed (Limit NameLimit) (rw starts (named-long Var (run_of WordClass (byte ∷ rest)) (length (run_of WordClass (byte ∷ rest))) long)) (omega arith)
piece-faulty _ _ _ after_name (long_graphic byte rest starts no_comment long) = at_most LimitPassed (Limit NameLimit) (rw starts (graphic-long after_name byte rest no_comment long)) (omega arith)
piece-faulty _ _ _ after_name (long_name byte rest name past starts found long) = at_most LimitPassed (Limit NameLimit) (rw (starts, found) (named-long Quoted name (1 + past) long)) (omega arith)

-- a fault under another name
as_given : {text : List ℕ} {rule rule' : Rule} {detail detail' : Detail} → Fault rule detail ≡ Fault rule' detail' → IsFaulty text rule detail → IsFaulty text rule' detail'
as_given {text} {rule} {rule'} {detail} {detail'} same faulty =
    let same_rule : rule ≡ rule' = cc in
    let same_detail : detail ≡ detail' = cc in
    subst (λ (d : Detail). IsFaulty text rule' d) same_detail (subst (λ (r : Rule). IsFaulty text r detail) same_rule faulty)

named-faulty : (make : List ℕ → Spelling) (name : List ℕ) (len : ℕ) (rule : Rule) (detail : Detail) → named make name len ≡ Fault rule detail → (name_limit < length name) × (Fault LimitPassed (Limit NameLimit) ≡ Fault rule detail)
named-faulty make name len rule detail is =
    cond_both (leb (length name) name_limit) (Token (make name) len) (Fault LimitPassed (Limit NameLimit)) (λ piece. piece ≡ Fault rule detail → (name_limit < length name) × (Fault LimitPassed (Limit NameLimit) ≡ Fault rule detail))
    (λ _ same. absurd (cc))
    (λ no same. (leb-false _ _ no, same))
    is

both_true : (a b : Bool) → a && b ≡ true → (a ≡ true) × (b ≡ true)
both_true true b holds = (refl, holds)
both_true false b holds = absurd (cc)

some_or_none : {X : Type 0} (b : Bool) (x : X) → cond b (Some x) None ≡ None → b ≡ false
some_or_none true x is = absurd (cc)
some_or_none false x is = refl

-- whether it begins an integer
abbrev begins_integer : Start → Bool
begins_integer Blank = false
begins_integer Percent = false
begins_integer Lower = false
begins_integer Upper = false
begins_integer Digit = true
begins_integer Quote = false
begins_integer DoubleQuote = false
begins_integer Semicolon = false
begins_integer OpenStart = false
begins_integer CloseStart = false
begins_integer OpenListStart = false
begins_integer CloseListStart = false
begins_integer CommaStart = false
begins_integer BarStart = false
begins_integer Outside = false
begins_integer Graphic = false
begins_integer Other = false

apart : (one : Start) → begins_integer one ≡ false → one ≡ Digit → ⊥
apart one other same = false≢true (sym other ∙ ap begins_integer same)

-- a test that does not choose it
skip : (b : Bool) (one rest : Start) → begins_integer one ≡ false → cond b one rest ≡ Digit → rest ≡ Digit
skip true one rest other is = absurd (apart one other is)
skip false one rest other is = is

chosen : (b : Bool) (rest : Start) → (rest ≡ Digit → ⊥) → cond b Digit rest ≡ Digit → b ≡ true
chosen true rest other is = refl
chosen false rest other is = absurd (other is)

-- only a digit begins an integer
is_digit-start : (byte : ℕ) → start_of byte ≡ Digit → is_digit byte ≡ true
is_digit-start byte is =
    chosen (is_digit byte) _
    (λ behind. apart Other refl
    (skip _ Graphic _ refl (skip _ Outside _ refl (skip _ BarStart _ refl (skip _ CommaStart _ refl (skip _ CloseListStart _ refl (skip _ OpenListStart _ refl
    (skip _ CloseStart _ refl (skip _ OpenStart _ refl (skip _ Semicolon _ refl (skip _ DoubleQuote _ refl (skip _ Quote _ refl behind))))))))))))
    (skip _ Upper _ refl (skip _ Lower _ refl (skip _ Percent _ refl (skip _ Blank _ refl is))))

digit-ten : (byte : ℕ) → start_of byte ≡ Digit → is_digit_of 10 byte ≡ true
digit-ten byte starts =
    let digit = is_digit-start byte starts in
    let parts = both_true (leb zero_code byte) (leb byte nine_code) digit in
    let low = leb-true zero_code byte parts.0 in
    let high = leb-true byte nine_code parts.1 in
    rw digit (lt-ltb (byte - zero_code) 10 (omega arith))

module _ (byte : ℕ) (rest : List ℕ) (rule : Rule) (detail : Detail) where
  limited-faulty : (integer : Integer) (value : Option ℕ) → integer.value ≡ value → start_of byte ≡ Digit → integer_at (byte ∷ rest) ≡ Some integer → limited value integer.past ≡ Fault rule detail → IsFaulty (byte ∷ rest) rule detail
  limited-faulty integer None great starts found is = as_given is (great_integer byte rest integer starts found great)
  limited-faulty integer (Some value) fits starts found is = absurd (cc)

  character-faulty : (found : Option (ℕ × ℕ)) → character_at (drop 1 rest) ≡ found → start_of byte ≡ Digit → form_of (byte ∷ rest) ≡ CharacterForm → option_map character_integer found ≡ None → IsFaulty (byte ∷ rest) BadToken Plain
  character-faulty None none starts form is = no_character byte rest starts form none
  character-faulty (Some found) some starts form is = absurd (cc)

  based-none : (base prefix : ℕ) (digits : List ℕ) → based_integer base prefix digits ≡ None → begins_with (is_digit_of base) digits ≡ false
  based-none base prefix digits is =
      some_or_none (begins_with (is_digit_of base) digits) _ is

  no_integer-faulty : (form : Form) → form_of (byte ∷ rest) ≡ form → start_of byte ≡ Digit → integer_of form (byte ∷ rest) ≡ None → IsFaulty (byte ∷ rest) BadToken Plain
  no_integer-faulty CharacterForm form starts none = character-faulty _ refl starts form none
  no_integer-faulty (Based base) form starts none = no_digit byte rest base starts form (based-none base 2 (drop 1 rest) none)
  no_integer-faulty Decimal form starts none =
      let other = based-none 10 0 (byte ∷ rest) none in
      let digit = digit-ten byte starts in
      absurd (cc)

  integer-faulty : (found : Option Integer) → integer_at (byte ∷ rest) ≡ found → start_of byte ≡ Digit → integer_piece found (byte ∷ rest) ≡ Fault rule detail → IsFaulty (byte ∷ rest) rule detail
  integer-faulty None none starts is = as_given is (no_integer-faulty (form_of (byte ∷ rest)) refl starts none)
  integer-faulty (Some integer) found starts is =
      cond_both (begins_with is_letter (drop integer.past (byte ∷ rest))) (Fault OutsideProfile (Word IntegerSuffix)) (cond (integer.is_decimal && begins_fraction (drop integer.past (byte ∷ rest))) (Fault OutsideProfile (Word Float)) (limited integer.value integer.past)) (λ piece. piece ≡ Fault rule detail → IsFaulty (byte ∷ rest) rule detail)
      (λ letter same. as_given same (suffix byte rest integer starts found letter))
      (λ _ same. cond_both (integer.is_decimal && begins_fraction (drop integer.past (byte ∷ rest))) (Fault OutsideProfile (Word Float)) (limited integer.value integer.past) (λ piece. piece ≡ Fault rule detail → IsFaulty (byte ∷ rest) rule detail)
      (λ fraction here. let parts = both_true _ _ fraction in as_given here (float byte rest integer starts found parts.0 parts.1))
      (λ _ here. limited-faulty integer integer.value refl starts found here)
      same)
      is

  quoted-faulty : (found : Option (List ℕ × ℕ)) → quoted quote_code [] 0 rest ≡ found → start_of byte ≡ Quote → quoted_piece found ≡ Fault rule detail → IsFaulty (byte ∷ rest) rule detail
  quoted-faulty None none starts is = as_given is (open_name byte rest starts none)
  quoted-faulty (Some (name, past)) found starts is =
      let long = named-faulty Quoted name (1 + past) rule detail is in
      as_given long.1 (long_name byte rest name past starts found long.0)

  string-faulty : (found : Option (List ℕ × ℕ)) → quoted double_quote_code [] 0 rest ≡ found → start_of byte ≡ DoubleQuote → string_piece found ≡ Fault rule detail → IsFaulty (byte ∷ rest) rule detail
  string-faulty None none starts is = as_given is (open_string byte rest starts none)
  string-faulty (Some found) some starts is = absurd (cc)

  comment-faulty : (found : Option ℕ) → comment_past 0 (drop 1 rest) ≡ found → start_of byte ≡ Graphic → (byte == slash_code) && next_is star_code rest ≡ true → comment_piece (option_map (λ past. 2 + past) found) ≡ Fault rule detail → IsFaulty (byte ∷ rest) rule detail
  comment-faulty None none starts comment is = as_given is (open_comment byte rest starts comment none)
  comment-faulty (Some past) some starts comment is = absurd (cc)

  graphic-faulty : (after_name : Bool) → start_of byte ≡ Graphic → graphic_piece after_name byte rest ≡ Fault rule detail → IsFaulty (byte ∷ rest) rule detail
  graphic-faulty after_name starts is =
      let run = run_of GraphicClass (byte ∷ rest) in
      cond_both ((byte == slash_code) && next_is star_code rest) (comment_piece (option_map (λ past. 2 + past) (comment_past 0 (drop 1 rest)))) (cond ((byte == dot_code) && not (begins_with is_graphic rest)) (Token (dot_of after_name rest) 1) (named Name run (length run))) (λ piece. piece ≡ Fault rule detail → IsFaulty (byte ∷ rest) rule detail)
      (λ comment same. comment-faulty _ refl starts comment same)
      (λ no_comment same. cond_both ((byte == dot_code) && not (begins_with is_graphic rest)) (Token (dot_of after_name rest) 1) (named Name run (length run)) (λ piece. piece ≡ Fault rule detail → IsFaulty (byte ∷ rest) rule detail)
      (λ _ here. absurd (cc))
      (λ _ here. let long = named-faulty Name run (length run) rule detail here in as_given long.1 (long_graphic byte rest starts no_comment long.0))
      same)
      is

  start-faulty : (start : Start) (after_name : Bool) → start_of byte ≡ start → piece_of start after_name byte rest ≡ Fault rule detail → IsFaulty (byte ∷ rest) rule detail
  start-faulty Blank after_name starts is = absurd (cc)
  start-faulty Percent after_name starts is = absurd (cc)
  start-faulty Lower after_name starts is =
      let long = named-faulty Name (run_of WordClass (byte ∷ rest)) (length (run_of WordClass (byte ∷ rest))) rule detail is in as_given long.1 (long_word byte rest (inl starts) long.0)
  start-faulty Upper after_name starts is =
      let long = named-faulty Var (run_of WordClass (byte ∷ rest)) (length (run_of WordClass (byte ∷ rest))) rule detail is in as_given long.1 (long_word byte rest (inr starts) long.0)
  start-faulty Digit after_name starts is = integer-faulty _ refl starts is
  start-faulty Quote after_name starts is = quoted-faulty _ refl starts is
  start-faulty DoubleQuote after_name starts is = string-faulty _ refl starts is
  start-faulty Semicolon after_name starts is = absurd (cc)
  start-faulty OpenStart after_name starts is = absurd (cc)
  start-faulty CloseStart after_name starts is = absurd (cc)
  start-faulty OpenListStart after_name starts is = absurd (cc)
  start-faulty CloseListStart after_name starts is = absurd (cc)
  start-faulty CommaStart after_name starts is = absurd (cc)
  start-faulty BarStart after_name starts is = absurd (cc)
  start-faulty Outside after_name starts is = as_given is (character byte rest starts)
  start-faulty Graphic after_name starts is = graphic-faulty after_name starts is
  start-faulty Other after_name starts is = as_given is (no_token byte rest starts)

pub faulty-piece : (text : List ℕ) (after_name : Bool) (rule : Rule) (detail : Detail) → 0 < length text → first_piece after_name text ≡ Fault rule detail → IsFaulty text rule detail
faulty-piece [] after_name rule detail some is = absurd (omega arith)
faulty-piece (byte ∷ rest) after_name rule detail some is = start-faulty byte rest rule detail (start_of byte) after_name refl is

-- an empty text is not faulty
pub some-faulty : (text : List ℕ) (rule : Rule) (detail : Detail) → IsFaulty text rule detail → text ≡ [] → ⊥
some-faulty _ _ _ (no_token byte rest starts) empty = cc
some-faulty _ _ _ (open_comment byte rest starts comment none) empty = cc
some-faulty _ _ _ (open_name byte rest starts none) empty = cc
some-faulty _ _ _ (open_string byte rest starts none) empty = cc
some-faulty _ _ _ (no_character byte rest starts form none) empty = cc
some-faulty _ _ _ (no_digit byte rest base starts form none) empty = cc
some-faulty _ _ _ (character byte rest starts) empty = cc
some-faulty _ _ _ (suffix byte rest integer starts found letter) empty = cc
some-faulty _ _ _ (float byte rest integer starts found decimal fraction) empty = cc
some-faulty _ _ _ (great_integer byte rest integer starts found great) empty = cc
some-faulty _ _ _ (long_word byte rest starts long) empty = cc
some-faulty _ _ _ (long_graphic byte rest starts no_comment long) empty = cc
some-faulty _ _ _ (long_name byte rest name past starts found long) empty = cc
