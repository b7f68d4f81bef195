-- What well parted pieces have behind a token, and what stands before it.
use Rattle.std.proofs.Common.{◌≡◌, ℕ, ◌<◌, Bool, true, false, ◌==◌, ◌||◌, ◌&&◌, List, [], ◌∷◌, ◌++◌, Option, Some, None, refl, sym, ◌∙◌, ap, arith, inl, inr}
use Rattle.std.proofs.lemmas.Bool.{and_parts, or_cases, and_right, or_from, eqb-true, false≢true, agree_below_at}
use Rattle.merc_base.specs.Characters.{percent_code, quote_code}
use Rattle.merc_base.specs.Names.{HoldsFixed, minus_name}
use Rattle.merc_terms.specs.Reading.{is_integer}
use Rattle.merc_value.specs.Text.{text_at, is_plain}
use Rattle.merc_tokens.specs.Bytes.{is_blank, is_lower, is_graphic}
use Rattle.merc_tokens.specs.Pieces.{ends_item, begins_name}
use Rattle.merc_tokens.specs.declared.token.TokenKind.{TokenKind}
use Rattle.merc_tokens.specs.declared.token.TokenKind.TheVariants.{Name, Quoted, Var, Int, Text as TextToken, OpenArgs, Open, Close, OpenList, CloseList, Comma, Bar, Dot, Stop}
use Rattle.merc_term_text.specs.Pieces.{Piece, Blank, Token, pieces_text}
use Rattle.merc_term_text.proofs.Parted.{parted, touches, begins_part, ends_operand, ends_name, is_name_kind}
use Rattle.merc_term_text.proofs.Behind.{EndsItem, at_end, at_blank, stopped, EndsOperand, nothing, blank, close, close_list, comma, EndsName, operand, open_args, dot}
use Rattle.merc_term_text.proofs.NamesRead.{IsPlain, plain, plain-is, lower-bounds}
use Rattle.merc_term_text.proofs.OperatorsRead.{minus-text}

-- whether a token may stand behind this one or none
abbrev pub allowed : List (List ℕ) → Option TokenKind → TokenKind → Bool
allowed names None next = begins_part next
allowed names (Some before) next = touches names before next

pub parted-token : (names : List (List ℕ)) (before : Option TokenKind) (next : TokenKind) (rest : List Piece) → parted names before (Token next ∷ rest) ≡ true → (allowed names before next ≡ true) × (parted names (Some next) rest ≡ true)
parted-token names None next rest is = and_parts (begins_part next) (parted names (Some next) rest) is
parted-token names (Some before) next rest is = and_parts (touches names before next) (parted names (Some next) rest) is

-- whether a name stands before
abbrev pub is_name_token : TokenKind → Bool
is_name_token (Name name) = true
is_name_token (Quoted name) = true
is_name_token (Var name) = false
is_name_token (Int value) = false
is_name_token (TextToken name) = false
is_name_token OpenArgs = false
is_name_token Open = false
is_name_token Close = false
is_name_token OpenList = false
is_name_token CloseList = false
is_name_token Comma = false
is_name_token Bar = false
is_name_token Dot = false
is_name_token Stop = false

abbrev pub after_name : Option TokenKind → Bool
after_name None = false
after_name (Some before) = is_name_token before

neither : (one other : Bool) → (one && false) || (other && false) ≡ true → ⊥
neither one other is = false≢true (sym (or_from _ _ (and_right one false refl) (and_right other false refl)) ∙ is)

-- a name stands before the parenthesis of its arguments and before a qualifier mark, and none before another parenthesis
pub open_args-before : (names : List (List ℕ)) (before : Option TokenKind) → allowed names before OpenArgs ≡ true → after_name before ≡ true
open_args-before names None is = absurd (cc)
open_args-before names (Some (Name name)) is = refl
open_args-before names (Some (Quoted name)) is = refl
open_args-before names (Some (Var name)) is = absurd (cc)
open_args-before names (Some (Int value)) is = absurd (cc)
open_args-before names (Some (TextToken name)) is = absurd (cc)
open_args-before names (Some OpenArgs) is = absurd (cc)
open_args-before names (Some Open) is = absurd (cc)
open_args-before names (Some Close) is = absurd (cc)
open_args-before names (Some OpenList) is = absurd (cc)
open_args-before names (Some CloseList) is = absurd (cc)
open_args-before names (Some Comma) is = absurd (cc)
open_args-before names (Some Bar) is = absurd (cc)
open_args-before names (Some Dot) is = absurd (cc)
open_args-before names (Some Stop) is = absurd (cc)

pub dot-before : (names : List (List ℕ)) (before : Option TokenKind) → allowed names before Dot ≡ true → after_name before ≡ true
dot-before names None is = absurd (cc)
dot-before names (Some (Name name)) is = refl
dot-before names (Some (Quoted name)) is = refl
dot-before names (Some (Var name)) is = absurd (cc)
dot-before names (Some (Int value)) is = absurd (cc)
dot-before names (Some (TextToken name)) is = absurd (cc)
dot-before names (Some OpenArgs) is = absurd (cc)
dot-before names (Some Open) is = absurd (cc)
dot-before names (Some Close) is = absurd (cc)
dot-before names (Some OpenList) is = absurd (cc)
dot-before names (Some CloseList) is = absurd (cc)
dot-before names (Some Comma) is = absurd (cc)
dot-before names (Some Bar) is = absurd (cc)
dot-before names (Some Dot) is = absurd (cc)
dot-before names (Some Stop) is = absurd (cc)

pub open-before : (names : List (List ℕ)) (before : Option TokenKind) → allowed names before Open ≡ true → after_name before ≡ false
open-before names None is = refl
open-before names (Some (Name name)) is = absurd (neither (is_plain (text_at names name)) (name == minus_name) is)
open-before names (Some (Quoted name)) is = absurd (cc)
open-before names (Some (Var name)) is = refl
open-before names (Some (Int value)) is = refl
open-before names (Some (TextToken name)) is = refl
open-before names (Some OpenArgs) is = refl
open-before names (Some Open) is = refl
open-before names (Some Close) is = refl
open-before names (Some OpenList) is = refl
open-before names (Some CloseList) is = refl
open-before names (Some Comma) is = refl
open-before names (Some Bar) is = refl
open-before names (Some Dot) is = refl
open-before names (Some Stop) is = refl

-- behind a full stop stands the end or a blank
pub stop-behind : (names : List (List ℕ)) (rest : List Piece) → parted names (Some Stop) rest ≡ true → EndsItem (pieces_text names rest)
stop-behind names [] is = at_end
stop-behind names (Blank ∷ rest) is = at_blank (pieces_text names rest)
stop-behind names (Token next ∷ rest) is = absurd (cc)

-- behind an operand
token-ends : (names : List (List ℕ)) (next : TokenKind) (rest : List Piece) → ends_operand next ≡ true → parted names (Some next) rest ≡ true → EndsOperand (pieces_text names (Token next ∷ rest))
token-ends names (Name name) rest is on = absurd (cc)
token-ends names (Quoted name) rest is on = absurd (cc)
token-ends names (Var name) rest is on = absurd (cc)
token-ends names (Int value) rest is on = absurd (cc)
token-ends names (TextToken name) rest is on = absurd (cc)
token-ends names OpenArgs rest is on = absurd (cc)
token-ends names Open rest is on = absurd (cc)
token-ends names Close rest is on = close (pieces_text names rest)
token-ends names OpenList rest is on = absurd (cc)
token-ends names CloseList rest is on = close_list (pieces_text names rest)
token-ends names Comma rest is on = comma (pieces_text names rest)
token-ends names Bar rest is on = absurd (cc)
token-ends names Dot rest is on = absurd (cc)
token-ends names Stop rest is on = stopped (pieces_text names rest) (stop-behind names rest on)

pub operand-behind : (names : List (List ℕ)) (before : TokenKind) (rest : List Piece) → ((next : TokenKind) → touches names before next ≡ true → ends_operand next ≡ true) → parted names (Some before) rest ≡ true → EndsOperand (pieces_text names rest)
operand-behind names before [] ends is = nothing
operand-behind names before (Blank ∷ rest) ends is = blank (pieces_text names rest)
operand-behind names before (Token next ∷ rest) ends is =
    let parts = parted-token names (Some before) next rest is in
    token-ends names next rest (ends next parts.0) parts.1

-- behind a name
token-ends_name : (names : List (List ℕ)) (next : TokenKind) (rest : List Piece) → ends_name next ≡ true → parted names (Some next) rest ≡ true → EndsName (pieces_text names (Token next ∷ rest))
token-ends_name names (Name name) rest is on = absurd (cc)
token-ends_name names (Quoted name) rest is on = absurd (cc)
token-ends_name names (Var name) rest is on = absurd (cc)
token-ends_name names (Int value) rest is on = absurd (cc)
token-ends_name names (TextToken name) rest is on = absurd (cc)
token-ends_name names OpenArgs rest is on = open_args (pieces_text names rest)
token-ends_name names Open rest is on = absurd (cc)
token-ends_name names Close rest is on = operand _ (close (pieces_text names rest))
token-ends_name names OpenList rest is on = absurd (cc)
token-ends_name names CloseList rest is on = operand _ (close_list (pieces_text names rest))
token-ends_name names Comma rest is on = operand _ (comma (pieces_text names rest))
token-ends_name names Bar rest is on = absurd (cc)
token-ends_name names Dot rest is on = dot (pieces_text names rest)
token-ends_name names Stop rest is on = operand _ (stopped (pieces_text names rest) (stop-behind names rest on))

pub name-behind : (names : List (List ℕ)) (before : TokenKind) (rest : List Piece) → ((next : TokenKind) → touches names before next ≡ true → ends_name next ≡ true) → parted names (Some before) rest ≡ true → EndsName (pieces_text names rest)
name-behind names before [] ends is = operand _ nothing
name-behind names before (Blank ∷ rest) ends is = operand _ (blank (pieces_text names rest))
name-behind names before (Token next ∷ rest) ends is =
    let parts = parted-token names (Some before) next rest is in
    token-ends_name names next rest (ends next parts.0) parts.1

-- what may stand behind a plain name
pub plain-touches : (names : List (List ℕ)) (name : ℕ) (next : TokenKind) → HoldsFixed names → is_plain (text_at names name) ≡ true → touches names (Name name) next ≡ true → ends_name next ≡ true
plain-touches names name next fixed is touch = elim (or_cases (is_plain (text_at names name) && ends_name next) ((name == minus_name) && is_integer next) touch) [
  | inl here ↦ (and_parts (is_plain (text_at names name)) (ends_name next) here).1
  | inr sign ↦ absurd (
      let same = eqb-true name minus_name (and_parts (name == minus_name) (is_integer next) sign).0 in
      false≢true (ap is_plain (sym (minus-text names fixed)) ∙ ap (λ (n : ℕ). is_plain (text_at names n)) (sym same) ∙ is)
      )
]

-- behind an operator's symbol stands the end, a blank, or behind `-` an integer
pub data EndsSymbol (name : ℕ) : List Piece → Type 0 where
  symbol_end : EndsSymbol name []
  symbol_blank : (rest : List Piece) → EndsSymbol name (Blank ∷ rest)
  symbol_sign : (value : ℕ) (rest : List Piece) → name ≡ minus_name → EndsSymbol name (Token (Int value) ∷ rest)

only_integer : (name : ℕ) (next : TokenKind) (rest : List Piece) → name ≡ minus_name → is_integer next ≡ true → EndsSymbol name (Token next ∷ rest)
only_integer name (Name _) rest same is = absurd (cc)
only_integer name (Quoted _) rest same is = absurd (cc)
only_integer name (Var _) rest same is = absurd (cc)
only_integer name (Int value) rest same is = symbol_sign value rest same
only_integer name (TextToken _) rest same is = absurd (cc)
only_integer name OpenArgs rest same is = absurd (cc)
only_integer name Open rest same is = absurd (cc)
only_integer name Close rest same is = absurd (cc)
only_integer name OpenList rest same is = absurd (cc)
only_integer name CloseList rest same is = absurd (cc)
only_integer name Comma rest same is = absurd (cc)
only_integer name Bar rest same is = absurd (cc)
only_integer name Dot rest same is = absurd (cc)
only_integer name Stop rest same is = absurd (cc)

pub symbol-behind : (names : List (List ℕ)) (name : ℕ) (rest : List Piece) → is_plain (text_at names name) ≡ false → parted names (Some (Name name)) rest ≡ true → EndsSymbol name rest
symbol-behind names name [] symbol is = symbol_end
symbol-behind names name (Blank ∷ rest) symbol is = symbol_blank rest
symbol-behind names name (Token next ∷ rest) symbol is =
    let touch = (parted-token names (Some (Name name)) next rest is).0 in
    elim (or_cases (is_plain (text_at names name) && ends_name next) ((name == minus_name) && is_integer next) touch) [
      | inl here ↦ absurd (false≢true (sym symbol ∙ (and_parts (is_plain (text_at names name)) (ends_name next) here).0))
      | inr sign ↦ let parts = and_parts (name == minus_name) (is_integer next) sign in only_integer name next rest (eqb-true name minus_name parts.0) parts.1
    ]

-- behind a qualifier mark stands a name
pub data BeginsName : List ℕ → Type 0 where
  begins : (byte : ℕ) (rest : List ℕ) → is_graphic byte ≡ false → ends_item (byte ∷ rest) ≡ false → begins_name byte ≡ true → BeginsName (byte ∷ rest)

lower-begins : (byte : ℕ) (rest : List ℕ) → is_lower byte ≡ true → BeginsName (byte ∷ rest)
lower-begins byte rest lower =
    let bounds = lower-bounds byte lower in
    let within : byte < 123 = omega arith in
    let no_graphic : is_lower byte && is_graphic byte ≡ false = agree_below_at (λ b. is_lower b && is_graphic b) (λ b. false) 123 byte refl within in
    let no_end : is_lower byte && (is_blank byte || (byte == percent_code)) ≡ false = agree_below_at (λ b. is_lower b && (is_blank b || (b == percent_code))) (λ b. false) 123 byte refl within in
    begins byte rest
    (ap (λ (b : Bool). b && is_graphic byte) (sym lower) ∙ no_graphic)
    (ap (λ (b : Bool). b && (is_blank byte || (byte == percent_code))) (sym lower) ∙ no_end)
    (rw lower refl)

plain-begins : (text rest : List ℕ) → IsPlain text → BeginsName (text ++ rest)
plain-begins _ rest (plain byte bytes lower all) = lower-begins byte (bytes ++ rest) lower

name-begins : (names : List (List ℕ)) (next : TokenKind) (rest : List Piece) → is_name_kind names next ≡ true → BeginsName (pieces_text names (Token next ∷ rest))
name-begins names (Name name) rest is = plain-begins (text_at names name) (pieces_text names rest) (plain-is (text_at names name) is)
name-begins names (Quoted name) rest is = begins quote_code _ refl refl refl
name-begins names (Var name) rest is = absurd (cc)
name-begins names (Int value) rest is = absurd (cc)
name-begins names (TextToken name) rest is = absurd (cc)
name-begins names OpenArgs rest is = absurd (cc)
name-begins names Open rest is = absurd (cc)
name-begins names Close rest is = absurd (cc)
name-begins names OpenList rest is = absurd (cc)
name-begins names CloseList rest is = absurd (cc)
name-begins names Comma rest is = absurd (cc)
name-begins names Bar rest is = absurd (cc)
name-begins names Dot rest is = absurd (cc)
name-begins names Stop rest is = absurd (cc)

pub dot-behind : (names : List (List ℕ)) (rest : List Piece) → parted names (Some Dot) rest ≡ true → BeginsName (pieces_text names rest)
dot-behind names [] is = absurd (cc)
dot-behind names (Blank ∷ rest) is = absurd (cc)
dot-behind names (Token next ∷ rest) is = name-begins names next rest (parted-token names (Some Dot) next rest is).0
