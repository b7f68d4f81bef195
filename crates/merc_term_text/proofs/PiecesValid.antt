-- What a token that was read from a text can name.
use Rattle.std.proofs.Common.{◌≡◌, ℕ, zero, suc, ◌+◌, ◌<◌, ◌≤◌, Bool, true, false, ◌==◌, ◌||◌, ◌&&◌, not, leb, cond, List, [], ◌∷◌, ◌++◌, length, take, drop, Option, Some, None, option_map, codes, refl, sym, ap, subst, arith, one-add, append_assoc, unwrap_or, IsUtf8, IsAscii}
use Rattle.std.specs.List.{list_all, prefix_len}
use Rattle.std.proofs.lemmas.Bool.{cond_both, leb-true, eqb-true, and_parts, and_from}
use Rattle.std.proofs.lemmas.Bool.Decides.{nat_tests}
use Rattle.std.proofs.lemmas.Str.{IsUtf8-append, IsUtf8-from_ascii}
use Rattle.merc_base.specs.Characters.{backslash_code, dot_code, double_quote_code, line_end_code, quote_code, semicolon_code, slash_code, star_code, underscore_code}
use Rattle.merc_base.specs.declared.refusal.Rule.TheVariants.{OutsideProfile}
use Rattle.merc_base.specs.declared.refusal.Construct.TheVariants.{Float, IntegerSuffix}
use Rattle.merc_base.specs.declared.refusal.Detail.TheVariants.{Word}
use Rattle.merc_tokens.specs.declared.bytes.Class.{Class}
use Rattle.merc_tokens.specs.declared.bytes.Class.TheVariants.{Word as WordClass, Graphic as GraphicClass}
use Rattle.merc_tokens.specs.declared.bytes.Start.{Start}
use Rattle.merc_tokens.specs.declared.bytes.Start.TheVariants.{Blank, Percent, Lower, Upper, Digit, Quote, DoubleQuote, Semicolon, Open as OpenStart, Close as CloseStart, OpenList as OpenListStart, CloseList as CloseListStart, Comma as CommaStart, Bar as BarStart, Outside, Graphic, Other}
use Rattle.merc_tokens.specs.declared.integers.Integer.{Integer}
use Rattle.merc_tokens.specs.declared.pieces.Spelling.{Spelling}
use Rattle.merc_tokens.specs.declared.pieces.Spelling.TheVariants.{Name, Quoted, Var, Int, Text, OpenArgs, Open, Close, OpenList, CloseList, Comma, Bar, Dot, Stop}
use Rattle.merc_tokens.specs.declared.pieces.Piece.TheVariants.{Token, Fault}
use Rattle.merc_tokens.specs.Bytes.{is_graphic, is_letter, is_upper, is_word, class_test, begins_with, next_is, start_of}
use Rattle.merc_tokens.specs.Integers.{integer_at}
use Rattle.merc_tokens.specs.Quoted.{is_escape, escaped, quoted}
use Rattle.merc_tokens.specs.Pieces.{run_of, named, comment_past, comment_piece, begins_fraction, graphic_piece, integer_piece, limited, dot_of, ends_item, begins_name, quoted_piece, string_piece, piece_of, first_piece, name_limit}
use Rattle.merc_term_text.proofs.Parted.{is_variable_text}
use Rattle.merc_term_text.proofs.Utf8Parts.{before_ascii, after_ascii, ascii_byte}

-- a name's text, of at most 255 bytes
pub record IsNameText (text : List ℕ) : Type 0 where
  pub utf8 : IsUtf8 text
  pub short : length text ≤ name_limit

abbrev pub IsValid : Spelling → Type 0
IsValid (Name text) = IsNameText text
IsValid (Quoted text) = IsNameText text
IsValid (Var text) = IsNameText text × (is_variable_text text ≡ true)
IsValid (Int value) = Unit {0}
IsValid (Text text) = IsUtf8 text
IsValid OpenArgs = Unit {0}
IsValid Open = Unit {0}
IsValid Close = Unit {0}
IsValid OpenList = Unit {0}
IsValid CloseList = Unit {0}
IsValid Comma = Unit {0}
IsValid Bar = Unit {0}
IsValid Dot = Unit {0}
IsValid Stop = Unit {0}

-- ASCII

word-small : (byte : ℕ) → is_word byte ≡ true → byte < 128
word-small byte is = grind (arith, nat_tests)

graphic-small : (byte : ℕ) → is_graphic byte ≡ true → byte < 128
graphic-small byte is = grind (arith, nat_tests)

escape-small : (byte : ℕ) → is_escape byte ≡ true → byte < 128
escape-small byte is = grind (arith, nat_tests)

escaped-small : (byte : ℕ) → byte < 128 → escaped byte < 128
escaped-small byte small = grind (arith, nat_tests)

-- what a byte is that begins a token with bytes of a class
lower-is : (byte : ℕ) → start_of byte ≡ Lower → is_word byte ≡ true
lower-is byte is = grind (arith, nat_tests)

upper-is : (byte : ℕ) → start_of byte ≡ Upper → is_upper byte || (byte == underscore_code) ≡ true
upper-is byte is = grind (arith, nat_tests)

graphic-is : (byte : ℕ) → start_of byte ≡ Graphic → is_graphic byte ≡ true
graphic-is byte is = grind (arith, nat_tests)

upper-word : (byte : ℕ) → is_upper byte || (byte == underscore_code) ≡ true → is_word byte ≡ true
upper-word byte is = grind (arith, nat_tests)

all_small : (test : ℕ → Bool) → ((byte : ℕ) → test byte ≡ true → byte < 128) → (bytes : List ℕ) → list_all test bytes ≡ true → IsAscii bytes
all_small test small [] all i = omega arith
all_small test small (byte ∷ bytes) all zero = small byte (and_parts (test byte) (list_all test bytes) all).0
all_small test small (byte ∷ bytes) all (suc i) = all_small test small bytes (and_parts (test byte) (list_all test bytes) all).1 i

-- a run is of its class
run-all : (test : ℕ → Bool) (bytes : List ℕ) → list_all test (take (prefix_len test bytes) bytes) ≡ true
run-all test [] = refl
run-all test (byte ∷ bytes) =
    cond_both (test byte) (1 + prefix_len test bytes) 0 (λ n. list_all test (take n (byte ∷ bytes)) ≡ true)
    (λ here. rw (one-add, here) (run-all test bytes))
    (λ _. refl)

run-utf8 : (class : Class) (byte : ℕ) (bytes : List ℕ) → ((b : ℕ) → class_test class b ≡ true → b < 128) → class_test class byte ≡ true → IsUtf8 (run_of class (byte ∷ bytes))
run-utf8 class byte bytes small first =
    IsUtf8-from_ascii _ (all_small (class_test class) small (run_of class (byte ∷ bytes)) (and_from (class_test class byte) _ first (run-all (class_test class) bytes)))

-- within quotes
module _ (quote : ℕ) (small : quote < 128) where
  escaped-utf8 : (content rest : List ℕ) (byte next other : ℕ) → byte < 128 → next < 128 → other < 128 → IsUtf8 (content ++ byte ∷ next ∷ rest) → IsUtf8 ((content ++ other ∷ []) ++ rest)
  escaped-utf8 content rest byte next other small' small'' small''' whole =
      rw (append_assoc content (other ∷ []) rest)
      (IsUtf8-append content (other ∷ rest) (before_ascii content (next ∷ rest) byte small' whole)
      (IsUtf8-append (other ∷ []) rest (ascii_byte other small''') (after_ascii [] rest next small'' (after_ascii content (next ∷ rest) byte small' whole))))

  content-utf8 : (content rest : List ℕ) (byte past : ℕ) (found : List ℕ × ℕ) → byte == quote ≡ true → IsUtf8 (content ++ byte ∷ rest) → Some (content, past + 1) ≡ Some found → IsUtf8 found.0
  content-utf8 content rest byte past found same whole is =
      let here : content ≡ found.0 = ap (λ (o : Option (List ℕ × ℕ)). (unwrap_or o found).0) is in
      subst IsUtf8 here (before_ascii content rest byte (omega (arith, eqb-true byte quote same, small)) whole)

  -- what was read is UTF-8 if the text is
  quoted-utf8 : (content text : List ℕ) (past : ℕ) (found : List ℕ × ℕ) → IsUtf8 (content ++ text) → quoted quote content past text ≡ Some found → IsUtf8 found.0
  quoted-utf8 content [] past found whole is = absurd (cc)
  quoted-utf8 content (byte ∷ []) past found whole is =
      cond_both (byte == quote) (Some (content, past + 1)) None (λ o. o ≡ Some found → IsUtf8 found.0)
      (λ same here. content-utf8 content [] byte past found same whole here)
      (λ _ here. absurd (cc))
      is
  quoted-utf8 content (byte ∷ next ∷ rest) past found whole is =
      cond_both (byte == quote) (cond (next == quote) (quoted quote (content ++ quote ∷ []) (past + 2) rest) (Some (content, past + 1))) _ (λ o. o ≡ Some found → IsUtf8 found.0)
      (λ same here. cond_both (next == quote) (quoted quote (content ++ quote ∷ []) (past + 2) rest) (Some (content, past + 1)) (λ o. o ≡ Some found → IsUtf8 found.0)
      (λ also on. quoted-utf8 (content ++ quote ∷ []) rest (past + 2) found (escaped-utf8 content rest byte next quote (omega (arith, eqb-true byte quote same, small)) (omega (arith, eqb-true next quote also, small)) small whole) on)
      (λ _ on. content-utf8 content (next ∷ rest) byte past found same whole on)
      here)
      (λ _ here. cond_both (byte == backslash_code) (cond (is_escape next) (quoted quote (content ++ escaped next ∷ []) (past + 2) rest) None) _ (λ o. o ≡ Some found → IsUtf8 found.0)
      (λ back on. cond_both (is_escape next) (quoted quote (content ++ escaped next ∷ []) (past + 2) rest) None (λ o. o ≡ Some found → IsUtf8 found.0)
      (λ escape more. quoted-utf8 (content ++ escaped next ∷ []) rest (past + 2) found (escaped-utf8 content rest byte next (escaped next) (omega (arith, eqb-true byte backslash_code back)) (escape-small next escape) (escaped-small next (escape-small next escape)) whole) more)
      (λ _ more. absurd (cc))
      on)
      (λ _ on. cond_both (byte == line_end_code) None (quoted quote (content ++ byte ∷ []) (past + 1) (next ∷ rest)) (λ o. o ≡ Some found → IsUtf8 found.0)
      (λ _ more. absurd (cc))
      (λ _ more. quoted-utf8 (content ++ byte ∷ []) (next ∷ rest) (past + 1) found (subst IsUtf8 (sym (append_assoc content (byte ∷ []) (next ∷ rest))) whole) more)
      on)
      here)
      is

named-valid : (make : List ℕ → Spelling) (name : List ℕ) (len : ℕ) (spelling : Spelling) (len' : ℕ) → (length name ≤ name_limit → IsValid (make name)) → named make name len ≡ Token spelling len' → IsValid spelling
named-valid make name len spelling len' valid is =
    cond_both (leb (length name) name_limit) (Token (make name) len) _ (λ piece. piece ≡ Token spelling len' → IsValid spelling)
    (λ short same. let here : make name ≡ spelling = cc in subst IsValid here (valid (leb-true (length name) name_limit short)))
    (λ _ same. absurd (cc))
    is

-- a name, quoted or not, in ASCII or as it was read
name-text : (text : List ℕ) → IsUtf8 text → length text ≤ name_limit → IsNameText text
name-text text whole short = record { utf8 = whole; short = short }

word-valid : (byte : ℕ) (bytes : List ℕ) (spelling : Spelling) (len : ℕ) → start_of byte ≡ Lower
    → named Name (run_of WordClass (byte ∷ bytes)) (length (run_of WordClass (byte ∷ bytes))) ≡ Token spelling len → IsValid spelling
word-valid byte bytes spelling len starts is =
    named-valid Name (run_of WordClass (byte ∷ bytes)) _ spelling len
    (λ short. name-text _ (run-utf8 WordClass byte bytes word-small (lower-is byte starts)) short)
    is

variable-valid : (byte : ℕ) (bytes : List ℕ) (spelling : Spelling) (len : ℕ) → start_of byte ≡ Upper
    → named Var (run_of WordClass (byte ∷ bytes)) (length (run_of WordClass (byte ∷ bytes))) ≡ Token spelling len → IsValid spelling
variable-valid byte bytes spelling len starts is =
    let first = upper-is byte starts in
    named-valid Var (run_of WordClass (byte ∷ bytes)) _ spelling len
    (λ short. (name-text _ (run-utf8 WordClass byte bytes word-small (upper-word byte first)) short, and_from _ _ first (run-all is_word bytes)))
    is

comment-valid : (found : Option ℕ) (spelling : Spelling) (len : ℕ) → comment_piece found ≡ Token spelling len → IsValid spelling
comment-valid None spelling len is = absurd (cc)
comment-valid (Some past) spelling len is = absurd (cc)

dot-valid : (after : Bool) (rest : List ℕ) → IsValid (dot_of after rest)
dot-valid after rest =
    cond_both (ends_item rest) Stop _ IsValid
    (λ _. tt)
    (λ _. cond_both (after && begins_with begins_name rest) Dot (Name (codes ".")) IsValid (λ _. tt) (λ _. name-text (codes ".") (ascii_byte dot_code (omega arith)) (omega arith)))

graphic-valid : (after : Bool) (byte : ℕ) (bytes : List ℕ) (spelling : Spelling) (len : ℕ) → start_of byte ≡ Graphic → graphic_piece after byte bytes ≡ Token spelling len → IsValid spelling
graphic-valid after byte bytes spelling len starts is =
    cond_both ((byte == slash_code) && next_is star_code bytes) (comment_piece (option_map (λ past. 2 + past) (comment_past 0 (drop 1 bytes)))) _ (λ piece. piece ≡ Token spelling len → IsValid spelling)
    (λ _ here. comment-valid (option_map (λ past. 2 + past) (comment_past 0 (drop 1 bytes))) spelling len here)
    (λ _ here. cond_both ((byte == dot_code) && not (begins_with is_graphic bytes)) (Token (dot_of after bytes) 1) _ (λ piece. piece ≡ Token spelling len → IsValid spelling)
    (λ _ on. let same : dot_of after bytes ≡ spelling = cc in subst IsValid same (dot-valid after bytes))
    (λ _ on. named-valid Name (run_of GraphicClass (byte ∷ bytes)) _ spelling len (λ short. name-text _ (run-utf8 GraphicClass byte bytes graphic-small (graphic-is byte starts)) short) on)
    here)
    is

limited-valid : (value : Option ℕ) (past : ℕ) (spelling : Spelling) (len : ℕ) → limited value past ≡ Token spelling len → IsValid spelling
limited-valid None past spelling len is = absurd (cc)
limited-valid (Some value) past spelling len is = let same : Int value ≡ spelling = cc in subst IsValid same tt

integer-valid : (found : Option Integer) (text : List ℕ) (spelling : Spelling) (len : ℕ) → integer_piece found text ≡ Token spelling len → IsValid spelling
integer-valid None text spelling len is = absurd (cc)
integer-valid (Some integer) text spelling len is =
    cond_both (begins_with is_letter (drop integer.past text)) (Fault OutsideProfile (Word IntegerSuffix)) _ (λ piece. piece ≡ Token spelling len → IsValid spelling)
    (λ _ here. absurd (cc))
    (λ _ here. cond_both (integer.is_decimal && begins_fraction (drop integer.past text)) (Fault OutsideProfile (Word Float)) _ (λ piece. piece ≡ Token spelling len → IsValid spelling)
    (λ _ on. absurd (cc))
    (λ _ on. limited-valid integer.value integer.past spelling len on)
    here)
    is

quoted-valid : (rest : List ℕ) (found : Option (List ℕ × ℕ)) (spelling : Spelling) (len : ℕ) → IsUtf8 rest → quoted quote_code [] 0 rest ≡ found → quoted_piece found ≡ Token spelling len → IsValid spelling
quoted-valid rest None spelling len whole read is = absurd (cc)
quoted-valid rest (Some found) spelling len whole read is =
    named-valid Quoted found.0 (1 + found.1) spelling len (λ short. name-text found.0 (quoted-utf8 quote_code (omega arith) [] rest 0 found whole read) short) is

string-valid : (rest : List ℕ) (found : Option (List ℕ × ℕ)) (spelling : Spelling) (len : ℕ) → IsUtf8 rest → quoted double_quote_code [] 0 rest ≡ found → string_piece found ≡ Token spelling len → IsValid spelling
string-valid rest None spelling len whole read is = absurd (cc)
string-valid rest (Some found) spelling len whole read is =
    let same : Text found.0 ≡ spelling = cc in subst IsValid same (quoted-utf8 double_quote_code (omega arith) [] rest 0 found whole read)

open-valid : (after : Bool) (spelling : Spelling) (len : ℕ) → Token (cond after OpenArgs Open) 1 ≡ Token spelling len → IsValid spelling
open-valid true spelling len is = let same : OpenArgs ≡ spelling = cc in subst IsValid same tt
open-valid false spelling len is = let same : Open ≡ spelling = cc in subst IsValid same tt

single-small : (byte : ℕ) → start_of byte ≡ Quote → byte < 128
single-small byte is = grind (arith, nat_tests)

double-small : (byte : ℕ) → start_of byte ≡ DoubleQuote → byte < 128
double-small byte is = grind (arith, nat_tests)

fixed-valid : (here spelling : Spelling) (len : ℕ) → IsValid here → Token here 1 ≡ Token spelling len → IsValid spelling
fixed-valid here spelling len valid is = let same : here ≡ spelling = cc in subst IsValid same valid

-- a piece at a place of a UTF-8 text
start-valid : (start : Start) (after : Bool) (front : List ℕ) (byte : ℕ) (rest : List ℕ) (spelling : Spelling) (len : ℕ) → start_of byte ≡ start → IsUtf8 (front ++ byte ∷ rest) → piece_of start after byte rest ≡ Token spelling len → IsValid spelling
start-valid Blank after front byte rest spelling len starts whole is = absurd (cc)
start-valid Percent after front byte rest spelling len starts whole is = absurd (cc)
start-valid Lower after front byte rest spelling len starts whole is = word-valid byte rest spelling len starts is
start-valid Upper after front byte rest spelling len starts whole is = variable-valid byte rest spelling len starts is
start-valid Digit after front byte rest spelling len starts whole is = integer-valid (integer_at (byte ∷ rest)) (byte ∷ rest) spelling len is
start-valid Quote after front byte rest spelling len starts whole is = quoted-valid rest (quoted quote_code [] 0 rest) spelling len (after_ascii front rest byte (single-small byte starts) whole) refl is
start-valid DoubleQuote after front byte rest spelling len starts whole is = string-valid rest (quoted double_quote_code [] 0 rest) spelling len (after_ascii front rest byte (double-small byte starts) whole) refl is
start-valid Semicolon after front byte rest spelling len starts whole is = fixed-valid (Name (codes ";")) spelling len (name-text (codes ";") (ascii_byte semicolon_code (omega arith)) (omega arith)) is
start-valid OpenStart after front byte rest spelling len starts whole is = open-valid after spelling len is
start-valid CloseStart after front byte rest spelling len starts whole is = fixed-valid Close spelling len tt is
start-valid OpenListStart after front byte rest spelling len starts whole is = fixed-valid OpenList spelling len tt is
start-valid CloseListStart after front byte rest spelling len starts whole is = fixed-valid CloseList spelling len tt is
start-valid CommaStart after front byte rest spelling len starts whole is = fixed-valid Comma spelling len tt is
start-valid BarStart after front byte rest spelling len starts whole is = fixed-valid Bar spelling len tt is
start-valid Outside after front byte rest spelling len starts whole is = absurd (cc)
start-valid Graphic after front byte rest spelling len starts whole is = graphic-valid after byte rest spelling len starts is
start-valid Other after front byte rest spelling len starts whole is = absurd (cc)

pub piece-valid : (after : Bool) (front rest : List ℕ) (spelling : Spelling) (len : ℕ) → IsUtf8 (front ++ rest) → first_piece after rest ≡ Token spelling len → IsValid spelling
piece-valid after front [] spelling len whole is = absurd (cc)
piece-valid after front (byte ∷ rest) spelling len whole is = start-valid (start_of byte) after front byte rest spelling len refl whole is
