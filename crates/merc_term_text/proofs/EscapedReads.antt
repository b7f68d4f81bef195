-- What was escaped within quotes reads as the text that it was.
use Rattle.std.proofs.Common.{◌≡◌, ℕ, ◌+◌, ◌<◌, true, false, ◌==◌, List, [], ◌∷◌, ◌++◌, length, Some, refl, sym, ◌∙◌, ap, subst, arith, append_assoc, append-nil, length-append, IsUtf8, flat_map, inl, inr}
use Rattle.std.proofs.lemmas.Bool.{eqb-true, eqb-false, cases_Bool}
use Rattle.std.proofs.lemmas.Str.{IsUtf8-append}
use Rattle.merc_base.specs.Characters.{backslash_code, line_end_code, tab_code}
use Rattle.merc_value.specs.Text.{escape, quoted as written}
use Rattle.merc_tokens.specs.Bytes.{next_is}
use Rattle.merc_tokens.specs.Quoted.{is_escape, escaped, quoted}
use Rattle.merc_tokens.proofs.QuotedSteps.{quoted-plain}
use Rattle.merc_term_text.proofs.Utf8Parts.{before_ascii, after_ascii, ascii_byte}

-- a byte within quotes is an escape, or stands for itself
data Escaping (quote byte : ℕ) : Type 0 where
  special : (letter : ℕ) → byte < 128 → letter < 128 → is_escape letter ≡ true → escaped letter ≡ byte → escape quote byte ≡ 92 ∷ letter ∷ [] → Escaping quote byte
  plain : byte == quote ≡ false → byte == backslash_code ≡ false → byte == line_end_code ≡ false → escape quote byte ≡ byte ∷ [] → Escaping quote byte

-- a quote that can be escaped
pub record IsQuote (quote : ℕ) : Type 0 where
  pub escapes : is_escape quote ≡ true
  pub stays : escaped quote ≡ quote
  pub small : quote < 128
  pub no_backslash : 92 == quote ≡ false
  pub itself : quote == quote ≡ true

pub single_quote : IsQuote 39
single_quote = record { escapes = refl; stays = refl; small = omega arith; no_backslash = refl; itself = refl }

pub double_quote : IsQuote 34
double_quote = record { escapes = refl; stays = refl; small = omega arith; no_backslash = refl; itself = refl }

module _ (quote : ℕ) (is_quote : IsQuote quote) where
  escaping : (byte : ℕ) → Escaping quote byte
  escaping byte = elim (cases_Bool (byte == line_end_code)) [
    | inl line ↦ special 110 (omega (arith, eqb-true byte line_end_code line)) (omega arith) refl (sym (eqb-true byte line_end_code line)) (rw line refl)
    | inr no_line ↦ elim (cases_Bool (byte == tab_code)) [
      | inl tab ↦ special 116 (omega (arith, eqb-true byte tab_code tab)) (omega arith) refl (sym (eqb-true byte tab_code tab)) (rw (no_line, tab) refl)
      | inr no_tab ↦ elim (cases_Bool (byte == backslash_code)) [
        | inl back ↦ special 92 (omega (arith, eqb-true byte backslash_code back)) (omega arith) refl (sym (eqb-true byte backslash_code back)) (rw (no_line, no_tab, back) (ap (λ (b : ℕ). 92 ∷ b ∷ []) (eqb-true byte backslash_code back)))
        | inr no_back ↦ elim (cases_Bool (byte == quote)) [
          | inl same ↦ special quote (omega (arith, eqb-true byte quote same, is_quote.small)) is_quote.small is_quote.escapes (is_quote.stays ∙ sym (eqb-true byte quote same)) (rw (no_line, no_tab, no_back, same) (ap (λ (b : ℕ). 92 ∷ b ∷ []) (eqb-true byte quote same)))
          | inr other ↦ plain other no_back no_line (rw (no_line, no_tab, no_back, other) refl)
        ]
      ]
    ]
  ]

  step_special : (content text : List ℕ) (past byte letter : ℕ) → is_escape letter ≡ true → escaped letter ≡ byte
      → quoted quote content past (92 ∷ letter ∷ text) ≡ quoted quote (content ++ byte ∷ []) (past + 2) text
  step_special content text past byte letter escapes stands = rw (is_quote.no_backslash, escapes, stands) refl

  step_plain : (content text rest : List ℕ) (past byte : ℕ) → byte == quote ≡ false → byte == backslash_code ≡ false → byte == line_end_code ≡ false
      → quoted quote content past (byte ∷ (text ++ quote ∷ rest)) ≡ quoted quote (content ++ byte ∷ []) (past + 1) (text ++ quote ∷ rest)
  step_plain content text rest past byte other no_back no_line =
      quoted-plain quote past content (byte ∷ (text ++ quote ∷ rest)) (omega (arith, length-append text (quote ∷ rest))) (eqb-false byte quote other) (eqb-false byte 92 no_back) (eqb-false byte 10 no_line)

  -- the text, and how many bytes stand up to behind the closing quote
  abbrev Reads : List ℕ → List ℕ → ℕ → List ℕ → List ℕ → Type 0
  Reads content text past spelled rest = quoted quote content past (spelled ++ quote ∷ rest) ≡ Some (content ++ text, past + (length spelled + 1))

  reads_more : (content text spelled rest : List ℕ) (past byte : ℕ) → Escaping quote byte
      → ((content : List ℕ) (past : ℕ) → Reads content text past spelled rest)
      → Reads content (byte ∷ text) past (escape quote byte ++ spelled) rest
  reads_more content text spelled rest past byte (special letter small small' escapes stands is) others =
      rw is (
      step_special content (spelled ++ quote ∷ rest) past byte letter escapes stands
      ∙ others (content ++ byte ∷ []) (past + 2)
      ∙ rw (append_assoc content (byte ∷ []) text) (ap (λ (n : ℕ). Some (content ++ byte ∷ text, n)) (omega arith))
      )
  reads_more content text spelled rest past byte (plain other no_back no_line is) others =
      rw is (
      step_plain content spelled rest past byte other no_back no_line
      ∙ others (content ++ byte ∷ []) (past + 1)
      ∙ rw (append_assoc content (byte ∷ []) text) (ap (λ (n : ℕ). Some (content ++ byte ∷ text, n)) (omega arith))
      )

  -- reading stops at the closing quote, if no second one follows
  pub reads_escaped : (content text rest : List ℕ) (past : ℕ) → next_is quote rest ≡ false
      → quoted quote content past (flat_map (escape quote) text ++ quote ∷ rest) ≡ Some (content ++ text, past + (length (flat_map (escape quote) text) + 1))
  reads_escaped content [] [] past apart = rw (is_quote.itself, append-nil content) refl
  reads_escaped content [] (next ∷ rest) past apart = rw (is_quote.itself, apart, append-nil content) refl
  reads_escaped content (byte ∷ text) rest past apart =
      reads_more content text (flat_map (escape quote) text) rest past byte (escaping byte) (λ content past. reads_escaped content text rest past apart)

  more_utf8 : (front text spelled : List ℕ) (byte : ℕ) → Escaping quote byte
      → ((front : List ℕ) → IsUtf8 (front ++ text) → IsUtf8 (front ++ spelled))
      → IsUtf8 (front ++ byte ∷ text) → IsUtf8 (front ++ (escape quote byte ++ spelled))
  more_utf8 front text spelled byte (special letter small small' escapes stands is) others whole =
      rw is (
      IsUtf8-append front (92 ∷ letter ∷ spelled) (before_ascii front text byte small whole)
      (IsUtf8-append (92 ∷ []) (letter ∷ spelled) (ascii_byte backslash_code (omega arith))
      (IsUtf8-append (letter ∷ []) spelled (ascii_byte letter small')
      (others [] (after_ascii front text byte small whole))))
      )
  more_utf8 front text spelled byte (plain other no_back no_line is) others whole =
      rw is (
      subst IsUtf8 (append_assoc front (byte ∷ []) spelled)
      (others (front ++ byte ∷ []) (subst IsUtf8 (sym (append_assoc front (byte ∷ []) text)) whole))
      )

  -- what was escaped is UTF-8 if the text is
  pub escaped_utf8 : (front text : List ℕ) → IsUtf8 (front ++ text) → IsUtf8 (front ++ flat_map (escape quote) text)
  escaped_utf8 front [] whole = whole
  escaped_utf8 front (byte ∷ text) whole = more_utf8 front text (flat_map (escape quote) text) byte (escaping byte) (λ front. escaped_utf8 front text) whole

  -- a text within quotes
  pub written_utf8 : (text : List ℕ) → IsUtf8 text → IsUtf8 (written quote text)
  written_utf8 text whole =
      IsUtf8-append (quote ∷ []) (flat_map (escape quote) text ++ quote ∷ []) (ascii_byte quote is_quote.small)
      (IsUtf8-append (flat_map (escape quote) text) (quote ∷ []) (escaped_utf8 [] text whole) (ascii_byte quote is_quote.small))
