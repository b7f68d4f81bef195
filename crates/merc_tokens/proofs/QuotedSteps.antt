-- One step of the reading of a quoted text.
use Rattle.std.proofs.Common.{◌≡◌, ℕ, ◌+◌, ◌≤◌, ◌≢◌, true, List, [], ◌∷◌, ◌++◌, length, get_or, drop, arith, eq-eqb}
use Rattle.std.proofs.lemmas.Bool.{ne_eqb}
use Rattle.merc_base.specs.Characters.{backslash_code, line_end_code}
use Rattle.merc_tokens.specs.Quoted.{is_escape, escaped, quoted}

-- a doubled quote stands for one
pub quoted-doubled : (quote past : ℕ) (content text : List ℕ) → 2 ≤ length text → get_or text 0 0 ≡ quote → get_or text 1 0 ≡ quote → quoted quote content past text ≡ quoted quote (content ++ quote ∷ []) (past + 2) (drop 2 text)
quoted-doubled quote past content [] long one other = absurd (omega arith)
quoted-doubled quote past content (a ∷ []) long one other = absurd (omega arith)
quoted-doubled quote past content (a ∷ b ∷ rest) long one other = rw (eq-eqb a quote one, eq-eqb b quote other)

-- an escape
pub quoted-escape : (quote past : ℕ) (content text : List ℕ) → 2 ≤ length text → get_or text 0 0 ≢ quote → get_or text 0 0 ≡ backslash_code → is_escape (get_or text 1 0) ≡ true → quoted quote content past text ≡ quoted quote (content ++ escaped (get_or text 1 0) ∷ []) (past + 2) (drop 2 text)
quoted-escape quote past content [] long one other escape = absurd (omega arith)
quoted-escape quote past content (a ∷ []) long one other escape = absurd (omega arith)
quoted-escape quote past content (a ∷ b ∷ rest) long one other escape = rw (ne_eqb a quote one, eq-eqb a backslash_code other, escape)

-- any other byte stands for itself
pub quoted-plain : (quote past : ℕ) (content text : List ℕ) → 2 ≤ length text → get_or text 0 0 ≢ quote → get_or text 0 0 ≢ backslash_code → get_or text 0 0 ≢ line_end_code → quoted quote content past text ≡ quoted quote (content ++ get_or text 0 0 ∷ []) (past + 1) (drop 1 text)
quoted-plain quote past content [] long one other line = absurd (omega arith)
quoted-plain quote past content (a ∷ []) long one other line = absurd (omega arith)
quoted-plain quote past content (a ∷ b ∷ rest) long one other line = rw (ne_eqb a quote one, ne_eqb a backslash_code other, ne_eqb a line_end_code line)
