-- Quoted texts: what stands between quotes, with escapes.
use Rattle.std.specs.Prelude.{ℕ, ◌+◌, Bool, ◌==◌, ◌||◌, List, [], ◌∷◌, ◌++◌, Option, Some, None, if◌then◌else◌}
use Rattle.merc_base.specs.Characters.{backslash_code, double_quote_code, line_end_code, lower_n_code, lower_t_code, quote_code, tab_code}

-- `n`, `t`, `\`, `"` and `'` may follow a `\`
abbrev pub is_escape : ℕ → Bool
is_escape byte = (byte == lower_n_code) || (byte == lower_t_code) || (byte == backslash_code) || (byte == double_quote_code) || (byte == quote_code)

-- what the escape stands for
abbrev pub escaped : ℕ → ℕ
escaped byte = if byte == lower_n_code then line_end_code else if byte == lower_t_code then tab_code else byte

-- The text up to the closing quote, behind the text so far, and how many bytes stand up to behind that quote.
-- There is none where the text or its line ends first, or at an unknown escape.
abbrev pub quoted : ℕ → List ℕ → ℕ → List ℕ → Option (List ℕ × ℕ)
quoted quote content past [] = None
quoted quote content past (byte ∷ []) = if byte == quote then Some (content, past + 1) else None
quoted quote content past (byte ∷ next ∷ rest) =
    if byte == quote then
    (if next == quote then quoted quote (content ++ quote ∷ []) (past + 2) rest else Some (content, past + 1))
    else if byte == backslash_code then
    (if is_escape next then quoted quote (content ++ escaped next ∷ []) (past + 2) rest else None)
    else if byte == line_end_code then None
    else quoted quote (content ++ byte ∷ []) (past + 1) (next ∷ rest)
