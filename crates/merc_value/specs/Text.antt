-- The text of a value, in the syntax of the language.
use Rattle.std.specs.Prelude.{ℕ, Bool, false, not, ◌&&◌, ◌||◌, ◌==◌, List, [], ◌∷◌, ◌++◌, codes, slice_get, unwrap_or, if◌then◌else◌}
use Rattle.std.specs.List.{list_all, flat_map}
use Rattle.std.specs.Str.{bytes_eq}
use Rattle.std.specs.Char.{is_ascii_lowercase, is_ascii_alphanumeric}
use Rattle.std.specs.Fmt.{signed_decimal}
use Rattle.merc_base.specs.Texts.{is_among}
use Rattle.merc_base.specs.Characters.{backslash_code, double_quote_code, line_end_code, quote_code, tab_code, underscore_code}
use Rattle.merc_base.specs.Names.{cons_name, nil_name}
use Rattle.merc_value.specs.Value.{Value, Values, Int, Text, Con, none, more}

-- the text of a name; a name that the table does not hold has the empty text
abbrev pub text_at : List (List ℕ) → ℕ → List ℕ
text_at names name = unwrap_or (slice_get names name) []

-- whether a name is `_`
abbrev pub is_blank : List (List ℕ) → ℕ → Bool
is_blank names name = bytes_eq (text_at names name) (codes "_")

-- a byte within quotes: a backslash stands before a quote and a backslash, and in the names of a line end and a tab
abbrev pub escape : ℕ → ℕ → List ℕ
escape quote byte =
    if byte == line_end_code then codes "\\n"
    else if byte == tab_code then codes "\\t"
    else if byte == backslash_code || byte == quote then backslash_code ∷ byte ∷ []
    else byte ∷ []

-- a text within quotes
abbrev pub quoted : ℕ → List ℕ → List ℕ
quoted quote text = quote ∷ (flat_map (escape quote) text ++ quote ∷ [])

-- the operators that are spelled like plain names
unfoldable pub word_operators : List (List ℕ)
word_operators =
    codes "module" ∷ codes "end_module" ∷ codes "import_module" ∷ codes "mode" ∷ codes "type" ∷ codes "else" ∷
    codes "if" ∷ codes "then" ∷ codes "some" ∷ codes "all" ∷ codes "not" ∷ codes "pred" ∷ codes "func" ∷
    codes "is" ∷ codes "div" ∷ codes "mod" ∷ codes "rem" ∷ []

-- a letter, a digit or `_`
abbrev pub is_word_byte : ℕ → Bool
is_word_byte byte = is_ascii_alphanumeric byte || byte == underscore_code

-- whether a text is a lower-case letter followed by letters, digits and `_`
abbrev pub is_word : List ℕ → Bool
is_word [] = false
is_word (byte ∷ bytes) = is_ascii_lowercase byte && list_all is_word_byte bytes

-- whether a name with this text needs no quotes
abbrev pub is_plain : List ℕ → Bool
is_plain text = is_word text && not (is_among text word_operators)

-- a name, within quotes unless it is plain
abbrev pub name_text : List ℕ → List ℕ
name_text text = if is_plain text then text else quoted quote_code text

-- whether a constructor with these arguments is the empty list
abbrev pub is_nil : ℕ → Values → Bool
is_nil symbol none = symbol == nil_name
is_nil symbol (more first rest) = false

-- whether a constructor with these arguments is a list cell, of a head and a tail
abbrev pub is_cons : ℕ → Values → Bool
is_cons symbol (more head (more tail none)) = symbol == cons_name
is_cons symbol none = false
is_cons symbol (more only none) = false
is_cons symbol (more first (more second (more third rest))) = false

-- a constructor's name before its arguments
abbrev pub symbol_text : List (List ℕ) → ℕ → Values → List ℕ
symbol_text names symbol arguments = if is_nil symbol arguments then codes "[]" else name_text (text_at names symbol)

abbrev mutual
  -- the text of a value
  pub value_text : List (List ℕ) → Value → List ℕ
  value_text names (Int number) = signed_decimal number
  value_text names (Text text) = quoted double_quote_code (text_at names text)
  value_text names (Con symbol arguments) =
      if is_cons symbol arguments then codes "[" ++ list_text names arguments ++ codes "]"
      else symbol_text names symbol arguments ++ arguments_text names arguments

  -- a list from this tail on, without its closing bracket
  pub tail_text : List (List ℕ) → Value → List ℕ
  tail_text names (Int number) = codes " | " ++ signed_decimal number
  tail_text names (Text text) = codes " | " ++ quoted double_quote_code (text_at names text)
  tail_text names (Con symbol arguments) =
      if is_nil symbol arguments then []
      else if is_cons symbol arguments then codes ", " ++ list_text names arguments
      else codes " | " ++ (symbol_text names symbol arguments ++ arguments_text names arguments)

  -- the head and the tail of a list cell
  pub list_text : List (List ℕ) → Values → List ℕ
  list_text names none = []
  list_text names (more head rest) = value_text names head ++ last_text names rest

  pub last_text : List (List ℕ) → Values → List ℕ
  last_text names none = []
  last_text names (more tail rest) = tail_text names tail

  -- the arguments of a constructor, in parentheses where there are any
  pub arguments_text : List (List ℕ) → Values → List ℕ
  arguments_text names none = []
  arguments_text names (more first rest) = codes "(" ++ value_text names first ++ others_text names rest ++ codes ")"

  -- each argument behind a comma
  pub others_text : List (List ℕ) → Values → List ℕ
  others_text names none = []
  others_text names (more next rest) = codes ", " ++ value_text names next ++ others_text names rest
