-- Lists of texts, in which a text goes by its place from 0.
use Rattle.std.specs.Prelude.{ℕ, Bool, not, Option, Some, None, List, [], ◌∷◌, ◌++◌, if◌then◌else◌}
use Rattle.std.specs.List.{list_any, prefix_len}
use Rattle.std.specs.Str.{bytes_eq}

-- whether a text is one of these
abbrev pub is_among : List ℕ → List (List ℕ) → Bool
is_among text texts = list_any (λ other. bytes_eq text other) texts

-- a text's place among these, from 0: the first, or their number where it is none of them
abbrev pub place_among : List (List ℕ) → List ℕ → ℕ
place_among texts text = prefix_len (λ other. not (bytes_eq text other)) texts

-- these texts, and behind them this one where it is not among them
abbrev pub with_text : List (List ℕ) → List ℕ → List (List ℕ)
with_text texts text = if is_among text texts then texts else texts ++ text ∷ []

-- the number of a text among these, where it is one of them
abbrev pub number_among : List (List ℕ) → List ℕ → Option ℕ
number_among texts text = if is_among text texts then Some (place_among texts text) else None
