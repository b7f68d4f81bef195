-- Lines, and texts with commas between them.
use Rattle.std.specs.Prelude.{ℕ, List, [], ◌∷◌, ◌++◌, codes}

abbrev pub line_end : List ℕ
line_end = codes "\n"

-- the text of a lone line
abbrev pub line : List ℕ → List ℕ
line text = text ++ line_end

-- each of these texts behind a comma and a blank
abbrev pub behind_commas : List (List ℕ) → List ℕ
behind_commas [] = []
behind_commas (text ∷ texts) = codes ", " ++ text ++ behind_commas texts

-- these texts with a comma and a blank between each two
abbrev pub joined : List (List ℕ) → List ℕ
joined [] = []
joined (text ∷ texts) = text ++ behind_commas texts

-- the same; `true` where there is none
abbrev pub comma_list : List (List ℕ) → List ℕ
comma_list [] = codes "true"
comma_list (text ∷ texts) = joined (text ∷ texts)
