-- The text of a unit, from a table whose names and texts are behind references.
use Rattle.std.proofs.Common.{◌≡◌, ℕ, ◌≤◌, length, true, false, List, [], ◌∷◌, Option, Some, None, map, find, cond, refl, ap, ◌∙◌, sym, arith, subst}
use Rattle.std.specs.Borrow.{Bor}
use Rattle.std.specs.Option.{IfSome, option_copied, option_map}
use Rattle.std.specs.Str.{bytes_eq}
use Rattle.merc_entries.specs.Library.{units, unit_text}

-- An entry of the code's table, as a name and a text.
abbrev plain_unit : Bor (List ℕ) × Bor (List ℕ) → List ℕ × List ℕ
plain_unit unit = (unit.0.now, unit.1.now)

find-plain_unit : (name : List ℕ) (table : List (Bor (List ℕ) × Bor (List ℕ)))
    → option_map (λ unit. unit.1.now) (find (λ unit. bytes_eq name unit.0.now) table) ≡ option_map (λ unit. unit.1) (find (λ unit. bytes_eq name unit.0) (map plain_unit table))
find-plain_unit name [] = refl
find-plain_unit name (unit ∷ table) =
    elim (bytes_eq name unit.0.now) as (λ b. option_map (λ unit. unit.1.now) (cond b (Some unit) (find (λ unit. bytes_eq name unit.0.now) table))
    ≡ option_map (λ unit. unit.1) (cond b (Some (plain_unit unit)) (find (λ unit. bytes_eq name unit.0) (map plain_unit table))))
    [ true ↦ refl | false ↦ find-plain_unit name table ]

-- What a search by name finds in a table of the units.
pub found_unit : (name : List ℕ) (table : List (Bor (List ℕ) × Bor (List ℕ))) → map plain_unit table ≡ units
    → option_map (λ unit. unit.1.now) (find (λ unit. bytes_eq name unit.0.now) table) ≡ unit_text name
found_unit name table same =
    find-plain_unit name table
    ∙ ap (λ (entries : List (List ℕ × List ℕ)). option_map (λ unit. unit.1) (find (λ unit. bytes_eq name unit.0) entries)) same

-- Each text of these entries has at most 1,000 bytes.
abbrev AllShort : List (List ℕ × List ℕ) → Type 0
AllShort [] = Unit {0}
AllShort (unit ∷ table) = (length unit.1 ≤ 1000) × AllShort table

short_in : (name : List ℕ) (table : List (List ℕ × List ℕ)) → AllShort table
    → IfSome (option_map (λ unit. unit.1) (find (λ unit. bytes_eq name unit.0) table)) (λ text. length text ≤ 1000)
short_in name [] short = tt
short_in name (unit ∷ table) short =
    elim (bytes_eq name unit.0) as (λ b. IfSome (option_map (λ unit. unit.1) (cond b (Some unit) (find (λ unit. bytes_eq name unit.0) table))) (λ text. length text ≤ 1000))
    [ true ↦ short.0 | false ↦ short_in name table short.1 ]

units_short : AllShort units
unfolding units
units_short = (omega arith, (omega arith, (omega arith, (omega arith, (omega arith, (omega arith, tt))))))

-- No unit's text is long, whatever the name.
short_unit : (name : List ℕ) → IfSome (unit_text name) (λ text. length text ≤ 1000)
short_unit name = short_in name units units_short

-- A text behind a reference that is the unit's is short too.
pub short_behind : (name : List ℕ) (found : Option (Bor (List ℕ))) → option_copied found ≡ unit_text name
    → IfSome found (λ text. length text.now ≤ 1000)
short_behind name None is = tt
short_behind name (Some text) is =
    let P : Option (List ℕ) → Type 0 = λ given. IfSome given (λ bytes. length bytes ≤ 1000) in
    subst P (sym is) (short_unit name)
