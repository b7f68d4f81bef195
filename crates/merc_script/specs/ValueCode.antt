-- The codes by which the logic stores values and cells: a value as numbers, from which it can be told.
use Rattle.std.specs.Prelude.{◌≡◌, ℕ, ℤ, pos, negsuc, List, [], ◌∷◌, Option, refl}
use Rattle.std.specs.Coded.{Coded, code_by, coded×, coded_ℕ, coded_list, coded_option}
use base.Stored.{coded_via}
use Rattle.merc_value.specs.Value.{Value, Values, Int, Text, Con, none, more}
use Rattle.merc_script.specs.Script.{Cell}

abbrev pub integer_numbers : ℤ → List ℕ → List ℕ
integer_numbers (pos n) behind = 0 ∷ n ∷ behind
integer_numbers (negsuc n) behind = 1 ∷ n ∷ behind

-- the numbers of a value in front of others
abbrev mutual
  pub numbers : Value → List ℕ → List ℕ
  numbers (Int number) behind = 0 ∷ integer_numbers number behind
  numbers (Text text) behind = 1 ∷ text ∷ behind
  numbers (Con symbol arguments) behind = 2 ∷ symbol ∷ all_numbers arguments behind

  pub all_numbers : Values → List ℕ → List ℕ
  all_numbers none behind = 0 ∷ behind
  all_numbers (more first rest) behind = 1 ∷ numbers first (all_numbers rest behind)

integers_apart : (a b : ℤ) (xs ys : List ℕ) → integer_numbers a xs ≡ integer_numbers b ys → (a ≡ b) × (xs ≡ ys)
integers_apart (pos a) (pos b) xs ys same = (cc, cc)
integers_apart (pos a) (negsuc b) xs ys same = (cc, cc)
integers_apart (negsuc a) (pos b) xs ys same = (cc, cc)
integers_apart (negsuc a) (negsuc b) xs ys same = (cc, cc)

mutual
  pub apart : (a b : Value) (xs ys : List ℕ) → numbers a xs ≡ numbers b ys → (a ≡ b) × (xs ≡ ys)
  apart (Int a) (Int b) xs ys same = let e = integers_apart a b xs ys (cc) in (cc (e.0), e.1)
  apart (Int a) (Text b) xs ys same = (cc, cc)
  apart (Int a) (Con f other) xs ys same = (cc, cc)
  apart (Text a) (Int b) xs ys same = (cc, cc)
  apart (Text a) (Text b) xs ys same = (cc, cc)
  apart (Text a) (Con f other) xs ys same = (cc, cc)
  apart (Con f one) (Int b) xs ys same = (cc, cc)
  apart (Con f one) (Text b) xs ys same = (cc, cc)
  apart (Con f one) (Con g other) xs ys same = let e = all_apart one other xs ys (cc) in (cc (e.0), e.1)

  pub all_apart : (one other : Values) (xs ys : List ℕ) → all_numbers one xs ≡ all_numbers other ys → (one ≡ other) × (xs ≡ ys)
  all_apart none none xs ys same = (refl, cc)
  all_apart none (more b other) xs ys same = (cc, cc)
  all_apart (more a one) none xs ys same = (cc, cc)
  all_apart (more a one) (more b other) xs ys same =
      let first = apart a b (all_numbers one xs) (all_numbers other ys) (cc) in
      let rest = all_apart one other xs ys first.1 in
      (cc (first.0, rest.0), rest.1)

abbrev pub value_code : Coded Value
value_code = coded_via (coded_list coded_ℕ) (λ value. numbers value []) (λ a b same. (apart a b [] [] same).0)

-- a cell is stored as its fields
abbrev pub cell_code : Coded Cell
cell_code =
    code_by (ℕ × (ℕ × (ℕ × Option Value))) (coded× coded_ℕ (coded× coded_ℕ (coded× coded_ℕ (coded_option value_code))))
    (λ c. (c.cell, (c.producer, (c.consumer, c.value)))) (λ p. record { cell = p.0; producer = p.1.0; consumer = p.1.1.0; value = p.1.1.1 }) (λ _. refl)
