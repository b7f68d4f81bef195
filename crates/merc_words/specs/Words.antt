-- What the words of a command ask for.
use Rattle.std.specs.Prelude.{◌≡◌, ℕ, ◌≤◌, Bool, true, false, All, ◌==◌, ◌++◌, List, [], ◌∷◌, length, Option, Some, None, unwrap_or, codes, IsUtf8}
use Rattle.merc_tokens.specs.Bytes.{is_digit_of}
use Rattle.merc_tokens.specs.Integers.{digits_value}
use Rattle.merc_words.specs.declared.settings.Setting.{Setting}
use Rattle.merc_words.specs.declared.settings.Setting.TheVariants.{Workers, Steps, Max}
use Rattle.merc_words.specs.declared.settings.Settings.{Settings}
use Rattle.merc_words.specs.declared.words.Request.{Request}
use Rattle.merc_words.specs.declared.words.Request.TheVariants.{Solve, Check, Code, Grow}

-- the character `-`
abbrev pub hyphen : ℕ
hyphen = 45

-- A word that begins with `-` and goes on is an option.
abbrev pub is_option : List ℕ → Bool
is_option [] = false
is_option (first ∷ []) = false
is_option (first ∷ (second ∷ rest)) = first == hyphen

-- the word that ends the options
abbrev pub options_end : List ℕ
options_end = codes "--"

abbrev pub setting_word : Setting → List ℕ
setting_word Workers = codes "--workers"
setting_word Steps = codes "--steps"
setting_word Max = codes "--max"

-- the least number that an option can be set to
abbrev pub least : Setting → ℕ
least Workers = 1
least Steps = 0
least Max = 1

-- the greatest number that an option can be set to
unfoldable pub greatest : Setting → ℕ
greatest Workers = 64
greatest Steps = 1000000000
greatest Max = 1000000000

-- the most digits of a number
abbrev pub digit_limit : ℕ
digit_limit = 10

-- a number from this least to this greatest one, in decimal and without a sign
pub record IsNumberIn (low high : ℕ) (text : List ℕ) (number : ℕ) : Type 0 where
  pub digits : All (λ (byte : ℕ). is_digit_of 10 byte ≡ true) text
  pub some : 1 ≤ length text
  pub few : length text ≤ digit_limit
  pub value : number ≡ digits_value 10 0 text
  pub not_less : low ≤ number
  pub not_more : number ≤ high

-- a number that an option can be set to
abbrev pub IsNumberOf : Setting → List ℕ → ℕ → Type 0
IsNumberOf setting = IsNumberIn (least setting) (greatest setting)

abbrev pub no_settings : Settings
no_settings = record { workers = None; steps = None; most = None }

abbrev pub setting_in : Setting → Settings → Option ℕ
setting_in Workers settings = settings.workers
setting_in Steps settings = settings.steps
setting_in Max settings = settings.most

abbrev pub with_setting : Setting → ℕ → Settings → Settings
with_setting Workers number settings = record settings { workers = Some number }
with_setting Steps number settings = record settings { steps = Some number }
with_setting Max number settings = record settings { most = Some number }

-- The words behind the command, of which these are no options, and what is set behind them, where this was set before them: each option once at most, as
-- `--x V` or `--x=V`. Behind `--` no word is an option.
pub data Sets : Settings → List (List ℕ) → List (List ℕ) → Settings → Type 0 where
  no_word : (settings : Settings) → Sets settings [] [] settings
  plain_word : (before after : Settings) (word : List ℕ) (words plains : List (List ℕ)) → is_option word ≡ false → Sets before words plains after → Sets before (word ∷ words) (word ∷ plains) after
  ends_options : (settings : Settings) (words : List (List ℕ)) → Sets settings (options_end ∷ words) words settings
  in_two_words : (before after : Settings) (setting : Setting) (text : List ℕ) (number : ℕ) (words plains : List (List ℕ)) → setting_in setting before ≡ None → IsNumberOf setting text number
      → Sets (with_setting setting number before) words plains after → Sets before (setting_word setting ∷ text ∷ words) plains after
  in_one_word : (before after : Settings) (setting : Setting) (text : List ℕ) (number : ℕ) (words plains : List (List ℕ)) → setting_in setting before ≡ None → IsNumberOf setting text number
      → Sets (with_setting setting number before) words plains after → Sets before ((setting_word setting ++ codes "=" ++ text) ∷ words) plains after

-- the workers of a run where none are set
abbrev pub default_workers : ℕ
default_workers = 4

-- the steps that a run may take where none are set
unfoldable pub default_steps : ℕ
default_steps = 1000000

-- the words are `solve FILE GOAL`, with options
pub record IsSolve (words : List (List ℕ)) (file goal : List ℕ) (workers steps : ℕ) (most : Option ℕ) : Type 0 where
  pub behind : List (List ℕ)
  pub spelled : words ≡ codes "solve" ∷ behind
  pub utf8 : All IsUtf8 words
  pub settings : Settings
  pub sets : Sets no_settings behind (file ∷ goal ∷ []) settings
  pub workers_are : workers ≡ unwrap_or settings.workers default_workers
  pub steps_are : steps ≡ unwrap_or settings.steps default_steps
  pub most_is : most ≡ settings.most

-- the words are this command and FILE
pub record IsOfFile (command : List ℕ) (words : List (List ℕ)) (file : List ℕ) : Type 0 where
  pub behind : List (List ℕ)
  pub spelled : words ≡ command ∷ behind
  pub utf8 : All IsUtf8 words
  pub sets : Sets no_settings behind (file ∷ []) no_settings

abbrev pub IsCheck : List (List ℕ) → List ℕ → Type 0
IsCheck = IsOfFile (codes "check")

abbrev pub IsCode : List (List ℕ) → List ℕ → Type 0
IsCode = IsOfFile (codes "code")

-- the least and the greatest module that is grown
abbrev pub least_count : ℕ
least_count = 1

abbrev pub greatest_count : ℕ
greatest_count = 2000

-- the words are `grow N`, with `--workers` at most
pub record IsGrow (words : List (List ℕ)) (count workers : ℕ) : Type 0 where
  pub behind : List (List ℕ)
  pub spelled : words ≡ codes "grow" ∷ behind
  pub utf8 : All IsUtf8 words
  pub text : List ℕ
  pub settings : Settings
  pub sets : Sets no_settings behind (text ∷ []) settings
  pub count_is : IsNumberIn least_count greatest_count text count
  pub workers_are : workers ≡ unwrap_or settings.workers default_workers
  pub no_steps : settings.steps ≡ None
  pub no_most : settings.most ≡ None

-- the words ask for this
abbrev pub IsRequest : List (List ℕ) → Request → Type 0
IsRequest words (Solve file goal workers steps most) = IsSolve words file goal workers steps most
IsRequest words (Check file) = IsCheck words file
IsRequest words (Code file) = IsCode words file
IsRequest words (Grow count workers) = IsGrow words count workers

-- the words ask for nothing that there is
abbrev pub IsNoRequest : List (List ℕ) → Type 0
IsNoRequest words = (request : Request) → IsRequest words request → ⊥
