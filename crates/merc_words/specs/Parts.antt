-- How the words behind the command are parted.
use Rattle.std.specs.Prelude.{◌≡◌, ℕ, ◌+◌, ◌<◌, ◌==◌, ◌++◌, zero, suc, Bool, true, false, ⊤, List, [], ◌∷◌, Option, Some, None, codes, cond, map, option_map, unwrap_or}
use Rattle.std.specs.Borrow.{Bor}
use Rattle.merc_words.specs.declared.settings.Setting.{Setting}
use Rattle.merc_words.specs.declared.settings.Setting.TheVariants.{Workers, Steps, Max}
use Rattle.merc_words.specs.declared.settings.Settings.{Settings}
use Rattle.merc_words.specs.declared.parts.Parts.{Parts}
use Rattle.merc_words.specs.declared.words.Request.{Request}
use Rattle.merc_words.specs.declared.words.Request.TheVariants.{Solve, Check, Code, Grow}
use Rattle.merc_words.specs.Words.{IsNumberIn, IsNumberOf, default_steps, default_workers, greatest_count, is_option, least_count, options_end, setting_word}

-- what a word gives: the number of an option, or a plain word, the first or the second
pub data Slot : Type 0 where
  Of : Setting → Slot
  First : Slot
  Second : Slot

-- a slot, and the text that it is given
abbrev pub Use : Type 0
Use = Slot × List ℕ

-- slots by number
abbrev pub rank : Slot → ℕ
rank (Of Workers) = 0
rank (Of Steps) = 1
rank (Of Max) = 2
rank First = 3
rank Second = 4

-- the text that a slot is given first
abbrev pub text_of : Slot → List Use → Option (List ℕ)
text_of slot [] = None
text_of slot (one ∷ uses) = cond (rank one.0 == rank slot) (Some one.1) (text_of slot uses)

-- where a plain word goes that has so many before it
abbrev pub place : ℕ → Slot
place zero = First
place (suc before) = Second

-- The words give these texts to these slots, in this order, where so many plain words stand before them, and `--` where that is told.
pub data Uses : ℕ → Bool → List (List ℕ) → List Use → Type 0 where
  no_word : (before : ℕ) (ended : Bool) → Uses before ended [] []
  plain_word : (before : ℕ) (word : List ℕ) (words : List (List ℕ)) (uses : List Use) → before < 2 → is_option word ≡ false → Uses (suc before) false words uses
      → Uses before false (word ∷ words) ((place before, word) ∷ uses)
  any_word : (before : ℕ) (word : List ℕ) (words : List (List ℕ)) (uses : List Use) → before < 2 → Uses (suc before) true words uses → Uses before true (word ∷ words) ((place before, word) ∷ uses)
  ends_options : (before : ℕ) (words : List (List ℕ)) (uses : List Use) → Uses before true words uses → Uses before false (options_end ∷ words) uses
  in_two_words : (before : ℕ) (setting : Setting) (text : List ℕ) (words : List (List ℕ)) (uses : List Use) → is_option text ≡ false → Uses before false words uses
      → Uses before false (setting_word setting ∷ text ∷ words) ((Of setting, text) ∷ uses)
  in_one_word : (before : ℕ) (setting : Setting) (text : List ℕ) (words : List (List ℕ)) (uses : List Use) → Uses before false words uses
      → Uses before false ((setting_word setting ++ codes "=" ++ text) ∷ words) ((Of setting, text) ∷ uses)

-- no slot is given a text twice, nor one that has a text
abbrev pub AreFresh : List Use → List Use → Type 0
AreFresh before [] = ⊤
AreFresh before (one ∷ uses) = (text_of one.0 before ≡ None) × AreFresh (before ++ one ∷ []) uses

-- the text of each slot
pub record Texts : Type 0 where
  pub first : Option (List ℕ)
  pub second : Option (List ℕ)
  pub workers : Option (List ℕ)
  pub steps : Option (List ℕ)
  pub most : Option (List ℕ)

abbrev pub texts_in : List Use → Texts
texts_in uses = record {
  first = text_of First uses;
  second = text_of Second uses;
  workers = text_of (Of Workers) uses;
  steps = text_of (Of Steps) uses;
  most = text_of (Of Max) uses;
}

-- the words behind the command give these texts
pub record Gives (words : List (List ℕ)) (texts : Texts) : Type 0 where
  pub uses : List Use
  pub spelled : Uses 0 false words uses
  pub once : AreFresh [] uses
  pub texts_are : texts ≡ texts_in uses

-- the text behind a reference, if there is one
abbrev pub text_behind : Option (Bor (List ℕ)) → Option (List ℕ)
text_behind = option_map (λ (text : Bor (List ℕ)). text.now)

-- the words behind references
abbrev pub words_behind : List (Bor (List ℕ)) → List (List ℕ)
words_behind = map (λ (word : Bor (List ℕ)). word.now)

abbrev pub texts_of : Parts → Texts
texts_of parts = record {
  first = text_behind parts.first;
  second = text_behind parts.second;
  workers = text_behind parts.workers;
  steps = text_behind parts.steps;
  most = text_behind parts.most;
}

-- ---- what the texts ask for

-- the number that an option is set to by its text
abbrev pub IsSetTo : Setting → Option (List ℕ) → Option ℕ → Type 0
IsSetTo setting None None = ⊤
IsSetTo setting None (Some number) = ⊥
IsSetTo setting (Some text) None = ⊥
IsSetTo setting (Some text) (Some number) = IsNumberOf setting text number

-- the options are set to these numbers by their texts
pub record AreSetTo (texts : Texts) (settings : Settings) : Type 0 where
  pub workers : IsSetTo Workers texts.workers settings.workers
  pub steps : IsSetTo Steps texts.steps settings.steps
  pub most : IsSetTo Max texts.most settings.most

-- the texts are those of a file alone
abbrev pub file_alone : List ℕ → Texts
file_alone file = record { first = Some file; second = None; workers = None; steps = None; most = None }

-- what a command asks for with these texts
abbrev pub IsAskedBy : List ℕ → Texts → Request → Type 0
IsAskedBy command texts (Solve file goal workers steps most) =
    (command ≡ codes "solve") × (texts.first ≡ Some file) × (texts.second ≡ Some goal)
    × ((settings : Settings) × AreSetTo texts settings × (workers ≡ unwrap_or settings.workers default_workers) × (steps ≡ unwrap_or settings.steps default_steps) × (most ≡ settings.most))
IsAskedBy command texts (Check file) = (command ≡ codes "check") × (texts ≡ file_alone file)
IsAskedBy command texts (Code file) = (command ≡ codes "code") × (texts ≡ file_alone file)
IsAskedBy command texts (Grow count workers) =
    (command ≡ codes "grow") × (texts.second ≡ None) × (texts.steps ≡ None) × (texts.most ≡ None)
    × ((text : List ℕ) × (texts.first ≡ Some text) × IsNumberIn least_count greatest_count text count)
    × ((number : Option ℕ) × IsSetTo Workers texts.workers number × (workers ≡ unwrap_or number default_workers))

-- they ask for nothing
abbrev pub AsksNothing : List ℕ → Texts → Type 0
AsksNothing command texts = (request : Request) → IsAskedBy command texts request → ⊥
