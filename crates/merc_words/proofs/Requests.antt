-- Words ask for one thing at most.
use Rattle.std.proofs.Common.{◌≡◌, ◌∙◌, ◌<◌, ℕ, List, [], ◌∷◌, ap, refl, sym, subst, length, arith, codes, slice_index}
use Rattle.std.specs.Prelude.{Option, unwrap_or}
use Rattle.merc_words.specs.declared.words.Request.{Request}
use Rattle.merc_words.specs.declared.words.Request.TheVariants.{Solve, Check, Code, Grow}
use Rattle.merc_words.specs.declared.settings.Settings.{Settings}
use Rattle.merc_words.specs.Words.{IsCheck, IsCode, IsGrow, IsNoRequest, IsOfFile, IsRequest, IsSolve, Sets, default_steps, default_workers, no_settings}
use Rattle.merc_words.specs.Parts.{AsksNothing, Texts, file_alone}
use Rattle.merc_words.proofs.Options.{differ, sets-unique}

behind_same : (command : List ℕ) (words behind behind' : List (List ℕ)) → words ≡ command ∷ behind → words ≡ command ∷ behind' → behind ≡ behind'
behind_same command words behind behind' is is' = let same : command ∷ behind ≡ command ∷ behind' = sym is ∙ is' in cc

module _ (words : List (List ℕ)) (file goal file' goal' : List ℕ) (workers workers' steps steps' : ℕ) (most most' : Option ℕ) (asks : IsSolve words file goal workers steps most) (also : IsSolve words file' goal' workers' steps' most') where
  set_same : (file ∷ goal ∷ [] ≡ file' ∷ goal' ∷ []) × (asks.settings ≡ also.settings)
  set_same =
      sets-unique no_settings asks.behind (file ∷ goal ∷ []) (file' ∷ goal' ∷ []) asks.settings also.settings asks.sets
      (subst (λ (some : List (List ℕ)). Sets no_settings some (file' ∷ goal' ∷ []) also.settings) (behind_same (codes "solve") words also.behind asks.behind also.spelled asks.spelled) also.sets)

  plains_same : (file ≡ file') × (goal ≡ goal')
  plains_same = let same : file ∷ goal ∷ [] ≡ file' ∷ goal' ∷ [] = set_same.0 in (cc, cc)

  pub solve-unique : (file ≡ file') × (goal ≡ goal') × (steps ≡ steps') × (most ≡ most')
  solve-unique = (
    plains_same.0,
    plains_same.1,
    asks.steps_are ∙ ap (λ (some : Settings). unwrap_or some.steps default_steps) set_same.1 ∙ sym also.steps_are,
    asks.most_is ∙ ap (λ (some : Settings). some.most) set_same.1 ∙ sym also.most_is,
  )

  pub workers-unique : workers ≡ workers'
  workers-unique = asks.workers_are ∙ ap (λ (some : Settings). unwrap_or some.workers default_workers) set_same.1 ∙ sym also.workers_are

pub file-unique : (command : List ℕ) (words : List (List ℕ)) (file file' : List ℕ) → IsOfFile command words file → IsOfFile command words file' → file ≡ file'
file-unique command words file file' asks also =
    let both = sets-unique no_settings asks.behind (file ∷ []) (file' ∷ []) no_settings no_settings asks.sets
    (subst (λ (some : List (List ℕ)). Sets no_settings some (file' ∷ []) no_settings) (behind_same command words also.behind asks.behind also.spelled asks.spelled) also.sets) in
    let same : file ∷ [] ≡ file' ∷ [] = both.0 in cc

pub check-unique : (words : List (List ℕ)) (file file' : List ℕ) → IsCheck words file → IsCheck words file' → file ≡ file'
check-unique = file-unique (codes "check")

-- ---- commands differ

abbrev letter : ℕ → List ℕ → ℕ
letter at text = slice_index text at

words_differ : codes "solve" ≡ codes "check" → ⊥
words_differ same = differ 99 115 (omega arith) (sym (ap (letter 0) same))

pub commands-differ : (behind behind' : List (List ℕ)) → codes "solve" ∷ behind ≡ codes "check" ∷ behind' → ⊥
commands-differ behind behind' same = let word : codes "solve" ≡ codes "check" = cc in words_differ word

pub solve-no_check : (words : List (List ℕ)) (file goal file' : List ℕ) (workers steps : ℕ) (most : Option ℕ) → IsSolve words file goal workers steps most → IsCheck words file' → ⊥
solve-no_check words file goal file' workers steps most asks also = commands-differ asks.behind also.behind (sym asks.spelled ∙ also.spelled)

-- ---- words that ask for nothing

module _ (command : List ℕ) (behind plains : List (List ℕ)) (settings : Settings) (sets : Sets no_settings behind plains settings) where
  same_sets : (word : List ℕ) (behind' plains' : List (List ℕ)) (settings' : Settings) → command ∷ behind ≡ word ∷ behind' → Sets no_settings behind' plains' settings'
      → (command ≡ word) × (plains ≡ plains') × (settings ≡ settings')
  same_sets word behind' plains' settings' same sets' =
      let rest : behind' ≡ behind = cc in
      let both = sets-unique no_settings behind plains plains' settings settings' sets (subst (λ (some : List (List ℕ)). Sets no_settings some plains' settings') rest sets') in
      (cc, both.0, both.1)

  -- words that set something, and are none of the commands with as many plain words
  pub no_request : (command ≡ codes "solve" → length plains ≡ 2 → ⊥) → (command ≡ codes "check" → length plains ≡ 1 → settings ≡ no_settings → ⊥)
      → (command ≡ codes "code" → length plains ≡ 1 → settings ≡ no_settings → ⊥) → (command ≡ codes "grow" → length plains ≡ 1 → ⊥) → IsNoRequest (command ∷ behind)
  no_request no_solve no_check no_code no_grow (Solve file goal workers steps most) asks =
      let same = same_sets (codes "solve") asks.behind (file ∷ goal ∷ []) asks.settings asks.spelled asks.sets in
      no_solve same.0 (ap (λ (some : List (List ℕ)). length some) same.1)
  no_request no_solve no_check no_code no_grow (Check file) asks =
      let same = same_sets (codes "check") asks.behind (file ∷ []) no_settings asks.spelled asks.sets in
      no_check same.0 (ap (λ (some : List (List ℕ)). length some) same.1) same.2
  no_request no_solve no_check no_code no_grow (Code file) asks =
      let same = same_sets (codes "code") asks.behind (file ∷ []) no_settings asks.spelled asks.sets in
      no_code same.0 (ap (λ (some : List (List ℕ)). length some) same.1) same.2
  no_request no_solve no_check no_code no_grow (Grow count workers) asks =
      let same = same_sets (codes "grow") asks.behind (asks.text ∷ []) asks.settings asks.spelled asks.sets in
      no_grow same.0 (ap (λ (some : List (List ℕ)). length some) same.1)

-- ---- a file that is not there

-- commands by a letter in which they differ
command-letters : (command one other : List ℕ) (at m n : ℕ) → command ≡ one → command ≡ other → slice_index one at ≡ m → slice_index other at ≡ n → m < n → ⊥
command-letters command one other at m n is is' letter-one letter-other less = differ m n less (sym letter-one ∙ ap (letter at) (sym is ∙ is') ∙ letter-other)

module _ (command : List ℕ) (texts : Texts) (none : (file : List ℕ) → texts ≡ file_alone file → ⊥) where
  pub no_check : command ≡ codes "check" → AsksNothing command texts
  no_check is (Solve file goal workers steps most) asked = command-letters command (codes "check") (codes "solve") 0 99 115 is asked.0 refl refl (omega arith)
  no_check is (Check file) asked = none file asked.1
  no_check is (Code file) asked = none file asked.1
  no_check is (Grow count workers) asked = command-letters command (codes "check") (codes "grow") 0 99 103 is asked.0 refl refl (omega arith)

  pub no_code : command ≡ codes "code" → AsksNothing command texts
  no_code is (Solve file goal workers steps most) asked = command-letters command (codes "code") (codes "solve") 0 99 115 is asked.0 refl refl (omega arith)
  no_code is (Check file) asked = none file asked.1
  no_code is (Code file) asked = none file asked.1
  no_code is (Grow count workers) asked = command-letters command (codes "code") (codes "grow") 0 99 103 is asked.0 refl refl (omega arith)
