-- What words set is what they give, where each text is a number.
use Rattle.std.proofs.Common.{◌≡◌, ◌∙◌, ◌<◌, ◌≤◌, ◌+◌, ◌-◌, ◌==◌, ℕ, Bool, cond, true, false, zero, suc, refl, sym, ap, subst, arith, List, [], ◌∷◌, ◌++◌, Option, Some, None, is_some, codes, true≢false, eqb-true, append-nil, append_assoc, length, take, drop, take_all, get_or}
use Rattle.std.specs.Prelude.{◌↔◌, ⊤, IfErr, IsErrAnd, Result, Ok, Err, All, IsUtf8, option_map}
use Rattle.merc_tokens.specs.Bytes.{is_digit_of}
use Rattle.merc_tokens.specs.Integers.{digits_value}
use Rattle.merc_words.specs.declared.settings.Setting.{Setting}
use Rattle.merc_words.specs.declared.settings.Setting.TheVariants.{Workers, Steps, Max}
use Rattle.merc_words.specs.declared.settings.Settings.{Settings}
use Rattle.merc_words.specs.declared.words.Request.{Request}
use Rattle.merc_words.specs.declared.words.Request.TheVariants.{Solve, Check, Code, Grow}
use Rattle.merc_words.specs.Words.{IsNoRequest, IsNumberOf, IsOfFile, IsRequest, Sets, is_option, no_settings, options_end, setting_in, setting_word, with_setting}
use Rattle.merc_words.specs.Words.Sets.{no_word as sets_none, plain_word as sets_plain, ends_options as sets_end, in_two_words as sets_two, in_one_word as sets_one}
use Rattle.merc_words.specs.Parts.{AreFresh, AreSetTo, AsksNothing, Gives, IsAskedBy, IsSetTo, Slot, Of, First, Second, Texts, Use, Uses, file_alone, place, rank, text_of, texts_in}
use Rattle.merc_words.specs.Parts.Uses.{no_word, plain_word, any_word, ends_options, in_two_words, in_one_word}

-- ---- texts of slots

abbrev pub value_of : List ℕ → ℕ
value_of text = digits_value 10 0 text

abbrev pub settings_in : List Use → Settings
settings_in uses = record {
  workers = option_map value_of (text_of (Of Workers) uses);
  steps = option_map value_of (text_of (Of Steps) uses);
  most = option_map value_of (text_of (Of Max) uses);
}

-- each text of an option is a number that it can be set to
abbrev AreNumbers : List Use → Type 0
AreNumbers [] = ⊤
AreNumbers ((Of setting, text) ∷ uses) = IsNumberOf setting text (value_of text) × AreNumbers uses
AreNumbers ((First, text) ∷ uses) = AreNumbers uses
AreNumbers ((Second, text) ∷ uses) = AreNumbers uses

-- the plain words
abbrev plains_in : List Use → List (List ℕ)
plains_in [] = []
plains_in ((Of setting, text) ∷ uses) = plains_in uses
plains_in ((First, text) ∷ uses) = text ∷ plains_in uses
plains_in ((Second, text) ∷ uses) = text ∷ plains_in uses

text_of-behind : (slot : Slot) (done more : List Use) → text_of slot done ≡ None → text_of slot (done ++ more) ≡ text_of slot more
text_of-behind slot [] more none = refl
text_of-behind slot (one ∷ done) more none = by_first (rank one.0 == rank slot) none (text_of-behind slot done more)
  where
    by_first : (b : Bool) → cond b (Some one.1) (text_of slot done) ≡ None → (text_of slot done ≡ None → text_of slot (done ++ more) ≡ text_of slot more)
        → cond b (Some one.1) (text_of slot (done ++ more)) ≡ text_of slot more
    by_first true some rest = cc
    by_first false none rest = rest none

-- a use of one slot says nothing of another
text_of-kept : (slot : Slot) (done : List Use) (one : Use) → (rank one.0 == rank slot) ≡ false → text_of slot (done ++ one ∷ []) ≡ text_of slot done
text_of-kept slot [] one other = ap (λ (b : Bool). cond b (Some one.1) None) other
text_of-kept slot (first ∷ done) one other = ap (cond (rank first.0 == rank slot) (Some first.1)) (text_of-kept slot done one other)

settings-same : (workers workers' steps steps' most most' : Option ℕ) → workers ≡ workers' → steps ≡ steps' → most ≡ most'
    → ◌≡◌ {A = Settings} (record { workers = workers; steps = steps; most = most }) (record { workers = workers'; steps = steps'; most = most' })
settings-same workers workers' steps steps' most most' same same' same'' = λ i. record { workers = same i; steps = same' i; most = same'' i }

value-kept : (slot : Slot) (done : List Use) (one : Use) → (rank one.0 == rank slot) ≡ false → option_map value_of (text_of slot (done ++ one ∷ [])) ≡ option_map value_of (text_of slot done)
value-kept slot done one other = ap (λ (o : Option (List ℕ)). option_map value_of o) (text_of-kept slot done one other)

module _ (done : List Use) (text : List ℕ) where
  value-new : (setting : Setting) → text_of (Of setting) done ≡ None → option_map value_of (text_of (Of setting) (done ++ (Of setting, text) ∷ [])) ≡ Some (value_of text)
  value-new Workers free = ap (λ (o : Option (List ℕ)). option_map value_of o) (text_of-behind (Of Workers) done ((Of Workers, text) ∷ []) free)
  value-new Steps free = ap (λ (o : Option (List ℕ)). option_map value_of o) (text_of-behind (Of Steps) done ((Of Steps, text) ∷ []) free)
  value-new Max free = ap (λ (o : Option (List ℕ)). option_map value_of o) (text_of-behind (Of Max) done ((Of Max, text) ∷ []) free)

  -- an option that is given is set
  settings-more : (setting : Setting) → text_of (Of setting) done ≡ None → with_setting setting (value_of text) (settings_in done) ≡ settings_in (done ++ (Of setting, text) ∷ [])
  settings-more Workers free =
      settings-same _ _ _ _ _ _ (sym (value-new Workers free)) (sym (value-kept (Of Steps) done (Of Workers, text) refl)) (sym (value-kept (Of Max) done (Of Workers, text) refl))
  settings-more Steps free =
      settings-same _ _ _ _ _ _ (sym (value-kept (Of Workers) done (Of Steps, text) refl)) (sym (value-new Steps free)) (sym (value-kept (Of Max) done (Of Steps, text) refl))
  settings-more Max free =
      settings-same _ _ _ _ _ _ (sym (value-kept (Of Workers) done (Of Max, text) refl)) (sym (value-kept (Of Steps) done (Of Max, text) refl)) (sym (value-new Max free))

  settings-plain : (slot : Slot) → ((setting : Setting) → (rank slot == rank (Of setting)) ≡ false) → settings_in done ≡ settings_in (done ++ (slot, text) ∷ [])
  settings-plain slot other =
      settings-same _ _ _ _ _ _ (sym (value-kept (Of Workers) done (slot, text) (other Workers))) (sym (value-kept (Of Steps) done (slot, text) (other Steps))) (sym (value-kept (Of Max) done (slot, text) (other Max)))

setting-text : (setting : Setting) (done : List Use) → setting_in setting (settings_in done) ≡ option_map value_of (text_of (Of setting) done)
setting-text Workers done = refl
setting-text Steps done = refl
setting-text Max done = refl

unset : (o : Option (List ℕ)) → option_map value_of o ≡ None → o ≡ None
unset None none = refl
unset (Some text) none = cc

place-other : (before : ℕ) (setting : Setting) → (rank (place before) == rank (Of setting)) ≡ false
place-other zero Workers = refl
place-other zero Steps = refl
place-other zero Max = refl
place-other (suc before) Workers = refl
place-other (suc before) Steps = refl
place-other (suc before) Max = refl

plains-place : (before : ℕ) (word : List ℕ) (uses : List Use) → plains_in ((place before, word) ∷ uses) ≡ word ∷ plains_in uses
plains-place zero word uses = refl
plains-place (suc before) word uses = refl

numbers-place : (before : ℕ) (word : List ℕ) (uses : List Use) → AreNumbers ((place before, word) ∷ uses) → AreNumbers uses
numbers-place zero word uses are = are
numbers-place (suc before) word uses are = are

place-numbers : (before : ℕ) (word : List ℕ) (uses : List Use) → AreNumbers uses → AreNumbers ((place before, word) ∷ uses)
place-numbers zero word uses are = are
place-numbers (suc before) word uses are = are

-- ---- what is given is set

-- behind `--` no option is set
ended : (before : ℕ) (words : List (List ℕ)) (uses : List Use) → Uses before true words uses → (done : List Use) → (settings_in done ≡ settings_in (done ++ uses)) × (plains_in uses ≡ words)
ended _ _ _ (no_word before true) done = (ap (λ (some : List Use). settings_in some) (sym (append-nil done)), refl)
ended _ _ _ (any_word before word words uses few gives) done =
    let rest = ended (suc before) words uses gives (done ++ (place before, word) ∷ []) in (
      settings-plain done word (place before) (place-other before) ∙ rest.0 ∙ ap (λ (some : List Use). settings_in some) (append_assoc done ((place before, word) ∷ []) uses),
      plains-place before word uses ∙ ap (λ (some : List (List ℕ)). word ∷ some) rest.1,
    )

sets-given : (before : ℕ) (words : List (List ℕ)) (uses : List Use) → Uses before false words uses → (done : List Use) → AreFresh done uses → AreNumbers uses
    → Sets (settings_in done) words (plains_in uses) (settings_in (done ++ uses))
sets-given _ _ _ (no_word before false) done fresh numbers =
    subst (λ (some : List Use). Sets (settings_in done) [] [] (settings_in some)) (sym (append-nil done)) (sets_none (settings_in done))
sets-given _ _ _ (plain_word before word words uses few is gives) done fresh numbers =
    let one : Use = (place before, word) in
    let rest = sets-given (suc before) words uses gives (done ++ one ∷ []) fresh.1 (numbers-place before word uses numbers) in
    let same : settings_in done ≡ settings_in (done ++ one ∷ []) = settings-plain done word (place before) (place-other before) in
    let after = settings_in (done ++ one ∷ uses) in
    subst (λ (some : List (List ℕ)). Sets (settings_in done) (word ∷ words) some after) (sym (plains-place before word uses))
    (sets_plain (settings_in done) after word words (plains_in uses) is
    (subst (λ (some : Settings). Sets some words (plains_in uses) after) (sym same)
    (subst (λ (some : List Use). Sets (settings_in (done ++ one ∷ [])) words (plains_in uses) (settings_in some)) (append_assoc done (one ∷ []) uses) rest)))
sets-given _ _ _ (ends_options before words uses gives) done fresh numbers =
    let rest = ended before words uses gives done in
    subst (λ (some : List (List ℕ)). Sets (settings_in done) (options_end ∷ words) some (settings_in (done ++ uses))) (sym rest.1)
    (subst (λ (some : Settings). Sets (settings_in done) (options_end ∷ words) words some) rest.0 (sets_end (settings_in done) words))
sets-given _ _ _ (in_two_words before setting text words uses is gives) done fresh numbers =
    let one : Use = (Of setting, text) in
    let rest = sets-given before words uses gives (done ++ one ∷ []) fresh.1 numbers.1 in
    let after = settings_in (done ++ one ∷ uses) in
    sets_two (settings_in done) after setting text (value_of text) words (plains_in uses) (setting-text setting done ∙ ap (λ (o : Option (List ℕ)). option_map value_of o) fresh.0) numbers.0
    (subst (λ (some : Settings). Sets some words (plains_in uses) after) (sym (settings-more done text setting fresh.0))
    (subst (λ (some : List Use). Sets (settings_in (done ++ one ∷ [])) words (plains_in uses) (settings_in some)) (append_assoc done (one ∷ []) uses) rest))
sets-given _ _ _ (in_one_word before setting text words uses gives) done fresh numbers =
    let one : Use = (Of setting, text) in
    let rest = sets-given before words uses gives (done ++ one ∷ []) fresh.1 numbers.1 in
    let after = settings_in (done ++ one ∷ uses) in
    sets_one (settings_in done) after setting text (value_of text) words (plains_in uses) (setting-text setting done ∙ ap (λ (o : Option (List ℕ)). option_map value_of o) fresh.0) numbers.0
    (subst (λ (some : Settings). Sets some words (plains_in uses) after) (sym (settings-more done text setting fresh.0))
    (subst (λ (some : List Use). Sets (settings_in (done ++ one ∷ [])) words (plains_in uses) (settings_in some)) (append_assoc done (one ∷ []) uses) rest))

-- ---- what is set is given

-- the places of the plain words that follow are free
abbrev AreFree : ℕ → List Use → Type 0
AreFree zero done = (text_of First done ≡ None) × (text_of Second done ≡ None)
AreFree (suc zero) done = text_of Second done ≡ None
AreFree (suc (suc before)) done = ⊤

place-free : (before : ℕ) (done : List Use) → before < 2 → AreFree before done → text_of (place before) done ≡ None
place-free zero done few free = free.0
place-free (suc zero) done few free = free
place-free (suc (suc before)) done few free = absurd (omega (arith, few))

free-place : (before : ℕ) (done : List Use) (word : List ℕ) → AreFree before done → AreFree (suc before) (done ++ (place before, word) ∷ [])
free-place zero done word free = text_of-kept Second done (First, word) refl ∙ free.1
free-place (suc before) done word free = tt

option-other : (setting : Setting) → ((rank (Of setting) == rank First) ≡ false) × ((rank (Of setting) == rank Second) ≡ false)
option-other Workers = (refl, refl)
option-other Steps = (refl, refl)
option-other Max = (refl, refl)

free-option : (before : ℕ) (done : List Use) (setting : Setting) (text : List ℕ) → AreFree before done → AreFree before (done ++ (Of setting, text) ∷ [])
free-option zero done setting text free =
    (text_of-kept First done (Of setting, text) (option-other setting).0 ∙ free.0, text_of-kept Second done (Of setting, text) (option-other setting).1 ∙ free.1)
free-option (suc zero) done setting text free = text_of-kept Second done (Of setting, text) (option-other setting).1 ∙ free
free-option (suc (suc before)) done setting text free = tt

record IsGiven (before : ℕ) (told : Bool) (words plains : List (List ℕ)) (done : List Use) : Type 0 where
  uses : List Use
  spelled : Uses before told words uses
  fresh : AreFresh done uses
  numbers : AreNumbers uses
  plains_are : plains ≡ plains_in uses

given-ended : (words : List (List ℕ)) (before : ℕ) (done : List Use) → before + length words ≤ 2 → AreFree before done → IsGiven before true words words done
given-ended [] before done few free = record { uses = []; spelled = no_word before true; fresh = tt; numbers = tt; plains_are = refl }
given-ended (word ∷ words) before done few free =
    let one : Use = (place before, word) in
    let rest = given-ended words (suc before) (done ++ one ∷ []) (omega (arith, few)) (free-place before done word free) in
    let less : before < 2 = omega (arith, few) in
    record {
      uses = one ∷ rest.uses;
      spelled = any_word before word words rest.uses less rest.spelled;
      fresh = (place-free before done less free, rest.fresh);
      numbers = place-numbers before word rest.uses rest.numbers;
      plains_are = ap (λ (some : List (List ℕ)). word ∷ some) rest.plains_are ∙ sym (plains-place before word rest.uses);
    }

-- a number does not begin with `-`
number-plain : (setting : Setting) (text : List ℕ) (number : ℕ) → IsNumberOf setting text number → is_option text ≡ false
number-plain setting [] number is = refl
number-plain setting (one ∷ []) number is = refl
number-plain setting (one ∷ two ∷ rest) number is = by_first (one == 45) refl
  where
    by_first : (b : Bool) → (one == 45) ≡ b → (one == 45) ≡ false
    by_first true is' =
        let digit : is_digit_of 10 one ≡ true = is.digits 0 one (omega arith) in
        let none : is_digit_of 10 45 ≡ true = subst (λ (some : ℕ). is_digit_of 10 some ≡ true) (eqb-true one 45 is') digit in
        absurd (true≢false (sym none))
    by_first false is' = is'

number-value : (setting : Setting) (text : List ℕ) (number : ℕ) → IsNumberOf setting text number → IsNumberOf setting text (value_of text)
number-value setting text number is = subst (λ (some : ℕ). IsNumberOf setting text some) is.value is

set-free : (setting : Setting) (done : List Use) (before : Settings) → before ≡ settings_in done → setting_in setting before ≡ None → text_of (Of setting) done ≡ None
set-free setting done before same free = unset (text_of (Of setting) done) (sym (setting-text setting done) ∙ ap (setting_in setting) (sym same) ∙ free)

set-next : (setting : Setting) (done : List Use) (before : Settings) (text : List ℕ) (number : ℕ) → before ≡ settings_in done → text_of (Of setting) done ≡ None → number ≡ value_of text
    → with_setting setting number before ≡ settings_in (done ++ (Of setting, text) ∷ [])
set-next setting done before text number same free is = (λ i. with_setting setting (is i) (same i)) ∙ settings-more done text setting free

given-set : (before : Settings) (words plains : List (List ℕ)) (after : Settings) → Sets before words plains after → (done : List Use) → before ≡ settings_in done → (count : ℕ) → count + length plains ≤ 2
    → AreFree count done → (is : IsGiven count false words plains done) × (after ≡ settings_in (done ++ is.uses))
given-set _ _ _ _ (sets_none settings) done same count few free = (
  record { uses = []; spelled = no_word count false; fresh = tt; numbers = tt; plains_are = refl },
  same ∙ ap (λ (some : List Use). settings_in some) (sym (append-nil done)),
)
given-set _ _ _ _ (sets_plain before after word words plains is sets) done same count few free =
    let one : Use = (place count, word) in
    let found =
    given-set before words plains after sets (done ++ one ∷ []) (same ∙ settings-plain done word (place count) (place-other count)) (suc count) (omega (arith, few)) (free-place count done word free) in
    let rest = found.0 in
    let less : count < 2 = omega (arith, few) in (
      record {
        uses = one ∷ rest.uses;
        spelled = plain_word count word words rest.uses less is rest.spelled;
        fresh = (place-free count done less free, rest.fresh);
        numbers = place-numbers count word rest.uses rest.numbers;
        plains_are = ap (λ (some : List (List ℕ)). word ∷ some) rest.plains_are ∙ sym (plains-place count word rest.uses);
      },
      found.1 ∙ ap (λ (some : List Use). settings_in some) (append_assoc done (one ∷ []) rest.uses),
    )
given-set _ _ _ _ (sets_end settings words) done same count few free =
    let rest = given-ended words count done few free in
    let behind = ended count words rest.uses rest.spelled done in (
      record { uses = rest.uses; spelled = ends_options count words rest.uses rest.spelled; fresh = rest.fresh; numbers = rest.numbers; plains_are = rest.plains_are },
      same ∙ behind.0,
    )
given-set _ _ _ _ (sets_two before after setting text number words plains unset is sets) done same count few free =
    let one : Use = (Of setting, text) in
    let none = set-free setting done before same unset in
    let found =
    given-set (with_setting setting number before) words plains after sets (done ++ one ∷ []) (set-next setting done before text number same none is.value) count few (free-option count done setting text free) in
    let rest = found.0 in (
      record {
        uses = one ∷ rest.uses;
        spelled = in_two_words count setting text words rest.uses (number-plain setting text number is) rest.spelled;
        fresh = (none, rest.fresh);
        numbers = (number-value setting text number is, rest.numbers);
        plains_are = rest.plains_are;
      },
      found.1 ∙ ap (λ (some : List Use). settings_in some) (append_assoc done (one ∷ []) rest.uses),
    )
given-set _ _ _ _ (sets_one before after setting text number words plains unset is sets) done same count few free =
    let one : Use = (Of setting, text) in
    let none = set-free setting done before same unset in
    let found =
    given-set (with_setting setting number before) words plains after sets (done ++ one ∷ []) (set-next setting done before text number same none is.value) count few (free-option count done setting text free) in
    let rest = found.0 in (
      record {
        uses = one ∷ rest.uses;
        spelled = in_one_word count setting text words rest.uses rest.spelled;
        fresh = (none, rest.fresh);
        numbers = (number-value setting text number is, rest.numbers);
        plains_are = rest.plains_are;
      },
      found.1 ∙ ap (λ (some : List Use). settings_in some) (append_assoc done (one ∷ []) rest.uses),
    )

-- ---- texts that are numbers

rank-setting : (one other : Setting) → (rank (Of one) == rank (Of other)) ≡ true → one ≡ other
rank-setting Workers Workers same = refl
rank-setting Workers Steps same = absurd (true≢false (sym same))
rank-setting Workers Max same = absurd (true≢false (sym same))
rank-setting Steps Workers same = absurd (true≢false (sym same))
rank-setting Steps Steps same = refl
rank-setting Steps Max same = absurd (true≢false (sym same))
rank-setting Max Workers same = absurd (true≢false (sym same))
rank-setting Max Steps same = absurd (true≢false (sym same))
rank-setting Max Max same = refl

rank-same : (slot : Slot) → (rank slot == rank slot) ≡ true
rank-same (Of Workers) = refl
rank-same (Of Steps) = refl
rank-same (Of Max) = refl
rank-same First = refl
rank-same Second = refl

place-option : (setting : Setting) → ((rank First == rank (Of setting)) ≡ false) × ((rank Second == rank (Of setting)) ≡ false)
place-option Workers = (refl, refl)
place-option Steps = (refl, refl)
place-option Max = (refl, refl)

-- a text that an option is given is a number that it can be set to
number-found : (uses : List Use) → AreNumbers uses → (setting : Setting) (text : List ℕ) → text_of (Of setting) uses ≡ Some text → IsNumberOf setting text (value_of text)
number-found [] are setting text found = absurd (cc)
number-found ((Of other, word) ∷ uses) are setting text found = by_first (rank (Of other) == rank (Of setting)) refl found (number-found uses are.1 setting text)
  where
    by_first : (b : Bool) → (rank (Of other) == rank (Of setting)) ≡ b → cond b (Some word) (text_of (Of setting) uses) ≡ Some text
        → (text_of (Of setting) uses ≡ Some text → IsNumberOf setting text (value_of text)) → IsNumberOf setting text (value_of text)
    by_first true is found rest =
        let same : word ≡ text = cc in
        subst (λ (some : List ℕ). IsNumberOf setting some (value_of some)) same (subst (λ (some : Setting). IsNumberOf some word (value_of word)) (rank-setting other setting is) are.0)
    by_first false is found rest = rest found
number-found ((First, word) ∷ uses) are setting text found =
    number-found uses are setting text (sym (ap (λ (b : Bool). cond b (Some word) (text_of (Of setting) uses)) (place-option setting).0) ∙ found)
number-found ((Second, word) ∷ uses) are setting text found =
    number-found uses are setting text (sym (ap (λ (b : Bool). cond b (Some word) (text_of (Of setting) uses)) (place-option setting).1) ∙ found)

-- and so they are, each of them, where each option's text is
numbers-all : (done uses : List Use) → AreFresh done uses → ((setting : Setting) (text : List ℕ) → text_of (Of setting) (done ++ uses) ≡ Some text → IsNumberOf setting text (value_of text)) → AreNumbers uses
numbers-all done [] fresh are = tt
numbers-all done ((Of setting, text) ∷ uses) fresh are = (
  are setting text (text_of-behind (Of setting) done ((Of setting, text) ∷ uses) fresh.0 ∙ ap (λ (b : Bool). cond b (Some text) (text_of (Of setting) uses)) (rank-same (Of setting))),
  numbers-all (done ++ (Of setting, text) ∷ []) uses fresh.1 (λ other word found. are other word (ap (λ (some : List Use). text_of (Of other) some) (sym (append_assoc done ((Of setting, text) ∷ []) uses)) ∙ found)),
)
numbers-all done ((First, text) ∷ uses) fresh are =
    numbers-all (done ++ (First, text) ∷ []) uses fresh.1 (λ other word found. are other word (ap (λ (some : List Use). text_of (Of other) some) (sym (append_assoc done ((First, text) ∷ []) uses)) ∙ found))
numbers-all done ((Second, text) ∷ uses) fresh are =
    numbers-all (done ++ (Second, text) ∷ []) uses fresh.1 (λ other word found. are other word (ap (λ (some : List Use). text_of (Of other) some) (sym (append_assoc done ((Second, text) ∷ []) uses)) ∙ found))

set-value : (setting : Setting) (text : Option (List ℕ)) (number : Option ℕ) → IsSetTo setting text number → number ≡ option_map value_of text
set-value setting None None is = refl
set-value setting None (Some number) is = absurd is
set-value setting (Some text) None is = absurd is
set-value setting (Some text) (Some number) is = ap (λ (some : ℕ). Some some) is.value

value-set : (setting : Setting) (text : Option (List ℕ)) → ((word : List ℕ) → text ≡ Some word → IsNumberOf setting word (value_of word)) → IsSetTo setting text (option_map value_of text)
value-set setting None are = tt
value-set setting (Some text) are = are text refl

set-number : (setting : Setting) (text : Option (List ℕ)) (number : Option ℕ) → IsSetTo setting text number → (word : List ℕ) → text ≡ Some word → IsNumberOf setting word (value_of word)
set-number setting None number is word same = absurd (cc)
set-number setting (Some text) None is word same = absurd is
set-number setting (Some text) (Some number) is word same =
    let equal : text ≡ word = cc in
    subst (λ (some : List ℕ). IsNumberOf setting some (value_of some)) equal (number-value setting text number is)

numbers-set : (uses : List Use) → AreNumbers uses → AreSetTo (texts_in uses) (settings_in uses)
numbers-set uses are = record {
  workers = value-set Workers (text_of (Of Workers) uses) (number-found uses are Workers);
  steps = value-set Steps (text_of (Of Steps) uses) (number-found uses are Steps);
  most = value-set Max (text_of (Of Max) uses) (number-found uses are Max);
}

set-numbers : (uses : List Use) (settings : Settings) → AreFresh [] uses → AreSetTo (texts_in uses) settings → AreNumbers uses × (settings ≡ settings_in uses)
set-numbers uses settings fresh are = (
  numbers-all [] uses fresh by_setting,
  settings-same _ _ _ _ _ _ (set-value Workers (text_of (Of Workers) uses) settings.workers are.workers) (set-value Steps (text_of (Of Steps) uses) settings.steps are.steps)
      (set-value Max (text_of (Of Max) uses) settings.most are.most),
)
  where
    by_setting : (setting : Setting) (text : List ℕ) → text_of (Of setting) uses ≡ Some text → IsNumberOf setting text (value_of text)
    by_setting Workers = set-number Workers (text_of (Of Workers) uses) settings.workers are.workers
    by_setting Steps = set-number Steps (text_of (Of Steps) uses) settings.steps are.steps
    by_setting Max = set-number Max (text_of (Of Max) uses) settings.most are.most

-- ---- the plain words

abbrev pub single : Option (List ℕ) → List (List ℕ)
single None = []
single (Some word) = word ∷ []

abbrev pub listed : Option (List ℕ) → Option (List ℕ) → List (List ℕ)
listed None second = []
listed (Some first) second = first ∷ single second

abbrev ArePlaced : ℕ → List Use → Type 0
ArePlaced zero uses = (plains_in uses ≡ listed (text_of First uses) (text_of Second uses)) × (text_of First uses ≡ None → text_of Second uses ≡ None)
ArePlaced (suc zero) uses = plains_in uses ≡ single (text_of Second uses)
ArePlaced (suc (suc before)) uses = plains_in uses ≡ []

placed-option : (before : ℕ) (setting : Setting) (text : List ℕ) (uses : List Use) → ArePlaced before uses → ArePlaced before ((Of setting, text) ∷ uses)
placed-option zero Workers text uses placed = placed
placed-option zero Steps text uses placed = placed
placed-option zero Max text uses placed = placed
placed-option (suc zero) Workers text uses placed = placed
placed-option (suc zero) Steps text uses placed = placed
placed-option (suc zero) Max text uses placed = placed
placed-option (suc (suc before)) setting text uses placed = placed

placed-word : (before : ℕ) (word : List ℕ) (uses : List Use) → before < 2 → ArePlaced (suc before) uses → ArePlaced before ((place before, word) ∷ uses)
placed-word zero word uses few placed = (ap (λ (some : List (List ℕ)). word ∷ some) placed, λ none. absurd (cc))
placed-word (suc zero) word uses few placed = ap (λ (some : List (List ℕ)). word ∷ some) placed
placed-word (suc (suc before)) word uses few placed = absurd (omega (arith, few))

placed-none : (before : ℕ) → ArePlaced before []
placed-none zero = (refl, λ none. refl)
placed-none (suc zero) = refl
placed-none (suc (suc before)) = refl

are-placed : (before : ℕ) (told : Bool) (words : List (List ℕ)) (uses : List Use) → Uses before told words uses → ArePlaced before uses
are-placed _ _ _ _ (no_word before told) = placed-none before
are-placed _ _ _ _ (plain_word before word words uses few is gives) = placed-word before word uses few (are-placed (suc before) false words uses gives)
are-placed _ _ _ _ (any_word before word words uses few gives) = placed-word before word uses few (are-placed (suc before) true words uses gives)
are-placed _ _ _ _ (ends_options before words uses gives) = are-placed before true words uses gives
are-placed _ _ _ _ (in_two_words before setting text words uses is gives) = placed-option before setting text uses (are-placed before false words uses gives)
are-placed _ _ _ _ (in_one_word before setting text words uses gives) = placed-option before setting text uses (are-placed before false words uses gives)

listed-two : (one other : Option (List ℕ)) (file goal : List ℕ) → file ∷ goal ∷ [] ≡ listed one other → (one ≡ Some file) × (other ≡ Some goal)
listed-two None other file goal same = cc
listed-two (Some first) None file goal same = cc
listed-two (Some first) (Some second) file goal same = (let equal : file ≡ first = cc in ap (λ (some : List ℕ). Some some) (sym equal), let equal : goal ≡ second = cc in ap (λ (some : List ℕ). Some some) (sym equal))

listed-one : (one other : Option (List ℕ)) (file : List ℕ) → file ∷ [] ≡ listed one other → (one ≡ Some file) × (other ≡ None)
listed-one None other file same = cc
listed-one (Some first) None file same = (let equal : file ≡ first = cc in ap (λ (some : List ℕ). Some some) (sym equal), refl)
listed-one (Some first) (Some second) file same = cc

-- ---- requests

no_texts : (uses : List Use) → no_settings ≡ settings_in uses → (text_of (Of Workers) uses ≡ None) × (text_of (Of Steps) uses ≡ None) × (text_of (Of Max) uses ≡ None)
no_texts uses same = (
  unset (text_of (Of Workers) uses) (sym (ap (λ (settings : Settings). settings.workers) same)),
  unset (text_of (Of Steps) uses) (sym (ap (λ (settings : Settings). settings.steps) same)),
  unset (text_of (Of Max) uses) (sym (ap (λ (settings : Settings). settings.most) same)),
)

texts-same : (first first' second second' workers workers' steps steps' most most' : Option (List ℕ)) → first ≡ first' → second ≡ second' → workers ≡ workers' → steps ≡ steps' → most ≡ most'
    → ◌≡◌ {A = Texts} (record { first = first; second = second; workers = workers; steps = steps; most = most })
    (record { first = first'; second = second'; workers = workers'; steps = steps'; most = most' })
texts-same first first' second second' workers workers' steps steps' most most' a b c d e = λ i. record { first = a i; second = b i; workers = c i; steps = d i; most = e i }

-- words that set something give texts that say so
pub record Parted (behind plains : List (List ℕ)) (settings : Settings) : Type 0 where
  pub uses : List Use
  pub gives : Gives behind (texts_in uses)
  pub plains_are : plains ≡ listed (text_of First uses) (text_of Second uses)
  pub settings_are : settings ≡ settings_in uses
  pub set : AreSetTo (texts_in uses) (settings_in uses)

pub parted : (behind plains : List (List ℕ)) (settings : Settings) → Sets no_settings behind plains settings → length plains ≤ 2 → Parted behind plains settings
parted behind plains settings sets few =
    let found = given-set no_settings behind plains settings sets [] refl 0 (omega (arith, few)) (refl, refl) in
    let is = found.0 in
    let placed = are-placed 0 false behind is.uses is.spelled in
    record {
      uses = is.uses;
      gives = record { uses = is.uses; spelled = is.spelled; once = is.fresh; texts_are = refl };
      plains_are = is.plains_are ∙ placed.0;
      settings_are = found.1;
      set = numbers-set is.uses is.numbers;
    }

-- texts that are numbers set something
module _ (behind : List (List ℕ)) (texts : Texts) (gives : Gives behind texts) (settings : Settings) (are : AreSetTo texts settings) where
  uses_set : AreNumbers gives.uses × (settings ≡ settings_in gives.uses)
  uses_set = set-numbers gives.uses settings gives.once (subst (λ (some : Texts). AreSetTo some settings) gives.texts_are are)

  plains_listed : plains_in gives.uses ≡ listed texts.first texts.second
  plains_listed =
      (are-placed 0 false behind gives.uses gives.spelled).0 ∙ (λ i. listed (sym (ap (λ (some : Texts). some.first) gives.texts_are) i) (sym (ap (λ (some : Texts). some.second) gives.texts_are) i))

  pub united : Sets no_settings behind (listed texts.first texts.second) settings
  united =
      subst (λ (some : Settings). Sets no_settings behind (listed texts.first texts.second) some) (sym uses_set.1)
      (subst (λ (some : List (List ℕ)). Sets no_settings behind some (settings_in gives.uses)) plains_listed
      (sets-given 0 behind gives.uses gives.spelled [] gives.once uses_set.0))

module _ (command : List ℕ) (behind : List (List ℕ)) where
  -- what the texts ask for is asked by the words
  module _ (utf8 : All IsUtf8 (command ∷ behind)) (texts : Texts) (gives : Gives behind texts) where
    file-request : (word file : List ℕ) → command ≡ word → texts ≡ file_alone file → IsOfFile word (command ∷ behind) file
    file-request word file same is = record {
      behind = behind;
      spelled = ap (λ (some : List ℕ). some ∷ behind) same;
      utf8 = utf8;
      sets = united behind (file_alone file) (subst (λ (some : Texts). Gives behind some) is gives) no_settings (record { workers = tt; steps = tt; most = tt });
    }

    pub asked-request : (request : Request) → IsAskedBy command texts request → IsRequest (command ∷ behind) request
    asked-request (Solve file goal workers steps most) (is, first, second, (settings, are, workers_are, steps_are, most_is)) = record {
      behind = behind;
      spelled = ap (λ (some : List ℕ). some ∷ behind) is;
      utf8 = utf8;
      settings = settings;
      sets = subst (λ (some : List (List ℕ)). Sets no_settings behind some settings) (λ i. listed (first i) (second i)) (united behind texts gives settings are);
      workers_are = workers_are;
      steps_are = steps_are;
      most_is = most_is;
    }
    asked-request (Check file) asked = file-request (codes "check") file asked.0 asked.1
    asked-request (Code file) asked = file-request (codes "code") file asked.0 asked.1
    asked-request (Grow count workers) (is, no_second, no_steps, no_most, (text, first, number), (set, are, workers_are)) =
        let settings : Settings = record { workers = set; steps = None; most = None } in
        let all : AreSetTo texts settings = record {
          workers = are;
          steps = subst (λ (some : Option (List ℕ)). IsSetTo Steps some None) (sym no_steps) tt;
          most = subst (λ (some : Option (List ℕ)). IsSetTo Max some None) (sym no_most) tt;
        } in
        record {
          behind = behind;
          spelled = ap (λ (some : List ℕ). some ∷ behind) is;
          utf8 = utf8;
          text = text;
          settings = settings;
          sets = subst (λ (some : List (List ℕ)). Sets no_settings behind some settings) (λ i. listed (first i) (no_second i)) (united behind texts gives settings all);
          count_is = number;
          workers_are = workers_are;
          no_steps = refl;
          no_most = refl;
        }

  head_is : (word : List ℕ) (rest : List (List ℕ)) → command ∷ behind ≡ word ∷ rest → command ≡ word
  head_is word rest same = cc

  tail_is : (word : List ℕ) (rest : List (List ℕ)) → command ∷ behind ≡ word ∷ rest → rest ≡ behind
  tail_is word rest same = cc

  file-asked : (word file : List ℕ) → IsOfFile word (command ∷ behind) file → (texts : Texts) × Gives behind texts × ((command ≡ word) × (texts ≡ file_alone file))
  file-asked word file asks =
      let sets = subst (λ (some : List (List ℕ)). Sets no_settings some (file ∷ []) no_settings) (tail_is word asks.behind asks.spelled) asks.sets in
      let found = parted behind (file ∷ []) no_settings sets (omega arith) in
      let plains = listed-one (text_of First found.uses) (text_of Second found.uses) file found.plains_are in
      let none = no_texts found.uses found.settings_are in
      (texts_in found.uses, found.gives, (head_is word asks.behind asks.spelled, texts-same _ _ _ _ _ _ _ _ _ _ plains.0 plains.1 none.0 none.1 none.2))

  -- what the words ask for is asked by texts that they give
  pub request-asked : (request : Request) → IsRequest (command ∷ behind) request → (texts : Texts) × Gives behind texts × IsAskedBy command texts request
  request-asked (Solve file goal workers steps most) asks =
      let sets = subst (λ (some : List (List ℕ)). Sets no_settings some (file ∷ goal ∷ []) asks.settings) (tail_is (codes "solve") asks.behind asks.spelled) asks.sets in
      let found = parted behind (file ∷ goal ∷ []) asks.settings sets (omega arith) in
      let plains = listed-two (text_of First found.uses) (text_of Second found.uses) file goal found.plains_are in (
        texts_in found.uses,
        found.gives,
        (
          head_is (codes "solve") asks.behind asks.spelled,
          plains.0,
          plains.1,
          (asks.settings, subst (λ (some : Settings). AreSetTo (texts_in found.uses) some) (sym found.settings_are) found.set, asks.workers_are, asks.steps_are, asks.most_is),
        ),
      )
  request-asked (Check file) asks = file-asked (codes "check") file asks
  request-asked (Code file) asks = file-asked (codes "code") file asks
  request-asked (Grow count workers) asks =
      let sets = subst (λ (some : List (List ℕ)). Sets no_settings some (asks.text ∷ []) asks.settings) (tail_is (codes "grow") asks.behind asks.spelled) asks.sets in
      let found = parted behind (asks.text ∷ []) asks.settings sets (omega arith) in
      let plains = listed-one (text_of First found.uses) (text_of Second found.uses) asks.text found.plains_are in (
        texts_in found.uses,
        found.gives,
        (
          head_is (codes "grow") asks.behind asks.spelled,
          plains.1,
          unset (text_of (Of Steps) found.uses) (sym (ap (λ (settings : Settings). settings.steps) found.settings_are) ∙ asks.no_steps),
          unset (text_of (Of Max) found.uses) (sym (ap (λ (settings : Settings). settings.most) found.settings_are) ∙ asks.no_most),
          (asks.text, plains.0, asks.count_is),
          (
            asks.settings.workers,
            subst (λ (some : Option ℕ). IsSetTo Workers (text_of (Of Workers) found.uses) some) (sym (ap (λ (settings : Settings). settings.workers) found.settings_are)) found.set.workers,
            asks.workers_are,
          ),
        ),
      )

-- ---- words that are read

pub request-utf8 : (words : List (List ℕ)) (request : Request) → IsRequest words request → All IsUtf8 words
request-utf8 words (Solve file goal workers steps most) asks = asks.utf8
request-utf8 words (Check file) asks = asks.utf8
request-utf8 words (Code file) asks = asks.utf8
request-utf8 words (Grow count workers) asks = asks.utf8

no_first : (words : List (List ℕ)) (word : List ℕ) (behind : List (List ℕ)) → words ≡ [] → words ≡ word ∷ behind → ⊥
no_first words word behind none some = let same : [] ≡ word ∷ behind = sym none ∙ some in cc

pub no_words : (words : List (List ℕ)) → words ≡ [] → IsNoRequest words
no_words words none (Solve file goal workers steps most) asks = no_first words (codes "solve") asks.behind none asks.spelled
no_words words none (Check file) asks = no_first words (codes "check") asks.behind none asks.spelled
no_words words none (Code file) asks = no_first words (codes "code") asks.behind none asks.spelled
no_words words none (Grow count workers) asks = no_first words (codes "grow") asks.behind none asks.spelled

module _ (words : List (List ℕ)) (command : List ℕ) (behind : List (List ℕ)) (spelled : words ≡ command ∷ behind) where
  asks-parted : (request : Request) → IsRequest words request → (texts : Texts) × Gives behind texts × IsAskedBy command texts request
  asks-parted request asks = request-asked command behind request (subst (λ (some : List (List ℕ)). IsRequest some request) spelled asks)

  -- words that cannot be parted
  pub unparted : ((texts : Texts) → Gives behind texts → ⊥) → IsNoRequest words
  unparted none request asks = let found = asks-parted request asks in none found.0 found.1

  module _ (utf8 : All IsUtf8 words) (texts : Texts) (only : (some : Texts) → Gives behind some ↔ (some ≡ texts)) where
    pub read-request : (request : Request) → IsAskedBy command texts request → IsRequest words request
    read-request request asked =
        subst (λ (some : List (List ℕ)). IsRequest some request) (sym spelled)
        (asked-request command behind (subst (λ (some : List (List ℕ)). All IsUtf8 some) spelled utf8) texts ((only texts).1 refl) request asked)

    pub read-nothing : AsksNothing command texts → IsNoRequest words
    read-nothing none request asks =
        let found = asks-parted request asks in
        none request (subst (λ (some : Texts). IsAskedBy command some request) ((only found.0).0 found.1) found.2)

-- ---- the first word and those behind it

abbrev pub behind_first : {A : Type 0} → List A → List A
behind_first words = take (length words - 1) (drop 1 words)

pub front_of : {A : Type 0} (words : List A) (word : A) → 1 ≤ length words → word ≡ get_or words 0 word → words ≡ word ∷ behind_first words
front_of [] word some is = absurd (omega (arith, some))
front_of {A} (first ∷ rest) word some is =
    let all : take (length (first ∷ rest) - 1) rest ≡ rest = take_all (length (first ∷ rest) - 1) rest (omega arith) in
    ap (λ (some : A). some ∷ rest) (sym is) ∙ ap (λ (some : List A). word ∷ some) (sym all)

pub none_behind : {A : Type 0} (words : List A) → length words < 1 → words ≡ []
none_behind [] few = refl
none_behind (first ∷ rest) few = absurd (omega (arith, few))

pub front_at : {A : Type 0} (words : List A) (d : A) → 1 ≤ length words → words ≡ get_or words 0 d ∷ behind_first words
front_at [] d some = absurd (omega (arith, some))
front_at {A} (first ∷ rest) d some =
    let all : take (length (first ∷ rest) - 1) rest ≡ rest = take_all (length (first ∷ rest) - 1) rest (omega arith) in
    ap (λ (some : List A). first ∷ some) (sym all)

pub behind-utf8 : (command : List ℕ) (behind : List (List ℕ)) → All IsUtf8 (command ∷ behind) → All IsUtf8 behind
behind-utf8 command behind all = λ k d below. all (suc k) d (omega (arith, below))

one_on : (k : ℕ) → suc k + 1 ≡ suc (k + 1)
one_on k = omega arith

pub take_next : {A : Type 0} (words : List A) (k : ℕ) (d : A) → k < length words → take (k + 1) words ≡ take k words ++ get_or words k d ∷ []
take_next [] k d below = absurd (omega (arith, below))
take_next (first ∷ rest) zero d below = refl
take_next {A} (first ∷ rest) (suc k) d below =
    ap (λ (n : ℕ). take n (first ∷ rest)) (one_on k) ∙ ap (λ (some : List A). first ∷ some) (take_next rest k d (omega (arith, below)))

pub passed_up : {T E : Type 0} (r : Result T E) (e : E) (P : E → Type 0) → IsErrAnd r (λ y. y ≡ e) → P e → IfErr r P
passed_up (Ok x) e P is p = tt
passed_up (Err y) e P is p = subst P (sym is) p
