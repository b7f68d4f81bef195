-- Worked examples of options: what holds, and what does not.
use Rattle.std.specs.Prelude.{◌≡◌, ◌≤◌, ◌*◌, ℕ, true, All, List, [], ◌∷◌, length, Option, Some, None, codes, refl}
use Rattle.std.proofs.Common.{◌∙◌, arith, lit<, lit≤, ap, sym, slice_index}
use Rattle.std.proofs.lemmas.Bool.{false≢true}
use Rattle.std.proofs.lemmas.List.Elements.{All-cons, All-nil}
use Rattle.merc_tokens.specs.Bytes.{is_digit_of}
use Rattle.merc_words.specs.declared.settings.Setting.{Setting}
use Rattle.merc_words.specs.declared.settings.Setting.TheVariants.{Workers, Steps, Max}
use Rattle.merc_words.specs.declared.settings.Settings.{Settings}
use Rattle.merc_words.specs.Words.{IsNumberIn, IsNumberOf, Sets, default_steps, default_workers, digit_limit, greatest, greatest_count, is_option, least, least_count, no_settings, options_end, setting_in, setting_word, with_setting}
use Rattle.merc_words.specs.Words.Sets.{no_word, plain_word, ends_options, in_two_words, in_one_word}
use Rattle.merc_words.proofs.Options.{IsKind, Name, NamesNot, Unknown, differ, opened, opened-assigned, opened-name, sets-unique}

-- ---- numbers

pub setting_word-example : setting_word Max ≡ codes "--max"
setting_word-example = refl

pub setting_word-counterexample : setting_word Max ≡ setting_word Steps → ⊥
setting_word-counterexample same = differ 109 115 (omega arith) (ap (λ (text : List ℕ). slice_index text 2) same)

pub setting_word-workers : setting_word Workers ≡ codes "--workers"
setting_word-workers = refl

pub setting_word-steps : setting_word Steps ≡ codes "--steps"
setting_word-steps = refl

-- no answer is no bound
pub least-example : least Max ≡ 1
least-example = refl

-- and no worker is none that runs
pub least-workers : least Workers ≡ 1
least-workers = refl

pub least-counterexample : least Steps ≡ 1 → ⊥
least-counterexample same = differ 0 1 (omega arith) same

pub greatest-example : greatest Steps ≡ 1000 * (1000 * 1000)
unfolding greatest
greatest-example = refl

pub greatest-answers : greatest Max ≡ greatest Steps
unfolding greatest
greatest-answers = refl

pub greatest-workers : greatest Workers ≡ 64
unfolding greatest
greatest-workers = refl

pub greatest-counterexample : greatest Workers ≡ greatest Steps → ⊥
unfolding greatest
greatest-counterexample same = differ 64 1000000000 (omega arith) same

pub default_workers-example : default_workers ≡ 4
default_workers-example = refl

pub least_count-example : least_count ≡ 1
least_count-example = refl

pub greatest_count-example : greatest_count ≡ 2 * 1000
greatest_count-example = refl

pub default_steps-example : default_steps ≡ 1000 * 1000
unfolding default_steps
default_steps-example = refl

-- it has as many digits as a number may have
pub digit_limit-example : length (codes "1000000000") ≡ digit_limit
digit_limit-example = refl

-- leading zeros say nothing
pub IsNumberOf-example : IsNumberOf Steps (codes "007") 7
unfolding greatest
IsNumberOf-example = record {
  digits = All-cons (λ (byte : ℕ). is_digit_of 10 byte ≡ true) 48 (codes "07") refl
      (All-cons (λ (byte : ℕ). is_digit_of 10 byte ≡ true) 48 (codes "7") refl (All-cons (λ (byte : ℕ). is_digit_of 10 byte ≡ true) 55 [] refl (All-nil (λ (byte : ℕ). is_digit_of 10 byte ≡ true))));
  some = lit≤ tt;
  few = lit≤ tt;
  value = refl;
  not_less = lit≤ tt;
  not_more = lit≤ tt;
}

pub IsNumberOf-one : IsNumberOf Max (codes "1") 1
unfolding greatest
IsNumberOf-one = record {
  digits = All-cons (λ (byte : ℕ). is_digit_of 10 byte ≡ true) 49 [] refl (All-nil (λ (byte : ℕ). is_digit_of 10 byte ≡ true));
  some = lit≤ tt;
  few = lit≤ tt;
  value = refl;
  not_less = lit≤ tt;
  not_more = lit≤ tt;
}

-- the greatest itself
pub IsNumberOf-greatest : IsNumberOf Max (codes "1000000000") 1000000000
unfolding greatest
IsNumberOf-greatest = record {
  digits = digit 49 (codes "000000000") refl (digit 48 (codes "00000000") refl (digit 48 (codes "0000000") refl (digit 48 (codes "000000") refl (digit 48 (codes "00000") refl
      (digit 48 (codes "0000") refl (digit 48 (codes "000") refl (digit 48 (codes "00") refl (digit 48 (codes "0") refl (digit 48 [] refl (All-nil (λ (byte : ℕ). is_digit_of 10 byte ≡ true)))))))))));
  some = lit≤ tt;
  few = lit≤ tt;
  value = refl;
  not_less = lit≤ tt;
  not_more = lit≤ tt;
}
  where
    digit : (byte : ℕ) (text : List ℕ) → is_digit_of 10 byte ≡ true → All (λ (byte : ℕ). is_digit_of 10 byte ≡ true) text → All (λ (byte : ℕ). is_digit_of 10 byte ≡ true) (byte ∷ text)
    digit byte text is all = All-cons (λ (byte : ℕ). is_digit_of 10 byte ≡ true) byte text is all

-- the empty text
pub IsNumberOf-empty : (setting : Setting) (number : ℕ) → IsNumberOf setting [] number → ⊥
IsNumberOf-empty setting number is = let some : 1 ≤ 0 = is.some in omega (arith, some)

-- eleven digits
pub IsNumberOf-long : (setting : Setting) (number : ℕ) → IsNumberOf setting (codes "00000000007") number → ⊥
IsNumberOf-long setting number is = let few : 11 ≤ 10 = is.few in omega (arith, few)

-- a sign
pub IsNumberOf-sign : (setting : Setting) (number : ℕ) → IsNumberOf setting (codes "+7") number → ⊥
IsNumberOf-sign setting number is = let sign : is_digit_of 10 43 ≡ true = is.digits 0 43 (lit< tt) in false≢true sign

-- no digit at all
pub IsNumberOf-letter : (setting : Setting) (number : ℕ) → IsNumberOf setting (codes "7a") number → ⊥
IsNumberOf-letter setting number is = let letter : is_digit_of 10 97 ≡ true = is.digits 1 97 (lit< tt) in false≢true letter

-- 0 is a number of steps, and no bound of the answers
pub IsNumberOf-zero : IsNumberOf Steps (codes "0") 0
unfolding greatest
IsNumberOf-zero = record {
  digits = All-cons (λ (byte : ℕ). is_digit_of 10 byte ≡ true) 48 [] refl (All-nil (λ (byte : ℕ). is_digit_of 10 byte ≡ true));
  some = lit≤ tt;
  few = lit≤ tt;
  value = refl;
  not_less = lit≤ tt;
  not_more = lit≤ tt;
}

pub IsNumberOf-no_answer : (number : ℕ) → IsNumberOf Max (codes "0") number → ⊥
IsNumberOf-no_answer number is = let value : number ≡ 0 = is.value in let low : 1 ≤ number = is.not_less in omega (arith, value, low)

-- one more than the greatest
pub IsNumberOf-past : (number : ℕ) → IsNumberOf Max (codes "1000000001") number → ⊥
unfolding greatest
IsNumberOf-past number is = let value : number ≡ 1000000001 = is.value in let high : number ≤ 1000000000 = is.not_more in omega (arith, value, high)

pub IsNumberOf-many_steps : (number : ℕ) → IsNumberOf Steps (codes "1000000001") number → ⊥
unfolding greatest
IsNumberOf-many_steps number is = let value : number ≡ 1000000001 = is.value in let high : number ≤ 1000000000 = is.not_more in omega (arith, value, high)

-- 64 workers, and one more
pub IsNumberOf-workers : IsNumberOf Workers (codes "64") 64
unfolding greatest
IsNumberOf-workers = record {
  digits = All-cons (λ (byte : ℕ). is_digit_of 10 byte ≡ true) 54 (codes "4") refl (All-cons (λ (byte : ℕ). is_digit_of 10 byte ≡ true) 52 [] refl (All-nil (λ (byte : ℕ). is_digit_of 10 byte ≡ true)));
  some = lit≤ tt;
  few = lit≤ tt;
  value = refl;
  not_less = lit≤ tt;
  not_more = lit≤ tt;
}

pub IsNumberOf-many_workers : (number : ℕ) → IsNumberOf Workers (codes "65") number → ⊥
unfolding greatest
IsNumberOf-many_workers number is = let value : number ≡ 65 = is.value in let high : number ≤ 64 = is.not_more in omega (arith, value, high)

pub IsNumberOf-no_worker : (number : ℕ) → IsNumberOf Workers (codes "0") number → ⊥
IsNumberOf-no_worker number is = let value : number ≡ 0 = is.value in let low : 1 ≤ number = is.not_less in omega (arith, value, low)

-- a module of two predicates, and one of more than the greatest has
pub IsNumberIn-example : IsNumberIn least_count greatest_count (codes "2") 2
IsNumberIn-example = record {
  digits = All-cons (λ (byte : ℕ). is_digit_of 10 byte ≡ true) 50 [] refl (All-nil (λ (byte : ℕ). is_digit_of 10 byte ≡ true));
  some = lit≤ tt;
  few = lit≤ tt;
  value = refl;
  not_less = lit≤ tt;
  not_more = lit≤ tt;
}

pub IsNumberIn-counterexample : (number : ℕ) → IsNumberIn least_count greatest_count (codes "2001") number → ⊥
IsNumberIn-counterexample number is = let value : number ≡ 2001 = is.value in let high : number ≤ 2000 = is.not_more in omega (arith, value, high)

-- another number than the digits'
pub IsNumberOf-other : IsNumberOf Steps (codes "007") 8 → ⊥
IsNumberOf-other is = let value : 8 ≡ 7 = is.value in omega (arith, value)

-- ---- settings

pub set_unset : (number : ℕ) → ◌≡◌ {A = Option ℕ} (Some number) None → ⊥
set_unset number same = cc

abbrev three_steps : Settings
three_steps = record { workers = None; steps = Some 3; most = None }

pub setting_in-example : setting_in Steps three_steps ≡ Some 3
setting_in-example = refl

pub setting_in-counterexample : setting_in Max three_steps ≡ Some 3 → ⊥
setting_in-counterexample same = cc

pub no_settings-example : setting_in Steps no_settings ≡ None
no_settings-example = refl

pub with_setting-example : with_setting Max 1 three_steps ≡ record { workers = None; steps = Some 3; most = Some 1 }
with_setting-example = refl

pub with_setting-steps : with_setting Steps 7 (with_setting Max 1 no_settings) ≡ record { workers = None; steps = Some 7; most = Some 1 }
with_setting-steps = refl

pub with_setting-workers : with_setting Workers 2 three_steps ≡ record { workers = Some 2; steps = Some 3; most = None }
with_setting-workers = refl

-- each option sets its own
pub with_setting-counterexample : with_setting Max 1 no_settings ≡ with_setting Steps 1 no_settings → ⊥
with_setting-counterexample same = set_unset 1 (ap (λ (settings : Settings). settings.most) same)

-- ---- kinds of words

-- no option is abbreviated
short_steps : NamesNot Steps (codes "--step")
short_steps = (λ same. cc, λ text same. cc)

short_workers : NamesNot Workers (codes "--step")
short_workers = (
  λ same. differ 115 119 (omega arith) (ap (λ (word : List ℕ). slice_index word 2) same),
  λ text same. differ 115 119 (omega arith) (ap (λ (word : List ℕ). slice_index word 2) same),
)

short_max : NamesNot Max (codes "--step")
short_max = (
  λ same. differ 109 115 (omega arith) (sym (ap (λ (word : List ℕ). slice_index word 2) same)),
  λ text same. differ 109 115 (omega arith) (sym (ap (λ (word : List ℕ). slice_index word 2) same)),
)

short_names : (setting : Setting) → NamesNot setting (codes "--step")
short_names Workers = short_workers
short_names Steps = short_steps
short_names Max = short_max

pub NamesNot-example : NamesNot Steps (codes "--step")
NamesNot-example = short_steps

pub NamesNot-counterexample : NamesNot Steps (codes "--steps=") → ⊥
NamesNot-counterexample not = not.1 [] refl

pub IsKind-unknown : IsKind (codes "--step") Unknown
IsKind-unknown = (refl, λ same. cc, short_names)

pub options_end-example : is_option options_end ≡ true
options_end-example = refl

-- ---- what words set

abbrev file : List ℕ
file = codes "one.m"

abbrev goal : List ℕ
goal = codes "p"

abbrev plains : List (List ℕ)
plains = file ∷ goal ∷ []

pub Sets-nothing : Sets no_settings [] [] no_settings
Sets-nothing = no_word no_settings

-- words that are no options, with whatever was set before them
pub Sets-plain : (settings : Settings) → Sets settings plains plains settings
Sets-plain settings = plain_word settings settings file (goal ∷ []) (goal ∷ []) refl (plain_word settings settings goal [] [] refl (no_word settings))

-- a word that follows `--` may look as an option does
pub Sets-end : Sets no_settings (codes "--" ∷ codes "--steps" ∷ goal ∷ []) (codes "--steps" ∷ goal ∷ []) no_settings
Sets-end = ends_options no_settings (codes "--steps" ∷ goal ∷ [])

pub Sets-two_words : Sets no_settings (codes "--steps" ∷ codes "007" ∷ plains) plains (with_setting Steps 7 no_settings)
Sets-two_words = in_two_words no_settings (with_setting Steps 7 no_settings) Steps (codes "007") 7 plains plains refl IsNumberOf-example (Sets-plain (with_setting Steps 7 no_settings))

pub Sets-one_word : Sets no_settings (codes "--max=1" ∷ plains) plains (with_setting Max 1 no_settings)
Sets-one_word = in_one_word no_settings (with_setting Max 1 no_settings) Max (codes "1") 1 plains plains refl IsNumberOf-one (Sets-plain (with_setting Max 1 no_settings))

-- an option between the words and one behind them
pub Sets-between : Sets no_settings (file ∷ codes "--steps=007" ∷ goal ∷ codes "--max" ∷ codes "1" ∷ []) plains (with_setting Max 1 (with_setting Steps 7 no_settings))
Sets-between =
    let set : Settings = with_setting Steps 7 no_settings in
    let after : Settings = with_setting Max 1 (with_setting Steps 7 no_settings) in
    plain_word no_settings after file (codes "--steps=007" ∷ goal ∷ codes "--max" ∷ codes "1" ∷ []) (goal ∷ []) refl
    (in_one_word no_settings after Steps (codes "007") 7 (goal ∷ codes "--max" ∷ codes "1" ∷ []) (goal ∷ []) refl IsNumberOf-example
    (plain_word set after goal (codes "--max" ∷ codes "1" ∷ []) [] refl (in_two_words set after Max (codes "1") 1 [] [] refl IsNumberOf-one (no_word after))))

-- the workers of a module that is grown
pub Sets-workers : Sets no_settings (codes "2" ∷ codes "--workers=64" ∷ []) (codes "2" ∷ []) (with_setting Workers 64 no_settings)
Sets-workers =
    let set : Settings = with_setting Workers 64 no_settings in
    plain_word no_settings set (codes "2") (codes "--workers=64" ∷ []) [] refl (in_one_word no_settings set Workers (codes "64") 64 [] [] refl IsNumberOf-workers (no_word set))

-- What follows speaks of words that are refused. An option twice:
pub Sets-twice : (others : List (List ℕ)) (after : Settings) → Sets no_settings (codes "--max" ∷ codes "1" ∷ codes "--max=1" ∷ plains) others after → ⊥
Sets-twice others after sets =
    let first = opened-name no_settings Max (codes "1") (codes "--max=1" ∷ plains) others after sets in
    let second = opened-assigned (with_setting Max first.0 no_settings) Max (codes "1") plains others after first.3 in
    set_unset first.0 second.1

-- no text behind `=`,
pub Sets-empty : (others : List (List ℕ)) (after : Settings) → Sets no_settings (codes "--steps=" ∷ plains) others after → ⊥
Sets-empty others after sets = let set = opened-assigned no_settings Steps [] plains others after sets in IsNumberOf-empty Steps set.0 set.2

-- no word behind the option,
pub Sets-last : (others : List (List ℕ)) (after : Settings) → Sets no_settings (codes "--steps" ∷ []) others after → ⊥
Sets-last others after sets = let next = opened no_settings (codes "--steps") [] others after (Name Steps) refl sets in let none : [] ≡ next.0 ∷ next.1 = next.3 in cc

-- too many digits,
pub Sets-long : (others : List (List ℕ)) (after : Settings) → Sets no_settings (codes "--steps" ∷ codes "00000000007" ∷ plains) others after → ⊥
Sets-long others after sets = let set = opened-name no_settings Steps (codes "00000000007") plains others after sets in IsNumberOf-long Steps set.0 set.2

-- a sign,
pub Sets-sign : (others : List (List ℕ)) (after : Settings) → Sets no_settings (codes "--steps=+7" ∷ plains) others after → ⊥
Sets-sign others after sets = let set = opened-assigned no_settings Steps (codes "+7") plains others after sets in IsNumberOf-sign Steps set.0 set.2

-- no answer,
pub Sets-no_answer : (others : List (List ℕ)) (after : Settings) → Sets no_settings (codes "--max" ∷ codes "0" ∷ plains) others after → ⊥
Sets-no_answer others after sets = let set = opened-name no_settings Max (codes "0") plains others after sets in IsNumberOf-no_answer set.0 set.2

-- a number that is too great,
pub Sets-past : (others : List (List ℕ)) (after : Settings) → Sets no_settings (codes "--max" ∷ codes "1000000001" ∷ plains) others after → ⊥
Sets-past others after sets = let set = opened-name no_settings Max (codes "1000000001") plains others after sets in IsNumberOf-past set.0 set.2

-- an option that there is not,
pub Sets-unknown : (others : List (List ℕ)) (after : Settings) → Sets no_settings (codes "--step" ∷ codes "7" ∷ plains) others after → ⊥
Sets-unknown others after sets = opened no_settings (codes "--step") (codes "7" ∷ plains) others after Unknown IsKind-unknown sets

-- nor is anything set by words that are no options.
pub Sets-counterexample : (others : List (List ℕ)) (after : Settings) → Sets no_settings plains others after → after ≡ three_steps → ⊥
Sets-counterexample others after sets same =
    let both = sets-unique no_settings plains plains others no_settings after (Sets-plain no_settings) sets in
    set_unset 3 (sym (ap (λ (settings : Settings). settings.steps) (both.1 ∙ same)))
