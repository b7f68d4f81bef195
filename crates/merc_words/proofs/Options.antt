-- What the options set, read word by word.
use Rattle.std.proofs.Common.{◌≡◌, ◌∙◌, ◌<◌, ◌≤◌, ◌+◌, ◌-◌, ℕ, List, [], ◌∷◌, ◌++◌, ap, sym, refl, subst, length, take, drop, take_all, get_or, arith, codes, slice_index, append_assoc, Bor}
use Rattle.std.specs.Prelude.{true, false, None}
use Rattle.std.proofs.lemmas.Bool.{false≢true}
use Rattle.std.proofs.lemmas.List.{append-nil, length-append}
use Rattle.merc_words.specs.declared.settings.Setting.{Setting}
use Rattle.merc_words.specs.declared.settings.Setting.TheVariants.{Workers, Steps, Max}
use Rattle.merc_words.specs.declared.settings.Settings.{Settings}
use Rattle.merc_words.specs.Words.{IsNumberOf, Sets, is_option, no_settings, options_end, setting_in, setting_word, with_setting}
use Rattle.merc_words.specs.Words.Sets.{no_word, plain_word, ends_options, in_two_words, in_one_word}

-- ---- words of different kinds

-- what a word behind the command is, where no `--` stands before it
pub data WordKind : Type 0 where
  Plain : WordKind
  End : WordKind
  Name : Setting → WordKind
  Assigned : Setting → List ℕ → WordKind
  Unknown : WordKind

-- a word that does not name this option, by itself or with a text behind `=`
abbrev pub NamesNot : Setting → List ℕ → Type 0
NamesNot setting word = (word ≡ setting_word setting → ⊥) × ((text : List ℕ) → word ≡ setting_word setting ++ codes "=" ++ text → ⊥)

abbrev pub IsKind : List ℕ → WordKind → Type 0
IsKind word Plain = is_option word ≡ false
IsKind word End = word ≡ options_end
IsKind word (Name setting) = word ≡ setting_word setting
IsKind word (Assigned setting text) = word ≡ setting_word setting ++ codes "=" ++ text
IsKind word Unknown = (is_option word ≡ true) × (word ≡ options_end → ⊥) × ((setting : Setting) → NamesNot setting word)

head_same : {A : Type 0} (one other : A) (ones others : List A) → one ∷ ones ≡ other ∷ others → one ≡ other
head_same one other ones others same = cc

tail_same : {A : Type 0} (one other : A) (ones others : List A) → one ∷ ones ≡ other ∷ others → ones ≡ others
tail_same one other ones others same = cc

no_nil : {A : Type 0} (one : A) (ones : List A) → [] ≡ one ∷ ones → ⊥
no_nil one ones same = cc

-- two bytes of which one is less than the other
pub differ : (m n : ℕ) → m < n → m ≡ n → ⊥
differ m n less same = omega arith

abbrev assigned : Setting → List ℕ → List ℕ
assigned setting text = setting_word setting ++ codes "=" ++ text

option-name : (setting : Setting) → is_option (setting_word setting) ≡ true
option-name Workers = refl
option-name Steps = refl
option-name Max = refl

option-assigned : (setting : Setting) (text : List ℕ) → is_option (assigned setting text) ≡ true
option-assigned Workers text = refl
option-assigned Steps text = refl
option-assigned Max text = refl

not_plain : (word other : List ℕ) → is_option word ≡ false → word ≡ other → is_option other ≡ true → ⊥
not_plain word other plain same option = false≢true (sym plain ∙ ap (λ (text : List ℕ). is_option text) same ∙ option)

end-name : (setting : Setting) → options_end ≡ setting_word setting → ⊥
end-name Workers same = cc
end-name Steps same = cc
end-name Max same = cc

end-assigned : (setting : Setting) (text : List ℕ) → options_end ≡ assigned setting text → ⊥
end-assigned Workers text same = cc
end-assigned Steps text same = cc
end-assigned Max text same = cc

-- the letter in which the options differ
abbrev letter : Setting → ℕ
letter Workers = 119
letter Steps = 115
letter Max = 109

name-letter : (setting : Setting) → slice_index (setting_word setting) 2 ≡ letter setting
name-letter Workers = refl
name-letter Steps = refl
name-letter Max = refl

assigned-letter : (setting : Setting) (text : List ℕ) → slice_index (assigned setting text) 2 ≡ letter setting
assigned-letter Workers text = refl
assigned-letter Steps text = refl
assigned-letter Max text = refl

letter-unique : (setting other : Setting) → letter setting ≡ letter other → setting ≡ other
letter-unique Workers Workers same = refl
letter-unique Workers Steps same = absurd (differ 115 119 (omega arith) (sym same))
letter-unique Workers Max same = absurd (differ 109 119 (omega arith) (sym same))
letter-unique Steps Workers same = absurd (differ 115 119 (omega arith) same)
letter-unique Steps Steps same = refl
letter-unique Steps Max same = absurd (differ 109 115 (omega arith) (sym same))
letter-unique Max Workers same = absurd (differ 109 119 (omega arith) same)
letter-unique Max Steps same = absurd (differ 109 115 (omega arith) same)
letter-unique Max Max same = refl

abbrev third : List ℕ → ℕ
third word = slice_index word 2

name-unique : (setting other : Setting) → setting_word setting ≡ setting_word other → setting ≡ other
name-unique setting other same = letter-unique setting other (sym (name-letter setting) ∙ ap third same ∙ name-letter other)

unassigned : (setting : Setting) (text : List ℕ) → setting_word setting ≡ assigned setting text → ⊥
unassigned Workers text same = cc
unassigned Steps text same = cc
unassigned Max text same = cc

name-assigned : (setting other : Setting) (text : List ℕ) → setting_word setting ≡ assigned other text → ⊥
name-assigned setting other text same =
    let equal : other ≡ setting = letter-unique other setting (sym (assigned-letter other text) ∙ sym (ap third same) ∙ name-letter setting) in
    unassigned setting text (subst (λ (some : Setting). setting_word setting ≡ assigned some text) equal same)

-- the text behind the name of an option and `=`
abbrev behind : Setting → List ℕ → List ℕ
behind Workers word = drop 10 word
behind Steps word = drop 8 word
behind Max word = drop 6 word

behind-is : (setting : Setting) (text : List ℕ) → behind setting (assigned setting text) ≡ text
behind-is Workers text = refl
behind-is Steps text = refl
behind-is Max text = refl

assigned-unique : (setting other : Setting) (text text' : List ℕ) → assigned setting text ≡ assigned other text' → (setting ≡ other) × (text ≡ text')
assigned-unique setting other text text' same =
    let equal : setting ≡ other = letter-unique setting other (sym (assigned-letter setting text) ∙ ap third same ∙ assigned-letter other text') in (
      equal,
      sym (behind-is setting text) ∙ ap (behind setting) (subst (λ (some : Setting). assigned setting text ≡ assigned some text') (sym equal) same) ∙ behind-is setting text',
    )

-- ---- the first of the words

-- the ways in which words set options, by equations
data Cases (before : Settings) (words plains : List (List ℕ)) (after : Settings) : Type 0 where
  nothing : words ≡ [] → plains ≡ [] → after ≡ before → Cases before words plains after
  plain : (word : List ℕ) (rest others : List (List ℕ)) → words ≡ word ∷ rest → plains ≡ word ∷ others → is_option word ≡ false → Sets before rest others after → Cases before words plains after
  ended : (rest : List (List ℕ)) → words ≡ options_end ∷ rest → plains ≡ rest → after ≡ before → Cases before words plains after
  two : (setting : Setting) (text : List ℕ) (number : ℕ) (rest : List (List ℕ)) → words ≡ setting_word setting ∷ text ∷ rest → setting_in setting before ≡ None → IsNumberOf setting text number
      → Sets (with_setting setting number before) rest plains after → Cases before words plains after
  one : (setting : Setting) (text : List ℕ) (number : ℕ) (rest : List (List ℕ)) → words ≡ assigned setting text ∷ rest → setting_in setting before ≡ None → IsNumberOf setting text number
      → Sets (with_setting setting number before) rest plains after → Cases before words plains after

cases_of : (before : Settings) (words plains : List (List ℕ)) (after : Settings) → Sets before words plains after → Cases before words plains after
cases_of _ _ _ _ (no_word settings) = nothing refl refl refl
cases_of _ _ _ _ (plain_word before after word words plains is_plain sets) = plain word words plains refl refl is_plain sets
cases_of _ _ _ _ (ends_options settings words) = ended words refl refl refl
cases_of _ _ _ _ (in_two_words before after setting text number words plains free is sets) = two setting text number words refl free is sets
cases_of _ _ _ _ (in_one_word before after setting text number words plains free is sets) = one setting text number words refl free is sets

-- what words set whose first is of this kind
abbrev pub Behind : WordKind → Settings → List ℕ → List (List ℕ) → List (List ℕ) → Settings → Type 0
Behind Plain before word words plains after = (others : List (List ℕ)) × (plains ≡ word ∷ others) × Sets before words others after
Behind End before word words plains after = (plains ≡ words) × (after ≡ before)
Behind (Name setting) before word words plains after =
    (text : List ℕ) × (rest : List (List ℕ)) × (number : ℕ) × (words ≡ text ∷ rest) × (setting_in setting before ≡ None) × IsNumberOf setting text number
    × Sets (with_setting setting number before) rest plains after
Behind (Assigned setting text) before word words plains after =
    (number : ℕ) × (setting_in setting before ≡ None) × IsNumberOf setting text number × Sets (with_setting setting number before) words plains after
Behind Unknown before word words plains after = ⊥

module _ (before : Settings) (word : List ℕ) (words plains : List (List ℕ)) (after : Settings) where
  opened_by : (kind : WordKind) → IsKind word kind → Cases before (word ∷ words) plains after → Behind kind before word words plains after
  opened_by kind is (nothing same none kept) = absurd (no_nil word words (sym same))
  opened_by Plain is (plain word' rest others same parts is' sets) =
      (others, parts ∙ ap (λ (some : List ℕ). some ∷ others) (sym (head_same word word' words rest same)), subst (λ (some : List (List ℕ)). Sets before some others after) (sym (tail_same word word' words rest same)) sets)
  opened_by Plain is (ended rest same parts kept) = absurd (not_plain word options_end is (head_same word options_end words rest same) refl)
  opened_by Plain is (two setting text number rest same free is' sets) =
      absurd (not_plain word (setting_word setting) is (head_same word (setting_word setting) words (text ∷ rest) same) (option-name setting))
  opened_by Plain is (one setting text number rest same free is' sets) =
      absurd (not_plain word (assigned setting text) is (head_same word (assigned setting text) words rest same) (option-assigned setting text))
  opened_by End is (plain word' rest others same parts is' sets) = absurd (not_plain word' options_end is' (sym (head_same word word' words rest same) ∙ is) refl)
  opened_by End is (ended rest same parts kept) = (parts ∙ sym (tail_same word options_end words rest same), kept)
  opened_by End is (two setting text number rest same free is' sets) = absurd (end-name setting (sym is ∙ head_same word (setting_word setting) words (text ∷ rest) same))
  opened_by End is (one setting text number rest same free is' sets) = absurd (end-assigned setting text (sym is ∙ head_same word (assigned setting text) words rest same))
  opened_by (Name setting) is (plain word' rest others same parts is' sets) =
      absurd (not_plain word' (setting_word setting) is' (sym (head_same word word' words rest same) ∙ is) (option-name setting))
  opened_by (Name setting) is (ended rest same parts kept) = absurd (end-name setting (sym (head_same word options_end words rest same) ∙ is))
  opened_by (Name setting) is (two other text number rest same free is' sets) =
      let equal : other ≡ setting = name-unique other setting (sym (head_same word (setting_word other) words (text ∷ rest) same) ∙ is) in (
        text,
        rest,
        number,
        tail_same word (setting_word other) words (text ∷ rest) same,
        subst (λ (some : Setting). setting_in some before ≡ None) equal free,
        subst (λ (some : Setting). IsNumberOf some text number) equal is',
        subst (λ (some : Setting). Sets (with_setting some number before) rest plains after) equal sets,
      )
  opened_by (Name setting) is (one other text number rest same free is' sets) = absurd (name-assigned setting other text (sym is ∙ head_same word (assigned other text) words rest same))
  opened_by (Assigned setting value) is (plain word' rest others same parts is' sets) =
      absurd (not_plain word' (assigned setting value) is' (sym (head_same word word' words rest same) ∙ is) (option-assigned setting value))
  opened_by (Assigned setting value) is (ended rest same parts kept) = absurd (end-assigned setting value (sym (head_same word options_end words rest same) ∙ is))
  opened_by (Assigned setting value) is (two other text number rest same free is' sets) =
      absurd (name-assigned other setting value (sym (head_same word (setting_word other) words (text ∷ rest) same) ∙ is))
  opened_by (Assigned setting value) is (one other text number rest same free is' sets) =
      let equal = assigned-unique other setting text value (sym (head_same word (assigned other text) words rest same) ∙ is) in (
        number,
        subst (λ (some : Setting). setting_in some before ≡ None) equal.0 free,
        subst (λ (some : Setting). IsNumberOf some value number) equal.0 (subst (λ (some : List ℕ). IsNumberOf other some number) equal.1 is'),
        subst (λ (some : Setting). Sets (with_setting some number before) words plains after) equal.0
            (subst (λ (some : List (List ℕ)). Sets (with_setting other number before) some plains after) (sym (tail_same word (assigned other text) words rest same)) sets),
      )
  opened_by Unknown is (plain word' rest others same parts is' sets) = absurd (not_plain word' word is' (sym (head_same word word' words rest same)) is.0)
  opened_by Unknown is (ended rest same parts kept) = absurd (is.1 (head_same word options_end words rest same))
  opened_by Unknown is (two setting text number rest same free is' sets) = absurd ((is.2 setting).0 (head_same word (setting_word setting) words (text ∷ rest) same))
  opened_by Unknown is (one setting text number rest same free is' sets) = absurd ((is.2 setting).1 text (head_same word (assigned setting text) words rest same))

  pub opened : (kind : WordKind) → IsKind word kind → Sets before (word ∷ words) plains after → Behind kind before word words plains after
  opened kind is sets = opened_by kind is (cases_of before (word ∷ words) plains after sets)

emptied_by : (before : Settings) (plains : List (List ℕ)) (after : Settings) → Cases before [] plains after → (plains ≡ []) × (after ≡ before)
emptied_by before plains after (nothing same none kept) = (none, kept)
emptied_by before plains after (plain word rest others same parts is sets) = absurd (no_nil word rest same)
emptied_by before plains after (ended rest same parts kept) = absurd (no_nil options_end rest same)
emptied_by before plains after (two setting text number rest same free is sets) = absurd (no_nil (setting_word setting) (text ∷ rest) same)
emptied_by before plains after (one setting text number rest same free is sets) = absurd (no_nil (assigned setting text) rest same)

pub emptied : (before : Settings) (plains : List (List ℕ)) (after : Settings) → Sets before [] plains after → (plains ≡ []) × (after ≡ before)
emptied before plains after sets = emptied_by before plains after (cases_of before [] plains after sets)

-- ---- words set options in one way at most

-- what an option and the text of its number set, as two words
pub opened-name : (before : Settings) (setting : Setting) (text : List ℕ) (words plains : List (List ℕ)) (after : Settings) → Sets before (setting_word setting ∷ text ∷ words) plains after
    → (number : ℕ) × (setting_in setting before ≡ None) × IsNumberOf setting text number × Sets (with_setting setting number before) words plains after
opened-name before setting text words plains after sets =
    let next = opened before (setting_word setting) (text ∷ words) plains after (Name setting) refl sets in (
      next.2,
      next.4,
      subst (λ (some : List ℕ). IsNumberOf setting some next.2) (sym (head_same text next.0 words next.1 next.3)) next.5,
      subst (λ (some : List (List ℕ)). Sets (with_setting setting next.2 before) some plains after) (sym (tail_same text next.0 words next.1 next.3)) next.6,
    )

-- the same as one word
pub opened-assigned : (before : Settings) (setting : Setting) (text : List ℕ) (words plains : List (List ℕ)) (after : Settings) → Sets before (assigned setting text ∷ words) plains after
    → (number : ℕ) × (setting_in setting before ≡ None) × IsNumberOf setting text number × Sets (with_setting setting number before) words plains after
opened-assigned before setting text words plains after sets = opened before (assigned setting text) words plains after (Assigned setting text) refl sets

number-unique : (setting : Setting) (text : List ℕ) (number number' : ℕ) → IsNumberOf setting text number → IsNumberOf setting text number' → number ≡ number'
number-unique setting text number number' is is' = is.value ∙ sym is'.value

pub sets-unique : (before : Settings) (words plains plains' : List (List ℕ)) (after after' : Settings) → Sets before words plains after → Sets before words plains' after' → (plains ≡ plains') × (after ≡ after')
sets-unique _ _ _ plains' _ after' (no_word settings) other =
    let last = emptied settings plains' after' other in (sym last.0, sym last.1)
sets-unique _ _ _ plains' _ after' (plain_word before after word words plains is sets) other =
    let next = opened before word words plains' after' Plain is other in
    let same = sets-unique before words plains next.0 after after' sets next.2 in
    (ap (λ (some : List (List ℕ)). word ∷ some) same.0 ∙ sym next.1, same.1)
sets-unique _ _ _ plains' _ after' (ends_options settings words) other =
    let next = opened settings options_end words plains' after' End refl other in (sym next.0, sym next.1)
sets-unique _ _ _ plains' _ after' (in_two_words before after setting text number words plains free is sets) other =
    let next = opened-name before setting text words plains' after' other in
    let equal : next.0 ≡ number = number-unique setting text next.0 number next.2 is in
    sets-unique (with_setting setting number before) words plains plains' after after' sets
    (subst (λ (some : ℕ). Sets (with_setting setting some before) words plains' after') equal next.3)
sets-unique _ _ _ plains' _ after' (in_one_word before after setting text number words plains free is sets) other =
    let next = opened-assigned before setting text words plains' after' other in
    let equal : next.0 ≡ number = number-unique setting text next.0 number next.2 is in
    sets-unique (with_setting setting number before) words plains plains' after after' sets
    (subst (λ (some : ℕ). Sets (with_setting setting some before) words plains' after') equal next.3)
