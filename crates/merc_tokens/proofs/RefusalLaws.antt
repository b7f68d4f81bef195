-- A text is refused in one way.
use Rattle.std.proofs.Common.{◌≡◌, ℕ, ◌+◌, ◌-◌, inl, inr, Bool, true, false, List, [], ◌∷◌, drop, Option, Some, None, slice_get, refl, sym, ◌∙◌, ap, subst, arith, eqb-true}
use Rattle.std.specs.Prelude.{◌&&◌, if◌then◌else◌}
use Rattle.merc_base.specs.Characters.{dot_code}
use Rattle.merc_base.specs.Refusal.{rule_number}
use Rattle.merc_base.specs.declared.refusal.Refusal.{Refusal}
use Rattle.merc_base.specs.declared.refusal.Fault.TheVariants.{Refused}
use Rattle.merc_base.specs.declared.refusal.Rule.{Rule}
use Rattle.merc_base.specs.declared.refusal.Rule.TheVariants.{BadToken, NoTerm, WrongForm, UnknownType, DeclaredTwice, Undeclared, UnknownName, TypeMismatch, MissingMode, NeverReady, BindsOuter, UnboundOutput, WrongCategory, ParallelCategory, OutsideProfile, LimitPassed}
use Rattle.merc_base.specs.declared.refusal.Construct.TheVariants.{Character, Float, IntegerSuffix}
use Rattle.merc_base.specs.declared.refusal.LimitName.TheVariants.{Name as NameLimit, Integer as IntegerLimit}
use Rattle.merc_base.specs.declared.refusal.Detail.{Detail}
use Rattle.merc_base.specs.declared.refusal.Detail.TheVariants.{Plain, Word, Limit}
use Rattle.merc_tokens.specs.declared.bytes.Start.{Start}
use Rattle.merc_tokens.specs.declared.bytes.Start.TheVariants.{Digit}
use Rattle.merc_tokens.specs.declared.integers.Integer.{Integer}
use Rattle.merc_tokens.specs.Bytes.{is_letter, begins_with, start_of}
use Rattle.merc_tokens.specs.Integers.{integer_at}
use Rattle.merc_tokens.specs.Pieces.{begins_fraction}
use Rattle.merc_tokens.specs.Tokens.{is_name, line_at}
use Rattle.merc_tokens.specs.Faults.{IsFaulty, HasFault, HasFaultFrom, ComesFirst, FirstFault, RefusesRightly}
use Rattle.merc_tokens.specs.Faults.IsFaulty.{no_token, open_comment, open_name, open_string, no_character, no_digit, character, suffix, float, great_integer, long_word, long_graphic, long_name}
use Rattle.merc_tokens.specs.Faults.HasFaultFrom.{here, behind_gap, behind_token}
use Rattle.merc_tokens.proofs.PieceFaults.{piece-faulty}
use Rattle.merc_tokens.proofs.SoFar.{fault-behind_gap, fault-behind_token}

abbrev rules : List Rule
rules =
    BadToken ∷ NoTerm ∷ WrongForm ∷ UnknownType ∷ DeclaredTwice ∷ Undeclared ∷ UnknownName ∷ TypeMismatch ∷
    MissingMode ∷ NeverReady ∷ BindsOuter ∷ UnboundOutput ∷ WrongCategory ∷ ParallelCategory ∷ OutsideProfile ∷
    LimitPassed ∷ []

numbered : (rule : Rule) → slice_get rules (rule_number rule - 1) ≡ Some rule
numbered BadToken = refl
numbered NoTerm = refl
numbered WrongForm = refl
numbered UnknownType = refl
numbered DeclaredTwice = refl
numbered Undeclared = refl
numbered UnknownName = refl
numbered TypeMismatch = refl
numbered MissingMode = refl
numbered NeverReady = refl
numbered BindsOuter = refl
numbered UnboundOutput = refl
numbered WrongCategory = refl
numbered ParallelCategory = refl
numbered OutsideProfile = refl
numbered LimitPassed = refl

-- rules of one number are one rule
pub rule_number-injective : (one other : Rule) → rule_number one ≡ rule_number other → one ≡ other
rule_number-injective one other same =
    let e : Some one ≡ Some other = sym (numbered one) ∙ ap (λ (number : ℕ). slice_get rules (number - 1)) same ∙ numbered other in cc

-- whether a letter stands directly behind the integer that a text begins with
abbrev letter_behind : Option Integer → List ℕ → Bool
letter_behind None text = false
letter_behind (Some integer) text = begins_with is_letter (drop integer.past text)

-- what is said beside a rule, from what the text may begin with
abbrev said : Rule → Start → Bool → Detail
said OutsideProfile Digit letter = if letter then Word IntegerSuffix else Word Float
said OutsideProfile start letter = Word Character
said LimitPassed Digit letter = Limit IntegerLimit
said LimitPassed start letter = Limit NameLimit
said rule start letter = Plain

abbrev detail_of : List ℕ → Rule → Detail
detail_of [] rule = Plain
detail_of (byte ∷ rest) rule = said rule (start_of byte) (letter_behind (integer_at (byte ∷ rest)) (byte ∷ rest))

detail_of-bad : (text : List ℕ) → detail_of text BadToken ≡ Plain
detail_of-bad [] = refl
detail_of-bad (byte ∷ rest) = refl

first_true : (one other : Bool) → one && other ≡ true → one ≡ true
first_true true other is = refl
first_true false other is = is

-- a fraction begins with no letter
fraction-letter : (rest : List ℕ) → begins_fraction rest ≡ true → begins_with is_letter rest ≡ false
fraction-letter [] is = refl
fraction-letter (byte ∷ rest) is = ap is_letter (eqb-true byte dot_code (first_true _ _ is))

at_start : (rule : Rule) (byte : ℕ) (rest : List ℕ) (start : Start) → start_of byte ≡ start → said rule start (letter_behind (integer_at (byte ∷ rest)) (byte ∷ rest)) ≡ detail_of (byte ∷ rest) rule
at_start rule byte rest start is = sym (ap (λ (s : Start). said rule s (letter_behind (integer_at (byte ∷ rest)) (byte ∷ rest))) is)

at_digit : (byte : ℕ) (rest : List ℕ) (integer : Integer) (letter : Bool) → start_of byte ≡ Digit → integer_at (byte ∷ rest) ≡ Some integer → begins_with is_letter (drop integer.past (byte ∷ rest)) ≡ letter → said OutsideProfile Digit letter ≡ detail_of (byte ∷ rest) OutsideProfile
at_digit byte rest integer letter is at letters =
    ap (said OutsideProfile Digit) (sym (ap (λ (found : Option Integer). letter_behind found (byte ∷ rest)) at ∙ letters)) ∙ at_start OutsideProfile byte rest Digit is

-- a fault of one rule says one thing
detail_is : {text : List ℕ} {rule : Rule} {detail : Detail} → IsFaulty text rule detail → detail ≡ detail_of text rule
detail_is (no_token byte rest is) = refl
detail_is (open_comment byte rest is opens never) = refl
detail_is (open_name byte rest is none) = refl
detail_is (open_string byte rest is none) = refl
detail_is (no_character byte rest is form none) = refl
detail_is (no_digit byte rest base is form none) = refl
detail_is (character byte rest is) = at_start OutsideProfile byte rest _ is
detail_is (suffix byte rest integer is at letter) = at_digit byte rest integer true is at letter
detail_is (float byte rest integer is at decimal fraction) = at_digit byte rest integer false is at (fraction-letter (drop integer.past (byte ∷ rest)) fraction)
detail_is (great_integer byte rest integer is at great) = at_start LimitPassed byte rest _ is
detail_is (long_word byte rest (inl is) long) = at_start LimitPassed byte rest _ is
detail_is (long_word byte rest (inr is) long) = at_start LimitPassed byte rest _ is
detail_is (long_graphic byte rest is no_comment long) = at_start LimitPassed byte rest _ is
detail_is (long_name byte rest name past is found long) = at_start LimitPassed byte rest _ is

-- at one place, a fault of one rule says one thing
same_detail : (text : List ℕ) (place : ℕ) (rule : Rule) (one other : Detail) (at : ℕ) (after : Bool) → HasFaultFrom text place rule one at after → HasFaultFrom text place rule other at after → one ≡ other
same_detail text place rule one other at after (here _ _ same faulty) (here _ _ same' faulty') = detail_is faulty ∙ sym (detail_is faulty')
same_detail text place rule one other at after (here _ _ same faulty) (behind_gap _ len _ is on) = let fault = (piece-faulty _ _ _ after faulty).is in absurd (cc)
same_detail text place rule one other at after (here _ _ same faulty) (behind_token _ len _ spelling is on) = let fault = (piece-faulty _ _ _ after faulty).is in absurd (cc)
same_detail text place rule one other at after (behind_gap _ len _ is on) has =
    same_detail text place rule one other (at + len) false on (fault-behind_gap text place rule other at len after is has)
same_detail text place rule one other at after (behind_token _ len _ spelling is on) has =
    same_detail text place rule one other (at + len) (is_name spelling) on (fault-behind_token text place rule other at len after spelling is has)

bad_plain : (text : List ℕ) (place : ℕ) (detail : Detail) (at : ℕ) (after : Bool) → HasFaultFrom text place BadToken detail at after → detail ≡ Plain
bad_plain text place detail at after (here _ _ same faulty) = detail_is faulty ∙ detail_of-bad (drop at text)
bad_plain text place detail at after (behind_gap _ len _ is on) = bad_plain text place detail (at + len) false on
bad_plain text place detail at after (behind_token _ len _ spelling is on) = bad_plain text place detail (at + len) (is_name spelling) on

pub HasFault-detail : (text : List ℕ) (place : ℕ) (rule : Rule) (one other : Detail) → HasFault text place rule one → HasFault text place rule other → one ≡ other
HasFault-detail text place rule one other (inl has) (inl has') = same_detail text place rule one other 0 false has has'
HasFault-detail text place rule one other (inl has) (inr ended) =
    bad_plain text place one 0 false (subst (λ (r : Rule). HasFaultFrom text place r one 0 false) ended.rule_is has) ∙ sym ended.detail_is
HasFault-detail text place rule one other (inr ended) (inl has) =
    ended.detail_is ∙ sym (bad_plain text place other 0 false (subst (λ (r : Rule). HasFaultFrom text place r other 0 false) ended.rule_is has))
HasFault-detail text place rule one other (inr ended) (inr ended') = ended.detail_is ∙ sym ended'.detail_is

-- two faults that come before each other are one
both_first : (place place' : ℕ) (rule rule' : Rule) → ComesFirst place rule place' rule' → ComesFirst place' rule' place rule → (place ≡ place') × (rule ≡ rule')
both_first place place' rule rule' (inl less) (inl less') = absurd (omega arith)
both_first place place' rule rule' (inl less) (inr same') = absurd (omega (arith, same'.0))
both_first place place' rule rule' (inr same) (inl less') = absurd (omega (arith, same.0))
both_first place place' rule rule' (inr same) (inr same') = (same.0, rule_number-injective rule rule' (omega (arith, same.1, same'.1)))

FirstFault-unique : (text : List ℕ) (one other : Refusal) → FirstFault text one.rule one.place one.detail → FirstFault text other.rule other.place other.detail → one ≡ other
FirstFault-unique text one other first first' =
    let both = both_first one.place.byte other.place.byte one.rule other.rule (first.least _ _ _ first'.fault) (first'.least _ _ _ first.fault) in
    let lines = first.line ∙ ap (line_at text) both.0 ∙ sym first'.line in
    let there = subst (λ (place : ℕ). HasFault text place one.rule one.detail) both.0 first.fault in
    let details = HasFault-detail text other.place.byte other.rule one.detail other.detail (subst (λ (rule : Rule). HasFault text other.place.byte rule one.detail) both.1 there) first'.fault in
    (λ i. record { rule = both.1 i; place = record { byte = both.0 i; line = lines i }; detail = details i })

-- a text is refused in one way
pub RefusesRightly-unique : (text : List ℕ) (one other : Refusal) → RefusesRightly text (Refused one) → RefusesRightly text (Refused other) → one ≡ other
RefusesRightly-unique text one other is is' = FirstFault-unique text one other is.0 is'.0
