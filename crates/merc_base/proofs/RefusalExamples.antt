-- Worked examples of the definitions of specs/Refusal.antt: what holds, and what does not. RefusalTable.antt has the texts.
use Rattle.std.proofs.Common.{◌≡◌, ℕ, List, codes, slice_index, refl, ap}
use Rattle.std.specs.Fmt.{digits}
use Rattle.merc_base.specs.Refusal.{rule_number, rule_text, construct_word, limit_word, detail_text, refusal_text}
use Rattle.merc_base.specs.declared.refusal.Construct.TheVariants.{Goal}
use Rattle.merc_base.specs.declared.refusal.Detail.{Detail}
use Rattle.merc_base.specs.declared.refusal.Detail.TheVariants.{Plain, Pair}
use Rattle.merc_base.specs.declared.refusal.LimitName.TheVariants.{Nesting}
use Rattle.merc_base.specs.declared.refusal.Refusal.{Refusal}
use Rattle.merc_base.specs.declared.refusal.Rule.{Rule}
use Rattle.merc_base.specs.declared.refusal.Rule.TheVariants.{BadToken, NeverReady, LimitPassed}

pub rule_number-never_ready : rule_number NeverReady ≡ 10
rule_number-never_ready = refl

pub rule_number-bad_token : rule_number BadToken ≡ 0 → ⊥
rule_number-bad_token h = cc

pub rule_text-limit : rule_text LimitPassed ≡ codes "limit:" → ⊥
rule_text-limit h = cc

pub construct_word-goal : construct_word Goal ≡ codes "goals" → ⊥
construct_word-goal h = cc

pub limit_word-nesting : limit_word Nesting ≡ codes "depth" → ⊥
limit_word-nesting h = cc

pub detail_text-pair : detail_text NeverReady (Pair 2 13) ≡ codes "parallel conjunct 2 needs conjunct 13"
unfolding digits
detail_text-pair = refl

digits_differ : ◌≡◌ {A = ℕ} 50 49 → ⊥
digits_differ h = cc

-- Conjuncts are named in the order in which they are given.
pub detail_text-pair_turned : detail_text NeverReady (Pair 2 13) ≡ codes "parallel conjunct 13 needs conjunct 2" → ⊥
unfolding digits
detail_text-pair_turned h = digits_differ (ap (λ (text : List ℕ). slice_index text 18) h)

-- a refusal at the first byte of a text
abbrev refused : Rule → Detail → Refusal
refused rule detail = record { rule = rule; place = record { byte = 0; line = 1 }; detail = detail }

pub refusal_text-place : refusal_text (refused BadToken Plain) ≡ codes "line 1: rule 1: bad token" → ⊥
unfolding digits
refusal_text-place h = cc
