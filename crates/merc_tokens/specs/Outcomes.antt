-- What the reader's own functions return.
use Rattle.std.specs.Prelude.{◌≡◌, ℕ, false, nat_lt, List, map, Some, if◌then◌else◌}
use Rattle.merc_base.specs.declared.refusal.Rule.{Rule}
use Rattle.merc_base.specs.declared.refusal.Rule.TheVariants.{BadToken}
use Rattle.merc_base.specs.declared.refusal.Detail.{Detail}
use Rattle.merc_base.specs.declared.refusal.Detail.TheVariants.{Plain}
use Rattle.merc_base.specs.declared.refusal.Refusal.{Refusal}
use Rattle.merc_tokens.specs.declared.token.Token.{Token}
use Rattle.merc_tokens.specs.declared.reading.Reading.{Reading}
use Rattle.merc_tokens.specs.declared.reading.Reading.TheVariants.{All, Faulty}
use Rattle.merc_tokens.specs.Tokens.{SpelledToken, HasTokensFrom, with_texts, with_names, line_at}
use Rattle.merc_tokens.specs.Faults.{HasFaultFrom, ComesFirst}

-- the tokens of a text, whose pieces are all right, and whose names were put into a table that held the first names before
pub record ReadsAll (text : List ℕ) (before after : List (List ℕ)) (tokens : List Token) : Type 0 where
  pub spelled : List SpelledToken
  pub texts : map (with_texts after) tokens ≡ map Some spelled
  pub table : after ≡ with_names before spelled
  pub all : HasTokensFrom text 0 false spelled
  pub faultless : (place : ℕ) (rule : Rule) (detail : Detail) → HasFaultFrom text place rule detail 0 false → ⊥

-- the first fault among a text's pieces
pub record ReadsFault (text : List ℕ) (refusal : Refusal) : Type 0 where
  pub fault : HasFaultFrom text refusal.place.byte refusal.rule refusal.detail 0 false
  pub line : refusal.place.line ≡ line_at text refusal.place.byte
  pub least : (place : ℕ) (rule : Rule) (detail : Detail) → HasFaultFrom text place rule detail 0 false → ComesFirst refusal.place.byte refusal.rule place rule
  pub tokenless : (tokens : List SpelledToken) → HasTokensFrom text 0 false tokens → ⊥

abbrev pub ReadsRightly : List ℕ → List (List ℕ) → List (List ℕ) → Reading → Type 0
ReadsRightly text before after (All tokens) = ReadsAll text before after tokens
ReadsRightly text before after (Faulty refusal) = ReadsFault text refusal

-- a byte that is not UTF-8
abbrev pub bad_byte : List ℕ → ℕ → Refusal
bad_byte text at = record { rule = BadToken; place = record { byte = at; line = line_at text at }; detail = Plain }

-- the earlier of the fault that was read and of a byte that is not UTF-8
abbrev pub earlier : List ℕ → ℕ → Reading → Refusal
earlier text at (All tokens) = bad_byte text at
earlier text at (Faulty refusal) = if nat_lt refusal.place.byte at then refusal else bad_byte text at
