-- The items of a list of tokens, the term of a goal, and what is wrong where there are none.
use Rattle.std.specs.Prelude.{ℕ, ◌≤◌, ◌<◌, true, List, [], ◌∷◌}
use Rattle.merc_base.specs.declared.place.Span.{Span}
use Rattle.merc_base.specs.declared.place.Place.{Place}
use Rattle.merc_base.specs.declared.refusal.Refusal.{Refusal}
use Rattle.merc_base.specs.declared.refusal.Fault.{Fault}
use Rattle.merc_base.specs.declared.refusal.Fault.TheVariants.{Refused, NoMemory}
use Rattle.merc_base.specs.declared.refusal.Rule.{Rule}
use Rattle.merc_base.specs.declared.refusal.Rule.TheVariants.{NoTerm, LimitPassed}
use Rattle.merc_base.specs.declared.refusal.Detail.{Detail}
use Rattle.merc_base.specs.declared.refusal.Detail.TheVariants.{Plain, Limit}
use Rattle.merc_base.specs.declared.refusal.LimitName.TheVariants.{Integer as IntegerLimit, Nesting as NestingLimit}
use Rattle.merc_terms.specs.Operators.{term_most}
use Rattle.merc_tokens.specs.declared.token.Token.{Token}
use Rattle.merc_tokens.specs.declared.token.TokenKind.TheVariants.{Stop}
use Rattle.merc_tree.specs.Term.{Term, HasWords}
use Rattle.merc_tree.specs.Nesting.{nesting}
use Rattle.merc_terms.specs.Reading.{token, Spells}

-- an item is a term of at most 1200 and its full stop, behind which the rest stands
pub record SpellsItem (term : Term) (tokens rest : List Token) : Type 0 where
  pub priority : ℕ
  pub stop : Span
  pub within : priority ≤ term_most
  pub spelled : Spells true term priority tokens (token Stop stop ∷ rest)

-- the end, or a full stop and the end
pub data Ends : List Token → Type 0 where
  at_once : Ends []
  stopped : (stop : Span) → Ends (token Stop stop ∷ [])

-- a goal is a term of at most 1200, and then the end, or a full stop and the end
pub record SpellsGoal (term : Term) (tokens : List Token) : Type 0 where
  pub priority : ℕ
  pub rest : List Token
  pub within : priority ≤ term_most
  pub spelled : Spells true term priority tokens rest
  pub ends : Ends rest

-- how deep a term may be nested
abbrev pub nesting_limit : ℕ
nesting_limit = 256

-- a term keeps the limits on integers and on nesting
pub record IsAllowed (term : Term) : Type 0 where
  pub words : HasWords term
  pub nested : nesting term ≤ nesting_limit

-- the tokens are items with these terms
pub data HasItems : List Token → List Term → Type 0 where
  none : HasItems [] []
  item : (term : Term) (terms : List Term) (tokens rest : List Token) → SpellsItem term tokens rest → IsAllowed term → HasItems rest terms → HasItems tokens (term ∷ terms)

pub record HasGoal (tokens : List Token) (term : Term) : Type 0 where
  pub spelled : SpellsGoal term tokens
  pub allowed : IsAllowed term

-- What is wrong with tokens of which this says what they spell: nothing at all, or a term that passes a limit. Of the limits that on integers comes
-- first.
pub data IsWrong (Reads : Term → Type 0) : Rule → Detail → Type 0 where
  unread : ((term : Term) → Reads term → ⊥) → IsWrong Reads NoTerm Plain
  great : (term : Term) → Reads term → (HasWords term → ⊥) → IsWrong Reads LimitPassed (Limit IntegerLimit)
  nested : (term : Term) → Reads term → HasWords term → nesting_limit < nesting term → IsWrong Reads LimitPassed (Limit NestingLimit)

-- a refusal with this rule and detail, at this place
abbrev pub refusal_at : Rule → Detail → Place → Refusal
refusal_at rule detail place = record { rule = rule; place = place; detail = detail }

-- where the tokens begin, the first line where there are none
abbrev pub place_of : List Token → Place
place_of [] = record { byte = 0; line = 1 }
place_of (first ∷ rest) = record { byte = first.span.first; line = first.span.line }

-- The first item with a fault, one item after the other, has this one, at its first token.
pub data RefusesItems : List Token → Refusal → Type 0 where
  here : (first : Token) (others : List Token) (rule : Rule) (detail : Detail) → IsWrong (λ term. (rest : List Token) × SpellsItem term (first ∷ others) rest) rule detail → RefusesItems (first ∷ others) (refusal_at rule detail (place_of (first ∷ others)))
  later : (term : Term) (refusal : Refusal) (tokens rest : List Token) → SpellsItem term tokens rest → IsAllowed term → RefusesItems rest refusal → RefusesItems tokens refusal

pub data RefusesGoal : List Token → Refusal → Type 0 where
  goal : (tokens : List Token) (rule : Rule) (detail : Detail) → IsWrong (λ term. SpellsGoal term tokens) rule detail → RefusesGoal tokens (refusal_at rule detail (place_of tokens))

-- a refusal says what is wrong; want of memory says nothing
abbrev pub IsRefusal : (Refusal → Type 0) → Fault → Type 0
IsRefusal Refuses (Refused refusal) = Refuses refusal
IsRefusal Refuses NoMemory = Unit {0}
