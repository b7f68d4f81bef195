-- What the reader's functions answer for items and goals.
use Rattle.std.specs.Prelude.{◌≡◌, Bool, true, false, nat_lt, List, [], ◌∷◌, ◌++◌, Option, Some, None, if◌then◌else◌}
use Rattle.merc_base.specs.declared.place.Span.{Span}
use Rattle.merc_base.specs.declared.refusal.Rule.{Rule}
use Rattle.merc_base.specs.declared.refusal.Rule.TheVariants.{NoTerm, LimitPassed}
use Rattle.merc_base.specs.declared.refusal.Detail.{Detail}
use Rattle.merc_base.specs.declared.refusal.Detail.TheVariants.{Plain, Limit}
use Rattle.merc_base.specs.declared.refusal.LimitName.{LimitName}
use Rattle.merc_base.specs.declared.refusal.LimitName.TheVariants.{Integer as IntegerLimit, Nesting as NestingLimit}
use Rattle.merc_tokens.specs.declared.token.Token.{Token}
use Rattle.merc_tokens.specs.declared.token.TokenKind.TheVariants.{Stop}
use Rattle.merc_tree.specs.Term.{Term}
use Rattle.merc_tree.specs.Nesting.{nesting}
use Rattle.merc_terms.specs.declared.built.Built.{Built}
use Rattle.merc_terms.specs.declared.moving.Progress.{Progress}
use Rattle.merc_terms.specs.Reading.{token}
use Rattle.merc_terms.specs.Reader.{pushed}
use Rattle.merc_terms.specs.Items.{SpellsItem, SpellsGoal, Ends, nesting_limit}

-- whether a full stop comes first, which is taken then
abbrev pub TakesStop : List Token → List Token → Bool → Type 0
TakesStop old new true = (stop : Span) × (old ≡ token Stop stop ∷ new)
TakesStop old new false = (stop : Span) (rest : List Token) → old ≡ token Stop stop ∷ rest → ⊥

-- whether the end comes, or a full stop and the end
abbrev pub IsAtEnd : List Token → Bool → Type 0
IsAtEnd rest true = Ends rest
IsAtEnd rest false = Ends rest → ⊥

-- whether the tokens begin with an item, whose term is built then
abbrev pub ReadsItem : Progress → Progress → Bool → Type 0
ReadsItem old new true = (term : Term) × SpellsItem term old.rest.now new.rest.now × (new.built ≡ pushed term old.built)
ReadsItem old new false = (term : Term) (rest : List Token) → SpellsItem term old.rest.now rest → ⊥

-- whether the tokens are a goal, whose term is built then
abbrev pub ReadsGoal : Progress → Progress → Bool → Type 0
ReadsGoal old new true = (term : Term) × SpellsGoal term old.rest.now × (new.built ≡ pushed term old.built)
ReadsGoal old new false = (term : Term) → SpellsGoal term old.rest.now → ⊥

-- the limit that a term passes, that on integers first
abbrev pub passed_limit : Bool → Term → Option LimitName
passed_limit is_great term = if is_great then Some IntegerLimit else (if nat_lt nesting_limit (nesting term) then Some NestingLimit else None)

-- the limit that the last of the terms passes
abbrev pub PassesLimit : Built → Option LimitName → Type 0
PassesLimit built limit = (earlier : List Term) (last : Term) → built.terms ≡ earlier ++ last ∷ [] → limit ≡ passed_limit built.is_great last

-- what is wrong where no term was read, or with the last term that was read
abbrev pub SaysWrong : Built → Bool → Option (Rule × Detail) → Type 0
SaysWrong built false wrong = wrong ≡ Some (NoTerm, Plain)
SaysWrong built true None = PassesLimit built None
SaysWrong built true (Some wrong) = (limit : LimitName) × (wrong ≡ (LimitPassed, Limit limit)) × PassesLimit built (Some limit)
