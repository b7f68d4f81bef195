-- The items that a text is, and the term that a goal's text is: its tokens are these.
use Rattle.std.specs.Prelude.{ℕ, ◌≤◌, ◌<◌, List, length}
use Rattle.merc_base.specs.declared.refusal.Refusal.{Refusal}
use Rattle.merc_base.specs.declared.refusal.Fault.TheVariants.{Refused}
use Rattle.merc_base.specs.declared.refusal.Rule.TheVariants.{LimitPassed}
use Rattle.merc_base.specs.declared.refusal.Detail.TheVariants.{Limit}
use Rattle.merc_base.specs.declared.refusal.LimitName.TheVariants.{GoalText}
use Rattle.merc_tokens.specs.declared.token.Token.{Token}
use Rattle.merc_tokens.specs.Tokens.{ReadsTokens}
use Rattle.merc_tokens.specs.Faults.{RefusesRightly}
use Rattle.merc_tree.specs.Term.{Term}
use Rattle.merc_terms.specs.Items.{HasItems, HasGoal, RefusesItems, RefusesGoal, refusal_at}

-- the tokens of a text are items with these terms; the table held the first names before the text was read, and holds the second behind it
pub record ReadsItems (before after : List (List ℕ)) (text : List ℕ) (terms : List Term) : Type 0 where
  pub tokens : List Token
  pub read : ReadsTokens before after text tokens
  pub items : HasItems tokens terms

-- what is wrong with a text that is no items: the first fault of its bytes, or that of its first item that is no term
pub data RefusesText (before : List (List ℕ)) (text : List ℕ) : Refusal → Type 0 where
  tokens : (refusal : Refusal) → RefusesRightly text (Refused refusal) → RefusesText before text refusal
  terms : (after : List (List ℕ)) (tokens : List Token) (refusal : Refusal) → ReadsTokens before after text tokens → RefusesItems tokens refusal → RefusesText before text refusal

-- the most bytes that a goal's text may have
unfoldable pub goal_limit : ℕ
goal_limit = 65536

-- a text within the limit, whose tokens are a goal with this term
pub record ReadsGoal (before after : List (List ℕ)) (text : List ℕ) (term : Term) : Type 0 where
  pub within : length text ≤ goal_limit
  pub tokens : List Token
  pub read : ReadsTokens before after text tokens
  pub goal : HasGoal tokens term

-- what is wrong with a goal's text: it is too long, has a fault in its bytes, or is no term
pub data RefusesGoalText (before : List (List ℕ)) (text : List ℕ) : Refusal → Type 0 where
  long : goal_limit < length text → RefusesGoalText before text (refusal_at LimitPassed (Limit GoalText) (record { byte = 0; line = 1 }))
  tokens : (refusal : Refusal) → length text ≤ goal_limit → RefusesRightly text (Refused refusal) → RefusesGoalText before text refusal
  term : (after : List (List ℕ)) (tokens : List Token) (refusal : Refusal) → length text ≤ goal_limit → ReadsTokens before after text tokens → RefusesGoal tokens refusal → RefusesGoalText before text refusal
