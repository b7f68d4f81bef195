-- What is said of a text that is refused, from what is said of its tokens.
use Rattle.std.proofs.Common.{ℕ, ◌≤◌, List, length}
use Rattle.merc_base.specs.declared.refusal.Fault.{Fault}
use Rattle.merc_base.specs.declared.refusal.Fault.TheVariants.{Refused, NoMemory}
use Rattle.merc_tokens.specs.declared.token.Token.{Token}
use Rattle.merc_tokens.specs.Tokens.{ReadsTokens}
use Rattle.merc_tokens.specs.Faults.{RefusesRightly}
use Rattle.merc_terms.specs.Items.{RefusesItems, RefusesGoal, IsRefusal}
use Rattle.merc_terms.specs.Texts.{RefusesText, RefusesGoalText, goal_limit}
use Rattle.merc_terms.specs.Texts.RefusesText.{tokens as wrong_tokens, terms as wrong_terms}
use Rattle.merc_terms.specs.Texts.RefusesGoalText.{tokens as wrong_goal_tokens, term as wrong_term}

module _ (before : List (List ℕ)) (text : List ℕ) where
  pub tokens-refused : (fault : Fault) → RefusesRightly text fault → IsRefusal (RefusesText before text) fault
  tokens-refused (Refused refusal) right = wrong_tokens refusal right
  tokens-refused NoMemory right = tt

  pub items-refused : (after : List (List ℕ)) (tokens : List Token) → ReadsTokens before after text tokens → (fault : Fault) → IsRefusal (RefusesItems tokens) fault → IsRefusal (RefusesText before text) fault
  items-refused after tokens reads (Refused refusal) refuses = wrong_terms after tokens refusal reads refuses
  items-refused after tokens reads NoMemory refuses = tt

  pub goal_tokens-refused : length text ≤ goal_limit → (fault : Fault) → RefusesRightly text fault → IsRefusal (RefusesGoalText before text) fault
  goal_tokens-refused within (Refused refusal) right = wrong_goal_tokens refusal within right
  goal_tokens-refused within NoMemory right = tt

  pub goal-refused : (after : List (List ℕ)) (tokens : List Token) → length text ≤ goal_limit → ReadsTokens before after text tokens → (fault : Fault) → IsRefusal (RefusesGoal tokens) fault → IsRefusal (RefusesGoalText before text) fault
  goal-refused after tokens within reads (Refused refusal) refuses = wrong_term after tokens refusal within reads refuses
  goal-refused after tokens within reads NoMemory refuses = tt
