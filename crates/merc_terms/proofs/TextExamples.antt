-- Short texts: what is read of them, and what is wrong with them.
use Rattle.std.proofs.Common.{◌≡◌, ℕ, ◌+◌, ◌*◌, true, false, List, [], ◌∷◌, length, None, refl, sym, ap, ◌∙◌, arith}
use Rattle.std.specs.Prelude.{codes}
use Rattle.std.specs.Char.{encode_utf8}
use Rattle.std.specs.List.{IsDistinct}
use Rattle.std.specs.Str.{bytes_eq}
use Rattle.merc_base.specs.declared.place.Span.{Span}
use Rattle.merc_base.specs.declared.refusal.Refusal.{Refusal}
use Rattle.merc_base.specs.declared.refusal.Rule.TheVariants.{NoTerm, LimitPassed}
use Rattle.merc_base.specs.declared.refusal.Detail.TheVariants.{Plain, Limit}
use Rattle.merc_base.specs.declared.refusal.LimitName.TheVariants.{GoalText}
use Rattle.merc_tokens.specs.declared.token.Token.{Token}
use Rattle.merc_tokens.specs.declared.token.TokenKind.TheVariants.{Var as VarKind, Close as CloseKind, Stop as StopKind}
use Rattle.merc_tokens.specs.declared.pieces.Spelling.TheVariants.{Var, Stop}
use Rattle.merc_tokens.specs.Tokens.{ReadsTokens}
use Rattle.merc_tokens.specs.Tokens.HasTokensFrom.{ends, token as spelled_token}
use Rattle.merc_tree.specs.Term.{Term, Variable}
use Rattle.merc_terms.specs.Reading.{token}
use Rattle.merc_terms.specs.Reading.Spells.{variable}
use Rattle.merc_terms.specs.Items.{SpellsItem, SpellsGoal, IsAllowed, RefusesItems, at_once, none, item, unread, goal, here, later, refusal_at}
use Rattle.merc_terms.specs.Operators.{operators}
use Rattle.merc_terms.specs.Reader.{reading, whole_term}
use Rattle.merc_terms.specs.Texts.{ReadsItems, ReadsGoal, RefusesGoalText, goal_limit}
use Rattle.merc_terms.specs.Texts.RefusesGoalText.{long, term as wrong_term}
use Rattle.merc_terms.proofs.ReadingLaws.{RefusesItems-unique}
use Rattle.merc_terms.proofs.Renaming.{built_none}
use Rattle.merc_terms.proofs.Shorter.{Spells-shorter}
use Rattle.merc_terms.proofs.TextLaws.{ReadsItems-unique, RefusesGoalText-excludes}
use Rattle.merc_terms.proofs.WholeTerms.{whole_complete, full_stop}

-- the empty text has no tokens, and leaves the table as it is
reads_nothing : (names : List (List ℕ)) → ReadsTokens names names [] []
unfolding encode_utf8
reads_nothing names = record {
  spelled = [];
  has = record { utf8 = ([], (refl, refl)); all = ends 0 false refl };
  named = refl;
  table = refl;
}

-- so it is no items at all
pub nothing-example : (names : List (List ℕ)) → ReadsItems names names [] []
nothing-example names = record { tokens = []; read = reads_nothing names; items = none }

-- and not one item
pub nothing-counterexample : (names after : List (List ℕ)) (first : Term) → IsDistinct bytes_eq names → ReadsItems names after [] (first ∷ []) → ⊥
nothing-counterexample names after first distinct reads =
    let both = ReadsItems-unique names [] distinct names after [] (first ∷ []) (nothing-example names) reads in
    let same = both.1 in cc

-- a goal's text must be a term, and the empty one is none
no_goal : (term : Term) → SpellsGoal term [] → ⊥
no_goal term is = let less = Spells-shorter is.spelled in omega arith

pub no_goal-example : (names : List (List ℕ)) → RefusesGoalText names [] (refusal_at NoTerm Plain (record { byte = 0; line = 1 }))
no_goal-example names = wrong_term names [] _ (omega arith) (reads_nothing names) (goal [] NoTerm Plain (unread no_goal))

pub no_goal-counterexample : (names after : List (List ℕ)) (term : Term) → IsDistinct bytes_eq names → ReadsGoal names after [] term → ⊥
no_goal-counterexample names after term distinct reads =
    RefusesGoalText-excludes names [] distinct (refusal_at NoTerm Plain (record { byte = 0; line = 1 })) after term (no_goal-example names) reads

pub goal_limit-example : goal_limit ≡ 64 * 1024
unfolding goal_limit
goal_limit-example = refl

-- a text of one byte too many is no goal, whatever it says
pub long-example : (names : List (List ℕ)) (text : List ℕ) → length text ≡ goal_limit + 1 → RefusesGoalText names text (refusal_at LimitPassed (Limit GoalText) (record { byte = 0; line = 1 }))
unfolding goal_limit
long-example names text is = long (omega arith)

pub long-counterexample : (names after : List (List ℕ)) (text : List ℕ) (term : Term) → length text ≡ goal_limit + 1 → ReadsGoal names after text term → ⊥
unfolding goal_limit
long-counterexample names after text term is reads = omega (arith, reads.within)

abbrev first_byte : Span
first_byte = record { first = 0; past = 1; line = 1 }

variable_allowed : IsAllowed (Variable 0 first_byte)
variable_allowed = record { words = tt; nested = omega arith }

-- `X` is a goal, and puts its name into the table
pub goal-example : ReadsGoal [] (codes "X" ∷ []) (codes "X") (Variable 0 first_byte)
unfolding goal_limit encode_utf8
goal-example = record {
  within = omega arith;
  tokens = token (VarKind 0) first_byte ∷ [];
  read = record {
    spelled = record { kind = Var (codes "X"); span = first_byte } ∷ [];
    has = record { utf8 = (codes "X", (refl, refl)); all = spelled_token 0 1 false (Var (codes "X")) [] refl (ends 1 false refl) };
    named = refl;
    table = refl;
  };
  goal = record {
    spelled = record { priority = 0; rest = []; within = omega arith; spelled = variable true 0 first_byte []; ends = at_once };
    allowed = variable_allowed;
  };
}

-- `X.` is one item
pub item-example : ReadsItems [] (codes "X" ∷ []) (codes "X.") (Variable 0 first_byte ∷ [])
unfolding encode_utf8
item-example = record {
  tokens = token (VarKind 0) first_byte ∷ token StopKind stop ∷ [];
  read = record {
    spelled = record { kind = Var (codes "X"); span = first_byte } ∷ record { kind = Stop; span = stop } ∷ [];
    has = record { utf8 = (codes "X.", (refl, refl)); all = spelled_token 0 1 false (Var (codes "X")) _ refl (spelled_token 1 1 false Stop [] refl (ends 2 false refl)) };
    named = refl;
    table = refl;
  };
  items = item (Variable 0 first_byte) [] _ [] (record { priority = 0; stop = stop; within = omega arith; spelled = variable true 0 first_byte _ }) variable_allowed none;
}
  where
    stop : Span
    stop = record { first = 1; past = 2; line = 1 }

-- `X.`, and on the second line `).`, which is no item

abbrev on_second_line : ℕ → Span
on_second_line first = record { first = first; past = first + 1; line = 2 }

abbrev wrong_tokens : List Token
wrong_tokens = token CloseKind (on_second_line 3) ∷ token StopKind (on_second_line 4) ∷ []

abbrev x_stop : Span
x_stop = record { first = 1; past = 2; line = 1 }

abbrev x_and_wrong : List Token
x_and_wrong = token (VarKind 0) first_byte ∷ token StopKind x_stop ∷ wrong_tokens

abbrev refused_at : ℕ → ℕ → Refusal
refused_at byte line = refusal_at NoTerm Plain (record { byte = byte; line = line })

not_read : whole_term built_none wrong_tokens ≡ None
unfolding reading operators
not_read = refl

no_second : (term : Term) → ((rest : List Token) × SpellsItem term wrong_tokens rest) → ⊥
no_second term (rest, is) =
    let there = sym not_read ∙ whole_complete built_none term is.priority wrong_tokens (token StopKind is.stop ∷ rest) is.spelled is.within (full_stop is.stop rest) in cc

pub RefusesItems-example : RefusesItems x_and_wrong (refused_at 3 2)
RefusesItems-example =
    later (Variable 0 first_byte) (refused_at 3 2) x_and_wrong wrong_tokens
    (record { priority = 0; stop = x_stop; within = omega arith; spelled = variable true 0 first_byte (token StopKind x_stop ∷ wrong_tokens) }) variable_allowed
    (here (token CloseKind (on_second_line 3)) (token StopKind (on_second_line 4) ∷ []) NoTerm Plain (unread no_second))

-- the first item is one
pub RefusesItems-counterexample : RefusesItems x_and_wrong (refused_at 0 1) → ⊥
RefusesItems-counterexample refuses =
    let same : 3 ≡ 0 = ap (λ (refusal : Refusal). refusal.place.byte) (RefusesItems-unique x_and_wrong (refused_at 3 2) (refused_at 0 1) RefusesItems-example refuses) in omega (arith, same)
