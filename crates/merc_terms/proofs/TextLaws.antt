-- What a text says is decided: its items or its goal, the names behind it, and what is wrong with it.
use Rattle.std.proofs.Common.{◌≡◌, ℕ, List, ◌++◌, refl, sym, subst, arith}
use Rattle.std.specs.List.{IsDistinct}
use Rattle.std.specs.Str.{bytes_eq}
use Rattle.merc_base.specs.declared.refusal.Refusal.{Refusal}
use Rattle.merc_tokens.specs.declared.token.Token.{Token}
use Rattle.merc_tokens.proofs.NameTables.{ReadsTokens-grows, ReadsTokens-distinct, ReadsTokens-unique}
use Rattle.merc_tokens.proofs.RefusalLaws.{RefusesRightly-unique}
use Rattle.merc_tree.specs.Term.{Term}
use Rattle.merc_terms.specs.Items.{HasItems, HasGoal, RefusesItems, RefusesGoal}
use Rattle.merc_terms.specs.Texts.{ReadsItems, RefusesText, ReadsGoal, RefusesGoalText}
use Rattle.merc_terms.specs.Texts.RefusesText.{tokens as wrong_tokens, terms as wrong_terms}
use Rattle.merc_terms.specs.Texts.RefusesGoalText.{long, tokens as wrong_goal_tokens, term as wrong_term}
use Rattle.merc_terms.proofs.ReadingLaws.{HasItems-unique, HasGoal-unique, RefusesItems-excludes, RefusesItems-unique, RefusesGoal-excludes, RefusesGoal-unique}

-- the names that the table held stay where they are
pub ReadsItems-grows : (before after : List (List ℕ)) (text : List ℕ) (terms : List Term) → ReadsItems before after text terms → (more : List (List ℕ)) × (after ≡ before ++ more)
ReadsItems-grows before after text terms reads = ReadsTokens-grows before after text reads.tokens reads.read

pub ReadsGoal-grows : (before after : List (List ℕ)) (text : List ℕ) (term : Term) → ReadsGoal before after text term → (more : List (List ℕ)) × (after ≡ before ++ more)
ReadsGoal-grows before after text term reads = ReadsTokens-grows before after text reads.tokens reads.read

-- where the table holds each name once,
module _ (before : List (List ℕ)) (text : List ℕ) (distinct : IsDistinct bytes_eq before) where
  -- it does so behind the text,
  pub ReadsItems-distinct : (after : List (List ℕ)) (terms : List Term) → ReadsItems before after text terms → IsDistinct bytes_eq after
  ReadsItems-distinct after terms reads = ReadsTokens-distinct before after text reads.tokens distinct reads.read

  -- and the text is one list of items at most
  pub ReadsItems-unique : (after after' : List (List ℕ)) (terms terms' : List Term) → ReadsItems before after text terms → ReadsItems before after' text terms' → (after ≡ after') × (terms ≡ terms')
  ReadsItems-unique after after' terms terms' reads reads' =
      let both = ReadsTokens-unique before after after' text reads.tokens reads'.tokens distinct reads.read reads'.read in
      (both.0, HasItems-unique reads.tokens terms terms' reads.items (subst (λ (tokens : List Token). HasItems tokens terms') (sym both.1) reads'.items))

  -- it is refused in one way,
  pub RefusesText-unique : (one other : Refusal) → RefusesText before text one → RefusesText before text other → one ≡ other
  RefusesText-unique one other (wrong_tokens _ right) (wrong_tokens _ right') = RefusesRightly-unique text one other right right'
  RefusesText-unique one other (wrong_tokens _ right) (wrong_terms after tokens _ reads refuses) = absurd (right.1 reads.spelled reads.has)
  RefusesText-unique one other (wrong_terms after tokens _ reads refuses) (wrong_tokens _ right) = absurd (right.1 reads.spelled reads.has)
  RefusesText-unique one other (wrong_terms after tokens _ reads refuses) (wrong_terms after' tokens' _ reads' refuses') =
      let both = ReadsTokens-unique before after after' text tokens tokens' distinct reads reads' in
      RefusesItems-unique tokens one other refuses (subst (λ (found : List Token). RefusesItems found other) (sym both.1) refuses')

  -- and then is no items
  pub RefusesText-excludes : (refusal : Refusal) (after : List (List ℕ)) (terms : List Term) → RefusesText before text refusal → ReadsItems before after text terms → ⊥
  RefusesText-excludes refusal after terms (wrong_tokens _ right) is = right.1 is.read.spelled is.read.has
  RefusesText-excludes refusal after terms (wrong_terms after' tokens _ reads refuses) is =
      let both = ReadsTokens-unique before after' after text tokens is.tokens distinct reads is.read in
      RefusesItems-excludes tokens refusal terms refuses (subst (λ (found : List Token). HasItems found terms) (sym both.1) is.items)

  -- a goal's text likewise
  pub ReadsGoal-distinct : (after : List (List ℕ)) (term : Term) → ReadsGoal before after text term → IsDistinct bytes_eq after
  ReadsGoal-distinct after term reads = ReadsTokens-distinct before after text reads.tokens distinct reads.read

  pub ReadsGoal-unique : (after after' : List (List ℕ)) (term term' : Term) → ReadsGoal before after text term → ReadsGoal before after' text term' → (after ≡ after') × (term ≡ term')
  ReadsGoal-unique after after' term term' reads reads' =
      let both = ReadsTokens-unique before after after' text reads.tokens reads'.tokens distinct reads.read reads'.read in
      (both.0, HasGoal-unique reads.tokens term term' reads.goal (subst (λ (tokens : List Token). HasGoal tokens term') (sym both.1) reads'.goal))

  pub RefusesGoalText-unique : (one other : Refusal) → RefusesGoalText before text one → RefusesGoalText before text other → one ≡ other
  RefusesGoalText-unique one other (long passes) (long passes') = refl
  RefusesGoalText-unique one other (long passes) (wrong_goal_tokens _ within right) = absurd (omega (arith, passes, within))
  RefusesGoalText-unique one other (long passes) (wrong_term after tokens _ within reads refuses) = absurd (omega (arith, passes, within))
  RefusesGoalText-unique one other (wrong_goal_tokens _ within right) (long passes) = absurd (omega (arith, passes, within))
  RefusesGoalText-unique one other (wrong_goal_tokens _ within right) (wrong_goal_tokens _ within' right') = RefusesRightly-unique text one other right right'
  RefusesGoalText-unique one other (wrong_goal_tokens _ within right) (wrong_term after tokens _ within' reads refuses) = absurd (right.1 reads.spelled reads.has)
  RefusesGoalText-unique one other (wrong_term after tokens _ within reads refuses) (long passes) = absurd (omega (arith, passes, within))
  RefusesGoalText-unique one other (wrong_term after tokens _ within reads refuses) (wrong_goal_tokens _ within' right) = absurd (right.1 reads.spelled reads.has)
  RefusesGoalText-unique one other (wrong_term after tokens _ within reads refuses) (wrong_term after' tokens' _ within' reads' refuses') =
      let both = ReadsTokens-unique before after after' text tokens tokens' distinct reads reads' in
      RefusesGoal-unique tokens one other refuses (subst (λ (found : List Token). RefusesGoal found other) (sym both.1) refuses')

  pub RefusesGoalText-excludes : (refusal : Refusal) (after : List (List ℕ)) (term : Term) → RefusesGoalText before text refusal → ReadsGoal before after text term → ⊥
  RefusesGoalText-excludes refusal after term (long passes) is = omega (arith, passes, is.within)
  RefusesGoalText-excludes refusal after term (wrong_goal_tokens _ within right) is = right.1 is.read.spelled is.read.has
  RefusesGoalText-excludes refusal after term (wrong_term after' tokens _ within reads refuses) is =
      let both = ReadsTokens-unique before after' after text tokens is.tokens distinct reads is.read in
      RefusesGoal-excludes tokens refusal term refuses (subst (λ (found : List Token). HasGoal found term) (sym both.1) is.goal)
