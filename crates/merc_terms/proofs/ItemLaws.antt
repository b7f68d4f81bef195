-- What was read is an item or a goal, or there is none.
use Rattle.std.proofs.Common.{◌≡◌, ◌||◌, if◌then◌else◌, ◌<◌, ◌≤◌, Bool, true, false, nat_lt, List, [], ◌∷◌, ◌++◌, length, get_or, Option, Some, None, refl, sym, ap, subst, ◌∙◌, arith, ltb-true, ltb-false, append_assoc, append-nil}
use Rattle.merc_base.specs.declared.place.Place.{Place}
use Rattle.merc_base.specs.declared.refusal.Refusal.{Refusal}
use Rattle.merc_base.specs.declared.refusal.Rule.{Rule}
use Rattle.merc_base.specs.declared.refusal.Rule.TheVariants.{NoTerm, LimitPassed}
use Rattle.merc_base.specs.declared.refusal.Detail.{Detail}
use Rattle.merc_base.specs.declared.refusal.Detail.TheVariants.{Plain, Limit}
use Rattle.merc_base.specs.declared.refusal.LimitName.{LimitName}
use Rattle.merc_base.specs.declared.refusal.LimitName.TheVariants.{Integer as IntegerLimit, Nesting as NestingLimit}
use Rattle.merc_tokens.specs.declared.token.Token.{Token}
use Rattle.merc_tokens.specs.declared.token.TokenKind.{TokenKind}
use Rattle.merc_tokens.specs.declared.token.TokenKind.TheVariants.{Stop}
use Rattle.merc_tree.specs.Term.{Term, span_of}
use Rattle.merc_tree.specs.Nesting.{nesting}
use Rattle.merc_terms.specs.declared.built.Built.{Built}
use Rattle.merc_terms.specs.declared.moving.Progress.{Progress}
use Rattle.merc_terms.specs.Reading.{token, Spells}
use Rattle.merc_terms.specs.Reader.{Read, clipped, is_great, pushed, whole_term}
use Rattle.merc_terms.specs.Items.{SpellsItem, SpellsGoal, Ends, at_once, stopped, IsAllowed, HasItems, none, item, HasGoal, RefusesGoal, goal, IsWrong, unread, great, nested, RefusesItems, here, later, refusal_at, place_of, nesting_limit}
use Rattle.merc_terms.specs.Moves.{read_of}
use Rattle.merc_terms.specs.Standing.{ReadsTerm}
use Rattle.merc_terms.specs.Outcomes.{TakesStop, IsAtEnd, ReadsItem, ReadsGoal, passed_limit, PassesLimit, SaysWrong}
use Rattle.merc_terms.proofs.WholeTerms.{whole_sound, whole_complete, IsEnd, nothing, full_stop, shorter, great_fits, great_passes}

-- what was read leaves the rest that a spelt term leaves
same_rest : (read read' : Read) (whole : Option Read) → whole ≡ Some read → whole ≡ Some read' → read.rest ≡ read'.rest
same_rest read read' whole e e' = let same : Some read ≡ Some read' = sym e ∙ e' in let same' : read ≡ read' = cc in ap (λ (r : Read). r.rest) same'

-- no whole term is no item
pub no_item : (old mid : Progress) → ReadsTerm old mid false → (term : Term) (rest : List Token) → SpellsItem term old.rest.now rest → ⊥
no_item old mid e term rest spelt =
    let there = whole_complete old.built term spelt.priority old.rest.now (token Stop spelt.stop ∷ rest) spelt.spelled spelt.within (full_stop spelt.stop rest) in
    cc

-- a whole term and its full stop are an item
pub item_read : (old mid new : Progress) (found : Bool) → ReadsTerm old mid true → TakesStop mid.rest.now new.rest.now found → new.built ≡ mid.built → ReadsItem old new found
item_read old mid new true (span, priority, e) (stop, e') same =
    let whole = whole_sound old.built old.rest.now (read_of mid span priority) e in
    (whole.term, record { priority = priority; stop = stop; within = whole.within; spelled = subst (Spells true whole.term priority old.rest.now) e' whole.spelled }, same ∙ whole.built_is)
item_read old mid new false (span, priority, e) no_stop same = λ term rest spelt.
    let there = whole_complete old.built term spelt.priority old.rest.now (token Stop spelt.stop ∷ rest) spelt.spelled spelt.within (full_stop spelt.stop rest) in
    no_stop spelt.stop rest (same_rest (read_of mid span priority) (record { built = pushed term old.built; span = span_of term; priority = spelt.priority; rest = token Stop spelt.stop ∷ rest }) (whole_term old.built old.rest.now) e there)

pub item_shorter : (old mid new : Progress) (found : Bool) → ReadsTerm old mid true → TakesStop mid.rest.now new.rest.now found → found ≡ true → length new.rest.now < length old.rest.now
item_shorter old mid new true (span, priority, e) (stop, e') h =
    let less = shorter old.built old.rest.now (read_of mid span priority) e in omega (arith, less, ap (λ (tokens : List Token). length tokens) e')
item_shorter old mid new false whole no_stop h = cc

is_end : (rest : List Token) → Ends rest → IsEnd rest
is_end rest at_once = nothing
is_end rest (stopped stop) = full_stop stop []

-- no whole term is no goal
pub no_goal : (old mid : Progress) → ReadsTerm old mid false → (term : Term) → SpellsGoal term old.rest.now → ⊥
no_goal old mid e term spelt =
    let there = whole_complete old.built term spelt.priority old.rest.now spelt.rest spelt.spelled spelt.within (is_end spelt.rest spelt.ends) in
    cc

-- a whole term and the end are a goal
pub goal_read : (old new : Progress) (found : Bool) → ReadsTerm old new true → IsAtEnd new.rest.now found → ReadsGoal old new found
goal_read old new true (span, priority, e) ends =
    let whole = whole_sound old.built old.rest.now (read_of new span priority) e in
    (whole.term, record { priority = priority; rest = new.rest.now; within = whole.within; spelled = whole.spelled; ends = ends }, whole.built_is)
goal_read old new false (span, priority, e) no_end = λ term spelt.
    let there = whole_complete old.built term spelt.priority old.rest.now spelt.rest spelt.spelled spelt.within (is_end spelt.rest spelt.ends) in
    let same = same_rest (read_of new span priority) (record { built = pushed term old.built; span = span_of term; priority = spelt.priority; rest = spelt.rest }) (whole_term old.built old.rest.now) e there in
    no_end (subst Ends (sym same) spelt.ends)

pub at_end_none : (tokens : List Token) → length tokens < 1 → Ends tokens
at_end_none [] h = at_once
at_end_none (token ∷ tokens) h = absurd (omega (arith, h))

pub at_end_one : (tokens : List Token) (only : Token) (is_stop : Bool) → 1 ≤ length tokens → length tokens < 2 → only ≡ get_or tokens 0 only
    → (is_stop ≡ true → only.kind ≡ Stop) → (is_stop ≡ false → only.kind ≡ Stop → ⊥) → IsAtEnd tokens is_stop
at_end_one [] only is_stop h h' e same differs = absurd (omega (arith, h))
at_end_one (first ∷ next ∷ rest) only is_stop h h' e same differs = absurd (omega (arith, h'))
at_end_one (first ∷ []) only true h h' e same differs = let kind : first.kind ≡ Stop = ap (λ (t : Token). t.kind) (sym e) ∙ same refl in stop_ends first kind
  where
    stop_ends : (first : Token) → first.kind ≡ Stop → Ends (first ∷ [])
    stop_ends first kind = subst (λ (k : TokenKind). Ends (token k first.span ∷ [])) (sym kind) (stopped first.span)
at_end_one (first ∷ []) only false h h' e same differs = λ ends. differs refl (ap (λ (t : Token). t.kind) e ∙ kind_of first ends)
  where
    kind_of : (first : Token) → Ends (first ∷ []) → first.kind ≡ Stop
    kind_of _ (stopped stop) = refl

-- a term that passes no limit
within_limits : (term : Term) (is : Bool) → is_great term ≡ is → None ≡ passed_limit is (clipped term) → IsAllowed term × (is ≡ false) × (clipped term ≡ term)
within_limits term true e limit = cc
within_limits term false e limit =
    let fits = great_fits term e in
    (record { words = fits.0; nested = shallow (nat_lt nesting_limit (nesting (clipped term))) refl limit fits.1 }, refl, fits.1)
  where
    shallow : (b : Bool) → nat_lt nesting_limit (nesting (clipped term)) ≡ b → None ≡ (if b then Some NestingLimit else None) → clipped term ≡ term → nesting term ≤ nesting_limit
    shallow true e limit same = cc
    shallow false e limit same = subst (λ (t : Term). nesting t ≤ nesting_limit) same (ltb-false nesting_limit (nesting (clipped term)) e)

-- a term that passes one
beyond : (Reads : Term → Type 0) (term : Term) (limit : LimitName) (is : Bool) → Reads term → is_great term ≡ is → Some limit ≡ passed_limit is (clipped term) → IsWrong Reads LimitPassed (Limit limit)
beyond Reads term limit true reads e same = let limit_is : limit ≡ IntegerLimit = cc in rw limit_is (great term reads (great_passes term e))
beyond Reads term limit false reads e same = deep (nat_lt nesting_limit (nesting (clipped term))) refl same
  where
    deep : (b : Bool) → nat_lt nesting_limit (nesting (clipped term)) ≡ b → Some limit ≡ (if b then Some NestingLimit else None) → IsWrong Reads LimitPassed (Limit limit)
    deep true e' same =
        let fits = great_fits term e in
        let limit_is : limit ≡ NestingLimit = cc in
        rw limit_is (nested term reads fits.0 (subst (λ (t : Term). nesting_limit < nesting t) fits.1 (ltb-true nesting_limit (nesting (clipped term)) e')))
    deep false e' same = cc

-- what the last of the terms passes where one more was read
last_passes : (old new : Built) (term : Term) (limit : Option LimitName) → old.is_great ≡ false → new ≡ pushed term old → PassesLimit new limit → limit ≡ passed_limit (is_great term) (clipped term)
last_passes old new term limit small e passes =
    passes old.terms (clipped term) (ap (λ (b : Built). b.terms) e)
    ∙ ap (λ (is : Bool). passed_limit is (clipped term)) (ap (λ (b : Built). b.is_great) e ∙ ap (λ (is : Bool). is || is_great term) small)

-- one more term, which passes no limit
pub record Grows (old new : Built) (term : Term) : Type 0 where
  pub allowed : IsAllowed term
  pub terms : new.terms ≡ old.terms ++ term ∷ []
  pub small : new.is_great ≡ false

grows : (old new : Built) (term : Term) → old.is_great ≡ false → new ≡ pushed term old → PassesLimit new None → Grows old new term
grows old new term small e passes =
    let fits = within_limits term (is_great term) refl (last_passes old new term None small e passes) in
    record {
      allowed = fits.0;
      terms = ap (λ (b : Built). b.terms) e ∙ ap (λ (t : Term). old.terms ++ t ∷ []) fits.2;
      small = ap (λ (b : Built). b.is_great) e ∙ ap (λ (is : Bool). is || is_great term) small ∙ fits.1;
    }

same_pair : (a b : Rule × Detail) → Some a ≡ Some b → a ≡ b
same_pair a b e = cc

-- where nothing is wrong, a term was read
pub is_found : (built : Built) (found : Bool) → SaysWrong built found None → found ≡ true
is_found built true right = refl
is_found built false right = cc

-- an item that was read and has no fault
pub item_right : (old new : Progress) (found : Bool) → old.built.is_great ≡ false → ReadsItem old new found → SaysWrong new.built found None
    → (term : Term) × SpellsItem term old.rest.now new.rest.now × Grows old.built new.built term
item_right old new true small (term, spelt, e) passes = (term, spelt, grows old.built new.built term small e passes)
item_right old new false small absent wrong = cc

-- an item with a fault
pub item_wrong : (old new : Progress) (found : Bool) (rule : Rule) (detail : Detail) → old.built.is_great ≡ false → ReadsItem old new found → SaysWrong new.built found (Some (rule, detail))
    → IsWrong (λ term. (rest : List Token) × SpellsItem term old.rest.now rest) rule detail
item_wrong old new true rule detail small (term, spelt, e) (limit, is, passes) =
    let rule_is : rule ≡ LimitPassed = ap (λ (both : Rule × Detail). both.0) is in
    let detail_is : detail ≡ Limit limit = ap (λ (both : Rule × Detail). both.1) is in
    rw (rule_is, detail_is) (beyond (λ term. (rest : List Token) × SpellsItem term old.rest.now rest) term limit (is_great term) (new.rest.now, spelt) refl (last_passes old.built new.built term (Some limit) small e passes))
item_wrong old new false rule detail small absent is =
    let rule_is : rule ≡ NoTerm = ap (λ (both : Rule × Detail). both.0) (same_pair (rule, detail) (NoTerm, Plain) is) in
    let detail_is : detail ≡ Plain = ap (λ (both : Rule × Detail). both.1) (same_pair (rule, detail) (NoTerm, Plain) is) in
    rw (rule_is, detail_is) (unread (λ term reads. absent term reads.0 reads.1))

-- a goal that was read and has no fault
pub goal_right : (old new : Progress) (found : Bool) → old.built.is_great ≡ false → ReadsGoal old new found → SaysWrong new.built found None
    → (term : Term) × SpellsGoal term old.rest.now × Grows old.built new.built term
goal_right old new true small (term, spelt, e) passes = (term, spelt, grows old.built new.built term small e passes)
goal_right old new false small absent wrong = cc

-- a goal with a fault
pub goal_wrong : (old new : Progress) (found : Bool) (rule : Rule) (detail : Detail) → old.built.is_great ≡ false → ReadsGoal old new found → SaysWrong new.built found (Some (rule, detail))
    → IsWrong (λ term. SpellsGoal term old.rest.now) rule detail
goal_wrong old new true rule detail small (term, spelt, e) (limit, is, passes) =
    let rule_is : rule ≡ LimitPassed = ap (λ (both : Rule × Detail). both.0) is in
    let detail_is : detail ≡ Limit limit = ap (λ (both : Rule × Detail). both.1) is in
    rw (rule_is, detail_is) (beyond (λ term. SpellsGoal term old.rest.now) term limit (is_great term) spelt refl (last_passes old.built new.built term (Some limit) small e passes))
goal_wrong old new false rule detail small absent is =
    let rule_is : rule ≡ NoTerm = ap (λ (both : Rule × Detail). both.0) (same_pair (rule, detail) (NoTerm, Plain) is) in
    let detail_is : detail ≡ Plain = ap (λ (both : Rule × Detail). both.1) (same_pair (rule, detail) (NoTerm, Plain) is) in
    rw (rule_is, detail_is) (unread absent)

-- the items that were read so far
pub record ItemsSoFar (tokens : List Token) (progress : Progress) : Type 0 where
  pub small : progress.built.is_great ≡ false
  pub found : (others : List Term) → HasItems progress.rest.now others → HasItems tokens (progress.built.terms ++ others)
  pub refused : (refusal : Refusal) → RefusesItems progress.rest.now refusal → RefusesItems tokens refusal

pub items_start : (tokens : List Token) (progress : Progress) → progress.built.terms ≡ [] → progress.built.is_great ≡ false → progress.rest.now ≡ tokens → ItemsSoFar tokens progress
items_start tokens progress terms small rest = record {
  small = small;
  found = λ others items. rw terms (subst (λ (t : List Token). HasItems t others) rest items);
  refused = λ refusal refuses. subst (λ (t : List Token). RefusesItems t refusal) rest refuses;
}

pub items_grow : (tokens : List Token) (old new : Progress) (found : Bool) → ItemsSoFar tokens old → ReadsItem old new found → SaysWrong new.built found None → ItemsSoFar tokens new
items_grow tokens old new found sofar reads right =
    let one = item_right old new found sofar.small reads right in
    record {
      small = one.2.small;
      found = λ others items. rw (one.2.terms, append_assoc) (sofar.found (one.0 ∷ others) (item one.0 others old.rest.now new.rest.now one.1 one.2.allowed items));
      refused = λ refusal refuses. sofar.refused refusal (later one.0 refusal old.rest.now new.rest.now one.1 one.2.allowed refuses);
    }

pub items_end : (tokens : List Token) (progress : Progress) → ItemsSoFar tokens progress → length progress.rest.now ≤ 0 → HasItems tokens progress.built.terms
items_end tokens progress sofar none' = rw (← append-nil progress.built.terms) (sofar.found [] (nothing_left progress.rest.now none'))
  where
    nothing_left : (rest : List Token) → length rest ≤ 0 → HasItems rest []
    nothing_left [] h = none
    nothing_left (first ∷ rest) h = absurd (omega (arith, h))

pub items_refused : (tokens : List Token) (old new : Progress) (found : Bool) (rule : Rule) (detail : Detail) (place : Place) → ItemsSoFar tokens old → ReadsItem old new found → SaysWrong new.built found (Some (rule, detail))
    → 0 < length old.rest.now → place ≡ place_of old.rest.now → RefusesItems tokens (refusal_at rule detail place)
items_refused tokens old new found rule detail place sofar reads wrong some e =
    rw e (sofar.refused (refusal_at rule detail (place_of old.rest.now)) (here_at old.rest.now some (item_wrong old new found rule detail sofar.small reads wrong)))
  where
    here_at : (rest : List Token) → 0 < length rest → IsWrong (λ term. (behind : List Token) × SpellsItem term rest behind) rule detail → RefusesItems rest (refusal_at rule detail (place_of rest))
    here_at [] h is = absurd (omega (arith, h))
    here_at (first ∷ others) h is = here first others rule detail is

-- the term of a goal without a fault
pub goal_alone : (old new : Progress) (found : Bool) → old.built.terms ≡ [] → old.built.is_great ≡ false → ReadsGoal old new found → SaysWrong new.built found None
    → (term : Term) × (new.built.terms ≡ term ∷ []) × HasGoal old.rest.now term
goal_alone old new found terms small reads right =
    let one = goal_right old new found small reads right in
    (one.0, one.2.terms ∙ ap (λ (t : List Term). t ++ one.0 ∷ []) terms, record { spelled = one.1; allowed = one.2.allowed })

pub goal_refused : (tokens : List Token) (old new : Progress) (found : Bool) (rule : Rule) (detail : Detail) (place : Place) → old.built.is_great ≡ false → old.rest.now ≡ tokens → ReadsGoal old new found
    → SaysWrong new.built found (Some (rule, detail)) → place ≡ place_of old.rest.now → RefusesGoal tokens (refusal_at rule detail place)
goal_refused tokens old new found rule detail place small rest reads wrong e =
    rw (e, ← rest) (goal old.rest.now rule detail (goal_wrong old new found rule detail small reads wrong))
