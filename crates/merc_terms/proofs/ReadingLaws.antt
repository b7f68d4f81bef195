-- What tokens spell is decided: items, goals and what is wrong with them.
use Rattle.std.proofs.Common.{◌≡◌, ◌≤◌, List, [], ◌∷◌, refl, sym, ap₂, subst, arith}
use Rattle.merc_base.specs.declared.refusal.Refusal.{Refusal}
use Rattle.merc_base.specs.declared.refusal.Rule.{Rule}
use Rattle.merc_base.specs.declared.refusal.Detail.{Detail}
use Rattle.merc_tokens.specs.declared.token.Token.{Token}
use Rattle.merc_tree.specs.Term.{Term, HasWords}
use Rattle.merc_tree.specs.Nesting.{nesting}
use Rattle.merc_terms.specs.Items.{SpellsItem, SpellsGoal, Ends, at_once, stopped, IsAllowed, HasItems, none, item, HasGoal, IsWrong, unread, great, nested, refusal_at, place_of, RefusesItems, here, later, RefusesGoal, goal, nesting_limit}
use Rattle.merc_terms.proofs.Shorter.{Spells-shorter}
use Rattle.merc_terms.proofs.WholeTerms.{IsEnd, nothing, full_stop}
use Rattle.merc_terms.proofs.Renaming.{Spells-unique}

pub SpellsItem-unique : (one other : Term) (tokens rest rest' : List Token) → SpellsItem one tokens rest → SpellsItem other tokens rest' → (one ≡ other) × (rest ≡ rest')
SpellsItem-unique one other tokens rest rest' is is' =
    let both = Spells-unique one other is.priority is'.priority tokens _ _ is.spelled is.within (full_stop is.stop rest) is'.spelled is'.within (full_stop is'.stop rest') in
    (both.0, let e = both.1 in cc)

pub Ends-end : (rest : List Token) → Ends rest → IsEnd rest
Ends-end rest at_once = nothing
Ends-end rest (stopped stop) = full_stop stop []

pub SpellsGoal-unique : (one other : Term) (tokens : List Token) → SpellsGoal one tokens → SpellsGoal other tokens → one ≡ other
SpellsGoal-unique one other tokens is is' =
    (Spells-unique one other is.priority is'.priority tokens is.rest is'.rest is.spelled is.within (Ends-end is.rest is.ends) is'.spelled is'.within (Ends-end is'.rest is'.ends)).0

-- no item begins at the end
item-some : (term : Term) (rest : List Token) → SpellsItem term [] rest → ⊥
item-some term rest is = let less = Spells-shorter is.spelled in omega arith

pub HasItems-unique : (tokens : List Token) (one other : List Term) → HasItems tokens one → HasItems tokens other → one ≡ other
HasItems-unique tokens one other none none = refl
HasItems-unique tokens one other none (item term terms _ rest is allowed others) = absurd (item-some term rest is)
HasItems-unique tokens one other (item term terms _ rest is allowed others) none = absurd (item-some term rest is)
HasItems-unique tokens one other (item term terms _ rest is allowed others) (item term' terms' _ rest' is' allowed' others') =
    let both = SpellsItem-unique term term' tokens rest rest' is is' in
    ap₂ (λ (t : Term) (l : List Term). t ∷ l) both.0 (HasItems-unique rest terms terms' others (subst (λ (r : List Token). HasItems r terms') (sym both.1) others'))

pub HasGoal-unique : (tokens : List Token) (one other : Term) → HasGoal tokens one → HasGoal tokens other → one ≡ other
HasGoal-unique tokens one other is is' = SpellsGoal-unique one other tokens is.spelled is'.spelled

-- of tokens that spell one term at most

abbrev IsOne : (Term → Type 0) → Type 0
IsOne Reads = (one other : Term) → Reads one → Reads other → one ≡ other

-- nothing is wrong with tokens that spell a term that is allowed
wrong-allowed : (Reads : Term → Type 0) → IsOne Reads → (rule : Rule) (detail : Detail) (term : Term) → IsWrong Reads rule detail → Reads term → IsAllowed term → ⊥
wrong-allowed Reads one rule detail term (unread no_term) reads allowed = no_term term reads
wrong-allowed Reads one rule detail term (great other reads' passes) reads allowed = passes (subst HasWords (one term other reads reads') allowed.words)
wrong-allowed Reads one rule detail term (nested other reads' words deep) reads allowed =
    let shallow : nesting other ≤ nesting_limit = subst (λ (t : Term). nesting t ≤ nesting_limit) (one term other reads reads') allowed.nested in omega arith

IsWrong-unique : (Reads : Term → Type 0) → IsOne Reads → (rule rule' : Rule) (detail detail' : Detail) → IsWrong Reads rule detail → IsWrong Reads rule' detail'
    → (rule ≡ rule') × (detail ≡ detail')
IsWrong-unique Reads one rule rule' detail detail' (unread no_term) (unread no_term') = (refl, refl)
IsWrong-unique Reads one rule rule' detail detail' (unread no_term) (great term reads passes) = absurd (no_term term reads)
IsWrong-unique Reads one rule rule' detail detail' (unread no_term) (nested term reads words deep) = absurd (no_term term reads)
IsWrong-unique Reads one rule rule' detail detail' (great term reads passes) (unread no_term) = absurd (no_term term reads)
IsWrong-unique Reads one rule rule' detail detail' (great term reads passes) (great term' reads' passes') = (refl, refl)
IsWrong-unique Reads one rule rule' detail detail' (great term reads passes) (nested term' reads' words deep) =
    absurd (passes (subst HasWords (one term' term reads' reads) words))
IsWrong-unique Reads one rule rule' detail detail' (nested term reads words deep) (unread no_term) = absurd (no_term term reads)
IsWrong-unique Reads one rule rule' detail detail' (nested term reads words deep) (great term' reads' passes) =
    absurd (passes (subst HasWords (one term term' reads reads') words))
IsWrong-unique Reads one rule rule' detail detail' (nested term reads words deep) (nested term' reads' words' deep') = (refl, refl)

abbrev ReadsItem : List Token → Term → Type 0
ReadsItem tokens term = (rest : List Token) × SpellsItem term tokens rest

one_item : (tokens : List Token) → IsOne (ReadsItem tokens)
one_item tokens one other reads reads' = (SpellsItem-unique one other tokens reads.0 reads'.0 reads.1 reads'.1).0

pub RefusesItems-excludes : (tokens : List Token) (refusal : Refusal) (terms : List Term) → RefusesItems tokens refusal → HasItems tokens terms → ⊥
RefusesItems-excludes tokens refusal terms (here first others rule detail wrong) (item term terms' _ rest is allowed behind) =
    wrong-allowed (ReadsItem (first ∷ others)) (one_item (first ∷ others)) rule detail term wrong (rest, is) allowed
RefusesItems-excludes tokens refusal terms (later term _ _ rest is allowed refused) none = item-some term rest is
RefusesItems-excludes tokens refusal terms (later term _ _ rest is allowed refused) (item term' terms' _ rest' is' allowed' behind) =
    let both = SpellsItem-unique term term' tokens rest rest' is is' in
    RefusesItems-excludes rest refusal terms' refused (subst (λ (r : List Token). HasItems r terms') (sym both.1) behind)

pub RefusesItems-unique : (tokens : List Token) (one other : Refusal) → RefusesItems tokens one → RefusesItems tokens other → one ≡ other
RefusesItems-unique tokens one other (here first others rule detail wrong) (here _ _ rule' detail' wrong') =
    let both = IsWrong-unique (ReadsItem (first ∷ others)) (one_item (first ∷ others)) rule rule' detail detail' wrong wrong' in
    ap₂ (λ (r : Rule) (d : Detail). refusal_at r d (place_of (first ∷ others))) both.0 both.1
RefusesItems-unique tokens one other (here first others rule detail wrong) (later term _ _ rest is allowed refused) =
    absurd (wrong-allowed (ReadsItem (first ∷ others)) (one_item (first ∷ others)) rule detail term wrong (rest, is) allowed)
RefusesItems-unique tokens one other (later term _ _ rest is allowed refused) (here first others rule detail wrong) =
    absurd (wrong-allowed (ReadsItem (first ∷ others)) (one_item (first ∷ others)) rule detail term wrong (rest, is) allowed)
RefusesItems-unique tokens one other (later term _ _ rest is allowed refused) (later term' _ _ rest' is' allowed' refused') =
    let both = SpellsItem-unique term term' tokens rest rest' is is' in
    RefusesItems-unique rest one other refused (subst (λ (r : List Token). RefusesItems r other) (sym both.1) refused')

one_goal : (tokens : List Token) → IsOne (λ term. SpellsGoal term tokens)
one_goal tokens one other reads reads' = SpellsGoal-unique one other tokens reads reads'

pub RefusesGoal-excludes : (tokens : List Token) (refusal : Refusal) (term : Term) → RefusesGoal tokens refusal → HasGoal tokens term → ⊥
RefusesGoal-excludes tokens refusal term (goal _ rule detail wrong) is =
    wrong-allowed (λ t. SpellsGoal t tokens) (one_goal tokens) rule detail term wrong is.spelled is.allowed

pub RefusesGoal-unique : (tokens : List Token) (one other : Refusal) → RefusesGoal tokens one → RefusesGoal tokens other → one ≡ other
RefusesGoal-unique tokens one other (goal _ rule detail wrong) (goal _ rule' detail' wrong') =
    let both = IsWrong-unique (λ t. SpellsGoal t tokens) (one_goal tokens) rule rule' detail detail' wrong wrong' in
    ap₂ (λ (r : Rule) (d : Detail). refusal_at r d (place_of tokens)) both.0 both.1
