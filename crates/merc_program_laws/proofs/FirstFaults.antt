-- Of all faults of a file's clauses the one that is told comes first.
use Rattle.std.proofs.Common.{◌≡◌, ℕ, ◌≤◌, ◌<◌, ◌⊎◌, inl, inr, ◌==◌, ◌||◌, ◌&&◌, nat_le, nat_lt, Bool, true, false, List, [], ◌∷◌, ◌++◌, Option, Some, None, if◌then◌else◌, refl, sym, ap, subst, ◌∙◌, arith, eqb-true, ltb-true, ltb-false, lt-ltb}
use Rattle.std.proofs.lemmas.Bool.Decides.{nat_tests}
use Rattle.std.specs.List.{AllByRecursion, flat_map}
use Rattle.std.specs.Option.{option_map}
use Rattle.merc_base.specs.Refusal.{rule_number}
use Rattle.merc_base.specs.declared.place.Span.{Span}
use Rattle.merc_base.specs.declared.refusal.Refusal.{Refusal}
use Rattle.merc_base.specs.declared.refusal.LimitName.TheVariants.{Variables, Conjuncts}
use Rattle.merc_tree.specs.Term.{Term}
use Rattle.merc_tree.specs.declared.declarations.Clause.{Clause}
use Rattle.merc_tree.specs.declared.declarations.Module.{Module}
use Rattle.merc_goals.specs.Written.{Written}
use Rattle.merc_goals.specs.Faults.{earlier, first_fault, first_of_both, first_span, outside_forms, outside_profile, widest_parallel, wrong_form, wrong_forms}
use Rattle.merc_entries.specs.Entries.{entries}
use Rattle.merc_items.specs.ModuleOf.{clauses_in, unit_items}
use Rattle.merc_items.specs.ReadModule.{IsModule}
use Rattle.merc_flat_form.specs.FlatForm.{argument_terms}
use Rattle.merc_base.specs.FirstFault.{comes_first, earlier_fault, first_of_faults}
use Rattle.merc_flat.specs.GoalFaults.{conjunct_limit, faults_of_form, limit_passed, size_faults, unknown, unknown_among, unknown_name, variable_count, variable_limit, width_faults}
use Rattle.merc_flat.specs.Flat.{arity_of, body_goal, clause_form_fault, clause_name_fault, clause_node, either_fault, fault_among, goal_of}
use Rattle.merc_check.specs.Accepted.{IsTypedClause, type_mismatch}
use Rattle.merc_check.specs.Accepted.RefusesClauses.{fault as clauses_faulty, untyped as clause_untyped, unordered as procedures_unordered, category as categories_wrong}
use Rattle.merc_program_laws.specs.ClauseFaults.{IsAmong, ComesFirst, earlier_phase, lesser_place, lesser_rule, HasGoalFault, wrong, outside, variables, conjuncts, HasNameFault, name, HasTypeFault, untyped, HasClauseFault, goal, names as names_fault, types, file_clauses, AreFaultless, IsFirstClauseFault, TellsFirstFault}
use Rattle.merc_program_laws.proofs.TermPlaces.{Within}
use Rattle.merc_program_laws.proofs.GoalPlaces.{all_append, GoalLies, written_lies, wrong_within, outside_within, unknown_among-within, unknown_within}
use Rattle.merc_program_laws.proofs.ClausePlaces.{BodyLies, ClauseLies, ClausesLie, no_clause, a_clause, read_clauses-lie, module_clauses}

-- what is among lists

pub among_left : {A : Type 0} (one : A) (some others : List A) → IsAmong one some → IsAmong one (some ++ others)
among_left one [] others among = absurd among
among_left one (first ∷ some) others (inl same) = inl same
among_left one (first ∷ some) others (inr among) = inr (among_left one some others among)

pub among_right : {A : Type 0} (one : A) (some others : List A) → IsAmong one others → IsAmong one (some ++ others)
among_right one [] others among = among
among_right one (first ∷ some) others among = inr (among_right one some others among)

pub among_either : {A : Type 0} (one : A) (some others : List A) → IsAmong one (some ++ others) → IsAmong one some ⊎ IsAmong one others
among_either one [] others among = inr among
among_either one (first ∷ some) others (inl same) = inl (inl same)
among_either one (first ∷ some) others (inr among) = elim (among_either one some others among) as (λ _. IsAmong one (first ∷ some) ⊎ IsAmong one others) [ inl there ↦ inl (inr there) | inr there ↦ inr there ]

pub all_at : {A : Type 0} (P : A → Type 0) (one : A) (all : List A) → AllByRecursion P all → IsAmong one all → P one
all_at P one [] holds among = absurd among
all_at P one (first ∷ rest) holds (inl same) = subst P (sym same) holds.0
all_at P one (first ∷ rest) holds (inr among) = all_at P one rest holds.1 among

-- of two faults of one phase the first

abbrev pub Comes : Refusal → Refusal → Type 0
Comes one other = (one.place.byte < other.place.byte) ⊎ ((one.place.byte ≡ other.place.byte) × (rule_number one.rule ≤ rule_number other.rule))

comes_self : (one : Refusal) → Comes one one
comes_self one = inr (refl, omega arith)

comes_on : (one other third : Refusal) → Comes one other → Comes other third → Comes one third
comes_on one other third (inl less) (inl less') = inl (omega (arith, less, less'))
comes_on one other third (inl less) (inr same) = let e = same.0 in inl (omega (arith, less, e))
comes_on one other third (inr same) (inl less) = let e = same.0 in inl (omega (arith, less, e))
comes_on one other third (inr same) (inr same') = inr (same.0 ∙ same'.0, omega (arith, same.1, same'.1))

numbers_come : (a b r r' : ℕ) → a ≤ b → r ≤ r' → (a < b) ⊎ ((a ≡ b) × (r ≤ r'))
numbers_come a b r r' most rules = by (nat_lt a b) refl
  where
    by : (c : Bool) → nat_lt a b ≡ c → (a < b) ⊎ ((a ≡ b) × (r ≤ r'))
    by true is = inl (ltb-true a b is)
    by false is = let least = ltb-false a b is in inr (omega (arith, most, least), rules)

comes_by : (phase : ℕ) (one other : Refusal) → Comes one other → ComesFirst phase one.place one.rule phase other.place other.rule
comes_by phase one other (inl less) = lesser_place phase one.place other.place one.rule other.rule less
comes_by phase one other (inr same) = lesser_rule phase one.place other.place one.rule other.rule same.0 same.1

first_true : (a b r r' : ℕ) (x y z : Bool) → nat_lt a b ≡ x → (a == b) ≡ y → nat_le r r' ≡ z → (x || (y && z)) ≡ true → (a < b) ⊎ ((a ≡ b) × (r ≤ r'))
first_true a b r r' true y z is is' is'' whole = inl (ltb-true a b is)
first_true a b r r' false true true is is' is'' whole = inr (eqb-true a b is', grind (arith, nat_tests, is''))
first_true a b r r' false true false is is' is'' whole = absurd cc
first_true a b r r' false false z is is' is'' whole = absurd cc

first_false : (a b r r' : ℕ) (x y z : Bool) → nat_lt a b ≡ x → (a == b) ≡ y → nat_le r r' ≡ z → (x || (y && z)) ≡ false → (b < a) ⊎ ((b ≡ a) × (r' ≤ r))
first_false a b r r' true y z is is' is'' whole = absurd cc
first_false a b r r' false true true is is' is'' whole = absurd cc
first_false a b r r' false true false is is' is'' whole = inr (sym (eqb-true a b is'), grind (arith, nat_tests, is''))
first_false a b r r' false false z is is' is'' whole = inl (grind (arith, nat_tests, is, is'))

-- the first of faults

pub record IsLeastOf (one : Refusal) (all : List Refusal) : Type 0 where
  pub among : IsAmong one all
  pub least : (other : Refusal) → IsAmong other all → Comes one other

same_some : {A : Type 0} (one other : A) → Some one ≡ Some other → one ≡ other
same_some one other same = cc

none_first : (all : List Refusal) (other : Refusal) → first_of_faults all ≡ None → IsAmong other all → ⊥
none_first [] other is among = among
none_first (first ∷ rest) other is among = cc

least_by : (first found one : Refusal) (rest : List Refusal) → IsLeastOf found rest → (c : Bool) → comes_first first found ≡ c → (if c then first else found) ≡ one → IsLeastOf one (first ∷ rest)
least_by first found one rest inner true is same = record {
  among = inl (sym same);
  least = λ other among. subst (λ (r : Refusal). Comes r other) same (before other among);
}
  where
    before : (other : Refusal) → IsAmong other (first ∷ rest) → Comes first other
    before other (inl e) = subst (Comes first) (sym e) (comes_self first)
    before other (inr among) = comes_on first found other (first_true first.place.byte found.place.byte (rule_number first.rule) (rule_number found.rule) _ _ _ refl refl refl is) (inner.least other among)
least_by first found one rest inner false is same = record {
  among = inr (subst (λ (r : Refusal). IsAmong r rest) same inner.among);
  least = λ other among. subst (λ (r : Refusal). Comes r other) same (before other among);
}
  where
    before : (other : Refusal) → IsAmong other (first ∷ rest) → Comes found other
    before other (inl e) = subst (Comes found) (sym e) (first_false first.place.byte found.place.byte (rule_number first.rule) (rule_number found.rule) _ _ _ refl refl refl is)
    before other (inr among) = inner.least other among

pub least_of : (all : List Refusal) (one : Refusal) → first_of_faults all ≡ Some one → IsLeastOf one all
least_of [] one is = absurd cc
least_of (first ∷ rest) one is = by (first_of_faults rest) refl (least_of rest) (same_some _ _ is)
  where
    by : (found : Option Refusal) → first_of_faults rest ≡ found → ((other : Refusal) → first_of_faults rest ≡ Some other → IsLeastOf other rest) → earlier_fault first found ≡ one → IsLeastOf one (first ∷ rest)
    by None none inner same = record {
      among = inl (sym same);
      least = λ other among. elim among as (λ _. Comes one other) [ inl e ↦ subst (Comes one) (same' other e) (comes_self one) | inr there ↦ absurd (none_first rest other none there) ];
    }
      where
        same' : (other : Refusal) → other ≡ first → one ≡ other
        same' other e = sym same ∙ sym e
    by (Some found) some inner same = least_by first found one rest (inner found some) (comes_first first found) refl same

-- the first of spans

record IsLeastSpan (one : Span) (all : List Span) : Type 0 where
  among : IsAmong one all
  least : (other : Span) → IsAmong other all → one.first ≤ other.first

none_spans : (all : List Span) (other : Span) → first_span all ≡ None → IsAmong other all → ⊥
none_spans [] other is among = among
none_spans (first ∷ rest) other is among = by (first_span rest) is
  where
    by : (found : Option Span) → earlier (Some first) found ≡ None → ⊥
    by None is' = cc
    by (Some found) is' = cc

least_span : (all : List Span) (one : Span) → first_span all ≡ Some one → IsLeastSpan one all
least_span [] one is = absurd cc
least_span (first ∷ rest) one is = by (first_span rest) refl (least_span rest) is
  where
    chosen : (found : Span) (c : Bool) → nat_le first.first found.first ≡ c → IsLeastSpan found rest → (if c then first else found) ≡ one → IsLeastSpan one (first ∷ rest)
    chosen found true is' inner same = subst (λ (s : Span). IsLeastSpan s (first ∷ rest)) same (record {
      among = inl refl;
      least = λ other among. elim among as (λ _. first.first ≤ other.first)
          [ inl e ↦ (let e' = ap (λ (s : Span). s.first) e in omega (arith, e')) | inr there ↦ (let inside = inner.least other there in grind (arith, nat_tests, is', inside)) ];
    })
    chosen found false is' inner same = subst (λ (s : Span). IsLeastSpan s (first ∷ rest)) same (record {
      among = inr inner.among;
      least = λ other among. elim among as (λ _. found.first ≤ other.first)
          [ inl e ↦ (let e' = ap (λ (s : Span). s.first) e in grind (arith, nat_tests, is', e')) | inr there ↦ inner.least other there ];
    })

    by : (found : Option Span) → first_span rest ≡ found → ((other : Span) → first_span rest ≡ Some other → IsLeastSpan other rest) → earlier (Some first) found ≡ Some one → IsLeastSpan one (first ∷ rest)
    by None none inner same = subst (λ (s : Span). IsLeastSpan s (first ∷ rest)) (same_some first one same) (record {
      among = inl refl;
      least = λ other among. elim among as (λ _. first.first ≤ other.first)
          [ inl e ↦ (let e' = ap (λ (s : Span). s.first) e in omega (arith, e')) | inr there ↦ absurd (none_spans rest other none there) ];
    })
    by (Some found) some inner same = chosen found (nat_le first.first found.first) refl (inner found some) (same_some _ one same)

-- a fault that is told of something, and comes before each other fault of it
record TellsLeast (Has : Refusal → Type 0) (one : Refusal) : Type 0 where
  has : Has one
  least : (other : Refusal) → Has other → Comes one other

-- The faults of one clause.
module _ (names : List (List ℕ)) (known : Module) (clause : Clause) where
  abbrev Goal : Written
  Goal = goal_of clause

  -- the fault of form that is told, by the first spans of both kinds
  form_told : (wrongs outsides : Option Span) → first_span (wrong_forms Goal) ≡ wrongs → first_span (outside_forms Goal) ≡ outsides → (one : Refusal) → first_of_both wrongs outsides ≡ Some one
      → HasGoalFault names known clause one
  form_told None None is is' one same = absurd cc
  form_told (Some span) None is is' one same = subst (HasGoalFault names known clause) (same_some _ one same) (wrong span (least_span (wrong_forms Goal) span is).among)
  form_told None (Some span) is is' one same = subst (HasGoalFault names known clause) (same_some _ one same) (outside span (least_span (outside_forms Goal) span is').among)
  form_told (Some span) (Some span') is is' one same = subst (HasGoalFault names known clause) (same_some _ one same) (by (nat_le span.first span'.first))
    where
      by : (c : Bool) → HasGoalFault names known clause (if c then wrong_form span else outside_profile span')
      by true = wrong span (least_span (wrong_forms Goal) span is).among
      by false = outside span' (least_span (outside_forms Goal) span' is').among

  -- where a part has no form, a fault of form is told that comes no later
  record IsTold (form : Option Refusal) (other : Refusal) : Type 0 where
    one : Refusal
    same : form ≡ Some one
    comes : Comes one other

  wrong_told : (wrongs outsides : Option Span) → first_span (wrong_forms Goal) ≡ wrongs → (span : Span) → IsAmong span (wrong_forms Goal) → IsTold (first_of_both wrongs outsides) (wrong_form span)
  wrong_told None outsides is span among = absurd (none_spans (wrong_forms Goal) span is among)
  wrong_told (Some first) None is span among = record { one = wrong_form first; same = refl; comes = numbers_come _ _ _ _ ((least_span (wrong_forms Goal) first is).least span among) (omega arith) }
  wrong_told (Some first) (Some second) is span among = by (nat_le first.first second.first) refl ((least_span (wrong_forms Goal) first is).least span among)
    where
      by : (c : Bool) → nat_le first.first second.first ≡ c → first.first ≤ span.first → IsTold (Some (if c then wrong_form first else outside_profile second)) (wrong_form span)
      by true is' least = record { one = wrong_form first; same = refl; comes = numbers_come _ _ _ _ least (omega arith) }
      by false is' least = record { one = outside_profile second; same = refl; comes = inl (grind (arith, nat_tests, is', least)) }

  outside_told : (wrongs outsides : Option Span) → first_span (outside_forms Goal) ≡ outsides → (span : Span) → IsAmong span (outside_forms Goal) → IsTold (first_of_both wrongs outsides) (outside_profile span)
  outside_told wrongs None is span among = absurd (none_spans (outside_forms Goal) span is among)
  outside_told None (Some second) is span among = record { one = outside_profile second; same = refl; comes = numbers_come _ _ _ _ ((least_span (outside_forms Goal) second is).least span among) (omega arith) }
  outside_told (Some first) (Some second) is span among = by (nat_le first.first second.first) refl ((least_span (outside_forms Goal) second is).least span among)
    where
      by : (c : Bool) → nat_le first.first second.first ≡ c → second.first ≤ span.first → IsTold (Some (if c then wrong_form first else outside_profile second)) (outside_profile span)
      by true is' least = record { one = wrong_form first; same = refl; comes = numbers_come _ _ _ _ (grind (arith, nat_tests, is', least)) (omega arith) }
      by false is' least = record { one = outside_profile second; same = refl; comes = numbers_come _ _ _ _ least (omega arith) }

  abbrev Faults : Option Refusal → List Refusal
  Faults form = faults_of_form form (arity_of clause) clause.span Goal (clause_node names known clause)

  passed : (c : Bool) (limit one : Refusal) → IsAmong one (if c then limit ∷ [] else []) → (c ≡ true) × (one ≡ limit)
  passed true limit one (inl same) = (refl, same)
  passed true limit one (inr among) = absurd among
  passed false limit one among = absurd among

  stands : (c : Bool) (limit : Refusal) → c ≡ true → IsAmong limit (if c then limit ∷ [] else [])
  stands true limit is = inl refl
  stands false limit is = absurd cc

  abbrev Sizes : List Refusal
  Sizes = size_faults (arity_of clause) clause.span (clause_node names known clause)

  abbrev Widths : List Refusal
  Widths = width_faults clause.span Goal

  size_told : (one : Refusal) → first_fault Goal ≡ None → IsAmong one Sizes → HasGoalFault names known clause one
  size_told one none among =
      let parts = passed (nat_lt variable_limit (variable_count (arity_of clause) (clause_node names known clause))) _ one among in
      subst (HasGoalFault names known clause) (sym parts.1) (variables none (ltb-true variable_limit _ parts.0))

  width_told : (one : Refusal) → IsAmong one Widths → HasGoalFault names known clause one
  width_told one among =
      let parts = passed (nat_lt conjunct_limit (widest_parallel Goal)) _ one among in
      subst (HasGoalFault names known clause) (sym parts.1) (conjuncts (ltb-true conjunct_limit _ parts.0))

  faults_told : (form : Option Refusal) → first_fault Goal ≡ form → (one : Refusal) → IsAmong one (Faults form) → HasGoalFault names known clause one
  faults_told None is one among = elim (among_either one Sizes Widths among) as (λ _. HasGoalFault names known clause one) [ inl there ↦ size_told one is there | inr there ↦ width_told one there ]
  faults_told (Some fault) is one (inl same) = subst (HasGoalFault names known clause) (sym same) (form_told _ _ refl refl fault is)
  faults_told (Some fault) is one (inr among) = width_told one among

  -- each fault of the clause's goal has one in the list that comes no later
  record IsListed (form : Option Refusal) (other : Refusal) : Type 0 where
    one : Refusal
    among : IsAmong one (Faults form)
    comes : Comes one other

  form_listed : (form : Option Refusal) (one : Refusal) → form ≡ Some one → IsAmong one (Faults form)
  form_listed None one same = absurd cc
  form_listed (Some fault) one same = inl (sym (same_some fault one same))

  listed : (form : Option Refusal) → first_fault Goal ≡ form → (other : Refusal) → HasGoalFault names known clause other → IsListed form other
  listed form is _ (wrong span among) =
      let told = wrong_told _ (first_span (outside_forms Goal)) refl span among in
      record { one = told.one; among = form_listed form told.one (sym is ∙ told.same); comes = told.comes }
  listed form is _ (outside span among) =
      let told = outside_told (first_span (wrong_forms Goal)) _ refl span among in
      record { one = told.one; among = form_listed form told.one (sym is ∙ told.same); comes = told.comes }
  listed None is _ (variables none count) = record { one = _; among = among_left _ Sizes Widths (stands _ _ (lt-ltb variable_limit _ count)); comes = comes_self (limit_passed Variables clause.span) }
  listed (Some fault) is _ (variables none count) = absurd (let wrong' = sym is ∙ none in cc)
  listed None is _ (conjuncts most) = record { one = _; among = among_right _ Sizes Widths (stands _ _ (lt-ltb conjunct_limit _ most)); comes = comes_self (limit_passed Conjuncts clause.span) }
  listed (Some fault) is _ (conjuncts most) = record { one = _; among = inr (stands _ _ (lt-ltb conjunct_limit _ most)); comes = comes_self (limit_passed Conjuncts clause.span) }

  goal_least : (one : Refusal) → clause_form_fault names known clause ≡ Some one → TellsLeast (HasGoalFault names known clause) one
  goal_least one is =
      let told = least_of (Faults (first_fault Goal)) one is in
      record {
        has = faults_told (first_fault Goal) refl one told.among;
        least = λ other has. (let before = listed (first_fault Goal) refl other has in comes_on one before.one other (told.least before.one before.among) before.comes);
      }

  pub goal_none : clause_form_fault names known clause ≡ None → (other : Refusal) → HasGoalFault names known clause other → ⊥
  goal_none is other has = let before = listed (first_fault Goal) refl other has in none_first (Faults (first_fault Goal)) before.one is before.among

  -- names

  abbrev Unknown : List Span
  Unknown = unknown_among known (argument_terms clause.head) ++ unknown known Goal

  name_by : (found : Option Span) → first_span Unknown ≡ found → (one : Refusal) → option_map (unknown_name known) found ≡ Some one → TellsLeast (HasNameFault known clause) one
  name_by None is one same = absurd cc
  name_by (Some span) is one same = subst (TellsLeast (HasNameFault known clause)) (same_some _ one same) (record { has = name span (least_span Unknown span is).among; least = before })
    where
      before : (other : Refusal) → HasNameFault known clause other → Comes (unknown_name known span) other
      before _ (name other among) = numbers_come _ _ _ _ ((least_span Unknown span is).least other among) (omega arith)

  name_least : (one : Refusal) → clause_name_fault names known clause ≡ Some one → TellsLeast (HasNameFault known clause) one
  name_least one is = name_by (first_span Unknown) refl one is

  pub name_none : clause_name_fault names known clause ≡ None → (other : Refusal) → HasNameFault known clause other → ⊥
  name_none is _ (name span among) = none_spans Unknown span (by (first_span Unknown) is) among
    where
      by : (found : Option Span) → option_map (unknown_name known) found ≡ None → found ≡ None
      by None same = refl
      by (Some one) same = absurd cc

  -- types

  type_least : (IsTypedClause names known clause → ⊥) → TellsLeast (HasTypeFault names known clause) (type_mismatch clause.span)
  type_least wrong' = record { has = untyped wrong'; least = before }
    where
      before : (other : Refusal) → HasTypeFault names known clause other → Comes (type_mismatch clause.span) other
      before _ (untyped _) = comes_self (type_mismatch clause.span)

  pub type_none : IsTypedClause names known clause → (other : Refusal) → HasTypeFault names known clause other → ⊥
  type_none typed _ (untyped wrong') = wrong' typed

  -- the faults of a clause stand within it

  abbrev StandsWithin : ℕ → ℕ → Refusal → Type 0
  StandsWithin from to one = (from ≤ one.place.byte) × (one.place.byte < to)

  module _ (from to : ℕ) (lies : ClauseLies from to clause) where
    body_lies : (body : Option Term) → BodyLies from to body → GoalLies from to (body_goal clause body)
    body_lies None body = tt
    body_lies (Some term) body = written_lies from to _ term body

    goal_within : (one : Refusal) → HasGoalFault names known clause one → StandsWithin from to one
    goal_within _ (wrong span among) = all_at (Within from to) span (wrong_forms Goal) (wrong_within from to Goal (body_lies clause.body lies.body)) among
    goal_within _ (outside span among) = all_at (Within from to) span (outside_forms Goal) (outside_within from to Goal (body_lies clause.body lies.body)) among
    goal_within _ (variables none count) = let e = lies.begins in let below = lies.ends in (omega (arith, e), omega (arith, e, below))
    goal_within _ (conjuncts most) = let e = lies.begins in let below = lies.ends in (omega (arith, e), omega (arith, e, below))

    name_within : (one : Refusal) → HasNameFault known clause one → StandsWithin from to one
    name_within _ (name span among) =
        all_at (Within from to) span Unknown
        (all_append (Within from to) (unknown_among known (argument_terms clause.head)) (unknown known Goal) (unknown_among-within from to known (argument_terms clause.head) lies.head) (unknown_within from to known Goal (body_lies clause.body lies.body)))
        among

    type_within : (one : Refusal) → HasTypeFault names known clause one → StandsWithin from to one
    type_within _ (untyped wrong') = let e = lies.begins in let below = lies.ends in (omega (arith, e), omega (arith, e, below))

-- The first clause with a fault. Given is what faults a clause has, which stand within it.
module _ (Has : Clause → Refusal → Type 0) (within : (clause : Clause) (from to : ℕ) → ClauseLies from to clause → (one : Refusal) → Has clause one → (from ≤ one.place.byte) × (one.place.byte < to)) where
  data TellsFirst : List Clause → Refusal → Type 0 where
    here : (clause : Clause) (rest : List Clause) (told : Refusal) → TellsLeast (Has clause) told → TellsFirst (clause ∷ rest) told
    later : (clause : Clause) (rest : List Clause) (told : Refusal) → ((one : Refusal) → Has clause one → ⊥) → TellsFirst rest told → TellsFirst (clause ∷ rest) told

  record IsFirstOf (own all : List Clause) (told : Refusal) : Type 0 where
    clause : Clause
    among : IsAmong clause all
    has : Has clause told
    first : (other : Clause) → IsAmong other own → (one : Refusal) → Has other one → Comes told one

  anywhere : (all : List Clause) (told : Refusal) → TellsFirst all told → IsFirstOf [] all told
  anywhere _ told (here clause rest _ tells) = record { clause = clause; among = inl refl; has = tells.has; first = λ other among. absurd among }
  anywhere _ told (later clause rest _ none more) =
      let found = anywhere rest told more in record { clause = found.clause; among = inr found.among; has = found.has; first = λ other among. absurd among }

  from_here : (at : ℕ) (clauses : List Clause) → ClausesLie at clauses → (other : Clause) → IsAmong other clauses → (one : Refusal) → Has other one → at ≤ one.place.byte
  from_here at _ (no_clause _) other among one has = absurd among
  from_here at _ (a_clause _ from to first rest least lies others) other (inl same) one has =
      let inside = (within first from to lies one (subst (λ (c : Clause). Has c one) same has)).0 in omega (arith, least, inside)
  from_here at _ (a_clause _ from to first rest least lies others) other (inr among) one has =
      let behind = from_here to rest others other among one has in
      let below = lies.ends in
      omega (arith, least, below, behind)

  first_of : (at : ℕ) (own others : List Clause) (told : Refusal) → ClausesLie at own → TellsFirst (own ++ others) told → IsFirstOf own (own ++ others) told
  first_of at _ others told (no_clause _) tells = anywhere others told tells
  first_of at _ others told (a_clause _ from to clause rest least lies behind) (here _ _ _ tells) =
      record { clause = clause; among = inl refl; has = tells.has; first = before }
    where
      before : (other : Clause) → IsAmong other (clause ∷ rest) → (one : Refusal) → Has other one → Comes told one
      before other (inl same) one has = tells.least one (subst (λ (c : Clause). Has c one) same has)
      before other (inr among) one has =
          let end = (within clause from to lies told tells.has).1 in
          let start = from_here to rest behind other among one has in
          inl (omega (arith, end, start))
  first_of at _ others told (a_clause _ from to clause rest least lies behind) (later _ _ _ none more) =
      by (first_of to rest others told behind more)
    where
      by : IsFirstOf rest (rest ++ others) told → IsFirstOf (clause ∷ rest) (clause ∷ rest ++ others) told
      by found = record {
        clause = found.clause;
        among = inr found.among;
        has = found.has;
        first = λ other among one has. elim among as (λ _. Comes told one) [ inl same ↦ absurd (none one (subst (λ (c : Clause). Has c one) same has)) | inr there ↦ found.first other there one has ];
      }

  -- by a function that tells the fault of a clause
  module _ (fault_of : Clause → Option Refusal) (tells : (clause : Clause) (one : Refusal) → fault_of clause ≡ Some one → TellsLeast (Has clause) one)
      (none : (clause : Clause) → fault_of clause ≡ None → (one : Refusal) → Has clause one → ⊥) where
    told_among : (clauses : List Clause) (told : Refusal) → fault_among fault_of clauses ≡ Some told → TellsFirst clauses told
    told_among [] told is = absurd cc
    told_among (clause ∷ rest) told is = by (fault_of clause) refl (told_among rest told) is
      where
        by : (found : Option Refusal) → fault_of clause ≡ found → (fault_among fault_of rest ≡ Some told → TellsFirst rest told) → either_fault found (fault_among fault_of rest) ≡ Some told → TellsFirst (clause ∷ rest) told
        by None is' more same = later clause rest told (none clause is') (more same)
        by (Some one) is' more same = here clause rest told (tells clause told (is' ∙ same))

    none_among : (clauses : List Clause) → fault_among fault_of clauses ≡ None → (clause : Clause) → IsAmong clause clauses → (one : Refusal) → Has clause one → ⊥
    none_among [] is clause among one has = among
    none_among (first ∷ rest) is clause among one has = by (fault_of first) refl (none_among rest) is among
      where
        by : (found : Option Refusal) → fault_of first ≡ found → (fault_among fault_of rest ≡ None → (clause : Clause) → IsAmong clause rest → (one : Refusal) → Has clause one → ⊥)
            → either_fault found (fault_among fault_of rest) ≡ None → IsAmong clause (first ∷ rest) → ⊥
        by None is' more same (inl e) = none first is' one (subst (λ (c : Clause). Has c one) e has)
        by None is' more same (inr there) = more same clause there one has
        by (Some fault) is' more same among' = cc

-- the first clause that is not typed

module _ (names : List (List ℕ)) (known : Module) where
  untyped_first : (before : List Clause) (clause : Clause) (behind : List Clause) → AllByRecursion (IsTypedClause names known) before → (IsTypedClause names known clause → ⊥)
      → TellsFirst (HasTypeFault names known) (λ c from to lies. type_within names known c from to lies) (before ++ clause ∷ behind) (type_mismatch clause.span)
  untyped_first [] clause behind typed wrong' = here clause behind (type_mismatch clause.span) (type_least names known clause wrong')
  untyped_first (first ∷ before) clause behind typed wrong' =
      later first (before ++ clause ∷ behind) (type_mismatch clause.span) (type_none names known first typed.0) (untyped_first before clause behind typed.1 wrong')

-- all phases

none_before : (one other : Option Refusal) → either_fault one other ≡ None → (one ≡ None) × (other ≡ None)
none_before None other is = (refl, is)
none_before (Some fault) other is = absurd cc

module _ (before after : List (List ℕ)) (text : List ℕ) (terms : List Term) (found : Module) (is : IsModule before after text terms found) where
  abbrev Units : List Clause
  Units = flat_map clauses_in (unit_items (entries is.is.items terms))

  whole : found.clauses ≡ file_clauses terms ++ Units
  whole = module_clauses before after text terms found is

  own : ClausesLie 0 (file_clauses terms)
  own = read_clauses-lie before is.read_names text terms is.reads

  in_module : (clause : Clause) → IsAmong clause (file_clauses terms ++ Units) → IsAmong clause found.clauses
  in_module clause among = subst (IsAmong clause) (sym whole) among

  of_file : (clause : Clause) → IsAmong clause (file_clauses terms) → IsAmong clause found.clauses
  of_file clause among = in_module clause (among_left clause (file_clauses terms) Units among)

  form_case : (told : Refusal) → fault_among (clause_form_fault after found) found.clauses ≡ Some told → IsFirstClauseFault after terms found told
  form_case told is' =
      let tells = told_among (HasGoalFault after found) (goal_within after found) (clause_form_fault after found) (goal_least after found) (goal_none after found) found.clauses told is' in
      let first = first_of (HasGoalFault after found) (goal_within after found) 0 (file_clauses terms) Units told own (subst (λ (l : List Clause). TellsFirst (HasGoalFault after found) (goal_within after found) l told) whole tells) in
      record { phase = 8; clause = first.clause; among = in_module first.clause first.among; fault = goal told first.has; first = λ other among. compared other (first.first other among) }
    where
      compared : (other : Clause) → ((one : Refusal) → HasGoalFault after found other one → Comes told one) → (phase' : ℕ) (fault' : Refusal) → HasClauseFault after found other phase' fault'
          → ComesFirst 8 told.place told.rule phase' fault'.place fault'.rule
      compared other comes _ fault' (goal _ has) = comes_by 8 told fault' (comes fault' has)
      compared other comes _ fault' (names_fault _ has) = earlier_phase 8 9 told.place fault'.place told.rule fault'.rule (omega arith)
      compared other comes _ fault' (types _ has) = earlier_phase 8 10 told.place fault'.place told.rule fault'.rule (omega arith)

  no_form : fault_among (clause_form_fault after found) found.clauses ≡ None → (clause : Clause) → IsAmong clause (file_clauses terms) → (one : Refusal) → HasGoalFault after found clause one → ⊥
  no_form none clause among one has =
      none_among (HasGoalFault after found) (goal_within after found) (clause_form_fault after found) (goal_least after found) (goal_none after found) found.clauses none clause (of_file clause among) one has

  name_case : (told : Refusal) → fault_among (clause_form_fault after found) found.clauses ≡ None → fault_among (clause_name_fault after found) found.clauses ≡ Some told → IsFirstClauseFault after terms found told
  name_case told none is' =
      let tells = told_among (HasNameFault found) (name_within after found) (clause_name_fault after found) (name_least after found) (name_none after found) found.clauses told is' in
      let first = first_of (HasNameFault found) (name_within after found) 0 (file_clauses terms) Units told own (subst (λ (l : List Clause). TellsFirst (HasNameFault found) (name_within after found) l told) whole tells) in
      record { phase = 9; clause = first.clause; among = in_module first.clause first.among; fault = names_fault told first.has; first = λ other among. compared other (no_form none other among) (first.first other among) }
    where
      compared : (other : Clause) → ((one : Refusal) → HasGoalFault after found other one → ⊥) → ((one : Refusal) → HasNameFault found other one → Comes told one) → (phase' : ℕ) (fault' : Refusal)
          → HasClauseFault after found other phase' fault' → ComesFirst 9 told.place told.rule phase' fault'.place fault'.rule
      compared other free comes _ fault' (goal _ has) = absurd (free fault' has)
      compared other free comes _ fault' (names_fault _ has) = comes_by 9 told fault' (comes fault' has)
      compared other free comes _ fault' (types _ has) = earlier_phase 9 10 told.place fault'.place told.rule fault'.rule (omega arith)

  no_name : fault_among (clause_name_fault after found) found.clauses ≡ None → (clause : Clause) → IsAmong clause (file_clauses terms) → (one : Refusal) → HasNameFault found clause one → ⊥
  no_name none clause among one has =
      none_among (HasNameFault found) (name_within after found) (clause_name_fault after found) (name_least after found) (name_none after found) found.clauses none clause (of_file clause among) one has

  type_case : (front : List Clause) (clause : Clause) (behind : List Clause) → fault_among (clause_form_fault after found) found.clauses ≡ None → fault_among (clause_name_fault after found) found.clauses ≡ None
      → found.clauses ≡ front ++ clause ∷ behind → AllByRecursion (IsTypedClause after found) front → (IsTypedClause after found clause → ⊥) → IsFirstClauseFault after terms found (type_mismatch clause.span)
  type_case front clause behind none none' split typed wrong' =
      let told = type_mismatch clause.span in
      let first = first_of (HasTypeFault after found) (type_within after found) 0 (file_clauses terms) Units told own
      (subst (λ (l : List Clause). TellsFirst (HasTypeFault after found) (type_within after found) l told) (sym split ∙ whole) (untyped_first after found front clause behind typed wrong')) in
      record {
        phase = 10;
        clause = first.clause;
        among = in_module first.clause first.among;
        fault = types told first.has;
        first = λ other among. compared other (no_form none other among) (no_name none' other among) (first.first other among);
      }
    where
      compared : (other : Clause) → ((one : Refusal) → HasGoalFault after found other one → ⊥) → ((one : Refusal) → HasNameFault found other one → ⊥)
          → ((one : Refusal) → HasTypeFault after found other one → Comes (type_mismatch clause.span) one) → (phase' : ℕ) (fault' : Refusal)
          → HasClauseFault after found other phase' fault' → ComesFirst 10 (type_mismatch clause.span).place (type_mismatch clause.span).rule phase' fault'.place fault'.rule
      compared other free free' comes _ fault' (goal _ has) = absurd (free fault' has)
      compared other free free' comes _ fault' (names_fault _ has) = absurd (free' fault' has)
      compared other free free' comes _ fault' (types _ has) = comes_by 10 (type_mismatch clause.span) fault' (comes fault' has)

  fault_case : (forms unknown_names : Option Refusal) → fault_among (clause_form_fault after found) found.clauses ≡ forms → fault_among (clause_name_fault after found) found.clauses ≡ unknown_names
      → (told : Refusal) → either_fault forms unknown_names ≡ Some told → IsFirstClauseFault after terms found told
  fault_case (Some one) unknown_names is' is'' told same = form_case told (is' ∙ same)
  fault_case None unknown_names is' is'' told same = name_case told is' (is'' ∙ same)

  -- where the clauses have a form, names and types
  free : fault_among (clause_form_fault after found) found.clauses ≡ None → fault_among (clause_name_fault after found) found.clauses ≡ None → AllByRecursion (IsTypedClause after found) found.clauses
      → AreFaultless after terms found
  free none none' typed clause among _ fault (goal _ has) = no_form none clause among fault has
  free none none' typed clause among _ fault (names_fault _ has) = no_name none' clause among fault has
  free none none' typed clause among _ fault (types _ has) =
      type_none after found clause (all_at (IsTypedClause after found) clause found.clauses typed (of_file clause among)) fault has

-- What is told comes before each fault of a clause of the file, or these have none.
pub tells_first : TellsFirstFault
tells_first before after text terms found told is (clauses_faulty _ same) = inl (fault_case before after text terms found is _ _ refl refl told same)
tells_first before after text terms found _ is (clause_untyped front clause behind none split typed wrong') =
    let parts = none_before (fault_among (clause_form_fault after found) found.clauses) (fault_among (clause_name_fault after found) found.clauses) none in
    inl (type_case before after text terms found is front clause behind parts.0 parts.1 split typed wrong')
tells_first before after text terms found told is (procedures_unordered _ none typed first) =
    let parts = none_before (fault_among (clause_form_fault after found) found.clauses) (fault_among (clause_name_fault after found) found.clauses) none in
    inr (inl (record { faultless = free before after text terms found is parts.0 parts.1 typed; first = first }))
tells_first before after text terms found told is (categories_wrong _ none typed ordered first) =
    let parts = none_before (fault_among (clause_form_fault after found) found.clauses) (fault_among (clause_name_fault after found) found.clauses) none in
    inr (inr (record { faultless = free before after text terms found is parts.0 parts.1 typed; ordered = ordered; first = first }))
