-- Laws of places by name.
use Rattle.std.proofs.Common.{◌≡◌, ℕ, ◌==◌, Bool, true, false, cond, List, [], ◌∷◌, ◌++◌, Option, Some, None, if◌then◌else◌, refl, ap, sym, ◌∙◌, arith}
use Rattle.std.specs.Option.{is_some, option_or, option_and}
use Rattle.std.specs.Ordering.{is_eq, nat_cmp}
use Rattle.std.proofs.lemmas.Bool.Decides.{nat_tests}
use Rattle.merc_scopes.specs.declared.occurrence.Occurrence.{Occurrence}
use Rattle.merc_scopes.specs.Scopes.{at_of}

pub number_test : (a b : ℕ) → is_eq (nat_cmp a b) ≡ (a == b)
number_test a b = grind (arith, nat_tests)

number_swap : (a b : ℕ) → (a == b) ≡ (b == a)
number_swap a b = grind (arith, nat_tests)

pub same_number : (a b : ℕ) → (a == b) ≡ true → a ≡ b
same_number a b same = grind (arith, nat_tests)

-- a name is taken out
pub taken_out : (name other : ℕ) (before after : Option ℕ) → after ≡ cond (is_eq (nat_cmp name other)) None before → after ≡ (if other == name then None else before)
taken_out name other before after is = is ∙ ap (λ (b : Bool). if b then None else before) (number_test name other ∙ number_swap name other)

pub option_or-none : (found : Option ℕ) → option_or found None ≡ found
option_or-none None = refl
option_or-none (Some at) = refl

pub option_or-assoc : (a b c : Option ℕ) → option_or (option_or a b) c ≡ option_or a (option_or b c)
option_or-assoc None b c = refl
option_or-assoc (Some at) b c = refl

none_there : (found : Option ℕ) → is_some found ≡ false → found ≡ None
none_there None is = refl
none_there (Some at) is = cc

-- the occurrences of two lists, one after the other

append_by : (name : ℕ) (first : Occurrence) (rest back : List Occurrence) (test : Bool) → at_of name (rest ++ back) ≡ option_or (at_of name rest) (at_of name back)
    → (if test then Some first.at else at_of name (rest ++ back)) ≡ option_or (if test then Some first.at else at_of name rest) (at_of name back)
append_by name first rest back true more = refl
append_by name first rest back false more = more

pub at_of-append : (name : ℕ) (front back : List Occurrence) → at_of name (front ++ back) ≡ option_or (at_of name front) (at_of name back)
at_of-append name [] back = refl
at_of-append name (first ∷ rest) back = append_by name first rest back (first.name == name) (at_of-append name rest back)

-- one more is listed
pub listed_more : (name : ℕ) (old new : List Occurrence) (one : Occurrence) (before after : Option ℕ) → new ≡ old ++ one ∷ [] → at_of name old ≡ before
    → after ≡ option_or before (at_of name (one ∷ [])) → at_of name new ≡ after
listed_more name old new one before after pushed step added =
    ap (at_of name) pushed ∙ at_of-append name old (one ∷ []) ∙ ap (λ (o : Option ℕ). option_or o (at_of name (one ∷ []))) step ∙ sym added

-- A name goes over from places to those on the other side.

module _ (key at : ℕ) (from from_new : ℕ → Option ℕ) (first : from key ≡ Some at) (removed : (name : ℕ) → from_new name ≡ cond (is_eq (nat_cmp key name)) None (from name)) where
  gone : (name : ℕ) → is_eq (nat_cmp key name) ≡ true → from_new name ≡ None
  gone name test = removed name ∙ rw test refl

  stays : (name : ℕ) → is_eq (nat_cmp key name) ≡ false → from_new name ≡ from name
  stays name test = removed name ∙ rw test refl

  here : (name : ℕ) → is_eq (nat_cmp key name) ≡ true → key ≡ name
  here name test = same_number key name (sym (number_test key name) ∙ test)

  was : (name : ℕ) → is_eq (nat_cmp key name) ≡ true → from name ≡ Some at
  was name test = ap from (sym (here name test)) ∙ first

  -- over the others, which it replaces
  module _ (all all_new : ℕ → Option ℕ) (inserted : (name : ℕ) → all_new name ≡ cond (is_eq (nat_cmp key name)) (Some at) (all name)) where
    now : (name : ℕ) → is_eq (nat_cmp key name) ≡ true → all_new name ≡ Some at
    now name test = inserted name ∙ rw test refl

    kept : (name : ℕ) → is_eq (nat_cmp key name) ≡ false → all_new name ≡ all name
    kept name test = inserted name ∙ rw test refl

    over_by : (name : ℕ) (test : Bool) → is_eq (nat_cmp key name) ≡ test → option_or (from_new name) (all_new name) ≡ option_or (from name) (all name)
    over_by name true test = rw (gone name test, now name test, was name test) refl
    over_by name false test = rw (stays name test, kept name test) refl

    pub over : (name : ℕ) → option_or (from_new name) (all_new name) ≡ option_or (from name) (all name)
    over name = over_by name _ refl

    over_new_by : is_some (all key) ≡ false → (name : ℕ) (test : Bool) → is_eq (nat_cmp key name) ≡ test → option_and (all_new name) (from_new name) ≡ option_and (all name) (from name)
    over_new_by is name true test =
        let none : all name ≡ None = ap all (sym (here name test)) ∙ none_there (all key) is in
        rw (gone name test, now name test, none) refl
    over_new_by is name false test = rw (stays name test, kept name test) refl

    pub over_new : is_some (all key) ≡ false → (shared : Option ℕ) (name : ℕ) → option_or shared (option_and (all_new name) (from_new name)) ≡ option_or shared (option_and (all name) (from name))
    over_new is shared name = ap (option_or shared) (over_new_by is name _ refl)

    -- and under the others, where they lack it

    under_new_by : all key ≡ None → (name : ℕ) (test : Bool) → is_eq (nat_cmp key name) ≡ test → option_or (all_new name) (from_new name) ≡ option_or (all name) (from name)
    under_new_by is name true test = rw (gone name test, now name test, ap all (sym (here name test)) ∙ is, was name test) refl
    under_new_by is name false test = rw (stays name test, kept name test) refl

    pub under_new : all key ≡ None → (name : ℕ) → option_or (all_new name) (from_new name) ≡ option_or (all name) (from name)
    under_new is name = under_new_by is name _ refl

    under_shared_by : all key ≡ None → (name : ℕ) (test : Bool) → is_eq (nat_cmp key name) ≡ test → option_and (from_new name) (all_new name) ≡ option_and (from name) (all name)
    under_shared_by is name true test = rw (gone name test, ap all (sym (here name test)) ∙ is, was name test) refl
    under_shared_by is name false test = rw (stays name test, kept name test) refl

    pub under_shared : all key ≡ None → (shared : Option ℕ) (name : ℕ) → option_or shared (option_and (from_new name) (all_new name)) ≡ option_or shared (option_and (from name) (all name))
    under_shared is shared name = ap (option_or shared) (under_shared_by is name _ refl)
