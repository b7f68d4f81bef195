-- What names stand for after levels change.
use Rattle.std.proofs.Common.{◌≡◌, ℕ, Bool, true, false, cond, ◌==◌, nat_cmp, List, [], ◌∷◌, ◌++◌, drop, reverse, Option, Some, None, refl, sym, ap, ◌∙◌, if◌then◌else◌}
use Rattle.std.specs.Cmp.{unsigned_ties}
use Rattle.std.specs.Ordering.{is_eq}
use Rattle.std.specs.BTreeMap.{BTreeMap, get}
use Rattle.std.proofs.lemmas.List.{reverse-append}
use Rattle.merc_scopes.specs.declared.occurrence.Occurrence.{Occurrence}
use Rattle.merc_scopes.specs.Scopes.{at_of, occurrence}
use Rattle.merc_flat_form.specs.declared.scope_stack.Change.{Change}
use Rattle.merc_flat_form.specs.declared.scope_stack.Change.TheVariants.{Given}
use Rattle.merc_flat_form.specs.Levels.{or_else, shown, onto, levels_of, AreLevels}

pub or_else-none : (meaning : Option ℕ) → or_else meaning None ≡ meaning
or_else-none (Some at) = refl
or_else-none None = refl

pub or_else_assoc : (first second third : Option ℕ) → or_else (or_else first second) third ≡ or_else first (or_else second third)
or_else_assoc (Some at) second third = refl
or_else_assoc None second third = refl

-- a name of which it is tested whether it is the one asked for, before others
first_before : (test : Bool) (at : ℕ) (rest others : Option ℕ) → (if test then Some at else or_else rest others) ≡ or_else (if test then Some at else rest) others
first_before true at rest others = refl
first_before false at rest others = refl

-- what a name stands for in one list before another
pub at_of-append : (name : ℕ) (found others : List Occurrence) → at_of name (found ++ others) ≡ or_else (at_of name found) (at_of name others)
at_of-append name [] others = refl
at_of-append name (first ∷ rest) others =
    ap (λ (meaning : Option ℕ). if first.name == name then Some first.at else meaning) (at_of-append name rest others)
    ∙ first_before (first.name == name) first.at (at_of name rest) (at_of name others)

-- a name more at the top level

pub shown-onto : (name : ℕ) (one : Occurrence) (levels : List (List Occurrence)) → shown name (onto one levels) ≡ (if one.name == name then Some one.at else shown name levels)
shown-onto name one [] = refl
shown-onto name one (level ∷ levels) = refl

pub below-onto : (one : Occurrence) (levels : List (List Occurrence)) → drop 1 (onto one levels) ≡ drop 1 levels
below-onto one [] = refl
below-onto one (level ∷ levels) = refl

-- a name more at the top level hides the levels, and is hidden by a list before them
pub onto-hidden : (name : ℕ) (one : Occurrence) (found : List Occurrence) (levels : List (List Occurrence))
    → or_else (at_of name found) (shown name (onto one levels)) ≡ or_else (at_of name (found ++ one ∷ [])) (shown name levels)
onto-hidden name one found levels =
    ap (or_else (at_of name found)) (shown-onto name one levels ∙ first_before (one.name == name) one.at None (shown name levels))
    ∙ sym (or_else_assoc (at_of name found) (at_of name (one ∷ [])) (shown name levels))
    ∙ ap (λ (meaning : Option ℕ). or_else meaning (shown name levels)) (sym (at_of-append name found (one ∷ [])))

-- the last change, as the first of the reverse
pub reverse-push : (changes : List Change) (change : Change) → reverse (changes ++ change ∷ []) ≡ change ∷ reverse changes
reverse-push changes change = reverse-append changes (change ∷ [])

-- a map where a name was given a meaning
pub gives : (before after : BTreeMap ℕ ℕ) (name at : ℕ) (meant : Option ℕ) (changes : List Change)
    → AreLevels before changes → meant ≡ get nat_cmp before name
    → ((other : ℕ) → get nat_cmp after other ≡ cond (is_eq (nat_cmp name other)) (Some at) (get nat_cmp before other))
    → AreLevels after (Given name at meant ∷ changes)
gives before after name at meant changes levels old updates = record {
  meanings = λ other.
      updates other
      ∙ ap (λ (test : Bool). cond test (Some at) (get nat_cmp before other)) (sym (unsigned_ties name other))
      ∙ ap (λ (meaning : Option ℕ). if name == other then Some at else meaning) (levels.meanings other)
      ∙ sym (shown-onto other (occurrence name at) (levels_of changes));
  earlier = (old ∙ levels.meanings name, levels.earlier);
}
