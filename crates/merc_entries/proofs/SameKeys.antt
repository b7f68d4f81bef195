-- Keys and modes that compare as equal are the same.
use Rattle.std.proofs.Common.{◌≡◌, ℕ, ◌==◌, ◌&&◌, Bool, true, false, List, [], ◌∷◌, ◌++◌, map, Some, ◌||◌, if◌then◌else◌, refl, ap, sym, ◌∙◌}
use Rattle.std.specs.List.{list_any}
use Rattle.std.specs.Ordering.{is_eq, nat_cmp, bool_cmp, ordering_then}
use Rattle.std.specs.Cmp.Lexicographic.{slice_cmp}
use Rattle.std.proofs.lemmas.List.{map-append}
use Rattle.merc_entries.specs.declared.doubles.modes.Mode.{Mode as CodeMode}
use Rattle.merc_entries.specs.declared.doubles.again.Declared.{Declared as CodeDeclared}
use Rattle.merc_entries.specs.Entries.{is_key, are_same, is_same_mode}
use Rattle.merc_entries.specs.ModeValue.{mode_value}
use Rattle.merc_entries.proofs.KeyLaws.{then-both, same-test}
use Rattle.merc_entries.specs.FirstPlaces.{declared_value, again_from, first_again}

equal_lists : (a b : List Bool) → is_eq (slice_cmp bool_cmp a b) ≡ are_same a b
equal_lists [] [] = refl
equal_lists [] (b ∷ bs) = refl
equal_lists (true ∷ as') [] = refl
equal_lists (false ∷ as') [] = refl
equal_lists (true ∷ as') (true ∷ bs) = equal_lists as' bs
equal_lists (true ∷ as') (false ∷ bs) = refl
equal_lists (false ∷ as') (true ∷ bs) = refl
equal_lists (false ∷ as') (false ∷ bs) = equal_lists as' bs

pub same_mode : (a b : CodeMode)
    → is_eq (ordering_then (ordering_then (nat_cmp a.predicate.name b.predicate.name) (nat_cmp a.predicate.arity b.predicate.arity)) (slice_cmp bool_cmp a.outputs.items b.outputs.items))
    ≡ is_same_mode (mode_value a) (mode_value b)
same_mode a b =
    let keys = ordering_then (nat_cmp a.predicate.name b.predicate.name) (nat_cmp a.predicate.arity b.predicate.arity) in
    then-both keys (slice_cmp bool_cmp a.outputs.items b.outputs.items)
    ∙ ap (λ t. t && is_eq (slice_cmp bool_cmp a.outputs.items b.outputs.items)) (same-test a.predicate b.predicate)
    ∙ ap (λ t. is_key a.predicate b.predicate && t) (equal_lists a.outputs.items b.outputs.items)

module _ {C K : Type 0} (same : C → C → Bool) (same' : K → K → Bool) (value : C → K) (agree : (a b : C) → same a b ≡ same' (value a) (value b)) where
  among_as : (key : C) (seen : List (CodeDeclared C))
      → list_any (λ other. same key other.key) (map (declared_value (λ c. c)) seen) ≡ list_any (λ other. same' (value key) other.key) (map (declared_value value) seen)
  among_as key [] = refl
  among_as key (first ∷ rest) =
      ap (λ t. t || list_any (λ other. same key other.key) (map (declared_value (λ c. c)) rest)) (agree key first.key)
      ∙ ap (λ t. same' (value key) (value first.key) || t) (among_as key rest)

  again_as : (seen rest : List (CodeDeclared C))
      → again_from same (map (declared_value (λ c. c)) seen) (map (declared_value (λ c. c)) rest) ≡ again_from same' (map (declared_value value) seen) (map (declared_value value) rest)
  again_as seen [] = refl
  again_as seen (next ∷ rest) =
      ap (λ t. if t then Some next.place else again_from same (map (declared_value (λ c. c)) seen ++ declared_value (λ c. c) next ∷ []) (map (declared_value (λ c. c)) rest)) (among_as next.key seen)
      ∙ ap (λ o. if list_any (λ other. same' (value next.key) other.key) (map (declared_value value) seen) then Some next.place else o) (
      ap (λ l. again_from same l (map (declared_value (λ c. c)) rest)) (sym (map-append (declared_value (λ c. c)) seen (next ∷ [])))
      ∙ again_as (seen ++ next ∷ []) rest
      ∙ ap (λ l. again_from same' l (map (declared_value value) rest)) (map-append (declared_value value) seen (next ∷ [])))

  pub first_again_as : (declared : List (CodeDeclared C)) → first_again same (map (declared_value (λ c. c)) declared) ≡ first_again same' (map (declared_value value) declared)
  first_again_as declared = again_as [] declared
