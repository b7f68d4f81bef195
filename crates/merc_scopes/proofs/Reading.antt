-- An entry is read before the goals that stand on a stack.
use Rattle.std.proofs.Common.{◌≡◌, ℕ, ◌+◌, ◌≤◌, Bool, ◌⊎◌, List, [], ◌∷◌, ◌++◌, length, reverse, map, take, drop, refl, ap, sym, subst, ◌∙◌, inl, inr, arith}
use Rattle.std.proofs.lemmas.List.{append_assoc, append-nil, length-map, take-map, drop-map, length-reverse}
use Rattle.merc_base.specs.declared.place.Span.{Span}
use Rattle.merc_tree.specs.Term.{Term, Terms, Variable, Integer, Text, Application, terms_of}
use Rattle.merc_tree.specs.TermCode.{terms_of-list_of}
use Rattle.merc_tree.specs.Shape.{arguments_of}
use Rattle.merc_goals.specs.Written.{Written}
use Rattle.merc_goals.specs.Entries.{called, goals_of, with_form}
use Rattle.merc_goals.specs.declared.goal.Form.{Form}
use Rattle.merc_goals.specs.declared.goal.Form.TheVariants.{Called as CalledForm, Conjunction as ConjunctionForm, Parallel as ParallelForm, Disjunction as DisjunctionForm, Conditional as ConditionalForm, Quantified as QuantifiedForm}
use Rattle.merc_scopes.specs.declared.first_places.FirstPlaces.{FirstPlaces}
use Rattle.merc_scopes.specs.declared.listing.Listing.{Listing}
use Rattle.merc_scopes.specs.declared.occurrence.Occurrence.{Occurrence}
use Rattle.merc_scopes.specs.Scopes.{at_of, occurrences_of, free, all_free, each_free, own, without, shared}
use Rattle.merc_scopes.specs.FirstPlaces.{Lists}
use Rattle.merc_scopes.specs.Standing.{AllHold, Stands, IsJoined, GoesOn, needs, together}
use Rattle.merc_scopes.proofs.Standings.{AllHold-length, pushed}

module _ (blank : ℕ → Bool) where
  -- a goal without sub-goals is read

  pub stood : (old new : List FirstPlaces) (listing : Listing) (list found : List Occurrence) (goals : List Written) → new ≡ old ++ listing.places ∷ [] → found ≡ listing.list.items
      → Lists listing list → Stands blank old goals → AllHold (reverse new) (list ∷ map (free blank) goals) × ((name : ℕ) → at_of name found ≡ at_of name list)
  stood old new listing list found goals push is lists stands =
      (pushed old new listing.places list (map (free blank) goals) push lists.1 stands, (λ name. ap (at_of name) is ∙ lists.0 name ∙ lists.1 name))

  called_goes : (new : List FirstPlaces) (at : ℕ) (term : Term) (span : Span) (found : List Occurrence) (goals : List Written)
      → AllHold (reverse new) (occurrences_of blank (at + 2) (terms_of (arguments_of term)) ∷ map (free blank) goals)
      × ((name : ℕ) → at_of name found ≡ at_of name (occurrences_of blank (at + 2) (terms_of (arguments_of term))))
      → GoesOn blank new (called at term span ∷ goals) found
  called_goes new at (Variable name own) span found goals stands = stands
  called_goes new at (Integer value own) span found goals stands = stands
  called_goes new at (Text text own) span found goals stands = stands
  called_goes new at (Application name qualifier arguments own) span found goals stands =
      let P : Terms → Type 0 = λ l. AllHold (reverse new) (occurrences_of blank (at + 2) l ∷ map (free blank) goals) × ((name : ℕ) → at_of name found ≡ at_of name (occurrences_of blank (at + 2) l)) in
      subst P (terms_of-list_of arguments) stands

  pub read_called : (form : Form) (term : Term) → form ≡ CalledForm term → (at : ℕ) (span : Span) (old new : List FirstPlaces) (listing : Listing) (found : List Occurrence) (goals : List Written)
      → new ≡ old ++ listing.places ∷ [] → found ≡ listing.list.items → Lists listing (occurrences_of blank (at + 2) (terms_of (arguments_of term))) → Stands blank old goals
      → GoesOn blank new (with_form form at span goals) found
  read_called form term is at span old new listing found goals push same lists stands =
      rw is (called_goes new at term span found goals (stood old new listing (occurrences_of blank (at + 2) (terms_of (arguments_of term))) found goals push same lists stands))

  -- some goals are read as one

  all_free-goals : (goals : List Written) → all_free blank (goals_of goals) ≡ together (map (free blank) goals)
  all_free-goals [] = refl
  all_free-goals (first ∷ rest) = ap (λ l. free blank first ++ l) (all_free-goals rest)

  each_free-goals : (goals : List Written) → each_free blank (goals_of goals) ≡ map (free blank) goals
  each_free-goals [] = refl
  each_free-goals (first ∷ rest) = ap (λ l. free blank first ∷ l) (each_free-goals rest)

  joined_stands : (count : ℕ) (new : List FirstPlaces) (goals : List Written) (found : List Occurrence) → IsJoined count new (map (free blank) goals) found
      → AllHold (reverse new) (all_free blank (goals_of (take count goals)) ∷ map (free blank) (drop count goals))
  joined_stands count new goals found joined =
      let taken : take count (map (free blank) goals) ≡ map (free blank) (take count goals) = take-map (free blank) count goals in
      let P : List Occurrence → List (List Occurrence) → Type 0 = λ list lists. AllHold (reverse new) (list ∷ lists) in
      let Q : List Occurrence → Type 0 = λ list. P list (map (free blank) (drop count goals)) in
      let R : List (List Occurrence) → Type 0 = λ lists. P (together (take count (map (free blank) goals))) lists in
      subst Q (ap together taken ∙ sym (all_free-goals (take count goals))) (subst R (drop-map (free blank) count goals) joined.0)

  joined_gives : (count : ℕ) (new : List FirstPlaces) (goals : List Written) (found : List Occurrence) → IsJoined count new (map (free blank) goals) found
      → (name : ℕ) → at_of name found ≡ at_of name (shared (each_free blank (goals_of (take count goals))))
  joined_gives count new goals found joined name =
      joined.1 name ∙ ap (λ l. at_of name (shared l)) (take-map (free blank) count goals ∙ sym (each_free-goals (take count goals)))

  pub read_conjunction : (form : Form) (count : ℕ) → (form ≡ ConjunctionForm count) ⊎ (form ≡ ParallelForm count) → (at : ℕ) (span : Span) (new : List FirstPlaces) (goals : List Written) (found : List Occurrence)
      → IsJoined count new (map (free blank) goals) found → GoesOn blank new (with_form form at span goals) found
  read_conjunction form count (inl is) at span new goals found joined = rw is (joined_stands count new goals found joined, joined_gives count new goals found joined)
  read_conjunction form count (inr is) at span new goals found joined = rw is (joined_stands count new goals found joined, joined_gives count new goals found joined)

  -- a disjunction brings nothing with it
  pub read_disjunction : (form : Form) (count : ℕ) → form ≡ DisjunctionForm count → (at : ℕ) (span : Span) (new : List FirstPlaces) (goals : List Written) (shares found : List Occurrence)
      → IsJoined count new (map (free blank) goals) shares → found ≡ [] → GoesOn blank new (with_form form at span goals) found
  read_disjunction form count is at span new goals shares found joined none = rw is (joined_stands count new goals shares joined, (λ name. ap (at_of name) none))

  -- An if-then-else is read: its parts are joined two by two.
  parts_joined : (a b c : List Occurrence) → ((a ++ (b ++ [])) ++ (c ++ [])) ≡ a ++ (b ++ c)
  parts_joined a b c = ap (λ l. (a ++ l) ++ (c ++ [])) (append-nil b) ∙ ap (λ l. (a ++ b) ++ l) (append-nil c) ∙ append_assoc a b c

  pub stands-length : (standing : List FirstPlaces) (goals : List Written) → Stands blank standing goals → length standing ≡ length goals
  stands-length standing goals stands = sym (length-reverse standing) ∙ AllHold-length (reverse standing) (map (free blank) goals) stands ∙ length-map goals (free blank)

  conditional_goes : (old middle new : List FirstPlaces) (span : Span) (found other : List Occurrence) (goals : List Written) → 3 ≤ length old → Stands blank old goals
      → ((lists : List (List Occurrence)) → AllHold (reverse old) lists → IsJoined 2 middle lists found)
      → ((lists : List (List Occurrence)) → AllHold (reverse middle) lists → IsJoined 2 new lists other)
      → GoesOn blank new (with_form ConditionalForm 0 span goals) found
  conditional_goes old middle new span found other [] enough stands once twice = absurd (omega (arith, stands-length old [] stands))
  conditional_goes old middle new span found other (a ∷ []) enough stands once twice = absurd (omega (arith, stands-length old (a ∷ []) stands))
  conditional_goes old middle new span found other (a ∷ b ∷ []) enough stands once twice = absurd (omega (arith, stands-length old (a ∷ b ∷ []) stands))
  conditional_goes old middle new span found other (condition ∷ then_part ∷ else_part ∷ rest) enough stands once twice =
      let first = once _ stands in
      let second = twice _ first.0 in
      let P : List Occurrence → Type 0 = λ list. AllHold (reverse new) (list ∷ map (free blank) rest) in
      (subst P (parts_joined (free blank condition) (free blank then_part) (free blank else_part)) second.0, first.1)

  pub read_conditional : (form : Form) → form ≡ ConditionalForm → (at : ℕ) (old middle new : List FirstPlaces) (span : Span) (found other : List Occurrence) (goals : List Written) → needs form ≤ length old → Stands blank old goals
      → ((lists : List (List Occurrence)) → AllHold (reverse old) lists → IsJoined 2 middle lists found)
      → ((lists : List (List Occurrence)) → AllHold (reverse middle) lists → IsJoined 2 new lists other)
      → GoesOn blank new (with_form form at span goals) found
  read_conditional form is at old middle new span found other goals enough stands once twice =
      rw is (conditional_goes old middle new span found other goals (rw is at enough) stands once twice)

  -- a quantifier is read

  quantified_goes : (variables : List ℕ) (old new : List FirstPlaces) (span : Span) (list : List Occurrence) (goals : List Written) → 1 ≤ length old → Stands blank old goals
      → ((found : List Occurrence) (lists : List (List Occurrence)) → AllHold (reverse old) (found ∷ lists) → (list ≡ own variables found) × AllHold (reverse new) (without variables found ∷ lists))
      → GoesOn blank new (with_form (QuantifiedForm variables) 0 span goals) list
  quantified_goes variables old new span list [] enough stands taken = absurd (omega (arith, stands-length old [] stands))
  quantified_goes variables old new span list (goal ∷ rest) enough stands taken = let own = taken _ _ stands in (own.1, own.0)

  pub read_quantified : (form : Form) (variables : List ℕ) → form ≡ QuantifiedForm variables → (at : ℕ) (old new : List FirstPlaces) (span : Span) (list : List Occurrence) (goals : List Written) → needs form ≤ length old → Stands blank old goals
      → ((found : List Occurrence) (lists : List (List Occurrence)) → AllHold (reverse old) (found ∷ lists) → (list ≡ own variables found) × AllHold (reverse new) (without variables found ∷ lists))
      → GoesOn blank new (with_form form at span goals) list
  read_quantified form variables is at old new span list goals enough stands taken =
      rw is (quantified_goes variables old new span list goals (rw is at enough) stands taken)
