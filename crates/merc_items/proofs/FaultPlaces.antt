-- The place of a fault is that of a term of the file, and where terms rise one byte has one place.
use Rattle.std.proofs.Common.{◌≡◌, ℕ, ◌<◌, ◌⊎◌, inl, inr, Bool, true, false, ◌||◌, nat_le, List, [], ◌∷◌, ◌++◌, append_assoc, map, Option, Some, None, if◌then◌else◌, refl, sym, ap, subst, ◌∙◌, arith}
use Rattle.std.specs.List.{AllByRecursion, list_any}
use Rattle.merc_base.specs.Names.{int_name, string_name}
use Rattle.merc_base.specs.FirstPlace.{StandsAt}
use Rattle.merc_base.specs.declared.place.Place.{Place}
use Rattle.merc_entries.specs.EntryValue.{place_at}
use Rattle.merc_base.specs.declared.refusal.Rule.{Rule}
use Rattle.merc_base.specs.declared.refusal.Detail.{Detail}
use Rattle.merc_tree.specs.Term.{Term, span_of}
use Rattle.merc_item_forms.specs.Items.{Item, item_of, place_of}
use Rattle.merc_item_forms.specs.Forms.{is_in}
use Rattle.merc_item_forms.specs.FormFaults.{Rises, HasFormFault, no_item, wrong, outside, wide}
use Rattle.merc_base.specs.declared.groups.Key.{Key}
use Rattle.merc_entries.specs.Entries.{Entry, Declared, entries, entries_from, imports, unit_entries, with_units, types_of, constructors_of, predicates_of, modes_of, is_key, declared_by, key, is_own, own_entries}
use Rattle.merc_entries.specs.DoubleFaults.{IsAgain, type_keys, at_start, import_place, later, HasDouble}
use Rattle.merc_declared.specs.ModeFaults.{HasModeFault, missing, many}
use Rattle.merc_items.specs.Phases.{HasFault, form, double, unknown_type, mode, alone}
use Rattle.merc_entries.specs.DoubleFaults.HasDouble.{type_again, constructor_again, arithmetic, predicate_again, error_again, mode_again, bool_and_maybe}

-- a term is one of these
abbrev pub IsAmong : Term → List Term → Type 0
IsAmong term [] = ⊥
IsAmong term (first ∷ rest) = (term ≡ first) ⊎ IsAmong term rest

pub among-whole : (front : List Term) (term : Term) (back terms : List Term) → terms ≡ front ++ term ∷ back → IsAmong term terms
among-whole front term back terms whole = subst (IsAmong term) (sym whole) (within front)
  where
    within : (front : List Term) → IsAmong term (front ++ term ∷ back)
    within [] = inl refl
    within (first ∷ front) = inr (within front)

rises-behind : (first : Term) (rest : List Term) → Rises (first ∷ rest) → Rises rest
rises-behind first [] rises = tt
rises-behind first (next ∷ rest) rises = rises.1

begins-later : (first : Term) (rest : List Term) (term : Term) → Rises (first ∷ rest) → IsAmong term rest → (span_of first).first < (span_of term).first
begins-later first [] term rises among = absurd among
begins-later first (next ∷ rest) term rises (inl same) = let e = ap (λ (t : Term). (span_of t).first) same in omega (arith, rises.0, e)
begins-later first (next ∷ rest) term rises (inr among) = omega (arith, rises.0, begins-later next rest term rises.1 among)

-- of terms that rise, two that begin at one byte are one
pub same_term : (terms : List Term) (one other : Term) → Rises terms → IsAmong one terms → IsAmong other terms → (span_of one).first ≡ (span_of other).first → one ≡ other
same_term [] one other rises among among' e = absurd among
same_term (first ∷ rest) one other rises (inl same) (inl same') e = same ∙ sym same'
same_term (first ∷ rest) one other rises (inl same) (inr among') e =
    let less = begins-later first rest other rises among' in
    let e' = ap (λ (t : Term). (span_of t).first) same in
    absurd (omega (arith, less, e, e'))
same_term (first ∷ rest) one other rises (inr among) (inl same') e =
    let less = begins-later first rest one rises among in
    let e' = ap (λ (t : Term). (span_of t).first) same' in
    absurd (omega (arith, less, e, e'))
same_term (first ∷ rest) one other rises (inr among) (inr among') e = same_term rest one other (rises-behind first rest rises) among among' e

-- a place of one of these terms
pub record IsPlace (terms : List Term) (place : Place) : Type 0 where
  pub term : Term
  pub among : IsAmong term terms
  pub there : place ≡ place_of term

pub place-whole : (front : List Term) (term : Term) (back terms : List Term) → terms ≡ front ++ term ∷ back → IsPlace terms (place_of term)
place-whole front term back terms whole = record { term = term; among = among-whole front term back terms whole; there = refl }

-- what holds of all places of entries
module _ (P : Place → Type 0) where
  abbrev AtEntries : List Entry → Type 0
  AtEntries = AllByRecursion (λ (entry : Entry). P entry.place)

  abbrev AtDeclared : {K : Type 0} → List (Declared K) → Type 0
  AtDeclared {K} = AllByRecursion (λ (declared : Declared K). P declared.place)

  abbrev AtSome : Option Place → Type 0
  AtSome None = Unit {0}
  AtSome (Some place) = P place

  either-way : {X : Type 0} (Q : X → Type 0) (b : Bool) (x y : X) → Q x → Q y → Q (if b then x else y)
  either-way Q true x y one other = one
  either-way Q false x y one other = other

  both-parts : (front back : List Entry) → AtEntries front → AtEntries back → AtEntries (front ++ back)
  both-parts [] back at at' = at'
  both-parts (first ∷ front) back at at' = (at.0, both-parts front back at.1 at')

  all-one : (front : List Entry) (entry : Entry) (back : List Entry) → AtEntries (front ++ entry ∷ back) → P entry.place
  all-one [] entry back at = at.0
  all-one (first ∷ front) entry back at = all-one front entry back at.1

  entry-place : (entries front : List Entry) (entry : Entry) (back : List Entry) → AtEntries entries → entries ≡ front ++ entry ∷ back → P entry.place
  entry-place entries front entry back at whole = all-one front entry back (subst AtEntries whole at)

  standing-place : (test : Entry → Bool) (entries : List Entry) (place : Place) → AtEntries entries → StandsAt place_at test entries place → P place
  standing-place test entries place at stands = subst P (sym stands.there) (entry-place entries stands.front stands.item stands.back at stands.whole)

  one-unit : (place : Place) (unit : ℕ) (terms : List Term) → P place → AtEntries (map (λ term. record { item = item_of term; span = span_of term; place = place; unit = Some unit }) terms)
  one-unit place unit [] here = tt
  one-unit place unit (term ∷ terms) here = (here, one-unit place unit terms here)

  all-units : (items : ℕ → List Term) (place : Place) (seen units : List ℕ) → P place → AtEntries (unit_entries items place seen units)
  all-units items place seen [] here = tt
  all-units items place seen (unit ∷ rest) here =
      either-way AtEntries (is_in unit seen) _ _ (all-units items place seen rest here)
      (both-parts _ _ (one-unit place unit (items unit) here) (all-units items place (seen ++ unit ∷ []) rest here))

  all-entries : (items : ℕ → List Term) (seen : List ℕ) (terms : List Term) → AllByRecursion (λ (term : Term). P (place_of term)) terms → AtEntries (entries_from items seen terms)
  all-entries items seen [] at = tt
  all-entries items seen (term ∷ rest) at =
      (at.0, both-parts _ _ (all-units items (place_of term) seen (imports (item_of term)) at.0) (all-entries items (with_units seen (imports (item_of term))) rest at.1))

  all-own : (entries : List Entry) → AtEntries entries → AtEntries (own_entries entries)
  all-own [] at = tt
  all-own (entry ∷ rest) at = either-way AtEntries (is_own entry) (entry ∷ own_entries rest) (own_entries rest) (at.0, all-own rest at.1) (all-own rest at.1)

  keys-before : {K : Type 0} (place : Place) (keys : List K) (rest : List (Declared K)) → P place → AtDeclared rest → AtDeclared (map (λ key. record { key = key; place = place }) keys ++ rest)
  keys-before place [] rest here at = at
  keys-before place (key ∷ keys) rest here at = (here, keys-before place keys rest here at)

  all-declared : {K : Type 0} (keys : Item → List K) (entries : List Entry) → AtEntries entries → AtDeclared (declared_by keys entries)
  all-declared keys [] at = tt
  all-declared keys (entry ∷ rest) at = keys-before entry.place (keys entry.item) (declared_by keys rest) at.0 (all-declared keys rest at.1)

  one-declared : {K : Type 0} (front : List (Declared K)) (again : Declared K) (back : List (Declared K)) → AtDeclared (front ++ again ∷ back) → P again.place
  one-declared [] again back at = at.0
  one-declared (first ∷ front) again back at = one-declared front again back at.1

  again-place : {K : Type 0} (same : K → K → Bool) (declared : List (Declared K)) (place : Place) → AtDeclared declared → IsAgain same declared place → P place
  again-place same declared place at found = subst P (sym found.there) (one-declared found.front found.again found.back (subst AtDeclared found.whole at))

  -- `int` and `string` stand first, and neither is declared before
  type-place : (entries : List Entry) (place : Place) → AtEntries entries → IsAgain is_key (type_keys entries) place → P place
  type-place entries place at found = subst P (sym found.there) (behind found.front found.again found.back found.whole found.before)
    where
      behind : (front : List (Declared Key)) (again : Declared Key) (back : List (Declared Key)) → type_keys entries ≡ front ++ again ∷ back → list_any (λ other. is_key again.key other.key) front ≡ true → P again.place
      behind [] again back whole before = absurd (cc)
      behind (int ∷ []) again back whole before =
          let first : at_start (key int_name 0) ≡ int = cc in
          let second : at_start (key string_name 0) ≡ again = cc in
          let e : false ≡ true = ap (λ (d : Declared Key). is_key d.key (key int_name 0) || false) second ∙ ap (λ (d : Declared Key). is_key again.key d.key || false) first ∙ before in
          absurd (cc)
      behind (int ∷ string ∷ front) again back whole before =
          let rest : declared_by types_of entries ≡ front ++ again ∷ back = cc in
          one-declared front again back (subst AtDeclared rest (all-declared types_of entries at))

  import-place : (unit : ℕ) (entries : List Entry) → AtEntries entries → AtSome (import_place unit entries)
  import-place unit [] at = tt
  import-place unit (entry ∷ rest) at = either-way AtSome (is_in unit (imports entry.item)) (Some entry.place) (import_place unit rest) at.0 (import-place unit rest at.1)

  imported : (unit : ℕ) (entries : List Entry) (place : Place) → AtEntries entries → import_place unit entries ≡ Some place → P place
  imported unit entries place at found = subst AtSome found (import-place unit entries at)

  later-place : (one other : Place) → P one → P other → P (later one other)
  later-place one other here here' = either-way P (nat_le one.byte other.byte) other one here' here

  double-place : (entries : List Entry) (place : Place) → AtEntries entries → HasDouble entries place → P place
  double-place entries _ at (type_again place again) = type-place entries place at again
  double-place entries _ at (constructor_again place again) = again-place is_key (declared_by constructors_of entries) place (all-declared constructors_of entries at) again
  double-place entries _ at (arithmetic front back entry whole any) = entry-place entries front entry back at whole
  double-place entries _ at (predicate_again place again) = again-place is_key (declared_by predicates_of entries) place (all-declared predicates_of entries at) again
  double-place entries _ at (error_again front back entry place whole any found) = later-place place entry.place (imported _ entries place at found) (entry-place entries front entry back at whole)
  double-place entries _ at (mode_again place again) = again-place _ (declared_by modes_of (own_entries entries)) place (all-declared modes_of (own_entries entries) (all-own entries at)) again
  double-place entries _ at (bool_and_maybe bool maybe found found') = later-place bool maybe (imported _ entries bool at found) (imported _ entries maybe at found')

  mode-place : (entries : List Entry) (rule : Rule) (detail : Detail) (place : Place) → AtEntries entries → HasModeFault entries rule detail place → P place
  mode-place entries _ _ _ at (missing place stands) = standing-place _ entries place at stands
  mode-place entries _ _ _ at (many place stands) = standing-place _ entries place at stands

all-terms : (terms : List Term) → AllByRecursion (λ (term : Term). IsPlace terms (place_of term)) terms
all-terms terms = from [] terms refl
  where
    from : (front rest : List Term) → terms ≡ front ++ rest → AllByRecursion (λ (term : Term). IsPlace terms (place_of term)) rest
    from front [] whole = tt
    from front (term ∷ rest) whole = (place-whole front term rest terms whole, from (front ++ term ∷ []) rest (rw append_assoc whole))

entries-places : (items : ℕ → List Term) (terms : List Term) → AtEntries (IsPlace terms) (entries items terms)
entries-places items terms = all-entries (IsPlace terms) items [] terms (all-terms terms)

-- a file without items is refused at its start, any other fault stands at a term of the file
abbrev pub IsFaultPlace : List Term → Place → Type 0
IsFaultPlace terms place = ((terms ≡ []) × (place ≡ record { byte = 0; line = 1 })) ⊎ IsPlace terms place

form-place : (names : List (List ℕ)) (terms : List Term) (rule : Rule) (detail : Detail) (place : Place) → HasFormFault names terms rule detail place → IsFaultPlace terms place
form-place names terms _ _ _ (no_item empty) = inl (empty, refl)
form-place names terms _ _ _ (wrong front back term whole is) = inr (place-whole front term back terms whole)
form-place names terms _ _ _ (outside front back term word rest whole is) = inr (place-whole front term back terms whole)
form-place names terms _ _ _ (wide front back term whole is) = inr (place-whole front term back terms whole)

pub fault-place : (names : List (List ℕ)) (terms : List Term) (items : ℕ → List Term) (phase : ℕ) (rule : Rule) (detail : Detail) (place : Place)
    → HasFault names terms (entries items terms) phase rule detail place → IsFaultPlace terms place
fault-place names terms items _ _ _ _ (form rule detail place fault) = form-place names terms rule detail place fault
fault-place names terms items _ _ _ _ (double place fault) = inr (double-place (IsPlace terms) (entries items terms) place (entries-places items terms) fault)
fault-place names terms items _ _ _ _ (unknown_type place fault) = inr (standing-place (IsPlace terms) _ (entries items terms) place (entries-places items terms) fault)
fault-place names terms items _ _ _ _ (mode rule detail place fault) = inr (mode-place (IsPlace terms) (entries items terms) rule detail place (entries-places items terms) fault)
fault-place names terms items _ _ _ _ (alone place fault) = inr (standing-place (IsPlace terms) _ (entries items terms) place (entries-places items terms) fault)

no_place : (terms : List Term) (place : Place) → terms ≡ [] → IsPlace terms place → ⊥
no_place terms place empty is = subst (IsAmong is.term) empty is.among

pub term-of_places : (terms : List Term) (place place' : Place) (one : IsPlace terms place) (other : IsPlace terms place') → Rises terms → place.byte ≡ place'.byte → one.term ≡ other.term
term-of_places terms place place' one other rises byte =
    let here = ap (λ (p : Place). p.byte) one.there in
    let there = ap (λ (p : Place). p.byte) other.there in
    same_term terms one.term other.term rises one.among other.among (omega (arith, here, there, byte))

-- faults at one byte are at one place
pub same_place : (terms : List Term) (place place' : Place) → Rises terms → IsFaultPlace terms place → IsFaultPlace terms place' → place.byte ≡ place'.byte → place ≡ place'
same_place terms place place' rises (inl start) (inl start') byte = start.1 ∙ sym start'.1
same_place terms place place' rises (inl start) (inr is) byte = absurd (no_place terms place' start.0 is)
same_place terms place place' rises (inr is) (inl start) byte = absurd (no_place terms place start.0 is)
same_place terms place place' rises (inr is) (inr is') byte = is.there ∙ ap place_of (term-of_places terms place place' is is' rises byte) ∙ sym is'.there
