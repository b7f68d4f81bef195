-- Entries of a module: from which unit they come, and that no two of them declare the same.
use Rattle.std.proofs.Common.{◌≡◌, ℕ, inl, inr, ◌==◌, ◌||◌, Bool, true, false, List, [], ◌∷◌, ◌++◌, map, if◌then◌else◌, refl, sym, ap, ap₂, subst, ◌∙◌, eqb-true}
use Rattle.std.proofs.Math.Bool.{or-true}
use Rattle.std.proofs.lemmas.Bool.{and_parts}
use Rattle.std.proofs.lemmas.List.{append_assoc}
use Rattle.std.proofs.lemmas.List.Folds.{list_any-append}
use Rattle.std.specs.List.{flat_map, list_any}
use Rattle.merc_base.specs.declared.groups.Key.{Key}
use Rattle.merc_base.specs.declared.place.Place.{Place}
use Rattle.merc_tree.specs.Term.{Term}
use Rattle.merc_item_forms.specs.Forms.{is_in}
use Rattle.merc_item_forms.specs.Items.{Item, item_of, place_of}
use Rattle.merc_entries.specs.DoubleFaults.{IsAgain}
use Rattle.merc_entries.specs.Entries.{Declared, Entry, declared_by, entries_from, imports, is_key, is_own, own_entries, unit_entries, with_units}
use Rattle.merc_entries.specs.Joining.{unit_entry}
use Rattle.merc_items.specs.ModuleOf.{unit_items}
use Rattle.merc_program_laws.specs.ClauseFaults.{IsAmong}
use Rattle.merc_program_laws.proofs.FirstFaults.{among_either, among_left, among_right}

-- what is among mapped lists

pub record IsMapped {A B : Type 0} (f : A → B) (one : B) (all : List A) : Type 0 where
  pub from : A
  pub among : IsAmong from all
  pub same : one ≡ f from

pub mapped : {A B : Type 0} (f : A → B) (one : B) (all : List A) → IsAmong one (map f all) → IsMapped f one all
mapped f one [] among = absurd among
mapped f one (first ∷ rest) (inl same) = record { from = first; among = inl refl; same = same }
mapped f one (first ∷ rest) (inr among) = let inner = mapped f one rest among in record { from = inner.from; among = inr inner.among; same = inner.same }

pub map_among : {A B : Type 0} (f : A → B) (one : A) (all : List A) → IsAmong one all → IsAmong (f one) (map f all)
map_among f one [] among = absurd among
map_among f one (first ∷ rest) (inl same) = inl (ap f same)
map_among f one (first ∷ rest) (inr among) = inr (map_among f one rest among)

pub record IsFlatMapped {A B : Type 0} (f : A → List B) (one : B) (all : List A) : Type 0 where
  pub from : A
  pub among : IsAmong from all
  pub inside : IsAmong one (f from)

pub flat_mapped : {A B : Type 0} (f : A → List B) (one : B) (all : List A) → IsAmong one (flat_map f all) → IsFlatMapped f one all
flat_mapped f one [] among = absurd among
flat_mapped {A} {B} f one (first ∷ rest) among =
    elim (among_either one (f first) (flat_map f rest) among) as (λ _. IsFlatMapped f one (first ∷ rest)) [
      | inl there ↦ record { from = first; among = inl refl; inside = there }
      | inr there ↦ (let inner = flat_mapped f one rest there in record { from = inner.from; among = inr inner.among; inside = inner.inside })
    ]

pub flat_among : {A B : Type 0} (f : A → List B) (from : A) (one : B) (all : List A) → IsAmong from all → IsAmong one (f from) → IsAmong one (flat_map f all)
flat_among f from one [] among inside = absurd among
flat_among f from one (first ∷ rest) (inl same) inside = among_left one (f first) (flat_map f rest) (subst (λ a. IsAmong one (f a)) same inside)
flat_among f from one (first ∷ rest) (inr among) inside = among_right one (f first) (flat_map f rest) (flat_among f from one rest among inside)

-- the file's own entries, and the others

pub own_among : (one : Entry) (all : List Entry) → IsAmong one (own_entries all) → IsAmong one all
own_among one [] among = among
own_among one (first ∷ rest) among = by (is_own first) (own_among one rest) among
  where
    by : (b : Bool) → (IsAmong one (own_entries rest) → IsAmong one rest) → IsAmong one (if b then first ∷ own_entries rest else own_entries rest) → IsAmong one (first ∷ rest)
    by true inner (inl same) = inl same
    by true inner (inr there) = inr (inner there)
    by false inner there = inr (inner there)

pub unit_among : (one : Entry) (all : List Entry) → IsAmong one (unit_items all) → IsAmong one all × (is_own one ≡ false)
unit_among one [] among = absurd among
unit_among one (first ∷ rest) among = by (is_own first) refl (unit_among one rest) among
  where
    by : (b : Bool) → is_own first ≡ b → (IsAmong one (unit_items rest) → IsAmong one rest × (is_own one ≡ false)) → IsAmong one (if b then unit_items rest else first ∷ unit_items rest)
        → IsAmong one (first ∷ rest) × (is_own one ≡ false)
    by true is inner there = (inr (inner there).0, (inner there).1)
    by false is inner (inl same) = (inl same, ap is_own same ∙ is)
    by false is inner (inr there) = (inr (inner there).0, (inner there).1)

pub unit_there : (one : Entry) (all : List Entry) → IsAmong one all → is_own one ≡ false → IsAmong one (unit_items all)
unit_there one [] among foreign = among
unit_there one (first ∷ rest) among foreign = by (is_own first) refl (λ there. unit_there one rest there foreign) among
  where
    by : (b : Bool) → is_own first ≡ b → (IsAmong one rest → IsAmong one (unit_items rest)) → IsAmong one (first ∷ rest) → IsAmong one (if b then unit_items rest else first ∷ unit_items rest)
    by true is inner (inl same) = absurd (let wrong : true ≡ false = sym is ∙ sym (ap is_own same) ∙ foreign in cc)
    by true is inner (inr there) = inner there
    by false is inner (inl same) = inl same
    by false is inner (inr there) = inr (inner there)

-- Where an entry that is not the file's own comes from: a unit all of whose items are entries.

pub record ComesFrom (items : ℕ → List Term) (all : List Entry) (one : Entry) : Type 0 where
  pub place : Place
  pub unit : ℕ
  pub term : Term
  pub among : IsAmong term (items unit)
  pub same : one ≡ unit_entry place unit term
  pub whole : (other : Term) → IsAmong other (items unit) → IsAmong (unit_entry place unit other) all

module _ (items : ℕ → List Term) (all : List Entry) (one : Entry) where
  from_units : (place : Place) (seen units : List ℕ) → ((other : Entry) → IsAmong other (unit_entries items place seen units) → IsAmong other all)
      → IsAmong one (unit_entries items place seen units) → ComesFrom items all one
  from_units place seen [] within among = absurd among
  from_units place seen (unit ∷ rest) within among = by (is_in unit seen) (from_units place seen rest) (from_units place (seen ++ unit ∷ []) rest) within among
    where
      by : (b : Bool)
          → (((other : Entry) → IsAmong other (unit_entries items place seen rest) → IsAmong other all) → IsAmong one (unit_entries items place seen rest) → ComesFrom items all one)
          → (((other : Entry) → IsAmong other (unit_entries items place (seen ++ unit ∷ []) rest) → IsAmong other all) → IsAmong one (unit_entries items place (seen ++ unit ∷ []) rest) → ComesFrom items all one)
          → ((other : Entry) → IsAmong other (if b then unit_entries items place seen rest else map (unit_entry place unit) (items unit) ++ unit_entries items place (seen ++ unit ∷ []) rest) → IsAmong other all)
          → IsAmong one (if b then unit_entries items place seen rest else map (unit_entry place unit) (items unit) ++ unit_entries items place (seen ++ unit ∷ []) rest) → ComesFrom items all one
      by true known new within there = known within there
      by false known new within there =
          let others = unit_entries items place (seen ++ unit ∷ []) rest in
          elim (among_either one (map (unit_entry place unit) (items unit)) others there) as (λ _. ComesFrom items all one) [
            | inl inside ↦ (let from = mapped (unit_entry place unit) one (items unit) inside in
                record {
                  place = place;
                  unit = unit;
                  term = from.from;
                  among = from.among;
                  same = from.same;
                  whole = λ other is. within (unit_entry place unit other) (among_left _ (map (unit_entry place unit) (items unit)) others (map_among (unit_entry place unit) other (items unit) is));
                })
            | inr behind ↦ new (λ other is. within other (among_right other (map (unit_entry place unit) (items unit)) others is)) behind
          ]

  pub comes_from : (seen : List ℕ) (terms : List Term) → ((other : Entry) → IsAmong other (entries_from items seen terms) → IsAmong other all)
      → is_own one ≡ false → IsAmong one (entries_from items seen terms) → ComesFrom items all one
  comes_from seen [] within foreign among = absurd among
  comes_from seen (term ∷ rest) within foreign (inl same) = absurd (let wrong : true ≡ false = sym (ap is_own same) ∙ foreign in cc)
  comes_from seen (term ∷ rest) within foreign (inr among) =
      let inside = unit_entries items (place_of term) seen (imports (item_of term)) in
      let behind = entries_from items (with_units seen (imports (item_of term))) rest in
      elim (among_either one inside behind among) as (λ _. ComesFrom items all one) [
        | inl there ↦ from_units (place_of term) seen (imports (item_of term)) (λ other is. within other (inr (among_left other inside behind is))) there
        | inr there ↦ comes_from (with_units seen (imports (item_of term))) rest (λ other is. within other (inr (among_right other inside behind is))) foreign there
      ]

-- No two entries declare the same.

key_same : (one other : Key) → is_key one other ≡ true → one ≡ other
key_same one other is =
    let parts = and_parts (one.name == other.name) (one.arity == other.arity) is in
    ap₂ (λ (name arity : ℕ). record { name = name; arity = arity }) (eqb-true one.name other.name parts.0) (eqb-true one.arity other.arity parts.1)

abbrev declared_at : Place → Key → Declared Key
declared_at place key = record { key = key; place = place }

abbrev is_declared : Key → List (Declared Key) → Bool
is_declared key all = list_any (λ other. is_key key other.key) all

any_left : (key : Key) (some others : List (Declared Key)) → is_declared key some ≡ true → is_declared key (some ++ others) ≡ true
any_left key some others is = list_any-append (λ other. is_key key other.key) some others ∙ ap (λ (b : Bool). b || is_declared key others) is

any_right : (key : Key) (some others : List (Declared Key)) → is_declared key others ≡ true → is_declared key (some ++ others) ≡ true
any_right key some others is = list_any-append (λ other. is_key key other.key) some others ∙ ap (λ (b : Bool). is_declared key some || b) is ∙ or-true (is_declared key some)

any_mapped : (key : Key) (place : Place) (keys : List Key) → list_any (is_key key) keys ≡ true → is_declared key (map (declared_at place) keys) ≡ true
any_mapped key place [] is = is
any_mapped key place (first ∷ rest) is = by (is_key key first) (any_mapped key place rest) is
  where
    by : (b : Bool) → (list_any (is_key key) rest ≡ true → is_declared key (map (declared_at place) rest) ≡ true) → (b || list_any (is_key key) rest) ≡ true
        → (b || is_declared key (map (declared_at place) rest)) ≡ true
    by true inner is' = refl
    by false inner is' = inner is'

-- something is declared again
pub record IsDeclaredAgain (declared : List (Declared Key)) : Type 0 where
  pub at : Place
  pub again : IsAgain is_key declared at

again_within : (key : Key) (place : Place) (before : List (Declared Key)) (keys : List Key) (behind : List (Declared Key)) → is_declared key before ≡ true → list_any (is_key key) keys ≡ true
    → IsDeclaredAgain (before ++ (map (declared_at place) keys ++ behind))
again_within key place before [] behind known is = absurd cc
again_within key place before (first ∷ rest) behind known is =
    by (is_key key first) refl (again_within key place (before ++ declared_at place first ∷ []) rest behind (any_left key before (declared_at place first ∷ []) known)) is
  where
    by : (b : Bool) → is_key key first ≡ b
        → (list_any (is_key key) rest ≡ true → IsDeclaredAgain ((before ++ declared_at place first ∷ []) ++ (map (declared_at place) rest ++ behind)))
        → (b || list_any (is_key key) rest) ≡ true → IsDeclaredAgain (before ++ (declared_at place first ∷ (map (declared_at place) rest ++ behind)))
    by true same inner is' = record {
      at = place;
      again = record {
        front = before;
        again = declared_at place first;
        back = map (declared_at place) rest ++ behind;
        whole = refl;
        before = subst (λ (k : Key). is_declared k before ≡ true) (key_same key first same) known;
        there = refl;
      };
    }
    by false other inner is' = subst IsDeclaredAgain (append_assoc before (declared_at place first ∷ []) (map (declared_at place) rest ++ behind)) (inner is')

module _ (keys : Item → List Key) (key : Key) where
  abbrev Declares : Entry → Type 0
  Declares entry = list_any (is_key key) (keys entry.item) ≡ true

  again_in : (all : List Entry) (one : Entry) (before : List (Declared Key)) → IsAmong one all → Declares one → is_declared key before ≡ true → IsDeclaredAgain (before ++ declared_by keys all)
  again_in [] one before among declares known = absurd among
  again_in (first ∷ rest) one before (inl same) declares known =
      again_within key first.place before (keys first.item) (declared_by keys rest) known (subst Declares same declares)
  again_in (first ∷ rest) one before (inr among) declares known =
      let here = map (declared_at first.place) (keys first.item) in
      subst IsDeclaredAgain (append_assoc before here (declared_by keys rest)) (again_in rest one (before ++ here) among declares (any_left key before here known))

  unique_behind : (all : List Entry) (before : List (Declared Key)) → (IsDeclaredAgain (before ++ declared_by keys all) → ⊥) → (one other : Entry) → IsAmong one all → IsAmong other all
      → Declares one → Declares other → one ≡ other
  unique_behind [] before never one other among among' declares declares' = absurd among
  unique_behind (first ∷ rest) before never one other (inl same) (inl same') declares declares' = same ∙ sym same'
  unique_behind (first ∷ rest) before never one other (inl same) (inr among') declares declares' =
      let here = map (declared_at first.place) (keys first.item) in
      let known = any_right key before here (any_mapped key first.place (keys first.item) (subst Declares same declares)) in
      absurd (never (subst IsDeclaredAgain (append_assoc before here (declared_by keys rest)) (again_in rest other (before ++ here) among' declares' known)))
  unique_behind (first ∷ rest) before never one other (inr among) (inl same') declares declares' =
      let here = map (declared_at first.place) (keys first.item) in
      let known = any_right key before here (any_mapped key first.place (keys first.item) (subst Declares same' declares')) in
      absurd (never (subst IsDeclaredAgain (append_assoc before here (declared_by keys rest)) (again_in rest one (before ++ here) among declares known)))
  unique_behind (first ∷ rest) before never one other (inr among) (inr among') declares declares' =
      let here = map (declared_at first.place) (keys first.item) in
      unique_behind rest (before ++ here) (λ again. never (subst IsDeclaredAgain (append_assoc before here (declared_by keys rest)) again)) one other among among' declares declares'

  -- Two entries that declare the same are one, where nothing is declared again.
  pub unique : (all : List Entry) → ((place : Place) → IsAgain is_key (declared_by keys all) place → ⊥) → (one other : Entry) → IsAmong one all → IsAmong other all → Declares one → Declares other
      → one ≡ other
  unique all never = unique_behind all [] (λ found. never found.at found.again)
