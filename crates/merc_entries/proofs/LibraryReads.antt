-- The library's texts are read as the library's items, whatever the table of names holds behind the constants, and add no names to it.
use Rattle.std.proofs.Common.{◌≡◌, ◌≢◌, ℕ, true, false, Bool, ◌==◌, List, [], ◌∷◌, Option, Some, None, is_some, find, cond, refl, sym, ap, subst, ◌∙◌, codes, eqb-true, ne_eqb}
use Rattle.std.proofs.lemmas.Bool.{eqb-false}
use Rattle.std.proofs.lemmas.Option.{same_Some}
use Rattle.std.specs.Bool.{if◌then◌else◌}
use Rattle.std.specs.List.{IsDistinct}
use Rattle.std.specs.Option.{IfSome, option_map}
use Rattle.std.specs.Str.{bytes_eq}
use Rattle.merc_base.specs.Names.{bool_name, fixed_names, list_name, maybe_name, HoldsFixed}
use Rattle.merc_base.specs.declared.refusal.Refusal.{Refusal}
use Rattle.merc_entries.specs.Library.{units, unit_text, lines, list_lines}
use Rattle.merc_tree.specs.Term.{Term}
use Rattle.merc_terms.specs.Operators.{operators}
use Rattle.merc_terms.specs.Reader.{reading}
use Rattle.merc_terms.specs.Texts.{ReadsItems, RefusesText}
use Rattle.merc_terms.proofs.TextLaws.{ReadsItems-unique, RefusesText-excludes}
use Rattle.merc_terms.proofs.TextsRead.{items_of_text, items_of_text-right}
use Rattle.merc_entries.specs.LibraryItems.{bool_items, library_items, list_items, maybe_items}
use Rattle.merc_entries.specs.Units.{AreUnits, IsUnit}

-- The computation has items for each of these texts.
abbrev AllRead : List (List ℕ × List ℕ) → Type 0
AllRead [] = Unit {0}
AllRead (unit ∷ table) = (is_some (items_of_text 1000 20 unit.1) ≡ true) × AllRead table

units_read : AllRead units
unfolding units fixed_names operators reading
units_read = (refl, (refl, (refl, (refl, (refl, (refl, tt))))))

read_in : (name : List ℕ) (table : List (List ℕ × List ℕ)) → AllRead table
    → IfSome (option_map (λ unit. unit.1) (find (λ unit. bytes_eq name unit.0) table)) (λ text. is_some (items_of_text 1000 20 text) ≡ true)
read_in name [] all = tt
read_in name (unit ∷ table) all =
    elim (bytes_eq name unit.0) as (λ b. IfSome (option_map (λ unit. unit.1) (cond b (Some unit) (find (λ unit. bytes_eq name unit.0) table))) (λ text. is_some (items_of_text 1000 20 text) ≡ true))
    [ true ↦ all.0 | false ↦ read_in name table all.1 ]

at_some : (P : List ℕ → Type 0) (text : List ℕ) (found : Option (List ℕ)) → found ≡ Some text → IfSome found P → P text
at_some P text found is all = subst (λ (o : Option (List ℕ)). IfSome o P) is all

there : (found : Option (List Term)) → is_some found ≡ true → (terms : List Term) × (found ≡ Some terms)
there None is = absurd cc
there (Some terms) is = (terms, refl)

-- No unit's text is refused.
pub unit-unrefused : (name text : List ℕ) → unit_text name ≡ Some text → (before : List (List ℕ)) → HoldsFixed before → IsDistinct bytes_eq before → (refusal : Refusal) → RefusesText before text refusal → ⊥
unit-unrefused name text is before fixed distinct refusal refuses =
    let read = there (items_of_text 1000 20 text) (at_some (λ t. is_some (items_of_text 1000 20 t) ≡ true) text (unit_text name) is (read_in name units units_read)) in
    RefusesText-excludes before text distinct refusal before read.0 refuses (items_of_text-right 1000 20 text read.0 read.1 before fixed)

-- each text, and its items

abbrev bool_text : List ℕ
bool_text = lines (codes ":- type bool ---> no ; yes." ∷ [])

abbrev maybe_text : List ℕ
maybe_text = lines (codes ":- type maybe(T) ---> no ; yes(T)." ∷ [])

list_text-is : unit_text (codes "list") ≡ Some (lines list_lines)
unfolding units
list_text-is = refl

bool_text-is : unit_text (codes "bool") ≡ Some bool_text
unfolding units
bool_text-is = refl

maybe_text-is : unit_text (codes "maybe") ≡ Some maybe_text
unfolding units
maybe_text-is = refl

list_computed : items_of_text 1000 20 (lines list_lines) ≡ Some list_items
unfolding fixed_names operators reading list_items
list_computed = refl

bool_computed : items_of_text 1000 20 bool_text ≡ Some bool_items
unfolding fixed_names operators reading bool_items
bool_computed = refl

maybe_computed : items_of_text 1000 20 maybe_text ≡ Some maybe_items
unfolding fixed_names operators reading maybe_items
maybe_computed = refl

module _ (names : List (List ℕ)) (fixed : HoldsFixed names) where
  unit_is : (name text : List ℕ) (items : List Term) → unit_text name ≡ Some text → items_of_text 1000 20 text ≡ Some items → IsUnit names names name items
  unit_is name text items text_is computed = record { text = text; text_is = text_is; reads = items_of_text-right 1000 20 text items computed names fixed }

  -- The library's items are those of its texts, over each table that holds the constants.
  pub are_units : AreUnits names names library_items
  are_units = record {
    after_list = names;
    after_bool = names;
    list = unit_is (codes "list") (lines list_lines) list_items list_text-is list_computed;
    bool = unit_is (codes "bool") bool_text bool_items bool_text-is bool_computed;
    maybe = unit_is (codes "maybe") maybe_text maybe_items maybe_text-is maybe_computed;
    others = λ name no_list no_bool no_maybe. rw (ne_eqb name list_name no_list, ne_eqb name bool_name no_bool, ne_eqb name maybe_name no_maybe) refl;
  }

  -- and no other items are
  only_unit : IsDistinct bytes_eq names → (after : List (List ℕ)) (name : List ℕ) (items others : List Term) → IsUnit names names name items → IsUnit names after name others
      → (names ≡ after) × (items ≡ others)
  only_unit distinct after name items others one other =
      let text : other.text ≡ one.text = same_Some _ _ (sym other.text_is ∙ one.text_is) in
      ReadsItems-unique names one.text distinct names after items others one.reads (subst (λ (t : List ℕ). ReadsItems names after t others) text other.reads)

-- The units have the library's items alone, and the table is as it was.
pub record IsLibrary (before after : List (List ℕ)) (items : ℕ → List Term) : Type 0 where
  pub same : before ≡ after
  pub items_are : (unit : ℕ) → library_items unit ≡ items unit

module _ (before after : List (List ℕ)) (items : ℕ → List Term) (fixed : HoldsFixed before) (distinct : IsDistinct bytes_eq before) where
  pub units_are-library : AreUnits before after items → IsLibrary before after items
  unfolding are_units
  units_are-library are =
      let given = are_units before fixed in
      let list = only_unit before fixed distinct are.after_list (codes "list") list_items (items list_name) given.list are.list in
      let bool = only_unit before fixed distinct are.after_bool (codes "bool") bool_items (items bool_name) given.bool (subst (λ (names : List (List ℕ)). IsUnit names are.after_bool (codes "bool") (items bool_name)) (sym list.0) are.bool) in
      let maybe = only_unit before fixed distinct after (codes "maybe") maybe_items (items maybe_name) given.maybe (subst (λ (names : List (List ℕ)). IsUnit names after (codes "maybe") (items maybe_name)) (sym bool.0) are.maybe) in
      record { same = maybe.0; items_are = by list.1 bool.1 maybe.1 are.others }
    where
      by : list_items ≡ items list_name → bool_items ≡ items bool_name → maybe_items ≡ items maybe_name
          → ((name : ℕ) → name ≢ list_name → name ≢ bool_name → name ≢ maybe_name → items name ≡ []) → (unit : ℕ) → library_items unit ≡ items unit
      by list bool maybe others unit = at_list (unit == list_name) refl
        where
          at_maybe : (b : Bool) → (unit == maybe_name) ≡ b → unit ≢ list_name → unit ≢ bool_name → (if b then maybe_items else []) ≡ items unit
          at_maybe true is no_list no_bool = maybe ∙ ap items (sym (eqb-true unit maybe_name is))
          at_maybe false is no_list no_bool = sym (others unit no_list no_bool (eqb-false unit maybe_name is))

          at_bool : (b : Bool) → (unit == bool_name) ≡ b → unit ≢ list_name → (if b then bool_items else if unit == maybe_name then maybe_items else []) ≡ items unit
          at_bool true is no_list = bool ∙ ap items (sym (eqb-true unit bool_name is))
          at_bool false is no_list = at_maybe (unit == maybe_name) refl no_list (eqb-false unit bool_name is)

          at_list : (b : Bool) → (unit == list_name) ≡ b → (if b then list_items else if unit == bool_name then bool_items else if unit == maybe_name then maybe_items else []) ≡ items unit
          at_list true is = list ∙ ap items (sym (eqb-true unit list_name is))
          at_list false is = at_bool (unit == bool_name) refl (eqb-false unit list_name is)
