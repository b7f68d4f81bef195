-- What a text is as a module is decided, and a text that is a module is not refused.
use Rattle.std.proofs.Common.{◌≡◌, ℕ, ◌==◌, Bool, true, false, List, Some, codes, sym, ap, subst, ◌∙◌, refl, eqb-true, eq-eqb}
use mathlib.Core.Path.{fun_ext}
use Rattle.std.specs.List.{IsDistinct}
use Rattle.std.specs.Str.{bytes_eq}
use Rattle.merc_base.specs.Names.{list_name, bool_name, maybe_name}
use Rattle.merc_base.specs.declared.refusal.Refusal.{Refusal}
use Rattle.merc_tree.specs.Term.{Term}
use Rattle.merc_tree.specs.declared.declarations.Module.{Module}
use Rattle.merc_terms.specs.Texts.{ReadsItems}
use Rattle.merc_terms.proofs.TextLaws.{ReadsItems-distinct, ReadsItems-unique, RefusesText-excludes}
use Rattle.merc_entries.specs.Entries.{entries}
use Rattle.merc_entries.specs.Units.{AreUnits, IsUnit}
use Rattle.merc_items.specs.Phases.{HasNoFault}
use Rattle.merc_items.specs.ModuleOf.{module_of}
use Rattle.merc_items.specs.ReadModule.{IsModuleOf, RefusesItemsOf, first, IsModule, RefusesModule, no_items, items as items_refused}

by_number : (number : ℕ) (P : ℕ → Type 0) (name : ℕ) (test : Bool) → (name == number) ≡ test → P number → ((name ≡ number → ⊥) → P name) → P name
by_number number P name true is there other = subst P (sym (eqb-true name number is)) there
by_number number P name false is there other = other (λ e. let is' = eq-eqb name number e in cc)

-- where the table of names before holds each name once,
module _ (before after after' : List (List ℕ)) (distinct : IsDistinct bytes_eq before) where
  -- a unit has the same items each time,
  same_unit : (name : List ℕ) (items items' : List Term) → IsUnit before after name items → IsUnit before after' name items' → (after ≡ after') × (items ≡ items')
  same_unit name items items' unit unit' =
      let e : Some unit'.text ≡ Some unit.text = sym unit'.text_is ∙ unit.text_is in
      let same : unit'.text ≡ unit.text = cc in
      ReadsItems-unique before unit.text distinct after after' items items' unit.reads (subst (λ (text : List ℕ). ReadsItems before after' text items') same unit'.reads)

  unit-distinct : (name : List ℕ) (items : List Term) → IsUnit before after name items → IsDistinct bytes_eq after
  unit-distinct name items unit = ReadsItems-distinct before unit.text distinct after items unit.reads

-- units with the same items of the three that have a text are the same
same_items : (before after before' after' : List (List ℕ)) (items items' : ℕ → List Term) → AreUnits before after items → AreUnits before' after' items'
    → items list_name ≡ items' list_name → items bool_name ≡ items' bool_name → items maybe_name ≡ items' maybe_name → items ≡ items'
same_items before after before' after' items items' units units' list bool maybe =
    let P : ℕ → Type 0 = λ n. items n ≡ items' n in
    fun_ext (λ name.
    by_number list_name P name (name == list_name) refl list (λ no_list.
    by_number bool_name P name (name == bool_name) refl bool (λ no_bool.
    by_number maybe_name P name (name == maybe_name) refl maybe (λ no_maybe.
    units.others name no_list no_bool no_maybe ∙ sym (units'.others name no_list no_bool no_maybe)))))

-- and so have all units together
pub AreUnits-unique : (before after after' : List (List ℕ)) (items items' : ℕ → List Term) → IsDistinct bytes_eq before
    → AreUnits before after items → AreUnits before after' items' → (after ≡ after') × (items ≡ items')
AreUnits-unique before after after' items items' distinct units units' =
    let list = same_unit before units.after_list units'.after_list distinct (codes "list") (items list_name) (items' list_name) units.list units'.list in
    let list_distinct = unit-distinct before units.after_list units.after_list distinct (codes "list") (items list_name) units.list in
    let bool' = subst (λ (names : List (List ℕ)). IsUnit names units'.after_bool (codes "bool") (items' bool_name)) (sym list.0) units'.bool in
    let bool = same_unit units.after_list units.after_bool units'.after_bool list_distinct (codes "bool") (items bool_name) (items' bool_name) units.bool bool' in
    let bool_distinct = unit-distinct units.after_list units.after_bool units.after_bool list_distinct (codes "bool") (items bool_name) units.bool in
    let maybe' = subst (λ (names : List (List ℕ)). IsUnit names after' (codes "maybe") (items' maybe_name)) (sym bool.0) units'.maybe in
    let maybe = same_unit units.after_bool after after' bool_distinct (codes "maybe") (items maybe_name) (items' maybe_name) units.maybe maybe' in
    (maybe.0, same_items before after before after' items items' units units' list.1 bool.1 maybe.1)

-- the items of a file are one module at most,
pub IsModuleOf-unique : (before after after' : List (List ℕ)) (terms : List Term) (found found' : Module) → IsDistinct bytes_eq before
    → IsModuleOf before after terms found → IsModuleOf before after' terms found' → (after ≡ after') × (found ≡ found')
IsModuleOf-unique before after after' terms found found' distinct is is' =
    let same = AreUnits-unique before after after' is.items is'.items distinct is.units is'.units in
    (same.0, is.same ∙ ap (λ (names : List (List ℕ)). module_of names terms (entries is.items terms)) same.0 ∙ ap (λ (items : ℕ → List Term). module_of after' terms (entries items terms)) same.1 ∙ sym is'.same)

-- and none where they are refused
pub RefusesItemsOf-excludes : (before after : List (List ℕ)) (terms : List Term) (refusal : Refusal) (found : Module) → IsDistinct bytes_eq before
    → RefusesItemsOf before terms refusal → IsModuleOf before after terms found → ⊥
RefusesItemsOf-excludes before after terms _ found distinct (first after' items refusal units fault) is =
    let same = AreUnits-unique before after after' is.items items distinct is.units units in
    let names : HasNoFault after' terms (entries is.items terms) = subst (λ (names : List (List ℕ)). HasNoFault names terms (entries is.items terms)) same.0 is.faultless in
    let faultless : HasNoFault after' terms (entries items terms) = subst (λ (some : ℕ → List Term). HasNoFault after' terms (entries some terms)) same.1 names in
    faultless fault.phase refusal.rule refusal.detail refusal.place fault.decides.fault

-- a text is one module at most,
pub IsModule-unique : (before after after' : List (List ℕ)) (text : List ℕ) (terms terms' : List Term) (found found' : Module) → IsDistinct bytes_eq before
    → IsModule before after text terms found → IsModule before after' text terms' found' → (after ≡ after') × (terms ≡ terms') × (found ≡ found')
IsModule-unique before after after' text terms terms' found found' distinct is is' =
    let reads = ReadsItems-unique before text distinct is.read_names is'.read_names terms terms' is.reads is'.reads in
    let names = subst (λ (names : List (List ℕ)). IsModuleOf names after' terms' found') (sym reads.0) is'.is in
    let moved = subst (λ (some : List Term). IsModuleOf is.read_names after' some found') (sym reads.1) names in
    let same = IsModuleOf-unique is.read_names after after' terms found found' (ReadsItems-distinct before text distinct is.read_names terms is.reads) is.is moved in
    (same.0, reads.1, same.1)

-- and none where it is refused
pub RefusesModule-excludes : (before after : List (List ℕ)) (text : List ℕ) (refusal : Refusal) (terms : List Term) (found : Module) → IsDistinct bytes_eq before
    → RefusesModule before text refusal → IsModule before after text terms found → ⊥
RefusesModule-excludes before after text refusal terms found distinct (no_items _ refuses) is =
    RefusesText-excludes before text distinct refusal is.read_names terms refuses is.reads
RefusesModule-excludes before after text refusal terms found distinct (items_refused names terms' _ reads refuses) is =
    let same = ReadsItems-unique before text distinct names is.read_names terms' terms reads is.reads in
    let moved = subst (λ (some : List Term). RefusesItemsOf names some refusal) same.1 refuses in
    let same_names = subst (λ (some : List (List ℕ)). RefusesItemsOf some terms refusal) same.0 moved in
    RefusesItemsOf-excludes is.read_names after terms refusal found (ReadsItems-distinct before text distinct is.read_names terms is.reads) same_names is.is
