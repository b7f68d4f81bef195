-- The parts of a module put together.
use Rattle.std.proofs.Common.{◌≡◌, ℕ, ◌+◌, Bool, true, false, not, List, [], ◌∷◌, ◌++◌, length, drop, Option, Some, None, refl, ap, sym, ◌∙◌, if◌then◌else◌}
use Rattle.std.specs.List.{flat_map, slice_get}
use Rattle.merc_base.specs.declared.place.Span.{Span}
use Rattle.merc_tree.specs.Term.{Term}
use Rattle.merc_tree.specs.declared.declarations.TypeDef.{TypeDef}
use Rattle.merc_tree.specs.declared.declarations.ModeDecl.{ModeDecl}
use Rattle.merc_tree.specs.declared.declarations.PredDecl.{PredDecl}
use Rattle.merc_tree.specs.declared.declarations.Clause.{Clause}
use Rattle.merc_tree.specs.declared.declarations.Module.{Module}
use Rattle.merc_items.specs.declared.declared_modes.ModeTable.{ModeTable}
use Rattle.merc_items.specs.declared.parting.Part.{Part}
use Rattle.merc_items.specs.declared.parting.Part.TheVariants.{File, Units}
use Rattle.merc_item_forms.specs.Items.{Item, Opening, Ending, Section, Import, TypeItem, PredicateItem, ModeItem, ClauseItem, OtherType, OtherFunction, OtherGrammar, OtherDeclaration, Formless, item_of}
use Rattle.merc_item_forms.specs.Forms.{is_in}
use Rattle.merc_base.specs.declared.groups.Key.{Key}
use Rattle.merc_entries.specs.Entries.{Entry, imports, key_of, units_of, with_units, is_own, own_entries}
use Rattle.merc_item_forms.specs.FormFaults.{own_name}
use Rattle.merc_items.specs.ModuleOf.{clauses_in, modes_in, module_of, pred_decls, pred_decls_of, type_defs, unit_items}
use Rattle.merc_items.specs.Assembling.{pred_decl_of, preds_by, preds_in}
use Rattle.merc_items.specs.DeclaredModes.{kept_modes}
use Rattle.merc_items.specs.Parting.{kept, part_of}
use Rattle.merc_entries.proofs.ListSteps.{got, gone_on}

-- the units that items import

units_append : (seen front back : List ℕ) → with_units seen (front ++ back) ≡ with_units (with_units seen front) back
units_append seen [] back = refl
units_append seen (unit ∷ front) back = by_test (is_in unit seen) (units_append seen front back) (units_append (seen ++ unit ∷ []) front back)
  where
    by_test : (b : Bool) → with_units seen (front ++ back) ≡ with_units (with_units seen front) back
        → with_units (seen ++ unit ∷ []) (front ++ back) ≡ with_units (with_units (seen ++ unit ∷ []) front) back
        → (if b then with_units seen (front ++ back) else with_units (seen ++ unit ∷ []) (front ++ back))
        ≡ with_units (if b then with_units seen front else with_units (seen ++ unit ∷ []) front) back
    by_test true known new = known
    by_test false known new = new

abbrev imported : List Term → List ℕ
imported terms = flat_map (λ term. imports (item_of term)) terms

pub units_step : (terms : List Term) (i : ℕ) (term : Term) (seen now whole : List ℕ) → slice_get terms i ≡ Some term → now ≡ with_units seen (imports (item_of term))
    → with_units seen (imported (drop i terms)) ≡ whole → with_units now (imported (drop (i + 1) terms)) ≡ whole
units_step terms i term seen now whole found now_is left =
    ap (λ s. with_units s (imported (drop (i + 1) terms))) now_is
    ∙ sym (units_append seen (imports (item_of term)) (imported (drop (i + 1) terms)))
    ∙ ap (λ l. with_units seen (imported l)) (sym (got terms i term found))
    ∙ left

pub units_past : (terms : List Term) (i : ℕ) (seen now whole : List ℕ) → slice_get terms i ≡ None → now ≡ seen
    → with_units seen (imported (drop i terms)) ≡ whole → with_units now (imported (drop (i + 1) terms)) ≡ whole
units_past terms i seen now whole found now_is left =
    ap (λ s. with_units s (imported (drop (i + 1) terms))) now_is ∙ ap (λ l. with_units seen (imported l)) (gone_on terms i found) ∙ left

-- what the entries of a part declare

module _ {A : Type 0} (declared : Entry → List A) where
  file_by : (b : Bool) (entry : Entry) (others : List A) (rest : List Entry) → others ≡ flat_map declared rest
      → (if b then declared entry else []) ++ others ≡ flat_map declared (if b then entry ∷ rest else rest)
  file_by true entry others rest same = ap (λ l. declared entry ++ l) same
  file_by false entry others rest same = same

  units_by : (b : Bool) (entry : Entry) (others : List A) (rest : List Entry) → others ≡ flat_map declared rest
      → (if not b then declared entry else []) ++ others ≡ flat_map declared (if b then rest else entry ∷ rest)
  units_by true entry others rest same = same
  units_by false entry others rest same = ap (λ l. declared entry ++ l) same

  pub kept_part : (part : Part) (entries : List Entry) → flat_map (kept part declared) entries ≡ flat_map declared (part_of part entries)
  kept_part File [] = refl
  kept_part File (entry ∷ rest) = file_by (is_own entry) entry (flat_map (kept File declared) rest) (own_entries rest) (kept_part File rest)
  kept_part Units [] = refl
  kept_part Units (entry ∷ rest) = units_by (is_own entry) entry (flat_map (kept Units declared) rest) (unit_items rest) (kept_part Units rest)

-- predicates with the modes of a table

module _ (names : List (List ℕ)) (table : ModeTable) (others : List Entry) (modes : (predicate : List Key) → kept_modes table predicate ≡ flat_map (modes_in predicate) others) where
  same_in : (unit : Option ℕ) (span : Span) (item : Item) → preds_in names table unit span item ≡ pred_decls_of names others unit span item
  same_in unit span (PredicateItem head category) =
      let with_modes : List ModeDecl → PredDecl = λ m. record { name = (pred_decl_of names table unit span head).name; args = (pred_decl_of names table unit span head).args; modes = m; span = span; unit = unit } in
      ap (λ (m : List ModeDecl). with_modes m ∷ []) (modes (key_of head))
  same_in unit span (ModeItem head category) = refl
  same_in unit span (Opening name) = refl
  same_in unit span (Ending name) = refl
  same_in unit span Section = refl
  same_in unit span (Import units) = refl
  same_in unit span (TypeItem head constructors) = refl
  same_in unit span (ClauseItem head body) = refl
  same_in unit span (OtherType head) = refl
  same_in unit span OtherFunction = refl
  same_in unit span OtherGrammar = refl
  same_in unit span OtherDeclaration = refl
  same_in unit span Formless = refl

  same_preds : (entries : List Entry) → flat_map (preds_by names table) entries ≡ flat_map (pred_decls names others) entries
  same_preds [] = refl
  same_preds (entry ∷ rest) = ap (λ l. l ++ flat_map (preds_by names table) rest) (same_in entry.unit entry.span entry.item) ∙ ap (λ l. pred_decls names others entry ++ l) (same_preds rest)

pub part_preds : (names : List (List ℕ)) (part : Part) (table : ModeTable) (entries : List Entry) → ((predicate : List Key) → kept_modes table predicate ≡ flat_map (kept part (modes_in predicate)) entries)
    → flat_map (kept part (preds_by names table)) entries ≡ flat_map (pred_decls names (part_of part entries)) (part_of part entries)
part_preds names part table entries modes =
    kept_part (preds_by names table) part entries
    ∙ same_preds names table (part_of part entries) (λ predicate. modes predicate ∙ kept_part (modes_in predicate) part entries) (part_of part entries)

-- two parts one behind the other
both : {A : Type 0} (declared : Entry → List A) (entries : List Entry) (first all : List A) → first ≡ flat_map (kept File declared) entries
    → all ≡ first ++ flat_map (kept Units declared) entries → all ≡ flat_map declared (own_entries entries) ++ flat_map declared (unit_items entries)
both declared entries first all first_is all_is =
    all_is
    ∙ ap (λ l. l ++ flat_map (kept Units declared) entries) (first_is ∙ kept_part declared File entries)
    ∙ ap (λ l. flat_map declared (own_entries entries) ++ l) (kept_part declared Units entries)

abbrev pub with_parts : ℕ → List ℕ → List TypeDef → List PredDecl → ℕ → List Clause → Module
with_parts name units types preds own clauses = record { name = name; units = units; types = types; preds = preds; own = own; clauses = clauses }

pub whole_module : (names : List (List ℕ)) (terms : List Term) (entries : List Entry) (name : ℕ) (units : List ℕ) (own_types types : List TypeDef) (own_preds preds : List PredDecl) (own_clauses clauses : List Clause)
    → name ≡ own_name terms → units ≡ units_of terms
    → own_types ≡ flat_map (kept File (type_defs names)) entries → types ≡ own_types ++ flat_map (kept Units (type_defs names)) entries
    → own_preds ≡ flat_map (pred_decls names (own_entries entries)) (own_entries entries) → preds ≡ own_preds ++ flat_map (pred_decls names (unit_items entries)) (unit_items entries)
    → own_clauses ≡ flat_map (kept File clauses_in) entries → clauses ≡ own_clauses ++ flat_map (kept Units clauses_in) entries
    → with_parts name units types preds (length own_preds) clauses ≡ module_of names terms entries
whole_module names terms entries name units own_types types own_preds preds own_clauses clauses name_is units_is own_types_are types_are own_preds_are preds_are own_clauses_are clauses_are =
    let wanted = module_of names terms entries in
    ap (λ n. with_parts n units types preds (length own_preds) clauses) name_is
    ∙ ap (λ u. with_parts wanted.name u types preds (length own_preds) clauses) units_is
    ∙ ap (λ t. with_parts wanted.name wanted.units t preds (length own_preds) clauses) (both (type_defs names) entries own_types types own_types_are types_are)
    ∙ ap (λ p. with_parts wanted.name wanted.units wanted.types p (length own_preds) clauses)
    (preds_are ∙ ap (λ l. l ++ flat_map (pred_decls names (unit_items entries)) (unit_items entries)) own_preds_are)
    ∙ ap (λ (o : List PredDecl). with_parts wanted.name wanted.units wanted.types wanted.preds (length o) clauses) own_preds_are
    ∙ ap (λ c. with_parts wanted.name wanted.units wanted.types wanted.preds wanted.own c) (both clauses_in entries own_clauses clauses own_clauses_are clauses_are)
