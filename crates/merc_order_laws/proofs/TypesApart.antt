-- The types of a module are told apart, since no type is declared twice.
use Rattle.std.proofs.Common.{[], ◌∷◌, ◌++◌, List, flat_map, ap₂, sym, subst, ◌∙◌}
use Rattle.std.proofs.lemmas.List.{map-append}
use Rattle.merc_base.specs.Names.{int_name, string_name}
use Rattle.merc_base.specs.declared.groups.Key.{Key}
use Rattle.merc_base.specs.declared.refusal.Rule.TheVariants.{DeclaredTwice}
use Rattle.merc_base.specs.declared.refusal.Detail.TheVariants.{Plain}
use Rattle.merc_tree.specs.declared.declarations.Module.{Module}
use Rattle.merc_entries.specs.DoubleFaults.{at_start, type_again}
use Rattle.merc_entries.specs.Entries.{declared_by, entries, key, own_entries, types_of}
use Rattle.merc_items.specs.ModuleOf.{type_defs, unit_items}
use Rattle.merc_items.specs.Phases.{double, doubles_phase}
use Rattle.merc_grading.specs.Fitting.{AreToldApart}
use Rattle.merc_order_laws.specs.Fitting.{TypesAreToldApart}
use Rattle.merc_order_laws.proofs.ApartKeys.{key_of_type, AreKeysApart, types_apart, keys_apart}
use Rattle.merc_order_laws.proofs.DeclaredKeys.{module_entries_fit, type_keys}
use Rattle.merc_order_laws.proofs.MovedKeys.{keys_are, parted_apart}

pub types_are_told_apart : TypesAreToldApart
types_are_told_apart before after text terms found fixed distinct is =
    let all = entries is.is.items terms in
    let fit = module_entries_fit before after text terms found fixed distinct is in
    let own = flat_map (type_defs after) (own_entries all) in
    let units = flat_map (type_defs after) (unit_items all) in
    let apart = keys_apart (at_start (key int_name 0) ∷ at_start (key string_name 0) ∷ []) (declared_by types_of all)
    (λ again. is.is.faultless doubles_phase DeclaredTwice Plain again.at (double again.at (type_again again.at again.again)))
    in
    let same = map-append key_of_type own units
    ∙ ap₂ (λ (some others : List Key). some ++ others) (type_keys after (own_entries all) fit.own) (type_keys after (unit_items all) fit.units)
    in
    subst (λ (known : Module). AreToldApart known.types) (sym is.is.same)
    (types_apart (own ++ units) (subst AreKeysApart (sym same) (parted_apart types_of all (subst AreKeysApart (keys_are types_of all) apart))))
