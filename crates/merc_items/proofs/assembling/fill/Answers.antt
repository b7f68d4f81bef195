use Rattle.std.proofs.Common.{◌++◌, length, List, ap, ◌∙◌}
use Rattle.std.specs.List.{flat_map}
use Rattle.std.proofs.lemmas.Result.{on_ok_weaker}
use Rattle.merc_tree.specs.declared.declarations.PredDecl.{PredDecl}
use Rattle.merc_items.specs.declared.parting.Part.TheVariants.{File}
use Rattle.merc_entries.specs.EntryValue.{entry_values}
use Rattle.merc_items.specs.ModuleOf.{clauses_in, pred_decls, type_defs}
use Rattle.merc_items.specs.Parting.{kept}
use Rattle.merc_entries.specs.Entries.{own_entries}
use Rattle.merc_items.proofs.Assembled.{whole_module, with_parts}
use Rattle.merc_items.proofs.assembling.fill.Goals as goal

pub returns : goal.returns
returns c =
    on_ok_weaker c.push_clauses-2.result
    (λ clauses terms named imported.
    let entries = entry_values c.args.entries.now in
    let begun = c.args.found.now in
    ap (λ (p : List PredDecl). with_parts begun.name begun.units c.push_types-2.new.types c.push_predicates-2.new.preds (length p) c.push_clauses-2.new.clauses) c.as_slice.ensures
    ∙ whole_module c.args.names.now terms entries begun.name begun.units
    c.push_types.new.types c.push_types-2.new.types c.push_predicates.new.preds c.push_predicates-2.new.preds c.push_clauses.new.clauses c.push_clauses-2.new.clauses
    named imported
    (c.in_ok-push_types.ensures ∙ ap (λ l. l ++ flat_map (kept File (type_defs c.args.names.now)) entries) c.requires.types) c.in_ok-push_types-2.ensures
    (c.in_ok-push_predicates.ensures ∙ ap (λ l. l ++ flat_map (pred_decls c.args.names.now (own_entries entries)) (own_entries entries)) c.requires.preds) c.in_ok-push_predicates-2.ensures
    (c.in_ok-push_clauses.ensures ∙ ap (λ l. l ++ flat_map (kept File clauses_in) entries) c.requires.clauses) clauses)
    c.push_clauses-2.ensures
