-- One step of a list of what entries declare.
use Rattle.std.proofs.Common.{◌≡◌, ℕ, ◌+◌, ◌<◌, suc, List, ◌∷◌, ◌++◌, drop, length, get_or, sym, ap, ◌∙◌, add-one}
use Rattle.std.proofs.Math.Seq.{drop-cons}
use Rattle.std.proofs.lemmas.List.{append_assoc}
use Rattle.merc_entries.specs.declared.entry.Entry.{Entry as CodeEntry}
use Rattle.merc_item_forms.specs.Items.{Item}
use Rattle.merc_base.specs.declared.groups.Key.{Key}
use Rattle.merc_entries.specs.Entries.{Declared, declared_by}
use Rattle.merc_item_forms.specs.ItemValue.{item_value}
use Rattle.merc_entries.specs.EntryValue.{entry_values}
use Rattle.merc_entries.specs.FirstPlaces.{declared_at}

pub declared_step : (keys : Item → List Key) (entries : List CodeEntry) (index : ℕ) (entry : CodeEntry) (before now whole : List (Declared Key))
    → index < length entries → entry ≡ get_or entries index entry → now ≡ before ++ declared_at entry.place (keys (item_value entry.item))
    → before ++ declared_by keys (entry_values (drop index entries)) ≡ whole → now ++ declared_by keys (entry_values (drop (index + 1) entries)) ≡ whole
declared_step keys entries index entry before now whole within entry_is now_is whole_is =
    let rest = drop (suc index) entries in
    let cut : drop index entries ≡ entry ∷ rest = drop-cons entries index entry within ∙ ap (λ e. e ∷ rest) (sym entry_is) in
    ap (λ n. now ++ declared_by keys (entry_values (drop n entries))) (add-one index)
    ∙ ap (λ l. l ++ declared_by keys (entry_values rest)) now_is
    ∙ append_assoc before (declared_at entry.place (keys (item_value entry.item))) (declared_by keys (entry_values rest))
    ∙ ap (λ l. before ++ declared_by keys (entry_values l)) (sym cut)
    ∙ whole_is
