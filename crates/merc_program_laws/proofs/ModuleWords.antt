-- The integers of a module's clauses have 64 bits: its terms were read so, and those of units too.
use Rattle.std.proofs.Common.{◌≡◌, ◌≢◌, ℕ, Bool, true, false, ◌==◌, List, [], flat_map, refl, sym, subst, eqb-true}
use Rattle.std.proofs.lemmas.Bool.{eqb-false}
use Rattle.std.specs.List.{AllByRecursion}
use Rattle.merc_base.specs.Names.{bool_name, list_name, maybe_name}
use Rattle.merc_tokens.specs.declared.token.Token.{Token}
use Rattle.merc_tree.specs.Term.{Term, HasWords}
use Rattle.merc_tree.specs.declared.declarations.Module.{Module}
use Rattle.merc_terms.specs.Items.{HasItems, none, item}
use Rattle.merc_item_forms.specs.Items.{item_of}
use Rattle.merc_entries.specs.Entries.{Entry, entries, is_own, own_entries}
use Rattle.merc_entries.specs.Units.{AreUnits}
use Rattle.merc_items.specs.ModuleOf.{clauses_in, unit_items}
use Rattle.merc_order_laws.proofs.Written.{all_joined}
use Rattle.merc_program_laws.specs.ClauseWords.{ClauseHasWords}
use Rattle.merc_program_laws.specs.TextLaws.{ModuleHasWords}
use Rattle.merc_program_laws.proofs.EntryFacts.{of_entries, of_own, of_unit_items}
use Rattle.merc_program_laws.proofs.ItemWords.{ItemHasWords, clauses_words, item_words}
use Rattle.merc_program_laws.proofs.Lists.{all_flat, all_implied}

items_words : (tokens : List Token) (terms : List Term) → HasItems tokens terms → AllByRecursion HasWords terms
items_words tokens terms none = tt
items_words tokens terms (item term others tokens' rest spelled allowed more) = (allowed.words, items_words rest others more)

module _ (before after : List (List ℕ)) (items : ℕ → List Term) (are : AreUnits before after items) where
  unit_words : (unit : ℕ) → AllByRecursion HasWords (items unit)
  unit_words unit = at_list (unit == list_name) refl
    where
      at_maybe : (b : Bool) → (unit == maybe_name) ≡ b → unit ≢ list_name → unit ≢ bool_name → AllByRecursion HasWords (items unit)
      at_maybe true is no_list no_bool = subst (λ (n : ℕ). AllByRecursion HasWords (items n)) (sym (eqb-true unit maybe_name is)) (items_words are.maybe.reads.tokens (items maybe_name) are.maybe.reads.items)
      at_maybe false is no_list no_bool = subst (AllByRecursion HasWords) (sym (are.others unit no_list no_bool (eqb-false unit maybe_name is))) tt

      at_bool : (b : Bool) → (unit == bool_name) ≡ b → unit ≢ list_name → AllByRecursion HasWords (items unit)
      at_bool true is no_list = subst (λ (n : ℕ). AllByRecursion HasWords (items n)) (sym (eqb-true unit bool_name is)) (items_words are.bool.reads.tokens (items bool_name) are.bool.reads.items)
      at_bool false is no_list = at_maybe (unit == maybe_name) refl no_list (eqb-false unit bool_name is)

      at_list : (b : Bool) → (unit == list_name) ≡ b → AllByRecursion HasWords (items unit)
      at_list true is = subst (λ (n : ℕ). AllByRecursion HasWords (items n)) (sym (eqb-true unit list_name is)) (items_words are.list.reads.tokens (items list_name) are.list.reads.items)
      at_list false is = at_bool (unit == bool_name) refl (eqb-false unit list_name is)

abbrev EntryHasWords : Entry → Type 0
EntryHasWords entry = ItemHasWords entry.item

clauses_have_words : (some : List Entry) → AllByRecursion EntryHasWords some → AllByRecursion ClauseHasWords (flat_map clauses_in some)
clauses_have_words some h = all_flat EntryHasWords ClauseHasWords clauses_in some (λ entry words. clauses_words entry.span entry.item words) h

pub module_has_words : ModuleHasWords
module_has_words before after text terms found is =
    let items = is.is.items in
    let all = entries items terms in
    let words = of_entries EntryHasWords items (λ place unit. all_implied HasWords (λ term. ItemHasWords (item_of term)) (items unit) item_words (unit_words is.read_names after items is.is.units unit)) [] terms
    (all_implied HasWords (λ term. ItemHasWords (item_of term)) terms item_words (items_words is.reads.tokens terms is.reads.items))
    in
    subst (λ (known : Module). AllByRecursion ClauseHasWords known.clauses) (sym is.is.same)
    (all_joined ClauseHasWords (flat_map clauses_in (own_entries all)) (flat_map clauses_in (unit_items all))
    (clauses_have_words (own_entries all) (of_own EntryHasWords all (all_implied EntryHasWords (λ entry. is_own entry ≡ true → EntryHasWords entry) all (λ entry h own. h) words)))
    (clauses_have_words (unit_items all) (of_unit_items EntryHasWords all (all_implied EntryHasWords (λ entry. is_own entry ≡ false → EntryHasWords entry) all (λ entry h other. h) words))))
