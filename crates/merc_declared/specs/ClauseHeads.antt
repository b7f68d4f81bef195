-- What the keys of the file's own predicates and clauses say of an item.
use Rattle.std.specs.Prelude.{◌≡◌, ℕ, Bool, false, not, ◌||◌, ◌&&◌, List}
use Rattle.merc_declared.specs.declared.clause_heads.OwnKeys.{OwnKeys}
use Rattle.merc_item_forms.specs.Items.{Item, PredicateItem, ModeItem, ClauseItem}
use Rattle.merc_item_forms.specs.Forms.{is_foreign}
use Rattle.merc_base.specs.declared.groups.Key.{Key}
use Rattle.merc_entries.specs.Entries.{Entry, key_of, is_own}
use Rattle.merc_declared.specs.AloneItems.{declares_predicate, has_clause, is_alone}
use Rattle.merc_entries.specs.KeySets.{has_key}

-- the keys are those of some entries
pub record HoldsKeys (own : ℕ) (entries : List Entry) (keys : OwnKeys) : Type 0 where
  pub predicates : (found : List Key) → has_key keys.predicates found ≡ declares_predicate entries found
  pub clauses : (found : List Key) → has_key keys.clauses found ≡ has_clause own entries found

-- whether an item goes together with none of these keys
abbrev pub is_alone_by : ℕ → OwnKeys → Item → Bool
is_alone_by own keys (ClauseItem head body) = is_foreign own head || not (has_key keys.predicates (key_of head))
is_alone_by own keys (ModeItem head category) = not (has_key keys.predicates (key_of head))
is_alone_by own keys (PredicateItem head category) = not (has_key keys.clauses (key_of head))
is_alone_by own keys other = false

-- an entry of the file that goes together with nothing
abbrev pub is_alone_here : ℕ → List Entry → Entry → Bool
is_alone_here own entries entry = is_own entry && is_alone own entries entry.item
