-- Symbols are looked up by their keys.
use Rattle.std.specs.Prelude.{◌≡◌, ◌||◌, ◌+◌, not, Bool, List, [], ◌∷◌, ◌++◌, map, if◌then◌else◌, true, false, refl}
use Rattle.std.specs.List.{list_any, position_or_len}
use Rattle.std.proofs.Common.{◌∙◌, ap, cond}
use Rattle.std.proofs.lemmas.List.{map-append}
use Rattle.merc_goal_tree.specs.declared.goal.Symbol.{Symbol}
use Rattle.merc_grading.specs.Known.{same_symbol, has_symbol}
use Rattle.merc_switch_choice.specs.declared.symbols.Key.{Key}
use Rattle.merc_switch_choice.specs.declared.symbols.Key.TheVariants.{Constructor as ConstructorKey, Integer as IntegerKey, Text as TextKey}
use Rattle.merc_switch_choice.specs.Keys.{symbol_of_key}
use Rattle.merc_switch_choice.specs.Symbols.{with_symbol}
use Rattle.merc_switch_choice.specs.contracts.symbols.KeyPartialEq as partial

abbrev pub eq : Key → Key → Bool
eq one other = (partial.TheImpl.eq-value).it one other

same_key : (one other : Key) → eq one other ≡ same_symbol (symbol_of_key one) (symbol_of_key other)
same_key (ConstructorKey name arity) (ConstructorKey other count) = refl
same_key (ConstructorKey name arity) (IntegerKey other) = refl
same_key (ConstructorKey name arity) (TextKey other) = refl
same_key (IntegerKey value) (ConstructorKey other count) = refl
same_key (IntegerKey value) (IntegerKey other) = refl
same_key (IntegerKey value) (TextKey other) = refl
same_key (TextKey text) (ConstructorKey other count) = refl
same_key (TextKey text) (IntegerKey other) = refl
same_key (TextKey text) (TextKey other) = refl

has_key : (key : Key) (keys : List Key) → list_any (eq key) keys ≡ has_symbol (map symbol_of_key keys) (symbol_of_key key)
has_key key [] = refl
has_key key (first ∷ rest) =
    ap (λ b. b || list_any (eq key) rest) (same_key key first) ∙ ap (λ b. same_symbol (symbol_of_key key) (symbol_of_key first) || b) (has_key key rest)

pub contained : (key : Key) (symbol : Symbol) (keys : List Key) (symbols : List Symbol) → symbol_of_key key ≡ symbol → map symbol_of_key keys ≡ symbols
    → list_any (eq key) keys ≡ has_symbol symbols symbol
contained key symbol keys symbols is are = has_key key keys ∙ ap (λ s. has_symbol (map symbol_of_key keys) s) is ∙ ap (λ l. has_symbol l symbol) are

added_if : (b : Bool) (key : Key) (keys : List Key) → map symbol_of_key (if b then keys else keys ++ key ∷ []) ≡ (if b then map symbol_of_key keys else map symbol_of_key keys ++ symbol_of_key key ∷ [])
added_if true key keys = refl
added_if false key keys = map-append symbol_of_key keys (key ∷ [])

pub added : (key : Key) (symbol : Symbol) (keys now : List Key) (symbols : List Symbol) → symbol_of_key key ≡ symbol → map symbol_of_key keys ≡ symbols
    → now ≡ (if list_any (eq key) keys then keys else keys ++ key ∷ []) → map symbol_of_key now ≡ with_symbol symbols symbol
added key symbol keys now symbols is are put =
    ap (λ l. map symbol_of_key l) put ∙ added_if (list_any (eq key) keys) key keys
    ∙ ap (λ b. if b then map symbol_of_key keys else map symbol_of_key keys ++ symbol_of_key key ∷ []) (has_key key keys)
    ∙ ap (λ s. with_symbol (map symbol_of_key keys) s) is ∙ ap (λ l. with_symbol l symbol) are

placed_key : (key : Key) (keys : List Key) → position_or_len (eq key) keys ≡ position_or_len (same_symbol (symbol_of_key key)) (map symbol_of_key keys)
placed_key key [] = refl
placed_key key (first ∷ rest) =
    ap (λ b. cond (not b) (1 + position_or_len (eq key) rest) 0) (same_key key first)
    ∙ ap (λ n. cond (not (same_symbol (symbol_of_key key) (symbol_of_key first))) (1 + n) 0) (placed_key key rest)

pub placed : (key : Key) (symbol : Symbol) (keys : List Key) (symbols : List Symbol) → symbol_of_key key ≡ symbol → map symbol_of_key keys ≡ symbols
    → position_or_len (eq key) keys ≡ position_or_len (same_symbol symbol) symbols
placed key symbol keys symbols is are = placed_key key keys ∙ ap (λ s. position_or_len (same_symbol s) (map symbol_of_key keys)) is ∙ ap (λ l. position_or_len (same_symbol symbol) l) are
