-- A numbering of the types of `TableExamples`, by example: `int`, `string`, A, `7`, `7(A)` and `7(string, A)`.
use Rattle.std.proofs.Common.{◌≡◌, ℕ, ◌<◌, Bool, true, false, cond, List, [], ◌∷◌, ◌++◌, map, Option, Some, None, IfSome, refl, sym, ap, subst, ◌∙◌, arith, Ordering, Less, Equal, Greater}
use Rattle.std.specs.Prelude.{slice_get, ◌↔◌}
use Rattle.std.specs.List.{AllByRecursion}
use Rattle.std.specs.Map.{lookup}
use Rattle.std.specs.Ordering.{is_eq, nat_cmp}
use Rattle.std.specs.BTreeMap.{BTreeMap, is_at}
use Rattle.merc_tree.specs.Types.{TypeExpr, IntType, TextType}
use Rattle.merc_type_table.specs.declared.node.TypeNode.{TypeNode}
use Rattle.merc_type_table.specs.declared.node.TypeNode.TheVariants.{Variable, Int, Text, Name, With}
use Rattle.merc_type_table.specs.declared.node.Pair.{Pair}
use Rattle.merc_type_table.specs.declared.numbering.TypeNumbering.{TypeNumbering}
use Rattle.merc_type_table.specs.Table.{types_made, IsComplete}
use Rattle.merc_type_table.specs.Numbering.{compare_pairs, with_pair, Indexes, IsNumbering, Extends, Adds, Numbers, closed_node}
use Rattle.merc_type_table.proofs.Indexed.{number_equal, pair_equal}
use Rattle.merc_type_table.proofs.Made.{extends_none}
use Rattle.merc_type_table.proofs.TableExamples.{a, bare, over_two, nodes, AllAt, each_at, nodes_before, nodes_complete}

abbrev pair : ℕ → ℕ → Pair
pair first rest = record { first = first; rest = rest }

-- the first decides before the rest does
compare_pairs-first : compare_pairs (pair 1 5) (pair 2 3) ≡ Less
compare_pairs-first = refl

compare_pairs-rest : compare_pairs (pair 1 5) (pair 1 3) ≡ Greater
compare_pairs-rest = refl

compare_pairs-same : compare_pairs (pair 1 5) (pair 1 5) ≡ Equal
compare_pairs-same = refl

with_pair-is : with_pair (pair 1 4) ≡ With 1 4
with_pair-is = refl

-- what a node is kept by
abbrev variable_in : TypeNode → Option ℕ
variable_in (Variable name) = Some name
variable_in Int = None
variable_in Text = None
variable_in (Name name) = None
variable_in (With first rest) = None

abbrev name_in : TypeNode → Option ℕ
name_in (Variable name) = None
name_in Int = None
name_in Text = None
name_in (Name name) = Some name
name_in (With first rest) = None

abbrev pair_in : TypeNode → Option Pair
pair_in (Variable name) = None
pair_in Int = None
pair_in Text = None
pair_in (Name name) = None
pair_in (With first rest) = Some (pair first rest)

-- the nodes that have one number in every numbering
abbrev fixed_in : TypeNode → Option ℕ
fixed_in (Variable name) = None
fixed_in Int = Some 0
fixed_in Text = Some 1
fixed_in (Name name) = None
fixed_in (With first rest) = None

-- where all entries are there, what is found by a key stands where it is said to
found_there : {K : Type 0} (compare : K → K → Ordering) (make : K → TypeNode) → ((one other : K) → is_eq (compare one other) ≡ true → one ≡ other) → (all : List TypeNode)
    → (entries : List (K × ℕ)) → AllByRecursion (λ (entry : K × ℕ). slice_get all entry.1 ≡ Some (make entry.0)) entries → (key : K) (number : ℕ)
    → lookup (is_at (compare key)) entries ≡ Some number → slice_get all number ≡ Some (make key)
found_there compare make equal all [] stand key number found = absurd (cc)
found_there {K} compare make equal all (entry ∷ entries) stand key number found =
    by (found_there compare make equal all entries stand.1 key number) (is_eq (compare key entry.0)) refl found
  where
    by : (lookup (is_at (compare key)) entries ≡ Some number → slice_get all number ≡ Some (make key)) → (here : Bool) → is_eq (compare key entry.0) ≡ here
        → cond {A = Option ℕ} here (Some entry.1) (lookup (is_at (compare key)) entries) ≡ Some number → slice_get all number ≡ Some (make key)
    by others true e is =
        let at : entry.1 ≡ number = cc in
        ap (slice_get all) (sym at) ∙ stand.0 ∙ ap (λ (k : K). Some (make k)) (sym (equal key entry.0 e))
    by others false e is = others is

-- an index with these entries
Indexes-of : {K : Type 0} (compare : K → K → Ordering) (make : K → TypeNode) (key_of : TypeNode → Option K) → ((one other : K) → is_eq (compare one other) ≡ true → one ≡ other)
    → ((key : K) → key_of (make key) ≡ Some key) → (entries : List (K × ℕ)) (all : List TypeNode)
    → AllByRecursion (λ (entry : K × ℕ). slice_get all entry.1 ≡ Some (make entry.0)) entries
    → AllAt (λ number node. IfSome (key_of node) (λ key. lookup (is_at (compare key)) entries ≡ Some number)) all
    → (numbers : BTreeMap K ℕ) → numbers.entries ≡ entries → Indexes compare make numbers all
Indexes-of {K} compare make key_of equal keys entries all stand kept numbers are = λ key number.
    subst (λ (es : List (K × ℕ)). (lookup (is_at (compare key)) es ≡ Some number) ↔ (slice_get all number ≡ Some (make key))) (sym are) (
      found_there compare make equal all entries stand key number,
      (λ there.
          subst (λ (o : Option K). IfSome o (λ k. lookup (is_at (compare k)) entries ≡ Some number)) (keys key)
          (each_at (λ at node. IfSome (key_of node) (λ k. lookup (is_at (compare k)) entries ≡ Some at)) all kept number (make key) there)),
    )

-- what is kept of nodes of every kind
pub record IsExample (numbering : TypeNumbering) : Type 0 where
  pub items : numbering.nodes.items ≡ nodes
  pub by_variable : numbering.variables.entries ≡ (8, 2) ∷ []
  pub by_name : numbering.names.entries ≡ (7, 3) ∷ []
  pub by_pair : numbering.pairs.entries ≡ (pair 1 4, 5) ∷ (pair 2 3, 4) ∷ []

fixed : (number : ℕ) (node : TypeNode) → slice_get nodes number ≡ Some node → IfSome (fixed_in node) (λ place. number ≡ place)
fixed = each_at (λ number node. IfSome (fixed_in node) (λ place. number ≡ place)) nodes (refl, (refl, (tt, (tt, (tt, (tt, tt))))))

pub IsNumbering-yes : (numbering : TypeNumbering) → IsExample numbering → IsNumbering numbering
IsNumbering-yes numbering is = record {
  before = λ number node. rw (is.items) (nodes_before number node);
  complete = λ number node. rw (is.items) (nodes_complete number node);
  int = rw (is.items) refl;
  only_int = λ number. rw (is.items) (fixed number Int);
  text = rw (is.items) refl;
  only_text = λ number. rw (is.items) (fixed number Text);
  variables =
      rw (is.items)
      (Indexes-of nat_cmp Variable variable_in number_equal (λ key. refl) ((8, 2) ∷ []) nodes (refl, tt) (tt, (tt, (refl, (tt, (tt, (tt, tt)))))) numbering.variables is.by_variable);
  names =
      rw (is.items) (Indexes-of nat_cmp Name name_in number_equal (λ key. refl) ((7, 3) ∷ []) nodes (refl, tt) (tt, (tt, (tt, (refl, (tt, (tt, tt)))))) numbering.names is.by_name);
  pairs =
      rw (is.items)
      (Indexes-of compare_pairs with_pair pair_in pair_equal (λ key. refl) ((pair 1 4, 5) ∷ (pair 2 3, 4) ∷ []) nodes (refl, (refl, tt)) (tt, (tt, (tt, (tt, (refl, (refl, tt)))))) numbering.pairs is.by_pair);
}

-- a node is over itself; an argument is added to `string`
IsNumbering-itself : (numbering : TypeNumbering) → numbering.nodes.items ≡ Int ∷ Text ∷ Name 7 ∷ With 3 2 ∷ [] → IsNumbering numbering → ⊥
IsNumbering-itself numbering are sound =
    let less : 3 < 3 = (sound.before 3 (With 3 2) (ap (λ (l : List TypeNode). slice_get l 3) are)).0 in omega arith

IsNumbering-no_name : (numbering : TypeNumbering) → numbering.nodes.items ≡ Int ∷ Text ∷ With 0 1 ∷ [] → IsNumbering numbering → ⊥
IsNumbering-no_name numbering are sound =
    let whole = sound.complete 2 (With 0 1) (ap (λ (l : List TypeNode). slice_get l 2) are) in
    let wrong : false ≡ true = subst (λ (l : List TypeNode). IsComplete (types_made l) (With 0 1)) are whole in cc

-- `int` and `string` stand at 0 and 1, and nowhere else
IsNumbering-no_int : (numbering : TypeNumbering) → numbering.nodes.items ≡ Name 7 ∷ Text ∷ [] → IsNumbering numbering → ⊥
IsNumbering-no_int numbering are sound =
    let wrong : ◌≡◌ {A = Option TypeNode} (Some (Name 7)) (Some Int) = subst (λ (l : List TypeNode). slice_get l 0 ≡ Some Int) are sound.int in cc

IsNumbering-no_text : (numbering : TypeNumbering) → numbering.nodes.items ≡ Int ∷ Name 7 ∷ [] → IsNumbering numbering → ⊥
IsNumbering-no_text numbering are sound =
    let wrong : ◌≡◌ {A = Option TypeNode} (Some (Name 7)) (Some Text) = subst (λ (l : List TypeNode). slice_get l 1 ≡ Some Text) are sound.text in cc

IsNumbering-two_ints : (numbering : TypeNumbering) → numbering.nodes.items ≡ Int ∷ Text ∷ Int ∷ [] → IsNumbering numbering → ⊥
IsNumbering-two_ints numbering are sound = let same : ◌≡◌ {A = ℕ} 2 0 = sound.only_int 2 (ap (λ (l : List TypeNode). slice_get l 2) are) in omega arith

pub IsNumbering-two_texts : (numbering : TypeNumbering) → numbering.nodes.items ≡ Int ∷ Text ∷ Text ∷ [] → IsNumbering numbering → ⊥
IsNumbering-two_texts numbering are sound = let same : ◌≡◌ {A = ℕ} 2 1 = sound.only_text 2 (ap (λ (l : List TypeNode). slice_get l 2) are) in omega arith

-- a type variable is not kept; a name is kept with another number; a pair is kept the other way round; a name is kept that has no node
IsNumbering-not_kept : (numbering : TypeNumbering) → numbering.nodes.items ≡ Int ∷ Text ∷ Variable 8 ∷ [] → numbering.variables.entries ≡ [] → IsNumbering numbering → ⊥
IsNumbering-not_kept numbering are kept sound =
    let found = (sound.variables 8 2).1 (ap (λ (l : List TypeNode). slice_get l 2) are) in
    let wrong : ◌≡◌ {A = Option ℕ} None (Some 2) = subst (λ (es : List (ℕ × ℕ)). lookup (is_at (nat_cmp 8)) es ≡ Some 2) kept found in cc

IsNumbering-off_by_one : (numbering : TypeNumbering) → numbering.nodes.items ≡ Int ∷ Text ∷ Name 7 ∷ [] → numbering.names.entries ≡ (7, 3) ∷ [] → IsNumbering numbering → ⊥
IsNumbering-off_by_one numbering are kept sound =
    let found = (sound.names 7 2).1 (ap (λ (l : List TypeNode). slice_get l 2) are) in
    let is : ◌≡◌ {A = Option ℕ} (Some 3) (Some 2) = subst (λ (es : List (ℕ × ℕ)). lookup (is_at (nat_cmp 7)) es ≡ Some 2) kept found in
    let same : ◌≡◌ {A = ℕ} 3 2 = cc in omega arith

IsNumbering-exchanged : (numbering : TypeNumbering) → numbering.nodes.items ≡ Int ∷ Text ∷ Name 7 ∷ With 1 2 ∷ [] → numbering.pairs.entries ≡ (pair 2 1, 3) ∷ [] → IsNumbering numbering → ⊥
IsNumbering-exchanged numbering are kept sound =
    let found = (sound.pairs (pair 1 2) 3).1 (ap (λ (l : List TypeNode). slice_get l 3) are) in
    let wrong : ◌≡◌ {A = Option ℕ} None (Some 3) = subst (λ (es : List (Pair × ℕ)). lookup (is_at (compare_pairs (pair 1 2))) es ≡ Some 3) kept found in cc

IsNumbering-no_node : (numbering : TypeNumbering) → numbering.nodes.items ≡ Int ∷ Text ∷ [] → numbering.names.entries ≡ (7, 2) ∷ [] → IsNumbering numbering → ⊥
IsNumbering-no_node numbering are kept sound =
    let there = (sound.names 7 2).0 (ap (λ (es : List (ℕ × ℕ)). lookup (is_at (nat_cmp 7)) es) kept) in
    let wrong : ◌≡◌ {A = Option TypeNode} None (Some (Name 7)) = subst (λ (l : List TypeNode). slice_get l 2 ≡ Some (Name 7)) are there in cc

-- types are put behind others
Extends-behind : Extends (IntType ∷ []) (IntType ∷ TextType ∷ [])
Extends-behind = (TextType ∷ [], refl)

Extends-before : Extends (IntType ∷ []) (TextType ∷ IntType ∷ []) → ⊥
Extends-before extends =
    let is : ◌≡◌ {A = List TypeExpr} (TextType ∷ IntType ∷ []) (IntType ∷ extends.0) = extends.1 in
    let wrong : TextType ≡ IntType = cc in cc

Extends-lost : Extends (IntType ∷ TextType ∷ []) (IntType ∷ []) → ⊥
Extends-lost extends = let is : ◌≡◌ {A = List TypeExpr} (IntType ∷ []) (IntType ∷ TextType ∷ extends.0) = extends.1 in cc

-- `7(string, A)` is put behind the others
abbrev pub IsBeforeExample : TypeNumbering → Type 0
IsBeforeExample numbering = numbering.nodes.items ≡ Int ∷ Text ∷ Variable 8 ∷ Name 7 ∷ With 2 3 ∷ []

pub grown : (old new : TypeNumbering) → IsBeforeExample old → IsExample new → Extends (types_made old.nodes.items) (types_made new.nodes.items)
grown old new was is = (
  over_two TextType a ∷ [],
  ap types_made is.items ∙ ap (λ (l : List TypeNode). types_made l ++ over_two TextType a ∷ []) (sym was),
)

Adds-new : (old new : TypeNumbering) → IsBeforeExample old → IsExample new → Adds old new 5 (With 1 4)
Adds-new old new was is = record { sound = IsNumbering-yes new is; extends = grown old new was is; here = ap (λ (l : List TypeNode). slice_get l 5) is.items }

Adds-known : (numbering : TypeNumbering) → IsExample numbering → Adds numbering numbering 2 (Variable 8)
Adds-known numbering is = record {
  sound = IsNumbering-yes numbering is;
  extends = extends_none (types_made numbering.nodes.items);
  here = ap (λ (l : List TypeNode). slice_get l 2) is.items;
}

Numbers-new : (old new : TypeNumbering) → IsBeforeExample old → IsExample new → Numbers old new 5 (over_two TextType a)
Numbers-new old new was is = record { sound = IsNumbering-yes new is; extends = grown old new was is; here = ap (λ (l : List TypeNode). slice_get (types_made l) 5) is.items }

-- `string` was added although it is there
Adds-twice : (old new : TypeNumbering) → new.nodes.items ≡ Int ∷ Text ∷ Text ∷ [] → Adds old new 2 Text → ⊥
Adds-twice old new are adds = IsNumbering-two_texts new are adds.sound

Numbers-twice : (old new : TypeNumbering) → new.nodes.items ≡ Int ∷ Text ∷ Text ∷ [] → Numbers old new 2 TextType → ⊥
Numbers-twice old new are numbers = IsNumbering-two_texts new are numbers.sound

-- `7` has the number that A had
pub lost : (old new : TypeNumbering) → old.nodes.items ≡ Int ∷ Text ∷ Variable 8 ∷ [] → new.nodes.items ≡ Int ∷ Text ∷ Name 7 ∷ []
    → Extends (types_made old.nodes.items) (types_made new.nodes.items) → ⊥
lost old new was are extends =
    let is : ◌≡◌ {A = List TypeExpr} (IntType ∷ TextType ∷ bare ∷ []) (IntType ∷ TextType ∷ a ∷ extends.0) =
    ap types_made (sym are) ∙ extends.1 ∙ ap (λ (l : List TypeNode). types_made l ++ extends.0) was in
    let wrong : bare ≡ a = cc in cc

Adds-lost : (old new : TypeNumbering) → old.nodes.items ≡ Int ∷ Text ∷ Variable 8 ∷ [] → new.nodes.items ≡ Int ∷ Text ∷ Name 7 ∷ [] → Adds old new 2 (Name 7) → ⊥
Adds-lost old new was are adds = lost old new was are adds.extends

Numbers-lost : (old new : TypeNumbering) → old.nodes.items ≡ Int ∷ Text ∷ Variable 8 ∷ [] → new.nodes.items ≡ Int ∷ Text ∷ Name 7 ∷ [] → Numbers old new 2 bare → ⊥
Numbers-lost old new was are numbers = lost old new was are numbers.extends

-- another node stands at the number, and the arguments of the type there stand the other way round
Adds-elsewhere : (old new : TypeNumbering) → IsExample new → Adds old new 4 (With 1 4) → ⊥
Adds-elsewhere old new is adds =
    let there : ◌≡◌ {A = Option TypeNode} (Some (With 2 3)) (Some (With 1 4)) = subst (λ (l : List TypeNode). slice_get l 4 ≡ Some (With 1 4)) is.items adds.here in
    let same : ◌≡◌ {A = ℕ} 2 1 = cc in omega arith

Numbers-exchanged : (old new : TypeNumbering) → IsExample new → Numbers old new 5 (over_two a TextType) → ⊥
Numbers-exchanged old new is numbers =
    let there : ◌≡◌ {A = Option TypeExpr} (Some (over_two TextType a)) (Some (over_two a TextType)) =
    subst (λ (l : List TypeNode). slice_get (types_made l) 5 ≡ Some (over_two a TextType)) is.items numbers.here in
    let wrong : TextType ≡ a = cc in cc

-- both the first argument and the rest have to be without type variables, and what has no number is not
closed_node-each : map (closed_node (true ∷ false ∷ true ∷ [])) (Variable 8 ∷ Int ∷ Text ∷ Name 7 ∷ With 0 2 ∷ With 0 1 ∷ With 1 2 ∷ With 0 3 ∷ [])
    ≡ false ∷ true ∷ true ∷ true ∷ true ∷ false ∷ false ∷ false ∷ []
closed_node-each = refl
