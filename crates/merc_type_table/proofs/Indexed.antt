-- Nodes by what they are made of.
use Rattle.std.proofs.Common.{◌≡◌, ℕ, ◌+◌, ◌<◌, Bool, true, false, cond, Some, None, List, [], ◌∷◌, ◌++◌, length, refl, sym, ap, subst, ◌∙◌, arith, inl, inr, Ordering, Less, Equal, Greater}
use Rattle.std.specs.Prelude.{slice_get, ◌↔◌}
use Rattle.std.specs.Ordering.{is_eq, nat_cmp, ordering_then}
use Rattle.std.specs.BTreeMap.{BTreeMap, get}
use Rattle.std.proofs.lemmas.Bool.Decides.{nat_tests}
use Rattle.merc_tree.specs.Types.{TypeExpr}
use Rattle.merc_type_table.specs.declared.node.TypeNode.{TypeNode}
use Rattle.merc_type_table.specs.declared.node.TypeNode.TheVariants.{Variable, Int, Text, Name, With}
use Rattle.merc_type_table.specs.declared.node.Pair.{Pair}
use Rattle.merc_type_table.specs.declared.numbering.TypeNumbering.{TypeNumbering}
use Rattle.merc_type_table.specs.Table.{types_made, made, is_application, IsBefore, IsComplete}
use Rattle.merc_type_table.specs.Numbering.{compare_pairs, with_pair, Indexes, IsNumbering, Extends, Adds}
use Rattle.merc_type_table.proofs.Made.{types_made-append, count_made, at_front, last_or_before, stays_there, at_last, within_list, extends_none}

same_some : {A : Type 0} {a b : A} → Some a ≡ Some b → a ≡ b
same_some e = cc

abbrev pub Updates : {K : Type 0} → (K → K → Ordering) → BTreeMap K ℕ → BTreeMap K ℕ → K → ℕ → Type 0
Updates {K} compare old new key number = (other : K) → get compare new other ≡ cond (is_eq (compare key other)) (Some number) (get compare old other)

-- one more key
indexed_more : {K : Type 0} (compare : K → K → Ordering) (make : K → TypeNode) → ((a b : K) → is_eq (compare a b) ≡ true → a ≡ b) → ((a : K) → is_eq (compare a a) ≡ true)
    → ((a b : K) → make a ≡ make b → a ≡ b) → (old new : BTreeMap K ℕ) (nodes : List TypeNode) (key : K) (number : ℕ) → number ≡ length nodes
    → get compare old key ≡ None → Updates compare old new key number → Indexes compare make old nodes → Indexes compare make new (nodes ++ make key ∷ [])
indexed_more {K} compare make equal same apart old new nodes key number at absent updates indexes other found = by (is_eq (compare key other)) refl
  where
    by : (b : Bool) → is_eq (compare key other) ≡ b → (get compare new other ≡ Some found) ↔ (slice_get (nodes ++ make key ∷ []) found ≡ Some (make other))
    by true e =
        let is : key ≡ other = equal key other e in
        let now : get compare new other ≡ Some number = updates other ∙ ap (λ (b : Bool). cond b (Some number) (get compare old other)) e in
        let here : slice_get (nodes ++ make key ∷ []) number ≡ Some (make other) =
        ap (slice_get (nodes ++ make key ∷ [])) at ∙ at_last nodes (make key) ∙ ap (λ (k : K). Some (make k)) is in (
          (λ got. subst (λ (n : ℕ). slice_get (nodes ++ make key ∷ []) n ≡ Some (make other)) (same_some (sym now ∙ got)) here),
          (λ there. elim (last_or_before nodes (make key) found) [
            | inl before ↦
                let old_is : get compare old other ≡ Some found = (indexes other found).1 (sym before ∙ there) in
                let none : get compare old other ≡ None = ap (get compare old) (sym is) ∙ absent in
                absurd (cc)
            | inr last ↦ now ∙ ap Some (at ∙ sym last.0)
          ]),
        )
    by false e =
        let now : get compare new other ≡ get compare old other = updates other ∙ ap (λ (b : Bool). cond b (Some number) (get compare old other)) e in (
          (λ got. stays_there nodes (make key ∷ []) found (make other) ((indexes other found).0 (sym now ∙ got))),
          (λ there. elim (last_or_before nodes (make key) found) [
            | inl before ↦ now ∙ (indexes other found).1 (sym before ∙ there)
            | inr last ↦
                let is : key ≡ other = apart key other (same_some (sym last.1 ∙ there)) in
                let test : is_eq (compare key other) ≡ true = ap (λ (k : K). is_eq (compare key k)) (sym is) ∙ same key in
                absurd (cc)
          ]),
        )

-- one more node of another kind
indexed_other : {K : Type 0} (compare : K → K → Ordering) (make : K → TypeNode) (numbers : BTreeMap K ℕ) (nodes : List TypeNode) (node : TypeNode)
    → ((key : K) → node ≡ make key → ⊥) → Indexes compare make numbers nodes → Indexes compare make numbers (nodes ++ node ∷ [])
indexed_other {K} compare make numbers nodes node apart indexes key number = (
  (λ got. stays_there nodes (node ∷ []) number (make key) ((indexes key number).0 got)),
  (λ there. elim (last_or_before nodes node number) [
    | inl before ↦ (indexes key number).1 (sym before ∙ there)
    | inr last ↦ absurd (apart key (same_some (sym last.1 ∙ there)))
  ]),
)

-- keys
pub number_equal : (a b : ℕ) → is_eq (nat_cmp a b) ≡ true → a ≡ b
number_equal a b same = grind (arith, nat_tests)

number_same : (a : ℕ) → is_eq (nat_cmp a a) ≡ true
number_same a = grind (arith, nat_tests)

then_equal : (a b : Ordering) → is_eq (ordering_then a b) ≡ true → (is_eq a ≡ true) × (is_eq b ≡ true)
then_equal Less b same = absurd (cc)
then_equal Equal b same = (refl, same)
then_equal Greater b same = absurd (cc)

then_same : (a b : Ordering) → is_eq a ≡ true → is_eq b ≡ true → is_eq (ordering_then a b) ≡ true
then_same Less b one other = absurd (cc)
then_same Equal b one other = other
then_same Greater b one other = absurd (cc)

pair_is : (a b : Pair) → a.first ≡ b.first → a.rest ≡ b.rest → a ≡ b
pair_is a b first rest =
    let with_first : ℕ → Pair = λ n. record { first = n; rest = a.rest } in
    let with_rest : ℕ → Pair = λ n. record { first = b.first; rest = n } in
    ap with_first first ∙ ap with_rest rest

pub pair_equal : (a b : Pair) → is_eq (compare_pairs a b) ≡ true → a ≡ b
pair_equal a b same =
    let both = then_equal (nat_cmp a.first b.first) (nat_cmp a.rest b.rest) same in
    pair_is a b (number_equal a.first b.first both.0) (number_equal a.rest b.rest both.1)

pair_same : (a : Pair) → is_eq (compare_pairs a a) ≡ true
pair_same a = then_same (nat_cmp a.first a.first) (nat_cmp a.rest a.rest) (number_same a.first) (number_same a.rest)

variable_apart : (a b : ℕ) → Variable a ≡ Variable b → a ≡ b
variable_apart a b e = cc

name_apart : (a b : ℕ) → Name a ≡ Name b → a ≡ b
name_apart a b e = cc

pair_apart : (a b : Pair) → with_pair a ≡ with_pair b → a ≡ b
pair_apart a b e = let first : a.first ≡ b.first = cc in let rest : a.rest ≡ b.rest = cc in pair_is a b first rest

-- what holds of the nodes holds with one more
before_more : (nodes : List TypeNode) (node : TypeNode) → IsBefore (length nodes) node → ((k : ℕ) (n : TypeNode) → slice_get nodes k ≡ Some n → IsBefore k n)
    → (k : ℕ) (n : TypeNode) → slice_get (nodes ++ node ∷ []) k ≡ Some n → IsBefore k n
before_more nodes node here all k n is = elim (last_or_before nodes node k) [
  | inl before ↦ all k n (sym before ∙ is)
  | inr last ↦ subst (IsBefore k) (same_some (sym last.1 ∙ is)) (subst (λ (i : ℕ). IsBefore i node) (sym last.0) here)
]

complete_stays : (types more : List TypeExpr) (number : ℕ) (node : TypeNode) → number < length types + 1 → IsBefore number node → IsComplete types node → IsComplete (types ++ more) node
complete_stays types more number (Variable name) less before complete = tt
complete_stays types more number Int less before complete = tt
complete_stays types more number Text less before complete = tt
complete_stays types more number (Name name) less before complete = tt
complete_stays types more number (With first rest) less before complete =
    let inside : rest < length types = let b = before.1 in omega arith in
    ap is_application (at_front types more rest inside) ∙ complete

complete_more : (nodes : List TypeNode) (node : TypeNode) → IsBefore (length nodes) node → IsComplete (types_made nodes) node
    → ((k : ℕ) (n : TypeNode) → slice_get nodes k ≡ Some n → IsBefore k n) → ((k : ℕ) (n : TypeNode) → slice_get nodes k ≡ Some n → IsComplete (types_made nodes) n)
    → (k : ℕ) (n : TypeNode) → slice_get (nodes ++ node ∷ []) k ≡ Some n → IsComplete (types_made (nodes ++ node ∷ [])) n
complete_more nodes node here whole all_before all k n is =
    let count = count_made nodes in
    subst (λ (types : List TypeExpr). IsComplete types n) (sym (types_made-append nodes node))
    (elim (last_or_before nodes node k) [
      | inl before ↦
          let old : slice_get nodes k ≡ Some n = sym before ∙ is in
          let less = within_list nodes k n old in
          complete_stays (types_made nodes) (made (types_made nodes) node ∷ []) k n (omega arith) (all_before k n old) (all k n old)
      | inr last ↦
          let same : node ≡ n = same_some (sym last.1 ∙ is) in
          subst (IsComplete (types_made nodes ++ made (types_made nodes) node ∷ [])) same
          (complete_stays (types_made nodes) (made (types_made nodes) node ∷ []) (length nodes) node (omega arith) here whole)
    ])

only_more : (nodes : List TypeNode) (node only : TypeNode) (at : ℕ) → (node ≡ only → ⊥) → ((k : ℕ) → slice_get nodes k ≡ Some only → k ≡ at)
    → (k : ℕ) → slice_get (nodes ++ node ∷ []) k ≡ Some only → k ≡ at
only_more nodes node only at apart all k is = elim (last_or_before nodes node k) [
  | inl before ↦ all k (sym before ∙ is)
  | inr last ↦ absurd (apart (same_some (sym last.1 ∙ is)))
]

pub added_extends : (nodes now : List TypeNode) (node : TypeNode) → now ≡ nodes ++ node ∷ [] → Extends (types_made nodes) (types_made now)
added_extends nodes now node now_is = (made (types_made nodes) node ∷ [], ap types_made now_is ∙ types_made-append nodes node)

here_now : (nodes now : List TypeNode) (node : TypeNode) (number : ℕ) → now ≡ nodes ++ node ∷ [] → number ≡ length nodes → slice_get now number ≡ Some node
here_now nodes now node number now_is at = ap (λ (l : List TypeNode). slice_get l number) now_is ∙ ap (slice_get (nodes ++ node ∷ [])) at ∙ at_last nodes node

-- a node that was there
pub known_adds : (old : TypeNumbering) (number : ℕ) (node : TypeNode) → IsNumbering old → slice_get old.nodes.items number ≡ Some node → Adds old old number node
known_adds old number node sound here = record { sound = sound; extends = extends_none (types_made old.nodes.items); here = here }

pub variable_adds : (old new : TypeNumbering) (name number : ℕ) → IsNumbering old → number ≡ length old.nodes.items → new.nodes.items ≡ old.nodes.items ++ Variable name ∷ []
    → get nat_cmp old.variables name ≡ None → Updates nat_cmp old.variables new.variables name number → new.names ≡ old.names → new.pairs ≡ old.pairs
    → Adds old new number (Variable name)
variable_adds old new name number sound at added absent updates names_same pairs_same = record {
  sound = record {
    before = λ k n. rw added (before_more old.nodes.items (Variable name) tt sound.before k n);
    complete = λ k n. rw added (complete_more old.nodes.items (Variable name) tt tt sound.before sound.complete k n);
    int = rw added (stays_there old.nodes.items (Variable name ∷ []) 0 Int sound.int);
    only_int = λ k. rw added (only_more old.nodes.items (Variable name) Int 0 (λ e. absurd (cc)) sound.only_int k);
    text = rw added (stays_there old.nodes.items (Variable name ∷ []) 1 Text sound.text);
    only_text = λ k. rw added (only_more old.nodes.items (Variable name) Text 1 (λ e. absurd (cc)) sound.only_text k);
    variables = rw added (indexed_more nat_cmp Variable number_equal number_same variable_apart old.variables new.variables old.nodes.items name number at absent updates sound.variables);
    names = rw (added, names_same) (indexed_other nat_cmp Name old.names old.nodes.items (Variable name) (λ key e. absurd (cc)) sound.names);
    pairs = rw (added, pairs_same) (indexed_other compare_pairs with_pair old.pairs old.nodes.items (Variable name) (λ key e. absurd (cc)) sound.pairs);
  };
  extends = added_extends old.nodes.items new.nodes.items (Variable name) added;
  here = here_now old.nodes.items new.nodes.items (Variable name) number added at;
}

pub name_adds : (old new : TypeNumbering) (name number : ℕ) → IsNumbering old → number ≡ length old.nodes.items → new.nodes.items ≡ old.nodes.items ++ Name name ∷ []
    → get nat_cmp old.names name ≡ None → Updates nat_cmp old.names new.names name number → new.variables ≡ old.variables → new.pairs ≡ old.pairs
    → Adds old new number (Name name)
name_adds old new name number sound at added absent updates variables_same pairs_same = record {
  sound = record {
    before = λ k n. rw added (before_more old.nodes.items (Name name) tt sound.before k n);
    complete = λ k n. rw added (complete_more old.nodes.items (Name name) tt tt sound.before sound.complete k n);
    int = rw added (stays_there old.nodes.items (Name name ∷ []) 0 Int sound.int);
    only_int = λ k. rw added (only_more old.nodes.items (Name name) Int 0 (λ e. absurd (cc)) sound.only_int k);
    text = rw added (stays_there old.nodes.items (Name name ∷ []) 1 Text sound.text);
    only_text = λ k. rw added (only_more old.nodes.items (Name name) Text 1 (λ e. absurd (cc)) sound.only_text k);
    variables = rw (added, variables_same) (indexed_other nat_cmp Variable old.variables old.nodes.items (Name name) (λ key e. absurd (cc)) sound.variables);
    names = rw added (indexed_more nat_cmp Name number_equal number_same name_apart old.names new.names old.nodes.items name number at absent updates sound.names);
    pairs = rw (added, pairs_same) (indexed_other compare_pairs with_pair old.pairs old.nodes.items (Name name) (λ key e. absurd (cc)) sound.pairs);
  };
  extends = added_extends old.nodes.items new.nodes.items (Name name) added;
  here = here_now old.nodes.items new.nodes.items (Name name) number added at;
}

pub pair_adds : (old new : TypeNumbering) (pair : Pair) (number : ℕ) → IsNumbering old → IsBefore (length old.nodes.items) (with_pair pair)
    → IsComplete (types_made old.nodes.items) (with_pair pair) → number ≡ length old.nodes.items → new.nodes.items ≡ old.nodes.items ++ with_pair pair ∷ []
    → get compare_pairs old.pairs pair ≡ None → Updates compare_pairs old.pairs new.pairs pair number → new.variables ≡ old.variables → new.names ≡ old.names
    → Adds old new number (with_pair pair)
pair_adds old new pair number sound here whole at added absent updates variables_same names_same = record {
  sound = record {
    before = λ k n. rw added (before_more old.nodes.items (with_pair pair) here sound.before k n);
    complete = λ k n. rw added (complete_more old.nodes.items (with_pair pair) here whole sound.before sound.complete k n);
    int = rw added (stays_there old.nodes.items (with_pair pair ∷ []) 0 Int sound.int);
    only_int = λ k. rw added (only_more old.nodes.items (with_pair pair) Int 0 (λ e. absurd (cc)) sound.only_int k);
    text = rw added (stays_there old.nodes.items (with_pair pair ∷ []) 1 Text sound.text);
    only_text = λ k. rw added (only_more old.nodes.items (with_pair pair) Text 1 (λ e. absurd (cc)) sound.only_text k);
    variables = rw (added, variables_same) (indexed_other nat_cmp Variable old.variables old.nodes.items (with_pair pair) (λ key e. absurd (cc)) sound.variables);
    names = rw (added, names_same) (indexed_other nat_cmp Name old.names old.nodes.items (with_pair pair) (λ key e. absurd (cc)) sound.names);
    pairs = rw added (indexed_more compare_pairs with_pair pair_equal pair_same pair_apart old.pairs new.pairs old.nodes.items pair number at absent updates sound.pairs);
  };
  extends = added_extends old.nodes.items new.nodes.items (with_pair pair) added;
  here = here_now old.nodes.items new.nodes.items (with_pair pair) number added at;
}
