-- How a set of variables grows.
use Rattle.std.proofs.Common.{◌≡◌, ℕ, suc, zero, ◌+◌, ◌≤◌, ◌==◌, nat_le, Bool, true, false, not, cond, ◌||◌, List, [], ◌∷◌, ◌++◌, length, take, Some, None, if◌then◌else◌, nat_cmp, refl, ap, sym, subst, ◌∙◌, add-one, arith}
use Rattle.std.specs.Cmp.{unsigned_ties}
use Rattle.std.specs.List.{flat_map, list_any, slice_get}
use Rattle.std.specs.Ordering.{is_eq}
use Rattle.std.specs.BTreeSet.{BTreeSet, btree_set_len, contains}
use Rattle.std.proofs.lemmas.Bool.{eqb-true}
use Rattle.std.proofs.lemmas.Bool.Decides.{nat_tests}
use Rattle.std.proofs.lemmas.Grind.{flat_map-append}
use Rattle.std.proofs.lemmas.List.{append_assoc, append-nil}
use Rattle.std.proofs.lemmas.List.Elements.{filter-append}
use Rattle.std.proofs.lemmas.List.Folds.{list_any-append}
use Rattle.merc_base.specs.declared.place.Span.{Span}
use Rattle.merc_goal_tree.specs.declared.entries.Root.{Root}
use Rattle.merc_goal_tree.specs.declared.entries.Root.TheVariants.{Simple, Conjunction, Parallel, Disjunction, Conditional, Negation, Quantified}
use Rattle.merc_goal_tree.specs.Variables.{distinct}
use Rattle.merc_flat.specs.GoalFaults.{part_variables}
use Rattle.merc_flat.specs.Counted.{HasThese, own, root_variables}

-- distinct numbers

-- a number more, by whether the first is among the rest, whether it is the one more, and whether that one is among the rest
more_by : (in_rest same known : Bool) (first : ℕ) (before after : List ℕ) → (same ≡ true → in_rest ≡ known) → length after ≡ length before + (if known then 0 else 1)
    → length (if in_rest || (same || false) then after else first ∷ after) ≡ length (if in_rest then before else first ∷ before) + (if same || known then 0 else 1)
more_by true true true first before after agree is = omega arith
more_by true true false first before after agree is = let wrong : true ≡ false = agree refl in cc
more_by true false true first before after agree is = omega arith
more_by true false false first before after agree is = omega arith
more_by false true true first before after agree is = let wrong : false ≡ true = agree refl in cc
more_by false true false first before after agree is = omega arith
more_by false false true first before after agree is = omega arith
more_by false false false first before after agree is = omega arith

same_either_way : (a b : ℕ) → (a == b) ≡ (b == a)
same_either_way a b = grind (arith, nat_tests)

distinct_more : (numbers : List ℕ) (number : ℕ)
    → length (distinct (numbers ++ number ∷ [])) ≡ length (distinct numbers) + (if list_any (λ other. number == other) numbers then 0 else 1)
distinct_more [] number = refl
distinct_more (first ∷ rest) number =
    ap (λ t. length (if t then distinct (rest ++ number ∷ []) else first ∷ distinct (rest ++ number ∷ []))) (list_any-append (λ other. first == other) rest (number ∷ []))
    ∙ more_by (list_any (λ other. first == other) rest) (first == number) (list_any (λ other. number == other) rest) first (distinct rest) (distinct (rest ++ number ∷ []))
    (λ same. ap (λ n. list_any (λ other. n == other) rest) (eqb-true first number same)) (distinct_more rest number)
    ∙ ap (λ t. length (distinct (first ∷ rest)) + (if t || list_any (λ other. number == other) rest then 0 else 1)) (same_either_way first number)

-- one number is added

either_way : (test known : Bool) → cond test true known ≡ (known || (test || false))
either_way true true = refl
either_way true false = refl
either_way false true = refl
either_way false false = refl

counted_more : (known : Bool) (count : ℕ) → count + (if not known then 1 else 0) ≡ count + (if known then 0 else 1)
counted_more true count = refl
counted_more false count = refl

module _ (found new : BTreeSet ℕ) (number : ℕ) (added : Bool) (is : added ≡ not (contains nat_cmp found number))
    (others : (other : ℕ) → contains nat_cmp new other ≡ cond (is_eq (nat_cmp number other)) true (contains nat_cmp found other))
    (length_is : btree_set_len new ≡ btree_set_len found + (if added then 1 else 0)) where
  pub one_added : (numbers : List ℕ) → HasThese found numbers → HasThese new (numbers ++ number ∷ [])
  one_added numbers before = record {
    has = λ other.
        others other
        ∙ ap (λ b. cond b true (contains nat_cmp found other)) (sym (unsigned_ties number other) ∙ same_either_way number other)
        ∙ either_way (other == number) (contains nat_cmp found other)
        ∙ ap (λ b. b || ((other == number) || false)) (before.has other)
        ∙ sym (list_any-append (λ n. other == n) numbers (number ∷ []));
    count =
        length_is
        ∙ ap (λ b. btree_set_len found + (if b then 1 else 0)) (is ∙ ap not (before.has number))
        ∙ counted_more (list_any (λ other. number == other) numbers) (btree_set_len found)
        ∙ ap (λ n. n + (if list_any (λ other. number == other) numbers then 0 else 1)) before.count
        ∙ sym (distinct_more numbers number);
  }

-- the same set with the same numbers
pub same_numbers : (found : BTreeSet ℕ) (numbers others : List ℕ) → numbers ≡ others → HasThese found numbers → HasThese found others
same_numbers found numbers others same before = let P : List ℕ → Type 0 = λ l. HasThese found l in subst P same before

-- a variable that is no argument is kept

pub kept : (arity number : ℕ) (numbers : List ℕ) → arity ≤ number → numbers ++ number ∷ [] ≡ numbers ++ own arity (number ∷ [])
kept arity number numbers is =
    let test : nat_le arity number ≡ true = grind (arith, nat_tests) in
    ap (λ t. numbers ++ (if t then number ∷ [] else [])) (sym test)

pub own-both : (arity : ℕ) (numbers front back : List ℕ) → (numbers ++ own arity front) ++ own arity back ≡ numbers ++ own arity (front ++ back)
own-both arity numbers front back = append_assoc numbers (own arity front) (own arity back) ∙ ap (λ l. numbers ++ l) (sym (filter-append (λ variable. nat_le arity variable) front back))

-- parts

part_variables-root : (root : Root) (span : Span) → part_variables (root, span) ≡ root_variables root
part_variables-root (Simple goal) span = refl
part_variables-root (Conjunction count) span = refl
part_variables-root (Parallel count) span = refl
part_variables-root (Disjunction count) span = refl
part_variables-root Conditional span = refl
part_variables-root Negation span = refl
part_variables-root (Quantified variables) span = refl

one_more : {X : Type 0} (items : List X) (index : ℕ) (item : X) → Some item ≡ slice_get items index → take (suc index) items ≡ take index items ++ item ∷ []
one_more [] index item at = cc
one_more (first ∷ rest) zero item at = let same : item ≡ first = cc in ap (λ x. x ∷ []) (sym same)
one_more (first ∷ rest) (suc index) item at = ap (λ l. first ∷ l) (one_more rest index item at)

no_more : {X : Type 0} (items : List X) (index : ℕ) → None ≡ slice_get items index → take (suc index) items ≡ take index items
no_more [] zero at = refl
no_more [] (suc index) at = refl
no_more (first ∷ rest) zero at = cc
no_more (first ∷ rest) (suc index) at = ap (λ l. first ∷ l) (no_more rest index at)

abbrev pub before : ℕ → List (Root × Span) → ℕ → List ℕ
before arity parts index = own arity (flat_map part_variables (take index parts))

pub part_added : (arity : ℕ) (parts : List (Root × Span)) (index : ℕ) (root : Root) (span : Span) → Some (root, span) ≡ slice_get parts index
    → before arity parts index ++ own arity (root_variables root) ≡ before arity parts (index + 1)
part_added arity parts index root span at =
    own-both arity [] (flat_map part_variables (take index parts)) (root_variables root)
    ∙ ap (λ l. own arity (flat_map part_variables (take index parts) ++ l)) (sym (part_variables-root root span) ∙ sym (append-nil (part_variables (root, span))))
    ∙ ap (own arity) (sym (flat_map-append part_variables (take index parts) ((root, span) ∷ [])))
    ∙ ap (λ l. own arity (flat_map part_variables l)) (sym (one_more parts index (root, span) at))
    ∙ ap (before arity parts) (sym (add-one index))

pub no_part : (arity : ℕ) (parts : List (Root × Span)) (index : ℕ) → None ≡ slice_get parts index → before arity parts index ≡ before arity parts (index + 1)
no_part arity parts index at =
    ap (λ l. own arity (flat_map part_variables l)) (sym (no_more parts index at)) ∙ ap (before arity parts) (sym (add-one index))
