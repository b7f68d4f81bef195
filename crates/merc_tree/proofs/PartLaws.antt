-- What is kept of terms for their nesting goes with the terms as their nodes are read.
use Rattle.std.proofs.Common.{◌≡◌, ℕ, suc, ◌+◌, ◌-◌, ◌<◌, ◌≤◌, max, get_or, add-one, drop-cons, Bool, true, false, ◌==◌, ◌&&◌, List, [], ◌∷◌, ◌++◌, length, map, take, drop, Option, Some, None, refl, ap, sym, ◌∙◌, arith, if◌then◌else◌}
use Rattle.std.proofs.Math.ListN.{drop_of_length-le}
use Rattle.std.proofs.Math.Seq.{take-length, drop-length, take-suc}
use Rattle.std.proofs.lemmas.Bool.Decides.{nat_tests}
use Rattle.std.proofs.lemmas.List.{take-append-drop, take_rest, map-append, take-map, drop-map, length-map}
use Rattle.merc_base.specs.declared.place.Span.{Span}
use Rattle.merc_tree.specs.Term.{Term, Variable, Integer, Text, Application, terms_of}
use Rattle.merc_tree.specs.Nesting.{is_chain, are_two, goes_on, greater, nesting, deepest, chain_nesting}
use Rattle.merc_tree.specs.declared.term.Node.{Node}
use Rattle.merc_tree.specs.declared.term.nesting.Part.{Part}
use Rattle.merc_tree.specs.declared.term.Shape.{Shape}
use Rattle.merc_tree.specs.declared.term.Shape.TheVariants.{Variable as VariableShape, Integer as IntegerShape, Text as TextShape, Application as ApplicationShape}
use Rattle.merc_tree.specs.Nodes.{with_root, arity_of, built}
use Rattle.merc_tree.specs.TermCode.{built-append}
use Rattle.merc_tree.specs.Parts.{part_of, deepest_part, is_named, goes_on_part, chain_name_of, plain_part, chain_part, joined, part_of_root, with_root_part}

pub greater_max : (a b : ℕ) → greater a b ≡ max a b
greater_max a b = grind (arith, nat_tests)

pub deeper : (a b rest : ℕ) → greater (max a b) rest ≡ greater b (greater a rest)
deeper a b rest = greater_max (max a b) rest ∙ omega arith ∙ ap (max b) (sym (greater_max a rest)) ∙ sym (greater_max b (greater a rest))

-- one part more of those that are looked at
pub deepest_step : (parts : List Part) (index deepest now : ℕ) (part : Part) → index < length parts → part ≡ get_or parts index part → now ≡ max part.nesting deepest
    → greater deepest (deepest_part (drop index parts)) ≡ deepest_part parts → greater now (deepest_part (drop (index + 1) parts)) ≡ deepest_part parts
deepest_step parts index deepest now part within part_is now_is before =
    let rest = drop (suc index) parts in
    let cut : drop index parts ≡ part ∷ rest = drop-cons parts index part within ∙ ap (λ p. p ∷ rest) (sym part_is) in
    ap (λ n. greater now (deepest_part (drop n parts))) (add-one index)
    ∙ ap (λ n. greater n (deepest_part rest)) now_is
    ∙ deeper part.nesting deepest (deepest_part rest)
    ∙ ap (λ l. greater deepest (deepest_part l)) (sym cut)
    ∙ before

pub deepest_end : (parts : List Part) (index deepest : ℕ) → length parts ≤ index → greater deepest (deepest_part (drop index parts)) ≡ deepest_part parts → deepest ≡ deepest_part parts
deepest_end parts index deepest past before =
    let none_left : drop index parts ≡ [] = drop_of_length-le parts past in
    sym (ap (λ l. greater deepest (deepest_part l)) none_left ∙ greater_max deepest 0 ∙ omega arith) ∙ before

-- whether a term goes on a chain is seen from its part

three : (chain two same : Bool) → (chain && same && two) ≡ (if chain && two then same else false)
three true true true = refl
three true true false = refl
three true false true = refl
three true false false = refl
three false true same = refl
three false false same = refl

if_name : (test : Bool) (name other : ℕ) → is_named name (if test then Some other else None) ≡ (if test then other == name else false)
if_name true name other = refl
if_name false name other = refl

goes_on-part : (name : ℕ) (term : Term) → goes_on name term ≡ goes_on_part name (part_of term)
goes_on-part name (Application other None arguments span) =
    three (is_chain other) (are_two arguments) (other == name) ∙ sym (if_name (is_chain other && are_two arguments) name other)
goes_on-part name (Application other (Some qualifier) arguments span) = refl
goes_on-part name (Variable other span) = refl
goes_on-part name (Integer value span) = refl
goes_on-part name (Text text span) = refl

-- the part of an application comes from its arguments' parts

deepest-parts : (terms : List Term) → deepest (terms_of terms) ≡ deepest_part (map part_of terms)
deepest-parts [] = refl
deepest-parts (first ∷ rest) = ap (greater (nesting first)) (deepest-parts rest)

abbrev application_part : Bool → ℕ → List Term → Part
application_part chain name terms =
    let goes = chain && are_two (terms_of terms) in
    record { nesting = if goes then chain_nesting name (terms_of terms) else 1 + deepest (terms_of terms); chain = if goes then Some name else None }

plain_is : (terms : List Term) → 1 + deepest (terms_of terms) ≡ deepest_part (map part_of terms) + 1
plain_is terms = omega (arith, deepest-parts terms)

one_more : (test : Bool) (n : ℕ) → (if test then n else 1 + n) ≡ (if test then n else n + 1)
one_more true n = refl
one_more false n = omega arith

abbrev of_nesting : Option ℕ → ℕ → Part
of_nesting chain n = record { nesting = n; chain = chain }

application_part-joined : (chain : Bool) (name : ℕ) (terms : List Term) → application_part chain name terms ≡ joined (if chain then Some name else None) (map part_of terms)
application_part-joined false name terms = ap (of_nesting None) (plain_is terms)
application_part-joined true name [] = ap (of_nesting None) (plain_is [])
application_part-joined true name (only ∷ []) = ap (of_nesting None) (plain_is (only ∷ []))
application_part-joined true name (first ∷ last ∷ []) =
    let first_is : 1 + nesting first ≡ nesting first + 1 = omega arith in
    let last_is : (if goes_on name last then nesting last else 1 + nesting last) ≡ (if goes_on_part name (part_of last) then nesting last else nesting last + 1) =
    one_more (goes_on name last) (nesting last) ∙ ap (λ b. if b then nesting last else nesting last + 1) (goes_on-part name last) in
    ap (λ n. of_nesting (Some name) (greater n (if goes_on name last then nesting last else 1 + nesting last))) first_is
    ∙ ap (λ n. of_nesting (Some name) (greater (nesting first + 1) n)) last_is
application_part-joined true name (first ∷ second ∷ third ∷ rest) = ap (of_nesting None) (plain_is (first ∷ second ∷ third ∷ rest))

application_part-root : (name : ℕ) (qualifier : Option ℕ) (arity : ℕ) (span : Span) (terms : List Term)
    → part_of (Application name qualifier (terms_of terms) span) ≡ part_of_root (ApplicationShape name qualifier arity) (map part_of terms)
application_part-root name None arity span terms = application_part-joined (is_chain name) name terms
application_part-root name (Some qualifier) arity span terms = ap (of_nesting None) (plain_is terms)

-- reading a root

leaf-parts : (shape : Shape) (parts : List Part) → parts ++ part_of_root shape [] ∷ [] ≡ take (length parts - 0) parts ++ part_of_root shape (drop (length parts - 0) parts) ∷ []
leaf-parts shape parts =
    let whole : length parts ≡ length parts - 0 = omega arith in
    ap (λ l. l ++ part_of_root shape [] ∷ []) (sym (take-length parts))
    ∙ ap (λ l. take (length parts) parts ++ part_of_root shape l ∷ []) (sym (drop-length parts))
    ∙ ap (λ n. take n parts ++ part_of_root shape (drop n parts) ∷ []) whole

with_root-parts : (shape : Shape) (span : Span) (terms : List Term) → map part_of (with_root shape span terms) ≡ with_root_part shape (map part_of terms)
with_root-parts (VariableShape name) span terms = map-append part_of terms _ ∙ leaf-parts (VariableShape name) (map part_of terms)
with_root-parts (IntegerShape value) span terms = map-append part_of terms _ ∙ leaf-parts (IntegerShape value) (map part_of terms)
with_root-parts (TextShape text) span terms = map-append part_of terms _ ∙ leaf-parts (TextShape text) (map part_of terms)
with_root-parts (ApplicationShape name qualifier arity) span terms =
    let before = length terms - arity in
    let root = λ (l : List Part). part_of_root (ApplicationShape name qualifier arity) l in
    map-append part_of (take before terms) _
    ∙ ap (λ l. l ++ part_of (Application name qualifier (terms_of (drop before terms)) span) ∷ []) (sym (take-map part_of before terms))
    ∙ ap (λ p. take before (map part_of terms) ++ p ∷ []) (application_part-root name qualifier arity span (drop before terms) ∙ ap root (sym (drop-map part_of before terms)))
    ∙ ap (λ n. take (n - arity) (map part_of terms) ++ root (drop (n - arity) (map part_of terms)) ∷ []) (sym (length-map terms part_of))

-- no part is nested deeper than there are nodes

deepest_part-append : (front back : List Part) → deepest_part (front ++ back) ≡ max (deepest_part front) (deepest_part back)
deepest_part-append [] back = omega arith
deepest_part-append (first ∷ front) back =
    omega (arith, deepest_part-append front back, greater_max first.nesting (deepest_part (front ++ back)), greater_max first.nesting (deepest_part front))

plain_shallow : (arguments : List Part) → (plain_part arguments).nesting ≤ deepest_part arguments + 1
plain_shallow arguments = omega arith

at_most : (test : Bool) (n : ℕ) → (if test then n else n + 1) ≤ n + 1
at_most true n = omega arith
at_most false n = omega arith

chain_shallow : (name : ℕ) (first last : Part) → (chain_part name first last).nesting ≤ deepest_part (first ∷ last ∷ []) + 1
chain_shallow name first last =
    let end = if goes_on_part name last then last.nesting else last.nesting + 1 in
    let end_shallow : end ≤ last.nesting + 1 = at_most (goes_on_part name last) last.nesting in
    omega (arith, end_shallow, greater_max (first.nesting + 1) end, greater_max first.nesting (greater last.nesting 0), greater_max last.nesting 0)

joined_shallow : (chain : Option ℕ) (arguments : List Part) → (joined chain arguments).nesting ≤ deepest_part arguments + 1
joined_shallow None arguments = plain_shallow arguments
joined_shallow (Some name) [] = plain_shallow []
joined_shallow (Some name) (only ∷ []) = plain_shallow (only ∷ [])
joined_shallow (Some name) (first ∷ last ∷ []) = chain_shallow name first last
joined_shallow (Some name) (first ∷ second ∷ third ∷ rest) = plain_shallow (first ∷ second ∷ third ∷ rest)

-- one node more
module _ (nodes : List Node) (index : ℕ) (node : Node) (parts : List Part) (kept : ℕ) (within : index < length nodes) (node_is : node ≡ get_or nodes index node)
    (parts_are : parts ≡ map part_of (built (take index nodes) [])) (kept_is : kept ≡ length parts - arity_of node.shape) where
  pub parts_step : take kept parts ++ part_of_root node.shape (drop kept parts) ∷ [] ≡ map part_of (built (take (index + 1) nodes) [])
  parts_step =
      let before = built (take index nodes) [] in
      let more : take (index + 1) nodes ≡ take index nodes ++ node ∷ [] = ap (λ n. take n nodes) (add-one index) ∙ take-suc nodes index node within ∙ ap (λ n. take index nodes ++ n ∷ []) (sym node_is) in
      ap (λ n. take n parts ++ part_of_root node.shape (drop n parts) ∷ []) kept_is
      ∙ ap (with_root_part node.shape) parts_are
      ∙ sym (with_root-parts node.shape node.span before)
      ∙ ap (map part_of) (sym (built-append (take index nodes) (node ∷ []) []) ∙ ap (λ l. built l []) (sym more))

pub arguments_shallow : (parts : List Part) (kept limit : ℕ) → deepest_part parts ≤ limit → deepest_part (drop kept parts) ≤ limit
arguments_shallow parts kept limit shallow =
    omega (arith, ap deepest_part (take-append-drop kept parts), deepest_part-append (take kept parts) (drop kept parts))

pub shallow_step : (shape : Shape) (parts : List Part) (kept limit : ℕ) → deepest_part parts ≤ limit
    → deepest_part (take kept parts ++ part_of_root shape (drop kept parts) ∷ []) ≤ limit + 1
shallow_step shape parts kept limit shallow =
    let root = part_of_root shape (drop kept parts) in
    omega (
      arith,
      ap deepest_part (take-append-drop kept parts),
      deepest_part-append (take kept parts) (drop kept parts),
      deepest_part-append (take kept parts) (root ∷ []),
      joined_shallow (chain_name_of shape) (drop kept parts),
      greater_max root.nesting 0,
    )

-- the parts from an index on
pub rest_is : (items parts : List Part) (kept : ℕ) → items ≡ parts → take (length items - kept) (drop kept items) ≡ drop kept parts
rest_is items parts kept same =
    take_rest items kept ∙ ap (drop kept) same
