-- What the nodes of terms are once terms are taken apart, put together, or given a root.
use Rattle.std.proofs.Common.{◌≡◌, ℕ, suc, zero, ◌+◌, ◌-◌, ◌<◌, ◌≤◌, List, [], ◌∷◌, ◌++◌, length, take, drop, get_or, Some, refl, ap, sym, ◌∙◌, arith}
use Rattle.std.specs.List.{slice_get, slice_range}
use Rattle.std.proofs.Math.Nat.{sub-zero}
use Rattle.std.proofs.Math.Seq.{take-length, drop-length, take-append_seam, drop-append_seam, get_or-append_seam, set-append_seam}
use Rattle.std.proofs.Math.ListN.{set}
use Rattle.std.proofs.lemmas.List.{length-append, length-drop, append_assoc, append-nil, take-append-drop}
use Rattle.merc_base.specs.declared.place.Span.{Span}
use Rattle.merc_tree.specs.Term.{Term, Variable, Integer, Text, Application, Terms, none, more, terms_of, list_of, enclosed, with_span, span_of}
use Rattle.merc_tree.specs.Shape.{shape_of, arguments_of}
use Rattle.merc_tree.specs.declared.term.Node.{Node}
use Rattle.merc_tree.specs.declared.term.Shape.{Shape}
use Rattle.merc_tree.specs.declared.term.Shape.TheVariants.{Variable as VariableShape, Integer as IntegerShape, Text as TextShape, Application as ApplicationShape}
use Rattle.merc_tree.specs.Nodes.{with_root, arity_of, built, first_of, term_of, root, nodes_of, argument_nodes, all_nodes, starts_from, IsTerm, AreTerms}
use Rattle.merc_tree.specs.TermCode.{built-append, built-nodes_of, term_of-nodes_of}

-- terms and their nodes

pub list_of-terms_of : (terms : List Term) → list_of (terms_of terms) ≡ terms
list_of-terms_of [] = refl
list_of-terms_of (first ∷ rest) = ap (λ l. first ∷ l) (list_of-terms_of rest)

pub argument_nodes-terms_of : (terms : List Term) → argument_nodes (terms_of terms) ≡ all_nodes terms
argument_nodes-terms_of [] = refl
argument_nodes-terms_of (first ∷ rest) = ap (λ nodes. nodes_of first ++ nodes) (argument_nodes-terms_of rest)

pub argument_nodes-all : (arguments : Terms) → argument_nodes arguments ≡ all_nodes (list_of arguments)
argument_nodes-all none = refl
argument_nodes-all (more first rest) = ap (λ nodes. nodes_of first ++ nodes) (argument_nodes-all rest)

pub all_nodes-append : (front back : List Term) → all_nodes (front ++ back) ≡ all_nodes front ++ all_nodes back
all_nodes-append [] back = refl
all_nodes-append (first ∷ front) back =
    ap (λ nodes. nodes_of first ++ nodes) (all_nodes-append front back) ∙ sym (append_assoc (nodes_of first) (all_nodes front) (all_nodes back))

pub built-all_nodes : (terms before : List Term) → built (all_nodes terms) before ≡ before ++ terms
built-all_nodes [] before = sym (append-nil before)
built-all_nodes (first ∷ rest) before =
    built-append (nodes_of first) (all_nodes rest) before
    ∙ ap (built (all_nodes rest)) (built-nodes_of first before)
    ∙ built-all_nodes rest (before ++ first ∷ [])
    ∙ append_assoc before (first ∷ []) rest

-- nodes that are those of terms stand for them
pub built_from : (nodes : List Node) (terms : List Term) → nodes ≡ all_nodes terms → built nodes [] ≡ terms
built_from nodes terms same = ap (λ n. built n []) same ∙ built-all_nodes terms []

pub AreTerms_from : (nodes : List Node) (terms : List Term) → nodes ≡ all_nodes terms → AreTerms nodes
AreTerms_from nodes terms same = ap all_nodes (built_from nodes terms same) ∙ sym same

-- starts

pub length-starts_from : (start : ℕ) (terms : List Term) → length (starts_from start terms) ≡ length terms
length-starts_from start [] = refl
length-starts_from start (first ∷ rest) = ap suc (length-starts_from (start + length (nodes_of first)) rest)

pub starts_from-take : (count start : ℕ) (terms : List Term) → take count (starts_from start terms) ≡ starts_from start (take count terms)
starts_from-take zero start [] = refl
starts_from-take (suc count) start [] = refl
starts_from-take zero start (first ∷ rest) = refl
starts_from-take (suc count) start (first ∷ rest) = ap (λ starts. start ∷ starts) (starts_from-take count (start + length (nodes_of first)) rest)

pub starts_from-last : (start : ℕ) (terms : List Term) (last : Term)
    → starts_from start (terms ++ last ∷ []) ≡ starts_from start terms ++ (start + length (all_nodes terms)) ∷ []
starts_from-last start [] last = ap (λ n. n ∷ []) (omega arith)
starts_from-last start (first ∷ rest) last =
    let more_nodes : start + length (nodes_of first) + length (all_nodes rest) ≡ start + length (nodes_of first ++ all_nodes rest) = omega (arith, length-append (nodes_of first) (all_nodes rest)) in
    ap (λ starts. start ∷ starts) (starts_from-last (start + length (nodes_of first)) rest last
    ∙ ap (λ n. starts_from (start + length (nodes_of first)) rest ++ n ∷ []) more_nodes)

pub start_at : (count start : ℕ) (terms : List Term) (end : ℕ) → count ≤ length terms → end ≡ start + length (all_nodes terms)
    → get_or (starts_from start terms) count end ≡ start + length (all_nodes (take count terms))
start_at zero start [] end within is_end = is_end
start_at (suc count) start [] end within is_end = absurd (omega arith)
start_at zero start (first ∷ rest) end within is_end = omega arith
start_at (suc count) start (first ∷ rest) end within is_end =
    let nodes = nodes_of first in
    let behind : end ≡ start + length nodes + length (all_nodes rest) = omega (arith, is_end, length-append nodes (all_nodes rest)) in
    start_at count (start + length nodes) rest end (omega arith) behind ∙ omega (arith, length-append nodes (all_nodes (take count rest)))

-- the last terms of these are the arguments of a root
pub record Rooted (shape : Shape) (span : Span) (terms : List Term) : Type 0 where
  pub made : Term
  pub terms_are : with_root shape span terms ≡ take (length terms - arity_of shape) terms ++ made ∷ []
  pub nodes_are : nodes_of made ≡ root shape span (all_nodes (drop (length terms - arity_of shape) terms))

leaf-terms : (terms : List Term) (made : Term) → terms ++ made ∷ [] ≡ take (length terms - 0) terms ++ made ∷ []
leaf-terms terms made = ap (λ l. l ++ made ∷ []) (sym (ap (λ n. take n terms) (sub-zero (length terms)) ∙ take-length terms))

leaf-nodes : (shape : Shape) (span : Span) (terms : List Term) → root shape span [] ≡ root shape span (all_nodes (drop (length terms - 0) terms))
leaf-nodes shape span terms = ap (λ l. root shape span (all_nodes l)) (sym (ap (λ n. drop n terms) (sub-zero (length terms)) ∙ drop-length terms))

pub rooted : (shape : Shape) (span : Span) (terms : List Term) → arity_of shape ≤ length terms → Rooted shape span terms
rooted (VariableShape name) span terms enough =
    record { made = Variable name span; terms_are = leaf-terms terms _; nodes_are = leaf-nodes (VariableShape name) span terms }
rooted (IntegerShape value) span terms enough =
    record { made = Integer value span; terms_are = leaf-terms terms _; nodes_are = leaf-nodes (IntegerShape value) span terms }
rooted (TextShape text) span terms enough =
    record { made = Text text span; terms_are = leaf-terms terms _; nodes_are = leaf-nodes (TextShape text) span terms }
rooted (ApplicationShape name qualifier arity) span terms enough =
    let last = drop (length terms - arity) terms in
    let count : length (list_of (terms_of last)) ≡ arity =
    ap length (list_of-terms_of last) ∙ length-drop (length terms - arity) terms ∙ omega (arith, enough) in
    record {
      made = Application name qualifier (terms_of last) span;
      terms_are = refl;
      nodes_are = ap (λ n. root (ApplicationShape name qualifier n) span (argument_nodes (terms_of last))) count
          ∙ ap (root (ApplicationShape name qualifier arity) span) (argument_nodes-terms_of last);
    }

-- a root behind the nodes of terms
module _ (terms : List Term) (nodes : List Node) (starts : List ℕ) (are : all_nodes terms ≡ nodes) (start : starts ≡ starts_from 0 terms) where
  front_and_back : (count : ℕ) → nodes ≡ all_nodes (take count terms) ++ all_nodes (drop count terms)
  front_and_back count =
      sym are ∙ ap all_nodes (sym (take-append-drop count terms)) ∙ all_nodes-append (take count terms) (drop count terms)

  pub start_is : (count : ℕ) → count ≤ length terms → get_or starts count (length nodes) ≡ length (all_nodes (take count terms))
  start_is count within =
      ap (λ s. get_or s count (length nodes)) start ∙ start_at count 0 terms (length nodes) within (ap length (sym are) ∙ omega arith) ∙ omega arith

  pub start_within : (count : ℕ) → count ≤ length terms → get_or starts count (length nodes) ≤ length nodes
  start_within count within =
      omega (arith, start_is count within, ap length (front_and_back count), length-append (all_nodes (take count terms)) (all_nodes (drop count terms)))

  module _ (shape : Shape) (span : Span) (enough : arity_of shape ≤ length terms) (kept : ℕ) (kept_is : kept ≡ length terms - arity_of shape) where
    abbrev root_node : Node
    root_node = record { shape = shape; span = span; size = length nodes - get_or starts kept (length nodes) + 1 }

    pub nodes_behind : nodes ++ root_node ∷ [] ≡ all_nodes (with_root shape span terms)
    nodes_behind =
        let made = rooted shape span terms enough in
        let kept_terms = take (length terms - arity_of shape) terms in
        let last = drop (length terms - arity_of shape) terms in
        let parts : nodes ≡ all_nodes kept_terms ++ all_nodes last = front_and_back (length terms - arity_of shape) in
        let at : get_or starts kept (length nodes) ≡ length (all_nodes kept_terms) =
        ap (λ k. get_or starts k (length nodes)) kept_is ∙ start_is (length terms - arity_of shape) (omega arith) in
        let size : length nodes - get_or starts kept (length nodes) + 1 ≡ suc (length (all_nodes last)) =
        omega (arith, at, ap length parts, length-append (all_nodes kept_terms) (all_nodes last)) in
        ap (λ n. nodes ++ record { shape = shape; span = span; size = n } ∷ []) size
        ∙ ap (λ l. l ++ record { shape = shape; span = span; size = suc (length (all_nodes last)) } ∷ []) parts
        ∙ append_assoc (all_nodes kept_terms) (all_nodes last) _
        ∙ ap (λ l. all_nodes kept_terms ++ l) (sym made.nodes_are ∙ sym (append-nil (nodes_of made.made)))
        ∙ sym (all_nodes-append kept_terms (made.made ∷ []))
        ∙ ap all_nodes (sym made.terms_are)

    pub starts_behind : take kept starts ++ get_or starts kept (length nodes) ∷ [] ≡ starts_from 0 (with_root shape span terms)
    starts_behind =
        let made = rooted shape span terms enough in
        let before = length terms - arity_of shape in
        let at : get_or starts kept (length nodes) ≡ 0 + length (all_nodes (take before terms)) =
        ap (λ k. get_or starts k (length nodes)) kept_is ∙ start_is before (omega arith) ∙ omega arith in
        ap (λ n. take kept starts ++ n ∷ []) at
        ∙ ap (λ l. l ++ (0 + length (all_nodes (take before terms))) ∷ []) (ap (λ k. take k starts) kept_is ∙ ap (take before) start ∙ starts_from-take before 0 terms)
        ∙ sym (starts_from-last 0 (take before terms) made.made)
        ∙ ap (starts_from 0) (sym made.terms_are)

-- one term alone

pub only_term : (terms : List Term) → length terms ≡ 1 → terms ≡ first_of terms ∷ []
only_term [] one = absurd (omega arith)
only_term (term ∷ []) one = refl
only_term (term ∷ next ∷ rest) one = absurd (omega arith)

pub only_nodes : (nodes : List Node) → AreTerms nodes → length (built nodes []) ≡ 1 → IsTerm nodes
only_nodes nodes are one =
    sym (append-nil (nodes_of (term_of nodes))) ∙ ap all_nodes (sym (only_term (built nodes []) one)) ∙ are

-- the last of terms

abbrev pub root_of : Term → Node
root_of term = record { shape = shape_of term; span = span_of term; size = length (nodes_of term) }

pub root_last : (term : Term) → nodes_of term ≡ all_nodes (arguments_of term) ++ root_of term ∷ []
root_last (Variable name span) = refl
root_last (Integer value span) = refl
root_last (Text text span) = refl
root_last (Application name qualifier arguments span) =
    let nodes = argument_nodes arguments in
    let shape = shape_of (Application name qualifier arguments span) in
    let made : Node = record { shape = shape; span = span; size = suc (length nodes) } in
    let size : suc (length nodes) ≡ length (nodes ++ made ∷ []) = omega (arith, length-append nodes (made ∷ [])) in
    ap (λ n. nodes ++ record { shape = shape; span = span; size = n } ∷ []) size
    ∙ ap (λ l. l ++ root_of (Application name qualifier arguments span) ∷ []) (argument_nodes-all arguments)

pub root_enclosed : (span : Span) (term : Term)
    → nodes_of (with_span span term) ≡ all_nodes (arguments_of term) ++ record { shape = shape_of term; span = span; size = length (nodes_of term) } ∷ []
root_enclosed span (Variable name old) = refl
root_enclosed span (Integer value old) = refl
root_enclosed span (Text text old) = refl
root_enclosed span (Application name qualifier arguments old) =
    root_last (Application name qualifier arguments span)
    ∙ ap (λ n. all_nodes (list_of arguments) ++ record { shape = shape_of (Application name qualifier arguments old); span = span; size = n } ∷ [])
    (length-append (argument_nodes arguments) _ ∙ sym (length-append (argument_nodes arguments) _))

pub record Last (terms : List Term) : Type 0 where
  pub front : List Term
  pub last : Term
  pub are : terms ≡ front ++ last ∷ []

pub last_of : (terms : List Term) → 0 < length terms → Last terms
last_of [] some = absurd (omega arith)
last_of (only ∷ []) some = record { front = []; last = only; are = refl }
last_of (first ∷ next ∷ rest) some =
    let found = last_of (next ∷ rest) (omega arith) in
    record { front = first ∷ found.front; last = found.last; are = ap (λ l. first ∷ l) found.are }

pub enclosed_last : (span : Span) (front : List Term) (last : Term) → enclosed span (front ++ last ∷ []) ≡ front ++ with_span span last ∷ []
enclosed_last span [] last = refl
enclosed_last span (only ∷ []) last = refl
enclosed_last span (first ∷ next ∷ rest) last = ap (λ l. first ∷ l) (enclosed_last span (next ∷ rest) last)

-- the nodes of terms end with the last one's root
pub all_nodes-last : (front : List Term) (last : Term) (root : Node) (inner : List Node) → nodes_of last ≡ inner ++ root ∷ []
    → all_nodes (front ++ last ∷ []) ≡ (all_nodes front ++ inner) ++ root ∷ []
all_nodes-last front last root inner nodes_are =
    all_nodes-append front (last ∷ [])
    ∙ ap (λ l. all_nodes front ++ l) (append-nil (nodes_of last) ∙ nodes_are)
    ∙ sym (append_assoc (all_nodes front) inner (root ∷ []))

module _ (span : Span) (terms : List Term) (nodes : List Node) (are : all_nodes terms ≡ nodes) (some : 0 < length nodes) where
  some_terms : 0 < length terms
  some_terms = elim terms as (λ t. all_nodes t ≡ nodes → 0 < length t) [ [] ↦ (λ e. absurd (omega (arith, ap length e))) | first ∷ rest ↦ (λ e. omega arith) ] are

  pub enclosed_nodes : (index : ℕ) (node : Node) → index ≡ length nodes - 1 → node ≡ get_or nodes index node
      → set nodes index (record { shape = node.shape; span = span; size = node.size }) ≡ all_nodes (enclosed span terms)
  enclosed_nodes index node index_is node_is =
      let found = last_of terms some_terms in
      let inner = all_nodes found.front ++ all_nodes (arguments_of found.last) in
      let nodes_are : nodes ≡ inner ++ root_of found.last ∷ [] =
      sym are ∙ ap all_nodes found.are ∙ all_nodes-last found.front found.last _ _ (root_last found.last) in
      let index_at : index ≡ length inner = omega (arith, index_is, ap length nodes_are, length-append inner (root_of found.last ∷ [])) in
      let node_at : node ≡ root_of found.last =
      node_is ∙ ap (λ l. get_or l index node) nodes_are ∙ ap (λ i. get_or (inner ++ root_of found.last ∷ []) i node) index_at ∙ get_or-append_seam inner (root_of found.last) [] node in
      ap (λ n. set nodes index (record { shape = n.shape; span = span; size = n.size })) node_at
      ∙ ap (λ l. set l index (record { shape = shape_of found.last; span = span; size = length (nodes_of found.last) })) nodes_are
      ∙ ap (λ i. set (inner ++ root_of found.last ∷ []) i (record { shape = shape_of found.last; span = span; size = length (nodes_of found.last) })) index_at
      ∙ set-append_seam inner (root_of found.last) [] _
      ∙ sym (all_nodes-last found.front (with_span span found.last) _ _ (root_enclosed span found.last))
      ∙ ap all_nodes (sym (enclosed_last span found.front found.last) ∙ ap (enclosed span) (sym found.are))

  pub enclosed_starts : starts_from 0 terms ≡ starts_from 0 (enclosed span terms)
  enclosed_starts =
      let found = last_of terms some_terms in
      ap (starts_from 0) found.are
      ∙ starts_from-last 0 found.front found.last
      ∙ sym (starts_from-last 0 found.front (with_span span found.last))
      ∙ ap (starts_from 0) (sym (enclosed_last span found.front found.last) ∙ ap (enclosed span) (sym found.are))

-- one of terms, by its index

pub record Place (terms : List Term) (index : ℕ) : Type 0 where
  pub term : Term
  pub is : slice_get terms index ≡ Some term
  pub next : take (suc index) terms ≡ take index terms ++ term ∷ []

pub place : (terms : List Term) (index : ℕ) → index < length terms → Place terms index
place [] index within = absurd (omega arith)
place (first ∷ rest) zero within = record { term = first; is = refl; next = refl }
place (first ∷ rest) (suc index) within =
    let found = place rest index (omega arith) in
    record { term = found.term; is = found.is; next = ap (λ l. first ∷ l) found.next }

pub cut_between : (front middle back : List Node) (nodes : List Node) (start end : ℕ) → nodes ≡ front ++ (middle ++ back) → start ≡ length front → end ≡ length front + length middle
    → slice_range nodes start end ≡ middle
cut_between front middle back nodes start end nodes_are start_is end_is =
    let size : end - start ≡ length middle = omega arith in
    ap (λ n. take n (drop start nodes)) size
    ∙ ap (λ n. take (length middle) (drop n nodes)) start_is
    ∙ ap (λ l. take (length middle) (drop (length front) l)) nodes_are
    ∙ ap (take (length middle)) (drop-append_seam front (middle ++ back))
    ∙ take-append_seam middle back

-- the nodes of one of terms
pub record Between (terms : List Term) (nodes : List Node) (starts : List ℕ) (index start end : ℕ) : Type 0 where
  pub term : Term
  pub is : slice_get terms index ≡ Some term
  pub order : start ≤ end
  pub within : end ≤ length nodes
  pub nodes_are : slice_range nodes start end ≡ nodes_of term

pub between : (terms : List Term) (nodes : List Node) (starts : List ℕ) (index start end : ℕ) → all_nodes terms ≡ nodes → starts ≡ starts_from 0 terms → index < length terms
    → start ≡ get_or starts index (length nodes) → end ≡ get_or starts (index + 1) (length nodes) → Between terms nodes starts index start end
between terms nodes starts index start end are starts_are inside start_at end_at =
    let found = place terms index inside in
    let front = all_nodes (take index terms) in
    let back = all_nodes (drop (suc index) terms) in
    let next_nodes : all_nodes (take (suc index) terms) ≡ front ++ nodes_of found.term =
    ap all_nodes found.next ∙ all_nodes-append (take index terms) (found.term ∷ []) ∙ ap (λ l. front ++ l) (append-nil (nodes_of found.term)) in
    let whole : nodes ≡ front ++ (nodes_of found.term ++ back) =
    front_and_back terms nodes starts are starts_are (suc index) ∙ ap (λ l. l ++ back) next_nodes ∙ append_assoc front (nodes_of found.term) back in
    let start_length : start ≡ length front = start_at ∙ start_is terms nodes starts are starts_are index (omega arith) in
    let end_length : end ≡ length front + length (nodes_of found.term) =
    end_at ∙ ap (λ k. get_or starts k (length nodes)) (omega arith) ∙ start_is terms nodes starts are starts_are (suc index) (omega arith)
    ∙ ap length next_nodes ∙ length-append front (nodes_of found.term) in
    record {
      term = found.term;
      is = found.is;
      order = omega arith;
      within = omega (arith, ap length whole, length-append front (nodes_of found.term ++ back), length-append (nodes_of found.term) back);
      nodes_are = cut_between front (nodes_of found.term) back nodes start end whole start_length end_length;
    }

-- nodes that are those of a term stand for it
pub term_from : (nodes : List Node) (term : Term) → nodes ≡ nodes_of term → term_of nodes ≡ term
term_from nodes term same = ap term_of same ∙ term_of-nodes_of term

pub IsTerm_from : (nodes : List Node) (term : Term) → nodes ≡ nodes_of term → IsTerm nodes
IsTerm_from nodes term same = ap nodes_of (term_from nodes term same) ∙ sym same

-- the root of terms' last one, and what stands before it

pub root_is : (nodes inner : List Node) (root other : Node) → nodes ≡ take (length nodes - 1) nodes ++ root ∷ [] → nodes ≡ inner ++ other ∷ [] → root ≡ other
root_is nodes inner root other whole parts =
    let before = take (length nodes - 1) nodes in
    let size : length before ≡ length inner = omega (arith, ap length whole, ap length parts, length-append before (root ∷ []), length-append inner (other ∷ [])) in
    sym (get_or-append_seam before root [] root)
    ∙ ap (λ l. get_or l (length before) root) (sym whole ∙ parts)
    ∙ ap (λ n. get_or (inner ++ other ∷ []) n root) size
    ∙ get_or-append_seam inner other [] root

pub argument_part : (nodes : List Node) (term : Term) → IsTerm nodes → term ≡ term_of nodes → slice_range nodes 0 (length nodes - 1) ≡ all_nodes (arguments_of term)
argument_part nodes term is same =
    let parts : nodes ≡ all_nodes (arguments_of term) ++ root_of term ∷ [] = sym is ∙ ap nodes_of (sym same) ∙ root_last term in
    cut_between [] (all_nodes (arguments_of term)) (root_of term ∷ []) nodes 0 (length nodes - 1) parts refl
    (omega (arith, ap length parts, length-append (all_nodes (arguments_of term)) (root_of term ∷ [])))

pub term_root : (nodes : List Node) (term : Term) (root : Node) → IsTerm nodes → term ≡ term_of nodes → nodes ≡ take (length nodes - 1) nodes ++ root ∷ [] → root ≡ root_of term
term_root nodes term root is same whole = root_is nodes (all_nodes (arguments_of term)) root (root_of term) whole (sym is ∙ ap nodes_of (sym same) ∙ root_last term)

pub record LastCut (terms : List Term) (nodes : List Node) (root : Node) : Type 0 where
  pub front : List Term
  pub last : Term
  pub are : terms ≡ front ++ last ∷ []
  pub size : root.size ≤ length nodes
  pub front_nodes : slice_range nodes 0 (length nodes - root.size) ≡ all_nodes front
  pub last_nodes : slice_range nodes (length nodes - root.size) (length nodes) ≡ nodes_of last

pub last_cut : (terms : List Term) (nodes : List Node) (root : Node) → all_nodes terms ≡ nodes → 0 < length terms → nodes ≡ take (length nodes - 1) nodes ++ root ∷ []
    → LastCut terms nodes root
last_cut terms nodes root are some whole =
    let found = last_of terms some in
    let front = all_nodes found.front in
    let parts : nodes ≡ (front ++ all_nodes (arguments_of found.last)) ++ root_of found.last ∷ [] =
    sym are ∙ ap all_nodes found.are ∙ all_nodes-last found.front found.last _ _ (root_last found.last) in
    let both : nodes ≡ front ++ nodes_of found.last =
    parts ∙ append_assoc front (all_nodes (arguments_of found.last)) (root_of found.last ∷ []) ∙ ap (λ l. front ++ l) (sym (root_last found.last)) in
    let root_same : root ≡ root_of found.last = root_is nodes _ root (root_of found.last) whole parts in
    let size : root.size ≡ length (nodes_of found.last) = ap (λ n. n.size) root_same in
    let lengths : length nodes ≡ length front + length (nodes_of found.last) = ap length both ∙ length-append front (nodes_of found.last) in
    record {
      front = found.front;
      last = found.last;
      are = found.are;
      size = omega arith;
      front_nodes = cut_between [] front (nodes_of found.last) nodes 0 (length nodes - root.size) both refl (omega arith);
      last_nodes = cut_between front (nodes_of found.last) [] nodes (length nodes - root.size) (length nodes) (both ∙ ap (λ l. front ++ l) (sym (append-nil (nodes_of found.last)))) (omega arith) lengths;
    }

pub arity_of-shape_of : (term : Term) → arity_of (shape_of term) ≡ length (arguments_of term)
arity_of-shape_of (Variable name span) = refl
arity_of-shape_of (Integer value span) = refl
arity_of-shape_of (Text text span) = refl
arity_of-shape_of (Application name qualifier arguments span) = refl
