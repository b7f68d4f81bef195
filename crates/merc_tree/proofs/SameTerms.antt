-- Terms are the same, spans aside, where the shapes of their nodes are.
use Rattle.std.proofs.Common.{◌≡◌, ◌↔◌, ℕ, suc, ◌-◌, List, [], ◌∷◌, ◌++◌, length, map, take, drop, Option, refl, ap, sym, ◌∙◌}
use Rattle.std.proofs.lemmas.List.{map-append, take-map, drop-map, length-map}
use Rattle.merc_base.specs.declared.place.Span.{Span}
use Rattle.merc_tree.specs.Term.{Term, Variable, Integer, Text, Application, Terms, none, more, terms_of, list_of, applied, bare, bare_all, no_span}
use Rattle.merc_tree.specs.declared.term.Node.{Node}
use Rattle.merc_tree.specs.declared.term.Shape.{Shape}
use Rattle.merc_tree.specs.declared.term.Shape.TheVariants.{Variable as VariableShape, Integer as IntegerShape, Text as TextShape, Application as ApplicationShape}
use Rattle.merc_tree.specs.Nodes.{with_root, built, first_of, term_of, nodes_of, argument_nodes, shapes, IsTerm}
use Rattle.merc_tree.specs.TermCode.{built-nodes_of}

-- a term has the shapes that it has without its spans

length-bare_all : (arguments : Terms) → length (list_of (bare_all arguments)) ≡ length (list_of arguments)
length-bare_all none = refl
length-bare_all (more first rest) = ap suc (length-bare_all rest)

mutual
  shapes-bare : (term : Term) → shapes (nodes_of (bare term)) ≡ shapes (nodes_of term)
  shapes-bare (Variable name span) = refl
  shapes-bare (Integer value span) = refl
  shapes-bare (Text text span) = refl
  shapes-bare (Application name qualifier arguments span) =
      map-append (λ n. n.shape) (argument_nodes (bare_all arguments)) _
      ∙ ap (λ l. l ++ ApplicationShape name qualifier (length (list_of (bare_all arguments))) ∷ []) (shapes-bare_all arguments)
      ∙ ap (λ n. shapes (argument_nodes arguments) ++ ApplicationShape name qualifier n ∷ []) (length-bare_all arguments)
      ∙ sym (map-append (λ n. n.shape) (argument_nodes arguments) _)

  shapes-bare_all : (arguments : Terms) → shapes (argument_nodes (bare_all arguments)) ≡ shapes (argument_nodes arguments)
  shapes-bare_all none = refl
  shapes-bare_all (more first rest) =
      map-append (λ n. n.shape) (nodes_of (bare first)) (argument_nodes (bare_all rest))
      ∙ ap (λ l. l ++ shapes (argument_nodes (bare_all rest))) (shapes-bare first)
      ∙ ap (λ l. shapes (nodes_of first) ++ l) (shapes-bare_all rest)
      ∙ sym (map-append (λ n. n.shape) (nodes_of first) (argument_nodes rest))

-- nodes of the same shapes stand for terms that are the same, spans aside

terms_of-bare : (terms : List Term) → bare_all (terms_of terms) ≡ terms_of (map bare terms)
terms_of-bare [] = refl
terms_of-bare (first ∷ rest) = ap (more (bare first)) (terms_of-bare rest)

applied-bare : (name : ℕ) (qualifier : Option ℕ) (arity : ℕ) (span : Span) (terms : List Term)
    → map bare (applied name qualifier arity span terms) ≡ applied name qualifier arity no_span (map bare terms)
applied-bare name qualifier arity span terms =
    let before = length terms - arity in
    map-append bare (take before terms) (Application name qualifier (terms_of (drop before terms)) span ∷ [])
    ∙ ap (λ l. l ++ Application name qualifier (bare_all (terms_of (drop before terms))) no_span ∷ []) (sym (take-map bare before terms))
    ∙ ap (λ l. take before (map bare terms) ++ Application name qualifier l no_span ∷ []) (terms_of-bare (drop before terms) ∙ ap terms_of (sym (drop-map bare before terms)))
    ∙ ap (λ n. take (n - arity) (map bare terms) ++ Application name qualifier (terms_of (drop (n - arity) (map bare terms))) no_span ∷ []) (sym (length-map terms bare))

with_root-bare : (shape : Shape) (span : Span) (terms : List Term) → map bare (with_root shape span terms) ≡ with_root shape no_span (map bare terms)
with_root-bare (VariableShape name) span terms = map-append bare terms _
with_root-bare (IntegerShape value) span terms = map-append bare terms _
with_root-bare (TextShape text) span terms = map-append bare terms _
with_root-bare (ApplicationShape name qualifier arity) span terms = applied-bare name qualifier arity span terms

built-bare : (nodes others : List Node) (terms other_terms : List Term) → shapes nodes ≡ shapes others → map bare terms ≡ map bare other_terms
    → map bare (built nodes terms) ≡ map bare (built others other_terms)
built-bare [] [] terms other_terms same_shapes same = same
built-bare [] (other ∷ others) terms other_terms same_shapes same = cc
built-bare (node ∷ nodes) [] terms other_terms same_shapes same = cc
built-bare (node ∷ nodes) (other ∷ others) terms other_terms same_shapes same =
    let heads : node.shape ≡ other.shape = cc in
    let tails : shapes nodes ≡ shapes others = cc in
    built-bare nodes others (with_root node.shape node.span terms) (with_root other.shape other.span other_terms) tails
    (with_root-bare node.shape node.span terms
    ∙ ap (λ s. with_root s no_span (map bare terms)) heads
    ∙ ap (with_root other.shape no_span) same
    ∙ sym (with_root-bare other.shape other.span other_terms))

pub same_by_shapes : (term other : Term) → shapes (nodes_of term) ≡ shapes (nodes_of other) → bare term ≡ bare other
same_by_shapes term other same =
    ap first_of (ap (map bare) (sym (built-nodes_of term [])) ∙ built-bare (nodes_of term) (nodes_of other) [] [] same refl ∙ ap (map bare) (built-nodes_of other []))

pub same_exactly : (nodes others : List Node) → IsTerm nodes → IsTerm others → (shapes nodes ≡ shapes others) ↔ (bare (term_of nodes) ≡ bare (term_of others))
same_exactly nodes others is are = (
  λ same. same_by_shapes (term_of nodes) (term_of others) (ap shapes is ∙ same ∙ ap shapes (sym are)),
  λ same. ap shapes (sym is) ∙ sym (shapes-bare (term_of nodes)) ∙ ap (λ t. shapes (nodes_of t)) same ∙ shapes-bare (term_of others) ∙ ap shapes are,
)
