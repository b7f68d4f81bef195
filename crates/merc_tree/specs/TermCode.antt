-- The nodes of terms stand for these terms, by which the logic stores a term.
use Rattle.std.specs.Prelude.{◌≡◌, ℕ, ◌-◌, List, [], ◌∷◌, ◌++◌, length, take, drop, Option, refl}
use Rattle.std.specs.Coded.{Coded, code_by, coded_list}
use Rattle.std.proofs.Common.{◌∙◌, ap, sym}
use Rattle.std.proofs.Math.Nat.{add-sub_cancel}
use Rattle.std.proofs.Math.Seq.{take-append_seam, drop-append_seam}
use Rattle.std.proofs.lemmas.List.{length-append, append_assoc, append-nil}
use Rattle.merc_base.specs.declared.place.Span.{Span}
use Rattle.merc_tree.specs.Term.{Term, Variable, Integer, Text, Application, Terms, none, more, terms_of, list_of, applied}
use Rattle.merc_tree.specs.declared.term.Node.{Node}
use Rattle.merc_tree.specs.contracts.term.Node as node
use Rattle.merc_tree.specs.Nodes.{with_root, built, first_of, term_of, nodes_of, argument_nodes}

pub terms_of-list_of : (terms : Terms) → terms_of (list_of terms) ≡ terms
terms_of-list_of none = refl
terms_of-list_of (more first rest) = ap (more first) (terms_of-list_of rest)

-- nodes one after the other
pub built-append : (front back : List Node) (terms : List Term) → built (front ++ back) terms ≡ built back (built front terms)
built-append [] back terms = refl
built-append (node ∷ front) back terms = built-append front back (with_root node.shape node.span terms)

-- the arguments stand last
pub applied_last : (name : ℕ) (qualifier : Option ℕ) (span : Span) (terms last : List Term)
    → applied name qualifier (length last) span (terms ++ last) ≡ terms ++ Application name qualifier (terms_of last) span ∷ []
applied_last name qualifier span terms last =
    let before : length (terms ++ last) - length last ≡ length terms =
    ap (λ n. n - length last) (length-append terms last) ∙ add-sub_cancel (length terms) (length last) in
    ap (λ n. take n (terms ++ last) ++ Application name qualifier (terms_of (drop n (terms ++ last))) span ∷ []) before
    ∙ ap (λ front. front ++ Application name qualifier (terms_of (drop (length terms) (terms ++ last))) span ∷ []) (take-append_seam terms last)
    ∙ ap (λ back. terms ++ Application name qualifier (terms_of back) span ∷ []) (drop-append_seam terms last)

mutual
  pub built-nodes_of : (term : Term) (terms : List Term) → built (nodes_of term) terms ≡ terms ++ term ∷ []
  built-nodes_of (Variable name span) terms = refl
  built-nodes_of (Integer value span) terms = refl
  built-nodes_of (Text text span) terms = refl
  built-nodes_of (Application name qualifier arguments span) terms =
      built-append (argument_nodes arguments) _ terms
      ∙ ap (applied name qualifier (length (list_of arguments)) span) (built-argument_nodes arguments terms)
      ∙ applied_last name qualifier span terms (list_of arguments)
      ∙ ap (λ last. terms ++ Application name qualifier last span ∷ []) (terms_of-list_of arguments)

  pub built-argument_nodes : (arguments : Terms) (terms : List Term) → built (argument_nodes arguments) terms ≡ terms ++ list_of arguments
  built-argument_nodes none terms = sym (append-nil terms)
  built-argument_nodes (more first rest) terms =
      built-append (nodes_of first) (argument_nodes rest) terms
      ∙ ap (built (argument_nodes rest)) (built-nodes_of first terms)
      ∙ built-argument_nodes rest (terms ++ first ∷ [])
      ∙ append_assoc terms (first ∷ []) (list_of rest)

pub term_of-nodes_of : (term : Term) → term_of (nodes_of term) ≡ term
term_of-nodes_of term = ap first_of (built-nodes_of term [])

-- a term is stored as its nodes
abbrev pub term_code : Coded Term
term_code = code_by (List Node) (coded_list node.the_row.coded) nodes_of term_of term_of-nodes_of

abbrev pub terms_code : Coded (List Term)
terms_code = coded_list term_code
