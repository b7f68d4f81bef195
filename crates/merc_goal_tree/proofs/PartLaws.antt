-- The parts of a goal are the roots and spans of its entries.
use Rattle.std.proofs.Common.{◌≡◌, List, [], ◌∷◌, ◌++◌, length, refl, ap, sym, ◌∙◌}
use Rattle.std.proofs.lemmas.List.{map-append, length-map, append_assoc, append-nil}
use Rattle.merc_base.specs.declared.place.Span.{Span}
use Rattle.merc_goal_tree.specs.declared.entries.Entry.{Entry}
use Rattle.merc_goal_tree.specs.declared.entries.Root.{Root}
use Rattle.merc_goal_tree.specs.Nodes.{Node, Nodes, Simple, Conjunction, Parallel, Disjunction, Conditional, Negation, Quantified, no_nodes, more_nodes}
use Rattle.merc_goal_tree.specs.Roots.{root_of}
use Rattle.merc_goal_tree.specs.Parts.{parts_of, all_parts, parts_in}
use Rattle.merc_goal_tree.specs.Entries.{node_of, closed, entries_of, joined_entries, IsNode}

behind : (inner : List Entry) (parts : List (Root × Span)) (root : Root) (span : Span) → parts_in inner ≡ parts
    → parts_in (closed root span inner) ≡ parts ++ (root, span) ∷ []
behind inner parts root span same = map-append (λ e. (e.root, e.span)) inner _ ∙ ap (λ l. l ++ (root, span) ∷ []) same

before : (first : Node) (back : List Entry) (parts : List (Root × Span)) → parts_in (entries_of first) ≡ parts_of first → parts_in back ≡ parts
    → parts_in (entries_of first ++ back) ≡ parts_of first ++ parts
before first back parts one others =
    map-append (λ e. (e.root, e.span)) (entries_of first) back
    ∙ ap (λ l. l ++ parts_in back) one ∙ ap (λ l. parts_of first ++ l) others

mutual
  parts_in-entries_of : (node : Node) → parts_in (entries_of node) ≡ parts_of node
  parts_in-entries_of (Simple goal span) = refl
  parts_in-entries_of (Conjunction goals span) = behind (joined_entries goals) (all_parts goals) (root_of (Conjunction goals span)) span (parts_in-joined_entries goals)
  parts_in-entries_of (Parallel goals span) = behind (joined_entries goals) (all_parts goals) (root_of (Parallel goals span)) span (parts_in-joined_entries goals)
  parts_in-entries_of (Disjunction goals span) = behind (joined_entries goals) (all_parts goals) (root_of (Disjunction goals span)) span (parts_in-joined_entries goals)
  parts_in-entries_of (Conditional condition then_part else_part span) =
      behind (entries_of condition ++ (entries_of then_part ++ (entries_of else_part ++ []))) (parts_of condition ++ (parts_of then_part ++ (parts_of else_part ++ [])))
      (root_of (Conditional condition then_part else_part span)) span
      (before condition _ _ (parts_in-entries_of condition)
      (before then_part _ _ (parts_in-entries_of then_part)
      (before else_part [] [] (parts_in-entries_of else_part) refl)))
      ∙ ap (λ l. (parts_of condition ++ (parts_of then_part ++ l)) ++ (root_of (Conditional condition then_part else_part span), span) ∷ []) (append-nil (parts_of else_part))
      ∙ ap (λ l. l ++ (root_of (Conditional condition then_part else_part span), span) ∷ []) (sym (append_assoc (parts_of condition) (parts_of then_part) (parts_of else_part)))
  parts_in-entries_of (Negation goal span) =
      behind (entries_of goal ++ []) (parts_of goal) (root_of (Negation goal span)) span
      (before goal [] [] (parts_in-entries_of goal) refl ∙ append-nil (parts_of goal))
  parts_in-entries_of (Quantified variables goal span) =
      behind (entries_of goal ++ []) (parts_of goal) (root_of (Quantified variables goal span)) span
      (before goal [] [] (parts_in-entries_of goal) refl ∙ append-nil (parts_of goal))

  parts_in-joined_entries : (goals : Nodes) → parts_in (joined_entries goals) ≡ all_parts goals
  parts_in-joined_entries no_nodes = refl
  parts_in-joined_entries (more_nodes first rest) = before first (joined_entries rest) (all_parts rest) (parts_in-entries_of first) (parts_in-joined_entries rest)

pub parts_are : (entries : List Entry) (node : Node) → IsNode entries → node_of entries ≡ node → parts_in entries ≡ parts_of node
parts_are entries node is same = ap parts_in (sym is) ∙ ap (λ n. parts_in (entries_of n)) same ∙ parts_in-entries_of node

pub part_count_is : (entries : List Entry) (node : Node) → IsNode entries → node_of entries ≡ node → length entries ≡ length (parts_of node)
part_count_is entries node is same = sym (length-map entries (λ e. (e.root, e.span))) ∙ ap length (parts_are entries node is same)
