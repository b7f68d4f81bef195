-- The variables of a goal are those of its parts, in order.
use Rattle.std.specs.Prelude.{◌≡◌, ◌+◌, ℕ, zero, suc, List, [], ◌∷◌, ◌++◌, length, take, Some, None, slice_get, refl}
use Rattle.std.proofs.Common.{◌∙◌, ap, sym, add-one}
use Rattle.std.proofs.lemmas.Grind.{flat_map-append}
use Rattle.std.proofs.lemmas.List.{append_assoc, append-nil}
use Rattle.merc_base.specs.declared.place.Span.{Span}
use Rattle.merc_goal_tree.specs.declared.entries.Root.{Root}
use Rattle.merc_goal_tree.specs.declared.entries.Root.TheVariants.{Simple as SimpleRoot, Conjunction as ConjunctionRoot, Parallel as ParallelRoot, Disjunction as DisjunctionRoot, Conditional as ConditionalRoot, Negation as NegationRoot, Quantified as QuantifiedRoot}
use Rattle.merc_goal_tree.specs.Nodes.{Node, Nodes, Simple, Conjunction, Parallel, Disjunction, Conditional, Negation, Quantified, no_nodes, more_nodes, list_of}
use Rattle.merc_goal_tree.specs.Parts.{parts_of, all_parts}
use Rattle.merc_goal_tree.specs.Variables.{variables, all_variables}
use Rattle.merc_goal_facts.specs.Occurring.{root_variables, parts_variables}

-- a root that has none behind others
pub behind_others : (parts : List (Root × Span)) (root : Root) (span : Span) (known : List ℕ) → parts_variables parts ≡ known → root_variables root ≡ [] → parts_variables (parts ++ (root, span) ∷ []) ≡ known
behind_others parts root span known is none =
    flat_map-append (λ part. root_variables part.0) parts ((root, span) ∷ []) ∙ ap (λ l. parts_variables parts ++ (l ++ [])) none ∙ append-nil (parts_variables parts) ∙ is

both_parts : (front back : List (Root × Span)) (one other : List ℕ) → parts_variables front ≡ one → parts_variables back ≡ other → parts_variables (front ++ back) ≡ one ++ other
both_parts front back one other first second =
    flat_map-append (λ part. root_variables part.0) front back ∙ ap (λ l. l ++ parts_variables back) first ∙ ap (λ l. one ++ l) second

mutual
  pub parts_variables-parts_of : (goal : Node) → parts_variables (parts_of goal) ≡ variables goal
  parts_variables-parts_of (Simple goal span) = append-nil (root_variables (SimpleRoot goal))
  parts_variables-parts_of (Conjunction goals span) = behind_others (all_parts goals) (ConjunctionRoot (length (list_of goals))) span (all_variables goals) (parts_variables-all_parts goals) refl
  parts_variables-parts_of (Parallel goals span) = behind_others (all_parts goals) (ParallelRoot (length (list_of goals))) span (all_variables goals) (parts_variables-all_parts goals) refl
  parts_variables-parts_of (Disjunction goals span) = behind_others (all_parts goals) (DisjunctionRoot (length (list_of goals))) span (all_variables goals) (parts_variables-all_parts goals) refl
  parts_variables-parts_of (Conditional condition then_part else_part span) =
      behind_others (parts_of condition ++ parts_of then_part ++ parts_of else_part) ConditionalRoot span (variables condition ++ (variables then_part ++ variables else_part))
      (both_parts (parts_of condition ++ parts_of then_part) (parts_of else_part) (variables condition ++ variables then_part) (variables else_part)
      (both_parts (parts_of condition) (parts_of then_part) (variables condition) (variables then_part) (parts_variables-parts_of condition) (parts_variables-parts_of then_part)) (parts_variables-parts_of else_part)
      ∙ append_assoc (variables condition) (variables then_part) (variables else_part)) refl
  parts_variables-parts_of (Negation goal span) = behind_others (parts_of goal) NegationRoot span (variables goal) (parts_variables-parts_of goal) refl
  parts_variables-parts_of (Quantified own goal span) = behind_others (parts_of goal) (QuantifiedRoot own) span (variables goal) (parts_variables-parts_of goal) refl

  pub parts_variables-all_parts : (goals : Nodes) → parts_variables (all_parts goals) ≡ all_variables goals
  parts_variables-all_parts no_nodes = refl
  parts_variables-all_parts (more_nodes first rest) = both_parts (parts_of first) (all_parts rest) (variables first) (all_variables rest) (parts_variables-parts_of first) (parts_variables-all_parts rest)

-- a part more

one_more : {X : Type 0} (items : List X) (index : ℕ) (item : X) → Some item ≡ slice_get items index → take (suc index) items ≡ take index items ++ item ∷ []
one_more [] index item at = cc
one_more (first ∷ rest) zero item at = let same : item ≡ first = cc in ap (λ x. x ∷ []) (sym same)
one_more (first ∷ rest) (suc index) item at = ap (λ l. first ∷ l) (one_more rest index item at)

no_more : {X : Type 0} (items : List X) (index : ℕ) → None ≡ slice_get items index → take (suc index) items ≡ take index items
no_more [] zero at = refl
no_more [] (suc index) at = refl
no_more (first ∷ rest) zero at = cc
no_more (first ∷ rest) (suc index) at = ap (λ l. first ∷ l) (no_more rest index at)

pub part_more : (heads now : List ℕ) (parts : List (Root × Span)) (index : ℕ) (root : Root) (span : Span) → Some (root, span) ≡ slice_get parts index
    → now ≡ heads ++ parts_variables (take index parts) → now ++ root_variables root ≡ heads ++ parts_variables (take (index + 1) parts)
part_more heads now parts index root span at is =
    ap (λ l. l ++ root_variables root) is ∙ append_assoc heads (parts_variables (take index parts)) (root_variables root)
    ∙ ap (λ l. heads ++ l) (ap (λ l. parts_variables (take index parts) ++ l) (sym (append-nil (root_variables root)))
    ∙ sym (flat_map-append (λ part. root_variables part.0) (take index parts) ((root, span) ∷ []))
    ∙ ap parts_variables (sym (one_more parts index (root, span) at)) ∙ ap (λ n. parts_variables (take n parts)) (sym (add-one index)))

pub no_part_more : (heads now : List ℕ) (parts : List (Root × Span)) (index : ℕ) → None ≡ slice_get parts index
    → now ≡ heads ++ parts_variables (take index parts) → now ≡ heads ++ parts_variables (take (index + 1) parts)
no_part_more heads now parts index at is =
    is ∙ ap (λ l. heads ++ parts_variables l) (sym (no_more parts index at)) ∙ ap (λ n. heads ++ parts_variables (take n parts)) (sym (add-one index))
