-- The variables of a goal are those of its parts.
use Rattle.std.proofs.Common.{◌≡◌, ℕ, List, [], ◌∷◌, ◌++◌, refl, ap, sym, ◌∙◌}
use Rattle.std.specs.Prelude.{nat_le}
use Rattle.std.specs.List.{flat_map}
use Rattle.std.proofs.lemmas.List.{append-nil, append_assoc}
use Rattle.std.proofs.lemmas.List.Elements.{filter-append}
use Rattle.merc_base.specs.declared.place.Span.{Span}
use Rattle.merc_goal_tree.specs.declared.entries.Root.{Root}
use Rattle.merc_goal_tree.specs.Nodes.{Node, Nodes, Simple, Conjunction, Parallel, Disjunction, Conditional, Negation, Quantified, no_nodes, more_nodes}
use Rattle.merc_goal_tree.specs.Parts.{parts_of, all_parts}
use Rattle.merc_goal_tree.specs.Variables.{variables_of, variables, all_variables}
use Rattle.merc_bodies.specs.Occurrences.{own_in, part_variables}

pub parts_both : (one other : List (Root × Span)) → flat_map part_variables (one ++ other) ≡ flat_map part_variables one ++ flat_map part_variables other
parts_both [] other = refl
parts_both (first ∷ rest) other = ap (λ l. part_variables first ++ l) (parts_both rest other) ∙ sym (append_assoc (part_variables first) (flat_map part_variables rest) (flat_map part_variables other))

-- a root that joins others brings none
joined : (parts : List (Root × Span)) (found : List ℕ) (root : Root × Span) → part_variables root ≡ [] → flat_map part_variables parts ≡ found → flat_map part_variables (parts ++ root ∷ []) ≡ found
joined parts found root none is = parts_both parts (root ∷ []) ∙ ap (λ l. flat_map part_variables parts ++ (l ++ [])) none ∙ append-nil (flat_map part_variables parts) ∙ is

mutual
  pub variables_are : (goal : Node) → flat_map part_variables (parts_of goal) ≡ variables goal
  variables_are (Simple goal span) = append-nil (variables_of goal)
  variables_are (Conjunction goals span) = joined (all_parts goals) (all_variables goals) _ refl (all_variables_are goals)
  variables_are (Parallel goals span) = joined (all_parts goals) (all_variables goals) _ refl (all_variables_are goals)
  variables_are (Disjunction goals span) = joined (all_parts goals) (all_variables goals) _ refl (all_variables_are goals)
  variables_are (Conditional condition then_part else_part span) =
      joined (parts_of condition ++ parts_of then_part ++ parts_of else_part) _ _ refl
      (parts_both (parts_of condition ++ parts_of then_part) (parts_of else_part)
      ∙ ap (λ l. l ++ flat_map part_variables (parts_of else_part)) (parts_both (parts_of condition) (parts_of then_part))
      ∙ ap (λ l. (flat_map part_variables (parts_of condition) ++ flat_map part_variables (parts_of then_part)) ++ l) (variables_are else_part)
      ∙ ap (λ l. (flat_map part_variables (parts_of condition) ++ l) ++ variables else_part) (variables_are then_part)
      ∙ ap (λ l. (l ++ variables then_part) ++ variables else_part) (variables_are condition)
      ∙ append_assoc (variables condition) (variables then_part) (variables else_part))
  variables_are (Negation goal span) = joined (parts_of goal) (variables goal) _ refl (variables_are goal)
  variables_are (Quantified own goal span) = joined (parts_of goal) (variables goal) _ refl (variables_are goal)

  pub all_variables_are : (goals : Nodes) → flat_map part_variables (all_parts goals) ≡ all_variables goals
  all_variables_are no_nodes = refl
  all_variables_are (more_nodes first rest) =
      parts_both (parts_of first) (all_parts rest)
      ∙ ap (λ l. l ++ flat_map part_variables (all_parts rest)) (variables_are first)
      ∙ ap (λ l. variables first ++ l) (all_variables_are rest)

-- the next part's variables put behind those that are found
pub one_more : (arity : ℕ) (part : Root × Span) (left parts : List (Root × Span)) (before now whole : List ℕ) → left ≡ part ∷ parts
    → now ≡ before ++ own_in arity (part_variables part) → before ++ own_in arity (flat_map part_variables left) ≡ whole → now ++ own_in arity (flat_map part_variables parts) ≡ whole
one_more arity part left parts before now whole next put is =
    ap (λ l. l ++ own_in arity (flat_map part_variables parts)) put
    ∙ append_assoc before (own_in arity (part_variables part)) (own_in arity (flat_map part_variables parts))
    ∙ ap (λ l. before ++ l) (sym (filter-append (λ variable. nat_le arity variable) (part_variables part) (flat_map part_variables parts)))
    ∙ ap (λ l. before ++ own_in arity (flat_map part_variables l)) (sym next)
    ∙ is

-- the next variable likewise
pub one_variable : (arity variable : ℕ) (left later before now whole : List ℕ) → left ≡ variable ∷ later
    → now ≡ before ++ own_in arity (variable ∷ []) → before ++ own_in arity left ≡ whole → now ++ own_in arity later ≡ whole
one_variable arity variable left later before now whole next put is =
    ap (λ l. l ++ own_in arity later) put
    ∙ append_assoc before (own_in arity (variable ∷ [])) (own_in arity later)
    ∙ ap (λ l. before ++ l) (sym (filter-append (λ other. nat_le arity other) (variable ∷ []) later))
    ∙ ap (λ l. before ++ own_in arity l) (sym next)
    ∙ is
