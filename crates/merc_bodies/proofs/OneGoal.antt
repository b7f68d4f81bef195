-- The forms of a predicate's clauses become one goal.
use Rattle.std.proofs.Common.{◌≡◌, ℕ, suc, ◌+◌, ◌<◌, ◌≤◌, List, [], ◌∷◌, ◌++◌, length, map, get_or, refl, sym, ◌∙◌, ap, arith}
use Rattle.std.proofs.lemmas.List.{length-append}
use Rattle.merc_goal_tree.specs.Nodes.{Node, Disjunction, nodes_of}
use Rattle.merc_goal_tree.specs.Roots.{joined}
use Rattle.merc_goal_tree.specs.RootLaws.{joined_last}
use Rattle.merc_goal_tree.specs.declared.entries.Root.TheVariants.{Disjunction as DisjunctionRoot}
use Rattle.merc_bodies.specs.Bodies.{joined_forms, own_variables}
use Rattle.merc_bodies.specs.Grouping.{body_of_pairs, form_in, formed_seen}
use Rattle.merc_bodies.specs.declared.grouping.Formed.{Formed}

count_of : (arity at : ℕ) (found : List Formed) → length (joined_forms arity at (map form_in found)) ≡ length found
count_of arity at [] = refl
count_of arity at (first ∷ rest) = ap suc (count_of arity (at + length (own_variables arity first.form)) rest)

forms_seen : (found : List Formed) → map (λ pair. pair.1) (map formed_seen found) ≡ map form_in found
forms_seen [] = refl
forms_seen (first ∷ rest) = ap (λ l. first.form ∷ l) (forms_seen rest)

module _ (arity : ℕ) where
  -- there are as many goals to join as clauses
  pub enough : (found : List Formed) (nodes later : List Node) → later ≡ nodes ++ joined_forms arity arity (map form_in found) → length found ≤ length later
  enough found nodes later put = omega (arith, ap length put, length-append nodes (joined_forms arity arity (map form_in found)), count_of arity arity found)

  -- the goal of an only clause is the predicate's
  pub only_form : (found : List Formed) (nodes later : List Node) → 1 ≤ length found → length found < 2
      → later ≡ nodes ++ joined_forms arity arity (map form_in found) → later ≡ nodes ++ body_of_pairs arity (map formed_seen found) ∷ []
  only_form [] nodes later some few put = absurd (omega (arith, some))
  only_form (only ∷ []) nodes later some few put = put
  only_form (first ∷ second ∷ rest) nodes later some few put = absurd (omega (arith, few))

  -- those of several are joined
  pub many_forms : (found : List Formed) (first : Formed) (nodes later made : List Node) → 2 ≤ length found → first ≡ get_or found 0 first
      → later ≡ nodes ++ joined_forms arity arity (map form_in found) → made ≡ joined (DisjunctionRoot (length found)) first.clause.now.span later
      → made ≡ nodes ++ body_of_pairs arity (map formed_seen found) ∷ []
  many_forms [] first nodes later made many is put joined_is = absurd (omega (arith, many))
  many_forms (only ∷ []) first nodes later made many is put joined_is = absurd (omega (arith, many))
  many_forms (one ∷ other ∷ rest) first nodes later made many is put joined_is =
      let found : List Formed = one ∷ other ∷ rest in
      let goals = joined_forms arity arity (map form_in found) in
      joined_is ∙ ap (joined (DisjunctionRoot (length found)) first.clause.now.span) put
      ∙ joined_last (DisjunctionRoot (length found)) first.clause.now.span nodes goals (sym (count_of arity arity found))
      ∙ ap (λ (formed : Formed). nodes ++ Disjunction (nodes_of goals) formed.clause.now.span ∷ []) is
      ∙ ap (λ forms. nodes ++ Disjunction (nodes_of (joined_forms arity arity forms)) one.clause.now.span ∷ []) (sym (forms_seen found))
