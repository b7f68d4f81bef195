-- The parts of a goal with new variables are its parts with these.
use Rattle.std.proofs.Common.{◌≡◌, ℕ, List, [], ◌∷◌, ◌++◌, map, refl, ap, sym, ◌∙◌}
use Rattle.std.proofs.lemmas.List.{map-append}
use Rattle.merc_base.specs.declared.place.Span.{Span}
use Rattle.merc_goal_tree.specs.declared.entries.Root.{Root}
use Rattle.merc_goal_tree.specs.Nodes.{Node, Nodes, Simple, Conjunction, Parallel, Disjunction, Conditional, Negation, Quantified, no_nodes, more_nodes}
use Rattle.merc_goal_tree.specs.Parts.{parts_of, all_parts}
use Rattle.merc_bodies.specs.Renamed.{renamed, all_renamed}
use Rattle.merc_bodies.specs.Rebuilding.{renamed_root}
use Rattle.merc_bodies.proofs.Rebuilds.{count_same}

module _ (new : ℕ → ℕ) where
  abbrev pub renamed_part : Root × Span → Root × Span
  renamed_part part = (renamed_root new part.0, part.1)

  behind : (parts found : List (Root × Span)) (root : Root) (now : Root) (span : Span) → found ≡ map renamed_part parts → now ≡ renamed_root new root
      → found ++ (now, span) ∷ [] ≡ map renamed_part (parts ++ (root, span) ∷ [])
  behind parts found root now span is also =
      ap (λ l. l ++ (now, span) ∷ []) is
      ∙ ap (λ r. map renamed_part parts ++ (r, span) ∷ []) also
      ∙ sym (map-append renamed_part parts ((root, span) ∷ []))

  mutual
    pub parts_renamed : (goal : Node) → parts_of (renamed new goal) ≡ map renamed_part (parts_of goal)
    parts_renamed (Simple goal span) = refl
    parts_renamed (Conjunction goals span) = behind (all_parts goals) _ _ _ span (all_parts_renamed goals) (ap Root.Conjunction (count_same new goals))
    parts_renamed (Parallel goals span) = behind (all_parts goals) _ _ _ span (all_parts_renamed goals) (ap Root.Parallel (count_same new goals))
    parts_renamed (Disjunction goals span) = behind (all_parts goals) _ _ _ span (all_parts_renamed goals) (ap Root.Disjunction (count_same new goals))
    parts_renamed (Conditional condition then_part else_part span) =
        behind (parts_of condition ++ parts_of then_part ++ parts_of else_part) _ Root.Conditional _ span
        (ap (λ l. (parts_of (renamed new condition) ++ parts_of (renamed new then_part)) ++ l) (parts_renamed else_part)
        ∙ ap (λ l. (parts_of (renamed new condition) ++ l) ++ map renamed_part (parts_of else_part)) (parts_renamed then_part)
        ∙ ap (λ l. (l ++ map renamed_part (parts_of then_part)) ++ map renamed_part (parts_of else_part)) (parts_renamed condition)
        ∙ ap (λ l. l ++ map renamed_part (parts_of else_part)) (sym (map-append renamed_part (parts_of condition) (parts_of then_part)))
        ∙ sym (map-append renamed_part (parts_of condition ++ parts_of then_part) (parts_of else_part)))
        refl
    parts_renamed (Negation goal span) = behind (parts_of goal) _ Root.Negation _ span (parts_renamed goal) refl
    parts_renamed (Quantified own goal span) = behind (parts_of goal) _ (Root.Quantified own) _ span (parts_renamed goal) refl

    pub all_parts_renamed : (goals : Nodes) → all_parts (all_renamed new goals) ≡ map renamed_part (all_parts goals)
    all_parts_renamed no_nodes = refl
    all_parts_renamed (more_nodes first rest) =
        ap (λ l. l ++ all_parts (all_renamed new rest)) (parts_renamed first)
        ∙ ap (λ l. map renamed_part (parts_of first) ++ l) (all_parts_renamed rest)
        ∙ sym (map-append renamed_part (parts_of first) (all_parts rest))
