-- The parts of a term build the type that it declares.
use Rattle.std.proofs.Common.{◌≡◌, ℕ, ◌+◌, ◌-◌, ◌≤◌, List, [], ◌∷◌, ◌++◌, length, map, take, drop, Some, None, refl, ap, sym, subst, ◌∙◌, append_assoc, arith}
use Rattle.std.specs.List.{slice_get}
use Rattle.std.proofs.Math.Seq.{take-append_seam, drop-append_seam}
use Rattle.std.proofs.lemmas.List.{append-nil, drop_all, length-append, length-map}
use Rattle.merc_base.specs.declared.place.Span.{Span}
use Rattle.merc_tree.specs.declared.term.Shape.{Shape}
use Rattle.merc_tree.specs.declared.term.Shape.TheVariants.{Application as ApplicationShape}
use Rattle.merc_tree.specs.Nodes.{arity_of}
use Rattle.merc_tree.specs.PlacedParts.{placed_parts, all_placed}
use Rattle.merc_tree.specs.Postfix.{shapes_of, all_shapes}
use Rattle.merc_tree.specs.Term.{Term, Terms, Variable, Integer, Text, Application, none, more, list_of}
use Rattle.merc_tree.specs.Types.{TypeExpr, TypeApplication, more_types, types_of}
use Rattle.merc_tree.specs.TypeShape.{type_named, types_applied}
use Rattle.merc_items.specs.ModuleOf.{declared_type, declared_types, named_type}
use Rattle.merc_items.specs.DeclaredTypes.{with_part, with_parts, AreParts}
use Rattle.merc_entries.proofs.ListSteps.{got, gone_on}

module _ (names : List (List ℕ)) where
  declared_list : (arguments : Terms) → types_of (map (declared_type names) (list_of arguments)) ≡ declared_types names arguments
  declared_list none = refl
  declared_list (more first rest) = ap (more_types (declared_type names first)) (declared_list rest)

  named_list : (name : ℕ) (arguments : Terms) → type_named name (map (declared_type names) (list_of arguments)) ≡ named_type name (declared_types names arguments)
  named_list name none = refl
  named_list name (more first rest) = ap (TypeApplication name) (declared_list (more first rest))

  applied_types : (name : ℕ) (arguments : Terms) (types : List TypeExpr)
      → types_applied name (length (list_of arguments)) (types ++ map (declared_type names) (list_of arguments)) ≡ types ++ named_type name (declared_types names arguments) ∷ []
  applied_types name arguments types =
      let last = map (declared_type names) (list_of arguments) in
      let count : length (types ++ last) - length (list_of arguments) ≡ length types = omega (arith, length-append types last, length-map (list_of arguments) (declared_type names)) in
      ap (λ n. take n (types ++ last) ++ type_named name (drop n (types ++ last)) ∷ []) count
      ∙ ap (λ l. l ++ type_named name (drop (length types) (types ++ last)) ∷ []) (take-append_seam types last)
      ∙ ap (λ l. types ++ type_named name l ∷ []) (drop-append_seam types last)
      ∙ ap (λ t. types ++ t ∷ []) (named_list name arguments)

  mutual
    built_term : (term : Term) (rest : List (Shape × Span)) (types : List TypeExpr) → with_parts names (placed_parts term ++ rest) types ≡ with_parts names rest (types ++ declared_type names term ∷ [])
    built_term (Variable name span) rest types = refl
    built_term (Integer value span) rest types = refl
    built_term (Text text span) rest types = refl
    built_term (Application name qualifier arguments span) rest types =
        let root : Shape × Span = (ApplicationShape name qualifier (length (list_of arguments)), span) in
        ap (λ l. with_parts names l types) (append_assoc (all_placed arguments) (root ∷ []) rest)
        ∙ built_terms arguments (root ∷ rest) types
        ∙ ap (with_parts names rest) (applied_types name arguments types)

    built_terms : (arguments : Terms) (rest : List (Shape × Span)) (types : List TypeExpr)
        → with_parts names (all_placed arguments ++ rest) types ≡ with_parts names rest (types ++ map (declared_type names) (list_of arguments))
    built_terms none rest types = ap (with_parts names rest) (sym (append-nil types))
    built_terms (more first others) rest types =
        ap (λ l. with_parts names l types) (append_assoc (placed_parts first) (all_placed others) rest)
        ∙ built_term first (all_placed others ++ rest) types
        ∙ built_terms others rest (types ++ declared_type names first ∷ [])
        ∙ ap (with_parts names rest) (append_assoc types (declared_type names first ∷ []) (map (declared_type names) (list_of others)))

  mutual
    parts_of_term : (term : Term) (rest : List (Shape × Span)) (types : List TypeExpr) → AreParts names rest (types ++ declared_type names term ∷ []) → AreParts names (placed_parts term ++ rest) types
    parts_of_term (Variable name span) rest types left = (omega arith, left)
    parts_of_term (Integer value span) rest types left = (omega arith, left)
    parts_of_term (Text text span) rest types left = (omega arith, left)
    parts_of_term (Application name qualifier arguments span) rest types left =
        let root : Shape × Span = (ApplicationShape name qualifier (length (list_of arguments)), span) in
        let last = map (declared_type names) (list_of arguments) in
        let enough : length (list_of arguments) ≤ length (types ++ last) = omega (arith, length-append types last, length-map (list_of arguments) (declared_type names)) in
        subst (λ l. AreParts names l types) (sym (append_assoc (all_placed arguments) (root ∷ []) rest))
        (parts_of_terms arguments (root ∷ rest) types (enough, subst (AreParts names rest) (sym (applied_types name arguments types)) left))

    parts_of_terms : (arguments : Terms) (rest : List (Shape × Span)) (types : List TypeExpr) → AreParts names rest (types ++ map (declared_type names) (list_of arguments)) → AreParts names (all_placed arguments ++ rest) types
    parts_of_terms none rest types left = subst (AreParts names rest) (append-nil types) left
    parts_of_terms (more first others) rest types left =
        subst (λ l. AreParts names l types) (sym (append_assoc (placed_parts first) (all_placed others) rest))
        (parts_of_term first (all_placed others ++ rest) types
        (parts_of_terms others rest (types ++ declared_type names first ∷ []) (subst (AreParts names rest) (sym (append_assoc types (declared_type names first ∷ []) (map (declared_type names) (list_of others)))) left)))

  pub all_parts : (term : Term) (types : List TypeExpr) → AreParts names (placed_parts term) types
  all_parts term types = subst (λ l. AreParts names l types) (append-nil (placed_parts term)) (parts_of_term term [] types tt)

  pub built_whole : (term : Term) (types : List TypeExpr) → with_parts names (placed_parts term) types ≡ types ++ declared_type names term ∷ []
  built_whole term types = ap (λ l. with_parts names l types) (sym (append-nil (placed_parts term))) ∙ built_term term [] types

-- a term has as many placed parts as parts

mutual
  pub parts_counted : (term : Term) → length (placed_parts term) ≡ length (shapes_of term)
  parts_counted (Variable name span) = refl
  parts_counted (Integer value span) = refl
  parts_counted (Text text span) = refl
  parts_counted (Application name qualifier arguments span) =
      omega (
        arith,
        all_counted arguments,
        length-append (all_placed arguments) ((ApplicationShape name qualifier (length (list_of arguments)), span) ∷ []),
        length-append (all_shapes arguments) (ApplicationShape name qualifier (length (list_of arguments)) ∷ []),
      )

  all_counted : (arguments : Terms) → length (all_placed arguments) ≡ length (all_shapes arguments)
  all_counted none = refl
  all_counted (more first rest) =
      omega (arith, parts_counted first, all_counted rest, length-append (placed_parts first) (all_placed rest), length-append (shapes_of first) (all_shapes rest))

-- behind the last part the type is built
pub parts_done : (names : List (List ℕ)) (parts : List (Shape × Span)) (i : ℕ) (types whole : List TypeExpr) → length parts ≤ i → with_parts names (drop i parts) types ≡ whole → types ≡ whole
parts_done names parts i types whole past left = ap (λ l. with_parts names l types) (sym (drop_all i parts past)) ∙ left

-- one part more
module _ (names : List (List ℕ)) (parts : List (Shape × Span)) (i : ℕ) (shape : Shape) (span : Span) (types : List TypeExpr) (found : slice_get parts i ≡ Some (shape, span)) where
  pub part_fits : AreParts names (drop i parts) types → arity_of shape ≤ length types
  part_fits fit = (subst (λ l. AreParts names l types) (got parts i (shape, span) found) fit).0

  pub parts_left : (now : List TypeExpr) → now ≡ with_part names shape span types → AreParts names (drop i parts) types → AreParts names (drop (i + 1) parts) now
  parts_left now now_is fit = subst (AreParts names (drop (i + 1) parts)) (sym now_is) (subst (λ l. AreParts names l types) (got parts i (shape, span) found) fit).1

  pub types_left : (now whole : List TypeExpr) → now ≡ with_part names shape span types → with_parts names (drop i parts) types ≡ whole → with_parts names (drop (i + 1) parts) now ≡ whole
  types_left now whole now_is left = ap (with_parts names (drop (i + 1) parts)) now_is ∙ ap (λ l. with_parts names l types) (sym (got parts i (shape, span) found)) ∙ left

-- no part more
module _ (names : List (List ℕ)) (parts : List (Shape × Span)) (i : ℕ) (types now : List TypeExpr) (found : slice_get parts i ≡ None) (now_is : now ≡ types) where
  pub no_parts_left : AreParts names (drop i parts) types → AreParts names (drop (i + 1) parts) now
  no_parts_left fit = subst (AreParts names (drop (i + 1) parts)) (sym now_is) (subst (λ l. AreParts names l types) (sym (gone_on parts i found)) fit)

  pub no_types_left : (whole : List TypeExpr) → with_parts names (drop i parts) types ≡ whole → with_parts names (drop (i + 1) parts) now ≡ whole
  no_types_left whole left = ap (with_parts names (drop (i + 1) parts)) now_is ∙ ap (λ l. with_parts names l types) (gone_on parts i found) ∙ left
