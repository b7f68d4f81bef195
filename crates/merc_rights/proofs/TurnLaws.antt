-- Groups that go to the first goal which binds their variable.
use Rattle.std.specs.Prelude.{◌≡◌, ℕ, List, [], ◌∷◌, ◌++◌, map, Option, Some, None, refl}
use Rattle.std.specs.List.{flat_map}
use Rattle.std.proofs.Common.{◌∙◌, ap, sym}
use Rattle.std.proofs.lemmas.List.{append-nil}
use Rattle.merc_graded_tree.specs.Nodes.{Node}
use Rattle.merc_rights.specs.Groups.{rights_in, numbered}
use Rattle.merc_rights.specs.Members.{binds_it, turn_signal, turn_signal_at}
use Rattle.merc_rights.specs.Rights.{Right, right_to}
use Rattle.merc_rights.specs.Rows.{next_from}
use Rattle.merc_rights.specs.declared.groups.Group.{Group}
use Rattle.merc_rights.specs.declared.groups.NumberedGroup.{NumberedGroup}
use Rattle.merc_rights.proofs.GroupLaws.{to_all, ordered, with_numbers}
use Rattle.merc_rights.proofs.SpreadLaws.{numbered_more}

module _ (goals : List Node) (variable : ℕ) where
  all_at : (o : Option ℕ) (conjuncts : List ℕ) → o ≡ next_from (binds_it variable) 0 0 goals
      → flat_map (turn_signal goals) (to_all variable conjuncts) ≡ flat_map (λ right. turn_signal_at right o) (to_all variable conjuncts)
  all_at o [] is = refl
  all_at o (first ∷ rest) is =
      ap (λ k. turn_signal_at (right_to first variable) k ++ flat_map (turn_signal goals) (to_all variable rest)) (sym is)
      ∙ ap (λ l. turn_signal_at (right_to first variable) o ++ l) (all_at o rest is)

some_at : (number : ℕ) (rights : List Right) → flat_map (λ right. turn_signal_at right (Some number)) rights ≡ map (λ right. (number, right)) rights
some_at number [] = refl
some_at number (first ∷ rest) = ap (λ l. (number, first) ∷ l) (some_at number rest)

none_at : (rights : List Right) → flat_map (λ right. turn_signal_at right None) rights ≡ []
none_at [] = refl
none_at (first ∷ rest) = none_at rest

turned : (goals : List Node) (group : Group) (o : Option ℕ) → o ≡ next_from (binds_it group.variable) 0 0 goals
    → flat_map (turn_signal goals) (rights_in group) ≡ flat_map (λ right. turn_signal_at right o) (rights_in group)
turned goals group o is =
    let are = ordered group.variable group.conjuncts.items in
    ap (flat_map (turn_signal goals)) are ∙ all_at goals group.variable o (with_numbers group.conjuncts.items []) is ∙ ap (flat_map (λ right. turn_signal_at right o)) (sym are)

pub turn_put : (goals : List Node) (group : Group) (number : ℕ) (old new : List NumberedGroup) → Some number ≡ next_from (binds_it group.variable) 0 0 goals
    → new ≡ old ++ record { number = number; group = group } ∷ [] → numbered new ≡ numbered old ++ flat_map (turn_signal goals) (rights_in group)
turn_put goals group number old new is put =
    numbered_more old new (record { number = number; group = group }) put
    ∙ ap (λ l. numbered old ++ l) (sym (turned goals group (Some number) is ∙ some_at number (rights_in group)))

pub turn_none : (goals : List Node) (group : Group) (old : List NumberedGroup) → None ≡ next_from (binds_it group.variable) 0 0 goals → numbered old ≡ numbered old ++ flat_map (turn_signal goals) (rights_in group)
turn_none goals group old is = sym (ap (λ l. numbered old ++ l) (turned goals group None is ∙ none_at (rights_in group)) ∙ append-nil (numbered old))
