-- The types of library units mention none but their parameters.
use Rattle.std.proofs.Common.{◌≡◌, ℕ, Bool, true, false, ◌==◌, List, [], ◌∷◌, Option, if◌then◌else◌, codes, unwrap_or, refl, sym, ap, subst}
use Rattle.std.specs.List.{AllByRecursion}
use Rattle.std.specs.Str.{bytes_eq}
use Rattle.merc_base.specs.Names.{HoldsFixed, bool_name, fixed_names, list_name, maybe_name, t_name}
use Rattle.merc_base.specs.declared.place.Span.{Span}
use Rattle.merc_tree.specs.Term.{Term}
use Rattle.merc_value.specs.Text.{is_blank}
use Rattle.merc_item_forms.specs.Items.{item_of}
use Rattle.merc_entries.specs.LibraryItems.{bool_items, library_items, list_items, maybe_items}
use Rattle.merc_items.specs.ModuleOf.{type_variable}
use Rattle.merc_order.specs.Bound.{among}
use Rattle.merc_program_laws.proofs.ScopedTypes.{ItemIsScoped, named_is}

module _ (names : List (List ℕ)) (fixed : HoldsFixed names) where
  t_named : is_blank names t_name ≡ false
  unfolding fixed_names
  t_named = ap (λ (text : Option (List ℕ)). bytes_eq (unwrap_or text []) (codes "_")) (fixed.text t_name (codes "T") refl)

  abbrev spot : ℕ → Span
  spot first = record { first = first; past = 0; line = 0 }

  t_among : (one other : ℕ) → among (type_variable names t_name (spot one) ∷ []) (type_variable names t_name (spot other)) ≡ true
  t_among one other =
      subst (λ (n : ℕ). among (n ∷ []) (type_variable names t_name (spot other)) ≡ true) (sym (named_is names t_name (spot one) t_named))
      (subst (λ (n : ℕ). among (t_name ∷ []) n ≡ true) (sym (named_is names t_name (spot other) t_named)) refl)

  abbrev AreScoped : List Term → Type 0
  AreScoped terms = AllByRecursion (λ term. ItemIsScoped names (item_of term)) terms

  list_scoped : AreScoped list_items
  unfolding list_items
  list_scoped = (
    λ unit. ((tt, ((t_among _ _, ((t_among _ _, tt), tt)), tt)), tt),
    (other, (other, (other, (other, (other, (other, (other, (other, (other, (other, (other, (other, (other, (other, (other, (other, (other, (other, tt)))))))))))))))))),
  )
    where
      other : Option ℕ → Unit {0}
      other unit = tt

  bool_scoped : AreScoped bool_items
  unfolding bool_items
  bool_scoped = (λ unit. ((tt, (tt, tt)), tt), tt)

  maybe_scoped : AreScoped maybe_items
  unfolding maybe_items
  maybe_scoped = (λ unit. ((tt, ((t_among _ _, tt), tt)), tt), tt)

  pub library_scoped : (unit : ℕ) → AreScoped (library_items unit)
  library_scoped unit = at_list (unit == list_name)
    where
      at_maybe : (b : Bool) → AreScoped (if b then maybe_items else [])
      at_maybe true = maybe_scoped
      at_maybe false = tt

      at_bool : (b : Bool) → AreScoped (if b then bool_items else if unit == maybe_name then maybe_items else [])
      at_bool true = bool_scoped
      at_bool false = at_maybe (unit == maybe_name)

      at_list : (b : Bool) → AreScoped (if b then list_items else if unit == bool_name then bool_items else if unit == maybe_name then maybe_items else [])
      at_list true = list_scoped
      at_list false = at_bool (unit == bool_name)
