-- A step of the search of the first clause that is not typed.
use Rattle.std.proofs.Common.{◌≡◌, ℕ, ◌+◌, ◌<◌, List, [], ◌∷◌, ◌++◌, length, map, get_or, take, drop, Some, slice_get, refl, sym, ap, subst, ◌∙◌}
use Rattle.std.specs.List.{AllByRecursion}
use Rattle.std.specs.Option.{option_map}
use Rattle.std.proofs.lemmas.List.{take_more, drop_more, take-append-drop}
use Rattle.std.proofs.lemmas.Option.{same_Some, slice_get-map, slice_get_read}
use Rattle.merc_tree.specs.declared.declarations.Clause.{Clause}
use Rattle.merc_tree.specs.declared.declarations.Module.{Module}
use Rattle.merc_goal_tree.specs.Nodes.{Node}
use Rattle.merc_type_check.specs.Typing.{HasTyping}
use Rattle.merc_order_laws.specs.HeadTypes.{declared_arguments}
use Rattle.merc_check.specs.Untyped.{IsTypedAs, IsUntypedAt}

all_pushed : {A : Type 0} (P : A → Type 0) (items : List A) (last : A) → AllByRecursion P items → P last → AllByRecursion P (items ++ last ∷ [])
all_pushed P [] last all here = (here, tt)
all_pushed P (first ∷ items) last all here = (all.0, all_pushed P items last all.1 here)

-- The clause at an index has the form there.
module _ (known : Module) (form : Clause → Node) (forms : List Node) (same : forms ≡ map form known.clauses)
    (index : ℕ) (clause : Clause) (node : Node) (within : index < length known.clauses) (item : clause ≡ get_or known.clauses index clause)
    (at : slice_get forms index ≡ Some node) where
  form_is : node ≡ form clause
  form_is =
      let read : slice_get known.clauses index ≡ Some clause = slice_get_read known.clauses (length known.clauses) index clause refl within item in
      same_Some node (form clause)
      (sym at ∙ (ap (λ (some : List Node). slice_get some index) same ∙ (slice_get-map form known.clauses index ∙ ap (option_map form) read)))

  pub typed_more : AllByRecursion (IsTypedAs known form) (take index known.clauses) → HasTyping known (declared_arguments known clause.head) node
      → AllByRecursion (IsTypedAs known form) (take (index + 1) known.clauses)
  typed_more all typed =
      rw (take_more known.clauses index clause within, ← item)
      (all_pushed (IsTypedAs known form) (take index known.clauses) clause all (subst (HasTyping known (declared_arguments known clause.head)) form_is typed))

  pub untyped_at : AllByRecursion (IsTypedAs known form) (take index known.clauses) → (HasTyping known (declared_arguments known clause.head) node → ⊥)
      → IsUntypedAt known form clause.span
  untyped_at all wrong = record {
    before = take index known.clauses;
    clause = clause;
    behind = drop (index + 1) known.clauses;
    whole =
        sym (take-append-drop index known.clauses)
        ∙ ap (λ (rest : List Clause). take index known.clauses ++ rest) (drop_more known.clauses index clause within ∙ ap (λ (first : Clause). first ∷ drop (index + 1) known.clauses) (sym item));
    typed = all;
    wrong = λ typed. wrong (subst (HasTyping known (declared_arguments known clause.head)) (sym form_is) typed);
    spanned = refl;
  }
