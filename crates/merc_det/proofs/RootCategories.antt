-- The category of a goal that joins others, from how they are found.
use Rattle.std.specs.Prelude.{◌≡◌, ◌≤◌, ◌<◌, ◌+◌, ◌-◌, ℕ, zero, suc, Bool, List, [], ◌∷◌, length, drop, refl}
use Rattle.std.specs.List.{slice_get}
use Rattle.std.proofs.Common.{◌∙◌, ap, sym, subst, arith}
use Rattle.std.proofs.lemmas.List.{length-drop}
use Rattle.std.proofs.lemmas.Option.{slice_get-get_or}
use Rattle.merc_base.specs.declared.category.Category.{Category}
use Rattle.merc_tree.specs.Types.{TypeExpr}
use Rattle.merc_tree.specs.declared.declarations.ModeDecl.{ModeDecl}
use Rattle.merc_tree.specs.declared.declarations.TypeDef.{TypeDef}
use Rattle.merc_goal_tree.specs.declared.goal.Symbol.{Symbol}
use Rattle.merc_graded_tree.specs.Nodes.{Node, nodes_of, list_of}
use Rattle.merc_graded_tree.specs.Roots.{symbols_of, bodies_of, arms_of, arity_of, goal_at, joining}
use Rattle.merc_graded_tree.specs.declared.entries.Root.{Root}
use Rattle.merc_graded_tree.specs.declared.entries.Root.TheVariants.{Conjunction, Disjunction, Switch, Conditional, Negation, Quantified}
use Rattle.merc_graded_tree.specs.declared.entries.Running.{Running}
use Rattle.merc_graded_tree.proofs.JoinLaws.{bodies_of-arms_of, list_of-nodes_of, symbols_of-arms_of}
use Rattle.merc_grading.specs.Categories.{conjunction_category, disjunction_category, arms_category, switch_category, conditional_category, negation_category}
use Rattle.merc_grading.specs.Grading as grading
use Rattle.merc_grading.specs.Grading.{categories, category_at}
use Rattle.merc_grading.specs.Known.{Known, are_complete, symbols_of_type}
use Rattle.merc_det.specs.Closing.{FitsFirst, FitsRoot}
use Rattle.merc_det.specs.Folding.{category_in}
use Rattle.merc_det.specs.Symbols.{is_complete_by}

complete_is : (declared : List TypeDef) (types : ℕ → TypeExpr) (variable : ℕ) (symbols : List Symbol) → FitsFirst declared types variable symbols
    → is_complete_by declared symbols ≡ are_complete (symbols_of_type declared (types variable)) symbols
complete_is declared types variable [] fits = absurd fits
complete_is declared types variable (first ∷ rest) fits = ap (λ o. are_complete o (first ∷ rest)) (sym fits)

-- as many as are taken from the end
taken : (goals : List Node) (count : ℕ) → count ≤ length goals → length (drop (length goals - count) goals) ≡ count
taken goals count h = omega (arith, h, length-drop (length goals - count) goals)

in_turn : (goals : List Node) (category : Category) → category ≡ conjunction_category (categories goals)
    → category ≡ conjunction_category (categories (list_of (nodes_of goals)))
in_turn goals category e = e ∙ ap (λ l. conjunction_category (categories l)) (sym (list_of-nodes_of goals))

choice : (goals : List Node) (category : Category) → category ≡ disjunction_category (categories goals)
    → category ≡ disjunction_category (categories (list_of (nodes_of goals)))
choice goals category e = e ∙ ap (λ l. disjunction_category (categories l)) (sym (list_of-nodes_of goals))

switch : (declared : List TypeDef) (types : ℕ → TypeExpr) (variable : ℕ) (symbols : List Symbol) (goals : List Node) (complete : Bool) (arms category : Category)
    → FitsFirst declared types variable symbols → length symbols ≤ length goals → complete ≡ is_complete_by declared symbols
    → arms ≡ arms_category (categories (drop (length goals - length symbols) goals))
    → ((all : List Category) → arms ≡ arms_category all → category ≡ switch_category complete all)
    → (parts : List Node) → parts ≡ drop (length goals - length symbols) goals
    → category ≡ switch_category (are_complete (symbols_of_type declared (types variable)) (symbols_of (arms_of symbols parts))) (categories (bodies_of (arms_of symbols parts)))
switch declared types variable symbols goals complete arms category fits enough is_complete all step parts cut =
    let count : length symbols ≡ length parts = sym (ap length cut ∙ taken goals (length symbols) enough) in
    let kept = symbols_of-arms_of symbols parts count in
    step (categories parts) (all ∙ ap (λ l. arms_category (categories l)) (sym cut))
    ∙ ap (λ b. switch_category b (categories parts)) (is_complete ∙ complete_is declared types variable symbols fits)
    ∙ ap (λ s. switch_category (are_complete (symbols_of_type declared (types variable)) s) (categories parts)) (sym kept)
    ∙ ap (λ l. switch_category (are_complete (symbols_of_type declared (types variable)) (symbols_of (arms_of symbols parts))) (categories l)) (sym (bodies_of-arms_of symbols parts count))

found : (goals : List Node) (index : ℕ) → index < length goals → category_in (slice_get goals index) ≡ category_at (goal_at goals index)
found goals index h = ap category_in (slice_get-get_or goals index _ h)

get-drop : (goals : List Node) (start index at : ℕ) → at ≡ start + index → slice_get (drop start goals) index ≡ slice_get goals at
get-drop goals zero index at e = let h : index ≡ at = omega (arith, e) in ap (slice_get goals) h
get-drop [] (suc start) index at e = refl
get-drop (first ∷ rest) (suc start) index zero e = absurd (omega (arith, e))
get-drop (first ∷ rest) (suc start) index (suc at) e = let h : at ≡ start + index = omega (arith, e) in get-drop rest start index at h

-- the goal of this number among so many at the end
part : (goals : List Node) (count at index : ℕ) (category : Category) → index < count → count ≤ length goals → at ≡ length goals - count + index
    → category ≡ category_in (slice_get goals at) → category ≡ category_at (goal_at (drop (length goals - count) goals) index)
part goals count at index category i h e is =
    let inside : index < length (drop (length goals - count) goals) = omega (arith, i, taken goals count h) in
    is ∙ ap category_in (sym (get-drop goals (length goals - count) index at e))
    ∙ found (drop (length goals - count) goals) index inside

-- the category of a goal with this root, whose parts are the last of these

module _ (declared : List TypeDef) (modes : ℕ → List ModeDecl) (types : ℕ → TypeExpr) (known : Known) (goals : List Node) where
  abbrev Gives : Category → Root → Type 0
  Gives category root = category ≡ grading.rule declared modes types known (joining root (drop (length goals - arity_of root) goals))

  pub conjunction_gives : (root : Root) (running : Running) (joined count : ℕ) (category : Category) → root ≡ Conjunction running joined → count ≡ length goals
      → category ≡ conjunction_category (categories (drop (count - joined) goals)) → Gives category root
  conjunction_gives root running joined count category e n is =
      subst (Gives category) (sym e) (in_turn (drop (length goals - joined) goals) category (is ∙ ap (λ m. conjunction_category (categories (drop (m - joined) goals))) n))

  pub disjunction_gives : (root : Root) (joined count : ℕ) (category : Category) → root ≡ Disjunction joined → count ≡ length goals
      → category ≡ disjunction_category (categories (drop (count - joined) goals)) → Gives category root
  disjunction_gives root joined count category e n is =
      subst (Gives category) (sym e) (choice (drop (length goals - joined) goals) category (is ∙ ap (λ m. disjunction_category (categories (drop (m - joined) goals))) n))

  pub switch_gives : (root : Root) (variable : ℕ) (symbols shown : List Symbol) (count : ℕ) (complete : Bool) (arms category : Category) → root ≡ Switch variable symbols
      → shown ≡ symbols → count ≡ length goals → FitsRoot declared types root → arity_of root ≤ length goals → complete ≡ is_complete_by declared shown
      → arms ≡ arms_category (categories (drop (count - length shown) goals)) → ((all : List Category) → arms ≡ arms_category all → category ≡ switch_category complete all)
      → Gives category root
  switch_gives root variable symbols shown count complete arms category e s n fits enough is_complete is step =
      subst (Gives category) (sym e)
      (switch declared types variable symbols goals complete arms category
      (subst (FitsRoot declared types) e fits) (subst (λ r. arity_of r ≤ length goals) e enough) (is_complete ∙ ap (is_complete_by declared) s)
      (is ∙ ap (λ l. arms_category (categories (drop (count - length l) goals))) s ∙ ap (λ m. arms_category (categories (drop (m - length symbols) goals))) n)
      step (drop (length goals - length symbols) goals) refl)

  pub conditional_gives : (root : Root) (count : ℕ) (one two three category : Category) → root ≡ Conditional → count ≡ length goals → arity_of root ≤ length goals
      → one ≡ category_in (slice_get goals (count - 3)) → two ≡ category_in (slice_get goals (count - 2)) → three ≡ category_in (slice_get goals (count - 1))
      → category ≡ conditional_category one two three → Gives category root
  conditional_gives root count one two three category e n enough is_one is_two is_three is =
      let three_are : 3 ≤ length goals = subst (λ r. arity_of r ≤ length goals) e enough in
      let parts = drop (length goals - 3) goals in
      subst (Gives category) (sym e)
      (is ∙ ap (λ c. conditional_category c two three) (part goals 3 (count - 3) 0 one (omega arith) three_are (omega (arith, n, three_are)) is_one)
      ∙ ap (λ c. conditional_category (category_at (goal_at parts 0)) c three) (part goals 3 (count - 2) 1 two (omega arith) three_are (omega (arith, n, three_are)) is_two)
      ∙ ap (conditional_category (category_at (goal_at parts 0)) (category_at (goal_at parts 1))) (part goals 3 (count - 1) 2 three (omega arith) three_are (omega (arith, n, three_are)) is_three))

  only : (count : ℕ) (inner : Category) → count ≡ length goals → 1 ≤ length goals → inner ≡ category_in (slice_get goals (count - 1))
      → inner ≡ category_at (goal_at (drop (length goals - 1) goals) 0)
  only count inner n enough is = part goals 1 (count - 1) 0 inner (omega arith) enough (omega (arith, n, enough)) is

  pub negation_gives : (root : Root) (count : ℕ) (inner category : Category) → root ≡ Negation → count ≡ length goals → arity_of root ≤ length goals
      → inner ≡ category_in (slice_get goals (count - 1)) → category ≡ negation_category inner → Gives category root
  negation_gives root count inner category e n enough is_inner is =
      subst (Gives category) (sym e) (is ∙ ap negation_category (only count inner n (subst (λ r. arity_of r ≤ length goals) e enough) is_inner))

  pub quantified_gives : (root : Root) (own : List ℕ) (count : ℕ) (category : Category) → root ≡ Quantified own → count ≡ length goals → arity_of root ≤ length goals
      → category ≡ category_in (slice_get goals (count - 1)) → Gives category root
  quantified_gives root own count category e n enough is =
      subst (Gives category) (sym e) (only count category n (subst (λ r. arity_of r ≤ length goals) e enough) is)
