use Rattle.std.specs.Cmp.{unsigned_ties}
use Rattle.std.specs.Ordering.{is_eq}
use Rattle.std.specs.Result.{is_ok}
use Rattle.std.proofs.Common.{◌≡◌, ℕ, Bool, true, false, cond, ◌==◌, ◌||◌, ◌++◌, ◌∷◌, List, [], nat_cmp, arith, refl, ap, sym, ◌∙◌, if◌then◌else◌}
use Rattle.std.proofs.lemmas.Bool.Decides.{nat_tests}
use Rattle.std.proofs.lemmas.List.Folds.{list_any-append}
use Rattle.merc_item_forms.specs.Forms.{is_in}
use Rattle.merc_entries.proofs.distinct_names.DistinctNames.insert.Goals as goal

same_either_way : (a b : ℕ) → (a == b) ≡ (b == a)
same_either_way a b = grind (arith, nat_tests)

either : (test known : Bool) → cond test true known ≡ (known || (test || false))
either true true = refl
either true false = refl
either false true = refl
either false false = refl

-- one name more that is known
known_more : (name other : ℕ) (known : Bool) (names : List ℕ) → known ≡ is_in other names
    → cond (is_eq (nat_cmp name other)) true known ≡ is_in other (names ++ name ∷ [])
known_more name other known names same =
    ap (λ b. cond b true known) (sym (unsigned_ties name other) ∙ same_either_way name other)
    ∙ either (other == name) known
    ∙ ap (λ b. b || ((other == name) || false)) same
    ∙ sym (list_any-append (λ n. other == n) names (name ∷ []))

pub invariant_of-self-then-new : goal.invariant_of-self-then-new
invariant_of-self-then-new c = λ name.
    c.in_ok-new.ensures.updates.0 name
    ∙ known_more c.args.name name _ c.self.inside.names.items (c.self.invariant name)
    ∙ ap (λ l. is_in name (l ++ c.args.name ∷ [])) (sym c.reserve.ensures.items)
    ∙ ap (λ r. is_in name (if is_ok r then c.reserve.new.self.items ++ c.args.name ∷ [] else c.reserve.new.self.items)) (sym c.unwrap.ensures)
    ∙ ap (is_in name) (sym c.push.ensures.items)
