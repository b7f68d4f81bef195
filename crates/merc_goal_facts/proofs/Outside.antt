-- What occurs outside a stretch of occurrences occurs more often in the whole than in the stretch.
use Rattle.std.specs.Prelude.{◌≡◌, ◌+◌, ◌==◌, ◌||◌, nat_lt, ℕ, suc, Bool, true, false, List, [], ◌∷◌, ◌++◌, length, take, drop, if◌then◌else◌}
use Rattle.std.specs.List.{filter}
use Rattle.std.proofs.Common.{◌∙◌, ap, sym, arith}
use Rattle.std.proofs.Math.Seq.{take-append_seam, drop-append_seam}
use Rattle.std.proofs.lemmas.Bool.Decides.{nat_tests}
use Rattle.std.proofs.lemmas.List.{append_assoc, length-append}
use Rattle.std.proofs.lemmas.List.Elements.{filter-append}
use Rattle.merc_tree.specs.declared.declarations.ModeDecl.{ModeDecl}
use Rattle.merc_goal_tree.specs.Variables.{count}
use Rattle.merc_order.specs.Bound.{among}
use Rattle.merc_order.specs.Order.{outside}
use Rattle.merc_goal_facts.specs.Outside.{occurs_outside, IsStretch}

pub count-append : (variable : ℕ) (front back : List ℕ) → count variable (front ++ back) ≡ count variable front + count variable back
count-append variable front back =
    ap (λ l. length l) (filter-append (λ other. other == variable) front back) ∙ length-append (filter (λ other. other == variable) front) (filter (λ other. other == variable) back)

turned : (one other : ℕ) → (one == other) ≡ (other == one)
turned one other = grind (arith, nat_tests)

counted_by : (same : Bool) (first : ℕ) (rest : List ℕ) (known : Bool) → nat_lt 0 (length rest) ≡ known → nat_lt 0 (length (if same then first ∷ rest else rest)) ≡ (same || known)
counted_by true first rest known is = let h : nat_lt 0 (suc (length rest)) ≡ true = grind (arith, nat_tests) in h
counted_by false first rest known is = is

occurs : (variable : ℕ) (all : List ℕ) → nat_lt 0 (count variable all) ≡ among all variable
occurs variable [] = let h : nat_lt 0 0 ≡ false = grind (arith, nat_tests) in h
occurs variable (first ∷ rest) =
    counted_by (first == variable) first (filter (λ other. other == variable) rest) (among rest variable) (occurs variable rest)
    ∙ ap (λ b. b || among rest variable) (turned first variable)

more_by : (before inside after : ℕ) → (nat_lt 0 before || nat_lt 0 after) ≡ nat_lt inside (before + (inside + after))
more_by before inside after = grind (arith, nat_tests)

pub outside_stretch : (total : ℕ → ℕ) (modes : ℕ → List ModeDecl) (all : List ℕ) (start end : ℕ) (inside : List ℕ) (variable : ℕ) → IsStretch total all start end inside
    → occurs_outside all start end variable ≡ outside total modes inside variable
outside_stretch total modes all start end inside variable stretch =
    let before = stretch.before in
    let after = stretch.after in
    let front : take start all ≡ before =
    ap (λ n. take n all) (sym stretch.start_is) ∙ ap (λ l. take (length before) l) stretch.whole ∙ take-append_seam before (inside ++ after) in
    let back : drop end all ≡ after =
    ap (λ n. drop n all) (sym stretch.end_is ∙ sym (length-append before inside))
    ∙ ap (λ l. drop (length (before ++ inside)) l) (stretch.whole ∙ sym (append_assoc before inside after)) ∙ drop-append_seam (before ++ inside) after in
    let counted : count variable all ≡ count variable before + (count variable inside + count variable after) =
    ap (count variable) stretch.whole ∙ count-append variable before (inside ++ after) ∙ ap (λ n. count variable before + n) (count-append variable inside after) in
    ap (λ l. among l variable || among (drop end all) variable) front ∙ ap (λ l. among before variable || among l variable) back
    ∙ ap (λ b. b || among after variable) (sym (occurs variable before)) ∙ ap (λ b. nat_lt 0 (count variable before) || b) (sym (occurs variable after))
    ∙ more_by (count variable before) (count variable inside) (count variable after)
    ∙ ap (λ n. nat_lt (count variable inside) n) (sym counted ∙ sym (stretch.total_is variable))
