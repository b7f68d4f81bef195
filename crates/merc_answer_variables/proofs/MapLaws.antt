-- Steps over maps and sets of names, one entry at a time.
use Rattle.std.specs.Cmp.{unsigned_ties, nat_cmp_total, eq_by_cmp_equiv}
use Rattle.std.specs.Ordering.{is_eq, nat_cmp, eq_by_cmp}
use Rattle.std.specs.Option.{option_or}
use Rattle.std.specs.Map.{lookup, update_all, keys_of}
use Rattle.std.specs.BTreeMap.{is_at}
use Rattle.std.specs.List.Sorted.{IsStrictlySortedBy}
use Rattle.std.specs.List.{list_any}
use Rattle.std.proofs.Common.{◌≡◌, ℕ, Bool, true, false, cond, ◌==◌, ◌&&◌, ◌||◌, not, List, ◌∷◌, Option, Some, None, is_some, refl, ap, sym, ◌∙◌, arith}
use Rattle.std.proofs.lemmas.Bool.{eqb-true}
use Rattle.std.proofs.lemmas.Bool.Decides.{nat_tests}
use Rattle.std.proofs.lemmas.Map.Keys.{IsDistinct-from_sorted}
use Rattle.std.proofs.lemmas.Map.Made.{update_all_distinct}

pub flipped : (a b : ℕ) → (a == b) ≡ (b == a)
flipped a b = grind (arith, nat_tests)

pub tie : (a b : ℕ) → is_eq (nat_cmp a b) ≡ (a == b)
tie a b = sym (unsigned_ties a b)

-- the test of the key that changes is the test of the entry that is read
tie-flipped : (a b : ℕ) → is_eq (nat_cmp a b) ≡ is_eq (nat_cmp b a)
tie-flipped a b = tie a b ∙ flipped a b ∙ sym (tie b a)

tied : (a b : ℕ) → is_eq (nat_cmp a b) ≡ true → a ≡ b
tied a b is = eqb-true a b (sym (tie a b) ∙ is)

is_some-cond : (t : Bool) (place : ℕ) (other : Option ℕ) → is_some (cond t (Some place) other) ≡ cond t true (is_some other)
is_some-cond true place other = refl
is_some-cond false place other = refl

among_bools : (t m b l : Bool) → (t ≡ true → m ≡ true) → (cond t true b || (l && m)) ≡ (b || (cond t true l && m))
among_bools true true true l has = refl
among_bools true true false l has = refl
among_bools true false true l has = refl
among_bools true false false l has = sym (has refl)
among_bools false m b l has = refl

-- one entry more of the fewer, whose name the others have
pub among_step : (q name place : ℕ) (many : ℕ → Option ℕ) (found before whole : Bool) (entries rest : List (ℕ × ℕ))
    → entries ≡ (name, place) ∷ rest → is_some (many name) ≡ true → found ≡ cond (is_eq (nat_cmp name q)) true before
    → (before || (is_some (lookup (is_at (nat_cmp q)) entries) && is_some (many q))) ≡ whole
    → (found || (is_some (lookup (is_at (nat_cmp q)) rest) && is_some (many q))) ≡ whole
among_step q name place many found before whole entries rest reading has updating is =
    ap (λ (b : Bool). b || (is_some (lookup (is_at (nat_cmp q)) rest) && is_some (many q))) (updating ∙ ap (λ (t : Bool). cond t true before) (tie-flipped name q))
    ∙ among_bools (is_eq (nat_cmp q name)) (is_some (many q)) before (is_some (lookup (is_at (nat_cmp q)) rest)) (λ t. ap (λ (k : ℕ). is_some (many k)) (tied q name t) ∙ has)
    ∙ ap (λ (l : Bool). before || (l && is_some (many q))) (sym (is_some-cond (is_eq (nat_cmp q name)) place (lookup (is_at (nat_cmp q)) rest)))
    ∙ ap (λ (l : List (ℕ × ℕ)). before || (is_some (lookup (is_at (nat_cmp q)) l) && is_some (many q))) (sym reading)
    ∙ is

under_options : (t : Bool) (place : ℕ) (old rest : Option ℕ) → (t ≡ true → old ≡ None) → option_or (cond t (Some place) old) rest ≡ option_or old (cond t (Some place) rest)
under_options true place old rest lacks = ap (λ (o : Option ℕ). option_or o (Some place)) (sym (lacks refl))
under_options false place old rest lacks = refl

-- one entry more, which the first lacks
pub under_step : (q name place : ℕ) (places : ℕ → Option ℕ) (found whole : Option ℕ) (entries rest : List (ℕ × ℕ))
    → entries ≡ (name, place) ∷ rest → places name ≡ None → found ≡ cond (is_eq (nat_cmp name q)) (Some place) (places q)
    → option_or (places q) (lookup (is_at (nat_cmp q)) entries) ≡ whole
    → option_or found (lookup (is_at (nat_cmp q)) rest) ≡ whole
under_step q name place places found whole entries rest reading lacks updating is =
    ap (λ (o : Option ℕ). option_or o (lookup (is_at (nat_cmp q)) rest)) (updating ∙ ap (λ (t : Bool). cond t (Some place) (places q)) (tie-flipped name q))
    ∙ under_options (is_eq (nat_cmp q name)) place (places q) (lookup (is_at (nat_cmp q)) rest) (λ t. ap places (tied q name t) ∙ lacks)
    ∙ ap (λ (l : List (ℕ × ℕ)). option_or (places q) (lookup (is_at (nat_cmp q)) l)) (sym reading)
    ∙ is

with_bools : (t b l : Bool) → (cond t true b || l) ≡ (b || (t || l))
with_bools true true l = refl
with_bools true false l = refl
with_bools false b l = refl

pub with_step : (q name : ℕ) (found before whole : Bool) (entries rest : List ℕ)
    → entries ≡ name ∷ rest → found ≡ cond (is_eq (nat_cmp name q)) true before
    → (before || list_any (is_at (nat_cmp q)) entries) ≡ whole → (found || list_any (is_at (nat_cmp q)) rest) ≡ whole
with_step q name found before whole entries rest reading updating is =
    ap (λ (b : Bool). b || list_any (is_at (nat_cmp q)) rest) (updating ∙ ap (λ (t : Bool). cond t true before) (tie-flipped name q))
    ∙ with_bools (is_eq (nat_cmp q name)) before (list_any (is_at (nat_cmp q)) rest)
    ∙ ap (λ (l : List ℕ). before || list_any (is_at (nat_cmp q)) l) (sym reading)
    ∙ is

hide_bools : (t m b l : Bool) → (t ≡ true → m ≡ true) → (cond t false b && not (l && m)) ≡ (b && not (cond t true l && m))
hide_bools true true true l has = refl
hide_bools true true false l has = refl
hide_bools true false true l has = has refl
hide_bools true false false l has = refl
hide_bools false m b l has = refl

-- one entry more of the fewer, whose name the others have and which is taken out
pub hide_step : (q name place : ℕ) (many : ℕ → Option ℕ) (found before whole : Bool) (entries rest : List (ℕ × ℕ))
    → entries ≡ (name, place) ∷ rest → is_some (many name) ≡ true → found ≡ cond (is_eq (nat_cmp name q)) false before
    → (before && not (is_some (lookup (is_at (nat_cmp q)) entries) && is_some (many q))) ≡ whole
    → (found && not (is_some (lookup (is_at (nat_cmp q)) rest) && is_some (many q))) ≡ whole
hide_step q name place many found before whole entries rest reading has updating is =
    ap (λ (b : Bool). b && not (is_some (lookup (is_at (nat_cmp q)) rest) && is_some (many q))) (updating ∙ ap (λ (t : Bool). cond t false before) (tie-flipped name q))
    ∙ hide_bools (is_eq (nat_cmp q name)) (is_some (many q)) before (is_some (lookup (is_at (nat_cmp q)) rest)) (λ t. ap (λ (k : ℕ). is_some (many k)) (tied q name t) ∙ has)
    ∙ ap (λ (l : Bool). before && not (l && is_some (many q))) (sym (is_some-cond (is_eq (nat_cmp q name)) place (lookup (is_at (nat_cmp q)) rest)))
    ∙ ap (λ (l : List (ℕ × ℕ)). before && not (is_some (lookup (is_at (nat_cmp q)) l) && is_some (many q))) (sym reading)
    ∙ is

-- all entries of one map put over another
pub put_over : (old : ℕ → Option ℕ) (entries : List (ℕ × ℕ)) (q : ℕ) → IsStrictlySortedBy nat_cmp (keys_of entries)
    → update_all (eq_by_cmp nat_cmp) old entries q ≡ option_or (lookup (is_at (nat_cmp q)) entries) (old q)
put_over old entries q sorted =
    update_all_distinct (eq_by_cmp_equiv nat_cmp_total) (eq_by_cmp nat_cmp) (λ a b. refl) old entries q (IsDistinct-from_sorted nat_cmp (keys_of entries) sorted)
