-- Laws of the terms that are being built.
use Rattle.std.proofs.Common.{◌≡◌, ℕ, zero, suc, ◌+◌, ◌-◌, ◌<◌, ◌≤◌, List, [], ◌∷◌, length, take, Option, None, refl, sym, ap, ◌∙◌, arith, length-append}
use Rattle.std.proofs.lemmas.List.{length-take-le}
use Rattle.merc_base.specs.declared.place.Span.{Span}
use Rattle.merc_base.specs.Names.{nil_name, cons_name}
use Rattle.merc_tree.specs.Term.{Term, Application, none, applied, enclosed}
use Rattle.merc_terms.specs.declared.built.Built.{Built}
use Rattle.merc_terms.specs.Reader.{with_term, with_application, with_cells, with_list}

-- The arguments give way to the application.
pub length-applied : (name : ℕ) (qualifier : Option ℕ) (arity : ℕ) (span : Span) (terms : List Term) → arity ≤ length terms → length (applied name qualifier arity span terms) + arity ≡ length terms + 1
length-applied name qualifier arity span terms h =
    let small : length terms - arity ≤ length terms = omega arith in
    let front : length (take (length terms - arity) terms) ≡ length terms - arity = length-take-le _ _ small in
    simp length-append (omega (arith, front))

pub with_cells-step : (left : ℕ) (span : Span) (built : Built) → 0 < left → with_cells left span built ≡ with_cells (left - 1) span (with_application cons_name None 2 span built)
with_cells-step zero span built h = absurd (omega (arith, h))
with_cells-step (suc left) span built h =
    let e : left ≡ suc left - 1 = omega arith in ap (λ (n : ℕ). with_cells n span (with_application cons_name None 2 span built)) e

-- One cell is made, and there are enough terms for those that are left.
pub record CellsLeft (before : Built) (count left : ℕ) (span : Span) (built : Built) : Type 0 where
  pub enough : left + 1 ≤ length built.terms
  pub same : with_cells left span built ≡ with_cells count span before

pub cell_made : (before : Built) (count left : ℕ) (span : Span) (built built' : Built) → 0 < left → CellsLeft before count left span built → built' ≡ with_application cons_name None 2 span built → CellsLeft before count (left - 1) span built'
cell_made before count left span built built' h l e = record {
  enough = let two : 2 ≤ length built.terms = omega (arith, l.enough) in
      omega (arith, length-applied 2 None 2 span built.terms two, ap (λ (b : Built). length b.terms) e, l.enough);
  same = ap (λ (b : Built). with_cells (left - 1) span b) e ∙ sym (with_cells-step left span built h) ∙ l.same;
}

pub length-enclosed : (span : Span) (terms : List Term) → length (enclosed span terms) ≡ length terms
length-enclosed span [] = refl
length-enclosed span (only ∷ []) = refl
length-enclosed span (first ∷ next ∷ rest) = ap suc (length-enclosed span (next ∷ rest))

-- Each cell takes the place of two terms.
pub length-with_cells : (count : ℕ) (span : Span) (built : Built) → count + 1 ≤ length built.terms → length (with_cells count span built).terms + count ≡ length built.terms
length-with_cells zero span built h = omega arith
length-with_cells (suc count) span built h =
    let two : 2 ≤ length built.terms = omega arith in
    let one : length (with_application cons_name None 2 span built).terms + 2 ≡ length built.terms + 1 = length-applied 2 None 2 span built.terms two in
    let left : count + 1 ≤ length (with_application cons_name None 2 span built).terms = omega arith in
    omega (arith, length-with_cells count span (with_application cons_name None 2 span built) left)

-- A list takes the place of its items.
pub length-with_list : (count : ℕ) (span : Span) (built : Built) → count ≤ length built.terms → length (with_list count span built).terms + count ≡ length built.terms + 1
length-with_list count span built h =
    let nil : Built = with_term (Application nil_name None none span) built in
    let one : length nil.terms ≡ length built.terms + 1 = length-append built.terms (Application nil_name None none span ∷ []) in
    let left : count + 1 ≤ length nil.terms = omega arith in
    omega (arith, length-with_cells count span nil left)
