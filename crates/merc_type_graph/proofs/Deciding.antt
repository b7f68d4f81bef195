-- All places visited.
use Rattle.std.proofs.Common.{◌≡◌, ℕ, zero, suc, ◌+◌, ◌<◌, ◌≤◌, inl, inr, Bool, true, false, List, [], ◌∷◌, length, replicate, refl, sym, ap, subst, ◌∙◌, arith}
use Rattle.std.proofs.lemmas.Bool.{cases_lt}
use Rattle.merc_tree.specs.Types.{TypeExpr, IntType}
use Rattle.merc_type_graph.specs.declared.store.Store.{Store}
use Rattle.merc_type_graph.specs.Solutions.{Agrees, Solves}
use Rattle.merc_type_graph.specs.Cells.{entry_of, entries_of, known_at}
use Rattle.merc_type_graph.specs.Fresh.{AreNew}
use Rattle.merc_type_graph.specs.Visiting.{mark_at, IsIdle, IsSettled, Visits}
use Rattle.merc_type_graph.specs.declared.visiting.Mark.{Mark}
use Rattle.merc_type_graph.specs.declared.visiting.Mark.TheVariants.{New, Done}
use Rattle.merc_type_graph.specs.declared.cell.Known.TheVariants.{Nothing}
use Rattle.merc_type_graph.specs.declared.cell.Known.{Known}
use Rattle.merc_type_graph.specs.declared.cell.Cell.{Cell}
use Rattle.merc_type_graph.proofs.Entries.{solves_all}

-- the places below this one are done
pub record AreDone (store : Store) (cells : List Cell) (marks : List Mark) (start : ℕ) : Type 0 where
  pub settled : IsSettled store cells marks
  pub idle : IsIdle marks
  pub done : (i : ℕ) → i < start → mark_at marks i ≡ Done

pub none_done : (store : Store) (cells : List Cell) (marks : List Mark) → length marks ≡ length cells → AreNew marks → AreDone store cells marks 0
none_done store cells marks count fresh = record {
  settled = record {
    count = count;
    types = λ _. IntType;
    agree = λ i e. let n = fresh i in absurd (cc);
    closed = λ i number found e need. let n = fresh i in absurd (cc);
  };
  idle = λ i e. let n = fresh i in absurd (cc);
  done = λ i less. absurd (omega arith);
}

pub one_done : (store : Store) (cells : List Cell) (marks marks' : List Mark) (start : ℕ) (fine : Bool) → fine ≡ true → Visits fine store cells marks marks' start
    → AreDone store cells marks start → AreDone store cells marks' (start + 1)
one_done store cells marks marks' start false e visits done = absurd (cc)
one_done store cells marks marks' start true e visits done = record {
  settled = visits.0;
  idle = visits.1;
  done = λ i less. elim (cases_lt i start) [
    | inl before ↦ visits.3 i (done.done i before)
    | inr here ↦ let same : i ≡ start = omega arith in ap (mark_at marks') same ∙ visits.2
  ];
}

known_past : (cells : List Cell) (i : ℕ) → length cells ≤ i → known_at cells i ≡ Nothing
known_past [] i past = refl
known_past (first ∷ rest) zero past = absurd (omega arith)
known_past (first ∷ rest) (suc i) past = known_past rest i (omega arith)

pub all_done : (store : Store) (cells : List Cell) (marks : List Mark) (start : ℕ) → AreDone store cells marks start → length cells ≤ start
    → (types : ℕ → TypeExpr) × Solves (entries_of store cells) types
all_done store cells marks start done past = (
  done.settled.types,
  solves_all store cells done.settled.types (λ i.
      elim (cases_lt i (length cells)) [
        | inl here ↦ done.settled.agree i (done.done i (omega arith))
        | inr there ↦ subst (λ (k : Known). Agrees done.settled.types i (entry_of store k)) (sym (known_past cells i there)) tt
      ]),
)

mark_new : (count i : ℕ) → mark_at (replicate count New) i ≡ New
mark_new zero i = refl
mark_new (suc count) zero = refl
mark_new (suc count) (suc i) = mark_new count i

pub new_marks : (count : ℕ) (marks : List Mark) → marks ≡ replicate count New → AreNew marks
new_marks count marks e i = ap (λ (l : List Mark). mark_at l i) e ∙ mark_new count i
