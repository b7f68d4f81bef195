-- What is put on the writer's stack, and what is taken off.
use Rattle.std.proofs.Common.{◌≡◌, ℕ, ◌+◌, ◌<◌, ◌≤◌, List, [], ◌∷◌, ◌++◌, refl, ap, sym, subst, ◌∙◌, arith, append_assoc}
use Rattle.std.proofs.lemmas.List.{append-nil}
use Rattle.std.proofs.lemmas.Grind.{flat_map-append}
use Rattle.merc_term_text.specs.Pieces.{Piece, piece_text, pieces_text}
use Rattle.merc_term_text.specs.declared.work.Mark.{Mark}
use Rattle.merc_term_text.specs.declared.work.Work.{Work}
use Rattle.merc_tree.specs.Term.{Term}
use Rattle.merc_term_text.specs.Written.{Part, other_pieces}
use Rattle.merc_term_text.specs.Walking.{arguments_pieces, mark_pieces, work_pieces, pending, weight, weights, Puts, Takes}

pub pending-snoc : (names : List (List ℕ)) (stack : List Work) (work : Work) → pending names (stack ++ work ∷ []) ≡ work_pieces names work ++ pending names stack
pending-snoc names [] work = sym (append-nil (work_pieces names work))
pending-snoc names (first ∷ stack) work =
    ap (λ t. t ++ work_pieces names first) (pending-snoc names stack work)
    ∙ append_assoc (work_pieces names work) (pending names stack) (work_pieces names first)

pub weights-snoc : (stack : List Work) (work : Work) → weights (stack ++ work ∷ []) ≡ weight work + weights stack
weights-snoc [] work = refl
weights-snoc (first ∷ stack) work = let e = weights-snoc stack work in omega arith

abbrev Pieces : Type 0
Pieces = List (List ℕ) → List Piece

pub puts_one : (old new : List Work) (work : Work) → new ≡ old ++ work ∷ [] → Puts (λ names. work_pieces names work) (weight work) old new
puts_one old new work pushed = subst (λ (s : List Work). Puts (λ names. work_pieces names work) (weight work) old s) (sym pushed) (record {
  whole = λ names. pending-snoc names old work;
  heavier = omega (arith, weights-snoc old work);
})

module _ {old new : List Work} where
  pub puts_more : {p q : Pieces} {w v : ℕ} {mid : List Work} → Puts p w old mid → Puts q v mid new → Puts (λ names. q names ++ p names) (v + w) old new
  puts_more {p} {q} {w} {v} {mid} first second = record {
    whole = λ names. second.whole names ∙ ap (λ t. q names ++ t) (first.whole names) ∙ sym (append_assoc (q names) (p names) (pending names old));
    heavier = omega (arith, first.heavier, second.heavier);
  }

  pub puts_as : {p : Pieces} {w : ℕ} → Puts p w old new → (q : Pieces) (v : ℕ) → ((names : List (List ℕ)) → p names ≡ q names) → w ≤ v → Puts q v old new
  puts_as {p} {w} puts q v same few = record {
    whole = λ names. puts.whole names ∙ ap (λ t. t ++ pending names old) (same names);
    heavier = omega (arith, puts.heavier, few);
  }

  pub takes_mark : {p : Pieces} {w : ℕ} → Puts p w old new → (q : Pieces) (v : ℕ) (mark : Mark) → ((names : List (List ℕ)) → mark_pieces names mark ++ p names ≡ q names) → w < v → Takes q v old new mark
  takes_mark {p} {w} puts q v mark same few = record {
    whole = λ names. ap (λ t. mark_pieces names mark ++ t) (puts.whole names) ∙ sym (append_assoc (mark_pieces names mark) (p names) (pending names old)) ∙ ap (λ t. t ++ pending names old) (same names);
    lighter = omega (arith, puts.heavier, few);
  }

  pub takes_as : {p : Pieces} {w : ℕ} {mark : Mark} → Takes p w old new mark → (q : Pieces) (v : ℕ) → ((names : List (List ℕ)) → p names ≡ q names) → w ≤ v → Takes q v old new mark
  takes_as {p} {w} {mark} takes q v same few = record {
    whole = λ names. takes.whole names ∙ ap (λ t. t ++ pending names old) (same names);
    lighter = omega (arith, takes.lighter, few);
  }

  pub takes_before : {p q : Pieces} {w v : ℕ} {mid : List Work} {mark : Mark} → Puts p w old mid → Takes q v mid new mark → (r : Pieces) (u : ℕ) → ((names : List (List ℕ)) → q names ++ p names ≡ r names) → v + w ≤ u → Takes r u old new mark
  takes_before {p} {q} {w} {v} {mid} {mark} puts takes r u same few = record {
    whole = λ names. takes.whole names ∙ ap (λ t. q names ++ t) (puts.whole names) ∙ sym (append_assoc (q names) (p names) (pending names old)) ∙ ap (λ t. t ++ pending names old) (same names);
    lighter = omega (arith, takes.lighter, puts.heavier, few);
  }

pub takes_only : (old : List Work) (q : Pieces) (v : ℕ) (mark : Mark) → ((names : List (List ℕ)) → mark_pieces names mark ≡ q names) → 0 < v → Takes q v old old mark
takes_only old q v mark same some = record { whole = λ names. ap (λ t. t ++ pending names old) (same names); lighter = omega (arith, some) }

-- arguments behind those that are left: the parenthesis stands before the first
abbrev pub begun : List (List ℕ) → List Term → List Part → List Piece
begun names [] parts = arguments_pieces parts
begun names (first ∷ rest) parts = other_pieces parts

-- what is appended in one round of the writer

pub round_appended : (names : List (List ℕ)) (first old new : List ℕ) (done marked : List Piece) → old ≡ first ++ pieces_text names done → new ≡ old ++ pieces_text names marked → new ≡ first ++ pieces_text names (done ++ marked)
round_appended names first old new done marked before appended =
    appended ∙ ap (λ t. t ++ pieces_text names marked) before ∙ append_assoc first (pieces_text names done) (pieces_text names marked)
    ∙ ap (λ t. first ++ t) (sym (flat_map-append (piece_text names) done marked))

module _ (names : List (List ℕ)) (old popped new : List Work) (work : Work) (mark : Mark)
    (last : old ≡ popped ++ work ∷ []) (takes : Takes (λ names. work_pieces names work) (weight work) popped new mark) where
  pub round_whole : (done whole : List Piece) → done ++ pending names old ≡ whole → (done ++ mark_pieces names mark) ++ pending names new ≡ whole
  round_whole done whole before =
      append_assoc done (mark_pieces names mark) (pending names new)
      ∙ ap (λ t. done ++ t) (takes.whole names ∙ sym (pending-snoc names popped work))
      ∙ ap (λ (s : List Work). done ++ pending names s) (sym last) ∙ before

  pub round_falls : weights new < weights old
  round_falls = omega (arith, takes.lighter, ap weights last, weights-snoc popped work)
