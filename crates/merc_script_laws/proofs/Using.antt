-- Rights used up by one goal and then by the rest.
use Rattle.std.proofs.Common.{◌≡◌, ◌⊎◌, inl, inr, ℕ, ◌<◌, Bool, true, false, List, [], ◌++◌, length, Option, Some, ap, sym, subst, ◌∙◌}
use Rattle.merc_order.specs.Bound.{among}
use Rattle.merc_order_laws.proofs.Facts.{clash, or_cases, either_way, among_append}
use Rattle.merc_value.specs.Value.{Value}
use Rattle.merc_core.specs.Rights.{has}
use Rattle.merc_rights.specs.Rights.{Right, those}
use Rattle.merc_par_split.specs.Sites.{are_for}
use Rattle.merc_plan.specs.Branch.{Hold, Gift, gift_at}
use Rattle.merc_script_laws.proofs.Bonds.{Set, Here, Owed, signs, Names, here_behind, Used, Rightful}
use Rattle.merc_script_laws.proofs.RightLists.{not_not, is_not, those_in, in_those, not_those, those_within, for_those}
use Rattle.merc_script_laws.proofs.Steps.{unused, or_later, moves_both}

-- uses: what the goal uses; outs: its outputs, to which its signals belong; rest_uses and outs2 are the rest's
module _ (Behind1 Behind2 Behind : Hold → Type 0) (never1 never2 never : Type 0) (uses rest_uses later : ℕ → Bool) (here : Set) (w s : List Right) (outs outs2 : List ℕ) (hold : Hold) (held : List ℕ) (g : List Gift) where
  abbrev unbound : ℕ → Bool
  unbound = unused (among outs)

  abbrev UsedFirst : List ℕ → List Gift → Hold → Type 0
  UsedFirst held1 g1 hold1 = Used Behind1 never1 here (those uses w) (those (among outs) s) (or_later later rest_uses) outs hold held g held1 g1 hold1

  abbrev UsedRest : List ℕ → List Gift → Hold → List ℕ → List Gift → Hold → Type 0
  UsedRest held1 g1 hold1 held2 g2 hold2 =
      Used Behind2 never2 (here_behind here (those uses w) (or_later later rest_uses) outs) (those (unused uses) w) (those unbound s) later outs2 hold1 held1 g1 held2 g2 hold2

  not_first : (x : ℕ) → are_for (those unbound s) x ≡ true → are_for (those (among outs) s) x ≡ false
  not_first x h = not_those (among outs) s x (λ k e. clash e (not_not (among outs x) (those_in unbound s x h).1))

  not_rest : (x : ℕ) → are_for (those (among outs) s) x ≡ true → are_for (those unbound s) x ≡ false
  not_rest x h = not_those unbound s x (λ k e. clash (those_in (among outs) s x h).1 (not_not (among outs x) e))

  pub rightful_first : (rights : ℕ → Bool) → Rightful w s (outs ++ outs2) rights held g hold → Rightful (those uses w) (those (among outs) s) outs rights held g hold
  rightful_first rights q = record {
    to_signal = λ x c h. q.to_signal x c (those_in (among outs) s x h).0;
    counts = λ x h. let k = those_in (among outs) s x h in ap length (for_those (among outs) x s k.1) ∙ q.counts x k.0;
    to_wait = λ x c o h e. q.to_wait x c o (those_in uses w x h).0 e;
    within = λ x h. (those_in (among outs) s x h).1;
    low = q.low;
  }

  module _ (names : Names hold) (held1 : List ℕ) (g1 : List Gift) (hold1 : Hold) (u : UsedFirst held1 g1 hold1) where
    -- the first goal gives nothing through a cell of a variable that the rest signals
    not_given : (x c : ℕ) → are_for (those unbound s) x ≡ true → has c (signs x hold) ≡ true → gift_at c g1 ≡ gift_at c g
    not_given x c h k = u.left c (names.low x c k) (λ y i j. clash (subst (λ z. are_for (those (among outs) s) z ≡ true) (sym (names.apart x y c k j)) i) (not_first x h))

    pub rightful_rest : (rights : ℕ → Bool) → Rightful w s (outs ++ outs2) rights held g hold → Rightful (those (unused uses) w) (those unbound s) outs2 rights held1 g1 hold1
    rightful_rest rights q = record {
      to_signal = λ x c h k.
          let j = u.moves.signed x c k in
          let r = q.to_signal x c (those_in unbound s x h).0 j in
          (r.0, not_given x c h j ∙ r.1);
      counts = λ x h. let k = those_in unbound s x h in ap length (for_those unbound x s k.1) ∙ q.counts x k.0 ∙ ap length (sym (u.unsigned x (not_first x h)));
      to_wait = to_wait;
      within = λ x h. let k = those_in unbound s x h in rest_within x k.1 (or_cases (among outs x) (among outs2 x) (sym (among_append x outs outs2) ∙ q.within x k.0));
      low = λ c h. subst (λ n. c < n) (sym u.moves.next) (q.low c h);
    } where
      rest_within : (x : ℕ) → unbound x ≡ true → (among outs x ≡ true) ⊎ (among outs2 x ≡ true) → among outs2 x ≡ true
      rest_within x k (inl h) = clash h (not_not (among outs x) k)
      rest_within x k (inr h) = h

      to_wait : (x c : ℕ) (o : Option Value) → are_for (those (unused uses) w) x ≡ true → Owed hold1 x c o → has c held1 ≡ true
      to_wait x c o h e =
          let p = u.moves.old x c o e in
          let i = those_in (unused uses) w x h in
          u.kept c (names.low_owed x c o p) (q.to_wait x c o i.0 p)
          (λ y r j k. clash (subst (λ z. uses z ≡ true) (sym (names.apart_owed x y c o r p k)) (those_in uses w y j).1) (not_not (uses x) i.1))

    pub used_both : (held2 : List ℕ) (g2 : List Gift) (hold2 : Hold) → (never → never1 ⊎ never2) → (Behind1 hold1 → Behind2 hold2 → Behind hold2) → UsedRest held1 g1 hold1 held2 g2 hold2
        → Used Behind never here w s later (outs ++ outs2) hold held g held2 g2 hold2
    used_both held2 g2 hold2 some behind n = record {
      moves = moves_both uses rest_uses later (λ x. false) here w s outs hold hold1 outs2 hold2 u.moves n.moves;
      kept = λ c l h no. n.kept c (low c l) (u.kept c l h (λ x o i e. no x o (those_in uses w x i).0 e)) (λ x o i e. no x o (those_in (unused uses) w x i).0 (u.moves.old x c o e));
      gave = λ x c h k. gave x c h k (either_way (among outs x));
      left = λ c l no.
          n.left c (low c l) (λ x i k. no x (those_in unbound s x i).0 (u.moves.signed x c k)) ∙ u.left c l (λ x i k. no x (those_in (among outs) s x i).0 k);
      signed = λ x h. signed x h (either_way (among outs x));
      unsigned = λ x h. n.unsigned x (those_within unbound s x h) ∙ u.unsigned x (those_within (among outs) s x h);
      behind = behind u.behind n.behind;
      reached = λ k. elim (some k) as (λ _. ⊥) [ inl j ↦ u.reached j | inr j ↦ n.reached j ];
    } where
      low : (c : ℕ) → c < hold.next → c < hold1.next
      low c l = subst (λ m. c < m) (sym u.moves.next) l

      gave : (x c : ℕ) → are_for s x ≡ true → has c (signs x hold) ≡ true → (among outs x ≡ true) ⊎ (among outs x ≡ false) → (v : Value) × ((gift_at c g2 ≡ Some (Some v)) × Here hold2 x v)
      gave x c h k (inl o) =
          let i = in_those (among outs) s x h o in
          let v = u.gave x c i k in (
            v.0,
            (
              n.left c (low c (names.low x c k)) (λ y j m. clash (subst (λ z. are_for (those unbound s) z ≡ true) (sym (names.apart x y c k (u.moves.signed y c m))) j) (not_rest x i)) ∙ v.1.0,
              n.moves.keep x v.0 (inr (inl o)) v.1.1,
            ),
          )
      gave x c h k (inr o) =
          let i = in_those unbound s x h (is_not (among outs x) o) in
          n.gave x c i (subst (λ l. has c l ≡ true) (sym (u.unsigned x (not_first x i))) k)

      signed : (x : ℕ) → are_for s x ≡ true → (among outs x ≡ true) ⊎ (among outs x ≡ false) → signs x hold2 ≡ []
      signed x h (inl o) = let i = in_those (among outs) s x h o in n.unsigned x (not_rest x i) ∙ u.signed x i
      signed x h (inr o) = n.signed x (in_those unbound s x h (is_not (among outs x) o))
