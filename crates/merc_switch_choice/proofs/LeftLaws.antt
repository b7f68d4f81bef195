-- The variables on which disjuncts can still be a switch, while one after the other is tried and taken out.
use Rattle.std.specs.Prelude.{◌≡◌, ◌≤◌, ◌<◌, ℕ, Bool, true, false, not, ◌==◌, ◌||◌, ◌&&◌, List, [], ◌∷◌, Option, Some, None, IfSome, MatchOption, refl}
use Rattle.std.specs.List.{filter, list_all}
use Rattle.std.proofs.Common.{◌∙◌, ap, sym, subst, arith}
use Rattle.std.proofs.lemmas.Bool.Decides.{Decides-eqb}
use Rattle.merc_tree.specs.declared.declarations.TypeDef.{TypeDef}
use Rattle.merc_graded_tree.specs.Nodes.{Node}
use Rattle.merc_order.specs.Bound.{Bound, among}
use Rattle.merc_grading.specs.Switches.{symbol_at, is_there, split_variables, least, or_else}
use Rattle.merc_switch_choice.specs.declared.choosing.Candidates.{Candidates}
use Rattle.merc_switch_choice.specs.Choosing.{is_covered, is_open, opened_in, chosen, AreLeft, Takes}
use Rattle.merc_switch_choice.proofs.Members.{or_assoc, or_false}
use Rattle.merc_switch_choice.proofs.ChoiceLaws.{among-filter, least_is, least_none, opened_one}
use Rattle.merc_switch_choice.proofs.Tests.{clash}

either : {A : Type 0} (a b : Bool) → (a || b) ≡ true → (a ≡ true → A) → (b ≡ true → A) → A
either true b h f g = f refl
either false b h f g = g h

both : (a b : Bool) → (a && b) ≡ true → (a ≡ true) × (b ≡ true)
both true b h = (refl, h)
both false b h = absurd (cc)

and_true : (a b : Bool) → a ≡ true → b ≡ true → (a && b) ≡ true
and_true a b p q = ap (λ c. c && b) p ∙ q

never : (a b : Bool) → (b ≡ true → a ≡ false) → (a && b) ≡ false
never true true h = h refl
never true false h = refl
never false b h = refl

first_among : (v : ℕ) (rest : List ℕ) → among (v ∷ rest) v ≡ true
first_among v rest = ap (λ b. b || among rest v) (same v)
  where
    same : (n : ℕ) → (n == n) ≡ true
    same n = (Decides-eqb n n).1 refl

moved_if : (e r u : Bool) → (r || (e || u)) ≡ ((e || r) || u)
moved_if true true u = refl
moved_if true false u = refl
moved_if false r u = refl

gone : (b left whole : Bool) → (b ≡ true → left ≡ false) → (b || left) ≡ whole → left ≡ (not b && whole)
gone true left whole h is = h refl
gone false left whole h is = is

or_none : (a b : Bool) → a ≡ false → b ≡ false → (a || b) ≡ false
or_none a b p q = ap (λ c. c || b) p ∙ q

not_true : (b : Bool) → (b ≡ true → ⊥) → b ≡ false
not_true true h = absurd (h refl)
not_true false h = refl

-- a variable more that is used

used_if : (e u b s : Bool) → ((not (e || u) && b) && s) ≡ (not e && ((not u && b) && s))
used_if true u b s = refl
used_if false u b s = refl

opened_used : (bound : Bound) (used : List ℕ) (disjuncts : List Node) (v w : ℕ) → among (opened_in bound (v ∷ used) disjuncts) w ≡ (not (w == v) && among (opened_in bound used disjuncts) w)
opened_used bound used disjuncts v w =
    among-filter (λ x. is_open bound (v ∷ used) disjuncts x) (split_variables disjuncts) w
    ∙ used_if (w == v) (among used w) (bound w && list_all (λ disjunct. is_there (symbol_at w disjunct)) disjuncts) (among (split_variables disjuncts) w)
    ∙ ap (λ b. not (w == v) && b) (sym (among-filter (λ x. is_open bound used disjuncts x) (split_variables disjuncts) w))

-- only which variables are used counts
pub left_same : (declared : List TypeDef) (bound : Bound) (one other : List ℕ) (disjuncts : List Node) (untried uncovered : List ℕ) → among one ≡ among other
    → AreLeft declared bound one disjuncts untried uncovered → AreLeft declared bound other disjuncts untried uncovered
left_same declared bound one other disjuncts untried uncovered same left = record {
  all_are = λ v. left.all_are v ∙ ap (λ (u : Bound). among (filter (λ x. not (u x) && (bound x && list_all (λ disjunct. is_there (symbol_at x disjunct)) disjuncts)) (split_variables disjuncts)) v) same;
  uncovered_are = left.uncovered_are;
}

module _ (declared : List TypeDef) (bound : Bound) (used : List ℕ) (disjuncts : List Node) where
  abbrev opened : List ℕ
  opened = opened_in bound used disjuncts

  abbrev covers : ℕ → Bool
  covers v = is_covered declared disjuncts v

  -- one is tried and not covered
  pub moved : (v : ℕ) (rest uncovered more : List ℕ) → AreLeft declared bound used disjuncts (v ∷ rest) uncovered → covers v ≡ false
      → ((w : ℕ) → among more w ≡ ((w == v) || among uncovered w)) → AreLeft declared bound used disjuncts rest more
  moved v rest uncovered more left not_covered are = record {
    all_are = λ w. ap (λ b. among rest w || b) (are w) ∙ moved_if (w == v) (among rest w) (among uncovered w) ∙ left.all_are w;
    uncovered_are = λ w h. either (w == v) (among uncovered w) (sym (are w) ∙ h) (λ e. ap covers ((Decides-eqb w v).0 e) ∙ not_covered) (λ e. left.uncovered_are w e);
  }

  -- the least of them is taken where it is covered
  pub covered_chosen : (v : ℕ) (rest uncovered : List ℕ) → AreLeft declared bound used disjuncts (v ∷ rest) uncovered → ((w : ℕ) → among rest w ≡ true → v < w) → covers v ≡ true
      → Some v ≡ chosen declared bound used disjuncts
  covered_chosen v rest uncovered left above is =
      let there : among opened v ≡ true = sym (left.all_are v) ∙ ap (λ b. b || among uncovered v) (first_among v rest) in
      let member = among-filter covers opened v ∙ and_true (covers v) (among opened v) is there in
      let below : (w : ℕ) → among (filter covers opened) w ≡ true → v ≤ w = λ w h.
      let parts = both (covers w) (among opened w) (sym (among-filter covers opened w) ∙ h) in
      either (among (v ∷ rest) w) (among uncovered w) (left.all_are w ∙ parts.1)
      (λ e. either (w == v) (among rest w) e (λ k. let same : w ≡ v = (Decides-eqb w v).0 k in omega (arith, same)) (λ k. let less = above w k in omega (arith, less)))
      (λ e. clash parts.0 (left.uncovered_are w e)) in
      sym (ap (λ o. or_else o (least opened)) (least_is (filter covers opened) v member below))

  none_covered : (uncovered : List ℕ) → AreLeft declared bound used disjuncts [] uncovered → chosen declared bound used disjuncts ≡ least opened
  none_covered uncovered left =
      ap (λ o. or_else o (least opened)) (least_none (filter covers opened) (λ w. among-filter covers opened w
      ∙ never (covers w) (among opened w) (λ h. left.uncovered_are w (left.all_are w ∙ h))))

  -- the least of all where none is covered
  pub uncovered_chosen : (v : ℕ) (rest : List ℕ) → AreLeft declared bound used disjuncts [] (v ∷ rest) → ((w : ℕ) → among rest w ≡ true → v < w) → Some v ≡ chosen declared bound used disjuncts
  uncovered_chosen v rest left above =
      let below : (w : ℕ) → among opened w ≡ true → v ≤ w = λ w h. either (w == v) (among rest w) (left.all_are w ∙ h)
      (λ k. let same : w ≡ v = (Decides-eqb w v).0 k in omega (arith, same)) (λ k. let less = above w k in omega (arith, less)) in
      sym (none_covered (v ∷ rest) left ∙ least_is opened v (sym (left.all_are v) ∙ first_among v rest) below)

  pub none_chosen : AreLeft declared bound used disjuncts [] [] → None ≡ chosen declared bound used disjuncts
  none_chosen left = sym (none_covered [] left ∙ least_none opened (λ w. sym (left.all_are w)))

  -- what is taken is no more left
  not_above : (v w : ℕ) (rest : List ℕ) → ((x : ℕ) → among rest x ≡ true → v < x) → (w == v) ≡ true → among rest w ≡ false
  not_above v w rest above e = not_true (among rest w) (λ h. let same : w ≡ v = (Decides-eqb w v).0 e in let less = above w h in absurd (omega (arith, same, less)))

  pub covered_taken : (v : ℕ) (rest uncovered : List ℕ) → AreLeft declared bound used disjuncts (v ∷ rest) uncovered → ((w : ℕ) → among rest w ≡ true → v < w) → covers v ≡ true
      → AreLeft declared bound (v ∷ used) disjuncts rest uncovered
  covered_taken v rest uncovered left above is = record {
    all_are = λ w. gone (w == v) (among rest w || among uncovered w) (among opened w)
        (λ e. or_none (among rest w) (among uncovered w) (not_above v w rest above e)
        (not_true (among uncovered w) (λ h. clash (ap covers ((Decides-eqb w v).0 e) ∙ is) (left.uncovered_are w h))))
        (sym (or_assoc (w == v) (among rest w) (among uncovered w)) ∙ left.all_are w) ∙ sym (opened_used bound used disjuncts v w);
    uncovered_are = left.uncovered_are;
  }

  pub uncovered_taken : (v : ℕ) (rest : List ℕ) → AreLeft declared bound used disjuncts [] (v ∷ rest) → ((w : ℕ) → among rest w ≡ true → v < w)
      → AreLeft declared bound (v ∷ used) disjuncts [] rest
  uncovered_taken v rest left above = record {
    all_are = λ w. gone (w == v) (among rest w) (among opened w) (not_above v w rest above) (left.all_are w) ∙ sym (opened_used bound used disjuncts v w);
    uncovered_are = λ w h. left.uncovered_are w (ap (λ b. (w == v) || b) h ∙ or_right (w == v));
  }
    where
      or_right : (b : Bool) → (b || true) ≡ true
      or_right true = refl
      or_right false = refl

-- those of one disjunct

pub left_one : (declared : List TypeDef) (bound : Bound) (used : List ℕ) (disjuncts : List Node) (one : Node) (numbers untried uncovered : List ℕ)
    → ((test : Node → Bool) → list_all test disjuncts ≡ true → test one ≡ true) → ((v : ℕ) → among numbers v ≡ is_there (symbol_at v one))
    → ((v : ℕ) → among untried v ≡ (is_open bound used disjuncts v && among numbers v)) → uncovered ≡ [] → AreLeft declared bound used disjuncts untried uncovered
left_one declared bound used disjuncts one numbers untried uncovered member are opened none = record {
  all_are = λ v. ap (λ l. among untried v || among l v) none ∙ or_false (among untried v) ∙ opened v ∙ opened_one bound used disjuncts one numbers member are v;
  uncovered_are = λ v h. clash h (ap (λ l. among l v) none);
}

pub left_none : (declared : List TypeDef) (bound : Bound) (used : List ℕ) (disjuncts : List Node) (untried uncovered : List ℕ) → disjuncts ≡ [] → untried ≡ [] → uncovered ≡ []
    → AreLeft declared bound used disjuncts untried uncovered
left_none declared bound used disjuncts untried uncovered is empty none = subst (λ l. AreLeft declared bound used l untried uncovered) (sym is) (record {
  all_are = λ v. ap (λ l. among untried v || among l v) none ∙ ap (λ l. among l v || false) empty;
  uncovered_are = λ v h. clash h (ap (λ l. among l v) none);
})

-- what is taken, once those before it were tried

module _ (declared : List TypeDef) (disjuncts : List Node) (first : Candidates) where
  pub takes_covered : (now uncovered : List ℕ) (v : ℕ) (rest : List ℕ) (covered : Bool)
      → ((bound : Bound) (used : List ℕ) → AreLeft declared bound used disjuncts first.untried first.uncovered → AreLeft declared bound used disjuncts now uncovered)
      → now ≡ v ∷ rest → ((w : ℕ) → among rest w ≡ true → v < w) → covered ≡ is_covered declared disjuncts v → covered ≡ true
      → Takes declared disjuncts first (record { untried = rest; uncovered = uncovered }) (Some v)
  takes_covered now uncovered v rest covered leads is above told holds =
      let state : (bound : Bound) (used : List ℕ) → AreLeft declared bound used disjuncts first.untried first.uncovered → AreLeft declared bound used disjuncts (v ∷ rest) uncovered =
      λ bound used left. subst (λ l. AreLeft declared bound used disjuncts l uncovered) is (leads bound used left) in
      record {
        choice_is = λ bound used left. covered_chosen declared bound used disjuncts v rest uncovered (state bound used left) above (sym told ∙ holds);
        left_are = λ bound used w left same. let e : v ≡ w = cc in
            subst (λ x. AreLeft declared bound (x ∷ used) disjuncts rest uncovered) e (covered_taken declared bound used disjuncts v rest uncovered (state bound used left) above (sym told ∙ holds));
      }

  last_if : (choice : Option ℕ) (now uncovered after : List ℕ)
      → ((bound : Bound) (used : List ℕ) → AreLeft declared bound used disjuncts first.untried first.uncovered → AreLeft declared bound used disjuncts [] uncovered)
      → MatchOption choice (uncovered ≡ []) (λ v. uncovered ≡ v ∷ after) → IfSome choice (λ v. (w : ℕ) → among after w ≡ true → v < w)
      → Takes declared disjuncts first (record { untried = []; uncovered = after }) choice
  last_if None now uncovered after leads is above = record {
    choice_is = λ bound used left. none_chosen declared bound used disjuncts (subst (λ l. AreLeft declared bound used disjuncts [] l) is (leads bound used left));
    left_are = λ bound used w left same. absurd (cc);
  }
  last_if (Some v) now uncovered after leads is above =
      let state : (bound : Bound) (used : List ℕ) → AreLeft declared bound used disjuncts first.untried first.uncovered → AreLeft declared bound used disjuncts [] (v ∷ after) =
      λ bound used left. subst (λ l. AreLeft declared bound used disjuncts [] l) is (leads bound used left) in
      record {
        choice_is = λ bound used left. uncovered_chosen declared bound used disjuncts v after (state bound used left) above;
        left_are = λ bound used w left same. let e : v ≡ w = cc in
            subst (λ x. AreLeft declared bound (x ∷ used) disjuncts [] after) e (uncovered_taken declared bound used disjuncts v after (state bound used left) above);
      }

  pub takes_last : (choice : Option ℕ) (now left uncovered after : List ℕ)
      → ((bound : Bound) (used : List ℕ) → AreLeft declared bound used disjuncts first.untried first.uncovered → AreLeft declared bound used disjuncts now uncovered)
      → now ≡ [] → left ≡ [] → MatchOption choice (uncovered ≡ []) (λ v. uncovered ≡ v ∷ after) → IfSome choice (λ v. (w : ℕ) → among after w ≡ true → v < w)
      → Takes declared disjuncts first (record { untried = left; uncovered = after }) choice
  takes_last choice now left uncovered after leads none gone_all is above =
      subst (λ l. Takes declared disjuncts first (record { untried = l; uncovered = after }) choice) (sym gone_all)
      (last_if choice now uncovered after (λ bound used h. subst (λ l. AreLeft declared bound used disjuncts l uncovered) none (leads bound used h)) is above)
