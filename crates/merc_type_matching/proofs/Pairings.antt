-- Pairs of type variables of two declared types.
use Rattle.std.proofs.Common.{◌≡◌, ℕ, ◌<◌, ◌+◌, Bool, true, false, List, [], ◌∷◌, ◌++◌, length, refl, sym, ap, subst, ◌∙◌, arith}
use Rattle.std.specs.Prelude.{◌↔◌}
use Rattle.std.specs.Ordering.{nat_cmp}
use Rattle.std.specs.BTreeMap.{get}
use Rattle.merc_tree.specs.Types.{TypeExpr, TypeExprs, TypeVariable, IntType, TextType, TypeApplication, more_types, replaced, replaced_all}
use Rattle.merc_type_table.specs.Table.{type_at, with_first, is_application, is_closed}
use Rattle.merc_type_matching.specs.Weights.{type_weight}
use Rattle.merc_type_matching.specs.Linked.{Agree, IsFalling, Links}
use Rattle.merc_type_matching.specs.Matched.{AgreeOn, AreMatched}
use Rattle.merc_type_matching.specs.Matching.{left_weight, AddsPair, AreAlike, AreFound, AreThere, IsMet, IsSplitIf, IsVariableIf, Matches, MatchesIf}
use Rattle.merc_type_matching.specs.declared.matching.NamePair.{NamePair}
use Rattle.merc_type_matching.specs.declared.matching.NumberPair.{NumberPair}
use Rattle.merc_type_matching.specs.declared.matching.IndependentPairs.{IndependentPairs}
use Rattle.merc_type_matching.proofs.Parts.{replaced_closed, some_weight, split_weight}

-- one more pair
agree_push : (one other : ℕ → TypeExpr) (pairs : List NamePair) (pair : NamePair) → AgreeOn one other (pairs ++ pair ∷ []) ↔ (AgreeOn one other pairs × (one pair.one ≡ other pair.other))
agree_push one other [] pair = ((λ agree. (tt, agree.0)), (λ both. (both.1, tt)))
agree_push one other (first ∷ rest) pair =
    let inner = agree_push one other rest pair in (
      (λ agree. let both = inner.0 agree.1 in ((agree.0, both.0), both.1)),
      (λ both. (both.0.0, inner.1 (both.0.1, both.1))),
    )

pub pair_added : (old new : IndependentPairs) (is_new : Bool) (name name' : ℕ) → IsMet old → Links is_new old.linked new.linked name name'
    → new.pairs ≡ old.pairs ++ record { one = name; other = name' } ∷ [] → AddsPair old new name name'
pair_added old new is_new name name' met links pairs = record {
  met = record {
    falling = links.falling;
    same = λ one two. (
      (λ agree. let both = (split one two).0 agree in (links.agree one two).1 ((met.same one two).0 both.0, both.1)),
      (λ agree. let both = (links.agree one two).0 agree in (split one two).1 ((met.same one two).1 both.0, both.1)),
    );
  };
  pairs = split;
}
  where
    split : (one two : ℕ → TypeExpr) → AgreeOn one two new.pairs ↔ (AgreeOn one two old.pairs × (one name ≡ two name'))
    split one two = (
      (λ agree. (agree_push one two old.pairs (record { one = name; other = name' })).0 (subst (AgreeOn one two) pairs agree)),
      (λ both. subst (AgreeOn one two) (sym pairs) ((agree_push one two old.pairs (record { one = name; other = name' })).1 both)),
    )

pub pair_follows : (old new : IndependentPairs) (is_new : Bool) (name name' : ℕ) → IsMet old → Links is_new old.linked new.linked name name' → is_new ≡ false → new.pairs ≡ old.pairs
    → AddsPair old new name name'
pair_follows old new is_new name name' met links known pairs = record {
  met = record {
    falling = links.falling;
    same = λ one two. (
      (λ agree. let before = subst (AgreeOn one two) pairs agree in (links.agree one two).1 ((met.same one two).0 before, here one two before)),
      (λ agree. subst (AgreeOn one two) (sym pairs) ((met.same one two).1 ((links.agree one two).0 agree).0)),
    );
  };
  pairs = λ one two. (
    (λ agree. let before = subst (AgreeOn one two) pairs agree in (before, here one two before)),
    (λ both. subst (AgreeOn one two) (sym pairs) both.0),
  );
}
  where
    here : (one two : ℕ → TypeExpr) → AgreeOn one two old.pairs → one name ≡ two name'
    here one two agree = links.follows known one two ((met.same one two).0 agree)

-- instances of types' names over one more argument
first_same : (one other : ℕ → TypeExpr) (first rest first' rest' : TypeExpr) → is_application rest ≡ true → is_application rest' ≡ true
    → (replaced one (with_first first rest) ≡ replaced other (with_first first' rest')) ↔ ((replaced one first ≡ replaced other first') × (replaced one rest ≡ replaced other rest'))
first_same one other first (TypeVariable name) first' rest' e f = absurd (cc)
first_same one other first IntType first' rest' e f = absurd (cc)
first_same one other first TextType first' rest' e f = absurd (cc)
first_same one other first (TypeApplication name arguments) first' (TypeVariable name') e f = absurd (cc)
first_same one other first (TypeApplication name arguments) first' IntType e f = absurd (cc)
first_same one other first (TypeApplication name arguments) first' TextType e f = absurd (cc)
first_same one other first (TypeApplication name arguments) first' (TypeApplication name' arguments') e f = (
  (λ same. apart (replaced one first) (replaced other first') (replaced_all one arguments) (replaced_all other arguments') same),
  (λ both. together (replaced one first) (replaced other first') (replaced_all one arguments) (replaced_all other arguments') both.0 both.1),
)
  where
    apart : (a b : TypeExpr) (xs ys : TypeExprs) → TypeApplication name (more_types a xs) ≡ TypeApplication name' (more_types b ys)
        → (a ≡ b) × (TypeApplication name xs ≡ TypeApplication name' ys)
    apart a b xs ys same = let head : a ≡ b = cc in let tail : xs ≡ ys = cc in let names : name ≡ name' = cc in (head, cc)

    together : (a b : TypeExpr) (xs ys : TypeExprs) → a ≡ b → TypeApplication name xs ≡ TypeApplication name' ys
        → TypeApplication name (more_types a xs) ≡ TypeApplication name' (more_types b ys)
    together a b xs ys head same = let tail : xs ≡ ys = cc in let names : name ≡ name' = cc in cc

-- Given are types by numbers.
module _ (table : List TypeExpr) where
  -- the last part is taken
  alike_push : (one other : ℕ → TypeExpr) (parts : List NumberPair) (part : NumberPair) → AreAlike table one other (parts ++ part ∷ [])
      ↔ (AreAlike table one other parts × (replaced one (type_at table part.one) ≡ replaced other (type_at table part.other)))
  alike_push one other [] part = ((λ all. (tt, all.0)), (λ both. (both.1, tt)))
  alike_push one other (first ∷ rest) part =
      let inner = alike_push one other rest part in (
        (λ all. let both = inner.0 all.1 in ((all.0, both.0), both.1)),
        (λ both. (both.0.0, inner.1 (both.0.1, both.1))),
      )

  there_push : (parts : List NumberPair) (part : NumberPair) → AreThere table parts → part.one < length table → part.other < length table → AreThere table (parts ++ part ∷ [])
  there_push [] part there one other = (one, other, tt)
  there_push (first ∷ rest) part there one other = (there.0, there.1, there_push rest part there.2 one other)

  there_pop : (parts : List NumberPair) (part : NumberPair) → AreThere table (parts ++ part ∷ [])
      → AreThere table parts × ((part.one < length table) × (part.other < length table))
  there_pop [] part there = (tt, (there.0, there.1))
  there_pop (first ∷ rest) part there = let both = there_pop rest part there.2 in ((there.0, there.1, both.0), both.1)

  left_push : (parts : List NumberPair) (part : NumberPair) → left_weight table (parts ++ part ∷ []) ≡ left_weight table parts + type_weight (type_at table part.one)
  left_push [] part = omega arith
  left_push (first ∷ rest) part = let inner = left_push rest part in omega arith

  pub found_first : (found : IndependentPairs) (parts : List NumberPair) (whole : NumberPair) → found.pairs ≡ [] → IsFalling (get nat_cmp found.linked.lesser)
      → ((one other : ℕ → TypeExpr) → Agree found.linked one other) → parts ≡ whole ∷ [] → whole.one < length table → whole.other < length table → AreFound table found parts whole
  found_first found parts whole pairs falling free parts_are one_there other_there = record {
    met = record { falling = falling; same = λ one other. ((λ agree. free one other), (λ agree. subst (AgreeOn one other) (sym pairs) tt)) };
    there = subst (AreThere table) (sym parts_are) (one_there, other_there, tt);
    alike = λ one other. (
      (λ both. (subst (AreAlike table one other) parts_are both.1).0),
      (λ same. (subst (AgreeOn one other) (sym pairs) tt, subst (AreAlike table one other) (sym parts_are) (same, tt))),
    );
  }

  pub part_there : (found : IndependentPairs) (parts rest : List NumberPair) (part whole : NumberPair) → parts ≡ rest ++ part ∷ [] → AreFound table found parts whole
      → (part.one < length table) × (part.other < length table)
  part_there found parts rest part whole parts_are is = (there_pop rest part (subst (AreThere table) parts_are is.there)).1

  -- one part is matched
  pub found_more : (old new : IndependentPairs) (parts rest now : List NumberPair) (part whole : NumberPair) → parts ≡ rest ++ part ∷ [] → Matches table part old new rest now
      → AreFound table old parts whole → AreFound table new now whole
  found_more old new parts rest now part whole parts_are matches before = record {
    met = matches.met;
    there = matches.there (there_pop rest part (subst (AreThere table) parts_are before.there)).0;
    alike = λ one other. (
      (λ both.
          let all = (matches.alike one other).0 both in
          (before.alike one other).0 (all.0, subst (AreAlike table one other) (sym parts_are) ((alike_push one other rest part).1 (all.1, all.2)))),
      (λ same.
          let both = (before.alike one other).1 same in
          let split = (alike_push one other rest part).0 (subst (AreAlike table one other) parts_are both.1) in
          (matches.alike one other).1 (both.0, split.0, split.1)),
    );
  }

  pub less_left : (old new : IndependentPairs) (parts rest now : List NumberPair) (part : NumberPair) → parts ≡ rest ++ part ∷ [] → Matches table part old new rest now
      → left_weight table now < left_weight table parts
  less_left old new parts rest now part parts_are matches =
      let whole = ap (left_weight table) parts_are ∙ left_push rest part in
      let less = matches.less in
      omega arith

  -- all parts are matched
  pub found_all : (found : IndependentPairs) (parts : List NumberPair) (whole : NumberPair) → parts ≡ [] → AreFound table found parts whole
      → AreMatched found.pairs (type_at table whole.one) (type_at table whole.other)
  found_all found parts whole none is = λ one other. (
    (λ agree. (is.alike one other).0 (agree, subst (AreAlike table one other) (sym none) tt)),
    (λ same. ((is.alike one other).1 same).0),
  )

  -- a type without type variables, and itself
  pub matches_closed : (part : NumberPair) (found : IndependentPairs) (parts : List NumberPair) → IsMet found → part.one ≡ part.other → is_closed (type_at table part.one) ≡ true
      → Matches table part found found parts parts
  matches_closed part found parts met same closed = record {
    met = met;
    there = λ there. there;
    alike = λ one other. (
      (λ both. (
        both.0,
        both.1,
        replaced_closed one (type_at table part.one) closed
            ∙ sym (replaced_closed other (type_at table part.one) closed)
            ∙ ap (λ (n : ℕ). replaced other (type_at table n)) same,
      )),
      (λ all. (all.0, all.1)),
    );
    less = let some = some_weight (type_at table part.one) in omega arith;
  }

  -- two type variables
  pub matches_variables : (part : NumberPair) (old new : IndependentPairs) (parts : List NumberPair) (name name' : ℕ) → type_at table part.one ≡ TypeVariable name
      → type_at table part.other ≡ TypeVariable name' → AddsPair old new name name' → Matches table part old new parts parts
  matches_variables part old new parts name name' is is' adds = record {
    met = adds.met;
    there = λ there. there;
    alike = λ one other. (
      (λ both.
          let pairs = (adds.pairs one other).0 both.0 in
          (pairs.0, both.1, ap (replaced one) is ∙ pairs.1 ∙ ap (replaced other) (sym is'))),
      (λ all. ((adds.pairs one other).1 (all.0, ap (replaced one) (sym is) ∙ all.2 ∙ ap (replaced other) is'), all.1)),
    );
    less = let some = some_weight (type_at table part.one) in omega arith;
  }

  -- two types' names over one more argument
  pub matches_with : (part : NumberPair) (found : IndependentPairs) (parts more now : List NumberPair) (first rest first' rest' : ℕ) → IsMet found
      → more ≡ parts ++ record { one = rest; other = rest' } ∷ [] → now ≡ more ++ record { one = first; other = first' } ∷ []
      → type_at table part.one ≡ with_first (type_at table first) (type_at table rest) → type_at table part.other ≡ with_first (type_at table first') (type_at table rest')
      → is_application (type_at table rest) ≡ true → is_application (type_at table rest') ≡ true → part.one < length table → part.other < length table
      → (first < part.one) × (rest < part.one) → (first' < part.other) × (rest' < part.other) → Matches table part found found parts now
  matches_with part found parts more now first rest first' rest' met more_is now_is is is' complete complete' there there' before before' = record {
    met = met;
    there = λ all.
        subst (AreThere table) (sym now_is) (there_push more (record { one = first; other = first' })
        (subst (AreThere table) (sym more_is) (there_push parts (record { one = rest; other = rest' }) all (let a = before.1 in omega arith) (let a = before'.1 in omega arith)))
        (let a = before.0 in omega arith) (let a = before'.0 in omega arith));
    alike = λ one other. (
      (λ both.
          let outer = (alike_push one other more (record { one = first; other = first' })).0 (subst (AreAlike table one other) now_is both.1) in
          let inner = (alike_push one other parts (record { one = rest; other = rest' })).0 (subst (AreAlike table one other) more_is outer.0) in (
            both.0,
            inner.0,
            ap (replaced one) is ∙ (halves one other).1 (outer.1, inner.1) ∙ ap (replaced other) (sym is'),
          )),
      (λ all.
          let split = (halves one other).0 (ap (replaced one) (sym is) ∙ all.2 ∙ ap (replaced other) is') in (
            all.0,
            subst (AreAlike table one other) (sym now_is) ((alike_push one other more (record { one = first; other = first' })).1
                (subst (AreAlike table one other) (sym more_is) ((alike_push one other parts (record { one = rest; other = rest' })).1 (all.1, split.1)), split.0)),
          )),
    );
    less =
        let more_weight = ap (left_weight table) more_is ∙ left_push parts (record { one = rest; other = rest' }) in
        let now_weight = ap (left_weight table) now_is ∙ left_push more (record { one = first; other = first' }) in
        let split = ap type_weight is ∙ split_weight (type_at table first) (type_at table rest) complete in
        omega arith;
  }
    where
      halves : (one other : ℕ → TypeExpr) → (replaced one (with_first (type_at table first) (type_at table rest)) ≡ replaced other (with_first (type_at table first') (type_at table rest')))
          ↔ ((replaced one (type_at table first) ≡ replaced other (type_at table first')) × (replaced one (type_at table rest) ≡ replaced other (type_at table rest')))
      halves one other = first_same one other (type_at table first) (type_at table rest) (type_at table first') (type_at table rest') complete complete'

  -- the same of a call's answer
  pub variable_matched : (same : Bool) (part : NumberPair) (old new : IndependentPairs) (parts : List NumberPair) (name : ℕ) → type_at table part.one ≡ TypeVariable name
      → IsVariableIf table same name part.other old new → MatchesIf table same part old new parts parts
  variable_matched true part old new parts name is found = matches_variables part old new parts name found.other is found.is found.adds
  variable_matched false part old new parts name is found = tt

  pub arguments_matched : (same : Bool) (part : NumberPair) (found : IndependentPairs) (parts now : List NumberPair) (first rest : ℕ) → IsMet found
      → type_at table part.one ≡ with_first (type_at table first) (type_at table rest) → is_application (type_at table rest) ≡ true → (first < part.one) × (rest < part.one)
      → part.one < length table → part.other < length table → IsSplitIf table same first rest part.other parts now → MatchesIf table same part found found parts now
  arguments_matched true part found parts now first rest met is complete before there there' split =
      matches_with part found parts (parts ++ record { one = rest; other = split.other_rest } ∷ []) now first rest split.other_first split.other_rest met refl split.more is split.is
      complete split.complete there there' before split.smaller
  arguments_matched false part found parts now first rest met is complete before there there' split = tt
