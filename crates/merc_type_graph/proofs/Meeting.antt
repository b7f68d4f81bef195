-- Two places made one.
use Rattle.std.proofs.Common.{◌≡◌, ◌≢◌, ℕ, zero, suc, ◌+◌, ◌*◌, ◌<◌, ◌≤◌, ◌⊎◌, inl, inr, List, [], ◌∷◌, ◌++◌, length, drop, refl, sym, ap, subst, ◌∙◌, arith, Some, None, Bool, true, false, length-append, length-take, length-drop, append_assoc}
use Rattle.std.specs.Prelude.{slice_get, ◌==◌, ◌&&◌}
use Rattle.std.proofs.lemmas.List.{append-nil}
use Rattle.merc_tree.specs.Types.{TypeExpr}
use Rattle.merc_type_table.specs.Table.{type_at}
use Rattle.merc_type_graph.specs.declared.store.Store.{Store}
use Rattle.merc_type_graph.specs.Solutions.{Agrees, Solves}
use Rattle.merc_type_graph.specs.Cells.{entry_of, entries_of, needs_of, known_at, root_mark, roots, IsStored, IsSound, LeadsTo}
use Rattle.merc_type_graph.specs.Joining.{joined, arguments_of, zipped, AllSame, AllBelow, attached, IsPartial, Meets, MeetsOrDiffers}
use Rattle.merc_type_graph.specs.Fixing.{FixesOrDiffers}
use Rattle.merc_type_graph.specs.declared.cell.Known.{Known}
use Rattle.merc_type_graph.specs.declared.cell.Known.TheVariants.{Nothing, Whole, Named, SameAs}
use Rattle.merc_type_graph.specs.declared.cell.Cell.{Cell}
use Rattle.merc_type_graph.proofs.Entries.{solves_at}
use Rattle.merc_type_graph.proofs.Joins.{fits, fits_at, fits_both, fits_none, chosen, zipped_nil}
use Rattle.merc_type_graph.proofs.Attaching.{MayAttach, Splits, sound-attached, length-attached, roots-attached, attached_before, attached_after}

-- pairs put on the list one by one
pub pairs_step : (pairs pairs' goal : List (ℕ × ℕ)) (ones ones' others others' : List ℕ) (one other : ℕ) → ones ≡ one ∷ ones' → others ≡ other ∷ others'
    → pairs' ≡ pairs ++ (one, other) ∷ [] → pairs ++ zipped ones others ≡ goal → pairs' ++ zipped ones' others' ≡ goal
pairs_step pairs pairs' goal ones ones' others others' one other e e' pushed whole =
    ap (λ (l : List (ℕ × ℕ)). l ++ zipped ones' others') pushed ∙ append_assoc pairs ((one, other) ∷ []) (zipped ones' others')
    ∙ sym (ap (λ (l : List ℕ). pairs ++ zipped l others) e ∙ ap (λ (l : List ℕ). pairs ++ zipped (one ∷ ones') l) e') ∙ whole

empty : (xs : List ℕ) → length xs ≡ 0 → xs ≡ []
empty [] e = refl
empty (x ∷ xs) e = absurd (omega arith)

pub pairs_end_first : (pairs goal : List (ℕ × ℕ)) (ones others : List ℕ) → length ones ≡ 0 → pairs ++ zipped ones others ≡ goal → pairs ≡ goal
pairs_end_first pairs goal ones others past whole =
    sym (append-nil pairs) ∙ sym (ap (λ (l : List ℕ). pairs ++ zipped l others) (empty ones past)) ∙ whole

pub pairs_end_second : (pairs goal : List (ℕ × ℕ)) (ones others : List ℕ) → length others ≡ 0 → pairs ++ zipped ones others ≡ goal → pairs ≡ goal
pairs_end_second pairs goal ones others past whole =
    sym (append-nil pairs) ∙ sym (ap (λ (l : List (ℕ × ℕ)). pairs ++ l) (ap (zipped ones) (empty others past) ∙ zipped_nil ones)) ∙ whole

-- facts of all pairs
pub all_same-append : (types : ℕ → TypeExpr) (ps qs : List (ℕ × ℕ)) → AllSame types (ps ++ qs) → AllSame types ps × AllSame types qs
all_same-append types [] qs same = (tt, same)
all_same-append types (p ∷ ps) qs same = let rest = all_same-append types ps qs same.1 in ((same.0, rest.0), rest.1)

pub append-all_same : (types : ℕ → TypeExpr) (ps qs : List (ℕ × ℕ)) → AllSame types ps → AllSame types qs → AllSame types (ps ++ qs)
append-all_same types [] qs same same' = same'
append-all_same types (p ∷ ps) qs same same' = (same.0, append-all_same types ps qs same.1 same')

pub all_below-append : (bound : ℕ) (ps qs : List (ℕ × ℕ)) → AllBelow bound (ps ++ qs) → AllBelow bound ps × AllBelow bound qs
all_below-append bound [] qs below = (tt, below)
all_below-append bound (p ∷ ps) qs below = let rest = all_below-append bound ps qs below.2 in ((below.0, below.1, rest.0), rest.1)

pub append-all_below : (bound : ℕ) (ps qs : List (ℕ × ℕ)) → AllBelow bound ps → AllBelow bound qs → AllBelow bound (ps ++ qs)
append-all_below bound [] qs below below' = below'
append-all_below bound (p ∷ ps) qs below below' = (below.0, below.1, append-all_below bound ps qs below.2 below')

zipped_below : (bound : ℕ) (ones others : List ℕ) → ((number place : ℕ) → slice_get ones number ≡ Some place → place < bound)
    → ((number place : ℕ) → slice_get others number ≡ Some place → place < bound) → AllBelow bound (zipped ones others)
zipped_below bound [] others below below' = tt
zipped_below bound (one ∷ ones) [] below below' = tt
zipped_below bound (one ∷ ones) (other ∷ others) below below' =
    (below zero one refl, below' zero other refl, zipped_below bound ones others (λ n p e. below (suc n) p e) (λ n p e. below' (suc n) p e))

pub argument_need : (store : Store) (known : Known) (number place : ℕ) → slice_get (arguments_of store known) number ≡ Some place
    → slice_get (needs_of (entry_of store known)) number ≡ Some place
argument_need store Nothing number place e = e
argument_need store (Whole w) number place e = absurd (cc)
argument_need store (Named n first count) number place e = e
argument_need store (SameAs to) number place e = absurd (cc)

count_arguments : (store : Store) (known : Known) → length (arguments_of store known) ≤ length store.arguments.items
count_arguments store Nothing = omega arith
count_arguments store (Whole w) = omega arith
count_arguments store (Named n first count) = omega (arith, length-take count (drop first store.arguments.items), length-drop first store.arguments.items)
count_arguments store (SameAs to) = omega arith

count_zipped : (ones others : List ℕ) → length (zipped ones others) ≤ length ones
count_zipped [] others = omega arith
count_zipped (one ∷ ones) [] = omega arith
count_zipped (one ∷ ones) (other ∷ others) = let rest = count_zipped ones others in omega arith

pub one_root : (cells : List Cell) (i : ℕ) → i < length cells → root_mark (known_at cells i) ≡ 1 → 1 ≤ roots cells
one_root [] i here root = absurd (omega arith)
one_root (first ∷ rest) zero here root = omega arith
one_root (first ∷ rest) (suc i) here root = let less = one_root rest i (omega arith) root in omega arith

-- what is known of both is what is known of one of them
joined_is : (one other both : Known) → joined one other ≡ Some both → (one ≡ both) ⊎ (other ≡ both)
joined_is Nothing other both e = inr (cc)
joined_is (Named f s c) Nothing both e = inl (cc)
joined_is (Named f s c) (Named g t d) both e = inl (chosen ((f == g) && (c == d)) (Named f s c) both e).1
joined_is (Named f s c) (Whole u) both e = absurd (cc)
joined_is (Named f s c) (SameAs q) both e = absurd (cc)
joined_is (Whole w) other both e = absurd (cc)
joined_is (SameAs p) other both e = absurd (cc)

-- two roots, and what is known there
pub record IsMeeting (store : Store) (cells : List Cell) (one other : ℕ) (known known' : Known) : Type 0 where
  pub sound : IsSound store cells
  pub first : IsPartial cells one
  pub second : IsPartial cells other
  pub known_is : known ≡ known_at cells one
  pub known_is' : known' ≡ known_at cells other

pub meet_none : (store : Store) (cells : List Cell) (one other : ℕ) (known known' : Known) → IsMeeting store cells one other known known'
    → joined known known' ≡ None → (types : ℕ → TypeExpr) → Solves (entries_of store cells) types → types one ≡ types other → ⊥
meet_none store cells one other known known' m none types solves same =
    let none_at : joined (known_at cells one) (known_at cells other) ≡ None =
    ap (λ (k : Known). joined k (known_at cells other)) (sym m.known_is) ∙ ap (joined known) (sym m.known_is') ∙ none in
    fits_none types store (known_at cells one) (known_at cells other) m.first.is_root m.second.is_root m.first.partial m.second.partial
    (m.sound.stored one) (m.sound.stored other) none_at (types one)
    (fits types one (entry_of store (known_at cells one)) (solves_at store cells types solves one))
    (fits_at types (entry_of store (known_at cells other)) (types other) (types one) (sym same)
    (fits types other (entry_of store (known_at cells other)) (solves_at store cells types solves other)))

may_by : (store : Store) (cells : List Cell) (at : ℕ) (both : Known) → IsSound store cells
    → (child parent : ℕ) → child < length cells → parent < length cells → child ≢ parent → root_mark (known_at cells child) ≡ 1 → root_mark (known_at cells parent) ≡ 1
    → known_at cells at ≡ both → root_mark (known_at cells at) ≡ 1 → MayAttach store cells child parent both
may_by store cells at both sound child parent child_here parent_here apart child_root parent_root e at_root = record {
  sound = sound;
  child_here = child_here;
  parent_here = parent_here;
  apart = apart;
  child_root = child_root;
  parent_root = parent_root;
  known_root = sym (ap root_mark e) ∙ at_root;
  known_stored = subst (IsStored store) e (sound.stored at);
  known_within = λ number place need. sound.within at number place (ap (λ (k : Known). slice_get (needs_of (entry_of store k)) number) e ∙ need);
}

-- what is known of both is as good as what was known of one of them
may_attach : (store : Store) (cells : List Cell) (one other : ℕ) (known known' both : Known) → IsMeeting store cells one other known known'
    → (child parent : ℕ) → child < length cells → parent < length cells → child ≢ parent → root_mark (known_at cells child) ≡ 1 → root_mark (known_at cells parent) ≡ 1
    → joined known known' ≡ Some both → MayAttach store cells child parent both
may_attach store cells one other known known' both m child parent child_here parent_here apart child_root parent_root some =
    elim (joined_is known known' both some) [
      | inl e ↦ may_by store cells one both m.sound child parent child_here parent_here apart child_root parent_root (sym m.known_is ∙ e) m.first.is_root
      | inr e ↦ may_by store cells other both m.sound child parent child_here parent_here apart child_root parent_root (sym m.known_is' ∙ e) m.second.is_root
    ]

meets_by : (store : Store) (cells : List Cell) (one other child parent : ℕ) (both : Known) (pairs added : List (ℕ × ℕ)) → MayAttach store cells child parent both
    → ((types : ℕ → TypeExpr) → Splits types store (known_at cells child) (known_at cells parent) both added)
    → AllBelow (length cells) pairs → AllBelow (length cells) added → length added ≤ length store.arguments.items
    → ((types : ℕ → TypeExpr) → Solves (entries_of store cells) types → types child ≡ types parent → types one ≡ types other)
    → ((types : ℕ → TypeExpr) → Solves (entries_of store cells) types → types one ≡ types other → types child ≡ types parent)
    → Meets store cells (attached cells child parent both) pairs (pairs ++ added) one other
meets_by store cells one other child parent both pairs added may splits below below' few to from =
    let count : length (attached cells child parent both) ≡ length cells = length-attached cells child parent both in
    let fewer : roots (attached cells child parent both) + 1 ≡ roots cells =
    roots-attached cells child parent both may.child_here may.parent_here may.apart may.child_root may.parent_root may.known_root in
    let multiplied : (roots (attached cells child parent both) + 1) * (length store.arguments.items + 1) ≡ roots cells * (length store.arguments.items + 1) =
    ap (λ (n : ℕ). n * (length store.arguments.items + 1)) fewer in
    record {
      sound = sound-attached store cells child parent both may;
      count = count;
      below = subst (λ (n : ℕ). AllBelow n (pairs ++ added)) (sym count) (append-all_below (length cells) pairs added below below');
      equal = λ types. (
        (λ h.
            let same = all_same-append types pairs added h.1 in
            let before = attached_before store cells child parent both added may types (splits types) h.0 same.1 in
            (before.0, same.0, to types before.0 before.1)),
        (λ h.
            let after = attached_after store cells child parent both added may types (splits types) h.0 (from types h.0 h.2) in
            (after.0, append-all_same types pairs added h.1 after.1)),
      );
      less = omega (arith, length-append pairs added);
    }

-- the pairs of store
added_below : (store : Store) (cells : List Cell) (root root' : ℕ) → IsSound store cells
    → AllBelow (length cells) (zipped (arguments_of store (known_at cells root)) (arguments_of store (known_at cells root')))
added_below store cells root root' sound =
    zipped_below (length cells) (arguments_of store (known_at cells root)) (arguments_of store (known_at cells root'))
    (λ n p e. sound.within root n p (argument_need store (known_at cells root) n p e))
    (λ n p e. sound.within root' n p (argument_need store (known_at cells root') n p e))

added_few : (store : Store) (one other : Known) → length (zipped (arguments_of store one) (arguments_of store other)) ≤ length store.arguments.items
added_few store one other =
    let less = count_zipped (arguments_of store one) (arguments_of store other) in
    let least = count_arguments store one in omega arith

some_at : (store : Store) (cells : List Cell) (one other : ℕ) (known known' both : Known) → IsMeeting store cells one other known known'
    → joined known known' ≡ Some both → joined (known_at cells one) (known_at cells other) ≡ Some both
some_at store cells one other known known' both m some =
    ap (λ (k : Known). joined k (known_at cells other)) (sym m.known_is) ∙ ap (joined known) (sym m.known_is') ∙ some

-- either root is attached to the other
pub meets_first : (store : Store) (cells : List Cell) (one other : ℕ) (known known' both : Known) (pairs : List (ℕ × ℕ))
    → IsMeeting store cells one other known known' → one ≢ other → joined known known' ≡ Some both → AllBelow (length cells) pairs
    → Meets store cells (attached cells one other both) pairs
    (pairs ++ zipped (arguments_of store (known_at cells one)) (arguments_of store (known_at cells other))) one other
meets_first store cells one other known known' both pairs m apart some below =
    meets_by store cells one other one other both pairs (zipped (arguments_of store (known_at cells one)) (arguments_of store (known_at cells other)))
    (may_attach store cells one other known known' both m one other m.first.here m.second.here apart m.first.is_root m.second.is_root some)
    (λ types.
    let f = fits_both types store (known_at cells one) (known_at cells other) both (m.sound.stored one) (m.sound.stored other)
    (some_at store cells one other known known' both m some) in
    record { apart = f.apart; together = f.together })
    below (added_below store cells one other m.sound) (added_few store (known_at cells one) (known_at cells other))
    (λ types solves e. e) (λ types solves e. e)

pub meets_second : (store : Store) (cells : List Cell) (one other : ℕ) (known known' both : Known) (pairs : List (ℕ × ℕ))
    → IsMeeting store cells one other known known' → one ≢ other → joined known known' ≡ Some both → AllBelow (length cells) pairs
    → Meets store cells (attached cells other one both) pairs
    (pairs ++ zipped (arguments_of store (known_at cells one)) (arguments_of store (known_at cells other))) one other
meets_second store cells one other known known' both pairs m apart some below =
    meets_by store cells one other other one both pairs (zipped (arguments_of store (known_at cells one)) (arguments_of store (known_at cells other)))
    (may_attach store cells one other known known' both m other one m.second.here m.first.here (λ e. apart (sym e)) m.second.is_root m.first.is_root some)
    (λ types.
    let f = fits_both types store (known_at cells one) (known_at cells other) both (m.sound.stored one) (m.sound.stored other)
    (some_at store cells one other known known' both m some) in
    record {
      apart = λ type fit same. let both_fit = f.apart type fit same in (both_fit.1, both_fit.0);
      together = λ type fit fit'. f.together type fit' fit;
    })
    below (added_below store cells one other m.sound) (added_few store (known_at cells one) (known_at cells other))
    (λ types solves e. sym e) (λ types solves e. sym e)

-- What solves the equations with equal types at two roots does so with equal types at two places that lead to them.
pub meets_through : (met : Bool) (store : Store) (cells new : List Cell) (pairs pairs' : List (ℕ × ℕ)) (one other root root' : ℕ) → LeadsTo cells one root
    → LeadsTo cells other root' → MeetsOrDiffers met store cells new pairs pairs' root root' → MeetsOrDiffers met store cells new pairs pairs' one other
meets_through true store cells new pairs pairs' one other root root' leads leads' meets = record {
  sound = meets.sound;
  count = meets.count;
  below = meets.below;
  equal = λ types. (
    (λ h.
        let before = (meets.equal types).0 h in
        (before.0, before.1, sym (leads.same store types before.0) ∙ before.2 ∙ leads'.same store types before.0)),
    (λ h. (meets.equal types).1 (h.0, h.1, leads.same store types h.0 ∙ h.2 ∙ sym (leads'.same store types h.0))),
  );
  less = meets.less;
}
meets_through false store cells new pairs pairs' one other root root' leads leads' differs = λ types solves same.
    differs types solves (leads.same store types solves ∙ same ∙ sym (leads'.same store types solves))

-- one of two places leads to a root that is known as a whole, and the other is given this type
pub whole_first : (fixed : Bool) (store : Store) (cells new : List Cell) (pairs : List (ℕ × ℕ)) (one other root whole : ℕ) → LeadsTo cells one root
    → known_at cells root ≡ Whole whole → AllBelow (length cells) pairs → FixesOrDiffers fixed store cells new other (type_at store.table.now whole)
    → MeetsOrDiffers fixed store cells new pairs pairs one other
whole_first true store cells new pairs one other root whole leads is below fixes =
    let there : (types : ℕ → TypeExpr) → Solves (entries_of store cells) types → types one ≡ type_at store.table.now whole =
    λ (types : ℕ → TypeExpr) (solves : Solves (entries_of store cells) types).
    sym (leads.same store types solves) ∙ subst (λ (k : Known). Agrees types root (entry_of store k)) is (solves_at store cells types solves root) in
    record {
      sound = fixes.sound;
      count = fixes.count;
      below = subst (λ (n : ℕ). AllBelow n pairs) (sym fixes.count) below;
      equal = λ types. (
        (λ h. let before = (fixes.equal types).0 h.0 in (before.0, h.1, there types before.0 ∙ sym before.1)),
        (λ h. ((fixes.equal types).1 (h.0, sym h.2 ∙ there types h.0), h.1)),
      );
      less = let same : roots new * (length store.arguments.items + 1) ≡ roots cells * (length store.arguments.items + 1) = ap (λ (n : ℕ). n * (length store.arguments.items + 1)) fixes.same_roots in omega arith;
    }
whole_first false store cells new pairs one other root whole leads is below differs = λ types solves same.
    let there : types one ≡ type_at store.table.now whole =
    sym (leads.same store types solves) ∙ subst (λ (k : Known). Agrees types root (entry_of store k)) is (solves_at store cells types solves root) in
    differs types solves (sym same ∙ there)

pub whole_declared : (store : Store) (cells : List Cell) (root whole : ℕ) → IsSound store cells → known_at cells root ≡ Whole whole → whole < length store.table.now
whole_declared store cells root whole sound is = subst (IsStored store) is (sound.stored root)

pub meets_swapped : (met : Bool) (store : Store) (cells new : List Cell) (pairs pairs' : List (ℕ × ℕ)) (one other : ℕ)
    → MeetsOrDiffers met store cells new pairs pairs' one other → MeetsOrDiffers met store cells new pairs pairs' other one
meets_swapped true store cells new pairs pairs' one other meets = record {
  sound = meets.sound;
  count = meets.count;
  below = meets.below;
  equal = λ types. (
    (λ h. let before = (meets.equal types).0 h in (before.0, before.1, sym before.2)),
    (λ h. (meets.equal types).1 (h.0, h.1, sym h.2)),
  );
  less = meets.less;
}
meets_swapped false store cells new pairs pairs' one other differs = λ types solves same. differs types solves (sym same)
