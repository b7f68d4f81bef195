-- Each move keeps the one history of a deque.
use Rattle.std.proofs.Common.{◌≡◌, ◌≢◌, ℕ, zero, suc, ◌+◌, ◌<◌, ◌≤◌, ◌⊎◌, inl, inr, ⊎_elim, Bool, cond, List, [], ◌∷◌, ◌++◌, length, set, refl, sym, ap, ◌∙◌, subst, arith, append_assoc, append-nil, length-set, length-append, eq-eqb, ne_eqb}
use Rattle.std.proofs.lemmas.List.Elements.{filter-append}
use Rattle.std.proofs.lemmas.List.Sums.{sum_by-append}
use mathlib.Core.Option.{some, some-injective, some-ne-none}
use lib.ListN.{get_elem?}
use Rattle.crossbeam_deque.proofs.Lists.{at_set}
use Rattle.crossbeam_deque.specs.Tasks.{Pushes, Pops, Takes, Finds, FindsFew, Admits}
use Rattle.merc_deque.specs.declared.moves.Kind.{Kind}
use Rattle.merc_deque.specs.declared.moves.Kind.TheVariants.{Pushed, Popped, Stole}
use Rattle.merc_deque.specs.declared.moves.Move.{Move}
use Rattle.merc_deque.specs.declared.moves.Known.{Known}
use Rattle.merc_deque.specs.History.{move, known, newcomer, is_by, moves_of, Leaves, none, pushes, pops, steals, Fits, Kept, Told, Emptied, HeldFew, is_push, is_take, weight, NothingIsLost}

module _ {A : Type 0} where
  below : (l : List A) (i : ℕ) (a : A) → get_elem? l i ≡ some a → i < length l
  below [] i a e = absurd (some-ne-none a (sym e))
  below (x ∷ xs) zero a e = omega arith
  below (x ∷ xs) (suc i) a e = let h = below xs i a e in omega arith

  at_end : (l : List A) (a b : A) (j : ℕ) → get_elem? (l ++ a ∷ []) j ≡ some b → (get_elem? l j ≡ some b) ⊎ ((j ≡ length l) × (a ≡ b))
  at_end [] a b zero e = inr (refl, some-injective a b e)
  at_end [] a b (suc j) e = absurd (some-ne-none b (sym e))
  at_end (x ∷ xs) a b zero e = inl e
  at_end (x ∷ xs) a b (suc j) e = ⊎_elim inl (λ t. inr (ap suc t.0, t.1)) (at_end xs a b j e)

module _ {T : Type 0} where
  own : (log : List (Move T)) (m : Move T) (pass : ℕ) → m.by ≡ pass → moves_of pass (log ++ m ∷ []) ≡ moves_of pass log ++ m ∷ []
  own log m pass is = filter-append (is_by pass) log (m ∷ []) ∙ ap (λ (b : Bool). moves_of pass log ++ cond b (m ∷ []) []) (eq-eqb m.by pass is)

  foreign : (log : List (Move T)) (m : Move T) (pass : ℕ) → m.by ≢ pass → moves_of pass (log ++ m ∷ []) ≡ moves_of pass log
  foreign log m pass not = filter-append (is_by pass) log (m ∷ []) ∙ (ap (λ (b : Bool). moves_of pass log ++ cond b (m ∷ []) []) (ne_eqb m.by pass not) ∙ append-nil (moves_of pass log))

  -- the rule, after a move of one pass
  after : (log : List (Move T)) (sparks : List T) (views : List (Known T)) (pass : ℕ) (view : Known T) (kind : Kind) (spark : T) → Leaves (log ++ move pass kind spark ∷ []) sparks
      → ((j : ℕ) (v : Known T) → get_elem? views j ≡ some v → Fits log j v) → ((j : ℕ) → length views ≤ j → moves_of j log ≡ []) → get_elem? views pass ≡ some view
      → Kept sparks (set views pass (known (log ++ move pass kind spark ∷ []) (view.mine ++ move pass kind spark ∷ [])))
  after log sparks views pass view kind spark leaves each rest at =
      let m : Move T = move pass kind spark in
      let new : Known T = known (log ++ m ∷ []) (view.mine ++ m ∷ []) in
      let here : Fits (log ++ m ∷ []) pass new = (([], sym (append-nil (log ++ m ∷ []))), own log m pass refl ∙ ap (λ (l : List (Move T)). l ++ m ∷ []) (each pass view at).1) in (
        log ++ m ∷ [],
        leaves,
        λ j v e. ⊎_elim (λ (t : (j ≡ pass) × (new ≡ v)). subst (λ (x : ℕ × Known T). Fits (log ++ m ∷ []) x.0 x.1) (λ k. (sym t.0 k, t.1 k)) here)
            (λ (t : (j ≢ pass) × (get_elem? views j ≡ some v)). let was = each j v t.1 in let more : List (Move T) = was.0.0 in
            ((more ++ m ∷ [], ap (λ (l : List (Move T)). l ++ m ∷ []) was.0.1 ∙ append_assoc v.seen more (m ∷ [])), foreign log m j (λ same. t.0 (sym same)) ∙ was.1))
            (at_set views pass j new v e),
        λ j far. let near = below views pass view at in let far' : length views ≤ j = subst (λ (n : ℕ). n ≤ j) (length-set views pass new) far in
            foreign log m j (λ same. absurd (let here' : pass ≡ j = same in omega arith)) ∙ rest j far',
      )

  pub pushed : (pass : ℕ) (view : Known T) (spark : T) → Pushes Kept pass view (spark ∷ []) (Told Pushed view (spark ∷ []))
  pushed pass view spark sparks views kept at = let log : List (Move T) = kept.0 in let m : Move T = move pass Pushed spark in (
    known (log ++ m ∷ []) (view.mine ++ m ∷ []),
    after log (sparks ++ spark ∷ []) views pass view Pushed spark (pushes log sparks pass spark kept.1) kept.2 kept.3 at,
    (pass, log, sparks, (kept.2 pass view at).0, kept.1, refl, refl, own log m pass refl ∙ ap (λ (l : List (Move T)). l ++ m ∷ []) (kept.2 pass view at).1),
  )

  pub popped : (pass : ℕ) (view : Known T) → Pops Kept pass view (Told Popped view)
  popped pass view spark sparks views kept at = let log : List (Move T) = kept.0 in let m : Move T = move pass Popped spark in (
    known (log ++ m ∷ []) (view.mine ++ m ∷ []),
    after log sparks views pass view Popped spark (pops log sparks pass spark kept.1) kept.2 kept.3 at,
    (pass, log, sparks, (kept.2 pass view at).0, kept.1, refl, refl, own log m pass refl ∙ ap (λ (l : List (Move T)). l ++ m ∷ []) (kept.2 pass view at).1),
  )

  pub stolen : (pass : ℕ) (view : Known T) → Takes Kept pass view 1 (Told Stole view)
  stolen pass view [] sparks views some_left few kept at = absurd (omega arith)
  stolen pass view (spark ∷ []) sparks views some_left few kept at = let log : List (Move T) = kept.0 in let m : Move T = move pass Stole spark in (
    known (log ++ m ∷ []) (view.mine ++ m ∷ []),
    after log sparks views pass view Stole spark (steals log sparks pass spark kept.1) kept.2 kept.3 at,
    (pass, log, sparks, (kept.2 pass view at).0, kept.1, refl, refl, own log m pass refl ∙ ap (λ (l : List (Move T)). l ++ m ∷ []) (kept.2 pass view at).1),
  )
  stolen pass view (spark ∷ other ∷ more) sparks views some_left few kept at = absurd (omega arith)

  pub found_none : (pass : ℕ) (view : Known T) → Finds Kept pass view (Emptied view)
  found_none pass view views kept at = (pass, kept.0, kept.2 pass view at, kept.1)

  pub found_few : (pass : ℕ) (view : Known T) → FindsFew Kept 1 pass view (HeldFew view)
  found_few pass view sparks views few kept at = (pass, kept.0, sparks, kept.2 pass view at, kept.1, few)

  pub admits : Admits {T = T} Kept newcomer
  admits sparks views kept = let log : List (Move T) = kept.0 in (
    log,
    kept.1,
    λ j v e. ⊎_elim (λ (old : get_elem? views j ≡ some v). kept.2 j v old)
        (λ (t : (j ≡ length views) × (newcomer ≡ v)). subst (λ (x : ℕ × Known T). Fits log x.0 x.1) (λ k. (sym t.0 k, t.1 k)) ((log, refl), kept.3 (length views) (omega arith)))
        (at_end views newcomer v j e),
    λ j far. kept.3 j (omega (arith, length-append views (newcomer ∷ []), far)),
  )

  pub begins : Kept {T = T} [] (newcomer ∷ [])
  begins = (
    [],
    none,
    λ j v e. ⊎_elim (λ (old : get_elem? [] j ≡ some v). absurd (some-ne-none v (sym old)))
        (λ (t : (j ≡ 0) × (newcomer ≡ v)). subst (λ (x : Known T). Fits [] j x) t.1 (([], refl), refl))
        (at_end [] newcomer v j e),
    λ j far. refl,
  )

  pub lost_none : (log : List (Move T)) (sparks : List T) → Leaves log sparks → NothingIsLost log sparks
  lost_none _ _ none h = refl
  lost_none _ _ (pushes log sparks by x before) h =
      let m : List (Move T) = move by Pushed x ∷ [] in
      omega (arith, lost_none log sparks before h, sum_by-append (weight is_push h) log m, sum_by-append (weight is_take h) log m, sum_by-append h sparks (x ∷ []))
  lost_none _ _ (pops log sparks by x before) h =
      let m : List (Move T) = move by Popped x ∷ [] in
      omega (arith, lost_none log (sparks ++ x ∷ []) before h, sum_by-append (weight is_push h) log m, sum_by-append (weight is_take h) log m, sum_by-append h sparks (x ∷ []))
  lost_none _ _ (steals log sparks by x before) h =
      let m : List (Move T) = move by Stole x ∷ [] in
      omega (arith, lost_none log (x ∷ sparks) before h, sum_by-append (weight is_push h) log m, sum_by-append (weight is_take h) log m, sum_by-append h (x ∷ []) sparks)
