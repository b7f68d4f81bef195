-- What is good with some variables outside is good with fewer.
use Rattle.std.proofs.Common.{◌≡◌, ◌⊎◌, inl, inr, ℕ, Bool, true, false, ◌&&◌, List, Option, Some, None, slice_get}
use Rattle.merc_tree.specs.declared.declarations.ModeDecl.{ModeDecl}
use Rattle.merc_order.specs.Bound.{with, among}
use Rattle.merc_order.specs.Ordered.{Ordered, Step, Ordereds, put, Truth, Failure, Assign, Test, Build, Split, Computed, Compared, Raised, Called, Sequence, Beside, Choice, Decision, Denial, Within as Inside, no_goals, more_goals}
use Rattle.merc_order_laws.specs.Bindings.{Variables, Binds}
use Rattle.merc_order_laws.specs.OrderedVariables.{in_ordered, in_step, in_ordereds, ordered_outputs, ends}
use Rattle.merc_order_laws.specs.GoodOrdered.{GoodCall, EachBinds, Good, GoodStep, GoodList, GoodEach}
use Rattle.merc_order_laws.proofs.Facts.{or_left, or_right, or_cases}

abbrev pub Among : Variables → Variables → Type 0
Among few more = (v : ℕ) → few v ≡ true → more v ≡ true

joined : (few more a : Variables) → Among few more → Among (with few a) (with more a)
joined few more a w v h = elim (or_cases (few v) (a v) h) as (λ _. with more a v ≡ true) [ inl k ↦ or_left (more v) (a v) (w v k) | inr k ↦ or_right (more v) (a v) k ]

owed : (few more occurs b b' : Variables) (outs : List ℕ) (e : Bool) → Among few more → (e ≡ false) ⊎ Binds more occurs b outs b' → (e ≡ false) ⊎ Binds few occurs b outs b'
owed few more occurs b b' outs e w (inl h) = inl h
owed few more occurs b b' outs e w (inr h) = inr (λ v i k. h v i (w v k))

call_fewer : (m : Option ModeDecl) (few more b : Variables) (outs args : List ℕ) (ts : List Bool) → Among few more → GoodCall more b outs m args ts → GoodCall few b outs m args ts
call_fewer None few more b outs args ts w h = h
call_fewer (Some m) few more b outs args ts w h = (h.0, h.1, (h.2.0, h.2.1, λ v i k. h.2.2 v i (w v k)))

module _ (modes : ℕ → List ModeDecl) where
  binds_fewer : (os : Ordereds) (few more whole b : Variables) (outs : List ℕ) → Among few more → EachBinds modes more whole b outs os → EachBinds modes few whole b outs os
  binds_fewer no_goals few more whole b outs w h = tt
  binds_fewer (more_goals o os) few more whole b outs w h = (owed few more whole b (with b (among (ordered_outputs o))) outs (ends modes o) w h.0, binds_fewer os few more whole b outs w h.1)

  mutual
    pub fewer : (o : Ordered) (few more b : Variables) → Among few more → Good modes more b o → Good modes few b o
    fewer (put s outs span) few more b w h = (h.0, h.1, fewer_step s outs few more b w h.2)

    fewer_step : (s : Step) (outs : List ℕ) (few more b : Variables) → Among few more → GoodStep modes more b outs s → GoodStep modes few b outs s
    fewer_step Truth outs few more b w h = tt
    fewer_step Failure outs few more b w h = tt
    fewer_step (Assign x y) outs few more b w h = (h.0, h.1, λ v i k. h.2 v i (w v k))
    fewer_step (Test x y) outs few more b w h = h
    fewer_step (Build x c ys) outs few more b w h = (h.0, h.1, λ v i k. h.2 v i (w v k))
    fewer_step (Split x c ys ts) outs few more b w h = (h.0, (h.1.0, h.1.1, λ v i k. h.1.2 v i (w v k)))
    fewer_step (Computed op z x y ts) outs few more b w h = (h.0, h.1, (h.2.0, h.2.1, λ v i k. h.2.2 v i (w v k)))
    fewer_step (Compared op x y) outs few more b w h = h
    fewer_step (Raised x) outs few more b w h = h
    fewer_step (Called p mode args ts) outs few more b w h = call_fewer (slice_get (modes p) mode) few more b outs args ts w h
    fewer_step (Sequence os) outs few more b w h = (fewer_list os few more b w h.0, λ v i k. h.1 v i (w v k))
    fewer_step (Beside os) outs few more b w h = (fewer_list os few more b w h.0, λ v i k. h.1 v i (w v k))
    fewer_step (Choice os) outs few more b w h = (fewer_each os few more b w h.0, binds_fewer os few more (in_ordereds os) b outs w h.1)
    fewer_step (Decision c t e) outs few more b w h = (
      fewer c (with few (with (in_ordered t) (in_ordered e))) (with more (with (in_ordered t) (in_ordered e))) b (joined few more (with (in_ordered t) (in_ordered e)) w) h.0,
      λ v i. h.1 v (joined few more (in_ordered e) w v i),
      fewer t (with few (with (in_ordered c) (in_ordered e))) (with more (with (in_ordered c) (in_ordered e))) (with b (among (ordered_outputs c))) (joined few more (with (in_ordered c) (in_ordered e)) w) h.2,
      owed few more (in_step (Decision c t e)) b (with (with b (among (ordered_outputs c))) (among (ordered_outputs t))) outs (ends modes c && ends modes t) w h.3,
      fewer e (with few (with (in_ordered c) (in_ordered t))) (with more (with (in_ordered c) (in_ordered t))) b (joined few more (with (in_ordered c) (in_ordered t)) w) h.4,
      owed few more (in_step (Decision c t e)) b (with b (among (ordered_outputs e))) outs (ends modes e) w h.5,
    )
    fewer_step (Denial n) outs few more b w h = (fewer n few more b w h.0, λ v i. h.1 v (w v i), λ v i k. h.2 v i (w v k))
    fewer_step (Inside own n) outs few more b w h = (fewer n few more b w h.0, λ v i k. h.1 v i (w v k))

    fewer_list : (os : Ordereds) (few more b : Variables) → Among few more → GoodList modes more b os → GoodList modes few b os
    fewer_list no_goals few more b w h = tt
    fewer_list (more_goals o os) few more b w h = (
      fewer o (with few (in_ordereds os)) (with more (in_ordereds os)) b (joined few more (in_ordereds os) w) h.0,
      fewer_list os (with few (in_ordered o)) (with more (in_ordered o)) (with b (among (ordered_outputs o))) (joined few more (in_ordered o) w) h.1,
    )

    pub fewer_each : (os : Ordereds) (few more b : Variables) → Among few more → GoodEach modes more b os → GoodEach modes few b os
    fewer_each no_goals few more b w h = tt
    fewer_each (more_goals o os) few more b w h = (fewer o few more b w h.0, fewer_each os few more b w h.1)
