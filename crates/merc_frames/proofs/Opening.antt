-- A first frame, with nothing else.
use Rattle.std.proofs.Common.{◌≡◌, ℕ, List, [], length, take, replicate, map, reverse, refl, sym, ap, ◌∙◌, subst, arith}
use Rattle.std.proofs.lemmas.List.{length-replicate}
use Rattle.std.proofs.lemmas.List.Elements.{All-replicate}
use Rattle.merc_frames.specs.declared.slot.Slot.{Slot}
use Rattle.merc_frames.specs.declared.slot.Slot.TheVariants.{Empty}
use Rattle.merc_frames.specs.Stacks.{Opens}
use Rattle.merc_frames.specs.View.{seen, view_of, Fine, Needs, newest, kept_saved, kept_end}
use Rattle.merc_frames.specs.declared.kept.Saved.{Saved}
use Rattle.merc_frames.specs.declared.kept.Kept.{Kept}
use Rattle.merc_frames.proofs.HeldLaws.{Holding}
use Rattle.merc_frames.proofs.Lists.{take_replicate}

module _ (w : List Slot) (saved : List Saved) (cs : List Kept) (size : ℕ) (ew : w ≡ replicate size Empty) (es : saved ≡ []) (ec : cs ≡ []) where
  pub opened_fine : Fine w saved cs 0 size 0
  opened_fine =
      let r : Fine w [] [] 0 size 0 = record {
        within = omega (arith, ap length ew, length-replicate size Empty);
        stack = omega arith;
        parents = λ i s e. absurd cc;
        tops = λ i s e. absurd cc;
        ordered = λ i j s t l e q. absurd cc;
        kept = λ i k e. absurd cc;
        rising = λ i j k m l e q. absurd cc;
      } in
      subst (λ x. Fine w x cs 0 size 0) (sym es) (subst (λ x. Fine w [] x 0 size 0) (sym ec) r)

  pub opened_needs : Needs cs 0 0
  opened_needs = record { frames = ap (λ x. kept_saved (newest x)) (sym ec); slots = ap (λ x. kept_end (newest x)) (sym ec) }

  pub opened : Opens (view_of w saved cs 0 size 0) size
  opened = record { current = ap (take size) ew ∙ take_replicate size size Empty (omega arith); callers = refl; choices = ap (λ x. reverse (map (λ k. seen w saved k) x)) ec }

  pub opened_held : (MayHold : ℕ → Slot → Type 0) (cells : ℕ) → MayHold cells Empty → Holding MayHold cells w cs
  opened_held MayHold cells none =
      subst (λ x. Holding MayHold cells x cs) (sym ew) (subst (λ x. Holding MayHold cells (replicate size Empty) x) (sym ec) (All-replicate (MayHold cells) size Empty none, tt))
