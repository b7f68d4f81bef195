use Rattle.std.proofs.Common.{◌∙◌, ◌++◌, ap, List, ℕ, take, map, add-one}
use Rattle.merc_tree.specs.declared.declarations.Arg.TheVariants.{Input}
use Rattle.merc_top.specs.Checking.{place_text}
use Rattle.merc_top.proofs.CheckingLemmas.{opened, before_at, opened-more}
use Rattle.merc_top.proofs.checking.push_places.Goals as goal

pub loop-place-preserved : goal.loop-place-preserved
loop-place-preserved c =
    let places = c.args.places.now in
    let count = c.loop-place.place-index in
    let kept = c.loop-place.invariant in
    record {
      line =
          c.in_ok-push-2.ensures.ok
          ∙ ap (λ (front : List ℕ). front ++ c.place_text.result.now)
          (c.in_ok-push.ensures.ok ∙ ap (λ (front : List ℕ). front ++ c.loop-place.before.now) kept.line
          ∙ ap (λ (text : List ℕ). (c.args.line.now ++ opened (map place_text (take count places))) ++ text) kept.before)
          ∙ ap (λ (text : List ℕ). ((c.args.line.now ++ opened (map place_text (take count places))) ++ before_at count) ++ text) c.place_text.ensures
          ∙ opened-more places count Input c.args.line.now c.loop-place-test.true;
      before = rw add-one;
    }
