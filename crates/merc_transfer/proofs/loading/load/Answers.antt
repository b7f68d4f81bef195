use Rattle.std.proofs.Common.{◌∙◌, ◌++◌, ap, length, arith, rules}
use Rattle.merc_transfer.specs.Loading.{file_limit}
use Rattle.merc_transfer.proofs.LoadingLemmas.{begins-init, begins-preserved, load-whole, load-too_long}
use Rattle.merc_transfer.proofs.loading.load.Goals as goal

pub loop-shelf-init : goal.loop-shelf-init
loop-shelf-init g c = record {
  count = search rules;
  same = search rules;
  begins = begins-init (g.S.Shelf.files c.args.shelf.now) c.args.name.now c.new-text.result c.new-text.ensures;
}

pub loop-shelf-preserved : goal.loop-shelf-preserved
loop-shelf-preserved g c =
    let fetched = c.in-Got.ensures in
    let kept = c.loop-shelf.invariant in
    record {
      count = fetched.answer.count ∙ kept.count;
      same = fetched.same ∙ kept.same;
      begins = begins-preserved (g.S.Shelf.files c.args.shelf.now) (g.S.Shelf.files c.loop-shelf.shelf) c.args.name.now c.loop-shelf.text c.fetch.new.into _ _ c.in-Got.field-0 kept.same (ap length c.bytes-in-loop-shelf.ensures) (c.in_ok-push-in-Got.ensures.ok ∙ ap (λ piece. c.loop-shelf.text ++ piece) c.bytes-in-Got.ensures.value) kept.begins fetched.answer.content;
    }

pub returns-in-End-clause-loads : goal.returns-in-End-clause-loads
unfolding file_limit
returns-in-End-clause-loads g c =
    let fetched = c.in-End.ensures in
    let kept = c.loop-shelf.invariant in (
      fetched.answer.count ∙ kept.count,
      omega (arith, ap length c.bytes.ensures),
      load-whole (g.S.Shelf.files c.args.shelf.now) (g.S.Shelf.files c.loop-shelf.shelf) c.args.name.now c.loop-shelf.text c.fetch.new.into _ kept.same (ap length c.bytes-in-loop-shelf.ensures) kept.begins fetched.answer.content,
    )

pub returns-clause-loads : goal.returns-clause-loads
unfolding file_limit
returns-clause-loads g c =
    let kept = c.loop-shelf.invariant in
    (kept.count, load-too_long (g.S.Shelf.files c.args.shelf.now) c.args.name.now c.loop-shelf.text (omega (arith, ap length c.bytes.ensures)) kept.begins)
