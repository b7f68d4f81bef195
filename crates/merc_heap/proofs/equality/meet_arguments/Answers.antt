-- The next arguments are met after those so far.
use Rattle.std.proofs.Common.{◌∷◌, [], List, sym, subst, ◌∙◌, arith, take, length}
use Rattle.merc_value.specs.declared.word.Word.{Word}
use Rattle.merc_heap.specs.Heap.{arguments_in}
use Rattle.merc_heap.specs.Equality.{Meets, pairs}
use Rattle.merc_heap.proofs.EqualityLemmas.{arguments_below, word_below, words_found, pairs_next, pairs_same}
use Rattle.merc_heap.proofs.MetLemmas.{meets_none, meets_both}
use Rattle.merc_heap.proofs.equality.meet_arguments.Goals as goal

pub loop-index-init : goal.loop-index-init
loop-index-init c = meets_none c.args.heap.now c.args.met.now.keys

pub loop-index-preserved-in_default : goal.loop-index-preserved-in_default
loop-index-preserved-in_default c =
    let found = words_found (arguments_in c.args.heap.now c.args.one) (arguments_in c.args.heap.now c.args.other) c.loop-index.index (omega (arith, c.loop-index-test.true, c.arity-index-end.ensures.arity)) c.requires.count in
    absurd (c.in_default.not-Some found.0.0 (c.argument.ensures ∙ found.0.1))

pub loop-index-preserved-in_default-argument : goal.loop-index-preserved-in_default-argument
loop-index-preserved-in_default-argument c =
    let found = words_found (arguments_in c.args.heap.now c.args.one) (arguments_in c.args.heap.now c.args.other) c.loop-index.index (omega (arith, c.loop-index-test.true, c.arity-index-end.ensures.arity)) c.requires.count in
    absurd (c.in_default-argument.not-Some found.1.0 (c.argument-in-loop-index.ensures ∙ found.1.1))

pub meet-requires-clause-one : goal.meet-requires-clause-one
meet-requires-clause-one c =
    word_below (length c.args.heap.now) (arguments_in c.args.heap.now c.args.one) c.loop-index.index c.in-Some.first
    (arguments_below c.args.heap.now c.arity-index-end.ensures.lower c.args.one c.requires.one) (sym c.argument.ensures ∙ c.in-Some.is)

pub meet-requires-clause-other : goal.meet-requires-clause-other
meet-requires-clause-other c =
    word_below (length c.args.heap.now) (arguments_in c.args.heap.now c.args.other) c.loop-index.index c.in-Some-argument.second
    (arguments_below c.args.heap.now c.arity-index-end.ensures.lower c.args.other c.requires.other) (sym c.argument-in-loop-index.ensures ∙ c.in-Some-argument.is)

pub returns-then-not-branch-clause-no : goal.returns-then-not-branch-clause-no
returns-then-not-branch-clause-no c failed same =
    c.in_ok-meet.ensures.no c.if-not-branch.true
    (pairs_same c.args.heap.now (arguments_in c.args.heap.now c.args.one) (arguments_in c.args.heap.now c.args.other) c.loop-index.index c.in-Some.first c.in-Some-argument.second (sym c.argument.ensures ∙ c.in-Some.is) (sym c.argument-in-loop-index.ensures ∙ c.in-Some-argument.is) same)

pub loop-index-preserved : goal.loop-index-preserved
loop-index-preserved c =
    let next = pairs_next (arguments_in c.args.heap.now c.args.one) (arguments_in c.args.heap.now c.args.other) c.loop-index.index c.in-Some.first c.in-Some-argument.second (sym c.argument.ensures ∙ c.in-Some.is) (sym c.argument-in-loop-index.ensures ∙ c.in-Some-argument.is) in
    subst (λ (ps : List (Word × Word)). Meets c.args.heap.now ps c.args.met.now.keys c.meet.new.met.keys) (sym next)
    (meets_both c.args.heap.now (pairs (take c.loop-index.index (arguments_in c.args.heap.now c.args.one)) (take c.loop-index.index (arguments_in c.args.heap.now c.args.other))) ((c.in-Some.first, c.in-Some-argument.second) ∷ [])
    c.args.met.now.keys c.loop-index.met.keys c.meet.new.met.keys c.loop-index.invariant (c.in_ok-meet.ensures.yes c.if-not-branch.false))
