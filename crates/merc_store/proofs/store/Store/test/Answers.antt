use Rattle.std.proofs.Common.{◌≡◌, ◌↔◌, IsTrue, sym, ap, subst, ◌∙◌}
use Rattle.merc_value.specs.Block.{value_of}
use Rattle.merc_store.proofs.KindLemmas.{test_lacks, test_wants, test_does, test_fails}
use Rattle.merc_store.proofs.ReadingLemmas.{none_of}
use Rattle.merc_store.proofs.store.Store.test.Goals as goal

pub returns-in_default : goal.returns-in_default
returns-in_default c = test_lacks c.args.self.now c.args.one c.args.other (sym c.word.ensures.word ∙ none_of c.word.result c.in_default.not-Some)

pub returns-in_default-word : goal.returns-in_default-word
returns-in_default-word c = test_wants c.args.self.now c.args.one c.args.other c.in-Some.first (sym c.word.ensures.word ∙ c.in-Some.is)
    (sym c.word-2.ensures.word ∙ none_of c.word-2.result c.in_default-word.not-Some)

pub returns-then-branch : goal.returns-then-branch
returns-then-branch c =
    let seen : c.self.inside.heap ≡ c.args.self.now.cells = ap (λ s. s.cells) c.self.view_is in
    test_does c.args.self.now c.args.one c.args.other c.in-Some.first c.in-Some-word.second c.in_ok-equal.field-0 (sym c.word.ensures.word ∙ c.in-Some.is) (sym c.word-2.ensures.word ∙ c.in-Some-word.is)
    (subst (λ cells. IsTrue c.in_ok-equal.field-0 ↔ (value_of cells c.in-Some.first ≡ value_of cells c.in-Some-word.second)) seen c.in_ok-equal.ensures) c.if-branch.true

pub returns-else-branch : goal.returns-else-branch
returns-else-branch c =
    let seen : c.self.inside.heap ≡ c.args.self.now.cells = ap (λ s. s.cells) c.self.view_is in
    test_fails c.args.self.now c.args.one c.args.other c.in-Some.first c.in-Some-word.second c.in_ok-equal.field-0 (sym c.word.ensures.word ∙ c.in-Some.is) (sym c.word-2.ensures.word ∙ c.in-Some-word.is)
    (subst (λ cells. IsTrue c.in_ok-equal.field-0 ↔ (value_of cells c.in-Some.first ≡ value_of cells c.in-Some-word.second)) seen c.in_ok-equal.ensures) c.if-branch.false
