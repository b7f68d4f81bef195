-- Each word that is UTF-8 becomes a text; another is none.
use Rattle.std.proofs.Common.{◌∙◌, ◌++◌, ◌∷◌, [], IsUtf8, List, ℕ, ap, arith, sym, subst, take, take_all}
use Rattle.std.proofs.lemmas.List.{map-append}
use Rattle.std.proofs.lemmas.List.Elements.{All-more, All-same}
use Rattle.std.specs.Borrow.{Bor}
use Rattle.merc_words.specs.Parts.{words_behind}
use Rattle.merc_words.proofs.Reading.{take_next}
use Rattle.merc_words.proofs.words.texts.Goals as goal

pub returns-in_default-clause-usage : goal.returns-in_default-clause-usage
returns-in_default-clause-usage c = λ usage all.
    c.in_default.ensures.cases.0 (subst IsUtf8 (sym (c.bytes.ensures ∙ c.word-item.is)) (all c.loop-word.word-index c.word-item.result (omega (arith, c.loop-word-test.true))))

pub loop-word-preserved : goal.loop-word-preserved
loop-word-preserved c = record {
  texts_are = ap words_behind c.in_ok-push_text.ensures ∙ map-append (λ (word : Bor (List ℕ)). word.now) c.loop-word.texts.items (c.in-Ok.text ∷ [])
      ∙ ap (λ (some : List (List ℕ)). some ++ c.in-Ok.text.now ∷ []) c.loop-word.invariant.texts_are
      ∙ ap (λ (some : List ℕ). take c.loop-word.word-index c.args.words.now ++ some ∷ []) (c.in-Ok.ensures.cases.0 ∙ c.bytes.ensures ∙ c.word-item.is)
      ∙ sym (take_next c.args.words.now c.loop-word.word-index c.word-item.result (omega (arith, c.loop-word-test.true)));
  utf8 = All-more IsUtf8 c.args.words.now c.loop-word.word-index c.word-item.result (omega (arith, c.loop-word-test.true)) c.loop-word.invariant.utf8
      (subst IsUtf8 (c.bytes.ensures ∙ c.word-item.is) c.in-Ok.ensures.cases.1);
}

pub returns-clause-texts : goal.returns-clause-texts
returns-clause-texts c =
    let all = take_all c.loop-word.word-index c.args.words.now (omega (arith, c.loop-word-test.false)) in
    (c.loop-word.invariant.texts_are ∙ all, All-same IsUtf8 c.args.words.now _ (sym all) c.loop-word.invariant.utf8)
