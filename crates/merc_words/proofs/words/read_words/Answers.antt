-- The command and the words behind it ask for what the parts say.
use Rattle.std.proofs.Common.{◌≡◌, ◌∙◌, ◌∷◌, [], All, IsUtf8, List, ℕ, ap, sym, subst}
use Rattle.std.proofs.lemmas.Result.{IfErr-weaker, IfOk-weaker}
use Rattle.merc_words.specs.Parts.{texts_of, words_behind}
use Rattle.merc_words.proofs.Reading.{behind-utf8, behind_first, front_at, passed_up, read-nothing, read-request, unparted}
use Rattle.merc_words.proofs.words.read_words.Goals as goal

pub part-requires : goal.part-requires
part-requires c =
    let spelled = sym c.in_ok-texts.ensures.texts.0 ∙ ap words_behind (sym c.as_slice.ensures.value ∙ front_at c.as_slice.result.now (record { ref_ptr = (0, 0); now = [] }) c.in-len1-up.len_at_least) in
    behind-utf8 _ (words_behind (behind_first c.as_slice.result.now)) (subst (λ (some : List (List ℕ)). All IsUtf8 some) spelled c.in_ok-texts.ensures.texts.1)

pub returns-in_err-parts-clause-usage : goal.returns-in_err-parts-clause-usage
returns-in_err-parts-clause-usage c =
    let spelled = sym c.in_ok-texts.ensures.texts.0 ∙ ap words_behind (sym c.as_slice.ensures.value ∙ front_at c.as_slice.result.now (record { ref_ptr = (0, 0); now = [] }) c.in-len1-up.len_at_least) in
    passed_up c.from_residual-in_err-parts.result c.in_err-parts.field-0.0 _ c.from_residual-in_err-parts.ensures.1
    (λ usage. unparted c.args.words.now _ (words_behind (behind_first c.as_slice.result.now)) spelled (c.in_err-parts.ensures.usage usage))

pub returns-clause-request : goal.returns-clause-request
returns-clause-request c =
    let spelled : c.args.words.now ≡ c.as_bytes.result.now ∷ words_behind (behind_first c.as_slice.result.now) =
    sym c.in_ok-texts.ensures.texts.0 ∙ ap words_behind (sym c.as_slice.ensures.value ∙ front_at c.as_slice.result.now _ c.in-len1-up.len_at_least)
    ∙ ap (λ (some : List ℕ). some ∷ words_behind (behind_first c.as_slice.result.now)) (sym c.as_bytes.ensures.value) in
    IfOk-weaker c.request_of.result _ _
    (λ request asked. read-request c.args.words.now c.as_bytes.result.now (words_behind (behind_first c.as_slice.result.now)) spelled c.in_ok-texts.ensures.texts.1 (texts_of c.in_ok-parts.parts)
    c.in_ok-parts.ensures.parts request asked)
    c.request_of.ensures.asked

pub returns-clause-usage : goal.returns-clause-usage
returns-clause-usage c =
    let spelled : c.args.words.now ≡ c.as_bytes.result.now ∷ words_behind (behind_first c.as_slice.result.now) =
    sym c.in_ok-texts.ensures.texts.0 ∙ ap words_behind (sym c.as_slice.ensures.value ∙ front_at c.as_slice.result.now _ c.in-len1-up.len_at_least)
    ∙ ap (λ (some : List ℕ). some ∷ words_behind (behind_first c.as_slice.result.now)) (sym c.as_bytes.ensures.value) in
    IfErr-weaker c.request_of.result _ _
    (λ fault nothing usage. read-nothing c.args.words.now c.as_bytes.result.now (words_behind (behind_first c.as_slice.result.now)) spelled c.in_ok-texts.ensures.texts.1 (texts_of c.in_ok-parts.parts)
    c.in_ok-parts.ensures.parts (nothing usage))
    c.request_of.ensures.usage
