-- Both roots have their words among the cells that are shared in the end.
use Rattle.std.proofs.Common.{◌≡◌, ◌∙◌, sym, arith}
use Rattle.std.proofs.lemmas.List.{length-map}
use Rattle.merc_value.specs.Block.{root_values, value_of}
use Rattle.merc_value.specs.contracts.word.WordPartialEq.TheImpl.{eq-value}
use Rattle.merc_value.proofs.WordEquality.{word_eq}
use Rattle.merc_value.proofs.SharingLemmas.{same_roots}
use Rattle.merc_value.proofs.sharing.equal.Goals as goal

pub returns : goal.returns
returns c =
    let roots = same_roots c.share_root.new.shared.items c.share_root-2.new.shared.items (root_values c.args.a.now) (root_values c.args.b.now) c.args.i c.args.j c.in_ok-one.one c.in_ok-other.other
    (omega (arith, c.requires.one, length-map c.args.a.now.roots (value_of c.args.a.now.cells))) (omega (arith, c.requires.other, length-map c.args.b.now.roots (value_of c.args.b.now.cells)))
    c.in_ok-one.ensures.word c.in_ok-other.ensures.kept c.in_ok-other.ensures.word in
    let same = word_eq c.in_ok-one.one c.in_ok-other.other in
    let tested : c.eq.result ≡ eq-value.it c.in_ok-one.one c.in_ok-other.other = c.eq.ensures in
    (λ t. roots.0 (same.0 (sym tested ∙ t)), λ e. tested ∙ same.1 (roots.1 e))
