-- A bar stands before a tail that is no list.
use Rattle.std.proofs.Common.{false, ◌*◌, ◌+◌, ap, ◌∙◌, sym, arith}
use Rattle.merc_terms.specs.Operators.{argument_most}
use Rattle.merc_term_text.proofs.WalkLemmas.{takes_mark}
use Rattle.merc_term_text.proofs.TermPieces.{other_tail}
use Rattle.merc_term_text.specs.Walking.{size}
use Rattle.merc_term_text.specs.Written.{part_of, part_pieces, bar_pieces}
use Rattle.merc_term_text.specs.declared.work.Mark.TheVariants.{Bar}
use Rattle.merc_term_text.proofs.writing.end_mark.Goals as goal

pub returns : goal.returns
returns c = takes_mark c.in_ok-put.ensures (λ names. (part_of names c.args.term.now).tail) (16 * size c.args.term.now + 4) Bar
    (λ names. ap (λ t. bar_pieces (part_pieces argument_most false (part_of names t))) c.copy.ensures ∙ other_tail names c.args.term.now c.requires (sym c.is_nil.ensures ∙ c.if-is_nil.false)) (omega (arith, ap size c.copy.ensures))
