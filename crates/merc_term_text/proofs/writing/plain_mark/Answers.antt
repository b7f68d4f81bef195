-- A name stands before its arguments.
use Rattle.std.proofs.Common.{true, ◌*◌, map, ap, ◌∙◌, ◌++◌, arith}
use Rattle.std.proofs.lemmas.Result.{IfOk-weaker}
use Rattle.merc_term_text.proofs.WalkLemmas.{takes_before}
use Rattle.merc_term_text.proofs.TermPieces.{plain_written, size_is}
use Rattle.merc_term_text.specs.Walking.{size, sizes_of, head_pieces, arguments_pieces}
use Rattle.merc_term_text.specs.Written.{part_of}
use Rattle.merc_term_text.proofs.writing.plain_mark.Goals as goal

pub returns-in_ok-put_arguments-in-Application : goal.returns-in_ok-put_arguments-in-Application
returns-in_ok-put_arguments-in-Application c = IfOk-weaker c.name_mark.result _ _
    (λ mark takes. takes_before c.in_ok-put_arguments-in-Application.ensures takes (λ names. (part_of names c.args.term.now).pieces true) (16 * size c.args.term.now)
    (λ names. ap (λ ts. head_pieces names c.in-Application.name c.in-Application.qualifier c.in-Application.arity ++ arguments_pieces (map (part_of names) ts)) c.arguments.ensures
    ∙ plain_written names true c.args.term.now c.in-Application.name c.in-Application.qualifier c.in-Application.arity c.requires c.in-Application.ensures)
    (omega (arith, size_is c.args.term.now, ap sizes_of c.arguments.ensures))) c.name_mark.ensures
