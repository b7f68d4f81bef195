-- What is due over the file that is asked for.
use Rattle.std.proofs.Common.{◌∙◌, ap, subst, ℕ, List, [], ◌∷◌}
use Rattle.std.specs.Prelude.{Ok, Err}
use Rattle.merc_transfer.specs.declared.loading.LoadFault.TheVariants.{TooLong, Unread}
use Rattle.merc_transfer.specs.Loading.{Loads}
use Rattle.merc_top.specs.Output.{too_long_line}
use Rattle.merc_top.proofs.Dues.{file-found, too_long-found, unread-found}
use Rattle.merc_top.proofs.answering.find_answer.Goals as goal

pub returns-in_ok-find_requested-in-Ok-clause-finds : goal.returns-in_ok-find_requested-in-Ok-clause-finds
returns-in_ok-find_requested-in-Ok-clause-finds g c = λ words asked.
    let loaded =
    subst (λ (name : List ℕ). Loads (g.S.Shelf.files c.args.shelf.now) name (g.S.Shelf.read_faults c.args.shelf.now) (g.S.Shelf.read_faults c.load.new.shelf) (Ok c.in-Ok.text))
    c.file-file.ensures c.in-Ok.ensures.loads in
    file-found words (g.S.Shelf.files c.args.shelf.now) (g.S.Shelf.read_faults c.args.shelf.now) (g.S.Shelf.read_faults c.load.new.shelf) c.in-Ok.text loaded.0 loaded.1
    c.args.request.now c.in_ok-find_requested-in-Ok.field-0 asked loaded.2 c.in_ok-find_requested-in-Ok.ensures

pub returns-in_ok-too_long_due-in-Err-TooLong-clause-finds : goal.returns-in_ok-too_long_due-in-Err-TooLong-clause-finds
returns-in_ok-too_long_due-in-Err-TooLong-clause-finds g c = λ words asked.
    let loaded =
    subst (λ (name : List ℕ). Loads (g.S.Shelf.files c.args.shelf.now) name (g.S.Shelf.read_faults c.args.shelf.now) (g.S.Shelf.read_faults c.load.new.shelf) (Err TooLong))
    c.file-file.ensures
    (subst (λ fault. Loads (g.S.Shelf.files c.args.shelf.now) c.file-file.result.now (g.S.Shelf.read_faults c.args.shelf.now) (g.S.Shelf.read_faults c.load.new.shelf) (Err fault))
    c.in-Err-TooLong.field-0-is c.in-Err-TooLong.ensures.loads) in
    let line = c.in_ok-too_long_due-in-Err-TooLong.ensures in
    too_long-found words (g.S.Shelf.files c.args.shelf.now) (g.S.Shelf.read_faults c.args.shelf.now) (g.S.Shelf.read_faults c.load.new.shelf) c.args.request.now
    c.in_ok-too_long_due-in-Err-TooLong.field-0 loaded.0 asked loaded.1
    (line.0 ∙ ap (λ (name : List ℕ). too_long_line name ∷ []) (c.bytes.ensures ∙ c.file-file.ensures)) line.1

pub returns-in-Err-Unread-clause-finds : goal.returns-in-Err-Unread-clause-finds
returns-in-Err-Unread-clause-finds g c = λ words asked.
    let loaded =
    subst (λ (name : List ℕ). Loads (g.S.Shelf.files c.args.shelf.now) name (g.S.Shelf.read_faults c.args.shelf.now) (g.S.Shelf.read_faults c.load.new.shelf) (Err Unread))
    c.file-file.ensures
    (subst (λ fault. Loads (g.S.Shelf.files c.args.shelf.now) c.file-file.result.now (g.S.Shelf.read_faults c.args.shelf.now) (g.S.Shelf.read_faults c.load.new.shelf) (Err fault))
    c.in-Err-Unread.field-0-is c.in-Err-Unread.ensures.loads) in
    unread-found words (g.S.Shelf.files c.args.shelf.now) (g.S.Shelf.read_faults c.args.shelf.now) (g.S.Shelf.read_faults c.load.new.shelf) c.args.request.now asked loaded
