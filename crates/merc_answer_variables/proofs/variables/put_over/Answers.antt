use Rattle.std.specs.Ordering.{nat_cmp}
use Rattle.std.specs.BTreeMap.{get}
use Rattle.std.proofs.Common.{ℕ, ◌∙◌, ap}
use Rattle.merc_answer_variables.proofs.MapLaws.{put_over}
use Rattle.merc_answer_variables.proofs.variables.put_over.Goals as goal

pub returns : goal.returns
returns c = λ q.
    ap (λ m. get nat_cmp m q) c.swap.ensures.x_after
    ∙ c.in_ok-append.ensures.inserts_all.0 q ∙ put_over (λ (k : ℕ). get nat_cmp c.args.second.now k) c.args.first.now.entries q c.in_ok-append.ensures.other_was_ordered
