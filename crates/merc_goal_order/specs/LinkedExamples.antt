-- If-then-elses as links of a chain, over `true` and `X = Y`.
use Rattle.std.specs.Prelude.{◌≡◌, ◌+◌, [], ◌∷◌, List, Err, refl}
use Rattle.merc_base.specs.declared.refusal.Fault.TheVariants.{Refused}
use Rattle.merc_tree.specs.Term.{no_span}
use Rattle.merc_goal_tree.specs.Nodes.{Node, Conditional, Negation}
use Rattle.merc_order.specs.Bound.{nothing, among}
use Rattle.merc_order.specs.Faults.{unbound_output}
use Rattle.merc_order.specs.Order.{from}
use Rattle.merc_order.specs.Ordered.{Ordered, put, Decision, Ready, Stuck}
use Rattle.merc_goal_facts.specs.Facts.{AreFactsOf}
use Rattle.merc_goal_order.specs.GoalsExamples.{no_modes, body, in_body, truth, unready, true_facts, true_known, no_stretch}
use Rattle.merc_goal_order.specs.Linked.{IsConditional, ending, Guarded, GuardGives, Chain, outermost, inside, Within, Closing, CloseGives}
use Rattle.merc_goal_facts.specs.Outside.{IsStretch}
use Rattle.merc_goal_order.specs.WalksExamples.{never, done, clean, one, two, none_written, one_written}
use Rattle.merc_goal_order.specs.declared.links.Link.{Link}

-- `( true -> true ; true )`
abbrev decided : Node
decided = Conditional truth truth truth no_span

conditional : IsConditional decided
conditional = tt

not_conditional : IsConditional (Negation truth no_span) → ⊥
not_conditional wrong = wrong

ends_ready : ending in_body no_modes nothing truth truth truth no_span done done (Ready done) ≡ Ready (put (Decision done done done) [] no_span)
ends_ready = refl

ends_stuck : ending in_body no_modes nothing truth truth unready no_span done done (Stuck never) ≡ Stuck never
ends_stuck = refl

-- the then part alone binds X, which occurs outside
arms_differ : ending in_body no_modes (among (2 ∷ [])) truth unready truth no_span done done (Ready done) ≡ Stuck (unbound_output no_span)
arms_differ = refl

guarded : Guarded in_body no_modes truth truth nothing 0 0 clean two
guarded = record { first = done; second = done; ends = λ else_part span. refl; are_written = record { nodes = refl; fresh = refl; seen = refl }; next_is = refl }

-- the place behind their variables is another
not_behind : Guarded in_body no_modes truth truth nothing 0 1 clean two → ⊥
not_behind wrong = let place = wrong.next_is in cc

guard_stuck : GuardGives in_body no_modes unready truth nothing 0 clean clean (Err (Refused never))
guard_stuck else_part span = refl

guard_not_stuck : GuardGives in_body no_modes truth truth nothing 0 clean clean (Err (Refused never)) → ⊥
guard_not_stuck gives = let wrong = gives truth no_span in cc

-- chains

first_link : Chain in_body no_modes body nothing decided [] decided []
first_link = outermost

one_link : (link : Link) → AreFactsOf in_body no_modes (Conditional truth truth truth link.span) link.own.now → IsStretch in_body body link.start (link.start + 0) []
    → Chain in_body no_modes body nothing (Conditional truth truth truth link.span) (link ∷ []) truth (done ∷ done ∷ [])
one_link link known stretch = inside link [] truth truth truth done done [] known stretch refl outermost

-- with no link it leads nowhere else

whole_ready : (whole rest : Node) (before : List Ordered) (ordered : Ordered) → Chain in_body no_modes body nothing whole [] rest before → from in_body no_modes rest nothing ≡ Ready ordered
    → from in_body no_modes whole nothing ≡ Ready ordered
whole_ready whole rest before ordered outermost ready = ready

no_link : Chain in_body no_modes body nothing unready [] truth [] → ⊥
no_link chain = let wrong = whole_ready unready truth [] done chain refl in cc

begun : Within in_body no_modes body nothing truth [] truth (true_facts ∷ []) 0 clean clean
begun = record { done = []; chain = outermost; known = (true_known, tt); stretch = no_stretch; are_written = none_written }

no_facts : Within in_body no_modes body nothing truth [] truth [] 0 clean clean → ⊥
no_facts within = within.known

closed : Closing in_body no_modes body nothing truth [] clean one
closed = record { done = []; rest = truth; chain = outermost; ordered = done; outcome = refl; are_written = one_written }

not_closed : Closing in_body no_modes body nothing unready [] clean one → ⊥
not_closed closing = let wrong = whole_ready unready closing.rest closing.done closing.ordered closing.chain closing.outcome in cc

close_stuck : CloseGives in_body no_modes body nothing unready [] clean clean (Err (Refused never))
close_stuck = refl

close_not_stuck : CloseGives in_body no_modes body nothing truth [] clean clean (Err (Refused never)) → ⊥
close_not_stuck wrong = cc
