-- A refusal that says one thing says another that follows.
use Rattle.merc_base.specs.declared.refusal.Refusal.{Refusal}
use Rattle.merc_base.specs.declared.refusal.Fault.{Fault}
use Rattle.merc_base.specs.declared.refusal.Fault.TheVariants.{Refused, NoMemory}
use Rattle.merc_terms.specs.Items.{IsRefusal}

pub IsRefusal-weaker : (Refuses Follows : Refusal → Type 0) (fault : Fault) → ((refusal : Refusal) → Refuses refusal → Follows refusal) → IsRefusal Refuses fault → IsRefusal Follows fault
IsRefusal-weaker Refuses Follows (Refused refusal) weaker refuses = weaker refusal refuses
IsRefusal-weaker Refuses Follows NoMemory weaker refuses = tt
