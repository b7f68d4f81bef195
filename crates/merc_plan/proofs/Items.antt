-- The items of a script account for its end's number.
use Rattle.std.proofs.Common.{◌≡◌, ℕ, zero, suc, ◌+◌, ◌-◌, ◌≤◌, Bool, true, false, if◌then◌else◌, List, ◌++◌, ap, arith}
use Rattle.merc_script.specs.declared.outcome.Outcome.{Outcome}
use Rattle.merc_script.specs.declared.outcome.Outcome.TheVariants.{Ok as Fine, Raise, Limit, Starved, NoMemory}
use Rattle.merc_script.specs.Script.{Script, Ends, ends, end_of}
use Rattle.merc_script.specs.Joining.{joined}
use Rattle.merc_core.specs.Rights.{has, without}
use Rattle.merc_core.specs.WellFormed.{gain}
use Rattle.merc_plan.specs.Branch.{BranchCourse, Over, Breaks, Steps, Finds, Awaits, Gives, Forks, Raised, TooDeep, Starving, names}
use Rattle.merc_plan.specs.BranchScript.{all_signalled, going, script, scripts}
use Rattle.merc_plan.specs.Counting.{gained, Accounts}
use Rattle.merc_plan.proofs.Walks.{WithinLimit, joined_limit}

abbrev number : Outcome → ℕ
number (Fine n) = n
number (Raise e n) = n
number Limit = 0
number Starved = 0
number NoMemory = 0

fine_number : (s n : ℕ) → Fine s ≡ Fine n → s ≡ n
fine_number s n h = ap number h

fine_same : (s n : ℕ) → Fine s ≡ Fine n → n ≡ s + 0
fine_same s n h = omega (arith, fine_number s n h)

none_left : (l s : ℕ) (o : Outcome) → ((n : ℕ) → o ≡ Fine n → n ≡ s + 0) → Accounts l s (Ends o)
none_left l s o h = (omega arith, h)

waited : (b : Bool) (l s : ℕ) (r : Script) → Accounts l s r → Accounts l s (if b then r else Ends Starved)
waited true l s r h = h
waited false l s r h = (omega arith, λ n e. absurd (cc))

ticked : (l s n : ℕ) → n ≡ suc s + l → n ≡ s + suc l
ticked l s n h = omega (arith, h)

forked : (o : Outcome) (l s : ℕ) (next : ℕ → Script) → WithinLimit l o → ((u : ℕ) → u ≤ l → Accounts (l - u) (s + u) (next u))
    → (gain o + gained (going o s next) ≤ l) × ((n : ℕ) → end_of (going o s next) ≡ Fine n → n ≡ s + (gain o + gained (going o s next)))
forked (Fine u) l s next w h = let a = h u w in (let p = a.0 in omega (arith, w, p), λ n e. let q = a.1 n e in omega (arith, q))
forked (Raise e k) l s next w h = (omega arith, λ n q. absurd (cc))
forked Limit l s next w h = (omega arith, λ n q. absurd (cc))
forked Starved l s next w h = (omega arith, λ n q. absurd (cc))
forked NoMemory l s next w h = (omega arith, λ n q. absurd (cc))

pub accounts : (root : Bool) (t : BranchCourse) (l s : ℕ) (g : List ℕ) → Accounts l s (script root l s g t)
accounts root Over l s g = none_left l s (Fine s) (λ n e. fine_same s n e)
accounts root (Breaks (Raised e)) l s g = none_left l s (Raise e s) (λ n q. absurd (cc))
accounts root (Breaks TooDeep) l s g = none_left l s Limit (λ n q. absurd (cc))
accounts root (Breaks Starving) l s g = none_left l s Starved (λ n q. absurd (cc))
accounts root (Steps t) zero s g = none_left zero s Limit (λ n q. absurd (cc))
accounts root (Steps t) (suc l) s g =
    let a = accounts root t l (suc s) g in (let p = a.0 in omega (arith, p), λ n e. ticked (gained (script root l (suc s) g t)) s n (a.1 n e))
accounts true (Finds hold t) l s g = accounts true t l s g
accounts false (Finds hold t) l s g = none_left l s (Fine s) (λ n e. fine_same s n e)
accounts root (Awaits c v t) l s g = waited (has c g) l s (script root l s g t) (accounts root t l s g)
accounts root (Gives c v t) l s g = accounts root t l s g
accounts root (Forks i x ks t) l s g =
    forked (joined l (ends (scripts l (without (names x.cells) g) ks))) l s
    (λ u. script root (l - u) (s + u) (without (names x.cells) g ++ all_signalled (scripts l (without (names x.cells) g) ks)) t)
    (joined_limit l (ends (scripts l (without (names x.cells) g) ks)))
    (λ u h. accounts root t (l - u) (s + u) (without (names x.cells) g ++ all_signalled (scripts l (without (names x.cells) g) ks)))
