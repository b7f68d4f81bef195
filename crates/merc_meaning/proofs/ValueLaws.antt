-- Values are told apart, and a value is made of its symbol and its arguments.
use Rattle.std.proofs.Common.{◌≡◌, ℕ, ℤ, Bool, true, false, ◌==◌, ◌&&◌, refl, ap}
use Rattle.std.specs.Ordering.{int_eq}
use Rattle.std.specs.Bool.{Decides}
use Rattle.std.proofs.lemmas.Bool.Decides.{Decides-eqb, Decides-int_eq}
use Rattle.merc_value.specs.Value.{Value, Int, Text, Con, Values, none, more}
use Rattle.merc_meaning.specs.Values.{same, same_all}

clash : {b : Bool} → b ≡ true → b ≡ false → ⊥
clash p q = absurd (cc)

con-both : {c d : ℕ} {vs ws : Values} → c ≡ d → vs ≡ ws → Con c vs ≡ Con d ws
con-both p q = cc

more-both : {v w : Value} {vs ws : Values} → v ≡ w → vs ≡ ws → more v vs ≡ more w ws
more-both p q = cc

int-case : (n m : ℤ) → Decides (int_eq n m) (n ≡ m) → Decides (int_eq n m) (Int n ≡ Int m)
int-case n m d = (λ h. ap Int (d.0 h), λ h. d.1 cc)

text-case : (n m : ℕ) → Decides (n == m) (n ≡ m) → Decides (n == m) (Text n ≡ Text m)
text-case n m d = (λ h. ap Text (d.0 h), λ h. d.1 cc)

con-case : (c d : ℕ) (vs ws : Values) (a b : Bool) → Decides a (c ≡ d) → Decides b (vs ≡ ws) → Decides (a && b) (Con c vs ≡ Con d ws)
con-case c d vs ws true b p q = (λ h. con-both (p.0 refl) (q.0 h), λ h. q.1 cc)
con-case c d vs ws false b p q = (λ h. absurd (clash h refl), λ h. absurd (clash (p.1 cc) refl))

more-case : (v w : Value) (vs ws : Values) (a b : Bool) → Decides a (v ≡ w) → Decides b (vs ≡ ws) → Decides (a && b) (more v vs ≡ more w ws)
more-case v w vs ws true b p q = (λ h. more-both (p.0 refl) (q.0 h), λ h. q.1 cc)
more-case v w vs ws false b p q = (λ h. absurd (clash h refl), λ h. absurd (clash (p.1 cc) refl))

mutual
  pub same-decides : (v w : Value) → Decides (same v w) (v ≡ w)
  same-decides (Int n) (Int m) = int-case n m (Decides-int_eq n m)
  same-decides (Int n) (Text m) = (λ h. absurd cc, λ h. absurd cc)
  same-decides (Int n) (Con d ws) = (λ h. absurd cc, λ h. absurd cc)
  same-decides (Text n) (Int m) = (λ h. absurd cc, λ h. absurd cc)
  same-decides (Text n) (Text m) = text-case n m (Decides-eqb n m)
  same-decides (Text n) (Con d ws) = (λ h. absurd cc, λ h. absurd cc)
  same-decides (Con c vs) (Int m) = (λ h. absurd cc, λ h. absurd cc)
  same-decides (Con c vs) (Text m) = (λ h. absurd cc, λ h. absurd cc)
  same-decides (Con c vs) (Con d ws) = con-case c d vs ws (c == d) (same_all vs ws) (Decides-eqb c d) (same_all-decides vs ws)

  same_all-decides : (vs ws : Values) → Decides (same_all vs ws) (vs ≡ ws)
  same_all-decides none none = (λ h. refl, λ h. refl)
  same_all-decides none (more w ws) = (λ h. absurd cc, λ h. absurd cc)
  same_all-decides (more v vs) none = (λ h. absurd cc, λ h. absurd cc)
  same_all-decides (more v vs) (more w ws) = more-case v w vs ws (same v w) (same_all vs ws) (same-decides v w) (same_all-decides vs ws)
