-- What is made ready for a board, site after site.
use Rattle.std.proofs.Common.{◌≡◌, ℕ, zero, suc, ◌<◌, ◌≤◌, ◌⊎◌, inl, inr, List, [], ◌∷◌, ◌++◌, Some, None, refl, ap, sym, ◌∙◌, subst, arith, length, slice_get}
use Rattle.merc_rights.specs.declared.sites.SiteInfo.{SiteInfo}
use Rattle.merc_pool.specs.declared.shares.Share.{Share}
use Rattle.merc_pool.specs.Shares.{AreShares, IsShare}

some-same : {A : Type 0} {x y : A} → Some x ≡ Some y → x ≡ y
some-same e = cc

there : {A : Type 0} (xs : List A) (i : ℕ) (x : A) → slice_get xs i ≡ Some x → i < length xs
there [] i x is = absurd (cc)
there (y ∷ ys) zero x is = omega arith
there (y ∷ ys) (suc i) x is = omega (arith, there ys i x is)

none-there : {A : Type 0} (xs : List A) (i : ℕ) → slice_get xs i ≡ None → length xs ≤ i
none-there [] i is = omega arith
none-there (y ∷ ys) zero is = absurd (cc)
none-there (y ∷ ys) (suc i) is = omega (arith, none-there ys i is)

one-more : {A : Type 0} (xs : List A) (x : A) → length (xs ++ x ∷ []) ≡ suc (length xs)
one-more [] x = refl
one-more (y ∷ ys) x = ap suc (one-more ys x)

last-or : {A : Type 0} (xs : List A) (x y : A) (i : ℕ) → slice_get (xs ++ x ∷ []) i ≡ Some y → (slice_get xs i ≡ Some y) ⊎ ((i ≡ length xs) × (x ≡ y))
last-or [] x y zero is = inr (refl, some-same is)
last-or [] x y (suc i) is = absurd (cc)
last-or (z ∷ zs) x y zero is = inl is
last-or (z ∷ zs) x y (suc i) is = elim (last-or zs x y i is) [
  | inl before ↦ inl before
  | inr last ↦ inr (ap suc last.0, last.1)
]

abbrev pub EachIs : List SiteInfo → List Share → Type 0
EachIs sites shares = (site : ℕ) (info : SiteInfo) (share : Share) → slice_get sites site ≡ Some info → slice_get shares site ≡ Some share → IsShare info share

pub share-made : (sites : List SiteInfo) (old new : List Share) (site : ℕ) (info : SiteInfo) (share : Share) → site ≡ length old → slice_get sites site ≡ Some info → IsShare info share
    → new ≡ old ++ share ∷ [] → EachIs sites old → (length new ≤ length sites) × EachIs sites new
share-made sites old new site info share at found is put each =
    let within = there sites site info found in
    let longer = ap length put ∙ one-more old share in (
      omega (arith, within, at, longer),
      λ other info' share' found' has. elim (last-or old share share' other (ap (λ (l : List Share). slice_get l other) (sym put) ∙ has)) [
        | inl before ↦ each other info' share' found' before
        | inr last ↦ (
            let same : info ≡ info' = some-same (sym found ∙ ap (λ (i : ℕ). slice_get sites i) (at ∙ sym last.0) ∙ found') in
            subst (λ (i : SiteInfo). IsShare i share') same (subst (λ (s : Share). IsShare info s) last.1 is))
      ],
    )

pub all-made : (sites : List SiteInfo) (shares : List Share) (site : ℕ) → site ≡ length shares → slice_get sites site ≡ None → length shares ≤ length sites → EachIs sites shares → AreShares sites shares
all-made sites shares site at none within each =
    let all = none-there sites site none in
    record { same_length = omega (arith, at, all, within); each = each }
