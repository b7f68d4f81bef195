-- Worked examples of the definitions of specs/Category.antt: what holds, and what does not.
use Rattle.std.proofs.Common.{◌≡◌, true, false, codes, refl}
use Rattle.merc_base.specs.Category.{can_fail_of, most_of, category_name}
use Rattle.merc_base.specs.declared.category.Category.TheVariants.{Det, Semidet, Multi, Nondet, Erroneous, Failure}
use Rattle.merc_base.specs.declared.category.Most.TheVariants.{Zero, One, Many}

pub can_fail_of-det : can_fail_of Det ≡ false
can_fail_of-det = refl

pub can_fail_of-semidet : can_fail_of Semidet ≡ true
can_fail_of-semidet = refl

pub can_fail_of-multi : can_fail_of Multi ≡ false
can_fail_of-multi = refl

pub can_fail_of-nondet : can_fail_of Nondet ≡ true
can_fail_of-nondet = refl

pub can_fail_of-erroneous : can_fail_of Erroneous ≡ false
can_fail_of-erroneous = refl

pub can_fail_of-failure : can_fail_of Failure ≡ true
can_fail_of-failure = refl

pub can_fail_of-not : can_fail_of Erroneous ≡ true → ⊥
can_fail_of-not h = cc

pub most_of-det : most_of Det ≡ One
most_of-det = refl

pub most_of-semidet : most_of Semidet ≡ One
most_of-semidet = refl

pub most_of-multi : most_of Multi ≡ Many
most_of-multi = refl

pub most_of-nondet : most_of Nondet ≡ Many
most_of-nondet = refl

pub most_of-erroneous : most_of Erroneous ≡ Zero
most_of-erroneous = refl

pub most_of-failure : most_of Failure ≡ Zero
most_of-failure = refl

pub most_of-not : most_of Semidet ≡ Many → ⊥
most_of-not h = cc

pub category_name-det : category_name Det ≡ codes "det"
category_name-det = refl

pub category_name-semidet : category_name Semidet ≡ codes "semidet"
category_name-semidet = refl

pub category_name-multi : category_name Multi ≡ codes "multi"
category_name-multi = refl

pub category_name-nondet : category_name Nondet ≡ codes "nondet"
category_name-nondet = refl

pub category_name-erroneous : category_name Erroneous ≡ codes "erroneous"
category_name-erroneous = refl

pub category_name-failure : category_name Failure ≡ codes "failure"
category_name-failure = refl

pub category_name-not : category_name Det ≡ codes "semidet" → ⊥
category_name-not h = cc
