-- What holds of all members of lists.
use Rattle.std.proofs.Common.{Bool, true, false, List, [], ◌∷◌, map, flat_map, if◌then◌else◌}
use Rattle.std.specs.List.{AllByRecursion}
use Rattle.merc_order_laws.proofs.Written.{all_joined}

-- of the one or the other
pub if_holds : {A : Type 0} (P : A → Type 0) (b : Bool) (one other : A) → P one → P other → P (if b then one else other)
if_holds P true one other h k = h
if_holds P false one other h k = k

pub all_implied : {A : Type 0} (P Q : A → Type 0) (all : List A) → ((one : A) → P one → Q one) → AllByRecursion P all → AllByRecursion Q all
all_implied P Q [] implies h = tt
all_implied P Q (first ∷ rest) implies h = (implies first h.0, all_implied P Q rest implies h.1)

pub all_mapped : {A B : Type 0} (P : A → Type 0) (Q : B → Type 0) (f : A → B) (all : List A) → ((one : A) → P one → Q (f one)) → AllByRecursion P all → AllByRecursion Q (map f all)
all_mapped P Q f [] implies h = tt
all_mapped P Q f (first ∷ rest) implies h = (implies first h.0, all_mapped P Q f rest implies h.1)

pub all_flat : {A B : Type 0} (P : A → Type 0) (Q : B → Type 0) (f : A → List B) (all : List A) → ((one : A) → P one → AllByRecursion Q (f one)) → AllByRecursion P all → AllByRecursion Q (flat_map f all)
all_flat P Q f [] implies h = tt
all_flat P Q f (first ∷ rest) implies h = all_joined Q (f first) (flat_map f rest) (implies first h.0) (all_flat P Q f rest implies h.1)
