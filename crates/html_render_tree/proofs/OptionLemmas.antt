-- What gives something under a function, or nothing.
use Rattle.std.proofs.Common.{◌≡◌, ◌∙◌, Option, None, Some, ap, refl}
use Rattle.std.specs.Prelude.{IsSomeAnd}
use Rattle.std.specs.Option.{option_and_then, option_map}

pub some_bound : {X Y : Type 0} (f : X → Option Y) (o : Option X) (y : Y) → option_and_then f o ≡ Some y
    → (x : X) × ((o ≡ Some x) × (f x ≡ Some y))
some_bound f None y e = absurd (cc e)
some_bound f (Some x) y e = (x, (refl, e))

pub bound_as : {X Y : Type 0} (f : X → Option Y) (o : Option X) (x : X) (r : Option Y) → o ≡ Some x → f x ≡ r
    → option_and_then f o ≡ r
bound_as f o x r is same = ap (option_and_then f) is ∙ same

pub none_bound : {X Y : Type 0} (f : X → Option Y) (o : Option X) → o ≡ None → option_and_then f o ≡ None
none_bound f o is = ap (option_and_then f) is

pub some_mapped : {X Y : Type 0} (f : X → Y) (o : Option X) (y : Y) → option_map f o ≡ Some y
    → (x : X) × ((o ≡ Some x) × (f x ≡ y))
some_mapped f None y e = absurd (cc e)
some_mapped f (Some x) y e = (x, (refl, cc e))

pub none_mapped : {X Y : Type 0} (f : X → Y) (o : Option X) → option_map f o ≡ None → o ≡ None
none_mapped f None e = refl
none_mapped f (Some x) e = cc

pub some_with : {X : Type 0} (P : X → Type 0) (o : Option X) → IsSomeAnd o P → (x : X) × ((o ≡ Some x) × P x)
some_with P None h = absurd h
some_with P (Some x) h = (x, (refl, h))
