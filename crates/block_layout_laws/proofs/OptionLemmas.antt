-- What holds of the value of an `Option` that was computed from another.
use Rattle.std.proofs.Common.{◌≡◌, Option, None, Some, IfSome, refl}
use Rattle.std.specs.Prelude.{IsSomeAnd}
use Rattle.std.specs.Option.{option_map, option_and_then}

-- ---- where there is a value

pub known : {X : Type 0} (P : X → Type 0) (o : Option X) → ((x : X) → o ≡ Some x → P x) → IfSome o P
known P None law = tt
known P (Some x) law = law x refl

pub mapped : {X Y : Type 0} (P : X → Type 0) (Q : Y → Type 0) (f : X → Y) (o : Option X) → ((x : X) → P x → Q (f x))
    → IfSome o P → IfSome (option_map f o) Q
mapped P Q f None step h = tt
mapped P Q f (Some x) step h = step x h

pub chained : {X Y : Type 0} (P : X → Type 0) (Q : Y → Type 0) (f : X → Option Y) (o : Option X)
    → ((x : X) → P x → IfSome (f x) Q) → IfSome o P → IfSome (option_and_then f o) Q
chained P Q f None step h = tt
chained P Q f (Some x) step h = step x h

-- ---- there is a value

pub given_mapped : {X Y : Type 0} (P : X → Type 0) (Q : Y → Type 0) (f : X → Y) (o : Option X)
    → ((x : X) → P x → Q (f x)) → IsSomeAnd o P → IsSomeAnd (option_map f o) Q
given_mapped P Q f None step h = absurd h
given_mapped P Q f (Some x) step h = step x h

pub given_chained : {X Y : Type 0} (P : X → Type 0) (Q : Y → Type 0) (f : X → Option Y) (o : Option X)
    → ((x : X) → P x → IsSomeAnd (f x) Q) → IsSomeAnd o P → IsSomeAnd (option_and_then f o) Q
given_chained P Q f None step h = absurd h
given_chained P Q f (Some x) step h = step x h
