-- Steps in turn.
use Rattle.std.proofs.Common.{◌≡◌, Option, None, Some, refl, ap, ◌∙◌}
use Rattle.std.specs.Option.{option_and_then}
use Rattle.layout_state.specs.LayoutState.{LayoutState, Step, in_turn}

pub turn_on : {H A : Type 0} (f g : Step H A) (l new : LayoutState H A) (o : Option (LayoutState H A)) → f l ≡ Some new
    → g new ≡ o → in_turn f g l ≡ o
turn_on f g l new o h k = ap (option_and_then g) h ∙ k

pub turn_off : {H A : Type 0} (f g : Step H A) (l : LayoutState H A) → f l ≡ None → in_turn f g l ≡ None
turn_off f g l h = ap (option_and_then g) h

pub then_then : {A B C : Type 0} (f : A → Option B) (g : B → Option C) (o : Option A)
    → option_and_then (λ x. option_and_then g (f x)) o ≡ option_and_then g (option_and_then f o)
then_then f g None = refl
then_then f g (Some x) = refl

pub then_same : {A B : Type 0} (f g : A → Option B) (o : Option A) → ((x : A) → f x ≡ g x)
    → option_and_then f o ≡ option_and_then g o
then_same f g None h = refl
then_same f g (Some x) h = h x

pub then_some : {A : Type 0} (o : Option A) → option_and_then (λ x. Some x) o ≡ o
then_some None = refl
then_some (Some x) = refl
