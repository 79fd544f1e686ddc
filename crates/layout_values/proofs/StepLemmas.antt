-- What waits after steps.
use Rattle.std.proofs.Common.{◌≡◌, List, [], ◌∷◌, ◌++◌, Option, None, Some, refl, sym, ap, ◌∙◌}
use Rattle.std.specs.Option.{option_and_then}
use Rattle.block_trait.specs.Renderers.{Marking}
use Rattle.layout_values.specs.Sizing.{Sizing}
use Rattle.layout_state.specs.LayoutState.{LayoutState, Step}
use Rattle.layout_state.proofs.StepLemmas.{then_same, then_some, then_then}
use Rattle.layout_values.specs.Continuation.{Continuation, undone, unwound}

pub nothing_waits : {H A : Type 0} (m : Marking H A) (w : Sizing) (o : Option (LayoutState H A))
    → o ≡ option_and_then (unwound m w []) o
unfolding unwound
nothing_waits m w None = refl
nothing_waits m w (Some x) = refl

pub one_waits : {H A : Type 0} (m : Marking H A) (w : Sizing) (x : Continuation H A) (o : Option (LayoutState H A))
    → option_and_then (undone m w x) o ≡ option_and_then (unwound m w (x ∷ [])) o
unfolding unwound
one_waits m w x None = refl
one_waits m w x (Some l) = refl

pub one_more : {H A : Type 0} (m : Marking H A) (w : Sizing) (x : Continuation H A) (xs : List (Continuation H A))
    (o : Option (LayoutState H A))
    → option_and_then (undone m w x) (option_and_then (unwound m w xs) o) ≡ option_and_then (unwound m w (x ∷ xs)) o
unfolding unwound
one_more m w x xs None = refl
one_more m w x xs (Some l) = refl

pub unwound_on : {H A : Type 0} (m : Marking H A) (w : Sizing) (xs ys : List (Continuation H A)) (l : LayoutState H A)
    → unwound m w (xs ++ ys) l ≡ option_and_then (unwound m w xs) (unwound m w ys l)
unfolding unwound
unwound_on m w [] ys l = sym (then_some (unwound m w ys l))
unwound_on m w (x ∷ xs) ys l = ap (option_and_then (undone m w x)) (unwound_on m w xs ys l)
    ∙ sym (then_then (unwound m w xs) (undone m w x) (unwound m w ys l))

pub all_wait : {H A : Type 0} (m : Marking H A) (w : Sizing) (xs ys : List (Continuation H A))
    (o : Option (LayoutState H A))
    → option_and_then (unwound m w xs) (option_and_then (unwound m w ys) o)
    ≡ option_and_then (unwound m w (xs ++ ys)) o
all_wait m w xs ys o = sym (then_then (unwound m w ys) (unwound m w xs) o)
    ∙ then_same (λ x. option_and_then (unwound m w xs) (unwound m w ys x)) (unwound m w (xs ++ ys)) o
    (λ x. sym (unwound_on m w xs ys x))

-- what one value is in, and within it another
pub opens_both : {H A : Type 0} (m : Marking H A) (w : Sizing) (f : Step H A → Step H A) (inside : Step H A)
    (xs ys : List (Continuation H A)) (old mid : LayoutState H A) (o : Option (LayoutState H A))
    → ((x : Step H A) → f x old ≡ option_and_then (unwound m w xs) (x mid))
    → inside mid ≡ option_and_then (unwound m w ys) o → f inside old ≡ option_and_then (unwound m w (xs ++ ys)) o
opens_both m w f inside xs ys old mid o h k =
    h inside ∙ (ap (option_and_then (unwound m w xs)) k ∙ all_wait m w xs ys o)
