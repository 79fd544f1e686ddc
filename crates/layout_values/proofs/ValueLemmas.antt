-- What waits after a value that was opened.
use Rattle.std.proofs.Common.{◌≡◌, ◌≤◌, [], ◌∷◌, ◌++◌, ◌∙◌, Bool, IfSome, List, None, Option, Some, ap, append_assoc}
use Rattle.std.proofs.Common.{arith, false, length, map, subst, sym, true}
use Rattle.std.specs.Prelude.{All}
use Rattle.std.proofs.lemmas.List.{map-append}
use Rattle.std.proofs.lemmas.List.Elements.{All-cons, All-head, All-nil, All-tail}
use Rattle.std.specs.Option.{option_and_then}
use Rattle.block_trait.specs.Renderers.{Marking}
use Rattle.layout_values.specs.Sizing.{Sizing}
use Rattle.text_pieces.specs.declared.white_space.WhiteSpace.TheVariants.{Normal}
use Rattle.render_values.specs.declared.info.Head.{Head}
use Rattle.render_values.specs.declared.style.RenderStyle.{RenderStyle}
use Rattle.layout_state.specs.Begins.{begins, ends, following, leading}
use Rattle.layout_values.specs.Lay.{Content, holds, placed, shown, styled}
use Rattle.layout_state.specs.LayoutState.{LayoutState, Step, in_turn}
use Rattle.layout_values.specs.Seen.{maybe, where_entered}
use Rattle.layout_values.specs.Continuation.{Continuation, unwound}
use Rattle.layout_state.specs.declared.around.Around.{Around}
use Rattle.layout_state.proofs.StepLemmas.{turn_off, turn_on}
use Rattle.layout_values.proofs.StepLemmas.{opens_both}

-- ---- lists

pub maybe_all : {X : Type 0} (P : X → Type 0) (o : Option X) → IfSome o P → All P (maybe o)
maybe_all P None h = All-nil P
maybe_all P (Some x) h = All-cons P x [] h (All-nil P)

pub maybe_few : {X : Type 0} (o : Option X) → length (maybe o) ≤ 1
maybe_few None = omega arith
maybe_few (Some x) = omega arith

pub if_some_at : {X : Type 0} (P : X → Type 0) (o : Option X) (x : X) → o ≡ Some x → IfSome o P → P x
if_some_at P None x is h = absurd (cc is)
if_some_at P (Some y) x is h =
    let same : y ≡ x = cc is in
    subst P same h

pub all_on : {X : Type 0} (P : X → Type 0) (xs ys : List X) → All P xs → All P ys → All P (xs ++ ys)
all_on P [] ys h k = k
all_on P (x ∷ xs) ys h k = All-cons P x (xs ++ ys) (All-head P x xs h) (all_on P xs ys (All-tail P x xs h) k)

pub three_on : {X : Type 0} (old one two new xs ys zs : List X) → one ≡ old ++ xs → two ≡ one ++ ys → new ≡ two ++ zs
    → new ≡ old ++ (xs ++ (ys ++ zs))
three_on old one two new xs ys zs h k l =
    l ∙ (ap (λ v. v ++ zs) (k ∙ ap (λ v. v ++ ys) h)
    ∙ (ap (λ v. v ++ zs) (append_assoc old xs ys)
    ∙ (append_assoc old (xs ++ ys) zs ∙ ap (λ v. old ++ v) (append_assoc xs ys zs))))

pub two_on : {X : Type 0} (old one new xs ys : List X) → one ≡ old ++ xs → new ≡ one ++ ys → new ≡ old ++ (xs ++ ys)
two_on old one new xs ys h k = k ∙ (ap (λ v. v ++ ys) h ∙ append_assoc old xs ys)

-- ---- values

pub no_lead : {H A : Type 0} (m : Marking H A) (head : Head) (c : Content) (inside : Step H A)
    (old : LayoutState H A) → leading m head old ≡ None → shown m head c inside old ≡ None
no_lead m head c inside old h =
    turn_off (leading m head) (in_turn (begins m head.info)
    (in_turn (holds m head.info c (in_turn (following m head) inside)) (ends m head.info))) old h

pub no_begin : {H A : Type 0} (m : Marking H A) (head : Head) (c : Content) (inside : Step H A)
    (old led : LayoutState H A) → leading m head old ≡ Some led → begins m head.info led ≡ None
    → shown m head c inside old ≡ None
no_begin m head c inside old led h k =
    turn_on (leading m head) (in_turn (begins m head.info)
    (in_turn (holds m head.info c (in_turn (following m head) inside)) (ends m head.info))) old led None h
    (turn_off (begins m head.info)
    (in_turn (holds m head.info c (in_turn (following m head) inside)) (ends m head.info)) led k)

pub no_hold : {H A : Type 0} (m : Marking H A) (head : Head) (c : Content) (inside : Step H A)
    (old led begun : LayoutState H A) → leading m head old ≡ Some led → begins m head.info led ≡ Some begun
    → holds m head.info c (in_turn (following m head) inside) begun ≡ None
    → shown m head c inside old ≡ None
no_hold m head c inside old led begun h k never =
    turn_on (leading m head) (in_turn (begins m head.info)
    (in_turn (holds m head.info c (in_turn (following m head) inside)) (ends m head.info))) old led None h
    (turn_on (begins m head.info)
    (in_turn (holds m head.info c (in_turn (following m head) inside)) (ends m head.info)) led begun None k
    (ap (option_and_then (ends m head.info)) never))

pub no_follow : {H A : Type 0} (m : Marking H A) (w : Sizing) (head : Head) (c : Content) (inside : Step H A)
    (old led begun held : LayoutState H A) (parts : List (Continuation H A)) (is_entered : Bool) → is_entered ≡ true
    → leading m head old ≡ Some led → begins m head.info led ≡ Some begun
    → ((x : Step H A) → holds m head.info c x begun
    ≡ option_and_then (unwound m w parts) (where_entered is_entered x held))
    → following m head held ≡ None → shown m head c inside old ≡ None
no_follow m w head c inside old led begun held parts true is h k p never =
    no_hold m head c inside old led begun h k
    (p (in_turn (following m head) inside)
    ∙ ap (λ o. option_and_then (unwound m w parts) (option_and_then inside o)) never)
no_follow m w head c inside old led begun held parts false is h k p never = absurd (cc is)

pub value_opens : {X H A : Type 0} (f : X → Continuation H A) (m : Marking H A) (w : Sizing) (around : Around)
    (style : RenderStyle) (within : Step H A) (xs ys zs : List X) (old one two : LayoutState H A)
    (o : Option (LayoutState H A))
    → ((x : Step H A) → placed m around x old ≡ option_and_then (unwound m w (map f xs)) (x one))
    → ((x : Step H A) → styled m style x one ≡ option_and_then (unwound m w (map f ys)) (x two))
    → within two ≡ option_and_then (unwound m w (map f zs)) o
    → placed m around (styled m style within) old ≡ option_and_then (unwound m w (map f (xs ++ (ys ++ zs)))) o
value_opens f m w around style within xs ys zs old one two o h k l =
    opens_both m w (placed m around) (styled m style within) (map f xs) (map f ys ++ map f zs) old one o h
    (opens_both m w (styled m style) within (map f ys) (map f zs) one two o k l)
    ∙ ap (λ v. option_and_then (unwound m w v) o)
    (ap (λ v. map f xs ++ v) (sym (map-append f ys zs)) ∙ sym (map-append f xs (ys ++ zs)))

pub no_look : {H A : Type 0} (m : Marking H A) (w : Sizing) (around : Around) (style : RenderStyle)
    (inside : Step H A) (xs : List (Continuation H A)) (old one : LayoutState H A)
    → ((x : Step H A) → placed m around x old ≡ option_and_then (unwound m w xs) (x one))
    → styled m style inside one ≡ None → placed m around (styled m style inside) old ≡ None
no_look m w around style inside xs old one h never =
    h (styled m style inside) ∙ ap (option_and_then (unwound m w xs)) never

pub no_shown : {H A : Type 0} (m : Marking H A) (w : Sizing) (around : Around) (style : RenderStyle)
    (inside : Step H A) (xs ys : List (Continuation H A)) (old one two : LayoutState H A)
    → ((x : Step H A) → placed m around x old ≡ option_and_then (unwound m w xs) (x one))
    → ((x : Step H A) → styled m style x one ≡ option_and_then (unwound m w ys) (x two))
    → inside two ≡ None → placed m around (styled m style inside) old ≡ None
no_shown m w around style inside xs ys old one two h k never =
    no_look m w around style inside xs old one h (k inside ∙ ap (option_and_then (unwound m w ys)) never)

-- for what is known of every sizing
pub any_sizing : Sizing
any_sizing = record {
  measure = record {
    min_wrap = 0;
    prefixes = record { heading = λ level. 0; quote = 0; bullet = 0; numbers = λ first items. 0 };
  };
  fitted = None;
  mode = Normal;
}
