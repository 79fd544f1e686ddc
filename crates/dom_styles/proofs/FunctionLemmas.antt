-- What is cascaded is what the cascade gives.
use Rattle.std.proofs.Common.{◌≡◌, ◌∙◌, List, [], ◌∷◌, ◌++◌, refl, sym, ap, subst, append_assoc, append-nil}
use Rattle.std.specs.Prelude.{ℕ, Option, None, Some, is_some, option_map}
use Rattle.dom_styles.specs.Cascade.{IsCascaded, cascade, cascade_from}
use Rattle.dom_styles.specs.Hiding.{is_hidden}
use Rattle.dom_styles.specs.Seen.{IsComputed, holding}
use Rattle.dom_styles.specs.Styles.{declared_at, display_of, of_property}
use Rattle.dom_styles.specs.declared.cascade.Declared.{Declared}
use Rattle.dom_styles.specs.declared.computed.ComputedStyle.{ComputedStyle}
use Rattle.dom_styles.specs.declared.rules.Display.{Display}
use Rattle.dom_styles.specs.declared.rules.StylePlace.TheVariants.{Itself}
use Rattle.dom_styles.specs.declared.rules.StyleRule.{StyleRule}
use Rattle.dom_styles.proofs.CascadeLemmas.{cascades_on, one_holds, updated}

-- what holds of a front, and then the rest, holds of the whole
on_from : {T : Type 0} (front ds : List (Declared T)) (one : Option (Declared T)) → IsCascaded front one
    → IsCascaded (front ++ ds) (cascade_from one ds)
on_from front [] one holds = subst (λ l. IsCascaded l one) (sym (append-nil front)) holds
on_from {T} front (d ∷ ds) one holds =
    subst (λ l. IsCascaded l (cascade_from (updated one d) ds)) (append_assoc front (d ∷ []) ds)
    (on_from (front ++ d ∷ []) ds (updated one d) (cascades_on front one d holds))

pub cascaded_is : {T : Type 0} (ds : List (Declared T)) (one : Option (Declared T)) → IsCascaded ds one
    → one ≡ cascade ds
cascaded_is ds one holds = one_holds ds one (cascade ds) holds (on_from [] ds None refl)

pub cascade_holds : {T : Type 0} (ds : List (Declared T)) → IsCascaded ds (cascade ds)
cascade_holds ds = on_from [] ds None refl

pub given : {A B : Type 0} (f : A → B) (o : Option A) → is_some (option_map f o) ≡ is_some o
given f None = refl
given f (Some x) = refl

pub hidden_is : (name : List ℕ) (rules : List StyleRule) (style : ComputedStyle) → IsComputed name rules style
    → is_some (option_map (λ (d : Declared Display). d.val) (holding style.itself.display)) ≡ is_hidden name rules
hidden_is name rules style computed =
    given (λ (d : Declared Display). d.val) (holding style.itself.display)
    ∙ ap is_some (cascaded_is (of_property display_of (declared_at name Itself rules)) (holding style.itself.display)
    computed.itself.display)
