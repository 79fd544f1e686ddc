-- Text that is added under what stands.
use Rattle.std.specs.Prelude.{◌≡◌, ◌⊎◌, ◌&&◌, [], ◌∷◌, ◌++◌, if◌then◌else◌, Bool, List, Option, Some, false, map}
use Rattle.std.specs.Prelude.{nat_lt, not, refl, true, ℕ}
use Rattle.std.specs.Char.{is_whitespace}
use Rattle.std.specs.List.{list_all}
use Rattle.std.specs.Option.{option_and_then}
use Rattle.std.proofs.Common.{inl, inr, sym, ap, ◌∙◌}
use Rattle.std.proofs.lemmas.List.{map-append}
use Rattle.text_decorators.specs.Marks.{preformat_first, preformat_further}
use Rattle.text_pieces.specs.Modes.{is_preserved}
use Rattle.text_pieces.specs.declared.white_space.WhiteSpace.{WhiteSpace}
use Rattle.block_layout.specs.declared.measure.Measure.{Measure}
use Rattle.block_layout.specs.Laid.{Laid, is_ignored, start_awaited, start_block, add_text}
use Rattle.block_layout.specs.LaidRows.{before_last}
use Rattle.block_trait.specs.Renderers.{Marking, Sub, add_inline, measure_of, mode_of, on_laid, one_under}
use Rattle.block_trait.specs.Renderers.{preformatted_added, struck, struck_text, tagged_added, text_added, with_laid}

other_branch : {B : Type 0} (b : Bool) (x y : B) → b ≡ false → (if b then x else y) ≡ y
other_branch true x y e = cc
other_branch false x y e = refl

-- a text that isn't ignored, after a block that may have been started
pub inline_is : {H A : Type 0} (m : Marking H A) (cs : List ℕ) (s : Sub H A) (mode : WhiteSpace) (measure : Measure)
    (laid : Laid (List A)) (b : Bool) (o : Option (Sub H A)) → mode ≡ mode_of s → measure ≡ measure_of s
    → b ≡ is_ignored mode cs s.laid → b ≡ false → start_awaited measure s.annotations s.laid ≡ Some laid
    → on_laid (with_laid s laid) (text_added m cs (with_laid s laid) laid) ≡ o → add_inline m cs s ≡ o
inline_is m cs s mode measure laid b o e f test stays started added =
    other_branch (is_ignored (mode_of s) cs s.laid) (Some s)
    (on_laid s (option_and_then (text_added m cs s) (start_awaited (measure_of s) s.annotations s.laid)))
    (sym (test ∙ ap (λ k. is_ignored k cs s.laid) e) ∙ stays)
    ∙ ap (λ o. on_laid s (option_and_then (text_added m cs s) o))
    (sym (ap (λ k. start_awaited k s.annotations s.laid) f) ∙ started)
    ∙ added

same_branch : {B : Type 0} (b : Bool) (x : B) → (if b then x else x) ≡ x
same_branch true x = refl
same_branch false x = refl

unstruck : {H A : Type 0} (s : Sub H A) (cs : List ℕ)
    → (s.options.use_unicode_strikeout ≡ false) ⊎ (s.strikeouts ≡ 0) → struck_text s cs ≡ cs
unstruck s cs (inl off) = other_branch s.options.use_unicode_strikeout (struck s.strikeouts cs) cs off
unstruck s cs (inr none) =
    ap (λ n. if s.options.use_unicode_strikeout then struck n cs else cs) none
    ∙ same_branch s.options.use_unicode_strikeout cs

-- a text that goes on what runs, as it is
pub more_is : {H A : Type 0} (m : Marking H A) (cs : List ℕ) (s : Sub H A) (mode : WhiteSpace) (laid : Laid (List A))
    → mode ≡ mode_of s → s.preformats ≡ 0 → (s.options.use_unicode_strikeout ≡ false) ⊎ (s.strikeouts ≡ 0)
    → s.laid.awaits ≡ false → ((measure : Measure) (tag : List A)
    → add_text measure tag mode cs s.annotations s.annotations s.laid ≡ Some laid)
    → add_inline m cs s ≡ Some (with_laid s laid)
more_is m cs s mode laid is plain even stays added =
    other_branch (is_ignored (mode_of s) cs s.laid) (Some s)
    (on_laid s (option_and_then (text_added m cs s) (start_awaited (measure_of s) s.annotations s.laid)))
    (ap (λ b. b && (not (is_preserved (mode_of s)) && list_all is_whitespace cs)) stays)
    ∙ ap (λ b. on_laid s (option_and_then (text_added m cs s)
    (if b then start_block (measure_of s) s.annotations s.laid else Some s.laid))) stays
    ∙ ap (λ ds. on_laid s (tagged_added m ds s s.laid)) (unstruck s cs even)
    ∙ ap (λ n. on_laid s (if nat_lt 0 n then preformatted_added m cs s s.laid
    else add_text (measure_of s) s.annotations (mode_of s) cs s.annotations s.annotations s.laid)) plain
    ∙ ap (λ k. on_laid s (add_text (measure_of s) s.annotations k cs s.annotations s.annotations s.laid)) (sym is)
    ∙ ap (on_laid s) (added (measure_of s) s.annotations)

-- an empty text needs no tags
pub empty_is : {H A : Type 0} (m : Marking H A) (cs : List ℕ) (s : Sub H A) (measure : Measure) (laid : Laid (List A))
    → cs ≡ [] → measure ≡ measure_of s
    → ((mode : WhiteSpace) (main further : List A) → add_text measure s.annotations mode [] main further s.laid
    ≡ Some laid) → on_laid s (preformatted_added m cs s s.laid) ≡ Some (with_laid s laid)
empty_is m cs s measure laid none is added =
    let main = one_under (m.mark_tag s.held preformat_first) s in
    let further = one_under (m.mark_tag s.held preformat_further) s in
    ap (λ ds. on_laid s (preformatted_added m ds s s.laid)) none
    ∙ ap (λ k. on_laid s (add_text k s.annotations (mode_of s) [] main further s.laid)) (sym is)
    ∙ ap (on_laid s) (added (mode_of s) main further)

pub empty_plain : {H A : Type 0} (m : Marking H A) (cs : List ℕ) (s : Sub H A) (measure : Measure)
    (laid : Laid (List A)) → cs ≡ [] → measure ≡ measure_of s → nat_lt 0 s.preformats ≡ false
    → ((mode : WhiteSpace) (main further : List A) → add_text measure s.annotations mode [] main further s.laid
    ≡ Some laid) → on_laid s (tagged_added m cs s s.laid) ≡ Some (with_laid s laid)
empty_plain m cs s measure laid none is plain added =
    ap (on_laid s) (other_branch (nat_lt 0 s.preformats) (preformatted_added m cs s s.laid)
    (add_text (measure_of s) s.annotations (mode_of s) cs s.annotations s.annotations s.laid) plain
    ∙ ap (λ ds. add_text (measure_of s) s.annotations (mode_of s) ds s.annotations s.annotations s.laid) none
    ∙ ap (λ k. add_text k s.annotations (mode_of s) [] s.annotations s.annotations s.laid) (sym is)
    ∙ added (mode_of s) s.annotations s.annotations)

-- one more
pub mapped_more : {T A : Type 0} (f : T → A) (old new : List T) (x : T) → new ≡ old ++ x ∷ []
    → map f old ++ f x ∷ [] ≡ map f new
mapped_more f old new x e = sym (ap (map f) e ∙ map-append f old (x ∷ []))

pub mapped_off : {A B : Type 0} (f : A → B) (xs : List A) → map f (before_last xs) ≡ before_last (map f xs)
mapped_off f [] = refl
mapped_off f (x ∷ []) = refl
mapped_off f (x ∷ y ∷ xs) = ap (λ ys. f x ∷ ys) (mapped_off f (y ∷ xs))
