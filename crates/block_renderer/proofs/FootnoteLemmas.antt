-- Lines after a page.
use Rattle.std.specs.Prelude.{◌≡◌, ℕ, Bool, true, false, List, [], ◌∷◌, Option, None, Some, refl, if◌then◌else◌}
use Rattle.std.specs.Option.{option_map}
use Rattle.std.proofs.Common.{sym, ap, ◌∙◌, fold}
use Rattle.text_lines.specs.Tagged.{Item}
use Rattle.text_footnotes.specs.Footnotes.{footnote_lines}
use Rattle.text_footnotes.specs.Cuts.{lines_within}
use Rattle.block_layout.specs.Laid.{Laid}
use Rattle.block_trait.specs.Renderers.{Sub, with_laid, on_laid}
use Rattle.block_renderer.specs.Footnotes.{add_footnote, with_footnote}

some_same : {A : Type 0} (x y : A) → Some x ≡ Some y → x ≡ y
some_same x y e = cc

put_all : {H A : Type 0} (s : Sub H A) (b : Laid (List A)) (lines : List (List (Item A)))
    → fold with_footnote (with_laid s b) lines ≡ with_laid s (fold (add_footnote s) b lines)
put_all s b [] = refl
put_all s b (items ∷ lines) = put_all s (add_footnote s b items) lines

-- after a flush that is done, the lines are added
pub footnotes_done : {H A : Type 0} (o : Option (Laid (List A))) (s mid new : Sub H A) (lines : List (List (Item A)))
    → on_laid s o ≡ Some mid → new ≡ fold with_footnote mid lines
    → on_laid s (option_map (λ b. fold (add_footnote s) b lines) o) ≡ Some new
footnotes_done None s mid new lines flushed put = cc
footnotes_done (Some b) s mid new lines flushed put =
    ap (λ r. Some r) (sym (put ∙ ap (λ m. fold with_footnote m lines) (sym (some_same (with_laid s b) mid flushed))
    ∙ put_all s b lines))

pub footnotes_narrow : {H A : Type 0} (o : Option (Laid (List A))) (s : Sub H A) (lines : List (List (Item A)))
    → on_laid s o ≡ None → on_laid s (option_map (λ b. fold (add_footnote s) b lines) o) ≡ None
footnotes_narrow None s lines e = refl
footnotes_narrow (Some b) s lines e = cc

pub lines_within_width : {A : Type 0} (wraps : Bool) (width : ℕ) (items : List (Item A))
    → lines_within (if wraps then Some width else None) items ≡ footnote_lines wraps width items
lines_within_width true width items = refl
lines_within_width false width items = refl
