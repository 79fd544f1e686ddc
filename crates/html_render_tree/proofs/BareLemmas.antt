-- A page whose renderers keep no annotations is that of renderers that keep them, but for these.
use Rattle.std.proofs.Common.{◌≡◌, [], ◌∷◌, ◌++◌, ◌∙◌, ◌⊎◌, List, None, Option, Some, ap, false, inl, inr, map, refl}
use Rattle.std.proofs.Common.{subst, sym, ℕ}
use Rattle.std.specs.Option.{option_and_then, option_map}
use Rattle.block_renderer.specs.Footnotes.{add_footnotes}
use Rattle.block_trait.specs.Bare.{bare_of, no_tag}
use Rattle.block_trait.specs.Calls.{Call, call_of, starts_block, step}
use Rattle.block_trait.specs.Renderers.{Marking, Sub, lines_of_sub, new_sub, with_block_started, with_held}
use Rattle.block_trait.specs.Texts.{text_of_lines}
use Rattle.text_lines.specs.Tagged.{Item, characters}
use Rattle.text_borders.specs.Lines.{BlockLine, line_shown}
use Rattle.text_borders.specs.Retagged.{reline}
use Rattle.text_decorators.specs.Marks.{page_end, seen_lines}
use Rattle.render_values.specs.Values.{Values}
use Rattle.layout_laws.specs.BareLaws.{AreLaidBare, bare_parts}
use Rattle.text_block_renderer.specs.Parts.{Parts, whole_page}
use Rattle.html_render_tree.specs.PageLines.{Setting, closed_page, laid_as, laid_page, lines_text, noted, page_lines}
use Rattle.html_render_tree.specs.PageLines.{page_text, renderer_lines, with_notes, with_targets}
use Rattle.html_render_tree.proofs.OptionLemmas.{bound_as, none_bound, none_mapped, some_mapped}

-- what the crates below say of renderers that keep no annotations
pub record BareLaws {H A : Type 0} (m : Marking H A) : Type 0 where
  pub does : (c : Call (Sub H A)) (s : Sub H A) → step m (call_of bare_of c) (bare_of s)
      ≡ option_map bare_of (step m c s)
  pub notes : (notes : List (List (Item A))) (s : Sub H A)
      → option_map bare_of (add_footnotes notes (bare_of s)) ≡ option_map bare_of (add_footnotes notes s)
  pub bare : (s : Sub H A) → bare_of (bare_of s) ≡ bare_of s
  pub laid : AreLaidBare m

after_block : {H A : Type 0} {m : Marking H A} (laws : BareLaws m) (notes : List (List (Item A)))
    (o : Option (Sub H A)) → option_map bare_of (option_and_then (add_footnotes notes) (option_map bare_of o))
    ≡ option_map bare_of (option_and_then (add_footnotes notes) o)
after_block laws notes None = refl
after_block laws notes (Some s) = laws.notes notes s

notes_alike : {H A : Type 0} {m : Marking H A} (laws : BareLaws m) (notes : List (List (Item A))) (s : Sub H A)
    → option_map bare_of (with_notes notes (bare_of s)) ≡ option_map bare_of (with_notes notes s)
notes_alike laws [] s = ap Some (laws.bare s)
notes_alike laws (note ∷ notes) s =
    ap (λ o. option_map bare_of (option_and_then (add_footnotes (note ∷ notes)) o)) (laws.does starts_block s)
    ∙ after_block laws (note ∷ notes) (with_block_started s)

-- the values laid out without annotations
laid_before : {H A : Type 0} {m : Marking H A} (laws : BareLaws m) (c : Setting H) (width : ℕ) (values : Values)
    (q : Parts H A) → laid_as false m c width values ≡ Some q
    → (p : Parts H A) × ((laid_page m c width values ≡ Some p) × (bare_parts p ≡ q))
laid_before {m = m} laws c width values q is =
    some_mapped bare_parts (laid_page m c width values) q
    (sym (laws.laid _ values (whole_page (new_sub width c.options c.held []))) ∙ is)

pub never_laid : {T H A : Type 0} {m : Marking H A} (laws : BareLaws m) (seen : T → A)
    (closes : H → List (List ℕ) → List (List (Item T))) (c : Setting H) (width : ℕ) (values : Values)
    → laid_as false m c width values ≡ None → closed_page m seen closes c width values ≡ None
never_laid {m = m} laws seen closes c width values is =
    none_bound (λ p. with_targets m seen closes (noted p) p.current) (laid_page m c width values)
    (none_mapped bare_parts (laid_page m c width values)
    (sym (laws.laid _ values (whole_page (new_sub width c.options c.held []))) ∙ is))

pub or_else : {X Y Z : Type 0} → (Y → Z) → X ⊎ Y → X ⊎ Z
or_else f (inl x) = inl x
or_else f (inr y) = inr (f y)

-- with what its decorator makes of the targets
targets_alike : {T H A : Type 0} {m : Marking H A} (laws : BareLaws m) (seen : T → A)
    (closes : H → List (List ℕ) → List (List (Item T))) (targets : List (List ℕ)) (s : Sub H A)
    → option_map bare_of (with_targets m seen closes targets (bare_of s))
    ≡ option_map bare_of (with_targets m seen closes targets s)
targets_alike {m = m} laws seen closes targets s =
    notes_alike laws (seen_lines seen (closes s.held targets)) (with_held (m.after s.held (page_end targets)) s)

pub closed_alike : {T H A : Type 0} {m : Marking H A} (laws : BareLaws m) (seen : T → A)
    (closes : H → List (List ℕ) → List (List (Item T))) (c : Setting H) (width : ℕ) (values : Values)
    (q : Parts H A) (out : Option (Sub H A)) → laid_as false m c width values ≡ Some q
    → with_targets m seen closes (noted q) q.current ≡ out
    → option_map bare_of (closed_page m seen closes c width values) ≡ option_map bare_of out
closed_alike {m = m} laws seen closes c width values q out is ended =
    let found = laid_before laws c width values q is in
    let p : Parts _ _ = found.0 in
    ap (λ o. option_map bare_of (option_and_then (λ p. with_targets m seen closes (noted p) p.current) o)) found.1.0
    ∙ (sym (targets_alike laws seen closes (noted p) p.current)
    ∙ ap (option_map bare_of)
    (subst (λ (x : Parts _ _). with_targets m seen closes (noted x) x.current ≡ out) (sym found.1.1) ended))

pub never_alike : {T H A : Type 0} {m : Marking H A} (laws : BareLaws m) (seen : T → A)
    (closes : H → List (List ℕ) → List (List (Item T))) (c : Setting H) (width : ℕ) (values : Values)
    (q : Parts H A) → laid_as false m c width values ≡ Some q
    → with_targets m seen closes (noted q) q.current ≡ None → closed_page m seen closes c width values ≡ None
never_alike {m = m} laws seen closes c width values q is never =
    none_mapped bare_of (closed_page m seen closes c width values)
    (closed_alike laws seen closes c width values q None is never)

-- ---- its text

-- what the crate below says of the lines of a renderer without annotations
pub record TextLaws (H A : Type 0) : Type 0 where
  pub lines : (s : Sub H A) → lines_of_sub (bare_of s) ≡ option_map (map (reline no_tag)) (lines_of_sub s)
  pub text : (s : Sub H A) → option_map text_of_lines (lines_of_sub (bare_of s))
      ≡ option_map text_of_lines (lines_of_sub s)

text_alike : {H A : Type 0} (laws : TextLaws H A) (s t : Sub H A) → bare_of s ≡ bare_of t
    → option_map text_of_lines (lines_of_sub t) ≡ option_map text_of_lines (lines_of_sub s)
text_alike laws s t same =
    sym (laws.text t) ∙ ap (λ b. option_map text_of_lines (lines_of_sub b)) (sym same) ∙ laws.text s

shown_text : {S : Type 0} (blocks : List (BlockLine S)) → text_of_lines blocks ≡ lines_text (map line_shown blocks)
shown_text [] = refl
shown_text (block ∷ blocks) = ap (λ text. (characters (line_shown block) ++ 0xA ∷ []) ++ text) (shown_text blocks)

texts_shown : {S : Type 0} (o : Option (List (BlockLine S)))
    → option_map lines_text (option_map (map line_shown) o) ≡ option_map text_of_lines o
texts_shown None = refl
texts_shown (Some blocks) = ap Some (sym (shown_text blocks))

-- lines of a renderer have its text
pub text_shown : {H A : Type 0} (s : Sub H A) (lines : List (List (Item (List A)))) → renderer_lines s ≡ Some lines
    → option_map text_of_lines (lines_of_sub s) ≡ Some (lines_text lines)
text_shown s lines shown = sym (texts_shown (lines_of_sub s)) ∙ ap (option_map lines_text) shown

pub printed_alike : {T H A : Type 0} (m : Marking H A) (laws : TextLaws H A) (seen : T → A)
    (closes : H → List (List ℕ) → List (List (Item T))) (c : Setting H) (width : ℕ) (values : Values)
    (s : Sub H A) (text : List ℕ) → option_map bare_of (closed_page m seen closes c width values) ≡ Some (bare_of s)
    → option_map text_of_lines (lines_of_sub s) ≡ Some text → page_text m seen closes c width values ≡ Some text
printed_alike m laws seen closes c width values s text closed given =
    let found = some_mapped bare_of (closed_page m seen closes c width values) (bare_of s) closed in
    ap (λ o. option_map lines_text (option_and_then renderer_lines o)) found.1.0
    ∙ (texts_shown (lines_of_sub found.0) ∙ (text_alike laws s found.0 (sym found.1.1) ∙ given))

pub lines_missing : {T H A : Type 0} (m : Marking H A) (laws : TextLaws H A) (seen : T → A)
    (closes : H → List (List ℕ) → List (List (Item T))) (c : Setting H) (width : ℕ) (values : Values)
    (s : Sub H A) → option_map bare_of (closed_page m seen closes c width values) ≡ Some (bare_of s)
    → lines_of_sub s ≡ None → page_lines m seen closes c width values ≡ None
lines_missing m laws seen closes c width values s closed never =
    let found = some_mapped bare_of (closed_page m seen closes c width values) (bare_of s) closed in
    let none : lines_of_sub found.0 ≡ None = none_mapped (map (reline no_tag)) (lines_of_sub found.0)
    (sym (laws.lines found.0) ∙ (ap (λ b. lines_of_sub b) found.1.1 ∙ (laws.lines s
    ∙ ap (option_map (map (reline no_tag))) never))) in
    bound_as renderer_lines (closed_page m seen closes c width values) found.0 None found.1.0
    (ap (option_map (map line_shown)) none)
