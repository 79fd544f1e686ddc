-- Lines of a page, and those after it, stay within its width, or have room.
use Rattle.std.proofs.Common.{◌≡◌, ◌≤◌, [], ◌∷◌, ◌∙◌, ◌<◌, ◌⊎◌, IfSome, List, None, Some, ap, arith, inl, inr, map}
use Rattle.std.proofs.Common.{refl, subst, sym, true, ℕ}
use Rattle.std.specs.Prelude.{All, IsSome, IsSomeAnd, ⊤}
use Rattle.std.specs.Option.{option_and_then}
use Rattle.std.proofs.lemmas.List.Elements.{All-map}
use Rattle.std.proofs.lemmas.Option.{MatchOption-at_some}
use Rattle.block_layout_laws.proofs.OptionLemmas.{chained, given_chained, known}
use Rattle.block_renderer.specs.Footnotes.{add_footnotes}
use Rattle.block_trait.specs.Calls.{Call, starts_block, step}
use Rattle.block_trait.specs.Renderers.{Marking, Sub, lines_of_sub, new_sub, with_block_started, with_held}
use Rattle.block_laws.specs.RendererLaws.{CallFits, HasRoom, IsKeptWithin, StaysWithin}
use Rattle.text_lines.specs.Tagged.{Item, line_columns}
use Rattle.text_block_renderer.specs.PartLaws.{HaveRoom, PartsStayWithin}
use Rattle.text_block_renderer.specs.Parts.{Parts, whole_page}
use Rattle.text_borders.specs.Lines.{BlockLine, line_shown}
use Rattle.text_decorators.specs.Marks.{page_end, seen_lines}
use Rattle.render_values.specs.Values.{Values}
use Rattle.html_render_tree.specs.PageLaws.{AreWithin}
use Rattle.html_render_tree.specs.PageLines.{Setting, closed_page, laid_page, noted, page_lines, renderer_lines}
use Rattle.html_render_tree.specs.PageLines.{with_notes, with_targets}
use Rattle.html_render_tree.proofs.OptionLemmas.{none_mapped, some_bound, some_mapped, some_with}

-- ---- within the width

-- what the crates below say of this page
pub record PageWidths {H A : Type 0} (m : Marking H A) (c : Setting H) (width : ℕ) (values : Values) : Type 0 where
  pub stays : (p : Parts H A) → laid_page m c width values ≡ Some p
      → PartsStayWithin (whole_page (new_sub width c.options c.held [])) p
  pub does : (call : Call (Sub H A)) (s new : Sub H A) → IsKeptWithin s → CallFits call s → step m call s ≡ Some new
      → StaysWithin s new
  pub footnotes : (lines : List (List (Item A))) (s new : Sub H A) → IsKeptWithin s → s.options.wrap_links ≡ true
      → 2 ≤ s.width → add_footnotes lines s ≡ Some new → StaysWithin s new
  pub lines : (s : Sub H A) (lines : List (BlockLine (List A))) → IsKeptWithin s → lines_of_sub s ≡ Some lines
      → All (λ l. line_columns (line_shown l) ≤ s.width) lines

notes_stay : {H A : Type 0} {m : Marking H A} {c : Setting H} {width : ℕ} {values : Values}
    (laws : PageWidths m c width values) (notes : List (List (Item A))) (s : Sub H A) → IsKeptWithin s
    → s.options.wrap_links ≡ true → 2 ≤ s.width → IfSome (with_notes notes s) (StaysWithin s)
notes_stay laws [] s kept wraps wide = (kept, (refl, refl))
notes_stay laws (note ∷ notes) s kept wraps wide =
    chained (StaysWithin s) (StaysWithin s) (add_footnotes (note ∷ notes)) (with_block_started s)
    (λ t begun. known (StaysWithin s) (add_footnotes (note ∷ notes) t) (λ u is.
    let inside = laws.footnotes (note ∷ notes) t u begun.0 (ap (λ o. o.wrap_links) begun.1.1 ∙ wraps)
    (subst (λ n. 2 ≤ n) (sym begun.1.0) wide) is in
    (inside.0, (inside.1.0 ∙ begun.1.0, inside.1.1 ∙ begun.1.1))))
    (known (StaysWithin s) (with_block_started s) (λ t is. laws.does starts_block s t kept tt is))

shown_within : {A : Type 0} (width most : ℕ) (blocks : List (BlockLine (List A))) (lines : List (List (Item (List A))))
    → lines ≡ map line_shown blocks → width ≡ most → All (λ l. line_columns (line_shown l) ≤ width) blocks
    → AreWithin most lines
shown_within {A} width most blocks lines is same all =
    subst (AreWithin most) (sym is) (subst (λ n. AreWithin n (map line_shown blocks)) same
    (All-map (λ (line : List (Item (List A))). line_columns line ≤ width) line_shown blocks all))

pub lines_within : {T H A : Type 0} (m : Marking H A) (seen : T → A)
    (closes : H → List (List ℕ) → List (List (Item T))) (c : Setting H) (width : ℕ) (values : Values)
    (lines : List (List (Item (List A)))) → PageWidths m c width values → c.options.wrap_links ≡ true → 2 ≤ width
    → page_lines m seen closes c width values ≡ Some lines → AreWithin width lines
lines_within {H = H} {A = A} m seen closes c width values lines laws wraps wide is =
    let shown = some_bound renderer_lines (closed_page m seen closes c width values) lines is in
    let whole : Sub H A = shown.0 in
    let closed = some_bound (λ p. with_targets m seen closes (noted p) p.current) (laid_page m c width values) whole
    shown.1.0 in
    let p : Parts H A = closed.0 in
    let given = some_mapped (map line_shown) (lines_of_sub whole) lines shown.1.1 in
    let stays = laws.stays p closed.1.0 in
    let s : Sub H A = with_held (m.after p.current.held (page_end (noted p))) p.current in
    let noted_within : StaysWithin s whole = MatchOption-at_some ⊤ (StaysWithin s) whole closed.1.1
    (notes_stay laws (seen_lines seen (closes p.current.held (noted p))) s stays.current.0
    (ap (λ o. o.wrap_links) stays.current.1.1 ∙ wraps) (subst (λ n. 2 ≤ n) (sym stays.current.1.0) wide)) in
    shown_within whole.width width given.0 lines (sym given.1.1) (noted_within.1.0 ∙ stays.current.1.0)
    (laws.lines whole given.0 noted_within.0 given.1.0)

-- ---- with room

pub record PageRooms {H A : Type 0} (m : Marking H A) (c : Setting H) (width : ℕ) (values : Values) : Type 0 where
  pub laid : IsSomeAnd (laid_page m c width values) HaveRoom
  pub starts : (s : Sub H A) → HasRoom s → IsSomeAnd (with_block_started s) HasRoom
  pub footnotes : (lines : List (List (Item A))) (s : Sub H A) → HasRoom s → IsSomeAnd (add_footnotes lines s) HasRoom
  pub lines : (s : Sub H A) → HasRoom s → IsSome (lines_of_sub s)

notes_have_room : {H A : Type 0} {m : Marking H A} {c : Setting H} {width : ℕ} {values : Values}
    (laws : PageRooms m c width values) (notes : List (List (Item A))) (s : Sub H A) → HasRoom s
    → IsSomeAnd (with_notes notes s) HasRoom
notes_have_room laws [] s room = room
notes_have_room laws (note ∷ notes) s room = given_chained HasRoom HasRoom (add_footnotes (note ∷ notes))
    (with_block_started s) (laws.footnotes (note ∷ notes)) (laws.starts s room)

closed_has_room : {T H A : Type 0} (m : Marking H A) (seen : T → A)
    (closes : H → List (List ℕ) → List (List (Item T))) (c : Setting H) (width : ℕ) (values : Values)
    → PageRooms m c width values → IsSomeAnd (closed_page m seen closes c width values) HasRoom
closed_has_room m seen closes c width values laws =
    given_chained HaveRoom HasRoom (λ p. with_targets m seen closes (noted p) p.current) (laid_page m c width values)
    (λ p room. notes_have_room laws (seen_lines seen (closes p.current.held (noted p))) _ room.current) laws.laid

pub never_narrow : {T H A : Type 0} (m : Marking H A) (seen : T → A)
    (closes : H → List (List ℕ) → List (List (Item T))) (c : Setting H) (width : ℕ) (values : Values)
    → PageRooms m c width values → page_lines m seen closes c width values ≡ None → ⊥
never_narrow m seen closes c width values laws none =
    let found = some_with HasRoom (closed_page m seen closes c width values)
    (closed_has_room m seen closes c width values laws) in
    let never : lines_of_sub found.0 ≡ None = none_mapped (map line_shown) (lines_of_sub found.0)
    (sym (ap (option_and_then renderer_lines) found.1.0) ∙ none) in
    absurd (cc (laws.lines found.0 found.1.1, never))

-- what a refusal says, where the width is some
pub never_so_narrow : (P : Type 0) (width : ℕ) → (P → ⊥) → 0 < width → (width ≡ 0) ⊎ P → ⊥
never_so_narrow P width never wide (inl none) = absurd (omega (arith, wide, none))
never_so_narrow P width never wide (inr narrow) = never narrow
