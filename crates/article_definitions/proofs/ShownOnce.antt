-- The lines of a text show its visible characters once, in order.
use Rattle.std.proofs.Common.{◌≡◌, ◌&&◌, ◌||◌, [], ◌∷◌, ◌++◌, if◌then◌else◌, ◌∙◌, Bool, List, None, Option, Some, ap}
use Rattle.std.proofs.Common.{false, filter, flat_map, nat_lt, not, refl, sym, true, ℕ}
use Rattle.std.proofs.lemmas.List.Elements.{filter-append}
use Rattle.std.specs.List.{list_any}
use Rattle.std.specs.Prelude.{is_some, unwrap_or}
use Rattle.text_lines.specs.Columns.{columns_of, width_of}
use Rattle.text_lines.specs.Tagged.{Item, character, characters, marker}
use Rattle.text_pieces.specs.Items.{has_text}
use Rattle.text_pieces.specs.Sources.{Source, fragment, is_break_point, letter}
use Rattle.text_normal.specs.Letters.{codes_of, is_shown}
use Rattle.text_normal.specs.Riders.{normal_lines}
use Rattle.article_definitions.specs.Showing.{has_visible, is_visible, visible_of}

-- ---- a visible character has a width

by_width : (o : Option ℕ) → nat_lt 0 (unwrap_or o 0) ≡ true → is_some o ≡ true
by_width None h = absurd (let wrong : false ≡ true = h in cc)
by_width (Some n) h = refl

has_width : (c : ℕ) → nat_lt 0 (width_of c) ≡ true → is_some (columns_of c) ≡ true
unfolding width_of
has_width c h = by_width (columns_of c) h

both : (a b d : Bool) → (b ≡ true → d ≡ true) → (a && b) ≡ true → (a && d) ≡ true
both true b d f h = f h
both false b d f h = absurd (let wrong : false ≡ true = h in cc)

visible_is_shown : (c : ℕ) → is_visible c ≡ true → is_shown c ≡ true
visible_is_shown c h = both (not (is_break_point c)) (nat_lt 0 (width_of c)) (is_some (columns_of c)) (has_width c) h

visible_step : (c : ℕ) (cs : List ℕ) (s v : Bool) → is_shown c ≡ s → is_visible c ≡ v →
    filter is_visible (filter is_shown cs) ≡ filter is_visible cs →
    filter is_visible (filter is_shown (c ∷ cs)) ≡ filter is_visible (c ∷ cs)
visible_step c cs true true e f h = rw e (rw f (ap (λ l. c ∷ l) h))
visible_step c cs true false e f h = rw e (rw f h)
visible_step c cs false true e f h = absurd (let wrong : false ≡ true = sym e ∙ visible_is_shown c f in cc)
visible_step c cs false false e f h = rw e (rw f h)

visible_of_shown : (cs : List ℕ) → filter is_visible (filter is_shown cs) ≡ filter is_visible cs
visible_of_shown [] = refl
visible_of_shown (c ∷ cs) = visible_step c cs (is_shown c) (is_visible c) refl refl (visible_of_shown cs)

lines_visible : {S : Type 0} (lines : List (List (Item S))) →
    flat_map (visible_of {S = S}) lines ≡ filter is_visible (flat_map (characters {S = S}) lines)
lines_visible [] = refl
lines_visible (line ∷ lines) =
    ap (λ t. filter is_visible (characters line) ++ t) (lines_visible lines)
    ∙ sym (filter-append is_visible (characters line) (flat_map (characters {S = _}) lines))

-- the law of normal text, of a text
abbrev pub ShowsEach : {S : Type 0} → ℕ → List (Source S) → Type 0
ShowsEach w s = filter is_shown (flat_map (characters {S = _}) (normal_lines w s)) ≡ filter is_shown (codes_of s)

pub shown_once : {S : Type 0} (w : ℕ) (s : List (Source S)) → ShowsEach w s →
    flat_map (visible_of {S = S}) (normal_lines w s) ≡ filter is_visible (codes_of s)
shown_once w s each = lines_visible (normal_lines w s)
    ∙ sym (visible_of_shown (flat_map (characters {S = _}) (normal_lines w s)))
    ∙ ap (filter is_visible) each ∙ visible_of_shown (codes_of s)

-- ---- so a text with a visible character has a line with text

none_shown : {S : Type 0} (lines : List (List (Item S))) → list_any has_text lines ≡ false →
    flat_map (visible_of {S = S}) lines ≡ []
none_shown [] h = refl
none_shown (line ∷ lines) h =
    let parts = or_false (has_text line) (list_any has_text lines) h in
    ap (λ t. t ++ flat_map (visible_of {S = _}) lines) (ap (filter is_visible) (no_text line parts.0)) ∙
    none_shown lines parts.1
  where
    or_false : (a b : Bool) → (a || b) ≡ false → (a ≡ false) × (b ≡ false)
    or_false true b h = absurd (let wrong : true ≡ false = h in cc)
    or_false false b h = (refl, h)

    no_text : {S : Type 0} (line : List (Item S)) → has_text line ≡ false → characters line ≡ []
    no_text [] h = refl
    no_text (character c tag ∷ rest) h = absurd (let wrong : true ≡ false = h in cc)
    no_text (marker name ∷ rest) h = no_text rest h

is_some_visible : {S : Type 0} (s : List (Source S)) → has_visible s ≡ true → filter is_visible (codes_of s) ≡ [] → ⊥
is_some_visible [] h e = let wrong : false ≡ true = h in cc
is_some_visible (letter c a b ∷ s) h e = by (is_visible c) h e (is_some_visible s)
  where
    by : (v : Bool) → (v || has_visible s) ≡ true →
        (if v then c ∷ filter is_visible (codes_of s) else filter is_visible (codes_of s)) ≡ [] →
        (has_visible s ≡ true → filter is_visible (codes_of s) ≡ [] → ⊥) → ⊥
    by true h e k = cc
    by false h e k = k h e
is_some_visible (fragment name ∷ s) h e = is_some_visible s h e

pub shows_text : {S : Type 0} (w : ℕ) (s : List (Source S)) → ShowsEach w s → has_visible s ≡ true →
    list_any has_text (normal_lines w s) ≡ true
shows_text w s each h = by (list_any has_text (normal_lines w s)) refl
  where
    by : (b : Bool) → list_any has_text (normal_lines w s) ≡ b → list_any has_text (normal_lines w s) ≡ true
    by true e = e
    by false e = absurd (is_some_visible s h (sym (shown_once w s each) ∙ none_shown (normal_lines w s) e))
