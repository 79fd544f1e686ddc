-- Texts that show something.
use Rattle.std.specs.Prelude.{◌≡◌, ℕ, Bool, true, false, ◌||◌, List, [], ◌∷◌, ◌++◌, refl}
use Rattle.std.specs.List.{list_any}
use Rattle.text_pieces.specs.Sources.{Source, letter, fragment, sourced, sources_of, piece_sources}
use Rattle.text_pieces.specs.declared.piece.Piece.{Piece}
use Rattle.text_wrapping.specs.Blocks.{is_visible, has_visible}
use Rattle.std.proofs.Common.{ap, ◌∙◌}

either : (x a b r : Bool) → r ≡ (a || b) → (x || r) ≡ ((x || a) || b)
either true a b r e = refl
either false a b r e = e

-- what is after a text shows too
pub shows_after : {S : Type 0} (front back : List (Source S))
    → has_visible (front ++ back) ≡ (has_visible front || has_visible back)
shows_after [] back = refl
shows_after (letter c main further ∷ front) back =
    either (is_visible c) (has_visible front) (has_visible back) (has_visible (front ++ back)) (shows_after front back)
shows_after (fragment name ∷ front) back = shows_after front back

pub shows_text : {S : Type 0} (cs : List ℕ) (main further : S)
    → list_any is_visible cs ≡ has_visible (sourced cs main further)
shows_text [] main further = refl
shows_text (c ∷ cs) main further = ap (λ b. is_visible c || b) (shows_text cs main further)

hides : (a b : Bool) → a ≡ false → (a || b) ≡ b
hides true b e = cc
hides false b e = refl

shown : (a b : Bool) → a ≡ true → (a || b) ≡ true
shown true b e = refl
shown false b e = cc

-- a piece that shows nothing
pub hidden_front : {T S : Type 0} (seen : T → S) (piece : Piece T) (rest : List (Piece T))
    → has_visible (piece_sources seen piece) ≡ false
    → has_visible (sources_of seen (piece ∷ rest)) ≡ has_visible (sources_of seen rest)
hidden_front seen piece rest e =
    shows_after (piece_sources seen piece) (sources_of seen rest)
    ∙ hides (has_visible (piece_sources seen piece)) (has_visible (sources_of seen rest)) e

-- a piece that shows something
pub shown_front : {T S : Type 0} (seen : T → S) (piece : Piece T) (rest : List (Piece T))
    → has_visible (piece_sources seen piece) ≡ true → has_visible (sources_of seen (piece ∷ rest)) ≡ true
shown_front seen piece rest e =
    shows_after (piece_sources seen piece) (sources_of seen rest)
    ∙ shown (has_visible (piece_sources seen piece)) (has_visible (sources_of seen rest)) e
