-- The letters of texts, one after the other.
use Rattle.std.proofs.Common.{◌≡◌, ℕ, false, List, [], ◌∷◌, ◌++◌, ap, refl}
use Rattle.text_pieces.specs.Sources.{Source, letter, fragment, sourced}
use Rattle.text_normal.specs.Units.{lettered}
use Rattle.text_normal.specs.Letters.{letters_of, has_marker}

pub letters_sourced : {S : Type 0} (cs : List ℕ) (main further : S)
    → letters_of (sourced cs main further) ≡ lettered cs main
letters_sourced [] main further = refl
letters_sourced (c ∷ cs) main further =
    ap (λ rest. record { code = c; tag = main } ∷ rest) (letters_sourced cs main further)

pub letters_joined : {S : Type 0} (front back : List (Source S))
    → letters_of (front ++ back) ≡ letters_of front ++ letters_of back
letters_joined [] back = refl
letters_joined (letter c main further ∷ front) back =
    ap (λ rest. record { code = c; tag = main } ∷ rest) (letters_joined front back)
letters_joined (fragment name ∷ front) back = letters_joined front back

pub no_marker_sourced : {S : Type 0} (cs : List ℕ) (main further : S) → has_marker (sourced cs main further) ≡ false
no_marker_sourced [] main further = refl
no_marker_sourced (c ∷ cs) main further = no_marker_sourced cs main further

pub no_more_markers : {S : Type 0} (front back : List (Source S)) → has_marker front ≡ false → has_marker back ≡ false
    → has_marker (front ++ back) ≡ false
no_more_markers [] back none more = more
no_more_markers (letter c main further ∷ front) back none more = no_more_markers front back none more
no_more_markers (fragment name ∷ front) back none more = none
