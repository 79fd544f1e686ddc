-- Columns and characters of items.
use Rattle.std.proofs.Common.{◌≡◌, ◌+◌, false, List, [], ◌∷◌, ◌++◌, refl, ap, ◌∙◌, arith}
use Rattle.std.proofs.lemmas.List.Sums.{sum_by-append, sum_by-cons}
use Rattle.text_lines.specs.Columns.{width_of, text_columns}
use Rattle.text_lines.specs.Tagged.{Item, character, marker, characters, line_columns}
use Rattle.text_pieces.specs.Items.{has_text, item_columns}

-- columns and characters item by item
pub characters-append : {S : Type 0} (xs ys : List (Item S)) → characters (xs ++ ys) ≡ characters xs ++ characters ys
characters-append [] ys = refl
characters-append (character c tag ∷ xs) ys = ap (λ cs. c ∷ cs) (characters-append xs ys)
characters-append (marker name ∷ xs) ys = characters-append xs ys

pub line_columns-append : {S : Type 0} (xs ys : List (Item S)) → line_columns (xs ++ ys)
    ≡ line_columns xs + line_columns
    ys
line_columns-append xs ys = ap text_columns (characters-append xs ys)
    ∙ sum_by-append width_of (characters xs) (characters ys)

pub line_columns-cons : {S : Type 0} (x : Item S) (xs : List (Item S)) → line_columns (x ∷ xs) ≡ item_columns x
    + line_columns xs
line_columns-cons (character c tag) xs = sum_by-cons width_of c (characters xs)
line_columns-cons (marker name) xs = omega arith

-- items without text have no characters, so no columns
pub no_characters : {S : Type 0} (xs : List (Item S)) → has_text xs ≡ false → characters xs ≡ []
no_characters [] e = refl
no_characters (character c tag ∷ xs) e = cc
no_characters (marker name ∷ xs) e = no_characters xs e

pub no_columns : {S : Type 0} (xs : List (Item S)) → has_text xs ≡ false → line_columns xs ≡ 0
no_columns xs e = ap text_columns (no_characters xs e)
