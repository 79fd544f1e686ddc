-- White space aside, the characters of the lines are those of the source line that have a width.
use Rattle.std.proofs.Common.{◌≡◌, [], ◌∷◌, ◌++◌, if◌then◌else◌, ◌∙◌, Bool, List, ap, append-nil, arith, false, filter}
use Rattle.std.proofs.Common.{flat_map, fold, refl, sym, true, ℕ}
use Rattle.std.specs.Prelude.{not, is_some, ◌==◌, ◌&&◌, ◌||◌}
use Rattle.std.proofs.lemmas.Bool.{cond_both}
use Rattle.std.proofs.lemmas.Bool.Decides.{nat_tests}
use Rattle.std.proofs.lemmas.List.Elements.{filter-append}
use Rattle.text_lines.specs.Columns.{columns_of}
use Rattle.text_lines.specs.Tagged.{Item, character, marker, characters}
use Rattle.text_pieces.specs.Sources.{Source, letter, fragment, is_white_space}
use Rattle.text_preserved.specs.Preserved.{Laying, cut, fresh, goes_over_white, has_text, is_begun, is_solid, kind_of}
use Rattle.text_preserved.specs.Preserved.{lay_part, line_text, nothing, nothing_laid, parts, preserved_lines, solid}
use Rattle.text_preserved.specs.Preserved.{tab, trimmed, white, word_after, word_at}
use Rattle.text_preserved.specs.LawWords.{is_shown, codes_of}
use Rattle.text_pieces.proofs.ItemColumns.{no_characters}
use Rattle.text_preserved.proofs.LayingKept.{IsSeen, laid_seen}

-- shown characters, item by item
abbrev shown : ℕ → List ℕ
shown c = if is_shown c then c ∷ [] else []

abbrev item_shown : {S : Type 0} → Item S → List ℕ
item_shown (character c tag) = shown c
item_shown (marker name) = []

abbrev source_shown : {S : Type 0} → Source S → List ℕ
source_shown (letter c main further) = shown c
source_shown (fragment name) = []

one_or_none : (b : Bool) (c : ℕ) (cs ds : List ℕ) → cs ≡ ds → (if b then c ∷ [] else []) ++ cs
    ≡ (if b then c ∷ ds else ds)
one_or_none true c cs ds e = ap (λ xs. c ∷ xs) e
one_or_none false c cs ds e = e

items_one_by_one : {S : Type 0} (items : List (Item S)) → flat_map item_shown items ≡ filter is_shown (characters items)
items_one_by_one [] = refl
items_one_by_one (character c tag ∷ items) = one_or_none (is_shown c) c (flat_map item_shown items)
    (filter is_shown (characters items)) (items_one_by_one items)
items_one_by_one (marker name ∷ items) = items_one_by_one items

codes_one_by_one : {S : Type 0} (line : List (Source S)) → flat_map source_shown line ≡ filter is_shown (codes_of line)
codes_one_by_one [] = refl
codes_one_by_one (letter c main further ∷ line) = one_or_none (is_shown c) c (flat_map source_shown line)
    (filter is_shown (codes_of line)) (codes_one_by_one line)
codes_one_by_one (fragment name ∷ line) = codes_one_by_one line

lines_one_by_one : {S : Type 0} (lines : List (List (Item S))) → flat_map (λ items. flat_map item_shown items) lines
    ≡ filter is_shown (flat_map (characters {S = S}) lines)
lines_one_by_one [] = refl
lines_one_by_one {S = S} (items ∷ lines) =
    ap (λ cs. cs ++ flat_map (λ items. flat_map item_shown items) lines) (items_one_by_one items)
    ∙ ap (λ cs. filter is_shown (characters items) ++ cs) (lines_one_by_one lines)
    ∙ sym (filter-append is_shown (characters items) (flat_map (characters {S = S}) lines))

-- ---- what stands in no body is not shown

-- the tests of `kind_of` and `is_shown`, where U+0009 is white space
kept_out : (is_tab is_narrow is_white is_joint has_columns wraps : Bool) → (is_tab ≡ true → is_white ≡ true)
    → is_solid (if is_tab then (if is_narrow then cut else tab)
    else (if is_white then (if is_narrow || not has_columns then (if wraps then cut else nothing) else white)
    else (if is_joint then (if wraps then cut else nothing) else (if has_columns then solid else nothing)))) ≡ false
    → (not (is_joint || is_white) && has_columns) ≡ false
kept_out is_tab is_narrow true true has_columns wraps both e = refl
kept_out is_tab is_narrow true false has_columns wraps both e = refl
kept_out is_tab is_narrow false true has_columns wraps both e = refl
kept_out is_tab is_narrow false false false wraps both e = refl
kept_out true is_narrow false false true wraps both e = let h = both refl in cc
kept_out false is_narrow false false true wraps both e = cc

tab_is_white : (c : ℕ) → (c == 0x9) ≡ true → is_white_space c ≡ true
tab_is_white c e = let is : c ≡ 9 = grind (arith, nat_tests) in ap is_white_space is

others_are_not_shown : (w : ℕ) (wraps : Bool) (c : ℕ) → is_solid (kind_of w wraps c) ≡ false → is_shown c ≡ false
unfolding kind_of
others_are_not_shown w wraps c e = kept_out (c == 0x9) (w == 0) (is_white_space c) (c == 0x200B)
    (is_some (columns_of c)) wraps (tab_is_white c) e

shown_are_seen : {S : Type 0} (w : ℕ) (wraps : Bool) → IsSeen w wraps (item_shown {S = S}) source_shown
shown_are_seen w wraps = record {
  spaces = λ tag. refl;
  letters = λ c main further tag. refl;
  fragments = λ name. refl;
  others = λ c main further e. ap (λ b. if b then c ∷ [] else []) (others_are_not_shown w wraps c e);
}

-- ---- what is left at hand, and what waits, are markers

no_text_before : {S : Type 0} (xs ys : List (Item S)) → has_text (xs ++ ys) ≡ false → has_text xs ≡ false
no_text_before [] ys e = refl
no_text_before (character c tag ∷ xs) ys e = cc
no_text_before (marker name ∷ xs) ys e = no_text_before xs ys e

fresh_is_textless : {S : Type 0} (r : Laying S) → characters (fresh r).line ≡ []
fresh_is_textless {S = S} r =
    cond_both (has_text (line_text r)) (record r { done = r.done ++ line_text r ∷ []; line = []; tail = [] }) r
    (λ (s : Laying S). characters s.line ≡ []) (λ e. refl)
    (λ e. no_characters r.line (no_text_before r.line r.tail e))

not_begun : {S : Type 0} (word : List (Source S)) → is_begun word ≡ false → codes_of word ≡ []
not_begun [] e = refl
not_begun (letter c main further ∷ word) e = cc
not_begun (fragment name ∷ word) e = not_begun word e

waiting_is_textless : {S : Type 0} (w : ℕ) (wraps : Bool) (word line : List (Source S))
    → codes_of (word_after w wraps word line) ≡ []
waiting_is_textless w wraps word [] =
    cond_both (is_begun word) [] word (λ xs. codes_of xs ≡ []) (λ e. refl) (λ e. not_begun word e)
waiting_is_textless w wraps word (letter c main further ∷ rest) =
    waiting_is_textless w wraps (word_at (kind_of w wraps c) (goes_over_white wraps word) c main further word) rest
waiting_is_textless w wraps word (fragment name ∷ rest) = waiting_is_textless w wraps (word ++ fragment name ∷ []) rest

pub lines_show_each_character : {S : Type 0} (w : ℕ) (wraps : Bool) (line : List (Source S))
    → filter is_shown (flat_map (characters {S = S}) (preserved_lines w wraps line)) ≡ filter is_shown (codes_of line)
unfolding preserved_lines
lines_show_each_character {S = S} w wraps line =
    let before : Laying S = fold (lay_part w wraps) nothing_laid (parts w wraps line) in
    let waiting : List (Source S) = word_after w wraps [] (trimmed w wraps line) in
    let lines : List ℕ = flat_map (λ items. flat_map item_shown items) (fresh before).done in
    let at_hand : flat_map item_shown (fresh before).line ≡ [] = items_one_by_one (fresh before).line
    ∙ ap (filter is_shown) (fresh_is_textless before) in
    let waits : flat_map source_shown waiting ≡ [] = codes_one_by_one waiting
    ∙ ap (filter is_shown) (waiting_is_textless w wraps [] (trimmed w wraps line)) in
    sym (lines_one_by_one (fresh before).done) ∙ sym (ap (λ cs. lines ++ (cs ++ flat_map source_shown waiting)) at_hand
    ∙ ap (λ cs. lines ++ cs) waits ∙ append-nil lines)
    ∙ laid_seen w wraps item_shown source_shown line (shown_are_seen w wraps) ∙ codes_one_by_one line
