-- The bodies of a source line whose white space stays hold no control character.
use Rattle.std.proofs.Common.{◌≡◌, [], ◌∷◌, ◌++◌, if◌then◌else◌, Bool, List, false, is_some, not, refl, true, ℕ}
use Rattle.std.specs.Prelude.{◌==◌, ◌||◌}
use Rattle.std.proofs.lemmas.Bool.{cond_both}
use Rattle.text_lines.specs.Columns.{columns_of, width_of}
use Rattle.text_pieces.specs.Sources.{Source, letter, fragment, is_white_space}
use Rattle.text_preserved.specs.Preserved.{Kind, Part, blank, body, cut, ended_word, goes_over_white, is_begun, kind_of}
use Rattle.text_preserved.specs.Preserved.{nothing, parts, parts_after, parts_at, solid, stop, tab, trimmed}
use Rattle.text_preserved.specs.Preserved.{waiting_word, white, word_at}
use Rattle.printed_block_laws.specs.Printed.{IsPrinted}
use Rattle.printed_block_laws.proofs.ControlWidths.{printed_with_columns}

abbrev pub IsWordPrinted : {S : Type 0} → List (Source S) → Type 0
IsWordPrinted [] = Unit {0}
IsWordPrinted (letter c main further ∷ rest) = IsPrinted c × IsWordPrinted rest
IsWordPrinted (fragment name ∷ rest) = IsWordPrinted rest

abbrev pub ArePartsPrinted : {S : Type 0} → List (Part S) → Type 0
ArePartsPrinted [] = Unit {0}
ArePartsPrinted (blank n main further ∷ ps) = ArePartsPrinted ps
ArePartsPrinted (stop main further ∷ ps) = ArePartsPrinted ps
ArePartsPrinted (body word ∷ ps) = IsWordPrinted word × ArePartsPrinted ps

word_both : {S : Type 0} (xs ys : List (Source S)) → IsWordPrinted xs → IsWordPrinted ys → IsWordPrinted (xs ++ ys)
word_both [] ys first second = second
word_both (letter c main further ∷ xs) ys first second = (first.0, word_both xs ys first.1 second)
word_both (fragment name ∷ xs) ys first second = word_both xs ys first second

parts_both : {S : Type 0} (ps qs : List (Part S)) → ArePartsPrinted ps → ArePartsPrinted qs
    → ArePartsPrinted (ps ++ qs)
parts_both [] qs first second = second
parts_both (blank n main further ∷ ps) qs first second = parts_both ps qs first second
parts_both (stop main further ∷ ps) qs first second = parts_both ps qs first second
parts_both (body word ∷ ps) qs first second = (first.0, parts_both ps qs first.1 second)

-- ---- what stands in a body has a width

abbrev IsKept : Kind → ℕ → Type 0
IsKept solid c = IsPrinted c
IsKept white c = IsPrinted c
IsKept tab c = Unit {0}
IsKept cut c = Unit {0}
IsKept nothing c = Unit {0}

cut_or_nothing : (wraps : Bool) (c : ℕ) → IsKept (if wraps then cut else nothing) c
cut_or_nothing true c = tt
cut_or_nothing false c = tt

cut_or_tab : (narrow : Bool) (c : ℕ) → IsKept (if narrow then cut else tab) c
cut_or_tab true c = tt
cut_or_tab false c = tt

white_kept : (narrow shown wraps : Bool) (c : ℕ) → (shown ≡ true → IsPrinted c)
    → IsKept (if narrow || not shown then (if wraps then cut else nothing) else white) c
white_kept true shown wraps c h = cut_or_nothing wraps c
white_kept false true wraps c h = h refl
white_kept false false wraps c h = cut_or_nothing wraps c

solid_kept : (joint shown wraps : Bool) (c : ℕ) → (shown ≡ true → IsPrinted c)
    → IsKept (if joint then (if wraps then cut else nothing) else (if shown then solid else nothing)) c
solid_kept true shown wraps c h = cut_or_nothing wraps c
solid_kept false true wraps c h = h refl
solid_kept false false wraps c h = tt

kept_by : (is_tab narrow is_white joint shown wraps : Bool) (c : ℕ) → (shown ≡ true → IsPrinted c)
    → IsKept (if is_tab then (if narrow then cut else tab)
    else (if is_white then (if narrow || not shown then (if wraps then cut else nothing) else white)
    else (if joint then (if wraps then cut else nothing) else (if shown then solid else nothing)))) c
kept_by true narrow is_white joint shown wraps c h = cut_or_tab narrow c
kept_by false narrow true joint shown wraps c h = white_kept narrow shown wraps c h
kept_by false narrow false joint shown wraps c h = solid_kept joint shown wraps c h

kind_kept : (width : ℕ) (wraps : Bool) (c : ℕ) → IsKept (kind_of width wraps c) c
unfolding kind_of
kind_kept width wraps c =
    kept_by (c == 0x9) (width == 0) (is_white_space c) (c == 0x200B) (is_some (columns_of c)) wraps c
    (printed_with_columns c)

-- ---- words and parts

waiting_printed : {S : Type 0} (word : List (Source S)) → IsWordPrinted word → IsWordPrinted (waiting_word word)
waiting_printed word h = cond_both (is_begun word) [] word IsWordPrinted (λ e. tt) (λ e. h)

word_at_printed : {S : Type 0} (k : Kind) (over : Bool) (c : ℕ) (main further : S) (word : List (Source S))
    → IsKept k c → IsWordPrinted word → IsWordPrinted (word_at k over c main further word)
word_at_printed solid over c main further word here h = word_both word (letter c main further ∷ []) h (here, tt)
word_at_printed white true c main further word here h = word_both word (letter c main further ∷ []) h (here, tt)
word_at_printed white false c main further word here h = waiting_printed word h
word_at_printed tab over c main further word here h = waiting_printed word h
word_at_printed cut over c main further word here h = waiting_printed word h
word_at_printed nothing over c main further word here h = h

ended_printed : {S : Type 0} (word : List (Source S)) → IsWordPrinted word → ArePartsPrinted (ended_word word)
ended_printed word h = cond_both (is_begun word) (body word ∷ []) [] ArePartsPrinted (λ e. (h, tt)) (λ e. tt)

parts_at_printed : {S : Type 0} (k : Kind) (over : Bool) (c : ℕ) (main further : S) (word : List (Source S))
    → IsWordPrinted word → ArePartsPrinted (parts_at k over c main further word)
parts_at_printed solid over c main further word h = tt
parts_at_printed white true c main further word h = tt
parts_at_printed white false c main further word h =
    parts_both (ended_word word) (blank (width_of c) main further ∷ []) (ended_printed word h) tt
parts_at_printed tab over c main further word h =
    parts_both (ended_word word) (stop main further ∷ []) (ended_printed word h) tt
parts_at_printed cut over c main further word h = ended_printed word h
parts_at_printed nothing over c main further word h = tt

after_printed : {S : Type 0} (width : ℕ) (wraps : Bool) (word line : List (Source S)) → IsWordPrinted word
    → ArePartsPrinted (parts_after width wraps word line)
after_printed width wraps word [] h = ended_printed word h
after_printed width wraps word (letter c main further ∷ rest) h =
    parts_both (parts_at (kind_of width wraps c) (goes_over_white wraps word) c main further word)
    (parts_after width wraps (word_at (kind_of width wraps c) (goes_over_white wraps word) c main further word) rest)
    (parts_at_printed (kind_of width wraps c) (goes_over_white wraps word) c main further word h)
    (after_printed width wraps (word_at (kind_of width wraps c) (goes_over_white wraps word) c main further word) rest
    (word_at_printed (kind_of width wraps c) (goes_over_white wraps word) c main further word
    (kind_kept width wraps c) h))
after_printed width wraps word (fragment name ∷ rest) h =
    after_printed width wraps (word ++ fragment name ∷ []) rest (word_both word (fragment name ∷ []) h tt)

pub parts_printed : {S : Type 0} (width : ℕ) (wraps : Bool) (line : List (Source S))
    → ArePartsPrinted (parts width wraps line)
parts_printed width wraps line = after_printed width wraps [] (trimmed width wraps line) tt
