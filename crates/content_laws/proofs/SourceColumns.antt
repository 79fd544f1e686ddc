-- A source line that has its widest columns: each part of it goes on one line, and its parts are those at each width.
use Rattle.std.proofs.Common.{◌≡◌, ◌≢◌, ◌+◌, ◌-◌, ◌≤◌, ◌⊎◌, ◌==◌, ◌&&◌, ◌||◌, ◌%◌, [], ◌∷◌, ◌++◌, ◌∙◌, All, Bool, List}
use Rattle.std.proofs.Common.{ap, append_assoc, arith, false, inl, inr, is_some, max, not, refl}
use Rattle.std.proofs.Common.{subst, sym, true, ℕ}
use Rattle.std.specs.Prelude.{if◌then◌else◌}
use Rattle.std.proofs.lemmas.Bool.{cond-false, cond_both}
use Rattle.std.proofs.lemmas.Bool.Decides.{nat_tests}
use Rattle.std.proofs.lemmas.List.Elements.{All-head, All-tail}
use Rattle.text_lines.specs.Columns.{columns_of, width_of}
use Rattle.text_pieces.specs.Sources.{Source, fragment, is_white_space, letter}
use Rattle.text_normal.specs.Letters.{codes_of}
use Rattle.text_preserved.specs.LawWords.{source_columns}
use Rattle.text_preserved.specs.Preserved.{Kind, Laying, Part, blank, body, cut, ended_word, goes_over_white, has_solid}
use Rattle.text_preserved.specs.Preserved.{is_begun, is_solid, kind_of, nothing, nothing_laid, parts}
use Rattle.text_preserved.specs.Preserved.{parts_after, parts_at, preserved_lines, solid, stop, tab, taken}
use Rattle.text_preserved.specs.Preserved.{trimmed, waiting_word, white, word_at, fresh}
use Rattle.content_widths.specs.Texts.{column_after, is_shown, lines_columns}
use Rattle.content_laws.proofs.PreservedLine.{Fit, blank_columns, body_columns, go_on, part_line}
use Rattle.content_laws.proofs.PreservedLine.{parts_put, stop_columns}
use Rattle.content_laws.proofs.WhiteColumns.{white_columns}

-- ---- kinds

-- where a line goes on after a character of the kind and its columns
abbrev Takes : Kind → ℕ → ℕ → ℕ → Type 0
Takes solid n at next = at + n ≤ next
Takes white n at next = at + n ≤ next
Takes tab n at next = at + (8 - at % 8) ≤ next
Takes cut n at next = at ≤ next
Takes nothing n at next = at ≤ next

abbrev kind_by : (is_tab zero white_space joint wide wraps : Bool) → Kind
kind_by is_tab zero white_space joint wide wraps =
    if is_tab then (if zero then cut else tab)
    else (if white_space then (if zero || not wide then (if wraps then cut else nothing) else white)
    else (if joint then (if wraps then cut else nothing) else (if wide then solid else nothing)))

kind_is : (width : ℕ) (wraps : Bool) (c : ℕ) → kind_of width wraps c
    ≡ kind_by (c == 0x9) (width == 0) (is_white_space c) (c == 0x200B) (is_some (columns_of c)) wraps
unfolding kind_of
kind_is width wraps c = refl

cut_takes : (wraps : Bool) (n at next : ℕ) → at ≤ next → Takes (if wraps then cut else nothing) n at next
cut_takes true n at next le = le
cut_takes false n at next le = le

takes_by : (is_tab zero white_space joint wide wraps : Bool) (n at : ℕ)
    → Takes (kind_by is_tab zero white_space joint wide wraps) n at (if is_tab then at + (8 - at % 8) else at + n)
takes_by true true white_space joint wide wraps n at = omega arith
takes_by true false white_space joint wide wraps n at = omega arith
takes_by false true true joint wide wraps n at = cut_takes wraps n at (at + n) (omega arith)
takes_by false false true joint true wraps n at = omega arith
takes_by false false true joint false wraps n at = cut_takes wraps n at (at + n) (omega arith)
takes_by false zero false true wide wraps n at = cut_takes wraps n at (at + n) (omega arith)
takes_by false zero false false true wraps n at = omega arith
takes_by false zero false false false wraps n at = omega arith

kind_takes : (width : ℕ) (wraps : Bool) (c at : ℕ)
    → Takes (kind_of width wraps c) (width_of c) at (column_after at c)
kind_takes width wraps c at =
    subst (λ k. Takes k (width_of c) at (column_after at c)) (sym (kind_is width wraps c))
    (takes_by (c == 0x9) (width == 0) (is_white_space c) (c == 0x200B) (is_some (columns_of c)) wraps (width_of c) at)

cut_bare : (wraps : Bool) → is_solid (if wraps then cut else nothing) ≡ false
cut_bare true = refl
cut_bare false = refl

solid_by : (is_tab zero white_space joint wide wraps : Bool) → (is_tab ≡ true → white_space ≡ true)
    → is_solid (kind_by is_tab zero white_space joint wide wraps) ≡ (not (joint || white_space) && wide)
solid_by true true true true wide wraps h = refl
solid_by true true true false wide wraps h = refl
solid_by true false true true wide wraps h = refl
solid_by true false true false wide wraps h = refl
solid_by true zero false joint wide wraps h = let no = h refl in cc
solid_by false true true true wide wraps h = cut_bare wraps
solid_by false true true false wide wraps h = cut_bare wraps
solid_by false false true true true wraps h = refl
solid_by false false true true false wraps h = cut_bare wraps
solid_by false false true false true wraps h = refl
solid_by false false true false false wraps h = cut_bare wraps
solid_by false zero false true wide wraps h = cut_bare wraps
solid_by false zero false false true wraps h = refl
solid_by false zero false false false wraps h = refl

tab_is_white : (c : ℕ) → (c == 0x9) ≡ true → is_white_space c ≡ true
tab_is_white c e = let same : 0x9 ≡ c = grind (arith, nat_tests) in subst (λ d. is_white_space d ≡ true) same refl

solid_is_shown : (width : ℕ) (wraps : Bool) (c : ℕ) → is_solid (kind_of width wraps c) ≡ is_shown c
solid_is_shown width wraps c =
    ap is_solid (kind_is width wraps c)
    ∙ solid_by (c == 0x9) (width == 0) (is_white_space c) (c == 0x200B) (is_some (columns_of c)) wraps (tab_is_white c)

-- ---- columns at which letters end

after_by : (b : Bool) (at w : ℕ) → at ≤ (if b then at + (8 - at % 8) else at + w)
after_by true at w = omega arith
after_by false at w = omega arith

goes_right : (at c : ℕ) → at ≤ column_after at c
goes_right at c = after_by (c == 0x9) at (width_of c)

abbrev pub HasNoLineEnd : List ℕ → Type 0
HasNoLineEnd cs = All (λ c. c ≢ 0xA) cs

no_line_end : (c : ℕ) → c ≢ 0xA → (c == 0xA) ≡ false
no_line_end c h = grind (arith, nat_tests)

letter_columns : (at c : ℕ) (cs : List ℕ) → c ≢ 0xA
    → lines_columns at (c ∷ cs)
    ≡ max (if is_shown c then column_after at c else 0) (lines_columns (column_after at c) cs)
letter_columns at c cs other =
    cond-false (c == 0xA) (lines_columns 0 cs)
    (max (if is_shown c then column_after at c else 0) (lines_columns (column_after at c) cs)) (no_line_end c other)

shown_columns : (n m : ℕ) (b : Bool) → b ≡ true → n ≤ max (if b then n else 0) m
shown_columns n m true e = omega arith
shown_columns n m false e = cc

or_cases : (a b : Bool) → (a || b) ≡ true → (a ≡ true) ⊎ (b ≡ true)
or_cases true b e = inl refl
or_cases false b e = inr e

or_none : (a b : Bool) → (a || b) ≡ false → b ≡ false
or_none true b e = cc
or_none false b e = e

-- a letter that is shown, or stands before one, ends before the line does
letter_ends : (v : ℕ) (wraps : Bool) (at c : ℕ) (cs : List ℕ) (b : Bool) → c ≢ 0xA
    → (b ≡ true → column_after at c ≤ lines_columns (column_after at c) cs)
    → (is_solid (kind_of v wraps c) ≡ true) ⊎ (b ≡ true) → column_after at c ≤ lines_columns at (c ∷ cs)
letter_ends v wraps at c cs b other rest (inl stands) =
    let is = letter_columns at c cs other in
    let here = shown_columns (column_after at c) (lines_columns (column_after at c) cs) (is_shown c)
    (sym (solid_is_shown v wraps c) ∙ stands) in
    omega arith
letter_ends v wraps at c cs b other rest (inr has) =
    let is = letter_columns at c cs other in
    let there = rest has in
    omega arith

-- what stands before something that is shown ends before the line does
reaches : {S : Type 0} (v : ℕ) (wraps : Bool) (at : ℕ) (rest : List (Source S)) → HasNoLineEnd (codes_of rest)
    → has_solid v wraps rest ≡ true → at ≤ lines_columns at (codes_of rest)
reaches v wraps at [] one has = cc
reaches v wraps at (letter c main further ∷ rest) one has =
    let right = goes_right at c in
    let ends = letter_ends v wraps at c (codes_of rest) (has_solid v wraps rest)
    (All-head (λ d. d ≢ 0xA) c (codes_of rest) one)
    (reaches v wraps (column_after at c) rest (All-tail (λ d. d ≢ 0xA) c (codes_of rest) one))
    (or_cases (is_solid (kind_of v wraps c)) (has_solid v wraps rest) has) in
    omega arith
reaches v wraps at (fragment name ∷ rest) one has = reaches v wraps at rest one has

-- each letter ends within the width
abbrev Within : {S : Type 0} → ℕ → ℕ → List (Source S) → Type 0
Within w at [] = Unit {0}
Within w at (letter c main further ∷ rest) = (column_after at c ≤ w) × Within w (column_after at c) rest
Within w at (fragment name ∷ rest) = Within w at rest

bare_within : {S : Type 0} (w v : ℕ) (wraps : Bool) (at : ℕ) (line : List (Source S)) → has_solid v wraps line ≡ false
    → Within w at (trimmed v wraps line)
bare_within w v wraps at [] none = tt
bare_within w v wraps at (letter c main further ∷ rest) none =
    subst (λ b. Within w at (if b then letter c main further ∷ trimmed v wraps rest else trimmed v wraps rest))
    (sym none)
    (bare_within w v wraps at rest (or_none (is_solid (kind_of v wraps c)) (has_solid v wraps rest) none))
bare_within w v wraps at (fragment name ∷ rest) none = bare_within w v wraps at rest none

trimmed_within : {S : Type 0} (w v : ℕ) (wraps : Bool) (at : ℕ) (line : List (Source S))
    → HasNoLineEnd (codes_of line) → lines_columns at (codes_of line) ≤ w → Within w at (trimmed v wraps line)
trimmed_within w v wraps at [] one le = tt
trimmed_within w v wraps at (letter c main further ∷ rest) one le =
    let other = All-head (λ d. d ≢ 0xA) c (codes_of rest) one in
    let more = All-tail (λ d. d ≢ 0xA) c (codes_of rest) one in
    let is = letter_columns at c (codes_of rest) other in
    cond_both (is_solid (kind_of v wraps c) || has_solid v wraps rest)
    (letter c main further ∷ trimmed v wraps rest) (trimmed v wraps rest) (Within w at)
    (λ e. let ends = letter_ends v wraps at c (codes_of rest) (has_solid v wraps rest) other
    (reaches v wraps (column_after at c) rest more)
    (or_cases (is_solid (kind_of v wraps c)) (has_solid v wraps rest) e) in
    (omega arith, trimmed_within w v wraps (column_after at c) rest more (omega arith)))
    (λ e. bare_within w v wraps at rest (or_none (is_solid (kind_of v wraps c)) (has_solid v wraps rest) e))
trimmed_within w v wraps at (fragment name ∷ rest) one le = trimmed_within w v wraps at rest one le

-- ---- the parts go on one line

word_letter : {S : Type 0} (word : List (Source S)) (c : ℕ) (main further : S)
    → source_columns (word ++ letter c main further ∷ []) ≡ source_columns word + width_of c
word_letter [] c main further = omega arith
word_letter (letter d m f ∷ word) c main further = let rest = word_letter word c main further in omega arith
word_letter (fragment name ∷ word) c main further = word_letter word c main further

word_marker : {S : Type 0} (word : List (Source S)) (name : List ℕ)
    → source_columns (word ++ fragment name ∷ []) ≡ source_columns word
word_marker [] name = refl
word_marker (letter d m f ∷ word) name = ap (λ n. width_of d + n) (word_marker word name)
word_marker (fragment other ∷ word) name = word_marker word name

not_begun : {S : Type 0} (word : List (Source S)) → is_begun word ≡ false → source_columns word ≡ 0
not_begun [] none = refl
not_begun (letter c main further ∷ word) none = cc
not_begun (fragment name ∷ word) none = not_begun word none

nothing_waits : {S : Type 0} (word : List (Source S)) → source_columns (waiting_word word) ≡ 0
nothing_waits word =
    cond_both (is_begun word) [] word (λ xs. source_columns xs ≡ 0) (λ e. refl) (λ e. not_begun word e)

past_word : {S : Type 0} (w : ℕ) (r : Laying S) (word : List (Source S)) (ps : List (Part S))
    → taken r + source_columns word ≤ w
    → ((s : Laying S) → taken s ≤ taken r + source_columns word → Fit w s ps) → Fit w r (ended_word word ++ ps)
past_word w r word ps le rest =
    cond_both (is_begun word) (body word ∷ []) [] (λ qs. Fit w r (qs ++ ps))
    (λ e. let is = body_columns r word in (omega arith, rest (go_on r (body word)) (omega arith)))
    (λ e. rest r (omega arith))

-- after columns, with the word so far
abbrev GoOn : {S : Type 0} → ℕ → ℕ → Bool → ℕ → List (Source S) → Type 0
GoOn {S = S} w v wraps at rest = (r : Laying S) (word : List (Source S)) → taken r + source_columns word ≤ at
    → Fit w r (parts_after v wraps word rest)

letter_fit : {S : Type 0} (w v : ℕ) (wraps : Bool) (k : Kind) (inside : Bool) (c : ℕ) (main further : S)
    (word rest : List (Source S)) (r : Laying S) (at next : ℕ) → Takes k (width_of c) at next
    → taken r + source_columns word ≤ at → at ≤ w → next ≤ w → GoOn w v wraps next rest
    → Fit w r (parts_at k inside c main further word
    ++ parts_after v wraps (word_at k inside c main further word) rest)
letter_fit w v wraps solid inside c main further word rest r at next takes le room more on =
    on r (word ++ letter c main further ∷ []) (omega (arith, word_letter word c main further))
letter_fit w v wraps white true c main further word rest r at next takes le room more on =
    on r (word ++ letter c main further ∷ []) (omega (arith, word_letter word c main further))
letter_fit {S} w v wraps white false c main further word rest r at next takes le room more on =
    let gap : Part S = blank (width_of c) main further in
    let after = parts_after v wraps (waiting_word word) rest in
    subst (Fit w r) (sym (append_assoc (ended_word word) (gap ∷ []) after))
    (past_word w r word (gap ∷ after) (omega arith)
    (λ s low. on (go_on s gap) (waiting_word word)
    (omega (arith, blank_columns s (width_of c) main further, nothing_waits word))))
letter_fit {S} w v wraps tab inside c main further word rest r at next takes le room more on =
    let gap : Part S = stop main further in
    let after = parts_after v wraps (waiting_word word) rest in
    subst (Fit w r) (sym (append_assoc (ended_word word) (gap ∷ []) after))
    (past_word w r word (gap ∷ after) (omega arith)
    (λ s low. (
      omega (arith, stop_columns s main further),
      on (go_on s gap) (waiting_word word)
          (omega (arith, stop_columns s main further, nothing_waits word)),
    )))
letter_fit w v wraps cut inside c main further word rest r at next takes le room more on =
    past_word w r word (parts_after v wraps (waiting_word word) rest) (omega arith)
    (λ s low. on s (waiting_word word) (omega (arith, nothing_waits word)))
letter_fit w v wraps nothing inside c main further word rest r at next takes le room more on =
    on r word (omega arith)

word_fit : {S : Type 0} (w : ℕ) (r : Laying S) (word : List (Source S)) → taken r + source_columns word ≤ w
    → Fit w r (ended_word word)
word_fit w r word le =
    cond_both (is_begun word) (body word ∷ []) [] (Fit w r) (λ e. let is = body_columns r word in (omega arith, tt))
    (λ e. tt)

parts_fit : {S : Type 0} (w v : ℕ) (wraps : Bool) (at : ℕ) (rest : List (Source S)) → at ≤ w → Within w at rest
    → GoOn w v wraps at rest
parts_fit w v wraps at [] room within = λ r word le. word_fit w r word (omega arith)
parts_fit w v wraps at (letter c main further ∷ rest) room within = λ r word le.
    letter_fit w v wraps (kind_of v wraps c) (goes_over_white wraps word) c main further word rest r at
    (column_after at c) (kind_takes v wraps c at) le room within.0
    (parts_fit w v wraps (column_after at c) rest within.0 within.1)
parts_fit w v wraps at (fragment name ∷ rest) room within = λ r word le.
    parts_fit w v wraps at rest room within r (word ++ fragment name ∷ []) (omega (arith, word_marker word name))

pub preserved_is : {S : Type 0} (w : ℕ) (wraps : Bool) (line : List (Source S)) → HasNoLineEnd (codes_of line)
    → lines_columns 0 (codes_of line) ≤ w → preserved_lines w wraps line ≡ part_line (parts w wraps line)
unfolding preserved_lines
preserved_is {S} w wraps line one le =
    ap (λ (r : Laying S). (fresh r).done)
    (parts_put w wraps [] [] [] (parts w wraps line) tt
    (parts_fit w w wraps 0 (trimmed w wraps line) (omega arith) (trimmed_within w w wraps 0 line one le) nothing_laid []
    (omega arith)))

-- ---- at each such width the parts are the same

has_solid_same : {S : Type 0} (w v : ℕ) (wraps : Bool) (line : List (Source S))
    → has_solid w wraps line ≡ has_solid v wraps line
has_solid_same w v wraps [] = refl
has_solid_same w v wraps (letter c main further ∷ rest) =
    ap (λ b. b || has_solid w wraps rest) (solid_is_shown w wraps c ∙ sym (solid_is_shown v wraps c))
    ∙ ap (λ b. is_solid (kind_of v wraps c) || b) (has_solid_same w v wraps rest)
has_solid_same w v wraps (fragment name ∷ rest) = has_solid_same w v wraps rest

trimmed_same : {S : Type 0} (w v : ℕ) (wraps : Bool) (line : List (Source S)) → trimmed w wraps line
    ≡ trimmed v wraps line
trimmed_same w v wraps [] = refl
trimmed_same w v wraps (letter c main further ∷ rest) =
    ap (λ b. if b then letter c main further ∷ trimmed w wraps rest else trimmed w wraps rest)
    (has_solid_same w v wraps (letter c main further ∷ rest))
    ∙ ap (λ xs. if is_solid (kind_of v wraps c) || has_solid v wraps rest then letter c main further ∷ xs else xs)
    (trimmed_same w v wraps rest)
trimmed_same w v wraps (fragment name ∷ rest) = ap (λ xs. fragment name ∷ xs) (trimmed_same w v wraps rest)

abbrev SameKinds : {S : Type 0} → ℕ → ℕ → Bool → List (Source S) → Type 0
SameKinds w v wraps [] = Unit {0}
SameKinds w v wraps (letter c main further ∷ rest) = (kind_of w wraps c ≡ kind_of v wraps c) × SameKinds w v wraps rest
SameKinds w v wraps (fragment name ∷ rest) = SameKinds w v wraps rest

parts_same : {S : Type 0} (w v : ℕ) (wraps : Bool) (word line : List (Source S)) → SameKinds w v wraps line
    → parts_after w wraps word line ≡ parts_after v wraps word line
parts_same w v wraps word [] same = refl
parts_same w v wraps word (letter c main further ∷ rest) same =
    ap (λ k. parts_at k (goes_over_white wraps word) c main further word
    ++ parts_after w wraps (word_at k (goes_over_white wraps word) c main further word) rest) same.0
    ∙ ap (λ ps. parts_at (kind_of v wraps c) (goes_over_white wraps word) c main further word ++ ps)
    (parts_same w v wraps (word_at (kind_of v wraps c) (goes_over_white wraps word) c main further word) rest same.1)
parts_same w v wraps word (fragment name ∷ rest) same = parts_same w v wraps (word ++ fragment name ∷ []) rest same

some_width : (w : ℕ) → 1 ≤ w → (w == 0) ≡ false
some_width w le = grind (arith, nat_tests)

kind_with : (w v : ℕ) (wraps : Bool) (c : ℕ) → (w == 0) ≡ (v == 0) → kind_of w wraps c ≡ kind_of v wraps c
kind_with w v wraps c same =
    kind_is w wraps c
    ∙ ap (λ z. kind_by (c == 0x9) z (is_white_space c) (c == 0x200B) (is_some (columns_of c)) wraps) same
    ∙ sym (kind_is v wraps c)

wide_kinds : {S : Type 0} (w v : ℕ) (wraps : Bool) (line : List (Source S)) → (w == 0) ≡ (v == 0)
    → SameKinds w v wraps line
wide_kinds w v wraps [] same = tt
wide_kinds w v wraps (letter c main further ∷ rest) same =
    (kind_with w v wraps c same, wide_kinds w v wraps rest same)
wide_kinds w v wraps (fragment name ∷ rest) same = wide_kinds w v wraps rest same

same_by : (is_tab white_space joint wide wraps z : Bool) → is_tab ≡ false
    → (white_space ≡ true → wide ≡ true → ⊥)
    → kind_by is_tab true white_space joint wide wraps ≡ kind_by is_tab z white_space joint wide wraps
same_by true white_space joint wide wraps z tabs none = cc
same_by false true joint true wraps z tabs none = absurd (none refl refl)
same_by false true joint false wraps true tabs none = refl
same_by false true joint false wraps false tabs none = refl
same_by false false joint wide wraps z tabs none = refl

no_tab : (b : Bool) (at n : ℕ) → (if b then at + (8 - at % 8) else at + n) ≤ 0 → b ≡ false
no_tab true at n le = absurd (omega arith)
no_tab false at n le = refl

no_columns : (b : Bool) (at n : ℕ) → (if b then at + (8 - at % 8) else at + n) ≤ 0 → n ≡ 0
no_columns true at n le = absurd (omega arith)
no_columns false at n le = omega arith

-- without a column there are neither tabs nor white space that has columns
bare_kinds : {S : Type 0} (v : ℕ) (wraps : Bool) (at : ℕ) (line : List (Source S)) → Within 0 at line
    → SameKinds 0 v wraps line
bare_kinds v wraps at [] within = tt
bare_kinds v wraps at (letter c main further ∷ rest) within =
    let none = no_columns (c == 0x9) at (width_of c) within.0 in (
      kind_is 0 wraps c
          ∙ same_by (c == 0x9) (is_white_space c) (c == 0x200B) (is_some (columns_of c)) wraps (v == 0)
          (no_tab (c == 0x9) at (width_of c) within.0)
          (λ is wide. let some = white_columns c is wide in absurd (omega arith))
          ∙ sym (kind_is v wraps c),
      bare_kinds v wraps (column_after at c) rest within.1,
    )
bare_kinds v wraps at (fragment name ∷ rest) within = bare_kinds v wraps at rest within

kinds_same : {S : Type 0} (w v : ℕ) (wraps : Bool) (line : List (Source S)) → w ≤ v → Within w 0 line → (b : Bool)
    → (w == 0) ≡ b → SameKinds w v wraps line
kinds_same w v wraps line le within true e =
    let none : 0 ≡ w = grind (arith, nat_tests) in
    subst (λ n. SameKinds n v wraps line) none
    (bare_kinds v wraps 0 line (subst (λ n. Within n 0 line) (sym none) within))
kinds_same w v wraps line le within false e =
    let some : 1 ≤ w = grind (arith, nat_tests) in
    wide_kinds w v wraps line (e ∙ sym (some_width v (omega arith)))

pub preserved_same : {S : Type 0} (w v : ℕ) (wraps : Bool) (line : List (Source S)) → HasNoLineEnd (codes_of line)
    → lines_columns 0 (codes_of line) ≤ w → w ≤ v → preserved_lines w wraps line ≡ preserved_lines v wraps line
preserved_same w v wraps line one le more =
    preserved_is w wraps line one le
    ∙ ap part_line
    (parts_same w v wraps [] (trimmed w wraps line)
    (kinds_same w v wraps (trimmed w wraps line) more (trimmed_within w w wraps 0 line one le) (w == 0) refl)
    ∙ ap (parts_after v wraps []) (trimmed_same w v wraps line))
    ∙ sym (preserved_is v wraps line one (omega arith))
