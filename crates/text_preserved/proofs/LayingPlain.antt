-- A source line of shown characters and spaces that fits the width is itself.
use Rattle.std.proofs.Common.{◌≡◌, ◌⊎◌, ◌+◌, ◌≤◌, [], ◌∷◌, ◌++◌, if◌then◌else◌, ◌∙◌, Bool, List, ap, append-nil}
use Rattle.std.proofs.Common.{append_assoc, arith, false, fold, inl, inr, refl, replicate, subst, sym, true, ℕ}
use Rattle.std.specs.Prelude.{not, is_some, ◌==◌, ◌&&◌, ◌||◌, nat_le, nat_lt}
use Rattle.std.proofs.lemmas.Bool.{cond_both, cond-true}
use Rattle.std.proofs.lemmas.Bool.Decides.{nat_tests}
use Rattle.text_lines.specs.Columns.{columns_of, columns_of-one, width_of}
use Rattle.text_lines.specs.Tagged.{Item, character, marker, line_columns}
use Rattle.text_pieces.specs.Sources.{Source, letter, fragment}
use Rattle.text_preserved.specs.Preserved.{Laying, Part, Tagging, blank, body, broken_anywhere, broken_at_white, cut}
use Rattle.text_preserved.specs.Preserved.{ended_word, fresh, goes_over_white, has_solid, is_begun, is_solid, kind_of}
use Rattle.text_preserved.specs.Preserved.{lay_blank, lay_body, lay_items, lay_part, line_taken, nothing, parts_after}
use Rattle.text_preserved.specs.Preserved.{parts_at, preserved_lines, put_all, solid, space, tag_one, tagged_body}
use Rattle.text_preserved.specs.Preserved.{taken, trimmed, waiting_word, white, with_room, without_spaces, word_at}
use Rattle.text_preserved.specs.Preserved.{written}
use Rattle.text_preserved.specs.LawWords.{ArePlain, source_columns, as_it_stands, one_line}
use Rattle.text_preserved.proofs.ColumnLemmas.{le_is_true, lt_is_false, width_of-space}
use Rattle.text_pieces.proofs.ItemColumns.{line_columns-append, line_columns-cons}

-- one line at hand, and spaces
abbrev at_hand : {S : Type 0} → List (Item S) → List (Item S) → Laying S
at_hand line spaces = record { done = []; line = line; tail = []; spaces = spaces; goes_on = false }

-- nothing, or more than markers
abbrev IsReady : {S : Type 0} → List (Source S) → Type 0
IsReady word = (word ≡ []) ⊎ (is_begun word ≡ true)

-- the characters under their first tags, with the markers among them
abbrev pub shown : {S : Type 0} → List (Source S) → List (Item S)
shown [] = []
shown (letter c main further ∷ rest) = character c main ∷ shown rest
shown (fragment name ∷ rest) = marker name ∷ shown rest

-- ---- letters

shown-push : {S : Type 0} (word : List (Source S)) (c : ℕ) (main further : S)
    → shown (word ++ letter c main further ∷ []) ≡ shown word ++ character c main ∷ []
shown-push [] c main further = refl
shown-push (letter d m f ∷ word) c main further = ap (λ xs. character d m ∷ xs) (shown-push word c main further)
shown-push (fragment name ∷ word) c main further = ap (λ xs. marker name ∷ xs) (shown-push word c main further)

columns-push : {S : Type 0} (word : List (Source S)) (c : ℕ) (main further : S)
    → source_columns (word ++ letter c main further ∷ []) ≡ source_columns word + width_of c
columns-push [] c main further = omega arith
columns-push (letter d m f ∷ word) c main further = let rest = columns-push word c main further in omega arith
columns-push (fragment name ∷ word) c main further = columns-push word c main further

begun-push : {S : Type 0} (word : List (Source S)) (c : ℕ) (main further : S)
    → is_begun (word ++ letter c main further ∷ []) ≡ true
begun-push [] c main further = refl
begun-push (letter d m f ∷ word) c main further = refl
begun-push (fragment name ∷ word) c main further = begun-push word c main further

shown-columns : {S : Type 0} (word : List (Source S)) → line_columns (shown word) ≡ source_columns word
shown-columns [] = refl
shown-columns (letter c main further ∷ word) = let rest = shown-columns word in
    omega (arith, line_columns-cons (character c main) (shown word))
shown-columns {S = S} (fragment name ∷ word) = let rest = shown-columns word in
    let m : Item S = marker name in omega (arith, line_columns-cons m (shown word))

-- ---- a body that fits

and_false : (a b : Bool) → b ≡ false → (a && b) ≡ false
and_false true b e = e
and_false false b e = refl

-- a body that fits has its first tags
tagged_plainly : {S : Type 0} (w : ℕ) (wraps : Bool) (before : ℕ) (items : List (Item S)) (word : List (Source S))
    → before + line_columns items + source_columns word ≤ w
    → fold (tag_one w wraps before) (record { items = items; goes_on = false }) word
    ≡ record { items = items ++ shown word; goes_on = false }
tagged_plainly {S = S} w wraps before items [] fits =
    ap (λ xs. (let t : Tagging S = record { items = xs; goes_on = false } in t)) (sym (append-nil items))
tagged_plainly {S = S} w wraps before items (letter c main further ∷ rest) fits =
    ap (λ b. fold (tag_one w wraps before) (let t : Tagging S =
    record { items = items ++ character c (if b then further else main) ∷ []; goes_on = b } in t) rest)
    (and_false (not wraps) (nat_lt w (before + line_columns items + width_of c))
    (lt_is_false w (before + line_columns items + width_of c) (omega arith)))
    ∙ tagged_plainly w wraps before (items ++ character c main ∷ []) rest
    (omega (arith, line_columns-append items (character c main ∷ []), line_columns-cons (character c main) []))
    ∙ ap (λ xs. (let t : Tagging S = record { items = xs; goes_on = false } in t))
    (append_assoc items (character c main ∷ []) (shown rest))
tagged_plainly {S = S} w wraps before items (fragment name ∷ rest) fits =
    let m : Item S = marker name in
    tagged_plainly w wraps before (items ++ m ∷ []) rest
    (omega (arith, line_columns-append items (m ∷ []), line_columns-cons m []))
    ∙ ap (λ xs. (let t : Tagging S = record { items = xs; goes_on = false } in t))
    (append_assoc items (m ∷ []) (shown rest))

room_stays : {S : Type 0} (w : ℕ) (line spaces : List (Item S)) → line_columns line ≤ w
    → with_room w 0 (at_hand line spaces) ≡ at_hand line spaces
room_stays w line spaces fits = cond-true (nat_le (line_taken (at_hand line spaces) + 0) w) (at_hand line spaces)
    (fresh (at_hand line spaces)) (le_is_true (line_taken (at_hand line spaces) + 0) w (omega arith))

items_fit : {S : Type 0} (w : ℕ) (wraps : Bool) (line spaces items : List (Item S))
    → line_columns line + line_columns spaces + line_columns items ≤ w
    → lay_items w wraps items (at_hand line spaces) ≡ at_hand (line ++ (spaces ++ items)) []
items_fit w wraps line spaces items fits =
    cond-true (nat_le (taken (at_hand line spaces) + line_columns items) w)
    (written (without_spaces (at_hand line spaces)) (spaces ++ items))
    (put_all w (if wraps then broken_at_white (at_hand line spaces) else broken_anywhere w (at_hand line spaces)) items)
    (le_is_true (taken (at_hand line spaces) + line_columns items) w (omega arith))
    ∙ ap (λ xs. at_hand (xs ++ (spaces ++ items)) []) (append-nil line)

body_fits : {S : Type 0} (w : ℕ) (wraps : Bool) (line spaces : List (Item S)) (word : List (Source S))
    → line_columns line + line_columns spaces + source_columns word ≤ w
    → lay_body w wraps word (at_hand line spaces) ≡ at_hand (line ++ (spaces ++ shown word)) []
body_fits {S = S} w wraps line spaces word fits =
    ap (λ (room : Laying S). (let t : Tagging S = tagged_body w wraps room word in
    let r : Laying S = record (lay_items w wraps t.items room) { goes_on = t.goes_on } in r))
    (room_stays w line spaces (omega arith))
    ∙ ap (λ (t : Tagging S). (let r : Laying S = record (lay_items w wraps t.items (at_hand line spaces))
    { goes_on = t.goes_on } in r))
    (tagged_plainly w wraps (taken (at_hand line spaces)) [] word (omega arith))
    ∙ ap (λ (r : Laying S). (let s : Laying S = record r { goes_on = false } in s))
    (items_fit w wraps line spaces (shown word) (omega (arith, shown-columns word)))

-- ---- a source line

-- no white space ends it
abbrev IsTrimmed : {S : Type 0} → ℕ → Bool → List (Source S) → Type 0
IsTrimmed w wraps [] = Unit {0}
IsTrimmed w wraps (letter c main further ∷ rest) = ((is_solid (kind_of w wraps c) || has_solid w wraps rest) ≡ true)
    × IsTrimmed w wraps rest
IsTrimmed w wraps (fragment name ∷ rest) = IsTrimmed w wraps rest

-- after what is at hand, and the word so far, the rest of the line is laid as it stands
abbrev IsLaidPlainly : {S : Type 0} → ℕ → Bool → List (Source S) → Type 0
IsLaidPlainly {S = S} w wraps rest = (line spaces : List (Item S)) (word : List (Source S)) → IsReady word
    → line_columns line + line_columns spaces + source_columns word + source_columns rest ≤ w
    → (is_begun word ≡ false → has_solid w wraps rest ≡ false → spaces ≡ [])
    → fold (lay_part w wraps) (at_hand line spaces) (parts_after w wraps word rest)
    ≡ at_hand (line ++ (spaces ++ (shown word ++ as_it_stands rest))) []

-- a word that has begun is a body, and nothing waits
ended_is : {S : Type 0} (word : List (Source S)) → is_begun word ≡ true → ended_word word ≡ body word ∷ []
ended_is word begun = cond-true (is_begun word) (body word ∷ []) [] begun

waits_not : {S : Type 0} (word : List (Source S)) → is_begun word ≡ true → waiting_word word ≡ []
waits_not word begun = cond-true (is_begun word) [] word begun

end_laid : {S : Type 0} (w : ℕ) (wraps : Bool) → IsLaidPlainly {S = S} w wraps []
end_laid {S = S} w wraps line spaces word (inl empty) fits ends =
    let none : spaces ≡ [] = ends (ap (λ xs. is_begun xs) empty) refl in
    ap (λ xs. fold (lay_part w wraps) (at_hand line spaces) (ended_word xs)) empty
    ∙ ap (at_hand line) none ∙ ap (λ xs. at_hand xs []) (sym (ap (λ xs. line ++ (xs ++ [])) none ∙ append-nil line))
    ∙ sym (ap (λ xs. at_hand (line ++ (spaces ++ (shown xs ++ []))) []) empty)
end_laid w wraps line spaces word (inr begun) fits ends =
    ap (λ ps. fold (lay_part w wraps) (at_hand line spaces) ps) (ended_is word begun)
    ∙ body_fits w wraps line spaces word (omega arith)
    ∙ ap (λ xs. at_hand (line ++ (spaces ++ xs)) []) (sym (append-nil (shown word)))

-- a character that goes on the word
on_word : {S : Type 0} (w : ℕ) (wraps : Bool) (c : ℕ) (main further : S) (rest : List (Source S))
    → IsLaidPlainly w wraps rest → (line spaces : List (Item S)) (word : List (Source S))
    → line_columns line + line_columns spaces + source_columns word + (width_of c + source_columns rest) ≤ w
    → fold (lay_part w wraps) (at_hand line spaces) (parts_after w wraps (word ++ letter c main further ∷ []) rest)
    ≡ at_hand (line ++ (spaces ++ (shown word ++ character c main ∷ as_it_stands rest))) []
on_word w wraps c main further rest more line spaces word fits =
    more line spaces (word ++ letter c main further ∷ []) (inr (begun-push word c main further))
    (omega (arith, columns-push word c main further)) (λ no. let yes = begun-push word c main further in cc)
    ∙ ap (λ xs. at_hand (line ++ (spaces ++ xs)) []) (ap (λ xs. xs ++ as_it_stands rest)
    (shown-push word c main further)
    ∙ append_assoc (shown word) (character c main ∷ []) (as_it_stands rest))

-- a space waits after the word
after_nothing : {S : Type 0} (w : ℕ) (wraps : Bool) (main further : S) (rest : List (Source S))
    → IsLaidPlainly w wraps rest → has_solid w wraps rest ≡ true → (line spaces : List (Item S))
    → line_columns line + line_columns spaces + (1 + source_columns rest) ≤ w
    → fold (lay_part w wraps) (at_hand line spaces) (parts_at white false 0x20 main further []
    ++ parts_after w wraps (word_at white false 0x20 main further []) rest)
    ≡ at_hand (line ++ (spaces ++ space main ∷ as_it_stands rest)) []
after_nothing {S = S} w wraps main further rest more has line spaces fits =
    ap (λ n. fold (lay_part w wraps) (at_hand line (spaces ++ replicate n (space main))) (parts_after w wraps [] rest))
    width_of-space
    ∙ more line (spaces ++ space main ∷ []) [] (inl refl) (omega (
      arith,
      line_columns-append spaces (space main ∷ []),
      line_columns-cons (space main) [],
      width_of-space,
    )) (λ no none. cc)
    ∙ ap (λ xs. at_hand (line ++ xs) []) (append_assoc spaces (space main ∷ []) (as_it_stands rest))

after_begun : {S : Type 0} (w : ℕ) (wraps : Bool) (main further : S) (rest : List (Source S))
    → IsLaidPlainly w wraps rest → has_solid w wraps rest ≡ true → (line spaces : List (Item S))
    (word : List (Source S)) → is_begun word ≡ true
    → line_columns line + line_columns spaces + source_columns word + (1 + source_columns rest) ≤ w
    → fold (lay_part w wraps) (at_hand line spaces) (parts_at white false 0x20 main further word
    ++ parts_after w wraps (word_at white false 0x20 main further word) rest)
    ≡ at_hand (line ++ (spaces ++ (shown word ++ space main ∷ as_it_stands rest))) []
after_begun {S = S} w wraps main further rest more has line spaces word begun fits =
    let items : List (Item S) = line ++ (spaces ++ shown word) in
    let gap : Part S = blank (width_of 0x20) main further in
    ap (λ ps. fold (lay_part w wraps) (at_hand line spaces)
    ((ps ++ gap ∷ []) ++ parts_after w wraps (waiting_word word) rest)) (ended_is word begun)
    ∙ ap (λ left. fold (lay_part w wraps) (lay_blank (width_of 0x20) main further
    (lay_body w wraps word (at_hand line spaces))) (parts_after w wraps left rest)) (waits_not word begun)
    ∙ ap (λ r. fold (lay_part w wraps) (lay_blank (width_of 0x20) main further r) (parts_after w wraps [] rest))
    (body_fits w wraps line spaces word (omega arith))
    ∙ ap (λ n. fold (lay_part w wraps) (at_hand items (replicate n (space main))) (parts_after w wraps [] rest))
    width_of-space
    ∙ more items (space main ∷ []) [] (inl refl) (omega (
      arith,
      line_columns-append line (spaces ++ shown word),
      line_columns-append spaces (shown word),
      shown-columns word,
      line_columns-cons (space main) [],
      width_of-space,
    )) (λ no none. cc)
    ∙ ap (λ xs. at_hand xs []) (append_assoc line (spaces ++ shown word)
    (space main ∷ as_it_stands rest) ∙ ap (λ xs. line ++ xs) (append_assoc spaces
    (shown word) (space main ∷ as_it_stands rest)))

rest_after_word : {S : Type 0} (w : ℕ) (wraps : Bool) (main further : S) (rest : List (Source S))
    → IsLaidPlainly w wraps rest → has_solid w wraps rest ≡ true → (inside : Bool) (line spaces : List (Item S))
    (word : List (Source S)) → IsReady word
    → line_columns line + line_columns spaces + source_columns word + (1 + source_columns rest) ≤ w
    → fold (lay_part w wraps) (at_hand line spaces) (parts_at white inside 0x20 main further word
    ++ parts_after w wraps (word_at white inside 0x20 main further word) rest)
    ≡ at_hand (line ++ (spaces ++ (shown word ++ space main ∷ as_it_stands rest))) []
rest_after_word w wraps main further rest more has true line spaces word ready fits =
    on_word w wraps 0x20 main further rest more line spaces word (omega (arith, width_of-space))
rest_after_word w wraps main further rest more has false line spaces word (inl empty) fits =
    ap (λ xs. fold (lay_part w wraps) (at_hand line spaces) (parts_at white false 0x20 main further xs
    ++ parts_after w wraps (word_at white false 0x20 main further xs) rest)) empty
    ∙ after_nothing w wraps main further rest more has line spaces
    (omega (arith, ap (λ xs. source_columns xs) empty))
    ∙ sym (ap (λ xs. at_hand (line ++ (spaces ++ (shown xs ++ space main ∷ as_it_stands rest))) []) empty)
rest_after_word w wraps main further rest more has false line spaces word (inr begun) fits =
    after_begun w wraps main further rest more has line spaces word begun fits

-- where there are columns, U+0020 is white space
narrow_or : (is_narrow is_shown : Bool) (wraps : Bool) → is_narrow ≡ false → is_shown ≡ true
    → (if is_narrow || not is_shown then (if wraps then cut else nothing) else white) ≡ white
narrow_or false true wraps e f = refl
narrow_or true b wraps e f = cc
narrow_or false false wraps e f = cc

not_zero : (w : ℕ) → 1 ≤ w → (w == 0) ≡ false
not_zero w h = grind (arith, nat_tests)

pub space_is_white : (w : ℕ) (wraps : Bool) → 1 ≤ w → kind_of w wraps 0x20 ≡ white
unfolding kind_of
space_is_white w wraps h = narrow_or (w == 0) (is_some (columns_of 0x20)) wraps (not_zero w h)
    (ap is_some (columns_of-one 0x20 (inr (omega arith, omega arith))))

space_laid : {S : Type 0} (w : ℕ) (wraps : Bool) (main further : S) (rest : List (Source S))
    → IsLaidPlainly w wraps rest → (is_solid (kind_of w wraps 0x20) || has_solid w wraps rest) ≡ true
    → IsLaidPlainly w wraps (letter 0x20 main further ∷ rest)
space_laid w wraps main further rest more has line spaces word ready fits ends =
    let is : kind_of w wraps 0x20 ≡ white = space_is_white w wraps (omega (arith, width_of-space)) in
    subst (λ k. fold (lay_part w wraps) (at_hand line spaces) (parts_at k (goes_over_white wraps word) 0x20 main
    further word ++ parts_after w wraps (word_at k (goes_over_white wraps word) 0x20 main further word) rest)
    ≡ at_hand (line ++ (spaces ++ (shown word ++ space main ∷ as_it_stands rest))) []) (sym is)
    (rest_after_word w wraps main further rest more (sym (ap (λ k. is_solid k || has_solid w wraps rest) is) ∙ has)
    (goes_over_white wraps word) line spaces word ready (omega (arith, width_of-space)))

plain_laid : {S : Type 0} (w : ℕ) (wraps : Bool) (rest : List (Source S)) → ArePlain w wraps rest
    → IsTrimmed w wraps rest → IsLaidPlainly w wraps rest
plain_laid w wraps [] plain ends = end_laid w wraps
plain_laid w wraps (letter c main further ∷ rest) (inl is, plain) ends = λ line spaces word ready fits last.
    subst (λ k. fold (lay_part w wraps) (at_hand line spaces) (parts_at k (goes_over_white wraps word) c main
    further word ++ parts_after w wraps (word_at k (goes_over_white wraps word) c main further word) rest)
    ≡ at_hand (line ++ (spaces ++ (shown word ++ character c main ∷ as_it_stands rest))) []) (sym is)
    (on_word w wraps c main further rest (plain_laid w wraps rest plain ends.1) line spaces word fits)
plain_laid w wraps (letter c main further ∷ rest) (inr is, plain) ends =
    subst (λ d. IsLaidPlainly w wraps (letter d main further ∷ rest)) (sym is)
    (space_laid w wraps main further rest (plain_laid w wraps rest plain ends.1)
    (subst (λ d. (is_solid (kind_of w wraps d) || has_solid w wraps rest) ≡ true) is ends.0))
plain_laid w wraps (fragment name ∷ rest) plain ends = absurd plain

-- ---- the trimmed line

or_case : (a b : Bool) → (a || b) ≡ false → (a ≡ false) × (b ≡ false)
or_case true b e = cc
or_case false b e = (refl, e)

trimmed_has_solid : {S : Type 0} (w : ℕ) (wraps : Bool) (line : List (Source S))
    → has_solid w wraps (trimmed w wraps line) ≡ has_solid w wraps line
trimmed_has_solid w wraps [] = refl
trimmed_has_solid w wraps (letter c main further ∷ rest) =
    cond_both (is_solid (kind_of w wraps c) || has_solid w wraps rest)
    (letter c main further ∷ trimmed w wraps rest) (trimmed w wraps rest)
    (λ xs. has_solid w wraps xs ≡ (is_solid (kind_of w wraps c) || has_solid w wraps rest))
    (λ e. ap (λ b. is_solid (kind_of w wraps c) || b) (trimmed_has_solid w wraps rest))
    (λ e. let both : (is_solid (kind_of w wraps c) ≡ false) × (has_solid w wraps rest ≡ false)
    = or_case (is_solid (kind_of w wraps c)) (has_solid w wraps rest) e in
    trimmed_has_solid w wraps rest ∙ both.1 ∙ sym e)
trimmed_has_solid w wraps (fragment name ∷ rest) = trimmed_has_solid w wraps rest

trimmed_ends : {S : Type 0} (w : ℕ) (wraps : Bool) (line : List (Source S)) → IsTrimmed w wraps (trimmed w wraps line)
trimmed_ends w wraps [] = tt
trimmed_ends w wraps (letter c main further ∷ rest) =
    cond_both (is_solid (kind_of w wraps c) || has_solid w wraps rest)
    (letter c main further ∷ trimmed w wraps rest) (trimmed w wraps rest) (IsTrimmed w wraps)
    (λ e. (ap (λ b. is_solid (kind_of w wraps c) || b) (trimmed_has_solid w wraps rest) ∙ e, trimmed_ends w wraps rest))
    (λ e. trimmed_ends w wraps rest)
trimmed_ends w wraps (fragment name ∷ rest) = trimmed_ends w wraps rest

trimmed_plain : {S : Type 0} (w : ℕ) (wraps : Bool) (line : List (Source S)) → ArePlain w wraps line
    → ArePlain w wraps (trimmed w wraps line)
trimmed_plain w wraps [] plain = tt
trimmed_plain w wraps (letter c main further ∷ rest) plain =
    cond_both (is_solid (kind_of w wraps c) || has_solid w wraps rest)
    (letter c main further ∷ trimmed w wraps rest) (trimmed w wraps rest) (ArePlain w wraps)
    (λ e. (plain.0, trimmed_plain w wraps rest plain.1)) (λ e. trimmed_plain w wraps rest plain.1)
trimmed_plain w wraps (fragment name ∷ rest) plain = absurd plain

-- what is at hand at the end is the one line
at_last : {S : Type 0} (line : List (Source S)) → (fresh (at_hand (as_it_stands line) [])).done
    ≡ one_line (as_it_stands line)
at_last [] = refl
at_last (letter c main further ∷ rest) = ap (λ xs. xs ∷ []) (append-nil (as_it_stands (letter c main further ∷ rest)))
at_last (fragment name ∷ rest) = at_last rest

pub a_line_that_fits : {S : Type 0} (w : ℕ) (wraps : Bool) (line : List (Source S)) → ArePlain w wraps line
    → source_columns (trimmed w wraps line) ≤ w
    → preserved_lines w wraps line ≡ one_line (as_it_stands (trimmed w wraps line))
unfolding preserved_lines
a_line_that_fits {S = S} w wraps line plain fits =
    ap (λ (r : Laying S). (fresh r).done) (plain_laid w wraps (trimmed w wraps line) (trimmed_plain w wraps line plain)
    (trimmed_ends w wraps line) [] [] [] (inl refl) (omega arith) (λ no none. refl))
    ∙ at_last (trimmed w wraps line)

-- after a marker, where it begins with a character that is shown
pub a_marked_line_that_fits : {S : Type 0} (w : ℕ) (wraps : Bool) (name : List ℕ) (line : List (Source S))
    (c : ℕ) (main further : S) (rest : List (Source S)) → ArePlain w wraps line
    → trimmed w wraps line ≡ letter c main further ∷ rest → kind_of w wraps c ≡ solid
    → source_columns (trimmed w wraps line) ≤ w
    → preserved_lines w wraps (fragment name ∷ line) ≡ (marker name ∷ as_it_stands (trimmed w wraps line)) ∷ []
unfolding preserved_lines
a_marked_line_that_fits {S = S} w wraps name line c main further rest plain is shows fits =
    let word : List (Source S) = fragment name ∷ [] in
    let items : List (Item S) = marker name ∷ character c main ∷ as_it_stands rest in
    let plains : ArePlain w wraps (letter c main further ∷ rest) =
    subst (ArePlain w wraps) is (trimmed_plain w wraps line plain) in
    let ends : IsTrimmed w wraps (letter c main further ∷ rest) =
    subst (IsTrimmed w wraps) is (trimmed_ends w wraps line) in
    ap (λ xs. (fresh (fold (lay_part w wraps) (at_hand [] []) (parts_after w wraps word xs))).done) is
    ∙ ap (λ k. (fresh (fold (lay_part w wraps) (at_hand [] []) (parts_at k (goes_over_white wraps word) c main further
    word ++ parts_after w wraps (word_at k (goes_over_white wraps word) c main further word) rest))).done) shows
    ∙ ap (λ (r : Laying S). (fresh r).done)
    (on_word w wraps c main further rest (plain_laid w wraps rest plains.1 ends.1) [] [] word
    (omega (arith, ap (λ xs. source_columns xs) is)))
    ∙ ap (λ xs. xs ∷ []) (append-nil items)
    ∙ ap (λ xs. (marker name ∷ as_it_stands xs) ∷ []) (sym is)
