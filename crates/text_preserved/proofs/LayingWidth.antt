-- No line passes the width, where no body has a character that is wider.
use Rattle.std.proofs.Common.{◌≡◌, ◌+◌, ◌-◌, ◌%◌, ◌≤◌, ◌⊎◌, [], ◌∷◌, ◌++◌, if◌then◌else◌, ◌∙◌, All, Bool, List, ap}
use Rattle.std.proofs.Common.{arith, false, fold, inl, inr, refl, replicate, sym, true, ℕ}
use Rattle.std.specs.Prelude.{not, is_some, ◌==◌, ◌||◌, nat_le, nat_lt}
use Rattle.std.proofs.lemmas.Bool.{cond_both}
use Rattle.std.proofs.lemmas.Bool.Decides.{nat_tests}
use Rattle.std.proofs.lemmas.List.Elements.{All-append, All-cons, All-nil}
use Rattle.text_lines.specs.Columns.{columns_of, width_of}
use Rattle.text_lines.specs.Tagged.{Item, character, marker, line_columns}
use Rattle.text_pieces.specs.Sources.{Source, letter, fragment, is_white_space}
use Rattle.text_preserved.specs.Preserved.{Kind, Laying, Part, Tagging, after_stop, blank, body, broken_anywhere}
use Rattle.text_preserved.specs.Preserved.{broken_at_white, chosen, cut, ended_word, fresh, goes_over_white, has_text}
use Rattle.text_preserved.specs.Preserved.{has_wide_body, has_wide_letter, is_begun, is_too_wide, item_columns, kind_of}
use Rattle.text_preserved.specs.Preserved.{lay_blank, lay_body, lay_items, lay_part, lay_stop, line_taken, line_text}
use Rattle.text_preserved.specs.Preserved.{nothing, nothing_laid, parts, parts_after, parts_at, preserved_lines, put}
use Rattle.text_preserved.specs.Preserved.{put_all, put_space, remaining, solid, space, stop, tab, tabbed, tag_one}
use Rattle.text_preserved.specs.Preserved.{tagged_body, taken, to_stop, trimmed, white, with_room, without_spaces}
use Rattle.text_preserved.specs.Preserved.{word_at, written}
use Rattle.text_preserved.proofs.ColumnLemmas.{AreSpaces, AreSpaces-append, AreSpaces-replicate, IsSpace}
use Rattle.text_preserved.proofs.ColumnLemmas.{item_columns-space, le_unless, le_when, line_columns-drop}
use Rattle.text_preserved.proofs.ColumnLemmas.{line_columns-replicate, lt_unless}
use Rattle.text_pieces.proofs.ItemColumns.{line_columns-append, line_columns-cons, no_columns}

-- What is laid is within the width; white space waits only where there are columns.
pub record IsIn {S : Type 0} (w : ℕ) (r : Laying S) : Type 0 where
  pub done : All (λ items. line_columns items ≤ w) r.done
  pub taken : line_taken r ≤ w
  pub spaces : AreSpaces r.spaces
  pub waits : (r.spaces ≡ []) ⊎ (1 ≤ w)

-- items that are no wider than the width
abbrev pub AreNarrow : {S : Type 0} → ℕ → List (Item S) → Type 0
AreNarrow w [] = Unit {0}
AreNarrow w (x ∷ xs) = (item_columns x ≤ w) × AreNarrow w xs

AreNarrow-append : {S : Type 0} (w : ℕ) (xs ys : List (Item S)) → AreNarrow w xs → AreNarrow w ys
    → AreNarrow w (xs ++ ys)
AreNarrow-append w [] ys hx hy = hy
AreNarrow-append w (x ∷ xs) ys hx hy = (hx.0, AreNarrow-append w xs ys hx.1 hy)

-- ---- a fresh line, and room

line_text-columns : {S : Type 0} (r : Laying S) → line_columns (line_text r) ≡ line_taken r
line_text-columns r = line_columns-append r.line r.tail

-- A fresh line is empty, or the line at hand, and that has no column.
record IsFresh {S : Type 0} (w : ℕ) (r s : Laying S) : Type 0 where
  kept : IsIn w s
  empty : line_taken s ≡ 0
  spaces : s.spaces ≡ r.spaces

freshened : {S : Type 0} (w : ℕ) (r : Laying S) → IsIn w r → IsFresh w r (fresh r)
freshened w r h =
    cond_both (has_text (line_text r)) (record r { done = r.done ++ line_text r ∷ []; line = []; tail = [] }) r
    (IsFresh w r)
    (λ e. record {
      kept = record {
        done = All-append (λ items. line_columns items ≤ w) r.done (line_text r ∷ []) h.done
            (All-cons (λ items. line_columns items ≤ w) (line_text r) [] (omega (arith, line_text-columns r))
            (All-nil (λ items. line_columns items ≤ w)));
        taken = omega arith;
        spaces = h.spaces;
        waits = h.waits;
      };
      empty = refl;
      spaces = refl;
    })
    (λ e. record {
      kept = h;
      empty = sym (line_text-columns r) ∙ no_columns (line_text r) e;
      spaces = refl;
    })

-- where so many columns more are at most the width, they go on the line after `with_room`
record HasRoom {S : Type 0} (w n : ℕ) (r s : Laying S) : Type 0 where
  kept : IsIn w s
  room : line_taken s + n ≤ w
  spaces : s.spaces ≡ r.spaces

roomed : {S : Type 0} (w n : ℕ) (r : Laying S) → IsIn w r → n ≤ w → HasRoom w n r (with_room w n r)
roomed w n r h le =
    cond_both (nat_le (line_taken r + n) w) r (fresh r) (HasRoom w n r)
    (λ e. record { kept = h; room = le_when (line_taken r + n) w e; spaces = refl })
    (λ e. let f : IsFresh w r (fresh r) = freshened w r h in
    record { kept = f.kept; room = omega arith; spaces = f.spaces })

-- ---- what is written

written_in : {S : Type 0} (w : ℕ) (r : Laying S) (items : List (Item S)) → IsIn w r
    → line_taken r + line_columns items ≤ w → IsIn w (written r items)
written_in w r items h fits = record {
  done = h.done;
  taken = omega (arith, line_columns-append (line_text r) items, line_text-columns r);
  spaces = h.spaces;
  waits = h.waits;
}

without_spaces_in : {S : Type 0} (w : ℕ) (r : Laying S) → IsIn w r → IsIn w (without_spaces r)
without_spaces_in w r h = record { done = h.done; taken = h.taken; spaces = tt; waits = inl refl }

one_columns : {S : Type 0} (x : Item S) → line_columns (x ∷ []) ≡ item_columns x
one_columns x = omega (arith, line_columns-cons x [])

put_in : {S : Type 0} (w : ℕ) (r : Laying S) (x : Item S) → IsIn w r → item_columns x ≤ w → IsIn w (put w r x)
put_in w r x h le =
    let room : HasRoom w (item_columns x) r (with_room w (item_columns x) r) = roomed w (item_columns x) r h le in
    written_in w (with_room w (item_columns x) r) (x ∷ []) room.kept (omega (arith, one_columns x, room.room))

put_all_in : {S : Type 0} (w : ℕ) (r : Laying S) (xs : List (Item S)) → IsIn w r → AreNarrow w xs
    → IsIn w (put_all w r xs)
put_all_in w r [] h narrow = h
put_all_in w r (x ∷ xs) h narrow = put_all_in w (put w r x) xs (put_in w r x h narrow.0) narrow.1

-- ---- white space and tabs

tail_in : {S : Type 0} (w : ℕ) (r : Laying S) (items : List (Item S)) → IsIn w r
    → line_taken r + line_columns items ≤ w → IsIn w (record r { tail = r.tail ++ items })
tail_in w r items h fits = record {
  done = h.done;
  taken = omega (arith, line_columns-append r.tail items);
  spaces = h.spaces;
  waits = h.waits;
}

put_space_in : {S : Type 0} (w : ℕ) (r : Laying S) (x : Item S) → IsIn w r → 1 ≤ w → IsSpace x
    → IsIn w (put_space w r x)
put_space_in w r x h le is =
    let room : HasRoom w 1 r (with_room w 1 r) = roomed w 1 r h le in
    tail_in w (with_room w 1 r) (x ∷ []) room.kept (omega (arith, one_columns x, item_columns-space x is, room.room))

put_spaces_in : {S : Type 0} (w : ℕ) (r : Laying S) (xs : List (Item S)) → IsIn w r → 1 ≤ w → AreSpaces xs
    → IsIn w (fold (put_space w) r xs)
put_spaces_in w r [] h le are = h
put_spaces_in w r (x ∷ xs) h le are = put_spaces_in w (put_space w r x) xs (put_space_in w r x h le are.0) le are.1

blank_in : {S : Type 0} (w n : ℕ) (main further : S) (r : Laying S) → IsIn w r → 1 ≤ w
    → IsIn w (lay_blank n main further r)
blank_in w n main further r h le = record {
  done = h.done;
  taken = h.taken;
  spaces = AreSpaces-append r.spaces (replicate n (space (chosen r.goes_on main further))) h.spaces
      (AreSpaces-replicate n (chosen r.goes_on main further));
  waits = inr le;
}

after_stop_in : {S : Type 0} (w : ℕ) (r : Laying S) → IsIn w r → IsIn w (after_stop w r)
after_stop_in w r h = cond_both (nat_lt (line_taken r) w || (line_taken r % 8 == 0)) r (fresh r) (IsIn w) (λ e. h)
    (λ e. let f : IsFresh w r (fresh r) = freshened w r h in f.kept)

to_stop_fits : (w at : ℕ) → at ≤ w → at + to_stop w at ≤ w
to_stop_fits w at h = omega arith

tabbed_in : {S : Type 0} (w : ℕ) (tag : S) (r : Laying S) → IsIn w r → IsIn w (tabbed w tag r)
tabbed_in w tag r h =
    after_stop_in w (record r { tail = r.tail ++ replicate (to_stop w (line_taken r)) (space tag) })
    (tail_in w r (replicate (to_stop w (line_taken r)) (space tag)) h
    (omega (arith, line_columns-replicate (to_stop w (line_taken r)) tag, to_stop_fits w (line_taken r) h.taken)))

stop_in : {S : Type 0} (w : ℕ) (main further : S) (r : Laying S) → IsIn w r → 1 ≤ w
    → IsIn w (lay_stop w main further r)
stop_in {S = S} w main further r h le =
    let laid : Laying S = fold (put_space w) (without_spaces r) r.spaces in
    let room : HasRoom w 1 laid (with_room w 1 laid) = roomed w 1 laid
    (put_spaces_in w (without_spaces r) r.spaces (without_spaces_in w r h) le h.spaces) le in
    tabbed_in w (chosen r.goes_on main further) (with_room w 1 laid) room.kept

-- ---- a body

-- what is left of white space that is broken is narrower than the width
remaining_fits : (w n left : ℕ) → 1 ≤ w → n - (n - (n - left) % w) ≤ w
remaining_fits w n left h = grind arith

remaining_in : {S : Type 0} (w left : ℕ) (spaces : List (Item S)) → AreSpaces spaces → (spaces ≡ []) ⊎ (1 ≤ w)
    → line_columns (remaining w left spaces) ≤ w
remaining_in w left spaces are (inl none) =
    omega (
      arith,
      line_columns-drop (line_columns spaces - (line_columns spaces - left) % w) spaces are,
      ap line_columns none,
    )
remaining_in w left spaces are (inr le) =
    omega (
      arith,
      line_columns-drop (line_columns spaces - (line_columns spaces - left) % w) spaces are,
      remaining_fits w (line_columns spaces) left le,
    )

broken_anywhere_in : {S : Type 0} (w : ℕ) (r : Laying S) → IsIn w r → IsIn w (broken_anywhere w r)
broken_anywhere_in w r h =
    cond_both (nat_le (w - line_taken r) (line_columns r.spaces))
    (written (without_spaces (fresh r)) (remaining w (w - line_taken r) r.spaces))
    (without_spaces (fresh (written r r.spaces))) (IsIn w)
    (λ e. let f : IsFresh w r (fresh r) = freshened w r h in
    written_in w (without_spaces (fresh r)) (remaining w (w - line_taken r) r.spaces)
    (without_spaces_in w (fresh r) f.kept)
    (omega (arith, remaining_in w (w - line_taken r) r.spaces h.spaces h.waits, f.empty)))
    (λ e. let f : IsFresh w (written r r.spaces) (fresh (written r r.spaces)) = freshened w (written r r.spaces)
    (written_in w r r.spaces h (omega (arith, lt_unless (w - line_taken r) (line_columns r.spaces) e))) in
    without_spaces_in w (fresh (written r r.spaces)) f.kept)

broken_at_white_in : {S : Type 0} (w : ℕ) (r : Laying S) → IsIn w r → IsIn w (broken_at_white r)
broken_at_white_in w r h =
    let f : IsFresh w (record r { tail = [] }) (fresh (record r { tail = [] })) = freshened w (record r { tail = [] })
    (record { done = h.done; taken = omega arith; spaces = h.spaces; waits = h.waits }) in
    without_spaces_in w (fresh (record r { tail = [] })) f.kept

broken_in : {S : Type 0} (w : ℕ) (wraps : Bool) (r : Laying S) → IsIn w r
    → IsIn w (if wraps then broken_at_white r else broken_anywhere w r)
broken_in w true r h = broken_at_white_in w r h
broken_in w false r h = broken_anywhere_in w r h

items_in : {S : Type 0} (w : ℕ) (wraps : Bool) (items : List (Item S)) (r : Laying S) → IsIn w r → AreNarrow w items
    → IsIn w (lay_items w wraps items r)
items_in w wraps items r h narrow =
    cond_both (nat_le (taken r + line_columns items) w) (written (without_spaces r) (r.spaces ++ items))
    (put_all w (if wraps then broken_at_white r else broken_anywhere w r) items) (IsIn w)
    (λ e. written_in w (without_spaces r) (r.spaces ++ items) (without_spaces_in w r h)
    (omega (arith, line_columns-append r.spaces items, le_when (taken r + line_columns items) w e)))
    (λ e. put_all_in w (if wraps then broken_at_white r else broken_anywhere w r) items (broken_in w wraps r h) narrow)

or_false : (a b : Bool) → (a || b) ≡ false → (a ≡ false) × (b ≡ false)
or_false true b e = cc
or_false false b e = (refl, e)

tagged_narrow : {S : Type 0} (w : ℕ) (wraps : Bool) (before : ℕ) (t : Tagging S) (word : List (Source S))
    → has_wide_letter w word ≡ false → AreNarrow w t.items → AreNarrow w (fold (tag_one w wraps before) t word).items
tagged_narrow w wraps before t [] e narrow = narrow
tagged_narrow w wraps before t (letter c main further ∷ rest) e narrow =
    let both : (nat_lt w (width_of c) ≡ false) × (has_wide_letter w rest ≡ false)
    = or_false (nat_lt w (width_of c)) (has_wide_letter w rest) e in
    tagged_narrow w wraps before (tag_one w wraps before t (letter c main further)) rest both.1
    (AreNarrow-append w t.items
    (character c (chosen (tag_one w wraps before t (letter c main further)).goes_on main further) ∷ [])
    narrow (le_unless w (width_of c) both.0, tt))
tagged_narrow w wraps before t (fragment name ∷ rest) e narrow =
    tagged_narrow w wraps before (tag_one w wraps before t (fragment name)) rest e
    (AreNarrow-append w t.items (marker name ∷ []) narrow (omega arith, tt))

body_in : {S : Type 0} (w : ℕ) (wraps : Bool) (word : List (Source S)) (r : Laying S) → IsIn w r
    → has_wide_letter w word ≡ false → IsIn w (lay_body w wraps word r)
body_in {S = S} w wraps word r h e =
    let room : HasRoom w 0 r (with_room w 0 r) = roomed w 0 r h (omega arith) in
    let items : List (Item S) = (tagged_body w wraps (with_room w 0 r) word).items in
    let k : IsIn w (lay_items w wraps items (with_room w 0 r)) = items_in w wraps items (with_room w 0 r) room.kept
    (tagged_narrow w wraps (taken (with_room w 0 r)) (record { items = []; goes_on = (with_room w 0 r).goes_on })
    word e tt) in
    record { done = k.done; taken = k.taken; spaces = k.spaces; waits = k.waits }

-- ---- parts

-- white space and tabs are there only where there are columns
abbrev pub ArePartsIn : {S : Type 0} → ℕ → List (Part S) → Type 0
ArePartsIn w [] = Unit {0}
ArePartsIn w (blank n main further ∷ ps) = (1 ≤ w) × ArePartsIn w ps
ArePartsIn w (stop main further ∷ ps) = (1 ≤ w) × ArePartsIn w ps
ArePartsIn w (body word ∷ ps) = ArePartsIn w ps

ArePartsIn-append : {S : Type 0} (w : ℕ) (ps qs : List (Part S)) → ArePartsIn w ps → ArePartsIn w qs
    → ArePartsIn w (ps ++ qs)
ArePartsIn-append w [] qs hp hq = hq
ArePartsIn-append w (blank n main further ∷ ps) qs hp hq = (hp.0, ArePartsIn-append w ps qs hp.1 hq)
ArePartsIn-append w (stop main further ∷ ps) qs hp hq = (hp.0, ArePartsIn-append w ps qs hp.1 hq)
ArePartsIn-append w (body word ∷ ps) qs hp hq = ArePartsIn-append w ps qs hp hq

abbrev HasColumns : ℕ → Kind → Type 0
HasColumns w solid = Unit {0}
HasColumns w white = 1 ≤ w
HasColumns w tab = 1 ≤ w
HasColumns w cut = Unit {0}
HasColumns w nothing = Unit {0}

cut_or_nothing : (w : ℕ) (wraps : Bool) → HasColumns w (if wraps then cut else nothing)
cut_or_nothing w true = tt
cut_or_nothing w false = tt

not_zero : (w : ℕ) (b : Bool) → ((w == 0) || b) ≡ false → 1 ≤ w
not_zero w b e = grind (arith, nat_tests)

kind_has_columns : (w : ℕ) (wraps : Bool) (c : ℕ) → HasColumns w (kind_of w wraps c)
unfolding kind_of
kind_has_columns w wraps c = cond_both (c == 0x9) _ _ (HasColumns w)
    (λ e. cond_both (w == 0) cut tab (HasColumns w) (λ z. tt) (λ z. grind (arith, nat_tests)))
    (λ e. cond_both (is_white_space c) _ _ (HasColumns w)
    (λ is. cond_both ((w == 0) || not (is_some (columns_of c))) _ white (HasColumns w) (λ z. cut_or_nothing w wraps)
    (λ z. not_zero w (not (is_some (columns_of c))) z))
    (λ no_space. cond_both (c == 0x200B) _ _ (HasColumns w) (λ z. cut_or_nothing w wraps)
    (λ z. cond_both (is_some (columns_of c)) solid nothing (HasColumns w) (λ s. tt) (λ s. tt))))

ended_word_in : {S : Type 0} (w : ℕ) (word : List (Source S)) → ArePartsIn w (ended_word word)
ended_word_in w word = cond_both (is_begun word) (body word ∷ []) [] (ArePartsIn w) (λ e. tt) (λ e. tt)

parts_at_in : {S : Type 0} (w : ℕ) (k : Kind) (inside : Bool) (c : ℕ) (main further : S) (word : List (Source S))
    → HasColumns w k → ArePartsIn w (parts_at k inside c main further word)
parts_at_in w solid inside c main further word h = tt
parts_at_in w white true c main further word h = tt
parts_at_in w white false c main further word h =
    ArePartsIn-append w (ended_word word) (blank (width_of c) main further ∷ []) (ended_word_in w word) (h, tt)
parts_at_in w tab inside c main further word h =
    ArePartsIn-append w (ended_word word) (stop main further ∷ []) (ended_word_in w word) (h, tt)
parts_at_in w cut inside c main further word h = ended_word_in w word
parts_at_in w nothing inside c main further word h = tt

parts_in : {S : Type 0} (w : ℕ) (wraps : Bool) (word line : List (Source S)) →
    ArePartsIn w (parts_after w wraps word line)
parts_in w wraps word [] = ended_word_in w word
parts_in w wraps word (letter c main further ∷ rest) =
    ArePartsIn-append w (parts_at (kind_of w wraps c) (goes_over_white wraps word) c main further word)
    (parts_after w wraps (word_at (kind_of w wraps c) (goes_over_white wraps word) c main further word) rest)
    (parts_at_in w (kind_of w wraps c) (goes_over_white wraps word) c main further word (kind_has_columns w wraps c))
    (parts_in w wraps (word_at (kind_of w wraps c) (goes_over_white wraps word) c main further word) rest)
parts_in w wraps word (fragment name ∷ rest) = parts_in w wraps (word ++ fragment name ∷ []) rest

all_in : {S : Type 0} (w : ℕ) (wraps : Bool) (r : Laying S) (ps : List (Part S)) → IsIn w r → ArePartsIn w ps
    → has_wide_body w ps ≡ false → IsIn w (fold (lay_part w wraps) r ps)
all_in w wraps r [] h are e = h
all_in w wraps r (blank n main further ∷ ps) h are e =
    all_in w wraps (lay_blank n main further r) ps (blank_in w n main further r h are.0) are.1 e
all_in w wraps r (stop main further ∷ ps) h are e =
    all_in w wraps (lay_stop w main further r) ps (stop_in w main further r h are.0) are.1 e
all_in w wraps r (body word ∷ ps) h are e =
    let both : (has_wide_letter w word ≡ false) × (has_wide_body w ps ≡ false)
    = or_false (has_wide_letter w word) (has_wide_body w ps) e in
    all_in w wraps (lay_body w wraps word r) ps (body_in w wraps word r h both.0) are both.1

nothing_in : {S : Type 0} (w : ℕ) → IsIn w (nothing_laid {S = S})
nothing_in w = record {
  done = All-nil (λ items. line_columns items ≤ w);
  taken = omega arith;
  spaces = tt;
  waits = inl refl;
}

pub lines_keep_the_width : {S : Type 0} (w : ℕ) (wraps : Bool) (line : List (Source S))
    → is_too_wide w wraps line ≡ false → All (λ items. line_columns items ≤ w) (preserved_lines w wraps line)
unfolding preserved_lines is_too_wide
lines_keep_the_width {S = S} w wraps line e =
    let before : Laying S = fold (lay_part w wraps) nothing_laid (parts w wraps line) in
    let f : IsFresh w before (fresh before) = freshened w before (all_in w wraps nothing_laid (parts w wraps line)
    (nothing_in w) (parts_in w wraps [] (trimmed w wraps line)) e) in
    f.kept.done
