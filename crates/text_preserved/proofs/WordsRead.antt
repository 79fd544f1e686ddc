-- Words and the spaces between them that go on the line at hand are read as they are laid there all at once.
use Rattle.std.proofs.Common.{◌≡◌, ◌+◌, ◌≤◌, [], ◌∷◌, ◌++◌, if◌then◌else◌, ◌∙◌, Bool, List, ap, append-nil}
use Rattle.std.proofs.Common.{append_assoc, arith, false, inl, inr, refl, subst, sym, true, ℕ}
use Rattle.std.specs.Prelude.{◌⊎◌, not, ◌||◌, ◌&&◌, ◌==◌, nat_lt, is_some}
use Rattle.std.proofs.lemmas.List.{map-append}
use Rattle.std.proofs.lemmas.List.Sums.{fold-append, sum_by-cons}
use Rattle.text_lines.specs.Columns.{columns_of, width_of, text_columns}
use Rattle.text_lines.specs.Tagged.{Item, character, tagged, line_columns}
use Rattle.text_pieces.specs.Sources.{letter, sourced}
use Rattle.text_preserved.specs.Preserved.{Kind, Laying, broken_at_white, chosen, cut, fresh, is_solid, kind_of}
use Rattle.text_preserved.specs.Preserved.{lay_blank, line_taken, line_text, put_all, solid, space, taken, white}
use Rattle.text_preserved.specs.Preserved.{without_spaces, written}
use Rattle.text_preserved.specs.Pass.{Pass, begins, blanked, closed, ended_body, lettered, read_all, read_at}
use Rattle.text_preserved.specs.Pass.{read_letter, read_source}
use Rattle.text_preserved.specs.Fronts.{AreWords, AreWordsAndSpaces, StartsWithSpace, WordsFit, ends_solid, has_wider}
use Rattle.text_preserved.specs.Fronts.{words_laid}
use Rattle.text_preserved.proofs.ColumnLemmas.{le_is_true, lt_is_false, width_of-space}
use Rattle.text_pieces.proofs.ItemColumns.{line_columns-append}
use Rattle.text_preserved.proofs.LayingPlain.{space_is_white}
use Rattle.text_preserved.proofs.ReadingLemmas.{all_framed}
use Rattle.text_preserved.proofs.BodyLemmas.{or_none, or_assoc}

-- a body at hand; and none
abbrev inside : {S : Type 0} → ℕ → Laying S → List (Item S) → Bool → Pass S
inside width r word wide = record {
  width = width;
  wraps = true;
  rows = r;
  word = word;
  begun = true;
  goes_on = r.goes_on;
  wide = wide;
}

abbrev outside : {S : Type 0} → ℕ → Laying S → Bool → Bool → Pass S
outside width r on wide = record {
  width = width;
  wraps = true;
  rows = r;
  word = [];
  begun = false;
  goes_on = on;
  wide = wide;
}

-- the items after the line, and the white space that waits
abbrev with_items : {S : Type 0} → Laying S → List (Item S) → Laying S
with_items r items = record r { line = line_text r ++ (r.spaces ++ items); tail = []; spaces = [] }

-- all of it laid
abbrev settled : {S : Type 0} → ℕ → Laying S → List (Item S) → Bool → Pass S
settled width r items wide = outside width (with_items r items) r.goes_on wide

-- a body that goes on the line ends there
closes_here : {S : Type 0} (width : ℕ) (r : Laying S) (word : List (Item S)) (wide : Bool)
    → taken r + line_columns word ≤ width → closed (inside width r word wide) ≡ settled width r word wide
closes_here width r word wide fits =
    ap (λ b. outside width (record (if b then written (without_spaces r) (r.spaces ++ word)
    else put_all width (broken_at_white r) word) { goes_on = r.goes_on }) r.goes_on wide)
    (le_is_true (taken r + line_columns word) width fits)

-- a space after it
abbrev with_space : {S : Type 0} → Laying S → S → Laying S
with_space r tag = record r { spaces = r.spaces ++ space tag ∷ [] }

blanked_here : {S : Type 0} (width : ℕ) (r : Laying S) (on wide : Bool) (main further : S)
    → blanked 0x20 main further (outside width r on wide)
    ≡ outside width (with_space r (chosen r.goes_on main further)) on wide
blanked_here width r on wide main further =
    ap (λ n. outside width (lay_blank n main further r) on wide) width_of-space

lettered_here : {S : Type 0} (width c : ℕ) (r : Laying S) (word : List (Item S)) (wide : Bool) (main further : S)
    → lettered c main further (inside width r word wide)
    ≡ inside width r (word ++ character c (chosen r.goes_on main further) ∷ []) (wide || nat_lt width (width_of c))
lettered_here width c r word wide main further =
    ap (λ b. record {
      width = width;
      wraps = true;
      rows = r;
      word = word ++ character c (chosen b main further) ∷ [];
      begun = true;
      goes_on = b;
      wide = wide || nat_lt width (width_of c);
    }) (or_none r.goes_on)

begins_here : {S : Type 0} (width : ℕ) (r : Laying S) (on wide : Bool) → line_taken r ≤ width
    → begins (outside width r on wide) ≡ inside width r [] wide
begins_here width r on wide fits =
    ap (λ b. record {
      width = width;
      wraps = true;
      rows = if b then r else fresh r;
      word = [];
      begun = true;
      goes_on = r.goes_on;
      wide = wide;
    }) (le_is_true (line_taken r + 0) width (omega (arith, fits)))

-- ---- the words

record BothRead {S : Type 0} (width : ℕ) (main further : S) (cs : List ℕ) : Type 0 where
  within : (r : Laying S) (word : List (Item S)) (wide : Bool)
      → taken r + line_columns word + text_columns cs ≤ width → ends_solid width true cs ≡ true
      → closed (read_all (inside width r word wide) (sourced cs main further))
      ≡ settled width r (word ++ tagged cs (chosen r.goes_on main further)) (wide || has_wider width cs)
  before : (r : Laying S) (on wide : Bool)
      → taken r + text_columns cs ≤ width → ends_solid width false cs ≡ true
      → closed (read_all (outside width r on wide) (sourced cs main further))
      ≡ settled width r (tagged cs (chosen r.goes_on main further)) (wide || has_wider width cs)

same_settled : {S : Type 0} (width : ℕ) (r : Laying S) (xs ys : List (Item S)) (a b : Bool) → xs ≡ ys → a ≡ b
    → settled width r xs a ≡ settled width r ys b
same_settled width r xs ys a b h e = ap (λ items. settled width r items a) h ∙ ap (λ x. settled width r ys x) e

one_more : {S : Type 0} (word : List (Item S)) (c : ℕ) (cs : List ℕ) (tag : S)
    → (word ++ character c tag ∷ []) ++ tagged cs tag ≡ word ++ tagged (c ∷ cs) tag
one_more word c cs tag = append_assoc word (character c tag ∷ []) (tagged cs tag)

on_solid : {S : Type 0} (width : ℕ) (main further : S) (c : ℕ) (cs : List ℕ) → kind_of width true c ≡ solid
    → BothRead width main further cs → BothRead width main further (c ∷ cs)
on_solid width main further c cs is rest = record {
  within = λ r word wide fits ends.
      let tag = chosen r.goes_on main further in
      let both = sum_by-cons width_of c cs in
      let one = line_columns-append word (character c tag ∷ []) in
      let alone = sum_by-cons width_of c [] in
      ap (λ k. closed (read_all (read_at k false c main further (inside width r word wide)) (sourced cs main further)))
      is
      ∙ ap (λ p. closed (read_all p (sourced cs main further))) (lettered_here width c r word wide main further)
      ∙ rest.within r (word ++ character c tag ∷ []) (wide || nat_lt width (width_of c))
      (omega (arith, fits, both, one, alone)) (sym (ap (λ k. ends_solid width (is_solid k) cs) is) ∙ ends)
      ∙ same_settled width r _ _ _ _ (one_more word c cs tag)
      (or_assoc wide (nat_lt width (width_of c)) (has_wider width cs));
  before = λ r on wide fits ends.
      let tag = chosen r.goes_on main further in
      let both = sum_by-cons width_of c cs in
      let alone = sum_by-cons width_of c [] in
      ap (λ k. closed (read_all (read_at k false c main further (outside width r on wide)) (sourced cs main further)))
      is
      ∙ ap (λ p. closed (read_all (lettered c main further p) (sourced cs main further)))
      (begins_here width r on wide (omega (arith, fits)))
      ∙ ap (λ p. closed (read_all p (sourced cs main further))) (lettered_here width c r [] wide main further)
      ∙ rest.within r (character c tag ∷ []) (wide || nat_lt width (width_of c))
      (omega (arith, fits, both, alone)) (sym (ap (λ k. ends_solid width (is_solid k) cs) is) ∙ ends)
      ∙ same_settled width r _ _ _ _ (one_more [] c cs tag)
      (or_assoc wide (nat_lt width (width_of c)) (has_wider width cs));
}

space_in_room : (width : ℕ) (cs : List ℕ) (n : ℕ) → n + text_columns (0x20 ∷ cs) ≤ width → 1 ≤ width
space_in_room width cs n fits = omega (arith, fits, sum_by-cons width_of 0x20 cs, width_of-space)

space_not_wide : (width : ℕ) (wide : Bool) (cs : List ℕ) → 1 ≤ width
    → (wide || has_wider width cs) ≡ (wide || has_wider width (0x20 ∷ cs))
space_not_wide width wide cs some =
    sym (ap (λ b. wide || (b || has_wider width cs))
    (lt_is_false width (width_of 0x20) (omega (arith, some, width_of-space))))

-- the space stands after the word, and what follows after it
after_space : {S : Type 0} (xs spaces word rest : List (Item S)) (x : Item S)
    → ((xs ++ (spaces ++ word)) ++ []) ++ (x ∷ rest) ≡ xs ++ (spaces ++ (word ++ x ∷ rest))
after_space xs spaces word rest x =
    ap (λ l. l ++ (x ∷ rest)) (append-nil (xs ++ (spaces ++ word)))
    ∙ append_assoc xs (spaces ++ word) (x ∷ rest) ∙ ap (λ l. xs ++ l) (append_assoc spaces word (x ∷ rest))

on_space : {S : Type 0} (width : ℕ) (main further : S) (cs : List ℕ)
    → BothRead width main further cs → BothRead width main further (0x20 ∷ cs)
on_space width main further cs rest = record {
  within = λ r word wide fits ends.
      let tag = chosen r.goes_on main further in
      let some = space_in_room width cs (taken r + line_columns word) fits in
      let is = space_is_white width true some in
      let both = sum_by-cons width_of 0x20 cs in
      let alone = sum_by-cons width_of 0x20 [] in
      let line = line_columns-append (line_text r) (r.spaces ++ word) in
      let text = line_columns-append r.line r.tail in
      let held = line_columns-append r.spaces word in
      ap (λ k. closed (read_all (read_at k false 0x20 main further (inside width r word wide))
      (sourced cs main further))) is
      ∙ ap (λ p. closed (read_all (blanked 0x20 main further p) (sourced cs main further)))
      (closes_here width r word wide (omega (arith, fits)))
      ∙ ap (λ p. closed (read_all p (sourced cs main further)))
      (blanked_here width (with_items r word) r.goes_on wide main further)
      ∙ rest.before (with_space (with_items r word) tag) r.goes_on wide
      (omega (arith, fits, both, alone, line, text, held)) (sym (ap (λ k. ends_solid width (is_solid k) cs) is) ∙ ends)
      ∙ ap (λ l. outside width (record r { line = l; tail = []; spaces = [] }) r.goes_on (wide || has_wider width cs))
      (after_space (line_text r) r.spaces word (tagged cs tag) (space tag))
      ∙ ap (λ b. settled width r (word ++ tagged (0x20 ∷ cs) tag) b) (space_not_wide width wide cs some);
  before = λ r on wide fits ends.
      let tag = chosen r.goes_on main further in
      let some = space_in_room width cs (taken r) fits in
      let is = space_is_white width true some in
      let both = sum_by-cons width_of 0x20 cs in
      let alone = sum_by-cons width_of 0x20 [] in
      let held = line_columns-append r.spaces (space tag ∷ []) in
      ap (λ k. closed (read_all (read_at k false 0x20 main further (outside width r on wide))
      (sourced cs main further))) is
      ∙ ap (λ p. closed (read_all p (sourced cs main further))) (blanked_here width r on wide main further)
      ∙ rest.before (with_space r tag) on wide (omega (arith, fits, both, alone, held))
      (sym (ap (λ k. ends_solid width (is_solid k) cs) is) ∙ ends)
      ∙ ap (λ l. outside width (record r { line = line_text r ++ l; tail = []; spaces = [] }) r.goes_on
      (wide || has_wider width cs)) (append_assoc r.spaces (space tag ∷ []) (tagged cs tag))
      ∙ ap (λ b. settled width r (tagged (0x20 ∷ cs) tag) b) (space_not_wide width wide cs some);
}

both_read : {S : Type 0} (width : ℕ) (main further : S) (cs : List ℕ) → AreWordsAndSpaces width cs
    → BothRead width main further cs
both_read width main further [] all = record {
  within = λ r word wide fits ends.
      closes_here width r word wide (omega (arith, fits))
      ∙ same_settled width r _ _ _ _ (sym (append-nil word)) (sym (or_none wide));
  before = λ r on wide fits ends. cc;
}
both_read width main further (c ∷ cs) (inl is, all) =
    on_solid width main further c cs is (both_read width main further cs all)
both_read width main further (c ∷ cs) (inr is, all) =
    subst (λ d. BothRead width main further (d ∷ cs)) (sym is)
    (on_space width main further cs (both_read width main further cs all))

-- ---- what stands after them begins with a space

space_kinds : (is_narrow has_columns : Bool) → ((if is_narrow || not has_columns then cut else white) ≡ white)
    ⊎ ((if is_narrow || not has_columns then cut else white) ≡ cut)
space_kinds true has_columns = inr refl
space_kinds false true = inl refl
space_kinds false false = inr refl

space_is : (width : ℕ) → (kind_of width true 0x20 ≡ white) ⊎ (kind_of width true 0x20 ≡ cut)
unfolding kind_of
space_is width = space_kinds (width == 0) (is_some (columns_of 0x20))

-- a space ends a body, so it is read as after the body's end
ended_before : {S : Type 0} (k : Kind) (main further : S) (m : Pass S) → (k ≡ white) ⊎ (k ≡ cut) → m.begun ≡ true
    → read_at k false 0x20 main further (ended_body m) ≡ read_at k false 0x20 main further m
ended_before k main further m (inl is) begun =
    ap (λ x. read_at x false 0x20 main further (ended_body m)) is
    ∙ ap (λ b. blanked 0x20 main further (if b then ended_body m else m)) (sym begun)
    ∙ ap (λ x. read_at x false 0x20 main further m) (sym is)
ended_before k main further m (inr is) begun =
    ap (λ x. read_at x false 0x20 main further (ended_body m)) is
    ∙ ap (λ b. if b then ended_body m else m) (sym begun)
    ∙ ap (λ x. read_at x false 0x20 main further m) (sym is)

space_read : {S : Type 0} (main further : S) (m : Pass S) (begun : Bool) → m.begun ≡ begun → m.wraps ≡ true
    → read_letter 0x20 main further (if begun then ended_body m else m) ≡ read_letter 0x20 main further m
space_read main further m false e wraps = refl
space_read main further m true e wraps =
    ap (λ w. read_at (kind_of m.width w 0x20) (not w && false) 0x20 main further (ended_body m)) wraps
    ∙ ended_before (kind_of m.width true 0x20) main further m (space_is m.width) e
    ∙ ap (λ w. read_at (kind_of m.width w 0x20) (not w && m.begun) 0x20 main further m) (sym wraps)

after_read : {S : Type 0} (main further : S) (m : Pass S) (cs : List ℕ) → StartsWithSpace cs → m.wraps ≡ true
    → read_all (closed m) (sourced cs main further) ≡ read_all m (sourced cs main further)
after_read main further m cs starts wraps =
    ap (λ l. read_all (closed m) (sourced l main further)) starts.whole
    ∙ ap (λ x. read_all x (sourced starts.after main further)) (space_read main further m m.begun refl wraps)
    ∙ ap (λ l. read_all m (sourced l main further)) (sym starts.whole)

is_outside : {S : Type 0} (p : Pass S) → p.wraps ≡ true → p.begun ≡ false → p.word ≡ []
    → p ≡ outside p.width p.rows p.goes_on p.wide
is_outside p wraps begun word =
    ap (λ b. record p { wraps = b }) wraps
    ∙ ap (λ b. record p { wraps = true; begun = b }) begun
    ∙ ap (λ items. record p { wraps = true; begun = false; word = items }) word

-- what is left reads on to the same
pub words_left : {S : Type 0} (here trailing all : List ℕ) (main further : S) (p q : Pass S) → all ≡ here ++ trailing
    → p.wraps ≡ true → p.begun ≡ false → p.word ≡ [] → (room : ℕ) → room + taken p.rows ≤ p.width
    → AreWords p.width room here trailing → q ≡ words_laid here main further p
    → read_all q (sourced trailing main further) ≡ read_all p (sourced all main further)
words_left here trailing all main further p q whole wraps begun word room fits words laid =
    let o = outside p.width p.rows p.goes_on p.wide in
    let is : p ≡ o = is_outside p wraps begun word in
    let both = both_read p.width main further here words.all in
    let m = read_all p (sourced here main further) in
    ap (λ x. read_all x (sourced trailing main further)) (laid ∙ ap (words_laid here main further) is
    ∙ sym (both.before p.rows p.goes_on p.wide (omega (arith, words.columns, fits)) words.word)
    ∙ ap (λ x. closed (read_all x (sourced here main further))) (sym is))
    ∙ after_read main further m trailing words.ends ((all_framed p (sourced here main further)).wraps ∙ wraps)
    ∙ sym (fold-append read_source p (sourced here main further) (sourced trailing main further))
    ∙ ap (read_all p) (sym (map-append (λ c. letter c main further) here trailing))
    ∙ ap (λ cs. read_all p (sourced cs main further)) (sym whole)

pub words_read : {S : Type 0} (here trailing all : List ℕ) (main further : S) (p q : Pass S) (before : ℕ)
    → all ≡ here ++ trailing → p.wraps ≡ true → p.begun ≡ false → p.word ≡ [] → before ≡ taken p.rows
    → WordsFit p.width before here trailing → (here ≡ [] → ⊥) → q ≡ words_laid here main further p
    → read_all q (sourced trailing main further) ≡ read_all p (sourced all main further)
words_read here trailing all main further p q before whole wraps begun word is (inl none) some laid = absurd (some none)
words_read here trailing all main further p q before whole wraps begun word is (inr words) some laid =
    words_left here trailing all main further p q whole wraps begun word words.0 (omega (arith, is, words.1)) words.2
    laid
