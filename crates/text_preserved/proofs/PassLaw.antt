-- One pass over a source line lays its parts.
use Rattle.std.proofs.Common.{◌≡◌, ◌+◌, ◌&&◌, ◌||◌, [], ◌∷◌, ◌++◌, ◌∙◌, Bool, List, ap, append-nil, append_assoc, false}
use Rattle.std.proofs.Common.{nat_le, nat_lt, not, refl, subst, sym, true, ℕ}
use Rattle.std.specs.Prelude.{fold, if◌then◌else◌}
use Rattle.std.proofs.lemmas.Bool.{false≢true}
use Rattle.std.proofs.lemmas.List.Sums.{fold-append}
use Rattle.text_lines.specs.Columns.{width_of}
use Rattle.text_lines.specs.Tagged.{Item, marker}
use Rattle.text_pieces.specs.Sources.{Source, letter, fragment}
use Rattle.text_preserved.specs.Preserved.{Kind, Laying, Part, Tagging, blank, body, cut, ended_word, fresh}
use Rattle.text_preserved.specs.Preserved.{goes_over_white, has_text, has_wide_body, has_wide_letter, is_begun}
use Rattle.text_preserved.specs.Preserved.{is_too_wide, kind_of, laid, lay_blank, lay_body, lay_items, lay_part}
use Rattle.text_preserved.specs.Preserved.{lay_stop, line_taken, line_text, markers_of, names_of, nothing, nothing_laid}
use Rattle.text_preserved.specs.Preserved.{parts, parts_after, parts_at, preserved_lines, preserved_waiting, solid}
use Rattle.text_preserved.specs.Preserved.{stop, tab, tag_one, tagged_body, taken, trimmed, waiting_word, white}
use Rattle.text_preserved.specs.Preserved.{with_room, word_after, word_at}
use Rattle.text_preserved.specs.Pass.{Pass, begins, blanked, closed, ended_body, entered, finished, left_markers}
use Rattle.text_preserved.specs.Pass.{lettered, new_pass, read_all, read_at, read_letter, read_marker, stopped}

-- ---- tests

or_assoc : (a b c : Bool) → ((a || b) || c) ≡ (a || (b || c))
or_assoc true b c = refl
or_assoc false b c = refl

or_false : (a : Bool) → (a || false) ≡ a
or_false true = refl
or_false false = refl

-- ---- words

begun-letter : {S : Type 0} (word : List (Source S)) (c : ℕ) (main further : S)
    → is_begun (word ++ letter c main further ∷ []) ≡ true
begun-letter [] c main further = refl
begun-letter (letter d m f ∷ word) c main further = refl
begun-letter (fragment name ∷ word) c main further = begun-letter word c main further

begun-fragment : {S : Type 0} (word : List (Source S)) (name : List ℕ)
    → is_begun (word ++ fragment name ∷ []) ≡ is_begun word
begun-fragment [] name = refl
begun-fragment (letter d m f ∷ word) name = refl
begun-fragment (fragment other ∷ word) name = begun-fragment word name

-- the markers of a word
abbrev pub bare_items : {S : Type 0} → List (Source S) → List (Item S)
bare_items [] = []
bare_items (letter c main further ∷ word) = bare_items word
bare_items (fragment name ∷ word) = marker name ∷ bare_items word

bare-fragment : {S : Type 0} (word : List (Source S)) (name : List ℕ)
    → bare_items (word ++ fragment name ∷ []) ≡ bare_items word ++ marker name ∷ []
bare-fragment [] name = refl
bare-fragment (letter d m f ∷ word) name = bare-fragment word name
bare-fragment (fragment other ∷ word) name = ap (λ items. marker other ∷ items) (bare-fragment word name)

bare_names : {S : Type 0} (word : List (Source S)) → markers_of (bare_items word) ≡ names_of word
bare_names [] = refl
bare_names (letter c main further ∷ word) = bare_names word
bare_names (fragment name ∷ word) = ap (λ names. name ∷ names) (bare_names word)

wide-letter : {S : Type 0} (width : ℕ) (word : List (Source S)) (c : ℕ) (main further : S)
    → has_wide_letter width (word ++ letter c main further ∷ [])
    ≡ (has_wide_letter width word || nat_lt width (width_of c))
wide-letter width [] c main further = or_false (nat_lt width (width_of c))
wide-letter width (letter d m f ∷ word) c main further =
    ap (λ b. nat_lt width (width_of d) || b) (wide-letter width word c main further)
    ∙ sym (or_assoc (nat_lt width (width_of d)) (has_wide_letter width word) (nat_lt width (width_of c)))
wide-letter width (fragment name ∷ word) c main further = wide-letter width word c main further

wide-fragment : {S : Type 0} (width : ℕ) (word : List (Source S)) (name : List ℕ)
    → has_wide_letter width (word ++ fragment name ∷ []) ≡ has_wide_letter width word
wide-fragment width [] name = refl
wide-fragment width (letter d m f ∷ word) name =
    ap (λ b. nat_lt width (width_of d) || b) (wide-fragment width word name)
wide-fragment width (fragment other ∷ word) name = wide-fragment width word name

wide-parts : {S : Type 0} (width : ℕ) (xs ys : List (Part S))
    → has_wide_body width (xs ++ ys) ≡ (has_wide_body width xs || has_wide_body width ys)
wide-parts width [] ys = refl
wide-parts width (blank n main further ∷ xs) ys = wide-parts width xs ys
wide-parts width (stop main further ∷ xs) ys = wide-parts width xs ys
wide-parts width (body word ∷ xs) ys =
    ap (λ b. has_wide_letter width word || b) (wide-parts width xs ys)
    ∙ sym (or_assoc (has_wide_letter width word) (has_wide_body width xs) (has_wide_body width ys))

-- ---- bodies and their tags

bare_tags : {S : Type 0} (width : ℕ) (wraps : Bool) (before : ℕ) (items : List (Item S)) (on : Bool)
    (word : List (Source S)) → is_begun word ≡ false
    → fold (tag_one width wraps before) (record { items = items; goes_on = on }) word
    ≡ record { items = items ++ bare_items word; goes_on = on }
bare_tags width wraps before items on [] none = ap (λ l. record { items = l; goes_on = on }) (sym (append-nil items))
bare_tags width wraps before items on (letter c main further ∷ word) none = absurd (false≢true (sym none))
bare_tags width wraps before items on (fragment name ∷ word) none =
    bare_tags width wraps before (items ++ marker name ∷ []) on word none
    ∙ ap (λ l. record { items = l; goes_on = on }) (append_assoc items (marker name ∷ []) (bare_items word))

room_goes_on : {S : Type 0} (width more : ℕ) (r : Laying S) → (with_room width more r).goes_on ≡ r.goes_on
room_goes_on width more r = by_room (nat_le (line_taken r + more) width) (has_text (line_text r))
  where
    by_room : (fits text : Bool) → (if fits then r else (if text
        then record r { done = r.done ++ line_text r ∷ []; line = []; tail = [] } else r)).goes_on ≡ r.goes_on
    by_room true text = refl
    by_room false true = refl
    by_room false false = refl

-- a body that has only markers so far
bare_body : {S : Type 0} (width : ℕ) (wraps : Bool) (r : Laying S) (word : List (Source S)) → is_begun word ≡ false
    → tagged_body width wraps (with_room width 0 r) word ≡ record { items = bare_items word; goes_on = r.goes_on }
bare_body width wraps r word none =
    bare_tags width wraps (taken (with_room width 0 r)) [] (with_room width 0 r).goes_on word none
    ∙ ap (λ on. record { items = bare_items word; goes_on = on }) (room_goes_on width 0 r)

tagged-one : {S : Type 0} (width : ℕ) (wraps : Bool) (r : Laying S) (word : List (Source S)) (x : Source S)
    → tagged_body width wraps r (word ++ x ∷ []) ≡ tag_one width wraps (taken r) (tagged_body width wraps r word) x
tagged-one width wraps r word x =
    fold-append (tag_one width wraps (taken r)) (record { items = []; goes_on = r.goes_on }) word (x ∷ [])

abbrev pub tagging_of : {S : Type 0} → Pass S → Tagging S
tagging_of p = record { items = p.word; goes_on = p.goes_on }

-- ---- where a pass stands

abbrev pub room_for : {S : Type 0} → ℕ → Laying S → Bool → Laying S
room_for width r begun = if begun then with_room width 0 r else r

-- The pass stands after what is laid and the word, and after such a body or none.
pub record StandsAt {S : Type 0} (width : ℕ) (wraps : Bool) (r : Laying S) (word : List (Source S)) (wide : Bool)
    (p : Pass S) : Type 0 where
  pub same_width : p.width ≡ width
  pub same_wraps : p.wraps ≡ wraps
  pub begun : p.begun ≡ is_begun word
  pub rows : p.rows ≡ room_for width r (is_begun word)
  pub tagged : is_begun word ≡ true → tagging_of p ≡ tagged_body width wraps (with_room width 0 r) word
  pub bare : is_begun word ≡ false → p.word ≡ bare_items word
  pub is_wide : p.wide ≡ (wide || has_wide_letter width word)

rewide : {S : Type 0} (width : ℕ) (wraps : Bool) (r : Laying S) (word : List (Source S)) (wide other : Bool)
    (p : Pass S)
    → wide ≡ other → StandsAt width wraps r word wide p → StandsAt width wraps r word other p
rewide width wraps r word wide other p same h = record {
  same_width = h.same_width;
  same_wraps = h.same_wraps;
  begun = h.begun;
  rows = h.rows;
  tagged = h.tagged;
  bare = h.bare;
  is_wide = h.is_wide ∙ ap (λ b. b || has_wide_letter width word) same;
}

-- ---- a character of a body

-- the tag of a character, by what the pass holds
tag_here : {S : Type 0} (width : ℕ) (wraps : Bool) (room : Laying S) (t : Tagging S) (p : Pass S) (x : Source S)
    → p.width ≡ width → p.wraps ≡ wraps → p.rows ≡ room → tagging_of p ≡ t
    → tag_one p.width p.wraps (taken p.rows) (tagging_of p) x ≡ tag_one width wraps (taken room) t x
tag_here width wraps room t p x same_width same_wraps rows tags =
    ap (λ w. tag_one w p.wraps (taken p.rows) (tagging_of p) x) same_width
    ∙ ap (λ b. tag_one width b (taken p.rows) (tagging_of p) x) same_wraps
    ∙ ap (λ k. tag_one width wraps (taken k) (tagging_of p) x) rows
    ∙ ap (λ u. tag_one width wraps (taken room) u x) tags

-- the body has begun, and this is its tagging
letter_at : {S : Type 0} (width : ℕ) (wraps : Bool) (r : Laying S) (word : List (Source S)) (wide : Bool) (p : Pass S)
    (c : ℕ) (main further : S) → p.width ≡ width → p.wraps ≡ wraps → p.begun ≡ true → p.rows ≡ with_room width 0 r
    → tagging_of p ≡ tagged_body width wraps (with_room width 0 r) word
    → p.wide ≡ (wide || has_wide_letter width word)
    → StandsAt width wraps r (word ++ letter c main further ∷ []) wide (lettered c main further p)
letter_at width wraps r word wide p c main further same_width same_wraps begun rows tags is_wide =
    let here = begun-letter word c main further in
    record {
      same_width = same_width;
      same_wraps = same_wraps;
      begun = begun ∙ sym here;
      rows = rows ∙ ap (room_for width r) (sym here);
      tagged = λ _. tag_here width wraps (with_room width 0 r) (tagged_body width wraps (with_room width 0 r) word) p
          (letter c main further) same_width same_wraps rows tags
          ∙ sym (tagged-one width wraps (with_room width 0 r) word (letter c main further));
      bare = λ none. absurd (false≢true (sym none ∙ here));
      is_wide = ap (λ b. b || nat_lt p.width (width_of c)) is_wide
          ∙ ap (λ w. (wide || has_wide_letter width word) || nat_lt w (width_of c)) same_width
          ∙ or_assoc wide (has_wide_letter width word) (nat_lt width (width_of c))
          ∙ ap (λ b. wide || b) (sym (wide-letter width word c main further));
    }

letter_read : {S : Type 0} (width : ℕ) (wraps : Bool) (r : Laying S) (word : List (Source S)) (wide : Bool) (p : Pass S)
    (c : ℕ) (main further : S) → StandsAt width wraps r word wide p
    → StandsAt width wraps r (word ++ letter c main further ∷ []) wide (lettered c main further (begins p))
letter_read width wraps r word wide p c main further h = by_begun p.begun refl
  where
    by_begun : (b : Bool) → p.begun ≡ b
        → StandsAt width wraps r (word ++ letter c main further ∷ []) wide
        (lettered c main further (if b then p else entered p))
    by_begun true is =
        let here = sym h.begun ∙ is in
        letter_at width wraps r word wide p c main further h.same_width h.same_wraps is
        (h.rows ∙ ap (room_for width r) here) (h.tagged here) h.is_wide
    by_begun false is =
        let none = sym h.begun ∙ is in
        let rows = h.rows ∙ ap (room_for width r) none in
        letter_at width wraps r word wide (entered p) c main further h.same_width h.same_wraps refl
        (ap (λ w. with_room w 0 p.rows) h.same_width ∙ ap (with_room width 0) rows)
        (ap (λ items. record { items = items; goes_on = p.rows.goes_on }) (h.bare none)
        ∙ ap (λ k. record { items = bare_items word; goes_on = k.goes_on }) rows
        ∙ sym (bare_body width wraps r word none)) h.is_wide

-- ---- the end of a body

ended_here : {S : Type 0} (width : ℕ) (wraps : Bool) (room : Laying S) (t : Tagging S) (p : Pass S)
    → p.width ≡ width → p.wraps ≡ wraps → p.rows ≡ room → tagging_of p ≡ t
    → record (lay_items p.width p.wraps p.word p.rows) { goes_on = p.goes_on }
    ≡ record (lay_items width wraps t.items room) { goes_on = t.goes_on }
ended_here width wraps room t p same_width same_wraps rows tags =
    ap (λ w. record (lay_items w p.wraps p.word p.rows) { goes_on = p.goes_on }) same_width
    ∙ ap (λ b. record (lay_items width b p.word p.rows) { goes_on = p.goes_on }) same_wraps
    ∙ ap (λ k. record (lay_items width wraps p.word k) { goes_on = p.goes_on }) rows
    ∙ ap (λ u. record (lay_items width wraps u.items room) { goes_on = u.goes_on }) tags

by_word : {S X : Type 0} (word : List (Source S)) (b : Bool) (x y : X) → is_begun word ≡ b
    → (if is_begun word then x else y) ≡ (if b then x else y)
by_word word b x y is = ap (λ t. if t then x else y) is

body_closed : {S : Type 0} (width : ℕ) (wraps : Bool) (r : Laying S) (word : List (Source S)) (wide : Bool) (p : Pass S)
    → StandsAt width wraps r word wide p
    → StandsAt width wraps (fold (lay_part width wraps) r (ended_word word)) (waiting_word word)
    (wide || has_wide_body width (ended_word word)) (closed p)
body_closed width wraps r word wide p h = by_begun p.begun refl
  where
    by_begun : (b : Bool) → p.begun ≡ b
        → StandsAt width wraps (fold (lay_part width wraps) r (ended_word word)) (waiting_word word)
        (wide || has_wide_body width (ended_word word)) (if b then ended_body p else p)
    by_begun true is =
        let here = sym h.begun ∙ is in
        let ends = by_word word true (body word ∷ []) [] here in
        let waits = by_word word true [] word here in
        subst (λ ps. StandsAt width wraps (fold (lay_part width wraps) r ps) (waiting_word word)
        (wide || has_wide_body width ps) (ended_body p)) (sym ends)
        (subst (λ ws. StandsAt width wraps (lay_body width wraps word r) ws
        (wide || has_wide_body width (body word ∷ [])) (ended_body p)) (sym waits) (record {
          same_width = h.same_width;
          same_wraps = h.same_wraps;
          begun = refl;
          rows = ended_here width wraps (with_room width 0 r) (tagged_body width wraps (with_room width 0 r) word) p
              h.same_width h.same_wraps (h.rows ∙ ap (room_for width r) here) (h.tagged here);
          tagged = λ some. absurd (false≢true some);
          bare = λ _. refl;
          is_wide = h.is_wide ∙ sym (or_false (wide || has_wide_letter width word))
              ∙ ap (λ b. (wide || b) || false) (sym (or_false (has_wide_letter width word)));
        }))
    by_begun false is =
        let none = sym h.begun ∙ is in
        let ends = by_word word false (body word ∷ []) [] none in
        let waits = by_word word false [] word none in
        subst (λ ps. StandsAt width wraps (fold (lay_part width wraps) r ps) (waiting_word word)
        (wide || has_wide_body width ps) p) (sym ends)
        (subst (λ ws. StandsAt width wraps r ws (wide || false) p) (sym waits)
        (rewide width wraps r word wide (wide || false) p (sym (or_false wide)) h))

waiting_bare : {S : Type 0} (word : List (Source S)) → is_begun (waiting_word word) ≡ false
waiting_bare word = by_begun (is_begun word) refl
  where
    by_begun : (b : Bool) → is_begun word ≡ b → is_begun (if b then [] else word) ≡ false
    by_begun true is = refl
    by_begun false is = is

-- ---- white space, tabs and markers

blank_read : {S : Type 0} (width : ℕ) (wraps : Bool) (r : Laying S) (word : List (Source S)) (wide : Bool) (p : Pass S)
    (c : ℕ) (main further : S) → is_begun word ≡ false → StandsAt width wraps r word wide p
    → StandsAt width wraps (lay_blank (width_of c) main further r) word wide (blanked c main further p)
blank_read width wraps r word wide p c main further none h = record {
  same_width = h.same_width;
  same_wraps = h.same_wraps;
  begun = h.begun;
  rows = ap (lay_blank (width_of c) main further) (h.rows ∙ ap (room_for width r) none)
      ∙ ap (room_for width (lay_blank (width_of c) main further r)) (sym none);
  tagged = λ some. absurd (false≢true (sym none ∙ some));
  bare = h.bare;
  is_wide = h.is_wide;
}

stop_read : {S : Type 0} (width : ℕ) (wraps : Bool) (r : Laying S) (word : List (Source S)) (wide : Bool) (p : Pass S)
    (main further : S) → is_begun word ≡ false → StandsAt width wraps r word wide p
    → StandsAt width wraps (lay_stop width main further r) word wide (stopped main further p)
stop_read width wraps r word wide p main further none h = record {
  same_width = h.same_width;
  same_wraps = h.same_wraps;
  begun = h.begun;
  rows = ap (λ w. lay_stop w main further p.rows) h.same_width
      ∙ ap (lay_stop width main further) (h.rows ∙ ap (room_for width r) none)
      ∙ ap (room_for width (lay_stop width main further r)) (sym none);
  tagged = λ some. absurd (false≢true (sym none ∙ some));
  bare = h.bare;
  is_wide = h.is_wide;
}

marker_read : {S : Type 0} (width : ℕ) (wraps : Bool) (r : Laying S) (word : List (Source S)) (wide : Bool) (p : Pass S)
    (name : List ℕ) → StandsAt width wraps r word wide p
    → StandsAt width wraps r (word ++ fragment name ∷ []) wide (read_marker name p)
marker_read width wraps r word wide p name h =
    let same = begun-fragment word name in
    record {
      same_width = h.same_width;
      same_wraps = h.same_wraps;
      begun = h.begun ∙ sym same;
      rows = h.rows ∙ ap (room_for width r) (sym same);
      tagged = λ some. ap (λ t. tag_one width wraps (taken (with_room width 0 r)) t (fragment name))
          (h.tagged (sym same ∙ some))
          ∙ sym (tagged-one width wraps (with_room width 0 r) word (fragment name));
      bare = λ none. ap (λ items. items ++ marker name ∷ []) (h.bare (sym same ∙ none)) ∙ sym (bare-fragment word name);
      is_wide = h.is_wide ∙ ap (λ b. wide || b) (sym (wide-fragment width word name));
    }

-- ---- a character

at_read : {S : Type 0} (width : ℕ) (wraps : Bool) (r : Laying S) (word : List (Source S)) (wide : Bool) (p : Pass S)
    (k : Kind) (inside : Bool) (c : ℕ) (main further : S) → StandsAt width wraps r word wide p
    → StandsAt width wraps (fold (lay_part width wraps) r (parts_at k inside c main further word))
    (word_at k inside c main further word) (wide || has_wide_body width (parts_at k inside c main further word))
    (read_at k inside c main further p)
at_read width wraps r word wide p solid inside c main further h =
    rewide width wraps r (word ++ letter c main further ∷ []) wide (wide || false) _ (sym (or_false wide))
    (letter_read width wraps r word wide p c main further h)
at_read width wraps r word wide p white true c main further h =
    rewide width wraps r (word ++ letter c main further ∷ []) wide (wide || false) _ (sym (or_false wide))
    (letter_read width wraps r word wide p c main further h)
at_read width wraps r word wide p white false c main further h =
    let ends = fold (lay_part width wraps) r (ended_word word) in
    subst (λ k. StandsAt width wraps k (waiting_word word)
    (wide || has_wide_body width (ended_word word ++ blank (width_of c) main further ∷ []))
    (blanked c main further (closed p)))
    (sym (fold-append (lay_part width wraps) r (ended_word word) (blank (width_of c) main further ∷ [])))
    (rewide width wraps (lay_blank (width_of c) main further ends) (waiting_word word)
    (wide || has_wide_body width (ended_word word)) _ _
    (ap (λ b. wide || b) (sym (wide-parts width (ended_word word) (blank (width_of c) main further ∷ [])
    ∙ or_false (has_wide_body width (ended_word word)))))
    (blank_read width wraps ends (waiting_word word) (wide || has_wide_body width (ended_word word)) (closed p) c main
    further (waiting_bare word) (body_closed width wraps r word wide p h)))
at_read width wraps r word wide p tab inside c main further h =
    let ends = fold (lay_part width wraps) r (ended_word word) in
    subst (λ k. StandsAt width wraps k (waiting_word word)
    (wide || has_wide_body width (ended_word word ++ stop main further ∷ []))
    (stopped main further (closed p)))
    (sym (fold-append (lay_part width wraps) r (ended_word word) (stop main further ∷ [])))
    (rewide width wraps (lay_stop width main further ends) (waiting_word word)
    (wide || has_wide_body width (ended_word word)) _ _
    (ap (λ b. wide || b) (sym (wide-parts width (ended_word word) (stop main further ∷ [])
    ∙ or_false (has_wide_body width (ended_word word)))))
    (stop_read width wraps ends (waiting_word word) (wide || has_wide_body width (ended_word word)) (closed p) main
    further (waiting_bare word) (body_closed width wraps r word wide p h)))
at_read width wraps r word wide p cut inside c main further h = body_closed width wraps r word wide p h
at_read width wraps r word wide p nothing inside c main further h =
    rewide width wraps r word wide (wide || false) p (sym (or_false wide)) h

read_here : {S : Type 0} (width : ℕ) (wraps : Bool) (r : Laying S) (word : List (Source S)) (wide : Bool) (p : Pass S)
    (c : ℕ) (main further : S) → StandsAt width wraps r word wide p
    → read_at (kind_of width wraps c) (goes_over_white wraps word) c main further p ≡ read_letter c main further p
read_here width wraps r word wide p c main further h =
    sym (ap (λ w. read_at (kind_of w p.wraps c) (not p.wraps && p.begun) c main further p) h.same_width
    ∙ ap (λ b. read_at (kind_of width b c) (not b && p.begun) c main further p) h.same_wraps
    ∙ ap (λ b. read_at (kind_of width wraps c) (not wraps && b) c main further p) h.begun)

-- ---- a source line

-- The pass has come to the end of these parts, and this word waits.
pub record EndsAt {S : Type 0} (width : ℕ) (wraps : Bool) (r : Laying S) (ps : List (Part S)) (word : List (Source S))
    (wide : Bool) (p : Pass S) : Type 0 where
  pub rows : p.rows ≡ fold (lay_part width wraps) r ps
  pub waits : markers_of p.word ≡ names_of word
  pub is_wide : p.wide ≡ (wide || has_wide_body width ps)

no_wide_letter : {S : Type 0} (width : ℕ) (word : List (Source S)) → is_begun word ≡ false
    → has_wide_letter width word ≡ false
no_wide_letter width [] none = refl
no_wide_letter width (letter c main further ∷ word) none = absurd (false≢true (sym none))
no_wide_letter width (fragment name ∷ word) none = no_wide_letter width word none

all_read : {S : Type 0} (width : ℕ) (wraps : Bool) (r : Laying S) (word : List (Source S)) (wide : Bool) (p : Pass S)
    (line : List (Source S)) → StandsAt width wraps r word wide p
    → EndsAt width wraps r (parts_after width wraps word line) (word_after width wraps word line) wide
    (closed (read_all p line))
all_read width wraps r word wide p [] h =
    let ends = body_closed width wraps r word wide p h in
    let bare = waiting_bare word in
    record {
      rows = ends.rows ∙ ap (room_for width (fold (lay_part width wraps) r (ended_word word))) bare;
      waits = ap markers_of (ends.bare bare) ∙ bare_names (waiting_word word);
      is_wide = ends.is_wide ∙ ap (λ b. (wide || has_wide_body width (ended_word word)) || b)
          (no_wide_letter width (waiting_word word) bare) ∙ or_false (wide || has_wide_body width (ended_word word));
    }
all_read width wraps r word wide p (letter c main further ∷ line) h =
    let k = kind_of width wraps c in
    let inside = goes_over_white wraps word in
    let here = parts_at k inside c main further word in
    let next = word_at k inside c main further word in
    let trailing = all_read width wraps (fold (lay_part width wraps) r here) next (wide || has_wide_body width here)
    (read_letter c main further p) line
    (subst (StandsAt width wraps (fold (lay_part width wraps) r here) next (wide || has_wide_body width here))
    (read_here width wraps r word wide p c main further h)
    (at_read width wraps r word wide p k inside c main further h)) in
    record {
      rows = trailing.rows ∙ sym (fold-append (lay_part width wraps) r here (parts_after width wraps next line));
      waits = trailing.waits;
      is_wide = trailing.is_wide
          ∙ or_assoc wide (has_wide_body width here) (has_wide_body width (parts_after width wraps next line))
          ∙ ap (λ b. wide || b) (sym (wide-parts width here (parts_after width wraps next line)));
    }
all_read width wraps r word wide p (fragment name ∷ line) h =
    all_read width wraps r (word ++ fragment name ∷ []) wide (read_marker name p) line
    (marker_read width wraps r word wide p name h)

line_read : {S : Type 0} (width : ℕ) (wraps : Bool) (line : List (Source S))
    → EndsAt width wraps nothing_laid (parts width wraps line) (word_after width wraps [] (trimmed width wraps line))
    false (closed (read_all (new_pass width wraps) (trimmed width wraps line)))
line_read width wraps line =
    all_read width wraps nothing_laid [] false (new_pass width wraps) (trimmed width wraps line) (record {
      same_width = refl;
      same_wraps = refl;
      begun = refl;
      rows = refl;
      tagged = λ some. absurd (false≢true some);
      bare = λ _. refl;
      is_wide = refl;
    })

pub pass_lines : {S : Type 0} (width : ℕ) (wraps : Bool) (line : List (Source S))
    → (finished (read_all (new_pass width wraps) (trimmed width wraps line))).rows.done
    ≡ preserved_lines width wraps line
unfolding preserved_lines
pass_lines width wraps line = ap (λ r. (fresh r).done) (line_read width wraps line).rows

pub pass_waiting : {S : Type 0} (width : ℕ) (wraps : Bool) (line : List (Source S))
    → left_markers (finished (read_all (new_pass width wraps) (trimmed width wraps line)))
    ≡ preserved_waiting width wraps line
unfolding preserved_waiting
pass_waiting width wraps line =
    let ends = line_read width wraps line in
    ap (λ r. markers_of (fresh r).line
    ++ markers_of (closed (read_all (new_pass width wraps) (trimmed width wraps line))).word) ends.rows
    ∙ ap (λ names. markers_of (laid width wraps line).line ++ names) ends.waits

pub pass_wide : {S : Type 0} (width : ℕ) (wraps : Bool) (line : List (Source S))
    → (finished (read_all (new_pass width wraps) (trimmed width wraps line))).wide ≡ is_too_wide width wraps line
unfolding is_too_wide
pass_wide width wraps line = (line_read width wraps line).is_wide
