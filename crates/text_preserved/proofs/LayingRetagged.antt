-- Tags have no say in how a source line is laid: the same letters under other tags stand on the same lines.
use Rattle.std.proofs.Common.{◌≡◌, ◌+◌, ◌-◌, ◌%◌, [], ◌∷◌, ◌++◌, ◌∙◌, Bool, List, ap, drop, false, map, refl, replicate}
use Rattle.std.proofs.Common.{sym, true, ℕ}
use Rattle.std.specs.Prelude.{fold, if◌then◌else◌, not, ◌&&◌, ◌||◌, ◌==◌, nat_le, nat_lt}
use Rattle.std.proofs.lemmas.List.{map-append}
use Rattle.text_lines.specs.Columns.{width_of}
use Rattle.text_lines.specs.Tagged.{Item, character, marker, line_columns}
use Rattle.text_pieces.specs.Items.{has_text, item_columns, markers_of}
use Rattle.text_pieces.specs.Sources.{Source, letter, fragment, names_of}
use Rattle.text_pieces.specs.Retagged.{reitem, resource}
use Rattle.text_pieces.proofs.RetaggedItems.{chosen_by, drop_mapped, folded, has_text_retagged, item_columns_retagged}
use Rattle.text_pieces.proofs.RetaggedItems.{line_columns_retagged, markers_retagged, names_retagged, replicate_mapped}
use Rattle.text_preserved.specs.Preserved.{Kind, Laying, Part, Tagging, after_stop, blank, body, broken_anywhere}
use Rattle.text_preserved.specs.Preserved.{broken_at_white, chosen, cut, ended_word, fresh, goes_over_white, has_solid}
use Rattle.text_preserved.specs.Preserved.{has_wide_body, has_wide_letter, is_begun, is_solid, is_too_wide, kind_of}
use Rattle.text_preserved.specs.Preserved.{laid, lay_blank, lay_body, lay_items, lay_part, lay_stop, line_taken}
use Rattle.text_preserved.specs.Preserved.{line_text, nothing, nothing_laid, parts, parts_after, parts_at}
use Rattle.text_preserved.specs.Preserved.{preserved_lines, preserved_waiting, put, put_all, put_space, remaining}
use Rattle.text_preserved.specs.Preserved.{solid, space, stop, tab, tabbed, tag_one, tagged_body, taken, to_stop}
use Rattle.text_preserved.specs.Preserved.{trimmed, waiting_word, white, with_room, without_spaces, word_after, word_at}
use Rattle.text_preserved.specs.Preserved.{written}

abbrev pub repart : {A B : Type 0} → (A → B) → Part A → Part B
repart f (blank n main further) = blank n (f main) (f further)
repart f (stop main further) = stop (f main) (f further)
repart f (body word) = body (map (resource f) word)

abbrev pub relay : {A B : Type 0} → (A → B) → Laying A → Laying B
relay f r = record {
  done = map (map (reitem f)) r.done;
  line = map (reitem f) r.line;
  tail = map (reitem f) r.tail;
  spaces = map (reitem f) r.spaces;
  goes_on = r.goes_on;
}

abbrev made : {S : Type 0} → List (List (Item S)) → List (Item S) → List (Item S) → List (Item S) → Bool → Laying S
made done line tail spaces goes_on =
    record { done = done; line = line; tail = tail; spaces = spaces; goes_on = goes_on }

-- ---- parts

solid_retagged : {A B : Type 0} (f : A → B) (w : ℕ) (wraps : Bool) (line : List (Source A))
    → has_solid w wraps (map (resource f) line) ≡ has_solid w wraps line
solid_retagged f w wraps [] = refl
solid_retagged f w wraps (letter c main further ∷ rest) =
    ap (λ b. is_solid (kind_of w wraps c) || b) (solid_retagged f w wraps rest)
solid_retagged f w wraps (fragment name ∷ rest) = solid_retagged f w wraps rest

trimmed_retagged : {A B : Type 0} (f : A → B) (w : ℕ) (wraps : Bool) (line : List (Source A))
    → trimmed w wraps (map (resource f) line) ≡ map (resource f) (trimmed w wraps line)
trimmed_retagged f w wraps [] = refl
trimmed_retagged f w wraps (letter c main further ∷ rest) =
    chosen_by (map (resource f)) (is_solid (kind_of w wraps c) || has_solid w wraps rest)
    (is_solid (kind_of w wraps c) || has_solid w wraps (map (resource f) rest))
    (letter c main further ∷ trimmed w wraps rest) (trimmed w wraps rest)
    (letter c (f main) (f further) ∷ trimmed w wraps (map (resource f) rest)) (trimmed w wraps (map (resource f) rest))
    (ap (λ b. is_solid (kind_of w wraps c) || b) (solid_retagged f w wraps rest))
    (ap (λ xs. letter c (f main) (f further) ∷ xs) (trimmed_retagged f w wraps rest)) (trimmed_retagged f w wraps rest)
trimmed_retagged f w wraps (fragment name ∷ rest) = ap (λ xs. fragment name ∷ xs) (trimmed_retagged f w wraps rest)

begun_retagged : {A B : Type 0} (f : A → B) (word : List (Source A)) → is_begun (map (resource f) word)
    ≡ is_begun word
begun_retagged f [] = refl
begun_retagged f (letter c main further ∷ rest) = refl
begun_retagged f (fragment name ∷ rest) = begun_retagged f rest

ended_retagged : {A B : Type 0} (f : A → B) (word : List (Source A)) → ended_word (map (resource f) word)
    ≡ map (repart f) (ended_word word)
ended_retagged f word = chosen_by (map (repart f)) (is_begun word) (is_begun (map (resource f) word))
    (body word ∷ []) [] (body (map (resource f) word) ∷ []) [] (begun_retagged f word) refl refl

waiting_retagged : {A B : Type 0} (f : A → B) (word : List (Source A)) → waiting_word (map (resource f) word)
    ≡ map (resource f) (waiting_word word)
waiting_retagged f word = chosen_by (map (resource f)) (is_begun word) (is_begun (map (resource f) word))
    [] word [] (map (resource f) word) (begun_retagged f word) refl refl

parts_at_retagged : {A B : Type 0} (f : A → B) (k : Kind) (inside : Bool) (c : ℕ) (main further : A)
    (word : List (Source A)) → parts_at k inside c (f main) (f further) (map (resource f) word)
    ≡ map (repart f) (parts_at k inside c main further word)
parts_at_retagged f solid inside c main further word = refl
parts_at_retagged f white true c main further word = refl
parts_at_retagged f white false c main further word =
    ap (λ ps. ps ++ blank (width_of c) (f main) (f further) ∷ []) (ended_retagged f word)
    ∙ sym (map-append (repart f) (ended_word word) (blank (width_of c) main further ∷ []))
parts_at_retagged f tab inside c main further word =
    ap (λ ps. ps ++ stop (f main) (f further) ∷ []) (ended_retagged f word)
    ∙ sym (map-append (repart f) (ended_word word) (stop main further ∷ []))
parts_at_retagged f cut inside c main further word = ended_retagged f word
parts_at_retagged f nothing inside c main further word = refl

word_at_retagged : {A B : Type 0} (f : A → B) (k : Kind) (inside : Bool) (c : ℕ) (main further : A)
    (word : List (Source A)) → word_at k inside c (f main) (f further) (map (resource f) word)
    ≡ map (resource f) (word_at k inside c main further word)
word_at_retagged f solid inside c main further word = sym (map-append (resource f) word (letter c main further ∷ []))
word_at_retagged f white true c main further word = sym (map-append (resource f) word (letter c main further ∷ []))
word_at_retagged f white false c main further word = waiting_retagged f word
word_at_retagged f tab inside c main further word = waiting_retagged f word
word_at_retagged f cut inside c main further word = waiting_retagged f word
word_at_retagged f nothing inside c main further word = refl

over_retagged : {A B : Type 0} (f : A → B) (wraps : Bool) (word : List (Source A))
    → goes_over_white wraps (map (resource f) word) ≡ goes_over_white wraps word
over_retagged f wraps word = ap (λ b. not wraps && b) (begun_retagged f word)

after_retagged : {A B : Type 0} (f : A → B) (w : ℕ) (wraps : Bool) (line word : List (Source A))
    → parts_after w wraps (map (resource f) word) (map (resource f) line)
    ≡ map (repart f) (parts_after w wraps word line)
after_retagged f w wraps [] word = ended_retagged f word
after_retagged f w wraps (letter c main further ∷ rest) word =
    let k = kind_of w wraps c in
    let over = goes_over_white wraps word in
    let now = parts_at k over c main further word in
    let next = word_at k over c main further word in
    ap (λ b. parts_at k b c (f main) (f further) (map (resource f) word) ++ parts_after w wraps
    (word_at k b c (f main) (f further) (map (resource f) word)) (map (resource f) rest)) (over_retagged f wraps word)
    ∙ ap (λ ps. ps ++ parts_after w wraps (word_at k over c (f main) (f further) (map (resource f) word))
    (map (resource f) rest)) (parts_at_retagged f k over c main further word)
    ∙ ap (λ v. map (repart f) now ++ parts_after w wraps v (map (resource f) rest))
    (word_at_retagged f k over c main further word)
    ∙ ap (λ ps. map (repart f) now ++ ps) (after_retagged f w wraps rest next)
    ∙ sym (map-append (repart f) now (parts_after w wraps next rest))
after_retagged f w wraps (fragment name ∷ rest) word =
    ap (λ v. parts_after w wraps v (map (resource f) rest)) (sym (map-append (resource f) word (fragment name ∷ [])))
    ∙ after_retagged f w wraps rest (word ++ fragment name ∷ [])

word_after_retagged : {A B : Type 0} (f : A → B) (w : ℕ) (wraps : Bool) (line word : List (Source A))
    → word_after w wraps (map (resource f) word) (map (resource f) line)
    ≡ map (resource f) (word_after w wraps word line)
word_after_retagged f w wraps [] word = waiting_retagged f word
word_after_retagged f w wraps (letter c main further ∷ rest) word =
    let k = kind_of w wraps c in
    let over = goes_over_white wraps word in
    ap (λ b. word_after w wraps (word_at k b c (f main) (f further) (map (resource f) word)) (map (resource f) rest))
    (over_retagged f wraps word)
    ∙ ap (λ v. word_after w wraps v (map (resource f) rest)) (word_at_retagged f k over c main further word)
    ∙ word_after_retagged f w wraps rest (word_at k over c main further word)
word_after_retagged f w wraps (fragment name ∷ rest) word =
    ap (λ v. word_after w wraps v (map (resource f) rest)) (sym (map-append (resource f) word (fragment name ∷ [])))
    ∙ word_after_retagged f w wraps rest (word ++ fragment name ∷ [])

parts_retagged : {A B : Type 0} (f : A → B) (w : ℕ) (wraps : Bool) (line : List (Source A))
    → parts w wraps (map (resource f) line) ≡ map (repart f) (parts w wraps line)
parts_retagged f w wraps line =
    ap (parts_after w wraps []) (trimmed_retagged f w wraps line)
    ∙ after_retagged f w wraps (trimmed w wraps line) []

-- ---- lines

text_retagged : {A B : Type 0} (f : A → B) (r : Laying A) → line_text (relay f r) ≡ map (reitem f) (line_text r)
text_retagged f r = sym (map-append (reitem f) r.line r.tail)

line_taken_retagged : {A B : Type 0} (f : A → B) (r : Laying A) → line_taken (relay f r) ≡ line_taken r
line_taken_retagged f r =
    ap (λ n. n + line_columns (map (reitem f) r.tail)) (line_columns_retagged f r.line)
    ∙ ap (λ n. line_columns r.line + n) (line_columns_retagged f r.tail)

fresh_retagged : {A B : Type 0} (f : A → B) (r : Laying A) → fresh (relay f r) ≡ relay f (fresh r)
fresh_retagged f r =
    chosen_by (relay f) (has_text (line_text r)) (has_text (line_text (relay f r)))
    (record r { done = r.done ++ line_text r ∷ []; line = []; tail = [] }) r
    (record (relay f r) { done = map (map (reitem f)) r.done ++ line_text (relay f r) ∷ []; line = []; tail = [] })
    (relay f r)
    (ap has_text (text_retagged f r) ∙ has_text_retagged f (line_text r))
    (ap (λ done. made done [] [] (map (reitem f) r.spaces) r.goes_on)
    (ap (λ l. map (map (reitem f)) r.done ++ l ∷ []) (text_retagged f r)
    ∙ sym (map-append (map (reitem f)) r.done (line_text r ∷ []))))
    refl

room_retagged : {A B : Type 0} (f : A → B) (w more : ℕ) (r : Laying A) → with_room w more (relay f r)
    ≡ relay f (with_room w more r)
room_retagged f w more r =
    chosen_by (relay f) (nat_le (line_taken r + more) w) (nat_le (line_taken (relay f r) + more) w) r (fresh r)
    (relay f r) (fresh (relay f r)) (ap (λ n. nat_le (n + more) w) (line_taken_retagged f r)) refl (fresh_retagged f r)

written_retagged : {A B : Type 0} (f : A → B) (r : Laying A) (items : List (Item A))
    → written (relay f r) (map (reitem f) items) ≡ relay f (written r items)
written_retagged f r items =
    ap (λ line. made (map (map (reitem f)) r.done) line [] (map (reitem f) r.spaces) r.goes_on)
    (ap (λ l. l ++ map (reitem f) items) (text_retagged f r) ∙ sym (map-append (reitem f) (line_text r) items))

put_retagged : {A B : Type 0} (f : A → B) (w : ℕ) (r : Laying A) (item : Item A)
    → put w (relay f r) (reitem f item) ≡ relay f (put w r item)
put_retagged f w r item =
    ap (λ n. written (with_room w n (relay f r)) (reitem f item ∷ [])) (item_columns_retagged f item)
    ∙ ap (λ x. written x (reitem f item ∷ [])) (room_retagged f w (item_columns item) r)
    ∙ written_retagged f (with_room w (item_columns item) r) (item ∷ [])

put_all_retagged : {A B : Type 0} (f : A → B) (w : ℕ) (r : Laying A) (items : List (Item A))
    → put_all w (relay f r) (map (reitem f) items) ≡ relay f (put_all w r items)
put_all_retagged f w r items = folded (put w) (put w) (relay f) (reitem f) (put_retagged f w) items r

tail_retagged : {A B : Type 0} (f : A → B) (r : Laying A) (items : List (Item A))
    → made (map (map (reitem f)) r.done) (map (reitem f) r.line) (map (reitem f) r.tail ++ map (reitem f) items)
    (map (reitem f) r.spaces) r.goes_on
    ≡ relay f (made r.done r.line (r.tail ++ items) r.spaces r.goes_on)
tail_retagged f r items =
    ap (λ tail. made (map (map (reitem f)) r.done) (map (reitem f) r.line) tail (map (reitem f) r.spaces) r.goes_on)
    (sym (map-append (reitem f) r.tail items))

abbrev after_tail : {S : Type 0} → List (Item S) → Laying S → Laying S
after_tail items r = made r.done r.line (r.tail ++ items) r.spaces r.goes_on

put_space_retagged : {A B : Type 0} (f : A → B) (w : ℕ) (r : Laying A) (item : Item A)
    → put_space w (relay f r) (reitem f item) ≡ relay f (put_space w r item)
put_space_retagged f w r item =
    ap (after_tail (reitem f item ∷ [])) (room_retagged f w 1 r) ∙ tail_retagged f (with_room w 1 r) (item ∷ [])

chosen_retagged : {A B : Type 0} (f : A → B) (goes_on : Bool) (main further : A)
    → chosen goes_on (f main) (f further) ≡ f (chosen goes_on main further)
chosen_retagged f true main further = refl
chosen_retagged f false main further = refl

spaces_retagged : {A B : Type 0} (f : A → B) (n : ℕ) (tag : A) → replicate n (space (f tag))
    ≡ map (reitem f) (replicate n (space tag))
spaces_retagged f n tag = replicate_mapped (reitem f) n (space tag)

blank_retagged : {A B : Type 0} (f : A → B) (n : ℕ) (main further : A) (r : Laying A)
    → lay_blank n (f main) (f further) (relay f r) ≡ relay f (lay_blank n main further r)
blank_retagged f n main further r =
    ap (λ spaces. made (map (map (reitem f)) r.done) (map (reitem f) r.line) (map (reitem f) r.tail) spaces r.goes_on)
    (ap (λ tag. map (reitem f) r.spaces ++ replicate n (space tag)) (chosen_retagged f r.goes_on main further)
    ∙ ap (λ items. map (reitem f) r.spaces ++ items) (spaces_retagged f n (chosen r.goes_on main further))
    ∙ sym (map-append (reitem f) r.spaces (replicate n (space (chosen r.goes_on main further)))))

after_stop_retagged : {A B : Type 0} (f : A → B) (w : ℕ) (r : Laying A) → after_stop w (relay f r)
    ≡ relay f (after_stop w r)
after_stop_retagged f w r =
    chosen_by (relay f) (nat_lt (line_taken r) w || (line_taken r % 8 == 0))
    (nat_lt (line_taken (relay f r)) w || (line_taken (relay f r) % 8 == 0)) r (fresh r) (relay f r)
    (fresh (relay f r)) (ap (λ n. nat_lt n w || (n % 8 == 0)) (line_taken_retagged f r)) refl (fresh_retagged f r)

tabbed_retagged : {A B : Type 0} (f : A → B) (w : ℕ) (tag : A) (r : Laying A) → tabbed w (f tag) (relay f r)
    ≡ relay f (tabbed w tag r)
tabbed_retagged f w tag r =
    ap (λ n. after_stop w (after_tail (replicate (to_stop w n) (space (f tag))) (relay f r)))
    (line_taken_retagged f r)
    ∙ ap (λ items. after_stop w (after_tail items (relay f r))) (spaces_retagged f (to_stop w (line_taken r)) tag)
    ∙ ap (after_stop w) (tail_retagged f r (replicate (to_stop w (line_taken r)) (space tag)))
    ∙ after_stop_retagged f w (after_tail (replicate (to_stop w (line_taken r)) (space tag)) r)

stop_retagged : {A B : Type 0} (f : A → B) (w : ℕ) (main further : A) (r : Laying A)
    → lay_stop w (f main) (f further) (relay f r) ≡ relay f (lay_stop w main further r)
stop_retagged f w main further r =
    let written_spaces = fold (put_space w) (without_spaces r) r.spaces in
    ap (λ tag. tabbed w tag (with_room w 1 (fold (put_space w) (without_spaces (relay f r)) (map (reitem f) r.spaces))))
    (chosen_retagged f r.goes_on main further)
    ∙ ap (λ x. tabbed w (f (chosen r.goes_on main further)) (with_room w 1 x))
    (folded (put_space w) (put_space w) (relay f) (reitem f) (put_space_retagged f w) r.spaces (without_spaces r))
    ∙ ap (tabbed w (f (chosen r.goes_on main further))) (room_retagged f w 1 written_spaces)
    ∙ tabbed_retagged f w (chosen r.goes_on main further) (with_room w 1 written_spaces)

taken_retagged : {A B : Type 0} (f : A → B) (r : Laying A) → taken (relay f r) ≡ taken r
taken_retagged f r =
    ap (λ n. n + line_columns (map (reitem f) r.spaces)) (line_taken_retagged f r)
    ∙ ap (λ n. line_taken r + n) (line_columns_retagged f r.spaces)

-- ---- bodies

abbrev pub retagging : {A B : Type 0} → (A → B) → Tagging A → Tagging B
retagging f t = record { items = map (reitem f) t.items; goes_on = t.goes_on }

abbrev tagging : {S : Type 0} → List (Item S) → Bool → Tagging S
tagging items goes_on = record { items = items; goes_on = goes_on }

one_at : {A B : Type 0} (f : A → B) (c : ℕ) (main further : A) (t : Tagging A) (goes_on : Bool)
    → tagging (map (reitem f) t.items ++ character c (chosen goes_on (f main) (f further)) ∷ []) goes_on
    ≡ retagging f (tagging (t.items ++ character c (chosen goes_on main further) ∷ []) goes_on)
one_at f c main further t goes_on =
    ap (λ tag. tagging (map (reitem f) t.items ++ character c tag ∷ []) goes_on)
    (chosen_retagged f goes_on main further)
    ∙ ap (λ items. tagging items goes_on)
    (sym (map-append (reitem f) t.items (character c (chosen goes_on main further) ∷ [])))

one_retagged : {A B : Type 0} (f : A → B) (w : ℕ) (wraps : Bool) (before : ℕ) (t : Tagging A) (s : Source A)
    → tag_one w wraps before (retagging f t) (resource f s) ≡ retagging f (tag_one w wraps before t s)
one_retagged f w wraps before t (letter c main further) =
    ap (λ n. (let goes_on = t.goes_on || (not wraps && nat_lt w (before + n + width_of c)) in
    tagging (map (reitem f) t.items ++ character c (chosen goes_on (f main) (f further)) ∷ []) goes_on))
    (line_columns_retagged f t.items)
    ∙ one_at f c main further t (t.goes_on || (not wraps && nat_lt w (before + line_columns t.items + width_of c)))
one_retagged f w wraps before t (fragment name) =
    ap (λ items. tagging items t.goes_on) (sym (map-append (reitem f) t.items (marker name ∷ [])))

body_tags_retagged : {A B : Type 0} (f : A → B) (w : ℕ) (wraps : Bool) (r : Laying A) (word : List (Source A))
    → tagged_body w wraps (relay f r) (map (resource f) word) ≡ retagging f (tagged_body w wraps r word)
body_tags_retagged f w wraps r word =
    ap (λ n. fold (tag_one w wraps n) (tagging [] r.goes_on) (map (resource f) word)) (taken_retagged f r)
    ∙ folded (tag_one w wraps (taken r)) (tag_one w wraps (taken r)) (retagging f) (resource f)
    (one_retagged f w wraps (taken r)) word (tagging [] r.goes_on)

remaining_retagged : {A B : Type 0} (f : A → B) (w left : ℕ) (spaces : List (Item A))
    → remaining w left (map (reitem f) spaces) ≡ map (reitem f) (remaining w left spaces)
remaining_retagged f w left spaces =
    ap (λ n. drop (n - (n - left) % w) (map (reitem f) spaces)) (line_columns_retagged f spaces)
    ∙ drop_mapped (reitem f) (line_columns spaces - (line_columns spaces - left) % w) spaces

abbrev no_spaces : {S : Type 0} → Laying S → Laying S
no_spaces r = without_spaces r

anywhere_retagged : {A B : Type 0} (f : A → B) (w : ℕ) (r : Laying A) → broken_anywhere w (relay f r)
    ≡ relay f (broken_anywhere w r)
anywhere_retagged f w r =
    chosen_by (relay f) (nat_le (w - line_taken r) (line_columns r.spaces))
    (nat_le (w - line_taken (relay f r)) (line_columns (map (reitem f) r.spaces)))
    (written (without_spaces (fresh r)) (remaining w (w - line_taken r) r.spaces))
    (without_spaces (fresh (written r r.spaces)))
    (written (without_spaces (fresh (relay f r))) (remaining w (w - line_taken (relay f r)) (map (reitem f) r.spaces)))
    (without_spaces (fresh (written (relay f r) (map (reitem f) r.spaces))))
    (ap (λ n. nat_le (w - n) (line_columns (map (reitem f) r.spaces))) (line_taken_retagged f r)
    ∙ ap (nat_le (w - line_taken r)) (line_columns_retagged f r.spaces))
    (ap (λ n. written (without_spaces (fresh (relay f r))) (remaining w (w - n) (map (reitem f) r.spaces)))
    (line_taken_retagged f r)
    ∙ ap (λ x. written (without_spaces x) (remaining w (w - line_taken r) (map (reitem f) r.spaces)))
    (fresh_retagged f r)
    ∙ ap (written (without_spaces (relay f (fresh r)))) (remaining_retagged f w (w - line_taken r) r.spaces)
    ∙ written_retagged f (without_spaces (fresh r)) (remaining w (w - line_taken r) r.spaces))
    (ap (λ x. without_spaces (fresh x)) (written_retagged f r r.spaces)
    ∙ ap no_spaces (fresh_retagged f (written r r.spaces)))

at_white_retagged : {A B : Type 0} (f : A → B) (r : Laying A) → broken_at_white (relay f r)
    ≡ relay f (broken_at_white r)
at_white_retagged f r = ap no_spaces (fresh_retagged f (made r.done r.line [] r.spaces r.goes_on))

broken_retagged : {A B : Type 0} (f : A → B) (w : ℕ) (wraps : Bool) (r : Laying A)
    → (if wraps then broken_at_white (relay f r) else broken_anywhere w (relay f r))
    ≡ relay f (if wraps then broken_at_white r else broken_anywhere w r)
broken_retagged f w true r = at_white_retagged f r
broken_retagged f w false r = anywhere_retagged f w r

items_retagged : {A B : Type 0} (f : A → B) (w : ℕ) (wraps : Bool) (items : List (Item A)) (r : Laying A)
    → lay_items w wraps (map (reitem f) items) (relay f r) ≡ relay f (lay_items w wraps items r)
items_retagged f w wraps items r =
    let broken = if wraps then broken_at_white r else broken_anywhere w r in
    chosen_by (relay f) (nat_le (taken r + line_columns items) w)
    (nat_le (taken (relay f r) + line_columns (map (reitem f) items)) w)
    (written (without_spaces r) (r.spaces ++ items)) (put_all w broken items)
    (written (without_spaces (relay f r)) (map (reitem f) r.spaces ++ map (reitem f) items))
    (put_all w (if wraps then broken_at_white (relay f r) else broken_anywhere w (relay f r)) (map (reitem f) items))
    (ap (λ n. nat_le (n + line_columns (map (reitem f) items)) w) (taken_retagged f r)
    ∙ ap (λ n. nat_le (taken r + n) w) (line_columns_retagged f items))
    (ap (written (without_spaces (relay f r))) (sym (map-append (reitem f) r.spaces items))
    ∙ written_retagged f (without_spaces r) (r.spaces ++ items))
    (ap (λ x. put_all w x (map (reitem f) items)) (broken_retagged f w wraps r)
    ∙ put_all_retagged f w broken items)

abbrev going : {S : Type 0} → Bool → Laying S → Laying S
going goes_on r = made r.done r.line r.tail r.spaces goes_on

abbrev body_in : {S : Type 0} → ℕ → Bool → Laying S → Tagging S → Laying S
body_in w wraps room t = going t.goes_on (lay_items w wraps t.items room)

body_retagged : {A B : Type 0} (f : A → B) (w : ℕ) (wraps : Bool) (word : List (Source A)) (r : Laying A)
    → lay_body w wraps (map (resource f) word) (relay f r) ≡ relay f (lay_body w wraps word r)
body_retagged f w wraps word r =
    let room = with_room w 0 r in
    let t = tagged_body w wraps room word in
    ap (λ x. body_in w wraps x (tagged_body w wraps x (map (resource f) word))) (room_retagged f w 0 r)
    ∙ ap (body_in w wraps (relay f room)) (body_tags_retagged f w wraps room word)
    ∙ ap (going t.goes_on) (items_retagged f w wraps t.items room)

part_retagged : {A B : Type 0} (f : A → B) (w : ℕ) (wraps : Bool) (r : Laying A) (p : Part A)
    → lay_part w wraps (relay f r) (repart f p) ≡ relay f (lay_part w wraps r p)
part_retagged f w wraps r (blank n main further) = blank_retagged f n main further r
part_retagged f w wraps r (stop main further) = stop_retagged f w main further r
part_retagged f w wraps r (body word) = body_retagged f w wraps word r

pub laid_retagged : {A B : Type 0} (f : A → B) (w : ℕ) (wraps : Bool) (line : List (Source A))
    → laid w wraps (map (resource f) line) ≡ relay f (laid w wraps line)
laid_retagged f w wraps line =
    ap (λ ps. fresh (fold (lay_part w wraps) nothing_laid ps)) (parts_retagged f w wraps line)
    ∙ ap fresh (folded (lay_part w wraps) (lay_part w wraps) (relay f) (repart f) (part_retagged f w wraps)
    (parts w wraps line) nothing_laid)
    ∙ fresh_retagged f (fold (lay_part w wraps) nothing_laid (parts w wraps line))

-- ---- source lines

pub lines_retagged : {A B : Type 0} (f : A → B) (w : ℕ) (wraps : Bool) (line : List (Source A))
    → preserved_lines w wraps (map (resource f) line) ≡ map (map (reitem f)) (preserved_lines w wraps line)
unfolding preserved_lines
lines_retagged f w wraps line = ap (λ r. r.done) (laid_retagged f w wraps line)

pub lines_wait_retagged : {A B : Type 0} (f : A → B) (w : ℕ) (wraps : Bool) (line : List (Source A))
    → preserved_waiting w wraps (map (resource f) line) ≡ preserved_waiting w wraps line
unfolding preserved_waiting
lines_wait_retagged f w wraps line =
    ap (λ (r : Laying _). markers_of r.line
    ++ names_of (word_after w wraps [] (trimmed w wraps (map (resource f) line))))
    (laid_retagged f w wraps line)
    ∙ ap (λ names. names ++ names_of (word_after w wraps [] (trimmed w wraps (map (resource f) line))))
    (markers_retagged f (laid w wraps line).line)
    ∙ ap (λ names. markers_of (laid w wraps line).line ++ names)
    (ap (λ s. names_of (word_after w wraps [] s)) (trimmed_retagged f w wraps line)
    ∙ ap names_of (word_after_retagged f w wraps (trimmed w wraps line) [])
    ∙ names_retagged f (word_after w wraps [] (trimmed w wraps line)))

wide_letter_retagged : {A B : Type 0} (f : A → B) (w : ℕ) (word : List (Source A))
    → has_wide_letter w (map (resource f) word) ≡ has_wide_letter w word
wide_letter_retagged f w [] = refl
wide_letter_retagged f w (letter c main further ∷ rest) = ap (λ b. nat_lt w (width_of c) || b)
    (wide_letter_retagged f w rest)
wide_letter_retagged f w (fragment name ∷ rest) = wide_letter_retagged f w rest

wide_body_retagged : {A B : Type 0} (f : A → B) (w : ℕ) (ps : List (Part A)) → has_wide_body w (map (repart f) ps)
    ≡ has_wide_body w ps
wide_body_retagged f w [] = refl
wide_body_retagged f w (blank n main further ∷ rest) = wide_body_retagged f w rest
wide_body_retagged f w (stop main further ∷ rest) = wide_body_retagged f w rest
wide_body_retagged f w (body word ∷ rest) =
    ap (λ b. b || has_wide_body w (map (repart f) rest)) (wide_letter_retagged f w word)
    ∙ ap (λ b. has_wide_letter w word || b) (wide_body_retagged f w rest)

pub too_wide_retagged : {A B : Type 0} (f : A → B) (w : ℕ) (wraps : Bool) (line : List (Source A))
    → is_too_wide w wraps (map (resource f) line) ≡ is_too_wide w wraps line
unfolding is_too_wide
too_wide_retagged f w wraps line =
    ap (has_wide_body w) (parts_retagged f w wraps line) ∙ wide_body_retagged f w (parts w wraps line)
