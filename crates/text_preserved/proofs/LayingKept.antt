-- What laying a source line keeps, for anything that is seen item by item and not of spaces: its characters that are
-- shown, and its markers.
use Rattle.std.proofs.Common.{◌≡◌, ◌+◌, ◌-◌, ◌%◌, [], ◌∷◌, ◌++◌, if◌then◌else◌, ◌∙◌, Bool, List, ap, append-nil}
use Rattle.std.proofs.Common.{append_assoc, false, flat_map, fold, refl, replicate, subst, sym, true, ℕ}
use Rattle.std.specs.Prelude.{◌==◌, ◌||◌, nat_le, nat_lt}
use Rattle.std.proofs.lemmas.Bool.{cond_both}
use Rattle.std.proofs.lemmas.Grind.{flat_map-append}
use Rattle.text_lines.specs.Columns.{width_of}
use Rattle.text_lines.specs.Tagged.{Item, character, marker, line_columns}
use Rattle.text_pieces.specs.Sources.{Source, letter, fragment}
use Rattle.text_preserved.specs.Preserved.{Kind, Laying, Part, Tagging, after_stop, blank, body, broken_anywhere}
use Rattle.text_preserved.specs.Preserved.{broken_at_white, chosen, cut, ended_word, fresh, goes_over_white, has_solid}
use Rattle.text_preserved.specs.Preserved.{has_text, is_begun, is_solid, item_columns, kind_of, laid, lay_blank}
use Rattle.text_preserved.specs.Preserved.{lay_body, lay_items, lay_part, lay_stop, line_taken, line_text, nothing}
use Rattle.text_preserved.specs.Preserved.{nothing_laid, parts, parts_after, parts_at, put, put_all, put_space}
use Rattle.text_preserved.specs.Preserved.{remaining, solid, space, stop, tab, tag_one, tagged_body, taken, to_stop}
use Rattle.text_preserved.specs.Preserved.{trimmed, waiting_word, white, with_room, without_spaces, word_after, word_at}
use Rattle.text_preserved.specs.Preserved.{written}
use Rattle.text_preserved.proofs.ColumnLemmas.{AreSpaces, AreSpaces-append, AreSpaces-replicate, AreSpaces-drop}

-- What is seen of an item is what is seen of its source; nothing is, of spaces and of what stands in no body.
pub record IsSeen {S X : Type 0} (w : ℕ) (wraps : Bool) (f : Item S → List X) (g : Source S → List X) : Type 0 where
  pub spaces : (tag : S) → f (character 0x20 tag) ≡ []
  pub letters : (c : ℕ) (main further tag : S) → f (character c tag) ≡ g (letter c main further)
  pub fragments : (name : List ℕ) → f (marker name) ≡ g (fragment name)
  pub others : (c : ℕ) (main further : S) → is_solid (kind_of w wraps c) ≡ false → g (letter c main further) ≡ []

-- what is seen of the lines that are done and of the line at hand
abbrev pub seen_of : {S X : Type 0} → (Item S → List X) → Laying S → List X
seen_of f r = flat_map (λ items. flat_map f items) r.done ++ flat_map f r.line

-- `xs` was seen, and what ends the line and waits is spaces.
pub record HasSeen {S X : Type 0} (f : Item S → List X) (xs : List X) (r : Laying S) : Type 0 where
  pub seen : seen_of f r ≡ xs
  pub tail : AreSpaces r.tail
  pub spaces : AreSpaces r.spaces

-- ---- spaces are not seen

unseen : {S X : Type 0} (f : Item S → List X) (items : List (Item S)) → ((tag : S) → f (character 0x20 tag) ≡ [])
    → AreSpaces items → flat_map f items ≡ []
unseen f [] none are = refl
unseen f (character c tag ∷ items) none are =
    ap (λ xs. xs ++ flat_map f items) (ap (λ c. f (character c tag)) are.0 ∙ none tag) ∙ unseen f items none are.1
unseen f (marker name ∷ items) none are = absurd are.0

unseen_after : {S X : Type 0} (f : Item S → List X) (line tail : List (Item S))
    → ((tag : S) → f (character 0x20 tag) ≡ []) → AreSpaces tail → flat_map f (line ++ tail) ≡ flat_map f line
unseen_after f line tail none are = flat_map-append f line tail
    ∙ ap (λ xs. flat_map f line ++ xs) (unseen f tail none are) ∙ append-nil (flat_map f line)

-- ---- steps of laying

freshened : {S X : Type 0} (f : Item S → List X) (none : (tag : S) → f (character 0x20 tag) ≡ []) (xs : List X)
    (r : Laying S) → HasSeen f xs r → HasSeen f xs (fresh r)
freshened f none xs r h =
    cond_both (has_text (line_text r)) (record r { done = r.done ++ line_text r ∷ []; line = []; tail = [] }) r
    (HasSeen f xs)
    (λ e. record {
      seen = append-nil (flat_map (λ items. flat_map f items) (r.done ++ line_text r ∷ []))
          ∙ flat_map-append (λ items. flat_map f items) r.done (line_text r ∷ [])
          ∙ ap (λ ys. flat_map (λ items. flat_map f items) r.done ++ ys)
          (append-nil (flat_map f (line_text r)) ∙ unseen_after f r.line r.tail none h.tail) ∙ h.seen;
      tail = tt;
      spaces = h.spaces;
    })
    (λ e. h)

roomed : {S X : Type 0} (w n : ℕ) (f : Item S → List X) (none : (tag : S) → f (character 0x20 tag) ≡ []) (xs : List X)
    (r : Laying S) → HasSeen f xs r → HasSeen f xs (with_room w n r)
roomed w n f none xs r h = cond_both (nat_le (line_taken r + n) w) r (fresh r) (HasSeen f xs) (λ e. h)
    (λ e. freshened f none xs r h)

written_seen : {S X : Type 0} (f : Item S → List X) (none : (tag : S) → f (character 0x20 tag) ≡ []) (xs : List X)
    (r : Laying S) (items : List (Item S)) → HasSeen f xs r → HasSeen f (xs ++ flat_map f items) (written r items)
written_seen f none xs r items h = record {
  seen = ap (λ ys. flat_map (λ items. flat_map f items) r.done ++ ys) (flat_map-append f (line_text r) items
      ∙ ap (λ ys. ys ++ flat_map f items) (unseen_after f r.line r.tail none h.tail))
      ∙ sym (append_assoc (flat_map (λ items. flat_map f items) r.done) (flat_map f r.line) (flat_map f items))
      ∙ ap (λ ys. ys ++ flat_map f items) h.seen;
  tail = tt;
  spaces = h.spaces;
}

written_spaces : {S X : Type 0} (f : Item S → List X) (none : (tag : S) → f (character 0x20 tag) ≡ []) (xs : List X)
    (r : Laying S) (items : List (Item S)) → HasSeen f xs r → AreSpaces items → HasSeen f xs (written r items)
written_spaces f none xs r items h are =
    subst (λ ys. HasSeen f ys (written r items)) (ap (λ ys. xs ++ ys) (unseen f items none are) ∙ append-nil xs)
    (written_seen f none xs r items h)

-- after white space that is written or dropped
without_spaces_seen : {S X : Type 0} (f : Item S → List X) (xs : List X) (r : Laying S) → HasSeen f xs r
    → HasSeen f xs (without_spaces r)
without_spaces_seen f xs r h = record { seen = h.seen; tail = h.tail; spaces = tt }

without_tail_seen : {S X : Type 0} (f : Item S → List X) (xs : List X) (r : Laying S) → HasSeen f xs r
    → HasSeen f xs (record r { tail = [] })
without_tail_seen f xs r h = record { seen = h.seen; tail = tt; spaces = h.spaces }

tail_seen : {S X : Type 0} (f : Item S → List X) (xs : List X) (r : Laying S) (items : List (Item S)) → HasSeen f xs r
    → AreSpaces items → HasSeen f xs (record r { tail = r.tail ++ items })
tail_seen f xs r items h are =
    record { seen = h.seen; tail = AreSpaces-append r.tail items h.tail are; spaces = h.spaces }

put_spaces_seen : {S X : Type 0} (w : ℕ) (f : Item S → List X) (none : (tag : S) → f (character 0x20 tag) ≡ [])
    (xs : List X) (r : Laying S) (items : List (Item S)) → HasSeen f xs r → AreSpaces items
    → HasSeen f xs (fold (put_space w) r items)
put_spaces_seen w f none xs r [] h are = h
put_spaces_seen w f none xs r (item ∷ items) h are = put_spaces_seen w f none xs (put_space w r item) items
    (tail_seen f xs (with_room w 1 r) (item ∷ []) (roomed w 1 f none xs r h) (are.0, tt)) are.1

blank_seen : {S X : Type 0} (f : Item S → List X) (xs : List X) (n : ℕ) (main further : S) (r : Laying S)
    → HasSeen f xs r → HasSeen f xs (lay_blank n main further r)
blank_seen f xs n main further r h = record {
  seen = h.seen;
  tail = h.tail;
  spaces = AreSpaces-append r.spaces (replicate n (space (chosen r.goes_on main further))) h.spaces
      (AreSpaces-replicate n (chosen r.goes_on main further));
}

after_stop_seen : {S X : Type 0} (w : ℕ) (f : Item S → List X) (none : (tag : S) → f (character 0x20 tag) ≡ [])
    (xs : List X) (r : Laying S) → HasSeen f xs r → HasSeen f xs (after_stop w r)
after_stop_seen w f none xs r h =
    cond_both (nat_lt (line_taken r) w || (line_taken r % 8 == 0)) r (fresh r) (HasSeen f xs) (λ e. h)
    (λ e. freshened f none xs r h)

stop_seen : {S X : Type 0} (w : ℕ) (f : Item S → List X) (none : (tag : S) → f (character 0x20 tag) ≡ [])
    (xs : List X) (main further : S) (r : Laying S) → HasSeen f xs r → HasSeen f xs (lay_stop w main further r)
stop_seen {S = S} w f none xs main further r h =
    let room : Laying S = with_room w 1 (fold (put_space w) (without_spaces r) r.spaces) in
    let tag : S = chosen r.goes_on main further in
    let k : HasSeen f xs room = roomed w 1 f none xs (fold (put_space w) (without_spaces r) r.spaces)
    (put_spaces_seen w f none xs (without_spaces r) r.spaces (without_spaces_seen f xs r h) h.spaces) in
    after_stop_seen w f none xs
    (record room { tail = room.tail ++ replicate (to_stop w (line_taken room)) (space tag) })
    (tail_seen f xs room (replicate (to_stop w (line_taken room)) (space tag)) k
    (AreSpaces-replicate (to_stop w (line_taken room)) tag))

-- ---- a body

put_all_seen : {S X : Type 0} (w : ℕ) (f : Item S → List X) (none : (tag : S) → f (character 0x20 tag) ≡ [])
    (xs : List X) (r : Laying S) (items : List (Item S)) → HasSeen f xs r
    → HasSeen f (xs ++ flat_map f items) (put_all w r items)
put_all_seen w f none xs r [] h = subst (λ ys. HasSeen f ys r) (sym (append-nil xs)) h
put_all_seen w f none xs r (item ∷ items) h =
    subst (λ ys. HasSeen f ys (put_all w r (item ∷ items)))
    (append_assoc xs (flat_map f (item ∷ [])) (flat_map f items)
    ∙ ap (λ ys. xs ++ ys) (ap (λ ys. ys ++ flat_map f items) (append-nil (f item))))
    (put_all_seen w f none (xs ++ flat_map f (item ∷ [])) (put w r item) items
    (written_seen f none xs (with_room w (item_columns item) r) (item ∷ [])
    (roomed w (item_columns item) f none xs r h)))

broken_anywhere_seen : {S X : Type 0} (w : ℕ) (f : Item S → List X) (none : (tag : S) → f (character 0x20 tag) ≡ [])
    (xs : List X) (r : Laying S) → HasSeen f xs r → HasSeen f xs (broken_anywhere w r)
broken_anywhere_seen w f none xs r h =
    cond_both (nat_le (w - line_taken r) (line_columns r.spaces))
    (written (without_spaces (fresh r)) (remaining w (w - line_taken r) r.spaces))
    (without_spaces (fresh (written r r.spaces))) (HasSeen f xs)
    (λ e. written_spaces f none xs (without_spaces (fresh r)) (remaining w (w - line_taken r) r.spaces)
    (without_spaces_seen f xs (fresh r) (freshened f none xs r h)) (AreSpaces-drop (line_columns r.spaces
    - (line_columns r.spaces - (w - line_taken r)) % w) r.spaces h.spaces))
    (λ e. without_spaces_seen f xs (fresh (written r r.spaces)) (freshened f none xs (written r r.spaces)
    (written_spaces f none xs r r.spaces h h.spaces)))

broken_seen : {S X : Type 0} (w : ℕ) (wraps : Bool) (f : Item S → List X)
    (none : (tag : S) → f (character 0x20 tag) ≡ []) (xs : List X) (r : Laying S) → HasSeen f xs r
    → HasSeen f xs (if wraps then broken_at_white r else broken_anywhere w r)
broken_seen w true f none xs r h = without_spaces_seen f xs (fresh (record r { tail = [] }))
    (freshened f none xs (record r { tail = [] }) (without_tail_seen f xs r h))
broken_seen w false f none xs r h = broken_anywhere_seen w f none xs r h

items_seen : {S X : Type 0} (w : ℕ) (wraps : Bool) (f : Item S → List X)
    (none : (tag : S) → f (character 0x20 tag) ≡ []) (xs : List X) (items : List (Item S)) (r : Laying S)
    → HasSeen f xs r → HasSeen f (xs ++ flat_map f items) (lay_items w wraps items r)
items_seen w wraps f none xs items r h =
    cond_both (nat_le (taken r + line_columns items) w) (written (without_spaces r) (r.spaces ++ items))
    (put_all w (if wraps then broken_at_white r else broken_anywhere w r) items)
    (HasSeen f (xs ++ flat_map f items))
    (λ e. subst (λ ys. HasSeen f (xs ++ ys) (written (without_spaces r) (r.spaces ++ items)))
    (flat_map-append f r.spaces items ∙ ap (λ ys. ys ++ flat_map f items) (unseen f r.spaces none h.spaces))
    (written_seen f none xs (without_spaces r) (r.spaces ++ items) (without_spaces_seen f xs r h)))
    (λ e. put_all_seen w f none xs (if wraps then broken_at_white r else broken_anywhere w r) items
    (broken_seen w wraps f none xs r h))

tagged_seen : {S X : Type 0} (w : ℕ) (wraps : Bool) (f : Item S → List X) (g : Source S → List X) (before : ℕ)
    (t : Tagging S) (word : List (Source S)) → IsSeen w wraps f g
    → flat_map f (fold (tag_one w wraps before) t word).items ≡ flat_map f t.items ++ flat_map g word
tagged_seen w wraps f g before t [] is = sym (append-nil (flat_map f t.items))
tagged_seen {S = S} w wraps f g before t (letter c main further ∷ rest) is =
    let u : Tagging S = tag_one w wraps before t (letter c main further) in
    tagged_seen w wraps f g before u rest is
    ∙ ap (λ ys. ys ++ flat_map g rest) (flat_map-append f t.items (character c (chosen u.goes_on main further) ∷ [])
    ∙ ap (λ ys. flat_map f t.items ++ ys) (append-nil (f (character c (chosen u.goes_on main further)))
    ∙ is.letters c main further (chosen u.goes_on main further)))
    ∙ append_assoc (flat_map f t.items) (g (letter c main further)) (flat_map g rest)
tagged_seen w wraps f g before t (fragment name ∷ rest) is =
    tagged_seen w wraps f g before (tag_one w wraps before t (fragment name)) rest is
    ∙ ap (λ ys. ys ++ flat_map g rest) (flat_map-append f t.items (marker name ∷ [])
    ∙ ap (λ ys. flat_map f t.items ++ ys) (append-nil (f (marker name)) ∙ is.fragments name))
    ∙ append_assoc (flat_map f t.items) (g (fragment name)) (flat_map g rest)

body_seen : {S X : Type 0} (w : ℕ) (wraps : Bool) (f : Item S → List X) (g : Source S → List X) (xs : List X)
    (word : List (Source S)) (r : Laying S) → IsSeen w wraps f g → HasSeen f xs r
    → HasSeen f (xs ++ flat_map g word) (lay_body w wraps word r)
body_seen {S = S} w wraps f g xs word r is h =
    let room : Laying S = with_room w 0 r in
    let t : Tagging S = tagged_body w wraps room word in
    let k : HasSeen f (xs ++ flat_map f t.items) (lay_items w wraps t.items room) =
    items_seen w wraps f is.spaces xs t.items room (roomed w 0 f is.spaces xs r h) in
    record {
      seen = k.seen ∙ ap (λ ys. xs ++ ys)
          (tagged_seen w wraps f g (taken room) (record { items = []; goes_on = room.goes_on }) word is);
      tail = k.tail;
      spaces = k.spaces;
    }

-- ---- parts

-- what is seen of the bodies
abbrev seen_in : {S X : Type 0} → (Source S → List X) → List (Part S) → List X
seen_in g [] = []
seen_in g (blank n main further ∷ ps) = seen_in g ps
seen_in g (stop main further ∷ ps) = seen_in g ps
seen_in g (body word ∷ ps) = flat_map g word ++ seen_in g ps

seen_in-append : {S X : Type 0} (g : Source S → List X) (ps qs : List (Part S)) → seen_in g (ps ++ qs) ≡ seen_in g ps
    ++ seen_in g qs
seen_in-append g [] qs = refl
seen_in-append g (blank n main further ∷ ps) qs = seen_in-append g ps qs
seen_in-append g (stop main further ∷ ps) qs = seen_in-append g ps qs
seen_in-append g (body word ∷ ps) qs = ap (λ ys. flat_map g word ++ ys) (seen_in-append g ps qs)
    ∙ sym (append_assoc (flat_map g word) (seen_in g ps) (seen_in g qs))

all_seen : {S X : Type 0} (w : ℕ) (wraps : Bool) (f : Item S → List X) (g : Source S → List X) (xs : List X)
    (r : Laying S) (ps : List (Part S)) → IsSeen w wraps f g → HasSeen f xs r
    → HasSeen f (xs ++ seen_in g ps) (fold (lay_part w wraps) r ps)
all_seen w wraps f g xs r [] is h = subst (λ ys. HasSeen f ys r) (sym (append-nil xs)) h
all_seen w wraps f g xs r (blank n main further ∷ ps) is h =
    all_seen w wraps f g xs (lay_blank n main further r) ps is (blank_seen f xs n main further r h)
all_seen w wraps f g xs r (stop main further ∷ ps) is h =
    all_seen w wraps f g xs (lay_stop w main further r) ps is (stop_seen w f is.spaces xs main further r h)
all_seen w wraps f g xs r (body word ∷ ps) is h =
    subst (λ ys. HasSeen f ys (fold (lay_part w wraps) r (body word ∷ ps)))
    (append_assoc xs (flat_map g word) (seen_in g ps))
    (all_seen w wraps f g (xs ++ flat_map g word) (lay_body w wraps word r) ps is
    (body_seen w wraps f g xs word r is h))

-- a word that ends is seen in its body, or waits
ended_or_waits_by : {S X : Type 0} (g : Source S → List X) (begun : Bool) (word : List (Source S))
    → seen_in g (if begun then body word ∷ [] else []) ++ flat_map g (if begun then [] else word) ≡ flat_map g word
ended_or_waits_by g true word = append-nil (flat_map g word ++ []) ∙ append-nil (flat_map g word)
ended_or_waits_by g false word = refl

ended_or_waits : {S X : Type 0} (g : Source S → List X) (word : List (Source S)) → seen_in g (ended_word word)
    ++ flat_map g (waiting_word word) ≡ flat_map g word
ended_or_waits g word = ended_or_waits_by g (is_begun word) word

ended_after : {S X : Type 0} (g : Source S → List X) (word : List (Source S)) (p : Part S) → seen_in g (p ∷ []) ≡ []
    → seen_in g (ended_word word ++ p ∷ []) ++ flat_map g (waiting_word word) ≡ flat_map g word
ended_after g word p none =
    ap (λ ys. ys ++ flat_map g (waiting_word word)) (seen_in-append g (ended_word word) (p ∷ [])
    ∙ ap (λ ys. seen_in g (ended_word word) ++ ys) none ∙ append-nil (seen_in g (ended_word word)))
    ∙ ended_or_waits g word

more_seen : {S X : Type 0} (g : Source S → List X) (word : List (Source S)) (x : Source S) → flat_map g (word ++ x ∷ [])
    ≡ flat_map g word ++ g x
more_seen g word x = flat_map-append g word (x ∷ []) ∙ ap (λ ys. flat_map g word ++ ys) (append-nil (g x))

unseen_letter : {X : Type 0} (xs ys : List X) → ys ≡ [] → xs ≡ xs ++ ys
unseen_letter xs ys none = sym (ap (λ zs. xs ++ zs) none ∙ append-nil xs)

one_seen : {S X : Type 0} (g : Source S → List X) (k : Kind) (inside : Bool) (c : ℕ) (main further : S)
    (word : List (Source S)) → (is_solid k ≡ false → g (letter c main further) ≡ [])
    → seen_in g (parts_at k inside c main further word) ++ flat_map g (word_at k inside c main further word)
    ≡ flat_map g word ++ g (letter c main further)
one_seen g solid inside c main further word others = more_seen g word (letter c main further)
one_seen g white true c main further word others = more_seen g word (letter c main further)
one_seen g white false c main further word others = ended_after g word (blank (width_of c) main further) refl
    ∙ unseen_letter (flat_map g word) (g (letter c main further)) (others refl)
one_seen g tab inside c main further word others = ended_after g word (stop main further) refl
    ∙ unseen_letter (flat_map g word) (g (letter c main further)) (others refl)
one_seen g cut inside c main further word others = ended_or_waits g word
    ∙ unseen_letter (flat_map g word) (g (letter c main further)) (others refl)
one_seen g nothing inside c main further word others =
    unseen_letter (flat_map g word) (g (letter c main further)) (others refl)

-- what is seen of a source line is seen in its bodies, or waits
parts_seen : {S X : Type 0} (w : ℕ) (wraps : Bool) (f : Item S → List X) (g : Source S → List X)
    (word line : List (Source S)) → IsSeen w wraps f g
    → seen_in g (parts_after w wraps word line) ++ flat_map g (word_after w wraps word line)
    ≡ flat_map g word ++ flat_map g line
parts_seen w wraps f g word [] is = ended_or_waits g word ∙ sym (append-nil (flat_map g word))
parts_seen {S = S} w wraps f g word (letter c main further ∷ rest) is =
    let k : Kind = kind_of w wraps c in
    let inside : Bool = goes_over_white wraps word in
    let next : List (Source S) = word_at k inside c main further word in
    let here : List (Part S) = parts_at k inside c main further word in
    ap (λ ys. ys ++ flat_map g (word_after w wraps next rest)) (seen_in-append g here (parts_after w wraps next rest))
    ∙ append_assoc (seen_in g here) (seen_in g (parts_after w wraps next rest))
    (flat_map g (word_after w wraps next rest))
    ∙ ap (λ ys. seen_in g here ++ ys) (parts_seen w wraps f g next rest is)
    ∙ sym (append_assoc (seen_in g here) (flat_map g next) (flat_map g rest))
    ∙ ap (λ ys. ys ++ flat_map g rest) (one_seen g k inside c main further word (is.others c main further))
    ∙ append_assoc (flat_map g word) (g (letter c main further)) (flat_map g rest)
parts_seen w wraps f g word (fragment name ∷ rest) is =
    parts_seen w wraps f g (word ++ fragment name ∷ []) rest is
    ∙ ap (λ ys. ys ++ flat_map g rest) (more_seen g word (fragment name))
    ∙ append_assoc (flat_map g word) (g (fragment name)) (flat_map g rest)

neither : (a b : Bool) → (a || b) ≡ false → a ≡ false
neither true b e = cc
neither false b e = refl

-- nothing that is seen is trimmed
trimmed_seen : {S X : Type 0} (w : ℕ) (wraps : Bool) (f : Item S → List X) (g : Source S → List X)
    (line : List (Source S)) → IsSeen w wraps f g → flat_map g (trimmed w wraps line) ≡ flat_map g line
trimmed_seen w wraps f g [] is = refl
trimmed_seen w wraps f g (letter c main further ∷ rest) is =
    cond_both (is_solid (kind_of w wraps c) || has_solid w wraps rest)
    (letter c main further ∷ trimmed w wraps rest) (trimmed w wraps rest)
    (λ xs. flat_map g xs ≡ flat_map g (letter c main further ∷ rest))
    (λ e. ap (λ ys. g (letter c main further) ++ ys) (trimmed_seen w wraps f g rest is))
    (λ e. trimmed_seen w wraps f g rest is ∙ sym (ap (λ ys. ys ++ flat_map g rest)
    (is.others c main further (neither (is_solid (kind_of w wraps c)) (has_solid w wraps rest) e))))
trimmed_seen w wraps f g (fragment name ∷ rest) is = ap (λ ys. g (fragment name) ++ ys)
    (trimmed_seen w wraps f g rest is)

-- What is seen of a source line is seen on its lines, on what is left at hand, or waits.
pub laid_seen : {S X : Type 0} (w : ℕ) (wraps : Bool) (f : Item S → List X) (g : Source S → List X)
    (line : List (Source S)) → IsSeen w wraps f g
    → flat_map (λ items. flat_map f items) (laid w wraps line).done ++ (flat_map f (laid w wraps line).line
    ++ flat_map g (word_after w wraps [] (trimmed w wraps line))) ≡ flat_map g line
laid_seen {S = S} w wraps f g line is =
    let before : Laying S = fold (lay_part w wraps) nothing_laid (parts w wraps line) in
    let waiting : List (Source S) = word_after w wraps [] (trimmed w wraps line) in
    let h : HasSeen f (seen_in g (parts w wraps line)) (fresh before) =
    freshened f is.spaces (seen_in g (parts w wraps line)) before
    (all_seen w wraps f g [] nothing_laid (parts w wraps line) is (record { seen = refl; tail = tt; spaces = tt })) in
    sym (append_assoc (flat_map (λ items. flat_map f items) (fresh before).done) (flat_map f (fresh before).line)
    (flat_map g waiting))
    ∙ ap (λ ys. ys ++ flat_map g waiting) h.seen ∙ parts_seen w wraps f g [] (trimmed w wraps line) is
    ∙ trimmed_seen w wraps f g line is
