-- Each character of normal text that is shown stands on its lines once, in order.
use Rattle.std.proofs.Common.{◌≡◌, [], ◌∷◌, ◌++◌, ◌∙◌, Bool, List, None, Some, ap, append-nil, append_assoc, cond}
use Rattle.std.proofs.Common.{false, filter, flat_map, inl, map, refl, sym, true, ℕ}
use Rattle.std.specs.Prelude.{fold, if◌then◌else◌}
use Rattle.std.proofs.lemmas.Bool.{cond-false}
use Rattle.std.proofs.lemmas.List.Elements.{filter-append}
use Rattle.text_lines.specs.Tagged.{Item, character, marker, characters}
use Rattle.text_pieces.specs.Sources.{Source, letter, fragment}
use Rattle.text_pieces.specs.Items.{has_text}
use Rattle.text_pieces.proofs.ItemColumns.{characters-append, no_characters}
use Rattle.text_normal.specs.Units.{Letter, units}
use Rattle.text_normal.specs.Layout.{Joint, Mark, cuttable, following_items, gap_items, inside, joined_lines}
use Rattle.text_normal.specs.Layout.{marks_items, opens, starts}
use Rattle.text_normal.specs.Greedy.{all_lines, add_units}
use Rattle.text_normal.specs.Letters.{is_shown, codes_of}
use Rattle.text_normal.specs.Riders.{Carried, Rider, carried, carry, in_word_at, is_carrier, normal_lines, note}
use Rattle.text_normal.specs.Riders.{nothing_carried, plain, plain_letter, ride, settled_lines, shown_item, shown_lines}
use Rattle.text_normal.proofs.LayoutFilling.{filled_is_fullest, letters_there}
use Rattle.text_normal.proofs.UnitsLetters.{stands, units_letters, units_have_letters}
use Rattle.text_normal_laws.proofs.MarkedKept.{letters_in, letters_in-append, units_marked}

-- ---- the codes of letters, notes left out

abbrev pub letter_codes : {S : Type 0} → ℕ → Rider S → List ℕ
letter_codes c (plain tag) = c ∷ []
letter_codes c (note name) = []

abbrev pub codes : {S : Type 0} → List (Letter (Rider S)) → List ℕ
codes [] = []
codes (l ∷ ls) = letter_codes l.code l.tag ++ codes ls

codes-append : {S : Type 0} (xs ys : List (Letter (Rider S))) → codes (xs ++ ys) ≡ codes xs ++ codes ys
codes-append [] ys = refl
codes-append (x ∷ xs) ys =
    ap (λ cs. letter_codes x.code x.tag ++ cs) (codes-append xs ys)
    ∙ sym (append_assoc (letter_codes x.code x.tag) (codes xs) (codes ys))

codes-rides : (S : Type 0) (names : List (List ℕ)) → codes (map (λ name. ride {S = S} name) names) ≡ []
codes-rides S [] = refl
codes-rides S (name ∷ names) = codes-rides S names

-- ---- what is seen of items

abbrev seen : {S : Type 0} → List (Item (Rider S)) → List ℕ
seen items = filter is_shown (characters (map shown_item items))

item_seen : {S : Type 0} (c : ℕ) (tag : Rider S) (items : List (Item (Rider S)))
    → seen (character c tag ∷ items) ≡ filter is_shown (letter_codes c tag) ++ seen items
item_seen c (plain tag) items = filter-append is_shown (c ∷ []) (characters (map shown_item items))
item_seen c (note name) items = refl

gap_seen : {S : Type 0} (joint : Joint (Rider S)) (items : List (Item (Rider S)))
    → seen (gap_items joint ++ items) ≡ seen items
gap_seen (opens None) items = refl
gap_seen (opens (Some (plain tag))) items = refl
gap_seen (opens (Some (note name))) items = refl
gap_seen starts items = refl
gap_seen inside items = refl
gap_seen cuttable items = refl

more_seen : {S : Type 0} (l : Letter (Rider S)) (items : List (Item (Rider S))) (ls : List (Letter (Rider S)))
    → seen items ≡ filter is_shown (codes ls)
    → seen (character l.code l.tag ∷ items) ≡ filter is_shown (codes (l ∷ ls))
more_seen l items ls rest =
    item_seen l.code l.tag items ∙ ap (λ cs. filter is_shown (letter_codes l.code l.tag) ++ cs) rest
    ∙ sym (filter-append is_shown (letter_codes l.code l.tag) (codes ls))

following_seen : {S : Type 0} (ms : List (Mark (Rider S))) → seen (following_items ms)
    ≡ filter is_shown (codes (letters_in ms))
following_seen [] = refl
following_seen (m ∷ ms) =
    gap_seen m.joint (character m.letter.code m.letter.tag ∷ following_items ms)
    ∙ more_seen m.letter (following_items ms) (letters_in ms) (following_seen ms)

line_seen : {S : Type 0} (ms : List (Mark (Rider S))) → seen (marks_items ms) ≡ filter is_shown (codes (letters_in ms))
line_seen [] = refl
line_seen (m ∷ ms) = more_seen m.letter (following_items ms) (letters_in ms) (following_seen ms)

lines_seen : {S : Type 0} (lines : List (List (Mark (Rider S))))
    → filter is_shown (flat_map (characters {S = S}) (map (map shown_item) (map marks_items lines)))
    ≡ filter is_shown (codes (letters_in (joined_lines lines)))
lines_seen [] = refl
lines_seen {S = S} (line ∷ lines) =
    filter-append is_shown (characters (map shown_item (marks_items line)))
    (flat_map (characters {S = S}) (map (map shown_item) (map marks_items lines)))
    ∙ ap (λ cs. cs ++ filter is_shown (flat_map (characters {S = S}) (map (map shown_item) (map marks_items lines))))
    (line_seen line)
    ∙ ap (λ cs. filter is_shown (codes (letters_in line)) ++ cs) (lines_seen lines)
    ∙ sym (ap (λ ls. filter is_shown (codes ls)) (letters_in-append line (joined_lines lines))
    ∙ ap (filter is_shown) (codes-append (letters_in line) (letters_in (joined_lines lines)))
    ∙ filter-append is_shown (codes (letters_in line)) (codes (letters_in (joined_lines lines))))

-- ---- lines of markers alone have no characters

no_text_both : {S : Type 0} (xs ys : List (Item S)) → has_text xs ≡ false → has_text ys ≡ false
    → has_text (xs ++ ys) ≡ false
no_text_both [] ys h k = k
no_text_both (character c tag ∷ xs) ys h k = h
no_text_both (marker name ∷ xs) ys h k = no_text_both xs ys h k

settled_characters : {S : Type 0} (front : List (Item S)) (lines : List (List (Item S))) → has_text front ≡ false
    → flat_map (characters {S = S}) (settled_lines front lines) ≡ flat_map (characters {S = S}) lines
settled_characters front [] none = refl
settled_characters {S = S} front (line ∷ lines) none =
    by_text (settled_characters [] lines refl) (λ e. settled_characters (front ++ line) lines
    (no_text_both front line none e)) (has_text line) refl
  where
    by_text : flat_map (characters {S = S}) (settled_lines [] lines) ≡ flat_map (characters {S = S}) lines
        → (has_text line ≡ false → flat_map (characters {S = S}) (settled_lines (front ++ line) lines)
        ≡ flat_map (characters {S = S}) lines)
        → (b : Bool) → has_text line ≡ b → flat_map (characters {S = S}) (if b
        then (front ++ line) ∷ settled_lines [] lines else settled_lines (front ++ line) lines)
        ≡ characters line ++ flat_map (characters {S = S}) lines
    by_text fresh on true is =
        ap (λ cs. cs ++ flat_map (characters {S = S}) (settled_lines [] lines)) (characters-append front line
        ∙ ap (λ cs. cs ++ characters line) (no_characters front none))
        ∙ ap (λ cs. characters line ++ cs) fresh
    by_text fresh on false is =
        on is ∙ ap (λ cs. cs ++ flat_map (characters {S = S}) lines) (sym (no_characters line is))

-- ---- letters that stand in units

hidden : {S : Type 0} (c : ℕ) (tag : Rider S) → is_shown c ≡ false → filter is_shown (letter_codes c tag) ≡ []
hidden c (plain tag) h = cond-false (is_shown c) (c ∷ []) [] h
hidden c (note name) h = refl

standing_codes : {S : Type 0} (ls : List (Letter (Rider S))) → filter is_shown (codes (filter stands ls))
    ≡ filter is_shown (codes ls)
standing_codes [] = refl
standing_codes {S = S} (l ∷ ls) = by_standing (standing_codes ls) (is_shown l.code) refl
  where
    by_standing : filter is_shown (codes (filter stands ls)) ≡ filter is_shown (codes ls) → (b : Bool)
        → is_shown l.code ≡ b → filter is_shown (codes (cond b (l ∷ filter stands ls) (filter stands ls)))
        ≡ filter is_shown (letter_codes l.code l.tag ++ codes ls)
    by_standing rest true is =
        filter-append is_shown (letter_codes l.code l.tag) (codes (filter stands ls))
        ∙ ap (λ cs. filter is_shown (letter_codes l.code l.tag) ++ cs) rest
        ∙ sym (filter-append is_shown (letter_codes l.code l.tag) (codes ls))
    by_standing rest false is =
        rest ∙ ap (λ cs. cs ++ filter is_shown (codes ls)) (sym (hidden l.code l.tag is))
        ∙ sym (filter-append is_shown (letter_codes l.code l.tag) (codes ls))

lines_have_codes : {S : Type 0} (width : ℕ) (ls : List (Letter (Rider S)))
    → filter is_shown (flat_map (characters {S = S}) (shown_lines width ls)) ≡ filter is_shown (codes ls)
lines_have_codes width ls =
    let lines = all_lines (add_units width (units ls)) in
    let whole = (filled_is_fullest width true (units ls) (inl refl)
    (letters_there (units ls) (units_have_letters ls))).layout.whole in
    lines_seen lines ∙ ap (λ ms. filter is_shown (codes (letters_in ms))) whole
    ∙ ap (λ xs. filter is_shown (codes xs)) (units_marked width (units ls) ∙ units_letters ls) ∙ standing_codes ls

-- ---- what is carried

letter_codes_carried : {S : Type 0} (width c : ℕ) (main further : S) (k : Carried S)
    → codes (carry width k (letter c main further)).letters ≡ codes k.letters ++ c ∷ []
letter_codes_carried {S = S} width c main further k = by_carrier (is_carrier c)
  where
    by_carrier : (b : Bool) → codes (Carried.letters (if b then record {
      letters = k.letters ++ (map (λ name. ride name) k.waiting ++ plain_letter c main ∷ []);
      waiting = [];
      in_word = in_word_at width k.in_word c;
    } else record k { letters = k.letters ++ plain_letter c main ∷ []; in_word = in_word_at width k.in_word c }))
        ≡ codes k.letters ++ c ∷ []
    by_carrier true =
        codes-append k.letters (map (λ name. ride name) k.waiting ++ plain_letter c main ∷ [])
        ∙ ap (λ cs. codes k.letters ++ cs)
        (codes-append (map (λ name. ride {S = S} name) k.waiting) (plain_letter c main ∷ [])
        ∙ ap (λ cs. cs ++ c ∷ []) (codes-rides S k.waiting))
    by_carrier false = codes-append k.letters (plain_letter c main ∷ [])

fragment_codes_carried : {S : Type 0} (width : ℕ) (name : List ℕ) (k : Carried S)
    → codes (carry width k (fragment name)).letters ≡ codes k.letters
fragment_codes_carried width name k = by_word k.in_word
  where
    by_word : (b : Bool) → codes (Carried.letters (if b then record k { letters = k.letters ++ ride name ∷ [] }
        else record k { waiting = k.waiting ++ name ∷ [] })) ≡ codes k.letters
    by_word true = codes-append k.letters (ride name ∷ []) ∙ append-nil (codes k.letters)
    by_word false = refl

all_codes_carried : {S : Type 0} (width : ℕ) (source : List (Source S)) (k : Carried S)
    → codes (fold (carry width) k source).letters ≡ codes k.letters ++ codes_of source
all_codes_carried width [] k = sym (append-nil (codes k.letters))
all_codes_carried width (letter c main further ∷ source) k =
    all_codes_carried width source (carry width k (letter c main further))
    ∙ ap (λ cs. cs ++ codes_of source) (letter_codes_carried width c main further k)
    ∙ append_assoc (codes k.letters) (c ∷ []) (codes_of source)
all_codes_carried width (fragment name ∷ source) k =
    all_codes_carried width source (carry width k (fragment name))
    ∙ ap (λ cs. cs ++ codes_of source) (fragment_codes_carried width name k)

pub characters_shown : {S : Type 0} (width : ℕ) (source : List (Source S))
    → filter is_shown (flat_map (characters {S = S}) (normal_lines width source)) ≡ filter is_shown (codes_of source)
unfolding normal_lines
characters_shown {S = S} width source =
    ap (filter is_shown) (settled_characters [] (shown_lines width (carried width source).letters) refl)
    ∙ lines_have_codes width (carried width source).letters
    ∙ ap (filter is_shown) (all_codes_carried width source nothing_carried)
