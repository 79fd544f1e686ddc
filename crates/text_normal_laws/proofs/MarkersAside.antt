-- Markers change no line: line by line, the characters are those of the text without its markers.
use Rattle.std.proofs.Common.{◌≡◌, ◌⊎◌, ◌≤◌, ◌&&◌, ◌||◌, [], ◌∷◌, ◌++◌, ◌∙◌, Bool, List, None, ap, append-nil}
use Rattle.std.proofs.Common.{append_assoc, arith, cond, false, filter, inl, inr, is_some, map, nat_le, nat_lt, not}
use Rattle.std.proofs.Common.{refl, subst, sym, true, ℕ}
use Rattle.std.specs.Prelude.{Option, All, IsTrue, fold, if◌then◌else◌}
use Rattle.std.proofs.lemmas.Bool.{false≢true}
use Rattle.std.proofs.lemmas.Bool.Decides.{nat_tests}
use Rattle.std.proofs.lemmas.List.Elements.{All-nil, All-cons, All-head, All-tail, All-filter}
use Rattle.text_lines.specs.Columns.{columns_of, width_of}
use Rattle.text_lines.specs.Tagged.{Item, character, marker, characters}
use Rattle.text_pieces.specs.Sources.{Source, letter, fragment, is_break_point, is_filled}
use Rattle.text_pieces.specs.Items.{has_text}
use Rattle.text_normal.specs.Units.{Letter, Piece, first_of, has_columns, has_letters, joined, joining, piece}
use Rattle.text_normal.specs.Units.{pieces_after, space_of, units, with_front}
use Rattle.text_normal.specs.Layout.{IsAllowed, Mark, marks_items}
use Rattle.text_normal.specs.Greedy.{all_lines, add_units}
use Rattle.text_normal.specs.Letters.{letters_of as source_letters, texts_of}
use Rattle.text_normal.specs.Riders.{Rider, carry, has_wide_text, in_word_at, is_carrier, normal_lines, note}
use Rattle.text_normal.specs.Riders.{nothing_carried, plain, plain_letter, ride, settled_lines, shown_item, shown_lines}
use Rattle.text_normal.proofs.UnitsReading.{pieces_after-filled, pieces_after-letter, pieces_after-break}
use Rattle.text_normal.proofs.NormalFinal.{letters_fit, units_fit}
use Rattle.text_normal_laws.proofs.MarkedWidth.{carried_room}
use Rattle.text_normal.specs.NormalStates.{AllHaveRoom, has_room}
use Rattle.text_normal.proofs.UnitsLetters.{units_are_filled}
use Rattle.text_normal.proofs.Retagging.{retag}
use Rattle.text_normal.proofs.PlainLines.{lines_shown, line_has_text, all_allowed}
use Rattle.text_normal_laws.proofs.MarkedKept.{IsRiding, AreRiding, riding_both, all_carried}
use Rattle.text_normal_laws.proofs.NotesAside.{is_plain, bare, bare_columns, chars, bare_piece, IsSound}
use Rattle.text_normal_laws.proofs.NotesAside.{units_show_alike}

-- ---- pieces without the notes

front_of_plain : {S : Type 0} (l : Letter (Rider S)) (ps : List (Piece (Rider S))) → is_plain l.tag ≡ true
    → map bare_piece (with_front l ps) ≡ with_front l (map bare_piece ps)
front_of_plain l [] is = refl
front_of_plain {S = S} l (p ∷ ps) is = by_some (is_some (columns_of l.code))
  where
    by_some : (b : Bool) → (piece p.space (bare (if b then l ∷ p.letters else p.letters)) ∷ map bare_piece ps)
        ≡ (piece p.space (if b then l ∷ bare p.letters else bare p.letters) ∷ map bare_piece ps)
    by_some true =
        ap (λ b. piece p.space (if b then l ∷ bare p.letters else bare p.letters) ∷ map bare_piece ps) is
    by_some false = refl

front_of_note : {S : Type 0} (l : Letter (Rider S)) (ps : List (Piece (Rider S))) → is_plain l.tag ≡ false
    → map bare_piece (with_front l ps) ≡ map bare_piece ps
front_of_note l [] is = refl
front_of_note {S = S} l (p ∷ ps) is = by_some (is_some (columns_of l.code))
  where
    by_some : (b : Bool) → (piece p.space (bare (if b then l ∷ p.letters else p.letters)) ∷ map bare_piece ps)
        ≡ (piece p.space (bare p.letters) ∷ map bare_piece ps)
    by_some true =
        ap (λ b. piece p.space (if b then l ∷ bare p.letters else bare p.letters) ∷ map bare_piece ps) is
    by_some false = refl

pieces_step : {S : Type 0} (s : Option (Rider S)) (l : Letter (Rider S)) (ls : List (Letter (Rider S)))
    → ((t : Option (Rider S)) → map bare_piece (pieces_after t ls) ≡ pieces_after t (bare ls)) → (tag : Rider S)
    → l.tag ≡ tag → IsRiding l.code tag → map bare_piece (pieces_after s (l ∷ ls))
    ≡ pieces_after s (if is_plain tag then l ∷ bare ls else bare ls)
pieces_step {S = S} s l ls rest (plain t) is rides = by_break (is_break_point l.code)
  where
    by_break : (b : Bool) → map bare_piece (if b then piece s [] ∷ pieces_after (space_of l) ls
        else with_front l (pieces_after s ls)) ≡ (if b then piece s [] ∷ pieces_after (space_of l) (bare ls)
        else with_front l (pieces_after s (bare ls)))
    by_break true = ap (λ ps. piece s [] ∷ ps) (rest (space_of l))
    by_break false = front_of_plain l (pieces_after s ls) (ap is_plain is) ∙ ap (with_front l) (rest s)
pieces_step {S = S} s l ls rest (note name) is rides = by_break (is_break_point l.code) (ap is_break_point rides)
  where
    by_break : (b : Bool) → b ≡ is_break_point 0x2060 → map bare_piece (if b
        then piece s [] ∷ pieces_after (space_of l) ls else with_front l (pieces_after s ls))
        ≡ pieces_after s (bare ls)
    by_break true e = absurd (false≢true (sym e))
    by_break false e = front_of_note l (pieces_after s ls) (ap is_plain is) ∙ rest s

pieces_bare : {S : Type 0} (s : Option (Rider S)) (ls : List (Letter (Rider S))) → AreRiding ls
    → map bare_piece (pieces_after s ls) ≡ pieces_after s (bare ls)
pieces_bare s [] rides = refl
pieces_bare s (l ∷ ls) rides = pieces_step s l ls (λ t. pieces_bare t ls rides.1) l.tag refl rides.0

-- notes of a piece ride, and where a piece has a letter it has one that is no note
abbrev RidesIn : {S : Type 0} → Piece (Rider S) → Type 0
RidesIn p = AreRiding p.letters

abbrev IsGood : {S : Type 0} → Piece (Rider S) → Type 0
IsGood p = is_filled (bare p.letters) ≡ is_filled p.letters

front_rides : {S : Type 0} (l : Letter (Rider S)) (ps : List (Piece (Rider S))) → IsRiding l.code l.tag → All RidesIn ps
    → All RidesIn (with_front l ps)
front_rides l [] here h = h
front_rides {S = S} l (p ∷ ps) here h = by_some (is_some (columns_of l.code))
  where
    by_some : (b : Bool) → All RidesIn (piece p.space (if b then l ∷ p.letters else p.letters) ∷ ps)
    by_some true = All-cons RidesIn (piece p.space (l ∷ p.letters)) ps (here, All-head RidesIn p ps h)
        (All-tail RidesIn p ps h)
    by_some false = All-cons RidesIn (piece p.space p.letters) ps (All-head RidesIn p ps h) (All-tail RidesIn p ps h)

rides_step : {S : Type 0} (s : Option (Rider S)) (l : Letter (Rider S)) (ls : List (Letter (Rider S)))
    → ((t : Option (Rider S)) → All RidesIn (pieces_after t ls)) → IsRiding l.code l.tag → (b : Bool)
    → All RidesIn (if b then piece s [] ∷ pieces_after (space_of l) ls else with_front l (pieces_after s ls))
rides_step s l ls rest here true = All-cons RidesIn (piece s []) (pieces_after (space_of l) ls) tt (rest (space_of l))
rides_step s l ls rest here false = front_rides l (pieces_after s ls) here (rest s)

pieces_ride : {S : Type 0} (s : Option (Rider S)) (ls : List (Letter (Rider S))) → AreRiding ls
    → All RidesIn (pieces_after s ls)
pieces_ride s [] rides = All-cons RidesIn (piece s []) [] tt (All-nil RidesIn)
pieces_ride s (l ∷ ls) rides = rides_step s l ls (λ t. pieces_ride t ls rides.1) rides.0 (is_break_point l.code)

bare-append : {S : Type 0} (xs ys : List (Letter (Rider S))) → bare (xs ++ ys) ≡ bare xs ++ bare ys
bare-append [] ys = refl
bare-append {S = S} (x ∷ xs) ys = by_plain (is_plain x.tag) (bare-append xs ys)
  where
    by_plain : (b : Bool) → bare (xs ++ ys) ≡ bare xs ++ bare ys
        → (if b then x ∷ bare (xs ++ ys) else bare (xs ++ ys)) ≡ (if b then x ∷ bare xs else bare xs) ++ bare ys
    by_plain true rest = ap (λ ls. x ∷ ls) rest
    by_plain false rest = rest

filled-append : {A : Type 0} (xs ys : List A) → is_filled (xs ++ ys) ≡ (is_filled xs || is_filled ys)
filled-append [] ys = refl
filled-append (x ∷ xs) ys = refl

-- what holds of pieces holds of joined ones
joining_is : {S : Type 0} (p : Piece (Rider S)) (ps : List (Piece (Rider S))) → RidesIn p → All RidesIn ps → IsGood p
    → All IsGood ps → (map bare_piece (joining p ps) ≡ joining (bare_piece p) (map bare_piece ps))
    × (All RidesIn (joining p ps) × All IsGood (joining p ps))
joining_is p [] rides all good goods =
    (refl, (All-cons RidesIn p [] rides all, All-cons IsGood p [] good goods))
joining_is {S = S} p (q ∷ qs) rides all good goods =
    by_columns (has_columns p.letters) (has_columns (bare p.letters))
    (ap (λ n. nat_lt 0 n) (sym (bare_columns p.letters rides)))
  where
    by_columns : (a b : Bool) → a ≡ b → (map bare_piece (if a then p ∷ q ∷ qs
        else piece (first_of p.space q.space) (p.letters ++ q.letters) ∷ qs)
        ≡ (if b then bare_piece p ∷ bare_piece q ∷ map bare_piece qs
        else piece (first_of p.space q.space) (bare p.letters ++ bare q.letters) ∷ map bare_piece qs))
        × (All RidesIn (if a then p ∷ q ∷ qs else piece (first_of p.space q.space) (p.letters ++ q.letters) ∷ qs)
        × All IsGood (if a then p ∷ q ∷ qs else piece (first_of p.space q.space) (p.letters ++ q.letters) ∷ qs))
    by_columns true false e = cc
    by_columns false true e = cc
    by_columns true true e =
        (refl, (All-cons RidesIn p (q ∷ qs) rides all, All-cons IsGood p (q ∷ qs) good goods))
    by_columns false false e = (
      ap (λ ls. piece (first_of p.space q.space) ls ∷ map bare_piece qs) (bare-append p.letters q.letters),
      (
        All-cons RidesIn (piece (first_of p.space q.space) (p.letters ++ q.letters)) qs
            (riding_both p.letters q.letters rides (All-head RidesIn q qs all)) (All-tail RidesIn q qs all),
        All-cons IsGood (piece (first_of p.space q.space) (p.letters ++ q.letters)) qs
            (ap is_filled (bare-append p.letters q.letters) ∙ filled-append (bare p.letters) (bare q.letters)
            ∙ ap (λ b. b || is_filled (bare q.letters)) good
            ∙ ap (λ b. is_filled p.letters || b) (All-head IsGood q qs goods)
            ∙ sym (filled-append p.letters q.letters)) (All-tail IsGood q qs goods),
      ),
    )

record JoinedIs {S : Type 0} (ps : List (Piece (Rider S))) : Type 0 where
  same : map bare_piece (joined ps) ≡ joined (map bare_piece ps)
  rides : All RidesIn (joined ps)
  goods : All IsGood (joined ps)

joined_is : {S : Type 0} (ps : List (Piece (Rider S))) → All RidesIn ps → All IsGood ps → JoinedIs ps
joined_is [] rides goods = record { same = refl; rides = rides; goods = goods }
joined_is (p ∷ ps) rides goods =
    let rest = joined_is ps (All-tail RidesIn p ps rides) (All-tail IsGood p ps goods) in
    let here = joining_is p (joined ps) (All-head RidesIn p ps rides) rest.rides (All-head IsGood p ps goods) rest.goods
    in
    record {
      same = here.0 ∙ ap (joining (bare_piece p)) rest.same;
      rides = here.1.0;
      goods = here.1.1;
    }

filter_bare : {S : Type 0} (ps : List (Piece (Rider S))) → All IsGood ps → map bare_piece (filter has_letters ps)
    ≡ filter has_letters (map bare_piece ps)
filter_bare [] goods = refl
filter_bare {S = S} (p ∷ ps) goods =
    by_letters (filter_bare ps (All-tail IsGood p ps goods)) (is_filled p.letters) (is_filled (bare p.letters))
    (sym (All-head IsGood p ps goods))
  where
    by_letters : map bare_piece (filter has_letters ps) ≡ filter has_letters (map bare_piece ps) → (a b : Bool) → a ≡ b
        → map bare_piece (cond a (p ∷ filter has_letters ps) (filter has_letters ps))
        ≡ cond b (bare_piece p ∷ filter has_letters (map bare_piece ps)) (filter has_letters (map bare_piece ps))
    by_letters rest true true e = ap (λ qs. bare_piece p ∷ qs) rest
    by_letters rest true false e = cc
    by_letters rest false true e = cc
    by_letters rest false false e = rest

sound_all : {S : Type 0} (w : ℕ) (ps : List (Piece (Rider S))) → All RidesIn ps → All IsGood ps
    → All (λ p. All (λ l. width_of l.code ≤ w) p.letters) ps → All (λ p. has_letters p ≡ true) ps → All (IsSound w) ps
sound_all w [] rides goods fits some = All-nil (IsSound w)
sound_all w (p ∷ ps) rides goods fits some =
    let here = All-head (λ q. has_letters q ≡ true) p ps some in
    All-cons (IsSound w) p ps (record {
      rides = All-head RidesIn p ps rides;
      fits = All-head (λ q. All (λ l. width_of l.code ≤ w) q.letters) p ps fits;
      some = here;
      bare_some = All-head IsGood p ps goods ∙ here;
    })
    (sound_all w ps (All-tail RidesIn p ps rides) (All-tail IsGood p ps goods)
    (All-tail (λ q. All (λ l. width_of l.code ≤ w) q.letters) p ps fits)
    (All-tail (λ q. has_letters q ≡ true) p ps some))

-- the units of letters on which notes ride
record UnitsAre {S : Type 0} (w : ℕ) (ls : List (Letter (Rider S))) : Type 0 where
  same : map bare_piece (units ls) ≡ units (bare ls)
  sound : All (IsSound w) (units ls)

no_overflow : {P : Type 0} → (false ≡ true) ⊎ P → P
no_overflow (inl e) = absurd (false≢true e)
no_overflow (inr h) = h

units_are : {S : Type 0} (w : ℕ) (ls : List (Letter (Rider S))) → AreRiding ls → AllHaveRoom w false ls
    → All IsGood (pieces_after None ls) → UnitsAre w ls
units_are w ls rides room goods =
    let ps = pieces_after None ls in
    let j = joined_is ps (pieces_ride None ls rides) goods in
    record {
      same = filter_bare (joined ps) j.goods ∙ ap (filter has_letters) (j.same ∙ ap joined (pieces_bare None ls rides));
      sound = sound_all w (units ls) (All-filter has_letters RidesIn (joined ps) j.rides)
          (All-filter has_letters IsGood (joined ps) j.goods)
          (no_overflow (units_fit w false ls (letters_fit w false ls room))) (units_are_filled ls);
    }

-- ---- what is carried of a text, from its front

abbrev emitted : {S : Type 0} → ℕ → List (List ℕ) → Bool → List (Source S) → List (Letter (Rider S))
emitted w waiting in_word [] = []
emitted w waiting in_word (letter c main further ∷ rest) =
    if is_carrier c
    then map (λ name. ride name) waiting ++ (plain_letter c main ∷ emitted w [] (in_word_at w in_word c) rest)
    else plain_letter c main ∷ emitted w waiting (in_word_at w in_word c) rest
emitted w waiting in_word (fragment name ∷ rest) =
    if in_word then ride name ∷ emitted w waiting in_word rest else emitted w (waiting ++ name ∷ []) in_word rest

carried_emitted : {S : Type 0} (w : ℕ) (source : List (Source S)) (letters : List (Letter (Rider S)))
    (waiting : List (List ℕ)) (in_word : Bool)
    → (fold (carry w) (record { letters = letters; waiting = waiting; in_word = in_word }) source).letters
    ≡ letters ++ emitted w waiting in_word source
carried_emitted w [] letters waiting in_word = sym (append-nil letters)
carried_emitted {S = S} w (letter c main further ∷ rest) letters waiting in_word =
    by_carrier (λ ls ws b. carried_emitted w rest ls ws b) (is_carrier c)
  where
    by_carrier : ((ls : List (Letter (Rider S))) (ws : List (List ℕ)) (b : Bool)
        → (fold (carry w) (record { letters = ls; waiting = ws; in_word = b }) rest).letters ≡ ls ++ emitted w ws b rest)
        → (b : Bool) → (fold (carry w) (if b then record {
          letters = letters ++ (map (λ name. ride name) waiting ++ plain_letter c main ∷ []);
          waiting = [];
          in_word = in_word_at w in_word c;
        } else record {
          letters = letters ++ plain_letter c main ∷ [];
          waiting = waiting;
          in_word = in_word_at w in_word c;
        }) rest).letters ≡ letters ++ (if b
        then map (λ name. ride name) waiting ++ (plain_letter c main ∷ emitted w [] (in_word_at w in_word c) rest)
        else plain_letter c main ∷ emitted w waiting (in_word_at w in_word c) rest)
    by_carrier more true =
        more (letters ++ (map (λ name. ride name) waiting ++ plain_letter c main ∷ [])) [] (in_word_at w in_word c)
        ∙ append_assoc letters (map (λ name. ride name) waiting ++ plain_letter c main ∷ [])
        (emitted w [] (in_word_at w in_word c) rest)
        ∙ ap (λ ls. letters ++ ls) (append_assoc (map (λ name. ride name) waiting) (plain_letter c main ∷ [])
        (emitted w [] (in_word_at w in_word c) rest))
    by_carrier more false =
        more (letters ++ plain_letter c main ∷ []) waiting (in_word_at w in_word c)
        ∙ append_assoc letters (plain_letter c main ∷ []) (emitted w waiting (in_word_at w in_word c) rest)
carried_emitted {S = S} w (fragment name ∷ rest) letters waiting in_word =
    by_word (λ ls ws. carried_emitted w rest ls ws in_word) in_word refl
  where
    by_word : ((ls : List (Letter (Rider S))) (ws : List (List ℕ))
        → (fold (carry w) (record { letters = ls; waiting = ws; in_word = in_word }) rest).letters
        ≡ ls ++ emitted w ws in_word rest) → (b : Bool) → in_word ≡ b → (fold (carry w) (if b
        then record { letters = letters ++ ride name ∷ []; waiting = waiting; in_word = in_word }
        else record { letters = letters; waiting = waiting ++ name ∷ []; in_word = in_word }) rest).letters
        ≡ letters ++ (if b then ride name ∷ emitted w waiting in_word rest else emitted w (waiting ++ name ∷ []) in_word rest)
    by_word more true is =
        more (letters ++ ride name ∷ []) waiting ∙ append_assoc letters (ride name ∷ []) (emitted w waiting in_word rest)
    by_word more false is = more letters (waiting ++ name ∷ [])

-- its letters alone
abbrev plains : {S : Type 0} → List (Source S) → List (Letter (Rider S))
plains [] = []
plains (letter c main further ∷ rest) = plain_letter c main ∷ plains rest
plains (fragment name ∷ rest) = plains rest

rides_bare : (S : Type 0) (names : List (List ℕ)) (ls : List (Letter (Rider S)))
    → bare (map (λ name. ride name) names ++ ls) ≡ bare ls
rides_bare S [] ls = refl
rides_bare S (name ∷ names) ls = rides_bare S names ls

emitted_bare : {S : Type 0} (w : ℕ) (source : List (Source S)) (waiting : List (List ℕ)) (in_word : Bool)
    → bare (emitted w waiting in_word source) ≡ plains source
emitted_bare w [] waiting in_word = refl
emitted_bare {S = S} w (letter c main further ∷ rest) waiting in_word =
    by_carrier (λ ws b. emitted_bare w rest ws b) (is_carrier c)
  where
    by_carrier : ((ws : List (List ℕ)) (b : Bool) → bare (emitted w ws b rest) ≡ plains rest) → (b : Bool) → bare (if b
        then map (λ name. ride name) waiting ++ (plain_letter c main ∷ emitted w [] (in_word_at w in_word c) rest)
        else plain_letter c main ∷ emitted w waiting (in_word_at w in_word c) rest) ≡ plain_letter c main ∷ plains rest
    by_carrier more true =
        rides_bare S waiting (plain_letter c main ∷ emitted w [] (in_word_at w in_word c) rest)
        ∙ ap (λ ls. plain_letter c main ∷ ls) (more [] (in_word_at w in_word c))
    by_carrier more false = ap (λ ls. plain_letter c main ∷ ls) (more waiting (in_word_at w in_word c))
emitted_bare {S = S} w (fragment name ∷ rest) waiting in_word = by_word (λ ws. emitted_bare w rest ws in_word) in_word
  where
    by_word : ((ws : List (List ℕ)) → bare (emitted w ws in_word rest) ≡ plains rest) → (b : Bool) → bare (if b
        then ride name ∷ emitted w waiting in_word rest else emitted w (waiting ++ name ∷ []) in_word rest) ≡ plains rest
    by_word more true = more waiting
    by_word more false = more (waiting ++ name ∷ [])

-- ---- each piece that has a note has a letter

abbrev GoodAfter : {S : Type 0} → Bool → List (Piece (Rider S)) → Type 0
GoodAfter in_word [] = Unit {0}
GoodAfter in_word (p ∷ ps) = (in_word ≡ false → IsGood p) × All IsGood ps

abbrev BeginsPlain : {S : Type 0} → List (Piece (Rider S)) → Type 0
BeginsPlain [] = ⊥
BeginsPlain (p ∷ ps) = ((is_filled p.letters ≡ true) × (is_filled (bare p.letters) ≡ true)) × All IsGood ps

all_good : {S : Type 0} (ps : List (Piece (Rider S))) → GoodAfter false ps → All IsGood ps
all_good [] h = All-nil IsGood
all_good (p ∷ ps) h = All-cons IsGood p ps (h.0 refl) h.1

plain_good : {S : Type 0} (b : Bool) (ps : List (Piece (Rider S))) → BeginsPlain ps → GoodAfter b ps
plain_good b [] h = tt
plain_good b (p ∷ ps) h = (λ _. h.0.1 ∙ sym h.0.0, h.1)

ride_in_front : {S : Type 0} (name : List ℕ) (ps : List (Piece (Rider S))) → BeginsPlain ps
    → BeginsPlain (with_front (ride name) ps)
ride_in_front name [] h = h
ride_in_front {S = S} name (p ∷ ps) h = by_some (is_some (columns_of 0x2060))
  where
    by_some : (b : Bool) → BeginsPlain (piece p.space (if b then ride name ∷ p.letters else p.letters) ∷ ps)
    by_some true = ((refl, h.0.1), h.1)
    by_some false = h

ride_after : {S : Type 0} (name : List ℕ) (ps : List (Piece (Rider S))) → GoodAfter true ps
    → GoodAfter true (with_front (ride name) ps)
ride_after name [] h = h
ride_after name (p ∷ ps) h = (λ e. absurd (false≢true (sym e)), h.1)

rides_in_front : {S : Type 0} (s : Option (Rider S)) (names : List (List ℕ)) (xs : List (Letter (Rider S)))
    → BeginsPlain (pieces_after s xs) → BeginsPlain (pieces_after s (map (λ name. ride name) names ++ xs))
rides_in_front s [] xs h = h
rides_in_front s (name ∷ names) xs h =
    subst BeginsPlain (sym (pieces_after-letter s (ride name) (map (λ n. ride n) names ++ xs) refl))
    (ride_in_front name (pieces_after s (map (λ n. ride n) names ++ xs)) (rides_in_front s names xs h))

letter_in_front : {S : Type 0} (c : ℕ) (main : S) (ps : List (Piece (Rider S))) → is_filled ps ≡ true
    → is_some (columns_of c) ≡ true → GoodAfter true ps → BeginsPlain (with_front (plain_letter c main) ps)
letter_in_front c main [] some is h = cc
letter_in_front {S = S} c main (p ∷ ps) some is h =
    subst (λ b. BeginsPlain (piece p.space (if b then plain_letter c main ∷ p.letters else p.letters) ∷ ps)) (sym is)
    ((refl, refl), h.1)

letter_left_out : {S : Type 0} (b : Bool) (c : ℕ) (main : S) (ps : List (Piece (Rider S)))
    → is_some (columns_of c) ≡ false → GoodAfter b ps → GoodAfter b (with_front (plain_letter c main) ps)
letter_left_out b c main [] is h = h
letter_left_out {S = S} b c main (p ∷ ps) is h =
    subst (λ t. GoodAfter b (piece p.space (if t then plain_letter c main ∷ p.letters else p.letters) ∷ ps)) (sym is) h

not_wide : (w n : ℕ) → nat_lt w n ≡ false → nat_le n w ≡ true
not_wide w n h = grind (arith, nat_tests, h)

letter_good : {S : Type 0} (w c : ℕ) (main : S) (s : Option (Rider S)) (waiting : List (List ℕ)) (in_word : Bool)
    (rest : List (Source S)) → ((t : Option (Rider S)) (ws : List (List ℕ)) (b : Bool)
    → GoodAfter b (pieces_after t (emitted w ws b rest)))
    → (not (is_break_point c) && nat_lt w (width_of c)) ≡ false
    → (breaks some : Bool) → is_break_point c ≡ breaks → is_some (columns_of c) ≡ some
    → GoodAfter in_word (pieces_after s (if not breaks && some
    then map (λ name. ride name) waiting ++ (plain_letter c main ∷ emitted w [] (in_word_at w in_word c) rest)
    else plain_letter c main ∷ emitted w waiting (in_word_at w in_word c) rest))
letter_good w c main s waiting in_word rest more narrow true some breaks is =
    let l = plain_letter c main in
    let next : in_word_at w in_word c ≡ false = ap
    (λ b. if b then false else (if is_some (columns_of c) then nat_le (width_of c) w else in_word)) breaks in
    subst (GoodAfter in_word) (sym (pieces_after-break s l (emitted w waiting (in_word_at w in_word c) rest) breaks)) (
      λ _. refl,
      all_good (pieces_after (space_of l) (emitted w waiting (in_word_at w in_word c) rest))
          (subst (λ b. GoodAfter false (pieces_after (space_of l) (emitted w waiting b rest))) (sym next)
          (more (space_of l) waiting false)),
    )
letter_good w c main s waiting in_word rest more narrow false false breaks is =
    let l = plain_letter c main in
    let next : in_word_at w in_word c ≡ in_word = ap
    (λ b. if b then false else (if is_some (columns_of c) then nat_le (width_of c) w else in_word)) breaks
    ∙ ap (λ b. if b then nat_le (width_of c) w else in_word) is in
    subst (GoodAfter in_word) (sym (pieces_after-letter s l (emitted w waiting (in_word_at w in_word c) rest) breaks))
    (letter_left_out in_word c main (pieces_after s (emitted w waiting (in_word_at w in_word c) rest)) is
    (subst (λ b. GoodAfter in_word (pieces_after s (emitted w waiting b rest))) (sym next) (more s waiting in_word)))
letter_good w c main s waiting in_word rest more narrow false true breaks is =
    let l = plain_letter c main in
    let fits : nat_le (width_of c) w ≡ true = not_wide w (width_of c)
    (sym (ap (λ b. not b && nat_lt w (width_of c)) breaks) ∙ narrow) in
    let next : in_word_at w in_word c ≡ true = ap
    (λ b. if b then false else (if is_some (columns_of c) then nat_le (width_of c) w else in_word)) breaks
    ∙ ap (λ b. if b then nat_le (width_of c) w else in_word) is ∙ fits in
    let xs = emitted w [] (in_word_at w in_word c) rest in
    plain_good in_word (pieces_after s (map (λ name. ride name) waiting ++ (l ∷ xs)))
    (rides_in_front s waiting (l ∷ xs) (subst BeginsPlain (sym (pieces_after-letter s l xs breaks))
    (letter_in_front c main (pieces_after s xs) (pieces_after-filled s xs) is
    (subst (λ b. GoodAfter true (pieces_after s (emitted w [] b rest))) (sym next) (more s [] true)))))

fragment_good : {S : Type 0} (w : ℕ) (name : List ℕ) (s : Option (Rider S)) (waiting : List (List ℕ)) (in_word : Bool)
    (rest : List (Source S)) → ((ws : List (List ℕ)) (b : Bool) → GoodAfter b (pieces_after s (emitted w ws b rest)))
    → GoodAfter in_word (pieces_after s (if in_word then ride name ∷ emitted w waiting in_word rest
    else emitted w (waiting ++ name ∷ []) in_word rest))
fragment_good w name s waiting true rest more =
    subst (GoodAfter true) (sym (pieces_after-letter s (ride name) (emitted w waiting true rest) refl))
    (ride_after name (pieces_after s (emitted w waiting true rest)) (more waiting true))
fragment_good w name s waiting false rest more = more (waiting ++ name ∷ []) false

both_false : (a b : Bool) → (a || b) ≡ false → (a ≡ false) × (b ≡ false)
both_false true b h = cc
both_false false b h = (refl, h)

emitted_good : {S : Type 0} (w : ℕ) (source : List (Source S)) (s : Option (Rider S)) (waiting : List (List ℕ))
    (in_word : Bool) → has_wide_text w source ≡ false
    → GoodAfter in_word (pieces_after s (emitted w waiting in_word source))
emitted_good w [] s waiting in_word narrow = (λ _. refl, All-nil IsGood)
emitted_good w (letter c main further ∷ rest) s waiting in_word narrow =
    let parts = both_false (not (is_break_point c) && nat_lt w (width_of c)) (has_wide_text w rest) narrow in
    letter_good w c main s waiting in_word rest (λ t ws b. emitted_good w rest t ws b parts.1) parts.0 (is_break_point c)
    (is_some (columns_of c)) refl refl
emitted_good w (fragment name ∷ rest) s waiting in_word narrow =
    fragment_good w name s waiting in_word rest (λ ws b. emitted_good w rest s ws b narrow)

-- ---- the lines

emitted_plain : {S : Type 0} (w : ℕ) (source : List (Source S)) (in_word : Bool) → emitted w [] in_word (texts_of source)
    ≡ plains source
emitted_plain w [] in_word = refl
emitted_plain {S = S} w (letter c main further ∷ rest) in_word =
    by_carrier (emitted_plain w rest (in_word_at w in_word c)) (is_carrier c)
  where
    by_carrier : emitted w [] (in_word_at w in_word c) (texts_of rest) ≡ plains rest → (b : Bool) → (if b
        then [] ++ (plain_letter c main ∷ emitted w [] (in_word_at w in_word c) (texts_of rest))
        else plain_letter c main ∷ emitted w [] (in_word_at w in_word c) (texts_of rest))
        ≡ plain_letter c main ∷ plains rest
    by_carrier more true = ap (λ ls. plain_letter c main ∷ ls) more
    by_carrier more false = ap (λ ls. plain_letter c main ∷ ls) more
emitted_plain w (fragment name ∷ rest) in_word = emitted_plain w rest in_word

plains_retagged : {S : Type 0} (source : List (Source S)) → plains source ≡ map (retag plain) (source_letters source)
plains_retagged [] = refl
plains_retagged (letter c main further ∷ rest) = ap (λ ls. plain_letter c main ∷ ls) (plains_retagged rest)
plains_retagged (fragment name ∷ rest) = plains_retagged rest

shown_chars : {S : Type 0} (lines : List (List (Mark (Rider S))))
    → map (characters {S = S}) (map (map shown_item) (map marks_items lines)) ≡ map chars lines
shown_chars [] = refl
shown_chars (line ∷ lines) = ap (λ ls. chars line ∷ ls) (shown_chars lines)

abbrev HaveText : {S : Type 0} → List (List (Item S)) → Type 0
HaveText [] = Unit {0}
HaveText (line ∷ lines) = (has_text line ≡ true) × HaveText lines

text_characters : {S : Type 0} (items : List (Item S)) → has_text items ≡ is_filled (characters items)
text_characters [] = refl
text_characters (character c tag ∷ items) = refl
text_characters (marker name ∷ items) = text_characters items

text_alike : {S : Type 0} (xs ys : List (List (Item S))) → map characters xs ≡ map characters ys → HaveText ys
    → HaveText xs
text_alike [] ys same h = tt
text_alike (x ∷ xs) [] same h = cc
text_alike (x ∷ xs) (y ∷ ys) same h =
    let first : characters x ≡ characters y = cc in
    let rest : map characters xs ≡ map characters ys = cc in
    (text_characters x ∙ ap is_filled first ∙ sym (text_characters y) ∙ h.0, text_alike xs ys rest h.1)

settled_text : {S : Type 0} (lines : List (List (Item S))) → HaveText lines → settled_lines [] lines ≡ lines
settled_text [] h = refl
settled_text (line ∷ lines) h =
    ap (λ t. if t then ([] ++ line) ∷ settled_lines [] lines else settled_lines ([] ++ line) lines) h.0
    ∙ ap (λ ls. line ∷ ls) (settled_text lines h.1)

allowed_text : {S : Type 0} (w : ℕ) (lines : List (List (Mark S))) → All (IsAllowed w true) lines
    → HaveText (map marks_items lines)
allowed_text w [] h = tt
allowed_text w (line ∷ lines) h = (
  line_has_text w line (All-head (IsAllowed w true) line lines h),
  allowed_text w lines (All-tail (IsAllowed w true) line lines h),
)

plains_text : {S : Type 0} (w : ℕ) (source : List (Source S)) → HaveText (shown_lines w (plains source))
plains_text w source =
    subst HaveText (sym (ap (shown_lines w) (plains_retagged source) ∙ lines_shown w (source_letters source)))
    (allowed_text w (all_lines (add_units w (units (source_letters source)))) (all_allowed w (source_letters source)))

emitted_shown : {S : Type 0} (w : ℕ) (source : List (Source S)) → has_wide_text w source ≡ false
    → AreRiding (emitted w [] false source) → AllHaveRoom w false (emitted w [] false source)
    → map (characters {S = S}) (shown_lines w (emitted w [] false source))
    ≡ map (characters {S = S}) (shown_lines w (plains source))
emitted_shown w source narrow rides room =
    let ls = emitted w [] false source in
    let are = units_are w ls rides room (all_good (pieces_after None ls) (emitted_good w source None [] false narrow)) in
    shown_chars (all_lines (add_units w (units ls))) ∙ units_show_alike w (units ls) are.sound
    ∙ ap (λ ps. map chars (all_lines (add_units w ps))) (are.same ∙ ap units (emitted_bare w source [] false))
    ∙ sym (shown_chars (all_lines (add_units w (units (plains source)))))

pub markers_stand_aside : {S : Type 0} (w : ℕ) (source : List (Source S)) → has_wide_text w source ≡ false
    → map (characters {S = S}) (normal_lines w source) ≡ map (characters {S = S}) (normal_lines w (texts_of source))
unfolding normal_lines
markers_stand_aside {S = S} w source narrow =
    let is = carried_emitted {S = S} w source [] [] false in
    let h = all_carried w source [] nothing_carried (record { riding = tt; all = refl; clear = λ within. refl }) in
    let room = carried_room w source nothing_carried narrow (All-nil (λ l. IsTrue (has_room w false l))) in
    let same = emitted_shown w source narrow (subst AreRiding is h.riding) (subst (AllHaveRoom w false) is room) in
    let text = plains_text w source in
    ap (λ ls. map characters (settled_lines [] (shown_lines w ls))) is
    ∙ ap (map characters) (settled_text (shown_lines w (emitted w [] false source))
    (text_alike (shown_lines w (emitted w [] false source)) (shown_lines w (plains source)) same text))
    ∙ same
    ∙ ap (map characters) (sym (settled_text (shown_lines w (plains source)) text))
    ∙ ap (λ ls. map characters (settled_lines [] (shown_lines w ls)))
    (sym (carried_emitted {S = S} w (texts_of source) [] [] false ∙ emitted_plain w source false))
