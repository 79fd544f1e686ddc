-- The letters of the units are those of the stretch, in order, without break points and characters without a width.
use Rattle.std.proofs.Common.{◌≡◌, ◌≢◌, ◌≤◌, ◌&&◌, [], ◌∷◌, ◌++◌, ◌∙◌, All, Bool, List, None, Option, ap, append_assoc}
use Rattle.std.proofs.Common.{cond, false, filter, flat_map, get_or, is_some, not, refl, sym, true, ℕ}
use Rattle.std.proofs.lemmas.Bool.{cond-false}
use Rattle.std.proofs.lemmas.List.Elements.{All-cons, All-filter, All-head, All-nil, All-same, All-tail, All-weaker}
use Rattle.std.proofs.lemmas.List.Elements.{filter_passes}
use Rattle.text_lines.specs.Columns.{columns_of, width_of}
use Rattle.text_normal.specs.Units.{Letter, Piece, has_columns, has_letters, is_break_point, joined, joining, piece}
use Rattle.text_normal.specs.Units.{pieces_after, space_of, units, with_front}
use Rattle.text_pieces.specs.Sources.{is_filled}
use Rattle.text_normal.proofs.UnitsReading.{joining-with_columns, joining-without, pieces_after-break}
use Rattle.text_normal.proofs.UnitsReading.{pieces_after-filled, pieces_after-letter}

-- whether a character of the stretch stands in a unit
abbrev pub stands : {S : Type 0} → Letter S → Bool
stands l = not (is_break_point l.code) && is_some (columns_of l.code)

abbrev pub letters_of : {S : Type 0} → List (Piece S) → List (Letter S)
letters_of ps = flat_map (λ p. p.letters) ps

-- ---- the letters of the pieces

letters_of-filter_at : {S : Type 0} (s : Option S) (ls : List (Letter S)) (ps : List (Piece S))
    → letters_of (filter has_letters ps) ≡ letters_of ps → letters_of (filter has_letters (piece s ls ∷ ps))
    ≡ ls ++ letters_of ps
letters_of-filter_at s [] ps rest = rest
letters_of-filter_at s (l ∷ ls) ps rest = ap (λ xs. (l ∷ ls) ++ xs) rest

letters_of-filter : {S : Type 0} (ps : List (Piece S)) → letters_of (filter has_letters ps) ≡ letters_of ps
letters_of-filter [] = refl
letters_of-filter (p ∷ ps) = letters_of-filter_at p.space p.letters ps (letters_of-filter ps)

letters_of-joining : {S : Type 0} (p : Piece S) (ps : List (Piece S)) (b : Bool) → has_columns p.letters ≡ b
    → letters_of (joining p ps) ≡ p.letters ++ letters_of ps
letters_of-joining p [] b h = refl
letters_of-joining p (q ∷ qs) true h = ap letters_of (joining-with_columns p (q ∷ qs) h)
letters_of-joining p (q ∷ qs) false h =
    ap letters_of (joining-without p q qs h) ∙ append_assoc p.letters q.letters (letters_of qs)

letters_of-joined : {S : Type 0} (ps : List (Piece S)) → letters_of (joined ps) ≡ letters_of ps
letters_of-joined [] = refl
letters_of-joined (p ∷ ps) =
    letters_of-joining p (joined ps) (has_columns p.letters) refl ∙ ap (λ xs. p.letters ++ xs) (letters_of-joined ps)

letter_in_front : {S : Type 0} (b : Bool) (l : Letter S) (xs ys : List (Letter S)) → cond b (l ∷ xs) xs ++ ys ≡ cond b
    (l ∷ (xs ++ ys)) (xs ++ ys)
letter_in_front true l xs ys = refl
letter_in_front false l xs ys = refl

letters_of-with_front : {S : Type 0} (l : Letter S) (ps : List (Piece S)) → is_filled ps ≡ true
    → letters_of (with_front l ps) ≡ cond (is_some (columns_of l.code)) (l ∷ letters_of ps) (letters_of ps)
letters_of-with_front l [] h = cc
letters_of-with_front l (p ∷ ps) h = letter_in_front (is_some (columns_of l.code)) l p.letters (letters_of ps)

pieces_letters_at : {S : Type 0} (s : Option S) (l : Letter S) (ls : List (Letter S))
    → ((t : Option S) → letters_of (pieces_after t ls) ≡ filter stands ls) → (b : Bool) → is_break_point l.code ≡ b
    → letters_of (pieces_after s (l ∷ ls)) ≡ filter stands (l ∷ ls)
pieces_letters_at s l ls rest true h =
    ap letters_of (pieces_after-break s l ls h) ∙ rest (space_of l)
    ∙ sym (cond-false _ _ _ (ap (λ b. not b && is_some (columns_of l.code)) h))
pieces_letters_at s l ls rest false h =
    ap letters_of (pieces_after-letter s l ls h) ∙ letters_of-with_front l (pieces_after s ls)
    (pieces_after-filled s ls) ∙ ap (λ xs. cond (is_some (columns_of l.code)) (l ∷ xs) xs) (rest s)
    ∙ ap (λ b. cond (not b && is_some (columns_of l.code)) (l ∷ filter stands ls) (filter stands ls)) (sym h)

pieces_letters : {S : Type 0} (s : Option S) (ls : List (Letter S)) → letters_of (pieces_after s ls) ≡ filter stands ls
pieces_letters s [] = refl
pieces_letters s (l ∷ ls) = pieces_letters_at s l ls (λ t. pieces_letters t ls) (is_break_point l.code) refl

pub units_letters : {S : Type 0} (read : List (Letter S)) → letters_of (units read) ≡ filter stands read
units_letters read = letters_of-filter (joined (pieces_after None read)) ∙ letters_of-joined (pieces_after None read)
    ∙ pieces_letters None read

-- ---- what holds of each letter

all_front : {A : Type 0} (P : A → Type 0) (xs ys : List A) → All P (xs ++ ys) → All P xs
all_front P [] ys h = All-nil P
all_front P (x ∷ xs) ys h = All-cons P x xs (All-head P x (xs ++ ys) h) (all_front P xs ys (All-tail P x (xs ++ ys) h))

all_back : {A : Type 0} (P : A → Type 0) (xs ys : List A) → All P (xs ++ ys) → All P ys
all_back P [] ys h = h
all_back P (x ∷ xs) ys h = all_back P xs ys (All-tail P x (xs ++ ys) h)

pub each_piece : {S : Type 0} (P : Letter S → Type 0) (ps : List (Piece S)) → All P (letters_of ps)
    → All (λ p. All P p.letters) ps
each_piece P [] h = All-nil (λ p. All P p.letters)
each_piece P (p ∷ ps) h =
    All-cons (λ q. All P q.letters) p ps (all_front P p.letters (letters_of ps) h)
    (each_piece P ps (all_back P p.letters (letters_of ps) h))

not_a_break : (b c : Bool) → (not b && c) ≡ true → b ≡ false
not_a_break true c h = cc
not_a_break false c h = refl

-- where each letter that can stand in a unit fits the width, each letter of the units does
pub unit_letters_fit : {S : Type 0} (w : ℕ) (read : List (Letter S)) → All (λ l. is_break_point l.code ≡ false
    → width_of l.code ≤ w) read → All (λ p. All (λ l. width_of l.code ≤ w) p.letters) (units read)
unit_letters_fit w read fit =
    let kept = All-filter stands (λ l. is_break_point l.code ≡ false → width_of l.code ≤ w) read fit in
    let standing = filter_passes stands read in
    each_piece (λ l. width_of l.code ≤ w) (units read)
    (All-same (λ l. width_of l.code ≤ w) (letters_of (units read)) (filter stands read) (units_letters read)
    (λ k d lt. kept k d lt (not_a_break (is_break_point (get_or (filter stands read) k d).code)
    (is_some (columns_of (get_or (filter stands read) k d).code)) (standing k d lt))))

pub units_are_filled : {S : Type 0} (read : List (Letter S)) → All (λ p. has_letters p ≡ true) (units read)
units_are_filled read = filter_passes has_letters (joined (pieces_after None read))

filled_has_letters : {A : Type 0} (xs : List A) → is_filled xs ≡ true → xs ≢ []
filled_has_letters [] h e = cc
filled_has_letters (x ∷ xs) h e = cc

pub units_have_letters : {S : Type 0} (read : List (Letter S)) → All (λ p. p.letters ≢ []) (units read)
units_have_letters read = All-weaker (λ p. has_letters p ≡ true) (λ p. p.letters ≢ [])
    (λ p h. filled_has_letters p.letters h) (units read) (units_are_filled read)
