-- Tags have no say in a layout: the same letters under other tags stand on the same lines.
use Rattle.std.proofs.Common.{◌≡◌, ◌+◌, [], ◌∷◌, ◌++◌, ◌∙◌, Bool, List, ap, false, map, nat_le, nat_lt, refl, sym, true}
use Rattle.std.proofs.Common.{ℕ}
use Rattle.std.specs.Prelude.{Option, None, Some, is_some, fold, filter, if◌then◌else◌}
use Rattle.std.specs.Option.{option_map}
use Rattle.std.proofs.lemmas.List.{map-append}
use Rattle.text_lines.specs.Columns.{columns_of, width_of}
use Rattle.text_lines.specs.Tagged.{character}
use Rattle.text_pieces.specs.Retagged.{reitem}
use Rattle.text_normal.specs.Units.{Letter, Piece, first_of, has_columns, has_letters, is_break_point, is_white_space}
use Rattle.text_normal.specs.Units.{joined, joining, letters_columns, piece, pieces_after, space_of, units, with_front}
use Rattle.text_normal.specs.Layout.{Joint, Mark, columns, cuttable, following_columns, following_items, gap, gap_items}
use Rattle.text_normal.specs.Layout.{inside, mark, marked, marks_items, opens, starts}
use Rattle.text_normal.specs.Greedy.{Filled, filled, ended, all_lines, add_marks, add_mark, add_unit, add_units}

abbrev pub retag : {A B : Type 0} → (A → B) → Letter A → Letter B
retag f l = record { code = l.code; tag = f l.tag }

abbrev pub repiece : {A B : Type 0} → (A → B) → Piece A → Piece B
repiece f p = piece (option_map f p.space) (map (retag f) p.letters)

abbrev pub rejoint : {A B : Type 0} → (A → B) → Joint A → Joint B
rejoint f (opens space) = opens (option_map f space)
rejoint f starts = starts
rejoint f inside = inside
rejoint f cuttable = cuttable

abbrev pub remark : {A B : Type 0} → (A → B) → Mark A → Mark B
remark f m = mark (retag f m.letter) (rejoint f m.joint)

abbrev pub refilled : {A B : Type 0} → (A → B) → Filled A → Filled B
refilled f x = filled (map (map (remark f)) x.done) (map (remark f) x.line)

-- ---- pieces

space_chosen : {A B : Type 0} (f : A → B) (tag : A) (b : Bool) → (if b then Some (f tag) else None) ≡ option_map f
    (if b then Some tag else None)
space_chosen f tag true = refl
space_chosen f tag false = refl

space_retagged : {A B : Type 0} (f : A → B) (l : Letter A) → space_of (retag f l) ≡ option_map f (space_of l)
space_retagged f l = space_chosen f l.tag (is_white_space l.code)

front_chosen : {A B : Type 0} (f : A → B) (s : Option A) (l : Letter A) (ls : List (Letter A)) (ps : List (Piece A))
    (b : Bool) → (piece (option_map f s) (if b then retag f l ∷ map (retag f) ls else map (retag f) ls) ∷ map
    (repiece f) ps) ≡ map (repiece f) (piece s (if b then l ∷ ls else ls) ∷ ps)
front_chosen f s l ls ps true = refl
front_chosen f s l ls ps false = refl

front_retagged : {A B : Type 0} (f : A → B) (l : Letter A) (ps : List (Piece A)) → with_front (retag f l)
    (map (repiece f) ps) ≡ map (repiece f) (with_front l ps)
front_retagged f l [] = refl
front_retagged f l (p ∷ ps) = front_chosen f p.space l p.letters ps (is_some (columns_of l.code))

pieces_at : {A B : Type 0} (f : A → B) (s : Option A) (l : Letter A) (ls : List (Letter A))
    → ((t : Option A) → pieces_after (option_map f t) (map (retag f) ls) ≡ map (repiece f) (pieces_after t ls))
    → (b : Bool)
    → (if b then piece (option_map f s) [] ∷ pieces_after (space_of (retag f l)) (map (retag f) ls)
    else with_front (retag f l) (pieces_after (option_map f s) (map (retag f) ls)))
    ≡ map (repiece f) (if b then piece s [] ∷ pieces_after (space_of l) ls else with_front l (pieces_after s ls))
pieces_at f s l ls rest true =
    ap (λ ps. piece (option_map f s) [] ∷ ps) (ap (λ t. pieces_after t (map (retag f) ls)) (space_retagged f l)
    ∙ rest (space_of l))
pieces_at f s l ls rest false = ap (with_front (retag f l)) (rest s) ∙ front_retagged f l (pieces_after s ls)

pieces_retagged : {A B : Type 0} (f : A → B) (ls : List (Letter A)) (s : Option A)
    → pieces_after (option_map f s) (map (retag f) ls) ≡ map (repiece f) (pieces_after s ls)
pieces_retagged f [] s = refl
pieces_retagged f (l ∷ ls) s = pieces_at f s l ls (λ t. pieces_retagged f ls t) (is_break_point l.code)

-- ---- units

columns_retagged : {A B : Type 0} (f : A → B) (ls : List (Letter A)) → letters_columns (map (retag f) ls)
    ≡ letters_columns ls
columns_retagged f [] = refl
columns_retagged f (l ∷ ls) = ap (λ n. width_of l.code + n) (columns_retagged f ls)

first_retagged : {A B : Type 0} (f : A → B) (s t : Option A) → first_of (option_map f s) (option_map f t)
    ≡ option_map f (first_of s t)
first_retagged f None t = refl
first_retagged f (Some x) t = refl

joining_at : {A B : Type 0} (f : A → B) (p q : Piece A) (qs : List (Piece A)) (b : Bool)
    → (if b then repiece f p ∷ repiece f q ∷ map (repiece f) qs
    else piece (first_of (option_map f p.space) (option_map f q.space))
    (map (retag f) p.letters ++ map (retag f) q.letters) ∷ map (repiece f) qs)
    ≡ map (repiece f) (if b then p ∷ q ∷ qs else piece (first_of p.space q.space) (p.letters ++ q.letters) ∷ qs)
joining_at f p q qs true = refl
joining_at f p q qs false =
    ap (λ s. piece s (map (retag f) p.letters ++ map (retag f) q.letters) ∷ map (repiece f) qs)
    (first_retagged f p.space q.space)
    ∙ ap (λ ls. piece (option_map f (first_of p.space q.space)) ls ∷ map (repiece f) qs)
    (sym (map-append (retag f) p.letters q.letters))

joining_retagged : {A B : Type 0} (f : A → B) (p : Piece A) (ps : List (Piece A))
    → joining (repiece f p) (map (repiece f) ps) ≡ map (repiece f) (joining p ps)
joining_retagged f p [] = refl
joining_retagged f p (q ∷ qs) =
    ap (λ n. if nat_lt 0 n then repiece f p ∷ repiece f q ∷ map (repiece f) qs
    else piece (first_of (option_map f p.space) (option_map f q.space))
    (map (retag f) p.letters ++ map (retag f) q.letters) ∷ map (repiece f) qs) (columns_retagged f p.letters)
    ∙ joining_at f p q qs (has_columns p.letters)

joined_retagged : {A B : Type 0} (f : A → B) (ps : List (Piece A)) → joined (map (repiece f) ps)
    ≡ map (repiece f) (joined ps)
joined_retagged f [] = refl
joined_retagged f (p ∷ ps) = ap (joining (repiece f p)) (joined_retagged f ps) ∙ joining_retagged f p (joined ps)

kept_at : {A B : Type 0} (f : A → B) (s : Option A) (ls : List (Letter A)) (ps : List (Piece A))
    → filter has_letters (map (repiece f) ps) ≡ map (repiece f) (filter has_letters ps)
    → filter has_letters (repiece f (piece s ls) ∷ map (repiece f) ps)
    ≡ map (repiece f) (filter has_letters (piece s ls ∷ ps))
kept_at f s [] ps rest = rest
kept_at f s (l ∷ ls) ps rest = ap (λ qs. repiece f (piece s (l ∷ ls)) ∷ qs) rest

kept_retagged : {A B : Type 0} (f : A → B) (ps : List (Piece A)) → filter has_letters (map (repiece f) ps)
    ≡ map (repiece f) (filter has_letters ps)
kept_retagged f [] = refl
kept_retagged f (p ∷ ps) = kept_at f p.space p.letters ps (kept_retagged f ps)

pub units_retagged : {A B : Type 0} (f : A → B) (ls : List (Letter A)) → units (map (retag f) ls)
    ≡ map (repiece f) (units ls)
units_retagged f ls =
    ap (λ ps. filter has_letters (joined ps)) (pieces_retagged f ls None)
    ∙ ap (filter has_letters) (joined_retagged f (pieces_after None ls)) ∙ kept_retagged f
    (joined (pieces_after None ls))

-- ---- lines

gap_retagged : {A B : Type 0} (f : A → B) (j : Joint A) → gap (rejoint f j) ≡ gap j
gap_retagged f (opens None) = refl
gap_retagged f (opens (Some tag)) = refl
gap_retagged f starts = refl
gap_retagged f inside = refl
gap_retagged f cuttable = refl

following_retagged : {A B : Type 0} (f : A → B) (ms : List (Mark A)) → following_columns (map (remark f) ms)
    ≡ following_columns ms
following_retagged f [] = refl
following_retagged f (m ∷ ms) =
    ap (λ n. n + width_of m.letter.code + following_columns (map (remark f) ms)) (gap_retagged f m.joint)
    ∙ ap (λ n. gap m.joint + width_of m.letter.code + n) (following_retagged f ms)

line_retagged : {A B : Type 0} (f : A → B) (ms : List (Mark A)) → columns (map (remark f) ms) ≡ columns ms
line_retagged f [] = refl
line_retagged f (m ∷ ms) = ap (λ n. width_of m.letter.code + n) (following_retagged f ms)

ended_retagged : {A B : Type 0} (f : A → B) (ms : List (Mark A)) → ended (map (remark f) ms)
    ≡ map (map (remark f)) (ended ms)
ended_retagged f [] = refl
ended_retagged f (m ∷ ms) = refl

all_retagged : {A B : Type 0} (f : A → B) (x : Filled A) → all_lines (refilled f x)
    ≡ map (map (remark f)) (all_lines x)
all_retagged f x =
    ap (λ l. map (map (remark f)) x.done ++ l) (ended_retagged f x.line)
    ∙ sym (map-append (map (remark f)) x.done (ended x.line))

add_at : {A B : Type 0} (f : A → B) (x : Filled A) (ms : List (Mark A)) (b : Bool)
    → (if b then filled (map (map (remark f)) x.done) (map (remark f) x.line ++ map (remark f) ms)
    else filled (all_lines (refilled f x)) (map (remark f) ms))
    ≡ refilled f (if b then filled x.done (x.line ++ ms) else filled (all_lines x) ms)
add_at f x ms true = ap (filled (map (map (remark f)) x.done)) (sym (map-append (remark f) x.line ms))
add_at f x ms false = ap (λ d. filled d (map (remark f) ms)) (all_retagged f x)

add_retagged : {A B : Type 0} (f : A → B) (w : ℕ) (x : Filled A) (ms : List (Mark A))
    → add_marks w (refilled f x) (map (remark f) ms) ≡ refilled f (add_marks w x ms)
add_retagged f w x ms =
    ap (λ n. if nat_le n w then filled (map (map (remark f)) x.done) (map (remark f) x.line ++ map (remark f) ms)
    else filled (all_lines (refilled f x)) (map (remark f) ms))
    (ap columns (sym (map-append (remark f) x.line ms)) ∙ line_retagged f (x.line ++ ms))
    ∙ add_at f x ms (nat_le (columns (x.line ++ ms)) w)

fold_mapped : {X Y M N : Type 0} (g : X → M → X) (h : Y → N → Y) (R : X → Y) (r : M → N)
    → ((x : X) (m : M) → h (R x) (r m) ≡ R (g x m)) → (ms : List M) (x : X) → fold h (R x) (map r ms)
    ≡ R (fold g x ms)
fold_mapped g h R r step [] x = refl
fold_mapped g h R r step (m ∷ ms) x = ap (λ y. fold h y (map r ms)) (step x m)
    ∙ fold_mapped g h R r step ms (g x m)

further_retagged : {A B : Type 0} (f : A → B) (j : Joint A) (ls : List (Letter A))
    → map (λ x. mark x (rejoint f j)) (map (retag f) ls) ≡ map (remark f) (map (λ x. mark x j) ls)
further_retagged f j [] = refl
further_retagged f j (l ∷ ls) = ap (λ ms. mark (retag f l) (rejoint f j) ∷ ms) (further_retagged f j ls)

marked_retagged : {A B : Type 0} (f : A → B) (i j : Joint A) (ls : List (Letter A))
    → marked (rejoint f i) (rejoint f j) (map (retag f) ls) ≡ map (remark f) (marked i j ls)
marked_retagged f i j [] = refl
marked_retagged f i j (l ∷ ls) = ap (λ ms. mark (retag f l) (rejoint f i) ∷ ms) (further_retagged f j ls)

unit_at : {A B : Type 0} (f : A → B) (w : ℕ) (x : Filled A) (p : Piece A) (b : Bool)
    → (if b then add_marks w (refilled f x) (marked (opens (option_map f p.space)) inside (map (retag f) p.letters))
    else fold (add_mark w) (filled (all_lines (refilled f x)) []) (marked starts cuttable (map (retag f) p.letters)))
    ≡ refilled f (if b then add_marks w x (marked (opens p.space) inside p.letters)
    else fold (add_mark w) (filled (all_lines x) []) (marked starts cuttable p.letters))
unit_at f w x p true =
    ap (add_marks w (refilled f x)) (marked_retagged f (opens p.space) inside p.letters)
    ∙ add_retagged f w x (marked (opens p.space) inside p.letters)
unit_at f w x p false =
    ap (fold (add_mark w) (filled (all_lines (refilled f x)) [])) (marked_retagged f starts cuttable p.letters)
    ∙ ap (λ d. fold (add_mark w) (filled d []) (map (remark f) (marked starts cuttable p.letters))) (all_retagged f x)
    ∙ fold_mapped (add_mark w) (add_mark w) (refilled f) (remark f) (λ y m. add_retagged f w y (m ∷ []))
    (marked starts cuttable p.letters) (filled (all_lines x) [])

unit_retagged : {A B : Type 0} (f : A → B) (w : ℕ) (x : Filled A) (p : Piece A)
    → add_unit w (refilled f x) (repiece f p) ≡ refilled f (add_unit w x p)
unit_retagged f w x p =
    ap (λ n. if nat_le n w then add_marks w (refilled f x)
    (marked (opens (option_map f p.space)) inside (map (retag f) p.letters))
    else fold (add_mark w) (filled (all_lines (refilled f x)) []) (marked starts cuttable (map (retag f) p.letters)))
    (columns_retagged f p.letters) ∙ unit_at f w x p (nat_le (letters_columns p.letters) w)

pub lines_retagged : {A B : Type 0} (f : A → B) (w : ℕ) (ls : List (Letter A))
    → all_lines (add_units w (units (map (retag f) ls))) ≡ map (map (remark f)) (all_lines (add_units w (units ls)))
lines_retagged f w ls =
    ap (λ ps. all_lines (add_units w ps)) (units_retagged f ls)
    ∙ ap all_lines (fold_mapped (add_unit w) (add_unit w) (refilled f) (repiece f) (unit_retagged f w) (units ls)
    (filled [] [])) ∙ all_retagged f (add_units w (units ls))

-- ---- what stands on the lines

gap_shown : {A B : Type 0} (f : A → B) (j : Joint A) → gap_items (rejoint f j) ≡ map (reitem f) (gap_items j)
gap_shown f (opens None) = refl
gap_shown f (opens (Some tag)) = refl
gap_shown f starts = refl
gap_shown f inside = refl
gap_shown f cuttable = refl

following_shown : {A B : Type 0} (f : A → B) (ms : List (Mark A)) → following_items (map (remark f) ms)
    ≡ map (reitem f) (following_items ms)
following_shown f [] = refl
following_shown f (m ∷ ms) =
    ap (λ g. g ++ character m.letter.code (f m.letter.tag) ∷ following_items (map (remark f) ms))
    (gap_shown f m.joint)
    ∙ ap (λ rest. map (reitem f) (gap_items m.joint) ++ character m.letter.code (f m.letter.tag) ∷ rest)
    (following_shown f ms)
    ∙ sym (map-append (reitem f) (gap_items m.joint) (character m.letter.code m.letter.tag ∷ following_items ms))

pub items_retagged : {A B : Type 0} (f : A → B) (ms : List (Mark A)) → marks_items (map (remark f) ms)
    ≡ map (reitem f) (marks_items ms)
items_retagged f [] = refl
items_retagged f (m ∷ ms) = ap (λ rest. character m.letter.code (f m.letter.tag) ∷ rest) (following_shown f ms)
