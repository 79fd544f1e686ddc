-- Reading letter by letter fills the lines as adding the units does.
use Rattle.std.proofs.Common.{◌≡◌, ◌+◌, [], ◌∷◌, ◌++◌, ◌∙◌, Bool, List, None, Option, Some, ap, append-nil}
use Rattle.std.proofs.Common.{append_assoc, arith, cond, false, filter, fold, is_some, ltb-false, nat_lt, refl, sym}
use Rattle.std.proofs.Common.{true, ℕ}
use Rattle.std.proofs.lemmas.Bool.{cond-true, cond-false}
use Rattle.text_lines.specs.Columns.{columns_of}
use Rattle.text_normal.specs.Units.{Letter, Piece, first_of, has_columns, has_letters, is_break_point, joined, joining}
use Rattle.text_normal.specs.Units.{letters_columns, piece, pieces_after, space_of, units, with_front}
use Rattle.text_pieces.specs.Sources.{is_filled}
use Rattle.text_normal.specs.Layout.{Mark}
use Rattle.text_normal.specs.Greedy.{Filled, filled, all_lines, add_unit, add_units}
use Rattle.text_normal.specs.Filling.{reading, read_letter, read_letters, nothing_read, lines_read}

-- ---- columns

pub letters_columns-append : {S : Type 0} (xs ys : List (Letter S)) → letters_columns (xs ++ ys) ≡ letters_columns
    xs + letters_columns ys
letters_columns-append [] ys = omega arith
letters_columns-append (x ∷ xs) ys = let rest = letters_columns-append xs ys in omega (arith, rest)

no_columns : (n : ℕ) → nat_lt 0 n ≡ false → n ≡ 0
no_columns n h = let none = ltb-false 0 n h in omega (arith, none)

-- letters without columns in front change no columns
pub has_columns-after_none : {S : Type 0} (xs ys : List (Letter S)) → has_columns xs ≡ false
    → has_columns (xs ++ ys) ≡ has_columns ys
has_columns-after_none xs ys h =
    let none = no_columns (letters_columns xs) h in
    let same : letters_columns (xs ++ ys) ≡ letters_columns ys = omega (arith, letters_columns-append xs ys, none) in
    ap (nat_lt 0) same

-- ---- joining

pub joining-with_columns : {S : Type 0} (p : Piece S) (ps : List (Piece S)) → has_columns p.letters ≡ true
    → joining p ps ≡ p ∷ ps
joining-with_columns p [] h = refl
joining-with_columns p (q ∷ qs) h = cond-true _ _ _ h

pub joining-without : {S : Type 0} (p q : Piece S) (ps : List (Piece S)) → has_columns p.letters ≡ false
    → joining p (q ∷ ps) ≡ piece (first_of p.space q.space) (p.letters ++ q.letters) ∷ ps
joining-without p q ps h = cond-false _ _ _ h

first_of-assoc : {S : Type 0} (a b c : Option S) → first_of a (first_of b c) ≡ first_of (first_of a b) c
first_of-assoc None b c = refl
first_of-assoc (Some t) b c = refl

piece-same : {S : Type 0} (a b : Option S) (xs ys : List (Letter S)) (ps : List (Piece S)) → a ≡ b → xs ≡ ys
    → (piece a xs ∷ ps) ≡ (piece b ys ∷ ps)
piece-same a b xs ys ps e h = ap (λ s. piece s xs ∷ ps) e ∙ ap (λ ls. piece b ls ∷ ps) h

-- A piece without columns joins the next, whatever that one joins.
joining_twice : {S : Type 0} (s t : Option S) (xs ys : List (Letter S)) (ps : List (Piece S)) (b : Bool)
    → has_columns ys ≡ b → has_columns xs ≡ false
    → joining (piece s xs) (joining (piece t ys) ps) ≡ joining (piece (first_of s t) (xs ++ ys)) ps
joining_twice s t xs ys [] b has none = joining-without (piece s xs) (piece t ys) [] none
joining_twice s t xs ys (q ∷ qs) true has none =
    ap (joining (piece s xs)) (joining-with_columns (piece t ys) (q ∷ qs) has) ∙ joining-without (piece s xs)
    (piece t ys) (q ∷ qs) none
    ∙ sym (joining-with_columns (piece (first_of s t) (xs ++ ys)) (q ∷ qs) (has_columns-after_none xs ys none ∙ has))
joining_twice s t xs ys (q ∷ qs) false has none =
    ap (joining (piece s xs)) (joining-without (piece t ys) q qs has) ∙ joining-without (piece s xs)
    (piece (first_of t q.space) (ys ++ q.letters)) qs none
    ∙ piece-same (first_of s (first_of t q.space)) (first_of (first_of s t) q.space) (xs ++ (ys ++ q.letters))
    ((xs ++ ys) ++ q.letters) qs (first_of-assoc s t q.space) (sym (append_assoc xs ys q.letters))
    ∙ sym (joining-without (piece (first_of s t) (xs ++ ys)) q qs (has_columns-after_none xs ys none ∙ has))

-- ---- the piece at hand in front of the pieces to come

abbrev pub in_front : {S : Type 0} → Option S → List (Letter S) → List (Piece S) → List (Piece S)
in_front space letters [] = []
in_front space letters (p ∷ ps) = piece space (letters ++ p.letters) ∷ ps

-- the letters with one more, where it has a width
abbrev pub with_letter : {S : Type 0} → List (Letter S) → Letter S → List (Letter S)
with_letter letters l = cond (is_some (columns_of l.code)) (letters ++ l ∷ []) letters

letter_moved : {S : Type 0} (b : Bool) (s : Option S) (l : Letter S) (xs ys : List (Letter S)) (ps : List (Piece S))
    → (piece s (xs ++ cond b (l ∷ ys) ys) ∷ ps) ≡ (piece s (cond b (xs ++ l ∷ []) xs ++ ys) ∷ ps)
letter_moved true s l xs ys ps = ap (λ ls. piece s ls ∷ ps) (sym (append_assoc xs (l ∷ []) ys))
letter_moved false s l xs ys ps = refl

in_front-with_front : {S : Type 0} (s : Option S) (xs : List (Letter S)) (l : Letter S) (ps : List (Piece S))
    → in_front s xs (with_front l ps) ≡ in_front s (with_letter xs l) ps
in_front-with_front s xs l [] = refl
in_front-with_front s xs l (p ∷ ps) = letter_moved (is_some (columns_of l.code)) s l xs p.letters ps

with_front-in_front : {S : Type 0} (s : Option S) (l : Letter S) (ps : List (Piece S))
    → in_front s [] (with_front l ps) ≡ with_front l (in_front s [] ps)
with_front-in_front s l [] = refl
with_front-in_front s l (p ∷ ps) = refl

pub pieces_after-letter : {S : Type 0} (s : Option S) (l : Letter S) (ls : List (Letter S))
    → is_break_point l.code ≡ false → pieces_after s (l ∷ ls) ≡ with_front l (pieces_after s ls)
pieces_after-letter s l ls h = cond-false _ _ _ h

pub pieces_after-break : {S : Type 0} (s : Option S) (l : Letter S) (ls : List (Letter S))
    → is_break_point l.code ≡ true → pieces_after s (l ∷ ls) ≡ piece s [] ∷ pieces_after (space_of l) ls
pieces_after-break s l ls h = cond-true _ _ _ h

nothing_in_front-at : {S : Type 0} (s t : Option S) (l : Letter S) (ls : List (Letter S))
    → in_front s [] (pieces_after t ls) ≡ pieces_after s ls → (b : Bool) → is_break_point l.code ≡ b
    → in_front s [] (pieces_after t (l ∷ ls)) ≡ pieces_after s (l ∷ ls)
nothing_in_front-at s t l ls rest true h = ap (in_front s []) (pieces_after-break t l ls h)
    ∙ sym (pieces_after-break s l ls h)
nothing_in_front-at s t l ls rest false h =
    ap (in_front s []) (pieces_after-letter t l ls h) ∙ with_front-in_front s l (pieces_after t ls)
    ∙ ap (with_front l) rest ∙ sym (pieces_after-letter s l ls h)

nothing_in_front : {S : Type 0} (s t : Option S) (ls : List (Letter S))
    → in_front s [] (pieces_after t ls) ≡ pieces_after s ls
nothing_in_front s t [] = refl
nothing_in_front s t (l ∷ ls) = nothing_in_front-at s t l ls (nothing_in_front s t ls) (is_break_point l.code) refl

with_front-filled : {S : Type 0} (l : Letter S) (ps : List (Piece S)) → is_filled ps ≡ true
    → is_filled (with_front l ps) ≡ true
with_front-filled l [] h = h
with_front-filled l (p ∷ ps) h = refl

filled-at : {S : Type 0} (s : Option S) (l : Letter S) (ls : List (Letter S)) → is_filled (pieces_after s ls) ≡ true
    → (b : Bool) → is_break_point l.code ≡ b → is_filled (pieces_after s (l ∷ ls)) ≡ true
filled-at s l ls rest true h = ap is_filled (pieces_after-break s l ls h)
filled-at s l ls rest false h = ap is_filled (pieces_after-letter s l ls h)
    ∙ with_front-filled l (pieces_after s ls) rest

-- there is always a piece, maybe an empty one
pub pieces_after-filled : {S : Type 0} (s : Option S) (ls : List (Letter S)) → is_filled (pieces_after s ls) ≡ true
pieces_after-filled s [] = refl
pieces_after-filled s (l ∷ ls) = filled-at s l ls (pieces_after-filled s ls) (is_break_point l.code) refl

joined-in_front : {S : Type 0} (s t : Option S) (xs : List (Letter S)) (ps : List (Piece S)) → is_filled ps ≡ true
    → has_columns xs ≡ false
    → joining (piece s xs) (joined (in_front t [] ps)) ≡ joined (in_front (first_of s t) xs ps)
joined-in_front s t xs [] some h = cc
joined-in_front s t xs (p ∷ ps) some h = joining_twice s t xs p.letters (joined ps) (has_columns p.letters) refl h

-- ---- a step of the reader

step_letter : {S : Type 0} (w : ℕ) (f : Filled S) (s : Option S) (xs : List (Letter S)) (l : Letter S)
    → is_break_point l.code ≡ false → read_letter w (reading f s xs) l ≡ reading f s (with_letter xs l)
step_letter w f s xs l h = cond-false _ _ _ h

step_break : {S : Type 0} (w : ℕ) (f : Filled S) (s : Option S) (xs : List (Letter S)) (l : Letter S)
    → is_break_point l.code ≡ true → has_columns xs ≡ true
    → read_letter w (reading f s xs) l ≡ reading (add_unit w f (piece s xs)) (space_of l) []
step_break w f s xs l h some = cond-true _ _ _ h ∙ cond-true _ _ _ some

step_joins : {S : Type 0} (w : ℕ) (f : Filled S) (s : Option S) (xs : List (Letter S)) (l : Letter S)
    → is_break_point l.code ≡ true → has_columns xs ≡ false
    → read_letter w (reading f s xs) l ≡ reading f (first_of s (space_of l)) xs
step_joins w f s xs l h none = cond-true _ _ _ h ∙ cond-false _ _ _ none

-- ---- what a state still gives

abbrev pub laid : {S : Type 0} → ℕ → Filled S → List (Piece S) → List (List (Mark S))
laid w f ps = all_lines (fold (add_unit w) f (filter has_letters (joined ps)))

with_columns_filled : {S : Type 0} (s : Option S) (xs : List (Letter S)) (ps : List (Piece S)) → has_columns xs ≡ true
    → filter has_letters (piece s xs ∷ ps) ≡ piece s xs ∷ filter has_letters ps
with_columns_filled s [] ps h = cc
with_columns_filled s (x ∷ xs) ps h = refl

laid-with_columns : {S : Type 0} (w : ℕ) (f : Filled S) (s : Option S) (xs : List (Letter S)) (ps : List (Piece S))
    → has_columns xs ≡ true → laid w f (piece s xs ∷ ps) ≡ laid w (add_unit w f (piece s xs)) ps
laid-with_columns w f s xs ps h =
    ap (λ qs. all_lines (fold (add_unit w) f (filter has_letters qs))) (joining-with_columns (piece s xs) (joined ps) h)
    ∙ ap (λ qs. all_lines (fold (add_unit w) f qs)) (with_columns_filled s xs (joined ps) h)

at_end : {S : Type 0} (w : ℕ) (f : Filled S) (s : Option S) (xs : List (Letter S))
    → lines_read w (reading f s xs) ≡ laid w f (piece s (xs ++ []) ∷ [])
at_end w f s [] = refl
at_end w f s (x ∷ xs) = ap (λ ls. all_lines (add_unit w f (piece s (x ∷ ls)))) (sym (append-nil xs))

-- the claim for a state, letters to come, and any space (it is replaced by the state's)
abbrev Gives : {S : Type 0} → ℕ → List (Letter S) → Type 0
Gives {S} w more = (f : Filled S) (s t : Option S) (xs : List (Letter S))
    → lines_read w (read_letters w (reading f s xs) more) ≡ laid w f (in_front s xs (pieces_after t more))

in_front-break : {S : Type 0} (s t : Option S) (xs : List (Letter S)) (l : Letter S) (ls : List (Letter S))
    → is_break_point l.code ≡ true → in_front s xs (pieces_after t (l ∷ ls)) ≡ piece s xs ∷ pieces_after (space_of l) ls
in_front-break s t xs l ls h =
    ap (in_front s xs) (pieces_after-break t l ls h) ∙ ap (λ letters. piece s letters ∷ pieces_after (space_of l) ls)
    (append-nil xs)

gives-at : {S : Type 0} (w : ℕ) (l : Letter S) (more : List (Letter S)) → Gives w more → (f : Filled S) (s t : Option S)
    (xs : List (Letter S)) (b c : Bool) → is_break_point l.code ≡ b → has_columns xs ≡ c
    → lines_read w (read_letters w (reading f s xs) (l ∷ more)) ≡ laid w f (in_front s xs (pieces_after t (l ∷ more)))
gives-at w l more next f s t xs false c h has =
    ap (λ r. lines_read w (read_letters w r more)) (step_letter w f s xs l h) ∙ next f s t (with_letter xs l)
    ∙ ap (laid w f) (sym (in_front-with_front s xs l (pieces_after t more)))
    ∙ ap (λ ps. laid w f (in_front s xs ps)) (sym (pieces_after-letter t l more h))
gives-at w l more next f s t xs true true h has =
    ap (λ r. lines_read w (read_letters w r more)) (step_break w f s xs l h has) ∙ next (add_unit w f (piece s xs))
    (space_of l) t []
    ∙ ap (laid w (add_unit w f (piece s xs))) (nothing_in_front (space_of l) t more)
    ∙ sym (laid-with_columns w f s xs (pieces_after (space_of l) more) has)
    ∙ ap (laid w f) (sym (in_front-break s t xs l more h))
gives-at w l more next f s t xs true false h has =
    ap (λ r. lines_read w (read_letters w r more)) (step_joins w f s xs l h has) ∙ next f (first_of s (space_of l)) t xs
    ∙ ap (λ ps. all_lines (fold (add_unit w) f (filter has_letters ps)))
    (sym (joined-in_front s (space_of l) xs (pieces_after t more) (pieces_after-filled t more) has))
    ∙ ap (λ ps. laid w f (piece s xs ∷ ps)) (nothing_in_front (space_of l) t more)
    ∙ ap (laid w f) (sym (in_front-break s t xs l more h))

-- What a state still gives for the letters to come: the piece at hand stands in front of their pieces.
pub reading_gives : {S : Type 0} (w : ℕ) (more : List (Letter S)) (f : Filled S) (s t : Option S) (xs : List (Letter S))
    → lines_read w (read_letters w (reading f s xs) more) ≡ laid w f (in_front s xs (pieces_after t more))
reading_gives w [] f s t xs = at_end w f s xs
reading_gives w (l ∷ more) f s t xs = gives-at w l more (reading_gives w more) f s t xs (is_break_point l.code)
    (has_columns xs) refl refl

pub read_is_units : {S : Type 0} (w : ℕ) (read : List (Letter S)) → lines_read w (read_letters w nothing_read read)
    ≡ all_lines (add_units w (units read))
read_is_units w read = reading_gives w read (filled [] []) None None [] ∙ ap (laid w (filled [] []))
    (nothing_in_front None None read)
