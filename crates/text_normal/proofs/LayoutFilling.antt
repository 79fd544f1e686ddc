-- Filling unit by unit gives the fullest layout.
use Rattle.std.proofs.Common.{◌≡◌, ◌<◌, ◌≤◌, ◌⊎◌, [], ◌∷◌, ◌++◌, if◌then◌else◌, ◌∙◌, All, Bool, IsTrue, List, ap}
use Rattle.std.proofs.Common.{append-nil, append_assoc, arith, false, flat_map, fold, get_or, inl, inr, leb, map, refl}
use Rattle.std.proofs.Common.{subst, sym, true, ℕ}
use Rattle.std.specs.Prelude.{Option}
use Rattle.std.specs.List.{AllByRecursion}
use Rattle.std.proofs.lemmas.Bool.{cond_both}
use Rattle.std.proofs.lemmas.List.Elements.{recursion_from_All}
use Rattle.std.proofs.lemmas.Bool.Decides.{nat_tests}
use Rattle.text_lines.specs.Columns.{width_of}
use Rattle.text_normal.specs.Units.{Letter, Piece, has_letters, letters_columns}
use Rattle.text_pieces.specs.Sources.{is_filled}
use Rattle.text_normal.specs.Layout.{IsAllowed, IsFullest, Mark, can_start, columns, cuttable, following_columns}
use Rattle.text_normal.specs.Layout.{inside, joined_lines, mark, marked, opens, starts, unit_marks}
use Rattle.text_normal.specs.Greedy.{Filled, filled, ended, all_lines, add_marks, add_mark, add_unit, add_units}
use Rattle.text_normal.proofs.LayoutSplits.{Follow, run_more, run_from_allowed, allowed_from_run, joined-append}
use Rattle.text_normal.proofs.LayoutFullest.{AllInside, AreBest, AreBest-push, IsBest, best_before, best_before_starts}
use Rattle.text_normal.proofs.LayoutFullest.{best_last, fullest_from_best}

-- The state holds the marks `ms`, and its lines are the best whatever comes.
pub record IsFilledWith {S : Type 0} (w : ℕ) (o : Bool) (ms : List (Mark S)) (f : Filled S) : Type 0 where
  pub whole : joined_lines (all_lines f) ≡ ms
  pub best : (more : List (Mark S)) → AreBest w o f.done (f.line ++ more)
  pub last : (f.line ≡ []) ⊎ IsAllowed w o f.line

joined-ended : {S : Type 0} (line : List (Mark S)) → joined_lines (ended line) ≡ line
joined-ended [] = refl
joined-ended (m ∷ ms) = append-nil (m ∷ ms)

joined_with_last : {S : Type 0} (done : List (List (Mark S))) (line : List (Mark S))
    → joined_lines (done ++ ended line) ≡ joined_lines done ++ line
joined_with_last done line = joined-append done (ended line) ∙ ap (λ xs. joined_lines done ++ xs) (joined-ended line)

best_with_last : {S : Type 0} (w : ℕ) (o : Bool) (done : List (List (Mark S))) (line more : List (Mark S))
    → AreBest w o done (line ++ more) → (line ≡ []) ⊎ IsBest w o line more → AreBest w o (done ++ ended line) more
best_with_last w o done [] more best last = subst (λ ls. AreBest w o ls more) (sym (append-nil done)) best
best_with_last w o done (m ∷ ms) more best (inl none) = cc
best_with_last w o done (m ∷ ms) more best (inr last) = AreBest-push w o done (m ∷ ms) more best last

last_is_best : {S : Type 0} (w : ℕ) (o : Bool) (line : List (Mark S)) → (line ≡ []) ⊎ IsAllowed w o line
    → (line ≡ []) ⊎ IsBest w o line []
last_is_best w o line (inl none) = inl none
last_is_best w o line (inr allowed) = inr (best_last w o line allowed)

fullest_when_filled : {S : Type 0} (w : ℕ) (o : Bool) (ms : List (Mark S)) (f : Filled S) → IsFilledWith w o ms f
    → IsFullest w o ms (all_lines f)
fullest_when_filled w o ms f h = fullest_from_best w o ms (all_lines f) h.whole (best_with_last w o f.done f.line []
    (h.best []) (last_is_best w o f.line h.last))

-- ---- letters on the line, and on a fresh one

last_grows : {S : Type 0} (w : ℕ) (o : Bool) (line c : List (Mark S)) → (line ≡ []) ⊎ IsAllowed w o line
    → IsAllowed w o c → Follow c → columns (line ++ c) ≤ w → IsAllowed w o (line ++ c)
last_grows w o line c (inl none) allowed follow fits = subst (λ l. IsAllowed w o (l ++ c)) (sym none) allowed
last_grows w o line c (inr has) allowed follow fits = allowed_from_run w o (line ++ c)
    (run_more line c (run_from_allowed w o line has) follow) fits

on_line : {S : Type 0} (w : ℕ) (o : Bool) (ms c : List (Mark S)) (f : Filled S) → IsFilledWith w o ms f
    → IsAllowed w o c → Follow c → columns (f.line ++ c) ≤ w → IsFilledWith w o (ms ++ c) (filled f.done (f.line ++ c))
on_line w o ms c f h allowed follow fits = record {
  whole = joined_with_last f.done (f.line ++ c) ∙ sym (append_assoc (joined_lines f.done) f.line c)
      ∙ ap (λ xs. xs ++ c) (sym (joined_with_last f.done f.line) ∙ h.whole);
  best = λ more. subst (AreBest w o f.done) (sym (append_assoc f.line c more)) (h.best (c ++ more));
  last = inr (last_grows w o f.line c h.last allowed follow fits);
}

on_fresh : {S : Type 0} (w : ℕ) (o : Bool) (ms c : List (Mark S)) (f : Filled S) → IsFilledWith w o ms f
    → IsAllowed w o c → ((more : List (Mark S)) → (f.line ≡ []) ⊎ IsBest w o f.line (c ++ more))
    → IsFilledWith w o (ms ++ c) (filled (all_lines f) c)
on_fresh w o ms c f h allowed ends = record {
  whole = joined_with_last (all_lines f) c ∙ ap (λ xs. xs ++ c) h.whole;
  best = λ more. best_with_last w o f.done f.line (c ++ more) (h.best (c ++ more)) (ends more);
  last = inr allowed;
}

ends_before : {S : Type 0} (w : ℕ) (o : Bool) (line : List (Mark S)) (m : Mark S) (ms more : List (Mark S))
    → (line ≡ []) ⊎ IsAllowed w o line → w < columns (line ++ m ∷ ms) → AllInside ms → (line ≡ []) ⊎ IsBest w o line
    (m ∷ (ms ++ more))
ends_before w o line m ms more (inl none) wide inner = inl none
ends_before w o line m ms more (inr has) wide inner = inr (best_before w o line m ms more has wide inner)

ends_before_starts : {S : Type 0} (w : ℕ) (o : Bool) (line : List (Mark S)) (m : Mark S) (more : List (Mark S))
    → (line ≡ []) ⊎ IsAllowed w o line → m.joint ≡ starts → (line ≡ []) ⊎ IsBest w o line (m ∷ more)
ends_before_starts w o line m more (inl none) is = inl none
ends_before_starts w o line m more (inr has) is = inr (best_before_starts w o line m more has is)

le_when : (a b : ℕ) → leb a b ≡ true → a ≤ b
le_when a b e = grind (arith, nat_tests)

lt_when : (a b : ℕ) → leb a b ≡ false → b < a
lt_when a b e = grind (arith, nat_tests)

adds_marks : {S : Type 0} (w : ℕ) (o : Bool) (ms : List (Mark S)) (m : Mark S) (c : List (Mark S)) (f : Filled S)
    → IsFilledWith w o ms f → IsAllowed w o (m ∷ c) → Follow (m ∷ c) → AllInside c
    → IsFilledWith w o (ms ++ m ∷ c) (add_marks w f (m ∷ c))
adds_marks w o ms m c f h allowed follow inner =
    cond_both (leb (columns (f.line ++ m ∷ c)) w) (filled f.done (f.line ++ m ∷ c)) (filled (all_lines f) (m ∷ c))
    (IsFilledWith w o (ms ++ m ∷ c))
    (λ e. on_line w o ms (m ∷ c) f h allowed follow (le_when (columns (f.line ++ m ∷ c)) w e))
    (λ e. on_fresh w o ms (m ∷ c) f h allowed (λ more. ends_before w o f.line m c more h.last
    (lt_when (columns (f.line ++ m ∷ c)) w e) inner))

-- ---- a unit that fits a line

inside_marks : {S : Type 0} (ls : List (Letter S)) → AllInside (map (λ x. mark x inside) ls)
inside_marks [] = tt
inside_marks (l ∷ ls) = (refl, inside_marks ls)

inside_follow : {S : Type 0} (ls : List (Letter S)) → Follow (map (λ x. mark x inside) ls)
inside_follow [] = tt
inside_follow (l ∷ ls) = (refl, inside_follow ls)

inside_columns : {S : Type 0} (ls : List (Letter S)) → following_columns (map (λ x. mark x inside) ls) ≡ letters_columns
    ls
inside_columns [] = refl
inside_columns (l ∷ ls) = let rest = inside_columns ls in omega arith

adds_fitting : {S : Type 0} (w : ℕ) (o : Bool) (ms : List (Mark S)) (space : Option S) (l : Letter S)
    (ls : List (Letter S)) (f : Filled S) → IsFilledWith w o ms f → letters_columns (l ∷ ls) ≤ w
    → IsFilledWith w o (ms ++ marked (opens space) inside (l ∷ ls))
    (add_marks w f (marked (opens space) inside (l ∷ ls)))
adds_fitting w o ms space l ls f h fits =
    let rest = inside_columns ls in
    adds_marks w o ms (mark l (opens space)) (map (λ x. mark x inside) ls) f h
    (allowed_from_run w o (marked (opens space) inside (l ∷ ls)) (refl, inside_follow ls) (omega arith))
    (refl, inside_follow ls) (inside_marks ls)

-- ---- a unit that is cut

-- a letter has room on a line of its own
abbrev pub HasRoom : {S : Type 0} → ℕ → Bool → Letter S → Type 0
HasRoom w o l = (o ≡ true) ⊎ (width_of l.code ≤ w)

lone_overflow : {S : Type 0} (w : ℕ) (m : Mark S) (b : Bool) → leb (width_of m.letter.code) w ≡ b
    → IsTrue (can_start m.joint) → IsAllowed w true (m ∷ [])
lone_overflow w m true e start = let fits = le_when (width_of m.letter.code) w e in allowed_from_run w true (m ∷ [])
    (start, tt) (omega arith)
lone_overflow w m false e start = inr (start, lt_when (width_of m.letter.code) w e)

lone_allowed : {S : Type 0} (w : ℕ) (o : Bool) (m : Mark S) → HasRoom w o m.letter → IsTrue (can_start m.joint)
    → IsAllowed w o (m ∷ [])
lone_allowed w o m (inl over) start = subst (λ b. IsAllowed w b (m ∷ [])) (sym over)
    (lone_overflow w m (leb (width_of m.letter.code) w) refl start)
lone_allowed w o m (inr fits) start = allowed_from_run w o (m ∷ []) (start, tt) (omega arith)

adds_cut : {S : Type 0} (w : ℕ) (o : Bool) (ms : List (Mark S)) (ls : List (Letter S)) (f : Filled S)
    → IsFilledWith w o ms f → AllByRecursion (HasRoom w o) ls
    → IsFilledWith w o (ms ++ map (λ x. mark x cuttable) ls) (fold (add_mark w) f (map (λ x. mark x cuttable) ls))
adds_cut w o ms [] f h room = subst (λ xs. IsFilledWith w o xs f) (sym (append-nil ms)) h
adds_cut w o ms (l ∷ ls) f h room =
    let first = adds_marks w o ms (mark l cuttable) [] f h (lone_allowed w o (mark l cuttable) room.0 refl)
    (refl, tt) tt in
    subst (λ xs. IsFilledWith w o xs (fold (add_mark w) (add_mark w f (mark l cuttable))
    (map (λ x. mark x cuttable) ls))) (append_assoc ms (mark l cuttable ∷ []) (map (λ x. mark x cuttable) ls))
    (adds_cut w o (ms ++ mark l cuttable ∷ []) ls (add_mark w f (mark l cuttable)) first room.1)

-- the first letter of a unit that is cut stands on a fresh line
starts_cut : {S : Type 0} (w : ℕ) (o : Bool) (ms : List (Mark S)) (l : Letter S) (f : Filled S) → IsFilledWith w o ms f
    → HasRoom w o l
    → IsFilledWith w o (ms ++ mark l starts ∷ []) (add_mark w (filled (all_lines f) []) (mark l starts))
starts_cut w o ms l f h room =
    let fresh = on_fresh w o ms (mark l starts ∷ []) f h (lone_allowed w o (mark l starts) room refl)
    (λ more. ends_before_starts w o f.line (mark l starts) more h.last refl) in
    cond_both (leb (columns (mark l starts ∷ [])) w) (filled (all_lines f) (mark l starts ∷ []))
    (filled (all_lines f ++ []) (mark l starts ∷ [])) (IsFilledWith w o (ms ++ mark l starts ∷ []))
    (λ _. fresh) (λ _. subst (λ ls. IsFilledWith w o (ms ++ mark l starts ∷ []) (filled ls (mark l starts ∷ [])))
    (sym (append-nil (all_lines f))) fresh)

adds_wide : {S : Type 0} (w : ℕ) (o : Bool) (ms : List (Mark S)) (l : Letter S) (ls : List (Letter S)) (f : Filled S)
    → IsFilledWith w o ms f → AllByRecursion (HasRoom w o) (l ∷ ls)
    → IsFilledWith w o (ms ++ marked starts cuttable (l ∷ ls)) (fold (add_mark w) (filled (all_lines f) [])
    (marked starts cuttable (l ∷ ls)))
adds_wide w o ms l ls f h room =
    let first = starts_cut w o ms l f h room.0 in
    subst (λ xs. IsFilledWith w o xs (fold (add_mark w) (add_mark w (filled (all_lines f) []) (mark l starts))
    (map (λ x. mark x cuttable) ls))) (append_assoc ms (mark l starts ∷ []) (map (λ x. mark x cuttable) ls))
    (adds_cut w o (ms ++ mark l starts ∷ []) ls (add_mark w (filled (all_lines f) []) (mark l starts)) first room.1)

-- ---- units

by_test : {S : Type 0} (w : ℕ) (o : Bool) (ms : List (Mark S)) (b : Bool) (c d : List (Mark S)) (f g : Filled S)
    → (b ≡ true → IsFilledWith w o (ms ++ c) f) → (b ≡ false → IsFilledWith w o (ms ++ d) g)
    → IsFilledWith w o (ms ++ (if b then c else d)) (if b then f else g)
by_test w o ms true c d f g h k = h refl
by_test w o ms false c d f g h k = k refl

adds_letters : {S : Type 0} (w : ℕ) (o : Bool) (ms : List (Mark S)) (p : Piece S) (ls : List (Letter S)) (f : Filled S)
    → p.letters ≡ ls → IsTrue (is_filled ls) → IsFilledWith w o ms f → AllByRecursion (HasRoom w o) ls
    → IsFilledWith w o (ms ++ (if leb (letters_columns ls) w then marked (opens p.space) inside ls else marked starts
    cuttable ls))
    (if leb (letters_columns ls) w then add_marks w f (marked (opens p.space) inside ls) else fold (add_mark w)
    (filled (all_lines f) []) (marked starts cuttable ls))
adds_letters w o ms p [] f is has h room = cc
adds_letters w o ms p (l ∷ ls) f is has h room =
    by_test w o ms (leb (letters_columns (l ∷ ls)) w) _ _ _ _
    (λ e. adds_fitting w o ms p.space l ls f h (le_when (letters_columns (l ∷ ls)) w e))
    (λ _. adds_wide w o ms l ls f h room)

pub adds_unit : {S : Type 0} (w : ℕ) (o : Bool) (ms : List (Mark S)) (p : Piece S) (f : Filled S)
    → IsTrue (has_letters p) → AllByRecursion (HasRoom w o) p.letters → IsFilledWith w o ms f
    → IsFilledWith w o (ms ++ unit_marks w p) (add_unit w f p)
adds_unit w o ms p f has room h = adds_letters w o ms p p.letters f refl has h room

-- each unit has a letter, and each of its letters has room on a line of its own
abbrev pub HaveRoom : {S : Type 0} → ℕ → Bool → List (Piece S) → Type 0
HaveRoom w o ps = AllByRecursion (λ p. IsTrue (has_letters p) × AllByRecursion (HasRoom w o) p.letters) ps

pub adds_units : {S : Type 0} (w : ℕ) (o : Bool) (ms : List (Mark S)) (ps : List (Piece S)) (f : Filled S)
    → HaveRoom w o ps → IsFilledWith w o ms f → IsFilledWith w o (ms ++ flat_map (unit_marks w) ps)
    (fold (add_unit w) f ps)
adds_units w o ms [] f room h = subst (λ xs. IsFilledWith w o xs f) (sym (append-nil ms)) h
adds_units w o ms (p ∷ ps) f room h =
    subst (λ xs. IsFilledWith w o xs (fold (add_unit w) (add_unit w f p) ps))
    (append_assoc ms (unit_marks w p) (flat_map (unit_marks w) ps))
    (adds_units w o (ms ++ unit_marks w p) ps (add_unit w f p) room.1 (adds_unit w o ms p f room.0.0 room.0.1 h))

nothing_filled : (S : Type 0) (w : ℕ) (o : Bool) → IsFilledWith {S = S} w o [] (filled [] [])
nothing_filled S w o = record { whole = refl; best = λ more. tt; last = inl refl }

pub filled_with_room : {S : Type 0} (w : ℕ) (o : Bool) (ps : List (Piece S)) → HaveRoom w o ps
    → IsFullest w o (flat_map (unit_marks w) ps) (all_lines (add_units w ps))
filled_with_room {S} w o ps room = fullest_when_filled w o (flat_map (unit_marks w) ps) (add_units w ps)
    (adds_units w o [] ps (filled [] []) room (nothing_filled S w o))

-- ---- the same premises in std's words

letters_over : {S : Type 0} (w : ℕ) (o : Bool) (ls : List (Letter S)) → o ≡ true → AllByRecursion (HasRoom w o) ls
letters_over w o [] over = tt
letters_over w o (l ∷ ls) over = (inl over, letters_over w o ls over)

letters_fit : {S : Type 0} (w : ℕ) (o : Bool) (ls : List (Letter S)) → AllByRecursion (λ l. width_of l.code ≤ w) ls
    → AllByRecursion (HasRoom w o) ls
letters_fit w o [] h = tt
letters_fit w o (l ∷ ls) h = (inr h.0, letters_fit w o ls h.1)

rooms_over : {S : Type 0} (w : ℕ) (o : Bool) (ps : List (Piece S)) → o ≡ true
    → AllByRecursion (λ p. IsTrue (has_letters p)) ps → HaveRoom w o ps
rooms_over w o [] over has = tt
rooms_over w o (p ∷ ps) over has = ((has.0, letters_over w o p.letters over), rooms_over w o ps over has.1)

rooms_fit : {S : Type 0} (w : ℕ) (o : Bool) (ps : List (Piece S))
    → AllByRecursion (λ p. All (λ l. width_of l.code ≤ w) p.letters) ps → AllByRecursion (λ p. IsTrue (has_letters p))
    ps → HaveRoom w o ps
rooms_fit w o [] fit has = tt
rooms_fit w o (p ∷ ps) fit has = (
  (
    has.0,
    letters_fit w o p.letters
        (recursion_from_All (λ l. width_of l.code ≤ w) p.letters fit.0),
  ),
  rooms_fit w o ps fit.1 has.1,
)

pub have_room : {S : Type 0} (w : ℕ) (o : Bool) (ps : List (Piece S))
    → (o ≡ true) ⊎ All (λ p. All (λ l. width_of l.code ≤ w) p.letters) ps → All (λ p. IsTrue (has_letters p)) ps
    → HaveRoom w o ps
have_room w o ps (inl over) has = rooms_over w o ps over (recursion_from_All (λ p. IsTrue (has_letters p)) ps has)
have_room w o ps (inr fit) has = rooms_fit w o ps (recursion_from_All (λ p. All (λ l. width_of l.code ≤ w) p.letters) ps
    fit) (recursion_from_All (λ p. IsTrue (has_letters p)) ps has)

pub filled_is_fullest : {S : Type 0} (w : ℕ) (o : Bool) (ps : List (Piece S))
    → (o ≡ true) ⊎ All (λ p. All (λ l. width_of l.code ≤ w) p.letters) ps → All (λ p. IsTrue (has_letters p)) ps
    → IsFullest w o (flat_map (unit_marks w) ps) (all_lines (add_units w ps))
filled_is_fullest w o ps room has = filled_with_room w o ps (have_room w o ps room has)

-- the other spelling of a unit with letters
letter_there : {S : Type 0} (p : Piece S) (ls : List (Letter S)) → p.letters ≡ ls → ¬ (p.letters ≡ [])
    → IsTrue (is_filled ls)
letter_there p [] is some = absurd (some is)
letter_there p (l ∷ ls) is some = refl

pub letters_there : {S : Type 0} (ps : List (Piece S)) → All (λ p. ¬ (p.letters ≡ [])) ps
    → All (λ p. IsTrue (has_letters p)) ps
letters_there ps some = λ k d inside. letter_there (get_or ps k d) _ refl (some k d inside)
