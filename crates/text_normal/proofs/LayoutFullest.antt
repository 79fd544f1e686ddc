-- Lines of which each has as many letters as any line can that starts there: the fullest layout.
use Rattle.std.proofs.Common.{◌≡◌, ◌<◌, ◌≤◌, ◌⊎◌, [], ◌∷◌, ◌++◌, ◌∙◌, Bool, IsTrue, List, ap, append-nil, append_assoc}
use Rattle.std.proofs.Common.{inl, inr, le_trans, length, lt_irrefl, lt_of_lt_of_le, refl, subst, sym, true, ℕ}
use Rattle.std.specs.List.{AllByRecursion}
use Rattle.std.proofs.lemmas.List.{append_cancel_left}
use Rattle.std.proofs.lemmas.List.Elements.{All-from_recursion, recursion_from_All}
use Rattle.text_normal.specs.Layout.{IsAllowed, IsFullest, Mark, can_follow, can_start, columns, inside, joined_lines}
use Rattle.text_normal.specs.Layout.{starts}
use Rattle.text_normal.proofs.LayoutSplits.{CanBegin, IsLonger, IsRun, columns_grow, joined-append, lines_begin}
use Rattle.text_normal.proofs.LayoutSplits.{more_fit, run_from_allowed, run_next, two_fronts}

-- An allowed line that is as long as any front of what is left after which a line can begin.
pub record IsBest {S : Type 0} (w : ℕ) (o : Bool) (line after : List (Mark S)) : Type 0 where
  pub allowed : IsAllowed w o line
  pub longest : (other rest : List (Mark S)) → other ++ rest ≡ line ++ after → IsAllowed w o other → CanBegin rest
      → length other ≤ length line

-- each line is, where `after` stands after them
abbrev pub AreBest : {S : Type 0} → ℕ → Bool → List (List (Mark S)) → List (Mark S) → Type 0
AreBest w o [] after = Unit {0}
AreBest w o (line ∷ lines) after = IsBest w o line (joined_lines lines ++ after) × AreBest w o lines after

-- ---- the fullest layout

allowed_from_best : {S : Type 0} (w : ℕ) (o : Bool) (lines : List (List (Mark S))) (after : List (Mark S))
    → AreBest w o lines after → AllByRecursion (IsAllowed w o) lines
allowed_from_best w o [] after h = tt
allowed_from_best w o (line ∷ lines) after h = (h.0.allowed, allowed_from_best w o lines after h.1)

best_at : {S : Type 0} (w : ℕ) (o : Bool) (before : List (List (Mark S))) (line : List (Mark S))
    (lines : List (List (Mark S))) (after : List (Mark S)) → AreBest w o (before ++ line ∷ lines) after
    → IsBest w o line (joined_lines lines ++ after)
best_at w o [] line lines after h = h.0
best_at w o (b ∷ before) line lines after h = best_at w o before line lines after h.1

pub all_from : {X : Type 0} (P : X → Type 0) (before : List X) (rest : List X) → AllByRecursion P (before ++ rest)
    → AllByRecursion P rest
all_from P [] rest h = h
all_from P (b ∷ before) rest h = all_from P before rest h.1

pub fullest_from_best : {S : Type 0} (w : ℕ) (o : Bool) (ms : List (Mark S)) (lines : List (List (Mark S)))
    → joined_lines lines ≡ ms → AreBest w o lines [] → IsFullest w o ms lines
fullest_from_best w o ms lines whole best = record {
  layout = record {
    whole = whole;
    each = All-from_recursion (IsAllowed w o) lines
        (allowed_from_best w o lines [] best);
  };
  full = λ before line after other others cut other_layout.
      let same : joined_lines before ++ (other ++ joined_lines others) ≡ joined_lines
      before ++ (line ++ joined_lines after) =
      sym (joined-append before (other ∷ others)) ∙ other_layout.whole ∙ sym whole ∙ ap joined_lines cut
      ∙ joined-append before (line ∷ after) in
      let fronts : other ++ joined_lines others ≡ line ++ joined_lines after = append_cancel_left
      (joined_lines before) _ _ same in
      let each = all_from (IsAllowed w o) before (other ∷ others)
      (recursion_from_All (IsAllowed w o) (before ++ other ∷ others) other_layout.each) in
      let here = best_at w o before line after [] (subst (λ ls. AreBest w o ls []) cut best) in
      here.longest other (joined_lines others) (fronts ∙ ap (λ rest. line ++ rest)
      (sym (append-nil (joined_lines after)))) each.0 (lines_begin w o others each.1);
}

-- ---- lines that are best

pub best_last : {S : Type 0} (w : ℕ) (o : Bool) (line : List (Mark S)) → IsAllowed w o line → IsBest w o line []
best_last w o line allowed = record {
  allowed = allowed;
  longest = λ other rest e _ _. nothing_longer other rest line
      (two_fronts other rest line [] e);
}
  where
    nothing_longer : {A : Type 0} (long rest short : List A) → (length long ≤ length short) ⊎ IsLonger long rest
        short [] → length long ≤ length short
    nothing_longer long rest short (inl h) = h
    nothing_longer long rest short (inr h) = let none = h.back in cc

abbrev pub AllInside : {S : Type 0} → List (Mark S) → Type 0
AllInside ms = AllByRecursion (λ n. n.joint ≡ inside) ms

inside_begins : {S : Type 0} (m : Mark S) → m.joint ≡ inside → IsTrue (can_start m.joint) → ⊥
inside_begins {S} m is begins = let no : can_start {S = S} inside ≡ true = subst (λ j. IsTrue (can_start j)) is begins
    in cc

-- a front that reaches into letters inside a unit, after which a line can begin, reaches past them
record Reaches {S : Type 0} (front ms : List (Mark S)) : Type 0 where
  past : List (Mark S)
  is : front ≡ ms ++ past

reaches_past : {S : Type 0} (ms front rest after : List (Mark S)) → AllInside ms → CanBegin rest
    → front ++ rest ≡ ms ++ after → Reaches front ms
reaches_past [] front rest after inner begins e = record { past = front; is = refl }
reaches_past (m ∷ ms) [] [] after inner begins e = cc
reaches_past (m ∷ ms) [] (r ∷ rest) after inner begins e = let same : r ≡ m = cc in
    absurd (inside_begins m inner.0 (subst (λ x. IsTrue (can_start x.joint)) same begins))
reaches_past (m ∷ ms) (x ∷ front) rest after inner begins e =
    let further = reaches_past ms front rest after inner.1 begins cc in
    let tails : front ≡ ms ++ further.past = further.is in
    let same : x ≡ m = cc in
    record { past = further.past; is = cc }

pub best_before : {S : Type 0} (w : ℕ) (o : Bool) (line : List (Mark S)) (m : Mark S) (ms more : List (Mark S))
    → IsAllowed w o line → w < columns (line ++ m ∷ ms) → AllInside ms → IsBest w o line (m ∷ (ms ++ more))
best_before {S} w o line m ms more allowed wide inner = record {
  allowed = allowed;
  longest = λ other rest e other_allowed begins. bounded other rest other_allowed begins
      (two_fronts other rest line (m ∷ (ms ++ more)) e);
}
  where
    run : IsRun line
    run = run_from_allowed w o line allowed

    bounded : (other rest : List (Mark S)) → IsAllowed w o other → CanBegin rest
        → (length other ≤ length line) ⊎ IsLonger other rest line (m ∷ (ms ++ more)) → length other ≤ length line
    bounded other rest other_allowed begins (inl h) = h
    bounded other rest other_allowed begins (inr h) =
        let back : h.next ∷ (h.more ++ rest) ≡ m ∷ (ms ++ more) = h.back in
        let same : h.next ≡ m = cc in
        let reach = reaches_past ms h.more rest more inner begins cc in
        let fits : columns (line ++ h.next ∷ h.more) ≤ w = more_fit w o line h.next h.more run
        (subst (IsAllowed w o) h.front other_allowed) in
        let whole : line ++ h.next ∷ h.more ≡ (line ++ m ∷ ms) ++ reach.past =
        ap (λ x. line ++ x ∷ h.more) same ∙ ap (λ xs. line ++ m ∷ xs) reach.is
        ∙ sym (append_assoc line (m ∷ ms) reach.past) in
        let grows : columns (line ++ m ∷ ms) ≤ columns ((line ++ m ∷ ms) ++ reach.past) = columns_grow
        (line ++ m ∷ ms) reach.past in
        absurd (lt_irrefl w (lt_of_lt_of_le wide (le_trans grows (subst (λ xs. columns xs ≤ w) whole fits))))

pub best_before_starts : {S : Type 0} (w : ℕ) (o : Bool) (line : List (Mark S)) (m : Mark S) (more : List (Mark S))
    → IsAllowed w o line → m.joint ≡ starts → IsBest w o line (m ∷ more)
best_before_starts {S} w o line m more allowed is = record {
  allowed = allowed;
  longest = λ other rest e other_allowed begins. bounded other rest other_allowed
      (two_fronts other rest line (m ∷ more) e);
}
  where
    bounded : (other rest : List (Mark S)) → IsAllowed w o other → (length other ≤ length line) ⊎ IsLonger other rest
        line (m ∷ more) → length other ≤ length line
    bounded other rest other_allowed (inl h) = h
    bounded other rest other_allowed (inr h) =
        let back : h.next ∷ (h.more ++ rest) ≡ m ∷ more = h.back in
        let same : h.next ≡ m = cc in
        let follows = run_next line h.next h.more (run_from_allowed w o line allowed)
        (subst IsRun h.front (run_from_allowed w o other other_allowed)) in
        let no : can_follow {S = S} starts ≡ true = subst (λ j. IsTrue (can_follow j)) (ap (λ x. x.joint) same
        ∙ is) follows in cc

-- ---- one line more

pub AreBest-push : {S : Type 0} (w : ℕ) (o : Bool) (done : List (List (Mark S))) (line after : List (Mark S))
    → AreBest w o done (line ++ after) → IsBest w o line after → AreBest w o (done ++ line ∷ []) after
AreBest-push w o [] line after h best = (best, tt)
AreBest-push w o (d ∷ done) line after h best = (
  subst (IsBest w o d) (sym (append_assoc (joined_lines done) line after) ∙ ap (λ xs. xs ++ after)
      (sym (joined-append done (line ∷ []) ∙ ap (λ xs. joined_lines done ++ xs) (append-nil line)))) h.0,
  AreBest-push
      w o done line after h.1 best,
)
