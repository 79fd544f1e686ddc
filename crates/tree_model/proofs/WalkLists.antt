-- Lists that an element divides, and entries of others than the one that is changed.
use Rattle.std.proofs.Common.{◌≡◌, ◌==◌, ◌⊎◌, ◌∙◌, [], ◌∷◌, ◌++◌, if◌then◌else◌, Bool, List, Some, ap, arith, eqb-true}
use Rattle.std.proofs.Common.{false, inl, inr, refl, subst, sym, true, ℕ}
use Rattle.std.proofs.lemmas.Bool.Decides.{nat_tests}
use Rattle.tree_formatting.specs.Entries.{Entry, formatted, handed_over, is_listed, marker, tag_in, up_to_marker}
use Rattle.tree_formatting.specs.Entries.{without_entry}
use Rattle.tree_forest.specs.Changes.{left_out}
use Rattle.tree_forest.specs.Forest.{is_in}
use Rattle.tree_forest.specs.Orders.{AreDistinct, IsIn}
use Rattle.html_lexemes.specs.declared.token.Tag.{Tag}
use Rattle.tree_model.specs.Adoption.{farther, nearer, replaced}
use Rattle.tree_model.specs.Sound.{IsListed}
use Rattle.tree_model.proofs.NearerLemmas.{in_after}
use Rattle.tree_model.proofs.OpenLemmas.{farther_of, is_in_of, left_out_is, nearer_of, replaced_is}
use Rattle.tree_model.proofs.SoundLemmas.{either}

pub not_equal : (n m : ℕ) → ¬ (n ≡ m) → (m == n) ≡ false
not_equal n m h = grind (arith, nat_tests, h)

-- an element of distinct ones stands nowhere else
pub not_in_front : (m : ℕ) (xs ys : List ℕ) → AreDistinct (xs ++ m ∷ ys) → ¬ (IsIn m xs)
not_in_front m [] ys distinct i = i
not_in_front m (x ∷ xs) ys distinct (inl e) =
    distinct.0 (subst (λ k. IsIn k (xs ++ m ∷ ys)) e (in_after m xs (m ∷ ys) (inl refl)))
not_in_front m (x ∷ xs) ys distinct (inr i) = not_in_front m xs ys distinct.1 i

pub not_after : (m : ℕ) (xs ys : List ℕ) → AreDistinct (xs ++ m ∷ ys) → ¬ (IsIn m ys)
not_after m [] ys distinct = distinct.0
not_after m (x ∷ xs) ys distinct = not_after m xs ys distinct.1

pub is_none : (n : ℕ) (ns : List ℕ) → ¬ (IsIn n ns) → is_in n ns ≡ false
is_none n [] none = refl
is_none n (m ∷ ns) none =
    ap (λ b. if b then true else is_in n ns) (not_equal m n (λ e. none (inl (sym e))))
    ∙ is_none n ns (λ i. none (inr i))

pub nearer_there : (m : ℕ) (xs ys : List ℕ) → AreDistinct (xs ++ m ∷ ys) → nearer m (xs ++ m ∷ ys) ≡ xs
nearer_there m xs ys distinct = nearer_of m xs ys (is_none m xs (not_in_front m xs ys distinct))

pub farther_there : (m : ℕ) (xs ys : List ℕ) → AreDistinct (xs ++ m ∷ ys) → farther m (xs ++ m ∷ ys) ≡ ys
farther_there m xs ys distinct = farther_of m xs ys (is_none m xs (not_in_front m xs ys distinct))

pub left_out_there : (m : ℕ) (xs ys : List ℕ) → AreDistinct (xs ++ m ∷ ys) → left_out m (xs ++ m ∷ ys) ≡ xs ++ ys
left_out_there m xs ys distinct = left_out_is m (xs ++ m ∷ ys) distinct
    ∙ ap (λ ns. ns ++ farther m (xs ++ m ∷ ys)) (nearer_there m xs ys distinct)
    ∙ ap (λ ns. xs ++ ns) (farther_there m xs ys distinct)

pub replaced_there : (n m : ℕ) (xs ys : List ℕ) → AreDistinct (xs ++ n ∷ ys) →
    replaced n m (xs ++ n ∷ ys) ≡ xs ++ m ∷ ys
replaced_there n m xs ys distinct = replaced_is n m (xs ++ n ∷ ys) distinct (is_in_of n xs ys)
    ∙ ap (λ ns. ns ++ m ∷ farther n (xs ++ n ∷ ys)) (nearer_there n xs ys distinct)
    ∙ ap (λ ns. xs ++ m ∷ ns) (farther_there n xs ys distinct)

pub in_one_more : (m n : ℕ) (xs : List ℕ) → IsIn m (xs ++ n ∷ []) → IsIn m xs ⊎ (m ≡ n)
in_one_more m n [] (inl e) = inr e
in_one_more m n [] (inr i) = absurd i
in_one_more m n (x ∷ xs) (inl e) = inl (inl e)
in_one_more m n (x ∷ xs) (inr i) = either (λ j. inl (inr j)) (λ e. inr e) (in_one_more m n xs i)

pub other_way : (n m : ℕ) → (n == m) ≡ (m == n)
other_way n m = grind (arith, nat_tests)

-- entries of others
tag_without_step : (n m p : ℕ) (tag : Tag) (es : List Entry) (b : Bool) → (b ≡ true → p ≡ m) → ¬ (n ≡ m) →
    tag_in n (without_entry m es) ≡ tag_in n es →
    tag_in n (if b then es else formatted p tag ∷ without_entry m es) ≡ tag_in n (formatted p tag ∷ es)
tag_without_step n m p tag es true is off more =
    sym (ap (λ b. if b then Some tag else tag_in n es) (not_equal n p (λ e. off (e ∙ is refl))))
tag_without_step n m p tag es false is off more = ap (λ t. if p == n then Some tag else t) more

pub tag_without : (n m : ℕ) (es : List Entry) → ¬ (n ≡ m) → tag_in n (without_entry m es) ≡ tag_in n es
tag_without n m [] off = refl
tag_without n m (marker ∷ es) off = tag_without n m es off
tag_without n m (formatted p tag ∷ es) off =
    tag_without_step n m p tag es (p == m) (eqb-true p m) off (tag_without n m es off)

listed_without_step : (n m p : ℕ) (tag : Tag) (es : List Entry) (b : Bool) → (b ≡ true → p ≡ m) → ¬ (n ≡ m) →
    is_listed n (up_to_marker (without_entry m es)) ≡ is_listed n (up_to_marker es) →
    is_listed n (up_to_marker (if b then es else formatted p tag ∷ without_entry m es))
    ≡ is_listed n (up_to_marker (formatted p tag ∷ es))
listed_without_step n m p tag es true is off more =
    sym (ap (λ b. if b then true else is_listed n (up_to_marker es)) (not_equal n p (λ e. off (e ∙ is refl))))
listed_without_step n m p tag es false is off more = ap (λ t. if p == n then true else t) more

pub listed_after_without : (n m : ℕ) (es : List Entry) → ¬ (n ≡ m) →
    is_listed n (up_to_marker (without_entry m es)) ≡ is_listed n (up_to_marker es)
listed_after_without n m [] off = refl
listed_after_without n m (marker ∷ es) off = refl
listed_after_without n m (formatted p tag ∷ es) off =
    listed_without_step n m p tag es (p == m) (eqb-true p m) off (listed_after_without n m es off)

tag_handed_step : (n m k p : ℕ) (tag : Tag) (es : List Entry) (b : Bool) → (b ≡ true → p ≡ m) → ¬ (n ≡ m) →
    ¬ (n ≡ k) → tag_in n (handed_over m k es) ≡ tag_in n es →
    tag_in n (if b then formatted k tag ∷ es else formatted p tag ∷ handed_over m k es)
    ≡ tag_in n (formatted p tag ∷ es)
tag_handed_step n m k p tag es true is off new more =
    ap (λ b. if b then Some tag else tag_in n es) (not_equal n k new)
    ∙ sym (ap (λ b. if b then Some tag else tag_in n es) (not_equal n p (λ e. off (e ∙ is refl))))
tag_handed_step n m k p tag es false is off new more = ap (λ t. if p == n then Some tag else t) more

pub tag_handed : (n m k : ℕ) (es : List Entry) → ¬ (n ≡ m) → ¬ (n ≡ k) →
    tag_in n (handed_over m k es) ≡ tag_in n es
tag_handed n m k [] off new = refl
tag_handed n m k (marker ∷ es) off new = tag_handed n m k es off new
tag_handed n m k (formatted p tag ∷ es) off new =
    tag_handed_step n m k p tag es (p == m) (eqb-true p m) off new (tag_handed n m k es off new)

listed_handed_step : (n m k p : ℕ) (tag : Tag) (es : List Entry) (b : Bool) → (b ≡ true → p ≡ m) → ¬ (n ≡ m) →
    ¬ (n ≡ k) → is_listed n (up_to_marker (handed_over m k es)) ≡ is_listed n (up_to_marker es) →
    is_listed n (up_to_marker (if b then formatted k tag ∷ es else formatted p tag ∷ handed_over m k es))
    ≡ is_listed n (up_to_marker (formatted p tag ∷ es))
listed_handed_step n m k p tag es true is off new more =
    ap (λ b. if b then true else is_listed n (up_to_marker es)) (not_equal n k new)
    ∙ sym (ap (λ b. if b then true else is_listed n (up_to_marker es)) (not_equal n p (λ e. off (e ∙ is refl))))
listed_handed_step n m k p tag es false is off new more = ap (λ t. if p == n then true else t) more

pub listed_after_handed : (n m k : ℕ) (es : List Entry) → ¬ (n ≡ m) → ¬ (n ≡ k) →
    is_listed n (up_to_marker (handed_over m k es)) ≡ is_listed n (up_to_marker es)
listed_after_handed n m k [] off new = refl
listed_after_handed n m k (marker ∷ es) off new = refl
listed_after_handed n m k (formatted p tag ∷ es) off new =
    listed_handed_step n m k p tag es (p == m) (eqb-true p m) off new (listed_after_handed n m k es off new)

-- who takes an entry over is listed with its tag
handed_is_step : (m k p : ℕ) (tag held : Tag) (es : List Entry) (b : Bool) →
    (tag_in m es ≡ Some tag → IsListed k tag (handed_over m k es)) →
    (if b then Some held else tag_in m es) ≡ Some tag →
    IsListed k tag (if b then formatted k held ∷ es else formatted p held ∷ handed_over m k es)
handed_is_step m k p tag held es true more e = inl (refl, cc)
handed_is_step m k p tag held es false more e = inr (more e)

pub handed_is_listed : (m k : ℕ) (tag : Tag) (es : List Entry) → tag_in m es ≡ Some tag →
    IsListed k tag (handed_over m k es)
handed_is_listed m k tag [] e = absurd (cc)
handed_is_listed m k tag (marker ∷ es) e = handed_is_listed m k tag es e
handed_is_listed m k tag (formatted p held ∷ es) e =
    handed_is_step m k p tag held es (p == m) (handed_is_listed m k tag es) e
