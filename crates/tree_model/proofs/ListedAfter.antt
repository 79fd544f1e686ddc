-- With which tags elements are listed after a change of the list.
use Rattle.std.proofs.Common.{◌≡◌, ◌⊎◌, [], ◌∷◌, if◌then◌else◌, ◌==◌, Bool, List, None, Option, Some, ap, eqb-true}
use Rattle.std.proofs.Common.{false, inl, inr, refl, subst, sym, true, ℕ}
use Rattle.tree_formatting.specs.Entries.{Entry, formatted, handed_over, is_of, marker, moved_after, put_after, tag_in}
use Rattle.tree_formatting.specs.Entries.{without_entry}
use Rattle.html_lexemes.specs.declared.token.Tag.{Tag}
use Rattle.tree_model.specs.Sound.{IsListed}
use Rattle.tree_model.proofs.SoundLemmas.{either}

listed_after : (k : ℕ) (tag : Tag) (e : Entry) (es : List Entry) → IsListed k tag es → IsListed k tag (e ∷ es)
listed_after k tag marker es l = l
listed_after k tag (formatted n held) es l = inr l

-- of an entry and the others
pub listed_on : (k : ℕ) (tag : Tag) (A : Type 0) (e : Entry) (es fs : List Entry) →
    (IsListed k tag es → IsListed k tag fs ⊎ A) → IsListed k tag (e ∷ es) → IsListed k tag (e ∷ fs) ⊎ A
listed_on k tag A marker es fs more l = more l
listed_on k tag A (formatted n held) es fs more (inl h) = inl (inl h)
listed_on k tag A (formatted n held) es fs more (inr l) = either (λ i. inl (inr i)) (λ a. inr a) (more l)

-- an entry is taken off
without_step : (n k : ℕ) (tag : Tag) (e : Entry) (es : List Entry) (t : Bool) →
    (IsListed k tag (without_entry n es) → IsListed k tag es) →
    IsListed k tag (if t then es else e ∷ without_entry n es) → IsListed k tag (e ∷ es)
without_step n k tag e es true more l = listed_after k tag e es l
without_step n k tag e es false more l =
    either (λ i. i) (λ i. absurd i) (listed_on k tag ⊥ e (without_entry n es) es (λ i. inl (more i)) l)

pub listed_without : (n k : ℕ) (tag : Tag) (es : List Entry) → IsListed k tag (without_entry n es) → IsListed k tag es
listed_without n k tag [] l = l
listed_without n k tag (e ∷ es) l = without_step n k tag e es (is_of n e) (listed_without n k tag es) l

-- who has a tag is listed with it
tag_step : (n p : ℕ) (tag held : Tag) (es : List Entry) (t : Bool) → (t ≡ true → p ≡ n) →
    (tag_in n es ≡ Some tag → IsListed n tag es) → (if t then Some held else tag_in n es) ≡ Some tag →
    IsListed n tag (formatted p held ∷ es)
tag_step n p tag held es true is more e = inl (sym (is refl), cc)
tag_step n p tag held es false is more e = inr (more e)

pub tag_listed : (n : ℕ) (tag : Tag) (es : List Entry) → tag_in n es ≡ Some tag → IsListed n tag es
tag_listed n tag [] e = absurd (cc)
tag_listed n tag (marker ∷ es) e = tag_listed n tag es e
tag_listed n tag (formatted p held ∷ es) e =
    tag_step n p tag held es (p == n) (eqb-true p n) (tag_listed n tag es) e

-- an entry goes to another element, with its tag
handed_step : (n m k p : ℕ) (tag held : Tag) (es : List Entry) (t : Bool) →
    (IsListed k tag (handed_over n m es) → IsListed k tag es ⊎ ((k ≡ m) × (tag_in n es ≡ Some tag))) →
    IsListed k tag (if t then formatted m held ∷ es else formatted p held ∷ handed_over n m es) →
    IsListed k tag (formatted p held ∷ es) ⊎ ((k ≡ m) × ((if t then Some held else tag_in n es) ≡ Some tag))
handed_step n m k p tag held es true more (inl h) = inr (h.0, ap (λ t. Some t) (sym h.1))
handed_step n m k p tag held es true more (inr l) = inl (inr l)
handed_step n m k p tag held es false more l =
    listed_on k tag ((k ≡ m) × (tag_in n es ≡ Some tag)) (formatted p held) (handed_over n m es) es more l

pub listed_handed : (n m k : ℕ) (tag : Tag) (es : List Entry) → IsListed k tag (handed_over n m es) →
    IsListed k tag es ⊎ ((k ≡ m) × (tag_in n es ≡ Some tag))
listed_handed n m k tag [] l = absurd l
listed_handed n m k tag (marker ∷ es) l = listed_handed n m k tag es l
listed_handed n m k tag (formatted p held ∷ es) l =
    handed_step n m k p tag held es (p == n) (listed_handed n m k tag es) l

-- an entry goes after another
after_step : (after m k : ℕ) (tag held : Tag) (e : Entry) (es : List Entry) (t : Bool) →
    (IsListed k tag (put_after after (formatted m held) es) → IsListed k tag es ⊎ ((k ≡ m) × (tag ≡ held))) →
    IsListed k tag (if t then formatted m held ∷ e ∷ es else e ∷ put_after after (formatted m held) es) →
    IsListed k tag (e ∷ es) ⊎ ((k ≡ m) × (tag ≡ held))
after_step after m k tag held e es true more (inl h) = inr h
after_step after m k tag held e es true more (inr l) = inl l
after_step after m k tag held e es false more l =
    listed_on k tag ((k ≡ m) × (tag ≡ held)) e (put_after after (formatted m held) es) es more l

pub listed_put_after : (after m k : ℕ) (tag held : Tag) (es : List Entry) →
    IsListed k tag (put_after after (formatted m held) es) → IsListed k tag es ⊎ ((k ≡ m) × (tag ≡ held))
listed_put_after after m k tag held [] l = either (λ h. inr h) (λ i. absurd i) l
listed_put_after after m k tag held (e ∷ es) l =
    after_step after m k tag held e es (is_of after e) (listed_put_after after m k tag held es) l

moved_is : (n m after : ℕ) (tag : Tag) (es : List Entry) → tag_in n es ≡ Some tag →
    moved_after n m after es ≡ put_after after (formatted m tag) (without_entry n es)
moved_is n m after tag es e = ap move e where
  move : Option Tag → List Entry
  move None = es
  move (Some held) = put_after after (formatted m held) (without_entry n es)

pub listed_moved : (n m after k : ℕ) (tag held : Tag) (es : List Entry) → tag_in n es ≡ Some held →
    IsListed k tag (moved_after n m after es) → IsListed k tag es ⊎ ((k ≡ m) × (tag ≡ held))
listed_moved n m after k tag held es e l = either (λ i. inl (listed_without n k tag es i)) (λ h. inr h)
    (listed_put_after after m k tag held (without_entry n es)
    (subst (IsListed k tag) (moved_is n m after held es e) l))
