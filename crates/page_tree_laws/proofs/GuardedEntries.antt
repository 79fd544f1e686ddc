-- What holds of all listed elements holds after changes of the list of active formatting elements.
use Rattle.std.proofs.Common.{◌≡◌, ◌==◌, if◌then◌else◌, [], ◌∷◌, Bool, List, None, Option, Some, eqb-true, false, inl}
use Rattle.std.proofs.Common.{inr, refl, subst, sym, true, ℕ}
use Rattle.std.specs.Bool.{nat_lt}
use Rattle.tree_formatting.specs.Alike.{count_alike}
use Rattle.tree_formatting.specs.Entries.{Entry, before_marker, formatted, given_to, handed_over, is_listed, is_of}
use Rattle.tree_formatting.specs.Entries.{marker, moved_after, put_after, tag_in, up_to_marker, without_entry}
use Rattle.tree_formatting.specs.Pushing.{pushed, without_earliest}
use Rattle.html_lexemes.specs.declared.token.Tag.{Tag}
use Rattle.html_tree_state.specs.Adoption.{entries_at}
use Rattle.html_tree_state.specs.Formatting.{is_kept, made_already, to_make}
use Rattle.html_tree_state.specs.Sound.{IsListed}

abbrev pub AreAll : (ℕ → Tag → Type 0) → List Entry → Type 0
AreAll P [] = Unit {0}
AreAll P (marker ∷ rest) = AreAll P rest
AreAll P (formatted n tag ∷ rest) = P n tag × AreAll P rest

-- the same by each listed element
pub all_of : (P : ℕ → Tag → Type 0) (es : List Entry) → ((n : ℕ) (tag : Tag) → IsListed n tag es → P n tag) →
    AreAll P es
all_of P [] each = tt
all_of P (marker ∷ rest) each = all_of P rest each
all_of P (formatted n tag ∷ rest) each =
    (each n tag (inl (refl, refl)), all_of P rest (λ m held i. each m held (inr i)))

pub each_of : (P : ℕ → Tag → Type 0) (es : List Entry) → AreAll P es → (n : ℕ) (tag : Tag) → IsListed n tag es → P n tag
each_of P [] all n tag i = absurd i
each_of P (marker ∷ rest) all n tag i = each_of P rest all n tag i
each_of P (formatted m held ∷ rest) all n tag (inl e) =
    subst (λ k. P k tag) (sym e.0) (subst (P m) (sym e.1) all.0)
each_of P (formatted m held ∷ rest) all n tag (inr i) = each_of P rest all.1 n tag i

-- what holds of all follows from what holds of all
pub all_weaker : (P Q : ℕ → Tag → Type 0) → ((n : ℕ) (tag : Tag) → P n tag → Q n tag) → (es : List Entry) →
    AreAll P es → AreAll Q es
all_weaker P Q follows [] all = tt
all_weaker P Q follows (marker ∷ rest) all = all_weaker P Q follows rest all
all_weaker P Q follows (formatted n tag ∷ rest) all = (follows n tag all.0, all_weaker P Q follows rest all.1)

moved_none : (n m after : ℕ) (es : List Entry) → tag_in n es ≡ None → moved_after n m after es ≡ es
moved_none n m after es e = rw e

moved_some : (n m after : ℕ) (tag : Tag) (es : List Entry) → tag_in n es ≡ Some tag →
    moved_after n m after es ≡ put_after after (formatted m tag) (without_entry n es)
moved_some n m after tag es e = rw e

module _ (P : ℕ → Tag → Type 0) where
  pub all_after : (entry : Entry) (rest : List Entry) → AreAll P (entry ∷ rest) → AreAll P rest
  all_after marker rest all = all
  all_after (formatted n tag) rest all = all.1

  all_on : (entry : Entry) (rest more : List Entry) → AreAll P (entry ∷ rest) → AreAll P more → AreAll P (entry ∷ more)
  all_on marker rest more all further = further
  all_on (formatted n tag) rest more all further = (all.0, further)

  all_by : (b : Bool) (xs ys : List Entry) → AreAll P xs → AreAll P ys → AreAll P (if b then xs else ys)
  all_by true xs ys f g = f
  all_by false xs ys f g = g

  pub all_before_marker : (es : List Entry) → AreAll P es → AreAll P (before_marker es)
  all_before_marker [] all = all
  all_before_marker (marker ∷ rest) all = all
  all_before_marker (formatted n tag ∷ rest) all = all_before_marker rest all.1

  pub all_without : (n : ℕ) (es : List Entry) → AreAll P es → AreAll P (without_entry n es)
  all_without n [] all = all
  all_without n (e ∷ rest) all = all_by (is_of n e) rest (e ∷ without_entry n rest) (all_after e rest all)
      (all_on e rest (without_entry n rest) all (all_without n rest (all_after e rest all)))

  earliest_all : (tag : Tag) (es : List Entry) → AreAll P es → AreAll P (without_earliest tag es)
  earliest_all tag [] all = all
  earliest_all tag (marker ∷ rest) all = all
  earliest_all tag (formatted n held ∷ rest) all =
      all_by _ rest (formatted n held ∷ without_earliest tag rest) all.1 (all.0, earliest_all tag rest all.1)

  pub all_pushed : (n : ℕ) (tag : Tag) (es : List Entry) → P n tag → AreAll P es → AreAll P (pushed n tag es)
  all_pushed n tag es is all = (
    is,
    all_by (nat_lt 2 (count_alike tag (up_to_marker es))) (without_earliest tag es) es (earliest_all tag es all) all,
  )

  pub all_to_make : (stack : List ℕ) (es : List Entry) → AreAll P es → AreAll P (to_make stack es)
  all_to_make stack [] all = all
  all_to_make stack (e ∷ rest) all = all_by (is_kept stack e) [] (e ∷ to_make stack rest) tt
      (all_on e rest (to_make stack rest) all (all_to_make stack rest (all_after e rest all)))

  pub all_already : (stack : List ℕ) (es : List Entry) → AreAll P es → AreAll P (made_already stack es)
  all_already stack [] all = all
  all_already stack (e ∷ rest) all = all_by (is_kept stack e) (e ∷ rest) (made_already stack rest) all
      (all_already stack rest (all_after e rest all))

  -- the element that a tag is found for
  tag_by : (m n : ℕ) (b : Bool) (held : Tag) (rest : List Entry) (tag : Tag) (later : Option Tag) → (m == n) ≡ b →
      P m held → (later ≡ Some tag → P n tag) → (if b then Some held else later) ≡ Some tag → P n tag
  tag_by m n true held rest tag later same is more e =
      let one : held ≡ tag = cc in subst (P n) one (subst (λ k. P k held) (eqb-true m n same) is)
  tag_by m n false held rest tag later same is more e = more e

  pub all_tag : (n : ℕ) (es : List Entry) (tag : Tag) → AreAll P es → tag_in n es ≡ Some tag → P n tag
  all_tag n [] tag all e = absurd (let k : None ≡ Some tag = e in cc)
  all_tag n (marker ∷ rest) tag all e = all_tag n rest tag all e
  all_tag n (formatted m held ∷ rest) tag all e = tag_by m n (m == n) held rest tag (tag_in n rest) refl all.0
      (all_tag n rest tag all.1) e

  -- another element takes an entry over
  module _ (m : ℕ) (gives : (k : ℕ) (tag : Tag) → P k tag → P m tag) where
    given_all : (e : Entry) (rest : List Entry) → AreAll P (e ∷ rest) → AreAll P (given_to m e ∷ rest)
    given_all marker rest all = all
    given_all (formatted n tag) rest all = (gives n tag all.0, all.1)

    pub all_handed : (n : ℕ) (es : List Entry) → AreAll P es → AreAll P (handed_over n m es)
    all_handed n [] all = all
    all_handed n (e ∷ rest) all = all_by (is_of n e) (given_to m e ∷ rest) (e ∷ handed_over n m rest)
        (given_all e rest all)
        (all_on e rest (handed_over n m rest) all (all_handed n rest (all_after e rest all)))

    put_after_all : (n : ℕ) (tag : Tag) (es : List Entry) → P m tag → AreAll P es →
        AreAll P (put_after n (formatted m tag) es)
    put_after_all n tag [] is all = (is, tt)
    put_after_all n tag (e ∷ rest) is all =
        all_by (is_of n e) (formatted m tag ∷ e ∷ rest) (e ∷ put_after n (formatted m tag) rest) (is, all)
        (all_on e rest (put_after n (formatted m tag) rest) all
        (put_after_all n tag rest is (all_after e rest all)))

    moved_by : (n after : ℕ) (es : List Entry) (found : Option Tag) → tag_in n es ≡ found → AreAll P es →
        AreAll P (moved_after n m after es)
    moved_by n after es None e all = subst (AreAll P) (sym (moved_none n m after es e)) all
    moved_by n after es (Some tag) e all = subst (AreAll P) (sym (moved_some n m after tag es e))
        (put_after_all after tag (without_entry n es) (gives n tag (all_tag n es tag all e)) (all_without n es all))

    pub all_entries_at : (bookmark : Option ℕ) (n : ℕ) (es : List Entry) → AreAll P es →
        AreAll P (entries_at bookmark n m es)
    all_entries_at None n es all = all_handed n es all
    all_entries_at (Some after) n es all =
        all_by (is_listed after (up_to_marker (without_entry n es))) (moved_after n m after es) (handed_over n m es)
        (moved_by n after es (tag_in n es) refl all) (all_handed n es all)
