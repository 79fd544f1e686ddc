-- At most three elements that are alike stand after the last marker, whatever is done.
use Rattle.std.proofs.Common.{◌≡◌, ◌+◌, ◌<◌, ◌≤◌, ◌==◌, ◌&&◌, [], ◌∷◌, ◌++◌, ◌⊎◌, ◌∙◌, Bool, List, Some, ap, arith}
use Rattle.std.proofs.Common.{cond, false, inl, inr, refl, subst, sym, true, ℕ}
use Rattle.std.specs.Bool.{nat_lt}
use Rattle.std.proofs.lemmas.Bool.{and_cases, and_parts, cases_Bool, cond-true, cond-false, cond_both, eqb-false}
use Rattle.std.proofs.lemmas.Bool.Decides.{nat_tests}
use Rattle.html_lexemes.specs.declared.token.Tag.{Tag}
use Rattle.tree_formatting.specs.Alike.{AreFew, are_alike}
use Rattle.tree_formatting.specs.Entries.{Entry, before_marker, formatted, handed_over, is_listed, marker, moved_after}
use Rattle.tree_formatting.specs.Entries.{put_after, tag_in, up_to_marker, without_entry}
use Rattle.tree_formatting.specs.Pushing.{pushed, without_earliest}
use Rattle.tree_formatting.proofs.AlikeLemmas.{alike_to_both}
use Rattle.tree_formatting.proofs.CountingLemmas.{heads, heads-cons}
use Rattle.tree_formatting.proofs.PlaceLemmas.{moves}

few_ahead : (es : List Entry) → AreFew es → (t : Tag) → heads t es ≤ 3
few_ahead [] few t = omega arith
few_ahead (e ∷ es) few t = few.0 t

few_formatted : (n : ℕ) (held : Tag) (es : List Entry) → AreFew es →
    ((t : Tag) → cond (are_alike held t) 1 0 + heads t es ≤ 3) → AreFew (formatted n held ∷ es)
few_formatted n held es few room = ((λ t. omega (arith, heads-cons t n held es, room t)), few)

-- what stands after an element has as many that are alike, or fewer
heads_after : (t : Tag) (n : ℕ) (held : Tag) (es : List Entry) → heads t es ≤ heads t (formatted n held ∷ es)
heads_after t n held es = omega (arith, heads-cons t n held es)

-- the earliest of some goes
module _ (tag : Tag) where
  abbrev goes : Tag → List Entry → Bool
  goes held es = are_alike held tag && (heads tag es == 0)

  fewer : (t : Tag) (es : List Entry) → heads t (without_earliest tag es) ≤ heads t es
  fewer t [] = omega arith
  fewer t (marker ∷ es) = omega arith
  fewer t (formatted n held ∷ es) = cond_both (goes held es) es (formatted n held ∷ without_earliest tag es)
      (λ v. heads t v ≤ heads t (formatted n held ∷ es))
      (λ e. heads_after t n held es)
      (λ e. omega (arith, heads-cons t n held es, heads-cons t n held (without_earliest tag es), fewer t es))

  one_fewer : (es : List Entry) → 0 < heads tag es → heads tag (without_earliest tag es) + 1 ≡ heads tag es
  one_fewer [] some = absurd (omega arith)
  one_fewer (marker ∷ es) some = absurd (omega arith)
  one_fewer (formatted n held ∷ es) some = cond_both (goes held es) es (formatted n held ∷ without_earliest tag es)
      (λ v. heads tag v + 1 ≡ heads tag (formatted n held ∷ es))
      (λ e.
      let p = and_parts (are_alike held tag) (heads tag es == 0) e in
      let o : ◌≡◌ {A = ℕ} (cond (are_alike held tag) 1 0) 1 = cond-true (are_alike held tag) 1 0 p.0 in
      omega (arith, heads-cons tag n held es, o))
      (λ e.
      let more : 0 < heads tag es = still e (and_cases (are_alike held tag) (heads tag es == 0) e) in
      omega (arith, heads-cons tag n held es, heads-cons tag n held (without_earliest tag es), one_fewer es more)) where
        still : goes held es ≡ false → (are_alike held tag ≡ false) ⊎ ((heads tag es == 0) ≡ false) → 0 < heads tag es
        still e (inl isnt) =
            let o : ◌≡◌ {A = ℕ} (cond (are_alike held tag) 1 0) 0 = cond-false (are_alike held tag) 1 0 isnt in
            omega (arith, heads-cons tag n held es, o, some)
        still e (inr isnt) = let f = eqb-false (heads tag es) 0 isnt in grind arith

  few_without_earliest : (es : List Entry) → AreFew es → AreFew (without_earliest tag es)
  few_without_earliest [] few = few
  few_without_earliest (marker ∷ es) few = few
  few_without_earliest (formatted n held ∷ es) few =
      cond_both (goes held es) es (formatted n held ∷ without_earliest tag es) AreFew
      (λ e. few.1)
      (λ e. few_formatted n held (without_earliest tag es) (few_without_earliest es few.1)
      (λ t. omega (arith, heads-cons t n held es, fewer t es, few.0 t)))

  -- what is alike to the new one is counted as it is
  counted : (t : Tag) → are_alike tag t ≡ true → (es : List Entry) → heads t es ≡ heads tag es
  counted t e [] = refl
  counted t e (marker ∷ es) = refl
  counted t e (formatted n held ∷ es) =
      let c : ◌≡◌ {A = ℕ} (cond (are_alike held tag) 1 0) (cond (are_alike held t) 1 0)
      = ap (λ (b : Bool). cond b 1 0) (alike_to_both tag t held e) in
      omega (arith, heads-cons t n held es, heads-cons tag n held es, counted t e es, c)

  -- there is room for one more
  room : (es : List Entry) → ((t : Tag) → heads t es ≤ 3) → heads tag es ≤ 2 → (t : Tag) →
      cond (are_alike tag t) 1 0 + heads t es ≤ 3
  room es few less t = elim (cases_Bool (are_alike tag t)) [
    | inl e ↦
        let o : ◌≡◌ {A = ℕ} (cond (are_alike tag t) 1 0) 1 = cond-true (are_alike tag t) 1 0 e in
        omega (arith, o, counted t e es)
    | inr e ↦
        let o : ◌≡◌ {A = ℕ} (cond (are_alike tag t) 1 0) 0 = cond-false (are_alike tag t) 1 0 e in
        omega (arith, o, few t)
  ]

  pub few_pushed : (n : ℕ) (es : List Entry) → AreFew es → AreFew (pushed n tag es)
  few_pushed n es few = cond_both (nat_lt 2 (heads tag es)) (without_earliest tag es) es
      (λ v. AreFew (formatted n tag ∷ v))
      (λ e.
      let many : 2 < heads tag es = grind (arith, nat_tests) in
      few_formatted n tag (without_earliest tag es) (few_without_earliest es few)
      (room (without_earliest tag es) (λ t. omega (arith, fewer t es, few_ahead es few t))
      (omega (arith, one_fewer es (omega arith), few_ahead es few tag))))
      (λ e.
      let some : heads tag es ≤ 2 = grind (arith, nat_tests) in
      few_formatted n tag es few (room es (few_ahead es few) some))

pub few_cleared : (es : List Entry) → AreFew es → AreFew (before_marker es)
few_cleared [] few = few
few_cleared (marker ∷ es) few = few.1
few_cleared (formatted n held ∷ es) few = few_cleared es few.1

-- an entry is taken off
fewer_without : (n : ℕ) (t : Tag) (es : List Entry) → heads t (without_entry n es) ≤ heads t es
fewer_without n t [] = omega arith
fewer_without n t (marker ∷ es) = omega arith
fewer_without n t (formatted m held ∷ es) = cond_both (m == n) es (formatted m held ∷ without_entry n es)
    (λ v. heads t v ≤ heads t (formatted m held ∷ es))
    (λ e. heads_after t m held es)
    (λ e. omega (arith, heads-cons t m held es, heads-cons t m held (without_entry n es), fewer_without n t es))

pub few_without : (n : ℕ) (es : List Entry) → AreFew es → AreFew (without_entry n es)
few_without n [] few = few
few_without n (marker ∷ es) few = (few.0, few_without n es few.1)
few_without n (formatted m held ∷ es) few =
    cond_both (m == n) es (formatted m held ∷ without_entry n es) AreFew
    (λ e. few.1)
    (λ e. few_formatted m held (without_entry n es) (few_without n es few.1)
    (λ t. omega (arith, heads-cons t m held es, fewer_without n t es, few.0 t)))

-- an entry is given to another element
as_many_handed : (n k : ℕ) (t : Tag) (es : List Entry) → heads t (handed_over n k es) ≡ heads t es
as_many_handed n k t [] = refl
as_many_handed n k t (marker ∷ es) = refl
as_many_handed n k t (formatted m held ∷ es) =
    cond_both (m == n) (formatted k held ∷ es) (formatted m held ∷ handed_over n k es)
    (λ v. heads t v ≡ heads t (formatted m held ∷ es))
    (λ e. heads-cons t k held es ∙ sym (heads-cons t m held es))
    (λ e. omega (arith, heads-cons t m held es, heads-cons t m held (handed_over n k es), as_many_handed n k t es))

pub few_handed : (n k : ℕ) (es : List Entry) → AreFew es → AreFew (handed_over n k es)
few_handed n k [] few = few
few_handed n k (marker ∷ es) few = (few.0, few_handed n k es few.1)
few_handed n k (formatted m held ∷ es) few =
    cond_both (m == n) (formatted k held ∷ es) (formatted m held ∷ handed_over n k es) AreFew
    (λ e. few_formatted k held es few.1 (λ t. omega (arith, heads-cons t m held es, few.0 t)))
    (λ e. few_formatted m held (handed_over n k es) (few_handed n k es few.1)
    (λ t. omega (arith, heads-cons t m held es, as_many_handed n k t es, few.0 t)))

as_many_given : (n m : ℕ) (held t : Tag) (front back : List Entry) →
    heads t (front ++ formatted m held ∷ back) ≡ heads t (front ++ formatted n held ∷ back)
as_many_given n m held t [] back = heads-cons t m held back ∙ sym (heads-cons t n held back)
as_many_given n m held t (marker ∷ front) back = refl
as_many_given n m held t (formatted k tag ∷ front) back = omega (
  arith,
  heads-cons t k tag (front ++ formatted m held ∷ back),
  heads-cons t k tag (front ++ formatted n held ∷ back),
  as_many_given n m held t front back,
)

pub few_given : (n m : ℕ) (held : Tag) (front back : List Entry) → AreFew (front ++ formatted n held ∷ back) →
    AreFew (front ++ formatted m held ∷ back)
few_given n m held [] back few =
    ((λ t. subst (λ (v : ℕ). v ≤ 3) (sym (as_many_given n m held t [] back)) (few.0 t)), few.1)
few_given n m held (marker ∷ front) back few = (few.0, few_given n m held front back few.1)
few_given n m held (formatted k tag ∷ front) back few = (
  (λ t. subst (λ (v : ℕ). v ≤ 3) (sym (as_many_given n m held t (formatted k tag ∷ front) back)) (few.0 t)),
  few_given n m held front back few.1,
)

-- an entry after the last marker is moved after another
record IsTaken (n : ℕ) (es : List Entry) : Type 0 where
  tag : Tag
  held : tag_in n es ≡ Some tag
  count : (t : Tag) → cond (are_alike tag t) 1 0 + heads t (without_entry n es) ≡ heads t es

taken : (n : ℕ) (es : List Entry) → is_listed n (up_to_marker es) ≡ true → IsTaken n es
taken n [] listed = cc
taken n (marker ∷ es) listed = cc
taken n (formatted m held ∷ es) listed = elim (cases_Bool (m == n)) [
  | inl e ↦ record {
    tag = held;
    held = cond-true (m == n) _ _ e;
    count = λ t. omega (
      arith,
      heads-cons t m held es,
      ap (heads t) (cond-true (m == n) es (formatted m held ∷ without_entry n es) e),
    );
  }
  | inr e ↦
      let rest = taken n es (sym (cond-false (m == n) true (is_listed n (up_to_marker es)) e) ∙ listed) in
      record {
        tag = rest.tag;
        held = cond-false (m == n) _ _ e ∙ rest.held;
        count = λ t. omega (
          arith,
          heads-cons t m held es,
          heads-cons t m held (without_entry n es),
          rest.count t,
          ap (heads t) (cond-false (m == n) es (formatted m held ∷ without_entry n es) e),
        );
      }
]

module _ (after k : ℕ) (tag : Tag) where
  more_put : (t : Tag) (es : List Entry) → is_listed after (up_to_marker es) ≡ true →
      heads t (put_after after (formatted k tag) es) ≡ cond (are_alike tag t) 1 0 + heads t es
  more_put t [] listed = cc
  more_put t (marker ∷ es) listed = cc
  more_put t (formatted m held ∷ es) listed = elim (cases_Bool (m == after)) [
    | inl e ↦ ap (heads t) (cond-true (m == after) (formatted k tag ∷ formatted m held ∷ es)
        (formatted m held ∷ put_after after (formatted k tag) es) e)
        ∙ heads-cons t k tag (formatted m held ∷ es)
    | inr e ↦
        let rest = more_put t es (sym (cond-false (m == after) true (is_listed after (up_to_marker es)) e) ∙ listed) in
        omega (
          arith,
          heads-cons t m held es,
          heads-cons t m held (put_after after (formatted k tag) es),
          rest,
          ap (heads t) (cond-false (m == after) (formatted k tag ∷ formatted m held ∷ es)
              (formatted m held ∷ put_after after (formatted k tag) es) e),
        )
  ]

  few_put : (es : List Entry) → AreFew es → is_listed after (up_to_marker es) ≡ true →
      ((t : Tag) → cond (are_alike tag t) 1 0 + heads t es ≤ 3) → AreFew (put_after after (formatted k tag) es)
  few_put [] few listed room = cc
  few_put (marker ∷ es) few listed room = cc
  few_put (formatted m held ∷ es) few listed room = elim (cases_Bool (m == after)) [
    | inl e ↦ subst AreFew (sym (cond-true (m == after) (formatted k tag ∷ formatted m held ∷ es)
        (formatted m held ∷ put_after after (formatted k tag) es) e))
        (few_formatted k tag (formatted m held ∷ es) few room)
    | inr e ↦
        let there = sym (cond-false (m == after) true (is_listed after (up_to_marker es)) e) ∙ listed in
        subst AreFew (sym (cond-false (m == after) (formatted k tag ∷ formatted m held ∷ es)
        (formatted m held ∷ put_after after (formatted k tag) es) e))
        (few_formatted m held (put_after after (formatted k tag) es)
        (few_put es few.1 there (λ t. omega (arith, room t, heads_after t m held es)))
        (λ t. omega (arith, room t, heads-cons t m held es, more_put t es there)))
  ]

pub few_moved : (n m after : ℕ) (es : List Entry) → AreFew es → is_listed n (up_to_marker es) ≡ true →
    is_listed after (up_to_marker (without_entry n es)) ≡ true → AreFew (moved_after n m after es)
few_moved n m after es few listed there =
    let was = taken n es listed in
    subst AreFew (sym (moves (λ (k : ℕ). k) n es m after was.tag was.held))
    (few_put after m was.tag (without_entry n es) (few_without n es few) there
    (λ t. omega (arith, was.count t, few_ahead es few t)))
