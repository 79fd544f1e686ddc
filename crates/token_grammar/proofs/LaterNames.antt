-- The set of the names after a tag's first attributes.
use Rattle.std.proofs.Common.{◌≡◌, ◌≤◌, ◌<◌, ◌||◌, ◌&&◌, [], ◌∷◌, ◌++◌, ◌∙◌, ⊎_elim, Bool, List, ap, arith, cond, drop}
use Rattle.std.proofs.Common.{false, length, length-append, refl, sym, take, true, ℕ}
use Rattle.std.proofs.Math.Bool.{or-false}
use Rattle.std.proofs.lemmas.Bool.{cases_Bool, leb-true, leb-false, true_from_ne_false}
use Rattle.std.proofs.lemmas.List.{drop-append-le, drop_all, take-append-drop}
use Rattle.std.proofs.lemmas.List.Folds.{list_any-append}
use Rattle.std.proofs.lemmas.Map.Text.{is_eq-slice_cmp}
use Rattle.std.specs.BTreeMap.{is_at}
use Rattle.std.specs.List.{list_any}
use Rattle.std.specs.BTreeSet.{BTreeSet, Updates, contains}
use Rattle.std.specs.Bool.{nat_le}
use Rattle.std.specs.Cmp.Lexicographic.{slice_cmp}
use Rattle.std.specs.Ordering.{nat_cmp}
use Rattle.std.specs.Str.{bytes_eq}
use Rattle.html_lexemes.specs.declared.names.Attribute.{Attribute}
use Rattle.token_grammar.specs.declared.tags.TheConstants.{SEARCHED}
use Rattle.token_grammar.specs.TagParts.{HasLaterNames, is_named}

-- what stands in a set with one name more
pub inserted : (old new : BTreeSet (List ℕ)) (name : List ℕ) → Updates (slice_cmp nat_cmp) old new name true →
    (other : List ℕ)
    → contains (slice_cmp nat_cmp) new other ≡ (contains (slice_cmp nat_cmp) old other || bytes_eq name other)
inserted old new name h other =
    h.0 other ∙ ap (λ b. cond b true (contains (slice_cmp nat_cmp) old other)) (is_eq-slice_cmp name other) ∙
    either (bytes_eq name other) (contains (slice_cmp nat_cmp) old other) where
      either : (b o : Bool) → cond b true o ≡ (o || b)
      either true true = refl
      either true false = refl
      either false true = refl
      either false false = refl

-- a name is one of the first or one of the others
pub first-or-later : (n : ℕ) (name : List ℕ) (xs : List Attribute) → is_named name xs
    ≡ (is_named name (take n xs) || is_named name (drop n xs))
first-or-later n name xs =
    ap (is_named name) (sym (take-append-drop n xs)) ∙ list_any-append (λ a. bytes_eq a.name.local name) (take n xs)
    (drop n xs)

-- the names after the first, with one attribute more
pub later-more : (n : ℕ) (name : List ℕ) (xs : List Attribute) (a : Attribute)
    → is_named name (drop n (xs ++ a ∷ []))
    ≡ (is_named name (drop n xs) || (nat_le n (length xs) && bytes_eq a.name.local name))
later-more n name xs a = ⊎_elim trailing before (cases_Bool (nat_le n (length xs))) where
  trailing : nat_le n (length xs) ≡ true → is_named name (drop n (xs ++ a ∷ []))
      ≡ (is_named name (drop n xs) || (nat_le n (length xs) && bytes_eq a.name.local name))
  trailing e =
      rw e
      (ap (is_named name) (drop-append-le n xs (a ∷ []) (leb-true n (length xs) e))
      ∙ list_any-append (λ (b : Attribute). bytes_eq b.name.local name) (drop n xs) (a ∷ [])
      ∙ ap (λ b. is_named name (drop n xs) || b) (or-false (bytes_eq a.name.local name)))

  before : nat_le n (length xs) ≡ false → is_named name (drop n (xs ++ a ∷ []))
      ≡ (is_named name (drop n xs) || (nat_le n (length xs) && bytes_eq a.name.local name))
  before e =
      let short : length xs < n = leb-false n (length xs) e in
      rw e
      (ap (is_named name) (drop_all n (xs ++ a ∷ []) (omega (arith, length-append xs (a ∷ []))))
      ∙ ap (λ (ys : List Attribute). is_named name ys || false) (sym (drop_all n xs (omega arith))))

-- the test that a number is at least another
pub at_least : (n m : ℕ) (b : Bool) → n ≤ m → b ≡ (nat_le n m && b)
at_least n m b h =
    ap (λ t. t && b) (sym (true_from_ne_false (nat_le n m) (λ e. absurd (omega (arith, leb-false n m e)))))

-- no name stands in a set and a list that are empty
pub none-later : (names : BTreeSet (List ℕ)) (xs : List Attribute) → names.keys ≡ [] → xs ≡ [] → HasLaterNames names xs
none-later names xs none empty name =
    ap (λ ks. list_any (is_at (slice_cmp nat_cmp name)) ks) none ∙
    ap (λ (ys : List Attribute). is_named name (drop SEARCHED ys)) (sym empty)
