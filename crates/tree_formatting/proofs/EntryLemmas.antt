-- Entries at the end and within a list of them, and the latest of an element.
use Rattle.std.proofs.Common.{◌≡◌, ◌+◌, ◌-◌, ◌<◌, ◌≤◌, ◌==◌, [], ◌∷◌, ◌++◌, ◌∙◌, Bool, Bor, List, None, Option, Some}
use Rattle.std.proofs.Common.{ap, arith, cond, false, length, map, option_map, refl, reverse, slice_index_or, sym, take}
use Rattle.std.proofs.Common.{true, ℕ}
use Rattle.std.specs.Option.{option_copied}
use Rattle.std.proofs.lemmas.Bool.{cond-true, cond-false}
use Rattle.std.proofs.lemmas.List.{append_assoc, map-append, reverse-append, take_more}
use Rattle.html_lexemes.specs.declared.token.Tag.{Tag}
use Rattle.tree_formatting.specs.Entries.{Entry, entries_of, entry_of, formatted, given_to, handed_over, is_listed}
use Rattle.tree_formatting.specs.Entries.{is_named, is_of, last_named, marker, put_after, tag_if, tag_in, up_to_marker}
use Rattle.tree_formatting.specs.Entries.{without_entry}
use Rattle.tree_formatting.specs.Found.{IsAtMarker}
use Rattle.tree_formatting.specs.declared.entry.FormatEntry.{FormatEntry}
use Rattle.tree_formatting.specs.declared.entry.FormatEntry.TheVariants.{Element, Marker}

pub entries_of-append : {H : Type 0} (number : H → ℕ) (xs ys : List (FormatEntry H)) →
    entries_of number (xs ++ ys) ≡ entries_of number ys ++ entries_of number xs
entries_of-append number xs ys = ap reverse (map-append (entry_of number) xs ys)
    ∙ reverse-append (map (entry_of number) xs) (map (entry_of number) ys)

pub entries_of-push : {H : Type 0} (number : H → ℕ) (xs : List (FormatEntry H)) (x : FormatEntry H) →
    entries_of number (xs ++ x ∷ []) ≡ entry_of number x ∷ entries_of number xs
entries_of-push number xs x = entries_of-append number xs (x ∷ [])

pub entries_of-cons : {H : Type 0} (number : H → ℕ) (x : FormatEntry H) (xs : List (FormatEntry H)) →
    entries_of number (x ∷ xs) ≡ entries_of number xs ++ entry_of number x ∷ []
entries_of-cons number x xs = entries_of-append number (x ∷ []) xs

pub entries_of-around : {H : Type 0} (number : H → ℕ) (xs : List (FormatEntry H)) (x : FormatEntry H)
    (ys : List (FormatEntry H)) →
    entries_of number (xs ++ x ∷ ys) ≡ entries_of number ys ++ entry_of number x ∷ entries_of number xs
entries_of-around number xs x ys = entries_of-append number xs (x ∷ ys)
    ∙ ap (λ v. v ++ entries_of number xs) (entries_of-cons number x ys)
    ∙ append_assoc (entries_of number ys) (entry_of number x ∷ []) (entries_of number xs)

pub neither : (a b : Bool) → cond a true b ≡ false → (a ≡ false) × (b ≡ false)
neither true b e = cc
neither false b e = (refl, e)

pub is_listed-push : (n : ℕ) (xs : List Entry) (e : Entry) → is_listed n xs ≡ false → is_of n e ≡ false →
    is_listed n (xs ++ e ∷ []) ≡ false
is_listed-push n [] e none isnt = cond-false (is_of n e) _ _ isnt
is_listed-push n (x ∷ xs) e none isnt = let p = neither (is_of n x) (is_listed n xs) none in
    cond-false (is_of n x) _ _ p.0 ∙ is_listed-push n xs e p.1 isnt

-- the latest entry of an element
pub is_listed_at : (n : ℕ) (xs : List Entry) (e : Entry) (ys : List Entry) → is_listed n xs ≡ false →
    is_of n e ≡ true → is_listed n (xs ++ e ∷ ys) ≡ true
is_listed_at n [] e ys none is = cond-true (is_of n e) _ _ is
is_listed_at n (x ∷ xs) e ys none is = let p = neither (is_of n x) (is_listed n xs) none in
    cond-false (is_of n x) _ _ p.0 ∙ is_listed_at n xs e ys p.1 is

pub tag_in_at : (n : ℕ) (xs : List Entry) (e : Entry) (ys : List Entry) → is_listed n xs ≡ false →
    is_of n e ≡ true → tag_in n (xs ++ e ∷ ys) ≡ tag_if e
tag_in_at n [] e ys none is = cond-true (is_of n e) _ _ is
tag_in_at n (x ∷ xs) e ys none is = let p = neither (is_of n x) (is_listed n xs) none in
    cond-false (is_of n x) _ _ p.0 ∙ tag_in_at n xs e ys p.1 is

pub without_entry_at : (n : ℕ) (xs : List Entry) (e : Entry) (ys : List Entry) → is_listed n xs ≡ false →
    is_of n e ≡ true → without_entry n (xs ++ e ∷ ys) ≡ xs ++ ys
without_entry_at n [] e ys none is = cond-true (is_of n e) _ _ is
without_entry_at n (x ∷ xs) e ys none is = let p = neither (is_of n x) (is_listed n xs) none in
    cond-false (is_of n x) _ _ p.0 ∙ ap (λ v. x ∷ v) (without_entry_at n xs e ys p.1 is)

pub handed_over_at : (n m : ℕ) (xs : List Entry) (e : Entry) (ys : List Entry) → is_listed n xs ≡ false →
    is_of n e ≡ true → handed_over n m (xs ++ e ∷ ys) ≡ xs ++ given_to m e ∷ ys
handed_over_at n m [] e ys none is = cond-true (is_of n e) _ _ is
handed_over_at n m (x ∷ xs) e ys none is = let p = neither (is_of n x) (is_listed n xs) none in
    cond-false (is_of n x) _ _ p.0 ∙ ap (λ v. x ∷ v) (handed_over_at n m xs e ys p.1 is)

pub put_after_at : (n : ℕ) (new : Entry) (xs : List Entry) (e : Entry) (ys : List Entry) →
    is_listed n xs ≡ false → is_of n e ≡ true → put_after n new (xs ++ e ∷ ys) ≡ xs ++ new ∷ e ∷ ys
put_after_at n new [] e ys none is = cond-true (is_of n e) _ _ is
put_after_at n new (x ∷ xs) e ys none is = let p = neither (is_of n x) (is_listed n xs) none in
    cond-false (is_of n x) _ _ p.0 ∙ ap (λ v. x ∷ v) (put_after_at n new xs e ys p.1 is)

-- an element that isn't listed
pub tag_in_none : (n : ℕ) (xs : List Entry) → is_listed n xs ≡ false → tag_in n xs ≡ None
tag_in_none n [] none = refl
tag_in_none n (x ∷ xs) none = let p = neither (is_of n x) (is_listed n xs) none in
    cond-false (is_of n x) _ _ p.0 ∙ tag_in_none n xs p.1

pub without_entry_none : (n : ℕ) (xs : List Entry) → is_listed n xs ≡ false → without_entry n xs ≡ xs
without_entry_none n [] none = refl
without_entry_none n (x ∷ xs) none = let p = neither (is_of n x) (is_listed n xs) none in
    cond-false (is_of n x) _ _ p.0 ∙ ap (λ v. x ∷ v) (without_entry_none n xs p.1)

pub handed_over_none : (n m : ℕ) (xs : List Entry) → is_listed n xs ≡ false → handed_over n m xs ≡ xs
handed_over_none n m [] none = refl
handed_over_none n m (x ∷ xs) none = let p = neither (is_of n x) (is_listed n xs) none in
    cond-false (is_of n x) _ _ p.0 ∙ ap (λ v. x ∷ v) (handed_over_none n m xs p.1)

pub put_after_none : (n : ℕ) (new : Entry) (xs : List Entry) → is_listed n xs ≡ false →
    put_after n new xs ≡ xs ++ new ∷ []
put_after_none n new [] none = refl
put_after_none n new (x ∷ xs) none = let p = neither (is_of n x) (is_listed n xs) none in
    cond-false (is_of n x) _ _ p.0 ∙ ap (λ v. x ∷ v) (put_after_none n new xs p.1)

-- at the last marker, or at the end
pub at_end : {H : Type 0} (xs : List (FormatEntry H)) → length xs ≡ 0 → IsAtMarker xs
at_end [] e = λ number. refl
at_end (x ∷ xs) e = absurd (omega (arith, e))

pub at_marker : {H : Type 0} (xs before : List (FormatEntry H)) → xs ≡ before ++ Marker ∷ [] → IsAtMarker xs
at_marker xs before e = λ number. ap (λ v. up_to_marker (entries_of number v)) e
    ∙ ap up_to_marker (entries_of-push number before Marker)

-- the latest element of a name
last_named_after : (name : List ℕ) (es : List Entry) → last_named name es ≡ last_named name (up_to_marker es)
last_named_after name [] = refl
last_named_after name (marker ∷ es) = refl
last_named_after name (formatted n tag ∷ es) =
    ap (λ v. cond (is_named name tag) (Some n) v) (last_named_after name es)

pub named_nowhere : {H : Type 0} (number : H → ℕ) (name : List ℕ) (xs : List (FormatEntry H)) → IsAtMarker xs →
    last_named name (entries_of number xs) ≡ None
named_nowhere number name xs end = last_named_after name (entries_of number xs) ∙ ap (last_named name) (end number)

module _ {H : Type 0} (number : H → ℕ) (name : List ℕ) (xs before : List (FormatEntry H)) (h : H) (tag : Tag)
    (last : xs ≡ before ++ Element h tag ∷ []) where
  shown : entries_of number xs ≡ formatted (number h) tag ∷ entries_of number before
  shown = ap (entries_of number) last ∙ entries_of-push number before (Element h tag)

  pub named_here : is_named name tag ≡ true → last_named name (entries_of number xs) ≡ Some (number h)
  named_here is = ap (last_named name) shown ∙ cond-true (is_named name tag) _ _ is

  pub named_before : is_named name tag ≡ false →
      last_named name (entries_of number xs) ≡ last_named name (entries_of number before)
  named_before isnt = ap (last_named name) shown ∙ cond-false (is_named name tag) _ _ isnt

-- after the last marker, and there without an entry
without_at_marker : (m : ℕ) (es : List Entry) → up_to_marker es ≡ [] → up_to_marker (without_entry m es) ≡ []
without_at_marker m [] e = refl
without_at_marker m (marker ∷ es) e = refl
without_at_marker m (formatted n tag ∷ es) e = cc

module _ {H : Type 0} (number : H → ℕ) (n m : ℕ) (xs : List (FormatEntry H)) (end : IsAtMarker xs) where
  pub none_after_marker : is_listed n (up_to_marker (entries_of number xs)) ≡ false
  none_after_marker = ap (is_listed n) (end number)

  pub none_after_without : is_listed n (up_to_marker (without_entry m (entries_of number xs))) ≡ false
  none_after_without = ap (is_listed n) (without_at_marker m (entries_of number xs) (end number))

module _ {H : Type 0} (number : H → ℕ) (n m : ℕ) (xs before : List (FormatEntry H)) (h : H) (tag : Tag)
    (last : xs ≡ before ++ Element h tag ∷ []) where
  shown_last : entries_of number xs ≡ formatted (number h) tag ∷ entries_of number before
  shown_last = ap (entries_of number) last ∙ entries_of-push number before (Element h tag)

  pub after_marker_here : (number h == n) ≡ true → is_listed n (up_to_marker (entries_of number xs)) ≡ true
  after_marker_here is = ap (λ v. is_listed n (up_to_marker v)) shown_last ∙ cond-true (number h == n) _ _ is

  pub after_marker_before : (number h == n) ≡ false →
      is_listed n (up_to_marker (entries_of number xs)) ≡ is_listed n (up_to_marker (entries_of number before))
  after_marker_before isnt =
      ap (λ v. is_listed n (up_to_marker v)) shown_last ∙ cond-false (number h == n) _ _ isnt

  pub without_it : (number h == m) ≡ true →
      is_listed n (up_to_marker (without_entry m (entries_of number xs)))
      ≡ is_listed n (up_to_marker (entries_of number before))
  without_it is = ap (λ v. is_listed n (up_to_marker (without_entry m v))) shown_last
      ∙ ap (λ v. is_listed n (up_to_marker v)) (cond-true (number h == m) _ _ is)

  without_more : (number h == m) ≡ false → without_entry m (entries_of number xs)
      ≡ formatted (number h) tag ∷ without_entry m (entries_of number before)
  without_more isnt = ap (without_entry m) shown_last ∙ cond-false (number h == m) _ _ isnt

  pub without_here : (number h == m) ≡ false → (number h == n) ≡ true →
      is_listed n (up_to_marker (without_entry m (entries_of number xs))) ≡ true
  without_here other is = ap (λ v. is_listed n (up_to_marker v)) (without_more other)
      ∙ cond-true (number h == n) _ _ is

  pub without_before : (number h == m) ≡ false → (number h == n) ≡ false →
      is_listed n (up_to_marker (without_entry m (entries_of number xs)))
      ≡ is_listed n (up_to_marker (without_entry m (entries_of number before)))
  without_before other isnt = ap (λ v. is_listed n (up_to_marker v)) (without_more other)
      ∙ cond-false (number h == n) _ _ isnt

-- one more from the front
pub entries_of-take : {H : Type 0} (number : H → ℕ) (xs : List (FormatEntry H)) (m : ℕ) (x : FormatEntry H) → 0 < m →
    m ≤ length xs → x ≡ slice_index_or xs (m - 1) x →
    entries_of number (take m xs) ≡ entry_of number x ∷ entries_of number (take (m - 1) xs)
entries_of-take number xs m x some within read =
    let e : m ≡ m - 1 + 1 = omega arith in
    ap (λ v. entries_of number (take v xs)) e
    ∙ ap (entries_of number) (take_more xs (m - 1) x (omega arith) ∙ ap (λ v. take (m - 1) xs ++ v ∷ []) (sym read))
    ∙ entries_of-push number (take (m - 1) xs) x

-- handles that are lent
pub copied_number : {H : Type 0} (number : H → ℕ) (lent : Option (Bor H)) →
    option_map number (option_copied lent) ≡ option_map (λ handle. number handle.now) lent
copied_number number None = refl
copied_number number (Some handle) = refl
