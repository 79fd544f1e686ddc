-- What is done at the place of an element's latest entry.
use Rattle.std.proofs.Common.{◌≡◌, ◌+◌, ◌-◌, ◌<◌, ◌≤◌, [], ◌∷◌, ◌++◌, ◌∙◌, List, None, Option, Some, ap, ap₂, arith}
use Rattle.std.proofs.Common.{drop, false, length, refl, slice_index_or, slice_set, subst, suc, sym, take, true, zero}
use Rattle.std.proofs.Common.{ℕ}
use Rattle.std.specs.List.{insert, remove}
use Rattle.std.specs.Option.{is_some}
use Rattle.std.specs.Prelude.{IfSome}
use Rattle.std.proofs.lemmas.Bool.{eq-eqb, eqb-true}
use Rattle.std.proofs.lemmas.List.{append_assoc, drop_all, get_or_at, length-append, set_at, take_at}
use Rattle.html_lexemes.specs.declared.token.Tag.{Tag}
use Rattle.tree_formatting.specs.Entries.{Entry, entries_of, entry_of, formatted, given as given_entry, handed_over}
use Rattle.tree_formatting.specs.Entries.{is_listed, is_of, moved_after, put_after, tag_in, without_entry}
use Rattle.tree_formatting.specs.Found.{StandsAt}
use Rattle.tree_formatting.specs.declared.entry.FormatEntry.{FormatEntry}
use Rattle.tree_formatting.specs.declared.entry.FormatEntry.TheVariants.{Element, Marker}
use Rattle.tree_formatting.proofs.EntryLemmas.{entries_of-append, entries_of-around, entries_of-cons, entries_of-push}
use Rattle.tree_formatting.proofs.EntryLemmas.{handed_over_at, is_listed-push, is_listed_at, put_after_at}
use Rattle.tree_formatting.proofs.EntryLemmas.{put_after_none, tag_in_at, tag_in_none, without_entry_at}

pub split_at : {A : Type 0} (xs : List A) (k : ℕ) (d : A) → k < length xs →
    xs ≡ take k xs ++ slice_index_or xs k d ∷ drop (suc k) xs
split_at [] k d h = absurd (omega arith)
split_at (x ∷ xs) zero d h = refl
split_at (x ∷ xs) (suc k) d h = ap (λ v. x ∷ v) (split_at xs k d (omega arith))

length_front : {A : Type 0} (xs : List A) (k : ℕ) → k ≤ length xs → length (take k xs) ≡ k
length_front xs zero h = refl
length_front [] (suc k) h = absurd (omega arith)
length_front (x ∷ xs) (suc k) h = ap suc (length_front xs k (omega arith))

drop_from : {A : Type 0} (xs : List A) (k : ℕ) (d : A) → k < length xs →
    drop k xs ≡ slice_index_or xs k d ∷ drop (suc k) xs
drop_from [] k d h = absurd (omega arith)
drop_from (x ∷ xs) zero d h = refl
drop_from (x ∷ xs) (suc k) d h = drop_from xs k d (omega arith)

pub drop_after : {A : Type 0} (front rest : List A) (x : A) (i : ℕ) → length front ≡ i →
    drop (suc i) (front ++ x ∷ rest) ≡ rest
drop_after [] rest x zero e = refl
drop_after [] rest x (suc i) e = absurd (omega (arith, e))
drop_after (y ∷ front) rest x zero e = absurd (omega (arith, e))
drop_after (y ∷ front) rest x (suc i) e = drop_after front rest x i (omega (arith, e))

module _ {H : Type 0} (number : H → ℕ) (n : ℕ) where
  -- the search from the end
  pub none_after_end : (xs : List (FormatEntry H)) → is_listed n (entries_of number (drop (length xs) xs)) ≡ false
  none_after_end xs = ap (λ v. is_listed n (entries_of number v)) (drop_all (length xs) xs (omega arith))

  none_after_from : (xs : List (FormatEntry H)) (k : ℕ) (x : FormatEntry H) → k < length xs →
      x ≡ slice_index_or xs k x → is_of n (entry_of number x) ≡ false →
      is_listed n (entries_of number (drop (suc k) xs)) ≡ false → is_listed n (entries_of number (drop k xs)) ≡ false
  none_after_from xs k x within read isnt none = ap (λ v. is_listed n (entries_of number v))
      (drop_from xs k x within ∙ ap (λ v. v ∷ drop (suc k) xs) (sym read))
      ∙ ap (is_listed n) (entries_of-cons number x (drop (suc k) xs))
      ∙ is_listed-push n (entries_of number (drop (suc k) xs)) (entry_of number x) none isnt

  stands_from : (xs : List (FormatEntry H)) (k : ℕ) (x : FormatEntry H) → k < length xs →
      x ≡ slice_index_or xs k x → is_of n (entry_of number x) ≡ true →
      is_listed n (entries_of number (drop (suc k) xs)) ≡ false → StandsAt number n xs k
  stands_from xs k Marker within read is none = cc
  stands_from xs k (Element h tag) within read is none = record {
    front = take k xs;
    held = h;
    tag = tag;
    back = drop (suc k) xs;
    split = split_at xs k (Element h tag) within ∙ ap (λ v. take k xs ++ v ∷ drop (suc k) xs) (sym read);
    counted = length_front xs k (omega arith);
    found = eqb-true (number h) n is;
    last = none;
  }

  NoneFrom : List (FormatEntry H) → ℕ → Type 0
  NoneFrom xs m = is_listed n (entries_of number (drop m xs)) ≡ false

  pub none_after_more : (xs : List (FormatEntry H)) (m : ℕ) (x : FormatEntry H) → 0 < m → m ≤ length xs →
      x ≡ slice_index_or xs (m - 1) x → is_of n (entry_of number x) ≡ false →
      is_listed n (entries_of number (drop m xs)) ≡ false →
      is_listed n (entries_of number (drop (m - 1) xs)) ≡ false
  unfolding NoneFrom
  none_after_more xs m x some within read isnt none = none_after_from xs (m - 1) x (omega arith) read isnt
      (subst (NoneFrom xs) (let e : m ≡ suc (m - 1) = omega arith in e) none)

  pub stands_at : (xs : List (FormatEntry H)) (m : ℕ) (x : FormatEntry H) → 0 < m → m ≤ length xs →
      x ≡ slice_index_or xs (m - 1) x → is_of n (entry_of number x) ≡ true →
      is_listed n (entries_of number (drop m xs)) ≡ false → StandsAt number n xs (m - 1)
  unfolding NoneFrom
  stands_at xs m x some within read is none = stands_from xs (m - 1) x (omega arith) read is
      (subst (NoneFrom xs) (let e : m ≡ suc (m - 1) = omega arith in e) none)

  module _ (xs : List (FormatEntry H)) (k : ℕ) (at : StandsAt number n xs k) where
    pub within : k < length xs
    within = omega (arith, at.counted, ap length at.split, length-append at.front (Element at.held at.tag ∷ at.back))

    is : is_of n (entry_of number (Element at.held at.tag)) ≡ true
    is = eq-eqb (number at.held) n at.found

    whole : entries_of number xs
        ≡ entries_of number at.back ++ formatted (number at.held) at.tag ∷ entries_of number at.front
    whole = ap (entries_of number) at.split ∙ entries_of-around number at.front (Element at.held at.tag) at.back

    pub read : (d : FormatEntry H) → slice_index_or xs k d ≡ Element at.held at.tag
    read d = ap (λ v. slice_index_or v k d) at.split
        ∙ get_or_at at.front (Element at.held at.tag) at.back d k at.counted

    pub listed : is_listed n (entries_of number xs) ≡ true
    listed = ap (is_listed n) whole
        ∙ is_listed_at n (entries_of number at.back) _ (entries_of number at.front) at.last is

    pub tag_is : tag_in n (entries_of number xs) ≡ Some at.tag
    tag_is = ap (tag_in n) whole ∙ tag_in_at n (entries_of number at.back) _ (entries_of number at.front) at.last is

    removed_is : remove xs k ≡ at.front ++ at.back
    removed_is = ap (λ v. take k v ++ drop (suc k) v) at.split
        ∙ ap₂ (λ a b. a ++ b) (take_at at.front (Element at.held at.tag ∷ at.back) k at.counted)
        (drop_after at.front at.back (Element at.held at.tag) k at.counted)

    pub removed : entries_of number (remove xs k) ≡ without_entry n (entries_of number xs)
    removed = ap (entries_of number) removed_is
        ∙ entries_of-append number at.front at.back
        ∙ sym (without_entry_at n (entries_of number at.back) _ (entries_of number at.front) at.last is)
        ∙ ap (without_entry n) (sym whole)

    pub given : (to : H) → entries_of number (slice_set xs k (Element to at.tag))
        ≡ handed_over n (number to) (entries_of number xs)
    given to = ap (λ v. entries_of number (slice_set v k (Element to at.tag))) at.split
        ∙ ap (entries_of number) (set_at at.front (Element at.held at.tag) at.back (Element to at.tag) k at.counted)
        ∙ entries_of-around number at.front (Element to at.tag) at.back
        ∙ sym (handed_over_at n (number to) (entries_of number at.back) _ (entries_of number at.front) at.last is)
        ∙ ap (handed_over n (number to)) (sym whole)

    pub put : (to : H) (tag : Tag) → entries_of number (insert xs (k + 1) (Element to tag))
        ≡ put_after n (formatted (number to) tag) (entries_of number xs)
    put to tag = ap₂ (λ v j. entries_of number (insert v j (Element to tag))) at.split
        (let e : k + 1 ≡ suc k = omega arith in e)
        ∙ ap (entries_of number) inserted
        ∙ ap (entries_of number) (sym (append_assoc at.front (Element at.held at.tag ∷ []) (Element to tag ∷ at.back)))
        ∙ entries_of-around number (at.front ++ Element at.held at.tag ∷ []) (Element to tag) at.back
        ∙ ap (λ v. entries_of number at.back ++ formatted (number to) tag ∷ v)
        (entries_of-push number at.front (Element at.held at.tag))
        ∙ sym (put_after_at n (formatted (number to) tag) (entries_of number at.back) _ (entries_of number at.front)
        at.last is)
        ∙ ap (put_after n (formatted (number to) tag)) (sym whole) where
          take_after : (front rest : List (FormatEntry H)) (x : FormatEntry H) (i : ℕ) → length front ≡ i →
              take (suc i) (front ++ x ∷ rest) ≡ front ++ x ∷ []
          take_after [] rest x zero e = refl
          take_after [] rest x (suc i) e = absurd (omega (arith, e))
          take_after (y ∷ front) rest x zero e = absurd (omega (arith, e))
          take_after (y ∷ front) rest x (suc i) e = ap (λ v. y ∷ v) (take_after front rest x i (omega (arith, e)))

          inserted : insert (at.front ++ Element at.held at.tag ∷ at.back) (suc k) (Element to tag)
              ≡ at.front ++ Element at.held at.tag ∷ Element to tag ∷ at.back
          inserted = ap₂ (λ a b. a ++ Element to tag ∷ b)
              (take_after at.front at.back (Element at.held at.tag) k at.counted)
              (drop_after at.front at.back (Element at.held at.tag) k at.counted)
              ∙ append_assoc at.front (Element at.held at.tag ∷ []) (Element to tag ∷ at.back)

  pub is_found : (xs : List (FormatEntry H)) (o : Option ℕ) → IfSome o (StandsAt number n xs) →
      (o ≡ None → is_listed n (entries_of number xs) ≡ false) → is_some o ≡ is_listed n (entries_of number xs)
  is_found xs None found missing = sym (missing refl)
  is_found xs (Some k) found missing = sym (listed xs k found)

  -- it is moved after another
  pub stays : (es : List Entry) (m after : ℕ) → is_listed n es ≡ false → es ≡ moved_after n m after es
  stays es m after none = rw (tag_in_none n es none) refl

  pub moves : (es : List Entry) (m after : ℕ) (tag : Tag) → tag_in n es ≡ Some tag →
      moved_after n m after es ≡ put_after after (formatted m tag) (without_entry n es)
  moves es m after tag is = rw is refl

-- where the other isn't listed
pub put_first : {H : Type 0} (number : H → ℕ) (n : ℕ) (xs : List (FormatEntry H)) (to : H) (tag : Tag) →
    is_listed n (entries_of number xs) ≡ false →
    entries_of number (insert xs 0 (Element to tag)) ≡ put_after n (formatted (number to) tag) (entries_of number xs)
put_first number n xs to tag none = entries_of-cons number (Element to tag) xs
    ∙ sym (put_after_none n (formatted (number to) tag) (entries_of number xs) none)

pub stands_in : {H : Type 0} (number : H → ℕ) (n : ℕ) (xs ys : List (FormatEntry H)) (k : ℕ) → xs ≡ ys →
    StandsAt number n xs k → StandsAt number n ys k
stands_in {H} number n xs ys k e at =
    let P : List (FormatEntry H) → Type 0 = λ v. StandsAt number n v k in subst P e at

-- what is read at the place is its tag
pub tag_at : {H : Type 0} (number : H → ℕ) (n : ℕ) (xs items : List (FormatEntry H)) (k : ℕ)
    (at : StandsAt number n xs k) → items ≡ xs → (x : FormatEntry H) (h : H) (tag : Tag) →
    x ≡ slice_index_or items k x → x ≡ Element h tag → at.tag ≡ tag
tag_at {H} number n xs items k at view x h tag value is =
    same (sym (read number n xs k at x) ∙ ap (λ v. slice_index_or v k x) (sym view) ∙ sym value ∙ is) where
      same : {a b : H} {t u : Tag} → Element a t ≡ Element b u → t ≡ u
      same e = cc

pub given_at : {H : Type 0} (number : H → ℕ) (n : ℕ) (xs items : List (FormatEntry H)) (k : ℕ)
    (at : StandsAt number n xs k) → items ≡ xs → (x : FormatEntry H) (h : H) (tag : Tag) →
    x ≡ slice_index_or items k x → x ≡ Element h tag → (to : H) →
    entries_of number (slice_set items k (Element to tag)) ≡ handed_over n (number to) (entries_of number xs)
given_at number n xs items k at view x h tag value is to =
    ap₂ (λ v t. entries_of number (slice_set v k (Element to t))) view
    (sym (tag_at number n xs items k at view x h tag value is))
    ∙ given number n xs k at to

pub moved : {H : Type 0} (number : H → ℕ) (n : ℕ) (xs items : List (FormatEntry H)) (k : ℕ)
    (at : StandsAt number n xs k) → items ≡ xs → (x : FormatEntry H) (h : H) (tag : Tag) →
    x ≡ slice_index_or items k x → x ≡ Element h tag → (ys : List (FormatEntry H)) → ys ≡ remove items k →
    (m after : ℕ) (new : List Entry) → new ≡ put_after after (formatted m tag) (entries_of number ys) →
    new ≡ moved_after n m after (entries_of number xs)
moved number n xs items k at view x h tag value is ys rest m after new put_is = put_is
    ∙ ap (λ v. put_after after (formatted m tag) (entries_of number v)) (rest ∙ ap (λ v. remove v k) view)
    ∙ ap₂ (λ v t. put_after after (formatted m t) v) (removed number n xs k at)
    (sym (tag_at number n xs items k at view x h tag value is))
    ∙ sym (moves number n (entries_of number xs) m after at.tag (tag_is number n xs k at))

-- the entry at a place goes to another element
pub given_in : {H : Type 0} (xs items : List (FormatEntry H)) (k : ℕ) → items ≡ xs → (x : FormatEntry H) (h : H)
    (tag : Tag) → x ≡ slice_index_or items k x → x ≡ Element h tag → (to : H) (entry : FormatEntry H)
    (front back : List (FormatEntry H)) → xs ≡ front ++ entry ∷ back → length front ≡ k →
    slice_set items k (Element to tag) ≡ front ++ given_entry to entry ∷ back
given_in xs items k view x h tag value is to entry front back split counted =
    ap (λ v. slice_set v k (Element to tag)) (view ∙ split)
    ∙ set_at front entry back (Element to tag) k counted
    ∙ ap (λ e. front ++ given_entry to e ∷ back) (sym is ∙ value
    ∙ ap (λ v. slice_index_or v k x) (view ∙ split) ∙ get_or_at front entry back x k counted)

pub marker_stays : {H : Type 0} (xs items : List (FormatEntry H)) (k : ℕ) → items ≡ xs → (x : FormatEntry H) →
    x ≡ slice_index_or items k x → x ≡ Marker → (to : H) (entry : FormatEntry H)
    (front back : List (FormatEntry H)) → xs ≡ front ++ entry ∷ back → length front ≡ k →
    slice_set items k x ≡ front ++ given_entry to entry ∷ back
marker_stays xs items k view x value is to entry front back split counted =
    let e = sym is ∙ value ∙ ap (λ v. slice_index_or v k x) (view ∙ split) ∙ get_or_at front entry back x k counted in
    ap (λ v. slice_set v k x) (view ∙ split) ∙ set_at front entry back x k counted
    ∙ ap (λ v. front ++ v ∷ back) is ∙ ap (λ v. front ++ given_entry to v ∷ back) e
