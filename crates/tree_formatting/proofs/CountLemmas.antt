-- Counts of the tags of entries, as entries come and go.
use Rattle.std.proofs.Common.{◌≡◌, ◌+◌, ◌≤◌, ◌==◌, [], ◌∷◌, ◌++◌, ◌<◌, ◌∙◌, Bool, Err, List, None, Ok, Option, Result}
use Rattle.std.proofs.Common.{Some, ap, arith, cond, count_by, drop, false, length, refl, slice_index_or, slice_set}
use Rattle.std.proofs.Common.{subst, suc, sym, take, true, zero, ℕ}
use Rattle.std.specs.Prelude.{IfOk}
use Rattle.std.specs.List.{insert, remove}
use Rattle.std.proofs.lemmas.Bool.{cond-true, cond-false, eq-eqb}
use Rattle.std.proofs.lemmas.List.{append-nil, take-append-drop}
use Rattle.std.proofs.lemmas.Slice.Eq.{bytes_eq-Decides}
use Rattle.std.proofs.lemmas.List.Sums.{sum_by-append, sum_by-cons}
use Rattle.html_lexemes.specs.declared.token.Tag.{Tag}
use Rattle.tree_formatting.specs.Alike.{are_alike, count_alike, is_alike}
use Rattle.tree_formatting.specs.Counted.{Covers, IsCounted, tags_of}
use Rattle.tree_formatting.specs.declared.counted.TagCounts.{TagCounts}
use Rattle.tree_formatting.specs.Entries.{Entry, before_marker, entries_of, formatted, is_named, last_named, marker}
use Rattle.tree_formatting.specs.Entries.{up_to_marker}
use Rattle.tree_formatting.specs.Prints.{name_print, tag_print}
use Rattle.tree_formatting.specs.declared.entry.FormatEntry.{FormatEntry}
use Rattle.tree_formatting.specs.declared.entry.FormatEntry.TheVariants.{Element, Marker}
use Rattle.tree_formatting.proofs.EntryLemmas.{entries_of-cons, entries_of-push}
use Rattle.tree_formatting.proofs.PlaceLemmas.{split_at}

count-append : {A : Type 0} (p : A → Bool) (xs ys : List A) →
    count_by p (xs ++ ys) ≡ count_by p xs + count_by p ys
count-append p xs ys = sum_by-append (λ x. cond (p x) 1 0) xs ys

count-cons : {A : Type 0} (p : A → Bool) (x : A) (xs : List A) → count_by p (x ∷ xs) ≡ cond (p x) 1 0 + count_by p xs
count-cons p x xs = sum_by-cons (λ y. cond (p y) 1 0) x xs

count-around : {A : Type 0} (p : A → Bool) (xs : List A) (x : A) (ys : List A) →
    count_by p (xs ++ x ∷ ys) ≡ cond (p x) 1 0 + count_by p (xs ++ ys)
count-around p xs x ys = omega (arith, count-append p xs (x ∷ ys), count-cons p x ys, count-append p xs ys)

-- what has the print in common is no more than is counted
count_within : {A : Type 0} (p q : A → Bool) (xs : List A) → ((x : A) → p x ≡ true → q x ≡ true) →
    count_by p xs ≤ count_by q xs
count_within p q [] same = omega arith
count_within {A} p q (x ∷ xs) same =
    omega (arith, count-cons p x xs, count-cons q x xs, count_within p q xs same, one (p x) (q x) (same x)) where
      one : (a b : Bool) → (a ≡ true → b ≡ true) → ◌≤◌ (cond a 1 0) (cond b 1 0)
      one true b f = let e : ◌≡◌ {A = ℕ} (cond b 1 0) 1 = cond-true b 1 0 (f refl) in omega (arith, e)
      one false b f = omega arith

pub at_most : (p : Tag → Bool) (print_of : Tag → ℕ) (print : ℕ) (tags : List Tag) (counts : ℕ → ℕ) →
    ((t : Tag) → p t ≡ true → print_of t ≡ print) → Covers print_of tags counts → count_by p tags ≤ counts print
at_most p print_of print tags counts same covers =
    omega (
      arith,
      count_within p (λ t. print_of t == print) tags (λ t e. eq-eqb (print_of t) print (same t e)),
      covers print,
    )

-- the tags of entries, as these change
pub tags_of-append : {H : Type 0} (xs ys : List (FormatEntry H)) → tags_of (xs ++ ys) ≡ tags_of xs ++ tags_of ys
tags_of-append [] ys = refl
tags_of-append (Marker ∷ xs) ys = tags_of-append xs ys
tags_of-append (Element h tag ∷ xs) ys = ap (λ v. tag ∷ v) (tags_of-append xs ys)

pub tags_of-marker : {H : Type 0} (xs : List (FormatEntry H)) → tags_of (xs ++ Marker ∷ []) ≡ tags_of xs
tags_of-marker [] = refl
tags_of-marker (Marker ∷ xs) = tags_of-marker xs
tags_of-marker (Element h tag ∷ xs) = ap (λ v. tag ∷ v) (tags_of-marker xs)

pub tags_set : {H : Type 0} (xs : List (FormatEntry H)) (k : ℕ) (x : FormatEntry H) (h : H) (tag : Tag) →
    x ≡ slice_index_or xs k x → x ≡ Element h tag → (to : H) →
    tags_of (slice_set xs k (Element to tag)) ≡ tags_of xs
tags_set [] k x h tag value is to = refl
tags_set {H} (y ∷ xs) zero x h tag value is to = here y (sym value ∙ is) where
  here : (z : FormatEntry H) → z ≡ Element h tag → tags_of (Element to tag ∷ xs) ≡ tags_of (z ∷ xs)
  here Marker e = cc
  here (Element g t) e = ap (λ v. v ∷ tags_of xs) (let s : tag ≡ t = cc in s)
tags_set (Marker ∷ xs) (suc k) x h tag value is to = tags_set xs k x h tag value is to
tags_set (Element g t ∷ xs) (suc k) x h tag value is to = ap (λ v. t ∷ v) (tags_set xs k x h tag value is to)

pub counted_same : (counts : TagCounts) (held now : List Tag) → now ≡ held → IsCounted held counts →
    IsCounted now counts
counted_same counts held now same counted =
    let P : List Tag → Type 0 = λ v. IsCounted v counts in subst P (sym same) counted

-- an entry is taken off
module _ {H : Type 0} (xs : List (FormatEntry H)) (k : ℕ) (x : FormatEntry H) (within : k < length xs)
    (value : x ≡ slice_index_or xs k x) where
  parted : xs ≡ take k xs ++ x ∷ drop (suc k) xs
  parted = split_at xs k x within ∙ ap (λ v. take k xs ++ v ∷ drop (suc k) xs) (sym value)

  removed_tags : tags_of (remove xs k) ≡ tags_of (take k xs) ++ tags_of (drop (suc k) xs)
  removed_tags = tags_of-append (take k xs) (drop (suc k) xs)

  whole_tags : (h : H) (tag : Tag) → x ≡ Element h tag →
      tags_of xs ≡ tags_of (take k xs) ++ tag ∷ tags_of (drop (suc k) xs)
  whole_tags h tag is = ap tags_of (parted ∙ ap (λ v. take k xs ++ v ∷ drop (suc k) xs) is)
      ∙ tags_of-append (take k xs) (Element h tag ∷ drop (suc k) xs)

  pub taken_off : (h : H) (tag : Tag) → x ≡ Element h tag → (old new : TagCounts) →
      ((front back : List Tag) → IsCounted (front ++ tag ∷ back) old → IsCounted (front ++ back) new) →
      (ys : List (FormatEntry H)) → ys ≡ remove xs k → IsCounted (tags_of xs) old → IsCounted (tags_of ys) new
  taken_off h tag is old new less ys removed counted =
      counted_same new _ _ (ap tags_of removed ∙ removed_tags)
      (less (tags_of (take k xs)) (tags_of (drop (suc k) xs))
      (counted_same old _ _ (sym (whole_tags h tag is)) counted))

  pub marker_off : x ≡ Marker → (ys : List (FormatEntry H)) → ys ≡ remove xs k → tags_of ys ≡ tags_of xs
  marker_off is ys removed = ap tags_of removed ∙ removed_tags
      ∙ sym (tags_of-append (take k xs) (Marker ∷ drop (suc k) xs))
      ∙ ap tags_of (sym (parted ∙ ap (λ v. take k xs ++ v ∷ drop (suc k) xs) is))

  count_moved : (p : Tag → Bool) (h to : H) (tag : Tag) → x ≡ Element h tag → (ys : List (FormatEntry H)) →
      ys ≡ remove xs k → (j : ℕ) → count_by p (tags_of (insert ys j (Element to tag))) ≡ count_by p (tags_of xs)
  count_moved p h to tag is ys removed j =
      ap (count_by p) (tags_of-append (take j ys) (Element to tag ∷ drop j ys))
      ∙ count-around p (tags_of (take j ys)) tag (tags_of (drop j ys))
      ∙ ap (λ v. cond (p tag) 1 0 + count_by p v) (sym (tags_of-append (take j ys) (drop j ys))
      ∙ ap tags_of (take-append-drop j ys ∙ removed) ∙ removed_tags)
      ∙ sym (count-around p (tags_of (take k xs)) tag (tags_of (drop (suc k) xs)))
      ∙ ap (count_by p) (sym (whole_tags h tag is))

  -- and put back with its tag
  pub moved_counted : (h to : H) (tag : Tag) → x ≡ Element h tag → (counts : TagCounts) →
      (ys : List (FormatEntry H)) → ys ≡ remove xs k → (j : ℕ) (zs : List (FormatEntry H)) →
      zs ≡ insert ys j (Element to tag) → IsCounted (tags_of xs) counts → IsCounted (tags_of zs) counts
  moved_counted h to tag is counts ys removed j zs put counted = counted_same counts _ _ (ap tags_of put) (record {
    names = λ print. omega (
      arith,
      counted.names print,
      count_moved (λ t. name_print t.name == print) h to tag is ys removed j,
    );
    tags = λ print. omega (
      arith,
      counted.tags print,
      count_moved (λ t. tag_print t == print) h to tag is ys removed j,
    );
  })

-- no tag has a name
named_more : (b : Bool) (n : ℕ) (u v : Option ℕ) → (u ≡ None → v ≡ None) → cond b (Some n) u ≡ None →
    cond b (Some n) v ≡ None
named_more true n u v f e = cc
named_more false n u v f e = f e

named_push : (name : List ℕ) (es : List Entry) (e : Entry) → last_named name (e ∷ []) ≡ None →
    last_named name es ≡ None → last_named name (es ++ e ∷ []) ≡ None
named_push name [] e one none = one
named_push name (marker ∷ es) e one none = refl
named_push name (formatted n tag ∷ es) e one none = named_more (is_named name tag) n (last_named name es)
    (last_named name (es ++ e ∷ [])) (λ u. named_push name es e one u) none

none_counts : (b : Bool) (n : ℕ) → cond b 1 0 + n ≡ 0 → b ≡ false
none_counts true n e = absurd (omega (arith, e))
none_counts false n e = refl

pub named_none : {H : Type 0} (number : H → ℕ) (name : List ℕ) (xs : List (FormatEntry H)) →
    count_by (is_named name) (tags_of xs) ≡ 0 → last_named name (entries_of number xs) ≡ None
named_none number name [] none = refl
named_none number name (Marker ∷ xs) none = ap (last_named name) (entries_of-cons number Marker xs)
    ∙ named_push name (entries_of number xs) marker refl (named_none number name xs none)
named_none number name (Element h t ∷ xs) none =
    let more = count-cons (is_named name) t (tags_of xs) in
    ap (last_named name) (entries_of-cons number (Element h t) xs)
    ∙ named_push name (entries_of number xs) (formatted (number h) t)
    (cond-false (is_named name t) _ _ (none_counts (is_named name t) _ (sym more ∙ none)))
    (named_none number name xs (omega (arith, none, more)))

-- alike after the last marker are at most those that are alike
alike_after : (tag : Tag) (es : List Entry) → count_alike tag (up_to_marker es) ≤ count_alike tag es
alike_after tag [] = omega arith
alike_after tag (marker ∷ es) = omega arith
alike_after tag (formatted n held ∷ es) = omega (
  arith,
  alike_after tag es,
  count-cons (is_alike tag) (formatted n held) (up_to_marker es),
  count-cons (is_alike tag) (formatted n held) es,
)

alike_tags : {H : Type 0} (number : H → ℕ) (tag : Tag) (ys : List (FormatEntry H)) →
    count_alike tag (entries_of number ys) ≡ count_by (λ held. are_alike held tag) (tags_of ys)
alike_tags number tag [] = refl
alike_tags number tag (Marker ∷ ys) = ap (count_alike tag) (entries_of-cons number Marker ys)
    ∙ count-append (is_alike tag) (entries_of number ys) (marker ∷ [])
    ∙ omega (arith, alike_tags number tag ys, count-cons (is_alike tag) marker [])
alike_tags number tag (Element h held ∷ ys) = ap (count_alike tag) (entries_of-cons number (Element h held) ys)
    ∙ count-append (is_alike tag) (entries_of number ys) (formatted (number h) held ∷ [])
    ∙ omega (
      arith,
      alike_tags number tag ys,
      count-cons (is_alike tag) (formatted (number h) held) [],
      count-cons (λ t. are_alike t tag) held (tags_of ys),
    )

pub alike_within : {H : Type 0} (number : H → ℕ) (tag : Tag) (xs : List (FormatEntry H)) (most : ℕ) →
    count_by (λ held. are_alike held tag) (tags_of xs) ≤ most →
    count_alike tag (up_to_marker (entries_of number xs)) ≤ most
alike_within number tag xs most within =
    omega (arith, within, alike_after tag (entries_of number xs), alike_tags number tag xs)

pub at_most_in : (p : Tag → Bool) (print_of : Tag → ℕ) (print : ℕ) (tags : List Tag) (counts : ℕ → ℕ) →
    ((t : Tag) → p t ≡ true → print_of t ≡ print) → Covers print_of tags counts → (most : ℕ) → most ≡ counts print →
    count_by p tags ≤ most
at_most_in p print_of print tags counts same covers most is =
    omega (arith, at_most p print_of print tags counts same covers, is)

pub named_print : (name : List ℕ) (tag : Tag) → is_named name tag ≡ true → name_print tag.name ≡ name_print name
named_print name tag e = ap name_print ((bytes_eq-Decides tag.name name).0 e)

-- the last entry is taken off
pub last_off : {H : Type 0} (old new : TagCounts) (xs ys : List (FormatEntry H)) (h : H) (tag : Tag) →
    xs ≡ ys ++ Element h tag ∷ [] →
    ((front back : List Tag) → IsCounted (front ++ tag ∷ back) old → IsCounted (front ++ back) new) →
    IsCounted (tags_of xs) old → IsCounted (tags_of ys) new
last_off old new xs ys h tag split less counted = counted_same new _ _ (sym (append-nil (tags_of ys)))
    (less (tags_of ys) [] (counted_same old _ _
    (sym (ap tags_of split ∙ tags_of-append ys (Element h tag ∷ []))) counted))

pub popped : {H : Type 0} (number : H → ℕ) (xs ys : List (FormatEntry H)) (h : H) (tag : Tag) →
    xs ≡ ys ++ Element h tag ∷ [] → before_marker (entries_of number ys) ≡ before_marker (entries_of number xs)
popped number xs ys h tag split = sym (ap (λ v. before_marker (entries_of number v)) split
    ∙ ap before_marker (entries_of-push number ys (Element h tag)))

-- the entry that was counted is not put after the others
pub fewer_counted : (counts : TagCounts) (held : List Tag) (tag : Tag) → IsCounted (held ++ tag ∷ []) counts →
    IsCounted held counts
fewer_counted counts held tag counted = record {
  names = λ print. omega (arith, counted.names print, count-append (λ t. name_print t.name == print) held (tag ∷ []));
  tags = λ print. omega (arith, counted.tags print, count-append (λ t. tag_print t == print) held (tag ∷ []));
}

pub pushed_counted : {H : Type 0} (counts : TagCounts) (xs ys : List (FormatEntry H)) (h : H) (tag : Tag) →
    ys ≡ xs ++ Element h tag ∷ [] → IsCounted (tags_of xs ++ tag ∷ []) counts → IsCounted (tags_of ys) counts
pushed_counted counts xs ys h tag put counted =
    counted_same counts _ _ (ap tags_of put ∙ tags_of-append xs (Element h tag ∷ [])) counted

pub if_ok_map : {A E : Type 0} {P Q : A → Type 0} (r : Result A E) → IfOk r P → ((a : A) → P a → Q a) → IfOk r Q
if_ok_map (Ok a) p f = f a p
if_ok_map (Err e) p f = tt
