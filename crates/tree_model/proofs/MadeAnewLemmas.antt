-- Elements of the list of active formatting elements that are made anew.
use Rattle.std.proofs.Common.{◌≡◌, ◌+◌, ◌-◌, ◌<◌, ◌≤◌, ◌⊎◌, ◌∙◌, [], ◌∷◌, ◌++◌, Bool, List, ap, ap₂, arith, cond, drop}
use Rattle.std.proofs.Common.{false, inl, inr, length, map, refl, reverse, slice_index_or, subst, suc, sym, take, true}
use Rattle.std.proofs.Common.{zero, ℕ}
use Rattle.std.proofs.lemmas.Bool.{cond-false, cond-true}
use Rattle.std.proofs.lemmas.List.{append_assoc, length-append, length-reverse, map-append, reverse-append, take_more}
use Rattle.std.proofs.Math.Seq.{drop-append_seam, take-append_seam}
use Rattle.tree_formatting.specs.Alike.{AreFew}
use Rattle.tree_formatting.specs.Entries.{Entry, entries_of, entry_of, formatted, given, marker}
use Rattle.tree_formatting.specs.declared.entry.FormatEntry.{FormatEntry}
use Rattle.tree_formatting.specs.declared.entry.FormatEntry.TheVariants.{Element, Marker}
use Rattle.tree_forest.specs.Forest.{nodes}
use Rattle.tree_forest.specs.Sinks.{SinkView}
use Rattle.tree_names.specs.Sets.{is_one_of}
use Rattle.tree_names.specs.TagSets.{formatting}
use Rattle.html_lexemes.specs.declared.token.Tag.{Tag}
use Rattle.tree_model.specs.Building.{Building, Parts, seen}
use Rattle.tree_model.specs.Formatting.{all_made_anew, inserted_for, is_kept, made_already, made_anew, made_from}
use Rattle.tree_model.specs.Formatting.{reconstructed, to_make}
use Rattle.tree_model.specs.Insertions.{here}
use Rattle.tree_model.specs.Laws.{Laws}
use Rattle.tree_model.specs.Sound.{IsFormatting, IsListed, Sound}
use Rattle.tree_model.proofs.ListedAfter.{listed_on}
use Rattle.tree_model.proofs.ListedLemmas.{inserted_for_sound, new_formatting}
use Rattle.tree_model.proofs.SeenLemmas.{seen_listed}
use Rattle.tree_model.proofs.SoundLemmas.{either}

-- where the list is cut
made_cut : (later earlier : List Entry) (index : ℕ) (b : Building) → b.formatting ≡ later ++ earlier →
    length earlier ≡ index → made_from index b ≡ all_made_anew later (record b { formatting = earlier })
made_cut later earlier index b cut counted =
    let e : length b.formatting - index ≡ length later
    = omega (arith, ap length cut, length-append later earlier, counted) in
    ap₂ (λ (left : ℕ) (es : List Entry). all_made_anew (take left es) (record b { formatting = drop left es })) e cut
    ∙ ap₂ (λ (xs ys : List Entry). all_made_anew xs (record b { formatting = ys })) (take-append_seam later earlier)
    (drop-append_seam later earlier)

-- which are to be made
pub made_and_kept : (stack : List ℕ) (es : List Entry) → es ≡ to_make stack es ++ made_already stack es
made_and_kept stack [] = refl
made_and_kept stack (e ∷ es) = step (is_kept stack e) (made_and_kept stack es) where
  step : (t : Bool) → es ≡ to_make stack es ++ made_already stack es →
      e ∷ es ≡ cond t [] (e ∷ to_make stack es) ++ cond t (e ∷ es) (made_already stack es)
  step true rest = refl
  step false rest = ap (λ (v : List Entry). e ∷ v) rest

pub made_from_first : (b : Building) (index : ℕ) → index ≡ length (made_already b.stack b.formatting) →
    made_from index b ≡ reconstructed b
made_from_first b index is = made_cut (to_make b.stack b.formatting) (made_already b.stack b.formatting) index b
    (made_and_kept b.stack b.formatting) (sym is)

pub made_from_end : (b : Building) (index : ℕ) → length b.formatting ≤ index → made_from index b ≡ b
made_from_end b index within =
    let e : length b.formatting - index ≡ 0 = omega arith in
    ap (λ (left : ℕ). all_made_anew (take left b.formatting) (record b { formatting = drop left b.formatting })) e

-- the earliest comes first
made_first : (later : List Entry) (e : Entry) (b : Building) →
    all_made_anew (later ++ e ∷ []) b ≡ all_made_anew later (made_anew e b)
made_first [] e b = refl
made_first (x ∷ later) e b = ap (made_anew x) (made_first later e b)

made_next : (later earlier : List Entry) (e : Entry) (index : ℕ) (b : Building) →
    b.formatting ≡ later ++ e ∷ earlier → length earlier ≡ index →
    made_from index b ≡ all_made_anew later (made_anew e (record b { formatting = earlier }))
made_next later earlier e index b cut counted =
    made_cut (later ++ e ∷ []) earlier index b (cut ∙ sym (append_assoc later (e ∷ []) earlier)) counted
    ∙ made_first later e (record b { formatting = earlier })

-- an entry goes to a new element
abbrev pub renewed : List Entry → Tag → List Entry → Building → Building
renewed later tag earlier b =
    record (inserted_for tag b) { formatting = later ++ formatted (nodes b.forest) tag ∷ earlier }

pub renewed_from : (later earlier : List Entry) (n : ℕ) (tag : Tag) (index : ℕ) (b : Building) →
    b.formatting ≡ later ++ formatted n tag ∷ earlier → length earlier ≡ index →
    made_from (index + 1) (renewed later tag earlier b) ≡ made_from index b
renewed_from later earlier n tag index b cut counted =
    made_cut later (formatted (nodes b.forest) tag ∷ earlier) (index + 1) (renewed later tag earlier b) refl
    (omega (arith, counted))
    ∙ sym (made_next later earlier (formatted n tag) index b cut counted)

pub marker_from : (later earlier : List Entry) (index : ℕ) (b : Building) → b.formatting ≡ later ++ marker ∷ earlier →
    length earlier ≡ index → made_from (index + 1) b ≡ made_from index b
marker_from later earlier index b cut counted =
    made_cut later (marker ∷ earlier) (index + 1) b cut (omega (arith, counted))
    ∙ sym (made_next later earlier marker index b cut counted)

listed_renewed : (k n m : ℕ) (held tag : Tag) (later earlier : List Entry) →
    IsListed k held (later ++ formatted m tag ∷ earlier) →
    IsListed k held (later ++ formatted n tag ∷ earlier) ⊎ ((k ≡ m) × (held ≡ tag))
listed_renewed k n m held tag [] earlier l = either (λ h. inr h) (λ i. inl (inr i)) l
listed_renewed k n m held tag (e ∷ later) earlier l = listed_on k held ((k ≡ m) × (held ≡ tag)) e
    (later ++ formatted m tag ∷ earlier) (later ++ formatted n tag ∷ earlier)
    (listed_renewed k n m held tag later earlier) l

listed_there : (n : ℕ) (tag : Tag) (later earlier : List Entry) → IsListed n tag (later ++ formatted n tag ∷ earlier)
listed_there n tag [] earlier = inl (refl, refl)
listed_there n tag (marker ∷ later) earlier = listed_there n tag later earlier
listed_there n tag (formatted m held ∷ later) earlier = inr (listed_there n tag later earlier)

pub renewed_sound : (laws : Laws) (later earlier : List Entry) (n : ℕ) (tag : Tag) (b : Building) →
    b.formatting ≡ later ++ formatted n tag ∷ earlier → Sound b → Sound (renewed later tag earlier b)
renewed_sound laws later earlier n tag b cut sound =
    let m = nodes b.forest in
    let inserted = inserted_for_sound laws tag b sound in
    let is : is_one_of formatting tag.name ≡ true
    = (sound.listed n tag (subst (IsListed n tag) (sym cut) (listed_there n tag later earlier))).kind in
    record {
      forest = inserted.forest;
      elements = inserted.elements;
      distinct = inserted.distinct;
      ordered = inserted.ordered;
      templates = inserted.templates;
      listed = λ k held l. either
          (λ old. inserted.listed k held (subst (IsListed k held) (sym cut) old))
          (λ new. subst (λ x. IsFormatting x held (inserted_for tag b).forest) (sym new.0)
          (subst (λ t. IsFormatting m t (inserted_for tag b).forest) (sym new.1)
          (new_formatting laws (here b) tag b is)))
          (listed_renewed k n m held tag later earlier l);
      few = laws.few_given n m tag later earlier (subst AreFew cut sound.few);
      counted = sound.counted;
    }

-- what is in memory
entries_around : {H : Type 0} (number : H → ℕ) (xs : List (FormatEntry H)) (x : FormatEntry H)
    (ys : List (FormatEntry H)) →
    entries_of number (xs ++ x ∷ ys) ≡ entries_of number ys ++ entry_of number x ∷ entries_of number xs
entries_around number xs x ys = ap reverse (map-append (entry_of number) xs (x ∷ ys))
    ∙ reverse-append (map (entry_of number) xs) (map (entry_of number) (x ∷ ys))
    ∙ ap (λ v. v ++ entries_of number xs)
    (reverse-append (entry_of number x ∷ []) (map (entry_of number) ys))
    ∙ append_assoc (entries_of number ys) (entry_of number x ∷ []) (entries_of number xs)

length_map : {A B : Type 0} (f : A → B) (xs : List A) → length (map f xs) ≡ length xs
length_map f [] = refl
length_map f (x ∷ xs) = ap suc (length_map f xs)

pub as_many : {H : Type 0} (number : H → ℕ) (xs : List (FormatEntry H)) → length (entries_of number xs) ≡ length xs
as_many number xs = length-reverse (map (entry_of number) xs) ∙ length_map (entry_of number) xs

split_at : {A : Type 0} (xs : List A) (k : ℕ) (d : A) → k < length xs →
    xs ≡ take k xs ++ slice_index_or xs k d ∷ drop (suc k) xs
split_at [] k d h = absurd (omega arith)
split_at (x ∷ xs) zero d h = refl
split_at (x ∷ xs) (suc k) d h = ap (λ v. x ∷ v) (split_at xs k d (omega arith))

length_front : {A : Type 0} (xs : List A) (k : ℕ) → k ≤ length xs → length (take k xs) ≡ k
length_front xs zero h = refl
length_front [] (suc k) h = absurd (omega arith)
length_front (x ∷ xs) (suc k) h = ap suc (length_front xs k (omega arith))

-- the entry that has so many before it, in memory and as it is seen
pub record IsCut {H : Type 0} (number : H → ℕ) (index : ℕ) (x : FormatEntry H) (xs : List (FormatEntry H))
    : Type 0 where
  pub front : List (FormatEntry H)
  pub back : List (FormatEntry H)
  pub split : xs ≡ front ++ x ∷ back
  pub counted : length front ≡ index
  pub cut : entries_of number xs ≡ entries_of number back ++ entry_of number x ∷ entries_of number front
  pub earlier : length (entries_of number front) ≡ index

pub cut_at : {H : Type 0} (number : H → ℕ) (index : ℕ) (x : FormatEntry H) (xs : List (FormatEntry H)) →
    index < length xs → x ≡ slice_index_or xs index x → IsCut number index x xs
cut_at number index x xs within read =
    let split : xs ≡ take index xs ++ x ∷ drop (suc index) xs = split_at xs index x within
    ∙ ap (λ v. take index xs ++ v ∷ drop (suc index) xs) (sym read) in
    let counted = length_front xs index (omega arith) in
    record {
      front = take index xs;
      back = drop (suc index) xs;
      split = split;
      counted = counted;
      cut = ap (entries_of number) split ∙ entries_around number (take index xs) x (drop (suc index) xs);
      earlier = as_many number (take index xs) ∙ counted;
    }

same_ends : {A : Type 0} (xs ys : List A) (a b : A) (us vs : List A) → length us ≡ length vs →
    xs ++ a ∷ us ≡ ys ++ b ∷ vs → (xs ≡ ys) × (a ≡ b) × (us ≡ vs)
same_ends [] [] a b us vs size e = (refl, cc, cc)
same_ends [] (y ∷ ys) a b us vs size e =
    absurd (omega (arith, size, ap length e, length-append ys (b ∷ vs)))
same_ends (x ∷ xs) [] a b us vs size e =
    absurd (omega (arith, size, ap length e, length-append xs (a ∷ us)))
same_ends (x ∷ xs) (y ∷ ys) a b us vs size e =
    let tails : xs ++ a ∷ us ≡ ys ++ b ∷ vs = cc in
    let heads : x ≡ y = cc in
    let rest = same_ends xs ys a b us vs size tails in
    (ap₂ (λ v w. v ∷ w) heads rest.0, rest.1, rest.2)

-- the entry's element is made, after which the same is seen, and the entry is given to it
given_entry : {H : Type 0} (number : H → ℕ) (to : H) (e : FormatEntry H) (n : ℕ) (tag : Tag) →
    entry_of number e ≡ formatted n tag → entry_of number (given to e) ≡ formatted (number to) tag
given_entry number to Marker n tag is = absurd (cc)
given_entry number to (Element h held) n tag is = cc

pub given_seen : {H : Type 0} (number : H → ℕ) (index : ℕ) (xs ys zs : List (FormatEntry H)) (x : FormatEntry H)
    (h to : H) (tag : Tag) → (at : IsCut number index x xs) → x ≡ Element h tag → index < length xs →
    entries_of number ys ≡ entries_of number xs →
    ((entry : FormatEntry H) (front back : List (FormatEntry H)) → ys ≡ front ++ entry ∷ back →
    length front ≡ index → zs ≡ front ++ given to entry ∷ back) →
    entries_of number zs
    ≡ entries_of number at.back ++ formatted (number to) tag ∷ entries_of number at.front
given_seen number index xs ys zs x h to tag at is within same given_is =
    let size : length ys ≡ length xs = sym (as_many number ys) ∙ ap length same ∙ as_many number xs in
    let y = slice_index_or ys index x in
    let there = split_at ys index x (omega (arith, size, within)) in
    let counted = length_front ys index (omega (arith, size, within)) in
    let front = take index ys in
    let back = drop (suc index) ys in
    let ends = same_ends (entries_of number back) (entries_of number at.back) (entry_of number y)
    (formatted (number h) tag) (entries_of number front) (entries_of number at.front)
    (as_many number front ∙ counted ∙ sym at.earlier)
    (sym (entries_around number front y back) ∙ ap (entries_of number) (sym there) ∙ same ∙ at.cut
    ∙ ap (λ e. entries_of number at.back ++ entry_of number e ∷ entries_of number at.front) is) in
    ap (entries_of number) (given_is y front back there counted)
    ∙ entries_around number front (given to y) back
    ∙ ap₂ (λ v e. v ++ e ∷ entries_of number front) ends.0 (given_entry number to y (number h) tag ends.1)
    ∙ ap (λ v. entries_of number at.back ++ formatted (number to) tag ∷ v) ends.2

-- the walk from the end
pub entries_more : {H : Type 0} (number : H → ℕ) (xs : List (FormatEntry H)) (m : ℕ) (x : FormatEntry H) → 0 < m →
    m ≤ length xs → x ≡ slice_index_or xs (m - 1) x →
    entries_of number (take m xs) ≡ entry_of number x ∷ entries_of number (take (m - 1) xs)
entries_more number xs m x some within read =
    let e : m ≡ m - 1 + 1 = omega arith in
    ap (λ v. entries_of number (take v xs)) e
    ∙ ap (entries_of number) (take_more xs (m - 1) x (omega arith) ∙ ap (λ v. take (m - 1) xs ++ v ∷ []) (sym read))
    ∙ entries_around number (take (m - 1) xs) x []

pub kept_here : (stack : List ℕ) (e : Entry) (es : List Entry) → is_kept stack e ≡ true →
    made_already stack (e ∷ es) ≡ e ∷ es
kept_here stack e es is = cond-true (is_kept stack e) _ _ is

pub kept_before : (stack : List ℕ) (e : Entry) (es : List Entry) → is_kept stack e ≡ false →
    made_already stack (e ∷ es) ≡ made_already stack es
kept_before stack e es isnt = cond-false (is_kept stack e) _ _ isnt

pub kept_length : {H : Type 0} (number : H → ℕ) (stack : List ℕ) (xs : List (FormatEntry H)) (m : ℕ)
    (x : FormatEntry H) → 0 < m → m ≤ length xs → x ≡ slice_index_or xs (m - 1) x →
    is_kept stack (entry_of number x) ≡ true → m ≡ length (made_already stack (entries_of number (take m xs)))
kept_length number stack xs m x some within read is =
    sym (as_many number (take m xs) ∙ length_front xs m within)
    ∙ ap length (entries_more number xs m x some within read
    ∙ sym (kept_here stack (entry_of number x) (entries_of number (take (m - 1) xs)) is)
    ∙ ap (made_already stack) (sym (entries_more number xs m x some within read)))

-- what is seen after a step
pub record IsMadeAnew {H S : Type 0} (view : SinkView S H) (index : ℕ)
    (p o : Parts H) (s t : S) : Type 0 where
  pub made : made_from (index + 1) (seen view p s) ≡ made_from index (seen view o t)
  pub size : length p.entries ≡ length o.entries
  pub sound : Sound (seen view p s)

pub made_marker : {H S : Type 0} (view : SinkView S H) (index : ℕ)
    (o : Parts H) (t : S) (x : FormatEntry H) → index < length o.entries → x ≡ slice_index_or o.entries index x →
    x ≡ Marker →
    made_from (index + 1) (seen view o t) ≡ made_from index (seen view o t)
made_marker view index o t x within read is =
    let at = cut_at view.number index x o.entries within read in
    marker_from (entries_of view.number at.back) (entries_of view.number at.front) index (seen view o t)
    (at.cut ∙ ap (λ e. entries_of view.number at.back ++ entry_of view.number e ∷ entries_of view.number at.front) is)
    at.earlier

pub made_element : {H S : Type 0} (view : SinkView S H) (index : ℕ)
    (p q o : Parts H) (s t : S) (x : FormatEntry H) (h to : H) (tag copy : Tag) → Laws →
    Sound (seen view o t) → index < length o.entries → x ≡ slice_index_or o.entries index x →
    x ≡ Element h tag → copy ≡ tag →
    seen view q s ≡ inserted_for copy (seen view o t) → view.number to ≡ nodes (view.forest t) →
    p.open_elements ≡ q.open_elements →
    ((entry : FormatEntry H) (front back : List (FormatEntry H)) → q.entries ≡ front ++ entry ∷ back →
    length front ≡ index → p.entries ≡ front ++ given to entry ∷ back) →
    p.is_fostering ≡ q.is_fostering → p.counts ≡ q.counts → IsMadeAnew view index p o s t
made_element view index p q o s t x h to tag copy laws sound within read is same_tag was new open_is
    entries_are fostering_is counts_are =
    let b : Building = seen view o t in
    let at = cut_at view.number index x o.entries within read in
    let later = entries_of view.number at.back in
    let earlier = entries_of view.number at.front in
    let cut : entries_of view.number o.entries ≡ later ++ formatted (view.number h) tag ∷ earlier
    = at.cut ∙ ap (λ e. later ++ entry_of view.number e ∷ earlier) is in
    let entries : entries_of view.number p.entries ≡ later ++ formatted (nodes (view.forest t)) tag ∷ earlier
    = given_seen view.number index o.entries q.entries p.entries x h to tag at is within
    (ap (λ (y : Building). y.formatting) was) entries_are
    ∙ ap (λ (m : ℕ). later ++ formatted m tag ∷ earlier) new in
    let whole : seen view p s ≡ renewed later tag earlier b
    = seen_listed view p q s (inserted_for tag b)
    (later ++ formatted (nodes (view.forest t)) tag ∷ earlier) open_is entries fostering_is counts_are
    (was ∙ ap (λ (v : Tag). inserted_for v b) same_tag) in
    record {
      made = ap (made_from (index + 1)) whole
          ∙ renewed_from later earlier (view.number h) tag index b cut at.earlier;
      size = omega (
        arith,
        as_many view.number p.entries,
        as_many view.number o.entries,
        ap length entries,
        ap length cut,
        length-append later (formatted (nodes (view.forest t)) tag ∷ earlier),
        length-append later (formatted (view.number h) tag ∷ earlier),
      );
      sound = subst Sound (sym whole) (renewed_sound laws later earlier (view.number h) tag b cut sound);
    }

pub all_made : {H S : Type 0} (view : SinkView S H) (index : ℕ)
    (p : Parts H) (s : S) → length p.entries ≤ index →
    made_from index (seen view p s) ≡ seen view p s
all_made view index p s within =
    made_from_end (seen view p s) index (omega (arith, as_many view.number p.entries, within))
