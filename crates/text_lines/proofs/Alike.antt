-- What is found equal is seen alike, and joined elements that are seen alike are found equal.
use Rattle.std.proofs.Common.{◌≡◌, ◌≢◌, ◌&&◌, [], ◌∷◌, ◌++◌, ◌∙◌, Bool, Global, List, String, ap, ap₂, eq-eqb, false}
use Rattle.std.proofs.Common.{nat_eq, refl, subst, sym, true, ℕ}
use Rattle.std.specs.Prelude.{chars, string_bytes}
use Rattle.std.specs.Bool.{Decides}
use Rattle.std.specs.Str.{IsUtf8, bytes_eq}
use Rattle.std.proofs.lemmas.Bool.{and_parts, false≢true}
use Rattle.std.proofs.lemmas.Slice.Eq.{bytes_eq-Decides}
use Rattle.std.proofs.lemmas.Str.{encodes-chars, IsUtf8-string_bytes}
use Rattle.text_lines.specs.declared.tagged_string.TaggedString.{TaggedString}
use Rattle.text_lines.specs.declared.tagged_string.TaggedLineElement.{TaggedLineElement}
use Rattle.text_lines.specs.declared.tagged_string.TaggedLineElement.TheVariants.{Str, FragmentStart}
use Rattle.text_lines.specs.Columns.{text_columns}
use Rattle.text_lines.specs.Elements.{AreJoined, BeginsWithTag, Item, character, element_items, elements_items}
use Rattle.text_lines.specs.Elements.{elements_text, marker, tagged}
use Rattle.text_lines.specs.Equality.{AreSameStrings, AreSameElements}
use Rattle.text_lines.proofs.Emptiness.{chars_nil}
use Rattle.text_lines.proofs.Joins.{same_columns}
use lib.Pointwise.{pointwise}
use lib.Utf8.{encodes}

same_bytes : (xs ys : List ℕ) → IsUtf8 xs → IsUtf8 ys → chars xs ≡ chars ys → xs ≡ ys
same_bytes xs ys first second same = sym (encodes-chars xs first) ∙ ap encodes same ∙ encodes-chars ys second

both_true : (a b : Bool) → a ≡ true → b ≡ true → (a && b) ≡ true
both_true a b p q = ap₂ (λ x y. x && y) p q

-- ---- elements of which two are alike

-- one by one
abbrev pub AreAllSame : {T S : Type 0} → (T → S) → List (TaggedLineElement T) → List (TaggedLineElement T) → Type 0
AreAllSame seen [] [] = Unit {0}
AreAllSame seen [] (f ∷ fs) = ⊥
AreAllSame seen (e ∷ es) [] = ⊥
AreAllSame seen (e ∷ es) (f ∷ fs) = AreSameElements seen e f × AreAllSame seen es fs

same_items : {T S : Type 0} (seen : T → S) (e f : TaggedLineElement T) → AreSameElements seen e f
    → element_items seen e ≡ element_items seen f
same_items seen (Str a) (Str b) h = ap₂ (λ cs tag. tagged cs tag) h.0 h.1
same_items seen (Str a) (FragmentStart b) h = absurd h
same_items seen (FragmentStart a) (Str b) h = absurd h
same_items seen (FragmentStart a) (FragmentStart b) h = ap (λ name. marker name ∷ []) h

pub all_same_items : {T S : Type 0} (seen : T → S) (es fs : List (TaggedLineElement T)) → AreAllSame seen es fs
    → elements_items seen es ≡ elements_items seen fs
all_same_items seen [] [] h = refl
all_same_items seen [] (f ∷ fs) h = absurd h
all_same_items seen (e ∷ es) [] h = absurd h
all_same_items seen (e ∷ es) (f ∷ fs) h = ap₂ (λ front rest. front ++ rest) (same_items seen e f h.0)
    (all_same_items seen es fs h.1)

-- ---- joined elements with the same items

-- the first item is a character with the tag
abbrev BeginsWith : {S : Type 0} → S → List (Item S) → Type 0
BeginsWith tag [] = ⊥
BeginsWith tag (character c t ∷ items) = t ≡ tag
BeginsWith tag (marker name ∷ items) = ⊥

same_rest : {S : Type 0} (tag : S) (cs ds : List ℕ) (xs ys : List (Item S)) → tagged cs tag ++ xs ≡ tagged ds tag ++ ys
    → ¬ BeginsWith tag xs → ¬ BeginsWith tag ys → (cs ≡ ds) × (xs ≡ ys)
same_rest tag [] [] xs ys same first second = (refl, same)
same_rest tag [] (d ∷ ds) xs ys same first second = absurd (first (subst (BeginsWith tag) (sym same) refl))
same_rest tag (c ∷ cs) [] xs ys same first second = absurd (second (subst (BeginsWith tag) same refl))
same_rest tag (c ∷ cs) (d ∷ ds) xs ys same first second =
    let code : c ≡ d = cc in
    let rest : tagged cs tag ++ xs ≡ tagged ds tag ++ ys = cc in
    let more = same_rest tag cs ds xs ys rest first second in
    (ap₂ (λ x zs. x ∷ zs) code more.0, more.1)

same_tag : {S : Type 0} (t u : S) (cs ds : List ℕ) (xs ys : List (Item S)) → cs ≢ [] → ds ≢ []
    → tagged cs t ++ xs ≡ tagged ds u ++ ys → t ≡ u
same_tag t u [] ds xs ys some other same = absurd (some refl)
same_tag t u (c ∷ cs) [] xs ys some other same = absurd (other refl)
same_tag t u (c ∷ cs) (d ∷ ds) xs ys some other same = cc

same_runs : {S : Type 0} (t u : S) (cs ds : List ℕ) (xs ys : List (Item S)) → t ≡ u
    → tagged cs t ++ xs ≡ tagged ds u ++ ys → ¬ BeginsWith t xs → ¬ BeginsWith u ys → (cs ≡ ds) × (xs ≡ ys)
same_runs t u cs ds xs ys tag same first second =
    same_rest u cs ds xs ys (subst (λ v. tagged cs v ++ xs ≡ tagged ds u ++ ys) tag same)
    (subst (λ v. ¬ BeginsWith v xs) tag first) second

run_is_no_marker : {S : Type 0} (t : S) (cs name : List ℕ) (xs ys : List (Item S)) → cs ≢ []
    → tagged cs t ++ xs ≡ marker name ∷ ys → ⊥
run_is_no_marker t [] name xs ys some same = some refl
run_is_no_marker t (c ∷ cs) name xs ys some same = cc

run_begins : {S : Type 0} (t tag : S) (cs : List ℕ) (xs : List (Item S)) → cs ≢ [] → BeginsWith tag (tagged cs t ++ xs)
    → t ≡ tag
run_begins t tag [] xs some begins = absurd (some refl)
run_begins t tag (c ∷ cs) xs some begins = begins

some_chars : (s : String Global) → string_bytes s ≢ [] → chars (string_bytes s) ≢ []
some_chars s some none = some (chars_nil (string_bytes s) (IsUtf8-string_bytes s) none)

items_begin : {T S : Type 0} (seen : T → S) (tag : S) (es : List (TaggedLineElement T)) → AreJoined seen es
    → BeginsWith tag (elements_items seen es) → BeginsWithTag seen tag es
items_begin seen tag [] joined begins = begins
items_begin seen tag (Str s ∷ es) joined begins = run_begins (seen s.tag) tag (chars (string_bytes s.s))
    (elements_items seen es) (some_chars s.s joined.0) begins
items_begin seen tag (FragmentStart n ∷ es) joined begins = absurd begins

no_items : {S : Type 0} (t : S) (cs : List ℕ) (xs : List (Item S)) → cs ≢ [] → tagged cs t ++ xs ≡ [] → ⊥
no_items t [] xs some none = some refl
no_items t (c ∷ cs) xs some none = cc

joined_items : {T S : Type 0} (seen : T → S) (e : TaggedLineElement T) (es : List (TaggedLineElement T))
    → AreJoined seen (e ∷ es) → elements_items seen (e ∷ es) ≡ [] → ⊥
joined_items seen (Str s) es joined none = no_items (seen s.tag) (chars (string_bytes s.s)) (elements_items seen es)
    (some_chars s.s joined.0) none
joined_items seen (FragmentStart n) es joined none = cc

same_markers : {S : Type 0} (m n : List ℕ) (xs ys : List (Item S)) → (marker m ∷ xs) ≡ (marker n ∷ ys)
    → (m ≡ n) × (xs ≡ ys)
same_markers m n xs ys same =
    let name : m ≡ n = cc in
    let rest : xs ≡ ys = cc in
    (name, rest)

pub all_same : {T S : Type 0} (seen : T → S) (es fs : List (TaggedLineElement T)) → AreJoined seen es
    → AreJoined seen fs → elements_items seen es ≡ elements_items seen fs → AreAllSame seen es fs
all_same seen [] [] first second same = tt
all_same seen [] (f ∷ fs) first second same = joined_items seen f fs second (sym same)
all_same seen (e ∷ es) [] first second same = joined_items seen e es first same
all_same seen (Str s ∷ es) (Str t ∷ fs) first second same =
    let xs = elements_items seen es in
    let ys = elements_items seen fs in
    let tag = same_tag (seen s.tag) (seen t.tag) (chars (string_bytes s.s)) (chars (string_bytes t.s)) xs ys
    (some_chars s.s first.0) (some_chars t.s second.0) same in
    let runs = same_runs (seen s.tag) (seen t.tag) (chars (string_bytes s.s)) (chars (string_bytes t.s)) xs ys tag same
    (λ begins. first.1 (items_begin seen (seen s.tag) es first.2 begins))
    (λ begins. second.1 (items_begin seen (seen t.tag) fs second.2 begins)) in
    ((runs.0, tag), all_same seen es fs first.2 second.2 runs.1)
all_same seen (Str s ∷ es) (FragmentStart n ∷ fs) first second same =
    absurd (run_is_no_marker (seen s.tag) (chars (string_bytes s.s)) (chars (string_bytes n)) (elements_items seen es)
    (elements_items seen fs) (some_chars s.s first.0) same)
all_same seen (FragmentStart n ∷ es) (Str t ∷ fs) first second same =
    absurd (run_is_no_marker (seen t.tag) (chars (string_bytes t.s)) (chars (string_bytes n)) (elements_items seen fs)
    (elements_items seen es) (some_chars t.s second.0) (sym same))
all_same seen (FragmentStart m ∷ es) (FragmentStart n ∷ fs) first second same =
    let parts = same_markers (chars (string_bytes m)) (chars (string_bytes n)) (elements_items seen es)
    (elements_items seen fs) same in
    (parts.0, all_same seen es fs first second parts.1)

-- ---- what the tests answer

module _ {T S : Type 0} (eq : T → T → Bool) (seen : T → S) (same : (x y : T) → eq x y ≡ true → seen x ≡ seen y)
    (apart : (x y : T) → eq x y ≡ false → seen x ≢ seen y) where
  tags_alike : (x y : T) (b : Bool) → eq x y ≡ b → seen x ≡ seen y → eq x y ≡ true
  tags_alike x y true is alike = is
  tags_alike x y false is alike = absurd (apart x y is alike)

  pub strings_alike : (a b : TaggedString T) → Decides
      (bytes_eq (string_bytes a.s) (string_bytes b.s) && eq a.tag b.tag) (AreSameStrings seen a b)
  strings_alike a b = (
    (λ e. let p = and_parts (bytes_eq (string_bytes a.s) (string_bytes b.s)) (eq a.tag b.tag) e in
        (ap chars ((bytes_eq-Decides (string_bytes a.s) (string_bytes b.s)).0 p.0), same a.tag b.tag p.1)),
    (λ h. both_true (bytes_eq (string_bytes a.s) (string_bytes b.s)) (eq a.tag b.tag)
        ((bytes_eq-Decides (string_bytes a.s) (string_bytes b.s)).1 (same_bytes (string_bytes a.s) (string_bytes b.s)
        (IsUtf8-string_bytes a.s) (IsUtf8-string_bytes b.s) h.0))
        (tags_alike a.tag b.tag (eq a.tag b.tag) refl h.1)),
  )

  -- an equality of elements that looks at texts and at names
  pub record EmitsAlike (emits : TaggedLineElement T → TaggedLineElement T → Bool) : Type 0 where
    pub texts : (a b : TaggedString T) → emits (Str a) (Str b) ≡ (bytes_eq (string_bytes a.s) (string_bytes b.s) && eq
        a.tag b.tag)
    pub text_first : (a : TaggedString T) (b : String Global) → emits (Str a) (FragmentStart b) ≡ false
    pub name_first : (a : String Global) (b : TaggedString T) → emits (FragmentStart a) (Str b) ≡ false
    pub names : (a b : String Global) → emits (FragmentStart a) (FragmentStart b) ≡ bytes_eq (string_bytes a)
        (string_bytes b)

  pub elements_alike : (emits : TaggedLineElement T → TaggedLineElement T → Bool) → EmitsAlike emits
      → (e f : TaggedLineElement T) → Decides (emits e f) (AreSameElements seen e f)
  elements_alike emits is (Str a) (Str b) =
      ((λ e. (strings_alike a b).0 (sym (is.texts a b) ∙ e)), (λ h. is.texts a b ∙ (strings_alike a b).1 h))
  elements_alike emits is (Str a) (FragmentStart b) = ((λ e. false≢true (sym (is.text_first a b) ∙ e)), (λ h. absurd h))
  elements_alike emits is (FragmentStart a) (Str b) = ((λ e. false≢true (sym (is.name_first a b) ∙ e)), (λ h. absurd h))
  elements_alike emits is (FragmentStart a) (FragmentStart b) = (
    (λ e. ap chars ((bytes_eq-Decides (string_bytes a) (string_bytes b)).0 (sym (is.names a b) ∙ e))),
    (λ h. is.names a b ∙ (bytes_eq-Decides (string_bytes a) (string_bytes b)).1
        (same_bytes (string_bytes a) (string_bytes b) (IsUtf8-string_bytes a) (IsUtf8-string_bytes b) h)),
  )

  all_alike : (emits : TaggedLineElement T → TaggedLineElement T → Bool) → EmitsAlike emits
      → (es fs : List (TaggedLineElement T)) → pointwise emits es fs ≡ true → AreAllSame seen es fs
  all_alike emits is [] [] e = tt
  all_alike emits is [] (y ∷ fs) e = absurd (false≢true e)
  all_alike emits is (x ∷ es) [] e = absurd (false≢true e)
  all_alike emits is (x ∷ es) (y ∷ fs) e =
      let p = and_parts (emits x y) (pointwise emits es fs) e in
      ((elements_alike emits is x y).0 p.0, all_alike emits is es fs p.1)

  all_emitted : (emits : TaggedLineElement T → TaggedLineElement T → Bool) → EmitsAlike emits
      → (es fs : List (TaggedLineElement T)) → AreAllSame seen es fs → pointwise emits es fs ≡ true
  all_emitted emits is [] [] h = refl
  all_emitted emits is [] (y ∷ fs) h = absurd h
  all_emitted emits is (x ∷ es) [] h = absurd h
  all_emitted emits is (x ∷ es) (y ∷ fs) h = both_true (emits x y) (pointwise emits es fs)
      ((elements_alike emits is x y).1 h.0) (all_emitted emits is es fs h.1)

  pub emitted_items : (emits : TaggedLineElement T → TaggedLineElement T → Bool) → EmitsAlike emits
      → (es fs : List (TaggedLineElement T)) (m n : ℕ) → (pointwise emits es fs && nat_eq m n) ≡ true
      → elements_items seen es ≡ elements_items seen fs
  emitted_items emits is es fs m n e = all_same_items seen es fs
      (all_alike emits is es fs (and_parts (pointwise emits es fs) (nat_eq m n) e).0)

  pub joined_emitted : (emits : TaggedLineElement T → TaggedLineElement T → Bool) → EmitsAlike emits
      → (es fs : List (TaggedLineElement T)) (m n : ℕ) → m ≡ text_columns (elements_text es)
      → n ≡ text_columns (elements_text fs)
      → AreJoined seen es → AreJoined seen fs → elements_items seen es ≡ elements_items seen fs
      → (pointwise emits es fs && nat_eq m n) ≡ true
  joined_emitted emits is es fs m n counted also first second same =
      both_true (pointwise emits es fs) (nat_eq m n) (all_emitted emits is es fs (all_same seen es fs first second same))
      (eq-eqb m n (same_columns seen es fs m (sym same) counted ∙ sym also))
