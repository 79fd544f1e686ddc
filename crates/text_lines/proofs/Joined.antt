-- Elements stay joined where texts and markers are added at their end.
use Rattle.std.proofs.Common.{◌≡◌, ◌≢◌, ◌+◌, ◌-◌, [], ◌∷◌, ◌++◌, ◌∙◌, List, ap, append_assoc, arith, drop, get_or}
use Rattle.std.proofs.Common.{length, refl, set, subst, suc, sym, take, ℕ}
use Rattle.std.specs.Prelude.{if◌then◌else◌, Err, IsSomeAnd, None, Ok, OnErr, OnOk, Option, Result, Some, chars, is_ok}
use Rattle.std.specs.Prelude.{slice_get, string_bytes}
use Rattle.text_lines.specs.declared.tagged_string.TaggedString.{TaggedString}
use Rattle.text_lines.specs.declared.tagged_string.TaggedLineElement.{TaggedLineElement}
use Rattle.text_lines.specs.declared.tagged_string.TaggedLineElement.TheVariants.{Str, FragmentStart}
use Rattle.text_lines.specs.Elements.{AreJoined, BeginsWithTag, CopiesAll, EndsWithTag, Extends, HasTag, Item}
use Rattle.text_lines.specs.Elements.{MeetWithTag, element_items, element_text, elements_items, tagged}
use Rattle.text_lines.proofs.Joins.{elements_items-append, last_split, last_set}

ends_later : {T S : Type 0} (seen : T → S) (tag : S) (e f : TaggedLineElement T) (es : List (TaggedLineElement T))
    → EndsWithTag seen tag (f ∷ es) → EndsWithTag seen tag (e ∷ f ∷ es)
ends_later seen tag e f es h =
    let at : suc (suc (length es) - 1) ≡ suc (suc (length es)) - 1 = omega arith in
    subst (λ k. IsSomeAnd (slice_get (e ∷ f ∷ es) k) (HasTag seen tag)) at h

-- ---- a new element at the end

text_pushed : {T S : Type 0} (seen : T → S) (es : List (TaggedLineElement T)) (new : TaggedString T) → AreJoined seen es
    → ¬ EndsWithTag seen (seen new.tag) es → string_bytes new.s ≢ [] → AreJoined seen (es ++ Str new ∷ [])
text_pushed seen [] new joined ends some = (some, λ b. b, tt)
text_pushed seen (Str s ∷ []) new joined ends some = (joined.0, λ same. ends (sym same), (some, λ b. b, tt))
text_pushed seen (Str s ∷ f ∷ es) new joined ends some = (
  joined.0,
  joined.1,
  text_pushed seen (f ∷ es) new joined.2
      (λ h. ends (ends_later seen (seen new.tag) (Str s) f es h)) some,
)
text_pushed seen (FragmentStart n ∷ []) new joined ends some = (some, λ b. b, tt)
text_pushed seen (FragmentStart n ∷ f ∷ es) new joined ends some =
    text_pushed seen (f ∷ es) new joined (λ h. ends (ends_later seen (seen new.tag) (FragmentStart n) f es h)) some

pub text_joined : {T S : Type 0} (seen : T → S) (es all : List (TaggedLineElement T)) (new : TaggedString T)
    (text : List ℕ) (tag : S) → all ≡ es ++ Str new ∷ [] → string_bytes new.s ≡ text → seen new.tag ≡ tag
    → AreJoined seen es → text ≢ []
    → ¬ EndsWithTag seen tag es → AreJoined seen all
text_joined seen es all new text tag pushed same same_tag joined some ends =
    subst (AreJoined seen) (sym pushed) (text_pushed seen es new joined
    (λ h. ends (subst (λ t. EndsWithTag seen t es) same_tag h)) (λ none. some (sym same ∙ none)))

pub marker_pushed : {T S : Type 0} (seen : T → S) (es : List (TaggedLineElement T)) (name : _) → AreJoined seen es
    → AreJoined seen (es ++ FragmentStart name ∷ [])
marker_pushed seen [] name joined = tt
marker_pushed seen (Str s ∷ []) name joined = (joined.0, λ b. b, tt)
marker_pushed seen (Str s ∷ f ∷ es) name joined = (joined.0, joined.1, marker_pushed seen (f ∷ es) name joined.2)
marker_pushed seen (FragmentStart n ∷ es) name joined = marker_pushed seen es name joined

-- ---- more text in the last element

no_front : {A : Type 0} (xs ys : List A) → xs ++ ys ≡ [] → xs ≡ []
no_front [] ys h = refl
no_front (x ∷ xs) ys h = cc

same_tag : {T S : Type 0} (seen : T → S) (tag : S) (e f : TaggedLineElement T) (text : List ℕ) → Extends e f text
    → HasTag seen tag f → HasTag seen tag e
same_tag seen tag (Str a) (Str b) text extends h = ap seen (sym extends.1) ∙ h
same_tag seen tag (Str a) (FragmentStart b) text extends h = absurd h
same_tag seen tag (FragmentStart a) (Str b) text extends h = absurd extends
same_tag seen tag (FragmentStart a) (FragmentStart b) text extends h = h

alone : {T S : Type 0} (seen : T → S) (e f : TaggedLineElement T) (text : List ℕ) → Extends e f text
    → AreJoined seen (e ∷ []) → AreJoined seen (f ∷ [])
alone seen (Str a) (Str b) text extends joined =
    (λ none. joined.0 (no_front (string_bytes a.s) text (sym extends.0 ∙ none)), λ h. h, tt)
alone seen (Str a) (FragmentStart b) text extends joined = absurd extends
alone seen (FragmentStart a) (Str b) text extends joined = absurd extends
alone seen (FragmentStart a) (FragmentStart b) text extends joined = tt

last_changed : {T S : Type 0} (seen : T → S) (front : List (TaggedLineElement T)) (e f : TaggedLineElement T)
    (text : List ℕ) → Extends e f text → AreJoined seen (front ++ e ∷ []) → AreJoined seen (front ++ f ∷ [])
last_changed seen [] e f text extends joined = alone seen e f text extends joined
last_changed seen (Str s ∷ []) e f text extends joined =
    (joined.0, λ h. joined.1 (same_tag seen (seen s.tag) e f text extends h), alone seen e f text extends joined.2)
last_changed seen (Str s ∷ x ∷ front) e f text extends joined =
    (joined.0, joined.1, last_changed seen (x ∷ front) e f text extends joined.2)
last_changed seen (FragmentStart n ∷ front) e f text extends joined = last_changed seen front e f text extends joined

pub last_extends : {T S : Type 0} (seen : T → S) (es : List (TaggedLineElement T)) (i : ℕ) (e f : TaggedLineElement T)
    (text : List ℕ) → i + 1 ≡ length es → e ≡ get_or es i e → Extends e f text → AreJoined seen es
    → AreJoined seen (set es i f)
last_extends seen es i e f text last read extends joined =
    let split = last_split es i e last ∙ ap (λ x. take i es ++ x ∷ []) (sym read) in
    subst (AreJoined seen) (sym (last_set es i f last)) (last_changed seen (take i es) e f text extends
    (subst (AreJoined seen) split joined))

pub last_joined : {T S E : Type 0} (seen : T → S) (es : List (TaggedLineElement T)) (i : ℕ) (e f : TaggedLineElement T)
    (text : List ℕ) (r : Result (Unit {0}) E) → i + 1 ≡ length es → e ≡ get_or es i e → OnOk r (Extends e f text)
    → OnErr r (Extends e f [])
    → AreJoined seen es → AreJoined seen (set es i f)
last_joined seen es i e f text (Ok _) last read ok err joined = last_extends seen es i e f text last read ok joined
last_joined seen es i e f text (Err _) last read ok err joined = last_extends seen es i e f [] last read err joined

-- ---- a step that may be refused

pub either_joined : {T S E : Type 0} (seen : T → S) (old new : List (TaggedLineElement T)) (P Q : Type 0)
    (r : Result (Unit {0}) E) → OnOk r (AreJoined seen old → P → Q → AreJoined seen new) → OnErr r (new ≡ old) → P → Q
    → AreJoined seen old → AreJoined seen new
either_joined seen old new P Q (Ok _) ok err p q joined = ok joined p q
either_joined seen old new P Q (Err _) ok err p q joined = subst (AreJoined seen) (sym err) joined

-- ---- other joined elements after

meets : {T S : Type 0} (seen : T → S) (s : TaggedString T) (fs : List (TaggedLineElement T))
    → BeginsWithTag seen (seen s.tag) fs → MeetWithTag seen (Str s ∷ []) fs
meets seen s [] begins = begins
meets seen s (Str t ∷ fs) begins = sym begins
meets seen s (FragmentStart n ∷ fs) begins = begins

meets_later : {T S : Type 0} (seen : T → S) (e f : TaggedLineElement T) (es fs : List (TaggedLineElement T))
    → MeetWithTag seen (f ∷ es) fs → MeetWithTag seen (e ∷ f ∷ es) fs
meets_later seen e f es [] meet = meet
meets_later seen e f es (Str t ∷ fs) meet = ends_later seen (seen t.tag) e f es meet
meets_later seen e f es (FragmentStart n ∷ fs) meet = meet

pub both_joined : {T S : Type 0} (seen : T → S) (es fs : List (TaggedLineElement T)) → AreJoined seen es
    → AreJoined seen fs → ¬ MeetWithTag seen es fs → AreJoined seen (es ++ fs)
both_joined seen [] fs first second apart = second
both_joined seen (Str s ∷ []) fs first second apart = (first.0, λ begins. apart (meets seen s fs begins), second)
both_joined seen (Str s ∷ f ∷ es) fs first second apart = (
  first.0,
  first.1,
  both_joined seen (f ∷ es) fs first.2 second
      (λ meet. apart (meets_later seen (Str s) f es fs meet)),
)
both_joined seen (FragmentStart n ∷ []) fs first second apart = second
both_joined seen (FragmentStart n ∷ f ∷ es) fs first second apart =
    both_joined seen (f ∷ es) fs first second (λ meet. apart (meets_later seen (FragmentStart n) f es fs meet))

-- one element has one tag
one_tag : {T S : Type 0} (seen : T → S) (a b : S) (o : Option (TaggedLineElement T)) → IsSomeAnd o (HasTag seen a)
    → IsSomeAnd o (HasTag seen b) → a ≡ b
one_tag seen a b None first second = absurd first
one_tag seen a b (Some (Str s)) first second = sym first ∙ second
one_tag seen a b (Some (FragmentStart n)) first second = absurd first

meets_twice : {T S : Type 0} (seen : T → S) (tag : S) (es fs : List (TaggedLineElement T)) → EndsWithTag seen tag es
    → MeetWithTag seen es fs → BeginsWithTag seen tag fs
meets_twice seen tag es [] ends meet = meet
meets_twice seen tag es (Str t ∷ fs) ends meet = one_tag seen (seen t.tag) tag (slice_get es (length es - 1)) meet ends
meets_twice seen tag es (FragmentStart n ∷ fs) ends meet = meet

still_meets : {T S : Type 0} (seen : T → S) (es new fs : List (TaggedLineElement T))
    → ((t : S) → EndsWithTag seen t new → EndsWithTag seen t es) → MeetWithTag seen new fs → MeetWithTag seen es fs
still_meets seen es new [] ends meet = meet
still_meets seen es new (Str t ∷ fs) ends meet = ends (seen t.tag) meet
still_meets seen es new (FragmentStart n ∷ fs) ends meet = meet

pub same_meeting : {T S : Type 0} (seen : T → S) (es xs fs ys : List (TaggedLineElement T)) → xs ≡ es → ys ≡ fs
    → (MeetWithTag seen xs ys → MeetWithTag seen es fs) × (MeetWithTag seen es fs → MeetWithTag seen xs ys)
same_meeting seen es xs fs ys first second = (
  λ meet. subst (λ zs. MeetWithTag seen zs fs) first (subst (MeetWithTag seen xs) second meet),
  λ meet. subst (λ zs. MeetWithTag seen zs ys) (sym first) (subst (MeetWithTag seen es) (sym second) meet),
)

-- the first is taken into the last
pub first_joined : {T S : Type 0} (seen : T → S) (es new fs rest : List (TaggedLineElement T)) → MeetWithTag seen es fs
    → ((t : S) → EndsWithTag seen t new → EndsWithTag seen t es) → rest ≡ take 0 fs ++ drop (0 + 1) fs
    → AreJoined seen new → AreJoined seen fs
    → AreJoined seen (new ++ rest)
first_joined seen es new [] rest meet ends same first second = absurd meet
first_joined seen es new (Str s ∷ fs) rest meet ends same first second =
    let apart : ¬ MeetWithTag seen new fs = λ again. second.1 (meets_twice seen (seen s.tag) es fs meet
    (still_meets seen es new fs ends again)) in
    subst (λ xs. AreJoined seen (new ++ xs)) (sym same) (both_joined seen new fs first second.2 apart)
first_joined seen es new (FragmentStart n ∷ fs) rest meet ends same first second = absurd meet

pub first_items : {T S : Type 0} (seen : T → S) (es fs rest : List (TaggedLineElement T)) (e : TaggedLineElement T)
    (text : List ℕ) (items : List (Item S)) → MeetWithTag seen es fs
    → ((t : S) → EndsWithTag seen t es → items ≡ elements_items seen es ++ tagged (chars text) t) → e ≡ get_or fs 0 e
    → text ≡ element_text e → rest ≡ take 0 fs ++ drop (0 + 1) fs
    → items ++ elements_items seen rest ≡ elements_items seen es ++ elements_items seen fs
first_items seen es [] rest e text items meet added read text_is same = absurd meet
first_items seen es (Str s ∷ fs) rest e text items meet added read text_is same =
    ap (λ xs. items ++ elements_items seen xs) same ∙ ap (λ xs. xs ++ elements_items seen fs) (added (seen s.tag) meet)
    ∙ ap (λ bytes. (elements_items seen es ++ tagged (chars bytes) (seen s.tag)) ++ elements_items seen fs)
    (text_is ∙ ap element_text read)
    ∙ append_assoc (elements_items seen es) (element_items seen (Str s)) (elements_items seen fs)
first_items seen es (FragmentStart n ∷ fs) rest e text items meet added read text_is same = absurd meet

pub appended : {T S E : Type 0} (seen : T → S) (es room front copies rest others new : List (TaggedLineElement T))
    (r : Result (Unit {0}) E) → new ≡ (if is_ok r then front ++ rest else front)
    → elements_items seen front ++ elements_items seen rest ≡ elements_items seen room ++ elements_items seen copies
    → room ≡ es → elements_items seen copies ≡ elements_items seen others
    → OnOk r (elements_items seen new ≡ elements_items seen es ++ elements_items seen others)
appended seen es room front copies rest others new (Ok _) all joined reserved copied =
    ap (elements_items seen) all ∙ elements_items-append seen front rest ∙ joined
    ∙ ap (λ xs. elements_items seen xs ++ elements_items seen copies) reserved
    ∙ ap (λ items. elements_items seen es ++ items) copied
appended seen es room front copies rest others new (Err _) all joined reserved copied = tt

-- ---- copies

copy_begins : {T S : Type 0} (seen : T → S) (tag : S) (es fs : List (TaggedLineElement T)) → CopiesAll seen es fs
    → BeginsWithTag seen tag fs → BeginsWithTag seen tag es
copy_begins seen tag [] [] copies begins = begins
copy_begins seen tag [] (f ∷ fs) copies begins = absurd copies
copy_begins seen tag (e ∷ es) [] copies begins = absurd begins
copy_begins seen tag (Str a ∷ es) (Str b ∷ fs) copies begins = sym copies.0.1 ∙ begins
copy_begins seen tag (Str a ∷ es) (FragmentStart b ∷ fs) copies begins = absurd begins
copy_begins seen tag (FragmentStart a ∷ es) (Str b ∷ fs) copies begins = absurd copies.0
copy_begins seen tag (FragmentStart a ∷ es) (FragmentStart b ∷ fs) copies begins = begins

pub copies_joined : {T S : Type 0} (seen : T → S) (es fs : List (TaggedLineElement T)) → CopiesAll seen es fs
    → AreJoined seen es → AreJoined seen fs
copies_joined seen [] [] copies joined = tt
copies_joined seen [] (f ∷ fs) copies joined = absurd copies
copies_joined seen (e ∷ es) [] copies joined = absurd copies
copies_joined seen (Str a ∷ es) (Str b ∷ fs) copies joined = (
  λ none. joined.0 (sym copies.0.0 ∙ none),
  λ begins. joined.1 (copy_begins seen (seen a.tag) es fs copies.1
      (subst (λ t. BeginsWithTag seen t fs) copies.0.1 begins)),
  copies_joined seen es fs copies.1 joined.2,
)
copies_joined seen (Str a ∷ es) (FragmentStart b ∷ fs) copies joined = absurd copies.0
copies_joined seen (FragmentStart a ∷ es) (Str b ∷ fs) copies joined = absurd copies.0
copies_joined seen (FragmentStart a ∷ es) (FragmentStart b ∷ fs) copies joined = copies_joined seen es fs copies.1
    joined
