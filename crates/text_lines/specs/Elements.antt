-- What contracts see of the elements of a line: characters with their tags, and markers, in order.
use Rattle.std.specs.Prelude.{◌≡◌, ◌≢◌, ◌-◌, [], ◌∷◌, ◌++◌, IsSomeAnd, List, chars, length, map, slice_get}
use Rattle.std.specs.Prelude.{string_bytes, ℕ}
use Rattle.text_lines.specs.declared.tagged_string.TaggedString.{TaggedString}
use Rattle.text_lines.specs.declared.tagged_string.TaggedLineElement.{TaggedLineElement}
use Rattle.text_lines.specs.declared.tagged_string.TaggedLineElement.TheVariants.{Str, FragmentStart}

-- a character as a code point, with its tag; or a marker, with the name of the fragment that starts there
pub data Item (S : Type 0) : Type 0 where
  character : ℕ → S → Item S
  marker : List ℕ → Item S

-- an item under another tag
abbrev pub reitem : {A B : Type 0} → (A → B) → Item A → Item B
reitem f (character c tag) = character c (f tag)
reitem f (marker name) = marker name

-- a text, each character with the tag
abbrev pub tagged : {S : Type 0} → List ℕ → S → List (Item S)
tagged cs tag = map (λ c. character c tag) cs

-- the characters alone
abbrev pub characters : {S : Type 0} → List (Item S) → List ℕ
characters [] = []
characters (character c tag ∷ rest) = c ∷ characters rest
characters (marker name ∷ rest) = characters rest

-- the items of an element, where seen is what contracts see of its tag
abbrev pub element_items : {T S : Type 0} → (T → S) → TaggedLineElement T → List (Item S)
element_items seen (Str string) = tagged (chars (string_bytes string.s)) (seen string.tag)
element_items seen (FragmentStart name) = marker (chars (string_bytes name)) ∷ []

abbrev pub elements_items : {T S : Type 0} → (T → S) → List (TaggedLineElement T) → List (Item S)
elements_items seen [] = []
elements_items seen (e ∷ es) = element_items seen e ++ elements_items seen es

-- the bytes of an element's text, none for a marker
abbrev pub element_text : {T : Type 0} → TaggedLineElement T → List ℕ
element_text (Str string) = string_bytes string.s
element_text (FragmentStart name) = []

-- the characters of the elements' texts
abbrev pub elements_text : {T : Type 0} → List (TaggedLineElement T) → List ℕ
elements_text [] = []
elements_text (e ∷ es) = chars (element_text e) ++ elements_text es

-- the texts with their tags
abbrev pub elements_strings : {T : Type 0} → List (TaggedLineElement T) → List (TaggedString T)
elements_strings [] = []
elements_strings (Str string ∷ es) = string ∷ elements_strings es
elements_strings (FragmentStart name ∷ es) = elements_strings es

-- a text with the tag
abbrev pub HasTag : {T S : Type 0} → (T → S) → S → TaggedLineElement T → Type 0
HasTag seen tag (Str string) = seen string.tag ≡ tag
HasTag seen tag (FragmentStart name) = ⊥

-- the last element is a text with the tag
abbrev pub EndsWithTag : {T S : Type 0} → (T → S) → S → List (TaggedLineElement T) → Type 0
EndsWithTag seen tag es = IsSomeAnd (slice_get es (length es - 1)) (HasTag seen tag)

-- the first element is a text with the tag
abbrev pub BeginsWithTag : {T S : Type 0} → (T → S) → S → List (TaggedLineElement T) → Type 0
BeginsWithTag seen tag [] = ⊥
BeginsWithTag seen tag (e ∷ es) = HasTag seen tag e

-- the last of some elements and the first of others are texts with one tag
abbrev pub MeetWithTag : {T S : Type 0} → (T → S) → List (TaggedLineElement T) → List (TaggedLineElement T) → Type 0
MeetWithTag seen es [] = ⊥
MeetWithTag seen es (Str string ∷ fs) = EndsWithTag seen (seen string.tag) es
MeetWithTag seen es (FragmentStart name ∷ fs) = ⊥

-- no text is empty, and none stands next to a text with an equal tag
abbrev pub AreJoined : {T S : Type 0} → (T → S) → List (TaggedLineElement T) → Type 0
AreJoined seen [] = Unit {0}
AreJoined seen (Str string ∷ es) = (string_bytes string.s ≢ []) × (¬ BeginsWithTag seen (seen string.tag) es)
    × AreJoined seen es
AreJoined seen (FragmentStart name ∷ es) = AreJoined seen es

-- the element with the text added at its end
abbrev pub Extends : {T : Type 0} → TaggedLineElement T → TaggedLineElement T → List ℕ → Type 0
Extends (Str old) (Str new) text = (string_bytes new.s ≡ string_bytes old.s ++ text) × (new.tag ≡ old.tag)
Extends (Str old) (FragmentStart new) text = ⊥
Extends (FragmentStart old) (Str new) text = ⊥
Extends (FragmentStart old) (FragmentStart new) text = new ≡ old

-- one text
abbrev pub IsOnlyText : {T : Type 0} → List (TaggedLineElement T) → Type 0
IsOnlyText (Str string ∷ []) = Unit {0}
IsOnlyText _ = ⊥

-- the element with the text added in front of its own
abbrev pub Precedes : {T : Type 0} → TaggedLineElement T → TaggedLineElement T → List ℕ → Type 0
Precedes (Str old) (Str new) text = (string_bytes new.s ≡ text ++ string_bytes old.s) × (new.tag ≡ old.tag)
Precedes (Str old) (FragmentStart new) text = ⊥
Precedes (FragmentStart old) (Str new) text = ⊥
Precedes (FragmentStart old) (FragmentStart new) text = new ≡ old

-- neither text nor a marker
abbrev pub IsEmpty : {T : Type 0} → TaggedLineElement T → Type 0
IsEmpty (Str string) = string_bytes string.s ≡ []
IsEmpty (FragmentStart name) = ⊥

-- the element with another tag, where P says which may come of a tag: a text stays, and so does a marker
abbrev pub MapsTag : {T U : Type 0} → (T → U → Type 0) → TaggedLineElement T → TaggedLineElement U → Type 0
MapsTag P (Str old) (Str new) = (new.s ≡ old.s) × P old.tag new.tag
MapsTag P (Str old) (FragmentStart new) = ⊥
MapsTag P (FragmentStart old) (Str new) = ⊥
MapsTag P (FragmentStart old) (FragmentStart new) = new ≡ old

-- the elements with other tags, one by one
abbrev pub MapsTags : {T U : Type 0} → (T → U → Type 0) → List (TaggedLineElement T) → List (TaggedLineElement U)
    → Type 0
MapsTags P [] [] = Unit {0}
MapsTags P [] (f ∷ fs) = ⊥
MapsTags P (e ∷ es) [] = ⊥
MapsTags P (e ∷ es) (f ∷ fs) = MapsTag P e f × MapsTags P es fs

-- an element with the text and the tag of another, or a marker of its name
abbrev pub Copies : {T S : Type 0} → (T → S) → TaggedLineElement T → TaggedLineElement T → Type 0
Copies seen (Str old) (Str new) = (string_bytes new.s ≡ string_bytes old.s) × (seen new.tag ≡ seen old.tag)
Copies seen (Str old) (FragmentStart new) = ⊥
Copies seen (FragmentStart old) (Str new) = ⊥
Copies seen (FragmentStart old) (FragmentStart new) = string_bytes new ≡ string_bytes old

-- copies of the elements, one by one
abbrev pub CopiesAll : {T S : Type 0} → (T → S) → List (TaggedLineElement T) → List (TaggedLineElement T) → Type 0
CopiesAll seen [] [] = Unit {0}
CopiesAll seen [] (f ∷ fs) = ⊥
CopiesAll seen (e ∷ es) [] = ⊥
CopiesAll seen (e ∷ es) (f ∷ fs) = Copies seen e f × CopiesAll seen es fs
