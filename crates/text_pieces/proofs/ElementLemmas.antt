-- What was made of a line's elements so far.
use Rattle.std.proofs.Common.{◌≡◌, ◌<◌, ◌||◌, [], ◌∷◌, ◌++◌, ◌∙◌, List, ap, append_assoc, arith, get_or, length, refl}
use Rattle.std.proofs.Common.{sym, take, ℕ}
use Rattle.std.proofs.lemmas.List.{append-nil, length_push, take_more, take_all}
use Rattle.text_lines.specs.Elements.{Item, character, marker, tagged, element_items, elements_items}
use Rattle.text_lines.specs.declared.tagged_string.TaggedLineElement.{TaggedLineElement}
use Rattle.text_pieces.specs.Items.{has_text, markers_of}

pub next_taken : {A Y : Type 0} (all : List A) (ys : List Y) (y : Y) (x : A)
    → (length ys < length all) × (x ≡ get_or all (length ys) x) → take (length (ys ++ y ∷ [])) all ≡ take
    (length ys) all ++ x ∷ []
next_taken all ys y x h = ap (λ n. take n all) (length_push ys y) ∙ take_more all (length ys) x h.0
    ∙ ap (λ e. take (length ys) all ++ e ∷ []) (sym h.1)

pub all_taken : {A Y : Type 0} (all : List A) (ys : List Y) → length ys ≡ length all → take (length ys) all ≡ all
all_taken all ys h = take_all (length ys) all (omega (arith, h))

-- ---- element by element

pub elements_items-one : {T S : Type 0} (seen : T → S) (xs : List (TaggedLineElement T)) (e : TaggedLineElement T)
    → elements_items seen (xs ++ e ∷ []) ≡ elements_items seen xs ++ element_items seen e
elements_items-one seen [] e = append-nil (element_items seen e)
elements_items-one seen (x ∷ xs) e =
    ap (λ items. element_items seen x ++ items) (elements_items-one seen xs e)
    ∙ sym (append_assoc (element_items seen x) (elements_items seen xs) (element_items seen e))

-- what was made of the elements so far, and of one more
pub next_made : {T S Y M : Type 0} (seen : T → S) (make : List (Item S) → List M)
    → ((xs ys : List (Item S)) → make (xs ++ ys) ≡ make xs ++ make ys)
    → (es : List (TaggedLineElement T)) (ys : List Y) (y : Y) (e : TaggedLineElement T)
    → (length ys < length es) × (e ≡ get_or es (length ys) e) → (old mid new : List M)
    → mid ≡ old ++ make (elements_items seen (take (length ys) es)) → new ≡ mid ++ make (element_items seen e)
    → new ≡ old ++ make (elements_items seen (take (length (ys ++ y ∷ [])) es))
next_made seen make splits es ys y e turn old mid new so_far one =
    one ∙ ap (λ m. m ++ make (element_items seen e)) so_far
    ∙ append_assoc old (make (elements_items seen (take (length ys) es))) (make (element_items seen e))
    ∙ ap (λ m. old ++ m) (sym (ap make (ap (elements_items seen) (next_taken es ys y e turn)
    ∙ elements_items-one seen (take (length ys) es) e)
    ∙ splits (elements_items seen (take (length ys) es)) (element_items seen e)))

pub all_made : {T S Y M : Type 0} (seen : T → S) (make : List (Item S) → List M) (es : List (TaggedLineElement T))
    (ys : List Y) → length ys ≡ length es → (old new : List M)
    → new ≡ old ++ make (elements_items seen (take (length ys) es)) → new ≡ old ++ make (elements_items seen es)
all_made seen make es ys whole old new so_far = so_far ∙ ap (λ xs. old ++ make (elements_items seen xs))
    (all_taken es ys whole)

pub markers_of-append : {S : Type 0} (xs ys : List (Item S)) → markers_of (xs ++ ys) ≡ markers_of xs ++ markers_of ys
markers_of-append [] ys = refl
markers_of-append (character c tag ∷ xs) ys = markers_of-append xs ys
markers_of-append (marker name ∷ xs) ys = ap (λ ns. name ∷ ns) (markers_of-append xs ys)

pub markers_of-tagged : {S : Type 0} (cs : List ℕ) (tag : S) → markers_of (tagged cs tag) ≡ []
markers_of-tagged [] tag = refl
markers_of-tagged (c ∷ cs) tag = markers_of-tagged cs tag

pub has_text-append : {S : Type 0} (xs ys : List (Item S)) → has_text (xs ++ ys) ≡ (has_text xs || has_text ys)
has_text-append [] ys = refl
has_text-append (character c tag ∷ xs) ys = refl
has_text-append (marker name ∷ xs) ys = has_text-append xs ys
