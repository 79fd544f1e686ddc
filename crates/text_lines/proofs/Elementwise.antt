-- Lists of elements that are made one by one from others.
use Rattle.std.proofs.Common.{◌≡◌, ◌+◌, ◌<◌, ◌≤◌, [], ◌∷◌, ◌++◌, ◌∙◌, List, ap, get_or, length, refl, subst, sym, take}
use Rattle.std.proofs.Common.{ℕ}
use Rattle.std.specs.Prelude.{chars, string_bytes}
use Rattle.std.proofs.lemmas.List.{take_more, take_all}
use Rattle.text_lines.specs.declared.tagged_string.TaggedLineElement.{TaggedLineElement}
use Rattle.text_lines.specs.declared.tagged_string.TaggedLineElement.TheVariants.{Str, FragmentStart}
use Rattle.text_lines.specs.Columns.{text_columns}
use Rattle.text_lines.specs.Elements.{Copies, CopiesAll, MapsTag, MapsTags, element_items, element_text, elements_items}
use Rattle.text_lines.specs.Elements.{elements_text, marker, tagged}

-- ---- other tags

pub MapsTags-push : {T U : Type 0} (P : T → U → Type 0) (es : List (TaggedLineElement T))
    (fs : List (TaggedLineElement U)) (e : TaggedLineElement T) (f : TaggedLineElement U) → MapsTags P es fs
    → MapsTag P e f → MapsTags P (es ++ e ∷ []) (fs ++ f ∷ [])
MapsTags-push P [] [] e f h last = (last, tt)
MapsTags-push P [] (y ∷ fs) e f h last = absurd h
MapsTags-push P (x ∷ es) [] e f h last = absurd h
MapsTags-push P (x ∷ es) (y ∷ fs) e f h last = (h.0, MapsTags-push P es fs e f h.1 last)

MapsTag-text : {T U : Type 0} (P : T → U → Type 0) (e : TaggedLineElement T) (f : TaggedLineElement U) → MapsTag P e f
    → element_text f ≡ element_text e
MapsTag-text P (Str old) (Str new) h = ap string_bytes h.0
MapsTag-text P (Str old) (FragmentStart new) h = absurd h
MapsTag-text P (FragmentStart old) (Str new) h = absurd h
MapsTag-text P (FragmentStart old) (FragmentStart new) h = refl

MapsTags-text : {T U : Type 0} (P : T → U → Type 0) (es : List (TaggedLineElement T)) (fs : List (TaggedLineElement U))
    → MapsTags P es fs → elements_text fs ≡ elements_text es
MapsTags-text P [] [] h = refl
MapsTags-text P [] (y ∷ fs) h = absurd h
MapsTags-text P (x ∷ es) [] h = absurd h
MapsTags-text P (x ∷ es) (y ∷ fs) h =
    ap (λ bs. chars bs ++ elements_text fs) (MapsTag-text P x y h.0) ∙ ap (λ rest. chars (element_text x) ++ rest)
    (MapsTags-text P es fs h.1)

pub mapped_columns : {T U : Type 0} (P : T → U → Type 0) (es : List (TaggedLineElement T))
    (fs : List (TaggedLineElement U)) (n : ℕ) → MapsTags P es fs → n ≡ text_columns (elements_text es)
    → n ≡ text_columns (elements_text fs)
mapped_columns P es fs n h counted = counted ∙ ap text_columns (sym (MapsTags-text P es fs h))

-- ---- copies

CopiesAll-push : {T S : Type 0} (seen : T → S) (es fs : List (TaggedLineElement T)) (e f : TaggedLineElement T)
    → CopiesAll seen es fs → Copies seen e f → CopiesAll seen (es ++ e ∷ []) (fs ++ f ∷ [])
CopiesAll-push seen [] [] e f h last = (last, tt)
CopiesAll-push seen [] (y ∷ fs) e f h last = absurd h
CopiesAll-push seen (x ∷ es) [] e f h last = absurd h
CopiesAll-push seen (x ∷ es) (y ∷ fs) e f h last = (h.0, CopiesAll-push seen es fs e f h.1 last)

pub CopiesAll-more : {T S : Type 0} (seen : T → S) (xs fs new : List (TaggedLineElement T)) (i : ℕ)
    (e f : TaggedLineElement T) → i < length xs → e ≡ get_or xs i e → CopiesAll seen (take i xs) fs → new ≡ fs ++ f ∷ []
    → Copies seen e f → CopiesAll seen (take (i + 1) xs) new
CopiesAll-more seen xs fs new i e f inside read so_far pushed one =
    let step = ap (λ x. take i xs ++ x ∷ []) read ∙ sym (take_more xs i e inside) in
    subst (λ ys. CopiesAll seen ys new) step (subst (CopiesAll seen (take i xs ++ e ∷ [])) (sym pushed)
    (CopiesAll-push seen (take i xs) fs e f so_far one))

Copies-items : {T S : Type 0} (seen : T → S) (e f : TaggedLineElement T) → Copies seen e f
    → element_items seen f ≡ element_items seen e
Copies-items seen (Str old) (Str new) h =
    ap (λ bs. tagged (chars bs) (seen new.tag)) h.0 ∙ ap (λ t. tagged (chars (string_bytes old.s)) t) h.1
Copies-items seen (Str old) (FragmentStart new) h = absurd h
Copies-items seen (FragmentStart old) (Str new) h = absurd h
Copies-items seen (FragmentStart old) (FragmentStart new) h = ap (λ name. marker (chars name) ∷ []) h

pub CopiesAll-items : {T S : Type 0} (seen : T → S) (es fs : List (TaggedLineElement T)) → CopiesAll seen es fs
    → elements_items seen fs ≡ elements_items seen es
CopiesAll-items seen [] [] h = refl
CopiesAll-items seen [] (y ∷ fs) h = absurd h
CopiesAll-items seen (x ∷ es) [] h = absurd h
CopiesAll-items seen (x ∷ es) (y ∷ fs) h =
    ap (λ front. front ++ elements_items seen fs) (Copies-items seen x y h.0)
    ∙ ap (λ rest. element_items seen x ++ rest) (CopiesAll-items seen es fs h.1)

pub MapsTags-more : {T U : Type 0} (P : T → U → Type 0) (es : List (TaggedLineElement T))
    (fs new : List (TaggedLineElement U)) (e : TaggedLineElement T) (f : TaggedLineElement U) → MapsTags P es fs
    → new ≡ fs ++ f ∷ [] → MapsTag P e f → MapsTags P (es ++ e ∷ []) new
MapsTags-more P es fs new e f so_far pushed one =
    subst (MapsTags P (es ++ e ∷ [])) (sym pushed) (MapsTags-push P es fs e f so_far one)

-- ---- when a copying loop is over

pub all_copied : {T S : Type 0} (seen : T → S) (xs es fs : List (TaggedLineElement T)) (i : ℕ) → xs ≡ es → length xs ≤ i
    → CopiesAll seen (take i xs) fs → CopiesAll seen es fs
all_copied seen xs es fs i same end h = subst (λ ys. CopiesAll seen ys fs) (take_all i xs end ∙ same) h
