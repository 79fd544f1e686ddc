-- Lines that are being laid, item by item.
use Rattle.std.proofs.Common.{◌≡◌, ◌<◌, ◌≤◌, ◌-◌, [], ◌∷◌, ◌++◌, ◌∙◌, Bool, List, ap, arith, false, fold, get_or}
use Rattle.std.proofs.Common.{length, refl, sym, take, true, ℕ}
use Rattle.std.specs.Prelude.{nat_le, if◌then◌else◌}
use Rattle.std.proofs.lemmas.List.{append-nil, map-append}
use Rattle.std.proofs.lemmas.List.Sums.{fold-append}
use Rattle.std.proofs.lemmas.Bool.Decides.{nat_tests}
use Rattle.text_lines.specs.Tagged.{Item, character, tagged, element_items, elements_items, line_columns}
use Rattle.text_lines.specs.declared.tagged_string.TaggedLineElement.{TaggedLineElement}
use Rattle.text_lines.proofs.Joins.{elements_items-append}
use Rattle.text_preserved.specs.Preserved.{Laying, broken_anywhere, fresh, has_text, item_columns, line_taken}
use Rattle.text_preserved.specs.Preserved.{line_text, put, remaining, with_room, without_spaces, written}
use Rattle.text_preserved.proofs.ColumnLemmas.{le_is_true}
use Rattle.text_pieces.proofs.ElementLemmas.{next_taken, all_taken}

pub put_after : {S : Type 0} (width n : ℕ) (old mid : Laying S) (line tail : List (Item S)) (item : Item S)
    → n ≡ item_columns item → mid ≡ with_room width n old → tail ≡ [] → line ≡ line_text mid ++ item ∷ []
    → record mid { line = line; tail = tail } ≡ put width old item
put_after width n old mid line tail item columns room none pushed =
    ap (λ t. record mid { line = line; tail = t }) none
    ∙ ap (λ l. record mid { line = l; tail = [] }) pushed
    ∙ ap (λ m. written m (item ∷ [])) (room ∙ ap (λ k. with_room width k old) columns)

-- ---- loops

-- the items of the elements so far, and of one more
pub items_taken : {T S Y : Type 0} (seen : T → S) (es : List (TaggedLineElement T)) (ys : List Y) (y : Y)
    (e : TaggedLineElement T) → (length ys < length es) × (e ≡ get_or es (length ys) e)
    → elements_items seen (take (length (ys ++ y ∷ [])) es)
    ≡ elements_items seen (take (length ys) es) ++ element_items seen e
items_taken seen es ys y e turn =
    ap (elements_items seen) (next_taken es ys y e turn) ∙ elements_items-append seen (take (length ys) es) (e ∷ [])
    ∙ ap (λ last. elements_items seen (take (length ys) es) ++ last) (append-nil (element_items seen e))

-- the same of characters
pub letters_taken : {S Y : Type 0} (cs : List ℕ) (ys : List Y) (y : Y) (c : ℕ) (tag : S)
    → (length ys < length cs) × (c ≡ get_or cs (length ys) c)
    → tagged (take (length (ys ++ y ∷ [])) cs) tag ≡ tagged (take (length ys) cs) tag ++ character c tag ∷ []
letters_taken cs ys y c tag turn =
    ap (λ front. tagged front tag) (next_taken cs ys y c turn)
    ∙ map-append (λ code. character code tag) (take (length ys) cs) (c ∷ [])

-- what is made of items so far, and then of others
pub folded_more : {A B : Type 0} (f : B → A → B) (old mid new : B) (xs ys all : List A) → all ≡ xs ++ ys
    → mid ≡ fold f old xs → new ≡ fold f mid ys → new ≡ fold f old all
folded_more f old mid new xs ys all whole so_far more =
    more ∙ ap (λ m. fold f m ys) so_far ∙ sym (fold-append f old xs ys) ∙ ap (fold f old) (sym whole)

pub next_letter : {S B Y : Type 0} (f : B → Item S → B) (cs : List ℕ) (ys : List Y) (y : Y) (c : ℕ) (tag : S)
    → (length ys < length cs) × (c ≡ get_or cs (length ys) c) → (old mid new : B)
    → mid ≡ fold f old (tagged (take (length ys) cs) tag) → new ≡ f mid (character c tag)
    → new ≡ fold f old (tagged (take (length (ys ++ y ∷ [])) cs) tag)
next_letter f cs ys y c tag turn old mid new so_far one =
    folded_more f old mid new (tagged (take (length ys) cs) tag) (character c tag ∷ []) _
    (letters_taken cs ys y c tag turn) so_far one

pub all_letters : {S B Y : Type 0} (f : B → Item S → B) (cs : List ℕ) (ys : List Y) (tag : S)
    → length ys ≡ length cs → (old new : B) → new ≡ fold f old (tagged (take (length ys) cs) tag)
    → new ≡ fold f old (tagged cs tag)
all_letters f cs ys tag whole old new so_far = so_far ∙ ap (λ all. fold f old (tagged all tag)) (all_taken cs ys whole)

pub next_element : {T S B Y : Type 0} (seen : T → S) (f : B → Item S → B) (es : List (TaggedLineElement T))
    (ys : List Y) (y : Y) (e : TaggedLineElement T)
    → (length ys < length es) × (e ≡ get_or es (length ys) e) → (old mid new : B)
    → mid ≡ fold f old (elements_items seen (take (length ys) es)) → new ≡ fold f mid (element_items seen e)
    → new ≡ fold f old (elements_items seen (take (length (ys ++ y ∷ [])) es))
next_element seen f es ys y e turn old mid new so_far one =
    folded_more f old mid new (elements_items seen (take (length ys) es)) (element_items seen e) _
    (items_taken seen es ys y e turn) so_far one

pub all_elements : {T S B Y : Type 0} (seen : T → S) (f : B → Item S → B) (es : List (TaggedLineElement T))
    (ys : List Y) → length ys ≡ length es → (old new : B)
    → new ≡ fold f old (elements_items seen (take (length ys) es)) → new ≡ fold f old (elements_items seen es)
all_elements seen f es ys whole old new so_far =
    so_far ∙ ap (λ all. fold f old (elements_items seen all)) (all_taken es ys whole)

-- ---- lines that are broken anywhere

lt_is_not_le : (a b : ℕ) → b < a → nat_le a b ≡ false
lt_is_not_le a b h = grind (arith, nat_tests)

if_true : {A : Type 0} (b : Bool) (x y : A) → b ≡ true → (if b then x else y) ≡ x
if_true true x y h = refl
if_true false x y h = cc

if_false : {A : Type 0} (b : Bool) (x y : A) → b ≡ false → (if b then x else y) ≡ y
if_false true x y h = cc
if_false false x y h = refl

-- a fresh line takes nothing of the white space that waits
pub fresh_spaces : {S : Type 0} (r : Laying S) → (fresh r).spaces ≡ r.spaces
fresh_spaces r = by_text (has_text (line_text r))
  where
    by_text : (t : Bool)
        → (if t then record r { done = r.done ++ line_text r ∷ []; line = []; tail = [] } else r).spaces ≡ r.spaces
    by_text true = refl
    by_text false = refl

pub fresh_without : {S : Type 0} (r : Laying S) → fresh (without_spaces r) ≡ without_spaces (fresh r)
fresh_without r = by_text (has_text (line_text r))
  where
    by_text : (t : Bool)
        → (if t then record (without_spaces r) { done = r.done ++ line_text r ∷ []; line = []; tail = [] }
        else without_spaces r)
        ≡ without_spaces (if t then record r { done = r.done ++ line_text r ∷ []; line = []; tail = [] } else r)
    by_text true = refl
    by_text false = refl

pub broken_after : {S : Type 0} (width left : ℕ) (old mid new : Laying S) → left ≡ width - line_taken old
    → line_columns old.spaces < left → mid ≡ written (without_spaces old) old.spaces → new ≡ fresh mid
    → new ≡ broken_anywhere width old
broken_after width left old mid new left_is narrow write end =
    end ∙ ap fresh write ∙ fresh_without (written old old.spaces)
    ∙ sym (if_false (nat_le (width - line_taken old) (line_columns old.spaces))
    (written (without_spaces (fresh old)) (remaining width (width - line_taken old) old.spaces))
    (without_spaces (fresh (written old old.spaces)))
    (lt_is_not_le (width - line_taken old) (line_columns old.spaces) (omega (arith, left_is, narrow))))

pub broken_within : {S : Type 0} (width left : ℕ) (old mid new : Laying S) → left ≡ width - line_taken old
    → left ≤ line_columns old.spaces → mid ≡ fresh old
    → new ≡ written (without_spaces mid) (remaining width left mid.spaces) → new ≡ broken_anywhere width old
broken_within width left old mid new left_is wide end write =
    write ∙ ap (λ m. written (without_spaces m) (remaining width left m.spaces)) end
    ∙ ap (λ spaces. written (without_spaces (fresh old)) (remaining width left spaces)) (fresh_spaces old)
    ∙ ap (λ n. written (without_spaces (fresh old)) (remaining width n old.spaces)) left_is
    ∙ sym (if_true (nat_le (width - line_taken old) (line_columns old.spaces))
    (written (without_spaces (fresh old)) (remaining width (width - line_taken old) old.spaces))
    (without_spaces (fresh (written old old.spaces)))
    (le_is_true (width - line_taken old) (line_columns old.spaces) (omega (arith, left_is, wide))))
