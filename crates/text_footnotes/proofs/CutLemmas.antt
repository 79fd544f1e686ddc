-- Lines that are cut, item by item.
use Rattle.std.proofs.Common.{◌≡◌, ℕ, ◌<◌, List, [], ◌∷◌, ◌++◌, fold, length, take, get_or, sym, ap, ◌∙◌, refl}
use Rattle.std.specs.Prelude.{Option, None, Some, map}
use Rattle.std.proofs.lemmas.List.{append-nil, append_assoc, map-append}
use Rattle.std.proofs.lemmas.List.Sums.{fold-append}
use Rattle.text_lines.specs.Tagged.{Item, character, tagged, element_items, elements_items}
use Rattle.text_lines.specs.declared.tagged_string.TaggedLineElement.{TaggedLineElement}
use Rattle.text_lines.proofs.Joins.{elements_items-append}
use Rattle.text_pieces.proofs.ElementLemmas.{next_taken, all_taken}
use Rattle.text_footnotes.specs.Footnotes.{Cut, nothing_cut, all_lines, placed, noted}
use Rattle.text_footnotes.specs.Cuts.{placed_spaced, placed_noted, lines_within}

-- ---- loops

-- the items of the elements so far, and of one more
items_taken : {T S Y : Type 0} (seen : T → S) (es : List (TaggedLineElement T)) (ys : List Y) (y : Y)
    (e : TaggedLineElement T) → (length ys < length es) × (e ≡ get_or es (length ys) e)
    → elements_items seen (take (length (ys ++ y ∷ [])) es)
    ≡ elements_items seen (take (length ys) es) ++ element_items seen e
items_taken seen es ys y e turn =
    ap (elements_items seen) (next_taken es ys y e turn) ∙ elements_items-append seen (take (length ys) es) (e ∷ [])
    ∙ ap (λ last. elements_items seen (take (length ys) es) ++ last) (append-nil (element_items seen e))

-- the same of characters
letters_taken : {S Y : Type 0} (cs : List ℕ) (ys : List Y) (y : Y) (c : ℕ) (tag : S)
    → (length ys < length cs) × (c ≡ get_or cs (length ys) c)
    → tagged (take (length (ys ++ y ∷ [])) cs) tag ≡ tagged (take (length ys) cs) tag ++ character c tag ∷ []
letters_taken cs ys y c tag turn =
    ap (λ front. tagged front tag) (next_taken cs ys y c turn)
    ∙ map-append (λ code. character code tag) (take (length ys) cs) (c ∷ [])

-- what is made of items so far, and then of others
folded_more : {A B : Type 0} (f : B → A → B) (old mid new : B) (xs ys all : List A) → all ≡ xs ++ ys
    → mid ≡ fold f old xs → new ≡ fold f mid ys → new ≡ fold f old all
folded_more f old mid new xs ys all whole so_far more =
    more ∙ ap (λ m. fold f m ys) so_far ∙ sym (fold-append f old xs ys) ∙ ap (fold f old) (sym whole)

pub next_letter : {S B Y : Type 0} (f : B → Item S → B) (cs : List ℕ) (ys : List Y) (y : Y) (c : ℕ) (tag : S)
    → (length ys < length cs) × (c ≡ get_or cs (length ys) c) → (old mid new : B)
    → mid ≡ fold f old (tagged (take (length ys) cs) tag) → new ≡ f mid (character c tag)
    → new ≡ fold f old (tagged (take (length (ys ++ y ∷ [])) cs) tag)
next_letter f cs ys y c tag turn old mid new so_far one =
    folded_more f old mid new (tagged (take (length ys) cs) tag) (character c tag ∷ []) _
    (letters_taken cs ys y c tag turn) so_far one

pub all_letters : {S B Y : Type 0} (f : B → Item S → B) (cs : List ℕ) (ys : List Y) (tag : S)
    → length ys ≡ length cs → (old new : B) → new ≡ fold f old (tagged (take (length ys) cs) tag)
    → new ≡ fold f old (tagged cs tag)
all_letters f cs ys tag whole old new so_far = so_far ∙ ap (λ all. fold f old (tagged all tag)) (all_taken cs ys whole)

pub next_element : {T S B Y : Type 0} (seen : T → S) (f : B → Item S → B) (es : List (TaggedLineElement T))
    (ys : List Y) (y : Y) (e : TaggedLineElement T)
    → (length ys < length es) × (e ≡ get_or es (length ys) e) → (old mid new : B)
    → mid ≡ fold f old (elements_items seen (take (length ys) es)) → new ≡ fold f mid (element_items seen e)
    → new ≡ fold f old (elements_items seen (take (length (ys ++ y ∷ [])) es))
next_element seen f es ys y e turn old mid new so_far one =
    folded_more f old mid new (elements_items seen (take (length ys) es)) (element_items seen e) _
    (items_taken seen es ys y e turn) so_far one

pub all_elements : {T S B Y : Type 0} (seen : T → S) (f : B → Item S → B) (es : List (TaggedLineElement T))
    (ys : List Y) → length ys ≡ length es → (old new : B)
    → new ≡ fold f old (elements_items seen (take (length ys) es)) → new ≡ fold f old (elements_items seen es)
all_elements seen f es ys whole old new so_far =
    so_far ∙ ap (λ all. fold f old (elements_items seen all)) (all_taken es ys whole)

-- ---- what items are placed

-- a character under its annotation alone
pub noted_text : {A : Type 0} (width : Option ℕ) (cs : List ℕ) (annotation : A) (cut : Cut (List A))
    → fold (placed_spaced width) cut (tagged cs (annotation ∷ []))
    ≡ fold (placed_noted width) cut (tagged cs annotation)
noted_text width [] annotation cut = refl
noted_text width (c ∷ cs) annotation cut =
    noted_text width cs annotation (placed_noted width cut (character c annotation))

-- without a width no line ends
uncut : {A : Type 0} (items : List (Item A)) (cut : Cut (List A))
    → fold (placed_noted None) cut items ≡ record cut { line = cut.line ++ map noted items }
uncut [] cut = ap (λ line. record cut { line = line }) (sym (append-nil cut.line))
uncut (item ∷ items) cut =
    uncut items (record cut { line = cut.line ++ noted item ∷ [] })
    ∙ ap (λ line. record cut { line = line }) (append_assoc cut.line (noted item ∷ []) (map noted items))

placed_map : {A : Type 0} (width : ℕ) (items : List (Item A)) (cut : Cut (List A))
    → fold (placed_noted (Some width)) cut items ≡ fold (placed width) cut (map noted items)
placed_map width [] cut = refl
placed_map width (item ∷ items) cut = placed_map width items (placed width cut (noted item))

pub all_placed : {A : Type 0} (width : Option ℕ) (items : List (Item A))
    → all_lines (fold (placed_noted width) nothing_cut items) ≡ lines_within width items
all_placed None items = ap all_lines (uncut items nothing_cut)
all_placed (Some width) items = ap all_lines (placed_map width items nothing_cut)

-- of a text under one annotation alone
pub one_text_placed : {A : Type 0} (width : Option ℕ) (cs : List ℕ) (annotation : A) (tags : List A)
    (cut new : Cut (List A)) → cut ≡ nothing_cut → tags ≡ annotation ∷ []
    → new ≡ fold (placed_spaced width) cut (tagged cs tags)
    → all_lines new ≡ lines_within width (tagged cs annotation)
one_text_placed width cs annotation tags cut new none alone is =
    ap all_lines (is ∙ (ap (λ t. fold (placed_spaced width) cut (tagged cs t)) alone
    ∙ (noted_text width cs annotation cut
    ∙ ap (λ k. fold (placed_noted width) k (tagged cs annotation)) none)))
    ∙ all_placed width (tagged cs annotation)
