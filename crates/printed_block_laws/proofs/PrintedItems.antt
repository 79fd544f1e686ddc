-- Items of a line without a control character: how they are made of others.
use Rattle.std.proofs.Common.{[], ◌∷◌, ◌++◌, All, List, drop, map, refl, replicate, suc, zero, ℕ}
use Rattle.std.proofs.lemmas.List.Elements.{All-cons, All-head, All-nil, All-tail}
use Rattle.text_lines.specs.Tagged.{Item, character, characters, marker, tagged}
use Rattle.printed_block_laws.specs.Printed.{ArePrinted, IsPrinted}

pub none_printed : All IsPrinted []
none_printed = All-nil IsPrinted

pub printed_more : {S : Type 0} (c : ℕ) (tag : S) (items : List (Item S)) → IsPrinted c → ArePrinted items
    → ArePrinted (character c tag ∷ items)
printed_more c tag items here rest = All-cons IsPrinted c (characters items) here rest

pub printed_both : {S : Type 0} (xs ys : List (Item S)) → ArePrinted xs → ArePrinted ys → ArePrinted (xs ++ ys)
printed_both [] ys first second = second
printed_both (character c tag ∷ xs) ys first second =
    printed_more c tag (xs ++ ys) (All-head IsPrinted c (characters xs) first)
    (printed_both xs ys (All-tail IsPrinted c (characters xs) first) second)
printed_both (marker name ∷ xs) ys first second = printed_both xs ys first second

pub printed_rest : {S : Type 0} (x : Item S) (items : List (Item S)) → ArePrinted (x ∷ items) → ArePrinted items
printed_rest (character c tag) items h = All-tail IsPrinted c (characters items) h
printed_rest (marker name) items h = h

pub printed_first : {S : Type 0} (x : Item S) (items : List (Item S)) → ArePrinted (x ∷ items) → ArePrinted (x ∷ [])
printed_first (character c tag) items h = printed_more c tag [] (All-head IsPrinted c (characters items) h) none_printed
printed_first (marker name) items h = none_printed

pub printed_spaces : {S : Type 0} (n : ℕ) (tag : S) → ArePrinted (replicate n (character 0x20 tag))
printed_spaces zero tag = none_printed
printed_spaces (suc n) tag = printed_more 0x20 tag (replicate n (character 0x20 tag)) refl (printed_spaces n tag)

pub printed_dropped : {S : Type 0} (n : ℕ) (items : List (Item S)) → ArePrinted items → ArePrinted (drop n items)
printed_dropped zero items h = h
printed_dropped (suc n) [] h = h
printed_dropped (suc n) (x ∷ items) h = printed_dropped n items (printed_rest x items h)

pub printed_tagged : {S : Type 0} (cs : List ℕ) (tag : S) → All IsPrinted cs → ArePrinted (tagged cs tag)
printed_tagged [] tag h = none_printed
printed_tagged (c ∷ cs) tag h =
    printed_more c tag (tagged cs tag) (All-head IsPrinted c cs h)
    (printed_tagged cs tag (All-tail IsPrinted c cs h))

pub printed_after_markers : {S : Type 0} (names : List (List ℕ)) (items : List (Item S)) → ArePrinted items
    → ArePrinted (map (λ name. marker name) names ++ items)
printed_after_markers [] items h = h
printed_after_markers (name ∷ names) items h = printed_after_markers names items h
