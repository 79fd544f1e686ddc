-- Items and sources under other tags: what does not look at tags is the same of them.
use Rattle.std.proofs.Common.{◌≡◌, [], ◌∷◌, ◌∙◌, Bool, List, ap, drop, false, map, refl, replicate, true, ℕ}
use Rattle.std.specs.Prelude.{fold, if◌then◌else◌}
use Prim.Native.Nat.{zero, suc}
use Rattle.text_lines.specs.Columns.{text_columns}
use Rattle.text_lines.specs.Tagged.{Item, character, marker, characters, line_columns}
use Rattle.text_pieces.specs.Items.{has_text, item_columns, markers_of}
use Rattle.text_pieces.specs.Sources.{Source, letter, fragment, names_of}
use Rattle.text_pieces.specs.Retagged.{reitem, resource}

-- ---- tests, folds and lists

pub chosen_by : {X Y : Type 0} (R : X → Y) (b c : Bool) (x y : X) (p q : Y) → c ≡ b → p ≡ R x → q ≡ R y
    → (if c then p else q) ≡ R (if b then x else y)
chosen_by R true c x y p q same one other = ap (λ t. if t then p else q) same ∙ one
chosen_by R false c x y p q same one other = ap (λ t. if t then p else q) same ∙ other

pub folded : {X Y M N : Type 0} (g : X → M → X) (h : Y → N → Y) (R : X → Y) (r : M → N)
    → ((x : X) (m : M) → h (R x) (r m) ≡ R (g x m)) → (ms : List M) (x : X) → fold h (R x) (map r ms)
    ≡ R (fold g x ms)
folded g h R r step [] x = refl
folded g h R r step (m ∷ ms) x = ap (λ y. fold h y (map r ms)) (step x m) ∙ folded g h R r step ms (g x m)

pub replicate_mapped : {X Y : Type 0} (r : X → Y) (n : ℕ) (x : X) → replicate n (r x) ≡ map r (replicate n x)
replicate_mapped r zero x = refl
replicate_mapped r (suc n) x = ap (λ ys. r x ∷ ys) (replicate_mapped r n x)

pub drop_mapped : {X Y : Type 0} (r : X → Y) (n : ℕ) (xs : List X) → drop n (map r xs) ≡ map r (drop n xs)
drop_mapped r zero xs = refl
drop_mapped r (suc n) [] = refl
drop_mapped r (suc n) (x ∷ xs) = drop_mapped r n xs

-- ---- items

pub characters_retagged : {A B : Type 0} (f : A → B) (items : List (Item A)) → characters (map (reitem f) items)
    ≡ characters items
characters_retagged f [] = refl
characters_retagged f (character c tag ∷ items) = ap (λ cs. c ∷ cs) (characters_retagged f items)
characters_retagged f (marker name ∷ items) = characters_retagged f items

pub line_columns_retagged : {A B : Type 0} (f : A → B) (items : List (Item A)) → line_columns (map (reitem f) items)
    ≡ line_columns items
line_columns_retagged f items = ap text_columns (characters_retagged f items)

pub has_text_retagged : {A B : Type 0} (f : A → B) (items : List (Item A)) → has_text (map (reitem f) items)
    ≡ has_text items
has_text_retagged f [] = refl
has_text_retagged f (character c tag ∷ items) = refl
has_text_retagged f (marker name ∷ items) = has_text_retagged f items

pub item_columns_retagged : {A B : Type 0} (f : A → B) (item : Item A) → item_columns (reitem f item)
    ≡ item_columns item
item_columns_retagged f (character c tag) = refl
item_columns_retagged f (marker name) = refl

pub markers_retagged : {A B : Type 0} (f : A → B) (items : List (Item A)) → markers_of (map (reitem f) items)
    ≡ markers_of items
markers_retagged f [] = refl
markers_retagged f (character c tag ∷ items) = markers_retagged f items
markers_retagged f (marker name ∷ items) = ap (λ names. name ∷ names) (markers_retagged f items)

-- ---- sources

pub names_retagged : {A B : Type 0} (f : A → B) (sources : List (Source A)) → names_of (map (resource f) sources)
    ≡ names_of sources
names_retagged f [] = refl
names_retagged f (letter c main further ∷ rest) = names_retagged f rest
names_retagged f (fragment name ∷ rest) = ap (λ names. name ∷ names) (names_retagged f rest)
