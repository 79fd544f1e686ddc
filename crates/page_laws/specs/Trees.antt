-- What holds of the tree of every page.
use Rattle.std.specs.Prelude.{◌≡◌, ℕ, ◌+◌, Bool, true, false, List, []}
use Rattle.tree_forest.specs.Forest.{Forest}
use Rattle.tree_forest.specs.Orders.{IsForest}
use Rattle.tree_forest.specs.declared.sink.QuirksMode.{QuirksMode}
use Rattle.html_tree_builder.specs.Grown.{Beginning, IsTreeOfPage}
use Rattle.html_tree_builder.specs.declared.options.ParseOpts.{ParseOpts}
use Rattle.page_tree_laws.specs.KeptText.{EmitsPlainTags, in_texts, in_emitted, is_kept}
use Rattle.page_tree_laws.specs.PageTexts.{items_of}
use Rattle.page_reading.specs.PageTrees.{IsTreeOfBytes}
use Rattle.page_tree_laws.specs.Skeleton.{IsSkeleton, EmitsNoFrames, child_elements}
use Rattle.lex_base.specs.References.{References}

-- text is kept, each character as often as it was emitted
abbrev pub KeepsTextOfTree : {H : Type 0} → (ℕ → H) → Type 0
KeepsTextOfTree handle = (from : Beginning) (text : List ℕ) (forest : Forest) (quirks : QuirksMode)
    (tree : IsTreeOfPage handle from text forest quirks) → IsForest from.forest →
    EmitsPlainTags (items_of tree.reading) → (c : ℕ) → is_kept c ≡ true →
    in_texts c forest ≡ in_texts c from.forest + in_emitted c (items_of tree.reading)

-- the document has one child element, `html`, which begins with its head and its body (WHATWG HTML, 4.1.1)
abbrev pub HasSkeletonOfTree : {H : Type 0} → (ℕ → H) → Type 0
HasSkeletonOfTree handle = (from : Beginning) (text : List ℕ) (forest : Forest) (quirks : QuirksMode)
    (tree : IsTreeOfPage handle from text forest quirks) → IsForest from.forest →
    child_elements 0 from.forest ≡ [] →
    (is_framed : Bool) → (is_framed ≡ false → EmitsNoFrames (items_of tree.reading)) → IsSkeleton is_framed forest

-- the same of a page that comes in bytes
abbrev pub KeepsTextOfBytes : Type 0
KeepsTextOfBytes = (table : References) (options : ParseOpts) (bytes : List ℕ) (forest : Forest) (quirks : QuirksMode)
    (tree : IsTreeOfBytes table options bytes forest quirks) → EmitsPlainTags (items_of tree.reading) → (c : ℕ) →
    is_kept c ≡ true → in_texts c forest ≡ in_emitted c (items_of tree.reading)

abbrev pub HasSkeletonOfBytes : Type 0
HasSkeletonOfBytes = (table : References) (options : ParseOpts) (bytes : List ℕ) (forest : Forest)
    (quirks : QuirksMode) (tree : IsTreeOfBytes table options bytes forest quirks) → (is_framed : Bool) →
    (is_framed ≡ false → EmitsNoFrames (items_of tree.reading)) → IsSkeleton is_framed forest
