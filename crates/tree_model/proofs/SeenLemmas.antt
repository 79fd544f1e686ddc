-- What is seen of what is held, part by part.
use Rattle.std.proofs.Common.{◌≡◌, ℕ, Bool, List, ap, ap₂, ◌∙◌}
use Rattle.tree_formatting.specs.Entries.{Entry, entries_of}
use Rattle.tree_formatting.specs.Pushing.{pushed}
use Rattle.tree_forest.specs.Forest.{Forest}
use Rattle.tree_forest.specs.Sinks.{SinkView}
use Rattle.tree_forest.specs.declared.sink.QuirksMode.{QuirksMode}
use Rattle.html_lexemes.specs.declared.token.Tag.{Tag}
use Rattle.tree_model.specs.Building.{Building, Parts, are_counted, seen, stack_of}

same_parts : (s t : List ℕ) (e g : List Entry) (b c k l : Bool) (f : Forest) (q : QuirksMode) → s ≡ t → e ≡ g → b ≡ c →
    k ≡ l →
    (let x : Building = record { stack = s; formatting = e; fostering = b; forest = f; quirks = q; counted = k } in x)
    ≡ (let x : Building = record { stack = t; formatting = g; fostering = c; forest = f; quirks = q; counted = l } in x)
same_parts s t e g b c k l f q stack_is entries_are fostering_is counted_is = cc

-- another list is held
pub seen_listed : {H S : Type 0} (view : SinkView S H) (p q : Parts H)
    (s : S) (b : Building) (es : List Entry) → p.open_elements ≡ q.open_elements →
    entries_of view.number p.entries ≡ es → p.is_fostering ≡ q.is_fostering → p.counts ≡ q.counts →
    seen view q s ≡ b → seen view p s ≡ record b { formatting = es }
seen_listed view p q s b es open_is entries_are fostering_is counts_are was =
    same_parts _ _ _ _ _ _ _ _ _ _ (ap (stack_of view.number) open_is) entries_are fostering_is
    (ap₂ (λ counts handles. are_counted counts (stack_of view.number handles) (view.forest s)) counts_are open_is)
    ∙ ap (λ (x : Building). record x { formatting = es }) was

-- an element more is listed
pub seen_pushed : {H S : Type 0} (view : SinkView S H) (p q : Parts H)
    (s : S) (b : Building) (e n : ℕ) (tag : Tag) → p.open_elements ≡ q.open_elements →
    entries_of view.number p.entries ≡ pushed e tag (entries_of view.number q.entries) → p.is_fostering
    ≡ q.is_fostering →
    p.counts ≡ q.counts → seen view q s ≡ b → e ≡ n →
    seen view p s ≡ record b { formatting = pushed n tag b.formatting }
seen_pushed view p q s b e n tag open_is entries_are fostering_is counts_are was is =
    seen_listed view p q s b (pushed n tag b.formatting) open_is
    (entries_are ∙ ap (λ m. pushed m tag (entries_of view.number q.entries)) is
    ∙ ap (λ (x : Building). pushed n tag x.formatting) was) fostering_is counts_are was

-- other nodes, among which the open elements have the names that they had
pub seen_changed : {H S : Type 0} (view : SinkView S H) (p q : Parts H)
    (s t : S) (f : Forest) → q ≡ p → view.forest t ≡ f → view.quirks t ≡ view.quirks s →
    are_counted p.counts (stack_of view.number p.open_elements) f
    ≡ are_counted p.counts (stack_of view.number p.open_elements) (view.forest s) →
    seen view q t ≡ record (seen view p s) { forest = f }
seen_changed view p q s t f held_is forest_is quirks_are counted_is = cc

-- what is seen, part by part
all_parts : (s t : List ℕ) (e g : List Entry) (b c k l : Bool) (f h : Forest) (q r : QuirksMode) → s ≡ t → e ≡ g →
    b ≡ c → f ≡ h → q ≡ r → k ≡ l →
    (let x : Building = record { stack = s; formatting = e; fostering = b; forest = f; quirks = q; counted = k } in x)
    ≡ (let x : Building = record { stack = t; formatting = g; fostering = c; forest = h; quirks = r; counted = l } in x)
all_parts s t e g b c k l f h q r stack_is entries_are fostering_is forest_is quirks_are counted_is = cc

pub seen_is : {H S : Type 0} (view : SinkView S H) (p : Parts H) (s : S)
    (b : Building) → stack_of view.number p.open_elements ≡ b.stack → entries_of view.number p.entries ≡ b.formatting →
    p.is_fostering ≡ b.fostering → view.forest s ≡ b.forest → view.quirks s ≡ b.quirks →
    are_counted p.counts (stack_of view.number p.open_elements) (view.forest s) ≡ b.counted → seen view p s ≡ b
seen_is view p s b stack_is entries_are fostering_is forest_is quirks_are counted_is =
    all_parts _ _ _ _ _ _ _ _ _ _ _ _ stack_is entries_are fostering_is forest_is quirks_are counted_is
