-- Lines after a page hold no control character where what a decorator makes of printable targets holds none.
use Rattle.std.proofs.Common.{◌≡◌, [], ◌∷◌, ◌++◌, Bool, IfSome, List, false, refl}
use Rattle.std.proofs.Common.{true, ℕ}
use Rattle.std.specs.Prelude.{◌+◌, ◌==◌, ◌||◌, All, fold, if◌then◌else◌, map, nat_le, not}
use Rattle.std.specs.Char.{is_control}
use Rattle.std.specs.List.{list_any}
use Rattle.std.specs.Option.{option_map}
use Rattle.std.proofs.lemmas.List.Elements.{All-cons, All-head, All-nil, All-push, All-tail}
use Rattle.text_lines.specs.Columns.{width_of}
use Rattle.text_lines.specs.Tagged.{Item, character, characters, line_columns, marker, reitem}
use Rattle.text_pieces.specs.Items.{has_text}
use Rattle.text_decorators.specs.Marks.{seen_lines}
use Rattle.text_footnotes.specs.Footnotes.{Cut, footnote_lines, noted, nothing_cut, placed}
use Rattle.text_footnotes.specs.Printable.{is_unprintable, printable}
use Rattle.block_layout.specs.Laid.{Laid, flush}
use Rattle.block_layout_laws.proofs.OptionLemmas.{known, mapped}
use Rattle.block_trait.specs.Renderers.{Sub, measure_of}
use Rattle.block_renderer.specs.Footnotes.{add_footnote, add_footnotes}
use Rattle.printed_block_laws.specs.Printed.{ArePrinted, IsPrinted, IsPrintedBlock}
use Rattle.printed_page_laws.proofs.BlockWords.{KeepsPrinted}
use Rattle.printed_page_laws.proofs.RenderersPrinted.{IsPrintedSub, laid_on}

-- ---- lines that are cut

nothing_printed : All IsPrinted []
nothing_printed = All-nil IsPrinted

spaced_printed : (end : Bool) (c : ℕ) → IsPrinted c → IsPrinted (if end then 0x20 else c)
spaced_printed true c printed = refl
spaced_printed false c printed = printed

noted_printed : {A : Type 0} (items : List (Item A)) → ArePrinted items → ArePrinted (map noted items)
noted_printed [] printed = nothing_printed
noted_printed (character c tag ∷ items) printed =
    All-cons IsPrinted (if c == 0xA then 0x20 else c) (characters (map noted items))
    (spaced_printed (c == 0xA) c (All-head IsPrinted c (characters items) printed))
    (noted_printed items (All-tail IsPrinted c (characters items) printed))
noted_printed (marker name ∷ items) printed = noted_printed items printed

one_more : {S : Type 0} (line : List (Item S)) (item : Item S) → ArePrinted line → ArePrinted (item ∷ [])
    → ArePrinted (line ++ item ∷ [])
one_more [] item printed new = new
one_more (character c tag ∷ line) item printed new =
    All-cons IsPrinted c (characters (line ++ item ∷ [])) (All-head IsPrinted c (characters line) printed)
    (one_more line item (All-tail IsPrinted c (characters line) printed) new)
one_more (marker name ∷ line) item printed new = one_more line item printed new

abbrev IsPrintedCut : {S : Type 0} → Cut S → Type 0
IsPrintedCut {S} cut = All (ArePrinted {S = S}) cut.done × ArePrinted cut.line

placed_printed : {S : Type 0} (width : ℕ) (cut : Cut S) (item : Item S) → IsPrintedCut cut → ArePrinted (item ∷ [])
    → IsPrintedCut (placed width cut item)
placed_printed width cut (marker name) printed new =
    (printed.0, one_more cut.line (marker name) printed.1 new)
placed_printed {S} width cut (character c tag) printed new =
    by_room (nat_le (line_columns cut.line + width_of c) width || not (has_text cut.line))
  where
    by_room : (t : Bool) → IsPrintedCut {S = S} (if t
        then record cut { line = cut.line ++ character c tag ∷ [] }
        else record { done = cut.done ++ cut.line ∷ []; line = character c tag ∷ [] })
    by_room true = (printed.0, one_more cut.line (character c tag) printed.1 new)
    by_room false = (All-push (ArePrinted {S = S}) cut.done cut.line printed.0 printed.1, new)

first_of : {S : Type 0} (item : Item S) (items : List (Item S)) → ArePrinted (item ∷ items) → ArePrinted (item ∷ [])
first_of (character c tag) items printed =
    All-cons IsPrinted c [] (All-head IsPrinted c (characters items) printed) (All-nil IsPrinted)
first_of (marker name) items printed = nothing_printed

rest_of : {S : Type 0} (item : Item S) (items : List (Item S)) → ArePrinted (item ∷ items) → ArePrinted items
rest_of (character c tag) items printed = All-tail IsPrinted c (characters items) printed
rest_of (marker name) items printed = printed

cut_printed : {S : Type 0} (width : ℕ) (cut : Cut S) (items : List (Item S)) → IsPrintedCut cut → ArePrinted items
    → IsPrintedCut (fold (placed width) cut items)
cut_printed width cut [] printed more = printed
cut_printed width cut (item ∷ items) printed more = cut_printed width (placed width cut item) items
    (placed_printed width cut item printed (first_of item items more)) (rest_of item items more)

footnote_printed : {A : Type 0} (wraps : Bool) (width : ℕ) (items : List (Item A)) → ArePrinted items
    → All ArePrinted (footnote_lines wraps width items)
footnote_printed {A} true width items printed =
    let cut : Cut (List A) = fold (placed width) nothing_cut (map noted items) in
    let all : IsPrintedCut cut = cut_printed width nothing_cut (map noted items)
    (All-nil (ArePrinted {S = List A}), nothing_printed) (noted_printed items printed) in
    All-push (ArePrinted {S = List A}) cut.done cut.line all.0 all.1
footnote_printed {A} false width items printed =
    All-cons (ArePrinted {S = List A}) (map noted items) [] (noted_printed items printed)
    (All-nil (ArePrinted {S = List A}))

-- ---- lines that a renderer takes

takes_notes : {H A : Type 0} (laws : KeepsPrinted (List A)) (lines : List (List (Item A))) (s : Sub H A)
    (b : Laid (List A)) → IsPrintedBlock b → All ArePrinted lines → IsPrintedBlock (fold (add_footnote s) b lines)
takes_notes laws [] s b inside all = inside
takes_notes {A = A} laws (line ∷ lines) s b inside all =
    takes_notes laws lines s (add_footnote s b line)
    (laws.lines_taken (measure_of s) s.annotations s.annotations
    (footnote_lines s.options.wrap_links s.width line) b inside
    (footnote_printed s.options.wrap_links s.width line (All-head (ArePrinted {S = A}) line lines all)))
    (All-tail (ArePrinted {S = A}) line lines all)

pub adds_notes : {H A : Type 0} (laws : KeepsPrinted (List A)) (lines : List (List (Item A))) (s : Sub H A)
    → IsPrintedSub s → All ArePrinted lines → IfSome (add_footnotes lines s) (IsPrintedSub {H = H} {A = A})
adds_notes {H} {A} laws lines s printed all =
    laid_on s (option_map (λ b. fold (add_footnote s) b lines) (flush (measure_of s) s.annotations s.laid)) printed
    (mapped (IsPrintedBlock {S = List A}) (IsPrintedBlock {S = List A}) (λ b. fold (add_footnote s) b lines)
    (flush (measure_of s) s.annotations s.laid) (λ b inside. takes_notes laws lines s b inside all)
    (known (IsPrintedBlock {S = List A}) (flush (measure_of s) s.annotations s.laid)
    (λ new is. laws.flushed (measure_of s) s.annotations s.laid new printed.0 is)))

-- ---- what a decorator makes of targets

seen_printed : {T A : Type 0} (seen : T → A) (items : List (Item T)) → ArePrinted items
    → ArePrinted (map (reitem seen) items)
seen_printed seen [] printed = nothing_printed
seen_printed seen (character c tag ∷ items) printed =
    All-cons IsPrinted c (characters (map (reitem seen) items)) (All-head IsPrinted c (characters items) printed)
    (seen_printed seen items (All-tail IsPrinted c (characters items) printed))
seen_printed seen (marker name ∷ items) printed = seen_printed seen items printed

pub seen_lines_printed : {T A : Type 0} (seen : T → A) (lines : List (List (Item T))) → All ArePrinted lines
    → All ArePrinted (seen_lines seen lines)
seen_lines_printed {A = A} seen [] all = All-nil (ArePrinted {S = A})
seen_lines_printed {T} {A} seen (line ∷ lines) all =
    All-cons (ArePrinted {S = A}) (map (reitem seen) line) (seen_lines seen lines)
    (seen_printed seen line (All-head (ArePrinted {S = T}) line lines all))
    (seen_lines_printed seen lines (All-tail (ArePrinted {S = T}) line lines all))

-- ---- printable targets

first_false : (a b c : Bool) → ((a || b) || c) ≡ false → a ≡ false
first_false true b c e = e
first_false false b c e = refl

either_false : (a b : Bool) → (a || b) ≡ false → (a ≡ false) × (b ≡ false)
either_false true b e = absurd (cc e)
either_false false b e = (refl, e)

no_control : (c : ℕ) → is_unprintable c ≡ false → IsPrinted c
no_control c e = first_false (is_control c) _ _ e

none_found : (cs : List ℕ) → list_any is_unprintable cs ≡ false → All IsPrinted cs
none_found [] e = All-nil IsPrinted
none_found (c ∷ cs) e =
    let both = either_false (is_unprintable c) (list_any is_unprintable cs) e in
    All-cons IsPrinted c cs (no_control c both.0) (none_found cs both.1)

pub printable_printed : ((target : List ℕ) → list_any is_unprintable (printable target) ≡ false)
    → (targets : List (List ℕ)) → All (All IsPrinted) (map printable targets)
printable_printed never [] = All-nil (All IsPrinted)
printable_printed never (target ∷ targets) = All-cons (All IsPrinted) (printable target) (map printable targets)
    (none_found (printable target) (never target)) (printable_printed never targets)
