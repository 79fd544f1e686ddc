-- Lines after a page have the same characters in a renderer that keeps no annotations, where they stand under their
-- own.
use Rattle.std.proofs.Common.{◌≡◌, List, [], ◌∷◌, map, sym, ap, ◌∙◌, refl}
use Rattle.std.specs.Prelude.{Option, None, Some, fold}
use Rattle.std.specs.Option.{option_map}
use Rattle.text_lines.specs.Tagged.{Item, character, marker}
use Rattle.text_pieces.specs.Sources.{Source, letter, fragment}
use Rattle.text_pieces.specs.Retagged.{reitem, resource}
use Rattle.text_wrapping.specs.Blocks.{Block}
use Rattle.text_wrapping.specs.Retagged.{reblock}
use Rattle.text_borders.specs.Borders.{Border, Hole}
use Rattle.text_borders.specs.Lines.{BlockLine, text, border}
use Rattle.text_borders.specs.Across.{CellLine, Hanging}
use Rattle.text_borders.specs.Retagged.{rehole, reborder, reline, recell_line, rehanging}
use Rattle.text_footnotes.specs.Footnotes.{footnote_lines}
use Rattle.block_layout.specs.Laid.{Running, Laid, add_text_lines, flush}
use Rattle.block_layout.specs.Retagged.{rerunning, relaid}
use Rattle.block_layout_laws.proofs.LaidRetagged.{text_lines_retagged, flush_retagged}
use Rattle.block_trait.specs.Renderers.{Sub, measure_of, with_laid, on_laid}
use Rattle.block_trait.specs.Bare.{no_tag, bare_of}
use Rattle.block_renderer.specs.Footnotes.{add_footnote, add_footnotes}

-- ---- what has no annotations stays as it is

all_stay : {X : Type 0} (f : X → X) → ((x : X) → f (f x) ≡ f x) → (xs : List X) → map f (map f xs) ≡ map f xs
all_stay f stays [] = refl
all_stay f stays (x ∷ xs) = ap (λ y. y ∷ map f (map f xs)) (stays x) ∙ ap (λ ys. f x ∷ ys) (all_stay f stays xs)

item_stays : {A : Type 0} (x : Item (List A)) → reitem no_tag (reitem no_tag x) ≡ reitem no_tag x
item_stays (character c tag) = refl
item_stays (marker name) = refl

items_stay : {A : Type 0} (xs : List (Item (List A)))
    → map (reitem no_tag) (map (reitem no_tag) xs) ≡ map (reitem no_tag) xs
items_stay xs = all_stay (reitem no_tag) item_stays xs

abbrev hole_with : {S : Type 0} → Hole S → List (Item S) → Hole S
hole_with h items = record h { items = items }

hole_stays : {A : Type 0} (h : Hole (List A)) → rehole no_tag (rehole no_tag h) ≡ rehole no_tag h
hole_stays h = ap (hole_with (rehole no_tag h)) (items_stay h.items)

abbrev border_with : {S : Type 0} → Border S → List (Hole S) → Border S
border_with b holes = record b { holes = holes }

border_stays : {A : Type 0} (b : Border (List A)) → reborder no_tag (reborder no_tag b) ≡ reborder no_tag b
border_stays b = ap (border_with (reborder no_tag b)) (all_stay (rehole no_tag) hole_stays b.holes)

line_stays : {A : Type 0} (l : BlockLine (List A)) → reline no_tag (reline no_tag l) ≡ reline no_tag l
line_stays (text items) = ap (λ xs. text xs) (items_stay items)
line_stays (border b) = ap (λ x. border x) (border_stays b)

abbrev line_with : {S : Type 0} → CellLine S → BlockLine S → CellLine S
line_with l line = record l { line = line }

cell_line_stays : {A : Type 0} (l : CellLine (List A))
    → recell_line no_tag (recell_line no_tag l) ≡ recell_line no_tag l
cell_line_stays l = ap (line_with (recell_line no_tag l)) (line_stays l.line)

cell_lines_stay : {A : Type 0} (ls : List (CellLine (List A)))
    → map (recell_line no_tag) (map (recell_line no_tag) ls) ≡ map (recell_line no_tag) ls
cell_lines_stay ls = all_stay (recell_line no_tag) cell_line_stays ls

abbrev hanging_with : {S : Type 0} → Hanging S → List (CellLine S) → Hanging S
hanging_with h lines = record h { cell = record h.cell { lines = lines } }

hanging_stays : {A : Type 0} (h : Hanging (List A)) → rehanging no_tag (rehanging no_tag h) ≡ rehanging no_tag h
hanging_stays h = ap (hanging_with (rehanging no_tag h)) (cell_lines_stay h.cell.lines)

source_stays : {A : Type 0} (x : Source (List A)) → resource no_tag (resource no_tag x) ≡ resource no_tag x
source_stays (letter c main further) = refl
source_stays (fragment name) = refl

padding_stays : {A : Type 0} (o : Option (List A)) → option_map no_tag (option_map no_tag o) ≡ option_map no_tag o
padding_stays None = refl
padding_stays (Some tag) = refl

abbrev block_with : {S : Type 0} → Block S → Option S → List (List (Item S)) → List (Source S) → Block S
block_with b padding lines source = record b { padding = padding; lines = lines; source = source }

block_stays : {A : Type 0} (b : Block (List A)) → reblock no_tag (reblock no_tag b) ≡ reblock no_tag b
block_stays b =
    let once = reblock no_tag b in
    let twice = reblock no_tag once in
    ap (λ padding. block_with once padding twice.lines twice.source) (padding_stays b.padding)
    ∙ ap (λ lines. block_with once once.padding lines twice.source)
    (all_stay (map (reitem no_tag)) items_stay b.lines)
    ∙ ap (block_with once once.padding once.lines) (all_stay (resource no_tag) source_stays b.source)

abbrev running_with : {S : Type 0} → Running S → Block S → Running S
running_with r block = record r { text = block }

running_stays : {A : Type 0} (o : Option (Running (List A)))
    → option_map (rerunning no_tag) (option_map (rerunning no_tag) o) ≡ option_map (rerunning no_tag) o
running_stays None = refl
running_stays (Some r) = ap (λ block. Some (running_with (rerunning no_tag r) block)) (block_stays r.text)

abbrev laid_with : {S : Type 0} → Laid S → List (CellLine S) → Option (Running S) → List (Hanging S) → Laid S
laid_with b lines running hanging = record b { lines = lines; running = running; hanging = hanging }

laid_stays : {A : Type 0} (b : Laid (List A)) → relaid no_tag (relaid no_tag b) ≡ relaid no_tag b
laid_stays b =
    let once = relaid no_tag b in
    let twice = relaid no_tag once in
    ap (λ lines. laid_with once lines twice.running twice.hanging) (cell_lines_stay b.lines)
    ∙ ap (λ running. laid_with once once.lines running twice.hanging) (running_stays b.running)
    ∙ ap (laid_with once once.lines once.running) (all_stay (rehanging no_tag) hanging_stays b.hanging)

pub bare_stays : {H A : Type 0} (s : Sub H A) → bare_of (bare_of s) ≡ bare_of s
bare_stays s = ap (with_laid (bare_of s)) (laid_stays s.laid)

-- ---- lines after a page

note_added : {H A : Type 0} (s : Sub H A) (items : List (Item A)) (x y : Laid (List A))
    → relaid no_tag x ≡ relaid no_tag y
    → relaid no_tag (add_footnote (bare_of s) x items) ≡ relaid no_tag (add_footnote s y items)
note_added s items x y same =
    let lines = footnote_lines s.options.wrap_links s.width items in
    sym (text_lines_retagged no_tag (measure_of s) [] [] lines x)
    ∙ ap (λ b. add_text_lines (measure_of s) [] [] (map (map (reitem no_tag)) lines) b) same
    ∙ text_lines_retagged no_tag (measure_of s) s.annotations s.annotations lines y

notes_added : {H A : Type 0} (s : Sub H A) (notes : List (List (Item A))) (x y : Laid (List A))
    → relaid no_tag x ≡ relaid no_tag y
    → relaid no_tag (fold (add_footnote (bare_of s)) x notes) ≡ relaid no_tag (fold (add_footnote s) y notes)
notes_added s [] x y same = same
notes_added s (items ∷ notes) x y same =
    notes_added s notes (add_footnote (bare_of s) x items) (add_footnote s y items) (note_added s items x y same)

after_flush : {H A : Type 0} (s : Sub H A) (notes : List (List (Item A))) (o : Option (Laid (List A)))
    → option_map bare_of
    (on_laid (bare_of s) (option_map (λ b. fold (add_footnote (bare_of s)) b notes) (option_map (relaid no_tag) o)))
    ≡ option_map bare_of (on_laid s (option_map (λ b. fold (add_footnote s) b notes) o))
after_flush s notes None = refl
after_flush s notes (Some y) =
    ap (λ laid. Some (with_laid (bare_of s) laid)) (notes_added s notes (relaid no_tag y) y (laid_stays y))

pub footnotes_bare : {H A : Type 0} (notes : List (List (Item A))) (s : Sub H A)
    → option_map bare_of (add_footnotes notes (bare_of s)) ≡ option_map bare_of (add_footnotes notes s)
footnotes_bare notes s =
    ap (λ o. option_map bare_of (on_laid (bare_of s) (option_map (λ b. fold (add_footnote (bare_of s)) b notes) o)))
    (flush_retagged no_tag (measure_of s) s.annotations s.laid)
    ∙ after_flush s notes (flush (measure_of s) s.annotations s.laid)
