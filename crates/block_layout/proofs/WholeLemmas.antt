-- Lines of another block that are added after no prefix, where no marker waits and lines are not filled.
use Rattle.std.specs.Prelude.{◌≡◌, ◌||◌, [], ◌∷◌, ◌++◌, All, Bool, Err, List, Ok, OnOk, Result, drop, false, fold}
use Rattle.std.specs.Prelude.{length, map, refl, take, true, ℕ}
use Rattle.std.proofs.Common.{◌+◌, ◌<◌, ◌≤◌, suc, set, sym, ap, subst, ◌∙◌, arith}
use Rattle.std.proofs.Math.Seq.{take-append_seam, take-suc-set}
use Rattle.std.proofs.lemmas.List.{append-nil, append_assoc, take_all}
use Rattle.std.proofs.lemmas.List.Elements.{All-push, All-head, All-tail}
use Rattle.text_pieces.specs.Sources.{is_filled}
use Rattle.text_lines.specs.Tagged.{Item, line_items}
use Rattle.text_pieces.specs.Items.{has_text}
use Rattle.text_borders.specs.Lines.{text}
use Rattle.text_borders.specs.Across.{CellLine}
use Rattle.text_cells.specs.Cells.{laid_text_of}
use Rattle.text_cells.specs.declared.laid_line.LaidText.{LaidText}
use Rattle.block_layout.specs.LaidRows.{add_row_line, add_row_lines}
use Rattle.block_layout.specs.Laid.{Laid, add_block, add_prefixed, content_as_text}
use Rattle.block_layout.specs.Whole.{TakesAll, settled, with_texts}
use Rattle.block_layout.specs.declared.measure.Measure.{Measure}

neither : (b c : Bool) → c ≡ false → (b || c) ≡ b
neither true c e = refl
neither false c e = e

none : (cs : List ℕ) → is_filled cs ≡ false → cs ≡ []
none [] e = refl
none (c ∷ cs) e = Prim.cc

abbrev plain : {S : Type 0} → Laid S → List (CellLine S) → Laid S
plain b lines = record b { lines = lines; markers = [] }

one : {S : Type 0} (other m : Measure) (tag : S) (b : Laid S) (lines : List (CellLine S)) (l : CellLine S)
    → m.pads ≡ false
    → add_prefixed other m tag [] (plain b lines) l ≡ plain b (lines ++ settled other tag l ∷ [])
one other m tag b lines l unfilled = rw (unfilled, neither (content_as_text l.line l.content) false refl)

each : {S : Type 0} (other m : Measure) (tag : S) (b : Laid S) (lines ls : List (CellLine S)) → m.pads ≡ false
    → fold (add_prefixed other m tag []) (plain b lines) ls ≡ plain b (lines ++ map (settled other tag) ls)
each other m tag b lines [] unfilled = ap (plain b) (sym (append-nil lines))
each other m tag b lines (l ∷ ls) unfilled =
    ap (λ k. fold (add_prefixed other m tag []) k ls) (one other m tag b lines l unfilled)
    ∙ (each other m tag b (lines ++ settled other tag l ∷ []) ls unfilled
    ∙ ap (plain b) (append_assoc lines (settled other tag l ∷ []) (map (settled other tag) ls)))

bare : {S : Type 0} (other m : Measure) (tag : S) (b : Laid S) (ls : List (CellLine S)) → m.pads ≡ false
    → add_block other m tag [] [] ls (plain b b.lines) ≡ plain b (b.lines ++ map (settled other tag) ls)
bare other m tag b [] unfilled = ap (plain b) (sym (append-nil b.lines))
bare other m tag b (l ∷ ls) unfilled = each other m tag b b.lines (l ∷ ls) unfilled

pub all_taken : {S : Type 0} (other m : Measure) (tag : S) (first following : List ℕ) (ls : List (CellLine S))
    (b : Laid S) → TakesAll m first following b
    → with_texts other tag ls b ≡ add_block other m tag first following ls b
all_taken other m tag first following ls b takes =
    ap (λ ms. record (with_texts other tag ls b) { markers = ms }) takes.unmarked
    ∙ (sym (bare other m tag b ls takes.unpadded)
    ∙ (ap (λ ms. add_block other m tag [] [] ls (record b { markers = ms })) (sym takes.unmarked)
    ∙ (ap (λ cs. add_block other m tag cs [] ls b) (sym (none first takes.at_first))
    ∙ ap (λ cs. add_block other m tag first cs ls b) (sym (none following takes.trailing)))))

-- a text of another block stays as it is
pub texts_settled : {T S : Type 0} (seen : T → S) (other : Measure) (tag : S) (ts : List (LaidText T))
    → map (settled other tag) (map (laid_text_of seen) ts) ≡ map (laid_text_of seen) ts
texts_settled seen other tag [] = refl
texts_settled seen other tag (t ∷ ts) = ap (λ ls. laid_text_of seen t ∷ ls) (texts_settled seen other tag ts)

-- ---- wide texts of a row

row_one : {S : Type 0} (m : Measure) (tag : S) (b : Laid S) (lines : List (CellLine S)) (items : List (Item S))
    → m.pads ≡ false → add_row_line m tag (plain b lines) items
    ≡ plain b (lines ++ record { line = text items; content = has_text items } ∷ [])
row_one m tag b lines items unfilled = rw (unfilled)

rows_each : {T S : Type 0} (seen : T → S) (m : Measure) (tag : S) (b : Laid S) (lines : List (CellLine S))
    (ts : List (LaidText T)) → m.pads ≡ false → All (λ t. t.content ≡ has_text (line_items seen t.line)) ts
    → fold (add_row_line m tag) (plain b lines) (map (λ t. line_items seen t.line) ts)
    ≡ plain b (lines ++ map (laid_text_of seen) ts)
rows_each seen m tag b lines [] unfilled filled = ap (plain b) (sym (append-nil lines))
rows_each seen m tag b lines (t ∷ ts) unfilled filled =
    ap (λ k. fold (add_row_line m tag) k (map (λ t. line_items seen t.line) ts))
    (row_one m tag b lines (line_items seen t.line) unfilled
    ∙ ap (λ c. plain b (lines ++ record { line = text (line_items seen t.line); content = c } ∷ []))
    (sym (All-head (λ t. t.content ≡ has_text (line_items seen t.line)) t ts filled)))
    ∙ (rows_each seen m tag b (lines ++ laid_text_of seen t ∷ []) ts unfilled
    (All-tail (λ t. t.content ≡ has_text (line_items seen t.line)) t ts filled)
    ∙ ap (plain b) (append_assoc lines (laid_text_of seen t ∷ []) (map (laid_text_of seen) ts)))

pub rows_taken : {T S : Type 0} (seen : T → S) (m : Measure) (tag : S) (b : Laid S) (ts : List (LaidText T))
    (lines : List (CellLine S)) → m.pads ≡ false → b.markers ≡ []
    → All (λ t. t.content ≡ has_text (line_items seen t.line)) ts → lines ≡ b.lines ++ map (laid_text_of seen) ts
    → record b { lines = lines } ≡ add_row_lines m tag (map (λ t. line_items seen t.line) ts) b
rows_taken seen m tag b ts lines unfilled unmarked filled is =
    ap (λ ls. record b { lines = ls }) is
    ∙ (ap (λ ms. record b { lines = b.lines ++ map (laid_text_of seen) ts; markers = ms }) unmarked
    ∙ (sym (rows_each seen m tag b b.lines ts unfilled filled)
    ∙ ap (λ ms. fold (add_row_line m tag) (record b { markers = ms }) (map (λ t. line_items seen t.line) ts))
    (sym unmarked)))

pub ok_by : {A E X : Type 0} (r : Result A E) (x : X) {y z : X} → y ≡ z → OnOk r (x ≡ y) → OnOk r (x ≡ z)
ok_by (Ok v) x same h = h ∙ same
ok_by (Err e) x same h = tt

-- ---- lines that are settled where they stand

pub one_settled : {A : Type 0} (P : A → Type 0) (now : List A) (i : ℕ) (b : A) → i < length now → All P (take i now)
    → P b → All P (take (i + 1) (set now i b))
one_settled P now i b inside all here =
    let next : i + 1 ≡ suc i = omega arith in
    subst (All P) (sym (ap (λ n. take n (set now i b)) next ∙ take-suc-set now i b inside))
    (All-push P (take i now) b all here)

pub all_settled : {A : Type 0} (P : A → Type 0) (first now : List A) (i n : ℕ) → length now ≤ i → length now ≡ n
    → All P (take i now) → All P (take n (now ++ drop (length now) first))
all_settled P first now i n past long all =
    subst (All P) (sym (ap (λ k. take k (now ++ drop (length now) first)) (sym long)
    ∙ take-append_seam now (drop (length now) first))) (subst (All P) (take_all i now past) all)
