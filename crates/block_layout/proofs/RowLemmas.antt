-- The last line, taken off.
use Rattle.std.specs.Prelude.{◌≡◌, Bool, List, [], ◌∷◌, ◌++◌, Option, None, Some, fold, refl}
use Rattle.std.proofs.Common.{sym, ap, ◌∙◌}
use Rattle.text_borders.specs.Borders.{Border}
use Rattle.text_borders.specs.Lines.{BlockLine, text, border}
use Rattle.text_borders.specs.Across.{CellLine, Cell, Hanging, Row, across}
use Rattle.block_layout.specs.declared.measure.Measure.{Measure}
use Rattle.block_layout.specs.Laid.{Laid, without_hanging}
use Rattle.block_layout.specs.LaidRows.{before_last, border_line, last_border, put_back, row_laid, with_row}
use Rattle.block_layout.specs.LaidRows.{without_last_border}

last_of : {S : Type 0} (above : Option (Border S)) (front : List (CellLine S)) (l : CellLine S)
    → fold (λ _ l. border_line l.line) above (front ++ l ∷ []) ≡ border_line l.line
last_of above [] l = refl
last_of above (m ∷ front) l = last_of (border_line m.line) front l

front_of : {A : Type 0} (front : List A) (x : A) → before_last (front ++ x ∷ []) ≡ front
front_of [] x = refl
front_of (y ∷ []) x = refl
front_of (y ∷ z ∷ front) x = ap (λ xs. y ∷ xs) (front_of (z ∷ front) x)

-- the last line as a border, and what is left
pub last_as : {S : Type 0} (lines front : List (CellLine S)) (l : CellLine S) (above : Option (Border S))
    → lines ≡ front ++ l ∷ [] → above ≡ border_line l.line → above ≡ last_border lines
last_as lines front l above e f = f ∙ sym (ap (λ ls. last_border ls) e ∙ last_of None front l)

back_by : {S : Type 0} (b : Laid S) (lines front : List (CellLine S)) (line : BlockLine S) (l : CellLine S)
    → l.line ≡ line → lines ≡ front ++ l ∷ [] → before_last lines ≡ front → last_border lines ≡ border_line line
    → put_back line l (record b { lines = front })
    ≡ without_last_border (last_border lines) (record b { lines = lines })
back_by b lines front (text items) l k e f h =
    ap (λ ls. record b { lines = ls }) (sym e)
    ∙ sym (ap (λ above. without_last_border above (record b { lines = lines })) h)
back_by b lines front (border above) l k e f h =
    ap (λ ls. record b { lines = ls }) (sym f)
    ∙ sym (ap (λ above. without_last_border above (record b { lines = lines })) h)

-- a border is taken off, and a text stays
pub taken_off : {S : Type 0} (b : Laid S) (lines front : List (CellLine S)) (l : CellLine S) (new : Laid S)
    → lines ≡ front ++ l ∷ [] → new ≡ put_back l.line l (record b { lines = front })
    → new ≡ without_last_border (last_border lines) (record b { lines = lines })
taken_off b lines front l new e f =
    f ∙ back_by b lines front l.line l refl e (ap (λ ls. before_last ls) e ∙ front_of front l)
    (ap (λ ls. last_border ls) e ∙ last_of None front l)

-- where the last line is no border
pub nothing_off : {S : Type 0} (b : Laid S) (lines old : List (CellLine S)) → lines ≡ old → last_border old ≡ None
    → record b { lines = lines } ≡ without_last_border (last_border old) (record b { lines = old })
nothing_off b lines old e none =
    ap (λ ls. record b { lines = ls }) e
    ∙ sym (ap (λ above. without_last_border above (record b { lines = old })) none)

pub row_is : {S : Type 0} (m : Measure) (tag : S) (draws collapse : Bool) (cells : List (Cell S)) (b mid : Laid S)
    (above : Option (Border S)) (hanging : List (Hanging S)) (row : Row S) → above ≡ last_border b.lines
    → hanging ≡ b.hanging → row ≡ across draws collapse tag above cells hanging
    → mid ≡ without_hanging (without_last_border (last_border b.lines) b)
    → with_row m tag draws row mid ≡ row_laid m tag draws collapse cells b
row_is m tag draws collapse cells b mid above hanging row e f g h =
    ap (λ r. with_row m tag draws r mid) (g ∙ ap (λ a. across draws collapse tag a cells hanging) e
    ∙ ap (λ hs. across draws collapse tag (last_border b.lines) cells hs) f)
    ∙ ap (λ x. with_row m tag draws (across draws collapse tag (last_border b.lines) cells b.hanging) x) h

pub same_hanging : {S : Type 0} (above : Option (Border S)) (b : Laid S)
    → (without_last_border above b).hanging ≡ b.hanging
same_hanging None b = refl
same_hanging (Some above) b = refl
