-- Lines of a block: those by themselves, and wide texts among them.
use Rattle.std.specs.Prelude.{◌≡◌, ◌+◌, ◌<◌, [], ◌∷◌, ◌++◌, ◌==◌, if◌then◌else◌, All, Bool, Err, IfSome, List, None, Ok}
use Rattle.std.specs.Prelude.{OnOk, Option, Result, Some, false, fold, is_ok, length, map, not, option_to_list, refl}
use Rattle.std.specs.Prelude.{suc, true, ℕ}
use Rattle.std.proofs.Common.{sym, ap, subst, ◌∙◌, arith}
use Rattle.std.proofs.lemmas.Bool.Decides.{nat_tests}
use Rattle.std.proofs.lemmas.List.{append-nil, append_assoc, map-append}
use Rattle.std.proofs.lemmas.List.Elements.{All-nil, All-push, All-pop, All-append, All-head, All-tail}
use Rattle.text_borders.specs.Borders.{Border}
use Rattle.text_borders.specs.Lines.{BlockLine, text, border, IsJoinedText}
use Rattle.text_borders.specs.Across.{CellLine}
use Rattle.text_cells.specs.Texts.{laid_line_of, laid_text_of, content_count}
use Rattle.text_pieces.specs.Sources.{is_filled}
use Rattle.text_cells.specs.Ends.{border_line, last_border, first_border, rest_after, without_first}
use Rattle.text_cells.specs.Cells.{texts_of, part_lines, parts_lines, texts_content, parts_content, AreLinesJoined}
use Rattle.text_cells.specs.declared.laid_line.LaidLine.{LaidLine}
use Rattle.text_cells.specs.declared.laid_line.LaidText.{LaidText}
use Rattle.text_cells.specs.declared.wide_texts.WideTexts.{WideTexts}
use Rattle.text_cells.specs.declared.part.Part.{Part}

abbrev weight : {T : Type 0} → LaidLine T → ℕ
weight l = if l.content then 1 else 0

-- ---- how many have content

none_more : (n : ℕ) → 0 + n ≡ n
none_more n = omega arith

shifted : (a n m k : ℕ) → n ≡ m + k → a + n ≡ (a + m) + k
shifted a n m k e = omega arith

pub content_append : {T : Type 0} (ls ms : List (LaidLine T))
    → content_count (ls ++ ms) ≡ content_count ls + content_count ms
content_append [] ms = sym (none_more (content_count ms))
content_append (l ∷ ls) ms =
    shifted (weight l) (content_count (ls ++ ms)) (content_count ls) (content_count ms) (content_append ls ms)

pub content_more : {T : Type 0} (parts : List (Part T)) (old more new : List (LaidLine T)) → new ≡ old ++ more
    → parts_content parts + content_count new ≡ (parts_content parts + content_count old) + content_count more
content_more parts old more new e =
    shifted (parts_content parts) (content_count new) (content_count old) (content_count more)
    (ap (λ ls. content_count ls) e ∙ content_append old more)

pub content_on_ok : {T R E : Type 0} (parts : List (Part T)) (old more new : List (LaidLine T)) (r : Result R E)
    → new ≡ (if is_ok r then old ++ more else old)
    → OnOk r (parts_content parts + content_count new ≡ (parts_content parts + content_count old) + content_count more)
content_on_ok parts old more new (Ok x) e = content_more parts old more new e
content_on_ok parts old more new (Err x) e = tt

pub content_popped : {T : Type 0} (parts : List (Part T)) (old new : List (LaidLine T)) (r : Option (LaidLine T))
    → old ≡ new ++ option_to_list r → IfSome r (λ l. parts_content parts + content_count old
    ≡ (parts_content parts + content_count new) + content_count (l ∷ []))
content_popped parts old new None e = tt
content_popped parts old new (Some l) e = content_more parts new (l ∷ []) old e

parts_content_append : {T : Type 0} (parts : List (Part T)) (p : Part T) → parts_content (parts ++ p ∷ [])
    ≡ parts_content parts + (content_count p.before.items + texts_content p.texts)
parts_content_append [] p = last (content_count p.before.items + texts_content p.texts)
  where
    last : (n : ℕ) → n + 0 ≡ 0 + n
    last n = omega arith
parts_content_append (q ∷ parts) p =
    shifted (content_count q.before.items + texts_content q.texts) (parts_content (parts ++ p ∷ []))
    (parts_content parts) (content_count p.before.items + texts_content p.texts) (parts_content_append parts p)

pub content_texts : {T : Type 0} (parts new now : List (Part T)) (p : Part T) (old lines : List (LaidLine T))
    (texts : WideTexts T) → new ≡ now ++ p ∷ [] → now ≡ parts → p.before.items ≡ old → p.texts ≡ texts → lines ≡ []
    → parts_content new + content_count lines ≡ (parts_content parts + content_count old) + texts_content texts
content_texts parts new now p old lines texts e same before taken none =
    sums (parts_content new) (content_count lines) (parts_content parts) (content_count old) (texts_content texts)
    (ap (λ ps. parts_content ps) (e ∙ ap (λ ps. ps ++ p ∷ []) same) ∙ parts_content_append parts p
    ∙ ap (λ ls. parts_content parts + (content_count ls + texts_content p.texts)) before
    ∙ ap (λ ts. parts_content parts + (content_count old + texts_content ts)) taken)
    (ap (λ ls. content_count ls) none)
  where
    sums : (n z a b k : ℕ) → n ≡ a + (b + k) → z ≡ 0 → n + z ≡ (a + b) + k
    sums n z a b k e f = omega arith

-- ---- the lines

pub parts_append : {T S : Type 0} (seen : T → S) (parts : List (Part T)) (p : Part T)
    → parts_lines seen (parts ++ p ∷ []) ≡ parts_lines seen parts ++ part_lines seen p
parts_append seen [] p = append-nil (part_lines seen p)
parts_append seen (q ∷ parts) p =
    ap (λ ls. part_lines seen q ++ ls) (parts_append seen parts p)
    ∙ sym (append_assoc (part_lines seen q) (parts_lines seen parts) (part_lines seen p))

pub texts_added : {T S : Type 0} (seen : T → S) (parts new now : List (Part T)) (p : Part T)
    (old lines : List (LaidLine T)) (texts : WideTexts T) → new ≡ now ++ p ∷ [] → now ≡ parts
    → p.before.items ≡ old → p.texts ≡ texts → lines ≡ []
    → parts_lines seen new ++ map (laid_line_of seen) lines
    ≡ (parts_lines seen parts ++ map (laid_line_of seen) old) ++ texts_of seen texts
texts_added seen parts new now p old lines texts e same before taken none =
    ap (λ ps. parts_lines seen ps ++ map (laid_line_of seen) lines) (e ∙ ap (λ ps. ps ++ p ∷ []) same)
    ∙ ap (λ ls. parts_lines seen (parts ++ p ∷ []) ++ map (laid_line_of seen) ls) none
    ∙ append-nil (parts_lines seen (parts ++ p ∷ [])) ∙ parts_append seen parts p
    ∙ ap (λ ls. parts_lines seen parts ++ (map (laid_line_of seen) ls ++ texts_of seen p.texts)) before
    ∙ ap (λ ts. parts_lines seen parts ++ (map (laid_line_of seen) old ++ texts_of seen ts)) taken
    ∙ sym (append_assoc (parts_lines seen parts) (map (laid_line_of seen) old) (texts_of seen texts))

-- ---- wide texts end with no border, and begin with none

no_border : {T S : Type 0} (seen : T → S) (above : Option (Border S)) (ts : List (LaidText T)) → 0 < length ts
    → fold (λ _ l. border_line l.line) above (map (laid_text_of seen) ts) ≡ None
no_border seen above [] some = (let no : ⊥ = omega (arith, some) in elim no [ ])
no_border seen above (t ∷ []) some = refl
no_border seen above (t ∷ u ∷ ts) some = no_border seen None (u ∷ ts) (omega arith)

folded : {S : Type 0} (above : Option (Border S)) (ls ms : List (CellLine S))
    → fold (λ _ l. border_line l.line) above (ls ++ ms)
    ≡ fold (λ _ l. border_line l.line) (fold (λ _ l. border_line l.line) above ls) ms
folded above [] ms = refl
folded above (l ∷ ls) ms = folded (border_line l.line) ls ms

part_ends : {T S : Type 0} (seen : T → S) (above : Option (Border S)) (p : Part T)
    → fold (λ _ l. border_line l.line) above (part_lines seen p) ≡ None
part_ends seen above p =
    folded above (map (laid_line_of seen) p.before.items) (texts_of seen p.texts)
    ∙ no_border seen (fold (λ _ l. border_line l.line) above (map (laid_line_of seen) p.before.items))
    p.texts.lines.items p.some

parts_end : {T S : Type 0} (seen : T → S) (parts : List (Part T))
    → last_border (parts_lines seen parts) ≡ None
parts_end seen [] = refl
parts_end seen (p ∷ parts) =
    folded None (part_lines seen p) (parts_lines seen parts)
    ∙ ap (λ above. fold (λ _ l. border_line l.line) above (parts_lines seen parts)) (part_ends seen None p)
    ∙ parts_end seen parts

pub none_popped : {T S : Type 0} (seen : T → S) (parts : List (Part T)) (old : List (LaidLine T)) → old ≡ []
    → last_border (parts_lines seen parts ++ map (laid_line_of seen) old) ≡ None
none_popped seen parts old none =
    ap (λ ls. last_border (parts_lines seen parts ++ map (laid_line_of seen) ls)) none
    ∙ ap (λ ls. last_border ls) (append-nil (parts_lines seen parts)) ∙ parts_end seen parts

some_first : {S : Type 0} (front ms : List (CellLine S)) → is_filled front ≡ true → is_filled (front ++ ms) ≡ true
some_first [] ms e = cc
some_first (l ∷ front) ms e = refl

some_texts : {T S : Type 0} (seen : T → S) (lines : List (LaidLine T)) (ts : List (LaidText T)) (ms : List (CellLine S))
    → 0 < length ts → is_filled ((map (laid_line_of seen) lines ++ map (laid_text_of seen) ts) ++ ms) ≡ true
some_texts seen [] [] ms some = (let no : ⊥ = omega (arith, some) in elim no [ ])
some_texts seen [] (t ∷ ts) ms some = refl
some_texts seen (l ∷ lines) ts ms some = refl

pub parts_are_some : {T S : Type 0} (seen : T → S) (parts : List (Part T)) (lines : List (CellLine S)) → 0 < length parts
    → is_filled (parts_lines seen parts ++ lines) ≡ true
parts_are_some seen [] lines some = (let no : ⊥ = omega (arith, some) in elim no [ ])
parts_are_some seen (p ∷ parts) lines some =
    some_first (part_lines seen p ++ parts_lines seen parts) lines (some_texts seen p.before.items
    p.texts.lines.items (parts_lines seen parts) p.some)

first_in : {T S : Type 0} (seen : T → S) (front : List (CellLine S)) (ts : List (LaidText T)) (ms : List (CellLine S))
    → 0 < length ts → first_border ((front ++ map (laid_text_of seen) ts) ++ ms) ≡ first_border front
first_in seen [] [] ms some = (let no : ⊥ = omega (arith, some) in elim no [ ])
first_in seen [] (t ∷ ts) ms some = refl
first_in seen (l ∷ front) ts ms some = refl

trailing : {S : Type 0} (line : BlockLine S) (ls ms rest : List (CellLine S))
    → rest_after line (ls ++ rest) (ms ++ rest) ≡ rest_after line ls ms ++ rest
trailing (text items) ls ms rest = refl
trailing (border b) ls ms rest = refl

without_in : {T S : Type 0} (seen : T → S) (front : List (CellLine S)) (ts : List (LaidText T)) (ms : List (CellLine S))
    → 0 < length ts → without_first ((front ++ map (laid_text_of seen) ts) ++ ms)
    ≡ (without_first front ++ map (laid_text_of seen) ts) ++ ms
without_in seen [] [] ms some = (let no : ⊥ = omega (arith, some) in elim no [ ])
without_in seen [] (t ∷ ts) ms some = refl
without_in seen (l ∷ front) ts ms some =
    trailing l.line (l ∷ front ++ map (laid_text_of seen) ts) (front ++ map (laid_text_of seen) ts) ms
    ∙ ap (λ ls. ls ++ ms) (trailing l.line (l ∷ front) front (map (laid_text_of seen) ts))

pub first_taken : {T S : Type 0} (seen : T → S) (parts rest : List (Part T)) (p : Part T) (lines : List (CellLine S))
    (top : Option (Border S)) → parts ≡ p ∷ rest → top ≡ first_border (map (laid_line_of seen) p.before.items)
    → top ≡ first_border (parts_lines seen parts ++ lines)
first_taken seen parts rest p lines top e f =
    f ∙ sym (ap (λ ps. first_border (parts_lines seen ps ++ lines)) e
    ∙ ap (λ ls. first_border ls) (append_assoc (part_lines seen p) (parts_lines seen rest) lines)
    ∙ first_in seen (map (laid_line_of seen) p.before.items) p.texts.lines.items (parts_lines seen rest ++ lines) p.some)

pub rest_taken : {T S : Type 0} (seen : T → S) (parts rest new : List (Part T)) (p q : Part T)
    (lines : List (CellLine S)) → parts ≡ p ∷ rest → new ≡ q ∷ rest → q.texts ≡ p.texts
    → map (laid_line_of seen) q.before.items ≡ without_first (map (laid_line_of seen) p.before.items)
    → parts_lines seen new ++ lines ≡ without_first (parts_lines seen parts ++ lines)
rest_taken seen parts rest new p q lines e f same left =
    ap (λ ps. parts_lines seen ps ++ lines) f
    ∙ append_assoc (part_lines seen q) (parts_lines seen rest) lines
    ∙ ap (λ ts. (map (laid_line_of seen) q.before.items ++ texts_of seen ts) ++ (parts_lines seen rest ++ lines)) same
    ∙ ap (λ ls. (ls ++ texts_of seen p.texts) ++ (parts_lines seen rest ++ lines)) left
    ∙ sym (ap (λ ps. without_first (parts_lines seen ps ++ lines)) e
    ∙ ap (λ ls. without_first ls) (append_assoc (part_lines seen p) (parts_lines seen rest) lines)
    ∙ without_in seen (map (laid_line_of seen) p.before.items) p.texts.lines.items (parts_lines seen rest ++ lines)
    p.some)

-- ---- joined lines

pub joined_popped : {T S : Type 0} (seen : T → S) (old new : List (LaidLine T)) (r : Option (LaidLine T))
    → old ≡ new ++ option_to_list r → AreLinesJoined seen old → IfSome r (λ l. IsJoinedText seen l.line)
joined_popped seen old new r e joined = (All-pop (λ l. IsJoinedText seen l.line) old new r e joined).1

pub joined_left : {T S : Type 0} (seen : T → S) (old new : List (LaidLine T)) (r : Option (LaidLine T))
    → old ≡ new ++ option_to_list r → AreLinesJoined seen old → AreLinesJoined seen new
joined_left seen old new r e joined = (All-pop (λ l. IsJoinedText seen l.line) old new r e joined).0

pub joined_part : {T S : Type 0} (seen : T → S) (parts new now : List (Part T)) (p : Part T) (old : List (LaidLine T))
    → new ≡ now ++ p ∷ [] → now ≡ parts → p.before.items ≡ old
    → All (λ p. AreLinesJoined seen p.before.items) parts → AreLinesJoined seen old
    → All (λ p. AreLinesJoined seen p.before.items) new
joined_part seen parts new now p old e same before joined last =
    subst (All (λ p. AreLinesJoined seen p.before.items)) (sym (e ∙ ap (λ ps. ps ++ p ∷ []) same))
    (All-push (λ p. AreLinesJoined seen p.before.items) parts p joined
    (subst (AreLinesJoined seen) (sym before) last))

pub joined_none : {T S : Type 0} (seen : T → S) (lines : List (LaidLine T)) → lines ≡ [] → AreLinesJoined seen lines
joined_none seen lines e =
    subst (All (λ l. IsJoinedText seen l.line)) (sym e) (All-nil (λ l. IsJoinedText seen l.line))

-- ---- none

more : (n : ℕ) → (suc n == 0) ≡ false
more n = grind (arith, nat_tests)

pub none_is : {T S : Type 0} (seen : T → S) (parts : List (Part T)) (lines : List (LaidLine T)) (b : Bool)
    → length parts ≡ 0 → b ≡ (length lines == 0)
    → b ≡ not (is_filled (parts_lines seen parts ++ map (laid_line_of seen) lines))
none_is seen [] [] b e f = f
none_is seen [] (l ∷ lines) b e f = f ∙ more (length lines)
none_is seen (p ∷ parts) lines b e f = (let no : ⊥ = omega (arith, e) in elim no [ ])

pub some_are : {T S : Type 0} (seen : T → S) (parts : List (Part T)) (lines : List (CellLine S)) → 0 < length parts
    → false ≡ not (is_filled (parts_lines seen parts ++ lines))
some_are seen parts lines some = sym (ap not (parts_are_some seen parts lines some))

-- ---- lines that are taken one by one

pub one_taken : {B X : Type 0} (view : B → X) (all new : List X) (b : B) (queue rest : List B) (whole : List X)
    → queue ≡ b ∷ rest → new ≡ all ++ view b ∷ [] → all ++ map view queue ≡ whole → new ++ map view rest ≡ whole
one_taken view all new b queue rest whole taken added so_far =
    ap (λ ls. ls ++ map view rest) added ∙ append_assoc all (view b ∷ []) (map view rest)
    ∙ sym (ap (λ bs. all ++ map view bs) taken) ∙ so_far

pub joined_append : {T S : Type 0} (seen : T → S) (ls ms new : List (LaidLine T)) → new ≡ ls ++ ms
    → AreLinesJoined seen ls → AreLinesJoined seen ms → AreLinesJoined seen new
joined_append seen ls ms new e first second =
    subst (AreLinesJoined seen) (sym e) (All-append (λ l. IsJoinedText seen l.line) ls ms first second)

-- ---- parts that are taken one by one

pub part_more : {T S : Type 0} (seen : T → S) (all new whole : List (CellLine S)) (p : Part T) (queue rest : List (Part T))
    → queue ≡ p ∷ rest → new ≡ all ++ part_lines seen p → all ++ parts_lines seen queue ≡ whole
    → new ++ parts_lines seen rest ≡ whole
part_more seen all new whole p queue rest taken added so_far =
    ap (λ ls. ls ++ parts_lines seen rest) added
    ∙ append_assoc all (part_lines seen p) (parts_lines seen rest)
    ∙ sym (ap (λ ps. all ++ parts_lines seen ps) taken) ∙ so_far

pub part_in_row : {T S : Type 0} (seen : T → S) (row : CellLine S → CellLine S) (all mid new whole : List (CellLine S))
    (p : Part T) (before : List (LaidLine T)) (texts : WideTexts T) (queue rest : List (Part T)) → queue ≡ p ∷ rest
    → before ≡ p.before.items → texts ≡ p.texts → mid ≡ all ++ map row (map (laid_line_of seen) before)
    → new ≡ mid ++ map row (texts_of seen texts) → all ++ map row (parts_lines seen queue) ≡ whole
    → new ++ map row (parts_lines seen rest) ≡ whole
part_in_row seen row all mid new whole p before texts queue rest taken first second added more so_far =
    let lines = map row (map (laid_line_of seen) p.before.items) in
    let wide = map row (texts_of seen p.texts) in
    let left = map row (parts_lines seen rest) in
    ap (λ ls. ls ++ left) (more ∙ ap (λ ls. ls ++ map row (texts_of seen texts)) added
    ∙ ap (λ ls. (all ++ map row (map (laid_line_of seen) ls)) ++ map row (texts_of seen texts)) first
    ∙ ap (λ ts. (all ++ lines) ++ map row (texts_of seen ts)) second
    ∙ append_assoc all lines wide)
    ∙ append_assoc all (lines ++ wide) left
    ∙ ap (λ ls. all ++ (ls ++ left)) (sym (map-append row (map (laid_line_of seen) p.before.items)
    (texts_of seen p.texts)))
    ∙ ap (λ ls. all ++ ls) (sym (map-append row (part_lines seen p) (parts_lines seen rest)))
    ∙ sym (ap (λ ps. all ++ map row (parts_lines seen ps)) taken) ∙ so_far

pub parts_joined : {T S : Type 0} (seen : T → S) (p : Part T) (queue rest : List (Part T)) (old new : List (LaidLine T))
    → queue ≡ p ∷ rest
    → (AreLinesJoined seen old → AreLinesJoined seen p.before.items → AreLinesJoined seen new)
    → AreLinesJoined seen old × All (λ p. AreLinesJoined seen p.before.items) queue
    → AreLinesJoined seen new × All (λ p. AreLinesJoined seen p.before.items) rest
parts_joined seen p queue rest old new taken made so_far =
    let left = subst (All (λ p. AreLinesJoined seen p.before.items)) taken so_far.1 in (
      made so_far.0 (All-head (λ p. AreLinesJoined seen p.before.items) p rest left),
      All-tail (λ p. AreLinesJoined seen p.before.items) p rest left,
    )
