-- Siblings that are put before others, and taken.
use Rattle.std.proofs.Common.{◌≡◌, ◌+◌, ◌<◌, [], ◌∷◌, ◌++◌, ◌∙◌, List, ap, append-nil, append_assoc, ap₂, arith, length}
use Rattle.std.proofs.Common.{replicate, sym, ℕ}
use Rattle.std.proofs.lemmas.List.{length-append}
use Rattle.tree_forest.specs.Forest.{Forest, Kind, children_at, comment, contents_of, doctype, document, element}
use Rattle.tree_forest.specs.Forest.{instruction, kind_at, nodes, text}
use Rattle.html_render_dom.specs.ChildNodes.{children_left}
use Rattle.html_render_dom.specs.Numbers.{number_of}
use Rattle.html_render_dom.specs.declared.node.Handle.{Handle}
use Rattle.test_tree_lines.specs.ToCome.{IsStep, lines_in, lines_to_come}
use Rattle.test_tree_lines.specs.TreeLines.{held_by, kind_lines, lines_within, node_lines, row_lines}
use Rattle.test_tree_lines.specs.declared.coming.Coming.{Coming}

pub to_come-push : (f : Forest) (cs : List Coming) (c : Coming)
    → lines_to_come f (cs ++ c ∷ []) ≡ lines_in f c ++ lines_to_come f cs
to_come-push f [] c = sym (append-nil (lines_in f c))
to_come-push f (x ∷ cs) c =
    ap (λ l. l ++ lines_in f x) (to_come-push f cs c) ∙ append_assoc (lines_in f c) (lines_to_come f cs) (lines_in f x)

-- siblings that are pushed come next
pub row_pushed : (f : Forest) (cs new : List Coming) (level : ℕ) (left others : List ℕ) (n : Handle)
    → left ≡ number_of n ∷ others → new ≡ cs ++ record { node = n; others = others; level = level } ∷ []
    → lines_to_come f new ≡ row_lines f level left ++ lines_to_come f cs
row_pushed f cs new level left others n first pushed =
    ap (lines_to_come f) pushed ∙ to_come-push f cs (record { node = n; others = others; level = level })
    ∙ ap (λ ns. row_lines f level ns ++ lines_to_come f cs) (sym first)

some_after : (xs ys : List ℕ) → 0 < length ys → 0 < length (xs ++ ys)
some_after xs ys h = omega (arith, length-append xs ys, h)

-- each node has a line
kind_some : (level : ℕ) (kind : Kind) → 0 < length (kind_lines level kind)
kind_some level document = omega arith
kind_some level (doctype name public system) = omega arith
kind_some level (text cs) = omega arith
kind_some level (comment cs) = omega arith
kind_some level (instruction target cs) = omega arith
kind_some level (element e) = omega arith

node_some : (level : ℕ) (kind : Kind) → 0 < length (node_lines level kind)
node_some level kind = some_after (replicate level 32) (kind_lines level kind) (kind_some level kind)

abbrev pub Law : Forest → Type 0
Law f = (level n : ℕ) → lines_within (nodes f) f level n
    ≡ node_lines level (kind_at n f) ++ (row_lines f (level + 2) (held_by (contents_of n f) f)
    ++ row_lines f (level + 1) (children_at n f))

-- own lines, contents, children and the others, and what waits
moved : (a b c d e : List ℕ) → a ++ (b ++ (c ++ (d ++ e))) ≡ ((a ++ (b ++ c)) ++ d) ++ e
moved a b c d e =
    ap (λ l. a ++ l) (sym (append_assoc b c (d ++ e))) ∙ sym (append_assoc a (b ++ c) (d ++ e))
    ∙ sym (append_assoc (a ++ (b ++ c)) d e)

-- the lines of the first node, and what is to come then, are what was to come
next_whole : (f : Forest) (first : Coming) (below : ℕ) (children : List ℕ) (waiting beside under within : List ℕ)
    → Law f → below ≡ first.level + 1 → children ≡ children_at (number_of first.node) f
    → beside ≡ row_lines f first.level (children_left first.others) ++ waiting
    → under ≡ row_lines f below children ++ beside
    → within ≡ row_lines f (below + 1) (held_by (contents_of (number_of first.node) f) f) ++ under
    → node_lines first.level (kind_at (number_of first.node) f) ++ within ≡ lines_in f first ++ waiting
next_whole f first below children waiting beside under within law deep is e d c =
    let n = number_of first.node in
    let own = node_lines first.level (kind_at n f) in
    let held = held_by (contents_of n f) f in
    let others = row_lines f first.level (children_left first.others) in
    let further : below + 1 ≡ first.level + 2 = omega (arith, deep) in
    ap (λ l. own ++ l)
    (c ∙ ap₂ (λ k l. row_lines f k held ++ l) further
    (d ∙ ap₂ (λ k l. row_lines f k children ++ l) deep e
    ∙ ap (λ ns. row_lines f (first.level + 1) ns ++ (others ++ waiting)) is))
    ∙ moved own (row_lines f (first.level + 2) held) (row_lines f (first.level + 1) (children_at n f)) others waiting
    ∙ ap (λ l. (l ++ others) ++ waiting) (sym (law first.level n))

pub next_step : (f : Forest) (first : Coming) (below : ℕ) (children lines more : List ℕ) (cs ds : List Coming)
    (beside under : List ℕ) → Law f → below ≡ first.level + 1 → children ≡ children_at (number_of first.node) f
    → more ≡ lines ++ node_lines first.level (kind_at (number_of first.node) f)
    → beside ≡ row_lines f first.level (children_left first.others) ++ lines_to_come f cs
    → under ≡ row_lines f below children ++ beside
    → lines_to_come f ds ≡ row_lines f (below + 1) (held_by (contents_of (number_of first.node) f) f) ++ under
    → IsStep f first lines cs more ds
next_step f first below children lines more cs ds beside under law deep is written e d c =
    let own = node_lines first.level (kind_at (number_of first.node) f) in
    let all = lines_to_come f ds in
    let whole : own ++ all ≡ lines_in f first ++ lines_to_come f cs =
    next_whole f first below children (lines_to_come f cs) beside under all law deep is e d c in
    let some : 0 < length own = node_some first.level (kind_at (number_of first.node) f) in
    let sum : length (own ++ all) ≡ length own + length all = length-append own all in
    let same : length (own ++ all) ≡ length (lines_in f first ++ lines_to_come f cs) = ap length whole in (
      ap (λ l. l ++ all) written ∙ append_assoc lines own all ∙ ap (λ l. lines ++ l) whole,
      omega (arith, some, sum, same),
    )

-- the last that waits is taken
pub popped : (f : Forest) (cs new : List Coming) (first : Coming) → cs ≡ new ++ first ∷ []
    → lines_to_come f cs ≡ lines_in f first ++ lines_to_come f new
popped f cs new first e = ap (lines_to_come f) e ∙ to_come-push f new first
