-- Siblings that are put before others, and taken.
use Rattle.std.proofs.Common.{◌≡◌, ◌+◌, ◌<◌, [], ◌∷◌, ◌++◌, ◌∙◌, ◌-◌, List, ap, append-nil, append_assoc, ap₂, arith}
use Rattle.std.proofs.Common.{length, refl, subst, sym, take, ℕ}
use Rattle.std.specs.Prelude.{replicate, MatchOption, Option, None, Some, option_to_list}
use Rattle.std.proofs.lemmas.List.{length-append}
use Rattle.std.specs.Str.{chars}
use Rattle.tree_forest.specs.Forest.{Forest, Kind, children_at, kind_at, nodes}
use Rattle.html_render_dom.specs.ChildNodes.{children_left}
use Rattle.html_render_dom.specs.Numbers.{handle_of, number_of}
use Rattle.html_render_dom.specs.declared.node.Handle.{Handle}
use Rattle.dom_writing.specs.Dumps.{dump_within, joined, kind_text, line_text}
use Rattle.dom_writing.specs.ToCome.{IsStep, all_of, lines_of, lines_to_come, row}
use Rattle.dom_writing.specs.declared.coming.Coming.{Coming}

pub to_come-push : (f : Forest) (cs : List Coming) (c : Coming)
    → lines_to_come f (cs ++ c ∷ []) ≡ lines_of f c ++ lines_to_come f cs
to_come-push f [] c = sym (append-nil (lines_of f c))
to_come-push f (x ∷ cs) c =
    ap (λ l. l ++ lines_of f x) (to_come-push f cs c) ∙ append_assoc (lines_of f c) (lines_to_come f cs) (lines_of f x)

abbrev pub Law : Forest → Type 0
Law f = (level n : ℕ) → dump_within (nodes f) f level n
    ≡ line_text level (kind_at n f) ++ joined (dump_within (nodes f) f (level + 1)) (children_at n f)

ends_some : (a : List ℕ) (c : ℕ) → 0 < length (a ++ c ∷ [])
ends_some a c = omega (arith, length-append a (c ∷ []))

line_some : (level : ℕ) (kind : Kind) → 0 < length (line_text level kind)
line_some level kind = ends_some (replicate level 0x20 ++ kind_text kind) 0xA

-- the first of some siblings, with the others after it
pub row-put : (level : ℕ) (left others : List ℕ) (n : Handle) → left ≡ number_of n ∷ others
    → Some (record { node = n; others = others; level = level }) ≡ row level left
row-put level left others n e = ap (row level) (sym e)

pub to_come-row : (f : Forest) (cs : List Coming) (level : ℕ) (ns : List ℕ)
    → lines_to_come f (cs ++ option_to_list (row level ns))
    ≡ joined (dump_within (nodes f) f level) ns ++ lines_to_come f cs
to_come-row f cs level [] = ap (lines_to_come f) (append-nil cs)
to_come-row f cs level (n ∷ ns) = to_come-push f cs (record { node = handle_of n; others = ns; level = level })

-- the first of some siblings is written: what waits then, and what comes next
pub to_come_next : (f : Forest) (cs all : List Coming) (level below : ℕ) (others children : List ℕ) →
    all ≡ (cs ++ option_to_list (row level others)) ++ option_to_list (row below children) →
    lines_to_come f all ≡ joined (dump_within (nodes f) f below) children
    ++ (joined (dump_within (nodes f) f level) others ++ lines_to_come f cs)
to_come_next f cs all level below others children e = ap (lines_to_come f) e
    ∙ (to_come-row f (cs ++ option_to_list (row level others)) below children
    ∙ ap (λ v. joined (dump_within (nodes f) f below) children ++ v) (to_come-row f cs level others))

moved : (a t b c d : List ℕ) → (a ++ t) ++ (b ++ (c ++ d)) ≡ a ++ (((t ++ b) ++ c) ++ d)
moved a t b c d = append_assoc a t (b ++ (c ++ d))
    ∙ ap (λ v. a ++ v) (sym (append_assoc t b (c ++ d)) ∙ sym (append_assoc (t ++ b) c d))

pub next_written : (f : Forest) (level below n : ℕ) (others children : List ℕ) (cs all : List Coming)
    (lines more : List ℕ) → Law f → below ≡ level + 1 → more ≡ lines ++ line_text level (kind_at n f) →
    all ≡ (cs ++ option_to_list (row level others)) ++ option_to_list (row below children) →
    children ≡ children_at n f →
    more ++ lines_to_come f all ≡ lines ++ (joined (dump_within (nodes f) f level) (n ∷ others) ++ lines_to_come f cs)
next_written f level below n others children cs all lines more law deep written e is =
    let line = line_text level (kind_at n f) in
    let deeper = joined (dump_within (nodes f) f (level + 1)) (children_at n f) in
    let beside = joined (dump_within (nodes f) f level) others in
    let below-is : joined (dump_within (nodes f) f below) children ≡ deeper =
    ap₂ (λ k ns. joined (dump_within (nodes f) f k) ns) deep is in
    ap₂ (λ a b. a ++ b) written (to_come_next f cs all level below others children e
    ∙ ap (λ a. a ++ (beside ++ lines_to_come f cs)) below-is)
    ∙ (moved lines line deeper beside (lines_to_come f cs)
    ∙ ap (λ v. lines ++ ((v ++ beside) ++ lines_to_come f cs)) (sym (law level n)))

pub next_fewer : (f : Forest) (level below n : ℕ) (others children : List ℕ) (cs all : List Coming) → Law f →
    below ≡ level + 1 → all ≡ (cs ++ option_to_list (row level others)) ++ option_to_list (row below children) →
    children ≡ children_at n f → length (lines_to_come f all)
    < length (joined (dump_within (nodes f) f level) (n ∷ others) ++ lines_to_come f cs)
next_fewer f level below n others children cs all law deep e is =
    let line = line_text level (kind_at n f) in
    let some : 0 < length line = line_some level (kind_at n f) in
    let whole : line ++ lines_to_come f all
    ≡ joined (dump_within (nodes f) f level) (n ∷ others) ++ lines_to_come f cs =
    next_written f level below n others children cs all [] line law deep refl e is in
    let sum : length (line ++ lines_to_come f all) ≡ length line + length (lines_to_come f all) =
    length-append line (lines_to_come f all) in
    let whole-length : length (line ++ lines_to_come f all)
    ≡ length (joined (dump_within (nodes f) f level) (n ∷ others) ++ lines_to_come f cs) = ap length whole in
    omega (arith, some, sum, whole-length)

pub next_step : (f : Forest) (first : Coming) (below : ℕ) (children : List ℕ) (cs all : List Coming)
    (lines more : List ℕ) → Law f → below ≡ first.level + 1 →
    more ≡ lines ++ line_text first.level (kind_at (number_of first.node) f) →
    children ≡ children_at (number_of first.node) f →
    all ≡ (cs ++ option_to_list (row first.level (children_left first.others)))
    ++ option_to_list (row below children) → IsStep f lines (all_of (Some first) cs) more all
next_step f first below children cs all lines more law deep written is e =
    let n = number_of first.node in
    let others = children_left first.others in
    let put : lines_to_come f (cs ++ first ∷ []) ≡ lines_of f first ++ lines_to_come f cs = to_come-push f cs first in
    let whole = next_written f first.level below n others children cs all lines more law deep written e is in
    let fewer = next_fewer f first.level below n others children cs all law deep e is in
    (whole ∙ ap (λ v. lines ++ v) (sym put), subst (λ v. length (lines_to_come f all) < length v) (sym put) fewer)

abbrev After : List Coming → ℕ → List ℕ → ℕ → List ℕ → List Coming
After cs level others below children =
    (cs ++ option_to_list (row level others)) ++ option_to_list (row below children)

-- children come next, and the others wait
pub both_next : (cs new : List Coming) (level below : ℕ) (others more children rest : List ℕ) (other child : Handle) →
    others ≡ number_of other ∷ more → children ≡ number_of child ∷ rest →
    new ≡ cs ++ record { node = other; others = more; level = level } ∷ [] →
    all_of (Some (record { node = child; others = rest; level = below })) new ≡ After cs level others below children
both_next cs new level below others more children rest other child o e put =
    ap (λ v. v ++ record { node = child; others = rest; level = below } ∷ []) put
    ∙ ap₂ (λ a b. After cs level a below b) (sym o) (sym e)

-- there are no others
pub children_next : (cs : List Coming) (level below : ℕ) (others children rest : List ℕ) (child : Handle) →
    others ≡ [] → children ≡ number_of child ∷ rest →
    all_of (Some (record { node = child; others = rest; level = below })) cs ≡ After cs level others below children
children_next cs level below others children rest child o e =
    ap (λ v. v ++ record { node = child; others = rest; level = below } ∷ []) (sym (append-nil cs))
    ∙ ap₂ (λ a b. After cs level a below b) (sym o) (sym e)

-- there are no children
pub others_next : (cs : List Coming) (level below : ℕ) (others more children : List ℕ) (other : Handle) →
    others ≡ number_of other ∷ more → children ≡ [] →
    all_of (Some (record { node = other; others = more; level = level })) cs ≡ After cs level others below children
others_next cs level below others more children other o e =
    sym (append-nil (cs ++ record { node = other; others = more; level = level } ∷ []))
    ∙ ap₂ (λ a b. After cs level a below b) (sym o) (sym e)

-- there are neither: what has waited comes next
pub popped_next : (cs new : List Coming) (last : Option Coming) (count : ℕ) (Less : Type 0) (More : Coming → Type 0)
    (level below : ℕ) (others children : List ℕ) → others ≡ [] → children ≡ [] → cs ≡ new ++ option_to_list last →
    MatchOption last ((count ≡ 0) × Less) More → new ≡ take (count - 1) cs →
    all_of last new ≡ After cs level others below children
popped_next cs new last count Less More level below others children o e is cases rest =
    popped cs new last count Less More is cases rest
    ∙ (sym (append-nil cs) ∙ (sym (append-nil (cs ++ []))
    ∙ ap₂ (λ a b. After cs level a below b) (sym o) (sym e)))
  where
    popped : (cs new : List Coming) (last : Option Coming) (count : ℕ) (Less : Type 0) (More : Coming → Type 0) →
        cs ≡ new ++ option_to_list last → MatchOption last ((count ≡ 0) × Less) More → new ≡ take (count - 1) cs →
        all_of last new ≡ cs
    popped cs new None count Less More is cases rest =
        sym (is ∙ (append-nil new ∙ (rest ∙ ap (λ n. take (n - 1) cs) cases.0)))
    popped cs new (Some c) count Less More is cases rest = sym is

-- at first a node is written, and its children are to come
pub first_to_come : (f : Forest) (n : ℕ) (children lines more : List ℕ) (none : List Coming) (next : Option Coming) →
    Law f → lines ≡ chars [] → more ≡ lines ++ line_text 0 (kind_at n f) → none ≡ [] → next ≡ row 1 children →
    children ≡ children_at n f → more ++ lines_to_come f (all_of next none) ≡ dump_within (nodes f) f 0 n
unfolding chars
first_to_come f n children lines more none next law empty written is put below =
    ap₂ (λ a b. a ++ b) (written ∙ ap (λ v. v ++ line_text 0 (kind_at n f)) empty)
    (ap₂ (λ a b. lines_to_come f (all_of a b)) put is ∙ (first_row f children
    ∙ ap (joined (dump_within (nodes f) f 1)) below))
    ∙ sym (law 0 n)
  where
    first_row : (f : Forest) (ns : List ℕ)
        → lines_to_come f (all_of (row 1 ns) []) ≡ joined (dump_within (nodes f) f 1) ns
    first_row f [] = refl
    first_row f (n ∷ ns) = refl
