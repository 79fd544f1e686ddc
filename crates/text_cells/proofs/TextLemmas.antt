-- Wide texts.
use Rattle.std.specs.Prelude.{◌≡◌, ◌+◌, ◌-◌, ◌≤◌, ◌<◌, [], ◌∷◌, ◌++◌, ◌==◌, if◌then◌else◌, Bool, IsTrue, List, false}
use Rattle.std.specs.Prelude.{length, map, min, refl, suc, true, ℕ}
use Rattle.std.proofs.Common.{sym, ap, subst, ◌∙◌, arith}
use Rattle.std.proofs.lemmas.Bool.Decides.{nat_tests}
use Rattle.std.proofs.lemmas.List.{append-nil}
use Rattle.std.proofs.lemmas.List.Elements.{All-push, All-append, All-weaker, All-tail, All-head}
use Rattle.text_lines.specs.Columns.{text_columns}
use Rattle.text_lines.specs.Tagged.{Item, character, marker, line_columns, line_items, line_text}
use Rattle.text_lines.specs.declared.tagged_line.TaggedLine.{TaggedLine}
use Rattle.text_lines.proofs.Joins.{elements_characters}
use Rattle.text_borders.specs.Lines.{text}
use Rattle.text_borders.specs.Across.{spaces}
use Rattle.text_pieces.specs.Items.{has_text}
use Rattle.text_cells.specs.Texts.{laid_text_of, row_text, in_row, text_count, IsWide, AreWide}
use Rattle.text_cells.specs.declared.laid_line.LaidText.{LaidText}

abbrev pub weight : {T : Type 0} → LaidText T → ℕ
weight t = if t.content then 1 else 0

none_more : (n : ℕ) → 0 + n ≡ n
none_more n = omega arith

shifted : (a n m k : ℕ) → n ≡ m + k → a + n ≡ (a + m) + k
shifted a n m k e = omega arith

pub count_append : {T : Type 0} (ts us : List (LaidText T)) → text_count (ts ++ us) ≡ text_count ts + text_count us
count_append [] us = sym (none_more (text_count us))
count_append (t ∷ ts) us = shifted (weight t) (text_count (ts ++ us)) (text_count ts) (text_count us) (count_append ts us)

pub count_push : {T : Type 0} (ts new : List (LaidText T)) (line : TaggedLine T) (content : Bool) (n more m : ℕ)
    → n ≡ text_count ts → more ≡ (if content then 1 else 0) → m ≡ n + more
    → new ≡ ts ++ record { line = line; content = content } ∷ [] → m ≡ text_count new
count_push {T = T} ts new line content n more m e f g h =
    let t : LaidText T = record { line = line; content = content } in
    sums n more m (text_count ts) (weight t) (text_count (ts ++ t ∷ [])) e f g (count_append ts (t ∷ []))
    ∙ ap (λ ls. text_count ls) (sym h)
  where
    sums : (n more m a b k : ℕ) → n ≡ a → more ≡ b → m ≡ n + more → k ≡ a + (b + 0) → m ≡ k
    sums n more m a b k e f g h = omega arith

pub count_joined : {T : Type 0} (ts us all : List (LaidText T)) (n k m : ℕ) → n ≡ text_count ts → k ≡ text_count us
    → m ≡ n + k → all ≡ ts ++ us → m ≡ text_count all
count_joined ts us all n k m e f g h =
    sums n k m (text_count ts) (text_count us) (text_count (ts ++ us)) e f g (count_append ts us)
    ∙ ap (λ ls. text_count ls) (sym h)
  where
    sums : (n k m a b s : ℕ) → n ≡ a → k ≡ b → m ≡ n + k → s ≡ a + b → m ≡ s
    sums n k m a b s e f g h = omega arith

pub count_popped : {T : Type 0} (old ts : List (LaidText T)) (t : LaidText T) (n less m : ℕ) → n ≡ text_count old
    → less ≡ weight t → m ≡ n - less → old ≡ t ∷ ts → m ≡ text_count ts
count_popped old ts t n less m e f g h =
    left n less m (weight t) (text_count ts) (e ∙ ap (λ ls. text_count ls) h) f g
  where
    left : (n less m w k : ℕ) → n ≡ w + k → less ≡ w → m ≡ n - less → m ≡ k
    left n less m w k e f g = omega arith

-- ---- widths

pub text_width : {T S : Type 0} (seen : T → S) (line : TaggedLine T)
    → line_columns (line_items seen line) ≡ text_columns (line_text line)
text_width seen line = ap text_columns (elements_characters seen line.elements.items)

weaker : {T : Type 0} (ts : List (LaidText T)) (least columns : ℕ) → least ≤ columns → AreWide columns ts
    → AreWide least ts
weaker ts least columns less wide =
    All-weaker (IsWide columns) (IsWide least) (λ t h. at least columns (text_columns (line_text t.line)) less h) ts wide
  where
    at : (a b c : ℕ) → a ≤ b → b ≤ c → a ≤ c
    at a b c h k = omega arith

pub wide_push : {T S : Type 0} (seen : T → S) (ts new : List (LaidText T)) (line : TaggedLine T) (content : Bool)
    (columns width least : ℕ) → AreWide columns ts → width ≡ line_columns (line_items seen line)
    → least ≡ min columns width → new ≡ ts ++ record { line = line; content = content } ∷ [] → AreWide least new
wide_push {T = T} seen ts new line content columns width least wide measured is pushed =
    let t : LaidText T = record { line = line; content = content } in
    let first : least ≤ columns = lower columns width least is in
    let second : least ≤ text_columns (line_text t.line) =
    subst (λ n. least ≤ n) (measured ∙ text_width seen t.line) (upper columns width least is) in
    subst (AreWide least) (sym pushed) (All-push (IsWide least) ts t (weaker ts least columns first wide) second)
  where
    lower : (a b m : ℕ) → m ≡ min a b → m ≤ a
    lower a b m e = omega arith

    upper : (a b m : ℕ) → m ≡ min a b → m ≤ b
    upper a b m e = omega arith

pub wide_joined : {T : Type 0} (ts us all : List (LaidText T)) (a b least : ℕ) → AreWide a ts → AreWide b us
    → least ≡ min a b → all ≡ ts ++ us → AreWide least all
wide_joined ts us all a b least first second is joined =
    subst (AreWide least) (sym joined) (All-append (IsWide least) ts us (weaker ts least a (lower a b least is) first)
    (weaker us least b (upper a b least is) second))
  where
    lower : (a b m : ℕ) → m ≡ min a b → m ≤ a
    lower a b m e = omega arith

    upper : (a b m : ℕ) → m ≡ min a b → m ≤ b
    upper a b m e = omega arith

pub wide_popped : {T : Type 0} (old ts : List (LaidText T)) (t : LaidText T) (columns : ℕ) → AreWide columns old
    → old ≡ t ∷ ts → AreWide columns ts
wide_popped old ts t columns wide is = All-tail (IsWide columns) t ts (subst (AreWide columns) is wide)

-- ---- texts that a row leaves as they are

at_most : {T : Type 0} (ts : List (LaidText T)) → text_count ts ≤ length ts
at_most [] = omega arith
at_most (t ∷ ts) = more t.content (text_count ts) (length ts) (at_most ts)
  where
    more : (b : Bool) (n k : ℕ) → n ≤ k → (if b then 1 else 0) + n ≤ suc k
    more true n k h = omega arith
    more false n k h = omega arith

-- where so many have content as there are, each has
first_content : {T : Type 0} (t : LaidText T) (ts : List (LaidText T)) → text_count (t ∷ ts) ≡ length (t ∷ ts)
    → t.content ≡ true
first_content t ts e = by t.content (text_count ts) (length ts) (at_most ts) e
  where
    by : (b : Bool) (n k : ℕ) → n ≤ k → (if b then 1 else 0) + n ≡ suc k → b ≡ true
    by true n k h e = refl
    by false n k h e = (let no : ⊥ = omega arith in elim no [ ])

others_content : {T : Type 0} (t : LaidText T) (ts : List (LaidText T)) → text_count (t ∷ ts) ≡ length (t ∷ ts)
    → text_count ts ≡ length ts
others_content t ts e = by t.content (text_count ts) (length ts) (at_most ts) e
  where
    by : (b : Bool) (n k : ℕ) → n ≤ k → (if b then 1 else 0) + n ≡ suc k → n ≡ k
    by true n k h e = omega arith
    by false n k h e = (let no : ⊥ = omega arith in elim no [ ])

some_text : {S : Type 0} (items : List (Item S)) → 0 < line_columns items → has_text items ≡ true
some_text [] h = (let no : ⊥ = omega arith in elim no [ ])
some_text (character c tag ∷ items) h = refl
some_text (marker name ∷ items) h = some_text items h

one_kept : {T S : Type 0} (seen : T → S) (width : ℕ) (tag : S) (t : LaidText T) → 0 < width → IsWide width t
    → t.content ≡ true → row_text width tag (text (line_items seen t.line)) ≡ laid_text_of seen t
one_kept seen width tag t some wide content =
    let items = line_items seen t.line in
    let enough : width ≤ line_columns items = subst (λ n. width ≤ n) (sym (text_width seen t.line)) wide in
    let same : items ++ spaces (width - line_columns items) tag ≡ items =
    ap (λ n. items ++ spaces n tag) (nothing width (line_columns items) enough) ∙ append-nil items in
    ap (λ ls. record { line = text ls; content = has_text ls }) same
    ∙ ap (λ b. record { line = text items; content = b })
    (some_text items (inside width (line_columns items) some enough) ∙ sym content)
  where
    nothing : (a b : ℕ) → a ≤ b → a - b ≡ 0
    nothing a b h = omega arith

    inside : (a b : ℕ) → 0 < a → a ≤ b → 0 < b
    inside a b h k = omega arith

pub all_kept : {T S : Type 0} (seen : T → S) (width columns : ℕ) (tag : S) (ts : List (LaidText T)) → 0 < width
    → width ≤ columns → AreWide columns ts → text_count ts ≡ length ts
    → map (in_row width tag) (map (laid_text_of seen) ts) ≡ map (laid_text_of seen) ts
all_kept seen width columns tag [] some less wide full = refl
all_kept seen width columns tag (t ∷ ts) some less wide full =
    ap (λ l. l ∷ map (in_row width tag) (map (laid_text_of seen) ts)) (one_kept seen width tag t some
    (All-head (IsWide width) t ts (weaker (t ∷ ts) width columns less wide)) (first_content t ts full))
    ∙ ap (λ ls. laid_text_of seen t ∷ ls) (all_kept seen width columns tag ts some less
    (All-tail (IsWide columns) t ts wide) (others_content t ts full))

pub as_many : {T : Type 0} (ts : List (LaidText T)) (n k : ℕ) → IsTrue (n == k) → n ≡ text_count ts → k ≡ length ts
    → text_count ts ≡ length ts
as_many ts n k full counted long = sym counted ∙ (equal n k full ∙ long)
  where
    equal : (n k : ℕ) → IsTrue (n == k) → n ≡ k
    equal n k h = grind (arith, nat_tests, h)
