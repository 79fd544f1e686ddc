-- A step of letting go leaves less to do.
use Rattle.std.proofs.Common.{◌≡◌, ◌+◌, ◌*◌, ◌<◌, ◌≤◌, ◌==◌, [], ◌∷◌, ◌++◌, ◌∙◌, Global, List, MatchOption, None}
use Rattle.std.proofs.Common.{Option, Some, Vec, ap, arith, false, get_or, length, map, refl, slice_set, suc, sym, ℕ, ℤ}
use Rattle.std.proofs.lemmas.Bool.{eqb-false}
use Rattle.std.proofs.lemmas.Nat.{mul-le}
use Rattle.std.proofs.Math.Nat.{suc-mul}
use Rattle.std.specs.Option.{option_to_list}
use Rattle.article_values.specs.Sizes.{block_size, block_size_step, blocks_size, first_of, inline_size}
use Rattle.article_values.specs.Sizes.{inline_size_step, inlines_size, items_size, size_before, total, with_first, work}
use Rattle.article_values.specs.declared.values.Block.{Block}
use Rattle.article_values.specs.declared.values.Block.TheFolds.{fold-roll-Block}
use Rattle.article_values.specs.declared.values.Block.TheOpen.{Block-F}
use Rattle.article_values.specs.declared.values.Block.TheVariants.{rolls-Bullets, rolls-Division, rolls-Heading}
use Rattle.article_values.specs.declared.values.Block.TheVariants.{rolls-Numbers, rolls-Paragraph, rolls-Quote}
use Rattle.article_values.specs.declared.values.Block.TheVariants as variants
use Rattle.article_values.specs.declared.values.Block.TheViews as block_views
use Rattle.article_values.specs.declared.values.Inline.{Inline}
use Rattle.article_values.specs.declared.values.Inline.TheFolds.{fold-roll-Inline}
use Rattle.article_values.specs.declared.values.Inline.TheOpen.{Inline-F}
use Rattle.article_values.specs.declared.values.Inline.TheVariants.{rolls-Bold}
use Rattle.article_values.specs.declared.values.Inline.TheViews as inline_views

squares : (m n : ℕ) → m < n → m * suc m + m < n * suc n
squares m n h =
    let wider : suc m * suc m ≤ n * suc n = mul-le (suc m) (suc m) n (suc n) (omega arith) (omega arith) in
    let row : suc m * suc m ≡ m * suc m + suc m = suc-mul m (suc m) in
    omega arith

in_hand : (others : List ℕ) (size : ℕ) → size_before others size ≤ size
in_hand [] size = omega arith
in_hand (other ∷ others) size = omega arith

falls : (m n : ℕ) (ms ns : List ℕ) → m + total ms < n + total ns → work m ms < work n ns
falls m n ms ns h =
    let fewer : (m + total ms) * suc (m + total ms) + (m + total ms) < (n + total ns) * suc (n + total ns) =
    squares (m + total ms) (n + total ns) h in
    let held : size_before ms m ≤ m = in_hand ms m in
    omega arith

stays : (m n : ℕ) (ms ns : List ℕ) → m + total ms ≡ n + total ns → size_before ms m < size_before ns n →
    work m ms < work n ns
stays m n ms ns e h =
    let same : (m + total ms) * suc (m + total ms) ≡ (n + total ns) * suc (n + total ns) = ap (λ t. t * suc t) e in
    omega arith

last_counts : {T : Type 0} (size : T → ℕ) (xs : List T) (x : T) →
    total (map size (xs ++ x ∷ [])) ≡ size x + total (map size xs)
last_counts size [] x = omega arith
last_counts size (y ∷ xs) x = let one = last_counts size xs x in omega arith

-- the last is taken out
pub last_taken : {T : Type 0} (A B : Type 0) (size : T → ℕ) (n : ℕ) (all left before : List T) (m : ℕ)
    (taken : Option T) → total (map size all) < n + total (map size before) → all ≡ left ++ option_to_list taken →
    MatchOption taken (A × (m ≡ 0)) (λ x. B) →
    MatchOption taken (m ≡ 0) (λ next. work (size next) (map size left) < work n (map size before))
last_taken A B size n all left before m None h e cases = cases.1
last_taken A B size n all left before m (Some x) h e cases =
    let counted : total (map size all) ≡ size x + total (map size left) = ap (λ xs. total (map size xs)) e
    ∙ last_counts size left x in
    falls (size x) n (map size left) (map size before) (omega arith)

-- what waited is put in the place of the first
pub first_taken : {T : Type 0} (size : T → ℕ) (n : ℕ) (trailing : T) (all before : List T) →
    size trailing + total (map size all) ≡ n + total (map size before) → 0 < length before → total (map size all) < n →
    work (size (first_of trailing all)) (map size (with_first trailing all)) < work n (map size before)
first_taken size n trailing all [] e some h = absurd (omega arith)
first_taken size n trailing [] (b ∷ before) e some h =
    stays (size trailing) n [] (map size (b ∷ before)) e (omega arith)
first_taken size n trailing (x ∷ all) (b ∷ before) e some h =
    stays (size x) n (size trailing ∷ map size all) (map size (b ∷ before)) (omega arith) (omega arith)

pub first_taken_of_fewer : {T : Type 0} (size : T → ℕ) (n : ℕ) (trailing : T) (all before : List T) →
    size trailing + total (map size all) < n + total (map size before) →
    work (size (first_of trailing all)) (map size (with_first trailing all)) < work n (map size before)
first_taken_of_fewer size n trailing [] before h = falls (size trailing) n [] (map size before) h
first_taken_of_fewer size n trailing (x ∷ all) before h =
    falls (size x) n (size trailing ∷ map size all) (map size before) (omega arith)

-- ---- sizes of what waits in a value of its own
pub size_of_bold : (contents : Vec Inline Global) →
    inline_size (inline_views.Bold contents) ≡ suc (inlines_size contents.items)
size_of_bold contents = ap inline_size (sym (rolls-Bold contents))
    ∙ fold-roll-Inline ℕ inline_size_step (Inline-F.Bold contents)

pub size_of_division : (blocks : Vec Block Global) →
    block_size (block_views.Division blocks) ≡ suc (blocks_size blocks.items)
size_of_division blocks = ap block_size (sym (rolls-Division blocks))
    ∙ fold-roll-Block ℕ block_size_step (Block-F.Division blocks)

pub size_of_quote : (blocks : Vec Block Global) →
    block_size (block_views.Quote blocks) ≡ suc (blocks_size blocks.items)
size_of_quote blocks = ap block_size (sym (rolls-Quote blocks))
    ∙ fold-roll-Block ℕ block_size_step (Block-F.Quote blocks)

each_item : {V : Type 0} (seen : Vec Block Global → V) (sizes_of : V → List ℕ) →
    ((blocks : Vec Block Global) → sizes_of (seen blocks) ≡ map block_size blocks.items) →
    (items : List (Vec Block Global)) →
    total (map (λ v. suc (total (sizes_of v))) (map seen items)) ≡ items_size items
each_item seen sizes_of same [] = refl
each_item seen sizes_of same (blocks ∷ items) =
    ap (λ ns. suc (total ns) + total (map (λ v. suc (total (sizes_of v))) (map seen items))) (same blocks)
    ∙ ap (λ n. suc (blocks_size blocks.items) + n) (each_item seen sizes_of same items)

pub size_of_bullets : (items : Vec (Vec Block Global) Global) →
    block_size (block_views.Bullets items) ≡ suc (items_size items.items)
size_of_bullets items = ap block_size (sym (rolls-Bullets items))
    ∙ fold-roll-Block ℕ block_size_step (Block-F.Bullets items)
    ∙ ap suc (each_item _ (λ v. v.items) (λ blocks. refl) items.items)

pub some_wait : (n : ℕ) → (n == 0) ≡ false → 0 < n
some_wait n e = omega (arith, eqb-false n 0 e)

pub items_but_one : (items : List (Vec Block Global)) (last : Vec Block Global) →
    items_size (items ++ last ∷ []) ≡ suc (blocks_size last.items) + items_size items
items_but_one items last = last_counts (λ blocks. suc (blocks_size blocks.items)) items last

pub size_of_paragraph : (inlines : Vec Inline Global) → block_size (variants.Paragraph inlines) ≡ 1
size_of_paragraph inlines =
    ap block_size (sym (rolls-Paragraph inlines)) ∙ fold-roll-Block ℕ block_size_step (Block-F.Paragraph inlines)

pub size_of_heading : (level : ℕ) (inlines : Vec Inline Global) → block_size (variants.Heading level inlines) ≡ 1
size_of_heading level inlines =
    ap block_size (sym (rolls-Heading level inlines))
    ∙ fold-roll-Block ℕ block_size_step (Block-F.Heading level inlines)

pub size_of_numbers : (first : ℤ) (items : Vec (Vec Block Global) Global) →
    block_size (block_views.Numbers first items) ≡ suc (items_size items.items)
size_of_numbers first items =
    ap block_size (sym (rolls-Numbers first items))
    ∙ fold-roll-Block ℕ block_size_step (Block-F.Numbers first items)
    ∙ ap suc (each_item _ (λ v. v.items) (λ blocks. refl) items.items)

pub first_swapped : (items : List (Vec Block Global)) (waited other : Vec Block Global) → 0 < length items →
    blocks_size (get_or items 0 other).items + items_size (slice_set items 0 waited)
    ≡ blocks_size waited.items + items_size items
first_swapped [] waited other some = absurd (omega arith)
first_swapped (first ∷ items) waited other some = omega arith

pub first_is_less : (items : List (Vec Block Global)) (other : Vec Block Global) → 0 < length items →
    blocks_size (get_or items 0 other).items < suc (items_size items)
first_is_less [] other some = absurd (omega arith)
first_is_less (first ∷ items) other some = omega arith
