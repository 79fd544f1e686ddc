-- A turn of the check of blocks, and of items.
use Rattle.std.proofs.Common.{◌≡◌, ◌==◌, [], ◌∷◌, ◌+◌, ◌<◌, ◌∙◌, Bool, Global, List, None, Option, Some, Vec, add-one}
use Rattle.std.proofs.Common.{ap, drop, drop-cons, false, get_or, length, map, not, refl, suc, sym, true, ℕ, ℤ}
use Rattle.std.proofs.lemmas.Bool.{eqb-true}
use Rattle.std.proofs.lemmas.List.{nil_from_length}
use Rattle.std.specs.Option.{option_or}
use Rattle.article_values.specs.Articles.{Blocks, Items, bullets, no_items, numbers}
use Rattle.article_values.specs.Faults.{fault_of_blocks, fault_of_items, has_item, fault_where, is_too_deep}
use Rattle.article_values.specs.Views.{block_step, block_view, blocks_view, held, in_turn, item_before, items_view}
use Rattle.article_values.specs.declared.error.ArticleError.{ArticleError}
use Rattle.article_values.specs.declared.error.ArticleError.TheVariants.{EmptyList, TooDeep}
use Rattle.article_values.specs.declared.values.Block.{Block}
use Rattle.article_values.specs.declared.values.Block.TheFolds.{fold-roll-Block}
use Rattle.article_values.specs.declared.values.Block.TheOpen.{Block-F}
use Rattle.article_values.specs.declared.values.Block.TheVariants.{rolls-Bullets, rolls-Numbers}
use Rattle.article_values.specs.declared.values.Block.TheViews as views

first_of : {A : Type 0} (all : List A) (i : ℕ) (x : A) → i < length all → x ≡ get_or all i x →
    drop i all ≡ x ∷ drop (i + 1) all
first_of all i x h is = rw (add-one, drop-cons all i x h) (ap (λ y. y ∷ drop (suc i) all) (sym is))

module _ (d : ℕ) (all : List Block) (i : ℕ) (x : Block) (emitted : Option ArticleError)
    (whole : fault_of_blocks d (blocks_view all) ≡ fault_of_blocks d (blocks_view (drop i all)))
    (h : i < length all) (is : x ≡ get_or all i x)
    (one : (rest : Blocks) → fault_of_blocks d (block_view x rest) ≡ option_or emitted (fault_of_blocks d rest)) where
  block_step_on : fault_of_blocks d (blocks_view all)
      ≡ option_or emitted (fault_of_blocks d (blocks_view (drop (i + 1) all)))
  block_step_on = whole ∙ ap (λ xs. fault_of_blocks d (blocks_view xs)) (first_of all i x h is)
      ∙ one (blocks_view (drop (i + 1) all))

  pub block_goes_on : emitted ≡ None → fault_of_blocks d (blocks_view all)
      ≡ fault_of_blocks d (blocks_view (drop (i + 1) all))
  block_goes_on none = block_step_on ∙ ap (λ o. option_or o (fault_of_blocks d (blocks_view (drop (i + 1) all)))) none

  pub block_stops : (e : ArticleError) → emitted ≡ Some e → Some e ≡ fault_of_blocks d (blocks_view all)
  block_stops e some = sym (block_step_on
      ∙ ap (λ o. option_or o (fault_of_blocks d (blocks_view (drop (i + 1) all)))) some)

module _ (d : ℕ) (all : List (Vec Block Global)) (i : ℕ) (x : Vec Block Global) (its_blocks : List Block)
    (emitted : Option ArticleError)
    (whole : fault_of_items d (items_view all) ≡ fault_of_items d (items_view (drop i all)))
    (h : i < length all) (is : x ≡ get_or all i x) (same : its_blocks ≡ x.items)
    (one : emitted ≡ fault_of_blocks d (blocks_view its_blocks)) where
  item_step_on : fault_of_items d (items_view all) ≡ option_or emitted (fault_of_items d (items_view (drop (i + 1) all)))
  item_step_on = whole ∙ ap (λ xs. fault_of_items d (items_view xs)) (first_of all i x h is)
      ∙ ap (λ ks. option_or (fault_of_blocks d (blocks_view ks)) (fault_of_items d (items_view (drop (i + 1) all))))
      (sym same)
      ∙ ap (λ o. option_or o (fault_of_items d (items_view (drop (i + 1) all)))) (sym one)

  pub item_goes_on : emitted ≡ None → fault_of_items d (items_view all) ≡ fault_of_items d (items_view (drop (i + 1) all))
  item_goes_on none = item_step_on ∙ ap (λ o. option_or o (fault_of_items d (items_view (drop (i + 1) all)))) none

  pub item_stops : (e : ArticleError) → emitted ≡ Some e → Some e ≡ fault_of_items d (items_view all)
  item_stops e some = sym (item_step_on ∙ ap (λ o. option_or o (fault_of_items d (items_view (drop (i + 1) all)))) some)

pub blocks_end : (d : ℕ) (all : List Block) (i : ℕ) →
    fault_of_blocks d (blocks_view all) ≡ fault_of_blocks d (blocks_view (drop i all)) →
    drop i all ≡ [] → None ≡ fault_of_blocks d (blocks_view all)
blocks_end d all i whole e = sym (whole ∙ ap (λ k. fault_of_blocks d (blocks_view k)) e)

pub items_end : (d : ℕ) (all : List (Vec Block Global)) (i : ℕ) →
    fault_of_items d (items_view all) ≡ fault_of_items d (items_view (drop i all)) →
    drop i all ≡ [] → None ≡ fault_of_items d (items_view all)
items_end d all i whole e = sym (whole ∙ ap (λ k. fault_of_items d (items_view k)) e)

-- ---- lists
list_apart : (b c : Bool) (e f : ArticleError) (x later : Option ArticleError) →
    fault_where b e (fault_where c f (option_or x later)) ≡ option_or (fault_where b e (fault_where c f x)) later
list_apart true c e f x later = refl
list_apart false true e f x later = refl
list_apart false false e f x later = refl

abbrev list_fault : ℕ → Items → Option ArticleError
list_fault d items = fault_where (not (has_item items)) EmptyList
    (fault_where (is_too_deep d) TooDeep (fault_of_items (suc d) items))

-- each item's blocks are seen one by one, or all at once
fused : {V : Type 0} (g : Vec Block Global → V) (items_of : V → List (Blocks → Blocks)) →
    ((v : Vec Block Global) → items_of (g v) ≡ map block_view v.items) → (items : List (Vec Block Global)) →
    in_turn no_items (map (λ v. item_before (items_of v)) (map g items)) ≡ items_view items
fused g items_of same [] = refl
fused g items_of same (v ∷ items) =
    ap (λ bs. item_before bs (in_turn no_items (map (λ v. item_before (items_of v)) (map g items)))) (same v)
    ∙ ap (item_before (map block_view v.items)) (fused g items_of same items)

seen_bullets : (items : Vec (Vec Block Global) Global) (rest : Blocks) →
    block_view (views.Bullets items) rest ≡ bullets (items_view items.items) rest
seen_bullets items rest =
    ap (λ v. block_view v rest) (sym (rolls-Bullets items))
    ∙ ap (λ f. f rest) (fold-roll-Block (Blocks → Blocks) block_step (Block-F.Bullets items))
    ∙ ap (λ xs. bullets xs rest) (fused _ (λ v. v.items) (λ v. refl) items.items)

pub bullets_case : (v : Block) (d : ℕ) (items : Vec (Vec Block Global) Global) (slice : List (Vec Block Global))
    (emitted : Option ArticleError) (rest : Blocks) → v ≡ views.Bullets items → slice ≡ items.items →
    emitted ≡ list_fault d (items_view slice) → fault_of_blocks d (block_view v rest)
    ≡ option_or emitted (fault_of_blocks d rest)
bullets_case v d items slice emitted rest is e h =
    ap (λ v. fault_of_blocks d (block_view v rest)) is
    ∙ ap (fault_of_blocks d) (seen_bullets items rest)
    ∙ ap (λ xs. fault_of_blocks d (bullets (items_view xs) rest)) (sym e)
    ∙ list_apart (not (has_item (items_view slice))) (is_too_deep d) EmptyList TooDeep
    (fault_of_items (suc d) (items_view slice)) (fault_of_blocks d rest)
    ∙ ap (λ o. option_or o (fault_of_blocks d rest)) (sym h)

seen_numbers : (first : ℤ) (items : Vec (Vec Block Global) Global) (rest : Blocks) →
    block_view (views.Numbers first items) rest ≡ numbers (held first) (items_view items.items) rest
seen_numbers first items rest =
    ap (λ v. block_view v rest) (sym (rolls-Numbers first items))
    ∙ ap (λ f. f rest) (fold-roll-Block (Blocks → Blocks) block_step (Block-F.Numbers first items))
    ∙ ap (λ xs. numbers (held first) xs rest) (fused _ (λ v. v.items) (λ v. refl) items.items)

pub numbers_case : (v : Block) (d : ℕ) (first : ℤ) (items : Vec (Vec Block Global) Global)
    (slice : List (Vec Block Global))
    (emitted : Option ArticleError) (rest : Blocks) → v ≡ views.Numbers first items → slice ≡ items.items →
    emitted ≡ list_fault d (items_view slice) → fault_of_blocks d (block_view v rest)
    ≡ option_or emitted (fault_of_blocks d rest)
numbers_case v d first items slice emitted rest is e h =
    ap (λ v. fault_of_blocks d (block_view v rest)) is
    ∙ ap (fault_of_blocks d) (seen_numbers first items rest)
    ∙ ap (λ xs. fault_of_blocks d (numbers (held first) (items_view xs) rest)) (sym e)
    ∙ list_apart (not (has_item (items_view slice))) (is_too_deep d) EmptyList TooDeep
    (fault_of_items (suc d) (items_view slice)) (fault_of_blocks d rest)
    ∙ ap (λ o. option_or o (fault_of_blocks d rest)) (sym h)

-- ---- the check of a list
no_item : (items : List (Vec Block Global)) → (length items == 0) ≡ true → has_item (items_view items) ≡ false
no_item items e = ap (λ xs. has_item (items_view xs)) (nil_from_length items (eqb-true (length items) 0 e))

some_item : (items : List (Vec Block Global)) → (length items == 0) ≡ false → has_item (items_view items) ≡ true
some_item [] e = absurd (let wrong : true ≡ false = e in cc)
some_item (v ∷ items) e = refl

skip : (b : Bool) (e : ArticleError) (later : Option ArticleError) → b ≡ false → fault_where b e later ≡ later
skip b e later h = ap (λ b. fault_where b e later) h

pub list_goes : (items : List (Vec Block Global)) (d : ℕ) (deep emitted : Option ArticleError) →
    (length items == 0) ≡ false →
    deep ≡ fault_where (is_too_deep d) TooDeep None → deep ≡ None → emitted ≡ fault_of_items (suc d) (items_view items) →
    emitted ≡ list_fault d (items_view items)
list_goes items d deep emitted some e none h =
    h ∙ sym (skip (not (has_item (items_view items))) EmptyList _ (ap not (some_item items some))
    ∙ shallow (is_too_deep d) (fault_of_items (suc d) (items_view items)) (sym e ∙ none))
  where
    shallow : (b : Bool) (later : Option ArticleError) → fault_where b TooDeep None ≡ None →
        fault_where b TooDeep later ≡ later
    shallow true later h = cc
    shallow false later h = refl

pub list_stops : (items : List (Vec Block Global)) (d : ℕ) (deep : Option ArticleError) (e : ArticleError) →
    (length items == 0) ≡ false → deep ≡ fault_where (is_too_deep d) TooDeep None → deep ≡ Some e →
    Some e ≡ list_fault d (items_view items)
list_stops items d deep e some h is =
    sym (skip (not (has_item (items_view items))) EmptyList _ (ap not (some_item items some))
    ∙ emitted (is_too_deep d) (fault_of_items (suc d) (items_view items)) (sym h ∙ is))
  where
    emitted : (b : Bool) (later : Option ArticleError) → fault_where b TooDeep None ≡ Some e →
        fault_where b TooDeep later ≡ Some e
    emitted true later h = h
    emitted false later h = cc
