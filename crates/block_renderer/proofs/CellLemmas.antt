-- Cells that renderers are.
use Rattle.std.specs.Prelude.{◌≡◌, ℕ, List, [], ◌∷◌, ◌++◌, Option, None, Some, refl}
use Rattle.std.specs.Option.{option_map, option_and_then}
use Rattle.std.proofs.Common.{sym, ap, ◌∙◌, length, map, arith}
use Rattle.std.proofs.lemmas.List.{append_assoc, append-nil}
use Rattle.text_borders.specs.Across.{Cell}
use Rattle.block_trait.specs.Renderers.{Sub, add_below, add_first, append_sub, before_cells, cell_of_sub, cells_of_subs}
use Rattle.block_trait.specs.Renderers.{flush_sub}

some_same : {A : Type 0} (x y : A) → Some x ≡ Some y → x ≡ y
some_same x y e = cc

cell_first : {H A : Type 0} (o : Option (Sub H A)) (rows : ℕ) (cells : Option (List (Cell (List A))))
    (cell : Cell (List A)) → option_map (cell_of_sub rows) o ≡ Some cell
    → option_and_then (before_cells rows cells) o ≡ option_map (λ cs. cell ∷ cs) cells
cell_first None rows cells cell e = cc
cell_first (Some s) rows None cell e = refl
cell_first (Some s) rows (Some cs) cell e = ap (λ c. Some (c ∷ cs)) (some_same (cell_of_sub rows s) cell e)

moved : {B : Type 0} (done : List B) (cell : B) (cells : Option (List B))
    → option_map (λ cs. done ++ cs) (option_map (λ cs. cell ∷ cs) cells)
    ≡ option_map (λ cs. (done ++ cell ∷ []) ++ cs) cells
moved done cell None = refl
moved done cell (Some cs) = ap (λ all. Some all) (sym (append_assoc done (cell ∷ []) cs))

-- one more cell
pub next_cell : {H A : Type 0} (done new : List (Cell (List A))) (c : Sub H A × ℕ) (cell : Cell (List A))
    (rest items : List (Sub H A × ℕ)) (all : Option (List (Cell (List A)))) → items ≡ c ∷ rest
    → option_map (cell_of_sub c.1) (flush_sub c.0) ≡ Some cell → new ≡ done ++ cell ∷ []
    → option_map (λ cs. done ++ cs) (cells_of_subs items) ≡ all
    → option_map (λ cs. new ++ cs) (cells_of_subs rest) ≡ all
next_cell done new c cell rest items all split e f so_far =
    ap (λ front. option_map (λ cs. front ++ cs) (cells_of_subs rest)) f
    ∙ sym (moved done cell (cells_of_subs rest))
    ∙ sym (ap (λ o. option_map (λ cs. done ++ cs) o) (cell_first (flush_sub c.0) c.1 (cells_of_subs rest) cell e))
    ∙ sym (ap (λ cs. option_map (λ cs. done ++ cs) (cells_of_subs cs)) split) ∙ so_far

pub all_cells : {H A : Type 0} (done : List (Cell (List A))) (items : List (Sub H A × ℕ))
    (all : Option (List (Cell (List A)))) → items ≡ [] → option_map (λ cs. done ++ cs) (cells_of_subs items) ≡ all
    → all ≡ Some done
all_cells done items all none so_far =
    sym so_far ∙ ap (λ cs. option_map (λ more. done ++ more) (cells_of_subs cs)) none
    ∙ ap (λ cs. Some cs) (append-nil done)

pub no_items : {A B : Type 0} (f : A → B) (xs : List A) → length xs ≡ 0 → map f xs ≡ []
no_items f [] e = refl
no_items f (x ∷ xs) e = absurd (omega arith)

-- the first of the cells that stand below one another
pub begun_below : {H A : Type 0} (first : Sub H A) (rest items : List (Sub H A)) (s new : Sub H A)
    → items ≡ first ∷ rest → append_sub first [] [] s ≡ Some new → add_below rest new ≡ add_first items s
begun_below first rest items s new split added =
    sym (ap (λ xs. add_first xs s) split ∙ ap (option_and_then (add_below rest)) added)
