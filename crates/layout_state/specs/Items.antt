-- Items of lists: their marks, and the columns of these.
use Rattle.std.specs.Prelude.{ℕ, ◌-◌, max, ℤ, pos, ◌+ℤ◌, List, ◌++◌, replicate}
use Rattle.std.specs.Int.{w64, saturate_signed}
use Rattle.block_trait.specs.Renderers.{Marking}
use Rattle.text_lines.specs.Columns.{text_columns}
use Rattle.text_decorators.specs.Marks.{Mark, header, ordered_item, quote, unordered_item}
use Rattle.render_sizes.specs.Extents.{PrefixColumns}
use Rattle.layout_state.specs.LayoutState.{LayoutState, mark_of}
use Rattle.layout_state.specs.declared.around.ItemMark.{ItemMark}
use Rattle.layout_state.specs.declared.around.ItemMark.TheVariants.{Bullet, Number}

abbrev pub spaces : ℕ → List ℕ
spaces n = replicate n 0x20

-- filled up to so many columns
abbrev pub padded : (columns : ℕ) → List ℕ → List ℕ
padded columns cs = cs ++ spaces (columns - text_columns cs)

abbrev pub item_mark : ItemMark → Mark
item_mark Bullet = unordered_item
item_mark (Number z) = ordered_item z

-- numbers stop at the greatest of 64 bits
abbrev pub number_after : ℤ → ℕ → ℤ
number_after z n = saturate_signed w64 (z +ℤ pos n)

abbrev pub next_mark : ItemMark → ItemMark
next_mark Bullet = Bullet
next_mark (Number z) = Number (number_after z 1)

-- of a list that begins with that mark and has so many items
abbrev pub last_mark : ItemMark → (items : ℕ) → ItemMark
last_mark Bullet items = Bullet
last_mark (Number z) items = Number (number_after z (items - 1))

-- An item has the columns of the wider of the first and the last prefix.
abbrev pub item_columns : {H A : Type 0} → Marking H A → (first last : ItemMark) → LayoutState H A → ℕ
item_columns m first last l =
    max (text_columns (mark_of m (item_mark first) l)) (text_columns (mark_of m (item_mark last) l))

-- the columns of a decorator's prefixes; of a list with numbers those of the wider of the first and the last
abbrev pub prefix_columns : (text : Mark → List ℕ) → PrefixColumns
prefix_columns text = record {
  heading = λ level. text_columns (text (header level));
  quote = text_columns (text quote);
  bullet = text_columns (text unordered_item);
  numbers = λ first items. max (text_columns (text (ordered_item first)))
      (text_columns (text (ordered_item (number_after first (items - 1)))));
}
