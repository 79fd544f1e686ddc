-- What a walk over blocks lays out is the layout of the blocks.
use Rattle.std.proofs.Common.{◌≡◌, ◌+◌, [], ◌++◌, ◌∙◌, List, None, Option, Some, ap, append-nil, append_assoc, arith}
use Rattle.std.proofs.Common.{refl, suc, sym, ℕ, ℤ}
use Rattle.std.specs.Option.{option_and_then, option_map}
use Rattle.article_definitions.specs.Layouts.{Line, Options, count, count_items, how_many, item_prefix, lay, lay_items}
use Rattle.article_definitions.specs.Layouts.{least_of, least_of_items, next_number, paragraph_lines, parted, prefixed}
use Rattle.article_definitions.specs.Layouts.{quote_prefix, room, room_of_numbers, targets_in, targets_of}
use Rattle.article_definitions.specs.Layouts.{targets_of_items, to_room}
use Rattle.article_layout.specs.Walks.{At, after_item, after_paragraph, after_quote, heading_lines, heading_prefix}
use Rattle.article_layout.specs.Walks.{laid, laid_items}
use Rattle.article_values.specs.Articles.{Blocks, Inlines, Items, bullets, division, heading, item, no_blocks, no_items}
use Rattle.article_values.specs.Articles.{numbers, paragraph, quote}
use Rattle.layout_state.specs.Items.{spaces}
use Rattle.render_sizes.specs.Extents.{capped}

module _ (o : Options) where
  abbrev at : ℕ → List (List ℕ) → List Line → At
  at k ts lines = record { lines = lines; paragraphs = k; targets = ts }

  abbrev trailing : ℕ → List (List ℕ) → Option (List Line) → Option At
  trailing k ts x = option_map (at k ts) x

  carried : (f : At → Option At) (g : List Line → Option (List Line)) (k j : ℕ) (ts us : List (List ℕ))
      (x : Option (List Line)) → ((lines : List Line) → f (at k ts lines) ≡ trailing j us (g lines)) →
      option_and_then f (trailing k ts x) ≡ trailing j us (option_and_then g x)
  carried f g k j ts us None same = refl
  carried f g k j ts us (Some lines) same = same lines

  abbrev Is : Blocks → Type 0
  Is blocks = (width k : ℕ) (ts : List (List ℕ)) (lines : List Line) → laid o width blocks (at k ts lines)
      ≡ trailing (k + count blocks) (ts ++ targets_of o blocks) (lay o width k ts blocks lines)

  abbrev AreItems : Items → Type 0
  AreItems items = (width columns least : ℕ) (number : Option ℤ) (k : ℕ) (ts : List (List ℕ)) (lines : List Line) →
      laid_items o width columns least number items (at k ts lines)
      ≡ trailing (k + count_items items) (ts ++ targets_of_items o items)
      (lay_items o width k ts columns least number items lines)

  -- blocks after what came before
  further : (rest : Blocks) → Is rest → (width k : ℕ) (us more : List (List ℕ)) (j : ℕ) (lines : List Line) →
      us ++ targets_of o rest ≡ more → k + count rest ≡ j →
      laid o width rest (at k us lines) ≡ trailing j more (lay o width k us rest lines)
  further rest same width k us more j lines e f =
      same width k us lines ∙ ap (λ t. trailing (k + count rest) t (lay o width k us rest lines)) e
      ∙ ap (λ l. trailing l more (lay o width k us rest lines)) f

  -- a paragraph or a heading, of these lines
  paragraph_is : (is : Inlines) (rest : Blocks) → Is rest → (width k : ℕ) (ts : List (List ℕ)) (lines : List Line)
      (put : List Line → List Line) (own : Option (List Line)) →
      option_and_then (laid o width rest) (option_map (λ new. after_paragraph o is (at k ts lines) (put new)) own)
      ≡ trailing (k + suc (count rest)) (ts ++ (targets_in o is ++ targets_of o rest))
      (option_and_then (λ new. lay o width (suc k) (ts ++ targets_in o is) rest (put new)) own)
  paragraph_is is rest same width k ts lines put None = refl
  paragraph_is is rest same width k ts lines put (Some new) =
      further rest same width (suc k) (ts ++ targets_in o is) (ts ++ (targets_in o is ++ targets_of o rest))
      (k + suc (count rest)) (put new) (append_assoc ts (targets_in o is) (targets_of o rest)) (omega arith)

  -- an item, in the room that it has
  item_laid_in : (kids : Blocks) (rest : Items) → AreItems rest → (width columns least : ℕ) (number : Option ℤ)
      (k : ℕ) (ts : List (List ℕ)) (lines : List Line) (new : Option (List Line)) →
      option_and_then (laid_items o width columns least (next_number number) rest)
      (option_map (after_item o width columns number (at k ts lines))
      (trailing (k + count kids) (ts ++ targets_of o kids) new))
      ≡ trailing (k + (count kids + count_items rest)) (ts ++ (targets_of o kids ++ targets_of_items o rest))
      (option_and_then (λ new. lay_items o width (k + count kids) (ts ++ targets_of o kids) columns least
      (next_number number) rest
      (lines ++ prefixed o width (to_room columns (item_prefix number)) (spaces columns) new)) new)
  item_laid_in kids rest same width columns least number k ts lines None = refl
  item_laid_in kids rest same width columns least number k ts lines (Some new) =
      let us = ts ++ targets_of o kids in
      let more = ts ++ (targets_of o kids ++ targets_of_items o rest) in
      let all = lines ++ prefixed o width (to_room columns (item_prefix number)) (spaces columns) new in
      let j = k + count kids in
      same width columns least (next_number number) j us all
      ∙ ap (λ t. trailing (j + count_items rest) t
      (lay_items o width j us columns least (next_number number) rest all))
      (append_assoc ts (targets_of o kids) (targets_of_items o rest))
      ∙ ap (λ l. trailing l more (lay_items o width j us columns least (next_number number) rest all)) (omega arith)

  item_is : (kids : Blocks) (rest : Items) → Is kids → AreItems rest → (width columns least : ℕ) (number : Option ℤ)
      (k : ℕ) (ts : List (List ℕ)) (lines : List Line) (room : Option ℕ) →
      option_and_then (laid_items o width columns least (next_number number) rest)
      (option_map (after_item o width columns number (at k ts lines))
      (option_and_then (λ within. laid o within kids (at k ts [])) room))
      ≡ trailing (k + (count kids + count_items rest)) (ts ++ (targets_of o kids ++ targets_of_items o rest))
      (option_and_then (λ new. lay_items o width (k + count kids) (ts ++ targets_of o kids) columns least
      (next_number number) rest
      (lines ++ prefixed o width (to_room columns (item_prefix number)) (spaces columns) new))
      (option_and_then (λ within. lay o within k ts kids []) room))
  item_is kids rest inside on width columns least number k ts lines None = refl
  item_is kids rest inside on width columns least number k ts lines (Some within) =
      ap (λ new. option_and_then (laid_items o width columns least (next_number number) rest)
      (option_map (after_item o width columns number (at k ts lines)) new)) (inside within k ts [])
      ∙ item_laid_in kids rest on width columns least number k ts lines (lay o within k ts kids [])

  -- a list, and what follows it
  list_is : (items : Items) (rest : Blocks) → AreItems items → Is rest → (width columns least : ℕ)
      (number : Option ℤ) (k : ℕ) (ts : List (List ℕ)) (lines : List Line) →
      option_and_then (laid o width rest)
      (laid_items o width columns least number items (at k ts (parted o width lines)))
      ≡ trailing (k + (count_items items + count rest)) (ts ++ (targets_of_items o items ++ targets_of o rest))
      (option_and_then (lay o width (k + count_items items) (ts ++ targets_of_items o items) rest)
      (lay_items o width k ts columns least number items (parted o width lines)))
  list_is items rest inside on width columns least number k ts lines =
      let us = ts ++ targets_of_items o items in
      ap (option_and_then (laid o width rest)) (inside width columns least number k ts (parted o width lines))
      ∙ carried (laid o width rest)
      (lay o width (k + count_items items) us rest) (k + count_items items) (k + (count_items items + count rest)) us
      (ts ++ (targets_of_items o items ++ targets_of o rest))
      (lay_items o width k ts columns least number items (parted o width lines))
      (λ ls. further rest on width (k + count_items items) us (ts ++ (targets_of_items o items ++ targets_of o rest))
      (k + (count_items items + count rest)) ls (append_assoc ts (targets_of_items o items) (targets_of o rest))
      (omega arith))

  division_is : (kids rest : Blocks) → Is kids → Is rest → Is (division kids rest)
  division_is kids rest inside on width k ts lines =
      let us = ts ++ targets_of o kids in
      ap (option_and_then (laid o width rest)) (inside width k ts lines)
      ∙ carried (laid o width rest) (lay o width (k + count kids) us rest)
      (k + count kids) (k + (count kids + count rest)) us (ts ++ (targets_of o kids ++ targets_of o rest))
      (lay o width k ts kids lines)
      (λ ls. further rest on width (k + count kids) us (ts ++ (targets_of o kids ++ targets_of o rest))
      (k + (count kids + count rest)) ls (append_assoc ts (targets_of o kids) (targets_of o rest)) (omega arith))

  -- a quote, in the room that it has
  quote_laid_in : (kids rest : Blocks) → Is rest → (width k : ℕ) (ts : List (List ℕ)) (lines : List Line)
      (new : Option (List Line)) →
      option_and_then (laid o width rest) (option_map (after_quote o width (at k ts lines))
      (trailing (k + count kids) (ts ++ targets_of o kids) new))
      ≡ trailing (k + (count kids + count rest)) (ts ++ (targets_of o kids ++ targets_of o rest))
      (option_and_then (λ new. lay o width (k + count kids) (ts ++ targets_of o kids) rest
      (parted o width lines ++ prefixed o width quote_prefix quote_prefix new)) new)
  quote_laid_in kids rest same width k ts lines None = refl
  quote_laid_in kids rest same width k ts lines (Some new) =
      further rest same width (k + count kids) (ts ++ targets_of o kids)
      (ts ++ (targets_of o kids ++ targets_of o rest)) (k + (count kids + count rest))
      (parted o width lines ++ prefixed o width quote_prefix quote_prefix new)
      (append_assoc ts (targets_of o kids) (targets_of o rest)) (omega arith)

  quote_is : (kids rest : Blocks) → Is kids → Is rest → (width k : ℕ) (ts : List (List ℕ)) (lines : List Line)
      (room : Option ℕ) →
      option_and_then (laid o width rest) (option_map (after_quote o width (at k ts lines))
      (option_and_then (λ within. laid o within kids (at k ts [])) room))
      ≡ trailing (k + (count kids + count rest)) (ts ++ (targets_of o kids ++ targets_of o rest))
      (option_and_then (λ new. lay o width (k + count kids) (ts ++ targets_of o kids) rest
      (parted o width lines ++ prefixed o width quote_prefix quote_prefix new))
      (option_and_then (λ within. lay o within k ts kids []) room))
  quote_is kids rest inside on width k ts lines None = refl
  quote_is kids rest inside on width k ts lines (Some within) =
      ap (λ new. option_and_then (laid o width rest) (option_map (after_quote o width (at k ts lines)) new))
      (inside within k ts []) ∙ quote_laid_in kids rest on width k ts lines (lay o within k ts kids [])

  mutual
    pub laid_is : (blocks : Blocks) → Is blocks
    laid_is no_blocks width k ts lines =
        ap (λ t. let s : Option At = Some (at k t lines) in s) (sym (append-nil ts))
        ∙ ap (λ j. let s : Option At = Some (at j (ts ++ []) lines) in s) (omega arith)
    laid_is (paragraph is rest) width k ts lines =
        paragraph_is is rest (laid_is rest) width k ts lines (λ new. parted o width lines ++ new)
        (paragraph_lines o width k ts is)
    laid_is (heading level is rest) width k ts lines =
        paragraph_is is rest (laid_is rest) width k ts lines
        (λ new. parted o width lines ++ prefixed o width (heading_prefix level) (heading_prefix level) new)
        (heading_lines o width level is (at k ts lines))
    laid_is (division kids rest) width k ts lines =
        division_is kids rest (laid_is kids) (laid_is rest) width k ts lines
    laid_is (quote kids rest) width k ts lines =
        quote_is kids rest (laid_is kids) (laid_is rest) width k ts lines (room width 2 (capped (least_of o kids + 2)))
    laid_is (bullets items rest) width k ts lines = list_is items rest (items_are items) (laid_is rest) width 2
        (capped (least_of_items o items + 2)) None k ts lines
    laid_is (numbers first items rest) width k ts lines =
        list_is items rest (items_are items) (laid_is rest) width (room_of_numbers first (how_many items))
        (capped (least_of_items o items + room_of_numbers first (how_many items))) (Some first) k ts lines

    items_are : (items : Items) → AreItems items
    items_are no_items width columns least number k ts lines =
        ap (λ t. let s : Option At = Some (at k t lines) in s) (sym (append-nil ts))
        ∙ ap (λ j. let s : Option At = Some (at j (ts ++ []) lines) in s) (omega arith)
    items_are (item kids rest) width columns least number k ts lines =
        item_is kids rest (laid_is kids) (items_are rest) width columns least number k ts lines
        (room width columns least)
