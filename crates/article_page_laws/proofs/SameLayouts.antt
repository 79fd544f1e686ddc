-- The lines of articles without quotes and strong text.
use Rattle.std.proofs.Common.{◌≡◌, ◌+◌, ◌&&◌, [], ◌∷◌, ◌++◌, if◌then◌else◌, ◌∙◌, Bool, List, None, Option, Some, ap}
use Rattle.std.proofs.Common.{arith, codes, false, length, length-append, max, nat_lt, not, refl, replicate, suc, true}
use Rattle.std.proofs.Common.{ℕ, ℤ}
use Rattle.std.specs.Char.{is_whitespace}
use Rattle.std.specs.Fmt.{decimal}
use Rattle.std.specs.List.{list_all}
use Rattle.std.specs.Option.{option_map, option_and_then}
use Rattle.article_definitions.specs.Layouts.{Line, Options, Part, Stretch, Tag, all_fit, breaks, if_fits, item_prefix}
use Rattle.article_definitions.specs.Layouts.{least_text, lines_of_stretches, mark_of, next_number, notes, outermost}
use Rattle.article_definitions.specs.Layouts.{parted, prefixed, room, room_of_numbers, says, stretches, to_room}
use Rattle.article_definitions.specs.Layouts.{unless_shallow, within}
use Rattle.article_definitions.specs.Layouts as wide
use Rattle.text_footnotes.specs.Printable.{shown_targets}
use Rattle.text_footnotes.specs.Targets.{last_number, noted_targets}
use Rattle.article_page_laws.specs.PlainArticles.{PlainBlocks, PlainInlines, PlainItems, PlainStyle, bold, bullets}
use Rattle.article_page_laws.specs.PlainArticles.{code, division, emphasis, heading, italic, item, line_break, link}
use Rattle.article_page_laws.specs.PlainArticles.{no_blocks, no_inlines, no_items, numbers, paragraph, span}
use Rattle.article_page_laws.specs.PlainArticles.{wide_blocks, wide_inlines, wide_items, wide_style, words}
use Rattle.article_page_laws.specs.PlainLayouts.{all_shallow, count, count_items, has_none, how_many, lay, lay_items}
use Rattle.article_page_laws.specs.PlainLayouts.{least_in, least_of, least_of_items, mark_in, number_mark}
use Rattle.article_page_laws.specs.PlainLayouts.{paragraph_lines, parts_of, plain_lines, targets_in, targets_of}
use Rattle.article_page_laws.specs.PlainLayouts.{targets_of_items}
use Rattle.layout_state.specs.Items.{spaces}
use Rattle.render_sizes.specs.Extents.{capped}
use Rattle.text_pieces.specs.Sources.{is_filled}

-- the same after what may be there
then_same : {A B : Type 0} (f g : A → Option B) → ((a : A) → f a ≡ g a) → (x : Option A) →
    option_and_then f x ≡ option_and_then g x
then_same f g h None = refl
then_same f g h (Some a) = h a

none_stays : (is : PlainInlines) → wide.has_none (wide_inlines is) ≡ has_none is
none_stays no_inlines = refl
none_stays (words cs rest) = refl
none_stays (line_break rest) = refl
none_stays (span style kids rest) = refl
none_stays (link target kids rest) = refl

mutual
  count_stays : (blocks : PlainBlocks) → wide.count (wide_blocks blocks) ≡ count blocks
  count_stays no_blocks = refl
  count_stays (paragraph is rest) = ap (λ n. suc n) (count_stays rest)
  count_stays (heading level is rest) = ap (λ n. suc n) (count_stays rest)
  count_stays (division kids rest) =
      ap (λ n. n + wide.count (wide_blocks rest)) (count_stays kids) ∙ ap (λ n. count kids + n) (count_stays rest)
  count_stays (bullets items rest) = ap (λ n. n + wide.count (wide_blocks rest)) (item_count_stays items)
      ∙ ap (λ n. count_items items + n) (count_stays rest)
  count_stays (numbers first items rest) = ap (λ n. n + wide.count (wide_blocks rest)) (item_count_stays items)
      ∙ ap (λ n. count_items items + n) (count_stays rest)

  item_count_stays : (items : PlainItems) → wide.count_items (wide_items items) ≡ count_items items
  item_count_stays no_items = refl
  item_count_stays (item kids rest) = ap (λ n. n + wide.count_items (wide_items rest)) (count_stays kids)
      ∙ ap (λ n. count kids + n) (item_count_stays rest)

number_stays : (items : PlainItems) → wide.how_many (wide_items items) ≡ how_many items
number_stays no_items = refl
number_stays (item kids rest) = ap (λ n. suc n) (number_stays rest)

module _ (o : Options) where
  mark_stays : (style : PlainStyle) → mark_of o (wide_style style) ≡ mark_in o style
  mark_stays bold = refl
  mark_stays italic = refl
  mark_stays emphasis = refl
  mark_stays code = refl

  shallow_stays : (is : PlainInlines) → wide.all_shallow o (wide_inlines is) ≡ all_shallow o is
  shallow_stays no_inlines = refl
  shallow_stays (words cs rest) = ap (λ b. list_all is_whitespace cs && b) (shallow_stays rest)
  shallow_stays (line_break rest) = shallow_stays rest
  shallow_stays (span style kids rest) = let later : Bool = wide.all_shallow o (wide_inlines rest) in
      ap (λ b. (b && not (is_filled (mark_of o (wide_style style)))) && later) (none_stays kids)
      ∙ ap (λ m. (has_none kids && not (is_filled m)) && later) (mark_stays style)
      ∙ ap (λ b. (has_none kids && not (is_filled (mark_in o style))) && b) (shallow_stays rest)
  shallow_stays (link target kids rest) =
      ap (λ b. b && wide.all_shallow o (wide_inlines rest)) (none_stays kids)
      ∙ ap (λ b. has_none kids && b) (shallow_stays rest)

  targets_stay : (is : PlainInlines) → wide.targets_in o (wide_inlines is) ≡ targets_in o is
  targets_stay no_inlines = refl
  targets_stay (words cs rest) = targets_stay rest
  targets_stay (line_break rest) = targets_stay rest
  targets_stay (span style kids rest) = ap (λ ts. ts ++ wide.targets_in o (wide_inlines rest)) (targets_stay kids)
      ∙ ap (λ ts. targets_in o kids ++ ts) (targets_stay rest)
  targets_stay (link target kids rest) = let later : List (List ℕ) = wide.targets_in o (wide_inlines rest) in
      ap (λ b. unless_shallow b (target ∷ wide.targets_in o (wide_inlines kids)) ++ later) (shallow_stays kids)
      ∙ ap (λ ts. unless_shallow (all_shallow o kids) (target ∷ ts) ++ later) (targets_stay kids)
      ∙ ap (λ ts. unless_shallow (all_shallow o kids) (target ∷ targets_in o kids) ++ ts) (targets_stay rest)

  -- after more targets, which both count
  longer : (ts us vs : List (List ℕ)) (n : ℕ) → length ts ≡ n → us ≡ vs → length (ts ++ us) ≡ n + length vs
  longer ts us vs n many e =
      length-append ts us ∙ ap (λ k. k + length us) many ∙ ap (λ us. n + length us) e

  one_longer : (ts : List (List ℕ)) (target : List ℕ) (n : ℕ) → length ts ≡ n → length (ts ++ target ∷ []) ≡ suc n
  one_longer ts target n many = longer ts (target ∷ []) (target ∷ []) n many refl ∙ omega arith

  -- a link's parts, by the number after it, whether it shows nothing, and the parts of what it holds
  abbrev link_parts : Tag → List ℕ → Bool → List Part → List Part
  link_parts d mark shallow inside = unless_shallow shallow (says (codes "[") (within d)
      ∷ (inside ++ says (codes "]") (within d) ∷ says mark d ∷ []))

  after_link : (shallow : Bool) (ts us : List (List ℕ)) (n m : ℕ) → length ts ≡ n → length us ≡ m →
      length (if shallow then ts else us) ≡ (if shallow then n else m)
  after_link true ts us n m many more = many
  after_link false ts us n m many more = more

  abbrev lines_of : (width number : ℕ) → List Part → Option (List Line)
  lines_of width k parts = let ss : List Stretch = stretches None [] parts in
      if_fits (all_fit o width ss) (lines_of_stretches o width k ss)

  least_stays : (is : PlainInlines) → wide.least_in o (wide_inlines is) ≡ least_in o is
  least_stays no_inlines = refl
  least_stays (words cs rest) = ap (λ n. max (least_text o cs) n) (least_stays rest)
  least_stays (line_break rest) = ap (λ n. max 1 n) (least_stays rest)
  least_stays (span style kids rest) =
      let inside : ℕ = wide.least_in o (wide_inlines kids) in
      let later : ℕ = wide.least_in o (wide_inlines rest) in
      ap (λ m. max (least_text o m) (max inside later)) (mark_stays style)
      ∙ ap (λ n. max (least_text o (mark_in o style)) (max n later)) (least_stays kids)
      ∙ ap (λ n. max (least_text o (mark_in o style)) (max (least_in o kids) n)) (least_stays rest)
  least_stays (link target kids rest) =
      let inside : ℕ = wide.least_in o (wide_inlines kids) in
      let later : ℕ = wide.least_in o (wide_inlines rest) in
      ap (λ b. max (if b then 0 else inside) later) (shallow_stays kids)
      ∙ ap (λ n. max (if all_shallow o kids then 0 else n) later) (least_stays kids)
      ∙ ap (λ n. max (if all_shallow o kids then 0 else least_in o kids) n) (least_stays rest)

  mutual
    links_stay : (blocks : PlainBlocks) → wide.targets_of o (wide_blocks blocks) ≡ targets_of o blocks
    links_stay no_blocks = refl
    links_stay (paragraph is rest) = ap (λ ts. ts ++ wide.targets_of o (wide_blocks rest)) (targets_stay is)
        ∙ ap (λ ts. targets_in o is ++ ts) (links_stay rest)
    links_stay (heading level is rest) = ap (λ ts. ts ++ wide.targets_of o (wide_blocks rest)) (targets_stay is)
        ∙ ap (λ ts. targets_in o is ++ ts) (links_stay rest)
    links_stay (division kids rest) = ap (λ ts. ts ++ wide.targets_of o (wide_blocks rest)) (links_stay kids)
        ∙ ap (λ ts. targets_of o kids ++ ts) (links_stay rest)
    links_stay (bullets items rest) = ap (λ ts. ts ++ wide.targets_of o (wide_blocks rest)) (item_links_stay items)
        ∙ ap (λ ts. targets_of_items o items ++ ts) (links_stay rest)
    links_stay (numbers first items rest) =
        ap (λ ts. ts ++ wide.targets_of o (wide_blocks rest)) (item_links_stay items)
        ∙ ap (λ ts. targets_of_items o items ++ ts) (links_stay rest)

    item_links_stay : (items : PlainItems) → wide.targets_of_items o (wide_items items) ≡ targets_of_items o items
    item_links_stay no_items = refl
    item_links_stay (item kids rest) = ap (λ ts. ts ++ wide.targets_of_items o (wide_items rest)) (links_stay kids)
        ∙ ap (λ ts. targets_of o kids ++ ts) (item_links_stay rest)

  -- what a list asks for, by what its items ask for and how many they are
  abbrev least_of_numbers : ℤ → (least many : ℕ) → ℕ
  least_of_numbers first least many = capped (least + room_of_numbers first many)

  mutual
    room_stays : (blocks : PlainBlocks) → wide.least_of o (wide_blocks blocks) ≡ least_of o blocks
    room_stays no_blocks = refl
    room_stays (paragraph is rest) = ap (λ n. max n (wide.least_of o (wide_blocks rest))) (least_stays is)
        ∙ ap (λ n. max (least_in o is) n) (room_stays rest)
    room_stays (heading level is rest) =
        ap (λ n. max (capped (n + (level + 1))) (wide.least_of o (wide_blocks rest))) (least_stays is)
        ∙ ap (λ n. max (capped (least_in o is + (level + 1))) n) (room_stays rest)
    room_stays (division kids rest) = ap (λ n. max n (wide.least_of o (wide_blocks rest))) (room_stays kids)
        ∙ ap (λ n. max (least_of o kids) n) (room_stays rest)
    room_stays (bullets items rest) =
        ap (λ n. max (capped (n + 2)) (wide.least_of o (wide_blocks rest))) (item_room_stays items)
        ∙ ap (λ n. max (capped (least_of_items o items + 2)) n) (room_stays rest)
    room_stays (numbers first items rest) =
        ap (λ n. max (least_of_numbers first n (wide.how_many (wide_items items))) (wide.least_of o (wide_blocks rest)))
        (item_room_stays items)
        ∙ ap (λ n. max (least_of_numbers first (least_of_items o items) n) (wide.least_of o (wide_blocks rest)))
        (number_stays items)
        ∙ ap (λ n. max (least_of_numbers first (least_of_items o items) (how_many items)) n) (room_stays rest)

    item_room_stays : (items : PlainItems) → wide.least_of_items o (wide_items items) ≡ least_of_items o items
    item_room_stays no_items = refl
    item_room_stays (item kids rest) = ap (λ n. max n (wide.least_of_items o (wide_items rest))) (room_stays kids)
        ∙ ap (λ n. max (least_of o kids) n) (item_room_stays rest)

  module _ (unshared : o.shares_footnotes ≡ false) (unprinted : o.prints_targets ≡ false) where
    mark_counts : (ts : List (List ℕ)) (n : ℕ) → length ts ≡ n → wide.number_mark o ts ≡ number_mark o n
    mark_counts ts n many =
        ap (λ b. if o.footnotes then codes "[" ++ decimal (last_number b ts) ++ codes "]" else []) unshared
        ∙ ap (number_mark o) many

    parts_stay : (d : Tag) (ts : List (List ℕ)) (n : ℕ) (is : PlainInlines) → length ts ≡ n →
        wide.parts_of o d ts (wide_inlines is) ≡ parts_of o d n is
    parts_stay d ts n no_inlines many = refl
    parts_stay d ts n (words cs rest) many = ap (λ ps. says cs d ∷ ps) (parts_stay d ts n rest many)
    parts_stay d ts n (line_break rest) many = ap (λ ps. breaks d ∷ ps) (parts_stay d ts n rest many)
    parts_stay d ts n (span style kids rest) many =
        let us : List (List ℕ) = ts ++ wide.targets_in o (wide_inlines kids) in
        let inside : List Part = wide.parts_of o (within d) ts (wide_inlines kids) in
        let later : List Part = wide.parts_of o d us (wide_inlines rest) in
        let mark : List ℕ = mark_in o style in
        ap (λ m. says m (within d) ∷ (inside ++ says m (within d) ∷ later)) (mark_stays style)
        ∙ ap (λ ps. says mark (within d) ∷ (ps ++ says mark (within d) ∷ later)) (parts_stay (within d) ts n kids many)
        ∙ ap (λ ps. says mark (within d) ∷ (parts_of o (within d) n kids ++ says mark (within d) ∷ ps))
        (parts_stay d us (n + length (targets_in o kids)) rest
        (longer ts (wide.targets_in o (wide_inlines kids)) (targets_in o kids) n many (targets_stay kids)))
    parts_stay d ts n (link target kids rest) many =
        let us : List (List ℕ) = ts ++ target ∷ wide.targets_in o (wide_inlines kids) in
        let m : ℕ = n + suc (length (targets_in o kids)) in
        let more : length us ≡ m = longer ts (target ∷ wide.targets_in o (wide_inlines kids))
        (target ∷ targets_in o kids) n many (ap (λ ts. target ∷ ts) (targets_stay kids)) in
        let inside : List Part = wide.parts_of o (within d) (ts ++ target ∷ []) (wide_inlines kids) in
        let later : List (List ℕ) → List Part = λ ts. wide.parts_of o d ts (wide_inlines rest) in
        ap (λ b. link_parts d (wide.number_mark o us) b inside ++ later (if b then ts else us)) (shallow_stays kids)
        ∙ ap (λ mark. link_parts d mark (all_shallow o kids) inside ++ later (if all_shallow o kids then ts else us))
        (mark_counts us m more)
        ∙ ap (λ ps. link_parts d (number_mark o m) (all_shallow o kids) ps
        ++ later (if all_shallow o kids then ts else us))
        (parts_stay (within d) (ts ++ target ∷ []) (suc n) kids (one_longer ts target n many))
        ∙ ap (λ ps. link_parts d (number_mark o m) (all_shallow o kids) (parts_of o (within d) (suc n) kids) ++ ps)
        (parts_stay d (if all_shallow o kids then ts else us) (if all_shallow o kids then n else m) rest
        (after_link (all_shallow o kids) ts us n m many more))

    paragraph_stays : (width k : ℕ) (ts : List (List ℕ)) (n : ℕ) (is : PlainInlines) → length ts ≡ n →
        wide.paragraph_lines o width k ts (wide_inlines is) ≡ paragraph_lines o width k n is
    paragraph_stays width k ts n is many = ap (lines_of width k) (parts_stay outermost ts n is many)

    -- what stands after a part that was laid, by how many paragraphs and links it has
    abbrev Stays : ℕ → PlainBlocks → Type 0
    Stays width rest = (k : ℕ) (ts : List (List ℕ)) (n : ℕ) (lines : List Line) → length ts ≡ n →
        wide.lay o width k ts (wide_blocks rest) lines ≡ lay o width k n rest lines

    rest_stays : (width k : ℕ) (ts : List (List ℕ)) (n : ℕ) (rest : PlainBlocks) → Stays width rest → (c c' : ℕ)
        (t t' : List (List ℕ)) (x x' : Option (List Line)) → length ts ≡ n → c ≡ c' → t ≡ t' → x ≡ x' →
        option_and_then (wide.lay o width (k + c) (ts ++ t) (wide_blocks rest)) x
        ≡ option_and_then (lay o width (k + c') (n + length t') rest) x'
    rest_stays width k ts n rest same c c' t t' x x' many e f g =
        ap (option_and_then (wide.lay o width (k + c) (ts ++ t) (wide_blocks rest))) g
        ∙ ap (λ c. option_and_then (wide.lay o width (k + c) (ts ++ t) (wide_blocks rest)) x') e
        ∙ then_same _ _ (λ lines. same (k + c') (ts ++ t) (n + length t') lines (longer ts t t' n many f)) x'

    -- and after a paragraph
    further_stays : (width k : ℕ) (ts : List (List ℕ)) (n : ℕ) (rest : PlainBlocks) → Stays width rest →
        (put : List Line → List Line) (t t' : List (List ℕ)) (x x' : Option (List Line)) → length ts ≡ n → t ≡ t' →
        x ≡ x' → option_and_then (λ new. wide.lay o width (suc k) (ts ++ t) (wide_blocks rest) (put new)) x
        ≡ option_and_then (λ new. lay o width (suc k) (n + length t') rest (put new)) x'
    further_stays width k ts n rest same put t t' x x' many f g =
        ap (option_and_then (λ new. wide.lay o width (suc k) (ts ++ t) (wide_blocks rest) (put new))) g
        ∙ then_same _ _ (λ new. same (suc k) (ts ++ t) (n + length t') (put new) (longer ts t t' n many f)) x'

    mutual
      lay_stays : (width : ℕ) (blocks : PlainBlocks) → Stays width blocks
      lay_stays width no_blocks k ts n lines many = refl
      lay_stays width (paragraph is rest) k ts n lines many =
          further_stays width k ts n rest (lay_stays width rest) (λ new. parted o width lines ++ new)
          (wide.targets_in o (wide_inlines is)) (targets_in o is)
          (wide.paragraph_lines o width k ts (wide_inlines is)) (paragraph_lines o width k n is) many (targets_stay is)
          (paragraph_stays width k ts n is many)
      lay_stays width (heading level is rest) k ts n lines many =
          let prefix : List ℕ = replicate level 0x23 ++ codes " " in
          further_stays width k ts n rest (lay_stays width rest)
          (λ new. parted o width lines ++ prefixed o width prefix prefix new)
          (wide.targets_in o (wide_inlines is)) (targets_in o is)
          (option_and_then (λ within. wide.paragraph_lines o within k ts (wide_inlines is))
          (room width (level + 1) (capped (wide.least_in o (wide_inlines is) + (level + 1)))))
          (option_and_then (λ within. paragraph_lines o within k n is)
          (room width (level + 1) (capped (least_in o is + (level + 1))))) many (targets_stay is)
          (ap (λ l. option_and_then (λ within. wide.paragraph_lines o within k ts (wide_inlines is))
          (room width (level + 1) (capped (l + (level + 1))))) (least_stays is)
          ∙ then_same _ _ (λ within. paragraph_stays within k ts n is many)
          (room width (level + 1) (capped (least_in o is + (level + 1)))))
      lay_stays width (division kids rest) k ts n lines many =
          rest_stays width k ts n rest (lay_stays width rest)
          (wide.count (wide_blocks kids)) (count kids) (wide.targets_of o (wide_blocks kids)) (targets_of o kids)
          (wide.lay o width k ts (wide_blocks kids) lines) (lay o width k n kids lines) many (count_stays kids)
          (links_stay kids) (lay_stays width kids k ts n lines many)
      lay_stays width (bullets items rest) k ts n lines many =
          rest_stays width k ts n rest (lay_stays width rest)
          (wide.count_items (wide_items items)) (count_items items) (wide.targets_of_items o (wide_items items))
          (targets_of_items o items)
          (wide.lay_items o width k ts 2 (capped (wide.least_of_items o (wide_items items) + 2)) None (wide_items items)
          (parted o width lines))
          (lay_items o width k n 2 (capped (least_of_items o items + 2)) None items (parted o width lines))
          many (item_count_stays items) (item_links_stay items)
          (ap (λ l. wide.lay_items o width k ts 2 (capped (l + 2)) None (wide_items items) (parted o width lines))
          (item_room_stays items)
          ∙ lay_items_stay width k ts n 2 (capped (least_of_items o items + 2)) None items (parted o width lines) many)
      lay_stays width (numbers first items rest) k ts n lines many =
          let columns : ℕ = room_of_numbers first (how_many items) in
          let least : ℕ = capped (least_of_items o items + columns) in
          rest_stays width k ts n rest (lay_stays width rest)
          (wide.count_items (wide_items items)) (count_items items) (wide.targets_of_items o (wide_items items))
          (targets_of_items o items)
          (wide.lay_items o width k ts (room_of_numbers first (wide.how_many (wide_items items)))
          (least_of_numbers first (wide.least_of_items o (wide_items items)) (wide.how_many (wide_items items)))
          (Some first) (wide_items items) (parted o width lines))
          (lay_items o width k n columns least (Some first) items (parted o width lines))
          many (item_count_stays items) (item_links_stay items)
          (ap (λ l. wide.lay_items o width k ts (room_of_numbers first (wide.how_many (wide_items items)))
          (least_of_numbers first l (wide.how_many (wide_items items))) (Some first) (wide_items items)
          (parted o width lines)) (item_room_stays items)
          ∙ ap (λ m. wide.lay_items o width k ts (room_of_numbers first m)
          (least_of_numbers first (least_of_items o items) m) (Some first) (wide_items items) (parted o width lines))
          (number_stays items)
          ∙ lay_items_stay width k ts n columns least (Some first) items (parted o width lines) many)

      lay_items_stay : (width k : ℕ) (ts : List (List ℕ)) (n columns least : ℕ) (at : Option ℤ) (items : PlainItems)
          (lines : List Line) → length ts ≡ n → wide.lay_items o width k ts columns least at (wide_items items) lines
          ≡ lay_items o width k n columns least at items lines
      lay_items_stay width k ts n columns least at no_items lines many = refl
      lay_items_stay width k ts n columns least at (item kids rest) lines many =
          let put : List Line → List Line =
          λ new. lines ++ prefixed o width (to_room columns (item_prefix at)) (spaces columns) new in
          let laid : Option (List Line) = option_and_then (λ within. lay o within k n kids [])
          (room width columns least) in
          let us : List (List ℕ) = ts ++ wide.targets_of o (wide_blocks kids) in
          ap (option_and_then (λ new. wide.lay_items o width (k + wide.count (wide_blocks kids)) us columns least
          (next_number at) (wide_items rest) (put new)))
          (then_same _ _ (λ within. lay_stays within kids k ts n [] many) (room width columns least))
          ∙ ap (λ c. option_and_then (λ new. wide.lay_items o width (k + c) us columns least (next_number at)
          (wide_items rest) (put new)) laid) (count_stays kids)
          ∙ then_same _ _ (λ new. lay_items_stay width (k + count kids) us (n + length (targets_of o kids)) columns
          least (next_number at) rest (put new)
          (longer ts (wide.targets_of o (wide_blocks kids)) (targets_of o kids) n many (links_stay kids))) laid

    abbrev with_notes : ℕ → (shared prints : Bool) → List (List ℕ) → List Line → List Line
    with_notes width shared prints targets lines = if o.footnotes && is_filled targets
        then parted o width lines ++ notes o width (shown_targets prints (noted_targets shared targets)) else lines

    layout_stays : (width : ℕ) (blocks : PlainBlocks) →
        option_map (with_notes width o.shares_footnotes o.prints_targets (wide.targets_of o (wide_blocks blocks)))
        (wide.lay o width 0 [] (wide_blocks blocks) [])
        ≡ option_map (with_notes width false false (targets_of o blocks)) (lay o width 0 0 blocks [])
    layout_stays width blocks =
        ap (λ b. option_map (with_notes width b o.prints_targets (wide.targets_of o (wide_blocks blocks)))
        (wide.lay o width 0 [] (wide_blocks blocks) [])) unshared
        ∙ ap (λ b. option_map (with_notes width false b (wide.targets_of o (wide_blocks blocks)))
        (wide.lay o width 0 [] (wide_blocks blocks) [])) unprinted
        ∙ ap (λ t. option_map (with_notes width false false t) (wide.lay o width 0 [] (wide_blocks blocks) []))
        (links_stay blocks)
        ∙ ap (option_map (with_notes width false false (targets_of o blocks))) (lay_stays width blocks 0 [] 0 [] refl)

    pub lines_stay : (width : ℕ) (blocks : PlainBlocks) →
        wide.article_lines o width (wide_blocks blocks) ≡ plain_lines o width blocks
    lines_stay width blocks =
        ap (λ (x : Option (List Line)). let none : Option (List Line) = None in if nat_lt 0 width then x else none)
        (layout_stays width blocks)
