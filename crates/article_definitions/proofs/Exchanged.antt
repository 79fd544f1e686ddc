-- Articles that differ in one text with a visible character have lines that are alike but for its paragraph.
use Rattle.std.proofs.Common.{◌≡◌, ◌+◌, ◌-◌, ◌&&◌, if◌then◌else◌, [], ◌++◌, ◌∙◌, Bool, List, None, Option, Some, ap}
use Rattle.std.proofs.Common.{codes, false, max, nat_le, refl, replicate, subst, suc, sym, true, ℕ, ℤ}
use Rattle.std.proofs.lemmas.Option.{none-some, option_and_then_some, same_Some}
use Rattle.std.specs.List.{list_any}
use Rattle.std.specs.Option.{option_and_then, option_map}
use Rattle.text_normal.specs.Letters.{has_marker}
use Rattle.text_normal.specs.Riders.{normal_lines}
use Rattle.text_pieces.specs.Items.{has_text}
use Rattle.text_pieces.specs.Sources.{Source, is_filled}
use Rattle.article_definitions.specs.Showing.{has_visible}
use Rattle.article_values.specs.Articles.{Blocks, Items, bullets, division, heading, item, no_blocks, no_items, numbers}
use Rattle.article_values.specs.Articles.{paragraph, quote}
use Rattle.article_definitions.specs.Exchanges.{Alike, Differ, DifferItems, after_bullets, after_division}
use Rattle.article_definitions.specs.Exchanges.{after_heading, after_item, after_numbers, after_paragraph, after_quote}
use Rattle.article_definitions.specs.Exchanges.{in_bullets, in_division, in_item, in_numbers, in_quote, others}
use Rattle.article_definitions.specs.Exchanges.{this_heading, this_paragraph}
use Rattle.render_sizes.specs.Extents.{capped}
use Rattle.article_definitions.specs.Layouts.{Line, Options, Tag, count, count_items, how_many, if_fits, item_prefix}
use Rattle.article_definitions.specs.Layouts.{lay, lay_items, layout, least_in, least_of, least_of_items}
use Rattle.article_definitions.specs.Layouts.{listed_targets}
use Rattle.article_definitions.specs.Layouts.{next_number}
use Rattle.article_definitions.specs.Layouts.{paragraph_lines, parted, prefixed, quote_prefix, room, room_of_numbers}
use Rattle.article_definitions.specs.Layouts.{targets_in, targets_of, targets_of_items, to_room, within}
use Rattle.layout_state.specs.Items.{spaces}
use Rattle.article_definitions.proofs.Alikes.{alike_both, alike_changed, alike_others, alike_parted, alike_prefixed}
use Rattle.article_definitions.proofs.Alikes.{alike_same, prefixed_is}
use Rattle.article_definitions.proofs.Shown.{left_shown, paragraph_is, right_shown, same_targets}

same_some : {A : Type 0} (x : Option A) (a b : A) → x ≡ Some a → x ≡ Some b → a ≡ b
same_some x a b p q = same_Some a b (sym p ∙ q)

-- a room that is had does not depend on what was asked for
fits_is : (b : Bool) (x y : ℕ) → if_fits b x ≡ Some y → x ≡ y
fits_is true x y e = same_Some x y e
fits_is false x y e = absurd (none-some y e)

room_is : (width prefix least r : ℕ) → room width prefix least ≡ Some r → width - prefix ≡ r
room_is width prefix least r e = fits_is (nat_le (max (least - prefix) 1) (width - prefix)) (width - prefix) r e

same_room : (width prefix least least' r s : ℕ) → room width prefix least ≡ Some r → room width prefix least' ≡ Some s →
    r ≡ s
same_room width prefix least least' r s p q = sym (room_is width prefix least r p) ∙ room_is width prefix least' s q

module _ (o : Options) (number : ℕ) where
  alike_equal : (xs ys : List Line) → xs ≡ ys → Alike number xs ys
  alike_equal xs ys e = subst (Alike number xs) e (alike_same number xs)

  some_alike : (ls ms x y : List Line) → ◌≡◌ {A = Option (List Line)} (Some ls) (Some x) →
      ◌≡◌ {A = Option (List Line)} (Some ms) (Some y) → Alike number ls ms → Alike number x y
  some_alike ls ms x y p q a =
      subst (λ l. Alike number l y) (same_Some ls x p) (subst (Alike number ls) (same_Some ms y q) a)

  -- ---- the same blocks after lines that are alike
  mutual
    pub same_lay : (w k : ℕ) (ts : List (List ℕ)) (a : Blocks) (ls ms x y : List Line) → lay o w k ts a ls ≡ Some x →
        lay o w k ts a ms ≡ Some y → Alike number ls ms → Alike number x y
    same_lay w k ts no_blocks ls ms x y p q a = some_alike ls ms x y p q a
    same_lay w k ts (paragraph is rest) ls ms x y p q a =
        option_and_then_some _ (paragraph_lines o w k ts is) x p (λ new e f.
        option_and_then_some _ (paragraph_lines o w k ts is) y q (λ new' e' f'.
        same_lay w (suc k) (ts ++ targets_in o is) rest (parted o w ls ++ new) (parted o w ms ++ new') x y f f'
        (alike_both number (parted o w ls) (parted o w ms) new new' (alike_parted number o w ls ms a)
        (alike_equal new new' (same_some (paragraph_lines o w k ts is) new new' e e')))))
    same_lay w k ts (heading level is rest) ls ms x y p q a =
        let prefix : List ℕ = replicate level 0x23 ++ codes " " in
        let lines : Option (List Line) = option_and_then (λ within. paragraph_lines o within k ts is)
        (room w (level + 1) (capped (least_in o is + (level + 1)))) in
        option_and_then_some _ lines x p (λ new e f.
        option_and_then_some _ lines y q (λ new' e' f'.
        same_lay w (suc k) (ts ++ targets_in o is) rest (parted o w ls ++ prefixed o w prefix prefix new)
        (parted o w ms ++ prefixed o w prefix prefix new') x y f f'
        (alike_both number (parted o w ls) (parted o w ms) (prefixed o w prefix prefix new)
        (prefixed o w prefix prefix new') (alike_parted number o w ls ms a)
        (alike_prefixed number o w prefix prefix new new' (alike_equal new new' (same_some lines new new' e e'))))))
    same_lay w k ts (division kids rest) ls ms x y p q a =
        option_and_then_some _ (lay o w k ts kids ls) x p (λ u e f.
        option_and_then_some _ (lay o w k ts kids ms) y q (λ v e' f'.
        same_lay w (k + count kids) (ts ++ targets_of o kids) rest u v x y f f'
        (same_lay w k ts kids ls ms u v e e' a)))
    same_lay w k ts (quote kids rest) ls ms x y p q a =
        let lines : Option (List Line) = option_and_then (λ within. lay o within k ts kids [])
        (room w 2 (capped (least_of o kids + 2))) in
        option_and_then_some _ lines x p (λ new e f.
        option_and_then_some _ lines y q (λ new' e' f'.
        same_lay w (k + count kids) (ts ++ targets_of o kids) rest
        (parted o w ls ++ prefixed o w quote_prefix quote_prefix new)
        (parted o w ms ++ prefixed o w quote_prefix quote_prefix new') x y f f'
        (alike_both number (parted o w ls) (parted o w ms) (prefixed o w quote_prefix quote_prefix new)
        (prefixed o w quote_prefix quote_prefix new') (alike_parted number o w ls ms a)
        (alike_prefixed number o w quote_prefix quote_prefix new new'
        (alike_equal new new' (same_some lines new new' e e'))))))
    same_lay w k ts (bullets items rest) ls ms x y p q a = let least = capped (least_of_items o items + 2) in
        option_and_then_some _ (lay_items o w k ts 2 least None items (parted o w ls)) x p (λ u e f.
        option_and_then_some _ (lay_items o w k ts 2 least None items (parted o w ms)) y q (λ v e' f'.
        same_lay w (k + count_items items) (ts ++ targets_of_items o items) rest u v x y f f'
        (same_items w k ts 2 least least None items (parted o w ls) (parted o w ms) u v e e'
        (alike_parted number o w ls ms a))))
    same_lay w k ts (numbers first items rest) ls ms x y p q a = let columns = room_of_numbers first (how_many items) in
        let least = capped (least_of_items o items + columns) in
        option_and_then_some _ (lay_items o w k ts columns least (Some first) items (parted o w ls)) x p (λ u e f.
        option_and_then_some _ (lay_items o w k ts columns least (Some first) items (parted o w ms)) y q (λ v e' f'.
        same_lay w (k + count_items items) (ts ++ targets_of_items o items) rest u v x y f f'
        (same_items w k ts columns least least (Some first) items (parted o w ls) (parted o w ms) u v e e'
        (alike_parted number o w ls ms a))))

    pub same_items : (w k : ℕ) (ts : List (List ℕ)) (columns least least' : ℕ) (at : Option ℤ) (a : Items)
        (ls ms x y : List Line) →
        lay_items o w k ts columns least at a ls ≡ Some x → lay_items o w k ts columns least' at a ms ≡ Some y →
        Alike number ls ms → Alike number x y
    same_items w k ts columns least least' at no_items ls ms x y p q a = some_alike ls ms x y p q a
    same_items w k ts columns least least' at (item kids rest) ls ms x y p q a =
        let first : List ℕ = to_room columns (item_prefix at) in
        let following : List ℕ = spaces columns in
        option_and_then_some _ (option_and_then (λ within. lay o within k ts kids []) (room w columns least)) x p
        (λ new e f.
        option_and_then_some _ (option_and_then (λ within. lay o within k ts kids []) (room w columns least')) y q
        (λ new' e' f'.
        option_and_then_some _ (room w columns least) new e (λ r g h.
        option_and_then_some _ (room w columns least') new' e' (λ s g' h'.
        same_items w (k + count kids) (ts ++ targets_of o kids) columns least least' (next_number at) rest
        (ls ++ prefixed o w first following new) (ms ++ prefixed o w first following new') x y f f'
        (alike_both number ls ms (prefixed o w first following new) (prefixed o w first following new') a
        (alike_prefixed number o w first following new new'
        (same_lay r k ts kids [] [] new new' h
        (subst (λ t. lay o t k ts kids [] ≡ Some new') (sym (same_room w columns least least' r s g g')) h')
        (alike_same number []))))))))

-- ---- what does not depend on the text
mutual
  same_count : (n k : ℕ) (a b : Blocks) → Differ n k a b → count a ≡ count b
  same_count n _ _ _ (this_paragraph a b rest d) = refl
  same_count n _ _ _ (this_heading level a b rest d) = refl
  same_count n _ _ _ (after_paragraph k is a b d) = ap (λ c. suc c) (same_count n (suc k) a b d)
  same_count n _ _ _ (after_heading k level is a b d) = ap (λ c. suc c) (same_count n (suc k) a b d)
  same_count n _ _ _ (in_division k a b rest d) = ap (λ c. c + count rest) (same_count n k a b d)
  same_count n _ _ _ (after_division k kids a b d) = ap (λ c. count kids + c) (same_count n (k + count kids) a b d)
  same_count n _ _ _ (in_quote k a b rest d) = ap (λ c. c + count rest) (same_count n k a b d)
  same_count n _ _ _ (after_quote k kids a b d) = ap (λ c. count kids + c) (same_count n (k + count kids) a b d)
  same_count n _ _ _ (in_bullets k a b rest d) = ap (λ c. c + count rest) (same_count_items n k a b d)
  same_count n _ _ _ (after_bullets k items a b d) =
      ap (λ c. count_items items + c) (same_count n (k + count_items items) a b d)
  same_count n _ _ _ (in_numbers k first a b rest d) = ap (λ c. c + count rest) (same_count_items n k a b d)
  same_count n _ _ _ (after_numbers k first items a b d) =
      ap (λ c. count_items items + c) (same_count n (k + count_items items) a b d)

  same_count_items : (n k : ℕ) (a b : Items) → DifferItems n k a b → count_items a ≡ count_items b
  same_count_items n _ _ _ (in_item k a b rest d) = ap (λ c. c + count_items rest) (same_count n k a b d)
  same_count_items n _ _ _ (after_item k kids a b d) =
      ap (λ c. count kids + c) (same_count_items n (k + count kids) a b d)

same_many : (n k : ℕ) (a b : Items) → DifferItems n k a b → how_many a ≡ how_many b
same_many n _ _ _ (in_item k a b rest d) = refl
same_many n _ _ _ (after_item k kids a b d) = ap (λ c. suc c) (same_many n (k + count kids) a b d)

module _ (o : Options) where
  mutual
    pub same_links : (n k : ℕ) (a b : Blocks) → Differ n k a b → targets_of o a ≡ targets_of o b
    same_links n _ _ _ (this_paragraph a b rest d) = ap (λ l. l ++ targets_of o rest) (same_targets o a b d)
    same_links n _ _ _ (this_heading level a b rest d) = ap (λ l. l ++ targets_of o rest) (same_targets o a b d)
    same_links n _ _ _ (after_paragraph k is a b d) = ap (λ l. targets_in o is ++ l) (same_links n (suc k) a b d)
    same_links n _ _ _ (after_heading k level is a b d) =
        ap (λ l. targets_in o is ++ l) (same_links n (suc k) a b d)
    same_links n _ _ _ (in_division k a b rest d) = ap (λ l. l ++ targets_of o rest) (same_links n k a b d)
    same_links n _ _ _ (after_division k kids a b d) =
        ap (λ l. targets_of o kids ++ l) (same_links n (k + count kids) a b d)
    same_links n _ _ _ (in_quote k a b rest d) = ap (λ l. l ++ targets_of o rest) (same_links n k a b d)
    same_links n _ _ _ (after_quote k kids a b d) =
        ap (λ l. targets_of o kids ++ l) (same_links n (k + count kids) a b d)
    same_links n _ _ _ (in_bullets k a b rest d) = ap (λ l. l ++ targets_of o rest) (same_links_items n k a b d)
    same_links n _ _ _ (after_bullets k items a b d) =
        ap (λ l. targets_of_items o items ++ l) (same_links n (k + count_items items) a b d)
    same_links n _ _ _ (in_numbers k first a b rest d) = ap (λ l. l ++ targets_of o rest) (same_links_items n k a b d)
    same_links n _ _ _ (after_numbers k first items a b d) =
        ap (λ l. targets_of_items o items ++ l) (same_links n (k + count_items items) a b d)

    same_links_items : (n k : ℕ) (a b : Items) → DifferItems n k a b → targets_of_items o a ≡ targets_of_items o b
    same_links_items n _ _ _ (in_item k a b rest d) = ap (λ l. l ++ targets_of_items o rest) (same_links n k a b d)
    same_links_items n _ _ _ (after_item k kids a b d) =
        ap (λ l. targets_of o kids ++ l) (same_links_items n (k + count kids) a b d)

  -- ---- one text differs
  module _ (number : ℕ) (shows : (width : ℕ) (s : List (Source Tag)) → has_marker s ≡ false → has_visible s ≡ true →
      list_any has_text (normal_lines width s) ≡ true) where
    after_changed : (w k k' : ℕ) (ts ts' : List (List ℕ)) (rest : Blocks) (u v x y : List Line) → k ≡ k' → ts ≡ ts' →
        lay o w k ts rest u ≡ Some x → lay o w k' ts' rest v ≡ Some y → Alike number u v → Alike number x y
    after_changed w k k' ts ts' rest u v x y e f p q a = same_lay o number w k ts rest u v x y p
        (subst (λ k. lay o w k ts rest v ≡ Some y) (sym e) (subst (λ ts. lay o w k' ts rest v ≡ Some y) (sym f) q)) a

    mutual
      pub differ_lay : (w k : ℕ) (ts : List (List ℕ)) (a b : Blocks) (ls ms x y : List Line) → Differ number k a b →
          lay o w k ts a ls ≡ Some x → lay o w k ts b ms ≡ Some y → Alike number ls ms → Alike number x y
      differ_lay w _ ts _ _ ls ms x y (this_paragraph a b rest d) p q al =
          option_and_then_some _ (paragraph_lines o w number ts a) x p (λ new e f.
          option_and_then_some _ (paragraph_lines o w number ts b) y q (λ new' e' f'.
          after_changed w (suc number) (suc number) (ts ++ targets_in o a) (ts ++ targets_in o b) rest
          (parted o w ls ++ new) (parted o w ms ++ new') x y refl (ap (λ t. ts ++ t) (same_targets o a b d)) f f'
          (alike_both number (parted o w ls) (parted o w ms) new new' (alike_parted number o w ls ms al)
          (alike_changed number new new' (paragraph_is o w number shows ts a new (left_shown a b d) e)
          (paragraph_is o w number shows ts b new' (right_shown a b d) e')))))
      differ_lay w _ ts _ _ ls ms x y (this_heading level a b rest d) p q al =
          let prefix : List ℕ = replicate level 0x23 ++ codes " " in
          let room_a : Option ℕ = room w (level + 1) (capped (least_in o a + (level + 1))) in
          let room_b : Option ℕ = room w (level + 1) (capped (least_in o b + (level + 1))) in
          option_and_then_some _ (option_and_then (λ within. paragraph_lines o within number ts a) room_a) x p
          (λ new e f.
          option_and_then_some _ (option_and_then (λ within. paragraph_lines o within number ts b) room_b) y q
          (λ new' e' f'.
          option_and_then_some _ room_a new e (λ r g h.
          option_and_then_some _ room_b new' e' (λ s g' h'.
          after_changed w (suc number) (suc number) (ts ++ targets_in o a) (ts ++ targets_in o b) rest
          (parted o w ls ++ prefixed o w prefix prefix new) (parted o w ms ++ prefixed o w prefix prefix new') x y refl
          (ap (λ t. ts ++ t) (same_targets o a b d)) f f'
          (alike_both number (parted o w ls) (parted o w ms) (prefixed o w prefix prefix new)
          (prefixed o w prefix prefix new') (alike_parted number o w ls ms al)
          (alike_changed number (prefixed o w prefix prefix new) (prefixed o w prefix prefix new')
          (prefixed_is number o w prefix prefix new (paragraph_is o r number shows ts a new (left_shown a b d) h))
          (prefixed_is number o w prefix prefix new'
          (paragraph_is o s number shows ts b new' (right_shown a b d) h'))))))))
      differ_lay w _ ts _ _ ls ms x y (after_paragraph k is a b d) p q al =
          let lines : Option (List Line) = paragraph_lines o w k ts is in
          option_and_then_some _ lines x p (λ new e f.
          option_and_then_some _ lines y q (λ new' e' f'.
          differ_lay w (suc k) (ts ++ targets_in o is) a b (parted o w ls ++ new) (parted o w ms ++ new') x y d f f'
          (alike_both number (parted o w ls) (parted o w ms) new new' (alike_parted number o w ls ms al)
          (alike_equal o number new new' (same_some lines new new' e e')))))
      differ_lay w _ ts _ _ ls ms x y (after_heading k level is a b d) p q al =
          let prefix : List ℕ = replicate level 0x23 ++ codes " " in
          let lines : Option (List Line) = option_and_then (λ within. paragraph_lines o within k ts is)
          (room w (level + 1) (capped (least_in o is + (level + 1)))) in
          option_and_then_some _ lines x p (λ new e f.
          option_and_then_some _ lines y q (λ new' e' f'.
          differ_lay w (suc k) (ts ++ targets_in o is) a b (parted o w ls ++ prefixed o w prefix prefix new)
          (parted o w ms ++ prefixed o w prefix prefix new') x y d f f'
          (alike_both number (parted o w ls) (parted o w ms) (prefixed o w prefix prefix new)
          (prefixed o w prefix prefix new') (alike_parted number o w ls ms al)
          (alike_prefixed number o w prefix prefix new new'
          (alike_equal o number new new' (same_some lines new new' e e'))))))
      differ_lay w _ ts _ _ ls ms x y (in_division k a b rest d) p q al =
          option_and_then_some _ (lay o w k ts a ls) x p (λ u e f.
          option_and_then_some _ (lay o w k ts b ms) y q (λ v e' f'.
          after_changed w (k + count a) (k + count b) (ts ++ targets_of o a) (ts ++ targets_of o b) rest u v
          x y (ap (λ c. k + c) (same_count number k a b d)) (ap (λ t. ts ++ t) (same_links number k a b d)) f f'
          (differ_lay w k ts a b ls ms u v d e e' al)))
      differ_lay w _ ts _ _ ls ms x y (after_division k kids a b d) p q al =
          option_and_then_some _ (lay o w k ts kids ls) x p (λ u e f.
          option_and_then_some _ (lay o w k ts kids ms) y q (λ v e' f'.
          differ_lay w (k + count kids) (ts ++ targets_of o kids) a b u v x y d f f'
          (same_lay o number w k ts kids ls ms u v e e' al)))
      differ_lay w _ ts _ _ ls ms x y (in_quote k a b rest d) p q al =
          let room_a : Option ℕ = room w 2 (capped (least_of o a + 2)) in
          let room_b : Option ℕ = room w 2 (capped (least_of o b + 2)) in
          option_and_then_some _ (option_and_then (λ within. lay o within k ts a []) room_a) x p (λ new e f.
          option_and_then_some _ (option_and_then (λ within. lay o within k ts b []) room_b) y q (λ new' e' f'.
          option_and_then_some _ room_a new e (λ r g h.
          option_and_then_some _ room_b new' e' (λ s g' h'.
          after_changed w (k + count a) (k + count b) (ts ++ targets_of o a) (ts ++ targets_of o b) rest
          (parted o w ls ++ prefixed o w quote_prefix quote_prefix new)
          (parted o w ms ++ prefixed o w quote_prefix quote_prefix new') x y
          (ap (λ c. k + c) (same_count number k a b d)) (ap (λ t. ts ++ t) (same_links number k a b d)) f f'
          (alike_both number (parted o w ls) (parted o w ms) (prefixed o w quote_prefix quote_prefix new)
          (prefixed o w quote_prefix quote_prefix new') (alike_parted number o w ls ms al)
          (alike_prefixed number o w quote_prefix quote_prefix new new'
          (differ_lay r k ts a b [] [] new new' d h
          (subst (λ t. lay o t k ts b [] ≡ Some new')
          (sym (same_room w 2 (capped (least_of o a + 2)) (capped (least_of o b + 2)) r s g g')) h')
          (alike_same number []))))))))
      differ_lay w _ ts _ _ ls ms x y (after_quote k kids a b d) p q al =
          let lines : Option (List Line) = option_and_then (λ within. lay o within k ts kids [])
          (room w 2 (capped (least_of o kids + 2))) in
          option_and_then_some _ lines x p (λ new e f.
          option_and_then_some _ lines y q (λ new' e' f'.
          differ_lay w (k + count kids) (ts ++ targets_of o kids) a b
          (parted o w ls ++ prefixed o w quote_prefix quote_prefix new)
          (parted o w ms ++ prefixed o w quote_prefix quote_prefix new') x y d f f'
          (alike_both number (parted o w ls) (parted o w ms) (prefixed o w quote_prefix quote_prefix new)
          (prefixed o w quote_prefix quote_prefix new') (alike_parted number o w ls ms al)
          (alike_prefixed number o w quote_prefix quote_prefix new new'
          (alike_equal o number new new' (same_some lines new new' e e'))))))
      differ_lay w _ ts _ _ ls ms x y (in_bullets k a b rest d) p q al =
          let la = capped (least_of_items o a + 2) in
          let lb = capped (least_of_items o b + 2) in
          option_and_then_some _ (lay_items o w k ts 2 la None a (parted o w ls)) x p (λ u e f.
          option_and_then_some _ (lay_items o w k ts 2 lb None b (parted o w ms)) y q (λ v e' f'.
          after_changed w (k + count_items a) (k + count_items b) (ts ++ targets_of_items o a)
          (ts ++ targets_of_items o b) rest u v x y (ap (λ c. k + c) (same_count_items number k a b d))
          (ap (λ t. ts ++ t) (same_links_items number k a b d)) f f'
          (differ_items w k ts 2 la lb None a b (parted o w ls) (parted o w ms) u v d e e'
          (alike_parted number o w ls ms al))))
      differ_lay w _ ts _ _ ls ms x y (after_bullets k items a b d) p q al =
          let least = capped (least_of_items o items + 2) in
          option_and_then_some _ (lay_items o w k ts 2 least None items (parted o w ls)) x p (λ u e f.
          option_and_then_some _ (lay_items o w k ts 2 least None items (parted o w ms)) y q (λ v e' f'.
          differ_lay w (k + count_items items) (ts ++ targets_of_items o items) a b u v x y d f f'
          (same_items o number w k ts 2 least least None items (parted o w ls) (parted o w ms) u v e e'
          (alike_parted number o w ls ms al))))
      differ_lay w _ ts _ _ ls ms x y (in_numbers k first a b rest d) p q al =
          let columns = room_of_numbers first (how_many a) in
          let la = capped (least_of_items o a + columns) in
          let many : how_many b ≡ how_many a = sym (same_many number k a b d) in
          option_and_then_some _ (lay_items o w k ts columns la (Some first) a (parted o w ls)) x p (λ u e f.
          option_and_then_some _ (lay_items o w k ts (room_of_numbers first (how_many b))
          (capped (least_of_items o b + room_of_numbers first (how_many b))) (Some first) b (parted o w ms)) y q
          (λ v e' f'.
          after_changed w (k + count_items a) (k + count_items b) (ts ++ targets_of_items o a)
          (ts ++ targets_of_items o b) rest u v x y (ap (λ c. k + c) (same_count_items number k a b d))
          (ap (λ t. ts ++ t) (same_links_items number k a b d)) f f'
          (differ_items w k ts columns la (capped (least_of_items o b + columns)) (Some first) a b (parted o w ls)
          (parted o w ms) u v d e (subst (λ h. lay_items o w k ts (room_of_numbers first h)
          (capped (least_of_items o b + room_of_numbers first h)) (Some first) b (parted o w ms) ≡ Some v) many e')
          (alike_parted number o w ls ms al))))
      differ_lay w _ ts _ _ ls ms x y (after_numbers k first items a b d) p q al =
          let columns = room_of_numbers first (how_many items) in
          let least = capped (least_of_items o items + columns) in
          option_and_then_some _ (lay_items o w k ts columns least (Some first) items (parted o w ls)) x p (λ u e f.
          option_and_then_some _ (lay_items o w k ts columns least (Some first) items (parted o w ms)) y q (λ v e' f'.
          differ_lay w (k + count_items items) (ts ++ targets_of_items o items) a b u v x y d f f'
          (same_items o number w k ts columns least least (Some first) items (parted o w ls) (parted o w ms) u v e e'
          (alike_parted number o w ls ms al))))

      pub differ_items : (w k : ℕ) (ts : List (List ℕ)) (columns least least' : ℕ) (at : Option ℤ) (a b : Items)
          (ls ms x y : List Line) →
          DifferItems number k a b → lay_items o w k ts columns least at a ls ≡ Some x →
          lay_items o w k ts columns least' at b ms ≡ Some y → Alike number ls ms → Alike number x y
      differ_items w _ ts columns least least' at _ _ ls ms x y (in_item k a b rest d) p q al =
          let first : List ℕ = to_room columns (item_prefix at) in
          let following : List ℕ = spaces columns in
          option_and_then_some _ (option_and_then (λ within. lay o within k ts a []) (room w columns least)) x p
          (λ new e f.
          option_and_then_some _ (option_and_then (λ within. lay o within k ts b []) (room w columns least')) y q
          (λ new' e' f'.
          option_and_then_some _ (room w columns least) new e (λ r g h.
          option_and_then_some _ (room w columns least') new' e' (λ s g' h'.
          same_items o number w (k + count a) (ts ++ targets_of o a) columns least least' (next_number at) rest
          (ls ++ prefixed o w first following new) (ms ++ prefixed o w first following new') x y f
          (subst (λ c. lay_items o w (k + c) (ts ++ targets_of o a) columns least' (next_number at) rest
          (ms ++ prefixed o w first following new') ≡ Some y) (sym (same_count number k a b d))
          (subst (λ t. lay_items o w (k + count b) (ts ++ t) columns least' (next_number at) rest
          (ms ++ prefixed o w first following new') ≡ Some y) (sym (same_links number k a b d)) f'))
          (alike_both number ls ms (prefixed o w first following new) (prefixed o w first following new') al
          (alike_prefixed number o w first following new new'
          (differ_lay r k ts a b [] [] new new' d h
          (subst (λ t. lay o t k ts b [] ≡ Some new') (sym (same_room w columns least least' r s g g')) h')
          (alike_same number []))))))))
      differ_items w _ ts columns least least' at _ _ ls ms x y (after_item k kids a b d) p q al =
          let first : List ℕ = to_room columns (item_prefix at) in
          let following : List ℕ = spaces columns in
          option_and_then_some _ (option_and_then (λ within. lay o within k ts kids []) (room w columns least)) x p
          (λ new e f.
          option_and_then_some _ (option_and_then (λ within. lay o within k ts kids []) (room w columns least')) y q
          (λ new' e' f'.
          option_and_then_some _ (room w columns least) new e (λ r g h.
          option_and_then_some _ (room w columns least') new' e' (λ s g' h'.
          differ_items w (k + count kids) (ts ++ targets_of o kids) columns least least' (next_number at) a b
          (ls ++ prefixed o w first following new) (ms ++ prefixed o w first following new') x y d f f'
          (alike_both number ls ms (prefixed o w first following new) (prefixed o w first following new') al
          (alike_prefixed number o w first following new new'
          (same_lay o number r k ts kids [] [] new new' h
          (subst (λ t. lay o t k ts kids [] ≡ Some new') (sym (same_room w columns least least' r s g g')) h')
          (alike_same number []))))))))

    -- the whole article, with the lines of its links
    abbrev with_footnotes : (List (List ℕ) → List Line) → ℕ → List (List ℕ) → List Line → List Line
    with_footnotes footnotes w targets lines =
        if o.footnotes && is_filled targets
        then parted o w lines ++ footnotes (listed_targets o targets) else lines

    footnotes_alike : (footnotes : List (List ℕ) → List Line) (w : ℕ) (targets : List (List ℕ)) (b : Bool)
        (ls ms : List Line) → Alike number ls ms →
        Alike number (if b then parted o w ls ++ footnotes targets else ls)
        (if b then parted o w ms ++ footnotes targets else ms)
    footnotes_alike footnotes w targets true ls ms al =
        alike_both number (parted o w ls) (parted o w ms) (footnotes targets) (footnotes targets)
        (alike_parted number o w ls ms al) (alike_same number (footnotes targets))
    footnotes_alike footnotes w targets false ls ms al = al

    map_some : (f : List Line → List Line) (x : Option (List Line)) (y : List Line) → option_map f x ≡ Some y →
        (z : List Line) × (x ≡ Some z) × (f z ≡ y)
    map_some f None y e = absurd (none-some y e)
    map_some f (Some z) y e = (z, refl, same_Some (f z) y e)

    pub whole_exchange : (footnotes : List (List ℕ) → List Line) (w : ℕ) (a b : Blocks) (ls ms : List Line) →
        Differ number 0 a b → layout o footnotes w a ≡ Some ls → layout o footnotes w b ≡ Some ms →
        others number ls ≡ others number ms
    whole_exchange footnotes w a b ls ms d p q =
        let u = map_some (with_footnotes footnotes w (targets_of o a)) (lay o w 0 [] a []) ls p in
        let v = map_some (with_footnotes footnotes w (targets_of o b)) (lay o w 0 [] b []) ms q in
        let al : Alike number u.0 v.0 = differ_lay w 0 [] a b [] [] u.0 v.0 d u.1 v.1 (alike_same number []) in
        let ta : List (List ℕ) = targets_of o a in
        alike_others number ls ms
        (subst (λ l. Alike number l ms) u.2
        (subst (λ m. Alike number (with_footnotes footnotes w ta u.0) m) v.2
        (subst (λ t. Alike number (with_footnotes footnotes w ta u.0) (with_footnotes footnotes w t v.0))
        (same_links number 0 a b d)
        (footnotes_alike footnotes w (listed_targets o ta) (o.footnotes && is_filled ta) u.0 v.0 al))))
