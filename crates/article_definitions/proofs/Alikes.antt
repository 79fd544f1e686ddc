-- Lines that are alike but for a paragraph's.
use Rattle.std.proofs.Common.{◌≡◌, ◌||◌, [], ◌∷◌, ◌++◌, if◌then◌else◌, ◌∙◌, Bool, List, None, ap, append-nil}
use Rattle.std.proofs.Common.{append_assoc, false, map, not, refl, subst, sym, true, ℕ}
use Rattle.std.proofs.lemmas.List.Elements.{filter-append}
use Rattle.std.proofs.lemmas.List.Folds.{list_any-append}
use Rattle.article_definitions.specs.Exchanges.{Alike, IsParagraph, changed, is_number, no_lines, others, same_line}
use Rattle.article_definitions.specs.Layouts.{Line, Options, trailing, empty_line, has_content, parted, prefixed}
use Rattle.article_definitions.specs.Layouts.{outermost}
use Rattle.text_pieces.specs.Sources.{is_filled}

module _ (n : ℕ) where
  pub alike_same : (ls : List Line) → Alike n ls ls
  alike_same [] = no_lines
  alike_same (l ∷ ls) = same_line l ls ls (alike_same ls)

  pub alike_both : (ls ms ls' ms' : List Line) → Alike n ls ms → Alike n ls' ms' → Alike n (ls ++ ls') (ms ++ ms')
  alike_both _ _ ls' ms' no_lines h = h
  alike_both _ _ ls' ms' (same_line l ls ms a) h = same_line l (ls ++ ls') (ms ++ ms') (alike_both ls ms ls' ms' a h)
  alike_both _ _ ls' ms' (changed xs ys ls ms p q a) h =
      subst (λ l. Alike n l ((ys ++ ms) ++ ms')) (sym (append_assoc xs ls ls'))
      (subst (λ l. Alike n (xs ++ (ls ++ ls')) l) (sym (append_assoc ys ms ms'))
      (changed xs ys (ls ++ ls') (ms ++ ms') p q (alike_both ls ms ls' ms' a h)))

  pub alike_changed : (xs ys : List Line) → IsParagraph n xs → IsParagraph n ys → Alike n xs ys
  alike_changed xs ys p q =
      subst (λ l. Alike n l ys) (append-nil xs)
      (subst (λ l. Alike n (xs ++ []) l) (append-nil ys) (changed xs ys [] [] p q no_lines))

  content_both : (ls ms : List Line) → has_content (ls ++ ms) ≡ (has_content ls || has_content ms)
  content_both ls ms = list_any-append (λ (l : Line). l.content) ls ms

  pub alike_content : (ls ms : List Line) → Alike n ls ms → has_content ls ≡ has_content ms
  alike_content _ _ no_lines = refl
  alike_content _ _ (same_line l ls ms a) = ap (λ b. l.content || b) (alike_content ls ms a)
  alike_content _ _ (changed xs ys ls ms p q a) =
      content_both xs ls ∙ ap (λ b. b || has_content ls) (p.shows ∙ sym q.shows)
      ∙ ap (λ b. has_content ys || b) (alike_content ls ms a) ∙ sym (content_both ys ms)

  filter_both : (ls ms : List Line) → others n (ls ++ ms) ≡ others n ls ++ others n ms
  filter_both ls ms = filter-append (λ l. not (is_number n l.number)) ls ms

  -- the lines of all others are equal, in order
  pub alike_others : (ls ms : List Line) → Alike n ls ms → others n ls ≡ others n ms
  alike_others _ _ no_lines = refl
  alike_others _ _ (same_line l ls ms a) =
      ap (λ t. if not (is_number n l.number) then l ∷ t else t) (alike_others ls ms a)
  alike_others _ _ (changed xs ys ls ms p q a) =
      filter_both xs ls ∙ ap (λ l. l ++ others n ls) (p.all ∙ sym q.all)
      ∙ ap (λ l. others n ys ++ l) (alike_others ls ms a) ∙ sym (filter_both ys ms)

  -- an empty line between blocks
  parted_by : (o : Options) (width : ℕ) (ls ms : List Line) (b : Bool) → Alike n ls ms →
      Alike n (if b then ls ++ empty_line o width outermost None ∷ [] else ls)
      (if b then ms ++ empty_line o width outermost None ∷ [] else ms)
  parted_by o width ls ms true a = let line : List Line = empty_line o width outermost None ∷ [] in
      alike_both ls ms line line a (alike_same line)
  parted_by o width ls ms false a = a

  pub alike_parted : (o : Options) (width : ℕ) (ls ms : List Line) → Alike n ls ms →
      Alike n (parted o width ls) (parted o width ms)
  alike_parted o width ls ms a =
      subst (λ b. Alike n (parted o width ls) (if b then ms ++ empty_line o width outermost None ∷ [] else ms))
      (alike_content ls ms a) (parted_by o width ls ms (has_content ls) a)

  -- prefixes
  module _ (o : Options) (width : ℕ) where
    kept_by : (b : Bool) (l l' : Line) (ls ls' : List Line) → (if b then l ∷ ls else ls) ≡ [] →
        (ls ≡ [] → ls' ≡ []) → (if b then l' ∷ ls' else ls') ≡ []
    kept_by true l l' ls ls' h k = cc
    kept_by false l l' ls ls' h k = k h

    numbers_kept : (prefix : List ℕ) (ls : List Line) → others n ls ≡ [] →
        others n (map (trailing o width prefix) ls) ≡ []
    numbers_kept prefix [] h = refl
    numbers_kept prefix (l ∷ ls) h = kept_by (not (is_number n l.number)) l (trailing o width prefix l) (others n ls)
        (others n (map (trailing o width prefix) ls)) h (numbers_kept prefix ls)

    or_by : (b c d d' : Bool) → (b || d) ≡ true → (d ≡ true → d' ≡ true) → ((b || c) || d') ≡ true
    or_by true c d d' h k = refl
    or_by false true d d' h k = refl
    or_by false false d d' h k = k h

    content_kept : (prefix : List ℕ) (ls : List Line) → has_content ls ≡ true →
        has_content (map (trailing o width prefix) ls) ≡ true
    content_kept prefix [] h = h
    content_kept prefix (l ∷ ls) h = or_by l.content (is_filled prefix) (has_content ls)
        (has_content (map (trailing o width prefix) ls)) h (content_kept prefix ls)

    map_both : (f : Line → Line) (ls ms : List Line) → map f (ls ++ ms) ≡ map f ls ++ map f ms
    map_both f [] ms = refl
    map_both f (l ∷ ls) ms = ap (λ t. f l ∷ t) (map_both f ls ms)

    alike_mapped : (prefix : List ℕ) (ls ms : List Line) → Alike n ls ms →
        Alike n (map (trailing o width prefix) ls) (map (trailing o width prefix) ms)
    alike_mapped prefix _ _ no_lines = no_lines
    alike_mapped prefix _ _ (same_line l ls ms a) = same_line (trailing o width prefix l)
        (map (trailing o width prefix) ls) (map (trailing o width prefix) ms) (alike_mapped prefix ls ms a)
    alike_mapped prefix _ _ (changed xs ys ls ms p q a) =
        let f : Line → Line = trailing o width prefix in
        subst (λ l. Alike n l (map f (ys ++ ms))) (sym (map_both f xs ls))
        (subst (λ l. Alike n (map f xs ++ map f ls) l) (sym (map_both f ys ms))
        (changed (map f xs) (map f ys) (map f ls) (map f ms)
        (record { all = numbers_kept prefix xs p.all; shows = content_kept prefix xs p.shows })
        (record { all = numbers_kept prefix ys q.all; shows = content_kept prefix ys q.shows })
        (alike_mapped prefix ls ms a)))

    -- a paragraph with content has a line, so the first prefix stands before a line of it
    both_prefixed : (first following : List ℕ) (xs ls : List Line) → has_content xs ≡ true →
        prefixed o width first following (xs ++ ls)
        ≡ prefixed o width first following xs ++ map (trailing o width following) ls
    both_prefixed first following [] ls h = absurd (let wrong : false ≡ true = h in cc)
    both_prefixed first following (x ∷ xs) ls h =
        ap (λ t. trailing o width first x ∷ t) (map_both (trailing o width following) xs ls)

    pub prefixed_is : (first following : List ℕ) (xs : List Line) → IsParagraph n xs →
        IsParagraph n (prefixed o width first following xs)
    prefixed_is first following [] p = p
    prefixed_is first following (x ∷ xs) p = record {
      all = kept_by (not (is_number n x.number)) x (trailing o width first x) (others n xs)
          (others n (map (trailing o width following) xs)) p.all (numbers_kept following xs);
      shows = or_by x.content (is_filled first) (has_content xs) (has_content (map (trailing o width following) xs))
          p.shows (content_kept following xs);
    }

    pub alike_prefixed : (first following : List ℕ) (ls ms : List Line) → Alike n ls ms →
        Alike n (prefixed o width first following ls) (prefixed o width first following ms)
    alike_prefixed first following _ _ no_lines = no_lines
    alike_prefixed first following _ _ (same_line l ls ms a) = same_line (trailing o width first l)
        (map (trailing o width following) ls) (map (trailing o width following) ms) (alike_mapped following ls ms a)
    alike_prefixed first following _ _ (changed xs ys ls ms p q a) =
        let f : List Line → List Line = prefixed o width first following in
        let g : List Line → List Line = map (trailing o width following) in
        subst (λ l. Alike n l (f (ys ++ ms))) (sym (both_prefixed first following xs ls p.shows))
        (subst (λ l. Alike n (f xs ++ g ls) l) (sym (both_prefixed first following ys ms q.shows))
        (changed (f xs) (f ys) (g ls) (g ms) (prefixed_is first following xs p) (prefixed_is first following ys q)
        (alike_mapped following ls ms a)))
