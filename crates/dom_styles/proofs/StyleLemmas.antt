-- What is declared, one declaration or one rule more.
use Rattle.std.proofs.Common.{◌≡◌, ◌+◌, ◌<◌, ◌≤◌, [], ◌∷◌, ◌++◌, ◌∙◌, Bool, List, ap, false, get_or, length, map, refl}
use Rattle.std.proofs.Common.{subst, sym, take, true, ℕ}
use Rattle.std.specs.Prelude.{Option, None, Some, option_map, cond, flat_map, filter, bytes_eq, ◌&&◌}
use Rattle.std.specs.Borrow.{Bor}
use Rattle.std.specs.List.{cons_option}
use Rattle.std.proofs.lemmas.List.{append_assoc, append-nil, map-append, take_more, take_all}
use Rattle.std.proofs.lemmas.List.Elements.{filter_map-append, filter-append}
use Rattle.std.proofs.lemmas.List.Concat.{flat_map-append}
use Rattle.dom_styles.specs.declared.cascade.Declared.{Declared}
use Rattle.dom_styles.specs.declared.cascade.WithSpec.{WithSpec}
use Rattle.dom_styles.specs.declared.rules.Style.{Style}
use Rattle.dom_styles.specs.declared.rules.Style.TheVariants as styles
use Rattle.dom_styles.specs.declared.rules.Display.{Display}
use Rattle.text_decorators.specs.declared.colour.Colour.{Colour}
use Rattle.text_pieces.specs.declared.white_space.WhiteSpace.{WhiteSpace}
use Rattle.dom_styles.specs.declared.rules.StyleDecl.{StyleDecl}
use Rattle.dom_styles.specs.declared.rules.StyleRule.{StyleRule}
use Rattle.dom_styles.specs.declared.rules.StylePlace.{StylePlace}
use Rattle.dom_styles.specs.declared.rules.StylePlace.TheVariants as places
use Rattle.dom_styles.specs.declared.cascade.StyleOrigin.{StyleOrigin}
use Rattle.dom_styles.specs.declared.computed.ComputedStyle.{ComputedStyle}
use Rattle.dom_styles.specs.Keys.{is_before}
use Rattle.dom_styles.specs.Cascade.{IsCascaded}
use Rattle.dom_styles.specs.Styles.{background_of, colour_of, content_of, declared_at, declared_by, display_of}
use Rattle.dom_styles.specs.Styles.{is_same_place, of_property, rule_declares, white_space_of, with_val}
use Rattle.dom_styles.specs.Seen.{IsComputed, IsStyled, holding, text_declared}
use Rattle.dom_styles.specs.declared.computed.PlaceStyle.{PlaceStyle}
use Rattle.dom_styles.proofs.CascadeLemmas.{updated, cascades_on, is_updated}

-- ---- one declaration more, seen from one property

module _ {T : Type 0} (property : Style → Option T) (ds : List (Declared Style)) (d : Declared Style) where
  pub of_another : property d.val ≡ None → of_property property (ds ++ d ∷ []) ≡ of_property property ds
  of_another e =
      filter_map-append (λ x. option_map (with_val x) (property x.val)) ds (d ∷ [])
      ∙ ap (λ v. of_property property ds ++ cons_option (option_map (with_val d) v) []) e
      ∙ append-nil (of_property property ds)

  pub of_this : (v : T) → property d.val ≡ Some v
      → of_property property (ds ++ d ∷ []) ≡ of_property property ds ++ with_val d v ∷ []
  of_this v e =
      filter_map-append (λ x. option_map (with_val x) (property x.val)) ds (d ∷ [])
      ∙ ap (λ o. of_property property ds ++ cons_option (option_map (with_val d) o) []) e

  pub untouched : (held : Option (Declared T)) → property d.val ≡ None → IsCascaded (of_property property ds) held
      → IsCascaded (of_property property (ds ++ d ∷ [])) held
  untouched held e h = subst (λ es. IsCascaded es held) (sym (of_another e)) h

  pub touched : (held : Option (Declared T)) (v : T) → property d.val ≡ Some v
      → IsCascaded (of_property property ds ++ with_val d v ∷ []) held
      → IsCascaded (of_property property (ds ++ d ∷ [])) held
  touched held v e h = subst (λ es. IsCascaded es held) (sym (of_this v e)) h

more : {T : Type 0} (property : Style → Option T) (ds : List (Declared Style)) (old new : Option (Declared T))
    (declared d : Declared T) → declared ≡ d
    → ((es : List (Declared T)) → IsCascaded es old → IsCascaded (es ++ declared ∷ []) new)
    → IsCascaded (of_property property ds) old → IsCascaded (of_property property ds ++ d ∷ []) new
more property ds old new declared d same step h =
    subst (λ e. IsCascaded (of_property property ds ++ e ∷ []) new) same (step (of_property property ds) h)

-- ---- a text more

text_updated : (old : Option (Declared (Bor (List ℕ)))) (d : Declared (Bor (List ℕ)))
    → option_map text_declared (updated old d) ≡ updated (option_map text_declared old) (text_declared d)
text_updated None d = refl
text_updated (Some held) d = on (is_before d held)
  where
    on : (less : Bool) → option_map text_declared (cond less (Some held) (Some d))
        ≡ cond less (Some (text_declared held)) (Some (text_declared d))
    on true = refl
    on false = refl

pub text_cascades : (ds : List (Declared (List ℕ))) (old new : Option (Declared (Bor (List ℕ))))
    (d : Declared (Bor (List ℕ)))
    → ((es : List (Declared (Bor (List ℕ)))) → IsCascaded es old → IsCascaded (es ++ d ∷ []) new)
    → IsCascaded ds (option_map text_declared old)
    → IsCascaded (ds ++ text_declared d ∷ []) (option_map text_declared new)
text_cascades ds old new d step h =
    subst (IsCascaded (ds ++ text_declared d ∷ []))
    (sym (ap (option_map text_declared) (is_updated old new d step) ∙ text_updated old d))
    (cascades_on ds (option_map text_declared old) (text_declared d) h)

-- ---- one declaration more, of each property

module _ (ds : List (Declared Style)) (d : Declared Style) (s : PlaceStyle) (h : IsStyled ds s) where
  pub colour_more : (colour : Colour) (declared : Declared Colour) (new : WithSpec Colour)
      → d.val ≡ styles.Colour colour → declared ≡ with_val d colour
      → ((es : List (Declared Colour)) → IsCascaded es (holding s.colour)
      → IsCascaded (es ++ declared ∷ []) (holding new))
      → IsStyled (ds ++ d ∷ []) (record s { colour = new })
  colour_more colour declared new is same step = record {
    colour = touched colour_of ds d (holding new) colour (ap colour_of is)
        (more colour_of ds (holding s.colour) (holding new) declared (with_val d colour) same step h.colour);
    background = untouched background_of ds d (holding s.bg_colour) (ap background_of is) h.background;
    display = untouched display_of ds d (holding s.display) (ap display_of is) h.display;
    white_space = untouched white_space_of ds d (holding s.white_space) (ap white_space_of is) h.white_space;
    content = untouched content_of ds d (option_map text_declared (holding s.content)) (ap content_of is) h.content;
  }

  pub background_more : (colour : Colour) (declared : Declared Colour) (new : WithSpec Colour)
      → d.val ≡ styles.BgColour colour → declared ≡ with_val d colour
      → ((es : List (Declared Colour)) → IsCascaded es (holding s.bg_colour)
      → IsCascaded (es ++ declared ∷ []) (holding new))
      → IsStyled (ds ++ d ∷ []) (record s { bg_colour = new })
  background_more colour declared new is same step = record {
    colour = untouched colour_of ds d (holding s.colour) (ap colour_of is) h.colour;
    background = touched background_of ds d (holding new) colour (ap background_of is)
        (more background_of ds (holding s.bg_colour) (holding new) declared (with_val d colour) same step h.background);
    display = untouched display_of ds d (holding s.display) (ap display_of is) h.display;
    white_space = untouched white_space_of ds d (holding s.white_space) (ap white_space_of is) h.white_space;
    content = untouched content_of ds d (option_map text_declared (holding s.content)) (ap content_of is) h.content;
  }

  pub display_more : (display : Display) (declared : Declared Display) (new : WithSpec Display)
      → d.val ≡ styles.Display display → declared ≡ with_val d display
      → ((es : List (Declared Display)) → IsCascaded es (holding s.display)
      → IsCascaded (es ++ declared ∷ []) (holding new))
      → IsStyled (ds ++ d ∷ []) (record s { display = new })
  display_more display declared new is same step = record {
    colour = untouched colour_of ds d (holding s.colour) (ap colour_of is) h.colour;
    background = untouched background_of ds d (holding s.bg_colour) (ap background_of is) h.background;
    display = touched display_of ds d (holding new) display (ap display_of is)
        (more display_of ds (holding s.display) (holding new) declared (with_val d display) same step h.display);
    white_space = untouched white_space_of ds d (holding s.white_space) (ap white_space_of is) h.white_space;
    content = untouched content_of ds d (option_map text_declared (holding s.content)) (ap content_of is) h.content;
  }

  pub white_space_more : (mode : WhiteSpace) (declared : Declared WhiteSpace) (new : WithSpec WhiteSpace)
      → d.val ≡ styles.WhiteSpace mode → declared ≡ with_val d mode
      → ((es : List (Declared WhiteSpace)) → IsCascaded es (holding s.white_space)
      → IsCascaded (es ++ declared ∷ []) (holding new))
      → IsStyled (ds ++ d ∷ []) (record s { white_space = new })
  white_space_more mode declared new is same step = record {
    colour = untouched colour_of ds d (holding s.colour) (ap colour_of is) h.colour;
    background = untouched background_of ds d (holding s.bg_colour) (ap background_of is) h.background;
    display = untouched display_of ds d (holding s.display) (ap display_of is) h.display;
    white_space = touched white_space_of ds d (holding new) mode (ap white_space_of is)
        (more white_space_of ds (holding s.white_space) (holding new) declared (with_val d mode) same step
        h.white_space);
    content = untouched content_of ds d (option_map text_declared (holding s.content)) (ap content_of is) h.content;
  }

  pub content_more : (text : List ℕ) (declared : Declared (Bor (List ℕ))) (new : WithSpec (Bor (List ℕ)))
      → d.val ≡ styles.Content text → text_declared declared ≡ with_val d text
      → ((es : List (Declared (Bor (List ℕ)))) → IsCascaded es (holding s.content)
      → IsCascaded (es ++ declared ∷ []) (holding new))
      → IsStyled (ds ++ d ∷ []) (record s { content = new })
  content_more text declared new is same step = record {
    colour = untouched colour_of ds d (holding s.colour) (ap colour_of is) h.colour;
    background = untouched background_of ds d (holding s.bg_colour) (ap background_of is) h.background;
    display = untouched display_of ds d (holding s.display) (ap display_of is) h.display;
    white_space = untouched white_space_of ds d (holding s.white_space) (ap white_space_of is) h.white_space;
    content = touched content_of ds d (option_map text_declared (holding new)) text (ap content_of is)
        (subst
        (λ e. IsCascaded (of_property content_of ds ++ e ∷ []) (option_map text_declared (holding new))) same
        (text_cascades (of_property content_of ds) (holding s.content) (holding new) declared step h.content));
  }

-- ---- a rule more, seen from one place

abbrev pub is_for : List ℕ → StylePlace → StyleRule → Bool
is_for name place rule = bytes_eq rule.element name && is_same_place rule.place place

module _ (name : List ℕ) (place : StylePlace) (rules : List StyleRule) (rule : StyleRule) where
  declared_more : declared_at name place (rules ++ rule ∷ [])
      ≡ declared_at name place rules ++ flat_map rule_declares (cond (is_for name place rule) (rule ∷ []) [])
  declared_more =
      ap (flat_map rule_declares) (filter-append (is_for name place) rules (rule ∷ []))
      ∙ flat_map-append rule_declares (filter (is_for name place) rules)
      (cond (is_for name place rule) (rule ∷ []) [])

  pub passed_over : is_for name place rule ≡ false
      → declared_at name place (rules ++ rule ∷ []) ≡ declared_at name place rules
  passed_over e =
      declared_more
      ∙ ap (λ test. declared_at name place rules ++ flat_map rule_declares (cond test (rule ∷ []) [])) e
      ∙ append-nil (declared_at name place rules)

  pub taken_in : is_for name place rule ≡ true
      → declared_at name place (rules ++ rule ∷ []) ≡ declared_at name place rules ++ rule_declares rule
  taken_in e =
      declared_more
      ∙ ap (λ test. declared_at name place rules ++ flat_map rule_declares (cond test (rule ∷ []) [])) e
      ∙ ap (λ ds. declared_at name place rules ++ ds) (append-nil (rule_declares rule))

  pub not_styled : (s : PlaceStyle) → is_for name place rule ≡ false → IsStyled (declared_at name place rules) s
      → IsStyled (declared_at name place (rules ++ rule ∷ [])) s
  not_styled s e h = subst (λ ds. IsStyled ds s) (sym (passed_over e)) h

  pub styled_too : (s : PlaceStyle) → is_for name place rule ≡ true
      → IsStyled (declared_at name place rules ++ rule_declares rule) s
      → IsStyled (declared_at name place (rules ++ rule ∷ [])) s
  styled_too s e h = subst (λ ds. IsStyled ds s) (sym (taken_in e)) h

  pub of_another_name : bytes_eq rule.element name ≡ false → is_for name place rule ≡ false
  of_another_name e = ap (λ named. named && is_same_place rule.place place) e

  pub at_another_place : is_same_place rule.place place ≡ false → is_for name place rule ≡ false
  at_another_place e = ap (λ same. bytes_eq rule.element name && same) e ∙ never (bytes_eq rule.element name)
    where
      never : (b : Bool) → (b && false) ≡ false
      never true = refl
      never false = refl

  pub is_for_it : bytes_eq rule.element name ≡ true → is_same_place rule.place place ≡ true
      → is_for name place rule ≡ true
  is_for_it e same =
      ap (λ named. named && is_same_place rule.place place) e ∙ same

module _ (name : List ℕ) (rules : List StyleRule) (rule : StyleRule) (s : ComputedStyle) (new : PlaceStyle)
    (h : IsComputed name rules s) (named : bytes_eq rule.element name ≡ true) where
  pub itself_more : rule.place ≡ places.Itself
      → ((ds : List (Declared Style)) → IsStyled ds s.itself → IsStyled (ds ++ rule_declares rule) new)
      → IsComputed name (rules ++ rule ∷ []) (record s { itself = new })
  itself_more is step = record {
    itself = styled_too name places.Itself rules rule new
        (is_for_it name places.Itself rules rule named (ap (λ p. is_same_place p places.Itself) is))
        (step (declared_at name places.Itself rules) h.itself);
    before = not_styled name places.Before rules rule s.before
        (at_another_place name places.Before rules rule (ap (λ p. is_same_place p places.Before) is)) h.before;
    after = not_styled name places.After rules rule s.after
        (at_another_place name places.After rules rule (ap (λ p. is_same_place p places.After) is)) h.after;
  }

  pub before_more : rule.place ≡ places.Before
      → ((ds : List (Declared Style)) → IsStyled ds s.before → IsStyled (ds ++ rule_declares rule) new)
      → IsComputed name (rules ++ rule ∷ []) (record s { before = new })
  before_more is step = record {
    itself = not_styled name places.Itself rules rule s.itself
        (at_another_place name places.Itself rules rule (ap (λ p. is_same_place p places.Itself) is)) h.itself;
    before = styled_too name places.Before rules rule new
        (is_for_it name places.Before rules rule named (ap (λ p. is_same_place p places.Before) is))
        (step (declared_at name places.Before rules) h.before);
    after = not_styled name places.After rules rule s.after
        (at_another_place name places.After rules rule (ap (λ p. is_same_place p places.After) is)) h.after;
  }

  pub after_more : rule.place ≡ places.After
      → ((ds : List (Declared Style)) → IsStyled ds s.after → IsStyled (ds ++ rule_declares rule) new)
      → IsComputed name (rules ++ rule ∷ []) (record s { after = new })
  after_more is step = record {
    itself = not_styled name places.Itself rules rule s.itself
        (at_another_place name places.Itself rules rule (ap (λ p. is_same_place p places.Itself) is)) h.itself;
    before = not_styled name places.Before rules rule s.before
        (at_another_place name places.Before rules rule (ap (λ p. is_same_place p places.Before) is)) h.before;
    after = styled_too name places.After rules rule new
        (is_for_it name places.After rules rule named (ap (λ p. is_same_place p places.After) is))
        (step (declared_at name places.After rules) h.after);
  }

-- ---- loops

pub item_more : {X : Type 0} (xs : List X) (i : ℕ) (x : X) → i < length xs → x ≡ get_or xs i x
    → take (i + 1) xs ≡ take i xs ++ x ∷ []
item_more xs i x lt read = take_more xs i x lt ∙ ap (λ y. take i xs ++ y ∷ []) (sym read)

pub declarations_more : (ds : List (Declared Style)) (origin : StyleOrigin) (items : List StyleDecl) (i : ℕ)
    (item : StyleDecl) (s : PlaceStyle) → i < length items → item ≡ get_or items i item
    → IsStyled ((ds ++ map (declared_by origin) (take i items)) ++ declared_by origin item ∷ []) s
    → IsStyled (ds ++ map (declared_by origin) (take (i + 1) items)) s
declarations_more ds origin items i item s lt read h =
    subst (λ es. IsStyled es s)
    (append_assoc ds (map (declared_by origin) (take i items)) (declared_by origin item ∷ [])
    ∙ ap (λ es. ds ++ es)
    (sym (map-append (declared_by origin) (take i items) (item ∷ []))
    ∙ ap (map (declared_by origin)) (sym (item_more items i item lt read))))
    h

pub declarations_done : (ds : List (Declared Style)) (origin : StyleOrigin) (items all : List StyleDecl) (i : ℕ)
    (s : PlaceStyle) → length items ≤ i → items ≡ all
    → IsStyled (ds ++ map (declared_by origin) (take i items)) s → IsStyled (ds ++ map (declared_by origin) all) s
declarations_done ds origin items all i s le same h =
    subst (λ es. IsStyled (ds ++ map (declared_by origin) es) s) (take_all i items le ∙ same) h
