-- What is said of a paragraph is what its parts say, one after another.
use Rattle.std.proofs.Common.{◌≡◌, [], ◌∷◌, ◌++◌, if◌then◌else◌, ◌∙◌, Bool, List, None, Option, Some, ap, append-nil}
use Rattle.std.proofs.Common.{append_assoc, codes, false, refl, sym, true, ℕ}
use Rattle.std.specs.Option.{option_and_then, option_map}
use Rattle.article_definitions.specs.Calls.{run}
use Rattle.article_definitions.specs.Layouts.{Options, Part, Tag, all_shallow, breaks, mark_of, number_mark, parts_of}
use Rattle.article_definitions.specs.Layouts.{says, targets_in, unless_shallow, within}
use Rattle.article_layout.specs.Walks.{Said, adds, linked, numbered, said}
use Rattle.article_values.specs.Articles.{Inlines, Style, line_break, link, no_inlines, span, words}
use Rattle.block_layout.specs.Laid.{Laid, add_text, break_line}
use Rattle.block_layout.specs.declared.measure.Measure.{Measure}
use Rattle.text_pieces.specs.declared.white_space.WhiteSpace.TheVariants.{Normal}

chained : {A B C : Type 0} (f : A → Option B) (g : B → Option C) (x : Option A) →
    option_and_then (λ a. option_and_then g (f a)) x ≡ option_and_then g (option_and_then f x)
chained f g None = refl
chained f g (Some a) = refl

module _ (m : Measure) where
  abbrev adding : List ℕ → Tag → Laid Tag → Option (Laid Tag)
  adding cs tag b = add_text m tag Normal cs tag tag b

  run_by : (f g h : Laid Tag → Option (Laid Tag)) (x : Option (Laid Tag)) →
      ((b : Laid Tag) → f b ≡ option_and_then g (h b)) →
      option_and_then f x ≡ option_and_then g (option_and_then h x)
  run_by f g h None same = refl
  run_by f g h (Some b) same = same b

  run_both : (p q : List Part) (b : Laid Tag) → run m (p ++ q) b ≡ option_and_then (run m q) (run m p b)
  run_both [] q b = refl
  run_both (says cs tag ∷ p) q b =
      run_by (run m (p ++ q)) (run m q) (run m p) (adding cs tag b) (λ b. run_both p q b)
  run_both (breaks tag ∷ p) q b =
      run_by (run m (p ++ q)) (run m q) (run m p) (break_line m tag b) (λ b. run_both p q b)

  run_on : (p q : List Part) (x : Option (Laid Tag)) →
      option_and_then (run m (p ++ q)) x ≡ option_and_then (run m q) (option_and_then (run m p) x)
  run_on p q x = run_by (run m (p ++ q)) (run m q) (run m p) x (run_both p q)

  abbrev at : List (List ℕ) → Laid Tag → Said
  at ts b = record { laid = b; targets = ts }

  abbrev trailing : List (List ℕ) → Option (Laid Tag) → Option Said
  trailing ts x = option_map (at ts) x

  carried : (f : Said → Option Said) (g : Laid Tag → Option (Laid Tag)) (ts us : List (List ℕ)) (x : Option (Laid Tag))
      →
      ((b : Laid Tag) → f (at ts b) ≡ trailing us (g b)) →
      option_and_then f (trailing ts x) ≡ trailing us (option_and_then g x)
  carried f g ts us None same = refl
  carried f g ts us (Some b) same = same b

  added : (cs : List ℕ) (tag : Tag) (ts : List (List ℕ)) (x : Option (Laid Tag)) →
      option_and_then (adds m cs tag) (trailing ts x) ≡ trailing ts (option_and_then (adding cs tag) x)
  added cs tag ts x = carried (adds m cs tag) (adding cs tag) ts ts x (λ b. refl)

  -- a part between others
  between : (k r : List Part) (cs : List ℕ) (tag : Tag) (x : Option (Laid Tag)) →
      option_and_then (run m r) (option_and_then (adding cs tag) (option_and_then (run m k) x))
      ≡ option_and_then (run m (k ++ says cs tag ∷ r)) x
  between k r cs tag x =
      sym (chained (adding cs tag) (run m r) (option_and_then (run m k) x))
      ∙ sym (run_on k (says cs tag ∷ r) x)

  module _ (o : Options) where
    abbrev parts : Tag → List (List ℕ) → Inlines → List Part
    parts tag ts is = parts_of o tag ts is

    abbrev Is : Inlines → Type 0
    Is is = (tag : Tag) (ts : List (List ℕ)) (b : Laid Tag) →
        said o m tag is (at ts b) ≡ trailing (ts ++ targets_in o is) (run m (parts tag ts is) b)

    -- after what was said before
    further : (is : Inlines) → Is is → (tag : Tag) (us vs : List (List ℕ)) (x : Option (Laid Tag)) →
        us ++ targets_in o is ≡ vs → option_and_then (said o m tag is) (trailing us x)
        ≡ trailing vs (option_and_then (run m (parts tag us is)) x)
    further is same tag us vs x e = carried (said o m tag is) (run m (parts tag us is)) us vs x
        (λ b. same tag us b ∙ ap (λ t. trailing t (run m (parts tag us is) b)) e)

    spanned_is : (style : Style) (kids rest : Inlines) → Is kids → Is rest → Is (span style kids rest)
    spanned_is style kids rest inside on tag ts b =
        let mark = mark_of o style in
        let d = within tag in
        let us = ts ++ targets_in o kids in
        let k = parts d ts kids in
        let r = parts tag us rest in
        let x : Option (Laid Tag) = adding mark d b in
        ap (λ y. option_and_then (said o m tag rest) (option_and_then (adds m mark d) y))
        (further kids inside d ts us x refl)
        ∙ ap (option_and_then (said o m tag rest)) (added mark d us (option_and_then (run m k) x))
        ∙ further rest on tag us (ts ++ (targets_in o kids ++ targets_in o rest))
        (option_and_then (adding mark d) (option_and_then (run m k) x))
        (append_assoc ts (targets_in o kids) (targets_in o rest))
        ∙ ap (trailing (ts ++ (targets_in o kids ++ targets_in o rest))) (between k r mark d x)

    link_is : (target : List ℕ) (kids rest : Inlines) → Is kids → Is rest → (tag : Tag) (ts : List (List ℕ))
        (b : Laid Tag) (shallow : Bool) →
        option_and_then (said o m tag rest) (linked shallow o m tag target (said o m (within tag) kids) (at ts b))
        ≡ trailing (ts ++ (unless_shallow shallow (target ∷ targets_in o kids) ++ targets_in o rest))
        (run m (unless_shallow shallow (says (codes "[") (within tag)
        ∷ (parts (within tag) (ts ++ target ∷ []) kids ++ says (codes "]") (within tag)
        ∷ says (number_mark o (ts ++ target ∷ targets_in o kids)) tag ∷ []))
        ++ parts tag (if shallow then ts else ts ++ target ∷ targets_in o kids) rest) b)
    link_is target kids rest inside on tag ts b true = on tag ts b
    link_is target kids rest inside on tag ts b false =
        let d = within tag in
        let all = ts ++ target ∷ targets_in o kids in
        let one = ts ++ target ∷ [] in
        let us = one ++ targets_in o kids in
        let vs = ts ++ (target ∷ targets_in o kids ++ targets_in o rest) in
        let k = parts d one kids in
        let r = parts tag all rest in
        let mark = number_mark o all in
        let x : Option (Laid Tag) = adding (codes "[") d b in
        let y : Option (Laid Tag) = option_and_then (run m k) x in
        let z : Option (Laid Tag) = option_and_then (adding (codes "]") d) y in
        let same : us ≡ all = append_assoc ts (target ∷ []) (targets_in o kids) in
        ap (λ y. option_and_then (said o m tag rest) (option_and_then (numbered o m tag)
        (option_and_then (adds m (codes "]") d) y))) (further kids inside d one us x refl)
        ∙ ap (λ y. option_and_then (said o m tag rest) (option_and_then (numbered o m tag) y))
        (added (codes "]") d us y)
        ∙ ap (λ t. option_and_then (said o m tag rest) (option_and_then (numbered o m tag) (trailing t z))) same
        ∙ ap (option_and_then (said o m tag rest)) (carried (numbered o m tag) (adding mark tag) all all z (λ b. refl))
        ∙ further rest on tag all vs (option_and_then (adding mark tag) z)
        (append_assoc ts (target ∷ targets_in o kids) (targets_in o rest))
        ∙ ap (λ w. trailing vs w) (sym (chained (adding mark tag) (run m r) z)
        ∙ between k (says mark tag ∷ r) (codes "]") d x
        ∙ ap (λ ps. option_and_then (run m ps) x)
        (sym (append_assoc k (says (codes "]") d ∷ says mark tag ∷ []) r)))

    pub said_is : (is : Inlines) → Is is
    said_is no_inlines tag ts b = ap (λ t. let s : Option Said = Some (at t b) in s) (sym (append-nil ts))
    said_is (words cs rest) tag ts b =
        further rest (said_is rest) tag ts (ts ++ targets_in o rest) (adding cs tag b) refl
    said_is (line_break rest) tag ts b =
        further rest (said_is rest) tag ts (ts ++ targets_in o rest) (break_line m tag b) refl
    said_is (span style kids rest) tag ts b =
        spanned_is style kids rest (said_is kids) (said_is rest) tag ts b
    said_is (link target kids rest) tag ts b =
        link_is target kids rest (said_is kids) (said_is rest) tag ts b (all_shallow o kids)
