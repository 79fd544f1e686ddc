-- The walk of a document's tree writes the document.
use Rattle.std.proofs.Common.{◌≡◌, ◌+◌, ◌≤◌, [], ◌∷◌, ◌++◌, if◌then◌else◌, ◌∙◌, Bool, List, None, Option, Some, ap}
use Rattle.std.proofs.Common.{append-nil, append_assoc, arith, codes, false, length, refl, subst, suc, sym, true, zero}
use Rattle.std.proofs.Common.{ℕ}
use Rattle.std.proofs.lemmas.List.{length-append}
use Rattle.tree_forest.specs.Forest.{Forest, Node, children_at, document, element_of, node_at, text}
use Rattle.html_lexemes.specs.declared.names.QualName.{QualName}
use Rattle.tree_serializer.specs.Escapes.{end_text, escaped, start_text}
use Rattle.tree_serializer.specs.Walks.{contents_or, is_raw, joined, run_text, text_by, text_within, walk_text}
use Rattle.tree_serializer.specs.declared.options.TraversalScope.TheVariants.{ChildrenOnly}
use Rattle.document_laws.specs.Contents.{Content, IsBlocks, none, say, span}
use Rattle.written_document_laws.proofs.Elements.{AreNamed, blocks_named, never_raw}
use Rattle.written_document_laws.specs.Documents.{content_text, document_text, is_void}
use Rattle.document_laws.specs.Rebuilt.{document_tree}
use Rattle.document_laws.specs.Planted.{listed, node_of_element, of_html, roots, size}
use Rattle.written_document_laws.specs.Trees.{body_number, doctype_node, head_nodes, whole_tree}

-- ---- what stands in a list

-- the nodes from a number on are those of some contents
abbrev pub StandsAs : ℕ → Content → Forest → Type 0
StandsAs n none f = Unit {0}
StandsAs n (say c cs rest) f = (node_at n f ≡ record { kind = text (c ∷ cs); children = [] }) × StandsAs (suc n) rest f
StandsAs n (span name attributes kids rest) f = (node_at n f ≡ node_of_element name attributes (roots (suc n) kids))
    × (StandsAs (suc n) kids f × StandsAs (suc n + size kids) rest f)

node_after : (front : Forest) (x : Node) (later : Forest) (n : ℕ) → length front ≡ n → node_at n (front ++ x ∷ later)
    ≡ x
node_after [] x later n e = subst (λ k. node_at k (x ∷ later) ≡ x) e refl
node_after (y ∷ front) x later n e =
    subst (λ k. node_at k (y ∷ (front ++ x ∷ later)) ≡ x) e (node_after front x later (length front) refl)

one_longer : (front : Forest) (x : Node) (n : ℕ) → length front ≡ n → length (front ++ x ∷ []) ≡ suc n
one_longer front x n e = omega (arith, e, length-append front (x ∷ []))

longer_by : (front more : Forest) (n s : ℕ) → length front ≡ n → length more ≡ s → length (front ++ more) ≡ n + s
longer_by front more n s e h = omega (arith, e, h, length-append front more)

pub length_listed : (n : ℕ) (content : Content) → length (listed n content) ≡ size content
length_listed n none = refl
length_listed n (say c cs rest) = ap suc (length_listed (suc n) rest)
length_listed n (span name attributes kids rest) =
    ap suc (longer_by (listed (suc n) kids) (listed (suc n + size kids) rest) (size kids) (size rest)
    (length_listed (suc n) kids) (length_listed (suc n + size kids) rest))

pub listed_stands : (n : ℕ) (content : Content) (front later : Forest) → length front ≡ n →
    StandsAs n content (front ++ (listed n content ++ later))
listed_stands n none front later e = tt
listed_stands n (say c cs rest) front later e =
    let x : Node = record { kind = text (c ∷ cs); children = [] } in
    let more : Forest = listed (suc n) rest ++ later in (
      node_after front x more n e,
      subst (StandsAs (suc n) rest) (append_assoc front (x ∷ []) more)
          (listed_stands (suc n) rest (front ++ x ∷ []) later (one_longer front x n e)),
    )
listed_stands n (span name attributes kids rest) front later e =
    let x : Node = node_of_element name attributes (roots (suc n) kids) in
    let inner : Forest = listed (suc n) kids in
    let trailing : Forest = listed (suc n + size kids) rest in
    let apart : front ++ ((x ∷ (inner ++ trailing)) ++ later) ≡ (front ++ x ∷ []) ++ (inner ++ (trailing ++ later))
    = ap (λ l. front ++ x ∷ l) (append_assoc inner trailing later)
    ∙ sym (append_assoc front (x ∷ []) (inner ++ (trailing ++ later))) in (
      node_after front x ((inner ++ trailing) ++ later) n e,
      (
        subst (StandsAs (suc n) kids) (sym apart)
            (listed_stands (suc n) kids (front ++ x ∷ []) (trailing ++ later) (one_longer front x n e)),
        subst (StandsAs (suc n + size kids) rest) (sym
            (apart ∙ sym (append_assoc (front ++ x ∷ []) inner (trailing ++ later))))
            (listed_stands (suc n + size kids) rest ((front ++ x ∷ []) ++ inner) later
            (longer_by (front ++ x ∷ []) inner (suc n) (size kids) (one_longer front x n e)
            (length_listed (suc n) kids))),
      ),
    )

-- ---- its walk

module _ (scripting : Bool) (f : Forest) where
  walk_of : (k : ℕ) (parent : Option QualName) (n : ℕ) (x : Node) → node_at n f ≡ x →
      text_within scripting (suc k) f parent n ≡ text_by scripting parent x.kind
      (λ name. joined (text_within scripting k f name) (children_at (contents_or (element_of x.kind).contents n) f))
  walk_of k parent n x e = ap (λ (y : Node). text_by scripting parent y.kind
      (λ name. joined (text_within scripting k f name) (children_at (contents_or (element_of y.kind).contents n) f))) e

  text_run : (parent : Option QualName) (cs : List ℕ) → is_raw scripting parent ≡ false →
      run_text scripting parent cs ≡ escaped false cs
  text_run parent cs e = ap (λ b. if b then cs else escaped false cs) e

  less_kids : (k a b : ℕ) → suc (a + b) ≤ suc k → a ≤ k
  less_kids k a b h = omega (arith, h)

  less_rest : (k a b : ℕ) → suc (a + b) ≤ k → b ≤ k
  less_rest k a b h = omega (arith, h)

  walked : (k : ℕ) (parent : Option QualName) (n : ℕ) (content : Content) → StandsAs n content f → size content ≤ k →
      AreNamed content → is_raw scripting parent ≡ false →
      joined (text_within scripting k f parent) (roots n content) ≡ content_text content
  walked k parent n none h l p e = refl
  walked zero parent n (say c cs rest) h l p e = absurd (omega (arith, l))
  walked (suc k) parent n (say c cs rest) h l p e =
      ap (λ t. t ++ joined (text_within scripting (suc k) f parent) (roots (suc n) rest))
      (walk_of k parent n (record { kind = text (c ∷ cs); children = [] }) h.0 ∙ text_run parent (c ∷ cs) e)
      ∙ ap (λ t. escaped false (c ∷ cs) ++ t)
      (walked (suc k) parent (suc n) rest h.1 (less_rest (suc k) 0 (size rest) (omega (arith, l))) p e)
  walked zero parent n (span name attributes kids rest) h l p e = absurd (omega (arith, l))
  walked (suc k) parent n (span name attributes kids rest) h l p e =
      let x : Node = node_of_element name attributes (roots (suc n) kids) in
      let q : QualName = of_html name in
      let open_text : List ℕ = start_text q attributes in
      let later : List ℕ = joined (text_within scripting (suc k) f parent) (roots (suc n + size kids) rest) in
      let inner : List ℕ → List ℕ = λ ns. joined (text_within scripting k f (Some q)) ns in
      let children : children_at n f ≡ roots (suc n) kids = ap (λ (y : Node). y.children) h.0 in
      let within : inner (children_at n f) ≡ content_text kids = ap inner children
      ∙ walked k (Some q) (suc n) kids h.1.0 (less_kids k (size kids) (size rest) l) p.1.0
      (never_raw scripting name p.0) in
      ap (λ t. t ++ later)
      (walk_of k parent n x h.0
      ∙ ap (λ b. open_text ++ (if b then [] else inner (children_at n f) ++ end_text q)) p.0.void
      ∙ ap (λ t. open_text ++ (if is_void name then [] else t ++ end_text q)) within)
      ∙ append_assoc open_text (if is_void name then [] else content_text kids ++ end_text q) later
      ∙ ap (λ t. open_text ++ ((if is_void name then [] else content_text kids ++ end_text q) ++ t))
      (walked (suc k) parent (suc n + size kids) rest h.1.1 (less_rest (suc k) (size kids) (size rest) l) p.1.1 e)

-- ---- the whole document

pub body_stands : (front : Forest) (n : ℕ) (content : Content) → length front ≡ n →
    StandsAs n content (front ++ listed n content)
body_stands front n content e =
    subst (λ l. StandsAs n content (front ++ l)) (append-nil (listed n content)) (listed_stands n content front [] e)

fits : (n a b c : ℕ) → a ≡ n → a ≤ b + n
fits n a b c e = omega (arith, e)

module _ (scripting : Bool) (content : Content) (plain : AreNamed content)
    (body : is_raw scripting (Some (of_html (codes "body"))) ≡ false)
    (title_text : is_raw scripting (Some (of_html (codes "title"))) ≡ false) where
  -- what is written of what the body holds, in a tree that it ends
  body_text : (front : Forest) (n k : ℕ) → length front ≡ n → size content ≤ k →
      joined (text_within scripting k (front ++ listed n content) (Some (of_html (codes "body")))) (roots n content)
      ≡ content_text content
  body_text front n k e l = walked scripting (front ++ listed n content) k (Some (of_html (codes "body"))) n content
      (body_stands front n content e) l plain body

  body_end : (x a b : List ℕ) → (((x ++ a) ++ []) ++ b) ++ [] ≡ x ++ (a ++ b)
  body_end x a b = append-nil (((x ++ a) ++ []) ++ b) ∙ ap (λ t. t ++ b) (append-nil (x ++ a)) ∙ append_assoc x a b

  title_end : (x a b rest : List ℕ) → ((((x ++ []) ++ a) ++ []) ++ b) ++ rest ≡ (x ++ a) ++ (b ++ rest)
  title_end x a b rest =
      ap (λ t. (t ++ b) ++ rest) (append-nil ((x ++ []) ++ a)) ∙ ap (λ t. ((t ++ a) ++ b) ++ rest) (append-nil x)
      ∙ append_assoc (x ++ a) b rest

  page_end : (h b e : List ℕ) → ((h ++ (b ++ [])) ++ e) ++ [] ≡ h ++ (b ++ e)
  page_end h b e = append-nil ((h ++ (b ++ [])) ++ e) ∙ ap (λ t. (h ++ t) ++ e) (append-nil b) ∙ append_assoc h b e

  titled : (x y rest : List ℕ) → x ≡ y → ((((x ++ []) ++ codes "</title>") ++ []) ++ codes "</head>") ++ rest
      ≡ (y ++ codes "</title>") ++ (codes "</head>" ++ rest)
  titled x y rest e =
      title_end x (codes "</title>") (codes "</head>") rest
      ∙ ap (λ t. (t ++ codes "</title>") ++ (codes "</head>" ++ rest)) e

  abbrev fuel : ℕ → ℕ
  fuel n = suc (suc (suc (length (listed n content))))

  enough : (n : ℕ) → size content ≤ fuel n
  enough n = omega (arith, length_listed n content)

  enough_more : (n : ℕ) → size content ≤ suc (fuel n)
  enough_more n = omega (arith, length_listed n content)

  enough_yet : (n : ℕ) → size content ≤ suc (suc (fuel n))
  enough_yet n = omega (arith, length_listed n content)

  abbrev first_nodes : ℕ → Forest
  first_nodes n = record { kind = document; children = 1 ∷ 2 ∷ [] } ∷ doctype_node
      ∷ node_of_element (codes "html") [] (3 ∷ n ∷ []) ∷ []

  abbrev front : Option (List ℕ) → Forest
  front title = let n = body_number title in
      first_nodes n ++ (head_nodes title ++ node_of_element (codes "body") [] (roots (suc n) content) ∷ [])

  pub document_walked : (title : Option (List ℕ)) →
      walk_text scripting (ChildrenOnly None) 0 (whole_tree title content) ≡ document_text title content
  document_walked None =
      let x : List ℕ = joined (text_within scripting (fuel 5) (front None ++ listed 5 content)
      (Some (of_html (codes "body")))) (roots 5 content) in
      ap (λ t. codes "<!DOCTYPE html><html><head></head><body>" ++ t)
      (body_end x (codes "</body>") (codes "</html>")
      ∙ ap (λ t. t ++ codes "</body></html>") (body_text (front None) 5 (fuel 5) refl (enough 5)))
  document_walked (Some []) =
      let x : List ℕ = joined (text_within scripting (suc (fuel 6)) (front (Some []) ++ listed 6 content)
      (Some (of_html (codes "body")))) (roots 6 content) in
      ap (λ t. codes "<!DOCTYPE html><html><head><title></title></head><body>" ++ t)
      (body_end x (codes "</body>") (codes "</html>")
      ∙ ap (λ t. t ++ codes "</body></html>") (body_text (front (Some [])) 6 (suc (fuel 6)) refl (enough_more 6)))
  document_walked (Some (c ∷ cs)) =
      let x : List ℕ = joined (text_within scripting (suc (suc (fuel 7))) (front (Some (c ∷ cs)) ++ listed 7 content)
      (Some (of_html (codes "body")))) (roots 7 content) in
      let written : List ℕ = run_text scripting (Some (of_html (codes "title"))) (c ∷ cs) in
      let heading : List ℕ = (((written ++ []) ++ codes "</title>") ++ []) ++ codes "</head>" in
      let rest : List ℕ = codes "<body>" ++ (content_text content ++ codes "</body></html>") in
      ap (λ t. codes "<!DOCTYPE html><html><head><title>" ++ t)
      (page_end heading (codes "<body>" ++ (x ++ codes "</body>")) (codes "</html>")
      ∙ ap (λ t. heading ++ (codes "<body>" ++ t))
      (append_assoc x (codes "</body>") (codes "</html>")
      ∙ ap (λ t. t ++ codes "</body></html>") (body_text (front (Some (c ∷ cs))) 7 (suc (suc (fuel 7))) refl
      (enough_yet 7)))
      ∙ titled written (escaped false (c ∷ cs)) rest
      (ap (λ b. if b then c ∷ cs else escaped false (c ∷ cs)) title_text))

raw_body : (scripting : Bool) → is_raw scripting (Some (of_html (codes "body"))) ≡ false
raw_body true = refl
raw_body false = refl

raw_title : (scripting : Bool) → is_raw scripting (Some (of_html (codes "title"))) ≡ false
raw_title true = refl
raw_title false = refl

pub walked_whole : ((title : Option (List ℕ)) (content : Content) → document_tree title content
    ≡ whole_tree title content) →
    (scripting : Bool) (title : Option (List ℕ)) (content : Content) → IsBlocks false content →
    walk_text scripting (ChildrenOnly None) 0 (document_tree title content) ≡ document_text title content
walked_whole at_once scripting title content blocks =
    ap (walk_text scripting (ChildrenOnly None) 0) (at_once title content)
    ∙ document_walked scripting content (blocks_named false content blocks) (raw_body scripting) (raw_title scripting)
    title
