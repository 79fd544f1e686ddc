-- One footnote more.
use Rattle.std.proofs.Common.{◌≡◌, ◌+◌, ◌<◌, ◌≤◌, [], ◌∷◌, ◌++◌, ◌∙◌, Global, List, String, add-one, ap, ap₂, arith}
use Rattle.std.proofs.Common.{chars, get_or, length, length-append, map, string_bytes, suc, sym, take, ℕ}
use Rattle.text_lines.specs.Tagged.{Item, tagged, line_items}
use Rattle.text_lines.specs.declared.tagged_line.TaggedLine.{TaggedLine}
use Rattle.std.proofs.lemmas.List.{map-append, length-map, length-take-le, take_all}
use Rattle.std.proofs.Math.Seq.{take-suc}
use Rattle.text_decorators.specs.Texts.{footnote_lines, footnote_text, footnote_texts}

pub one_text_more : (n : ℕ) (xs : List (List ℕ)) (x : List ℕ)
    → footnote_texts n (xs ++ (x ∷ [])) ≡ footnote_texts n xs ++ (footnote_text (n + length xs) x ∷ [])
one_text_more n [] x = ap (λ (k : ℕ). footnote_text k x ∷ []) (omega arith)
one_text_more n (y ∷ ys) x = ap (λ (texts : List (List ℕ)). footnote_text n y ∷ texts)
    (one_text_more (suc n) ys x
    ∙ ap (λ (k : ℕ). footnote_texts (suc n) ys ++ (footnote_text k x ∷ [])) (omega arith))

pub one_line_more : {T S : Type 0} (seen : T → S) (tag : S) (lines : List (TaggedLine T)) (line : TaggedLine T)
    (targets : List (List ℕ)) (target : List ℕ)
    → map (line_items seen) lines ≡ map (λ text. tagged text tag) (footnote_texts 1 targets)
    → length lines ≡ length targets
    → line_items seen line ≡ tagged (footnote_text (length lines + 1) target) tag
    → map (line_items seen) (lines ++ (line ∷ []))
    ≡ map (λ text. tagged text tag) (footnote_texts 1 (targets ++ (target ∷ [])))
one_line_more {T} {S} seen tag lines line targets target before alike new =
    let number : footnote_text (length lines + 1) target ≡ footnote_text (1 + length targets) target =
    ap (λ (k : ℕ). footnote_text k target) (omega arith) in
    map-append (line_items seen) lines (line ∷ [])
    ∙ ap₂ (λ (ls : List (List (Item S))) (l : List (Item S)). ls ++ (l ∷ [])) before
    (new ∙ ap (λ (cs : List ℕ). tagged cs tag) number)
    ∙ sym (map-append (λ (cs : List ℕ). tagged cs tag) (footnote_texts 1 targets)
    (footnote_text (1 + length targets) target ∷ []))
    ∙ ap (map (λ (cs : List ℕ). tagged cs tag)) (sym (one_text_more 1 targets target))

abbrev target_of : String Global → List ℕ
target_of url = chars (string_bytes url)

targets_more : (urls : List (String Global)) (i : ℕ) (url : String Global) → i < length urls → url ≡ get_or urls i url
    → map target_of (take (i + 1) urls) ≡ map target_of (take i urls) ++ (target_of url ∷ [])
targets_more urls i url below is =
    ap (map target_of) (ap (λ (k : ℕ). take k urls) (add-one i) ∙ take-suc urls i url below
    ∙ ap (λ (u : String Global). take i urls ++ (u ∷ [])) (sym is))
    ∙ map-append target_of (take i urls) (url ∷ [])

pub preserved : {T S : Type 0} (seen : T → S) (tag : S) (lines more : List (TaggedLine T)) (line : TaggedLine T)
    (urls : List (String Global)) (i number : ℕ) (url : String Global) (text : List ℕ)
    → more ≡ lines ++ (line ∷ []) → length lines ≡ i
    → map (line_items seen) lines ≡ map (λ text. tagged text tag) (footnote_texts 1 (map target_of (take i urls)))
    → i < length urls → url ≡ get_or urls i url → number ≡ length lines + 1 → text ≡ string_bytes url
    → line_items seen line ≡ tagged (footnote_text number (chars text)) tag
    → (length more ≡ i + 1) × (map (line_items seen) more
    ≡ map (λ text. tagged text tag) (footnote_texts 1 (map target_of (take (i + 1) urls))))
preserved seen tag lines more line urls i number url text joined counted numbered below is this same new =
    let alike : length lines ≡ length (map target_of (take i urls)) =
    counted ∙ sym (length-map (take i urls) target_of ∙ length-take-le i urls (omega arith)) in
    let items : line_items seen line ≡ tagged (footnote_text (length lines + 1) (target_of url)) tag =
    new ∙ ap₂ (λ (k : ℕ) (bs : List ℕ). tagged (footnote_text k (chars bs)) tag) this same in (
      ap length joined ∙ length-append lines (line ∷ []) ∙ ap (λ (k : ℕ). k + 1) counted,
      ap (map (line_items seen)) joined
          ∙ one_line_more seen tag lines line (map target_of (take i urls)) (target_of url) numbered alike items
          ∙ ap (λ (targets : List (List ℕ)). map (λ (cs : List ℕ). tagged cs tag) (footnote_texts 1 targets))
          (sym (targets_more urls i url below is)),
    )

pub finished : {T S : Type 0} (seen : T → S) (tag : S) (lines : List (TaggedLine T)) (urls whole : List (String Global))
    (i : ℕ)
    → map (line_items seen) lines ≡ map (λ text. tagged text tag) (footnote_texts 1 (map target_of (take i urls)))
    → length urls ≤ i → urls ≡ whole → map (line_items seen) lines
    ≡ footnote_lines tag (map target_of whole)
finished seen tag lines urls whole i numbered all same = numbered
    ∙ ap (λ (us : List (String Global)). map (λ (cs : List ℕ). tagged cs tag) (footnote_texts 1 (map target_of us)))
    (take_all i urls all ∙ same)
