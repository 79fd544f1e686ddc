-- What is added to a line, word by word.
use Rattle.std.proofs.Common.{◌≡◌, ◌+◌, ◌*◌, [], ◌∷◌, ◌++◌, ◌∙◌, List, ap, append_assoc, arith, refl, replicate, suc}
use Rattle.std.proofs.Common.{zero, ℕ}
use Rattle.std.specs.Prelude.{codes}
use Rattle.std.specs.Str.{chars}
use Rattle.tree_forest.specs.Forest.{Element, Kind, comment, doctype, document, element, instruction, text}
use Rattle.dom_writing.specs.Dumps.{kind_text, shown}

pub two_added : (before middle after word cs whole : List ℕ) → middle ≡ before ++ word → after ≡ middle ++ cs
    → word ++ cs ≡ whole → after ≡ before ++ whole
two_added before middle after word cs whole first second is =
    second ∙ (ap (λ l. l ++ cs) first ∙ (append_assoc before word cs ∙ ap (λ l. before ++ l) is))

pub three_added : (before middle later after word cs ds whole : List ℕ) → middle ≡ before ++ word
    → later ≡ middle ++ cs → after ≡ later ++ ds → (word ++ cs) ++ ds ≡ whole → after ≡ before ++ whole
three_added before middle later after word cs ds whole first second third is =
    two_added before later after (word ++ cs) ds whole
    (two_added before middle later word cs (word ++ cs) first second refl) third is

replicate_both : (m n c : ℕ) → replicate m c ++ replicate n c ≡ replicate (m + n) c
replicate_both zero n c = let e : n ≡ 0 + n = omega arith in ap (λ l. replicate l c) e
replicate_both (suc m) n c =
    let e : suc (m + n) ≡ suc m + n = omega arith in
    ap (λ l. c ∷ l) (replicate_both m n c) ∙ ap (λ l. replicate l c) e

spaces_added : (before middle after : List ℕ) (m n k : ℕ) → middle ≡ before ++ replicate m 0x20
    → after ≡ middle ++ replicate n 0x20 → m + n ≡ k → after ≡ before ++ replicate k 0x20
spaces_added before middle after m n k first second sum =
    two_added before middle after (replicate m 0x20) (replicate n 0x20) (replicate k 0x20) first second
    (replicate_both m n 0x20 ∙ ap (λ l. replicate l 0x20) sum)

pub eight_added : (before middle after : List ℕ) (n : ℕ) → middle ≡ before ++ replicate (n * 8) 0x20
    → after ≡ middle ++ chars (codes "        ") → after ≡ before ++ replicate ((n + 1) * 8) 0x20
unfolding chars
eight_added before middle after n first second =
    spaces_added before middle after (n * 8) 8 ((n + 1) * 8) first second (omega arith)

pub space_added : (before middle after : List ℕ) (m n : ℕ) → middle ≡ before ++ replicate (m + n) 0x20
    → after ≡ middle ++ chars (codes " ") → after ≡ before ++ replicate (m + (n + 1)) 0x20
unfolding chars
space_added before middle after m n first second =
    spaces_added before middle after (m + n) 1 (m + (n + 1)) first second (omega arith)

pub line_added : (before middle later after spaces word : List ℕ) → middle ≡ before ++ spaces
    → later ≡ middle ++ word → after ≡ later ++ chars (codes "\n")
    → after ≡ before ++ (spaces ++ word ++ 0xA ∷ [])
unfolding chars
line_added before middle later after spaces word first second third =
    three_added before middle later after spaces word (0xA ∷ []) (spaces ++ word ++ 0xA ∷ []) first second third refl

pub document_word : (k : Kind) → document ≡ k → chars (codes "Document") ≡ kind_text k
unfolding chars
document_word k is = ap kind_text is

pub doctype_words : (k : Kind) (name public system cs : List ℕ) → doctype name public system ≡ k → cs ≡ name
    → chars (codes "Doctype:") ++ cs ≡ kind_text k
unfolding chars
doctype_words k name public system cs is same = ap (λ l. codes "Doctype:" ++ l) same ∙ ap kind_text is

pub text_words : (k : Kind) (said cs : List ℕ) → text said ≡ k → cs ≡ said
    → chars (codes "Text:") ++ shown cs ≡ kind_text k
unfolding chars
text_words k said cs is same = ap (λ l. codes "Text:" ++ shown l) same ∙ ap kind_text is

pub comment_words : (k : Kind) (said cs : List ℕ) → comment said ≡ k → cs ≡ said
    → chars (codes "Comment:") ++ shown cs ≡ kind_text k
unfolding chars
comment_words k said cs is same = ap (λ l. codes "Comment:" ++ shown l) same ∙ ap kind_text is

pub instruction_words : (k : Kind) (target said cs : List ℕ) → instruction target said ≡ k → cs ≡ target
    → chars (codes "PI:") ++ cs ≡ kind_text k
unfolding chars
instruction_words k target said cs is same = ap (λ l. codes "PI:" ++ l) same ∙ ap kind_text is

-- what is added after others, by another name
pub named : (before after word whole : List ℕ) → word ≡ whole → after ≡ before ++ word → after ≡ before ++ whole
named before after word whole is h = h ∙ ap (λ l. before ++ l) is

pub element_words : (k : Kind) (e : Element) (cs : List ℕ) → element e ≡ k → cs ≡ e.name.local
    → (chars (codes "<") ++ cs) ++ chars (codes ">") ≡ kind_text k
unfolding chars
element_words k e cs is same = ap (λ l. codes "<" ++ l ++ codes ">") same ∙ ap kind_text is
