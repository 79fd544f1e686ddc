use Rattle.std.proofs.Common.{true, false, chars, codes, refl}
use Rattle.std.proofs.lemmas.Bool.{both_ways}
use Rattle.token_grammar.proofs.LexemeLemmas.{dashes, doctype_word, section_mark}
use Rattle.token_states.specs.Spellings.{folded}
use Rattle.token_states.proofs.DeclarationLemmas.{at_mark, begins_comment, begins_doctype, begins_section, is_bogus}
use Rattle.token_states.proofs.DeclarationLemmas.{opens_comment, opens_doctype, opens_section}
use Rattle.token_states.proofs.declarations.declared.Goals as goal

pub returns-in-Whole : goal.returns-in-Whole
returns-in-Whole c =
    let cs = chars c.args.text.now in (
      opens_comment c.args.foreign cs
          (at_mark (folded false) (codes "--") cs _ _ dashes c.compared.ensures c.in-Whole.is),
      λ table last. record { no_greater = refl; no_arrow = refl; no_mark = refl },
    )

pub returns-in-Front : goal.returns-in-Front
returns-in-Front c =
    let cs = chars c.args.text.now in
    begins_comment cs (at_mark (folded false) (codes "--") cs _ _ dashes c.compared.ensures c.in-Front.is)

pub returns-in-Whole-compared : goal.returns-in-Whole-compared
returns-in-Whole-compared c =
    let cs = chars c.args.text.now in (
      opens_doctype c.args.foreign cs
          (at_mark (folded true) (codes "doctype") cs _ _ doctype_word c.compared-2.ensures c.in-Whole-compared.is),
      λ table last. refl,
    )

pub returns-in-Front-compared : goal.returns-in-Front-compared
returns-in-Front-compared c =
    let cs = chars c.args.text.now in
    begins_doctype cs
    (at_mark (folded true) (codes "doctype") cs _ _ doctype_word c.compared-2.ensures c.in-Front-compared.is)

pub returns-then-not-foreign : goal.returns-then-not-foreign
returns-then-not-foreign c =
    let cs = chars c.args.text.now in
    is_bogus c.args.foreign cs
    (at_mark (folded false) (codes "--") cs _ _ dashes c.compared.ensures c.in-Apart.is)
    (at_mark (folded true) (codes "doctype") cs _ _ doctype_word c.compared-2.ensures c.in-Apart-compared.is)
    (λ f. absurd (both_ways c.args.foreign c.if-not-foreign.true f))

pub returns-in-Whole-compared-2 : goal.returns-in-Whole-compared-2
returns-in-Whole-compared-2 c =
    let cs = chars c.args.text.now in (
      opens_section c.args.foreign cs c.if-not-foreign.false
          (at_mark (folded false) (codes "[CDATA[") cs _ _ section_mark c.compared-3.ensures c.in-Whole-compared-2.is),
      λ table last. refl,
    )

pub returns-in-Front-compared-2 : goal.returns-in-Front-compared-2
returns-in-Front-compared-2 c =
    let cs = chars c.args.text.now in
    begins_section cs
    (at_mark (folded false) (codes "[CDATA[") cs _ _ section_mark c.compared-3.ensures c.in-Front-compared-2.is)

pub returns-in-Apart-compared-2 : goal.returns-in-Apart-compared-2
returns-in-Apart-compared-2 c =
    let cs = chars c.args.text.now in
    is_bogus c.args.foreign cs
    (at_mark (folded false) (codes "--") cs _ _ dashes c.compared.ensures c.in-Apart.is)
    (at_mark (folded true) (codes "doctype") cs _ _ doctype_word c.compared-2.ensures c.in-Apart-compared.is)
    (λ f. at_mark (folded false) (codes "[CDATA[") cs _ _ section_mark c.compared-3.ensures c.in-Apart-compared-2.is)
