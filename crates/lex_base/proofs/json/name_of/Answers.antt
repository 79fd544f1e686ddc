use Rattle.std.proofs.Common.{◌++◌, chars, option_map, ap, ◌∙◌, sym, encode_utf8}
use Rattle.lex_base.proofs.JsonLemmas.{no_name, name_after}
use Rattle.lex_base.proofs.json.name_of.Goals as goal

pub returns-in_err-name-clause-name : goal.returns-in_err-name-clause-name
returns-in_err-name-clause-name c =
    ap (option_map (λ name. chars name.now)) c.from_residual.ensures ∙
    no_name c.args.key.now c.utf8.key c.in_err-name.ensures.cases

pub returns-then-is_name-clause-name : goal.returns-then-is_name-clause-name
returns-then-is_name-clause-name c =
    let stripped = c.in_ok-name.ensures.cases in
    name_after c.args.key.now c.in_ok-name.name.now _ c.utf8.key
    (stripped.1.split ∙ ap (λ rest. encode_utf8 38 ++ rest) (sym stripped.2)) (c.if-is_name.ensures)

pub returns-else-is_name-clause-name : goal.returns-else-is_name-clause-name
returns-else-is_name-clause-name c =
    let stripped = c.in_ok-name.ensures.cases in
    name_after c.args.key.now c.in_ok-name.name.now _ c.utf8.key
    (stripped.1.split ∙ ap (λ rest. encode_utf8 38 ++ rest) (sym stripped.2)) (c.if-is_name.ensures)
