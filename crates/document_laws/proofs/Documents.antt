-- Whole documents rebuild.
use Rattle.std.proofs.Common.{◌≡◌, ◌<◌, false, List, [], ◌∷◌, codes, fold, refl, ap, ◌∙◌, arith, Some, Option, None, ℕ}
use Rattle.tree_forest.specs.Forest.{Forest, nodes, page_alone}
use Rattle.token_grammar.specs.Items.{Item, end_of_file}
use Rattle.page_tree_laws.specs.KeptText.{IsAtBeginning}
use Rattle.rules_table.specs.Settling.{step}
use Rattle.rules_table.specs.State.{State}
use Rattle.tree_predicates.specs.declared.modes.InsertionMode.TheVariants as modes
use Rattle.document_laws.specs.Contents.{Content, IsBlocks, end_of, start_of, tokens_and}
use Rattle.document_laws.specs.Planted.{planted, with_new}
use Rattle.document_laws.specs.Rebuilt.{DocumentsRebuild, document_tokens, document_tree, head_alone, title_tokens}
use Rattle.document_laws.specs.Rebuilt.{with_title}
use Rattle.document_laws.proofs.BlockNames.{outer, outer_body, outer_html}
use Rattle.document_laws.proofs.BlockSteps.{AreOuter}
use Rattle.document_laws.proofs.Blocks.{blocks_come}
use Rattle.document_laws.proofs.Pages.{beginning_reaches, body_step, head_end_step, page_at, page_ends, title_keeps}
use Rattle.document_laws.proofs.Pages.{title_reaches}
use Rattle.document_laws.proofs.Planting.{Keeps, element_kind, grown_keeps, last_held, name_kept, new_name}
use Rattle.document_laws.proofs.Planting.{planted_keeps, size_grown, still_held}
use Rattle.document_laws.proofs.Standing.{now, runs, runs_on}
use Rattle.document_laws.proofs.WholeStates.{folds}
use Rattle.std.proofs.lemmas.Option.{none-some, same_Some}
use Rattle.std.specs.Option.{option_map}

in_body : (f : Forest) → Keeps head_alone f → AreOuter (with_new 2 (codes "body") [] f) (nodes f ∷ 2 ∷ [])
in_body f keeps =
    let g = with_new 2 (codes "body") [] f in
    let kind = element_kind (codes "body") [] in
    let more = grown_keeps 2 kind f in
    let root_held : 2 < nodes f = still_held 2 (nodes head_alone) (nodes f) (omega arith) keeps.size in (
      outer (nodes f) g (codes "body") outer_body (new_name 2 (codes "body") [] f)
          (last_held (nodes f) (nodes g) (size_grown 2 kind f)),
      (
        outer 2 g (codes "html") outer_html
            (name_kept f g more 2 root_held ∙ name_kept head_alone f keeps 2 (omega arith))
            (still_held 2 (nodes f) (nodes g) root_held more.size),
        tt,
      ),
    )

body_rebuilds : (s : State) (content : Content) (f : Forest) → IsBlocks false content → Keeps head_alone f →
    option_map (λ (z : State). z.tree.forest) (runs (now s false (nodes f ∷ 2 ∷ []) [] (with_new 2 (codes "body") [] f))
    (tokens_and content (end_of (codes "body") ∷ end_of (codes "html") ∷ end_of_file ∷ [])))
    ≡ Some (planted (nodes f) content (with_new 2 (codes "body") [] f))
body_rebuilds s content f is keeps =
    let n = nodes f in
    let g = with_new 2 (codes "body") [] f in
    let h = planted n content g in
    let kind = element_kind (codes "body") [] in
    let comes = blocks_come false content is s false n (2 ∷ []) g
    (end_of (codes "body") ∷ end_of (codes "html") ∷ end_of_file ∷ []) (in_body f keeps) tt in
    ap (option_map (λ (z : State). z.tree.forest)) comes.come
    ∙ page_ends s comes.flag n (2 ∷ []) h
    (name_kept g h (planted_keeps content n g) n (last_held n (nodes g) (size_grown 2 kind f))
    ∙ new_name 2 (codes "body") [] f)

pub documents_run : (s : State) (title : Option (List ℕ)) (content : Content) → IsAtBeginning s →
    s.tree.forest ≡ page_alone → s.options.drop_doctype ≡ false → IsBlocks false content →
    option_map (λ (z : State). z.tree.forest) (runs s (document_tokens title content))
    ≡ Some (document_tree title content)
documents_run s title content is alone keeps_doctype blocks =
    let more = tokens_and content (end_of (codes "body") ∷ end_of (codes "html") ∷ end_of_file ∷ []) in
    let after_title = end_of (codes "head") ∷ start_of (codes "body") [] ∷ more in
    let f = with_title title head_alone in
    let keeps = title_keeps title in
    let first = beginning_reaches s (title_tokens title after_title) is alone keeps_doctype in
    let second = title_reaches first.at title after_title in
    let z = second.at in
    ap (option_map (λ (z : State). z.tree.forest))
    (first.come
    ∙ second.come
    ∙ runs_on (page_at z modes.InHead (3 ∷ 2 ∷ []) f) (page_at z modes.AfterHead (2 ∷ []) f) (end_of (codes "head"))
    (start_of (codes "body") [] ∷ more)
    (head_end_step z f (name_kept head_alone f keeps 3 (omega arith)))
    ∙ runs_on (page_at z modes.AfterHead (2 ∷ []) f)
    (now z false (nodes f ∷ 2 ∷ []) [] (with_new 2 (codes "body") [] f))
    (start_of (codes "body") []) more
    (body_step z f (name_kept head_alone f keeps 2 (omega arith))))
    ∙ body_rebuilds z content f blocks keeps

forest_of : (s : State) (items : List Item) (r : Option State) (g : Forest) → runs s items ≡ r →
    option_map (λ (z : State). z.tree.forest) r ≡ Some g → (fold step s items).tree.forest ≡ g
forest_of s items None g e h = absurd (none-some g h)
forest_of s items (Some z) g e h = ap (λ (z : State). z.tree.forest) (folds s items z e) ∙ same_Some z.tree.forest g h

pub documents_come : DocumentsRebuild
documents_come s title content is alone keeps_doctype blocks =
    forest_of s (document_tokens title content) (runs s (document_tokens title content)) (document_tree title content)
    refl
    (documents_run s title content is alone keeps_doctype blocks)
