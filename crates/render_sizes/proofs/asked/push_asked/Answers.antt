use Rattle.std.proofs.Common.{◌≡◌, ◌+◌, ◌++◌, [], ◌∷◌, ap, arith, length, subst, suc, sym, take, ◌∙◌}
use Rattle.render_values.specs.Arena.{IsFlat, values_of}
use Rattle.render_values.proofs.ArenaLemmas.{below_fits, flat_rest, next_flat}
use Rattle.render_sizes.specs.Asked.{asked_extents}
use Rattle.render_sizes.specs.Extents.{measure_of}
use Rattle.render_sizes.proofs.AskedLemmas.{entered, measured_whole, own_flat, passed}
use Rattle.render_sizes.proofs.ExtentLemmas.{inner_flat}
use Rattle.render_sizes.proofs.asked.push_asked.Goals as goal

pub first_nodes-inside-requires : goal.first_nodes-inside-requires
first_nodes-inside-requires g c =
    below_fits c.in-Some.first.now c.in-Some.others.now (subst IsFlat c.in-Some.ensures.cases.0 c.requires.flat)

pub push_extents-requires : goal.push_extents-requires
push_extents-requires g c =
    subst IsFlat (sym c.first_nodes-inside.ensures)
    (inner_flat c.in-Some.first.now c.in-Some.others.now (subst IsFlat c.in-Some.ensures.cases.0 c.requires.flat))

pub nodes_after-requires : goal.nodes_after-requires
nodes_after-requires g c =
    below_fits c.in-Some.first.now c.in-Some.others.now (subst IsFlat c.in-Some.ensures.cases.0 c.requires.flat)

pub one_more-requires : goal.one_more-requires
one_more-requires g c = omega (
  arith,
  below_fits c.in-Some.first.now c.in-Some.others.now (subst IsFlat c.in-Some.ensures.cases.0 c.requires.flat),
  ap length c.in-Some.ensures.cases.0,
)

pub first_nodes-value-requires : goal.first_nodes-value-requires
first_nodes-value-requires g c = omega (
  arith,
  below_fits c.in-Some.first.now c.in-Some.others.now (subst IsFlat c.in-Some.ensures.cases.0 c.requires.flat),
  ap length c.in-Some.ensures.cases.0,
  c.one_more.ensures,
)

pub push_extents-requires-in-Itself : goal.push_extents-requires-in-Itself
push_extents-requires-in-Itself g c =
    let next : c.in-Some.first.now.below + 1 ≡ suc c.in-Some.first.now.below = omega arith in
    own_flat c.in-Some.first.now c.in-Some.others.now c.first_nodes-value.result.now
    (subst IsFlat c.in-Some.ensures.cases.0 c.requires.flat)
    (c.first_nodes-value.ensures ∙ (ap (λ n. take n c.args.nodes.now) (c.one_more.ensures ∙ next)
    ∙ ap (take (suc c.in-Some.first.now.below)) c.in-Some.ensures.cases.0))

pub nodes_after-requires-in-Itself : goal.nodes_after-requires-in-Itself
nodes_after-requires-in-Itself g c =
    below_fits c.in-Some.first.now c.in-Some.others.now (subst IsFlat c.in-Some.ensures.cases.0 c.requires.flat)

pub returns-in_ok-push-in-Nothing-clause-asked : goal.returns-in_ok-push-in-Nothing-clause-asked
returns-in_ok-push-in-Nothing-clause-asked g c =
    let m = measure_of c.args.min_wrap (g.P.Prefixes.columns c.args.prefixes.now) in
    passed m c.in-Some.first.now c.in-Some.others.now c.args.all.now.items c.push.new.self.items
    (subst IsFlat c.in-Some.ensures.cases.0 c.requires.flat) (sym c.asked_of.ensures ∙ c.in-Nothing.is)
    (c.in_ok-push-in-Nothing.ensures.items ∙ ap (λ e. c.args.all.now.items ++ e ∷ []) c.nothing_wide.ensures)
    ∙ ap (λ l. c.args.all.now.items ++ asked_extents m (values_of l)) (sym c.in-Some.ensures.cases.0)

pub returns-in_ok-push-in-Nothing-clause-flat : goal.returns-in_ok-push-in-Nothing-clause-flat
returns-in_ok-push-in-Nothing-clause-flat g c =
    flat_rest c.in-Some.first.now c.in-Some.others.now (subst IsFlat c.in-Some.ensures.cases.0 c.requires.flat)

pub returns-in_ok-push_extents-in-Inside-clause-asked : goal.returns-in_ok-push_extents-in-Inside-clause-asked
returns-in_ok-push_extents-in-Inside-clause-asked g c =
    let m = measure_of c.args.min_wrap (g.P.Prefixes.columns c.args.prefixes.now) in
    entered m c.in-Some.first.now c.in-Some.others.now c.first_nodes-inside.result.now c.nodes_after.result.now
    c.args.all.now.items c.push-in-Inside.new.self.items c.push_extents.new.all.items
    (subst IsFlat c.in-Some.ensures.cases.0 c.requires.flat) (sym c.asked_of.ensures ∙ c.in-Inside.is)
    (c.in_ok-push-in-Inside.ensures.items
    ∙ ap (λ e. c.args.all.now.items ++ e ∷ []) c.nothing_wide-in-Inside.ensures)
    c.first_nodes-inside.ensures c.in_ok-push_extents-in-Inside.ensures c.nodes_after.ensures
    ∙ ap (λ l. c.args.all.now.items ++ asked_extents m (values_of l)) (sym c.in-Some.ensures.cases.0)

pub returns-in_ok-push_extents-in-Inside-clause-flat : goal.returns-in_ok-push_extents-in-Inside-clause-flat
returns-in_ok-push_extents-in-Inside-clause-flat g c =
    subst IsFlat (sym c.nodes_after.ensures)
    (next_flat c.in-Some.first.now c.in-Some.others.now (subst IsFlat c.in-Some.ensures.cases.0 c.requires.flat))

pub returns-in_ok-push_extents-in-Itself-clause-asked : goal.returns-in_ok-push_extents-in-Itself-clause-asked
returns-in_ok-push_extents-in-Itself-clause-asked g c =
    let m = measure_of c.args.min_wrap (g.P.Prefixes.columns c.args.prefixes.now) in
    let next : c.in-Some.first.now.below + 1 ≡ suc c.in-Some.first.now.below = omega arith in
    measured_whole m c.in-Some.first.now c.in-Some.others.now c.first_nodes-value.result.now
    c.nodes_after-in-Itself.result.now c.args.all.now.items c.push_extents-in-Itself.new.all.items
    (subst IsFlat c.in-Some.ensures.cases.0 c.requires.flat) (sym c.asked_of.ensures ∙ c.in-Itself.is)
    (c.first_nodes-value.ensures ∙ (ap (λ n. take n c.args.nodes.now) (c.one_more.ensures ∙ next)
    ∙ ap (take (suc c.in-Some.first.now.below)) c.in-Some.ensures.cases.0))
    c.in_ok-push_extents-in-Itself.ensures c.nodes_after-in-Itself.ensures
    ∙ ap (λ l. c.args.all.now.items ++ asked_extents m (values_of l)) (sym c.in-Some.ensures.cases.0)

pub returns-in_ok-push_extents-in-Itself-clause-flat : goal.returns-in_ok-push_extents-in-Itself-clause-flat
returns-in_ok-push_extents-in-Itself-clause-flat g c =
    subst IsFlat (sym c.nodes_after-in-Itself.ensures)
    (next_flat c.in-Some.first.now c.in-Some.others.now (subst IsFlat c.in-Some.ensures.cases.0 c.requires.flat))
