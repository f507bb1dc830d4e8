use Rattle.std.proofs.Common.{◌≡◌, ◌∙◌, ◌<◌, List, ℕ, All, true, length, sym, ap, subst}
use Rattle.bit_rows.proofs.Facts.{length-set_of}
use Rattle.expr_table.specs.Table.{has}
use Rattle.probe_family.specs.Least.{least_of}
use Rattle.extend_set.specs.Hull.{is_provable_set, set_with}
use Rattle.extend_set.proofs.Growing.{grown_none, grown_length}
use Rattle.extend_set.proofs.Hulls.{least_below, set_is_tuple, provable_kept, hull_none, begun, grown_hull}
use Rattle.extend_set.proofs.extend.hull.Goals as goal

pub reset_run-requires-clause-kept : goal.reset_run-requires-clause-kept
reset_run-requires-clause-kept c =
    let n = length c.args.instance.now.probes in
    let least : c.as_slice-tuple.result.now ≡ least_of c.args.family.now = c.as_slice-tuple.ensures.value ∙ c.least-least.ensures in
    subst (λ (ns : List ℕ). All (λ p. p < length c.args.out.now) ns) (sym least)
    (subst (λ n. All (λ p. p < n) (least_of c.args.family.now)) (sym c.requires.one_flag_each) (least_below n c.args.family.now c.requires.family))

pub is_met-requires : goal.is_met-requires
is_met-requires c =
    let least : c.as_slice-tuple.result.now ≡ least_of c.args.family.now = c.as_slice-tuple.ensures.value ∙ c.least-least.ensures in
    let is = begun c.args.instance.now c.args.family.now c.as_slice-tuple.result.now least c.args.out.now c.reset_run.new.set c.len.result c.len.ensures c.requires.one_flag_each c.reset_run.ensures in
    (c.requires.fitting, c.requires.made_for, ap length is ∙ length-set_of (length c.args.instance.now.probes) (has (least_of c.args.family.now)))

-- the least tuple is not provable
pub returns-then-not-is_met-clause-none : goal.returns-then-not-is_met-clause-none
returns-then-not-is_met-clause-none c =
    let x = c.args.instance.now in
    let n = length c.args.instance.now.probes in
    let least : c.as_slice-tuple.result.now ≡ least_of c.args.family.now = c.as_slice-tuple.ensures.value ∙ c.least-least.ensures in
    let is = begun x c.args.family.now c.as_slice-tuple.result.now least c.args.out.now c.reset_run.new.set c.len.result c.len.ensures c.requires.one_flag_each c.reset_run.ensures in
    hull_none x c.args.family.now
    (sym (set_is_tuple x c.args.family.now.bound n (least_of c.args.family.now) (least_below n c.args.family.now c.requires.family))
    ∙ (ap (is_provable_set x c.args.family.now.bound) (sym is)
    ∙ (sym c.is_met.ensures.met ∙ c.if-not-is_met.true)))

pub returns-then-not-is_met-clause-least : goal.returns-then-not-is_met-clause-least
returns-then-not-is_met-clause-least c =
    let least : c.as_slice-tuple.result.now ≡ least_of c.args.family.now = c.as_slice-tuple.ensures.value ∙ c.least-least.ensures in
    begun c.args.instance.now c.args.family.now c.as_slice-tuple.result.now least c.args.out.now c.reset_run.new.set c.len.result c.len.ensures c.requires.one_flag_each c.reset_run.ensures

pub grow-requires-clause-serves : goal.grow-requires-clause-serves
grow-requires-clause-serves c =
    let least : c.as_slice-tuple.result.now ≡ least_of c.args.family.now = c.as_slice-tuple.ensures.value ∙ c.least-least.ensures in
    let is = begun c.args.instance.now c.args.family.now c.as_slice-tuple.result.now least c.args.out.now c.reset_run.new.set c.len.result c.len.ensures c.requires.one_flag_each c.reset_run.ensures in
    (c.requires.fitting, c.is_met.ensures.stays ∙ c.requires.made_for, ap length is ∙ length-set_of (length c.args.instance.now.probes) (has (least_of c.args.family.now)))

pub grow-requires-clause-grown : goal.grow-requires-clause-grown
grow-requires-clause-grown c =
    let x = c.args.instance.now in
    let n = length c.args.instance.now.probes in
    let fits = is_provable_set c.args.instance.now c.args.family.now.bound in
    let least : c.as_slice-tuple.result.now ≡ least_of c.args.family.now = c.as_slice-tuple.ensures.value ∙ c.least-least.ensures in
    let is = begun x c.args.family.now c.as_slice-tuple.result.now least c.args.out.now c.reset_run.new.set c.len.result c.len.ensures c.requires.one_flag_each c.reset_run.ensures in
    let long : length c.reset_run.new.set ≡ length c.args.instance.now.probes = ap length is ∙ length-set_of (length c.args.instance.now.probes) (has (least_of c.args.family.now)) in
    let begins : is_provable_set c.args.instance.now c.args.family.now.bound c.reset_run.new.set ≡ true = sym c.is_met.ensures.met ∙ c.if-not-is_met.false in
    let alike : c.reset_run.new.set ≡ set_with (length c.reset_run.new.set) c.as_slice-tuple.result.now = is ∙ (λ i. set_with (sym long i) (sym least i)) in
    grown_none fits (length c.reset_run.new.set) c.as_slice.result.now c.as_slice-tuple.result.now
    (provable_kept x c.args.family.now.bound c.rows-rows.ensures.table c.requires.fitting)
    (ap fits (sym alike) ∙ begins)
    (subst (λ (ns : List ℕ). All (λ p. p < length c.reset_run.new.set) ns) (sym least)
    (subst (λ n. All (λ p. p < n) (least_of c.args.family.now)) (sym long) (least_below n c.args.family.now c.requires.family)))
    c.reset_run.new.set alike

pub returns-clause-hull : goal.returns-clause-hull
returns-clause-hull c =
    let x = c.args.instance.now in
    let n = length c.args.instance.now.probes in
    let least : c.as_slice-tuple.result.now ≡ least_of c.args.family.now = c.as_slice-tuple.ensures.value ∙ c.least-least.ensures in
    let is = begun x c.args.family.now c.as_slice-tuple.result.now least c.args.out.now c.reset_run.new.set c.len.result c.len.ensures c.requires.one_flag_each c.reset_run.ensures in
    let long : length c.reset_run.new.set ≡ length c.args.instance.now.probes = ap length is ∙ length-set_of (length c.args.instance.now.probes) (has (least_of c.args.family.now)) in
    grown_hull x c.args.family.now c.as_slice-tuple.result.now least (length c.reset_run.new.set) c.as_slice.result.now c.grow.new.set long c.as_slice.ensures c.grow.ensures.grown
    (sym (set_is_tuple x c.args.family.now.bound n (least_of c.args.family.now) (least_below n c.args.family.now c.requires.family))
    ∙ (ap (is_provable_set x c.args.family.now.bound) (sym is)
    ∙ (sym c.is_met.ensures.met ∙ c.if-not-is_met.false)))

pub returns-then-not-is_met-clause-one_flag_each : goal.returns-then-not-is_met-clause-one_flag_each
returns-then-not-is_met-clause-one_flag_each c =
    let least : c.as_slice-tuple.result.now ≡ least_of c.args.family.now = c.as_slice-tuple.ensures.value ∙ c.least-least.ensures in
    let is = begun c.args.instance.now c.args.family.now c.as_slice-tuple.result.now least c.args.out.now c.reset_run.new.set c.len.result c.len.ensures c.requires.one_flag_each c.reset_run.ensures in
    ap length is ∙ (length-set_of (length c.args.instance.now.probes) (has (least_of c.args.family.now)) ∙ sym c.requires.one_flag_each)

pub returns-clause-one_flag_each : goal.returns-clause-one_flag_each
returns-clause-one_flag_each c =
    let least : c.as_slice-tuple.result.now ≡ least_of c.args.family.now = c.as_slice-tuple.ensures.value ∙ c.least-least.ensures in
    let is = begun c.args.instance.now c.args.family.now c.as_slice-tuple.result.now least c.args.out.now c.reset_run.new.set c.len.result c.len.ensures c.requires.one_flag_each c.reset_run.ensures in
    let long : length c.reset_run.new.set ≡ length c.args.instance.now.probes = ap length is ∙ length-set_of (length c.args.instance.now.probes) (has (least_of c.args.family.now)) in
    grown_length (is_provable_set c.args.instance.now c.args.family.now.bound) (length c.reset_run.new.set) c.as_slice.result.now c.as_slice-tuple.result.now (length c.reset_run.new.set) c.grow.new.set c.grow.ensures.grown
    ∙ (long ∙ sym c.requires.one_flag_each)
