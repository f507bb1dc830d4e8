use Rattle.std.proofs.Common.{ℕ, ◌≤◌, sym, subst, arith}
use Rattle.once_random.specs.Tuples.{bound_of}
use Rattle.probe_family.specs.Roots as root
use Rattle.cert_check.proofs.Proving.{Laws, proved}
use Rattle.cert_check.proofs.laws.certified_is_proved.Goals as goal

pub returns : goal.returns
returns c x model order bytes entries tuple few is t =
    let laws : Laws = record {
      outside = c.each_tuple_in_hull_or_one_child.ensures.outside;
      no_other = c.each_tuple_in_hull_or_one_child.ensures.no_other;
      families = c.children_are_families.ensures.families;
      bounds = c.children_are_families.ensures.bound;
      provable = c.subset_keeps_chain.ensures.provable;
      among = c.tuples_have_roots.ensures.among;
    } in
    proved laws x tuple (bound_of x tuple) entries (root.roots_of x order) (c.roots_are_families.ensures x order few) (c.each_tuple_in_one_root.ensures.bound x order tuple)
    (subst (λ (n : ℕ). 1 ≤ n) (sym (c.each_tuple_in_one_root.ensures.one x order tuple t)) (omega arith)) is.closes
